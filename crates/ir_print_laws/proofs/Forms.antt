-- A module whose parts fit is written as a text of the grammar.
use Rattle.std.proofs.Common.{◌≡◌, ℕ, ◌+◌, ◌*◌, ◌/◌, ◌%◌, ◌<◌, ◌≤◌, Bool, true, false, List, [], ◌∷◌, ◌++◌, Some, None, map, length, refl, sym, ◌∙◌, ap, subst, arith, append-nil, length-append}
use Rattle.std.specs.Prelude.{◌&&◌, ◌||◌, nat_eq, sum_by, slice_get, codes, decimal, if◌then◌else◌}
use Rattle.std.specs.List.{starts_with, list_all, flat_map}
use Rattle.std.proofs.lemmas.List.Sums.{sum_by-cons}
use Rattle.ir_text.specs.Form.{most_turns}
use Rattle.ir_core.specs.declared.types.Ty.{Ty}
use Rattle.ir_core.specs.declared.types.Ty.TheVariants as values
use Rattle.ir_core.specs.declared.types.MemTy.{MemTy, Int, Ptr, out-MemTy, roll-MemTy, roll-out-MemTy}
use Rattle.ir_core.specs.declared.types.MemTy.TheVariants.{Array, Struct, rolls-Int, rolls-Ptr, rolls-Array, rolls-Struct}
use Rattle.ir_core.specs.declared.types.MemTy.TheOpen as layer
use Rattle.ir_core.specs.declared.code.Op.{Op}
use Rattle.ir_core.specs.declared.code.Op.TheVariants as ops
use Rattle.ir_core.specs.declared.code.Inst.{Inst}
use Rattle.ir_core.specs.declared.code.Block.{Block}
use Rattle.ir_core.specs.declared.program.Init.{Init, roll-Init}
use Rattle.ir_core.specs.declared.program.Init.TheFolds.{ind-Init, map-Init}
use Rattle.ir_core.specs.declared.program.Init.TheVariants as inits
use Rattle.ir_core.specs.declared.program.Init.TheOpen as init
use Rattle.ir_core.specs.declared.program.Global.{Global}
use Rattle.ir_core.specs.declared.program.Function.{Function}
use Rattle.ir_core.specs.declared.program.Module.{Module}
use Rattle.ir_core.specs.Units.{is_result, parts_in}
use Rattle.ir_core.specs.Layout.{is_memory_width}
use Rattle.ir_instruction_trees.specs.Instructions.{is_dropped_name}
use Rattle.ir_core.specs.Units.{results, has_result}
use Rattle.ir_core.specs.declared.code.Operand.{Operand}
use Rattle.ir_print_names.specs.Names.{is_bare, is_numeral, is_plain, hexadecimal_digit, quoted_byte, name_text}
use Rattle.ir_print.specs.Types.{comma, listed, ty_text, opening_of, ending_of, memory_text}
use Rattle.ir_print.specs.Values.{list_text, init_text}
use Rattle.ir_print.specs.Instructions.{function_of, incoming_text, result_text, op_text, inst_text}
use Rattle.ir_print.specs.Modules.{next_value, insts_text, blocks_text, params_text, function_lines, global_line, module_text}
use Rattle.ir_print.proofs.Layers.{memory_int, memory_ptr, memory_array, memory_struct, out_array, out_struct, init_list}
use Rattle.ir_print_laws.proofs.Joined.{◌▸◌, nest4}
use Rattle.ir_print_laws.proofs.MemoryBack.{comma_later}
use Rattle.ir_print_laws.specs.Written.{value_count}
use Rattle.ir_print_laws.proofs.InitsBack.{Kind, array_kind, struct_kind, packed_kind, kind_of, item_texts, counts, counts_more, list_at, array_shown, struct_shown, count_num, count_null, count_zero, count_place, count_bytes, count_list}
use Rattle.ir_print_laws.specs.FormTrees.{written_of}
use Rattle.ir_print_laws.specs.Instructions.{HasValues}
use Rattle.ir_print_laws.specs.Inits.{repeated}
use Rattle.ir_print_laws.specs.Written.{Each, IsWrittenOperation, IsResultKind, IsWrittenInstruction, IsWrittenBlock, IsWrittenFunction, IsWrittenInit, number_written, null_written, zero_written, place_written, text_written, array_written, struct_written, AreWrittenInits, none_written, next_written, IsWrittenGlobal, IsWritten}
use Rattle.ir_print_laws.specs.Fits.{Counts, IsNoVoid, FitsOperation, HasForm, FitsInstruction, FitsBlocks, parts_and_one, block_parts, counts_of, FitsFunction, fits_memory, fits_number, fit_each, fit_items, init_fits, FitsMemory, FitsGlobal, FitsModule}
use Rattle.ir_print_laws.proofs.Memory.{both_true, fits_int}
use Rattle.ir_print_laws.proofs.Same.{AllFit, element_fits, fields_fit}
use Rattle.ir_print_laws.proofs.Inits.{fits_by}

-- ---- names

-- a name that doesn't begin as LLVM's own do begins as none of those whose lines are dropped
longer : (name front rest : List ℕ) → starts_with nat_eq name front ≡ false → starts_with nat_eq name (front ++ rest) ≡ false
longer name [] rest e = absurd cc
longer [] (x ∷ front) rest e = refl
longer (y ∷ name) (x ∷ front) rest e = by (nat_eq x y) (longer name front rest) e
  where
    by : (b : Bool) → (starts_with nat_eq name front ≡ false → starts_with nat_eq name (front ++ rest) ≡ false) → (b && starts_with nat_eq name front) ≡ false → (b && starts_with nat_eq name (front ++ rest)) ≡ false
    by true deeper h = deeper h
    by false deeper h = refl

kept : (name : List ℕ) → starts_with nat_eq name (codes "llvm.") ≡ false → is_dropped_name name ≡ false
kept name e =
    rw (longer name (codes "llvm.") (codes "lifetime.") e, longer name (codes "llvm.") (codes "dbg.") e, longer name (codes "llvm.") (codes "assume") e, longer name (codes "llvm.") (codes "experimental.noalias.scope.decl") e) refl

-- none of these bytes is a backslash
abbrev HasNoEscape : List ℕ → Type 0
HasNoEscape [] = Unit {0}
HasNoEscape (x ∷ xs) = (nat_eq x 92 ≡ false) × HasNoEscape xs

-- what doesn't begin so doesn't in quotes either
quoted_front : (name front : List ℕ) → HasNoEscape front → starts_with nat_eq name front ≡ false → starts_with nat_eq (flat_map quoted_byte name) front ≡ false
quoted_front name [] plain e = absurd cc
quoted_front [] (x ∷ front) plain e = refl
quoted_front (y ∷ name) (x ∷ front) plain e = by (is_plain y) (one (nat_eq x y) (quoted_front name front plain.1) e)
  where
    one : (c : Bool) → (starts_with nat_eq name front ≡ false → starts_with nat_eq (flat_map quoted_byte name) front ≡ false) → (c && starts_with nat_eq name front) ≡ false → (c && starts_with nat_eq (flat_map quoted_byte name) front) ≡ false
    one true deeper h = deeper h
    one false deeper h = refl

    by : (b : Bool) → (nat_eq x y && starts_with nat_eq (flat_map quoted_byte name) front) ≡ false → starts_with nat_eq ((if b then y ∷ [] else 92 ∷ hexadecimal_digit (y / 16) ∷ hexadecimal_digit (y % 16) ∷ []) ++ flat_map quoted_byte name) (x ∷ front) ≡ false
    by true same = same
    by false same = rw plain.0 refl

-- nor as it is written
written_front : (name : List ℕ) → starts_with nat_eq name (codes "llvm.") ≡ false → starts_with nat_eq (written_of name) (codes "llvm.") ≡ false
written_front name e = by (is_bare name || is_numeral name)
  where
    by : (b : Bool) → starts_with nat_eq (if b then name else flat_map quoted_byte name) (codes "llvm.") ≡ false
    by true = e
    by false = quoted_front name (codes "llvm.") (refl, (refl, (refl, (refl, (refl, tt))))) e

-- ---- operations

gives_one : (ty : Ty) → IsNoVoid ty → is_result ty ≡ true
gives_one values.Void some = absurd some
gives_one (values.Int w) some = refl
gives_one values.Ptr some = refl

is_one : (ty other : Ty) → ty ≡ other → is_result other ≡ true → is_result ty ≡ true
is_one ty other e one = ap is_result e ∙ one

is_none : (ty : Ty) → ty ≡ values.Void → is_result ty ≡ false
is_none ty e = ap is_result e

has_values : (ty : Ty) → IsNoVoid ty → HasValues ty
has_values values.Void some = absurd some
has_values (values.Int w) some = tt
has_values values.Ptr some = tt

result_kind : (m : Module) (counts : Counts) (entry : Bool) (ret gives : Ty) (op : Op) → FitsOperation m counts entry ret gives op → HasForm gives op → IsResultKind op (is_result gives)
result_kind m counts entry ret gives (ops.Binary op flags a b) f h = gives_one gives h.0
result_kind m counts entry ret gives (ops.Icmp predicate flags ty a b) f h = is_one gives _ f.0 refl
result_kind m counts entry ret gives (ops.Cast op flags from a) f h = gives_one gives h.0
result_kind m counts entry ret gives (ops.Select c a b) f h = gives_one gives h
result_kind m counts entry ret gives (ops.Freeze a) f h = gives_one gives h
result_kind m counts entry ret gives (ops.Phi []) f h = absurd h
result_kind m counts entry ret gives (ops.Phi (one ∷ others)) f h = gives_one gives h
result_kind m counts entry ret gives (ops.Alloca ty count) f h = is_one gives _ f.0 refl
result_kind m counts entry ret gives (ops.Load a) f h = gives_one gives h
result_kind m counts entry ret gives (ops.Store ty a b) f h = is_none gives f.0
result_kind m counts entry ret gives (ops.Gep ty base all) f h = is_one gives _ f.0 refl
result_kind m counts entry ret gives (ops.Call callee all) f h = tt
result_kind m counts entry ret gives (ops.BuiltIn which all) f h = tt
result_kind m counts entry ret gives (ops.Ret None) f h = is_none gives f
result_kind m counts entry ret gives (ops.Ret (Some a)) f h = is_none gives f.0
result_kind m counts entry ret gives (ops.Br block) f h = is_none gives f.0
result_kind m counts entry ret gives (ops.CondBr c first second) f h = is_none gives f.0
result_kind m counts entry ret gives (ops.Switch ty value otherwise all) f h = is_none gives f.0
result_kind m counts entry ret gives ops.Unreachable f h = is_none gives f

-- each item of a list takes a byte at least
more_listed : {X : Type 0} (text : X → List ℕ) (i : ℕ) (xs : List X) → length xs ≤ length (listed text (i + 1) xs)
unfolding listed
more_listed text i [] = omega arith
more_listed text i (x ∷ xs) =
    let rest = more_listed text (i + 1) xs in
    let a = length-append (comma (i + 1) ++ text x) (listed text (i + 1 + 1) xs) in
    let b = length-append (comma (i + 1)) (text x) in
    let c = ap (λ (t : List ℕ). length t) (comma_later i) in
    omega (arith, rest, a, b, c)

few_incoming : (m : Module) (ret gives : Ty) (one : Operand × ℕ) (others : List (Operand × ℕ)) → length (op_text m ret gives (ops.Phi (one ∷ others))) ≤ 4194304 → length others < most_turns
unfolding listed
few_incoming m ret gives one others long =
    let item = incoming_text m.globals gives one in
    let rest = more_listed (incoming_text m.globals gives) 0 others in
    let a = length-append (codes "phi " ++ ty_text gives ++ codes " ") (item ++ listed (incoming_text m.globals gives) 1 others) in
    let b = length-append item (listed (incoming_text m.globals gives) 1 others) in
    let c = length-append (codes "phi " ++ ty_text gives) (codes " ") in
    omega (arith, long, rest, a, b, c)

operation_written : (m : Module) (counts : Counts) (entry : Bool) (ret gives : Ty) (op : Op) → length (op_text m ret gives op) ≤ 4194304 → parts_in op < most_turns → FitsOperation m counts entry ret gives op → HasForm gives op → IsWrittenOperation m ret op
operation_written m counts entry ret gives (ops.Binary op flags a b) long few f h = h.1
operation_written m counts entry ret gives (ops.Icmp predicate flags ty a b) long few f h = h
operation_written m counts entry ret gives (ops.Cast op flags from a) long few f h = h.1
operation_written m counts entry ret gives (ops.Select c a b) long few f h = tt
operation_written m counts entry ret gives (ops.Freeze a) long few f h = tt
operation_written m counts entry ret gives (ops.Phi []) long few f h = absurd h
operation_written m counts entry ret gives (ops.Phi (one ∷ others)) long few f h = few_incoming m ret gives one others long
operation_written m counts entry ret gives (ops.Alloca ty count) long few f h = f.1.1.0.1.0
operation_written m counts entry ret gives (ops.Load a) long few f h = tt
operation_written m counts entry ret gives (ops.Store ty a b) long few f h = tt
operation_written m counts entry ret gives (ops.Gep ty base all) long few f h = (f.1.0.1.0, (h, few))
operation_written m counts entry ret gives (ops.Call callee all) long few f h = (kept (written_of (function_of (slice_get m.functions callee))) (written_front (function_of (slice_get m.functions callee)) f.1.1.0), few)
operation_written m counts entry ret gives (ops.BuiltIn which all) long few f h = few
operation_written m counts entry ret gives (ops.Ret None) long few f h = tt
operation_written m counts entry ret gives (ops.Ret (Some a)) long few f h = has_values ret f.1.0
operation_written m counts entry ret gives (ops.Br block) long few f h = tt
operation_written m counts entry ret gives (ops.CondBr c first second) long few f h = tt
operation_written m counts entry ret gives (ops.Switch ty value otherwise all) long few f h = few
operation_written m counts entry ret gives ops.Unreachable long few f h = tt

inst_long : (m : Module) (ret : Ty) (value : ℕ) (inst : Inst) → length (op_text m ret inst.gives inst.op) ≤ length (inst_text m ret value inst)
inst_long m ret value inst =
    let front = codes "  " ++ result_text (has_result inst) value in
    let a = length-append (front ++ op_text m ret inst.gives inst.op) (codes "\n") in
    let b = length-append front (op_text m ret inst.gives inst.op) in
    omega (arith, a, b)

insts_written : (m : Module) (counts : Counts) (entry : Bool) (ret : Ty) (value : ℕ) (insts : List Inst) → length (insts_text m ret value insts) ≤ 4194304 → sum_by parts_and_one insts ≤ 16384 → Each (FitsInstruction m counts entry ret) insts → Each (IsWrittenInstruction m ret) insts
unfolding insts_text
insts_written m counts entry ret value [] long few fits = tt
insts_written m counts entry ret value (inst ∷ insts) long few fits =
    let sum = sum_by-cons parts_and_one inst insts in
    let own : parts_in inst.op < most_turns = omega (arith, sum, few) in
    let rest : sum_by parts_and_one insts ≤ 16384 = omega (arith, sum, few) in
    let a = length-append (inst_text m ret value inst) (insts_text m ret (next_value value inst) insts) in
    let b = inst_long m ret value inst in
    let op_long : length (op_text m ret inst.gives inst.op) ≤ 4194304 = omega (arith, long, a, b) in
    let rest_long : length (insts_text m ret (next_value value inst) insts) ≤ 4194304 = omega (arith, long, a) in
    ((result_kind m counts entry ret inst.gives inst.op fits.0.0 fits.0.1, operation_written m counts entry ret inst.gives inst.op op_long own fits.0.0 fits.0.1), insts_written m counts entry ret (next_value value inst) insts rest_long rest fits.1)

few_insts : (insts : List Inst) → length insts ≤ sum_by parts_and_one insts
few_insts [] = omega arith
few_insts (inst ∷ insts) = let sum = sum_by-cons parts_and_one inst insts in let rest = few_insts insts in omega (arith, sum, rest)

-- a block's text begins with a label
block_long : (m : Module) (ret : Ty) (number value : ℕ) (block : Block) (blocks : List Block)
    → 1 + length (insts_text m ret value block.insts) + length (blocks_text m ret (number + 1) (value + results block.insts) blocks) ≤ length (blocks_text m ret number value (block ∷ blocks))
unfolding blocks_text
block_long m ret number value block blocks =
    let front = codes "b" ++ decimal number ++ codes ":\n" in
    let a = length-append (front ++ insts_text m ret value block.insts) (blocks_text m ret (number + 1) (value + results block.insts) blocks) in
    let b = length-append front (insts_text m ret value block.insts) in
    let c = length-append (codes "b" ++ decimal number) (codes ":\n") in
    let d = length-append (codes "b") (decimal number) in
    omega (arith, a, b, c, d)

few_blocks : (m : Module) (ret : Ty) (number value : ℕ) (blocks : List Block) → length blocks ≤ length (blocks_text m ret number value blocks)
few_blocks m ret number value [] = omega arith
few_blocks m ret number value (block ∷ blocks) = let a = block_long m ret number value block blocks in let b = few_blocks m ret (number + 1) (value + results block.insts) blocks in omega (arith, a, b)

blocks_written : (m : Module) (counts : Counts) (entry : Bool) (ret : Ty) (number value : ℕ) (blocks : List Block) → length (blocks_text m ret number value blocks) ≤ 4194304 → block_parts blocks ≤ 16384 → FitsBlocks m counts entry ret blocks → Each (IsWrittenBlock m ret) blocks
blocks_written m counts entry ret number value [] long few fits = tt
blocks_written m counts entry ret number value (block ∷ blocks) long few fits =
    let own : sum_by parts_and_one block.insts ≤ 16384 = omega (arith, few) in
    let rest : block_parts blocks ≤ 16384 = omega (arith, few) in
    let count = few_insts block.insts in
    let a = block_long m ret number value block blocks in
    let own_long : length (insts_text m ret value block.insts) ≤ 4194304 = omega (arith, long, a) in
    let rest_long : length (blocks_text m ret (number + 1) (value + results block.insts) blocks) ≤ 4194304 = omega (arith, long, a) in
    ((insts_written m counts entry ret value block.insts own_long own fits.0, omega (arith, count, own)), blocks_written m counts false ret (number + 1) (value + results block.insts) blocks rest_long rest fits.1)

function_written : (m : Module) (one : Function) → length (function_lines m one) ≤ 4194304 → FitsFunction m one → IsWrittenFunction m one
function_written m one long fits =
    let few = fits.few in
    let text = blocks_text m one.ret 0 (length one.params) one.blocks in
    let head = codes "define " ++ ty_text one.ret ++ codes " @" ++ name_text one.name ++ codes "(" ++ params_text 0 one.params ++ codes ") {\n" in
    let a = length-append (head ++ text) (codes "}\n") in
    let b = length-append head text in
    let inner : length text ≤ 4194304 = omega (arith, long, a, b) in
    let count = few_blocks m one.ret 0 (length one.params) one.blocks in
    (blocks_written m (counts_of m one) true one.ret 0 (length one.params) one.blocks inner fits.units fits.blocks, (omega (arith, count, long, a, b), omega (arith, few)))

-- ---- initial values

abbrev Claim : ℕ → Init → Type 0
Claim globals one = (ty : MemTy) → FitsMemory ty → init_fits globals one ty ≡ true → IsWrittenInit one ty

width_wide : (w : ℕ) → is_memory_width w ≡ true → nat_eq w 1 ≡ false
width_wide w e = grind (arith, e)

int_written : (n : ℕ) (y : layer.MemTy-F MemTy) (ty : MemTy) → roll-MemTy y ≡ ty → FitsMemory ty → fits_number y n ≡ true → IsWrittenInit (inits.Num n) ty
int_written n (layer.Int w) ty e fits number =
    let is : ty ≡ Int w = sym e ∙ rolls-Int w in
    let width : is_memory_width w ≡ true = sym (fits_int w) ∙ ap fits_memory (sym is) ∙ fits.0 in
    subst (λ (t : MemTy). IsWrittenInit (inits.Num n) t) (sym is) (number_written (width_wide w width))
int_written n layer.Ptr ty e fits number = absurd cc
int_written n (layer.Array count element) ty e fits number = absurd cc
int_written n (layer.Struct fields is_packed) ty e fits number = absurd cc

num_claim : (globals n : ℕ) → Claim globals (inits.Num n)
num_claim globals n = λ ty fits e. int_written n (out-MemTy ty) ty (roll-out-MemTy ty) fits (sym (fits_by globals (inits.Num n) (init.Num n) ty (inits.rolls-Num n)) ∙ e)

abbrev Part : ℕ → Type 0
Part globals = (one : Init) × Claim globals one

abbrev inits_of : (globals : ℕ) → List (Part globals) → List Init
inits_of globals parts = map (λ e. e.0) parts

array_written_by : (globals : ℕ) (element : MemTy) (parts : List (Part globals)) → FitsMemory element → list_all (λ (item : MemTy → Bool). item element) (map (init_fits globals) (inits_of globals parts)) ≡ true → AreWrittenInits (inits_of globals parts) (repeated element (inits_of globals parts))
unfolding repeated
array_written_by globals element [] fits e = none_written
array_written_by globals element (part ∷ parts) fits e =
    let b = both_true (init_fits globals part.0 element) (list_all (λ (item : MemTy → Bool). item element) (map (init_fits globals) (inits_of globals parts))) e in
    next_written fits.1.0 (part.1 element fits b.0) (array_written_by globals element parts fits b.1)

fields_written : (globals : ℕ) (fields : List MemTy) (parts : List (Part globals)) → AllFit fields → fit_each (map (init_fits globals) (inits_of globals parts)) fields ≡ true → AreWrittenInits (inits_of globals parts) fields
fields_written globals [] [] fits e = none_written
fields_written globals [] (part ∷ parts) fits e = absurd cc
fields_written globals (field ∷ fields) [] fits e = absurd cc
fields_written globals (field ∷ fields) (part ∷ parts) fits e =
    let b = both_true (init_fits globals part.0 field) (fit_each (map (init_fits globals) (inits_of globals parts)) fields) e in
    next_written fits.0.1.0 (part.1 field fits.0 b.0) (fields_written globals fields parts fits.1 b.1)

list_written : (globals : ℕ) (parts : List (Part globals)) (y : layer.MemTy-F MemTy) (ty : MemTy) → roll-MemTy y ≡ ty → FitsMemory ty → fit_items y (map (init_fits globals) (inits_of globals parts)) ≡ true → IsWrittenInit (inits.List (inits_of globals parts)) ty
list_written globals parts (layer.Int w) ty e fits all = absurd cc
list_written globals parts layer.Ptr ty e fits all = absurd cc
list_written globals parts (layer.Array count element) ty e fits all =
    let is : ty ≡ Array count element = sym e ∙ rolls-Array count element in
    let b = both_true (nat_eq (length (map (init_fits globals) (inits_of globals parts))) count) (list_all (λ (item : MemTy → Bool). item element) (map (init_fits globals) (inits_of globals parts))) all in
    let inner = element_fits count element (subst FitsMemory is fits) in
    subst (λ (t : MemTy). IsWrittenInit (inits.List (inits_of globals parts)) t) (sym is) (array_written element (array_written_by globals element parts inner b.1))
list_written globals parts (layer.Struct fields is_packed) ty e fits all =
    let is : ty ≡ Struct fields is_packed = sym e ∙ rolls-Struct fields is_packed in
    let inner = fields_fit fields is_packed (subst FitsMemory is fits) in
    subst (λ (t : MemTy). IsWrittenInit (inits.List (inits_of globals parts)) t) (sym is) (struct_written (fields_written globals fields parts inner all))

list_claim : (globals : ℕ) (parts : List (Part globals)) → Claim globals (inits.List (inits_of globals parts))
list_claim globals parts = λ ty fits e.
    list_written globals parts (out-MemTy ty) ty (roll-out-MemTy ty) fits (sym (fits_by globals (inits.List (inits_of globals parts)) (init.List (inits_of globals parts)) ty (inits.rolls-List (inits_of globals parts))) ∙ e)

by_layer : (globals : ℕ) (y : init.Init-F (Part globals)) → Claim globals (roll-Init (map-Init (Part globals) Init (λ e. e.0) y))
by_layer globals (init.Num n) = subst (Claim globals) (sym (inits.rolls-Num n)) (num_claim globals n)
by_layer globals init.Null = subst (Claim globals) (sym inits.rolls-Null) (λ ty fits e. null_written)
by_layer globals init.Zero = subst (Claim globals) (sym inits.rolls-Zero) (λ ty fits e. zero_written)
by_layer globals (init.Place k offset) = subst (Claim globals) (sym (inits.rolls-Place k offset)) (λ ty fits e. place_written)
by_layer globals (init.Bytes bytes) = subst (Claim globals) (sym (inits.rolls-Bytes bytes)) (λ ty fits e. text_written)
by_layer globals (init.List parts) = subst (Claim globals) (sym (inits.rolls-List (inits_of globals parts))) (list_claim globals parts)

init_written : (globals : ℕ) (one : Init) → Claim globals one
init_written globals = ind-Init (Claim globals) (λ x y is. subst (λ z. Claim globals (roll-Init z)) is (by_layer globals y))

-- ---- how long the text of an initial value is

opened : (is_packed empty : Bool) (inner : List ℕ) (n : ℕ) → n ≡ length (opening_of is_packed empty ++ inner ++ ending_of is_packed empty) → 1 ≤ n
opened false true inner n e = omega (arith, e)
opened false false inner n e = omega (arith, e)
opened true true inner n e = omega (arith, e)
opened true false inner n e = omega (arith, e)

some_text : (ty : MemTy) → 1 ≤ length (memory_text ty)
some_text ty = at_layer (out-MemTy ty) ty (roll-out-MemTy ty)
  where
    shown : (ty other : MemTy) (text : List ℕ) → ty ≡ other → memory_text other ≡ text → length (memory_text ty) ≡ length text
    shown ty other text e f = ap (λ (t : MemTy). length (memory_text t)) e ∙ ap (λ (t : List ℕ). length t) f

    at_layer : (y : layer.MemTy-F MemTy) (ty : MemTy) → roll-MemTy y ≡ ty → 1 ≤ length (memory_text ty)
    at_layer (layer.Int w) ty e = let n = shown ty (Int w) _ (sym e ∙ rolls-Int w) (memory_int w) in omega (arith, n)
    at_layer layer.Ptr ty e = let n = shown ty Ptr _ (sym e ∙ rolls-Ptr) memory_ptr in omega (arith, n)
    at_layer (layer.Array count element) ty e =
        let n = shown ty (Array count element) _ (sym e ∙ rolls-Array count element) (memory_array count element) in
        let a = length-append (codes "[" ++ decimal count ++ codes " x " ++ memory_text element) (codes "]") in
        omega (arith, n, a)
    at_layer (layer.Struct fields false) ty e =
        let n = shown ty (Struct fields false) _ (sym e ∙ rolls-Struct fields false) (memory_struct fields false) in
        opened false (nat_eq (length fields) 0) (listed memory_text 0 fields) (length (memory_text ty)) n
    at_layer (layer.Struct fields true) ty e =
        let n = shown ty (Struct fields true) _ (sym e ∙ rolls-Struct fields true) (memory_struct fields true) in
        opened true (nat_eq (length fields) 0) (listed memory_text 0 fields) (length (memory_text ty)) n

-- `T V` has two bytes at least for each value in it
abbrev Long : List Global → Init → MemTy → Type 0
Long globals one ty = 2 * value_count one ≤ length (memory_text ty) + 1 + length (init_text globals one ty)

one_long : (globals : List Global) (one : Init) (ty : MemTy) → value_count one ≡ 1 → Long globals one ty
one_long globals one ty e = let a = some_text ty in omega (arith, a, e)

inner_long : (globals : List Global) (item : Init) (items : List Init) (ty : MemTy) (tys : List MemTy) (last : List ℕ)
    → length (memory_text ty ▸ 32 ∷ init_text globals item ty ▸ item_texts globals 1 items tys ▸ last) ≡ length (item_texts globals 0 (item ∷ items) (ty ∷ tys)) + length last
inner_long globals item items ty tys last =
    ap (λ (t : List ℕ). length t) (sym (nest4 (memory_text ty) (codes " ") (init_text globals item ty) (item_texts globals 1 items tys) last)) ∙ length-append (item_texts globals 0 (item ∷ items) (ty ∷ tys)) last

-- brackets stand around the items
around : (globals : List Global) (k : Kind) (items : List Init) (tys : List MemTy) → length (item_texts globals 0 items tys) + 2 ≤ length (list_at globals k items tys [])
around globals array_kind [] tys = omega arith
around globals struct_kind [] tys = omega arith
around globals packed_kind [] tys = omega arith
around globals array_kind (item ∷ items) [] = omega arith
around globals struct_kind (item ∷ items) [] = omega arith
around globals packed_kind (item ∷ items) [] = omega arith
around globals array_kind (item ∷ items) (ty ∷ tys) = let e = inner_long globals item items ty tys (93 ∷ []) in omega (arith, e)
around globals struct_kind (item ∷ items) (ty ∷ tys) = let e = inner_long globals item items ty tys (32 ∷ 125 ∷ []) in omega (arith, e)
around globals packed_kind (item ∷ items) (ty ∷ tys) = let e = inner_long globals item items ty tys (32 ∷ 125 ∷ 62 ∷ []) in omega (arith, e)

mutual
  init_long : (globals : List Global) (one : Init) (ty : MemTy) → IsWrittenInit one ty → Long globals one ty
  init_long globals _ ty (number_written {n = n} {width = w} e) = one_long globals (inits.Num n) (Int w) (count_num n)
  init_long globals _ ty null_written = one_long globals inits.Null ty count_null
  init_long globals _ ty zero_written = one_long globals inits.Zero ty count_zero
  init_long globals _ ty (place_written {k = k} {offset = offset}) = one_long globals (inits.Place k offset) ty (count_place k offset)
  init_long globals _ ty (text_written {bytes = bytes}) = one_long globals (inits.Bytes bytes) ty (count_bytes bytes)
  init_long globals _ _ (array_written {count = count} element {items = items} d) =
      let shown = ap (λ (t : List ℕ). length t) (sym (append-nil (init_text globals (inits.List items) (Array count element))) ∙ ap (λ (t : List ℕ). t ++ []) (init_list globals items (Array count element) ∙ ap (λ (l : layer.MemTy-F MemTy). list_text l (map (init_text globals) items)) (out_array count element)) ∙ array_shown globals count element items []) in
      let a = around globals array_kind items (repeated element items) in
      let b = items_long globals 0 items (repeated element items) d in
      let c = count_list items in
      omega (arith, shown, a, b, c)
  init_long globals _ _ (struct_written {fields = fields} {is_packed = is_packed} {items = items} d) =
      let shown = ap (λ (t : List ℕ). length t) (sym (append-nil (init_text globals (inits.List items) (Struct fields is_packed))) ∙ ap (λ (t : List ℕ). t ++ []) (init_list globals items (Struct fields is_packed) ∙ ap (λ (l : layer.MemTy-F MemTy). list_text l (map (init_text globals) items)) (out_struct fields is_packed)) ∙ struct_shown globals is_packed fields items [] d) in
      let a = around globals (kind_of is_packed) items fields in
      let b = items_long globals 0 items fields d in
      let c = count_list items in
      omega (arith, shown, a, b, c)

  items_long : (globals : List Global) (i : ℕ) (items : List Init) (tys : List MemTy) → AreWrittenInits items tys → 2 * counts items ≤ length (item_texts globals i items tys)
  items_long globals i [] [] none_written = omega arith
  items_long globals i (item ∷ items) (ty ∷ tys) (next_written few one others) =
      let a = init_long globals item ty one in
      let b = items_long globals (i + 1) items tys others in
      let c = counts_more item items in
      let d = length-append (comma i ++ memory_text ty ++ codes " " ++ init_text globals item ty) (item_texts globals (i + 1) items tys) in
      let e = length-append (comma i ++ memory_text ty ++ codes " ") (init_text globals item ty) in
      let f = length-append (comma i ++ memory_text ty) (codes " ") in
      let g = length-append (comma i) (memory_text ty) in
      omega (arith, a, b, c, d, e, f, g)
  items_long globals i [] (ty ∷ tys) x = elim x [ ]
  items_long globals i (item ∷ items) [] x = elim x [ ]

-- ---- the whole

global_written : (m : Module) (one : Global) → length (global_line m.globals one) ≤ 4194304 → FitsGlobal m one → IsWrittenGlobal one
global_written m one long fits =
    let written = init_written (length m.globals) one.init one.ty fits.ty fits.init in
    let a = init_long m.globals one.init one.ty written in
    let front = codes "@" ++ name_text one.name ++ codes " = global " in
    let b = length-append (front ++ memory_text one.ty ++ codes " " ++ init_text m.globals one.init one.ty) (codes "\n") in
    let c = length-append (front ++ memory_text one.ty ++ codes " ") (init_text m.globals one.init one.ty) in
    let d = length-append (front ++ memory_text one.ty) (codes " ") in
    let e = length-append front (memory_text one.ty) in
    (fits.ty.1.0, (written, omega (arith, long, a, b, c, d, e)))

module _ {X : Type 0} (text : X → List ℕ) (P Q : X → Type 0) (f : (x : X) → length (text x) ≤ 4194304 → P x → Q x) where
  each_written : (xs : List X) → length (flat_map text xs) ≤ 4194304 → Each P xs → Each Q xs
  each_written [] long all = tt
  each_written (x ∷ xs) long all = let a = length-append (text x) (flat_map text xs) in (f x (omega (arith, long, a)) all.0, each_written xs (omega (arith, long, a)) all.1)

pub fits_written : (m : Module) → FitsModule m → length (module_text m) ≤ 4194304 → IsWritten m
fits_written m fits long =
    let a = fits.few_globals in
    let b = fits.few_functions in
    let c = length-append (flat_map (global_line m.globals) m.globals) (flat_map (function_lines m) m.functions) in (
      each_written (global_line m.globals) (FitsGlobal m) IsWrittenGlobal (global_written m) m.globals (omega (arith, long, c)) fits.globals,
      (each_written (function_lines m) (FitsFunction m) (IsWrittenFunction m) (function_written m) m.functions (omega (arith, long, c)) fits.functions, omega (arith, a, b)),
    )
