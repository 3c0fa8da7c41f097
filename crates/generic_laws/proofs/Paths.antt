-- In a checked module the indices of an address lead from part to part, and no edge leads to the first block.
use Rattle.std.proofs.Common.{◌≡◌, refl, sym, ap, subst, ◌∙◌, ℕ, zero, suc, ◌+◌, ◌-◌, ◌*◌, ◌%◌, ◌^◌, ◌<◌, ◌≤◌, List, [], ◌∷◌, length, ◌⊎◌, inl, inr, Option, Some, None, Bool, true, false, cond, not, arith}
use Rattle.std.specs.Prelude.{slice_get, sum_by, ℤ, pos, negsuc, ◌-ℤ◌, ◌==◌}
use Rattle.std.proofs.Math.Pow.{pow_mono}
use Rattle.std.proofs.lemmas.Nat.{pow-add}
use Rattle.std.proofs.lemmas.Bool.{cases_lt, and_parts, lt-ltb, le-ltb}
use Rattle.std.proofs.lemmas.Int.{ints}
use Rattle.std.proofs.lemmas.List.Sums.{sum_by-cons}
use Rattle.ir_core.specs.Program.{Program}
use Rattle.ir_core.specs.Units.{instructions}
use Rattle.ir_core.specs.declared.types.Ty.{Ty}
use Rattle.ir_core.specs.declared.types.Ty.TheVariants.{Void, Int, Ptr}
use Rattle.ir_core.specs.declared.types.MemTy.{MemTy, roll-MemTy, out-MemTy, roll-out-MemTy}
use Rattle.ir_core.specs.declared.types.MemTy.TheVariants.{rolls-Array, rolls-Struct, Array, Struct}
use Rattle.ir_core.specs.declared.types.MemTy.TheOpen as layer
use Rattle.ir_core.specs.declared.code.Operand.{Operand}
use Rattle.ir_core.specs.declared.code.Operand.TheVariants.{Value as Local, Num, Null, Place, Poison}
use Rattle.ir_core.specs.declared.code.Op.{Op}
use Rattle.ir_core.specs.declared.code.Op.TheVariants.{Gep}
use Rattle.ir_core.specs.declared.code.Inst.{Inst}
use Rattle.ir_core.specs.declared.code.Block.{Block}
use Rattle.ir_core.specs.declared.program.Function.{Function}
use Rattle.ir_core.specs.declared.program.What.TheVariants.{Nodes}
use Rattle.rj_num.specs.Width.{signed, modulo}
use Rattle.ir_flow.specs.Code.{places, edges, targets, targets_of_last, is_terminator}
use Rattle.ir_flow.specs.Limits.{above, nodes, op_limit, insts_limit, function_limit, functions_limit, globals_limit}
use Rattle.ir_flow.proofs.Stops.{nodes-Struct}
use Rattle.ir_data.proofs.Nodes.{fields-few, field-few, element-few}
use Rattle.ir_meaning.specs.Operators.{width}
use Rattle.ir_meaning.specs.Memory.{index_64}
use Rattle.ir_meaning.specs.Step.{function_at, insts_of, insts_at}
use Rattle.ir_meaning.specs.Typed.{types, IsInteger, IsOperand, IsOp, AreIndices, IsTyped}
use Rattle.ir_verify.specs.Types.{leads_on, leads_into, is_part, is_ptr, all_int, gives_type, all_fit_places, is_typed, mistyped}
use Rattle.ir_verify.specs.Shapes.{ends_once, times}
use Rattle.ir_verify.specs.Verdict.{IsChecked}
use Rattle.ir_verify.proofs.Lists.{Every, every_at, every_left, every_right, none_refused, or_none_left, or_none_right, is_below}
use Rattle.ir_verify.proofs.Usable.{within}
use Rattle.ir_verify.proofs.Rows.{typed as well_typed, no_limit}
use Rattle.generic_code.proofs.Distances.{IsPath, AreNamed, named_in, of_part}

-- ---- an index of a struct

width_bounds : (ty : Ty) → IsInteger ty → (1 ≤ width ty) × (width ty ≤ 64)
width_bounds Void is = absurd is
width_bounds (Int w) is = (is.0, is.1)
width_bounds Ptr is = absurd is

positive : (w n : ℕ) → n < 2 ^ (w - 1) → signed w n ≡ pos n
positive w n h = ap (λ (b : Bool). cond (not b) (pos n -ℤ pos (2 ^ w)) (pos n)) (lt-ltb n (2 ^ (w - 1)) h)

below_zero : (a b : ℕ) → a < b → pos a -ℤ pos b ≡ negsuc (b - a - 1)
below_zero a b h = grind (arith, ints)

negative : (w n : ℕ) → 2 ^ (w - 1) ≤ n → n < 2 ^ w → signed w n ≡ negsuc (2 ^ w - n - 1)
negative w n h k = ap (λ (b : Bool). cond (not b) (pos n -ℤ pos (2 ^ w)) (pos n)) (le-ltb n (2 ^ (w - 1)) h) ∙ below_zero n (2 ^ w) k

-- a number of a width, read with its sign in 64 bits, is itself where that is small
near : (w n : ℕ) → 1 ≤ w → w ≤ 64 → n < 2 ^ w → index_64 w n < 2 ^ 32 → index_64 w n ≡ n
near w n one most lt small = by_half (cases_lt n (2 ^ (w - 1)))
  where
    wide : 2 ^ w ≤ 2 ^ 64
    wide = pow_mono most

    halved : 2 ^ (w - 1) * 2 ≡ 2 ^ w
    halved = sym (pow-add 2 (w - 1) 1) ∙ ap (λ (k : ℕ). 2 ^ k) (let z : w - 1 + 1 ≡ w = omega (arith, one) in z)

    half : 2 ^ (w - 1) ≤ 2 ^ 63
    half = let le : w - 1 ≤ 63 = omega (arith, most, one) in pow_mono le

    by_half : (n < 2 ^ (w - 1)) ⊎ (2 ^ (w - 1) ≤ n) → index_64 w n ≡ n
    by_half (inl h) = ap (λ (z : ℤ). modulo 64 z) (positive w n h) ∙ omega (arith, lt, wide)
    by_half (inr h) =
        let is : index_64 w n ≡ 2 ^ 64 - 1 - (2 ^ w - n - 1) % 2 ^ 64 = ap (λ (z : ℤ). modulo 64 z) (negative w n h lt) in
        absurd (let bad : ⊥ = omega (arith, is, small, h, lt, wide, halved, half) in bad)

-- what leads on in a type of few types goes from part to part
abbrev Leads : List (Ty × Operand) → Type 0
Leads indices = (part : MemTy) → nodes part ≤ 4096 → leads_into indices part ≡ true → AreNamed indices part

struct_named : (tys : List Ty) (indices : List (Ty × Operand)) (fields : List MemTy) (packed : Bool) (ty : Ty) (o : Operand) → sum_by nodes fields ≤ 4096 → IsInteger ty → IsOperand tys ty o → Leads indices
    → leads_on (leads_into indices) (layer.Struct fields packed) o ≡ true → named_in (AreNamed indices) (layer.Struct fields packed) (ty, o)
struct_named tys indices fields packed ty (Local number) few is h rest leads = absurd (let bad : false ≡ true = leads in cc)
struct_named tys indices fields packed ty Null few is h rest leads = absurd (let bad : false ≡ true = leads in cc)
struct_named tys indices fields packed ty (Place global offset) few is h rest leads = absurd (let bad : false ≡ true = leads in cc)
struct_named tys indices fields packed ty Poison few is h rest leads = absurd (let bad : false ≡ true = leads in cc)
struct_named tys indices fields packed ty (Num n) few is h rest leads = (tt, by_named (slice_get fields n) refl)
  where
    by_named : (f : Option MemTy) → slice_get fields n ≡ f → of_part (AreNamed indices) (slice_get fields (index_64 (width ty) n))
    by_named None e = absurd (let none : leads_on (leads_into indices) (layer.Struct fields packed) (Num n) ≡ false = rw e refl in let bad : false ≡ true = sym none ∙ leads in cc)
    by_named (Some field) e = by_found (slice_get fields (index_64 (width ty) n)) refl
      where
        into : leads_into indices field ≡ true
        into = sym (let same : leads_on (leads_into indices) (layer.Struct fields packed) (Num n) ≡ leads_into indices field = rw e refl in same) ∙ leads

        by_found : (f : Option MemTy) → slice_get fields (index_64 (width ty) n) ≡ f → of_part (AreNamed indices) f
        by_found None g = tt
        by_found (Some f) g =
            let below = is_below fields (index_64 (width ty) n) f g in
            let many = fields-few fields in
            let bounds = width_bounds ty is in
            let same : index_64 (width ty) n ≡ n = near (width ty) n bounds.0 bounds.1 h (omega (arith, below, many, few)) in
            let one = field-few fields n field e in
            let found : Some f ≡ Some field = sym g ∙ ap (slice_get fields) same ∙ e in
            let is_field : field ≡ f = cc in
            subst (AreNamed indices) is_field (rest field (omega (arith, one, few)) into)

are_named : (tys : List Ty) (indices : List (Ty × Operand)) → AreIndices tys indices → Leads indices
are_named tys [] typed ty few leads = tt
are_named tys (index ∷ indices) typed ty few leads =
    by_layer (out-MemTy ty) (subst (λ (t : MemTy). nodes t ≤ 4096) (sym (roll-out-MemTy ty)) few) (are_named tys indices typed.2) leads
  where
    by_layer : (l : layer.MemTy-F MemTy) → nodes (roll-MemTy l) ≤ 4096 → Leads indices → leads_on (leads_into indices) l index.1 ≡ true → named_in (AreNamed indices) l index
    by_layer (layer.Int w) few rest leads = tt
    by_layer layer.Ptr few rest leads = tt
    by_layer (layer.Array count element) few rest leads =
        let all : nodes (Array count element) ≤ 4096 = subst (λ (t : MemTy). nodes t ≤ 4096) (rolls-Array count element) few in
        let part = element-few count element in
        rest element (omega (arith, all, part)) leads
    by_layer (layer.Struct fields packed) few rest leads =
        let all : nodes (Struct fields packed) ≤ 4096 = subst (λ (t : MemTy). nodes t ≤ 4096) (rolls-Struct fields packed) few in
        let sum = nodes-Struct fields packed in
        struct_named tys indices fields packed index.0 index.1 (omega (arith, all, sum)) typed.0 typed.1 rest leads

is_path : (tys : List Ty) (ty : MemTy) (indices : List (Ty × Operand)) → nodes ty ≤ 4096 → AreIndices tys indices → is_part ty indices ≡ true → IsPath indices ty
is_path tys ty [] few typed h = tt
is_path tys ty (index ∷ indices) few typed h = are_named tys indices typed.2 ty few (and_parts (all_int (index ∷ indices)) (leads_into indices ty) h).1

-- ---- instructions by block and place

pub every_in : (P : Inst → Type 0) (blocks : List Block) (block place : ℕ) (inst : Inst) → Every P (instructions blocks) → slice_get (insts_of (slice_get blocks block)) place ≡ Some inst → P inst
every_in P [] block place inst h e = absurd (let bad : ⊥ = cc in bad)
every_in P (first ∷ blocks) zero place inst h e = every_at P first.insts place inst (every_left P first.insts (instructions blocks) h) e
every_in P (first ∷ blocks) (suc block) place inst h e = every_in P blocks block place inst (every_right P first.insts (instructions blocks) h) e

limits_each : (insts : List Inst) → insts_limit insts ≡ None → Every (λ inst. op_limit inst.op ≡ None) insts
limits_each [] e = tt
limits_each (x ∷ xs) e = (or_none_left (op_limit x.op) (insts_limit xs) e, limits_each xs (or_none_right (op_limit x.op) (insts_limit xs) e))

functions_each : (functions : List Function) → functions_limit functions ≡ None → Every (λ f. function_limit f ≡ None) functions
functions_each [] e = tt
functions_each (x ∷ xs) e = (or_none_left (function_limit x) (functions_limit xs) e, functions_each xs (or_none_right (function_limit x) (functions_limit xs) e))

module _ (program : Program) (checked : IsChecked program) (symbol : ℕ) (function : Function) (there : function_at program symbol ≡ Some function) (all : IsTyped program) where
  limited : Every (λ inst. op_limit inst.op ≡ None) (instructions function.blocks)
  limited =
      let a = or_none_right _ _ (no_limit program.module_ checked.passes.rows) in
      let b = or_none_right _ _ a in
      let c = or_none_right (globals_limit program.module_.globals) (functions_limit program.module_.functions) b in
      let f = every_at (λ (f : Function). function_limit f ≡ None) program.module_.functions symbol function (functions_each program.module_.functions c) there in
      let g = or_none_right _ _ f in
      limits_each (instructions function.blocks) (or_none_right _ (insts_limit (instructions function.blocks)) g)

  kinds : Every (λ (i : Inst). is_typed (types function) function.ret i ≡ true) (instructions function.blocks)
  kinds =
      none_refused (is_typed (types function) function.ret) 0 (instructions function.blocks)
      (every_at (λ (f : Function). mistyped f ≡ None) program.module_.functions symbol function (well_typed program.module_ checked.passes.rows) there)

  path_by : (ty : Ty) (op : Op) (of : MemTy) (base : Operand) (indices : List (Ty × Operand)) → op ≡ Gep of base indices → op_limit op ≡ None → gives_type function.ret ty op ≡ true → AreIndices (types function) indices → IsPath indices of
  path_by ty op of base indices is limit gives are =
      let limit' : op_limit (Gep of base indices) ≡ None = subst (λ (o : Op). op_limit o ≡ None) is limit in
      let gives' : gives_type function.ret ty (Gep of base indices) ≡ true = subst (λ (o : Op). gives_type function.ret ty o ≡ true) is gives in
      is_path (types function) of indices (within Nodes 4096 (nodes of) (or_none_left (above Nodes 4096 (nodes of)) _ limit')) are (and_parts (is_ptr ty) (is_part of indices) gives').1

  pub paths : (block place : ℕ) (inst : Inst) (of : MemTy) (base : Operand) (indices : List (Ty × Operand)) → slice_get (insts_at function block) place ≡ Some inst → inst.op ≡ Gep of base indices → IsPath indices of
  paths block place inst of base indices at is =
      let op = (all.typed symbol function there).insts block place inst at in
      path_by inst.gives inst.op of base indices is
      (every_in (λ (i : Inst). op_limit i.op ≡ None) function.blocks block place inst limited at)
      (and_parts (gives_type function.ret inst.gives inst.op) (all_fit_places (types function) (places function.ret inst.gives inst.op))
      (every_in (λ (i : Inst). is_typed (types function) function.ret i ≡ true) function.blocks block place inst kinds at)).0
      (indices_of inst.gives inst.op op is)
    where
      indices_of : (ty : Ty) (o : Op) → IsOp program function ty o → o ≡ Gep of base indices → AreIndices (types function) indices
      indices_of ty o h e = (subst (IsOp program function ty) e h).2

-- ---- edges

-- the first terminator is the last instruction
pub ends_at : (insts : List Inst) → ends_once insts ≡ true → (k : ℕ) (inst : Inst) → slice_get insts k ≡ Some inst → is_terminator inst.op ≡ true → length insts ≡ k + 1
ends_at [] h k inst e t = absurd (let bad : ⊥ = cc in bad)
ends_at (x ∷ xs) h k inst e t = by_test (is_terminator x.op) refl k e (λ g j f. ends_at xs g j inst f t)
  where
    by_test : (b : Bool) → is_terminator x.op ≡ b → (k : ℕ) → slice_get (x ∷ xs) k ≡ Some inst → (ends_once xs ≡ true → (j : ℕ) → slice_get xs j ≡ Some inst → length xs ≡ j + 1) → length (x ∷ xs) ≡ k + 1
    by_test true f k e ih =
        let test : (length xs == 0) ≡ true = sym (ap (λ (b : Bool). cond b (length xs == 0) (ends_once xs)) f) ∙ h in
        let none : length xs ≡ 0 = grind (arith, test) in
        let low = is_below (x ∷ xs) k inst e in omega (arith, none, low)
    by_test false f zero e ih =
        let same : x ≡ inst = cc in
        let is : is_terminator x.op ≡ true = ap (λ (y : Inst). is_terminator y.op) same ∙ t in
        absurd (let bad : false ≡ true = sym f ∙ is in cc)
    by_test false f (suc k) e ih =
        let rest = ih (sym (ap (λ (b : Bool). cond b (length xs == 0) (ends_once xs)) f) ∙ h) k e in
        omega (arith, rest)

-- the edges of a block are those of the terminator that it has
pub edges_are : (block : Block) (k : ℕ) (inst : Inst) → ends_once block.insts ≡ true → slice_get block.insts k ≡ Some inst → is_terminator inst.op ≡ true → edges block ≡ targets inst.op
edges_are block k inst ends at t =
    let long = ends_at block.insts ends k inst at t in
    ap targets_of_last (ap (slice_get block.insts) (let z : length block.insts - 1 ≡ k = omega (arith, long) in z) ∙ at)

-- a number that stands nowhere isn't the first, and stands nowhere behind
pub stands_nowhere : (n m : ℕ) (ms : List ℕ) → times n (m ∷ ms) ≡ 0 → (m ≡ n → ⊥) × (times n ms ≡ 0)
stands_nowhere n m ms h =
    let sum = sum_by-cons (λ (k : ℕ). cond (k == n) 1 0) m ms in
    by_test (m == n) refl (sym sum ∙ h)
  where
    by_test : (b : Bool) → (m == n) ≡ b → (cond b 1 0) + times n ms ≡ 0 → (m ≡ n → ⊥) × (times n ms ≡ 0)
    by_test true e k = absurd (let bad : ⊥ = omega (arith, k) in bad)
    by_test false e k = ((λ same. let yes_one : (m == n) ≡ true = grind (arith, same) in let bad : ⊥ = cc in bad), omega (arith, k))
