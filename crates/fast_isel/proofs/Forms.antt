-- What the test finds of a function that passed the verifier.
use Rattle.std.proofs.Common.{◌≡◌, refl, sym, ap, subst, ◌∙◌, ℕ, zero, suc, ◌+◌, ◌<◌, ◌≤◌, List, [], ◌∷◌, length, get_or, Option, Some, None, Bool, true, false, cond, arith}
use Rattle.std.specs.Prelude.{take, sum_by, slice_get, ◌&&◌, ◌==◌, not, nat_lt, nat_le}
use Rattle.std.proofs.lemmas.Bool.{and_parts, leb-true, eqb-true}
use Rattle.std.proofs.lemmas.Option.{slice_get_read}
use Rattle.std.proofs.lemmas.List.Sums.{sum_by-cons}
use Rattle.ir_core.specs.declared.types.Ty.{Ty}
use Rattle.ir_core.specs.declared.code.Op.{Op}
use Rattle.ir_core.specs.declared.code.Op.TheVariants.{Binary, Icmp, Cast, Select, Freeze, Phi, Alloca, Load, Store, Gep, Call, BuiltIn as CallBuiltIn, Ret, Br, CondBr, Switch, Unreachable}
use Rattle.ir_core.specs.declared.code.Inst.{Inst}
use Rattle.ir_core.specs.declared.code.Block.{Block}
use Rattle.ir_core.specs.declared.program.Function.{Function}
use Rattle.ir_core.specs.Units.{instructions, units, values}
use Rattle.ir_core.specs.declared.program.What.TheVariants.{Parameters, Units}
use Rattle.ir_flow.specs.Limits.{above, function_limit, functions_limit}
use Rattle.ir_meaning.specs.Step.{Program, function_at, insts_at, insts_of, phis, moves_bytes}
use Rattle.ir_flow.specs.Code.{is_terminator, is_phi}
use Rattle.ir_verify.specs.Shapes.{ends_once, has_no_phi, fits_number, is_shaped, all_cases_distinct, first_misshapen, misshapen}
use Rattle.ir_verify.specs.Verdict.{refusal}
use Rattle.ir_verify.proofs.Rows.{shaped, no_limit}
use Rattle.ir_verify.proofs.Usable.{within, functions_pass}
use Rattle.ir_verify.proofs.Lists.{every_at, or_none_left, or_none_right}
use Rattle.rv_asm.specs.Layout.{IsAssembly}
use Rattle.quick_code.specs.Assembly.{code_of}
use Rattle.fast_isel.specs.Written.{AreLimited, AreWordsOf, AreQuickWords, begins_plainly}
use Rattle.fast_isel_emit.specs.Operands.{is_width, are_widths, is_given, is_operand, are_arguments, are_indices, is_built_in}
use Rattle.fast_isel.specs.Taken.{is_form, are_forms, are_blocks, is_taken, are_taken}
use Rattle.quick_code.specs.Blocks.{is_headless, edges_of, edges_in, block_label, label_count}
use Rattle.quick_code.specs.Forms.{IsForm, IsJump, IsFlow}
use Rattle.ir_flow.specs.Limits.{op_limit}
use Rattle.ir_data.proofs.Sizes.{type_within}
use Rattle.quick_code.specs.Parts.{is_path}
use Rattle.fast_isel.proofs.Limits.{small-pieces, limited-at}

pub form-is : (n blocks : ℕ) (gives : Ty) (op : Op) → is_form n blocks gives op ≡ true → op_limit op ≡ None → IsForm op
form-is n blocks gives (Call callee arguments) h limit =
    let last = and_parts (is_given gives && nat_lt callee 1024 && nat_le (length arguments) 8) (are_arguments n arguments) h in
    leb-true (length arguments) 8 (and_parts (is_given gives && nat_lt callee 1024) (nat_le (length arguments) 8) last.0).1
form-is n blocks gives (Binary op flags a b) h limit = tt
form-is n blocks gives (Icmp pred flags of a b) h limit = tt
form-is n blocks gives (Cast op flags of a) h limit = tt
form-is n blocks gives (Select c a b) h limit = tt
form-is n blocks gives (Freeze a) h limit = tt
form-is n blocks gives (Phi pairs) h limit = tt
form-is n blocks gives (Ret answer) h limit = tt
form-is n blocks gives (Br to) h limit = tt
form-is n blocks gives (CondBr condition if_true if_false) h limit = tt
form-is n blocks gives Unreachable h limit = tt
form-is n blocks gives (Alloca of count) h limit = tt
form-is n blocks gives (Load a) h limit = tt
form-is n blocks gives (Store of a b) h limit = tt
form-is n blocks gives (Gep of a indices) h limit =
    ((and_parts (is_width gives && is_operand n a && are_indices n indices) (is_path of indices) h).1, small-pieces of indices (type_within of limit))
form-is n blocks gives (CallBuiltIn which arguments) h limit = λ no-bytes. by_kind (moves_bytes which) no-bytes (and_parts (is_built_in gives (moves_bytes which) arguments) (are_arguments n arguments) h).0
  where
    by_kind : (b : Bool) → b ≡ false → is_built_in gives b arguments ≡ true → length arguments ≡ 2
    by_kind true e h = absurd (let bad : true ≡ false = e in cc)
    by_kind false e h = eqb-true (length arguments) 2 (and_parts (is_width gives) (length arguments == 2) h).1
form-is n blocks gives (Switch of a otherwise cases) h limit = tt

pub forms-at : (n blocks : ℕ) (insts : List Inst) (k : ℕ) (inst : Inst) → are_forms n blocks insts ≡ true → slice_get insts k ≡ Some inst → is_form n blocks inst.gives inst.op ≡ true
forms-at n blocks [] k inst h e = absurd (let bad : ⊥ = cc in bad)
forms-at n blocks (x ∷ xs) zero inst h e =
    let same : x ≡ inst = cc in
    subst (λ (y : Inst). is_form n blocks y.gives y.op ≡ true) same (and_parts (is_form n blocks x.gives x.op) (are_forms n blocks xs) h).0
forms-at n blocks (x ∷ xs) (suc k) inst h e = forms-at n blocks xs k inst (and_parts (is_form n blocks x.gives x.op) (are_forms n blocks xs) h).1 e

pub blocks-at : (n many : ℕ) (blocks : List Block) (k : ℕ) → are_blocks n many blocks ≡ true → are_forms n many (insts_of (slice_get blocks k)) ≡ true
blocks-at n many [] k h = refl
blocks-at n many (block ∷ blocks) zero h = (and_parts (are_forms n many block.insts) (are_blocks n many blocks) h).0
blocks-at n many (block ∷ blocks) (suc k) h = blocks-at n many blocks k (and_parts (are_forms n many block.insts) (are_blocks n many blocks) h).1

-- ---- the shape of blocks

jump-ends : (op : Op) → IsJump op → is_terminator op ≡ true
jump-ends (Br to) h = refl
jump-ends (CondBr c x y) h = refl
jump-ends (Binary op flags a b) h = absurd h
jump-ends (Icmp pred flags of a b) h = absurd h
jump-ends (Cast op flags of a) h = absurd h
jump-ends (Select c a b) h = absurd h
jump-ends (Freeze a) h = absurd h
jump-ends (Phi pairs) h = absurd h
jump-ends (Alloca of count) h = absurd h
jump-ends (Load a) h = absurd h
jump-ends (Store of a b) h = absurd h
jump-ends (Gep of a indices) h = absurd h
jump-ends (Call g arguments) h = absurd h
jump-ends (CallBuiltIn which arguments) h = absurd h
jump-ends (Ret a) h = absurd h
jump-ends (Switch of a otherwise cases) h = refl
jump-ends Unreachable h = absurd h

-- the first terminator is the last instruction
ends-at : (insts : List Inst) → ends_once insts ≡ true → (k : ℕ) (inst : Inst) → slice_get insts k ≡ Some inst → is_terminator inst.op ≡ true → length insts ≡ k + 1
ends-at [] h k inst e t = absurd (let bad : ⊥ = cc in bad)
ends-at (x ∷ xs) h k inst e t = by_test (is_terminator x.op) refl k e (λ g j f. ends-at xs g j inst f t)
  where
    by_test : (b : Bool) → is_terminator x.op ≡ b → (k : ℕ) → slice_get (x ∷ xs) k ≡ Some inst → (ends_once xs ≡ true → (j : ℕ) → slice_get xs j ≡ Some inst → length xs ≡ j + 1) → length (x ∷ xs) ≡ k + 1
    by_test true f k e ih =
        let none : length xs ≡ 0 = eqb-true (length xs) 0 (sym (ap (λ (b : Bool). cond b (length xs == 0) (ends_once xs)) f) ∙ h) in
        first k e none
      where
        first : (k : ℕ) → slice_get (x ∷ xs) k ≡ Some inst → length xs ≡ 0 → length (x ∷ xs) ≡ k + 1
        first zero e none = omega (arith, none)
        first (suc k) e none = let lt = within xs k e in absurd (let bad : ⊥ = omega (arith, lt, none) in bad)
          where
            within : (ys : List Inst) (k : ℕ) → slice_get ys k ≡ Some inst → k < length ys
            within [] k e = absurd (let bad : ⊥ = cc in bad)
            within (y ∷ ys) zero e = omega arith
            within (y ∷ ys) (suc k) e = let r = within ys k e in omega (arith, r)
    by_test false f zero e ih =
        let same : x ≡ inst = cc in
        let is : is_terminator x.op ≡ true = ap (λ (y : Inst). is_terminator y.op) same ∙ t in
        absurd (let bad : false ≡ true = sym f ∙ is in cc)
    by_test false f (suc k) e ih =
        let rest = ih (sym (ap (λ (b : Bool). cond b (length xs == 0) (ends_once xs)) f) ∙ h) k e in
        omega (arith, rest)

record Shaped (number : ℕ) (block : Block) : Type 0 where
  ends : ends_once block.insts ≡ true
  fits : fits_number number block.insts ≡ true

shaped-parts : (number : ℕ) (block : Block) → is_shaped number block ≡ true → Shaped number block
shaped-parts number block h =
    let outer = and_parts (ends_once block.insts && fits_number number block.insts) (all_cases_distinct block.insts) h in
    let inner = and_parts (ends_once block.insts) (fits_number number block.insts) outer.0 in
    record { ends = inner.0; fits = inner.1 }

shaped-then : (number : ℕ) (block : Block) (blocks : List Block) → first_misshapen number (block ∷ blocks) ≡ None → (is_shaped number block ≡ true) × (first_misshapen (number + 1) blocks ≡ None)
shaped-then number block blocks h = by_test (is_shaped number block) refl
  where
    by_test : (b : Bool) → is_shaped number block ≡ b → (is_shaped number block ≡ true) × (first_misshapen (number + 1) blocks ≡ None)
    by_test true e = (e, sym (ap (λ (b : Bool). cond b (first_misshapen (number + 1) blocks) (Some number)) e) ∙ h)
    by_test false e = absurd (let bad : Some number ≡ None = sym (ap (λ (b : Bool). cond b (first_misshapen (number + 1) blocks) (Some number)) e) ∙ h in cc)

shaped-at : (blocks : List Block) (number k : ℕ) → first_misshapen number blocks ≡ None → (block : Block) → slice_get blocks k ≡ Some block → is_shaped (number + k) block ≡ true
shaped-at [] number k h block e = absurd (let bad : ⊥ = cc in bad)
shaped-at (x ∷ xs) number zero h block e =
    let same : x ≡ block = cc in
    subst (λ (y : Block). is_shaped (number + 0) y ≡ true) same (subst (λ (j : ℕ). is_shaped j x ≡ true) (let z : number ≡ number + 0 = omega arith in z) (shaped-then number x xs h).0)
shaped-at (x ∷ xs) number (suc k) h block e =
    subst (λ (j : ℕ). is_shaped j block ≡ true) (let z : number + 1 + k ≡ number + suc k = omega arith in z) (shaped-at xs (number + 1) k (shaped-then number x xs h).1 block e)

-- a function whose shape is right has a block, and the first misshapen one is none
shape-of : (function : Function) → misshapen function ≡ None → (1 ≤ length function.blocks) × (first_misshapen 0 function.blocks ≡ None)
shape-of function h = by_blocks function.blocks refl
  where
    by_blocks : (blocks : List Block) → function.blocks ≡ blocks → (1 ≤ length function.blocks) × (first_misshapen 0 function.blocks ≡ None)
    by_blocks [] e = absurd (let bad : Some 0 ≡ None = sym (ap (λ (bs : List Block). misshapen (record function { blocks = bs })) e) ∙ h in cc)
    by_blocks (b ∷ bs) e =
        (subst (λ (xs : List Block). 1 ≤ length xs) (sym e) (omega arith), ap (λ (xs : List Block). first_misshapen 0 xs) e ∙ sym (ap (λ (xs : List Block). misshapen (record function { blocks = xs })) e) ∙ h)

-- an instruction that is no phi ends the phis
first-other : (gives : Ty) (insts : List Inst) (op : Op) → not (is_phi op) ≡ true → phis (record { gives = gives; op = op } ∷ insts) ≡ []
first-other gives insts (Phi pairs) k = absurd (let bad : ⊥ = cc in bad)
first-other gives insts (Binary op flags a b) k = refl
first-other gives insts (Icmp pred flags of a b) k = refl
first-other gives insts (Cast op flags of a) k = refl
first-other gives insts (Select c a b) k = refl
first-other gives insts (Freeze a) k = refl
first-other gives insts (Alloca of count) k = refl
first-other gives insts (Load a) k = refl
first-other gives insts (Store of a b) k = refl
first-other gives insts (Gep of a indices) k = refl
first-other gives insts (Call g arguments) k = refl
first-other gives insts (CallBuiltIn which arguments) k = refl
first-other gives insts (Ret a) k = refl
first-other gives insts (Br to) k = refl
first-other gives insts (CondBr c x y) k = refl
first-other gives insts (Switch of a otherwise cases) k = refl
first-other gives insts Unreachable k = refl

no-phis : (insts : List Inst) → has_no_phi insts ≡ true → phis insts ≡ []
no-phis [] h = refl
no-phis (inst ∷ insts) h = first-other inst.gives insts inst.op (and_parts (not (is_phi inst.op)) (has_no_phi insts) h).0

-- instructions begin with no phi where their first is none
pub plain_head : (insts : List Inst) → begins_plainly insts ≡ is_headless (phis insts)
plain_head [] = refl
plain_head (inst ∷ insts) = by_op inst.op
  where
    by_op : (op : Op) → not (is_phi op) ≡ is_headless (phis (record { gives = inst.gives; op = op } ∷ insts))
    by_op (Phi pairs) = refl
    by_op (Binary op flags a b) = refl
    by_op (Icmp pred flags of a b) = refl
    by_op (Cast op flags of a) = refl
    by_op (Select c a b) = refl
    by_op (Freeze a) = refl
    by_op (Alloca of count) = refl
    by_op (Load a) = refl
    by_op (Store of a b) = refl
    by_op (Gep of a indices) = refl
    by_op (Call g arguments) = refl
    by_op (CallBuiltIn which arguments) = refl
    by_op (Ret a) = refl
    by_op (Br to) = refl
    by_op (CondBr c x y) = refl
    by_op (Switch of a otherwise cases) = refl
    by_op Unreachable = refl

-- ---- units and labels

edges-units : (insts : List Inst) → edges_in insts ≤ sum_by units insts
edges-units [] = omega arith
edges-units (inst ∷ insts) =
    let one = by_op inst.op in
    let rest = edges-units insts in
    let left = sum_by-cons (λ (x : Inst). edges_of x.op) inst insts in
    let right = sum_by-cons units inst insts in
    omega (arith, one, rest, left, right)
  where
    by_op : (op : Op) → edges_of op ≤ units (record { gives = inst.gives; op = op })
    by_op (Phi pairs) = omega arith
    by_op (Binary op flags a b) = omega arith
    by_op (Icmp pred flags of a b) = omega arith
    by_op (Cast op flags of a) = omega arith
    by_op (Select c a b) = omega arith
    by_op (Freeze a) = omega arith
    by_op (Alloca of count) = omega arith
    by_op (Load a) = omega arith
    by_op (Store of a b) = omega arith
    by_op (Gep of a indices) = omega arith
    by_op (Call g arguments) = omega arith
    by_op (CallBuiltIn which arguments) = omega arith
    by_op (Ret a) = omega arith
    by_op (Br to) = omega arith
    by_op (CondBr c x y) = omega arith
    by_op (Switch of a otherwise cases) = omega arith
    by_op Unreachable = omega arith

few-units : (functions : List Function) (symbol : ℕ) (function : Function) → functions_limit functions ≡ None → slice_get functions symbol ≡ Some function → sum_by units (instructions function.blocks) ≤ 16384
few-units [] symbol function h e = absurd (let bad : ⊥ = cc in bad)
few-units (f ∷ fs) zero function h e =
    let same : f ≡ function = cc in
    let limits = or_none_right (above Parameters 8 (length f.params)) _ (or_none_left (function_limit f) _ h) in
    subst (λ (g : Function). sum_by units (instructions g.blocks) ≤ 16384) same (within Units 16384 (sum_by units (instructions f.blocks)) (or_none_left _ _ limits))
few-units (f ∷ fs) (suc symbol) function h e = few-units fs symbol function (or_none_right (function_limit f) _ h) e

take-all : (blocks : List Block) → take (length blocks) blocks ≡ blocks
take-all [] = refl
take-all (b ∷ bs) = ap (λ (xs : List Block). b ∷ xs) (take-all bs)

label-sum : (function : Function) → label_count function ≡ length function.blocks + edges_in (instructions function.blocks)
unfolding block_label
label-sum function = ap (λ (bs : List Block). length function.blocks + edges_in (instructions bs)) (take-all function.blocks)

-- ---- a function

pub record Taken (function : Function) : Type 0 where
  pub widths : are_widths function.params ≡ true
  pub params : length function.params ≤ 8
  pub few : values function ≤ 32764
  pub blocks : length function.blocks ≤ 16384
  pub forms : are_blocks (values function) (length function.blocks) function.blocks ≡ true

pub taken-parts : (function : Function) → is_taken function ≡ true → Taken function
taken-parts function h =
    let a = and_parts (are_widths function.params && nat_le (length function.params) 8 && nat_le (values function) 32764 && nat_le (length function.blocks) 16384) (are_blocks (values function) (length function.blocks) function.blocks) h in
    let b = and_parts (are_widths function.params && nat_le (length function.params) 8 && nat_le (values function) 32764) (nat_le (length function.blocks) 16384) a.0 in
    let c = and_parts (are_widths function.params && nat_le (length function.params) 8) (nat_le (values function) 32764) b.0 in
    let d = and_parts (are_widths function.params) (nat_le (length function.params) 8) c.0 in
    record { widths = d.0; params = leb-true _ _ d.1; few = leb-true _ _ c.1; blocks = leb-true _ _ b.1; forms = a.1 }

pub flow-of : (function : Function) → is_taken function ≡ true → misshapen function ≡ None → AreLimited function → IsFlow function
flow-of function h shape limited =
    let t = taken-parts function h in
    let s = shape-of function shape in
    let few = t.few in
    record {
      few = t.params;
      some = s.0;
      frames = omega (arith, few);
      entry = entry s.1 (slice_get function.blocks 0) refl;
      forms = λ block place inst at. form-is (values function) (length function.blocks) inst.gives inst.op
          (forms-at (values function) (length function.blocks) (insts_at function block) place inst (blocks-at (values function) (length function.blocks) function.blocks block t.forms) at) (limited block place inst at);
      ends = λ block place inst at is-jump. ends s.1 block (slice_get function.blocks block) refl place inst at is-jump;
    }
  where
    entry : first_misshapen 0 function.blocks ≡ None → (o : Option Block) → slice_get function.blocks 0 ≡ o → phis (insts_of (slice_get function.blocks 0)) ≡ []
    entry none None e = ap (λ (o : Option Block). phis (insts_of o)) e
    entry none (Some block) e =
        let shape = shaped-parts 0 block (shaped-at function.blocks 0 0 none block e) in
        ap (λ (o : Option Block). phis (insts_of o)) e ∙ no-phis block.insts shape.fits

    ends : first_misshapen 0 function.blocks ≡ None → (b : ℕ) (o : Option Block) → slice_get function.blocks b ≡ o → (place : ℕ) (inst : Inst) → slice_get (insts_of (slice_get function.blocks b)) place ≡ Some inst → IsJump inst.op
        → length (insts_of (slice_get function.blocks b)) ≡ place + 1
    ends none b None e place inst at is-jump = absurd (let bad : None ≡ Some inst = sym (ap (λ (o : Option Block). slice_get (insts_of o) place) e) ∙ at in cc)
    ends none b (Some block) e place inst at is-jump =
        let shape = shaped-parts (0 + b) block (shaped-at function.blocks 0 b none block e) in
        let at' = sym (ap (λ (o : Option Block). slice_get (insts_of o) place) e) ∙ at in
        ap (λ (o : Option Block). length (insts_of o)) e ∙ ends-at block.insts shape.ends place inst at' (jump-ends inst.op is-jump)

-- ---- a module

taken-at : (functions : List Function) (symbol : ℕ) (function : Function) → are_taken functions ≡ true → slice_get functions symbol ≡ Some function → is_taken function ≡ true
taken-at [] symbol function h e = absurd (let bad : ⊥ = cc in bad)
taken-at (f ∷ fs) zero function h e =
    let same : f ≡ function = cc in
    subst (λ (g : Function). is_taken g ≡ true) same (and_parts (is_taken f) (are_taken fs) h).0
taken-at (f ∷ fs) (suc symbol) function h e = taken-at fs symbol function (and_parts (is_taken f) (are_taken fs) h).1 e

pub flow-at : (program : Program) (symbol : ℕ) (function : Function) → refusal program.module_ ≡ None → are_taken program.module_.functions ≡ true → function_at program symbol ≡ Some function
    → IsFlow function × (is_taken function ≡ true) × AreLimited function
flow-at program symbol function rows taken there =
    let one = taken-at program.module_.functions symbol function taken there in
    let limited = limited-at program.module_ symbol function rows there in
    (flow-of function one (every_at (λ (f : Function). misshapen f ≡ None) program.module_.functions symbol function (shaped program.module_ rows) there) limited, one, limited)

-- a function of a module that passed the verifier has few labels, where it is taken
pub few-labels : (program : Program) (symbol : ℕ) (function : Function) → refusal program.module_ ≡ None → is_taken function ≡ true → function_at program symbol ≡ Some function → label_count function ≤ 32768
few-labels program symbol function rows taken there =
    let units' = few-units program.module_.functions symbol function (functions_pass program.module_ (no_limit program.module_ rows)) there in
    let edges = edges-units (instructions function.blocks) in
    let sum = label-sum function in
    let blocks = (taken-parts function taken).blocks in
    omega (arith, units', edges, sum, blocks)

pub found : (program : Program) (symbol : ℕ) (function : Function) → symbol < length program.module_.functions → function ≡ get_or program.module_.functions symbol function → function_at program symbol ≡ Some function
found program symbol function lt e = slice_get_read program.module_.functions (length program.module_.functions) symbol function refl lt e

pub quick-words : (program : Program) (symbol : ℕ) (function : Function) (words : List ℕ) → function_at program symbol ≡ Some function → IsAssembly (code_of program.module_.globals symbol function program.room) words → AreQuickWords program symbol words
quick-words program symbol function words there made =
    subst (AreWordsOf program.module_.globals program.room symbol words) (sym there) made

-- a function that is taken has few values and blocks
pub few_values : (function : Function) → is_taken function ≡ true → values function ≤ 32764
few_values function h = (taken-parts function h).few

pub few_blocks : (function : Function) → is_taken function ≡ true → length function.blocks ≤ 16384
few_blocks function h = (taken-parts function h).blocks

pub few_params : (function : Function) → is_taken function ≡ true → length function.params ≤ 8
few_params function h = (taken-parts function h).params

-- each of its blocks has the forms
pub block_forms : (function : Function) (block : ℕ) → is_taken function ≡ true → are_forms (values function) (length function.blocks) (insts_at function block) ≡ true
block_forms function block h = blocks-at (values function) (length function.blocks) function.blocks block (taken-parts function h).forms

pub param_widths : (function : Function) → is_taken function ≡ true → are_widths function.params ≡ true
param_widths function h = (taken-parts function h).widths
