-- The numbers of values in a function of several blocks, and the phis at the head of a block.
use Rattle.std.proofs.Common.{◌≡◌, refl, sym, ap, subst, ◌∙◌, ℕ, zero, suc, ◌+◌, ◌^◌, ◌<◌, ◌≤◌, List, [], ◌∷◌, length, Some, None, Bool, true, false, cond, arith}
use Rattle.std.specs.Prelude.{slice_get, take, drop}
use Rattle.std.proofs.Math.Pow.{pow_mono}
use Rattle.std.proofs.lemmas.List.{length-append}
use Rattle.std.proofs.lemmas.List.Sums.{sum_by-cons}
use Rattle.std.proofs.lemmas.Option.{slice_get_within}
use Rattle.ir_core.specs.declared.types.Ty.{Ty}
use Rattle.ir_core.specs.declared.types.Ty.TheVariants.{Void, Int, Ptr}
use Rattle.ir_core.specs.declared.code.Operand.{Operand}
use Rattle.ir_core.specs.declared.code.Operand.TheVariants.{Value as Local, Num, Null, Place as PlaceOf, Poison}
use Rattle.ir_core.specs.declared.code.Op.{Op}
use Rattle.ir_core.specs.declared.code.Op.TheVariants.{Binary, Icmp, Cast, Select, Freeze, Phi, Alloca, Load, Store, Gep, Call, BuiltIn as CallBuiltIn, Ret, Br, CondBr, Switch, Unreachable}
use Rattle.ir_core.specs.declared.code.Inst.{Inst}
use Rattle.ir_core.specs.declared.program.Function.{Function}
use Rattle.ir_core.specs.Units.{instructions, results, has_result, is_result, values as value_count}
use Rattle.ir_meaning.specs.Value.{Value}
use Rattle.ir_meaning.specs.Operators.{width}
use Rattle.ir_meaning.specs.Step.{insts_at, number_at, phis}
use Rattle.ir_meaning.specs.Ranges.{FitsWidth}
use Rattle.ir_meaning.specs.Typed.{types, result_types, IsValueType, IsOperand}
use Rattle.quick_code.specs.Operations.{IsSlotOperand}
use Rattle.ir_meaning.proofs.Numbering.{number-type}

abbrev one-if : Inst → ℕ
one-if inst = cond (has_result inst) 1 0

types-many : (insts : List Inst) → length (result_types insts) ≡ results insts
types-many [] = refl
types-many (inst ∷ insts) = by_test (has_result inst) (types-many insts) ∙ sym (sum_by-cons one-if inst insts)
  where
    by_test : (b : Bool) → length (result_types insts) ≡ results insts → length (cond b (inst.gives ∷ result_types insts) (result_types insts)) ≡ cond b 1 0 + results insts
    by_test true ih = omega (arith, ih)
    by_test false ih = omega (arith, ih)

-- an instruction's value is one of the function's
pub number-inside : (function : Function) (block place : ℕ) (inst : Inst) → slice_get (insts_at function block) place ≡ Some inst → has_result inst ≡ true
    → number_at function block place < value_count function
number-inside function block place inst e h =
    let within = slice_get_within (types function) (number_at function block place) inst.gives (number-type function block place inst e h) in
    let many = types-many (instructions function.blocks) in
    let all = length-append function.params (result_types (instructions function.blocks)) in
    omega (arith, within, many, all)

pub width-small : (ty : Ty) → IsValueType ty → width ty ≤ 64
width-small Void h = absurd h
width-small (Int w) h = h.1
width-small Ptr h = omega arith

pub width-some : (ty : Ty) → IsValueType ty → 1 ≤ width ty
width-some Void h = absurd h
width-some (Int w) h = h.0
width-some Ptr h = omega arith

-- an operand of a type is one that can be loaded
pub operand-inside : (function : Function) (ty : Ty) (o : Operand) → width ty ≤ 64 → IsOperand (types function) ty o → IsSlotOperand (value_count function) o
operand-inside function ty (Local i) small h =
    let within = slice_get_within (types function) i ty h in
    let many = types-many (instructions function.blocks) in
    let all = length-append function.params (result_types (instructions function.blocks)) in
    omega (arith, within, many, all)
operand-inside function ty (Num k) small h = let wide : 2 ^ width ty ≤ 2 ^ 64 = pow_mono small in omega (arith, wide, h)
operand-inside function ty Null small h = tt
operand-inside function ty (PlaceOf global offset) small h = tt
operand-inside function ty Poison small h = tt

take-more : (insts : List Inst) (place : ℕ) (inst : Inst) → slice_get insts place ≡ Some inst → has_result inst ≡ true → results (take (place + 1) insts) ≡ results (take place insts) + 1
take-more insts place inst e h = ap (λ (k : ℕ). results (take k insts)) (let z : place + 1 ≡ suc place = omega arith in z) ∙ more insts place e
  where
    more : (insts : List Inst) (place : ℕ) → slice_get insts place ≡ Some inst → results (take (suc place) insts) ≡ results (take place insts) + 1
    more [] place e = absurd (let bad : ⊥ = cc in bad)
    more (x ∷ xs) zero e =
        let same : x ≡ inst = cc in
        let one : one-if x ≡ 1 = ap (λ (b : Bool). cond b 1 0) (ap (λ (i : Inst). has_result i) same ∙ h) in
        let sum = sum_by-cons one-if x [] in
        omega (arith, sum, one)
    more (x ∷ xs) (suc place) e =
        let rest = more xs place e in
        let left = sum_by-cons one-if x (take (suc place) xs) in
        let right = sum_by-cons one-if x (take place xs) in
        omega (arith, rest, left, right)

-- the next value of a block
pub number-next : (function : Function) (block place : ℕ) (inst : Inst) → slice_get (insts_at function block) place ≡ Some inst → has_result inst ≡ true
    → number_at function block (place + 1) ≡ number_at function block place + 1
number-next function block place inst e h = let more = take-more (insts_at function block) place inst e h in omega (arith, more)

-- a value of a type has 64 bits at most
pub value-below : (ty : Ty) (v : Value) → IsValueType ty → FitsWidth (width ty) v → (k : ℕ) → v ≡ Some k → k < 2 ^ 64
value-below Void v is fits k e = absurd is
value-below (Int w) None is fits k e = absurd (let bad : ⊥ = cc in bad)
value-below (Int w) (Some x) is fits k e = let same : x ≡ k = cc in let wide : 2 ^ w ≤ 2 ^ 64 = pow_mono is.1 in omega (arith, same, fits, wide)
value-below Ptr None is fits k e = absurd (let bad : ⊥ = cc in bad)
value-below Ptr (Some x) is fits k e = let same : x ≡ k = cc in omega (arith, same, fits)

pub gives-some : (ty : Ty) → IsValueType ty → is_result ty ≡ true
gives-some Void h = absurd h
gives-some (Int w) h = refl
gives-some Ptr h = refl

-- what comes from a place on
pub drop-get : (insts : List Inst) (place : ℕ) (inst : Inst) → slice_get insts place ≡ Some inst → drop place insts ≡ inst ∷ drop (place + 1) insts
drop-get insts place inst e = more insts place e ∙ ap (λ (k : ℕ). inst ∷ drop k insts) (let z : suc place ≡ place + 1 = omega arith in z)
  where
    more : (insts : List Inst) (place : ℕ) → slice_get insts place ≡ Some inst → drop place insts ≡ inst ∷ drop (suc place) insts
    more [] place e = absurd (let bad : ⊥ = cc in bad)
    more (x ∷ xs) zero e = let same : x ≡ inst = cc in ap (λ (i : Inst). i ∷ xs) same
    more (x ∷ xs) (suc place) e = more xs place e

-- ---- phis

abbrev pub IsPhi : Op → Type 0
IsPhi (Phi pairs) = Unit {0}
IsPhi _ = ⊥

-- the phis at the head of a list stand there
pub phis-stand : (insts : List Inst) (i : ℕ) (inst : Inst) → slice_get (phis insts) i ≡ Some inst → (slice_get insts i ≡ Some inst) × IsPhi inst.op
phis-stand [] i inst e = absurd (let bad : ⊥ = cc in bad)
phis-stand (x ∷ xs) i inst e = by_op x.op refl i e (phis-stand xs)
  where
    found : (i : ℕ) → IsPhi x.op → slice_get (x ∷ phis xs) i ≡ Some inst → ((j : ℕ) (y : Inst) → slice_get (phis xs) j ≡ Some y → (slice_get xs j ≡ Some y) × IsPhi y.op) → (slice_get (x ∷ xs) i ≡ Some inst) × IsPhi inst.op
    found zero is e rest = let same : x ≡ inst = cc in (ap Some same, subst (λ (y : Inst). IsPhi y.op) same is)
    found (suc i) is e rest = rest i inst e

    by_op : (op : Op) → x.op ≡ op → (i : ℕ) → slice_get (phis (record { gives = x.gives; op = op } ∷ xs)) i ≡ Some inst
        → ((j : ℕ) (y : Inst) → slice_get (phis xs) j ≡ Some y → (slice_get xs j ≡ Some y) × IsPhi y.op) → (slice_get (x ∷ xs) i ≡ Some inst) × IsPhi inst.op
    by_op (Phi pairs) is i e rest = found i (subst IsPhi (sym is) tt) (ap (λ (op : Op). slice_get (record { gives = x.gives; op = op } ∷ phis xs) i) is ∙ e) rest
    by_op (Binary op flags a b) is i e rest = absurd (let bad : ⊥ = cc in bad)
    by_op (Icmp pred flags ty a b) is i e rest = absurd (let bad : ⊥ = cc in bad)
    by_op (Cast op flags ty a) is i e rest = absurd (let bad : ⊥ = cc in bad)
    by_op (Select c a b) is i e rest = absurd (let bad : ⊥ = cc in bad)
    by_op (Freeze a) is i e rest = absurd (let bad : ⊥ = cc in bad)
    by_op (Alloca ty count) is i e rest = absurd (let bad : ⊥ = cc in bad)
    by_op (Load a) is i e rest = absurd (let bad : ⊥ = cc in bad)
    by_op (Store ty a b) is i e rest = absurd (let bad : ⊥ = cc in bad)
    by_op (Gep ty a indices) is i e rest = absurd (let bad : ⊥ = cc in bad)
    by_op (Call g arguments) is i e rest = absurd (let bad : ⊥ = cc in bad)
    by_op (CallBuiltIn which arguments) is i e rest = absurd (let bad : ⊥ = cc in bad)
    by_op (Ret a) is i e rest = absurd (let bad : ⊥ = cc in bad)
    by_op (Br to) is i e rest = absurd (let bad : ⊥ = cc in bad)
    by_op (CondBr c a b) is i e rest = absurd (let bad : ⊥ = cc in bad)
    by_op (Switch ty a otherwise cases) is i e rest = absurd (let bad : ⊥ = cc in bad)
    by_op Unreachable is i e rest = absurd (let bad : ⊥ = cc in bad)
