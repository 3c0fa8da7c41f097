-- The indices of an address of a checked module lead from part to part.
use Rattle.std.proofs.Common.{◌≡◌, refl, sym, ap, subst, ◌∙◌, ℕ, ◌+◌, ◌-◌, ◌*◌, ◌%◌, ◌^◌, ◌<◌, ◌≤◌, List, [], ◌∷◌, length, ◌⊎◌, inl, inr, Option, Some, None, Bool, true, false, cond, arith}
use Rattle.std.specs.Prelude.{slice_get, nat_lt, sum_by, ℤ}
use Rattle.std.proofs.Math.Pow.{pow_mono}
use Rattle.std.proofs.lemmas.Nat.{pow-add}
use Rattle.std.proofs.lemmas.Bool.{cases_lt, and_parts, lt-ltb}
use Rattle.ir_core.specs.declared.types.Ty.{Ty}
use Rattle.ir_core.specs.declared.types.Ty.TheVariants.{Void, Int, Ptr}
use Rattle.ir_core.specs.declared.types.MemTy.{MemTy, roll-MemTy, out-MemTy, roll-out-MemTy}
use Rattle.ir_core.specs.declared.types.MemTy.TheVariants.{rolls-Array, rolls-Struct, Array, Struct}
use Rattle.ir_core.specs.declared.types.MemTy.TheOpen as layer
use Rattle.ir_core.specs.declared.code.Operand.{Operand}
use Rattle.ir_core.specs.declared.code.Operand.TheVariants.{Value as Local, Num, Null, Place, Poison}
use Rattle.rj_num.specs.Width.{modulo}
use Rattle.ir_flow.specs.Limits.{nodes}
use Rattle.ir_flow.proofs.Stops.{nodes-Struct}
use Rattle.ir_data.proofs.Nodes.{fields-few, field-few, element-few}
use Rattle.ir_meaning.specs.Operators.{width}
use Rattle.ir_meaning.specs.Memory.{index_64}
use Rattle.ir_meaning.specs.Typed.{IsInteger, IsOperand, AreIndices}
use Rattle.ir_verify.specs.Types.{leads_on, leads_into, is_part, all_int}
use Rattle.ir_verify.proofs.Lists.{is_below}
use Rattle.quick_code.proofs.Narrow.{positive, negative}
use Rattle.quick_code.specs.Parts.{is_index, of_field, is_step, are_steps, is_path}

width-least : (ty : Ty) → IsInteger ty → 1 ≤ width ty
width-least Void is = absurd is
width-least (Int w) is = is.0
width-least Ptr is = absurd is

width-most : (ty : Ty) → IsInteger ty → width ty ≤ 64
width-most Void is = absurd is
width-most (Int w) is = is.1
width-most Ptr is = absurd is

-- an index that is an integer is a value, a literal or poison
index-is : (tys : List Ty) (ty : Ty) (o : Operand) → IsInteger ty → IsOperand tys ty o → is_index o ≡ true
index-is tys ty (Local number) is h = refl
index-is tys ty (Num n) is h = refl
index-is tys ty Null is h = absurd (subst IsInteger h is)
index-is tys ty (Place global offset) is h = absurd (subst IsInteger h is)
index-is tys ty Poison is h = refl

-- a number of a width, read with its sign in 64 bits, is itself where that is small
near : (w n : ℕ) → 1 ≤ w → w ≤ 64 → n < 2 ^ w → index_64 w n < 2 ^ 32 → index_64 w n ≡ n
near w n one most lt small = by_half (cases_lt n (2 ^ (w - 1)))
  where
    wide : 2 ^ w ≤ 2 ^ 64
    wide = pow_mono most

    halved : 2 ^ (w - 1) * 2 ≡ 2 ^ w
    halved = sym (pow-add 2 (w - 1) 1) ∙ ap (λ (k : ℕ). 2 ^ k) (let z : w - 1 + 1 ≡ w = omega (arith, one) in z)

    half : 2 ^ (w - 1) ≤ 2 ^ 63
    half = let le : w - 1 ≤ 63 = omega (arith, most, one) in pow_mono le

    by_half : (n < 2 ^ (w - 1)) ⊎ (2 ^ (w - 1) ≤ n) → index_64 w n ≡ n
    by_half (inl h) = ap (λ (z : ℤ). modulo 64 z) (positive w n h) ∙ omega (arith, lt, wide)
    by_half (inr h) =
        let is : index_64 w n ≡ 2 ^ 64 - 1 - (2 ^ w - n - 1) % 2 ^ 64 = ap (λ (z : ℤ). modulo 64 z) (negative w n h lt) in
        absurd (let bad : ⊥ = omega (arith, is, small, h, lt, wide, halved, half) in bad)

-- ---- indices

-- what leads on in a type of few types goes from part to part
abbrev Leads : List (Ty × Operand) → Type 0
Leads indices = (part : MemTy) → nodes part ≤ 4096 → leads_into indices part ≡ true → are_steps indices part ≡ true

step-struct : (tys : List Ty) (indices : List (Ty × Operand)) (fields : List MemTy) (packed : Bool) (ty : Ty) (o : Operand) → sum_by nodes fields ≤ 4096 → IsInteger ty → IsOperand tys ty o → Leads indices
    → leads_on (leads_into indices) (layer.Struct fields packed) o ≡ true → is_step (are_steps indices) (layer.Struct fields packed) (ty, o) ≡ true
step-struct tys indices fields packed ty (Local number) few is h rest leads = absurd (let bad : false ≡ true = leads in cc)
step-struct tys indices fields packed ty Null few is h rest leads = absurd (let bad : false ≡ true = leads in cc)
step-struct tys indices fields packed ty (Place global offset) few is h rest leads = absurd (let bad : false ≡ true = leads in cc)
step-struct tys indices fields packed ty Poison few is h rest leads = absurd (let bad : false ≡ true = leads in cc)
step-struct tys indices fields packed ty (Num n) few is h rest leads = by_named (slice_get fields n) refl
  where
    j : ℕ
    j = index_64 (width ty) n

    many : length fields ≤ 4096
    many = let l = fields-few fields in omega (arith, l, few)

    narrow : nat_lt (length fields) (2 ^ 32) ≡ true
    narrow = lt-ltb (length fields) (2 ^ 32) (let l = many in omega (arith, l))

    by_named : (f : Option MemTy) → slice_get fields n ≡ f → is_step (are_steps indices) (layer.Struct fields packed) (ty, Num n) ≡ true
    by_named None e = absurd (let none : leads_on (leads_into indices) (layer.Struct fields packed) (Num n) ≡ false = rw e refl in let bad : false ≡ true = sym none ∙ leads in cc)
    by_named (Some field) e = ap (λ (b : Bool). cond b (of_field true (are_steps indices) (slice_get fields j)) false) narrow ∙ by_found (slice_get fields j) refl
      where
        into : leads_into indices field ≡ true
        into = sym (let same : leads_on (leads_into indices) (layer.Struct fields packed) (Num n) ≡ leads_into indices field = rw e refl in same) ∙ leads

        by_found : (f : Option MemTy) → slice_get fields j ≡ f → of_field true (are_steps indices) (slice_get fields j) ≡ true
        by_found None g = ap (λ (o : Option MemTy). of_field true (are_steps indices) o) g
        by_found (Some f) g =
            let below = is_below fields j f g in
            let l = many in
            let same : j ≡ n = near (width ty) n (width-least ty is) (width-most ty is) h (omega (arith, below, l)) in
            let one = field-few fields n field e in
            ap (λ (o : Option MemTy). of_field true (are_steps indices) o) (ap (λ (k : ℕ). slice_get fields k) same ∙ e) ∙ rest field (omega (arith, one, few)) into

steps-are : (tys : List Ty) (indices : List (Ty × Operand)) → AreIndices tys indices → Leads indices
steps-are tys [] typed ty few leads = refl
steps-are tys (index ∷ indices) typed ty few leads =
    by_layer (out-MemTy ty) (subst (λ (t : MemTy). nodes t ≤ 4096) (sym (roll-out-MemTy ty)) few) (steps-are tys indices typed.2) leads
  where
    by_layer : (l : layer.MemTy-F MemTy) → nodes (roll-MemTy l) ≤ 4096 → Leads indices → leads_on (leads_into indices) l index.1 ≡ true → is_step (are_steps indices) l index ≡ true
    by_layer (layer.Int w) few rest leads = absurd (let bad : false ≡ true = leads in cc)
    by_layer layer.Ptr few rest leads = absurd (let bad : false ≡ true = leads in cc)
    by_layer (layer.Array count element) few rest leads =
        let all : nodes (Array count element) ≤ 4096 = subst (λ (t : MemTy). nodes t ≤ 4096) (rolls-Array count element) few in
        let part = element-few count element in
        ap (λ (b : Bool). cond b (are_steps indices element) false) (index-is tys index.0 index.1 typed.0 typed.1) ∙ rest element (omega (arith, all, part)) leads
    by_layer (layer.Struct fields packed) few rest leads =
        let all : nodes (Struct fields packed) ≤ 4096 = subst (λ (t : MemTy). nodes t ≤ 4096) (rolls-Struct fields packed) few in
        let sum = nodes-Struct fields packed in
        step-struct tys indices fields packed index.0 index.1 (omega (arith, all, sum)) typed.0 typed.1 rest leads

pub path-is : (tys : List Ty) (ty : MemTy) (indices : List (Ty × Operand)) → nodes ty ≤ 4096 → AreIndices tys indices → is_part ty indices ≡ true → is_path ty indices ≡ true
path-is tys ty [] few typed h = refl
path-is tys ty (index ∷ indices) few typed h =
    ap (λ (b : Bool). cond b (are_steps indices ty) false) (index-is tys index.0 index.1 typed.0 typed.1)
    ∙ steps-are tys indices typed.2 ty few (and_parts (all_int (index ∷ indices)) (leads_into indices ty) h).1
