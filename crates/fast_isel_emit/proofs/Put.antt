-- Code behind code.
use Rattle.std.proofs.Common.{◌≡◌, ◌≢◌, refl, sym, ap, ap₂, ◌∙◌, ℕ, suc, ◌+◌, ◌<◌, ◌≤◌, List, [], ◌∷◌, ◌++◌, length, get_or, map, arith, append_assoc}
use Rattle.std.specs.Prelude.{drop}
use Rattle.std.proofs.Math.Seq.{drop-cons}
use Rattle.std.proofs.lemmas.List.{append-nil}
use Rattle.ir_core.specs.declared.types.Ty.{Ty}
use Rattle.ir_core.specs.declared.code.Operand.{Operand}
use Rattle.ir_core.specs.declared.code.BuiltIn.{BuiltIn}
use Rattle.ir_core.specs.declared.code.BuiltIn.TheVariants.{MemCpy, MemMove, MemSet, SMax, SMin, UMax, UMin, Abs}
use Rattle.rv_core.specs.declared.instr.Instr.{Instr}
use Rattle.rv_asm.specs.Code.{Code}
use Rattle.ir_meaning.specs.Operators.{width}
use Rattle.ir_core.specs.declared.program.Global.{Global}
use Rattle.code_pieces.specs.Code.{argument_reg, store_value}
use Rattle.quick_code.specs.Narrow.{zero_extended}
use Rattle.quick_code.specs.Operations.{value_code, values_code, built_in_operands}
use Rattle.quick_code.specs.Blocks.{arguments_code}
use Rattle.code_emit.specs.Written.{put_code}
use Rattle.code_emit.proofs.Put.{code_code, code_none, more_code, drop-past, then-code}

abbrev seconds : List (Ty × Operand) → List Operand
seconds = map (λ argument. argument.1)

pub args_done : (globals : List Global) (code total : Code) (arguments : List (Ty × Operand)) (i r : ℕ) → length arguments ≤ i → put_code code (values_code globals r (seconds (drop i arguments))) ≡ total → code ≡ total
args_done globals code total arguments i r le h = sym (code_none code) ∙ ap (λ (xs : List (Ty × Operand)). put_code code (values_code globals r (seconds xs))) (sym (drop-past arguments i le)) ∙ h

pub args_more : (globals : List Global) (code one total : Code) (arguments : List (Ty × Operand)) (i p : ℕ) (d : Ty × Operand) → i < length arguments → put_code code (values_code globals (10 + p) (seconds (drop i arguments))) ≡ total
    → one ≡ put_code code (value_code globals (argument_reg p) (get_or arguments i d).1) → put_code one (values_code globals (10 + (p + 1)) (seconds (drop (i + 1) arguments))) ≡ total
args_more globals code one total arguments i p d lt h e =
    let next : 10 + (p + 1) ≡ 10 + p + 1 = omega arith in
    ap (λ (k : ℕ). put_code one (values_code globals k (seconds (drop (i + 1) arguments)))) next
    ∙ more_code code one total (value_code globals (argument_reg p) (get_or arguments i d).1) (values_code globals (10 + p + 1) (seconds (drop (i + 1) arguments)))
    (ap (λ (k : ℕ). put_code code (value_code globals (argument_reg p) (get_or arguments i d).1 ++ values_code globals (10 + p + 1) (seconds (drop k arguments)))) (let z : i + 1 ≡ suc i = omega arith in z)
    ∙ ap (λ (xs : List (Ty × Operand)). put_code code (values_code globals (10 + p) (seconds xs))) (sym (drop-cons arguments i d lt)) ∙ h) e

pub params_done : (code total : Code) (tys : List Ty) (i p : ℕ) → length tys ≤ i → put_code code (arguments_code p (drop i tys)) ≡ total → code ≡ total
params_done code total tys i p le h = sym (code_none code) ∙ ap (λ (xs : List Ty). put_code code (arguments_code p xs)) (sym (drop-past tys i le)) ∙ h

pub params_more : (code one total : Code) (tys : List Ty) (i p : ℕ) (d : Ty) → i < length tys → put_code code (arguments_code p (drop i tys)) ≡ total
    → one ≡ put_code code (zero_extended (width (get_or tys i d)) (argument_reg p) ++ store_value (argument_reg p) p) → put_code one (arguments_code (p + 1) (drop (i + 1) tys)) ≡ total
params_more code one total tys i p d lt h e =
    let ty = get_or tys i d in
    let cut = zero_extended (width ty) (argument_reg p) in
    let store = store_value (argument_reg p) p in
    more_code code one total (cut ++ store) (arguments_code (p + 1) (drop (i + 1) tys))
    (ap (put_code code) (append_assoc cut store (arguments_code (p + 1) (drop (i + 1) tys)))
    ∙ ap (λ (k : ℕ). put_code code (cut ++ (store ++ arguments_code (p + 1) (drop k tys)))) (let z : i + 1 ≡ suc i = omega arith in z)
    ∙ ap (λ (xs : List Ty). put_code code (arguments_code p xs)) (sym (drop-cons tys i d lt)) ∙ h) e

-- ---- a few operands

pub one_value : (code new : Code) (xs : List Instr) → new ≡ put_code code xs → new ≡ put_code code (xs ++ [])
one_value code new xs e = e ∙ ap (put_code code) (sym (append-nil xs))

pub two_values : (code one new : Code) (xs ys : List Instr) → one ≡ put_code code xs → new ≡ put_code one ys → new ≡ put_code code (xs ++ (ys ++ []))
two_values code one new xs ys e f = one_value one new ys f ∙ ap (λ (c : Code). put_code c (ys ++ [])) e ∙ code_code code xs (ys ++ [])

pub three_values : (code one two new : Code) (xs ys zs : List Instr) → one ≡ put_code code xs → two ≡ put_code one ys → new ≡ put_code two zs → new ≡ put_code code (xs ++ (ys ++ (zs ++ [])))
three_values code one two new xs ys zs e f g = two_values one two new ys zs f g ∙ ap (λ (c : Code). put_code c (ys ++ (zs ++ []))) e ∙ code_code code xs (ys ++ (zs ++ []))

pub five_code : (code a b c d new : Code) (u v w x y : List Instr) → a ≡ put_code code u → b ≡ put_code a v → c ≡ put_code b w → d ≡ put_code c x → new ≡ put_code d y → new ≡ put_code code (u ++ (v ++ (w ++ (x ++ y))))
five_code code a b c d new u v w x y h1 h2 h3 h4 h5 =
    then-code code a new u (v ++ (w ++ (x ++ y))) h1 (then-code a b new v (w ++ (x ++ y)) h2 (then-code b c new w (x ++ y) h3 (then-code c d new x y h4 h5)))

-- the operands of a built-in of two arguments
pub two_arguments : (which : BuiltIn) (arguments : List (Ty × Operand)) (x y : Ty × Operand) → length arguments ≡ 2 → which ≢ Abs → x ≡ get_or arguments 0 x → y ≡ get_or arguments 1 y → x.1 ∷ y.1 ∷ [] ≡ built_in_operands which arguments
two_arguments which [] x y two ne ex ey = absurd (let bad : ⊥ = omega (arith, two) in bad)
two_arguments which (a ∷ []) x y two ne ex ey = absurd (let bad : ⊥ = omega (arith, two) in bad)
two_arguments which (a ∷ b ∷ c ∷ more) x y two ne ex ey = absurd (let bad : ⊥ = omega (arith, two) in bad)
two_arguments Abs (a ∷ b ∷ []) x y two ne ex ey = absurd (ne refl)
two_arguments SMax (a ∷ b ∷ []) x y two ne ex ey = ap₂ (λ (p q : Ty × Operand). p.1 ∷ q.1 ∷ []) ex ey
two_arguments SMin (a ∷ b ∷ []) x y two ne ex ey = ap₂ (λ (p q : Ty × Operand). p.1 ∷ q.1 ∷ []) ex ey
two_arguments UMax (a ∷ b ∷ []) x y two ne ex ey = ap₂ (λ (p q : Ty × Operand). p.1 ∷ q.1 ∷ []) ex ey
two_arguments UMin (a ∷ b ∷ []) x y two ne ex ey = ap₂ (λ (p q : Ty × Operand). p.1 ∷ q.1 ∷ []) ex ey
two_arguments MemCpy (a ∷ b ∷ []) x y two ne ex ey = ap₂ (λ (p q : Ty × Operand). p.1 ∷ q.1 ∷ []) ex ey
two_arguments MemMove (a ∷ b ∷ []) x y two ne ex ey = ap₂ (λ (p q : Ty × Operand). p.1 ∷ q.1 ∷ []) ex ey
two_arguments MemSet (a ∷ b ∷ []) x y two ne ex ey = ap₂ (λ (p q : Ty × Operand). p.1 ∷ q.1 ∷ []) ex ey

pub one_argument : (arguments : List (Ty × Operand)) (x : Ty × Operand) → length arguments ≡ 2 → x ≡ get_or arguments 0 x → x.1 ∷ [] ≡ built_in_operands Abs arguments
one_argument [] x two ex = absurd (let bad : ⊥ = omega (arith, two) in bad)
one_argument (a ∷ more) x two ex = ap (λ (p : Ty × Operand). p.1 ∷ []) ex
