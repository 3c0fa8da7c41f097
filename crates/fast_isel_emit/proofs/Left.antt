-- Of types and arguments: the first of those that are left.
use Rattle.std.proofs.Common.{◌≡◌, sym, ap, ◌∙◌, ℕ, suc, ◌+◌, ◌<◌, List, ◌∷◌, length, get_or, true, arith}
use Rattle.std.proofs.Math.Seq.{drop-cons}
use Rattle.std.specs.Prelude.{drop}
use Rattle.std.proofs.lemmas.Bool.{and_parts}
use Rattle.ir_core.specs.declared.types.Ty.{Ty}
use Rattle.ir_core.specs.declared.code.Operand.{Operand}
use Rattle.fast_isel_emit.specs.Operands.{is_width, are_widths, is_operand, are_arguments}

-- the first of the types, or of the arguments, that are left
pub width_first : (tys : List Ty) (i : ℕ) (d : Ty) → i < length tys → are_widths (drop i tys) ≡ true → (is_width (get_or tys i d) ≡ true) × (are_widths (drop (i + 1) tys) ≡ true)
width_first tys i d lt h =
    let all = drop-cons tys i d lt ∙ ap (λ (k : ℕ). get_or tys i d ∷ drop k tys) (let z : suc i ≡ i + 1 = omega arith in z) in
    and_parts (is_width (get_or tys i d)) (are_widths (drop (i + 1) tys)) (sym (ap are_widths all) ∙ h)

pub argument_first : (n : ℕ) (arguments : List (Ty × Operand)) (i : ℕ) (d : Ty × Operand) → i < length arguments → are_arguments n (drop i arguments) ≡ true
    → (is_operand n (get_or arguments i d).1 ≡ true) × (are_arguments n (drop (i + 1) arguments) ≡ true)
argument_first n arguments i d lt h =
    let all = drop-cons arguments i d lt ∙ ap (λ (k : ℕ). get_or arguments i d ∷ drop k arguments) (let z : suc i ≡ i + 1 = omega arith in z) in
    and_parts (is_operand n (get_or arguments i d).1) (are_arguments n (drop (i + 1) arguments)) (sym (ap (are_arguments n) all) ∙ h)
