use Rattle.std.proofs.Common.{◌≡◌, ℕ, zero, suc, ◌≤◌, List, [], ◌∷◌, ◌++◌, length, drop, min, refl, sym, ap, ◌∙◌, arith, append-nil}
use Rattle.ir_core.specs.declared.types.Ty.{Ty}
use Rattle.jit_calls.specs.Answers.{more_values}
use Rattle.jit_calls.proofs.answers.push_more_values.Goals as goal

more-none : (tys : List Ty) → more_values tys [] ≡ []
more-none [] = refl
more-none (ty ∷ tys) = refl

none-left : (i : ℕ) (tys : List Ty) (values : List ℕ) → min (length tys) (length values) ≤ i → more_values (drop i tys) (drop i values) ≡ []
none-left zero [] values le = refl
none-left (suc i) [] values le = refl
none-left zero (ty ∷ tys) [] le = refl
none-left (suc i) (ty ∷ tys) [] le = more-none (drop i tys)
none-left zero (ty ∷ tys) (value ∷ values) le = absurd (omega arith)
none-left (suc i) (ty ∷ tys) (value ∷ values) le = none-left i tys values (omega arith)

pub returns : goal.returns
returns c = sym (append-nil c.loop-i.page) ∙ ap (λ (more : List ℕ). c.loop-i.page ++ more) (sym (none-left c.loop-i.i c.args.tys.now c.args.values.now (omega (arith, c.loop-i-test.false, c.min-i-end.ensures)))) ∙ c.loop-i.invariant
