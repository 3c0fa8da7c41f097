use Rattle.std.proofs.Common.{◌≡◌, ◌≢◌, ℕ, suc, List, [], ◌∷◌, length, Option, Some, None, refl, ap}
use Rattle.ir_core.specs.declared.types.Ty.{Ty}
use Rattle.jit_calls.specs.Line.{Argument, before, value_of_type, values_of}
use Rattle.jit_calls.proofs.line.values_of.Goals as goal

none-before : (value : Option ℕ) (values : Option (List ℕ)) → None ≡ values → None ≡ before value values
none-before None values e = refl
none-before (Some v) values e = rw (← e) refl

uneven : (tys : List Ty) (args : List Argument) → length tys ≢ length args → None ≡ values_of tys args
uneven [] [] differ = absurd (differ refl)
uneven [] (one ∷ args) differ = refl
uneven (ty ∷ tys) [] differ = refl
uneven (ty ∷ tys) (one ∷ args) differ = none-before (value_of_type ty one) (values_of tys args) (uneven tys args (λ e. differ (ap (λ (n : ℕ). suc n) e)))

pub returns-then-tys-args : goal.returns-then-tys-args
returns-then-tys-args c = uneven c.args.tys.now c.args.args.now c.if-tys-args.true
