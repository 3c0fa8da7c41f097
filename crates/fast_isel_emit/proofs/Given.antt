-- A built-in that moves bytes has three arguments.
use Rattle.std.proofs.Common.{◌≡◌, refl, ◌<◌, List, [], ◌∷◌, length, arith}
use Rattle.ir_core.specs.declared.types.Ty.{Ty}
use Rattle.ir_core.specs.declared.code.Operand.{Operand}
use Rattle.ir_core.specs.declared.code.BuiltIn.{BuiltIn}
use Rattle.ir_core.specs.declared.program.Global.{Global}
use Rattle.quick_code.specs.Data.{moved_code}

pub few_arguments : (globals : List Global) (which : BuiltIn) (arguments : List (Ty × Operand)) → length arguments < 3 → moved_code globals which arguments ≡ []
few_arguments globals which [] lt = refl
few_arguments globals which (a ∷ []) lt = refl
few_arguments globals which (a ∷ b ∷ []) lt = refl
few_arguments globals which (a ∷ b ∷ c ∷ more) lt = absurd (let bad : ⊥ = omega (arith, lt) in bad)
