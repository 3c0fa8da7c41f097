-- How much code the built-ins that move bytes take.
use Rattle.std.proofs.Common.{[], ◌≤◌, List, ◌∷◌, length, arith}
use Rattle.std.proofs.lemmas.List.{length-append}
use Rattle.ir_core.specs.declared.types.Ty.{Ty}
use Rattle.ir_core.specs.declared.code.Operand.{Operand}
use Rattle.ir_core.specs.declared.code.BuiltIn.{BuiltIn}
use Rattle.ir_core.specs.declared.code.BuiltIn.TheVariants.{MemCpy, MemMove, MemSet, SMax, SMin, UMax, UMin, Abs}
use Rattle.ir_core.specs.declared.program.Global.{Global}
use Rattle.quick_code.specs.Data.{moving_code, moved_code}
use Rattle.quick_code.specs.Operations.{values_code}
use Rattle.quick_code.proofs.Operations.{values-short}

pub moving-short : (which : BuiltIn) → length (moving_code which) ≤ 14
moving-short MemCpy = omega arith
moving-short MemMove = omega arith
moving-short MemSet = omega arith
moving-short SMax = omega arith
moving-short SMin = omega arith
moving-short UMax = omega arith
moving-short UMin = omega arith
moving-short Abs = omega arith

pub moved-short : (globals : List Global) (which : BuiltIn) (arguments : List (Ty × Operand)) → length (moved_code globals which arguments) ≤ 38
moved-short globals which [] = omega arith
moved-short globals which (a ∷ []) = omega arith
moved-short globals which (a ∷ b ∷ []) = omega arith
moved-short globals which (a ∷ b ∷ c ∷ more) =
    let os = a.1 ∷ b.1 ∷ c.1 ∷ [] in
    let l = length-append (values_code globals 5 os) (moving_code which) in
    let x = values-short globals 5 os in
    let y = moving-short which in
    omega (arith, l, x, y)
