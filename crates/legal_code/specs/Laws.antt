-- What holds of the legal forms of all functions of generic machine code.
use Rattle.gmir.specs.declared.code.GFunction.{GFunction}
use Rattle.gmir.specs.Formed.{IsFormed}
use Rattle.gmir.specs.Refines.{Refines}
use Rattle.gmir.specs.Legal.{IsLegal}
use Rattle.legal_code.specs.Legal.{KeepsRegisters, HasWideAddresses, legalized}

-- it is legal, and the function's registers are its first
abbrev pub LegalFormsAreLegal : Type 0
LegalFormsAreLegal = (f : GFunction) → IsLegal (legalized f) × KeepsRegisters f (legalized f)

-- it is well formed
abbrev pub LegalFormsAreFormed : Type 0
LegalFormsAreFormed = (f : GFunction) → IsFormed f → HasWideAddresses f → IsFormed (legalized f)

-- it refines the function
abbrev pub LegalFormsRefine : Type 0
LegalFormsRefine = (f : GFunction) → IsFormed f → HasWideAddresses f → Refines f (legalized f)
