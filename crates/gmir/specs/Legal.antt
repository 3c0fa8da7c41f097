-- Generic machine code whose registers the target has: each is a pointer or a scalar of 64 bits.
use Rattle.std.specs.Prelude.{◌≡◌, ℕ, ◌⊎◌, Bool, true, false, slice_get, sum_by, count_by, Some}
use Rattle.gmir.specs.declared.code.GType.{GType}
use Rattle.gmir.specs.declared.code.GType.TheVariants.{S, P0}
use Rattle.gmir.specs.declared.code.GOp.{GOp}
use Rattle.gmir.specs.declared.code.GOp.TheVariants.{Constant}
use Rattle.gmir.specs.declared.code.GInst.{GInst}
use Rattle.gmir.specs.declared.code.GFunction.{GFunction}

-- every type of the function's registers is S 64 or P0
abbrev pub IsLegal : GFunction → Type 0
IsLegal f = (r : ℕ) (ty : GType) → slice_get f.types r ≡ Some ty → (ty ≡ S 64) ⊎ (ty ≡ P0)

abbrev pub is_constant : GOp → Bool
is_constant Constant = true
is_constant _ = false

-- how many constants a function has
abbrev pub constants : GFunction → ℕ
constants f = sum_by (λ insts. count_by (λ (i : GInst). is_constant i.op) insts) f.blocks
