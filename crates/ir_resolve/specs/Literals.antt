-- What numbers say in the place of a constant.
use Rattle.std.specs.Prelude.{ℕ, ◌+◌, ◌-◌, ◌*◌, ◌^◌, Bool, nat_lt, nat_le, Option, Some, None, Result, if◌then◌else◌}
use Rattle.ir_text.specs.declared.name.Number.{Number}
use Rattle.ir_core.specs.declared.types.TheConstants.{MAX_WIDTH}
use Rattle.ir_types.specs.declared.fault.Fault.{Fault}
use Rattle.ir_types.specs.declared.fault.Fault.TheVariants as faults
use Rattle.ir_types.specs.Walk.{or_fault}
use Rattle.ir_types.specs.Numbers.{natural, literal}

abbrev pub literal_from : ℕ → Bool → Option ℕ → Option ℕ
literal_from w is_negative None = None
literal_from w is_negative (Some n) = literal w is_negative n

-- a number of a width
unfoldable pub literal_of : Number → ℕ → Result ℕ Fault
literal_of number w = or_fault (faults.Syntax number.left) (literal_from w number.is_negative (natural number.digits))

-- a number below a bound, read with its sign and modulo 2^64
abbrev pub widened : ℕ → ℕ → ℕ
widened bound n = if nat_lt (2 * n) bound then n else n + 2 ^ 64 - bound

-- a literal of a width, sign-extended to 64 bits
abbrev pub extended : ℕ → ℕ → Option ℕ
extended w n = if nat_le w MAX_WIDTH then if nat_lt n (2 ^ w) then Some (widened (2 ^ w) n) else None else None
