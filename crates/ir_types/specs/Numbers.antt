-- What digits say.
use Rattle.std.specs.Prelude.{◌≡◌, ◌≤◌, ◌<◌, ◌^◌, ℕ, zero, suc, ◌+◌, ◌*◌, ◌-◌, ◌%◌, Bool, true, false, nat_lt, nat_le, List, [], ◌∷◌, Option, Some, None, if◌then◌else◌}
use Rattle.ir_core.specs.declared.types.TheConstants.{MAX_WIDTH}

unfoldable pub digits_onto : ℕ → List ℕ → ℕ
digits_onto n [] = n
digits_onto n (digit ∷ digits) = digits_onto (n * 10 + (digit - 48)) digits

-- the number that decimal digits stand for
abbrev pub decimal : List ℕ → ℕ
decimal digits = digits_onto 0 digits

-- a number below 2^128
abbrev pub small : ℕ → Option ℕ
small n = if nat_lt n (2 ^ 128) then Some n else None

-- the number that decimal digits stand for, where it is below 2^128
abbrev pub natural : List ℕ → Option ℕ
natural digits = small (decimal digits)

-- a negative number modulo a bound, where it isn't below minus half of that
abbrev pub negative : ℕ → ℕ → Option ℕ
negative bound n = if nat_le (2 * n) bound then Some ((bound - n) % bound) else None

abbrev pub signed : ℕ → Bool → ℕ → Option ℕ
signed bound false n = if nat_lt n bound then Some n else None
signed bound true n = negative bound n

-- a literal of a width: a number from -2^(w-1) to 2^w - 1, modulo 2^w
abbrev pub literal : ℕ → Bool → ℕ → Option ℕ
literal w is_negative n = if nat_le w MAX_WIDTH then signed (2 ^ w) is_negative n else None
