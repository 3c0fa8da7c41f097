-- Numbers in a list of calls.
use Rattle.std.specs.Prelude.{ℕ, ◌==◌, ◌&&◌, true, false, nat_le, List, [], ◌∷◌, Option, Some, None, codes, if◌then◌else◌}
use Rattle.std.specs.Char.{is_ascii_digit}
use Rattle.ir_core.specs.declared.types.TheConstants.{MAX_WIDTH}
use Rattle.ir_types.specs.Numbers.{decimal, literal}
use Rattle.jit_calls.specs.Form.{Form, ◌>>=◌, yield, chosen, by_next, begins, literal as these, run}

abbrev pub if_some : List ℕ → Option (List ℕ)
if_some [] = None
if_some (digit ∷ digits) = Some (digit ∷ digits)

-- one digit or more
unfoldable pub some_digits : Form (List ℕ)
some_digits = do
  digits ← run is_ascii_digit
  chosen (if_some digits)

abbrev pub if_between : ℕ → ℕ → ℕ → Option ℕ
if_between least most n = if nat_le least n && nat_le n most then Some n else None

-- a number in these bounds, both included
unfoldable pub number_between : ℕ → ℕ → Form ℕ
number_between least most = do
  digits ← some_digits
  chosen (if_between least most (decimal digits))

-- a number of a width: its value, where it is from -2^(w-1) to 2^w - 1
unfoldable pub number : ℕ → Form (Option ℕ)
number width =
    by_next (begins (codes "-"))
    (do
      _ ← these (codes "-")
      digits ← some_digits
      yield (literal width true (decimal digits)))
    (do
      digits ← some_digits
      yield (literal width false (decimal digits)))

-- a width; 0, which nothing has, where it is above the greatest
abbrev pub width_of : ℕ → ℕ
width_of n = if nat_le n MAX_WIDTH then n else 0

-- a value that integers of one bit alone have
abbrev pub if_bit : ℕ → ℕ → Option (Option ℕ)
if_bit width value = if width == 1 then Some (Some value) else None
