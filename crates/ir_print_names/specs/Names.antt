-- How names and quoted bytes are printed.
use Rattle.std.specs.Prelude.{ℕ, ◌+◌, ◌/◌, ◌%◌, Bool, false, not, ◌||◌, ◌&&◌, ◌==◌, nat_lt, nat_le, List, [], ◌∷◌, ◌++◌, codes, if◌then◌else◌}
use Rattle.std.specs.List.{flat_map, list_all}
use Rattle.std.specs.Char.{is_ascii_digit}
use Rattle.ir_text.specs.Token.{is_name_byte}

-- letters, digits, `$`, `.`, `_` and `-`, not beginning with a digit
abbrev pub is_bare : List ℕ → Bool
is_bare [] = false
is_bare (byte ∷ bytes) = not (is_ascii_digit byte) && list_all is_name_byte (byte ∷ bytes)

abbrev pub is_numeral : List ℕ → Bool
is_numeral [] = false
is_numeral (byte ∷ bytes) = list_all is_ascii_digit (byte ∷ bytes)

-- an upper-case hexadecimal digit
abbrev pub hexadecimal_digit : ℕ → ℕ
hexadecimal_digit value = if nat_lt value 10 then 48 + value else 55 + value

-- a byte that stands for itself between quotes: none below 32 or above 126, no quote and no backslash
abbrev pub is_plain : ℕ → Bool
is_plain byte = nat_le 32 byte && nat_le byte 126 && not (byte == 34) && not (byte == 92)

-- a byte between quotes
abbrev pub quoted_byte : ℕ → List ℕ
quoted_byte byte = if is_plain byte then byte ∷ [] else 92 ∷ hexadecimal_digit (byte / 16) ∷ hexadecimal_digit (byte % 16) ∷ []

abbrev pub quoted_text : List ℕ → List ℕ
quoted_text bytes = codes "\"" ++ flat_map quoted_byte bytes ++ codes "\""

-- a name is a bare part or a number where its bytes are one, and else quoted
abbrev pub name_text : List ℕ → List ℕ
name_text bytes = if is_bare bytes || is_numeral bytes then bytes else quoted_text bytes
