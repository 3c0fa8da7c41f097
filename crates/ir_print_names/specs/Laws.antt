-- What is printed is read as what it was.
use Rattle.std.specs.Prelude.{◌≡◌, ℕ, ◌-◌, ◌^◌, ◌<◌, ◌≤◌, Bool, true, false, nat_lt, List, ◌++◌, codes, decimal, Some, if◌then◌else◌}
use Rattle.std.specs.Str.Parse.{digits_value}
use Rattle.std.specs.List.{list_all}
use Rattle.ir_text.specs.declared.token.Spelling.{Spelling}
use Rattle.ir_text.specs.declared.token.Spelling.TheVariants.{Bare}
use Rattle.ir_text.specs.Token.{local, global, number, bytes, is_name_byte, begins, begins_with, token_here}
use Rattle.ir_text.specs.Quoted.{unquoted, said}
use Rattle.ir_print_names.specs.Names.{quoted_text, name_text}
use Rattle.ir_print_names.specs.Numbers.{number_text}

-- bytes behind which stands no byte of a name, when they are printed as the name of a global, are read as a name that says them
abbrev pub NamesReadBack : Type 0
NamesReadBack =
    (name rest : List ℕ) → list_all (λ byte. nat_lt byte 256) name ≡ true → begins is_name_byte rest ≡ false
    → (spelling : Spelling) × (written : List ℕ) × (token_here (codes "@" ++ name_text name ++ rest) ≡ (global spelling written, rest)) × (said spelling written ≡ Some name)

-- quoted bytes of an initial value are read as text that says them
abbrev pub BytesReadBack : Type 0
BytesReadBack =
    (text rest : List ℕ) → list_all (λ byte. nat_lt byte 256) text ≡ true
    → (inner : List ℕ) × (token_here (codes "c" ++ quoted_text text ++ rest) ≡ (bytes inner, rest)) × (unquoted inner ≡ Some text)

-- a value's name, where no byte of a name stands behind it, is read as that name
abbrev pub ValuesReadBack : Type 0
ValuesReadBack =
    (value : ℕ) (rest : List ℕ) → value < 2 ^ 64 → begins is_name_byte rest ≡ false → token_here (codes "%v" ++ decimal value ++ rest) ≡ (local Bare (codes "v" ++ decimal value), rest)

-- the number of a width that digits say, with a sign before them or not
abbrev pub literal_value : ℕ → Bool → List ℕ → ℕ
literal_value width negative digits = if negative then 2 ^ width - digits_value 10 digits else digits_value 10 digits

-- a number of more than one bit, where no byte of a name and no colon stand behind it, is read as digits that say it
abbrev pub NumbersReadBack : Type 0
NumbersReadBack =
    (width n : ℕ) (rest : List ℕ) → 2 ≤ width → width ≤ 128 → n < 2 ^ width → begins is_name_byte rest ≡ false → begins_with 58 rest ≡ false
    → (negative : Bool) × (digits : List ℕ) × (token_here (number_text width n ++ rest) ≡ (number negative digits, rest)) × (literal_value width negative digits ≡ n)
