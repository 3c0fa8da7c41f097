-- What quoted text says. LLVM's lexer: `\` and two hexadecimal digits are one byte, and `\\` is one backslash.
use Rattle.std.specs.Prelude.{ℕ, ◌+◌, ◌*◌, ◌-◌, ◌&&◌, nat_eq, nat_le, List, [], ◌∷◌, ◌++◌, Option, Some, None, if◌then◌else◌}
use Rattle.ir_text.specs.declared.token.Spelling.{Spelling}
use Rattle.ir_text.specs.declared.token.Spelling.TheVariants.{Bare, Numbered, Quoted}
use Rattle.ir_text.specs.declared.quoted.Escape.{Escape}
use Rattle.ir_text.specs.declared.quoted.Escape.TheVariants.{Closed, Opened, Half}

-- the value of a hexadecimal digit
abbrev pub hexadecimal : ℕ → Option ℕ
hexadecimal digit =
    if nat_le 48 digit && nat_le digit 57 then Some (digit - 48)
    else if nat_le 65 digit && nat_le digit 70 then Some (digit - 55)
    else if nat_le 97 digit && nat_le digit 102 then Some (digit - 87)
    else None

abbrev pub pair_of : Option ℕ → Option ℕ → Option ℕ
pair_of (Some high) (Some low) = Some (16 * high + low)
pair_of (Some high) None = None
pair_of None low = None

-- the byte of two hexadecimal digits
abbrev pub escaped : ℕ → ℕ → Option ℕ
escaped high low = pair_of (hexadecimal high) (hexadecimal low)

-- a byte before other bytes, where both are there
abbrev pub before : Option ℕ → Option (List ℕ) → Option (List ℕ)
before (Some byte) (Some bytes) = Some (byte ∷ bytes)
before (Some byte) None = None
before None bytes = None

-- the bytes of quoted text behind no backslash, behind one, or behind one and a digit; none where a backslash stands before anything else than another or two hexadecimal digits
unfoldable pub unquoted_behind : Escape → List ℕ → Option (List ℕ)
unquoted_behind Closed [] = Some []
unquoted_behind Opened [] = None
unquoted_behind (Half high) [] = None
unquoted_behind Closed (byte ∷ text) = if nat_eq byte 92 then unquoted_behind Opened text else before (Some byte) (unquoted_behind Closed text)
unquoted_behind Opened (byte ∷ text) = if nat_eq byte 92 then before (Some 92) (unquoted_behind Closed text) else unquoted_behind (Half byte) text
unquoted_behind (Half high) (byte ∷ text) = before (escaped high byte) (unquoted_behind Closed text)

-- the bytes of quoted text
abbrev pub unquoted : List ℕ → Option (List ℕ)
unquoted text = unquoted_behind Closed text

-- the bytes of a name by how it is written: a bare part and a number are their own
abbrev pub said : Spelling → List ℕ → Option (List ℕ)
said Bare written = Some written
said Numbered written = Some written
said Quoted written = unquoted written

-- bytes before others, where those are there
abbrev pub onto : List ℕ → Option (List ℕ) → Option (List ℕ)
onto bytes None = None
onto bytes (Some more) = Some (bytes ++ more)

-- what quoted text says behind one of its bytes, where it says something
abbrev pub goes_on : Option Escape → List ℕ → List ℕ → Option (List ℕ)
goes_on None bytes text = None
goes_on (Some next) bytes text = onto bytes (unquoted_behind next text)
