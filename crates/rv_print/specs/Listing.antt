-- The listing of words: a line for each.
use Rattle.std.specs.Prelude.{ℕ, ℤ, ◌/◌, ◌%◌, ◌^◌, List, [], ◌∷◌, ◌++◌, map, Option, Some, None, false, codes}
use Rattle.std.specs.Fmt.{digit_glyph, digits, signed_decimal}
use Rattle.std.specs.List.{concat}
use Rattle.rv_core.specs.declared.reg.Reg.{Reg}
use Rattle.rv_core.specs.declared.instr.Instr.{Instr}
use Rattle.rv_core.specs.declared.instr.Instr.TheVariants.{Lui, Auipc, Jal, Jalr, Branch, Load, Store, Imm, Op, Fence, Ecall, Ebreak}
use Rattle.rv_encode.specs.Reading.{instr_of}
use Rattle.rv_print.specs.Names.{reg_name, branch_name, load_name, store_name, imm_name, op_name}

-- a number's hexadecimal digits in lower case, without zeros before them
abbrev pub hex : ℕ → List ℕ
hex n = digits 16 false n

-- a byte as two of them
abbrev pub two_digits : ℕ → List ℕ
two_digits byte = digit_glyph false (byte / 16) ∷ digit_glyph false (byte % 16) ∷ []

-- a word as eight, its highest byte first
abbrev pub eight_digits : ℕ → List ℕ
eight_digits word = two_digits (word / 2 ^ 24) ++ two_digits (word / 2 ^ 16 % 256) ++ two_digits (word / 2 ^ 8 % 256) ++ two_digits (word % 256)

abbrev pub name_of : Instr → List ℕ
name_of (Lui rd field) = codes "lui"
name_of (Auipc rd field) = codes "auipc"
name_of (Jal rd offset) = codes "jal"
name_of (Jalr rd rs1 offset) = codes "jalr"
name_of (Branch op rs1 rs2 offset) = branch_name op
name_of (Load op rd rs1 offset) = load_name op
name_of (Store op rs2 rs1 offset) = store_name op
name_of (Imm op rd rs1 number) = imm_name op
name_of (Op op rd rs1 rs2) = op_name op
name_of Fence = codes "fence"
name_of Ecall = codes "ecall"
name_of Ebreak = codes "ebreak"

-- an offset from a register
abbrev pub from_base : ℤ → Reg → List ℕ
from_base offset base = signed_decimal offset ++ codes "(" ++ reg_name base ++ codes ")"

-- an upper immediate as its field
abbrev pub field_text : ℕ → List ℕ
field_text field = codes "0x" ++ hex field

abbrev pub operands_of : Instr → List (List ℕ)
operands_of (Lui rd field) = reg_name rd ∷ field_text field ∷ []
operands_of (Auipc rd field) = reg_name rd ∷ field_text field ∷ []
operands_of (Jal rd offset) = reg_name rd ∷ signed_decimal offset ∷ []
operands_of (Jalr rd rs1 offset) = reg_name rd ∷ from_base offset rs1 ∷ []
operands_of (Branch op rs1 rs2 offset) = reg_name rs1 ∷ reg_name rs2 ∷ signed_decimal offset ∷ []
operands_of (Load op rd rs1 offset) = reg_name rd ∷ from_base offset rs1 ∷ []
operands_of (Store op rs2 rs1 offset) = reg_name rs2 ∷ from_base offset rs1 ∷ []
operands_of (Imm op rd rs1 number) = reg_name rd ∷ reg_name rs1 ∷ signed_decimal number ∷ []
operands_of (Op op rd rs1 rs2) = reg_name rd ∷ reg_name rs1 ∷ reg_name rs2 ∷ []
operands_of Fence = []
operands_of Ecall = []
operands_of Ebreak = []

-- a comma between two operands
abbrev pub separated : List (List ℕ) → List ℕ
separated [] = []
separated (x ∷ []) = x
separated (x ∷ y ∷ xs) = x ++ codes "," ++ separated (y ∷ xs)

-- a space before the operands, where there are any
abbrev pub spaced : List (List ℕ) → List ℕ
spaced [] = []
spaced (x ∷ xs) = codes " " ++ separated (x ∷ xs)

abbrev pub instr_text : Instr → List ℕ
instr_text i = name_of i ++ spaced (operands_of i)

-- a word that spells nothing is called so
abbrev pub spelled_text : Option Instr → List ℕ
spelled_text None = codes "word"
spelled_text (Some i) = instr_text i

abbrev pub line : ℕ → List ℕ
line word = eight_digits word ++ codes " " ++ spelled_text (instr_of word) ++ codes "\n"

abbrev pub listing_of : List ℕ → List ℕ
listing_of words = concat (map line words)
