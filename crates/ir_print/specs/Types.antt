-- How types are printed.
use Rattle.std.specs.Prelude.{ℕ, ◌+◌, ◌==◌, nat_eq, length, Bool, true, false, List, [], ◌∷◌, ◌++◌, codes, decimal, if◌then◌else◌}
use Rattle.ir_core.specs.declared.types.Ty.{Ty}
use Rattle.ir_core.specs.declared.types.Ty.TheVariants as values
use Rattle.ir_core.specs.declared.types.MemTy.{MemTy, fold-MemTy}
use Rattle.ir_core.specs.declared.types.MemTy.TheOpen.{MemTy-F, Int, Ptr, Array, Struct}

abbrev pub integer_text : ℕ → List ℕ
integer_text width = codes "i" ++ decimal width

abbrev pub ty_text : Ty → List ℕ
ty_text values.Void = codes "void"
ty_text (values.Int width) = integer_text width
ty_text values.Ptr = codes "ptr"

-- a comma before each item but the first
abbrev pub comma : ℕ → List ℕ
comma number = if number == 0 then [] else codes ", "

-- the texts of items from this number on, with a comma before each but the first
unfoldable pub listed : {X : Type 0} → (X → List ℕ) → ℕ → List X → List ℕ
listed text number [] = []
listed text number (x ∷ xs) = comma number ++ text x ++ listed text (number + 1) xs

abbrev pub opening : Bool → List ℕ
opening true = codes "<{"
opening false = codes "{"

abbrev pub ending : Bool → List ℕ
ending true = codes "}>"
ending false = codes "}"

-- a struct with parts has blanks within its braces
abbrev pub opening_of : Bool → Bool → List ℕ
opening_of packed true = opening packed
opening_of packed false = opening packed ++ codes " "

abbrev pub ending_of : Bool → Bool → List ℕ
ending_of packed true = ending packed
ending_of packed false = codes " " ++ ending packed

-- the text of a type, from those of its parts
abbrev pub memory_step : MemTy-F (List ℕ) → List ℕ
memory_step (Int width) = integer_text width
memory_step Ptr = codes "ptr"
memory_step (Array count element) = codes "[" ++ decimal count ++ codes " x " ++ element ++ codes "]"
memory_step (Struct fields packed) = opening_of packed (nat_eq (length fields) 0) ++ listed (λ text. text) 0 fields ++ ending_of packed (nat_eq (length fields) 0)

abbrev pub memory_text : MemTy → List ℕ
memory_text = fold-MemTy (List ℕ) memory_step
