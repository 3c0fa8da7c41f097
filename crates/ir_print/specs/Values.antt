-- How numbers, addresses, operands and initial values are printed.
use Rattle.std.specs.Prelude.{ℕ, ◌+◌, nat_eq, length, Bool, ◌==◌, List, [], ◌∷◌, ◌++◌, slice_get, Option, Some, None, codes, decimal, if◌then◌else◌}
use Rattle.ir_core.specs.declared.types.Ty.{Ty}
use Rattle.ir_core.specs.declared.types.Ty.TheVariants as values
use Rattle.ir_core.specs.declared.types.MemTy.{MemTy, out-MemTy}
use Rattle.ir_core.specs.declared.types.MemTy.TheOpen as memory
use Rattle.ir_core.specs.declared.code.Operand.{Operand}
use Rattle.ir_core.specs.declared.code.Operand.TheVariants as operands
use Rattle.ir_core.specs.declared.program.Init.{Init, fold-Init}
use Rattle.ir_core.specs.declared.program.Init.TheOpen as inits
use Rattle.ir_core.specs.declared.program.Global.{Global}
use Rattle.ir_print_names.specs.Names.{name_text, quoted_text}
use Rattle.ir_print_names.specs.Numbers.{number_text}
use Rattle.ir_print.specs.Types.{ty_text, comma, opening_of, ending_of, memory_text}

abbrev pub width_of : Ty → ℕ
width_of (values.Int width) = width
width_of _ = 0

abbrev pub width_of_memory : MemTy → ℕ
width_of_memory ty = width_of_layer (out-MemTy ty)
  where
    width_of_layer : memory.MemTy-F MemTy → ℕ
    width_of_layer (memory.Int width) = width
    width_of_layer _ = 0

abbrev pub global_of : Option Global → List ℕ
global_of None = []
global_of (Some global) = global.name

-- `@NAME` of a global by its number
abbrev pub global_text : List Global → ℕ → List ℕ
global_text globals k = codes "@" ++ name_text (global_of (slice_get globals k))

-- the address of a global, and an offset
abbrev pub place_text : List Global → ℕ → ℕ → List ℕ
place_text globals k offset =
    if offset == 0 then global_text globals k
    else codes "getelementptr (i8, ptr " ++ global_text globals k ++ codes ", i64 " ++ decimal offset ++ codes ")"

abbrev pub operand_text : List Global → Ty → Operand → List ℕ
operand_text globals ty (operands.Value v) = codes "%v" ++ decimal v
operand_text globals ty (operands.Num n) = number_text (width_of ty) n
operand_text globals ty operands.Null = codes "null"
operand_text globals ty (operands.Place k offset) = place_text globals k offset
operand_text globals ty operands.Poison = codes "poison"

-- `T V`
abbrev pub typed_text : List Global → Ty → Operand → List ℕ
typed_text globals ty operand = ty_text ty ++ codes " " ++ operand_text globals ty operand

-- the type of a value of a list by its number, as the type of the list asks
abbrev pub part_of : memory.MemTy-F MemTy → ℕ → Option MemTy
part_of (memory.Array count element) number = Some element
part_of (memory.Struct fields packed) number = slice_get fields number
part_of _ number = None

abbrev pub list_opening : memory.MemTy-F MemTy → Bool → List ℕ
list_opening (memory.Array count element) empty = codes "["
list_opening (memory.Struct fields packed) empty = opening_of packed empty
list_opening _ empty = []

abbrev pub list_ending : memory.MemTy-F MemTy → Bool → List ℕ
list_ending (memory.Array count element) empty = codes "]"
list_ending (memory.Struct fields packed) empty = ending_of packed empty
list_ending _ empty = []

-- `T INIT`; nothing where the type of the list asks for no such value
abbrev pub part_text : Option MemTy → ℕ → (MemTy → List ℕ) → List ℕ
part_text None number value = []
part_text (Some ty) number value = comma number ++ memory_text ty ++ codes " " ++ value ty

-- the values of a list from this number on
unfoldable pub parts_text : memory.MemTy-F MemTy → ℕ → List (MemTy → List ℕ) → List ℕ
parts_text one number [] = []
parts_text one number (value ∷ values) = part_text (part_of one number) number value ++ parts_text one (number + 1) values

-- a list as the value of a type
abbrev pub list_text : memory.MemTy-F MemTy → List (MemTy → List ℕ) → List ℕ
list_text one values = list_opening one (nat_eq (length values) 0) ++ parts_text one 0 values ++ list_ending one (nat_eq (length values) 0)

-- the text of an initial value of a type, from those of its parts
abbrev pub init_step : List Global → inits.Init-F (MemTy → List ℕ) → MemTy → List ℕ
init_step globals (inits.Num n) ty = number_text (width_of_memory ty) n
init_step globals inits.Null ty = codes "null"
init_step globals inits.Zero ty = codes "zeroinitializer"
init_step globals (inits.Place k offset) ty = place_text globals k offset
init_step globals (inits.Bytes bytes) ty = codes "c" ++ quoted_text bytes
init_step globals (inits.List items) ty = list_text (out-MemTy ty) items

abbrev pub init_text : List Global → Init → MemTy → List ℕ
init_text globals = fold-Init (MemTy → List ℕ) (init_step globals)
