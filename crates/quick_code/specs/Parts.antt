-- The quick code of an address of a part: the address in t0 moves on by what each index adds. LangRef, `getelementptr`: an index counts
-- elements of an array, or names a field of a struct; indices are read with their sign, and addresses are numbers modulo two to 64.
use Rattle.std.specs.Prelude.{ℕ, ◌+◌, ◌-◌, ◌*◌, ◌%◌, ◌^◌, ◌<◌, ◌==◌, Bool, true, false, ◌&&◌, nat_lt, if◌then◌else◌, ℤ, pos, negsuc, List, [], ◌∷◌, ◌++◌, length, map, Option, Some, None, slice_get}
use Rattle.std.specs.Int.{w64, trailing_zeros}
use Rattle.ir_core.specs.declared.types.Ty.{Ty}
use Rattle.ir_core.specs.declared.types.MemTy.{MemTy, out-MemTy}
use Rattle.ir_core.specs.declared.types.MemTy.TheOpen.{MemTy-F, Int as MemInt, Ptr as MemPtr, Array, Struct}
use Rattle.ir_core.specs.declared.code.Operand.{Operand}
use Rattle.ir_core.specs.declared.code.Operand.TheVariants.{Value as Local, Num, Null, Place, Poison}
use Rattle.ir_core.specs.Layout.{size, extent_of, offset_of_field}
use Rattle.rv_core.specs.declared.reg.Reg.TheVariants.{T0, T1, T2}
use Rattle.rv_core.specs.declared.instr.ImmOp.TheVariants.{Addi, Slli}
use Rattle.rv_core.specs.declared.instr.RegOp.TheVariants.{Add, Mul}
use Rattle.rv_core.specs.declared.instr.Instr.{Instr}
use Rattle.rv_core.specs.declared.instr.Instr.TheVariants.{Imm, Op as RegisterOp}
use Rattle.ir_meaning.specs.Operators.{width}
use Rattle.ir_meaning.specs.Memory.{index_64}
use Rattle.code_pieces.specs.Code.{load_value, const_code}
use Rattle.quick_code.specs.Narrow.{sign_extended}

-- what an index adds: so many bytes, or a size for each of a value's number, which is read with its sign from a width
pub data Piece : Type 0 where
  Bytes : (count : ℕ) → Piece
  Times : (width number size : ℕ) → Piece

-- a size for each of an index; nothing for poison, which gives poison
abbrev pub sized : ℕ → Ty → Operand → List Piece
sized size ty (Local number) = Times (width ty) number size ∷ []
sized size ty (Num n) = Bytes (index_64 (width ty) n * size) ∷ []
sized size ty _ = []

-- the number of a literal index
abbrev pub literal : Ty → Operand → ℕ
literal ty (Num n) = index_64 (width ty) n
literal ty _ = 0

-- what is said of a field, or of none
abbrev pub of_field : {A : Type 0} → A → (MemTy → A) → Option MemTy → A
of_field none rest None = none
of_field none rest (Some field) = rest field

-- what an index into a type adds; `rest` has what the later ones add in the part that it leads to
abbrev pub piece : (MemTy → List Piece) → MemTy-F MemTy → Ty × Operand → List Piece
piece rest (MemInt w) index = []
piece rest MemPtr index = []
piece rest (Array count element) index = sized (size element) index.0 index.1 ++ rest element
piece rest (Struct fields packed) index =
    Bytes (offset_of_field (map extent_of fields) packed (literal index.0 index.1)) ∷ of_field [] rest (slice_get fields (literal index.0 index.1))

abbrev pub pieces_into : List (Ty × Operand) → MemTy → List Piece
pieces_into [] ty = []
pieces_into (index ∷ indices) ty = piece (pieces_into indices) (out-MemTy ty) index

-- the first index counts whole values of the type, the others lead into it
abbrev pub pieces : MemTy → List (Ty × Operand) → List Piece
pieces ty [] = []
pieces ty (index ∷ indices) = sized (size ty) index.0 index.1 ++ pieces_into indices ty

-- the bytes that literal indices add
abbrev pub bytes_in : List Piece → ℕ
bytes_in [] = 0
bytes_in (Bytes count ∷ more) = count + bytes_in more
bytes_in (Times width number size ∷ more) = bytes_in more

-- the exponent of a power of two that is a number of 64 bits
abbrev pub exponent : ℕ → Option ℕ
exponent size =
    if nat_lt (trailing_zeros w64 size) 64 && size == 2 ^ trailing_zeros w64 size then Some (trailing_zeros w64 size) else None

-- multiplies t1 by a size: by a shift where that is a power of two
abbrev pub scaled_code : Option ℕ → ℕ → List Instr
scaled_code (Some k) size = Imm Slli T1 T1 (pos k) ∷ []
scaled_code None size = const_code 3 T2 size ++ RegisterOp Mul T1 T1 T2 ∷ []

abbrev pub scale_code : ℕ → List Instr
scale_code size = if size == 1 then [] else scaled_code (exponent size) size

-- adds a size for each of a value's number to t0
abbrev pub times_code : ℕ → ℕ → ℕ → List Instr
times_code w number size = load_value T1 number ++ (sign_extended w T1 ++ (scale_code size ++ RegisterOp Add T0 T0 T1 ∷ []))

abbrev pub pieces_code : List Piece → List Instr
pieces_code [] = []
pieces_code (Bytes count ∷ more) = pieces_code more
pieces_code (Times width number size ∷ more) = times_code width number size ++ pieces_code more

-- a number of 64 bits as one of twelve with its sign, where it is one
abbrev pub twelve : ℕ → Option ℤ
twelve count =
    if nat_lt count 2048 then Some (pos count) else if nat_lt (2 ^ 64 - 1 - count) 2048 then Some (negsuc (2 ^ 64 - 1 - count)) else None

abbrev pub added_code : Option ℤ → ℕ → List Instr
added_code (Some z) count = Imm Addi T0 T0 z ∷ []
added_code None count = const_code 3 T1 count ++ RegisterOp Add T0 T0 T1 ∷ []

-- adds so many bytes to t0
abbrev pub bytes_code : ℕ → List Instr
bytes_code count = if count == 0 then [] else added_code (twelve count) count

-- adds what the indices lead to in the type to the address in t0
abbrev pub parts_code : MemTy → List (Ty × Operand) → List Instr
parts_code ty indices = pieces_code (pieces ty indices) ++ bytes_code (bytes_in (pieces ty indices) % 2 ^ 64)

-- ---- which of them have code

-- an index is a value, a literal or poison
abbrev pub is_index : Operand → Bool
is_index (Local number) = true
is_index (Num n) = true
is_index Null = false
is_index (Place global offset) = false
is_index Poison = true

abbrev pub is_literal : Operand → Bool
is_literal (Num n) = true
is_literal _ = false

-- an index into an array is one of these, and one into a struct a literal; where that, read with its sign, is no number of a field, the later indices lead
-- nowhere. A struct has fewer than 2^32 fields
abbrev pub is_step : (MemTy → Bool) → MemTy-F MemTy → Ty × Operand → Bool
is_step rest (MemInt w) index = false
is_step rest MemPtr index = false
is_step rest (Array count element) index = if is_index index.1 then rest element else false
is_step rest (Struct fields packed) index =
    if is_literal index.1 && nat_lt (length fields) (2 ^ 32) then of_field true rest (slice_get fields (literal index.0 index.1)) else false

abbrev pub are_steps : List (Ty × Operand) → MemTy → Bool
are_steps [] ty = true
are_steps (index ∷ indices) ty = is_step (are_steps indices) (out-MemTy ty) index

abbrev pub is_path : MemTy → List (Ty × Operand) → Bool
is_path ty [] = true
is_path ty (index ∷ indices) = if is_index index.1 then are_steps indices ty else false

-- sizes are numbers of 64 bits
abbrev pub AreSmall : List Piece → Type 0
AreSmall [] = Unit {0}
AreSmall (Bytes count ∷ more) = AreSmall more
AreSmall (Times width number size ∷ more) = (size < 2 ^ 64) × AreSmall more
