-- The generic code of an address of a part. LangRef, `getelementptr`: an index counts elements of an array, or names a field of a struct;
-- indices are read with their sign, and addresses are numbers modulo two to 64. What literal indices add is added at once, behind what
-- values add.
use Rattle.std.specs.Prelude.{ℕ, ◌+◌, ◌*◌, ◌%◌, ◌^◌, ◌==◌, Bool, true, false, ◌&&◌, nat_lt, List, [], ◌∷◌, ◌++◌, map, Option, Some, None, slice_get, if◌then◌else◌}
use Rattle.std.specs.Int.{w64, trailing_zeros}
use Rattle.ir_core.specs.declared.types.Ty.{Ty}
use Rattle.ir_core.specs.declared.types.Ty.TheVariants.{Int}
use Rattle.ir_core.specs.declared.types.MemTy.{MemTy, out-MemTy}
use Rattle.ir_core.specs.declared.types.MemTy.TheOpen.{MemTy-F, Int as MemInt, Ptr as MemPtr, Array, Struct}
use Rattle.ir_core.specs.declared.code.Operand.{Operand}
use Rattle.ir_core.specs.declared.code.Operand.TheVariants.{Value as Local, Num}
use Rattle.ir_core.specs.declared.program.Global.{Global}
use Rattle.ir_core.specs.Layout.{size, extent_of, offset_of_field}
use Rattle.ir_meaning.specs.Operators.{width}
use Rattle.ir_meaning.specs.Memory.{index_64}
use Rattle.gmir.specs.declared.code.GType.{GType}
use Rattle.gmir.specs.declared.code.GType.TheVariants.{S, P0}
use Rattle.gmir.specs.declared.code.GOp.{GOp}
use Rattle.gmir.specs.declared.code.GOp.TheVariants.{SExt, Shl, Mul, PtrAdd, Copy}
use Rattle.gmir.specs.declared.code.GInst.{GInst}
use Rattle.generic_code.specs.Literals.{Pool, plain, skip, loads, all_loaded, registers, behind_all}

-- what an index adds: so many bytes, or a size for each of a value's number, which is read with its sign from a width
pub data Addend : Type 0 where
  Bytes : (count : ℕ) → Addend
  Times : (width number size : ℕ) → Addend

-- a size for each of an index; nothing for poison, which gives poison
abbrev pub sized : ℕ → Ty → Operand → List Addend
sized size ty (Local number) = Times (width ty) number size ∷ []
sized size ty (Num n) = Bytes (index_64 (width ty) n * size) ∷ []
sized size ty _ = []

-- the number of an index of a struct
abbrev pub field_index : Ty → Operand → ℕ
field_index ty (Num n) = index_64 (width ty) n
field_index ty _ = 0

abbrev pub of_field : (MemTy → List Addend) → Option MemTy → List Addend
of_field rest None = []
of_field rest (Some field) = rest field

-- what an index into a type adds; `rest` has what the later ones add in the part that it leads to
abbrev pub addends : (MemTy → List Addend) → MemTy-F MemTy → Ty × Operand → List Addend
addends rest (MemInt w) index = []
addends rest MemPtr index = []
addends rest (Array count element) index = sized (size element) index.0 index.1 ++ rest element
addends rest (Struct fields packed) index =
    Bytes (offset_of_field (map extent_of fields) packed (field_index index.0 index.1)) ∷ of_field rest (slice_get fields (field_index index.0 index.1))

abbrev pub addends_into : List (Ty × Operand) → MemTy → List Addend
addends_into [] ty = []
addends_into (index ∷ indices) ty = addends (addends_into indices) (out-MemTy ty) index

-- the first index counts whole values of the type, the others lead into it
abbrev pub addends_of : MemTy → List (Ty × Operand) → List Addend
addends_of ty [] = []
addends_of ty (index ∷ indices) = sized (size ty) index.0 index.1 ++ addends_into indices ty

-- ---- what is added one after another: what values add, and then the bytes of all literal indices

-- the bytes that literal indices add
abbrev pub bytes_in : List Addend → ℕ
bytes_in [] = 0
bytes_in (Bytes count ∷ more) = count + bytes_in more
bytes_in (Times width number size ∷ more) = bytes_in more

abbrev pub offset : ℕ → List Addend
offset count = if count == 0 then [] else Bytes count ∷ []

-- the addends of values, and these behind them
abbrev pub values_then : List Addend → List Addend → List Addend
values_then last [] = last
values_then last (Bytes count ∷ more) = values_then last more
values_then last (Times width number size ∷ more) = Times width number size ∷ values_then last more

abbrev pub in_order : List Addend → List Addend
in_order all = values_then (offset (bytes_in all % 2 ^ 64)) all

-- ---- the code of one addend, which leaves it in a register

-- code that leaves a number in a register, with the types of its further registers and the registers behind it
pub record Left : Type 0 where
  pub code : List GInst
  pub types : List GType
  pub register : ℕ
  pub pool : Pool

-- read with its sign from a width: as it is, where that is 64 bits
abbrev pub extended : Bool → Pool → ℕ → Left
extended true pool number = record { code = []; types = []; register = number; pool = pool }
extended false pool number = record {
  code = plain SExt (pool.next ∷ []) (number ∷ []) 0 ∷ [];
  types = S 64 ∷ [];
  register = pool.next;
  pool = skip 1 pool;
}

-- the exponent of a power of two that is a number of 64 bits
abbrev pub exponent : ℕ → Option ℕ
exponent size =
    if nat_lt (trailing_zeros w64 size) 64 && size == 2 ^ trailing_zeros w64 size then Some (trailing_zeros w64 size) else None

-- the operation and the literal by which a register is multiplied by a size: by a shift where that is a power of two
abbrev pub scale_by : Option ℕ → ℕ → GOp × ℕ
scale_by (Some k) size = (Shl, k)
scale_by None size = (Mul, size)

-- the operand that is a literal of 64 bits
abbrev pub literal_64 : ℕ → List (Ty × Operand)
literal_64 n = (Int 64, Num n) ∷ []

-- the first of registers
abbrev pub first_register : List ℕ → ℕ
first_register [] = 0
first_register (r ∷ rs) = r

module _ (globals : List Global) where
  -- multiplied by a literal, or shifted by it
  abbrev pub with_literal : GOp × ℕ → Pool → ℕ → Left
  with_literal scale pool number = record {
    code =
        loads globals pool (literal_64 scale.1)
        ++ plain scale.0 ((behind_all globals pool (literal_64 scale.1)).next ∷ []) (number ∷ registers globals pool (literal_64 scale.1)) 0 ∷ [];
    types = all_loaded globals pool (literal_64 scale.1) ++ S 64 ∷ [];
    register = (behind_all globals pool (literal_64 scale.1)).next;
    pool = skip 1 (behind_all globals pool (literal_64 scale.1));
  }

  abbrev pub multiplied : ℕ → Pool → ℕ → Left
  multiplied size pool number =
      if size == 1 then record { code = []; types = []; register = number; pool = pool } else with_literal (scale_by (exponent size) size) pool number

  -- one behind the other, in the register that the first leaves
  abbrev pub then_left : Left → (Pool → ℕ → Left) → Left
  then_left first second = record {
    code = first.code ++ (second first.pool first.register).code;
    types = first.types ++ (second first.pool first.register).types;
    register = (second first.pool first.register).register;
    pool = (second first.pool first.register).pool;
  }

  abbrev pub left_of : Addend → Pool → Left
  left_of (Bytes count) pool = record {
    code = loads globals pool (literal_64 count);
    types = all_loaded globals pool (literal_64 count);
    register = first_register (registers globals pool (literal_64 count));
    pool = behind_all globals pool (literal_64 count);
  }
  left_of (Times width number size) pool = then_left (extended (width == 64) pool number) (multiplied (size % 2 ^ 64))

  -- ---- the code of all: each is added to the address that the one before left, and the last leaves the result

  abbrev pub sum_code : ℕ → ℕ → Pool → List Addend → List GInst
  sum_code result from pool [] = plain Copy (result ∷ []) (from ∷ []) 0 ∷ []
  sum_code result from pool (one ∷ []) = (left_of one pool).code ++ plain PtrAdd (result ∷ []) (from ∷ (left_of one pool).register ∷ []) 0 ∷ []
  sum_code result from pool (one ∷ two ∷ more) =
      (left_of one pool).code
      ++ plain PtrAdd ((left_of one pool).pool.next ∷ []) (from ∷ (left_of one pool).register ∷ []) 0
      ∷ sum_code result (left_of one pool).pool.next (skip 1 (left_of one pool).pool) (two ∷ more)

  abbrev pub sum_types : Pool → List Addend → List GType
  sum_types pool [] = []
  sum_types pool (one ∷ []) = (left_of one pool).types
  sum_types pool (one ∷ two ∷ more) = (left_of one pool).types ++ P0 ∷ sum_types (skip 1 (left_of one pool).pool) (two ∷ more)

  abbrev pub sum_pool : Pool → List Addend → Pool
  sum_pool pool [] = pool
  sum_pool pool (one ∷ []) = (left_of one pool).pool
  sum_pool pool (one ∷ two ∷ more) = sum_pool (skip 1 (left_of one pool).pool) (two ∷ more)
