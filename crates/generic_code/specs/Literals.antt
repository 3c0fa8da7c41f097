-- The registers of operands: register v holds value v, and each literal of a block has a register of its own, which is written where
-- the block reads the literal first.
use Rattle.std.specs.Prelude.{ℕ, ◌+◌, ◌==◌, ◌&&◌, Bool, List, [], ◌∷◌, ◌++◌, Option, Some, None}
use Rattle.std.specs.Map.{lookup}
use Rattle.ir_core.specs.declared.types.Ty.{Ty}
use Rattle.ir_core.specs.declared.types.Ty.TheVariants.{Void, Int, Ptr}
use Rattle.ir_core.specs.declared.code.Operand.{Operand}
use Rattle.ir_core.specs.declared.code.Operand.TheVariants.{Value as Local, Num, Null, Place, Poison}
use Rattle.ir_core.specs.declared.program.Global.{Global}
use Rattle.ir_meaning.specs.Image.{place_address}
use Rattle.gmir.specs.declared.code.GType.{GType}
use Rattle.gmir.specs.declared.code.GType.TheVariants.{S, P0}
use Rattle.gmir.specs.declared.code.GOp.{GOp}
use Rattle.gmir.specs.declared.code.GOp.TheVariants.{Constant}
use Rattle.gmir.specs.declared.code.GInst.{GInst}

-- the type of the register of a value; a void one has none
abbrev pub type_of : Ty → GType
type_of Void = P0
type_of (Int w) = S w
type_of Ptr = P0

-- an instruction that names no block and no callee
abbrev pub plain : GOp → List ℕ → List ℕ → ℕ → GInst
plain op defs uses num = record { op = op; defs = defs; uses = uses; num = num; to = [] }

abbrev pub constant : ℕ → ℕ → GInst
constant r n = plain Constant (r ∷ []) [] n

-- the number of a literal operand; a poison one may be any
abbrev pub literal : List Global → Operand → Option ℕ
literal globals (Local number) = None
literal globals (Num n) = Some n
literal globals Null = Some 0
literal globals (Place global offset) = Some (place_address globals global offset)
literal globals Poison = Some 0

-- ---- the literals of a block

-- a literal: the width of its type, 0 for a pointer, and its number
abbrev pub Literal : Type 0
Literal = ℕ × ℕ

abbrev pub scalar_width : Ty → ℕ
scalar_width Void = 0
scalar_width (Int w) = w
scalar_width Ptr = 0

abbrev pub same_literal : Literal → Literal → Bool
same_literal a b = a.0 == b.0 && a.1 == b.1

-- The registers at a place in a block: the first that is free, and those that hold a literal since the block began, in order of first
-- use.
pub record Pool : Type 0 where
  pub next : ℕ
  pub known : List (Literal × ℕ)

-- where a block begins, no register holds a literal
abbrev pub empty_pool : ℕ → Pool
empty_pool next = record { next = next; known = [] }

-- the register that holds a literal already
abbrev pub find : Pool → Literal → Option ℕ
find pool one = lookup (same_literal one) pool.known

-- behind so many registers more
abbrev pub skip : ℕ → Pool → Pool
skip count pool = record { next = pool.next + count; known = pool.known }

-- ---- one literal: it is written to the first free register, unless a register holds it

abbrev pub write_code : Option ℕ → ℕ → ℕ → List GInst
write_code None next n = constant next n ∷ []
write_code (Some r) next n = []

abbrev pub write_types : Option ℕ → GType → List GType
write_types None ty = ty ∷ []
write_types (Some r) ty = []

abbrev pub write_register : Option ℕ → ℕ → ℕ
write_register None next = next
write_register (Some r) next = r

abbrev pub write_pool : Option ℕ → Literal → Pool → Pool
write_pool None one pool = record { next = pool.next + 1; known = pool.known ++ (one, pool.next) ∷ [] }
write_pool (Some r) one pool = pool

-- ---- one operand, by the number of its literal

abbrev pub load : Option ℕ → Ty → Pool → List GInst
load None ty pool = []
load (Some n) ty pool = write_code (find pool (scalar_width ty, n)) pool.next n

abbrev pub loaded : Option ℕ → Ty → Pool → List GType
loaded None ty pool = []
loaded (Some n) ty pool = write_types (find pool (scalar_width ty, n)) (type_of ty)

abbrev pub behind : Option ℕ → Ty → Pool → Pool
behind None ty pool = pool
behind (Some n) ty pool = write_pool (find pool (scalar_width ty, n)) (scalar_width ty, n) pool

abbrev pub register_of : Operand → Option ℕ → Ty → Pool → ℕ
register_of (Local number) o ty pool = number
register_of _ None ty pool = 0
register_of _ (Some n) ty pool = write_register (find pool (scalar_width ty, n)) pool.next

-- ---- the operands of an instruction, each with its type, in order

module _ (globals : List Global) where
  -- the literals that the block doesn't hold yet
  abbrev pub loads : Pool → List (Ty × Operand) → List GInst
  loads pool [] = []
  loads pool (one ∷ more) = load (literal globals one.1) one.0 pool ++ loads (behind (literal globals one.1) one.0 pool) more

  -- the types of their registers
  abbrev pub all_loaded : Pool → List (Ty × Operand) → List GType
  all_loaded pool [] = []
  all_loaded pool (one ∷ more) = loaded (literal globals one.1) one.0 pool ++ all_loaded (behind (literal globals one.1) one.0 pool) more

  -- the registers of the operands
  abbrev pub registers : Pool → List (Ty × Operand) → List ℕ
  registers pool [] = []
  registers pool (one ∷ more) = register_of one.1 (literal globals one.1) one.0 pool ∷ registers (behind (literal globals one.1) one.0 pool) more

  abbrev pub behind_all : Pool → List (Ty × Operand) → Pool
  behind_all pool [] = pool
  behind_all pool (one ∷ more) = behind_all (behind (literal globals one.1) one.0 pool) more
