-- What indices add to an address, as the translator collects and writes it.
use Rattle.std.specs.Prelude.{ℕ, ◌^◌, ◌<◌, List, [], ◌∷◌, ◌++◌, map}
use Rattle.ir_core.specs.declared.types.Ty.{Ty}
use Rattle.ir_core.specs.declared.code.Operand.{Operand}
use Rattle.ir_core.specs.declared.code.Operand.TheVariants.{Num}
use Rattle.ir_core.specs.declared.program.Global.{Global}
use Rattle.ir_meaning.specs.Operators.{width}
use Rattle.ir_meaning.specs.Typed.{IsInteger}
use Rattle.gmir.specs.declared.code.GType.TheVariants.{P0}
use Rattle.gmir.specs.declared.code.GOp.TheVariants.{PtrAdd}
use Rattle.generic_code.specs.Literals.{Pool, plain, skip}
use Rattle.generic_code.specs.Parts.{Addend, Times, Left, left_of, values_then, sum_code, sum_types, sum_pool}
use Rattle.ir_translator_emit.specs.declared.sums.Scaled.{Scaled}
use Rattle.ir_translator_emit.specs.Written.{Written, put}

-- a size for each of a value's number
abbrev pub addend_of : Scaled → Addend
addend_of one = Times one.width one.number one.size

abbrev pub addends_of_values : List Scaled → List Addend
addends_of_values = map addend_of

-- what values add, without the bytes of literals
abbrev pub only_values : List Addend → List Addend
only_values all = values_then [] all

abbrev pub put_left : Written → Left → Written
put_left w left = put w left.code left.types left.pool

-- each addend is added to the address that the one before left, and the last leaves it in a register of its own
abbrev pub steps : List Global → ℕ → Pool → List Addend → Left
steps globals from pool [] = record { code = []; types = []; register = from; pool = pool }
steps globals from pool (one ∷ more) = record {
  code =
      (left_of globals one pool).code
      ++ plain PtrAdd ((left_of globals one pool).pool.next ∷ []) (from ∷ (left_of globals one pool).register ∷ []) 0
      ∷ (steps globals (left_of globals one pool).pool.next (skip 1 (left_of globals one pool).pool) more).code;
  types = (left_of globals one pool).types ++ P0 ∷ (steps globals (left_of globals one pool).pool.next (skip 1 (left_of globals one pool).pool) more).types;
  register = (steps globals (left_of globals one pool).pool.next (skip 1 (left_of globals one pool).pool) more).register;
  pool = (steps globals (left_of globals one pool).pool.next (skip 1 (left_of globals one pool).pool) more).pool;
}

-- what is left in a register is added to an address, which leaves it in the next register
abbrev pub stepped : Written → ℕ → Left → Written
stepped w from left =
    put w (left.code ++ plain PtrAdd (left.pool.next ∷ []) (from ∷ left.register ∷ []) 0 ∷ []) (left.types ++ P0 ∷ []) (skip 1 left.pool)

-- an index that can be read: an integer, and a number of its width
abbrev pub InWidth : Ty → Operand → Type 0
InWidth ty (Num n) = n < 2 ^ width ty
InWidth ty _ = Unit {0}

abbrev pub IsRead : Ty × Operand → Type 0
IsRead index = IsInteger index.0 × InWidth index.0 index.1

abbrev pub AreRead : List (Ty × Operand) → Type 0
AreRead [] = Unit {0}
AreRead (index ∷ indices) = IsRead index × AreRead indices

-- what addends add to an address, which gives a value
abbrev pub summed : Written → ℕ → ℕ → List Addend → Written
summed w value from all = put w (sum_code w.globals value from w.pool all) (sum_types w.globals w.pool all) (sum_pool w.globals w.pool all)
