-- What the operands of an instruction need.
use Rattle.std.specs.Prelude.{◌≡◌, ℕ, ◌+◌, ◌<◌, ◌^◌, slice_index, List, [], ◌∷◌, length, slice_get, Option, Some, None}
use Rattle.ir_core.specs.declared.types.Ty.{Ty}
use Rattle.ir_core.specs.declared.code.Operand.{Operand}
use Rattle.ir_core.specs.declared.code.BuiltIn.{BuiltIn}
use Rattle.ir_core.specs.declared.code.BuiltIn.TheVariants.{MemCpy, MemMove, MemSet, SMax, SMin, UMax, UMin, Abs}
use Rattle.ir_core.specs.declared.code.Op.{Op}
use Rattle.ir_core.specs.declared.code.Op.TheVariants.{Binary, Icmp, Cast, Alloca, Load, Store, Gep, BuiltIn as CallBuiltIn}
use Rattle.ir_core.specs.declared.code.Inst.{Inst}
use Rattle.ir_core.specs.declared.code.Block.{Block}
use Rattle.ir_core.specs.declared.program.Function.{Function}
use Rattle.ir_core.specs.Layout.{HasSizesWithin}
use Rattle.ir_core.specs.Units.{frame, results}
use Rattle.ir_meaning.specs.Value.{Value}
use Rattle.ir_meaning.specs.Operators.{width}
use Rattle.ir_meaning.specs.declared.activation.Activation.{Activation}
use Rattle.ir_meaning.specs.Step.{Program, operand, arguments_of, function_at, insts_at, number_at}
use Rattle.ir_meaning.specs.Ranges.{FitsWidth}
use Rattle.ir_meaning.specs.Typed.{types, IsInteger, IsValueType, IsCast}

-- each value has the width of its type
abbrev pub ValuesFit : List Ty → List Value → Type 0
ValuesFit tys values = (i : ℕ) (ty : Ty) (n : ℕ) → slice_get tys i ≡ Some ty → slice_get values i ≡ Some (Some n) → n < 2 ^ width ty

-- the values of an activation have the widths of its function's types
abbrev pub HasFitting : Program → Activation → Type 0
HasFitting program now = (function : Function) → function_at program now.symbol ≡ Some function → ValuesFit (types function) now.values

-- a function whose frame and blocks can be counted
pub record IsBounded (function : Function) : Type 0 where
  pub frame' : frame function < 2 ^ 32
  pub insts : (block : ℕ) → length (insts_at function block) < 2 ^ 32

-- what the two arguments of a built-in that gives a value need
abbrev pub AreTwo : Ty → List Value → Type 0
AreTwo ty [] = ⊥
AreTwo ty (a ∷ []) = ⊥
AreTwo ty (a ∷ b ∷ []) = IsInteger ty × FitsWidth (width ty) a × FitsWidth (width ty) b
AreTwo ty (a ∷ b ∷ c ∷ more) = ⊥

-- what the arguments of a memory built-in need: two places, or one and a byte, and a number of bytes
abbrev pub AreThree : ℕ → List Value → Type 0
AreThree w [] = ⊥
AreThree w (a ∷ []) = ⊥
AreThree w (a ∷ b ∷ []) = ⊥
AreThree w (a ∷ b ∷ c ∷ more) = FitsWidth 64 a × FitsWidth w b × FitsWidth 64 c

abbrev pub BuiltInFits : BuiltIn → Ty → List Value → Type 0
BuiltInFits MemCpy ty given = AreThree 64 given
BuiltInFits MemMove ty given = AreThree 64 given
BuiltInFits MemSet ty given = AreThree 8 given
BuiltInFits SMax ty given = AreTwo ty given
BuiltInFits SMin ty given = AreTwo ty given
BuiltInFits UMax ty given = AreTwo ty given
BuiltInFits UMin ty given = AreTwo ty given
BuiltInFits Abs ty given = AreTwo ty given

module _ (program : Program) (values : List Value) where
  abbrev pub IndicesFit : List (Ty × Operand) → Type 0
  IndicesFit [] = Unit {0}
  IndicesFit (index ∷ indices) = IsInteger index.0 × FitsWidth (width index.0) (operand program values index.1) × IndicesFit indices

  -- the operands of an instruction that gives this type are of their widths, and its types of memory take at most 2^32 bytes
  abbrev pub OpFits : Ty → Op → Type 0
  OpFits gives (Binary op flags a b) = IsInteger gives × FitsWidth (width gives) (operand program values a) × FitsWidth (width gives) (operand program values b)
  OpFits gives (Icmp pred flags ty a b) = IsValueType ty × FitsWidth (width ty) (operand program values a) × FitsWidth (width ty) (operand program values b)
  OpFits gives (Cast op flags from a) = IsCast op from gives × FitsWidth (width from) (operand program values a)
  OpFits gives (Alloca of count) = HasSizesWithin of
  OpFits gives (Load address) = FitsWidth 64 (operand program values address)
  OpFits gives (Store of a address) = FitsWidth 64 (operand program values address)
  OpFits gives (Gep of base indices) = HasSizesWithin of × FitsWidth 64 (operand program values base) × IndicesFit indices
  OpFits gives (CallBuiltIn which arguments) = BuiltInFits which gives (arguments_of program values arguments)
  OpFits gives _ = Unit {0}

-- a program whose functions are bounded, and whose instructions have fitting operands wherever values have the widths of their types
pub record IsUsable (program : Program) : Type 0 where
  pub room : program.room < 2 ^ 32
  pub bounded : (symbol : ℕ) (function : Function) → function_at program symbol ≡ Some function → IsBounded function
  pub fits : (symbol : ℕ) (function : Function) → function_at program symbol ≡ Some function → (values : List Value) → ValuesFit (types function) values
      → (block place : ℕ) (inst : Inst) → slice_get (insts_at function block) place ≡ Some inst → OpFits program values inst.gives inst.op

-- ---- the numbers of values

-- the numbers of the values that instructions give, the first of them this; the next one where an instruction has no result
abbrev pub numbers_from : ℕ → List Inst → List ℕ
numbers_from first [] = []
numbers_from first (inst ∷ insts) = first ∷ numbers_from (first + results (inst ∷ [])) insts

-- the numbers of the values of blocks, by block and place
abbrev pub rows_from : ℕ → List Block → List (List ℕ)
rows_from first [] = []
rows_from first (block ∷ blocks) = numbers_from first block.insts ∷ rows_from (first + results block.insts) blocks

abbrev pub row_of : Option (List ℕ) → List ℕ
row_of None = []
row_of (Some row) = row

-- what stands in a table for a place of a block
abbrev pub number_in : List (List ℕ) → ℕ → ℕ → ℕ
number_in rows block place = slice_index (row_of (slice_get rows block)) place

-- a table of the number at each place of each block
abbrev pub HasNumbers : Function → List (List ℕ) → Type 0
HasNumbers function rows = (block place : ℕ) → place < length (insts_at function block) → number_in rows block place ≡ number_at function block place

abbrev pub rows_of : Option (List (List ℕ)) → List (List ℕ)
rows_of None = []
rows_of (Some rows) = rows

abbrev pub rows_at : List (List (List ℕ)) → ℕ → List (List ℕ)
rows_at plan symbol = rows_of (slice_get plan symbol)

-- a table for each function
abbrev pub HasPlan : Program → List (List (List ℕ)) → Type 0
HasPlan program plan = (symbol : ℕ) (function : Function) → function_at program symbol ≡ Some function → (symbol < length plan) × HasNumbers function (rows_at plan symbol)
