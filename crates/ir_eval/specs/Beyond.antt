-- What an instruction costs beyond its own units.
use Rattle.std.specs.Prelude.{ℕ, ◌+◌, ◌%◌, ◌^◌, Bool, true, false, List, Option, Some, None, if◌then◌else◌}
use Rattle.ir_core.specs.declared.code.BuiltIn.{BuiltIn}
use Rattle.ir_core.specs.declared.code.Op.{Op}
use Rattle.ir_core.specs.declared.code.Op.TheVariants.{Binary, Icmp, Cast, Select, Freeze, Phi, BuiltIn as CallBuiltIn, Br, CondBr, Switch, Unreachable}
use Rattle.ir_core.specs.declared.program.Function.{Function}
use Rattle.ir_meaning.specs.Value.{Value, Computed, Gives, NoMeaning}
use Rattle.ir_core.specs.declared.types.MemTy.{MemTy}
use Rattle.ir_meaning.specs.Memory.{Memory, into_parts}
use Rattle.ir_meaning.specs.declared.activation.Activation.{Activation}
use Rattle.ir_meaning.specs.Step.{Program, Does, Goes, Breaks, operand, arguments_of, phi_units, jump, branch_target, switch_target, moves_bytes, moved, moved_count, apart_or_equal}

-- the phis of the block that an edge leads to
abbrev pub edge_units : Function → Option ℕ → ℕ
edge_units function None = 0
edge_units function (Some to) = phi_units function to

abbrev pub edge_does : Program → Function → Activation → Memory → Option ℕ → Does
edge_does program function now memory None = Breaks
edge_does program function now memory (Some to) = Goes (jump program function now to) memory

-- the bytes that are moved, unless that is undefined
abbrev pub bytes_moved : ℕ → Option Memory → ℕ
bytes_moved count None = 0
bytes_moved count (Some after) = count

abbrev pub number_or_zero : Value → ℕ
number_or_zero None = 0
number_or_zero (Some n) = n

-- goes on with the memory behind, unless there is none
abbrev pub moved_does : (Memory → Does) → Option Memory → Does
moved_does go None = Breaks
moved_does go (Some after) = go after

-- two ranges that a copy may have: any, or such that don't overlap or are equal
abbrev pub may_copy : Bool → ℕ → ℕ → ℕ → Bool
may_copy true to from count = true
may_copy false to from count = apart_or_equal to from count

abbrev pub built_in_units : BuiltIn → Memory → List Value → ℕ
built_in_units which memory given = if moves_bytes which then bytes_moved (moved_count given) (moved which memory given) else 0

module _ (program : Program) (function : Function) (now : Activation) (memory : Memory) where
  abbrev pub beyond : Op → ℕ
  beyond (Br to) = edge_units function (Some to)
  beyond (CondBr condition if_true if_false) = edge_units function (branch_target (operand program now.values condition) if_true if_false)
  beyond (Switch ty a otherwise cases) = edge_units function (switch_target (operand program now.values a) cases otherwise)
  beyond (CallBuiltIn which arguments) = built_in_units which memory (arguments_of program now.values arguments)
  beyond _ = 0

-- what an answer that may be undefined leads to
abbrev pub given_does : (Value → Does) → Computed → Does
given_does go (Gives value) = go value
given_does go NoMeaning = Breaks

-- instructions that compute a value of values alone, and those that never do anything
abbrev pub is_scalar : Op → Bool
is_scalar (Binary op flags a b) = true
is_scalar (Icmp pred flags ty a b) = true
is_scalar (Cast op flags from a) = true
is_scalar (Select condition a b) = true
is_scalar (Freeze a) = true
is_scalar (Phi pairs) = true
is_scalar Unreachable = true
is_scalar _ = false

-- the answer of the indices, led on from a part at an address
abbrev pub led_of : MemTy → ℕ → Option (List ℕ) → Option ℕ
led_of ty address None = None
led_of ty address (Some indices) = Some ((address + into_parts indices ty) % 2 ^ 64)

abbrev pub are_numbers : Option (List ℕ) → Bool
are_numbers None = false
are_numbers (Some indices) = true

abbrev pub led_if : Bool → ℕ → Option ℕ
led_if true address = Some address
led_if false address = None

-- instructions whose units are their own
abbrev pub is_plain : Op → Bool
is_plain (Br to) = false
is_plain (CondBr condition if_true if_false) = false
is_plain (Switch ty a otherwise cases) = false
is_plain (CallBuiltIn which arguments) = false
is_plain _ = true
