-- What one turn of an activation comes to: whether it is paid for, and what it leads to.
use Rattle.std.specs.Prelude.{ℕ, zero, suc, ◌-◌, nat_lt, List, Option, Some, None, if◌then◌else◌}
use Rattle.ir_meaning.specs.Value.{Value}
use Rattle.ir_meaning.specs.Memory.{Memory}
use Rattle.ir_meaning.specs.declared.activation.Activation.{Activation}
use Rattle.ir_meaning.specs.Step.{Does, Goes, Calls, Returns, Overflows, Breaks, Step}
use Rattle.ir_eval.specs.declared.done.Done.{Done}
use Rattle.ir_eval.specs.declared.done.Done.TheVariants.{Goes as Went, Calls as Called, Returns as Returned, Overflows as Overflowed, Breaks as Broke}

-- what a step leads to, with the activation and the memory that it leaves
pub data Came : Type 0 where
  Onward : (now : Activation) (memory : Memory) → Came
  Inward : (callee : ℕ) (arguments : List Value) (now : Activation) (memory : Memory) → Came
  Outward : (value : Value) (memory : Memory) → Came
  Full : Came
  Nowhere : Came

abbrev pub came : Activation → Memory → Does → Came
came now memory (Goes next after) = Onward next after
came now memory (Calls callee arguments) = Inward callee arguments now memory
came now memory (Returns value after) = Outward value after
came now memory Overflows = Full
came now memory Breaks = Nowhere

-- what is shown of it, where this activation and this memory are left
abbrev pub shown : Done → Activation → Memory → Came
shown Went now memory = Onward now memory
shown (Called callee arguments) now memory = Inward callee arguments now memory
shown (Returned value) now memory = Outward value memory
shown Overflowed now memory = Full
shown Broke now memory = Nowhere

-- a turn that there are too few units for, or one that leaves so many
pub data Turn : Type 0 where
  Short : Turn
  Paid : (left : ℕ) (to : Came) → Turn

abbrev pub turn_of : ℕ → Activation → Memory → Step → Turn
turn_of left now memory one = if nat_lt left one.units then Short else Paid (left - one.units) (came now memory one.does)

-- the rest of a turn that costs so many units beyond those that are paid for
abbrev pub turn_beyond : ℕ → ℕ → Came → Turn
turn_beyond left zero to = Paid left to
turn_beyond left (suc n) to = if nat_lt left (suc n) then Short else Paid (left - suc n) to

-- what is shown of a turn, where so many units are left; none where there were too few
abbrev pub told : Option Done → ℕ → Activation → Memory → Turn
told None left now memory = Short
told (Some done) left now memory = Paid left (shown done now memory)
