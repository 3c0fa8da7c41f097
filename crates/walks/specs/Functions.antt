-- The functions of a module as walks over bits: a number is its bits, and a poison value is free in all of them.
use Rattle.std.specs.Prelude.{◌≡◌, ◌≢◌, ℕ, ◌*◌, ◌≤◌, List, [], ◌∷◌, ◌++◌, Option, Some, None}
use Rattle.ir_meaning.specs.declared.activation.Activation.{Activation}
use Rattle.ir_meaning.specs.declared.calls.Reply.{Reply as IrReply}
use Rattle.ir_meaning.specs.Value.{Value}
use Rattle.ir_meaning.specs.Memory.{Memory}
use Rattle.ir_meaning.specs.Walk as ir
use Rattle.ir_meaning.specs.Step.{Program, step, entry, entry_units, answered}
use Rattle.ir_meaning.specs.Play.{PlayEnd, Calls, Returns, Overflows, NotEnded, Undefined}
use Rattle.ir_meaning.specs.Plays.{Meaning, Invocation, play_of}
use Rattle.ir_meaning.specs.Meaning.{meaning}
use Rattle.ir_meaning.specs.Ranges.{IsInvocation, IsReplyTo, AreArgs, FitsResult}
use Rattle.walks.specs.Walk.{Bits, Reply, Entry, Does, Goes, Asks, Gives, Wants, Breaks, Step, Walk, End, Play}
use Rattle.walks.specs.Walk as walks
use Rattle.walks.specs.Bits.{free, constant, number}

-- ---- values and bits

-- the bits of a value of a width
abbrev pub bits_of : ℕ → Value → Bits
bits_of w None = free
bits_of w (Some n) = constant w n

-- the value of so many bits: poison where one of them is free
abbrev pub value_of : ℕ → Bits → Value
value_of w a = number w a

abbrev pub all_bits : List ℕ → List Value → List Bits
all_bits (w ∷ ws) (v ∷ vs) = bits_of w v ∷ all_bits ws vs
all_bits _ _ = []

-- a value for each width: poison where there is no register for it
abbrev pub all_values : List ℕ → List Bits → List Value
all_values [] as_ = []
all_values (w ∷ ws) [] = None ∷ all_values ws []
all_values (w ∷ ws) (a ∷ as_) = value_of w a ∷ all_values ws as_

-- those of a result; there is none where the function is void
abbrev pub result_bits : Option ℕ → Value → Bits
result_bits None v = free
result_bits (Some w) v = bits_of w v

abbrev pub result_value : Option ℕ → Bits → Value
result_value None a = None
result_value (Some w) a = value_of w a

-- ---- the walk of a function: a unit weighs 256

module _ (program : Program) (symbol : ℕ) where
  -- an activation, and its data memory
  abbrev pub Point : Type 0
  Point = Activation × Memory

  -- behind a call of a function that was answered
  abbrev pub resumed : ℕ → Activation → Reply → Point
  resumed callee now reply = (answered program now (result_value ((meaning program).result callee) reply.value), reply.memory)

  abbrev pub does_over_bits : Activation → Memory → ir.Does Value Activation → Does Point
  does_over_bits now memory (ir.Goes next after) = Goes (next, after)
  does_over_bits now memory (ir.Calls callee arguments) = Asks callee (all_bits ((meaning program).parameters callee) arguments) memory (resumed callee now)
  does_over_bits now memory (ir.Returns value after) = Gives (result_bits ((meaning program).result symbol) value) after
  does_over_bits now memory ir.Overflows = Wants
  does_over_bits now memory ir.Breaks = Breaks

  abbrev pub step_over_bits : Activation → Memory → ir.Step Value Activation → Step Point
  step_over_bits now memory one = record { weight = 256 * one.units; jumps = one.jumps; does = does_over_bits now memory one.does }

  abbrev pub entry_over_bits : Memory → ir.Entry Activation → Does Point
  entry_over_bits memory (ir.Opens first) = Goes (first, memory)
  entry_over_bits memory ir.TooDeep = Wants
  entry_over_bits memory ir.NoFunction = Breaks

  abbrev pub enter_over_bits : Entry → Step Point
  enter_over_bits from = record {
    weight = 256 * entry_units;
    jumps = 0;
    does = entry_over_bits from.memory (entry program symbol (all_values ((meaning program).parameters symbol) from.args) from.memory from.sp);
  }

  abbrev pub function_walk : Walk
  function_walk = record { State = Point; enter = enter_over_bits; step = λ point. step_over_bits point.0 point.1 (step program point.0 point.1) }

-- ---- what ties it to the play of the meaning

abbrev pub entry_of : Meaning → Invocation → Entry
entry_of m a = record { args = all_bits (m.parameters a.symbol) a.args; memory = a.memory; sp = a.sp }

-- the replies, each to a call of the symbol beside it, behind those before
abbrev pub AreAnswers : Meaning → Invocation → List IrReply → List IrReply → List ℕ → Type 0
AreAnswers m a before [] [] = Unit {0}
AreAnswers m a before (r ∷ rs) (callee ∷ callees) = IsReplyTo m a before callee r × AreAnswers m a (before ++ r ∷ []) rs callees
AreAnswers m a before _ _ = ⊥

abbrev pub replies_of : Meaning → List IrReply → List ℕ → List Reply
replies_of m (r ∷ rs) (callee ∷ callees) = record { value = result_bits (m.result callee) r.value; memory = r.memory } ∷ replies_of m rs callees
replies_of m _ _ = []

-- an end of the meaning's play over bits
abbrev pub end_of : Meaning → ℕ → PlayEnd → Option End
end_of m symbol (Calls callee arguments memory) = Some (walks.Calls callee (all_bits (m.parameters callee) arguments) memory)
end_of m symbol (Returns value memory) = Some (walks.Returns (result_bits (m.result symbol) value) memory)
end_of m symbol Overflows = Some walks.Overflows
end_of m symbol Undefined = Some walks.Undefined
end_of m symbol NotEnded = None

-- This is the play of the function of that symbol, over bits, and with 256 to a unit: it comes to the meaning's end, and it ends
-- only where the meaning's play does. What is called with and answered keeps its ranges, so that the values can be told from their bits.
pub record IsPlayOf (m : Meaning) (symbol : ℕ) (play : Play) : Type 0 where
  pub ends : (a : Invocation) (rs : List IrReply) (callees : List ℕ) (units : ℕ) (e : End) → a.symbol ≡ symbol → IsInvocation m a
      → AreAnswers m a [] rs callees → end_of m symbol (play_of m a rs units) ≡ Some e
      → (w : ℕ) × (j : ℕ) × play (entry_of m a) (replies_of m rs callees) e w j × (w ≤ 256 * units)
  pub ended : (a : Invocation) (rs : List IrReply) (callees : List ℕ) (e : End) (w j : ℕ) → a.symbol ≡ symbol → IsInvocation m a
      → AreAnswers m a [] rs callees → play (entry_of m a) (replies_of m rs callees) e w j
      → (units : ℕ) × (play_of m a rs units ≢ NotEnded)
  pub arguments : (a : Invocation) (rs : List IrReply) (callees : List ℕ) (units callee : ℕ) (args : List Value) (memory : Memory) → IsInvocation m a
      → AreAnswers m a [] rs callees → play_of m a rs units ≡ Calls callee args memory → AreArgs (m.parameters callee) args
  pub results : (a : Invocation) (rs : List IrReply) (callees : List ℕ) (units : ℕ) (value : Value) (memory : Memory) → IsInvocation m a
      → AreAnswers m a [] rs callees → play_of m a rs units ≡ Returns value memory → FitsResult (m.result a.symbol) value
