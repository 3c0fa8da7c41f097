-- Functions whose values fit into registers.
use Rattle.std.specs.Prelude.{◌≡◌, ℕ, ◌≤◌, List, [], ◌∷◌, length, map, slice_get, Some}
use Rattle.ir_core.specs.declared.types.Ty.{Ty}
use Rattle.ir_core.specs.declared.code.Operand.{Operand}
use Rattle.ir_core.specs.declared.code.Op.TheVariants.{Call}
use Rattle.ir_core.specs.declared.code.Inst.{Inst}
use Rattle.ir_core.specs.declared.program.Function.{Function}
use Rattle.ir_core.specs.Units.{types_of_arguments}
use Rattle.ir_meaning.specs.declared.calls.Reply.{Reply}
use Rattle.ir_meaning.specs.Value.{Value}
use Rattle.ir_meaning.specs.Memory.{Memory}
use Rattle.ir_meaning.specs.Operators.{width}
use Rattle.ir_meaning.specs.Step.{insts_at}
use Rattle.ir_meaning.specs.Play.{Calls}
use Rattle.ir_meaning.specs.Plays.{Meaning, Invocation, play_of}

-- widths of at most 64 bits
abbrev pub AllNarrow : List ℕ → Type 0
AllNarrow [] = Unit {0}
AllNarrow (w ∷ ws) = (w ≤ 64) × AllNarrow ws

-- what a function takes and gives
abbrev pub TakesNarrow : Meaning → ℕ → Type 0
TakesNarrow m symbol = AllNarrow (m.parameters symbol) × ((w : ℕ) → m.result symbol ≡ Some w → w ≤ 64)

-- The function has at most eight parameters, and all that it and the functions that it calls take and give has at most 64 bits.
pub record IsNarrow (m : Meaning) (symbol : ℕ) : Type 0 where
  pub few : length (m.parameters symbol) ≤ 8
  pub own : TakesNarrow m symbol
  pub callees : (a : Invocation) (rs : List Reply) (t callee : ℕ) (args : List Value) (memory : Memory) → a.symbol ≡ symbol
      → play_of m a rs t ≡ Calls callee args memory → TakesNarrow m callee

-- The same by the function's text: at most eight parameters, and at most 64 bits in the types of its parameters, of its result, and of what its calls hand over and give.
pub record HasNarrowTypes (function : Function) : Type 0 where
  pub few : length function.params ≤ 8
  pub parameters : AllNarrow (map width function.params)
  pub result : width function.ret ≤ 64
  pub calls : (block place callee : ℕ) (inst : Inst) (arguments : List (Ty × Operand)) → slice_get (insts_at function block) place ≡ Some inst
      → inst.op ≡ Call callee arguments → AllNarrow (map width (types_of_arguments arguments)) × (width inst.gives ≤ 64)
