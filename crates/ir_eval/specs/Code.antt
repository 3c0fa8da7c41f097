-- What an evaluator knows of a module.
use Rattle.std.specs.Prelude.{◌≡◌, ℕ, ◌+◌, ◌≤◌, List, length, slice_index}
use Rattle.ir_core.specs.declared.program.Global.{Global}
use Rattle.ir_core.specs.declared.program.Module.{Module}
use Rattle.ir_meaning.specs.Image.{address_of}
use Rattle.ir_meaning.specs.Step.{Program}

-- a module, with the size of its data memory
abbrev pub program_with : Module → ℕ → Program
program_with module_ room = record { module_ = module_; room = room }

-- the addresses of all globals, and behind them the image's top
pub record ArePlaces (globals : List Global) (places : List ℕ) : Type 0 where
  pub long : length places ≡ length globals + 1
  pub each : (i : ℕ) → i ≤ length globals → slice_index places i ≡ address_of globals i
