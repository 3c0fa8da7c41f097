-- A module with the size of its data memory.
use Rattle.std.specs.Prelude.{ℕ}
use Rattle.ir_core.specs.declared.program.Module.{Module}

-- a module, and the bytes of data memory that it may use
pub record Program : Type 0 where
  pub module_ : Module
  pub room : ℕ
