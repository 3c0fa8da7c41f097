use Rattle.std.proofs.Common.{◌≡◌, ℕ, drop}
use Rattle.std.specs.Prelude.{nat_eq}
use Rattle.std.specs.Map.{lookup}
use Rattle.ir_translator_emit.specs.Maps.{or_else, first_from}
use Rattle.ir_translator_emit.proofs.operands.by_block.Given as goal

abbrev pub invariant-loop-operand : goal.invariant-loop-operand
invariant-loop-operand l = (from : ℕ) → or_else (lookup (nat_eq from) l.first.entries) (first_from from (drop l.operand-index l.pairs)) ≡ first_from from l.pairs
