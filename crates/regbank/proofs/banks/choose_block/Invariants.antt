use Rattle.std.proofs.Common.{◌≡◌, ℕ, ◌++◌, take}
use Rattle.regbank.specs.Counts.{AreCounts}
use Rattle.regbank.specs.Choice.{choices}
use Rattle.regbank.proofs.banks.choose_block.Given as goal

abbrev pub invariant-loop-inst : goal.invariant-loop-inst
invariant-loop-inst l = (n : ℕ → ℕ) → AreCounts n l.counts → l.kept.items ≡ l.initial.kept.items ++ choices n (take l.inst-index l.insts)
