use Rattle.std.proofs.Common.{◌<◌, ℕ}
use Rattle.code_epochs.specs.Sound.{HasPassed}
use Rattle.redirect_cells.proofs.desk.first_behind.Given as goal

abbrev pub invariant-loop-hart : goal.invariant-loop-hart
invariant-loop-hart l = (h : ℕ) → h < l.hart → HasPassed l.passed h
