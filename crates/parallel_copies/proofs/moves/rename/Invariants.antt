use Rattle.std.proofs.Common.{◌≡◌, take, drop}
use Rattle.parallel_copies.specs.Moves.{renamed}
use Rattle.parallel_copies.proofs.moves.rename.Given as goal

abbrev pub invariant-loop-copy : goal.invariant-loop-copy
invariant-loop-copy l =
    (take l.copy-index l.copies ≡ renamed l.from l.to (take l.copy-index l.fn.copies))
    × (drop l.copy-index l.copies ≡ drop l.copy-index l.fn.copies)
