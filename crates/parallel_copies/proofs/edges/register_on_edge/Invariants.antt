use Rattle.std.proofs.Common.{◌≡◌, drop}
use Rattle.mir_play.specs.Play.{on_edge}
use Rattle.parallel_copies.proofs.edges.register_on_edge.Given as goal

abbrev pub invariant-loop-pair : goal.invariant-loop-pair
invariant-loop-pair l = on_edge l.from l.pairs ≡ on_edge l.from (drop l.pair-index l.pairs)
