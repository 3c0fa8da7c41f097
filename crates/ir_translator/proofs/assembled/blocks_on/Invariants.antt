use Rattle.std.proofs.Common.{◌≡◌, ◌++◌, map, drop}
use Rattle.generic_code.specs.Edges.{Edge}
use Rattle.ir_translator.specs.Groups.{picked}
use Rattle.ir_translator.proofs.assembled.blocks_on.Given as goal

abbrev pub invariant-loop-edge : goal.invariant-loop-edge
invariant-loop-edge l = l.blocks ++ map (λ (edge : Edge). edge.at) (picked l.edges (drop l.edge-index l.places)) ≡ map (λ (edge : Edge). edge.at) (picked l.edges l.places)
