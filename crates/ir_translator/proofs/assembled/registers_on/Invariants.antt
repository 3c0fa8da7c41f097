use Rattle.std.proofs.Common.{◌≡◌, ◌++◌, map, drop, slice_index_or}
use Rattle.generic_code.specs.Edges.{Edge}
use Rattle.ir_translator.specs.Groups.{picked}
use Rattle.ir_translator.proofs.assembled.registers_on.Given as goal

abbrev pub invariant-loop-edge : goal.invariant-loop-edge
invariant-loop-edge l = l.uses ++ map (λ (edge : Edge). slice_index_or edge.uses l.place 0) (picked l.edges (drop l.edge-index l.places))
    ≡ map (λ (edge : Edge). slice_index_or edge.uses l.place 0) (picked l.edges l.places)
