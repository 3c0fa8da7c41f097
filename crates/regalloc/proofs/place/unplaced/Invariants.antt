use Rattle.std.proofs.Common.{◌≡◌, map, take}
use Rattle.regalloc.specs.Steps.{place_without_points}
use Rattle.regalloc.proofs.place.unplaced.Given as goal

abbrev pub invariant-loop-span : goal.invariant-loop-span
invariant-loop-span l = l.at.items ≡ map place_without_points (take l.span-index l.spans)
