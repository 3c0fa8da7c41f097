use Rattle.std.proofs.Common.{◌≡◌, ◌≤◌, take, count_by}
use Rattle.regalloc.specs.Overlap.{contains}
use Rattle.regalloc.proofs.place.crowded.Given as goal

abbrev pub invariant-loop-span : goal.invariant-loop-span
invariant-loop-span l = (l.overlap ≡ count_by (contains l.point) (take l.span-index l.spans)) × (l.overlap ≤ l.span-index)
