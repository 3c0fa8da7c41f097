use Rattle.std.proofs.Common.{◌≡◌, ◌+◌, ◌*◌, drop}
use Rattle.ir_types.specs.Build.{place}
use Rattle.ir_types.proofs.build.Builder.+placing.Given as goal

abbrev pub decreases-place : goal.decreases-place
decreases-place l = 3 * l.depth + 2

abbrev pub decreases-place_part : goal.decreases-place_part
decreases-place_part l = 3 * l.depth + 1

abbrev pub decreases-place_named : goal.decreases-place_named
decreases-place_named l = 3 * l.depth

abbrev pub invariant-place-loop-part : goal.invariant-place-loop-part
invariant-place-loop-part l = place l.depth l.known.bodies.now l.known.entries.now l.self (drop l.part-index l.parts) ≡ place l.depth l.known.bodies.now l.known.entries.now l.fn.self l.parts
