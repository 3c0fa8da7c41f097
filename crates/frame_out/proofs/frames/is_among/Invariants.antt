use Rattle.std.proofs.Common.{◌≡◌, drop}
use Rattle.frame_code.specs.Frame.{some_saved}
use Rattle.frame_out.proofs.frames.is_among.Given as goal

abbrev pub invariant-loop-place : goal.invariant-loop-place
invariant-loop-place l = some_saved l.fn.number (drop l.place-index l.places) ≡ some_saved l.fn.number l.places
