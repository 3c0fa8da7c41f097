use Rattle.std.proofs.lemmas.List.{get_or_default}
use Rattle.std.proofs.lemmas.Result.{err_from_is_err_and}
use Rattle.ir_types.proofs.Walks.{goes, refused, ended}
use Rattle.ir_types.specs.Build.{place_with, place_named}
use Rattle.ir_types.proofs.build.Builder.+placing.Goals as goal

pub place-returns-in_err-place_part : goal.place-returns-in_err-place_part
place-returns-in_err-place_part t c =
    let p = err_from_is_err_and c.from_residual.result c.from_residual.ensures.1 in
    rw (p.1, p.2) (refused (place_with (place_named c.args.depth c.args.known.now.bodies.now c.args.known.now.entries.now)) c.loop-part.self c.args.parts.now c.loop-part.part-index _ _ _ c.loop-part-test.true (get_or_default c.args.parts.now c.loop-part.part-index _ _ c.loop-part-test.true) c.loop-part.invariant c.in_err-place_part.ensures)

pub place-loop-part-preserved : goal.place-loop-part-preserved
place-loop-part-preserved t c = goes (place_with (place_named c.args.depth c.args.known.now.bodies.now c.args.known.now.entries.now)) c.loop-part.self c.place_part.new.self c.args.parts.now c.loop-part.part-index _ _ c.loop-part-test.true (get_or_default c.args.parts.now c.loop-part.part-index _ _ c.loop-part-test.true) c.loop-part.invariant c.in_ok-place_part.ensures

pub place-returns : goal.place-returns
place-returns t c = ended (place_with (place_named c.args.depth c.args.known.now.bodies.now c.args.known.now.entries.now)) c.loop-part.self c.args.parts.now c.loop-part.part-index _ c.loop-part-test.false c.loop-part.invariant
