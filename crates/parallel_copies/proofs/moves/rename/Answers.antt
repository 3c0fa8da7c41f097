use Rattle.std.proofs.Common.{◌<◌, length, add-one, arith}
use Rattle.parallel_copies.proofs.Picking.{renamed_more, left_more}
use Rattle.parallel_copies.proofs.moves.rename.Goals as goal

pub loop-copy-preserved : goal.loop-copy-preserved
loop-copy-preserved c =
    let less : c.loop-copy.copy-index < length c.loop-copy.copies = omega arith in (
      rw (add-one, c.read_of-copy.ensures) (renamed_more c.args.from c.args.to c.args.copies.now c.loop-copy.copies c.loop-copy.copy-index (0, 0) less c.loop-copy.invariant.1 c.loop-copy.invariant.0),
      rw add-one (left_more c.args.copies.now c.loop-copy.copies c.loop-copy.copy-index _ c.loop-copy.invariant.1),
    )
