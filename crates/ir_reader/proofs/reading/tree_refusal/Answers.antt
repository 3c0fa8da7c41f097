use Rattle.ir_reader.proofs.Refusals.{tree_refuses}
use Rattle.ir_reader.proofs.reading.tree_refusal.Goals as goal

pub returns : goal.returns
returns c = tree_refuses c.args.text.now c.args.tree.now c.args.fault c.told_for-told.result c.refusal.result c.requires.tree c.requires.fails c.told_for-told.ensures c.refusal.ensures
