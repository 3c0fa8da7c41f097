use Rattle.ir_functions.proofs.TreeShown.{tree_fails}
use Rattle.ir_functions.proofs.laws.tree_fault.Goals as goal

pub returns : goal.returns
returns c = tree_fails c.args.tree.now c.args.fault c.requires
