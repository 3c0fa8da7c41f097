use Rattle.ir_types.specs.declared.fault.Fault.TheVariants as faults
use Rattle.ir_functions.proofs.TreeShown.{tree_fails}
use Rattle.ir_functions.proofs.TreeForms.{syntax_misfits}
use Rattle.ir_functions.proofs.laws.syntax_fault.Goals as goal

pub returns : goal.returns
returns c = syntax_misfits c.args.tree.now c.args.left (tree_fails c.args.tree.now (faults.Syntax c.args.left) c.requires)
