use Rattle.fast_isel.proofs.Joins.{case_put}
use Rattle.fast_isel.proofs.switches.put_case.Goals as goal

pub returns : goal.returns
returns c = case_put c.args.globals.now c.args.asm.now c.put_value.new.asm c.put_test.new.asm c.args.number c.args.label c.in_ok-put_value.ensures c.in_ok-put_test.ensures
