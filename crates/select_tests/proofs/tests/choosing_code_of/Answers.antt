use Rattle.std.proofs.Common.{refl, arith}
use Rattle.select_tests.specs.Samples.{choosing, choosing_code}
use Rattle.select_tests.proofs.Choosing.{choosing_is_formed, choosing_is_legal}
use Rattle.select_tests.proofs.Placed.{selects}
use Rattle.select_tests.proofs.tests.choosing_code_of.Goals as goal

pub select-requires-clause-formed : goal.select-requires-clause-formed
select-requires-clause-formed c = rw c.in-Ok.ensures choosing_is_formed

pub select-requires-clause-legal : goal.select-requires-clause-legal
select-requires-clause-legal c = rw c.in-Ok.ensures choosing_is_legal

pub select-requires-clause-room : goal.select-requires-clause-room
select-requires-clause-room c = rw c.in-Ok.ensures (omega arith)

pub select-requires-clause-kept : goal.select-requires-clause-kept
select-requires-clause-kept c = rw c.in-Ok.ensures refl

pub returns-in-Ok : goal.returns-in-Ok
returns-in-Ok c = selects _ choosing choosing_code c.in-Ok.ensures refl c.select.result c.select.ensures.exact
