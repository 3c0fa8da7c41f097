use Rattle.std.proofs.Common.{refl, arith}
use Rattle.select_tests.specs.Samples.{doubling, doubling_code}
use Rattle.select_tests.proofs.Doubling.{doubling_is_formed, doubling_is_legal}
use Rattle.select_tests.proofs.Placed.{selects}
use Rattle.select_tests.proofs.tests.doubling_code_of.Goals as goal

pub select-requires-clause-formed : goal.select-requires-clause-formed
select-requires-clause-formed c = rw c.in-Ok.ensures doubling_is_formed

pub select-requires-clause-legal : goal.select-requires-clause-legal
select-requires-clause-legal c = rw c.in-Ok.ensures doubling_is_legal

pub select-requires-clause-room : goal.select-requires-clause-room
select-requires-clause-room c = rw c.in-Ok.ensures (omega arith)

pub select-requires-clause-kept : goal.select-requires-clause-kept
select-requires-clause-kept c = rw c.in-Ok.ensures refl

pub returns-in-Ok : goal.returns-in-Ok
returns-in-Ok c = selects _ doubling doubling_code c.in-Ok.ensures refl c.select.result c.select.ensures.exact
