use Rattle.std.proofs.Common.{◌<◌, length, arith}
use Rattle.jit_session.proofs.Firsts.{functions_same}
use Rattle.jit_session.proofs.settling.settle_at.Goals as goal

pub make-requires-clause-exists : goal.make-requires-clause-exists
make-requires-clause-exists g c =
    let low = c.requires.exists in
    let table = c.args.keeper.now.desk.seat.table.now in
    let functions = table.functions_are in
    let same = functions_same table.table.shared.key c.args.checked.now c.requires.program in
    omega (arith, low, functions, same)
