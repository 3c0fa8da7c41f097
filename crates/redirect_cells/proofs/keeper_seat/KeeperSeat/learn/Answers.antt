use Rattle.std.proofs.Common.{arith}
use Rattle.redirect_cells.proofs.Joins.{learns}
use Rattle.redirect_cells.proofs.keeper_seat.KeeperSeat.learn.Goals as goal

pub load-requires : goal.load-requires
load-requires c =
    let me = c.args.self.now in
    let table = c.args.self.now.table.now in
    let words = table.words_are in (
      me.here,
      omega arith,
      learns table.table.shared.key table.table.shared.table_id.slots me.seat.id me.seat.me me.empty me.plan me.keeper,
    )
