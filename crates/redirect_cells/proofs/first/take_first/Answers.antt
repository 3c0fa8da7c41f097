use Rattle.std.proofs.Common.{◌≡◌, ◌+◌, ◌-◌, ◌<◌, ◌≤◌, ℕ, arith}
use Rattle.redirect_cells.proofs.first.take_first.Goals as goal

pub unreachable-requires : goal.unreachable-requires
unreachable-requires c =
    let room = c.requires.room in
    let more = c.if-needed-eq0.false in
    c.in-None.ensures.taken.1 0 (λ w lo hi. c.requires.free w (omega arith))
