use Rattle.std.proofs.Common.{◌≡◌, ◌+◌, ◌<◌, ◌≤◌, ℕ, length, refl, sym, ap, ◌∙◌, subst, arith}
use Rattle.redirect_cells.specs.Kept.{book_of}
use Rattle.redirect_cells.specs.Keeping.{Settled}
use Rattle.redirect_cells.proofs.Settles as S
use Rattle.redirect_cells.proofs.desk.Desk.collect.Goals as goal

pub loop-number-init : goal.loop-number-init
loop-number-init c = record { table = refl; collected = S.collected_none (book_of c.args.self.now.seat.seat.me.0) c.args.self.now.shelf c.args.self.now.seat.table.now.harts; few = omega arith }

pub loop-number-preserved : goal.loop-number-preserved
loop-number-preserved c =
    let me = c.args.self.now in
    let old = c.loop-number.self in
    let new = c.settle-given_up.new.self in
    let inv = c.loop-number.invariant in
    let step = c.settle-given_up.ensures in
    let harts : old.seat.table.now.harts ≡ me.seat.table.now.harts = ap (λ t. t.now.harts) inv.table in
    let most = step.most in
    let few = inv.few in
    let low : c.loop-number.number < length me.shelf.versions.items = (let t = c.loop-number-test.true in omega arith) in
    let settled = subst (λ (n : ℕ). Settled (book_of old.seat.seat.me.0) (book_of new.seat.seat.me.0) old.shelf new.shelf n c.loop-number.number c.settle-given_up.result) harts step.settled in record {
      table = step.table ∙ inv.table;
      collected = S.collected_more (book_of me.seat.seat.me.0) (book_of old.seat.seat.me.0) (book_of new.seat.seat.me.0) me.shelf old.shelf new.shelf me.seat.table.now.harts c.loop-number.number c.loop-number.given_up c.settle-given_up.result low inv.collected settled;
      few = omega arith;
    }
