use Rattle.std.proofs.Common.{◌≡◌}
use Rattle.redirect_cells.proofs.Rests as R
use Rattle.redirect_cells.proofs.keeper.Keeper.publish.Goals as goal

pub invariant_of-self : goal.invariant_of-self
invariant_of-self c =
    let me = c.args.self.now in
    let new = c.publish.new.self in
    let was : R.Rests me.desk.shelf = record { all_current = me.all_current; none_unlinked = me.none_unlinked; words_are = me.words_are } in
    let r = R.tried_rests me.desk.shelf new.shelf c.args.version (new.seat ≡ me.desk.seat) c.publish.result was c.publish.ensures.ok c.publish.ensures.used c.publish.ensures.same in
    record { all_current = r.all_current; none_unlinked = r.none_unlinked; words_are = r.words_are }
