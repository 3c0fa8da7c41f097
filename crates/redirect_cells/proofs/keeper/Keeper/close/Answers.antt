use Rattle.std.proofs.Common.{◌≡◌, ◌+◌, ◌≤◌, ℕ, sym, ap, subst, ◌∙◌, arith}
use Rattle.code_epochs.specs.Sound.{AreMade}
use Rattle.code_epochs.specs.declared.parts.Book.{Book}
use Rattle.code_epochs.specs.declared.shelf.Shelf.{Shelf}
use Rattle.redirect_cells.specs.declared.table.CodeTable.{CodeTable}
use Rattle.redirect_cells.specs.declared.view.Plan.{Plan}
use Rattle.redirect_cells.specs.declared.view.View.{View}
use Rattle.redirect_cells.specs.Kept.{meaning_of, book_of, keeper_view, JoinedBacked}
use Rattle.redirect_cells.specs.Keeping.{held_words}
use Rattle.redirect_cells.proofs.Joins.{viewed_backed}
use Rattle.redirect_cells.proofs.keeper.Keeper.close.Goals as goal

pub returns : goal.returns
returns c =
    let me = c.args.self in
    let old = me.desk.seat.seat.me.0 in
    let new = c.collect.new.self in
    let view = new.desk.seat.seat.me.0 in
    let last = c.learn.new.self in
    let shelf : last.desk.shelf ≡ new.desk.shelf = c.learn.ensures.same.0 in
    let table : new.desk.seat.table.now ≡ me.desk.seat.table.now = ap (λ t. t.now) c.collect.ensures.table in
    let after : last.desk.seat.table.now ≡ new.desk.seat.table.now = ap (λ t. t.now) c.learn.ensures.table in
    let plan : view.plan ≡ old.plan = new.desk.seat.plan ∙ ap (λ (t : CodeTable). t.table.shared.key) table ∙ sym me.desk.seat.plan in
    let size : last.desk.seat.table.now.code_words ≡ old.plan.code_words = ap (λ (t : CodeTable). t.code_words) (after ∙ table) ∙ me.desk.seat.table.now.code_is ∙ ap (λ (q : Plan). q.code_words) (sym me.desk.seat.plan) in
    record {
      shelf = new.desk.shelf;
      book = book_of view;
      given = c.collect.result;
      collected = c.collect.ensures.collected;
      versions = new.desk.versions_are;
      made = subst (λ (q : Plan). AreMade (meaning_of q) (book_of view)) plan c.learn.ensures.made;
      backed = viewed_backed view old plan c.learn.ensures.backed;
      none_pending = c.collect.ensures.none_pending c.requires;
      none_unlinked = new.none_unlinked;
      used_are = c.used.ensures.held ∙ ap (λ (s : Shelf). held_words s.versions.items) shelf;
      fits = let free = c.used.ensures.free in omega (arith, free, size);
    }
