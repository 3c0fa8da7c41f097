use Rattle.std.proofs.Common.{◌≡◌, ◌≢◌, ◌⊎◌, ◌+◌, ◌*◌, ◌-◌, ◌/◌, ◌<◌, ◌≤◌, [], ◌∷◌, ◌++◌, map, length, set, get_or, None, Some, ℕ, suc, List, true, false, sym, refl, subst, ap, ◌∙◌, inl, inr, ⊎_elim, arith, rules, vec_len, vec_capacity}
use Rattle.code_epochs.specs.declared.state.Status.{Status}
use Rattle.code_epochs.specs.declared.state.Status.TheVariants.{Linked, Unlinked, Pending, GivenUp}
use Rattle.code_epochs.specs.declared.state.VersionState.{VersionState}
use Rattle.code_epochs.specs.declared.parts.Book.{Book}
use Rattle.code_epochs.specs.declared.parts.Draft.{Draft}
use Rattle.code_epochs.specs.Sound.{At, Apart, IsBase, Stays, HasPassed, start_of}
use Rattle.code_epochs.specs.Steps.{unlinked, linked_of, with_status}
use Rattle.code_epochs.proofs.Lists.{at_same, at_index, at_below, set_else, set_here}
use Rattle.code_space.specs.Space.{HasRoom, IsFree, count_free}
use Rattle.code_epochs.specs.Shelf.{NoneFree, NoneShared, IsApart, count_staying, is_linked}
use Rattle.redirect_cells.specs.declared.view.View.{View}
use Rattle.redirect_cells.specs.declared.view.Plan.{Plan}
use Rattle.redirect_cells.specs.Kept.{book_of, draft_at, MayBegin}
use Rattle.redirect_cells.specs.Keeping.{Published}
use Rattle.redirect_cells.proofs.Keeps as K
use Rattle.redirect_cells.specs.Keeping.{LookedAt, IsBehind, Settled, is_pending}
use Rattle.code_epochs.specs.declared.parts.Look.{Look}
use Rattle.code_epochs.proofs.Lists.{at_some}
use Rattle.redirect_cells.specs.declared.desk.Desk.{Desk}
use Rattle.redirect_cells.proofs.Settles as S
use Rattle.redirect_cells.proofs.desk.Desk.settle.Goals as goal

-- the status that the version has after the looks
now_pending : (old new : Book) (items : List VersionState) (number : ℕ) (v x : VersionState) (tag passed n : ℕ) → At old.versions number v → new.versions ≡ items → (s : LookedAt old new number v tag passed n) → At items number x → x ≡ with_status v (Pending tag s.marked)
now_pending old new items number v x tag passed n at are s here = at_same items number x (with_status v (Pending tag s.marked)) here (subst (λ (l : List VersionState). At l number (with_status v (Pending tag s.marked))) (sym s.versions ∙ are) (set_here old.versions number (with_status v (Pending tag s.marked)) (at_below old.versions number v at)))

off : true ≡ false → ⊥
off e = absurd (cc)

-- where the version isn't pending, the desk is the same
same_desk : (me new : Desk) (harts number : ℕ) (v : VersionState) → At me.shelf.versions.items number v → is_pending v.status ≡ false → new ≡ me → Settled (book_of me.seat.seat.me.0) (book_of new.seat.seat.me.0) me.shelf new.shelf harts number 0
same_desk me new harts number v at free eq = subst (λ (d : Desk). Settled (book_of me.seat.seat.me.0) (book_of d.seat.seat.me.0) me.shelf d.shelf harts number 0) (sym eq) (S.settled_same (book_of me.seat.seat.me.0) me.shelf harts number v at free)

pub returns-in_default-clause-settled : goal.returns-in_default-clause-settled
returns-in_default-clause-settled c =
    let me = c.args.self.now in
    let new = c.look_at_harts.new.self in
    let i = c.args.number in
    let low = c.requires.number in
    let v = at_some me.shelf.versions.items i low in
    let x = c.index.result.now in
    let count = c.look_at_harts.ensures.count in
    ⊎_elim
    (λ free. same_desk me new me.seat.table.now.harts i v.0 v.1 free (c.look_at_harts.ensures.other v.0 v.1 free))
    (λ z.
    let at' : At (book_of me.seat.seat.me.0).versions i v.0 = subst (λ (l : List VersionState). At l i v.0) (sym me.versions_are) v.1 in
    let s = c.look_at_harts.ensures.looked v.0 z.0 z.1 at' z.2 in
    let is = now_pending (book_of me.seat.seat.me.0) (book_of new.seat.seat.me.0) new.shelf.versions.items i v.0 x z.0 z.1 me.seat.table.now.harts at' new.versions_are s (at_index new.shelf.versions.items i x (omega arith) c.index.ensures) in
    absurd (c.in_default.not-Pending z.0 s.marked (ap (λ (u : VersionState). u.status) is)))
    (S.pending_or v.0.status)

pub returns-in-Some-clause-settled : goal.returns-in-Some-clause-settled
returns-in-Some-clause-settled c =
    let me = c.args.self.now in
    let new = c.look_at_harts.new.self in
    let i = c.args.number in
    let low = c.requires.number in
    let v = at_some me.shelf.versions.items i low in
    let x = c.index.result.now in
    let count = c.look_at_harts.ensures.count in
    ⊎_elim
    (λ free. same_desk me new me.seat.table.now.harts i v.0 v.1 free (c.look_at_harts.ensures.other v.0 v.1 free))
    (λ z.
    let at' : At (book_of me.seat.seat.me.0).versions i v.0 = subst (λ (l : List VersionState). At l i v.0) (sym me.versions_are) v.1 in
    let s = c.look_at_harts.ensures.looked v.0 z.0 z.1 at' z.2 in
    let is = now_pending (book_of me.seat.seat.me.0) (book_of new.seat.seat.me.0) new.shelf.versions.items i v.0 x z.0 z.1 me.seat.table.now.harts at' new.versions_are s (at_index new.shelf.versions.items i x (omega arith) c.index.ensures) in
    let status : Pending c.in-Pending.tag c.in-Pending.passed ≡ Pending z.0 s.marked = sym c.in-Pending.is ∙ ap (λ (u : VersionState). u.status) is in
    let marks : c.in-Pending.passed ≡ s.marked = cc in
    let h = c.in-Some.field-0 in
    let e = c.in-Some.ensures in
    let lt : h < me.seat.table.now.harts = subst (λ (n : ℕ). h < n) (ap (λ t. t.now.harts) c.look_at_harts.ensures.table) e.0 in
    let items : new.shelf.versions.items ≡ set me.shelf.versions.items i (with_status v.0 (Pending z.0 s.marked)) = sym new.versions_are ∙ s.versions ∙ ap (λ (l : List VersionState). set l i (with_status v.0 (Pending z.0 s.marked))) me.versions_are in
    S.settled_behind (book_of me.seat.seat.me.0) (book_of new.seat.seat.me.0) me.shelf new.shelf me.seat.table.now.harts i v.0 z.0 z.1 v.1 z.2 s items c.look_at_harts.ensures.same.1 c.look_at_harts.ensures.same.0 h lt (λ p. e.1 (subst (λ (m : ℕ). HasPassed m h) (sym marks) p)))
    (S.pending_or v.0.status)

pub give_up-requires : goal.give_up-requires
give_up-requires c =
    let new = c.look_at_harts.new.self in
    let x = c.index.result.now in
    let low = c.requires.number in
    let count = c.look_at_harts.ensures.count in
    (x, c.in-Pending.tag, c.in-Pending.passed, at_index new.shelf.versions.items c.args.number x (omega arith) c.index.ensures, c.in-Pending.is, c.in-None.ensures)

pub returns-in-None-clause-settled : goal.returns-in-None-clause-settled
returns-in-None-clause-settled c =
    let me = c.args.self.now in
    let new = c.look_at_harts.new.self in
    let last = c.give_up.new.self in
    let i = c.args.number in
    let low = c.requires.number in
    let vs = me.shelf.versions.items in
    let v = at_some vs i low in
    let x = c.index.result.now in
    let count = c.look_at_harts.ensures.count in
    let here = at_index new.shelf.versions.items i x (omega arith) c.index.ensures in
    ⊎_elim
    (λ free.
    let eq = c.look_at_harts.ensures.other v.0 v.1 free in
    let same : x ≡ v.0 = at_same vs i x v.0 (subst (λ (d : Desk). At d.shelf.versions.items i x) eq here) v.1 in
    absurd (off (sym (ap is_pending c.in-Pending.is) ∙ ap (λ (u : VersionState). is_pending u.status) same ∙ free)))
    (λ z.
    let at' : At (book_of me.seat.seat.me.0).versions i v.0 = subst (λ (l : List VersionState). At l i v.0) (sym me.versions_are) v.1 in
    let s = c.look_at_harts.ensures.looked v.0 z.0 z.1 at' z.2 in
    let w = with_status v.0 (Pending z.0 s.marked) in
    let is = now_pending (book_of me.seat.seat.me.0) (book_of new.seat.seat.me.0) new.shelf.versions.items i v.0 x z.0 z.1 me.seat.table.now.harts at' new.versions_are s here in
    let status : Pending c.in-Pending.tag c.in-Pending.passed ≡ Pending z.0 s.marked = sym c.in-Pending.is ∙ ap (λ (u : VersionState). u.status) is in
    let marks : c.in-Pending.passed ≡ s.marked = cc in
    let g = c.give_up.ensures.given_up x here in
    let book = c.give_up.ensures.book x here in
    let items : new.shelf.versions.items ≡ set vs i w = sym new.versions_are ∙ s.versions ∙ ap (λ (l : List VersionState). set l i w) me.versions_are in
    let space = ap (λ y. count_free y.ranges) c.look_at_harts.ensures.same.1 in
    let words = ap (λ (y : VersionState). y.words) is in
    let harts = ap (λ t. t.now.harts) c.look_at_harts.ensures.table in
    S.settled_gone (book_of me.seat.seat.me.0) (book_of new.seat.seat.me.0) (book_of last.seat.seat.me.0) me.shelf last.shelf me.seat.table.now.harts i v.0 z.0 z.1 v.1 z.2 s
    (ap (λ (b : Book). b.looks) book) (ap (λ (b : Book). b.gone) book) (ap (λ (b : Book). b.joined) book)
    (g.0 ∙ (λ j. set (items j) i (with_status (is j) GivenUp)) ∙ K.set_set vs i w (with_status v.0 GivenUp)) (g.1 ∙ (λ j. space j + (words j + 1)))
    (c.give_up.ensures.same.1 ∙ ap (λ y. y.size) c.look_at_harts.ensures.same.1) (c.give_up.ensures.same.0 ∙ c.look_at_harts.ensures.same.0)
    (λ h lt. subst (λ (m : ℕ). HasPassed m h) marks (c.in-None.ensures h (subst (λ (n : ℕ). h < n) (sym harts) lt))))
    (S.pending_or v.0.status)
