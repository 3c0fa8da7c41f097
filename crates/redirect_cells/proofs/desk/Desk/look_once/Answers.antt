use Rattle.std.proofs.Common.{◌≡◌, ◌≢◌, ◌⊎◌, ◌+◌, ◌*◌, ◌-◌, ◌/◌, ◌<◌, ◌≤◌, [], ◌∷◌, ◌++◌, map, length, set, get_or, None, Some, ℕ, suc, List, true, false, sym, refl, subst, ap, ◌∙◌, inl, inr, ⊎_elim, arith, rules, vec_len, vec_capacity}
use Rattle.code_epochs.specs.declared.state.Status.{Status}
use Rattle.code_epochs.specs.declared.state.Status.TheVariants.{Linked, Unlinked, Pending, GivenUp}
use Rattle.code_epochs.specs.declared.state.VersionState.{VersionState}
use Rattle.code_epochs.specs.declared.parts.Book.{Book}
use Rattle.code_epochs.specs.declared.parts.Draft.{Draft}
use Rattle.code_epochs.specs.Sound.{At, Apart, IsBase, Stays, HasPassed, start_of}
use Rattle.code_epochs.specs.Steps.{unlinked, linked_of, with_status}
use Rattle.code_epochs.proofs.Lists.{at_same, at_index, at_below, set_else, set_here}
use Rattle.code_space.specs.Space.{HasRoom, IsFree, count_free}
use Rattle.code_epochs.specs.Shelf.{NoneFree, NoneShared, IsApart, count_staying, is_linked}
use Rattle.redirect_cells.specs.declared.view.View.{View}
use Rattle.redirect_cells.specs.declared.view.Plan.{Plan}
use Rattle.redirect_cells.specs.Kept.{functions_of, book_of, draft_at, MayBegin}
use Rattle.redirect_cells.specs.Keeping.{Published}
use Rattle.redirect_cells.proofs.Keeps as K
use Rattle.redirect_cells.specs.Keeping.{IsLook, LinkedAreCurrent, is_pending}
use Rattle.code_epochs.specs.Sound.{Has}
use Rattle.code_epochs.specs.Steps.{marked_by, with_look, restatus}
use Rattle.redirect_cells.proofs.desk.Desk.look_once.Goals as goal

pub returns-in_default-clause-looked : goal.returns-in_default-clause-looked
returns-in_default-clause-looked c = λ v tag passed at pending.
    let me = c.args.self.now in
    let vs = me.shelf.versions.items in
    let x = c.index.result.now in
    let same : x ≡ v = at_same vs c.args.number x v (at_index vs c.args.number x c.requires.number c.index.ensures) (subst (λ (l : List VersionState). At l c.args.number v) me.versions_are at) in
    absurd (c.in_default.not-Pending tag passed (ap (λ (u : VersionState). u.status) same ∙ pending))

pub returns-then-has_passed-clause-looked : goal.returns-then-has_passed-clause-looked
returns-then-has_passed-clause-looked c = λ v tag passed at pending.
    let me = c.args.self.now in
    let vs = me.shelf.versions.items in
    let x = c.index.result.now in
    let same : x ≡ v = at_same vs c.args.number x v (at_index vs c.args.number x c.requires.number c.index.ensures) (subst (λ (l : List VersionState). At l c.args.number v) me.versions_are at) in
    let status : Pending c.in-Pending.tag c.in-Pending.passed ≡ Pending tag passed = sym c.in-Pending.is ∙ ap (λ (u : VersionState). u.status) same ∙ pending in
    let passes : c.in-Pending.passed ≡ passed = cc in
    inl (subst (λ (p : ℕ). HasPassed p c.args.hart) passes (c.has_passed.ensures.passed c.if-has_passed.true), refl)

pub look-found-requires-clause-pending : goal.look-found-requires-clause-pending
look-found-requires-clause-pending c =
    let me = c.args.self.now in
    let x = c.index.result.now in
    (x, c.in-Pending.tag, c.in-Pending.passed, subst (λ (l : List VersionState). At l c.args.number x) (sym me.versions_are) (at_index me.shelf.versions.items c.args.number x c.requires.number c.index.ensures), c.in-Pending.is)

pub pend-requires : goal.pend-requires
pend-requires c =
    let me = c.args.self.now in
    let x = c.index.result.now in
    (x, at_index me.shelf.versions.items c.args.number x c.requires.number c.index.ensures, subst Stays (sym c.in-Pending.is) tt, ap is_linked c.in-Pending.is)

pub invariant_of-self : goal.invariant_of-self
invariant_of-self c =
    let me = c.args.self.now in
    let i = c.args.number in
    let vs = me.shelf.versions.items in
    let u = c.index.result.now in
    let at = at_index vs i u c.requires.number c.index.ensures in
    let there : At (book_of me.seat.seat.me.0).versions i u = subst (λ (l : List VersionState). At l i u) (sym me.versions_are) at in
    let tag = c.in-Pending.tag in
    let passed = c.in-Pending.passed in
    let looked = c.look-found.ensures.looked u tag passed there c.in-Pending.is in
    let functions : me.seat.table.now.functions ≡ (functions_of me.seat.seat.me.0.plan) = me.seat.table.now.functions_are ∙ sym (ap (λ (q : Plan). functions_of q) me.seat.plan) in
    let hart : (1 + me.seat.table.now.functions + c.args.hart) - (1 + (functions_of me.seat.seat.me.0.plan)) ≡ c.args.hart = omega arith in
    let marked : c.marks.result ≡ marked_by tag passed ((1 + me.seat.table.now.functions + c.args.hart) - (1 + (functions_of me.seat.seat.me.0.plan))) c.look-found.result = c.marks.ensures ∙ (λ j. marked_by tag passed (sym hart j) c.look-found.result) in
    let table = c.look-found.ensures.table in
    let same = c.pend.ensures.same in record {
      versions_are = ap (λ (y : View). (book_of y).versions) looked ∙ (λ j. set (me.versions_are j) i (with_status u (Pending tag (sym marked j)))) ∙ sym (c.pend.ensures.versions u at);
      no_draft = ap (λ (y : View). (book_of y).draft) looked ∙ me.no_draft;
      size_is = ap (λ s. s.size) same.1 ∙ me.size_is ∙ sym (ap (λ t. t.now.code_words) table);
      functions_are = ap (λ v. length v.items) same.0 ∙ me.functions_are ∙ sym (ap (λ t. t.now.functions) table);
      linked_are = subst (λ (y : List VersionState × List ℕ). LinkedAreCurrent y.0 y.1) (λ j. (sym (c.pend.ensures.versions u at) j, sym (ap (λ t. t.items) same.0) j)) (K.linked_set me.shelf.versions.items me.shelf.current.items i (with_status u (Pending tag c.marks.result)) me.linked_are refl);
    }

pub returns-clause-count : goal.returns-clause-count
returns-clause-count c =
    let me = c.args.self.now in
    let u = c.index.result.now in
    ap length (c.pend.ensures.versions u (at_index me.shelf.versions.items c.args.number u c.requires.number c.index.ensures)) ∙ K.length_set me.shelf.versions.items c.args.number _

pub returns-clause-looked : goal.returns-clause-looked
returns-clause-looked c = λ v tag passed at pending.
    let me = c.args.self.now in
    let book = book_of me.seat.seat.me.0 in
    let n = 1 + me.seat.table.now.functions + c.args.hart in
    let looked = c.look-found.ensures.looked v tag passed at pending in
    let functions : me.seat.table.now.functions ≡ (functions_of me.seat.seat.me.0.plan) = me.seat.table.now.functions_are ∙ sym (ap (λ (q : Plan). functions_of q) me.seat.plan) in
    let hart : n - (1 + (functions_of me.seat.seat.me.0.plan)) ≡ c.args.hart = omega arith in
    let f = c.look-found.result in
    let vs = me.shelf.versions.items in
    let x = c.index.result.now in
    let same : x ≡ v = at_same vs c.args.number x v (at_index vs c.args.number x c.requires.number c.index.ensures) (subst (λ (l : List VersionState). At l c.args.number v) me.versions_are at) in
    let status : Pending c.in-Pending.tag c.in-Pending.passed ≡ Pending tag passed = sym c.in-Pending.is ∙ ap (λ (u : VersionState). u.status) same ∙ pending in
    let passes : c.in-Pending.passed ≡ passed = cc in
    inr (f, (λ p. c.has_passed.ensures.behind c.if-has_passed.false (subst (λ (n : ℕ). HasPassed n c.args.hart) (sym passes) p)), ap book_of looked ∙ (λ j. with_look (restatus book c.args.number v (Pending tag (marked_by tag passed (hart j) f))) record { version = c.args.number; hart = hart j; found = f }), λ has. c.look-found.ensures.gone (subst (Has book.gone) (sym hart) has))

off : true ≡ false → ⊥
off e = absurd (cc)

pub returns-then-has_passed-clause-other : goal.returns-then-has_passed-clause-other
returns-then-has_passed-clause-other c = λ v at free.
    let vs = c.args.self.now.shelf.versions.items in
    let x = c.index.result.now in
    let same : x ≡ v = at_same vs c.args.number x v (at_index vs c.args.number x c.requires.number c.index.ensures) at in
    absurd (off (sym (ap is_pending c.in-Pending.is) ∙ ap (λ (u : VersionState). is_pending u.status) same ∙ free))

pub returns-clause-other : goal.returns-clause-other
returns-clause-other c = λ v at free.
    let vs = c.args.self.now.shelf.versions.items in
    let x = c.index.result.now in
    let same : x ≡ v = at_same vs c.args.number x v (at_index vs c.args.number x c.requires.number c.index.ensures) at in
    absurd (off (sym (ap is_pending c.in-Pending.is) ∙ ap (λ (u : VersionState). is_pending u.status) same ∙ free))
