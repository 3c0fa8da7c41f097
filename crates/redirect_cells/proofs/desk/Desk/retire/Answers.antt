use Rattle.std.proofs.Common.{◌≡◌, ◌≢◌, ◌⊎◌, ◌+◌, ◌*◌, ◌-◌, ◌/◌, ◌<◌, ◌≤◌, [], ◌∷◌, ◌++◌, map, length, set, get_or, None, Some, ℕ, suc, List, true, false, sym, refl, subst, ap, ◌∙◌, inl, inr, ⊎_elim, arith, rules, vec_len, vec_capacity}
use Rattle.code_epochs.specs.declared.state.Status.{Status}
use Rattle.code_epochs.specs.declared.state.Status.TheVariants.{Linked, Unlinked, Pending, GivenUp}
use Rattle.code_epochs.specs.declared.state.VersionState.{VersionState}
use Rattle.code_epochs.specs.declared.parts.Book.{Book}
use Rattle.code_epochs.specs.declared.parts.Draft.{Draft}
use Rattle.code_epochs.specs.Sound.{At, Apart, IsBase, Stays, HasPassed, start_of}
use Rattle.code_epochs.specs.Steps.{unlinked, linked_of, with_status}
use Rattle.code_epochs.proofs.Lists.{at_same, at_index, at_below, set_else, set_here}
use Rattle.code_space.specs.Space.{HasRoom, IsFree, count_free}
use Rattle.code_epochs.specs.Shelf.{NoneFree, NoneShared, IsApart, count_staying, is_linked}
use Rattle.redirect_cells.specs.declared.view.View.{View}
use Rattle.redirect_cells.specs.declared.view.Plan.{Plan}
use Rattle.redirect_cells.specs.Kept.{book_of, draft_at, MayBegin}
use Rattle.redirect_cells.specs.Keeping.{Published, LinkedAreCurrent}
use Rattle.redirect_cells.proofs.Keeps as K
use Rattle.redirect_cells.proofs.desk.Desk.retire.Goals as goal

pub invariant_of-self : goal.invariant_of-self
invariant_of-self c =
    let me = c.args.self.now in
    let i = c.args.number in
    let u = c.requires.0 in
    let there : At (book_of me.seat.seat.me.0).versions i u = subst (λ (l : List VersionState). At l i u) (sym me.versions_are) c.requires.1 in
    let raised = c.raise_epoch-epoch.ensures.raised u there in
    let tag : ℕ = c.raise_epoch-epoch.result + 1 in
    let table = c.raise_epoch-epoch.ensures.table in
    let same = c.pend.ensures.same in record {
      versions_are = ap (λ (y : View). (book_of y).versions) raised ∙ (λ j. set (me.versions_are j) i (with_status u (Pending tag 0))) ∙ sym (c.pend.ensures.versions u c.requires.1);
      no_draft = ap (λ (y : View). (book_of y).draft) raised ∙ me.no_draft;
      size_is = ap (λ s. s.size) same.1 ∙ me.size_is ∙ sym (ap (λ t. t.now.code_words) table);
      functions_are = ap (λ v. length v.items) same.0 ∙ me.functions_are ∙ sym (ap (λ t. t.now.functions) table);
      linked_are = subst (λ (y : List VersionState × List ℕ). LinkedAreCurrent y.0 y.1) (λ j. (sym (c.pend.ensures.versions u c.requires.1) j, sym (ap (λ t. t.items) same.0) j)) (K.linked_set me.shelf.versions.items me.shelf.current.items i (with_status u (Pending tag 0)) me.linked_are refl);
    }

pub returns-clause-versions : goal.returns-clause-versions
returns-clause-versions c = λ v at. (c.raise_epoch-epoch.result + 1, c.pend.ensures.versions v at)

pub returns-clause-harts : goal.returns-clause-harts
returns-clause-harts c =
    let me = c.args.self.now in
    let u = c.requires.0 in
    let raised = c.raise_epoch-epoch.ensures.raised u (subst (λ (l : List VersionState). At l c.args.number u) (sym me.versions_are) c.requires.1) in
    (ap (λ (y : View). (book_of y).seated) raised, ap (λ (y : View). (book_of y).gone) raised, ap (λ (y : View). (book_of y).joined) raised)
