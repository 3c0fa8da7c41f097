use Rattle.std.proofs.Common.{◌≡◌, ◌≢◌, ◌⊎◌, ◌+◌, ◌*◌, ◌-◌, ◌/◌, ◌<◌, ◌≤◌, [], ◌∷◌, ◌++◌, map, length, set, get_or, None, Some, ℕ, suc, List, true, false, sym, refl, subst, ap, ◌∙◌, inl, inr, ⊎_elim, arith, rules, vec_len, vec_capacity}
use Rattle.code_epochs.specs.declared.state.Status.{Status}
use Rattle.code_epochs.specs.declared.state.Status.TheVariants.{Linked, Unlinked, Pending, GivenUp}
use Rattle.code_epochs.specs.declared.state.VersionState.{VersionState}
use Rattle.code_epochs.specs.declared.parts.Book.{Book}
use Rattle.code_epochs.specs.declared.parts.Draft.{Draft}
use Rattle.code_epochs.specs.Sound.{At, Apart, IsBase, Stays, HasPassed, start_of}
use Rattle.code_epochs.specs.Steps.{unlinked, linked_of, with_status}
use Rattle.code_epochs.proofs.Lists.{at_same, at_index, at_below, set_else, set_here}
use Rattle.code_space.specs.Space.{HasRoom, IsFree, count_free}
use Rattle.code_epochs.specs.Shelf.{NoneFree, NoneShared, IsApart, count_staying, is_linked}
use Rattle.redirect_cells.specs.declared.view.View.{View}
use Rattle.redirect_cells.specs.declared.view.Plan.{Plan}
use Rattle.redirect_cells.specs.Kept.{book_of, draft_at, MayBegin}
use Rattle.redirect_cells.specs.Keeping.{Published, LinkedAreCurrent}
use Rattle.redirect_cells.proofs.Keeps as K
use Rattle.redirect_cells.proofs.desk.Desk.give_up.Goals as goal

pub index-requires : goal.index-requires
index-requires c = let h = at_below c.args.self.now.shelf.versions.items c.args.number c.requires.0 c.requires.3 in let o = c.args.self.now.shelf.versions.ok.0 in omega arith

pub overflow_sub-base : goal.overflow_sub-base
overflow_sub-base c =
    let me = c.args.self.now in
    let vs = me.shelf.versions.items in
    let u = c.requires.0 in
    let x = c.index.result.now in
    let same : u ≡ x = at_same vs c.args.number u x c.requires.3 (at_index vs c.args.number x (at_below vs c.args.number u c.requires.3) c.index.ensures) in
    subst (λ (y : VersionState). 16777220 ≤ y.base) same (let b = (me.shelf.held c.args.number u c.requires.3 (subst Stays (sym c.requires.4) tt)).0.0 in omega arith)

pub clear-requires-clause-passed : goal.clear-requires-clause-passed
clear-requires-clause-passed c =
    let me = c.args.self.now in
    let vs = me.shelf.versions.items in
    let u = c.requires.0 in
    let x = c.index.result.now in
    let same : u ≡ x = at_same vs c.args.number u x c.requires.3 (at_index vs c.args.number x (at_below vs c.args.number u c.requires.3) c.index.ensures) in
    (u, c.requires.1, c.requires.2, subst (λ (l : List VersionState). At l c.args.number u) (sym me.versions_are) c.requires.3, c.requires.4, c.requires.5, ap (λ (y : VersionState). start_of y.base) (sym same))

pub clear-requires-clause-place : goal.clear-requires-clause-place
clear-requires-clause-place c =
    let me = c.args.self.now in
    let vs = me.shelf.versions.items in
    let u = c.requires.0 in
    let x = c.index.result.now in
    let same : u ≡ x = at_same vs c.args.number u x c.requires.3 (at_index vs c.args.number x (at_below vs c.args.number u c.requires.3) c.index.ensures) in
    let size = me.size_is in
    let here : start_of u.base < me.seat.table.now.code_words = (let b = (me.shelf.held c.args.number u c.requires.3 (subst Stays (sym c.requires.4) tt)).0.1 in omega arith) in
    subst (λ (y : VersionState). start_of y.base < me.seat.table.now.code_words) same here

pub give_up-requires : goal.give_up-requires
give_up-requires c = (c.requires.0, c.requires.3, subst Stays (sym c.requires.4) tt, ap is_linked c.requires.4)

pub invariant_of-self : goal.invariant_of-self
invariant_of-self c =
    let me = c.args.self.now in
    let i = c.args.number in
    let u = c.requires.0 in
    let there : At (book_of me.seat.seat.me.0).versions i u = subst (λ (l : List VersionState). At l i u) (sym me.versions_are) c.requires.3 in
    let cleared = c.clear.ensures.cleared u there in
    let table = c.clear.ensures.table in
    let same = c.give_up.ensures.same in record {
      versions_are = ap (λ (y : View). (book_of y).versions) cleared ∙ (λ j. set (me.versions_are j) i (with_status u GivenUp)) ∙ sym (c.give_up.ensures.versions u c.requires.3);
      no_draft = ap (λ (y : View). (book_of y).draft) cleared ∙ me.no_draft;
      size_is = same.1 ∙ me.size_is ∙ sym (ap (λ t. t.now.code_words) table);
      functions_are = ap (λ v. length v.items) same.0 ∙ me.functions_are ∙ sym (ap (λ t. t.now.functions) table);
      linked_are = subst (λ (y : List VersionState × List ℕ). LinkedAreCurrent y.0 y.1) (λ j. (sym (c.give_up.ensures.versions u c.requires.3) j, sym (ap (λ t. t.items) same.0) j)) (K.linked_set me.shelf.versions.items me.shelf.current.items i (with_status u GivenUp) me.linked_are refl);
    }

pub returns-clause-book : goal.returns-clause-book
returns-clause-book c = λ v at.
    let me = c.args.self.now in
    ap book_of (c.clear.ensures.cleared v (subst (λ (l : List VersionState). At l c.args.number v) (sym me.versions_are) at))
