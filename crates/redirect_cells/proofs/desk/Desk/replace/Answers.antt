use Rattle.std.proofs.Common.{◌≡◌, ◌≢◌, ◌⊎◌, ◌+◌, ◌*◌, ◌-◌, ◌/◌, ◌<◌, ◌≤◌, [], ◌∷◌, ◌++◌, map, length, set, get_or, None, Some, ℕ, suc, List, true, false, sym, refl, subst, ap, ◌∙◌, inl, inr, ⊎_elim, arith, rules, vec_len, vec_capacity}
use Rattle.code_epochs.specs.declared.state.Status.{Status}
use Rattle.code_epochs.specs.declared.state.Status.TheVariants.{Linked, Unlinked, Pending, GivenUp}
use Rattle.code_epochs.specs.declared.state.VersionState.{VersionState}
use Rattle.code_epochs.specs.declared.parts.Book.{Book}
use Rattle.code_epochs.specs.declared.parts.Draft.{Draft}
use Rattle.code_epochs.specs.Sound.{At, Apart, IsBase, Stays, HasPassed, start_of}
use Rattle.code_epochs.specs.Steps.{unlinked, linked_of, with_status}
use Rattle.code_epochs.proofs.Lists.{at_same, at_index, at_below, set_else, set_here}
use Rattle.code_space.specs.Space.{HasRoom, IsFree, count_free}
use Rattle.code_epochs.specs.Shelf.{NoneFree, NoneShared, IsApart, count_staying, is_linked}
use Rattle.redirect_cells.specs.declared.view.View.{View}
use Rattle.redirect_cells.specs.declared.view.Plan.{Plan}
use Rattle.redirect_cells.specs.Kept.{book_of, draft_at, MayBegin}
use Rattle.redirect_cells.specs.Keeping.{Published}
use Rattle.redirect_cells.proofs.Keeps as K
use Rattle.redirect_cells.proofs.desk.Desk.replace.Goals as goal
use Rattle.code_epochs.proofs.Lists.{at_some}

pub returns-then-before-eq0-clause-published : goal.returns-then-before-eq0-clause-published
returns-then-before-eq0-clause-published c =
    let me = c.args.self.now in
    let symbol = c.args.version.now.symbol in
    let x = c.index-before.result.now in
    let low : symbol < length me.shelf.current.items = subst (λ (n : ℕ). symbol < n) (sym me.functions_are) c.requires.symbol in
    let at : At me.shelf.current.items symbol x = K.number_at me.shelf.current.items symbol x low c.index-before.ensures in
    K.published_first me.shelf c.add.new.self.shelf c.args.version.now c.args.place c.add.ensures.versions c.add.ensures.current
    (λ i v here is linked.
    let one : i + 1 ≡ x = at_same me.shelf.current.items symbol (i + 1) x (subst (λ (k : ℕ). At me.shelf.current.items k (i + 1)) is (me.linked_are i v here linked)) at in
    let nothing = c.if-before-eq0.true in
    omega arith)

pub retire-requires : goal.retire-requires
retire-requires c =
    let me = c.args.self.now in
    let symbol = c.args.version.now.symbol in
    let x = c.index-before.result.now in
    let low : symbol < length me.shelf.current.items = subst (λ (n : ℕ). symbol < n) (sym me.functions_are) c.requires.symbol in
    let some_number = c.if-before-eq0.false in
    let is : x ≡ x - 1 + 1 = omega arith in
    let at : At me.shelf.current.items symbol (x - 1 + 1) = subst (At me.shelf.current.items symbol) is (K.number_at me.shelf.current.items symbol x low c.index-before.ensures) in
    let was = at_some me.shelf.versions.items (x - 1) (me.shelf.numbers_are symbol (x - 1) at) in
    let fact = me.shelf.current_are symbol (x - 1) was.0 at was.1 in
    (unlinked symbol was.0, subst (λ (l : List VersionState). At l (x - 1) (unlinked symbol was.0)) (sym c.add.ensures.versions) (K.added_was symbol me.shelf.versions.items _ (x - 1) was.0 was.1), K.mine_unlinked symbol was.0 fact.0 fact.1)

pub returns-clause-published : goal.returns-clause-published
returns-clause-published c =
    let me = c.args.self.now in
    let symbol = c.args.version.now.symbol in
    let x = c.index-before.result.now in
    let low : symbol < length me.shelf.current.items = subst (λ (n : ℕ). symbol < n) (sym me.functions_are) c.requires.symbol in
    let some_number = c.if-before-eq0.false in
    let is : x ≡ x - 1 + 1 = omega arith in
    let at : At me.shelf.current.items symbol (x - 1 + 1) = subst (At me.shelf.current.items symbol) is (K.number_at me.shelf.current.items symbol x low c.index-before.ensures) in
    let was = at_some me.shelf.versions.items (x - 1) (me.shelf.numbers_are symbol (x - 1) at) in
    let fact = me.shelf.current_are symbol (x - 1) was.0 at was.1 in
    let new : VersionState = linked_of (draft_at c.args.version.now c.args.place 1) (length me.shelf.versions.items) in
    let there : At c.add.new.self.shelf.versions.items (x - 1) (unlinked symbol was.0) = subst (λ (l : List VersionState). At l (x - 1) (unlinked symbol was.0)) (sym c.add.ensures.versions) (K.added_was symbol me.shelf.versions.items new (x - 1) was.0 was.1) in
    let retired = c.retire.ensures.versions (unlinked symbol was.0) there in
    K.published_next me.shelf c.retire.new.self.shelf c.args.version.now c.args.place (x - 1) retired.0 was.0 was.1 fact.1 fact.0
    (retired.1 ∙ ap (λ (l : List VersionState). set l (x - 1) (with_status (unlinked symbol was.0) (Pending retired.0 0))) c.add.ensures.versions)
    (ap (λ v. v.items) c.retire.ensures.same.0 ∙ c.add.ensures.current)
    (λ j v here mine linked.
    let one : j + 1 ≡ x = at_same me.shelf.current.items symbol (j + 1) x (subst (λ (k : ℕ). At me.shelf.current.items k (j + 1)) mine (me.linked_are j v here linked)) (K.number_at me.shelf.current.items symbol x low c.index-before.ensures) in
    omega arith)

pub returns-clause-harts : goal.returns-clause-harts
returns-clause-harts c = let a = c.add.ensures.harts in let b = c.retire.ensures.harts in (b.0 ∙ a.0, b.1 ∙ a.1, b.2 ∙ a.2)
