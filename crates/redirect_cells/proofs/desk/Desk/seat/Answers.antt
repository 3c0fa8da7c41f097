use Rattle.std.proofs.Common.{◌≡◌, ◌≢◌, ◌+◌, ◌-◌, ◌<◌, ℕ, List, suc, length, true, sym, refl, subst, ap, ◌∙◌, arith}
use Rattle.code_epochs.specs.declared.state.VersionState.{VersionState}
use Rattle.code_epochs.specs.declared.state.Status.{Status}
use Rattle.code_epochs.specs.declared.state.Status.TheVariants.{Linked, Unlinked, Pending, GivenUp}
use Rattle.code_epochs.specs.declared.parts.Book.{Book}
use Rattle.code_epochs.specs.Sound.{At}
use Rattle.code_epochs.specs.Steps.{AllLinked}
use Rattle.code_epochs.proofs.Lists.{at_some}
use Rattle.code_epochs.specs.declared.shelf.Shelf.{Shelf}
use Rattle.code_epochs.specs.Shelf.{is_linked}
use Rattle.redirect_cells.specs.declared.view.View.{View}
use Rattle.redirect_cells.specs.declared.view.Role.{Role}
use Rattle.redirect_cells.specs.declared.view.Role.TheVariants.{Hart, Keeper, Spent}
use Rattle.redirect_cells.specs.Kept.{functions_of, book_of, book_in, split_role}
use Rattle.redirect_cells.specs.Keeping.{AllCurrent}
use Rattle.redirect_cells.proofs.desk.Desk.seat.Goals as goal

split_versions : (r : Role) → (book_in (split_role r)).versions ≡ (book_in r).versions
split_versions (Keeper book) = refl
split_versions (Hart v) = refl
split_versions Spent = refl

split_draft : (r : Role) → (book_in (split_role r)).draft ≡ (book_in r).draft
split_draft (Keeper book) = refl
split_draft (Hart v) = refl
split_draft Spent = refl

linked_one : (s : Status) → is_linked s ≡ true → s ≡ Linked
linked_one Linked e = refl
linked_one Unlinked e = absurd (cc)
linked_one (Pending tag passed) e = absurd (cc)
linked_one GivenUp e = absurd (cc)

-- each symbol's current version is linked
all_linked : (shelf : Shelf) (book : Book) (functions : ℕ) → book.versions ≡ shelf.versions.items → length shelf.current.items ≡ functions → AllCurrent shelf.current.items → AllLinked functions book
all_linked shelf book functions are count all = λ k low.
    let l = shelf.current.items in
    let x = at_some l k (omega arith) in
    let some : x.0 ≢ 0 = λ z. all k (subst (At l k) z x.1) in
    let is : x.0 ≡ x.0 - 1 + 1 = omega arith in
    let mine : At l k (x.0 - 1 + 1) = subst (At l k) is x.1 in
    let v = at_some shelf.versions.items (x.0 - 1) (shelf.numbers_are k (x.0 - 1) mine) in
    let fact = shelf.current_are k (x.0 - 1) v.0 mine v.1 in
    (x.0 - 1, v.0, subst (λ (vs : List VersionState). At vs (x.0 - 1) v.0) (sym are) v.1, linked_one v.0.status fact.0, fact.1)

pub seat-requires-clause-linked : goal.seat-requires-clause-linked
seat-requires-clause-linked c =
    let me = c.args.self.now in
    all_linked me.shelf (book_of me.seat.seat.me.0) (functions_of me.seat.table.now.table.shared.key) me.versions_are (me.functions_are ∙ me.seat.table.now.functions_are) c.requires.all

pub invariant_of-self : goal.invariant_of-self
invariant_of-self c =
    let me = c.args.self.now in
    let split = c.seat.ensures.keeper in
    let table = c.seat.ensures.table.0 in
    let mine = me.seat.seat.me.0.role in record {
      versions_are = ap (λ (y : View). (book_of y).versions) split ∙ split_versions mine ∙ me.versions_are;
      no_draft = ap (λ (y : View). (book_of y).draft) split ∙ split_draft mine ∙ me.no_draft;
      size_is = me.size_is ∙ sym (ap (λ t. t.now.code_words) table);
      functions_are = me.functions_are ∙ sym (ap (λ t. t.now.functions) table);
      linked_are = me.linked_are;
    }
