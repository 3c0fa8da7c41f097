use Rattle.std.proofs.Common.{◌≡◌, ◌≢◌, ◌⊎◌, ◌+◌, ◌*◌, ◌-◌, ◌/◌, ◌<◌, ◌≤◌, [], ◌∷◌, ◌++◌, map, length, set, get_or, None, Some, ℕ, suc, List, true, false, sym, refl, subst, ap, ◌∙◌, inl, inr, ⊎_elim, arith, rules, vec_len, vec_capacity}
use Rattle.code_epochs.specs.declared.state.Status.{Status}
use Rattle.code_epochs.specs.declared.state.Status.TheVariants.{Linked, Unlinked, Pending, GivenUp}
use Rattle.code_epochs.specs.declared.state.VersionState.{VersionState}
use Rattle.code_epochs.specs.declared.parts.Book.{Book}
use Rattle.code_epochs.specs.declared.parts.Draft.{Draft}
use Rattle.code_epochs.specs.Sound.{At, Apart, IsBase, Stays, HasPassed, start_of}
use Rattle.code_epochs.specs.Steps.{unlinked, linked_of, with_status}
use Rattle.code_epochs.proofs.Lists.{at_same, at_index, at_below, set_else, set_here}
use Rattle.code_space.specs.Space.{HasRoom, IsFree, count_free}
use Rattle.code_epochs.specs.Shelf.{NoneFree, NoneShared, IsApart, count_staying, is_linked}
use Rattle.redirect_cells.specs.declared.view.View.{View}
use Rattle.redirect_cells.specs.declared.view.Plan.{Plan}
use Rattle.redirect_cells.specs.Kept.{book_of, draft_at, MayBegin}
use Rattle.redirect_cells.specs.Keeping.{Published, LinkedAreCurrent}
use Rattle.redirect_cells.proofs.Keeps as K
use Rattle.redirect_cells.proofs.desk.Desk.add.Goals as goal

pub store_draft-requires-clause-begins : goal.store_draft-requires-clause-begins
store_draft-requires-clause-begins c =
    let me = c.args.self.now in
    let table = me.seat.table.now in
    let version = c.args.version.now in
    let place = c.args.place in
    let base : ℕ = 16777220 + 4 * place in
    let start : start_of base ≡ place = omega arith in
    let range = c.requires.range in
    let size : me.shelf.space.size ≡ table.table.shared.key.code_words = me.size_is ∙ table.code_is in
    record {
      free = me.no_draft;
      room = subst (λ (l : List VersionState). length l < 1048576) (sym me.versions_are) c.requires.room.1;
      good = c.requires.good;
      has_cell = subst (λ (n : ℕ). version.symbol < n) table.functions_are c.requires.symbol;
      fits = (omega arith, (let r = range.0 in omega arith));
      apart = subst (λ (l : List VersionState). (i : ℕ) (v : VersionState) → At l i v → Stays v.status → Apart v.base v.words base (length version.words)) (sym me.versions_are)
          (λ i v at stays. K.apart_of v.base v.words base (length version.words) (subst (λ (n : ℕ). NoneShared (start_of v.base) v.words n (length version.words)) (sym start) (range.2 i v at stays)));
      begins = refl;
    }

pub link-requires-clause-range : goal.link-requires-clause-range
link-requires-clause-range c =
    let me = c.args.self.now in
    let words : length c.args.version.now.words ≡ c.len-words.result = search rules in
    subst (λ (n : ℕ). (c.args.place + n < me.shelf.space.size) × NoneFree me.shelf.space c.args.place n × IsApart me.shelf.versions.items c.args.place n) words c.requires.range

pub invariant_of-self-clause-linked_are : goal.invariant_of-self-clause-linked_are
invariant_of-self-clause-linked_are c =
    let me = c.args.self.now in
    let version = c.args.version.now in
    let vs = me.shelf.versions.items in
    let low : version.symbol < length me.shelf.current.items = subst (λ (n : ℕ). version.symbol < n) (sym me.functions_are) c.requires.symbol in
    let it : VersionState = record { number = length vs; symbol = version.symbol; level = version.level; base = 16777220 + 4 * c.args.place; words = c.len-words.result; status = Linked } in
    subst (λ (y : List VersionState × List ℕ). LinkedAreCurrent y.0 y.1) (λ j. (sym c.link.ensures.versions j, sym c.link.ensures.current j)) (K.linked_added version.symbol vs me.shelf.current.items it me.linked_are low refl)
