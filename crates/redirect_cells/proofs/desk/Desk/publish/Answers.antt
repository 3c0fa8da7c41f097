use Rattle.std.proofs.Common.{◌≡◌, ◌≢◌, ◌⊎◌, ◌+◌, ◌*◌, ◌-◌, ◌/◌, ◌<◌, ◌≤◌, [], ◌∷◌, ◌++◌, map, length, set, get_or, None, Some, ℕ, suc, List, true, false, sym, refl, subst, ap, ◌∙◌, inl, inr, ⊎_elim, arith, rules, vec_len, vec_capacity}
use Rattle.code_epochs.specs.declared.state.Status.{Status}
use Rattle.code_epochs.specs.declared.state.Status.TheVariants.{Linked, Unlinked, Pending, GivenUp}
use Rattle.code_epochs.specs.declared.state.VersionState.{VersionState}
use Rattle.code_epochs.specs.declared.parts.Book.{Book}
use Rattle.code_epochs.specs.declared.parts.Draft.{Draft}
use Rattle.code_epochs.specs.Sound.{At, Apart, IsBase, Stays, HasPassed, start_of}
use Rattle.code_epochs.specs.Steps.{unlinked, linked_of, with_status}
use Rattle.code_epochs.proofs.Lists.{at_same, at_index, at_below, set_else, set_here}
use Rattle.code_space.specs.Space.{HasRoom, IsFree, count_free}
use Rattle.code_epochs.specs.Shelf.{NoneFree, NoneShared, IsApart, count_staying, is_linked}
use Rattle.redirect_cells.specs.declared.view.View.{View}
use Rattle.redirect_cells.specs.declared.view.Plan.{Plan}
use Rattle.redirect_cells.specs.Kept.{book_of, draft_at, MayBegin}
use Rattle.redirect_cells.specs.Keeping.{Published}
use Rattle.redirect_cells.proofs.Keeps as K
use Rattle.redirect_cells.proofs.desk.Desk.publish.Goals as goal
use Rattle.code_space.specs.declared.FreeRange.{FreeRange}

pub returns-then-words-largest-clause-cause : goal.returns-then-words-largest-clause-cause
returns-then-words-largest-clause-cause c =
    let me = c.args.self.now in
    let few = c.if-count-ge-MOST_VERSIONS.false in
    let size = c.len-count.ensures in
    let o = me.shelf.versions.ok.0 in
    let w = c.len-words.ensures in
    let more = c.if-words-largest.true in
    let ranges = c.reserve.ensures.space.1 in
    let count : length me.shelf.versions.items < 1048576 = omega arith in
    let needed : c.len-words.result + 1 ≡ length c.args.version.words + 1 = omega arith in (
      count,
      needed,
      omega arith,
      subst (λ (l : List FreeRange). (b : ℕ) → ¬ HasRoom l b (c.largest-largest.result + 1)) ranges c.largest-largest.ensures.most,
      subst (λ (l : List FreeRange). 0 < c.largest-largest.result → (b : ℕ) × HasRoom l b c.largest-largest.result) ranges c.largest-largest.ensures.room,
    )

pub unreachable-requires : goal.unreachable-requires
unreachable-requires c =
    let less = c.if-words-largest.false in
    let room = c.largest-largest.ensures.room (omega arith) in
    let none = c.in_default.ensures.taken.1 in
    none room.0 (λ w lo hi. room.1 w lo (omega arith))

pub replace-requires-clause-range : goal.replace-requires-clause-range
replace-requires-clause-range c =
    let t = c.in-Some.ensures.taken in
    let same = c.in-Some.ensures.same in
    let w = c.len-words.ensures in
    let words : c.len-words.result ≡ length c.args.version.words = omega arith in
    let vs = ap (λ v. v.items) same.0 in
    let size = same.2 in
    subst (λ (n : ℕ). (c.in-Some.place + n < c.take.new.self.space.size) × NoneFree c.take.new.self.space c.in-Some.place n × IsApart c.take.new.self.versions.items c.in-Some.place n) words
    (subst (λ (n : ℕ). c.in-Some.place + c.len-words.result < n) (sym size) t.0, t.1, subst (λ (l : List VersionState). IsApart l c.in-Some.place c.len-words.result) (sym vs) t.2)

pub returns-clause-fits : goal.returns-clause-fits
returns-clause-fits c =
    let few = c.if-count-ge-MOST_VERSIONS.false in
    let me = c.args.self.now in
    let size = c.len-count.ensures in
    let o = me.shelf.versions.ok.0 in
    let less = c.if-words-largest.false in
    let w = c.len-words.ensures in
    let count : length me.shelf.versions.items < 1048576 = omega arith in
    let room = c.largest-largest.ensures.room (omega arith) in
    let ranges = c.reserve.ensures.space.1 in
    let before = subst (λ (l : List FreeRange). HasRoom l room.0 c.largest-largest.result) ranges room.1 in
    (count, room.0, λ x lo hi. before x lo (omega arith))
