use Rattle.std.proofs.Common.{◌≡◌, ◌≢◌, ◌⊎◌, ℕ, suc, zero, ◌+◌, ◌-◌, ◌*◌, ◌/◌, ◌<◌, ◌≤◌, List, [], ◌∷◌, ◌++◌, map, length, get_or, take, drop, set, Bool, true, false, sym, refl, ap, subst, ◌∙◌, inl, inr, ⊎_elim, arith, rules, vec_len, vec_capacity, replicate}
use Rattle.code_epochs.specs.declared.state.Status.{Status}
use Rattle.code_epochs.specs.declared.state.Status.TheVariants.{Linked, Unlinked, Pending, GivenUp}
use Rattle.code_epochs.specs.declared.state.VersionState.{VersionState}
use Rattle.code_epochs.specs.Sound.{At, Stays, IsBase, start_of}
use Rattle.code_epochs.specs.Steps.{unlink, unlinked, with_status}
use Rattle.code_epochs.proofs.Lists.{at_index, at_same, at_below}
use Rattle.code_epochs.proofs.Swap.{swapped_length}
use Rattle.code_space.specs.Space.{Space, IsFree, count_free}
use Rattle.code_space.specs.declared.FreeRange.{FreeRange}
use Rattle.code_epochs.specs.Shelf.{NoneFree, AreHeld, NoneShared, AreApart, IsApart, is_linked, AreCurrent, AreNumbers, one_if_stays, count_staying}
use Rattle.code_epochs.proofs.Shelves as S
use Rattle.code_epochs.proofs.shelf.Shelf.give_up.Goals as goal

pub index-version-requires : goal.index-version-requires
index-version-requires c = let h = at_below c.args.self.now.versions.items c.args.number c.requires.0 c.requires.1 in let o = c.args.self.now.versions.ok.0 in omega arith

pub index_mut-requires : goal.index_mut-requires
index_mut-requires c = let h = at_below c.args.self.now.versions.items c.args.number c.requires.0 c.requires.1 in let o = c.args.self.now.versions.ok.0 in omega arith

pub overflow_sub-place : goal.overflow_sub-place
overflow_sub-place c = let me = c.args.self.now in let vs = me.versions.items in let i = c.args.number in let u = c.requires.0 in let x = c.index-version.result.now in
    let same : u ≡ x = at_same vs i u x c.requires.1 (at_index vs i x (at_below vs i u c.requires.1) c.index-version.ensures) in
    subst (λ (y : VersionState). 16777220 ≤ y.base) same (let b = (me.held i u c.requires.1 c.requires.2).0.0 in omega arith)

pub overflow_cast-place : goal.overflow_cast-place
overflow_cast-place c = let me = c.args.self.now in let vs = me.versions.items in let i = c.args.number in let u = c.requires.0 in let x = c.index-version.result.now in
    let same : u ≡ x = at_same vs i u x c.requires.1 (at_index vs i x (at_below vs i u c.requires.1) c.index-version.ensures) in
    let fits : start_of x.base < 4294967296 = subst (λ (y : VersionState). start_of y.base < 4294967296) same (let b = (me.held i u c.requires.1 c.requires.2).0.1 in let s = me.size in omega arith) in omega arith

pub overflow_add-version : goal.overflow_add-version
overflow_add-version c = let me = c.args.self.now in let vs = me.versions.items in let i = c.args.number in let u = c.requires.0 in let x = c.index-version.result.now in
    let same : u ≡ x = at_same vs i u x c.requires.1 (at_index vs i x (at_below vs i u c.requires.1) c.index-version.ensures) in
    let words = ap (λ (y : VersionState). y.words) same in
    let b = (me.held i u c.requires.1 c.requires.2).0.1 in let s = me.size in omega arith

pub give-requires-clause-taken : goal.give-requires-clause-taken
give-requires-clause-taken c = let me = c.args.self.now in let vs = me.versions.items in let i = c.args.number in let u = c.requires.0 in let x = c.index-version.result.now in
    let same : u ≡ x = at_same vs i u x c.requires.1 (at_index vs i x (at_below vs i u c.requires.1) c.index-version.ensures) in
    let h = subst (λ (y : VersionState). IsBase me.space.size y.base y.words × NoneFree me.space (start_of y.base) y.words) same (me.held i u c.requires.1 c.requires.2) in
    let b = h.0.1 in (omega arith, λ w lo hi. h.1 w lo (omega arith))

pub give-requires-clause-room : goal.give-requires-clause-room
give-requires-clause-room c = let me = c.args.self.now in let one = S.one_stays c.requires.0.status c.requires.2 in let count = S.count_set me.versions.items c.args.number c.requires.0 GivenUp c.requires.1 in let room = me.room in omega arith

pub invariant_of-self : goal.invariant_of-self
invariant_of-self c =
    let me = c.args.self.now in
    let vs = me.versions.items in
    let i = c.args.number in
    let u = c.requires.0 in
    let v = c.index-version.result.now in
    let same_v : u ≡ v = at_same vs i u v c.requires.1 (at_index vs i v (at_below vs i u c.requires.1) c.index-version.ensures) in
    let x = c.index_mut.result.now in
    let same : x ≡ u = at_same vs i x u (at_index vs i x (at_below vs i u c.requires.1) c.index_mut.ensures.value) c.requires.1 in
    let now : set vs i (with_status u GivenUp) ≡ set vs i (with_status x GivenUp) = (λ j. set vs i (with_status (sym same j) GivenUp)) in
    let one = S.one_stays u.status c.requires.2 in
    let count = S.count_set vs i u GivenUp c.requires.1 in
    let room = me.room in
    let give = c.give.ensures in
    let size = give.size in
    let spare = give.spare in
    let low = me.size in
    let free : (w : ℕ) → IsFree c.give.new.self.ranges w → IsFree me.space.ranges w ⊎ ((start_of u.base ≤ w) × (w < start_of u.base + (u.words + 1))) =
    subst (λ (y : VersionState). (w : ℕ) → IsFree c.give.new.self.ranges w → IsFree me.space.ranges w ⊎ ((start_of y.base ≤ w) × (w < start_of y.base + (y.words + 1)))) (sym same_v) (λ w f. (give.free w).0 f) in record {
      size = omega arith;
      few = subst (λ (l : List VersionState). length l ≤ 1048576) now (S.size_set vs i (with_status u GivenUp) 1048576 me.few);
      held = subst (λ (l : List VersionState). AreHeld l c.give.new.self) now (S.held_give vs me.space c.give.new.self i u c.requires.1 c.requires.2 me.held me.apart size free);
      apart = subst AreApart now (S.apart_set vs i u GivenUp c.requires.1 (λ h. absurd h) me.apart);
      current_are = subst (λ (l : List VersionState). AreCurrent l me.current.items) now (S.current_set vs me.current.items i u GivenUp c.requires.1 c.requires.3 me.current_are);
      numbers_are = subst (λ (l : List VersionState). AreNumbers l me.current.items) now (S.numbers_set vs me.current.items i (with_status u GivenUp) me.numbers_are);
      room = subst (λ (l : List VersionState). count_staying l ≤ c.give.new.self.spare) now (omega arith);
    }

pub returns-clause-versions : goal.returns-clause-versions
returns-clause-versions c = λ v at.
    let vs = c.args.self.now.versions.items in
    let i = c.args.number in
    let x = c.index_mut.result.now in
    let same : x ≡ v = at_same vs i x v (at_index vs i x (at_below vs i v at) c.index_mut.ensures.value) at in
    (λ j. set vs i (with_status (same j) GivenUp))

pub returns-clause-count : goal.returns-clause-count
returns-clause-count c = λ v at.
    let vs = c.args.self.now.versions.items in
    let i = c.args.number in
    let x = c.index-version.result.now in
    let same : x ≡ v = at_same vs i x v (at_index vs i x (at_below vs i v at) c.index-version.ensures) at in
    c.give.ensures.count ∙ ap (λ (y : VersionState). count_free c.args.self.now.space.ranges + (y.words + 1)) same
