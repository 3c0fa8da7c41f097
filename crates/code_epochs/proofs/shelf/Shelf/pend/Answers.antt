use Rattle.std.proofs.Common.{◌≡◌, ◌≢◌, ◌⊎◌, ℕ, suc, ◌+◌, ◌-◌, ◌*◌, ◌/◌, ◌<◌, ◌≤◌, List, [], ◌∷◌, ◌++◌, map, length, get_or, take, drop, set, Bool, true, false, sym, refl, ap, subst, ◌∙◌, inl, inr, ⊎_elim, arith, rules, vec_len, vec_capacity, replicate}
use Rattle.code_epochs.specs.declared.state.Status.{Status}
use Rattle.code_epochs.specs.declared.state.Status.TheVariants.{Linked, Unlinked, Pending, GivenUp}
use Rattle.code_epochs.specs.declared.state.VersionState.{VersionState}
use Rattle.code_epochs.specs.Sound.{At, Stays, IsBase, start_of}
use Rattle.code_epochs.specs.Steps.{unlink, unlinked, with_status}
use Rattle.code_epochs.proofs.Lists.{at_index, at_same, at_below}
use Rattle.code_space.specs.Space.{Space, IsFree}
use Rattle.code_epochs.specs.Shelf.{NoneFree, AreHeld, NoneShared, AreApart, IsApart, is_linked, AreCurrent, AreNumbers, one_if_stays, count_staying}
use Rattle.code_epochs.proofs.Shelves as S
use Rattle.code_epochs.proofs.shelf.Shelf.pend.Goals as goal

pub index_mut-requires : goal.index_mut-requires
index_mut-requires c = let h = at_below c.args.self.now.versions.items c.args.number c.requires.0 c.requires.1 in let o = c.args.self.now.versions.ok.0 in omega arith

pub invariant_of-self : goal.invariant_of-self
invariant_of-self c =
    let me = c.args.self.now in
    let vs = me.versions.items in
    let i = c.args.number in
    let u = c.requires.0 in
    let s : Status = Pending c.args.tag c.args.passed in
    let x = c.index_mut.result.now in
    let same : x ≡ u = at_same vs i x u (at_index vs i x (at_below vs i u c.requires.1) c.index_mut.ensures.value) c.requires.1 in
    let now : set vs i (with_status u s) ≡ set vs i (with_status x s) = (λ j. set vs i (with_status (sym same j) s)) in
    let one = S.one_stays u.status c.requires.2 in
    let count = S.count_set vs i u s c.requires.1 in
    let room = me.room in record {
      size = me.size;
      few = subst (λ (l : List VersionState). length l ≤ 1048576) now (S.size_set vs i (with_status u s) 1048576 me.few);
      held = subst (λ (l : List VersionState). AreHeld l me.space) now (S.held_set vs me.space i u s c.requires.1 (λ _. c.requires.2) me.held);
      apart = subst AreApart now (S.apart_set vs i u s c.requires.1 (λ _. c.requires.2) me.apart);
      current_are = subst (λ (l : List VersionState). AreCurrent l me.current.items) now (S.current_set vs me.current.items i u s c.requires.1 c.requires.3 me.current_are);
      numbers_are = subst (λ (l : List VersionState). AreNumbers l me.current.items) now (S.numbers_set vs me.current.items i (with_status u s) me.numbers_are);
      room = subst (λ (l : List VersionState). count_staying l ≤ me.space.spare) now (omega arith);
    }

pub returns-clause-versions : goal.returns-clause-versions
returns-clause-versions c = λ v at.
    let vs = c.args.self.now.versions.items in
    let i = c.args.number in
    let x = c.index_mut.result.now in
    let same : x ≡ v = at_same vs i x v (at_index vs i x (at_below vs i v at) c.index_mut.ensures.value) at in
    (λ j. set vs i (with_status (same j) (Pending c.args.tag c.args.passed)))
