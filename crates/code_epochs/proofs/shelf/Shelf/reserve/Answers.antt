use Rattle.std.proofs.Common.{◌≡◌, ◌≢◌, ◌⊎◌, ℕ, suc, zero, ◌+◌, ◌-◌, ◌*◌, ◌/◌, ◌<◌, ◌≤◌, List, [], ◌∷◌, ◌++◌, map, length, get_or, take, drop, set, Bool, true, false, sym, refl, ap, subst, ◌∙◌, inl, inr, ⊎_elim, arith, rules, vec_len, vec_capacity, replicate}
use Rattle.code_epochs.specs.declared.state.Status.{Status}
use Rattle.code_epochs.specs.declared.state.Status.TheVariants.{Linked, Unlinked, Pending, GivenUp}
use Rattle.code_epochs.specs.declared.state.VersionState.{VersionState}
use Rattle.code_epochs.specs.Sound.{At, Stays, IsBase, start_of}
use Rattle.code_epochs.specs.Steps.{unlink, unlinked, with_status}
use Rattle.code_epochs.proofs.Lists.{at_index, at_same, at_below}
use Rattle.code_epochs.proofs.Swap.{swapped_length}
use Rattle.code_space.specs.Space.{Space, IsFree, count_free}
use Rattle.code_space.specs.declared.FreeRange.{FreeRange}
use Rattle.code_epochs.specs.Shelf.{NoneFree, AreHeld, NoneShared, AreApart, IsApart, is_linked, AreCurrent, AreNumbers, one_if_stays, count_staying}
use Rattle.code_epochs.proofs.Shelves as S
use Rattle.code_epochs.proofs.shelf.Shelf.reserve.Goals as goal

pub invariant_of-self : goal.invariant_of-self
invariant_of-self c =
    let me = c.args.self.now in
    let same = c.reserve_one.ensures.same.0 in record {
      size = me.size;
      few = subst (λ (l : List VersionState). length l ≤ 1048576) (sym same) me.few;
      held = subst (λ (l : List VersionState). AreHeld l me.space) (sym same) me.held;
      apart = subst AreApart (sym same) me.apart;
      current_are = subst (λ (l : List VersionState). AreCurrent l me.current.items) (sym same) me.current_are;
      numbers_are = subst (λ (l : List VersionState). AreNumbers l me.current.items) (sym same) me.numbers_are;
      room = subst (λ (l : List VersionState). count_staying l ≤ me.space.spare) (sym same) me.room;
    }

pub invariant_of-self-2 : goal.invariant_of-self-2
invariant_of-self-2 c =
    let me = c.args.self.now in
    let same = c.reserve_one.ensures.same.0 in
    let space = c.reserve.ensures in
    let size = space.same.0 in
    let room = me.room in
    let more = space.spare in
    let low = me.size in record {
      size = omega arith;
      few = subst (λ (l : List VersionState). length l ≤ 1048576) (sym same) me.few;
      held = subst (λ (l : List VersionState). AreHeld l c.reserve.new.self) (sym same) (S.held_same me.versions.items me.space c.reserve.new.self size space.same.1 me.held);
      apart = subst AreApart (sym same) me.apart;
      current_are = subst (λ (l : List VersionState). AreCurrent l me.current.items) (sym same) me.current_are;
      numbers_are = subst (λ (l : List VersionState). AreNumbers l me.current.items) (sym same) me.numbers_are;
      room = subst (λ (l : List VersionState). count_staying l ≤ c.reserve.new.self.spare) (sym same) (omega arith);
    }

pub returns-clause-ok : goal.returns-clause-ok
returns-clause-ok c = let most = S.count_most c.args.self.now.versions.items in let a = c.in_ok-reserve_one.ensures.ok in let b = c.in_ok-reserve.ensures.ok in let l = c.len.ensures in let n = c.reserve_one.ensures.same.1 in let o = c.args.self.now.versions.ok.0 in (omega arith, omega arith)
