use Rattle.std.proofs.Common.{◌≡◌, ◌≢◌, ◌⊎◌, ℕ, suc, zero, ◌+◌, ◌-◌, ◌*◌, ◌/◌, ◌<◌, ◌≤◌, List, [], ◌∷◌, ◌++◌, map, length, get_or, take, drop, set, Bool, true, false, sym, refl, ap, subst, ◌∙◌, inl, inr, ⊎_elim, arith, rules, vec_len, vec_capacity, replicate}
use Rattle.code_epochs.specs.declared.state.Status.{Status}
use Rattle.code_epochs.specs.declared.state.Status.TheVariants.{Linked, Unlinked, Pending, GivenUp}
use Rattle.code_epochs.specs.declared.state.VersionState.{VersionState}
use Rattle.code_epochs.specs.Sound.{At, Stays, IsBase, start_of}
use Rattle.code_epochs.specs.Steps.{unlink, unlinked, with_status}
use Rattle.code_epochs.proofs.Lists.{at_index, at_same, at_below}
use Rattle.code_epochs.proofs.Swap.{swapped_length}
use Rattle.code_space.specs.Space.{Space, IsFree, count_free}
use Rattle.code_space.specs.declared.FreeRange.{FreeRange}
use Rattle.code_epochs.specs.Shelf.{NoneFree, AreHeld, NoneShared, AreApart, IsApart, is_linked, AreCurrent, AreNumbers, one_if_stays, count_staying}
use Rattle.code_epochs.proofs.Shelves as S
use Rattle.code_epochs.proofs.shelf.Shelf.new.Goals as goal

pub invariant_of-result : goal.invariant_of-result
invariant_of-result c =
    let none : c.new-2.result.items ≡ [] = c.new-2.ensures.items in
    let zeros : c.in_ok-current.current.items ≡ replicate c.args.functions 0 = search rules in
    let size = c.in_ok-space.ensures.free.0 in
    let low = c.requires in record {
      size = omega arith;
      few = (let e : length c.new-2.result.items ≡ 0 = ap length none in omega arith);
      held = subst (λ (l : List VersionState). AreHeld l c.in_ok-space.space) (sym none) (λ i v at. absurd (S.at_none i v at));
      apart = subst AreApart (sym none) (λ i j v u at. absurd (S.at_none i v at));
      current_are = subst (λ (l : List VersionState). AreCurrent l c.in_ok-current.current.items) (sym none) (λ k n v at at'. absurd (S.at_none n v at'));
      numbers_are = subst (λ (l : List ℕ). AreNumbers c.new-2.result.items l) (sym zeros) (λ k n at. absurd (S.no_number c.args.functions k n at));
      room = (let e : count_staying c.new-2.result.items ≡ 0 = ap count_staying none in omega arith);
    }
