use Rattle.std.proofs.Common.{◌≡◌, ◌≢◌, ◌⊎◌, ℕ, suc, zero, ◌+◌, ◌-◌, ◌*◌, ◌/◌, ◌<◌, ◌≤◌, List, [], ◌∷◌, ◌++◌, map, length, get_or, take, drop, set, Bool, true, false, sym, refl, ap, subst, ◌∙◌, inl, inr, ⊎_elim, arith, rules, vec_len, vec_capacity, replicate}
use Rattle.code_epochs.specs.declared.state.Status.{Status}
use Rattle.code_epochs.specs.declared.state.Status.TheVariants.{Linked, Unlinked, Pending, GivenUp}
use Rattle.code_epochs.specs.declared.state.VersionState.{VersionState}
use Rattle.code_epochs.specs.Sound.{At, Stays, IsBase, start_of}
use Rattle.code_epochs.specs.Steps.{unlink, unlinked, with_status}
use Rattle.code_epochs.proofs.Lists.{at_index, at_same, at_below}
use Rattle.code_epochs.proofs.Swap.{swapped_length}
use Rattle.code_space.specs.Space.{Space, IsFree, count_free}
use Rattle.code_space.specs.declared.FreeRange.{FreeRange}
use Rattle.code_epochs.specs.Shelf.{NoneFree, AreHeld, NoneShared, AreApart, IsApart, is_linked, AreCurrent, AreNumbers, one_if_stays, count_staying}
use Rattle.code_epochs.proofs.Shelves as S
use Rattle.std.proofs.lemmas.List.{length-map}
use Rattle.code_epochs.proofs.shelf.Shelf.link.Goals as goal

pub invariant_of-self : goal.invariant_of-self
invariant_of-self c =
    let me = c.args.self.now in
    let vs = me.versions.items in
    let n = c.len-number.result in
    let o = me.versions.ok.0 in
    let count : n ≡ length vs = search rules in
    let from : c.from.result ≡ c.args.place = c.from.ensures in
    let new : VersionState = record { number = n; symbol = c.args.symbol; level = c.args.level; base = 16777220 + 4 * c.from.result; words = c.args.words; status = Linked } in
    let items : c.push_reserved.new.self.items ≡ S.linked_shelf c.args.symbol vs new =
    (let size : me.versions.len ≡ length c.unlink_all.new.versions = sym c.as_mut_slice.ensures.len ∙ sym (ap length c.unlink_all.ensures ∙ length-map c.as_mut_slice.result.now (unlinked c.args.symbol)) in
    let rest = drop (length c.unlink_all.new.versions) vs in
    let first : c.push_reserved.new.self.items ≡ take me.versions.len (c.unlink_all.new.versions ++ rest) ++ new ∷ [] = c.push_reserved.ensures.items in
    first ∙ ap (λ (l : List VersionState). l ++ new ∷ []) (S.take_front c.unlink_all.new.versions rest me.versions.len size ∙ c.unlink_all.ensures ∙ ap (map (unlinked c.args.symbol)) c.as_mut_slice.ensures.value)) in
    let low = c.requires.room in
    let range = c.requires.range in
    let start : start_of new.base ≡ c.args.place = omega arith in
    let size = swapped_length c.args.symbol vs new in
    let total = S.count_link c.args.symbol vs new refl in
    let numbers : set me.current.items c.args.symbol (n + 1) ≡ set me.current.items c.args.symbol (length vs + 1) = ap (λ (k : ℕ). set me.current.items c.args.symbol (k + 1)) count in record {
      size = me.size;
      few = subst (λ (l : List VersionState). length l ≤ 1048576) (sym items) (let h = low.1 in omega arith);
      held = subst (λ (l : List VersionState). AreHeld l me.space) (sym items) (S.held_link c.args.symbol vs new me.space me.held ((omega arith, (let h = range.0 in omega arith)), subst (λ (k : ℕ). NoneFree me.space k c.args.words) (sym start) range.1));
      apart = subst AreApart (sym items) (S.apart_link c.args.symbol vs new me.apart (subst (λ (k : ℕ). IsApart vs k c.args.words) (sym start) range.2));
      current_are = subst (λ (t : List VersionState × List ℕ). AreCurrent t.0 t.1) (λ j. (sym items j, sym numbers j)) (S.current_link c.args.symbol vs new me.current.items me.current_are me.numbers_are refl refl);
      numbers_are = subst (λ (t : List VersionState × List ℕ). AreNumbers t.0 t.1) (λ j. (sym items j, sym numbers j)) (S.numbers_link c.args.symbol vs new me.current.items me.numbers_are);
      room = subst (λ (l : List VersionState). count_staying l ≤ me.space.spare) (sym items) (let h = low.2 in omega arith);
    }
