-- Places in their order.
use Rattle.std.proofs.Common.{◌≡◌, ℕ, ◌+◌, ◌-◌, ◌<◌, ◌≤◌, Option, Some, None, ltb, arith, refl, ap, sym, ◌∙◌}
use Rattle.mir.specs.declared.places.Place.{Place}
use Rattle.mir.specs.declared.places.Place.TheVariants.{Saved, Slot}
use Rattle.mir.specs.Places.{IsPlace}
use Rattle.regalloc.specs.FirstFit.{place_at}
use Rattle.std.proofs.lemmas.Bool.{cond_both, ltb-true, ltb-false}

abbrev rank_of : Option Place → ℕ
rank_of None = 0
rank_of (Some (Saved k)) = k
rank_of (Some (Slot k)) = 11 + k

rank_of_place : (k : ℕ) → rank_of (Some (place_at k)) ≡ k
rank_of_place k = cond_both (ltb k 11) (Saved k) (Slot (k - 11)) (λ place. rank_of (Some place) ≡ k)
    (λ e. refl) (λ e. let h : 11 ≤ k = ltb-false k 11 e in omega arith)

-- a place has one rank
pub one_rank : (j k : ℕ) → Some (place_at j) ≡ Some (place_at k) → j ≡ k
one_rank j k e = sym (rank_of_place j) ∙ ap rank_of e ∙ rank_of_place k

-- a slot has a rank from 11 on
pub slot_rank : (k slot : ℕ) → Some (place_at k) ≡ Some (Slot slot) → 11 ≤ k
slot_rank k slot e = let same : k ≡ 11 + slot = sym (rank_of_place k) ∙ ap rank_of e in omega (arith, same)

-- the place of a rank below eleven and so many slots is one of them
pub is_place : (k slots : ℕ) → k < 11 + slots → IsPlace slots (place_at k)
is_place k slots below = cond_both (ltb k 11) (Saved k) (Slot (k - 11)) (IsPlace slots)
    (λ e. ltb-true k 11 e) (λ e. let h : 11 ≤ k = ltb-false k 11 e in omega arith)
