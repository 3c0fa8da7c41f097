-- What it comes to where all registers are placed.
use Rattle.std.proofs.Common.{◌≡◌, ◌≢◌, ℕ, ◌+◌, ◌<◌, ◌≤◌, ◌⊎◌, inl, inr, false, cond, leb, List, length, take, count_by, Option, Some, None, arith, refl, ap, sym, ◌∙◌}
use Rattle.std.specs.Prelude.{unwrap_or}
use Rattle.std.specs.List.{Contains}
use Rattle.std.specs.List.Sorted.{IsPermutation}
use Rattle.std.proofs.lemmas.List.{take_all}
use Rattle.std.proofs.lemmas.Bool.{leb-true, leb-false, cases_order, cases_Bool}
use Rattle.mir.specs.declared.places.Intervals.{Intervals}
use Rattle.mir.specs.declared.places.Place.{Place}
use Rattle.mir.specs.declared.places.Place.TheVariants.{Saved, Slot}
use Rattle.mir.specs.declared.places.Places.{Places}
use Rattle.mir.specs.Places.{span_of, place_of, Holds, IsPlace, Fits}
use Rattle.regalloc.specs.declared.starts.Start.{Start}
use Rattle.regalloc.specs.Overlap.{overlap, HasRoom}
use Rattle.regalloc.specs.FirstFit.{place_at, IsBefore, Meets, IsTaken, TakesFirst, IsFirstFit, UsesNoSlot}
use Rattle.regalloc.specs.Steps.{starts_from, place_without_points, Rises}
use Rattle.regalloc.proofs.Ranks.{slot_rank, is_place}
use Rattle.regalloc.proofs.Orders.{entry, IsEntry, is_entry, has_entry, count_covers}
use Rattle.regalloc.proofs.Placing.{covers, Blocks, HasPlace, Placing, before_starts}
use Rattle.regalloc.proofs.Stages.{Stage, span_at, get_or-map_none, some_none}

one_span : (one other : ℕ × ℕ) → Some one ≡ Some other → one ≡ other
one_span one other e = ap (λ o. unwrap_or o one) e

-- two registers with spans are one, or one comes before the other
before_or_after : (intervals : Intervals) (q r : ℕ) (one other : ℕ × ℕ) → span_of intervals q ≡ Some one → span_of intervals r ≡ Some other
    → (q ≡ r) ⊎ (IsBefore intervals q r ⊎ IsBefore intervals r q)
before_or_after intervals q r one other e f = elim (cases_order one.0 other.0) [
  | inl same ↦ elim (cases_order q r) [
    | inl equal ↦ inl equal
    | inr (inl less) ↦ inr (inl (one, other, e, f, inr (same, less)))
    | inr (inr less) ↦ inr (inr (other, one, f, e, inr (sym same, less)))
  ]
  | inr (inl less) ↦ inr (inl (one, other, e, f, inl less))
  | inr (inr less) ↦ inr (inr (other, one, f, e, inl less))
]

-- places by first fit fit
pub first_fit_fits : (intervals : Intervals) (slots : ℕ) (places : Places) → IsFirstFit intervals slots places → Fits intervals slots places
first_fit_fits intervals slots places is = record { placed = placed; apart = apart }
  where
    placed : (r first last : ℕ) → span_of intervals r ≡ Some (first, last) → (place : Place) × (place_of places r ≡ Some place) × IsPlace slots place
    placed r first last e =
        let f : (k : ℕ) × (k < 11 + slots) × TakesFirst intervals places r k = is.first r (first, last) e in
        (place_at (f.0), (f.2).stands, is_place (f.0) slots (f.1))

    not_after : (q r point : ℕ) (place : Place) → Holds intervals q point → Holds intervals r point
        → place_of places q ≡ Some place → place_of places r ≡ Some place → IsBefore intervals q r → ⊥
    not_after q r point place one other here there before =
        let f : (k : ℕ) × (k < 11 + slots) × TakesFirst intervals places r k = is.first r (other.0, other.1) (other.2) in
        (f.2).free (record { by = q; before = before; meets = (point, one, other); stands = here ∙ sym there ∙ (f.2).stands })

    apart : (q r point : ℕ) (place : Place) → Holds intervals q point → Holds intervals r point
        → place_of places q ≡ Some place → place_of places r ≡ Some place → q ≡ r
    apart q r point place one other here there = elim (before_or_after intervals q r (one.0, one.1) (other.0, other.1) (one.2) (other.2)) [
      | inl same ↦ same
      | inr (inl before) ↦ absurd (not_after q r point place one other here there before)
      | inr (inr before) ↦ absurd (not_after r q point place other one there here before)
    ]

module _ (intervals : Intervals) (slots : ℕ) (order : List Start) (moved : IsPermutation (starts_from 0 intervals.spans) order) (rises : Rises order)
    (ends : List ℕ) (places : Places) (is : Stage intervals.spans order (length order) ends places.at (11 + slots)) where
  whole : take (length order) order ≡ order
  whole = take_all (length order) order (omega arith)

  all_placed : Placing order ends places.at (11 + slots)
  all_placed = rw whole at is.placing

  unplaced : (r : ℕ) → ((s : Start) → Contains order s → s.register ≢ r) → place_of places r ≡ place_without_points (span_of intervals r)
  unplaced r free = is.rest r (rw whole free) ∙ get_or-map_none place_without_points refl intervals.spans r

  span_is : (s : Start) → Contains order s → span_of intervals s.register ≡ Some (s.first, s.last)
  span_is s in' = span_at intervals.spans order moved rises (11 + slots) s in'

  has_point : (s : Start) → Contains order s → s.first ≤ s.last
  has_point s in' = let e : IsEntry 0 intervals.spans s = is_entry intervals.spans order moved s in' in e.has_point

  pub has_room : HasRoom intervals slots
  has_room point = omega (arith, all_placed.room point, count_covers intervals.spans order moved point)

  blocked : (r k : ℕ) (span : ℕ × ℕ) → span_of intervals r ≡ Some span → (by : ℕ) → IsBefore intervals by r → Meets intervals by r
      → place_of places by ≡ Some (place_at k) → Blocks order places.at (entry r span) k
  blocked r k span e by (one, other, one_is, other_is, earlier) (point, (f, l, by_is, low, high), (f', l', r_is, low', high')) stands' =
      let one_same : (f, l) ≡ one = one_span (f, l) one (sym by_is ∙ one_is) in
      let other_same : other ≡ span = one_span other span (sym other_is ∙ e) in
      let mine : (f', l') ≡ span = one_span (f', l') span (sym r_is ∙ e) in
      let first_same : f ≡ one.0 = ap (λ s. s.0) one_same in
      let last_same : l ≡ one.1 = ap (λ s. s.1) one_same in
      let start_same : f' ≡ span.0 = ap (λ s. s.0) mine in
      record {
        by = entry by one;
        among = has_entry intervals.spans order moved by one one_is (omega (arith, low, high, first_same, last_same));
        before = rw other_same at earlier;
        reaches = omega (arith, low', high, start_same, last_same);
        there = stands';
      }

  taken_by : (r k : ℕ) (span : ℕ × ℕ) → span_of intervals r ≡ Some span → span.0 ≤ span.1 → Blocks order places.at (entry r span) k
      → IsTaken intervals places r (place_at k)
  taken_by r k span e has b = record {
    by = b.by.register;
    before = ((b.by.first, b.by.last), span, span_is b.by b.among, e, b.before);
    meets = (
      span.0,
      (b.by.first, b.by.last, span_is b.by b.among, before_starts b.by (entry r span) b.before, b.reaches),
      (span.0, span.1, e, omega arith, has),
    );
    stands = b.there;
  }

  own : (r : ℕ) (span : ℕ × ℕ) → span_of intervals r ≡ Some span → span.0 ≤ span.1 → HasPlace order ends places.at (entry r span)
  own r span e has = all_placed.has (entry r span) (has_entry intervals.spans order moved r span e has)

  first_by_point : (r : ℕ) (span : ℕ × ℕ) → span_of intervals r ≡ Some span → span.0 ≤ span.1 → (k : ℕ) × (k < 11 + slots) × TakesFirst intervals places r k
  first_by_point r span e has =
      let h : HasPlace order ends places.at (entry r span) = own r span e has in (
        h.rank,
        omega (arith, h.within, all_placed.size),
        record {
          stands = h.there;
          free = λ taken. h.free (blocked r h.rank span e taken.by taken.before taken.meets taken.stands);
          taken = λ j below. taken_by r j span e has (h.taken j below);
        },
      )

  pointless : (r : ℕ) (span : ℕ × ℕ) → span_of intervals r ≡ Some span → leb span.0 span.1 ≡ false → place_of places r ≡ Some (Saved 0)
  pointless r span e none' = unplaced r free ∙ ap place_without_points e ∙ ap (λ b. cond b None (Some (Saved 0))) none'
    where
      free : (s : Start) → Contains order s → s.register ≢ r
      free s in' same =
          let span_same : (s.first, s.last) ≡ span = one_span (s.first, s.last) span (sym (span_is s in') ∙ ap (λ q. span_of intervals q) same ∙ e) in
          omega (arith, has_point s in', leb-false span.0 span.1 none', ap (λ s. s.0) span_same, ap (λ s. s.1) span_same)

  first_without : (r : ℕ) (span : ℕ × ℕ) → span_of intervals r ≡ Some span → leb span.0 span.1 ≡ false → (k : ℕ) × (k < 11 + slots) × TakesFirst intervals places r k
  first_without r span e none' = (
    0,
    omega arith,
    record {
      stands = pointless r span e none';
      free = λ taken. shares taken.by taken.meets;
      taken = λ j below. absurd (omega arith);
    },
  )
    where
      shares : (by : ℕ) → Meets intervals by r → ⊥
      shares by (point, one, (f, l, r_is, low, high)) =
          let mine : (f, l) ≡ span = one_span (f, l) span (sym r_is ∙ e) in
          omega (arith, low, high, leb-false span.0 span.1 none', ap (λ s. s.0) mine, ap (λ s. s.1) mine)

  without : (r : ℕ) → span_of intervals r ≡ None → place_of places r ≡ None
  without r e = unplaced r (λ s in' same. some_none (s.first, s.last) (sym (span_is s in') ∙ ap (λ q. span_of intervals q) same ∙ e)) ∙ ap place_without_points e

  -- the places are those of first fit
  pub is_first_fit : IsFirstFit intervals slots places
  is_first_fit = record {
    size = is.size;
    without = without;
    first = λ r span e. elim (cases_Bool (leb span.0 span.1)) [
      | inl has ↦ first_by_point r span e (leb-true span.0 span.1 has)
      | inr none' ↦ first_without r span e none'
    ];
  }

  -- no slot is used where at most eleven spans share any point
  pub uses_no_slot : HasRoom intervals 0 → UsesNoSlot places
  uses_no_slot room r slot e = go (span_of intervals r) refl
    where
      by_span : (span : ℕ × ℕ) → span_of intervals r ≡ Some span → ⊥
      by_span span is_it = elim (cases_Bool (leb span.0 span.1)) [
        | inl has ↦
            let h : HasPlace order ends places.at (entry r span) = own r span is_it (leb-true span.0 span.1 has) in
            let high : 11 ≤ h.rank = slot_rank h.rank slot (sym h.there ∙ e) in
            let few : count_by (covers span.0) order ≡ overlap intervals span.0 = count_covers intervals.spans order moved span.0 in
            omega (arith, high, h.few, few, room span.0)
        | inr none' ↦ let high : 11 ≤ 0 = slot_rank 0 slot (sym (pointless r span is_it none') ∙ e) in omega (arith, high)
      ]

      go : (o : Option (ℕ × ℕ)) → span_of intervals r ≡ o → ⊥
      go None is_it = some_none (Slot slot) (sym e ∙ without r is_it)
      go (Some span) is_it = by_span span is_it

-- what all clauses about places follow from
pub record IsDone (intervals : Intervals) (slots : ℕ) (places : Places) : Type 0 where
  pub order : List Start
  pub moved : IsPermutation (starts_from 0 intervals.spans) order
  pub rises : Rises order
  pub ends : List ℕ
  pub stage : Stage intervals.spans order (length order) ends places.at (11 + slots)

pub done : (intervals : Intervals) (slots : ℕ) (spans : List (Option (ℕ × ℕ))) → spans ≡ intervals.spans → (order items : List Start) → order ≡ items
    → IsPermutation (starts_from 0 spans) items × Rises items → (count : ℕ) → count ≡ length order → (ends : List ℕ) (at result : List (Option Place))
    → Stage spans order count ends at (11 + slots) → result ≡ at → IsDone intervals slots (record { at = result })
done intervals slots spans same order items order_is ordered count all ends at result stage result_is = record {
  order = order;
  moved = rw (← same, order_is) ordered.0;
  rises = rw order_is ordered.1;
  ends = ends;
  stage = rw (← same, ← all, result_is) stage;
}

module _ (intervals : Intervals) (slots : ℕ) (places : Places) (is : IsDone intervals slots places) where
  pub done_first : IsFirstFit intervals slots places
  done_first = is_first_fit intervals slots is.order is.moved is.rises is.ends places is.stage

  pub done_fits : Fits intervals slots places
  done_fits = first_fit_fits intervals slots places done_first

  pub done_saved : HasRoom intervals 0 → UsesNoSlot places
  done_saved = uses_no_slot intervals slots is.order is.moved is.rises is.ends places is.stage

  pub done_room : HasRoom intervals slots
  done_room = has_room intervals slots is.order is.moved is.rises is.ends places is.stage
