-- What is kept while the registers are placed in order, and what it comes to.
use Rattle.std.proofs.Common.{◌≡◌, ◌≢◌, ℕ, zero, suc, ◌+◌, ◌-◌, ◌<◌, ◌≤◌, inl, inr, true, false, cond, leb, List, [], ◌∷◌, ◌++◌, length, get_or, take, drop, map, count_by, Option, Some, None, arith, refl, ap, sym, ◌∙◌}
use Rattle.std.specs.List.{Contains}
use Rattle.std.specs.List.Sorted.{IsPermutation}
use Rattle.std.proofs.lemmas.List.{take_more, length-set, length-map, length-take, get_or-take, get_or-drop, get_or-set_other, get_or_default, length-drop}
use Rattle.std.proofs.lemmas.List.Elements.{Contains-push, Contains-append_left}
use Rattle.std.proofs.lemmas.List.Sums.{sum_by-take-le, sum_by-take-drop}
use Rattle.std.proofs.lemmas.Bool.{le-leb, lt-leb, and_from, and_left}
use Rattle.mir.specs.declared.places.Place.{Place}
use Rattle.regalloc.specs.declared.starts.Start.{Start}
use Rattle.regalloc.specs.Overlap.{contains}
use Rattle.regalloc.specs.FirstFit.{place_at}
use Rattle.regalloc.specs.Steps.{starts_from, place_without_points, IsFull, Assigns, ComesBefore, Rises}
use Rattle.regalloc.proofs.Counts.{none_pass, push_yes}
use Rattle.regalloc.proofs.Orders.{IsEntry, is_entry, count_covers}
use Rattle.regalloc.proofs.Placing.{covers, Placing, before_starts, crowded_here, one_more, none_placed}

-- the first so many starts are placed, and every other register is as it was
pub record Stage (spans : List (Option (ℕ × ℕ))) (order : List Start) (count : ℕ) (ends : List ℕ) (at : List (Option Place)) (limit : ℕ) : Type 0 where
  pub placing : Placing (take count order) ends at limit
  pub size : length at ≡ length spans
  pub rest : (r : ℕ) → ((s : Start) → Contains (take count order) s → s.register ≢ r) → get_or at r None ≡ get_or (map place_without_points spans) r None

pub get_or-map_none : {A B : Type 0} (f : Option A → Option B) → f None ≡ None → (xs : List (Option A)) (i : ℕ) → get_or (map f xs) i None ≡ f (get_or xs i None)
get_or-map_none f e [] i = sym e
get_or-map_none f e (x ∷ xs) zero = refl
get_or-map_none f e (x ∷ xs) (suc i) = get_or-map_none f e xs i

pub some_none : {A : Type 0} (x : A) → Some x ≡ None → ⊥
some_none x e = cc

in_front : (order : List Start) (count : ℕ) (s : Start) → Contains (take count order) s → (k : ℕ) × (k < count) × (k < length order) × (get_or order k s ≡ s)
in_front order count s (k, below, is) =
    let short : k < count = omega (arith, length-take count order, below) in
    let inside : k < length order = omega (arith, length-take count order, below) in
    (k, short, inside, sym (get_or-take count order k s short) ∙ is)

module _ (spans : List (Option (ℕ × ℕ))) (order : List Start) (moved : IsPermutation (starts_from 0 spans) order) (rises : Rises order) (limit : ℕ) where
  pub at_first : Stage spans order 0 [] (map place_without_points spans) limit
  at_first = record {
    placing = none_placed (map place_without_points spans) limit;
    size = length-map spans place_without_points;
    rest = λ r free. refl;
  }

  pub span_at : (s : Start) → Contains order s → get_or spans s.register None ≡ Some (s.first, s.last)
  span_at s in' =
      let e : IsEntry 0 spans s = is_entry spans order moved s in' in
      let same : s.register - 0 ≡ s.register = omega arith in
      rw same at e.span_is

  module _ (count : ℕ) (below : count < length order) (next : Start) (is_next : next ≡ get_or order count next) where
    pub in_order : Contains order next
    in_order = (count, below, sym is_next)

    pub inside : next.register < length spans
    inside = let e : IsEntry 0 spans next = is_entry spans order moved next in_order in omega (arith, e.inside)

    later : (e : Start) → Contains (take count order) e → ComesBefore e next
    later e in' =
        let f : (k : ℕ) × (k < count) × (k < length order) × (get_or order k e ≡ e) = in_front order count e in' in
        let before : ComesBefore (get_or order (f.0) e) (get_or order count e) = rises (f.0) count e (f.1) below in
        let same : get_or order count e ≡ next = get_or_default order count e next below ∙ sym is_next in
        rw (f.3, same) at before

    front_in : (e : Start) → Contains (take count order) e → Contains order e
    front_in e in' = let f : (k : ℕ) × (k < count) × (k < length order) × (get_or order k e ≡ e) = in_front order count e in' in (f.0, f.2, f.3)

    apart : (e : Start) → Contains (take count order) e → e.register ≢ next.register
    apart e in' same =
        let spans_same : Some (e.first, e.last) ≡ Some (next.first, next.last) =
        sym (span_at e (front_in e in')) ∙ ap (λ r. get_or spans r None) same ∙ span_at next in_order in
        let first_same : e.first ≡ next.first = ap first_of spans_same in
        go first_same (later e in')
      where
        first_of : Option (ℕ × ℕ) → ℕ
        first_of None = 0
        first_of (Some span) = span.0

        go : e.first ≡ next.first → ComesBefore e next → ⊥
        go first_same (inl less) = absurd (omega (arith, less, first_same))
        go first_same (inr less) = absurd (omega (arith, less.1, same))

    grown : take (count + 1) order ≡ take count order ++ next ∷ []
    grown = take_more order count next below ∙ ap (λ s. take count order ++ s ∷ []) (sym is_next)

    module _ (ends : List ℕ) (at : List (Option Place)) (is : Stage spans order count ends at limit) where
      pub go_on : (after : List ℕ) (placed : List (Option Place)) → Assigns next limit ends at after placed → Stage spans order (count + 1) after placed limit
      go_on after placed assigns = rw (assigns.stands) (record {
        placing = rw grown (one_more (take count order) ends at limit is.placing next later has_point apart (rw is.size inside) assigns.rank after assigns.takes);
        size = length-set at next.register (Some (place_at assigns.rank)) ∙ is.size;
        rest = λ r free. get_or-set_other at next.register r (Some (place_at assigns.rank)) None (λ e. free next new_in (sym e))
            ∙ is.rest r (λ s in'. free s (old_in s in'));
      })
        where
          has_point : next.first ≤ next.last
          has_point = let e : IsEntry 0 spans next = is_entry spans order moved next in_order in e.has_point

          new_in : Contains (take (count + 1) order) next
          new_in = rw grown (Contains-push (take count order) next)

          old_in : (s : Start) → Contains (take count order) s → Contains (take (count + 1) order) s
          old_in s in' = rw grown (Contains-append_left (take count order) (next ∷ []) s in')

      -- where no place is free, more spans contain the point than there are places, and no earlier point has so many
      pub too_many : IsFull next.first limit ends → (limit < count_by (contains next.first) spans)
          × ((earlier : ℕ) → earlier < next.first → count_by (contains earlier) spans ≤ limit)
      too_many full = (many, fits)
        where
          has_point : next.first ≤ next.last
          has_point = let e : IsEntry 0 spans next = is_entry spans order moved next in_order in e.has_point

          many : limit < count_by (contains next.first) spans
          many =
              let here : limit ≤ count_by (covers next.first) (take count order) =
              crowded_here (take count order) ends at limit is.placing next later full.many full.busy in
              let own : covers next.first next ≡ true = and_from (leb next.first next.first) (leb next.first next.last)
              (le-leb next.first next.first (omega arith)) (le-leb next.first next.last has_point) in
              let one : count_by (covers next.first) (take count order ++ next ∷ []) ≡ count_by (covers next.first) (take count order) + 1 =
              push_yes (covers next.first) (take count order) next own in
              let front : count_by (covers next.first) (take (count + 1) order) ≤ count_by (covers next.first) order =
              sum_by-take-le (λ s. cond (covers next.first s) 1 0) order (count + 1) in
              omega (arith, here, one, rw grown at front, count_covers spans order moved next.first)

          fits : (earlier : ℕ) → earlier < next.first → count_by (contains earlier) spans ≤ limit
          fits earlier less =
              let none' : count_by (covers earlier) (drop count order) ≡ 0 = none_pass (covers earlier) (drop count order) behind in
              let parts : count_by (covers earlier) (take count order) + count_by (covers earlier) (drop count order) ≡ count_by (covers earlier) order =
              sum_by-take-drop (λ s. cond (covers earlier s) 1 0) order count in
              omega (arith, none', parts, is.placing.room earlier, count_covers spans order moved earlier)
            where
              starts_later : (j : ℕ) (d : Start) → count + j < length order → earlier < (get_or order (count + j) d).first
              starts_later zero d inside =
                  let same : get_or order (count + 0) d ≡ next = let e : count + 0 ≡ count = omega arith in
                  rw e (get_or_default order count d next below ∙ sym is_next) in
                  rw same (omega (arith, less))
              starts_later (suc j) d inside =
                  let order_is : ComesBefore (get_or order count d) (get_or order (count + suc j) d) = rises count (count + suc j) d (omega arith) inside in
                  let same : get_or order count d ≡ next = get_or_default order count d next below ∙ sym is_next in
                  let from : next.first ≤ (get_or order (count + suc j) d).first = before_starts next (get_or order (count + suc j) d) (rw same at order_is) in
                  omega (arith, from, less)

              behind : (j : ℕ) (d : Start) → j < length (drop count order) → covers earlier (get_or (drop count order) j d) ≡ false
              behind j d short = rw (get_or-drop count order j d)
                  (and_left (leb (get_or order (count + j) d).first earlier) (leb earlier (get_or order (count + j) d).last)
                  (lt-leb (get_or order (count + j) d).first earlier (starts_later j d (omega (arith, length-drop count order, short)))))
