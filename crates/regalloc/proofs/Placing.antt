-- What is kept while registers are placed one after another, and that one more keeps it.
use Rattle.std.proofs.Common.{◌≡◌, ◌≢◌, ℕ, ◌+◌, ◌<◌, ◌≤◌, ◌⊎◌, inl, inr, Bool, true, false, ◌&&◌, leb, List, [], ◌∷◌, ◌++◌, length, get_or, set, count_by, Option, Some, None, arith, refl, ap, sym, ◌∙◌, subst}
use Rattle.std.specs.List.{Contains}
use Rattle.std.proofs.lemmas.List.{length_push, length-set, get_or-set_same, get_or-set_other, get_or_append_left, get_or_push}
use Rattle.std.proofs.lemmas.List.Elements.{Contains-push, Contains-push_cases, Contains-append_left}
use Rattle.std.proofs.lemmas.List.Sums.{count_by-le-length}
use Rattle.std.proofs.lemmas.Bool.{leb-true, le-leb, lt-leb, and_parts, and_from, and_right, cases_lt, cases_eq, cases_Bool}
use Rattle.mir.specs.declared.places.Place.{Place}
use Rattle.regalloc.specs.declared.starts.Start.{Start}
use Rattle.regalloc.specs.FirstFit.{place_at}
use Rattle.regalloc.specs.Steps.{ComesBefore, Takes}
use Rattle.regalloc.proofs.Ranks.{one_rank}
use Rattle.regalloc.proofs.Counts.{first_pass, one_fails, push_yes, push_no, set_yes, set_no, wider}

-- the span of a start contains the point
abbrev pub covers : ℕ → Start → Bool
covers point s = leb s.first point && leb point s.last

abbrev pub stands : List (Option Place) → Start → Option Place
stands at s = get_or at s.register None

-- one that comes before and reaches this one's first point stands at a place
pub record Blocks (starts : List Start) (at : List (Option Place)) (s : Start) (k : ℕ) : Type 0 where
  pub by : Start
  pub among : Contains starts by
  pub before : ComesBefore by s
  pub reaches : s.first ≤ by.last
  pub there : stands at by ≡ Some (place_at k)

-- it has the first place that isn't blocked, which is below the number of spans that contain its first point
pub record HasPlace (starts : List Start) (ends : List ℕ) (at : List (Option Place)) (s : Start) : Type 0 where
  pub rank : ℕ
  pub within : rank < length ends
  pub there : stands at s ≡ Some (place_at rank)
  pub until : s.last ≤ get_or ends rank 0
  pub few : rank < count_by (covers s.first) starts
  pub free : Blocks starts at s rank → ⊥
  pub taken : (j : ℕ) → j < rank → Blocks starts at s j

-- a place is held up to its last point by one of the starts
pub record IsHeld (starts : List Start) (ends : List ℕ) (at : List (Option Place)) (k : ℕ) : Type 0 where
  pub by : Start
  pub among : Contains starts by
  pub there : stands at by ≡ Some (place_at k)
  pub until : by.last ≡ get_or ends k 0

pub record Placing (starts : List Start) (ends : List ℕ) (at : List (Option Place)) (limit : ℕ) : Type 0 where
  pub size : length ends ≤ limit
  pub busy : (point : ℕ) → ((s : Start) → Contains starts s → s.first ≤ point) → count_by (leb point) ends ≡ count_by (covers point) starts
  pub room : (point : ℕ) → count_by (covers point) starts ≤ limit
  pub held : (k : ℕ) → k < length ends → IsHeld starts ends at k
  pub has : (s : Start) → Contains starts s → HasPlace starts ends at s

pub not_before_itself : (s : Start) → ComesBefore s s → ⊥
not_before_itself s (inl h) = omega arith
not_before_itself s (inr h) = absurd (omega (arith, h.1))

pub not_both_before : (s t : Start) → ComesBefore s t → ComesBefore t s → ⊥
not_both_before s t (inl h) (inl g) = absurd (omega arith)
not_both_before s t (inl h) (inr g) = absurd (omega (arith, g.0))
not_both_before s t (inr h) (inl g) = absurd (omega (arith, h.0))
not_both_before s t (inr h) (inr g) = absurd (omega (arith, h.1, g.1))

pub before_starts : (s t : Start) → ComesBefore s t → s.first ≤ t.first
before_starts s t (inl h) = omega arith
before_starts s t (inr h) = omega (arith, h.0)

module _ (starts : List Start) (ends : List ℕ) (at : List (Option Place)) (limit : ℕ) (is : Placing starts ends at limit) (s : Start)
    (later : (e : Start) → Contains starts e → ComesBefore e s) where
  earlier_start : (e : Start) → Contains starts e → e.first ≤ s.first
  earlier_start e in' = before_starts e s (later e in')

  pub busy_here : count_by (leb s.first) ends ≡ count_by (covers s.first) starts
  busy_here = is.busy s.first earlier_start

  -- where as many places as may be are taken, so many spans contain the point
  pub crowded_here : limit ≤ length ends → ((j : ℕ) → j < limit → s.first ≤ get_or ends j 0) → limit ≤ count_by (covers s.first) starts
  crowded_here many busy =
      let enough : limit ≤ count_by (leb s.first) ends = first_pass (leb s.first) ends limit 0 many (λ j h. le-leb s.first (get_or ends j 0) (busy j h)) in
      omega (arith, enough, busy_here)

  module _ (has_point : s.first ≤ s.last) (apart : (e : Start) → Contains starts e → e.register ≢ s.register) (inside : s.register < length at)
      (k : ℕ) (after : List ℕ) (takes : Takes s.first s.last limit ends k after) where
    abbrev now : List Start
    now = starts ++ s ∷ []

    abbrev placed : List (Option Place)
    placed = set at s.register (Some (place_at k))

    over : k < length ends → get_or ends k 0 < s.first
    over = takes.free.over

    sizes : (k < length after) × (length after ≤ limit) × (length ends ≤ length after)
    sizes = elim takes.after_is [
      | inl old ↦ (rw (old.1, length-set ends k s.last) old.0, rw (old.1, length-set ends k s.last) is.size, rw (old.1, length-set ends k s.last) (omega arith))
      | inr new ↦ (rw (new.1, length_push ends s.last) (omega (arith, new.0)), rw (new.1, length_push ends s.last) (omega (arith, new.0, takes.below)), rw (new.1, length_push ends s.last) (omega arith))
    ]

    own_end : get_or after k 0 ≡ s.last
    own_end = elim takes.after_is [
      | inl old ↦ rw old.1 (get_or-set_same ends k s.last 0 old.0)
      | inr new ↦ rw new.1 (get_or_push ends s.last 0 k (sym new.0))
    ]

    other_end : (j : ℕ) → j < length after → j ≢ k → (j < length ends) × (get_or after j 0 ≡ get_or ends j 0)
    other_end j below differs = elim takes.after_is [
      | inl old ↦ (rw (old.1, length-set ends k s.last) at below, rw old.1 (get_or-set_other ends k j s.last 0 differs))
      | inr new ↦ let longer : j < length ends + 1 = rw (new.1, length_push ends s.last) at below in
          let old : j < length ends = at_old j longer (λ e. differs (e ∙ sym new.0)) in
          (old, rw new.1 (get_or_append_left ends (s.last ∷ []) 0 j old))
    ]
      where
        at_old : (j : ℕ) → j < length ends + 1 → (j ≡ length ends → ⊥) → j < length ends
        at_old j h differs = elim (cases_lt j (length ends)) [ inl below ↦ below | inr past ↦ absurd (differs (omega arith)) ]

    passes_after : (point : ℕ) → s.first ≤ point → leb point s.last ≡ true → count_by (leb point) after ≡ count_by (leb point) ends + 1
    passes_after point from passes = elim takes.after_is [
      | inl old ↦ rw old.1 (set_yes (leb point) ends k s.last 0 old.0 (lt-leb point (get_or ends k 0) (omega (arith, over old.0))) passes)
      | inr new ↦ rw new.1 (push_yes (leb point) ends s.last passes)
    ]

    fails_after : (point : ℕ) → s.first ≤ point → leb point s.last ≡ false → count_by (leb point) after ≡ count_by (leb point) ends
    fails_after point from fails = elim takes.after_is [
      | inl old ↦ rw old.1 (set_no (leb point) ends k s.last 0 old.0 (lt-leb point (get_or ends k 0) (omega (arith, over old.0))) fails)
      | inr new ↦ rw new.1 (push_no (leb point) ends s.last fails)
    ]

    -- a place is left at the point
    fewer : count_by (leb s.first) ends < limit
    fewer = elim takes.after_is [
      | inl old ↦ let less : count_by (leb s.first) ends < length ends = one_fails (leb s.first) ends k 0 old.0 (lt-leb s.first (get_or ends k 0) (over old.0)) in
          omega (arith, less, is.size)
      | inr new ↦ omega (arith, new.0, takes.below, count_by-le-length (leb s.first) ends)
    ]

    covered : (point : ℕ) → s.first ≤ point → (b : Bool) → leb point s.last ≡ b → covers point s ≡ b
    covered point from true e = and_from (leb s.first point) (leb point s.last) (le-leb s.first point from) e
    covered point from false e = and_right (leb s.first point) (leb point s.last) e

    busy_now : (point : ℕ) → ((e : Start) → Contains now e → e.first ≤ point) → count_by (leb point) after ≡ count_by (covers point) now
    busy_now point all =
        let from : s.first ≤ point = all s (Contains-push starts s) in
        let before : count_by (leb point) ends ≡ count_by (covers point) starts = is.busy point (λ e h. all e (Contains-append_left starts (s ∷ []) e h)) in
        elim (cases_Bool (leb point s.last)) [
          | inl yes' ↦ passes_after point from yes' ∙ ap (λ n. n + 1) before ∙ sym (push_yes (covers point) starts s (covered point from true yes'))
          | inr no' ↦ fails_after point from no' ∙ before ∙ sym (push_no (covers point) starts s (covered point from false no'))
        ]

    room_now : (point : ℕ) → count_by (covers point) now ≤ limit
    room_now point = elim (cases_Bool (covers point s)) [
      | inl yes' ↦
          let both : (leb s.first point ≡ true) × (leb point s.last ≡ true) = and_parts (leb s.first point) (leb point s.last) yes' in
          let from : s.first ≤ point = leb-true s.first point both.0 in
          let before : count_by (leb point) ends ≡ count_by (covers point) starts = is.busy point (λ e h. omega (arith, earlier_start e h, from)) in
          let less : count_by (leb point) ends ≤ count_by (leb s.first) ends =
          wider (leb point) (leb s.first) ends (λ x h. le-leb s.first x (omega (arith, from, leb-true point x h))) in
          omega (arith, push_yes (covers point) starts s yes', before, less, fewer)
      | inr no' ↦ omega (arith, push_no (covers point) starts s no', is.room point)
    ]

    frame : (e : Start) → Contains starts e → stands placed e ≡ stands at e
    frame e in' = get_or-set_other at s.register e.register (Some (place_at k)) None (apart e in')

    own_place : stands placed s ≡ Some (place_at k)
    own_place = get_or-set_same at s.register (Some (place_at k)) None inside

    more : (point : ℕ) → count_by (covers point) starts ≤ count_by (covers point) now
    more point = elim (cases_Bool (covers point s)) [
      | inl yes' ↦ omega (arith, push_yes (covers point) starts s yes')
      | inr no' ↦ omega (arith, push_no (covers point) starts s no')
    ]

    held_now : (j : ℕ) → j < length after → IsHeld now after placed j
    held_now j below = elim (cases_eq j k) [
      | inl e ↦ rw e (record { by = s; among = Contains-push starts s; there = own_place; until = sym own_end })
      | inr differs ↦
          let other : (j < length ends) × (get_or after j 0 ≡ get_or ends j 0) = other_end j below differs in
          let old : IsHeld starts ends at j = is.held j other.0 in
          record {
            by = old.by;
            among = Contains-append_left starts (s ∷ []) old.by old.among;
            there = frame old.by old.among ∙ old.there;
            until = old.until ∙ sym other.1;
          }
    ]

    blocks_still : (e : Start) (j : ℕ) → Blocks starts at e j → Blocks now placed e j
    blocks_still e j b = record {
      by = b.by;
      among = Contains-append_left starts (s ∷ []) b.by b.among;
      before = b.before;
      reaches = b.reaches;
      there = frame b.by b.among ∙ b.there;
    }

    old_place : (e : Start) → Contains starts e → HasPlace now after placed e
    old_place e in' =
        let h : HasPlace starts ends at e = is.has e in' in
        record {
          rank = h.rank;
          within = omega (arith, h.within, sizes.2);
          there = frame e in' ∙ h.there;
          until = lasts h (cases_eq h.rank k);
          few = omega (arith, h.few, more e.first);
          free = λ b. elim (Contains-push_cases starts s b.by b.among) [
            | inl old ↦ h.free (record { by = b.by; among = old; before = b.before; reaches = b.reaches; there = sym (frame b.by old) ∙ b.there })
            | inr same ↦ not_both_before s e (rw same b.before) (later e in')
          ];
          taken = λ j below. blocks_still e j (h.taken j below);
        }
      where
        lasts : (h : HasPlace starts ends at e) → (h.rank ≡ k) ⊎ (h.rank ≡ k → ⊥) → e.last ≤ get_or after h.rank 0
        lasts h (inl same) =
            let short : get_or ends k 0 < s.first = over (rw (← same) h.within) in
            let end : e.last ≤ get_or ends k 0 = rw (← same) h.until in
            rw same (omega (arith, own_end, short, end, has_point))
        lasts h (inr differs) = rw ((other_end h.rank (omega (arith, h.within, sizes.2)) differs).1) h.until

    own_free : Blocks now placed s k → ⊥
    own_free b = elim (Contains-push_cases starts s b.by b.among) [
      | inl old ↦
          let h : HasPlace starts ends at b.by = is.has b.by old in
          let same : h.rank ≡ k = one_rank h.rank k (sym h.there ∙ sym (frame b.by old) ∙ b.there) in
          let short : get_or ends k 0 < s.first = over (rw (← same) h.within) in
          let end : b.by.last ≤ get_or ends k 0 = rw (← same) h.until in
          absurd (omega (arith, short, end, b.reaches))
      | inr same ↦ let Before : Start → Type 0 = λ t. ComesBefore t s in not_before_itself s (subst Before (sym same) b.before)
    ]

    own_taken : (j : ℕ) → j < k → Blocks now placed s j
    own_taken j below =
        let held : IsHeld starts ends at j = is.held j (omega (arith, below, takes.free.within)) in
        record {
          by = held.by;
          among = Contains-append_left starts (s ∷ []) held.by held.among;
          before = later held.by held.among;
          reaches = omega (arith, held.until, takes.free.busy j below);
          there = frame held.by held.among ∙ held.there;
        }

    own_few : k < count_by (covers s.first) now
    own_few =
        let enough : k ≤ count_by (leb s.first) ends =
        first_pass (leb s.first) ends k 0 takes.free.within (λ j h. le-leb s.first (get_or ends j 0) (takes.free.busy j h)) in
        let counts : count_by (covers s.first) now ≡ count_by (covers s.first) starts + 1 =
        push_yes (covers s.first) starts s (covered s.first (omega arith) true (le-leb s.first s.last has_point)) in
        omega (arith, enough, counts, busy_here)

    has_now : (e : Start) → Contains now e → HasPlace now after placed e
    has_now e in' = elim (Contains-push_cases starts s e in') [
      | inl old ↦ old_place e old
      | inr same ↦ rw (← same) (record {
        rank = k;
        within = sizes.0;
        there = own_place;
        until = omega (arith, own_end);
        few = own_few;
        free = own_free;
        taken = own_taken;
      })
    ]

    -- one more start takes the first free place
    pub one_more : Placing now after placed limit
    one_more = record { size = sizes.1; busy = busy_now; room = room_now; held = held_now; has = has_now }

pub none_placed : (at : List (Option Place)) (limit : ℕ) → Placing [] [] at limit
none_placed at limit = record {
  size = omega arith;
  busy = λ point all. refl;
  room = λ point. omega arith;
  held = λ k below. absurd (omega arith);
  has = λ s in'. absurd (omega (arith, in'.1));
}
