-- The registers whose spans have a point: each once, and in order.
use Rattle.std.proofs.Common.{◌≡◌, ◌≢◌, ℕ, zero, suc, ◌+◌, ◌-◌, ◌<◌, ◌≤◌, inl, inr, Bool, true, false, cond, eqb, leb, List, [], ◌∷◌, ◌++◌, length, get_or, count_by, Option, Some, None, arith, refl, ap, sym, ◌∙◌, subst}
use Rattle.std.specs.List.{Contains}
use Rattle.std.specs.List.Sorted.{IsPermutation, IsNonDecreasingBy, IsSortedByKey}
use Rattle.std.specs.Ordering.{nat_cmp, is_lt}
use Rattle.std.proofs.lemmas.List.Elements.{Contains-append_left, Contains-append_right, Contains-append_cases, Contains-get_or}
use Rattle.std.proofs.lemmas.List.Sums.{sum_by-append, sum_by-cons}
use Rattle.std.proofs.lemmas.List.Sorted.{sum_by-IsPermutation, Contains-permutation, IsPermutation-sym}
use Rattle.std.proofs.lemmas.Bool.{leb-true, leb-false, le-leb, lt-leb, le-ltb, eq-eqb, ne_eqb, and_left, and_right, cases_eq, cases_lt, cases_Bool}
use Rattle.regalloc.specs.declared.starts.Start.{Start}
use Rattle.regalloc.specs.Overlap.{contains}
use Rattle.regalloc.specs.Steps.{start_of, starts_from, Rises}
use Rattle.regalloc.proofs.Counts.{count_yes, count_no, none_pass, two_pass}
use Rattle.regalloc.proofs.Placing.{covers}

abbrev pub entry : ℕ → ℕ × ℕ → Start
entry register span = record { first = span.0; register = register; last = span.1 }

-- a start is a register from a number on, with its span, which has a point
pub record IsEntry (from : ℕ) (spans : List (Option (ℕ × ℕ))) (s : Start) : Type 0 where
  pub behind : from ≤ s.register
  pub inside : s.register < from + length spans
  pub span_is : get_or spans (s.register - from) None ≡ Some (s.first, s.last)
  pub has_point : s.first ≤ s.last

one_entry : (register : ℕ) (span : Option (ℕ × ℕ)) (s : Start) → Contains (start_of register span) s
    → (s.register ≡ register) × (span ≡ Some (s.first, s.last)) × (s.first ≤ s.last)
one_entry register None s in' = absurd (omega (arith, in'.1))
one_entry register (Some span) s in' = go (leb span.0 span.1) refl in'
  where
    go : (b : Bool) → leb span.0 span.1 ≡ b → Contains (cond b (entry register span ∷ []) []) s
        → (s.register ≡ register) × (Some span ≡ Some (s.first, s.last)) × (s.first ≤ s.last)
    go true e (zero, below, same) =
        let Is : Start → Type 0 = λ t. (t.register ≡ register) × (Some span ≡ Some (t.first, t.last)) × (t.first ≤ t.last) in
        subst Is same (refl, refl, leb-true span.0 span.1 e)
    go true e (suc k, below, same) = absurd (omega (arith, below))
    go false e (k, below, same) = absurd (omega (arith, below))

pub entries : (from : ℕ) (spans : List (Option (ℕ × ℕ))) (s : Start) → Contains (starts_from from spans) s → IsEntry from spans s
entries from [] s in' = absurd (omega (arith, in'.1))
entries from (span ∷ spans) s in' = elim (Contains-append_cases (start_of from span) (starts_from (from + 1) spans) s in') [
  | inl here ↦
      let e : (s.register ≡ from) × (span ≡ Some (s.first, s.last)) × (s.first ≤ s.last) = one_entry from span s here in
      let zero' : s.register - from ≡ 0 = omega (arith, e.0) in
      record { behind = omega (arith, e.0); inside = omega (arith, e.0); span_is = rw zero' (e.1); has_point = e.2 }
  | inr there ↦
      let e : IsEntry (from + 1) spans s = entries (from + 1) spans s there in
      let next : s.register - from ≡ suc (s.register - (from + 1)) = omega (arith, e.behind) in
      record { behind = omega (arith, e.behind); inside = omega (arith, e.inside); span_is = rw next (e.span_is); has_point = e.has_point }
]

-- each register whose span has a point is among them
pub all_entries : (from : ℕ) (spans : List (Option (ℕ × ℕ))) (place : ℕ) (span : ℕ × ℕ) → get_or spans place None ≡ Some span → span.0 ≤ span.1
    → Contains (starts_from from spans) (entry (from + place) span)
all_entries from [] place span e has = absurd (none_is e)
  where
    none_is : None ≡ Some span → ⊥
    none_is e = cc
all_entries from (x ∷ spans) zero span e has =
    rw e (Contains-append_left (start_of from (Some span)) (starts_from (from + 1) spans) (entry (from + 0) span) one)
  where
    one : Contains (start_of from (Some span)) (entry (from + 0) span)
    one = rw (le-leb span.0 span.1 has) (0, omega arith, ap (λ n. entry n span) (omega arith))
all_entries from (x ∷ spans) (suc place) span e has =
    let rest : Contains (starts_from (from + 1) spans) (entry (from + 1 + place) span) = all_entries (from + 1) spans place span e has in
    let same : from + 1 + place ≡ from + suc place = omega arith in
    Contains-append_right (start_of from x) (starts_from (from + 1) spans) (entry (from + suc place) span) (rw (← same) rest)

-- registers rise from each to each later one
abbrev pub Ascends : List Start → Type 0
Ascends xs = (i j : ℕ) (d : Start) → i < j → j < length xs → (get_or xs i d).register < (get_or xs j d).register

ascends_behind : (b : Bool) (s : Start) (rest : List Start) → Ascends rest → ((t : Start) → Contains rest t → s.register < t.register)
    → Ascends (cond b (s ∷ []) [] ++ rest)
ascends_behind false s rest up above = up
ascends_behind true s rest up above = go
  where
    go : Ascends (s ∷ rest)
    go i zero d less below = absurd (omega arith)
    go zero (suc j) d less below = above (get_or rest j d) (Contains-get_or rest j d (omega arith))
    go (suc i) (suc j) d less below = up i j d (omega arith) (omega arith)

ascends : (from : ℕ) (spans : List (Option (ℕ × ℕ))) → Ascends (starts_from from spans)
ascends from [] = λ i j d less below. absurd (omega arith)
ascends from (None ∷ spans) = ascends (from + 1) spans
ascends from (Some span ∷ spans) = ascends_behind (leb span.0 span.1) (entry from span) (starts_from (from + 1) spans) (ascends (from + 1) spans)
    (λ t in'. let e : IsEntry (from + 1) spans t = entries (from + 1) spans t in' in omega (arith, e.behind))

abbrev is_of : ℕ → Start → Bool
is_of register s = eqb s.register register

once : (register : ℕ) (xs : List Start) → Ascends xs → count_by (is_of register) xs ≤ 1
once register [] up = omega arith
once register (x ∷ xs) up = elim (cases_eq x.register register) [
  | inl e ↦
      let none' : count_by (is_of register) xs ≡ 0 = none_pass (is_of register) xs (λ j d below. ne_eqb (get_or xs j d).register register
      (λ same. let less : x.register < (get_or xs j d).register = up 0 (suc j) d (omega arith) (omega arith) in omega (arith, less, same, e))) in
      omega (arith, count_yes (is_of register) x xs (eq-eqb x.register register e), none')
  | inr differs ↦
      let rest : count_by (is_of register) xs ≤ 1 = once register xs (λ i j d less below. up (suc i) (suc j) d (omega arith) (omega arith)) in
      omega (arith, count_no (is_of register) x xs (ne_eqb x.register register differs), rest)
]

-- the registers from a number on are sorted by their numbers
pub sorted_by_register : (from : ℕ) (spans : List (Option (ℕ × ℕ))) → IsSortedByKey (λ s. s.register) nat_cmp (starts_from from spans)
sorted_by_register from spans k d low below =
    let less : (get_or (starts_from from spans) k d).register < (get_or (starts_from from spans) (k + 1) d).register =
    ascends from spans k (k + 1) d (omega arith) below in
    greater (get_or (starts_from from spans) (k + 1) d).register (get_or (starts_from from spans) k d).register less
  where
    greater : (m n : ℕ) → n < m → is_lt (nat_cmp m n) ≡ false
    greater m n less = rw (le-ltb m n (omega arith), ne_eqb m n (λ e. omega (arith, e))) refl

module _ (spans : List (Option (ℕ × ℕ))) (xs : List Start) (moved : IsPermutation (starts_from 0 spans) xs) where
  module _ (up : IsNonDecreasingBy (λ s. s.first) xs)
      (ties : (k : ℕ) (d : Start) → k + 1 < length xs → (get_or xs k d).first ≡ (get_or xs (k + 1) d).first → (get_or xs k d).register ≤ (get_or xs (k + 1) d).register) where
    apart : (i j : ℕ) (d : Start) → i < j → j < length xs → (get_or xs i d).register ≢ (get_or xs j d).register
    apart i j d less below e =
        let two : 2 ≤ count_by (is_of (get_or xs j d).register) xs =
        two_pass (is_of (get_or xs j d).register) xs i j d less below (eq-eqb _ _ e) (eq-eqb _ _ refl) in
        let same : count_by (is_of (get_or xs j d).register) xs ≡ count_by (is_of (get_or xs j d).register) (starts_from 0 spans) =
        sum_by-IsPermutation (λ s. cond (is_of (get_or xs j d).register s) 1 0) (starts_from 0 spans) xs moved in
        omega (arith, two, same, once (get_or xs j d).register (starts_from 0 spans) (ascends 0 spans))

    level : (n i : ℕ) (d : Start) → i + n < length xs → (get_or xs i d).first ≡ (get_or xs (i + n) d).first → (get_or xs i d).register ≤ (get_or xs (i + n) d).register
    level zero i d below e = let same : i + 0 ≡ i = omega arith in rw same (omega arith)
    level (suc n) i d below e =
        let next : i + suc n ≡ i + n + 1 = omega arith in
        let e' : (get_or xs i d).first ≡ (get_or xs (i + n + 1) d).first = rw next at e in
        let one : (get_or xs i d).first ≤ (get_or xs (i + n) d).first = up i (i + n) d (omega arith) (omega arith) in
        let two : (get_or xs (i + n) d).first ≤ (get_or xs (i + n + 1) d).first = up (i + n) (i + n + 1) d (omega arith) (omega arith) in
        let before : (get_or xs i d).register ≤ (get_or xs (i + n) d).register = level n i d (omega arith) (omega (arith, one, two, e')) in
        let last : (get_or xs (i + n) d).register ≤ (get_or xs (i + n + 1) d).register = ties (i + n) d (omega arith) (omega (arith, one, two, e')) in
        rw next (omega (arith, before, last))

    -- sorted by starts, where those with one start keep their order
    pub sorted_rises : Rises xs
    sorted_rises i j d less below = elim (cases_lt (get_or xs i d).first (get_or xs j d).first) [
      | inl earlier ↦ inl earlier
      | inr not_earlier ↦
          let order : (get_or xs i d).first ≤ (get_or xs j d).first = up i j d (omega arith) below in
          let e : (get_or xs i d).first ≡ (get_or xs j d).first = omega (arith, order, not_earlier) in
          let far : i + (j - i) ≡ j = omega arith in
          let le : (get_or xs i d).register ≤ (get_or xs j d).register = rw far at (level (j - i) i d (omega arith) (rw far e)) in
          inr (e, omega (arith, le, apart i j d less below))
    ]

  -- each is a register with its span, which has a point
  pub is_entry : (s : Start) → Contains xs s → IsEntry 0 spans s
  is_entry s in' = entries 0 spans s (Contains-permutation xs (starts_from 0 spans) s (IsPermutation-sym (starts_from 0 spans) xs moved) in')

  pub has_entry : (register : ℕ) (span : ℕ × ℕ) → get_or spans register None ≡ Some span → span.0 ≤ span.1 → Contains xs (entry register span)
  has_entry register span e has =
      let same : 0 + register ≡ register = omega arith in
      Contains-permutation (starts_from 0 spans) xs (entry register span) moved (rw same at (all_entries 0 spans register span e has))

  -- as many contain a point as spans do
  pub count_covers : (point : ℕ) → count_by (covers point) xs ≡ count_by (contains point) spans
  count_covers point = sum_by-IsPermutation (λ s. cond (covers point s) 1 0) (starts_from 0 spans) xs moved ∙ counts 0 spans
    where
      counts_one : (from : ℕ) (span : Option (ℕ × ℕ)) → count_by (covers point) (start_of from span) ≡ cond (contains point span) 1 0
      counts_one from None = refl
      counts_one from (Some span) = go (leb span.0 span.1) refl
        where
          outside : leb span.0 span.1 ≡ false → contains point (Some span) ≡ false
          outside e = elim (cases_lt point span.0) [
            | inl before ↦ and_left (leb span.0 point) (leb point span.1) (lt-leb span.0 point before)
            | inr from' ↦ and_right (leb span.0 point) (leb point span.1) (lt-leb point span.1 (omega (arith, from', leb-false span.0 span.1 e)))
          ]

          go : (b : Bool) → leb span.0 span.1 ≡ b → count_by (covers point) (cond b (entry from span ∷ []) []) ≡ cond (contains point (Some span)) 1 0
          go true e = elim (cases_Bool (contains point (Some span))) [
            | inl yes' ↦ count_yes (covers point) (entry from span) [] yes' ∙ sym (ap (λ b. cond b 1 0) yes')
            | inr no' ↦ count_no (covers point) (entry from span) [] no' ∙ sym (ap (λ b. cond b 1 0) no')
          ]
          go false e = sym (ap (λ b. cond b 1 0) (outside e))

      counts : (from : ℕ) (spans : List (Option (ℕ × ℕ))) → count_by (covers point) (starts_from from spans) ≡ count_by (contains point) spans
      counts from [] = refl
      counts from (span ∷ spans) =
          sum_by-append (λ s. cond (covers point s) 1 0) (start_of from span) (starts_from (from + 1) spans)
          ∙ omega (arith, counts_one from span, counts (from + 1) spans, sum_by-cons (λ s. cond (contains point s) 1 0) span spans)
