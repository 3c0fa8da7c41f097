-- Steps of the search only add to what is known.
use Rattle.std.proofs.Common.{◌≡◌, ◌≢◌, ℕ, ◌+◌, ◌<◌, ◌≤◌, ◌⊎◌, inl, inr, min, max, Bool, true, false, List, [], ◌∷◌, ◌++◌, length, get_or, set, Option, Some, None, arith, refl, ap, sym, ◌∙◌}
use Rattle.std.specs.Prelude.{unwrap_or, sum_by, if◌then◌else◌}
use Rattle.std.proofs.Math.Nat.{min-le_left, min-le_right, le-max_left, le-max_right}
use Rattle.std.proofs.lemmas.List.{length-set, get_or-set_same, get_or-set_other}
use Rattle.std.proofs.lemmas.List.{length_push}
use Rattle.std.proofs.lemmas.List.Sums.{sum_by-set}
use Rattle.std.proofs.lemmas.List.Elements.{Contains-push, Contains-push_cases, Contains-append_left}
use Rattle.std.proofs.lemmas.Bool.{cases_eq}
use Rattle.rj_num.specs.Sets.{has}
use Rattle.liveness.specs.declared.search.Search.{Search}
use Rattle.liveness.specs.Search.{hull_of, HasPoint, IsFound, IsEnd, missing, looks_left, Grows, Extends, Adds, IsSized}

pub one_span : (one other : ℕ × ℕ) → Some one ≡ Some other → one ≡ other
one_span one other e = ap (λ o. unwrap_or o one) e

pub grows_itself : (s : Search) → Grows s s
grows_itself s = record {
  registers = refl;
  blocks = refl;
  sizes = λ b. refl;
  points = λ r point h. h;
  found = λ b r h. h;
}

pub grows_then : (a b c : Search) → Grows a b → Grows b c → Grows a c
grows_then a b c one two = record {
  registers = two.registers ∙ one.registers;
  blocks = two.blocks ∙ one.blocks;
  sizes = λ k. two.sizes k ∙ one.sizes k;
  points = λ r point h. two.points r point (one.points r point h);
  found = λ k r h. two.found k r (one.found k r h);
}

pub extends_itself : (s : Search) → Extends s s
extends_itself s = record {
  grows = grows_itself s;
  work = λ x h. h;
  listed = λ b r h. inl h;
  real = λ x h. inl h;
  once = refl;
}

pub extends_then : (a b c : Search) → Extends a b → Extends b c → Extends a c
extends_then a b c one two = record {
  grows = grows_then a b c one.grows two.grows;
  work = λ x h. two.work x (one.work x h);
  listed = λ k r h. elim (two.listed k r h) [
    | inl before ↦ elim (one.listed k r before) [ inl old ↦ inl old | inr there ↦ inr (two.work (r, k) there) ]
    | inr there ↦ inr there
  ];
  real = λ x h. elim (two.real x h) [
    | inl before ↦ elim (one.real x before) [ inl old ↦ inl old | inr there ↦ inr (two.grows.found x.1 x.0 there) ]
    | inr there ↦ inr there
  ];
  once = two.once ∙ one.once;
}

-- nothing was added
pub adds_itself : (points pairs : ℕ → ℕ → Type 0) (s : Search) → Adds points pairs s s
adds_itself points pairs s = record { ends = λ r at h. inl h; finds = λ b r h. inl h }

pub adds_then : (points pairs : ℕ → ℕ → Type 0) (a b c : Search) → Adds points pairs a b → Adds points pairs b c → Adds points pairs a c
adds_then points pairs a b c one two = record {
  ends = λ r at h. elim (two.ends r at h) [ inl was ↦ one.ends r at was | inr here ↦ inr here ];
  finds = λ k r h. elim (two.finds k r h) [ inl was ↦ one.finds k r was | inr here ↦ inr here ];
}

-- bounds may be wider
pub adds_within : (points pairs wider_points wider_pairs : ℕ → ℕ → Type 0) (a b : Search) → ((r at : ℕ) → points r at → wider_points r at)
    → ((k r : ℕ) → pairs k r → wider_pairs k r) → Adds points pairs a b → Adds wider_points wider_pairs a b
adds_within points pairs wider_points wider_pairs a b all_points all_pairs is = record {
  ends = λ r at h. elim (is.ends r at h) [ inl was ↦ inl was | inr here ↦ inr (all_points r at here) ];
  finds = λ k r h. elim (is.finds k r h) [ inl was ↦ inl was | inr here ↦ inr (all_pairs k r here) ];
}

pub sized_then : (old new : Search) (blocks regs : ℕ) → Grows old new → IsSized old blocks regs → IsSized new blocks regs
sized_then old new blocks regs extends sized = record {
  registers = extends.registers ∙ sized.registers;
  blocks_sized = extends.blocks ∙ sized.blocks_sized;
  sizes = λ b below. extends.sizes b ∙ sized.sizes b below;
}

-- the hull contains the point, and what the span contained
own_point : (span : Option (ℕ × ℕ)) (point : ℕ) → ((hull_of span point).0 ≤ point) × (point ≤ (hull_of span point).1)
own_point None point = (omega arith, omega arith)
own_point (Some span) point = (min-le_right span.0 point, le-max_right span.1 point)

-- an end of the hull is the point or was an end before
hull_end : (span : Option (ℕ × ℕ)) (point at : ℕ) → (at ≡ (hull_of span point).0) ⊎ (at ≡ (hull_of span point).1)
    → (at ≡ point) ⊎ ((first : ℕ) × (last : ℕ) × (span ≡ Some (first, last)) × ((at ≡ first) ⊎ (at ≡ last)))
hull_end None point at (inl e) = inl e
hull_end None point at (inr e) = inl e
hull_end (Some span) point at (inl e) = elim (cases_eq at point) [
  | inl same ↦ inl same
  | inr differs ↦ inr (span.0, span.1, refl, inl (omega (arith, e, differs)))
]
hull_end (Some span) point at (inr e) = elim (cases_eq at point) [
  | inl same ↦ inl same
  | inr differs ↦ inr (span.0, span.1, refl, inr (omega (arith, e, differs)))
]

module _ (old new : Search) (r point : ℕ) (within : r < length old.spans.items)
    (spans : new.spans.items ≡ set old.spans.items r (Some (hull_of (get_or old.spans.items r None) point)))
    (live : new.live.items ≡ old.live.items) (work : new.work.items ≡ old.work.items) where
  own_span : get_or new.spans.items r None ≡ Some (hull_of (get_or old.spans.items r None) point)
  own_span = rw spans (get_or-set_same old.spans.items r (Some (hull_of (get_or old.spans.items r None) point)) None within)

  pub held_point : HasPoint new r point
  held_point = let o : ((hull_of (get_or old.spans.items r None) point).0 ≤ point) × (point ≤ (hull_of (get_or old.spans.items r None) point).1) =
      own_point (get_or old.spans.items r None) point in
      ((hull_of (get_or old.spans.items r None) point).0, (hull_of (get_or old.spans.items r None) point).1, own_span, o.0, o.1)

  still : (q other : ℕ) → HasPoint old q other → HasPoint new q other
  still q other (first, last, is, low, high) = elim (cases_eq q r) [
    | inl same ↦
        let was : get_or old.spans.items r None ≡ Some (first, last) = rw (← same) is in
        let now : get_or new.spans.items q None ≡ Some (min first point, max last point) = rw same (own_span ∙ ap (λ o. Some (hull_of o point)) was) in
        (min first point, max last point, now, omega (arith, min-le_left first point, low), omega (arith, le-max_left last point, high))
    | inr differs ↦
        (first, last, rw spans (get_or-set_other old.spans.items r q (Some (hull_of (get_or old.spans.items r None) point)) None differs ∙ is), low, high)
  ]

  pub held_extends : Extends old new
  held_extends = record {
    grows = record {
      registers = rw spans (length-set old.spans.items r (Some (hull_of (get_or old.spans.items r None) point)));
      blocks = ap length live;
      sizes = λ b. ap (λ sets. length (get_or sets b [])) live;
      points = still;
      found = λ b q h. rw live h;
    };
    work = λ x h. rw work h;
    listed = λ b q h. inl (rw live at h);
    real = λ x h. inl (rw work at h);
    once = rw (live, work) refl;
  }

  end_was : (q at : ℕ) → IsEnd new q at → IsEnd old q at ⊎ ((q ≡ r) × (at ≡ point))
  end_was q at (first, last, is, end) = elim (cases_eq q r) [
    | inl same ↦
        let hull : (hull_of (get_or old.spans.items r None) point) ≡ (first, last) =
        one_span (hull_of (get_or old.spans.items r None) point) (first, last) (sym own_span ∙ rw same at is) in
        let e : (at ≡ (hull_of (get_or old.spans.items r None) point).0) ⊎ (at ≡ (hull_of (get_or old.spans.items r None) point).1) = rw hull end in
        elim (hull_end (get_or old.spans.items r None) point at e) [
          | inl own ↦ inr (same, own)
          | inr was ↦ inl (rw same was)
        ]
    | inr differs ↦
        inl (first, last, sym (rw spans (get_or-set_other old.spans.items r q (Some (hull_of (get_or old.spans.items r None) point)) None differs)) ∙ is, end)
  ]

  pub held_adds : Adds (λ q at. (q ≡ r) × (at ≡ point)) (λ b q. ⊥) old new
  held_adds = record { ends = end_was; finds = λ b q h. inl (rw live at h) }

-- what a set has once a number was added
pub has_set : (flags : List Bool) (r q : ℕ) → has (set flags r true) q ≡ true → (q ≡ r) ⊎ (has flags q ≡ true)
has_set flags r q h = elim (cases_eq q r) [ inl e ↦ inl e | inr differs ↦ inr (sym (get_or-set_other flags r q true false differs) ∙ h) ]

pub has_still : (flags : List Bool) (r q : ℕ) → r < length flags → has flags q ≡ true → has (set flags r true) q ≡ true
has_still flags r q within h = elim (cases_eq q r) [
  | inl e ↦ rw e (get_or-set_same flags r true false within)
  | inr differs ↦ get_or-set_other flags r q true false differs ∙ h
]

module _ (old new : Search) (r block : ℕ) (within : block < length old.live.items) (inside : r < length (get_or old.live.items block []))
    (spans : new.spans.items ≡ old.spans.items) (live : new.live.items ≡ set old.live.items block (set (get_or old.live.items block []) r true)) where
  own_set : get_or new.live.items block [] ≡ set (get_or old.live.items block []) r true
  own_set = rw live (get_or-set_same old.live.items block (set (get_or old.live.items block []) r true) [] within)

  other_set : (b : ℕ) → b ≢ block → get_or new.live.items b [] ≡ get_or old.live.items b []
  other_set b differs = rw live (get_or-set_other old.live.items block b (set (get_or old.live.items block []) r true) [] differs)

  pub reached_found : IsFound new block r
  reached_found = rw own_set (get_or-set_same (get_or old.live.items block []) r true false inside)

  found_still : (b q : ℕ) → IsFound old b q → IsFound new b q
  found_still b q h = elim (cases_eq b block) [
    | inl e ↦ rw (e, own_set) (has_still (get_or old.live.items block []) r q inside (rw e at h))
    | inr differs ↦ rw (other_set b differs) h
  ]

  found_was : (b q : ℕ) → IsFound new b q → IsFound old b q ⊎ ((b ≡ block) × (q ≡ r))
  found_was b q h = elim (cases_eq b block) [
    | inl e ↦ elim (has_set (get_or old.live.items block []) r q (rw (e, own_set) at h)) [
      | inl same ↦ inr (e, same)
      | inr was ↦ inl (rw e was)
    ]
    | inr differs ↦ inl (rw (other_set b differs) at h)
  ]

  sizes_still : (b : ℕ) → length (get_or new.live.items b []) ≡ length (get_or old.live.items b [])
  sizes_still b = elim (cases_eq b block) [
    | inl e ↦ rw (e, own_set) (length-set (get_or old.live.items block []) r true)
    | inr differs ↦ rw (other_set b differs) refl
  ]

  reached_grows : Grows old new
  reached_grows = record {
    registers = ap length spans;
    blocks = rw live (length-set old.live.items block (set (get_or old.live.items block []) r true));
    sizes = sizes_still;
    points = λ q point h. rw spans h;
    found = found_still;
  }

  pub reached_adds : Adds (λ q at. ⊥) (λ b q. (b ≡ block) × (q ≡ r)) old new
  reached_adds = record { ends = λ q at h. inl (rw spans at h); finds = found_was }

  -- the pair was missing, or nothing has changed
  missing_less : sum_by missing new.live.items + (if has (get_or old.live.items block []) r then 0 else 1) ≡ sum_by missing old.live.items
  missing_less =
      let sets : sum_by missing new.live.items + missing (get_or old.live.items block [])
      ≡ sum_by missing old.live.items + missing (set (get_or old.live.items block []) r true) =
      rw live (sum_by-set missing old.live.items block (set (get_or old.live.items block []) r true) [] within) in
      let flags : missing (set (get_or old.live.items block []) r true) + (if has (get_or old.live.items block []) r then 0 else 1)
      ≡ missing (get_or old.live.items block []) + 0 =
      sum_by-set (λ (flag : Bool). if flag then 0 else 1) (get_or old.live.items block []) r true false inside in
      omega (arith, sets, flags)

  module _ (work : new.work.items ≡ old.work.items ++ (r, block) ∷ []) (was_missing : has (get_or old.live.items block []) r ≡ false) where
    once_more : looks_left new ≡ looks_left old
    once_more =
        let less : sum_by missing new.live.items + 1 ≡ sum_by missing old.live.items = rw was_missing at missing_less in
        omega (arith, less, ap length work, length_push old.work.items (r, block))

    pub reached_new : Extends old new
    reached_new = record {
      grows = reached_grows;
      work = λ x h. rw work (Contains-append_left old.work.items ((r, block) ∷ []) x h);
      listed = λ b q h. elim (found_was b q h) [
        | inl was ↦ inl was
        | inr same ↦ inr (rw (work, same.0, same.1) (Contains-push old.work.items (r, block)))
      ];
      real = λ x h. elim (Contains-push_cases old.work.items (r, block) x (rw work at h)) [
        | inl was ↦ inl was
        | inr same ↦ inr (rw (← same) reached_found)
      ];
      once = once_more;
    }

  module _ (work : new.work.items ≡ old.work.items) (was_there : IsFound old block r) where
    once_still : looks_left new ≡ looks_left old
    once_still =
        let same : sum_by missing new.live.items + 0 ≡ sum_by missing old.live.items = rw was_there at missing_less in
        omega (arith, same, ap length work)

    pub reached_old : Extends old new
    reached_old = record {
      grows = reached_grows;
      work = λ x h. rw work h;
      listed = λ b q h. elim (found_was b q h) [
        | inl was ↦ inl was
        | inr same ↦ inl (rw (same.0, same.1) was_there)
      ];
      real = λ x h. inl (rw work at h);
      once = once_still;
    }
