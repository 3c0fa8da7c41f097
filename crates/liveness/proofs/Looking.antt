-- Looking back from one block after another.
use Rattle.std.proofs.Common.{◌≡◌, ℕ, ◌+◌, ◌-◌, ◌*◌, ◌<◌, ◌≤◌, ◌⊎◌, inl, inr, Bool, true, false, List, [], ◌∷◌, ◌++◌, length, get_or, take, arith, refl, ap, sym, ◌∙◌}
use Rattle.std.specs.List.{Contains}
use Rattle.std.proofs.lemmas.List.{get_or_past}
use Rattle.std.proofs.lemmas.List.Elements.{Contains-push_cases, Contains-append_left, Contains-push}
use Rattle.std.proofs.lemmas.Bool.{false≢true, cases_lt}
use Rattle.rj_num.specs.Sets.{has}
use Rattle.mir.specs.declared.code.MInst.{MInst}
use Rattle.liveness.specs.declared.search.Search.{Search}
use Rattle.liveness.specs.Search.{HasPoint, IsFound, Grows, Extends, Adds, IsSized}
use Rattle.liveness.specs.Scan.{IsNumbering, AreSources, last_targets, IsNeeded, read_behind, IsUse, entered, departed, IsLastOf, IsUnwritten, LooksAt, LooksBack, HaveSizes, KnowsWritten, IsDone, Searches}
use Rattle.liveness.proofs.Extending.{extends_itself, extends_then, adds_itself, adds_then, adds_within, sized_then}
use Rattle.liveness.proofs.Kept.{done_kept}
use Rattle.liveness.proofs.Noting.{front_or_next, in_front, in_next, no_items}

pub no_looks : (s : Search) (written : List (List Bool)) (numbers : List ℕ) (r : ℕ) → LooksAt s written [] numbers r s
no_looks s written numbers r = record {
  extends = extends_itself s;
  back = λ from in'. absurd (no_items from in');
  source = λ from in'. absurd (no_items from in');
  adds = adds_itself _ _ s;
}

pub one_source : (old s t u : Search) (written : List (List Bool)) (xs numbers : List ℕ) (r i : ℕ) → i < length xs
    → LooksAt old written (take i xs) numbers r s → Extends s t → HasPoint t r (2 * get_or numbers (get_or xs i 0 + 1) 0 - 1)
    → Adds (λ q at. (q ≡ r) × (at ≡ 2 * get_or numbers (get_or xs i 0 + 1) 0 - 1)) (λ b q. ⊥) s t
    → Extends t u → (has (get_or written (get_or xs i 0) []) r ≡ true) ⊎ IsFound u (get_or xs i 0) r
    → Adds (λ q at. ⊥) (λ b q. (b ≡ get_or xs i 0) × (q ≡ r) × (has (get_or written (get_or xs i 0) []) r ≡ false)) t u
    → LooksAt old written (take (i + 1) xs) numbers r u
one_source old s t u written xs numbers r i below is one own adds two found finds = record {
  extends = extends_then old s u is.extends both;
  back = λ from in'. elim (front_or_next xs i from below in') [
    | inl front ↦ both.grows.points r _ (is.back from front)
    | inr next ↦ rw (← next) (two.grows.points r _ own)
  ];
  source = λ from in'. elim (front_or_next xs i from below in') [
    | inl front ↦ elim (is.source from front) [ inl before ↦ inl before | inr was ↦ inr (both.grows.found from r was) ]
    | inr next ↦ rw (← next) found
  ];
  adds = adds_then points pairs old t u
      (adds_then points pairs old s t (adds_within _ _ points pairs old s points_before pairs_before is.adds) (adds_within _ _ points pairs s t points_own (λ b q h. absurd h) adds))
      (adds_within _ _ points pairs t u (λ q at h. absurd h) pairs_own finds);
}
  where
    both : Extends s u
    both = extends_then s t u one two

    points : ℕ → ℕ → Type 0
    points = IsLastOf (take (i + 1) xs) numbers r

    pairs : ℕ → ℕ → Type 0
    pairs = IsUnwritten written (take (i + 1) xs) r

    points_before : (q at : ℕ) → IsLastOf (take i xs) numbers r q at → points q at
    points_before q at (same, from, in', e) = (same, from, in_front xs i from below in', e)

    pairs_before : (b q : ℕ) → IsUnwritten written (take i xs) r b q → pairs b q
    pairs_before b q (same, in', unwritten) = (same, in_front xs i b below in', unwritten)

    points_own : (q at : ℕ) → (q ≡ r) × (at ≡ 2 * get_or numbers (get_or xs i 0 + 1) 0 - 1) → points q at
    points_own q at (same, e) = (same, get_or xs i 0, in_next xs i below, e)

    pairs_own : (b q : ℕ) → (b ≡ get_or xs i 0) × (q ≡ r) × (has (get_or written (get_or xs i 0) []) r ≡ false) → pairs b q
    pairs_own b q (own_block, same, unwritten) = (same, rw own_block (in_next xs i below), rw own_block unwritten)

pub looked_back : (old s t : Search) (written : List (List Bool)) (xs numbers : List ℕ) (r point : ℕ) → Extends old s → HasPoint s r point
    → Adds (λ q at. (q ≡ r) × (at ≡ point)) (λ b q. ⊥) old s → LooksAt s written xs numbers r t → LooksBack old written xs numbers r point t
looked_back old s t written xs numbers r point one own adds at = record {
  extends = extends_then old s t one at.extends;
  start = at.extends.grows.points r point own;
  back = at.back;
  source = at.source;
  adds = adds_then points (IsUnwritten written xs r) old s t (adds_within _ _ points (IsUnwritten written xs r) old s (λ q there h. inl h) (λ b q h. absurd h) adds)
      (adds_within _ _ points (IsUnwritten written xs r) s t (λ q there h. inr h) (λ b q h. h) at.adds);
}
  where
    points : ℕ → ℕ → Type 0
    points q there = ((q ≡ r) × (there ≡ point)) ⊎ IsLastOf xs numbers r q there

-- what is found live is in a set, and so within its bounds
pub found_within : (s : Search) (b r blocks regs : ℕ) → IsSized s blocks regs → IsFound s b r → (b < blocks) × (r < regs)
found_within s b r blocks regs sized found = elim (cases_lt b blocks) [
  | inl below ↦ elim (cases_lt r regs) [
    | inl inside ↦ (below, inside)
    | inr past ↦ absurd (false≢true (sym (get_or_past (get_or s.live.items b []) r false (omega (arith, sized.sizes b below, past))) ∙ found))
  ]
  | inr past ↦ absurd (false≢true (sym (ap (λ (flags : List Bool). get_or flags r false) (get_or_past s.live.items b [] (omega (arith, sized.blocks_sized, past)))) ∙ found))
]

-- taking from the list of work leaves spans and sets
pub grown_by : (s t : Search) → t.live.items ≡ s.live.items → t.spans.items ≡ s.spans.items → Grows s t
grown_by s t live spans = record {
  registers = ap length spans;
  blocks = ap length live;
  sizes = λ c. ap (λ sets. length (get_or sets c [])) live;
  points = λ q point h. rw spans h;
  found = λ c q h. rw live h;
}

-- what looking back from a block asks
pub record Ready (sources : List (List ℕ)) (written : List (List Bool)) (numbers : List ℕ) (s : Search) (r b : ℕ) : Type 0 where
  pub block : (b < length written) × (length sources ≡ length written)
  pub register : r < length s.spans.items
  pub sized : IsSized s (length written) (length s.spans.items)
  pub sizes : HaveSizes (length written) (length s.spans.items) written
  pub within : (from : ℕ) → Contains (get_or sources b []) from → from < length written
  pub numbers_long : length numbers ≡ length written + 1
  pub most : (c : ℕ) → c ≤ length written → get_or numbers c 0 < 2147483648

module _ (blocks : List (List MInst)) (sources : List (List ℕ)) (written : List (List Bool)) (numbers : List ℕ)
    (numbering : IsNumbering blocks (length blocks) numbers) (are : AreSources blocks (length blocks) sources) where
  -- the last of the list of work can be looked back from
  pub is_ready : (s t : Search) (r b : ℕ) → Searches blocks sources written s → IsSized s (length blocks) (length s.spans.items)
      → HaveSizes (length blocks) (length s.spans.items) written → s.work.items ≡ t.work.items ++ (r, b) ∷ [] → t.live.items ≡ s.live.items → t.spans.items ≡ s.spans.items
      → Ready sources written numbers t r b
  is_ready s t r b is sized sizes work live spans = record {
    block = (omega (arith, bounds.0, sizes.size), omega (arith, are.size, sizes.size));
    register = rw long bounds.1;
    sized = rw (long, sizes.size) (sized_then s t (length blocks) (length s.spans.items) (grown_by s t live spans) sized);
    sizes = rw (long, sizes.size) sizes;
    within = λ from in'. let low : from < length blocks = (are.only from b in').0 in omega (arith, low, sizes.size);
    numbers_long = omega (arith, numbering.size, sizes.size);
    most = λ c low. rw (numbering.each c (omega (arith, low, sizes.size))) (numbering.most c (omega (arith, low, sizes.size)));
  }
    where
      long : length t.spans.items ≡ length s.spans.items
      long = ap length spans

      found : IsFound s b r
      found = is.real (r, b) (rw work (Contains-push t.work.items (r, b)))

      bounds : (b < length blocks) × (r < length s.spans.items)
      bounds = found_within s b r (length blocks) (length s.spans.items) sized found

  -- the last of the list of work is done, and all that it led to is on the list
  pub one_done : (s popped t : Search) (r b : ℕ) → Searches blocks sources written s → s.work.items ≡ popped.work.items ++ (r, b) ∷ []
      → popped.live.items ≡ s.live.items → popped.spans.items ≡ s.spans.items → b < length blocks → KnowsWritten blocks written
      → LooksBack popped written (get_or sources b []) numbers r (2 * get_or numbers b 0) t → Searches blocks sources written t
  one_done s popped t r b is work live spans below knows back = record {
    done_or_listed = λ c q found. elim (back.extends.listed c q found) [
      | inl was ↦ still c q (is.done_or_listed c q (rw (← live) was))
      | inr there ↦ inl there
    ];
    real = λ x in'. elim (back.extends.real x in') [
      | inl was ↦ back.extends.grows.found x.1 x.0 (rw live (is.real x (rw work (Contains-append_left popped.work.items ((r, b) ∷ []) x was))))
      | inr found ↦ found
    ];
    needed = λ c q found. elim (back.adds.finds c q found) [
      | inl was ↦ is.needed c q (rw live at was)
      | inr here ↦ needed_behind c q here
    ];
    ends = λ q at end. elim (back.adds.ends q at end) [
      | inl was ↦ is.ends q at (rw spans at was)
      | inr here ↦ end_use q at here
    ];
  }
    where
      is_needed : IsNeeded blocks r b
      is_needed = is.needed b r (is.real (r, b) (rw work (Contains-push popped.work.items (r, b))))

      needed_behind : (c q : ℕ) → IsUnwritten written (get_or sources b []) r c q → IsNeeded blocks q c
      needed_behind c q (same, in', unwritten) =
          let source : (c < length blocks) × Contains (last_targets (get_or blocks c [])) b = are.only c b in' in
          rw same (read_behind c b source.1 (λ w. false≢true (sym unwritten ∙ knows c r source.0 w)) is_needed)

      end_use : (q at : ℕ) → ((q ≡ r) × (at ≡ 2 * get_or numbers b 0)) ⊎ IsLastOf (get_or sources b []) numbers r q at → IsUse blocks q at
      end_use q at (inl (same, e)) = rw (same, e, numbering.each b (omega (arith, below))) (entered b is_needed)
      end_use q at (inr (same, from, in', e)) =
          let source : (from < length blocks) × Contains (last_targets (get_or blocks from [])) b = are.only from b in' in
          rw (same, e, numbering.each (from + 1) (omega (arith, source.0))) (departed from b source.1 is_needed)

      own : IsDone blocks sources written t b r
      own = record {
        start = rw (← numbering.each b (omega (arith, below))) back.start;
        back = λ from in'. rw (← numbering.each (from + 1) (omega (arith, (are.only from b in').0))) (back.back from in');
        source = back.source;
      }

      grown : Grows s t
      grown = record {
        registers = back.extends.grows.registers ∙ ap length spans;
        blocks = back.extends.grows.blocks ∙ ap length live;
        sizes = λ c. back.extends.grows.sizes c ∙ ap (λ sets. length (get_or sets c [])) live;
        points = λ q point h. back.extends.grows.points q point (rw spans h);
        found = λ c q h. back.extends.grows.found c q (rw live h);
      }

      mine : (c q : ℕ) (one other : ℕ × ℕ) → one ≡ other → one.0 ≡ r → one.1 ≡ b → other.0 ≡ q → other.1 ≡ c → IsDone blocks sources written t c q
      mine c q one other same one_r one_b other_q other_c =
          let q_is : r ≡ q = sym one_r ∙ ap (λ pair. pair.0) same ∙ other_q in
          let c_is : b ≡ c = sym one_b ∙ ap (λ pair. pair.1) same ∙ other_c in
          rw (← q_is, ← c_is) own

      still : (c q : ℕ) → Contains s.work.items (q, c) ⊎ IsDone blocks sources written s c q
          → Contains t.work.items (q, c) ⊎ IsDone blocks sources written t c q
      still c q (inl there) = elim (Contains-push_cases popped.work.items (r, b) (q, c) (rw work at there)) [
        | inl left ↦ inl (back.extends.work (q, c) left)
        | inr same ↦ inr (mine c q (r, b) (q, c) same refl refl refl refl)
      ]
      still c q (inr done) = inr (done_kept s t grown blocks sources written c q done)

  -- without work all is done
  pub all_done : (s : Search) → Searches blocks sources written s → s.work.items ≡ [] → (b r : ℕ) → IsFound s b r → IsDone blocks sources written s b r
  all_done s is none' b r found = elim (is.done_or_listed b r found) [
    | inl there ↦ absurd (nothing (r, b) (rw none' at there))
    | inr done ↦ done
  ]
    where
      nothing : (x : ℕ × ℕ) → Contains [] x → ⊥
      nothing x in' = absurd (omega (arith, in'.1))

  -- nothing was on the list of work
  pub none_taken : (s t : Search) → Searches blocks sources written s → s.work.items ≡ [] → t.work.items ≡ [] → Grows s t → t.live.items ≡ s.live.items
      → t.spans.items ≡ s.spans.items → Searches blocks sources written t
  none_taken s t is none' none'' grows live spans = record {
    done_or_listed = λ b r found. inr (done_kept s t grows blocks sources written b r (all_done s is none' b r (rw (← live) found)));
    real = λ x in'. absurd (nothing x (rw none'' at in'));
    needed = λ b r found. is.needed b r (rw live at found);
    ends = λ r at end. is.ends r at (rw spans at end);
  }
    where
      nothing : (x : ℕ × ℕ) → Contains [] x → ⊥
      nothing x in' = absurd (omega (arith, in'.1))
