-- One instruction of a block more, and one block more.
use Rattle.std.proofs.Common.{◌≡◌, ℕ, ◌+◌, ◌*◌, ◌<◌, ◌≤◌, ◌⊎◌, inl, inr, Bool, true, false, List, [], ◌∷◌, ◌++◌, length, get_or, Some, arith, ap, sym, ◌∙◌}
use Rattle.std.specs.Prelude.{slice_get, unwrap_or}
use Rattle.std.specs.List.{Contains}
use Rattle.std.proofs.lemmas.List.{get_or_append_left, get_or_push, length_push}
use Rattle.std.proofs.lemmas.Bool.{false≢true}
use Rattle.rj_num.specs.Sets.{has}
use Rattle.mir.specs.declared.code.MInst.{MInst}
use Rattle.mir.specs.Code.{reads, writes, count_before}
use Rattle.liveness.specs.declared.search.Search.{Search}
use Rattle.liveness.specs.Search.{Grows, Adds, IsSized}
use Rattle.liveness.specs.Scan.{IsWrittenBefore, IsReadFirst, IsUsedIn, IsNeeded, read_within, IsUse, used, IsRead, AreRead, ReadsInst, HaveSizes}
use Rattle.liveness.proofs.Extending.{grows_then, sized_then, adds_then, adds_within}
use Rattle.liveness.proofs.Kept.{read_kept}

pub earlier_or_here : (j i : ℕ) → j < i + 1 → (j < i) ⊎ (j ≡ i)
earlier_or_here j i h = grind arith

one_inst : (one other : MInst) → Some one ≡ Some other → one ≡ other
one_inst one other e = ap (λ o. unwrap_or o one) e

pub nothing_read : (s : Search) (written : List Bool) → ((r : ℕ) → has written r ≡ true → ⊥) → (block : List MInst) (number first : ℕ)
    → IsRead s written block number 0 first
nothing_read s written none' block number first = record {
  reads_held = λ j inst r below at in'. absurd (omega arith);
  reads_found = λ j inst r below at in'. absurd (omega arith);
  writes_held = λ j inst r below at in'. absurd (omega arith);
  exact = λ r h. absurd (none' r h);
  all = λ r h. absurd (omega (arith, h.2));
}

written_later : (block : List MInst) (i k r : ℕ) → i ≤ k → IsWrittenBefore block i r → IsWrittenBefore block k r
written_later block i k r le (j, inst, below, at, in') = (j, inst, omega arith, at, in')

pub inst_more : (s u : Search) (written after : List Bool) (block : List MInst) (number i first point : ℕ) (inst : MInst)
    → point ≡ 2 * (first + i) → slice_get block i ≡ Some inst → IsRead s written block number i first
    → ReadsInst s written inst number point u after → IsRead u after block number (i + 1) first
inst_more s u written after block number i first point inst point_is at is step = record {
  reads_held = λ j other r below there in'. elim (earlier_or_here j i below) [
    | inl before ↦ old.reads_held j other r before there in'
    | inr here ↦ rw (here, ← point_is) (step.wrote.extends.grows.points r point (step.noted.held r (mine (λ x. reads x) j other r here there in')))
  ];
  reads_found = λ j other r below there in'. elim (earlier_or_here j i below) [
    | inl before ↦ old.reads_found j other r before there in'
    | inr here ↦ elim (step.noted.found r (mine (λ x. reads x) j other r here there in')) [
      | inl was ↦ inl (rw here (is.exact r was))
      | inr found ↦ inr (step.wrote.extends.grows.found number r found)
    ]
  ];
  writes_held = λ j other r below there in'. elim (earlier_or_here j i below) [
    | inl before ↦ old.writes_held j other r before there in'
    | inr here ↦ rw (here, ← point_is) (step.wrote.held r (mine (λ x. writes x) j other r here there in'))
  ];
  exact = λ r h. elim (step.wrote.only r h) [
    | inl was ↦ written_later block i (i + 1) r (omega arith) (is.exact r was)
    | inr in' ↦ (i, inst, omega arith, at, in')
  ];
  all = written_now;
}
  where
    old : IsRead u written block number i first
    old = read_kept s u (grows_then s step.between u step.noted.extends.grows step.wrote.extends.grows) written block number i first is

    mine : (f : MInst → List ℕ) (j : ℕ) (other : MInst) (r : ℕ) → j ≡ i → slice_get block j ≡ Some other → Contains (f other) r → Contains (f inst) r
    mine f j other r here there in' =
        let same : other ≡ inst = one_inst other inst (sym there ∙ ap (λ k. slice_get block k) here ∙ at) in
        rw (← same) in'

    written_now : (r : ℕ) → IsWrittenBefore block (i + 1) r → has after r ≡ true
    written_now r (j, other, below, there, in') = elim (earlier_or_here j i below) [
      | inl before ↦ step.wrote.all r (inl (is.all r (j, other, before, there, in')))
      | inr here ↦ step.wrote.all r (inr (mine (λ x. writes x) j other r here there in'))
    ]

-- what reading one instruction more adds
pub inst_adds : (old s u : Search) (written after : List Bool) (block : List MInst) (number i first point : ℕ) (inst : MInst)
    → point ≡ 2 * (first + i) → slice_get block i ≡ Some inst → IsRead s written block number i first
    → ReadsInst s written inst number point u after → Adds (IsUsedIn block i first) (λ b r. (b ≡ number) × IsReadFirst block i r) old s
    → Adds (IsUsedIn block (i + 1) first) (λ b r. (b ≡ number) × IsReadFirst block (i + 1) r) old u
inst_adds old s u written after block number i first point inst point_is at is step before =
    adds_then points pairs old s u (adds_within _ _ points pairs old s points_before pairs_before before)
    (adds_then points pairs s step.between u (adds_within _ _ points pairs s step.between points_read pairs_read step.noted.adds)
    (adds_within _ _ points pairs step.between u points_written (λ b r h. absurd h) step.wrote.adds))
  where
    points : ℕ → ℕ → Type 0
    points = IsUsedIn block (i + 1) first

    pairs : ℕ → ℕ → Type 0
    pairs b r = (b ≡ number) × IsReadFirst block (i + 1) r

    points_before : (r there : ℕ) → IsUsedIn block i first r there → points r there
    points_before r there (j, other, below, is', h) = (j, other, omega (arith, below), is', h)

    pairs_before : (b r : ℕ) → (b ≡ number) × IsReadFirst block i r → pairs b r
    pairs_before b r (e, h) = (e, (h.0, h.1, omega (arith, h.2), h.3, h.4, h.5))

    points_read : (r there : ℕ) → Contains (reads inst) r × (there ≡ point) → points r there
    points_read r there (in', e) = (i, inst, omega arith, at, inl (in', e ∙ point_is))

    pairs_read : (b r : ℕ) → (b ≡ number) × Contains (reads inst) r × (has written r ≡ false) → pairs b r
    pairs_read b r (e, in', unwritten) = (e, (i, inst, omega arith, at, in', λ w. false≢true (sym unwritten ∙ is.all r w)))

    points_written : (r there : ℕ) → Contains (writes inst) r × (there ≡ point + 1) → points r there
    points_written r there (in', e) = (i, inst, omega arith, at, inr (in', omega (arith, e, point_is)))

-- what reading one block more adds
pub block_adds : (old s t : Search) (blocks : List (List MInst)) (i : ℕ) → Adds (IsUse blocks) (λ b r. IsNeeded blocks r b) old s
    → Adds (IsUsedIn (get_or blocks i []) (length (get_or blocks i [])) (count_before blocks i))
    (λ b r. (b ≡ i) × IsReadFirst (get_or blocks i []) (length (get_or blocks i [])) r) s t
    → Adds (IsUse blocks) (λ b r. IsNeeded blocks r b) old t
block_adds old s t blocks i before own = adds_then (IsUse blocks) (λ b r. IsNeeded blocks r b) old s t before
    (adds_within _ _ (IsUse blocks) (λ b r. IsNeeded blocks r b) s t (λ r at h. used i at h) needed own)
  where
    needed : (b r : ℕ) → (b ≡ i) × IsReadFirst (get_or blocks i []) (length (get_or blocks i [])) r → IsNeeded blocks r b
    needed b r (e, h) = rw e (read_within i h)

-- one block more was read
pub block_more : (s t : Search) (written : List (List Bool)) (set : List Bool) (blocks : List (List MInst)) (i : ℕ) → length written ≡ i
    → Grows s t → AreRead s written blocks i → IsRead t set (get_or blocks i []) i (length (get_or blocks i [])) (count_before blocks i)
    → AreRead t (written ++ set ∷ []) blocks (i + 1)
block_more s t written set blocks i size grows are own b below = elim (earlier_or_here b i below) [
  | inl before ↦
      let same : get_or (written ++ set ∷ []) b [] ≡ get_or written b [] = get_or_append_left written (set ∷ []) [] b (omega (arith, size, before)) in
      rw same (read_kept s t grows _ _ _ _ _ (are b before))
  | inr here ↦
      let same : get_or (written ++ set ∷ []) i [] ≡ set = get_or_push written set [] i size in
      rw (here, same) own
]

pub sizes_more : (regs : ℕ) (written : List (List Bool)) (set : List Bool) (i : ℕ) → length set ≡ regs → HaveSizes i regs written
    → HaveSizes (i + 1) regs (written ++ set ∷ [])
sizes_more regs written set i own are = record {
  size = length_push written set ∙ ap (λ n. n + 1) are.size;
  each = λ b below. elim (earlier_or_here b i below) [
    | inl before ↦
        let same : get_or (written ++ set ∷ []) b [] ≡ get_or written b [] = get_or_append_left written (set ∷ []) [] b (omega (arith, are.size, before)) in
        rw same (are.each b before)
    | inr here ↦
        let same : get_or (written ++ set ∷ []) i [] ≡ set = get_or_push written set [] i are.size in
        rw (here, same) own
  ];
}

-- sets and spans keep their sizes
pub sized_now : (old s : Search) (regs : ℕ) (set : List Bool) → Grows old s → IsSized old (length old.live.items) regs → length set ≡ regs
    → IsSized s (length s.live.items) (length set)
sized_now old s regs set grows sized same = rw (same, grows.blocks) (sized_then old s (length old.live.items) regs grows sized)
