-- Once all is done, the spans cover each point at which a register is live or written.
use Rattle.std.proofs.Common.{◌≡◌, ℕ, zero, suc, ◌+◌, ◌-◌, ◌*◌, ◌<◌, ◌≤◌, ◌⊎◌, inl, inr, Bool, true, List, [], ◌∷◌, length, get_or, Option, Some, None, arith, refl, ap, sym, ◌∙◌}
use Rattle.std.specs.Prelude.{slice_get, unwrap_or}
use Rattle.std.specs.List.{Contains}
use Rattle.std.proofs.lemmas.List.{get_or_past}
use Rattle.std.proofs.lemmas.Option.{slice_get_within}
use Rattle.std.proofs.lemmas.Bool.{cases_lt, cases_eq}
use Rattle.rj_num.specs.Sets.{has}
use Rattle.mir.specs.declared.code.MInst.{MInst}
use Rattle.mir.specs.declared.code.MInst.TheVariants.{Param, Op, Imm, Const, Move, Load, Store, Phi, Call, TakeData, CopyBytes, FillBytes, Branch, Jump, Return, Trap}
use Rattle.mir.specs.declared.code.MFunction.{MFunction}
use Rattle.mir.specs.declared.places.Intervals.{Intervals}
use Rattle.mir.specs.Code.{writes, targets, ends_block, block_of, inst_at, count_before, number_of, Follows, next, jump}
use Rattle.mir.specs.WellFormed.{IsWellFormed, IsWellPlaced}
use Rattle.mir.specs.Live.{ReadFrom, reads_here, goes_on, IsLiveAt, before, behind, IsWrittenAt, writes_there, Covers}
use Rattle.liveness.specs.declared.search.Search.{Search}
use Rattle.liveness.specs.Search.{HasPoint, IsFound}
use Rattle.liveness.specs.Scan.{AreSources, last_targets, targets_of, HasTargets, HasRegisters, IsWrittenBefore, IsRead, AreRead, IsDone, IsFinished}
use Rattle.liveness.proofs.Extending.{one_span}

-- the count before the next block is that before this one and its instructions
pub count_more : (blocks : List (List MInst)) (b : ℕ) → count_before blocks (b + 1) ≡ count_before blocks b + length (get_or blocks b [])
count_more blocks b = let next' : b + 1 ≡ suc b = omega arith in ap (count_before blocks) next' ∙ go blocks b
  where
    go : (blocks : List (List MInst)) (b : ℕ) → count_before blocks (suc b) ≡ count_before blocks b + length (get_or blocks b [])
    go [] zero = refl
    go [] (suc b) = refl
    go (x ∷ xs) zero = omega arith
    go (x ∷ xs) (suc b) = omega (arith, go xs b)

-- an instruction that goes to a block ends its own
pub goer_ends : (inst : MInst) (to : ℕ) → Contains (targets inst) to → ends_block inst ≡ true
goer_ends (Branch op a b t e) to in' = refl
goer_ends (Jump t) to in' = refl
goer_ends (Param d n) to in' = absurd (omega (arith, in'.1))
goer_ends (Op op d a b) to in' = absurd (omega (arith, in'.1))
goer_ends (Imm op d a n) to in' = absurd (omega (arith, in'.1))
goer_ends (Const d n) to in' = absurd (omega (arith, in'.1))
goer_ends (Move d a) to in' = absurd (omega (arith, in'.1))
goer_ends (Load op d a n) to in' = absurd (omega (arith, in'.1))
goer_ends (Store op a b n) to in' = absurd (omega (arith, in'.1))
goer_ends (Phi d pairs) to in' = absurd (omega (arith, in'.1))
goer_ends (Call g args results) to in' = absurd (omega (arith, in'.1))
goer_ends (TakeData d n) to in' = absurd (omega (arith, in'.1))
goer_ends (CopyBytes a b n) to in' = absurd (omega (arith, in'.1))
goer_ends (FillBytes a b n) to in' = absurd (omega (arith, in'.1))
goer_ends (Return rs) to in' = absurd (omega (arith, in'.1))
goer_ends Trap to in' = absurd (omega (arith, in'.1))

module _ (f : MFunction) (well : IsWellFormed f) where
  -- an instruction that goes to a block is the last of its own
  pub goer_last : (b j to : ℕ) (inst : MInst) → inst_at f b j ≡ Some inst → Contains (targets inst) to
      → (j + 1 ≡ length (block_of f b)) × Contains (last_targets (block_of f b)) to
  goer_last b j to inst at in' =
      let placed : IsWellPlaced f b j inst = well.placed b j inst at in
      let last : j + 1 ≡ length (block_of f b) = placed.ends.0 (goer_ends inst to in') in
      let here : length (block_of f b) - 1 ≡ j = omega (arith, last) in
      (last, rw (here, at) in')

  -- a block with an instruction is one of the function's
  pub block_below : (b j : ℕ) (inst : MInst) → inst_at f b j ≡ Some inst → b < length f.blocks
  block_below b j inst at = elim (cases_lt b (length f.blocks)) [
    | inl below ↦ below
    | inr past ↦
        let empty : block_of f b ≡ [] = get_or_past f.blocks b [] past in
        let within : j < length (block_of f b) = slice_get_within (block_of f b) j inst at in
        absurd (omega (arith, within, ap length empty))
  ]

  -- the last instruction's targets are blocks
  pub has_targets : HasTargets f.blocks
  has_targets b to in' = go (slice_get (block_of f b) (length (block_of f b) - 1)) refl in'
    where
      go : (found : Option MInst) → slice_get (block_of f b) (length (block_of f b) - 1) ≡ found → Contains (targets_of found) to → to < length f.blocks
      go None at in' = absurd (omega (arith, in'.1))
      go (Some inst) at in' =
          let placed : IsWellPlaced f b (length (block_of f b) - 1) inst = well.placed b (length (block_of f b) - 1) inst at in
          (placed.targets_exist to in').1

  pub has_registers : (b : ℕ) → HasRegisters f.regs (block_of f b)
  has_registers b j inst at = let placed : IsWellPlaced f b j inst = well.placed b j inst at in (placed.reads_exist, placed.writes_exist)

module _ (f : MFunction) (well : IsWellFormed f) (search : Search) (written : List (List Bool)) (sources : List (List ℕ))
    (are : AreSources f.blocks (length f.blocks) sources) (read : AreRead search written f.blocks (length f.blocks))
    (done : (b r : ℕ) → IsFound search b r → IsDone f.blocks sources written search b r) where
  -- the span has a point at or behind this one
  abbrev HasLater : ℕ → ℕ → Type 0
  HasLater r point = (later : ℕ) × (point ≤ later) × HasPoint search r later

  -- the register is written earlier in the block, or was found live where it begins
  abbrev IsKnown : ℕ → ℕ → ℕ → Type 0
  IsKnown b j r = IsWrittenBefore (block_of f b) j r ⊎ IsFound search b r

  between : (r low point high : ℕ) → low ≤ point → point ≤ high → HasPoint search r low → HasPoint search r high → HasPoint search r point
  between r low point high from to (first, last, is, a, b) (first', last', is', a', b') =
      let same : ◌≡◌ {A = ℕ × ℕ} (first, last) (first', last') = one_span (first, last) (first', last') (sym is ∙ is') in
      let last_same : last ≡ last' = ap (λ (span : ℕ × ℕ). span.1) same in
      (first, last, is, omega (arith, a, from), omega (arith, b', to, last_same))

  block_read : (b j : ℕ) (inst : MInst) → inst_at f b j ≡ Some inst → IsRead search (get_or written b []) (block_of f b) b (length (block_of f b)) (count_before f.blocks b)
  block_read b j inst at = read b (block_below f well b j inst at)

  one_inst : (one other : MInst) → Some one ≡ Some other → one ≡ other
  one_inst one other e = ap (λ o. unwrap_or o one) e

  -- where it is known, the span has a point at or before the one of writing of the instruction before
  earlier : (b j r : ℕ) → IsKnown b j r → (low : ℕ) × (low ≤ 2 * number_of f b j) × (0 < j → low + 1 ≤ 2 * number_of f b j) × HasPoint search r low
  earlier b j r (inl (k, inst, below, at, in')) = (
    2 * (count_before f.blocks b + k) + 1,
    omega (arith, below),
    (λ positive. omega (arith, below)),
    (block_read b k inst at).writes_held k inst r (slice_get_within (block_of f b) k inst at) at in',
  )
  earlier b j r (inr found) =
      let d : IsDone f.blocks sources written search b r = done b r found in
      (2 * count_before f.blocks b, omega arith, (λ positive. omega (arith, positive)), d.start)

  -- without the instruction itself
  known_before : (b j r : ℕ) (inst : MInst) → inst_at f b j ≡ Some inst → (Contains (writes inst) r → ⊥) → IsWrittenBefore (block_of f b) (j + 1) r
      → IsWrittenBefore (block_of f b) j r
  known_before b j r inst at none' (k, other, below, there, in') = elim (cases_eq k j) [
    | inl same ↦
        let is : other ≡ inst = one_inst other inst (sym there ∙ ap (λ m. slice_get (block_of f b) m) same ∙ at) in
        absurd (none' (rw (← is) in'))
    | inr differs ↦ (k, other, omega (arith, below, differs), there, in')
  ]

  -- a source of a block where the register was found live
  from_source : (b j r to : ℕ) (inst : MInst) → inst_at f b j ≡ Some inst → Contains (targets inst) to → IsFound search to r
      → HasPoint search r (2 * number_of f b j + 1) × ((has (get_or written b []) r ≡ true) ⊎ IsFound search b r)
  from_source b j r to inst at goes found =
      let d : IsDone f.blocks sources written search to r = done to r found in
      let last : (j + 1 ≡ length (block_of f b)) × Contains (last_targets (block_of f b)) to = goer_last f well b j to inst at goes in
      let source : Contains (get_or sources to []) b = are.all b to (block_below f well b j inst at) last.1 in
      let point : 2 * count_before f.blocks (b + 1) - 1 ≡ 2 * number_of f b j + 1 = omega (arith, count_more f.blocks b, last.0) in
      (rw point at (d.back b source), d.source b source)

  nothing_written : (b r : ℕ) → IsKnown b 0 r → IsFound search b r
  nothing_written b r (inl (k, inst, below, at, in')) = absurd (omega (arith, below))
  nothing_written b r (inr found) = found

  along : (b j r : ℕ) (inst : MInst) → inst_at f b j ≡ Some inst → (Contains (writes inst) r → ⊥) → (b' j' : ℕ) → Follows f b j b' j'
      → HasLater r (2 * number_of f b' j') × IsKnown b' j' r → HasLater r (2 * number_of f b j) × IsKnown b j r
  along b j r inst at none' b' j' (next inst' at' goes_on') (later, known) =
      ((later.0, omega (arith, later.1), later.2), elim known [ inl w ↦ inl (known_before b j r inst at none' w) | inr found ↦ inr found ])
  along b j r inst at none' b' j' (jump inst' to at' goes) (later, known) =
      let s : HasPoint search r (2 * number_of f b j + 1) × ((has (get_or written b []) r ≡ true) ⊎ IsFound search b r) =
      from_source b j r to inst' at' goes (nothing_written to r known) in
      let last : (j + 1 ≡ length (block_of f b)) × Contains (last_targets (block_of f b)) to = goer_last f well b j to inst' at' goes in (
        (2 * number_of f b j + 1, omega arith, s.0),
        elim s.1 [
          | inl w ↦ inl (known_before b j r inst at none' (rw last.0 ((block_read b j inst at).exact r w)))
          | inr found ↦ inr found
        ],
      )

  from_read : (r b j : ℕ) → ReadFrom f r b j → HasLater r (2 * number_of f b j) × IsKnown b j r
  from_read r b j (reads_here inst at in') =
      let is : IsRead search (get_or written b []) (block_of f b) b (length (block_of f b)) (count_before f.blocks b) = block_read b j inst at in
      let within : j < length (block_of f b) = slice_get_within (block_of f b) j inst at in
      ((2 * number_of f b j, omega arith, is.reads_held j inst r within at in'), is.reads_found j inst r within at in')
  from_read r b j (goes_on {block' = b'} {place' = j'} inst at none' follows rest) =
      along b j r inst at none' b' j' follows (from_read r b' j' rest)

  held_before : (r b j : ℕ) → HasLater r (2 * number_of f b j) × IsKnown b j r → HasPoint search r (2 * number_of f b j)
  held_before r b j (later, known) =
      let low : (low : ℕ) × (low ≤ 2 * number_of f b j) × (0 < j → low + 1 ≤ 2 * number_of f b j) × HasPoint search r low = earlier b j r known in
      between r low.0 (2 * number_of f b j) later.0 low.1 later.1 low.3 later.2

  held_behind : (r b j b' j' : ℕ) → Follows f b j b' j' → HasLater r (2 * number_of f b' j') × IsKnown b' j' r → HasPoint search r (2 * number_of f b j + 1)
  held_behind r b j b' j' (next inst at goes_on') (later, known) =
      let low : (low : ℕ) × (low ≤ 2 * number_of f b (j + 1)) × (0 < j + 1 → low + 1 ≤ 2 * number_of f b (j + 1)) × HasPoint search r low = earlier b (j + 1) r known in
      between r low.0 (2 * number_of f b j + 1) later.0 (omega (arith, low.2 (omega arith))) (omega (arith, later.1)) low.3 later.2
  held_behind r b j b' j' (jump inst to at goes) (later, known) = (from_source b j r to inst at goes (nothing_written to r known)).0

  live_held : (r point : ℕ) → IsLiveAt f r point → HasPoint search r point
  live_held r point (before b j rest) = held_before r b j (from_read r b j rest)
  live_held r point (behind b j b' j' follows rest) = held_behind r b j b' j' follows (from_read r b' j' rest)

  written_held : (r point : ℕ) → IsWrittenAt f r point → HasPoint search r point
  written_held r point (writes_there b j inst at in') =
      (block_read b j inst at).writes_held j inst r (slice_get_within (block_of f b) j inst at) at in'

  pub spans_cover : (intervals : Intervals) → intervals.spans ≡ search.spans.items → Covers f intervals
  spans_cover intervals same = record {
    live = λ r point h. rw same (live_held r point h);
    written = λ r point h. rw same (written_held r point h);
  }

pub finished_covers : (f : MFunction) → IsWellFormed f → (search : Search) → IsFinished f.blocks search → (intervals : Intervals) → intervals.spans ≡ search.spans.items
    → Covers f intervals
finished_covers f well search is intervals same = spans_cover f well search is.written is.sources is.are is.read is.done intervals same
