-- Where spans end, their registers are live or written.
use Rattle.std.proofs.Common.{◌≡◌, ℕ, zero, suc, ◌+◌, ◌-◌, ◌*◌, ◌<◌, inl, inr, Bool, true, false, length, get_or, Option, Some, None, arith, refl}
use Rattle.std.specs.Prelude.{slice_get}
use Rattle.std.specs.List.{Contains}
use Rattle.std.proofs.lemmas.Option.{slice_get_within, slice_get-get_or}
use Rattle.mir.specs.declared.code.MInst.{MInst}
use Rattle.mir.specs.declared.code.MInst.TheVariants.{Trap}
use Rattle.mir.specs.declared.code.MFunction.{MFunction}
use Rattle.mir.specs.declared.places.Intervals.{Intervals}
use Rattle.mir.specs.Code.{targets, ends_block, block_of, inst_at, count_before, number_of, next, jump}
use Rattle.mir.specs.WellFormed.{IsWellFormed, IsWellPlaced}
use Rattle.mir.specs.Live.{ReadFrom, reads_here, goes_on, before, behind, writes_there, IsInUse, IsTight}
use Rattle.liveness.specs.declared.search.Search.{Search}
use Rattle.liveness.specs.Scan.{last_targets, targets_of, IsWrittenBefore, IsNeeded, read_within, read_behind, IsUse, used, entered, departed, IsFinished}
use Rattle.liveness.proofs.Covering.{count_more}

not_ending : (is_end : Bool) → (is_end ≡ true → ⊥) → is_end ≡ false
not_ending true h = absurd (h refl)
not_ending false h = refl

-- the instruction by which a block goes to another
left_by : (f : MFunction) (b to : ℕ) → Contains (last_targets (block_of f b)) to
    → (j : ℕ) × (inst : MInst) × (inst_at f b j ≡ Some inst) × Contains (targets inst) to × (j + 1 ≡ length (block_of f b))
left_by f b to in' = go (slice_get (block_of f b) (length (block_of f b) - 1)) refl in'
  where
    go : (found : Option MInst) → slice_get (block_of f b) (length (block_of f b) - 1) ≡ found → Contains (targets_of found) to
        → (j : ℕ) × (inst : MInst) × (inst_at f b j ≡ Some inst) × Contains (targets inst) to × (j + 1 ≡ length (block_of f b))
    go None at goes = absurd (omega (arith, goes.1))
    go (Some inst) at goes =
        (length (block_of f b) - 1, inst, at, goes, omega (arith, slice_get_within (block_of f b) (length (block_of f b) - 1) inst at))

module _ (f : MFunction) (well : IsWellFormed f) where
  -- where nothing before it writes the register, a walk from an instruction goes on from one that begins its block
  walk_back : (b j r : ℕ) → j < length (block_of f b) → (IsWrittenBefore (block_of f b) j r → ⊥) → ReadFrom f r b j → ReadFrom f r b 0
  walk_back b zero r within none' walk = walk
  walk_back b (suc j) r within none' walk =
      let at : inst_at f b j ≡ Some (get_or (block_of f b) j Trap) = slice_get-get_or (block_of f b) j Trap (omega (arith, within)) in
      let placed : IsWellPlaced f b j (get_or (block_of f b) j Trap) = well.placed b j (get_or (block_of f b) j Trap) at in
      let goes : ends_block (get_or (block_of f b) j Trap) ≡ false =
      not_ending (ends_block (get_or (block_of f b) j Trap)) (λ h. let last : j + 1 ≡ length (block_of f b) = placed.ends.0 h in absurd (omega (arith, last, within))) in
      let from : j + 1 ≡ suc j = omega arith in
      walk_back b j r (omega (arith, within)) (λ w. none' (w.0, w.1, omega (arith, w.2), w.3, w.4))
      (goes_on (get_or (block_of f b) j Trap) at (λ w. none' (j, get_or (block_of f b) j Trap, omega arith, at, w))
      (next (get_or (block_of f b) j Trap) at goes) (rw from walk))

  needed_read : (r b : ℕ) → IsNeeded f.blocks r b → ReadFrom f r b 0
  needed_read r block (read_within b (j, inst, below, at, in', none')) = walk_back b j r below none' (reads_here inst at in')
  needed_read r block (read_behind b to goes none' needed) =
      let by : (j : ℕ) × (inst : MInst) × (inst_at f b j ≡ Some inst) × Contains (targets inst) to × (j + 1 ≡ length (block_of f b)) = left_by f b to goes in
      walk_back b by.0 r (omega (arith, by.4)) (λ w. none' (w.0, w.1, omega (arith, w.2, by.4), w.3, w.4))
      (goes_on by.1 by.2 (λ w. none' (by.0, by.1, omega (arith, by.4), by.2, w)) (jump by.1 to by.2 by.3) (needed_read r to needed))

  in_use : (r point : ℕ) → IsUse f.blocks r point → IsInUse f r point
  in_use r point (used b at (j, inst, below, is, inl (in', e))) = inl (rw e (before b j (reads_here inst is in')))
  in_use r point (used b at (j, inst, below, is, inr (in', e))) = inr (rw e (writes_there b j inst is in'))
  in_use r point (entered b needed) =
      let e : 2 * count_before f.blocks b ≡ 2 * number_of f b 0 = omega arith in
      inl (rw e (before b 0 (needed_read r b needed)))
  in_use r point (departed b to goes needed) =
      let by : (j : ℕ) × (inst : MInst) × (inst_at f b j ≡ Some inst) × Contains (targets inst) to × (j + 1 ≡ length (block_of f b)) = left_by f b to goes in
      let e : 2 * count_before f.blocks (b + 1) - 1 ≡ 2 * number_of f b by.0 + 1 = omega (arith, count_more f.blocks b, by.4) in
      inl (rw e (behind b by.0 to 0 (jump by.1 to by.2 by.3) (needed_read r to needed)))

pub finished_tight : (f : MFunction) → IsWellFormed f → (search : Search) → IsFinished f.blocks search → (intervals : Intervals) → intervals.spans ≡ search.spans.items
    → IsTight f intervals
finished_tight f well search is intervals same r first last span = (
  in_use f well r first (is.ends r first (first, last, rw same at span, inl refl)),
  in_use f well r last (is.ends r last (first, last, rw same at span, inr refl)),
)
