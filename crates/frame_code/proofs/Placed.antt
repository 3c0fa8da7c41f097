-- Registers that are read or written have places, and a place that is written is that of no other register that is read later.
use Rattle.std.proofs.Common.{◌≡◌, ◌≢◌, refl, sym, ap, ◌∙◌, ℕ, zero, suc, ◌+◌, ◌*◌, ◌<◌, Bool, false, List, [], ◌∷◌, Option, Some, None, arith}
use Rattle.std.specs.Prelude.{slice_get, slice_index_or, drop}
use Rattle.std.specs.List.{Contains}
use Rattle.mir.specs.declared.code.MInst.{MInst}
use Rattle.mir.specs.declared.code.MFunction.{MFunction}
use Rattle.mir.specs.declared.places.Intervals.{Intervals}
use Rattle.mir.specs.declared.places.Place.{Place}
use Rattle.mir.specs.declared.places.Places.{Places}
use Rattle.mir.specs.Code.{writes, ends_block, inst_at, number_of, next}
use Rattle.mir.specs.Live.{ReadFrom, before, behind, writes_there, Covers}
use Rattle.mir.specs.Places.{place_of, IsPlace, Fits}
use Rattle.frame_code.specs.Frame.{slots_of}

-- what stands at a place of a list, and what stands behind it
pub dropped : (insts : List MInst) (place : ℕ) (inst : MInst) (rest : List MInst) → drop place insts ≡ inst ∷ rest → (slice_get insts place ≡ Some inst) × (drop (place + 1) insts ≡ rest)
dropped [] zero inst rest e = absurd (let bad : ⊥ = cc in bad)
dropped [] (suc place) inst rest e = absurd (let bad : ⊥ = cc in bad)
dropped (x ∷ xs) zero inst rest e = (let here : Some x ≡ Some inst = cc in here, let more : xs ≡ rest = cc in more)
dropped (x ∷ xs) (suc place) inst rest e =
    let h = dropped xs place inst rest e in
    let one : suc (place + 1) ≡ suc place + 1 = omega arith in
    (h.0, ap (λ (k : ℕ). drop k (x ∷ xs)) (sym one) ∙ h.1)

-- the one item of a list
pub only-item : (d r : ℕ) → Contains (d ∷ []) r → r ≡ d
only-item d r h = by_place h.0 h.1 h.2
  where
    by_place : (k : ℕ) → k < 1 → slice_index_or (d ∷ []) k r ≡ r → r ≡ d
    by_place zero lt e = sym e
    by_place (suc k) lt e = absurd (let bad : ⊥ = omega (arith, lt) in bad)

pub first-item : (d : ℕ) (ds : List ℕ) → Contains (d ∷ ds) d
first-item d ds = (0, omega arith, refl)

pub second-item : (d e : ℕ) (ds : List ℕ) → Contains (d ∷ e ∷ ds) e
second-item d e ds = (1, omega arith, refl)

module _ (f : MFunction) (places : Places) (intervals : Intervals) (covers : Covers f intervals) (fits : Fits intervals (slots_of f.values) places) where
  -- the register has a place
  abbrev pub IsPlaced : ℕ → Type 0
  IsPlaced r = (place : Place) × (place_of places r ≡ Some place) × IsPlace (slots_of f.values) place

  pub live-placed : (r block at : ℕ) → ReadFrom f r block at → IsPlaced r
  live-placed r block at h = let x = covers.live r _ (before block at h) in fits.placed r x.0 x.1 x.2

  pub written-placed : (d block at : ℕ) (inst : MInst) → inst_at f block at ≡ Some inst → Contains (writes inst) d → IsPlaced d
  written-placed d block at inst there in' = let x = covers.written d _ (writes_there block at inst there in') in fits.placed d x.0 x.1 x.2

  -- what is written here is elsewhere than what is read later
  pub place-apart : (d q block at : ℕ) (inst : MInst) (to other : Place) → inst_at f block at ≡ Some inst → Contains (writes inst) d → ends_block inst ≡ false
      → ReadFrom f q block (at + 1) → q ≢ d → place_of places d ≡ Some to → place_of places q ≡ Some other → other ≢ to
  place-apart d q block at inst to other there in' ends live ne e-d e-q same =
      ne (fits.apart q d (2 * number_of f block at + 1) to (covers.live q _ (behind block at block (at + 1) (next inst there ends) live))
      (covers.written d _ (writes_there block at inst there in')) (e-q ∙ ap Some same) e-d)
