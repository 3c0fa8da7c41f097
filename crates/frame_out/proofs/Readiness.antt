-- The code of each instruction can be written.
use Rattle.std.proofs.Common.{◌≡◌, refl, sym, subst, ◌∙◌, ℕ, zero, suc, get_or, ◌+◌, ◌^◌, ◌<◌, ◌≤◌, List, [], ◌∷◌, length, Option, Some, None, arith}
use Rattle.std.specs.Prelude.{drop, slice_get, slice_index_or}
use Rattle.std.specs.List.{Contains}
use Rattle.walks.specs.Face.{frame_of}
use Rattle.mir.specs.declared.code.MInst.{MInst}
use Rattle.mir.specs.declared.code.MFunction.{MFunction}
use Rattle.mir.specs.declared.places.Intervals.{Intervals}
use Rattle.mir.specs.declared.places.Place.{Place}
use Rattle.mir.specs.declared.places.Place.TheVariants.{Saved, Slot}
use Rattle.mir.specs.declared.places.Places.{Places}
use Rattle.mir.specs.Code.{reads, writes, inst_at}
use Rattle.mir.specs.Live.{reads_here, Covers}
use Rattle.mir.specs.Places.{place_of, IsPlace, Fits}
use Rattle.mir.specs.WellFormed.{IsWellFormed}
use Rattle.frame_code.specs.Frame.{slots_of}
use Rattle.frame_code.proofs.Placed.{IsPlaced, live-placed, written-placed}
use Rattle.frame_out.specs.Ready.{IsNear, AreNear, IsReady}
use Rattle.frame_out.proofs.Joining.{split_first}

module _ (f : MFunction) (places : Places) (intervals : Intervals) (covers : Covers f intervals) (fits : Fits intervals (slots_of f.values) places) (small : frame_of f.values ≤ 2 ^ 20) where
  near-place : (place : Place) → IsPlace (slots_of f.values) place → IsNear (Some place)
  near-place (Saved k) is = tt
  near-place (Slot j) is = let s = small in omega (arith, is, s)

  near : (r : ℕ) → IsPlaced f places intervals covers fits r → IsNear (place_of places r)
  near r x = subst IsNear (sym x.1) (near-place x.0 x.2)

  all-near : (rs : List ℕ) → ((r : ℕ) → Contains rs r → IsNear (place_of places r)) → AreNear places rs
  all-near [] h = tt
  all-near (r ∷ rs) h = (h r (0, omega arith, refl), all-near rs (λ x in'. h x (suc in'.0, (let lt = in'.1 in omega (arith, lt)), in'.2)))

  pub ready : IsWellFormed f → (block place : ℕ) (inst : MInst) → inst_at f block place ≡ Some inst → IsReady places inst
  ready formed block place inst at = record {
    reads = all-near (reads inst) (λ r in'. near r (live-placed f places intervals covers fits r block place (reads_here inst at in')));
    writes = all-near (writes inst) (λ r in'. near r (written-placed f places intervals covers fits r block place inst at in'));
    ranges = (formed.placed block place inst at).ranges;
  }

-- ---- registers of an instruction

pub place_none : (places : Places) (r : ℕ) (found : Option (Option Place)) → found ≡ slice_get places.at r → found ≡ None → None ≡ place_of places r
place_none places r found e is = none-there places.at r (sym e ∙ is)
  where
    none-there : (xs : List (Option Place)) (i : ℕ) → slice_get xs i ≡ None → None ≡ slice_index_or xs i None
    none-there [] i e = refl
    none-there (x ∷ xs) zero e = absurd (let bad : Some x ≡ None = e in cc)
    none-there (x ∷ xs) (suc i) e = none-there xs i e

-- the first of those that are left, and the rest
pub near_first : (places : Places) (rs : List ℕ) (i d : ℕ) → i < length rs → AreNear places (drop i rs) → IsNear (place_of places (get_or rs i d)) × AreNear places (drop (i + 1) rs)
near_first places rs i d lt h = subst (AreNear places) (split_first rs i d lt) h
