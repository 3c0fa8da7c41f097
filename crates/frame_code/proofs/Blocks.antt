-- Each block's code stands at its label, with the later blocks behind it.
use Rattle.std.proofs.Common.{◌≡◌, refl, sym, ap, subst, ◌∙◌, ℕ, zero, suc, ◌+◌, ◌*◌, ◌%◌, ◌<◌, ◌≤◌, List, [], ◌∷◌, ◌++◌, length, arith}
use Rattle.std.specs.Prelude.{drop, slice_index_or}
use Rattle.ir_meaning.specs.Plays.{Meaning}
use Rattle.rv_play.specs.CodePlay.{Place as Words, place_of as words_at}
use Rattle.mir.specs.declared.code.MInst.{MInst}
use Rattle.mir.specs.declared.code.MFunction.{MFunction}
use Rattle.mir.specs.declared.places.Places.{Places}
use Rattle.mir.specs.Code.{block_of}
use Rattle.code_pieces.specs.Items.{Item, plain}
use Rattle.code_pieces.specs.Labels.{StandsAs}
use Rattle.code_pieces.proofs.Labelled.{plain-apart, behind-items}
use Rattle.frame_code.specs.Code.{insts_items, blocks_items, entry_code, function_items}
use Rattle.frame_code.specs.Laws.{CodeStandsLaidOut}

module _ (m : Meaning) (words : Words) (labels : ℕ → ℕ) (f : MFunction) (places : Places) where
  -- the block of that number, whose instructions are these, with these behind it
  abbrev StandsThere : ℕ → List MInst → List (List MInst) → Type 0
  StandsThere t insts more = StandsAs m words labels (labels t) (insts_items f places t insts ++ blocks_items f places (t + 1) more)

  block-stands : (blocks : List (List MInst)) (first pc j : ℕ) → StandsAs m words labels pc (blocks_items f places first blocks) → j < length blocks
      → StandsThere (first + j) (slice_index_or blocks j []) (drop (j + 1) blocks)
  block-stands [] first pc j h lt = absurd (let bad : ⊥ = omega (arith, lt) in bad)
  block-stands (b ∷ bs) first pc zero h lt =
      let same : first ≡ first + 0 = omega arith in
      subst (λ (t : ℕ). StandsThere t b bs) same (subst (λ (q : ℕ). StandsAs m words labels q (insts_items f places first b ++ blocks_items f places (first + 1) bs)) (sym h.0) h.1)
  block-stands (b ∷ bs) first pc (suc j) h lt =
      let next = behind-items m words labels (insts_items f places first b) (blocks_items f places (first + 1) bs) pc h.1 in
      let r = block-stands bs (first + 1) next.0 j next.1 (omega (arith, lt)) in
      let same : first + 1 + j ≡ first + suc j = omega arith in
      let one : suc (j + 1) ≡ suc j + 1 = omega arith in
      subst (λ (k : ℕ). StandsThere (first + suc j) (slice_index_or bs j []) (drop k (b ∷ bs))) one
      (subst (λ (t : ℕ). StandsThere t (slice_index_or bs j []) (drop (j + 1) bs)) same r)

  pub all-stand : StandsAs m words labels words.base (function_items f places) → (t : ℕ) → t < length f.blocks → StandsThere t (block_of f t) (drop (t + 1) f.blocks)
  all-stand h t lt =
      let parts = plain-apart m words labels words.base (entry_code f places) (blocks_items f places 0 f.blocks) h in
      let same : 0 + t ≡ t = omega arith in
      subst (λ (n : ℕ). StandsThere n (block_of f t) (drop (t + 1) f.blocks)) same (block-stands f.blocks 0 (words.base + 4 * length (entry_code f places)) t parts.1 lt)

pub code-stands-laid-out : CodeStandsLaidOut
code-stands-laid-out m f places a s base code functions room wide is stands enters everywhere =
    let x = everywhere (words_at code base s) refl stands in (
      x.0,
      record {
        functions = functions;
        room = room;
        wide = wide;
        high = is.sp_high;
        low_base = stands.low;
        high_base = stands.high;
        entering = enters.sp;
        aligned = x.1;
        placed = all-stand m (words_at code base s) x.0 f places x.2;
      },
    )
