-- Places of globals, also of those that are not there.
use Rattle.std.proofs.Common.{◌≡◌, ℕ, zero, suc, ◌+◌, ◌≤◌, ◌⊎◌, inl, inr, min, List, [], ◌∷◌, length, take, sym, ◌∙◌, ap, refl, arith}
use Rattle.std.specs.Prelude.{slice_index, sum_by}
use Rattle.ir_core.specs.declared.program.Global.{Global}
use Rattle.ir_meaning.specs.Memory.{data_start}
use Rattle.ir_meaning.specs.Image.{span, address_of}
use Rattle.ir_eval.specs.Code.{ArePlaces}

take_past : (n : ℕ) (globals : List Global) → length globals ≤ n → take n globals ≡ take (length globals) globals
take_past zero [] h = refl
take_past (suc n) [] h = refl
take_past zero (g ∷ gs) h = absurd (omega arith)
take_past (suc n) (g ∷ gs) h = ap (λ (x : List Global). g ∷ x) (take_past n gs (omega arith))

either : (a b : ℕ) → (a ≤ b) ⊎ (b ≤ a)
either a b = grind arith

pub place_is : (globals : List Global) (places : List ℕ) (global at : ℕ) → ArePlaces globals places → at ≡ min global (length globals) → slice_index places at ≡ address_of globals global
place_is globals places global at are e = by_order (either global (length globals))
  where
    by_order : (global ≤ length globals) ⊎ (length globals ≤ global) → slice_index places at ≡ address_of globals global
    by_order (inl low) = let same : at ≡ global = omega (arith, e) in ap (slice_index places) same ∙ are.each global low
    by_order (inr high) =
        let same : at ≡ length globals = omega (arith, e) in
        ap (slice_index places) same ∙ are.each (length globals) (omega arith)
        ∙ ap (λ (gs : List Global). data_start + sum_by span gs) (sym (take_past global globals high))
