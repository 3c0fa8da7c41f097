-- The state before the first version is sound.
use Rattle.std.proofs.Common.{◌≡◌, ℕ, zero, suc, ◌<◌, ◌≤◌, List, [], length, replicate, sym, refl, subst, inr, arith}
use Rattle.std.proofs.lemmas.List.{length-replicate}
use mathlib.Core.Option.{some-injective, some-ne-none}
use Rattle.ir_meaning.specs.Plays.{Meaning}
use Rattle.code_epochs.specs.Sound.{At, Sound}
use Rattle.code_epochs.specs.Steps.{first_whole}

nothing : {A : Type 0} (i : ℕ) (a : A) → At [] i a → ⊥
nothing i a e = some-ne-none a (sym e)

pub at_zeros : (n i w : ℕ) → At (replicate n 0) i w → w ≡ 0
at_zeros zero i w e = absurd (some-ne-none w (sym e))
at_zeros (suc n) zero w e = sym (some-injective 0 w e)
at_zeros (suc n) (suc i) w e = at_zeros n i w e

pub first_sound : (m : Meaning) (harts code_words : ℕ) → harts ≤ 16 → code_words ≤ 4194304 → Sound m (first_whole m harts code_words)
first_sound m harts code_words few small = record {
  book = record {
    cell_is = λ i v at. absurd (nothing i v at);
    one_linked = λ i j v w at. absurd (nothing i v at);
    linked = λ k b at. inr (at_zeros m.functions k b at, refl, λ i v here. absurd (nothing i v here));
    symbols = λ i v at. absurd (nothing i v at);
    functions = length-replicate m.functions 0;
    code_size = subst (λ (n : ℕ). n ≤ 4194304) (sym (length-replicate code_words 0)) small;
    count = omega arith;
    seated = refl;
    gone = λ h away. absurd (nothing away.0 h away.1);
    texts = refl;
    numbers = λ i v at. absurd (nothing i v at);
    made = λ i v t at. absurd (nothing i v at);
    stands = λ i v t at. absurd (nothing i v at);
    apart = λ i j v w at. absurd (nothing i v at);
    draft = tt;
    epoch_is = refl;
    tags = λ i v at. absurd (nothing i v at);
  };
  places = (omega arith, subst (λ (n : ℕ). n ≤ 16) (sym (length-replicate harts 0)) few, λ h w _ at. at_zeros harts h w at);
  joined = (refl, λ i h p away. absurd (nothing i h away));
  harts = λ h p w here. absurd (nothing h p here);
}
