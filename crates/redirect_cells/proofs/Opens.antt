-- A table without versions, and new harts, keep the rule.
use Rattle.std.proofs.Common.{◌≡◌, ℕ, zero, suc, ◌+◌, ◌<◌, ◌≤◌, ◌≢◌, eqb, eq-eqb, ne_eqb, cond, List, [], ◌∷◌, ◌++◌, length, set, replicate, Bool, sym, refl, ap, ◌∙◌, subst, inr, ⊎_elim, arith, length-set}
use Rattle.std.proofs.lemmas.List.{length-replicate, replicate-append-replicate}
use mathlib.Core.Option.{some, some-injective, some-ne-none}
use Rattle.atomic_table.specs.Table.{State, Splits}
use Rattle.code_epochs.specs.declared.parts.Book.{Book}
use Rattle.code_epochs.specs.Sound.{At, Whole, Sound}
use Rattle.code_epochs.specs.Steps.{first_whole, new_part, book_split, AllLinked, hart_split}
use Rattle.code_epochs.proofs.Lists.{at_set, at_snoc, at_below, at_longer, at_last}
use Rattle.code_epochs.proofs.First.{first_sound, at_zeros}
use Rattle.code_epochs.proofs.Seats.{split_sound}
use Rattle.redirect_cells.specs.declared.view.Plan.{Plan}
use Rattle.redirect_cells.specs.declared.view.Role.{Role}
use Rattle.redirect_cells.specs.declared.view.Role.TheVariants.{Hart, Keeper, Spent}
use Rattle.redirect_cells.specs.declared.view.View.{View}
use Rattle.redirect_cells.specs.Kept.{meaning_of, functions_of, layout, Fits, FitsView, Kept, no_book, opened, IsPlan, first_words, IsKeeper, book_of, split_role, split_view, new_hart}
use Rattle.redirect_cells.proofs.Stores.{keeper_is}

nothing : {A : Type 0} (i : ℕ) (a : A) → At [] i a → ⊥
nothing i a e = some-ne-none a (sym e)

abbrev first_of : Plan → Whole
first_of plan = first_whole (meaning_of plan) plan.harts plan.code_words

first_layout : (plan : Plan) → first_words plan ≡ layout (first_of plan)
first_layout plan =
    let f = (functions_of plan) in
    let h = plan.harts in
    let c = plan.code_words in
    let e : f + h + c ≡ f + (h + c) = omega arith in
    ap (λ (l : List ℕ). 1 ∷ l) (ap (λ (n : ℕ). replicate n 0) e ∙ sym (replicate-append-replicate f (h + c) 0) ∙ ap (λ (l : List ℕ). replicate f 0 ++ l) (sym (replicate-append-replicate h c 0)))

pub opens : (plan : Plan) (words : List ℕ) → IsPlan plan → words ≡ first_words plan → Kept plan words (opened plan ∷ [])
opens plan words is same = record {
  whole = first_of plan;
  keeper = 0;
  seat = λ h. 0;
  sound = first_sound (meaning_of plan) plan.harts plan.code_words is.0 is.1;
  words_are = same ∙ first_layout plan;
  harts = length-replicate plan.harts 0;
  code_words = length-replicate plan.code_words 0;
  small = λ i w at. let e = at_zeros plan.code_words i w at in omega arith;
  fits = one;
}
  where
    one : (by : ℕ) (v : View) → At (opened plan ∷ []) by v → FitsView plan (first_of plan) 0 (λ h. 0) by v
    one zero v e = subst (FitsView plan (first_of plan) 0 (λ h. 0) 0) (some-injective (opened plan) v e) (refl, refl)
    one (suc by) v e = absurd (some-ne-none v (sym e))

-- the seat of a hart, where the newest has this one
abbrev seat_with : (ℕ → ℕ) → ℕ → ℕ → ℕ → ℕ
seat_with seat n new h = cond (eqb h n) new (seat h)

others_fit : (x : Whole) (keeper : ℕ) (seat : ℕ → ℕ) (new j : ℕ) → j ≢ keeper → (r : Role) → Fits x keeper seat j r → Fits (hart_split x) keeper (seat_with seat (length x.harts) new) j r
others_fit x keeper seat new j apart (Hart v) fits =
    let low = at_below x.harts v.number v.part fits.1 in
    let other : v.number ≢ length x.harts = λ e. omega arith in
    let is : seat_with seat (length x.harts) new v.number ≡ seat v.number = ap (λ (b : Bool). cond b new (seat v.number)) (ne_eqb v.number (length x.harts) other) in
    (fits.0 ∙ sym is, at_longer x.harts (new_part ∷ []) v.number v.part fits.1, fits.2, fits.3)
others_fit x keeper seat new j apart (Keeper book) fits = absurd (apart fits.0)
others_fit x keeper seat new j apart Spent fits = fits

zero_at : (l : List ℕ) (i : ℕ) → i < length l → ((w : ℕ) → At l i w → w ≡ 0) → At l i 0
zero_at [] i h z = absurd (omega arith)
zero_at (x ∷ xs) zero h z = ap some (z x refl)
zero_at (x ∷ xs) (suc i) h z = zero_at xs i (omega arith) z

module _ {S : Type 0} (plan : Plan) where
  abbrev Rule : State S View → Type 0
  Rule s = Kept plan s.words s.views

  pub seats_hart : (id number : ℕ) (v : View) → IsKeeper v → number ≡ (book_of v).seated → number < plan.harts → AllLinked (functions_of plan) (book_of v) → Splits Rule id v (split_view v) (new_hart v)
  seats_hart id number v keeper next room all s k at =
      let x = k.whole in
      let book = book_of v in
      let role : v.role ≡ Keeper book = keeper_is v.role keeper in
      let fit = k.fits id v at in
      let mine = subst (λ (r : Role). Fits x k.keeper k.seat id r) role fit in
      let same : book ≡ x.book = mine.1 in
      let seated : book.seated ≡ x.book.seated = ap (λ (b : Book). b.seated) same in
      let n = length x.harts in
      let n_is : n ≡ x.book.seated = k.sound.book.seated in
      let new = length s.views in
      let harts : length x.announced ≡ plan.harts = k.harts in
      let sound = split_sound (meaning_of plan) x k.sound (omega arith) (subst (AllLinked (functions_of plan)) same all) in
      let seat = seat_with k.seat n new in
      let left = split_view v in
      let right = new_hart v in
      let left_fits : Fits (hart_split x) k.keeper seat id left.role = subst (λ (r : Role). Fits (hart_split x) k.keeper seat id (split_role r)) (sym role) (mine.0, ap book_split same) in
      let word : At x.announced n 0 = zero_at x.announced n (omega arith) (λ w here. k.sound.places.2 n w (omega arith) here) in
      let at_new : seat n ≡ new = ap (λ (b : Bool). cond b new (k.seat n)) (eq-eqb n n refl) in
      let right_fits : Fits (hart_split x) k.keeper seat new (Hart record { number = n; word = 0; part = new_part }) = (sym at_new, at_last x.harts new_part, word, λ away. let low = k.sound.book.gone n away in omega arith) in
      let number_is : n ≡ book.seated = n_is ∙ sym seated in
      let right_fits' : Fits (hart_split x) k.keeper seat new right.role = subst (λ (y : ℕ). Fits (hart_split x) k.keeper seat new (Hart record { number = y; word = 0; part = new_part })) number_is right_fits in
      let size : length (set s.views id left) ≡ new = length-set s.views id left in
      record {
        whole = hart_split x;
        keeper = k.keeper;
        seat = seat;
        sound = sound;
        words_are = k.words_are;
        harts = k.harts;
        code_words = k.code_words;
        small = k.small;
        fits = λ j u here. ⊎_elim
            (λ (t : At (set s.views id left) j u). ⊎_elim
            (λ (z : (j ≡ id) × (left ≡ u)). subst (λ (y : ℕ × View). FitsView plan (hart_split x) k.keeper seat y.0 y.1) (λ i. (sym z.0 i, z.1 i)) left_fits)
            (λ (z : (j ≢ id) × At s.views j u). let old = k.fits j u z.1 in others_fit x k.keeper k.seat new j (λ e. z.0 (e ∙ sym mine.0)) u.role old)
            (at_set s.views id j left u t))
            (λ (t : (j ≡ length (set s.views id left)) × (right ≡ u)). subst (λ (y : ℕ × View). FitsView plan (hart_split x) k.keeper seat y.0 y.1) (λ i. (sym (t.0 ∙ size) i, t.1 i)) right_fits')
            (at_snoc (set s.views id left) right u j here);
      }
