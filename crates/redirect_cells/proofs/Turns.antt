-- A hart's loading and announcing of the epoch and its going idle keep the rule, by the laws of the step functions.
use Rattle.std.proofs.Common.{◌≡◌, ℕ, suc, ◌+◌, ◌<◌, ◌≢◌, List, [], ◌∷◌, ◌++◌, length, get_or, set, true, false, sym, refl, ap, ◌∙◌, subst, ⊎_elim, arith, length-set}
use Rattle.atomic_table.specs.Table.{State, Me, keeps, Allows}
use Rattle.code_epochs.specs.declared.parts.HartPart.{HartPart}
use Rattle.code_epochs.specs.Sound.{At, Whole, Sound, Backed, count_left}
use Rattle.code_epochs.specs.Steps.{with_hart, with_hart_word, loaded_part, ended_part}
use Rattle.code_epochs.proofs.Lists.{at_set, at_below, set_here, set_else}
use Rattle.code_epochs.proofs.Idle.{load_epoch_sound, announce_sound, go_idle_sound, pass_backed}
use Rattle.code_epochs.proofs.Seats.{holds_staying}
use Rattle.redirect_cells.specs.declared.view.Plan.{Plan}
use Rattle.redirect_cells.specs.declared.view.HartView.{HartView}
use Rattle.redirect_cells.specs.declared.view.Role.{Role}
use Rattle.redirect_cells.specs.declared.view.Role.TheVariants.{Hart, Keeper, Spent}
use Rattle.redirect_cells.specs.declared.view.View.{View}
use Rattle.redirect_cells.specs.Kept.{meaning_of, functions_of, layout, Fits, FitsView, Kept, part_of, part_in, Begun, IsBegun, with_part, hart_view, is_hart, number_in, word_in, turned, turned_view, loaded_epoch, announced_epoch, IsServed, pass_ended}
use Rattle.redirect_cells.proofs.Words.{set_same, set_front, set_back}
use Rattle.redirect_cells.proofs.Loads.{hart_keeps}

-- what the other seats know stays so where one hart knows and has announced something else
others_fit : (x : Whole) (h : ℕ) (p : HartPart) (word keeper : ℕ) (seat : ℕ → ℕ) (id j : ℕ) → j ≢ id → id ≡ seat h → (r : Role) → Fits x keeper seat j r → Fits (with_hart_word x h p word) keeper seat j r
others_fit x h p word keeper seat id j apart mine (Hart v) fits =
    let other : v.number ≢ h = λ same. apart (fits.0 ∙ ap seat same ∙ sym mine) in
    (fits.0, set_else x.harts h v.number p other ∙ fits.1, set_else x.announced h v.number word other ∙ fits.2, fits.3)
others_fit x h p word keeper seat id j apart mine (Keeper book) fits = fits
others_fit x h p word keeper seat id j apart mine Spent fits = fits

abbrev pub hart_word : Plan → ℕ → ℕ
hart_word plan number = 1 + (functions_of plan) + number

-- the layout with one hart's word changed
set_hart : (plan : Plan) (x : Whole) (h w : ℕ) (p : HartPart) → length x.cells ≡ (functions_of plan) → h < length x.announced → set (layout x) (hart_word plan h) w ≡ layout (with_hart_word x h p w)
set_hart plan x h w p functions inside =
    let e : hart_word plan h ≡ suc (length x.cells + h) = (λ i. 1 + sym functions i + h) ∙ omega arith in
    ap (λ (n : ℕ). set (layout x) n w) e ∙ ap (λ (l : List ℕ). x.epoch ∷ l) (set_back x.cells (x.announced ++ x.code) h w ∙ ap (λ (l : List ℕ). x.cells ++ l) (set_front x.announced x.code h w inside))

hart_turns : (plan : Plan) (words : List ℕ) (views : List View) (id : ℕ) (v : View) (hv : HartView) (p : HartPart) (w : ℕ) (k : Kept plan words views) → At views id v → v.role ≡ Hart hv → Sound (meaning_of plan) (with_hart_word k.whole hv.number p w)
    → Kept plan (set words (hart_word plan hv.number) w) (set views id (turned_view v p w))
hart_turns plan words views id v hv p w k at is sound =
    let x = k.whole in
    let n = hv.number in
    let mine = subst (λ (r : Role). Fits x k.keeper k.seat id r) is (k.fits id v at) in
    let inside = at_below x.harts n hv.part mine.1 in
    let inside' = at_below x.announced n hv.word mine.2 in
    let now : Fits (with_hart_word x n p w) k.keeper k.seat id (turned v.role p w) = subst (λ (r : Role). Fits (with_hart_word x n p w) k.keeper k.seat id (turned r p w)) (sym is) (mine.0, set_here x.harts n p inside, set_here x.announced n w inside', mine.3) in
    record {
      whole = with_hart_word x n p w;
      keeper = k.keeper;
      seat = k.seat;
      sound = sound;
      words_are = ap (λ (l : List ℕ). set l (hart_word plan n) w) k.words_are ∙ set_hart plan x n w p k.sound.book.functions inside';
      harts = length-set x.announced n w ∙ k.harts;
      code_words = k.code_words;
      small = k.small;
      fits = λ j u here. ⊎_elim
          (λ (t : (j ≡ id) × (turned_view v p w ≡ u)). subst (λ (z : ℕ × View). FitsView plan (with_hart_word x n p w) k.keeper k.seat z.0 z.1) (λ i. (sym t.0 i, t.1 i)) now)
          (λ (t : (j ≢ id) × At views j u). let old = k.fits j u t.1 in others_fit x n p w k.keeper k.seat id j t.0 mine.0 u.role old)
          (at_set views id j (turned_view v p w) u here);
    }

off : false ≡ true → ⊥
off e = absurd (cc)

pub view_facts : (r : Role) (p : HartPart) → is_hart r ≡ true → (is_hart (with_part r p) ≡ true) × (word_in (with_part r p) ≡ word_in r) × (number_in (with_part r p) ≡ number_in r) × (part_in (with_part r p) ≡ p)
view_facts (Hart v) p h = (refl, refl, refl, refl)
view_facts (Keeper book) p h = absurd (off h)
view_facts Spent p h = absurd (off h)

module _ {S : Type 0} (plan : Plan) where
  abbrev Rule : State S View → Type 0
  Rule s = Kept plan s.words s.views

  loads_epoch_in : (slots id : ℕ) (me : Me S View) (r : Role) → me.0.role ≡ r → me.1 ≡ [] → is_hart r ≡ true → word_in r ≡ 0
      → Allows Rule slots id me 0 (λ n. n) (λ n w. (0 < n) × loaded_epoch me.0 n w.0 × (w.1 ≡ []))
  loads_epoch_in slots id me (Keeper book) is empty hart idle = absurd (off hart)
  loads_epoch_in slots id me Spent is empty hart idle = absurd (off hart)
  loads_epoch_in slots id me (Hart hv) is empty hart idle = λ s k homes at fits64.
      let x = k.whole in
      let mine = subst (λ (r : Role). Fits x k.keeper k.seat id r) is (k.fits id me.0 at) in
      let found : ℕ = get_or s.words 0 0 in
      let found_is : x.epoch ≡ found = sym (ap (λ (l : List ℕ). get_or l 0 0) k.words_are) in
      let sound = load_epoch_sound (meaning_of plan) x hv.number hv.part k.sound (mine.1, subst (At x.announced hv.number) idle mine.2) mine.3 in
      let part : HartPart = loaded_part hv.part found in
      let sound' : Sound (meaning_of plan) (with_hart x hv.number part) = subst (λ (e : ℕ). Sound (meaning_of plan) (with_hart x hv.number (loaded_part hv.part e))) found_is sound in
      let now : hart_view me.0 part ≡ hart_view me.0 (loaded_part (part_of me.0) found) = ap (λ (z : HartPart). hart_view me.0 (loaded_part z found)) (ap part_in (sym is)) in
      let count = k.sound.book.epoch_is in
      let positive : 0 < found = let e : x.epoch ≡ 1 + count_left x.book.versions = count in let f : x.epoch ≡ found = found_is in omega arith in (
        hart_view me.0 part,
        keeps,
        tt,
        subst (λ (ws : List ℕ). Kept plan ws (set s.views id (hart_view me.0 part))) (sym (set_same s.words 0)) (hart_keeps plan s.words s.views id me.0 hv part k at is sound'),
        (positive, now, empty),
      )

  pub loads_epoch : (slots id : ℕ) (me : Me S View) → me.1 ≡ [] → is_hart me.0.role ≡ true → word_in me.0.role ≡ 0
      → Allows Rule slots id me 0 (λ n. n) (λ n w. (0 < n) × loaded_epoch me.0 n w.0 × (w.1 ≡ []))
  loads_epoch slots id me = loads_epoch_in slots id me me.0.role refl

  announces_in : (slots id word epoch : ℕ) (me : Me S View) (r : Role) → me.0.role ≡ r → me.1 ≡ [] → is_hart r ≡ true → word_in r ≡ 0 → word ≡ hart_word plan (number_in r) → epoch ≡ (part_in r).epoch
      → Allows Rule slots id me word (λ _. epoch) (λ _ w. announced_epoch me.0 w.0 × (w.1 ≡ []))
  announces_in slots id word epoch me (Keeper book) is empty hart idle place same = absurd (off hart)
  announces_in slots id word epoch me Spent is empty hart idle place same = absurd (off hart)
  announces_in slots id word epoch me (Hart hv) is empty hart idle place same = λ s k homes at fits64.
      let x = k.whole in
      let mine = subst (λ (r : Role). Fits x k.keeper k.seat id r) is (k.fits id me.0 at) in
      let sound = announce_sound (meaning_of plan) x hv.number hv.part k.sound (mine.1, subst (At x.announced hv.number) idle mine.2) mine.3 in
      let now : turned_view me.0 hv.part hv.part.epoch ≡ turned_view me.0 (part_of me.0) (part_of me.0).epoch = ap (λ (z : HartPart). turned_view me.0 z z.epoch) (ap part_in (sym is)) in (
        turned_view me.0 hv.part hv.part.epoch,
        keeps,
        tt,
        subst (λ (y : ℕ × ℕ). Kept plan (set s.words y.0 y.1) (set s.views id (turned_view me.0 hv.part hv.part.epoch))) (λ i. (sym place i, sym same i)) (hart_turns plan s.words s.views id me.0 hv hv.part hv.part.epoch k at is sound),
        (now, empty),
      )

  pub announces : (slots id word epoch : ℕ) (me : Me S View) → me.1 ≡ [] → is_hart me.0.role ≡ true → word_in me.0.role ≡ 0 → word ≡ hart_word plan (number_in me.0.role) → epoch ≡ (part_of me.0).epoch
      → Allows Rule slots id me word (λ _. epoch) (λ _ w. announced_epoch me.0 w.0 × (w.1 ≡ []))
  announces slots id word epoch me = announces_in slots id word epoch me me.0.role refl

  goes_idle_in : (slots id word : ℕ) (me : Me S View) (r : Role) → me.0.role ≡ r → me.1 ≡ [] → me.0.plan ≡ plan → Begun r → word ≡ hart_word plan (number_in r)
      → Allows Rule slots id me word (λ _. 0) (λ n w. pass_ended me.0 w.0 × (w.1 ≡ []))
  goes_idle_in slots id word me (Keeper book) is empty same begun place = absurd begun
  goes_idle_in slots id word me Spent is empty same begun place = absurd begun
  goes_idle_in slots id word me (Hart hv) is empty same begun place = λ s k homes at fits64.
      let x = k.whole in
      let mine = subst (λ (r : Role). Fits x k.keeper k.seat id r) is (k.fits id me.0 at) in
      let sound = go_idle_sound (meaning_of plan) x hv.number hv.part hv.word k.sound (mine.1, mine.2, begun) in
      let backed = pass_backed (meaning_of plan) x hv.number hv.part hv.word k.sound (k.sound.harts hv.number hv.part hv.word mine.1 mine.2) in
      let served : IsServed plan hv.number hv.word hv.part = record {
        table = x;
        sound = k.sound;
        code_words = k.code_words;
        knows = mine.1;
        announced = mine.2;
        backed = subst (λ (n : ℕ). Backed (meaning_of plan) n x.book hv.part.pass) k.code_words backed;
        stays = holds_staying (meaning_of plan) x hv.number hv.part hv.word k.sound mine.1 mine.2;
      } in
      let here : IsServed me.0.plan (number_in me.0.role) (word_in me.0.role) (part_of me.0) = subst (λ (z : Plan × Role). IsServed z.0 (number_in z.1) (word_in z.1) (part_in z.1)) (λ i. (sym same i, sym is i)) served in
      let now : turned_view me.0 (ended_part hv.part) 0 ≡ turned_view me.0 (ended_part (part_of me.0)) 0 = ap (λ (z : HartPart). turned_view me.0 (ended_part z) 0) (ap part_in (sym is)) in (
        turned_view me.0 (ended_part hv.part) 0,
        keeps,
        tt,
        subst (λ (y : ℕ). Kept plan (set s.words y 0) (set s.views id (turned_view me.0 (ended_part hv.part) 0))) (sym place) (hart_turns plan s.words s.views id me.0 hv (ended_part hv.part) 0 k at is sound),
        ((now, here), empty),
      )

  pub goes_idle : (slots id word : ℕ) (me : Me S View) → me.1 ≡ [] → me.0.plan ≡ plan → IsBegun me.0 → word ≡ hart_word plan (number_in me.0.role)
      → Allows Rule slots id me word (λ _. 0) (λ n w. pass_ended me.0 w.0 × (w.1 ≡ []))
  goes_idle slots id word me = goes_idle_in slots id word me me.0.role refl
