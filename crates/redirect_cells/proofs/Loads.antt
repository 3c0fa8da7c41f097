-- A hart's loads keep the rule, by the laws of the step functions.
use Rattle.std.proofs.Common.{◌≡◌, ℕ, ◌+◌, ◌-◌, ◌<◌, ◌≢◌, List, [], length, get_or, set, sym, refl, ap, ◌∙◌, subst, ⊎_elim, arith}
use Rattle.atomic_table.specs.Table.{State, Me, keeps, Allows}
use Rattle.code_epochs.specs.declared.parts.Item.{Item}
use Rattle.code_epochs.specs.declared.parts.Item.TheVariants.{Held, Saw}
use Rattle.code_epochs.specs.declared.parts.HartPart.{HartPart}
use Rattle.code_epochs.specs.Sound.{At, Whole, Sound}
use Rattle.code_epochs.specs.Steps.{with_item, with_hart, address_of, IsActive}
use Rattle.code_epochs.proofs.Lists.{at_set, at_below, set_here, set_else}
use Rattle.code_epochs.proofs.Harts.{load_cell_sound, load_word_sound}
use Rattle.redirect_cells.specs.declared.view.Plan.{Plan}
use Rattle.redirect_cells.specs.declared.view.HartView.{HartView}
use Rattle.redirect_cells.specs.declared.view.Role.{Role}
use Rattle.redirect_cells.specs.declared.view.Role.TheVariants.{Hart, Keeper, Spent}
use Rattle.redirect_cells.specs.declared.view.View.{View}
use Rattle.redirect_cells.specs.Kept.{meaning_of, functions_of, layout, Fits, FitsView, Kept, part_of, part_in, Begun, IsBegun, with_part, hart_view, cell_loaded, word_loaded}
use Rattle.redirect_cells.proofs.Words.{set_same, cell_at, code_at}

-- what the other seats know stays so where one hart knows something else
others_fit : (x : Whole) (h : ℕ) (p : HartPart) (keeper : ℕ) (seat : ℕ → ℕ) (id j : ℕ) → j ≢ id → id ≡ seat h → (r : Role) → Fits x keeper seat j r → Fits (with_hart x h p) keeper seat j r
others_fit x h p keeper seat id j apart mine (Hart v) fits =
    let other : v.number ≢ h = λ same. apart (fits.0 ∙ ap seat same ∙ sym mine) in
    (fits.0, set_else x.harts h v.number p other ∙ fits.1, fits.2, fits.3)
others_fit x h p keeper seat id j apart mine (Keeper book) fits = fits
others_fit x h p keeper seat id j apart mine Spent fits = fits

-- one hart's seat knows something else that is sound
pub hart_keeps : (plan : Plan) (words : List ℕ) (views : List View) (id : ℕ) (v : View) (hv : HartView) (p : HartPart) (k : Kept plan words views) → At views id v → v.role ≡ Hart hv → Sound (meaning_of plan) (with_hart k.whole hv.number p)
    → Kept plan words (set views id (hart_view v p))
hart_keeps plan words views id v hv p k at is sound =
    let mine = subst (λ (r : Role). Fits k.whole k.keeper k.seat id r) is (k.fits id v at) in
    let inside = at_below k.whole.harts hv.number hv.part mine.1 in
    let now : Fits (with_hart k.whole hv.number p) k.keeper k.seat id (with_part v.role p) = subst (λ (r : Role). Fits (with_hart k.whole hv.number p) k.keeper k.seat id (with_part r p)) (sym is) (mine.0, set_here k.whole.harts hv.number p inside, mine.2, mine.3) in
    record {
      whole = with_hart k.whole hv.number p;
      keeper = k.keeper;
      seat = k.seat;
      sound = sound;
      words_are = k.words_are;
      harts = k.harts;
      code_words = k.code_words;
      small = k.small;
      fits = λ j u here. ⊎_elim
          (λ (t : (j ≡ id) × (hart_view v p ≡ u)). subst (λ (z : ℕ × View). FitsView plan (with_hart k.whole hv.number p) k.keeper k.seat z.0 z.1) (λ i. (sym t.0 i, t.1 i)) now)
          (λ (t : (j ≢ id) × At views j u). let old = k.fits j u t.1 in others_fit k.whole hv.number p k.keeper k.seat id j t.0 mine.0 u.role old)
          (at_set views id j (hart_view v p) u here);
    }

module _ (plan : Plan) where
  -- what a hart's load of a word may add to its pass: the law of its step function
  abbrev pub Law : ℕ → (ℕ → Item) → (ℕ → Type 0) → Type 0
  Law word item fact = (x : Whole) (h : ℕ) (p : HartPart) (w : ℕ) → Sound (meaning_of plan) x → length x.announced ≡ plan.harts → length x.code ≡ plan.code_words → ((i n : ℕ) → At x.code i n → n < 4294967296) → IsActive x h p w
      → fact (get_or (layout x) word 0) × Sound (meaning_of plan) (with_hart x h (with_item p (item (get_or (layout x) word 0))))

  cell_law : (symbol : ℕ) → symbol < (functions_of plan) → Law (1 + symbol) (λ n. Held ((1 + symbol) - 1) n) (λ n. Unit {0})
  cell_law symbol small x h p w sound harts code_words low active =
      let inside : symbol < length x.cells = subst (λ (n : ℕ). symbol < n) (sym sound.book.functions) small in
      let e : (1 + symbol) - 1 ≡ symbol = omega arith in (
        tt,
        subst (λ (k : ℕ). Sound (meaning_of plan) (with_hart x h (with_item p (Held k (get_or (layout x) (1 + symbol) 0))))) (sym e)
            (load_cell_sound (meaning_of plan) x h p w symbol (get_or (layout x) (1 + symbol) 0) sound active (cell_at x symbol inside)),
      )

  abbrev pub code_word : ℕ → ℕ
  code_word place = 1 + (functions_of plan) + plan.harts + place

  code_law : (place : ℕ) → place < plan.code_words → Law (code_word place) (λ n. Saw (address_of (code_word place - (1 + (functions_of plan) + plan.harts))) n) (λ n. n < 4294967296)
  code_law place small x h p w sound harts code_words low active =
      let inside : place < length x.code = subst (λ (n : ℕ). place < n) (sym code_words) small in
      let e : code_word place - (1 + (functions_of plan) + plan.harts) ≡ place = omega arith in
      let there : 1 + length x.cells + length x.announced + place ≡ code_word place = (λ i. 1 + sound.book.functions i + harts i + place) in
      let at : At x.code place (get_or (layout x) (code_word place) 0) = subst (λ (n : ℕ). At x.code place (get_or (layout x) n 0)) there (code_at x place inside) in (
        low place (get_or (layout x) (code_word place) 0) at,
        subst (λ (k : ℕ). Sound (meaning_of plan) (with_hart x h (with_item p (Saw (address_of k) (get_or (layout x) (code_word place) 0))))) (sym e)
            (load_word_sound (meaning_of plan) x h p w place (get_or (layout x) (code_word place) 0) sound active at),
      )

module _ {S : Type 0} (plan : Plan) where
  abbrev Rule : State S View → Type 0
  Rule s = Kept plan s.words s.views

  loads_in : (slots id word : ℕ) (me : Me S View) (item : ℕ → Item) (fact : ℕ → Type 0) (hv : HartView) → me.1 ≡ [] → me.0.role ≡ Hart hv → 0 < hv.word → Law plan word item fact
      → Allows Rule slots id me word (λ n. n) (λ n w. fact n × (w.0 ≡ hart_view me.0 (with_item (part_of me.0) (item n))) × (w.1 ≡ []))
  loads_in slots id word me item fact hv empty is begun law s k homes at fits64 =
      let x = k.whole in
      let mine = subst (λ (r : Role). Fits x k.keeper k.seat id r) is (k.fits id me.0 at) in
      let found : ℕ = get_or s.words word 0 in
      let part : HartPart = with_item hv.part (item found) in
      let given = law x hv.number hv.part hv.word k.sound k.harts k.code_words k.small (mine.1, mine.2, begun) in
      let given' = subst (λ (ws : List ℕ). fact (get_or ws word 0) × Sound (meaning_of plan) (with_hart x hv.number (with_item hv.part (item (get_or ws word 0))))) (sym k.words_are) given in
      let now : hart_view me.0 part ≡ hart_view me.0 (with_item (part_of me.0) (item found)) = ap (λ (z : HartPart). hart_view me.0 (with_item z (item found))) (ap part_in (sym is)) in (
        hart_view me.0 part,
        keeps,
        tt,
        subst (λ (ws : List ℕ). Kept plan ws (set s.views id (hart_view me.0 part))) (sym (set_same s.words word)) (hart_keeps plan s.words s.views id me.0 hv part k at is given'.1),
        (given'.0, now, empty),
      )

  begun_cases : (slots id word : ℕ) (me : Me S View) (item : ℕ → Item) (fact : ℕ → Type 0) → me.1 ≡ [] → (r : Role) → me.0.role ≡ r → Begun r → Law plan word item fact
      → Allows Rule slots id me word (λ n. n) (λ n w. fact n × (w.0 ≡ hart_view me.0 (with_item (part_of me.0) (item n))) × (w.1 ≡ []))
  begun_cases slots id word me item fact empty (Hart hv) is begun law = loads_in slots id word me item fact hv empty is begun law
  begun_cases slots id word me item fact empty (Keeper book) is begun law = absurd begun
  begun_cases slots id word me item fact empty Spent is begun law = absurd begun

  pub loads_cell : (slots id symbol : ℕ) (me : Me S View) → me.1 ≡ [] → IsBegun me.0 → symbol < (functions_of plan)
      → Allows Rule slots id me (1 + symbol) (λ n. n) (λ n w. Unit {0} × cell_loaded (1 + symbol) me.0 n w.0 × (w.1 ≡ []))
  loads_cell slots id symbol me empty begun small = begun_cases slots id (1 + symbol) me (λ n. Held ((1 + symbol) - 1) n) (λ n. Unit {0}) empty me.0.role refl begun (cell_law plan symbol small)

  pub loads_word : (slots id place : ℕ) (me : Me S View) → me.1 ≡ [] → me.0.plan ≡ plan → IsBegun me.0 → place < plan.code_words
      → Allows Rule slots id me (code_word plan place) (λ n. n) (λ n w. (n < 4294967296) × word_loaded (code_word plan place) me.0 n w.0 × (w.1 ≡ []))
  loads_word slots id place me empty same begun small =
      let law = subst (λ (q : Plan). Law plan (code_word plan place) (λ n. Saw (address_of (code_word plan place - (1 + functions_of q + q.harts))) n) (λ n. n < 4294967296)) (sym same) (code_law plan place small) in
      begun_cases slots id (code_word plan place) me (λ n. Saw (address_of (code_word plan place - (1 + (functions_of me.0.plan) + me.0.plan.harts))) n) (λ n. n < 4294967296) empty me.0.role refl begun law

  pub loads_word_at : (slots id word place : ℕ) (me : Me S View) → word ≡ code_word plan place → me.1 ≡ [] → me.0.plan ≡ plan → IsBegun me.0 → place < plan.code_words
      → Allows Rule slots id me word (λ n. n) (λ n w. (n < 4294967296) × word_loaded word me.0 n w.0 × (w.1 ≡ []))
  loads_word_at slots id word place me is empty same begun small =
      subst (λ (k : ℕ). Allows Rule slots id me k (λ n. n) (λ n w. (n < 4294967296) × word_loaded k me.0 n w.0 × (w.1 ≡ []))) (sym is) (loads_word slots id place me empty same begun small)
