-- The keeper's raising of the epoch, looking at harts and clearing of headers keep the rule, by the laws of the step functions.
use Rattle.std.proofs.Common.{◌≡◌, ℕ, ◌+◌, ◌-◌, ◌%◌, ◌^◌, ◌<◌, ◌≤◌, List, [], ◌∷◌, length, get_or, set, sym, refl, ap, ◌∙◌, subst, arith, length-set}
use Rattle.atomic_table.specs.Table.{State, Me, keeps, Allows}
use Rattle.code_epochs.specs.declared.state.Status.{Status}
use Rattle.code_epochs.specs.declared.state.Status.TheVariants.{Linked, Unlinked, Pending, GivenUp}
use Rattle.code_epochs.specs.declared.state.VersionState.{VersionState}
use Rattle.code_epochs.specs.declared.parts.Look.{Look}
use Rattle.code_epochs.specs.declared.parts.Book.{Book}
use Rattle.code_epochs.specs.Sound.{At, Has, Sound, HasPassed, start_of, left, count_left}
use Rattle.code_epochs.specs.Steps.{restatus, with_look, marked_by, AllPassed}
use Rattle.code_epochs.proofs.Lists.{at_same, at_some}
use Rattle.code_epochs.proofs.Epochs.{raise_epoch_sound, look_sound, clear_header_sound}
use Rattle.code_epochs.proofs.Marked.{marks_are}
use Rattle.redirect_cells.specs.declared.view.Plan.{Plan}
use Rattle.redirect_cells.specs.declared.view.Role.{Role}
use Rattle.redirect_cells.specs.declared.view.Role.TheVariants.{Keeper}
use Rattle.redirect_cells.specs.declared.view.View.{View}
use Rattle.redirect_cells.specs.Kept.{meaning_of, functions_of, layout, Fits, Kept, IsKeeper, book_of, keeper_view, code_word, epoch_raised_by, hart_looked_at, found_gone, version_given_up}
use Rattle.redirect_cells.proofs.Words.{set_same, hart_at}
use Rattle.redirect_cells.proofs.Stores.{keeper_is, rewritten, keeper_keeps, set_code, small_set}

few_left : (s : Status) → left s ≤ 1
few_left Linked = omega arith
few_left Unlinked = omega arith
few_left (Pending tag passed) = omega arith
few_left GivenUp = omega arith

count_small : (vs : List VersionState) → count_left vs ≤ length vs
count_small [] = omega arith
count_small (v ∷ vs) = let a = count_small vs in let b = few_left v.status in omega arith

wraps : (n k : ℕ) → n + k < 2 ^ 64 → (n + k) % 2 ^ 64 ≡ n + k
wraps n k small = omega arith

module _ {S : Type 0} (plan : Plan) where
  abbrev Rule : State S View → Type 0
  Rule s = Kept plan s.words s.views

  pub raises_epoch : (slots id i : ℕ) (me : Me S View) (v : VersionState) → me.1 ≡ [] → IsKeeper me.0 → At (book_of me.0).versions i v → v.status ≡ Unlinked
      → Allows Rule slots id me 0 (λ n. (n + 1) % 2 ^ 64) (λ n w. (n + 1 < 18446744073709551616) × epoch_raised_by i me.0 n w.0 × (w.1 ≡ []))
  raises_epoch slots id i me v empty keeper at_version unlinked s k homes at fits64 =
      let x = k.whole in
      let book = book_of me.0 in
      let role : me.0.role ≡ Keeper book = keeper_is me.0.role keeper in
      let mine = subst (λ (r : Role). Fits x k.keeper k.seat id r) role (k.fits id me.0 at) in
      let same : book ≡ x.book = mine.1 in
      let found : ℕ = get_or s.words 0 0 in
      let found_is : x.epoch ≡ found = sym (ap (λ (l : List ℕ). get_or l 0 0) k.words_are) in
      let there : At x.book.versions i v = subst (λ (b : Book). At b.versions i v) same at_version in
      let sound = raise_epoch_sound (meaning_of plan) x i v k.sound (there, unlinked) in
      let now : Book = restatus book i v (Pending (found + 1) 0) in
      let sound' : Sound (meaning_of plan) (rewritten x (found + 1) x.cells x.code now) = subst (λ (z : ℕ × Book). Sound (meaning_of plan) (rewritten x (z.0 + 1) x.cells x.code (restatus z.1 i v (Pending (z.0 + 1) 0)))) (λ j. (found_is j, sym same j)) sound in
      let few = k.sound.book.count in
      let counted = k.sound.book.epoch_is in
      let low = count_small x.book.versions in
      let small : found + 1 < 2 ^ 64 = let e : x.epoch ≡ found = found_is in omega arith in
      let next : (found + 1) % 2 ^ 64 ≡ found + 1 = wraps found 1 small in
      let words : set s.words 0 ((found + 1) % 2 ^ 64) ≡ layout (rewritten x (found + 1) x.cells x.code now) = (λ j. set (k.words_are j) 0 (next j)) in (
        keeper_view me.0 now,
        keeps,
        tt,
        keeper_keeps plan s.words (set s.words 0 ((found + 1) % 2 ^ 64)) s.views id me.0 (found + 1) x.cells x.code now k at (role ∙ ap Keeper same) mine.0 sound' words (ap (λ (b : Book). b.gone) same) refl k.small,
        (small, (λ u here. ap (λ (y : VersionState). keeper_view me.0 (restatus book i y (Pending (found + 1) 0))) (at_same book.versions i v u at_version here)), empty),
      )

  pub clears_header : (slots id i word tag passed : ℕ) (me : Me S View) (v : VersionState) → me.1 ≡ [] → IsKeeper me.0 → At (book_of me.0).versions i v → v.status ≡ Pending tag passed → ((h : ℕ) → h < plan.harts → HasPassed passed h) → word ≡ code_word plan (start_of v.base)
      → Allows Rule slots id me word (λ _. 0) (λ _ w. version_given_up i me.0 w.0 × (w.1 ≡ []))
  clears_header slots id i word tag passed me v empty keeper at_version pending all at_word s k homes at fits64 =
      let x = k.whole in
      let book = book_of me.0 in
      let role : me.0.role ≡ Keeper book = keeper_is me.0.role keeper in
      let mine = subst (λ (r : Role). Fits x k.keeper k.seat id r) role (k.fits id me.0 at) in
      let same : book ≡ x.book = mine.1 in
      let place : ℕ = start_of v.base in
      let there : At x.book.versions i v = subst (λ (b : Book). At b.versions i v) same at_version in
      let all' : AllPassed x passed = λ h low. all h (subst (λ (n : ℕ). h < n) k.harts low) in
      let sound = clear_header_sound (meaning_of plan) x i v tag passed k.sound (there, pending) all' in
      let now : Book = restatus book i v GivenUp in
      let sound' : Sound (meaning_of plan) (rewritten x x.epoch x.cells (set x.code place 0) now) = subst (λ (b : Book). Sound (meaning_of plan) (rewritten x x.epoch x.cells (set x.code place 0) (restatus b i v GivenUp))) (sym same) sound in
      let words : set s.words word 0 ≡ layout (rewritten x x.epoch x.cells (set x.code place 0) now) = (λ j. set (k.words_are j) (at_word j) 0) ∙ set_code plan x place 0 now k.sound.book.functions k.harts in (
        keeper_view me.0 now,
        keeps,
        tt,
        keeper_keeps plan s.words (set s.words word 0) s.views id me.0 x.epoch x.cells (set x.code place 0) now k at (role ∙ ap Keeper same) mine.0 sound' words (ap (λ (b : Book). b.gone) same) (length-set x.code place 0) (small_set x.code place 0 (omega arith) k.small),
        (λ u here. ap (λ (y : VersionState). keeper_view me.0 (restatus book i y GivenUp)) (at_same book.versions i v u at_version here), empty),
      )

  pub looks_at : (slots id i word hart tag passed : ℕ) (me : Me S View) (v : VersionState) → me.1 ≡ [] → me.0.plan ≡ plan → IsKeeper me.0 → At (book_of me.0).versions i v → v.status ≡ Pending tag passed → hart < plan.harts → word ≡ 1 + (functions_of plan) + hart
      → Allows Rule slots id me word (λ n. n) (λ n w. hart_looked_at i word me.0 n w.0 × found_gone word me.0 n × (w.1 ≡ []))
  looks_at slots id i word hart tag passed me v empty is_plan keeper at_version pending low at_word s k homes at fits64 =
      let x = k.whole in
      let book = book_of me.0 in
      let role : me.0.role ≡ Keeper book = keeper_is me.0.role keeper in
      let mine = subst (λ (r : Role). Fits x k.keeper k.seat id r) role (k.fits id me.0 at) in
      let same : book ≡ x.book = mine.1 in
      let found : ℕ = get_or s.words word 0 in
      let there : At x.book.versions i v = subst (λ (b : Book). At b.versions i v) same at_version in
      let inside : hart < length x.announced = subst (λ (n : ℕ). hart < n) (sym k.harts) low in
      let word_is : At x.announced hart found = subst (λ (ws : List ℕ). At x.announced hart (get_or ws word 0)) (sym k.words_are) (subst (λ (n : ℕ). At x.announced hart (get_or (layout x) n 0)) ((λ j. 1 + k.sound.book.functions j + hart) ∙ sym at_word) (hart_at x hart inside)) in
      let small = k.sound.places.1 in
      let marked : ℕ = marked_by tag passed hart found in
      let sound = look_sound (meaning_of plan) x i v tag passed marked hart found k.sound (there, pending) word_is (marks_are tag passed hart found (omega arith)) in
      let look : Look = record { version = i; hart = hart; found = found } in
      let now : Book = with_look (restatus book i v (Pending tag marked)) look in
      let sound' : Sound (meaning_of plan) (rewritten x x.epoch x.cells x.code now) = subst (λ (b : Book). Sound (meaning_of plan) (rewritten x x.epoch x.cells x.code (with_look (restatus b i v (Pending tag marked)) look))) (sym same) sound in
      let words : set s.words word found ≡ layout (rewritten x x.epoch x.cells x.code now) = set_same s.words word ∙ k.words_are in
      let hart_is : word - (1 + (functions_of me.0.plan)) ≡ hart = let e : (functions_of me.0.plan) ≡ (functions_of plan) = ap (λ (q : Plan). functions_of q) is_plan in omega arith in (
        keeper_view me.0 now,
        keeps,
        tt,
        keeper_keeps plan s.words (set s.words word found) s.views id me.0 x.epoch x.cells x.code now k at (role ∙ ap Keeper same) mine.0 sound' words (ap (λ (b : Book). b.gone) same) refl k.small,
        (
          λ u t q here status.
              let v_is : v ≡ u = at_same book.versions i v u at_version here in
              let both : Pending tag passed ≡ Pending t q = sym pending ∙ ap (λ (y : VersionState). y.status) v_is ∙ status in
              let tags : tag ≡ t = cc in
              let marks : passed ≡ q = cc in
              (λ j. keeper_view me.0 (with_look (restatus book i (v_is j) (Pending (tags j) (marked_by (tags j) (marks j) (sym hart_is j) found))) record { version = i; hart = sym hart_is j; found = found })),
          λ gone.
              let gone' : Has x.book.gone hart = subst (λ (z : Book × ℕ). Has z.0.gone z.1) (λ j. (same j, hart_is j)) gone in
              let part = at_some x.harts hart (subst (λ (n : ℕ). hart < n) refl (k.sound.book.gone hart gone')) in
              (k.sound.harts hart part.0 found part.1 word_is).gone gone',
          empty,
        ),
      )
