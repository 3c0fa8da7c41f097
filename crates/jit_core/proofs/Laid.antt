-- The keeper's steps for a version that is being stored.
use Rattle.std.proofs.Common.{◌≡◌, ℕ, zero, suc, ◌+◌, ◌-◌, ◌<◌, ◌≤◌, List, length, vec_len, vec_capacity, get_or, set, Some, Option, refl, sym, ap, subst, ◌∙◌, inr, ⊎_elim, arith}
use Rattle.std.proofs.lemmas.List.{length-set}
use Rattle.ir_meaning.specs.Plays.{Meaning}
use Rattle.code_epochs.specs.declared.state.CodeState.{CodeState}
use Rattle.code_epochs.specs.declared.parts.Draft.{Draft}
use Rattle.code_epochs.specs.Sound.{At, Whole, Sound, IsStateOf, DraftFits, start_of}
use Rattle.code_epochs.specs.Steps.{CanBegin, StoresHeader, StoresNext, SwapsCell, IsComplete, draft_begun, word_stored, cell_swapped}
use Rattle.code_epochs.proofs.Lists.{at_get}
use Rattle.jit_core.specs.declared.laying.Laying.{Laying}
use Rattle.jit_core.specs.Events.{KeeperStep, lay_draft, stores_header, stores_next, swaps_cell}
use Rattle.jit_core.specs.Laying.{LaysAs, Links, IsFrame, CanLay, draft_from}

-- one more word is stored of it
abbrev pub one_further : Laying → Laying
one_further d = record { version = d.version; base = d.base; stored = d.stored + 1 }

pub header_stores : (old new : CodeState) (d : Laying) → d.stored ≡ 0 → StoresHeader old new d.version d.base
    → (m : Meaning) (x : Whole) → Sound m x → IsStateOf old x → CanBegin m x d.version.symbol d.base d.version.words
    → (y : Whole) × KeeperStep m x lay_draft y × Sound m y × IsStateOf new y × LaysAs m y (one_further d)
    × IsFrame x y × (y.book.versions ≡ x.book.versions)
header_stores old new d none stores m x sound state begins =
    let both = stores m x state sound begins in
    let y = draft_begun x d.version.symbol d.version.level d.base d.version.words in
    let one : 1 ≡ d.stored + 1 = omega arith in (
      y,
      stores_header d.version d.base begins,
      both.0,
      both.1,
      subst (λ (n : ℕ). LaysAs m y (record { version = d.version; base = d.base; stored = n })) one (inr (omega arith, refl)),
      record { harts = refl; announced = refl; code = length-set x.code (start_of d.base) (length x.book.versions + 1); gone = refl; looks = refl },
      refl,
    )

pub word_stores : (old new : CodeState) (d : Laying) (index word : ℕ) → 0 < d.stored → d.stored ≤ length d.version.words → index ≡ start_of d.base + d.stored
    → word ≡ get_or d.version.words (index - start_of d.base - 1) 0 → StoresNext old new d.version d.base index word
    → (m : Meaning) (x : Whole) → Sound m x → IsStateOf old x → x.book.draft ≡ Some (draft_from d)
    → (y : Whole) × KeeperStep m x lay_draft y × Sound m y × IsStateOf new y × LaysAs m y (one_further d)
    × IsFrame x y × (y.book.versions ≡ x.book.versions)
word_stores old new d index word begun more at is stores m x sound state draft =
    let e = draft_from d in
    let both = stores m x e state sound draft (refl, refl, refl, refl) at in
    let y = word_stored x e word in
    let place : index - start_of d.base - 1 ≡ d.stored - 1 = omega arith in
    let low : d.stored - 1 < length d.version.words = omega arith in
    let found : At d.version.words (d.stored - 1) word = subst (λ (w : ℕ). At d.version.words (d.stored - 1) w) (sym (is ∙ ap (λ (n : ℕ). get_or d.version.words n 0) place)) (at_get d.version.words (d.stored - 1) low) in (
      y,
      stores_next e word (draft, found),
      both.0,
      both.1,
      inr (omega arith, refl),
      record { harts = refl; announced = refl; code = length-set x.code (start_of d.base + d.stored) word; gone = refl; looks = refl },
      refl,
    )

-- a draft that is stored whole has as many words stored as it has, and its header
stored-most : (m : Meaning) (x : Whole) (d : Draft) → Sound m x → x.book.draft ≡ Some d → d.stored ≤ length d.words + 1
stored-most m x d sound draft = (subst (λ (o : Option Draft). DraftFits m (length x.cells) x.code x.book.versions o) draft sound.book.draft).stored.1

pub links : (old new : CodeState) (d : Laying) → length d.version.words < d.stored → SwapsCell old new d.version d.base → Links old new d
links old new d complete swaps m x sound state lays =
    ⊎_elim
    (λ (t : (d.stored ≡ 0) × CanBegin m x d.version.symbol d.base d.version.words). absurd (let none = t.0 in omega arith))
    (λ (t : (0 < d.stored) × (x.book.draft ≡ Some (draft_from d))).
    let e = draft_from d in
    let most = stored-most m x e sound t.1 in
    let whole : IsComplete x e = (t.1, (let same : d.stored ≡ length d.version.words + 1 = omega arith in same)) in
    let both = swaps m x e state sound whole (refl, refl, refl, refl) in
    (cell_swapped x e, swaps_cell e whole, both.0, both.1, refl, record { harts = refl; announced = refl; code = refl; gone = refl; looks = refl }, refl))
    lays

-- a word that is stored leaves the code words as many
pub code_size : (start stored : ℕ) (old new : List ℕ) (w v : ℕ) → (start + stored ≡ start → new ≡ set old (start + stored) w) → (start < start + stored → new ≡ set old (start + stored) v) → length new ≡ length old
code_size start zero old new w v first later = ap length (first (omega arith)) ∙ length-set old (start + 0) w
code_size start (suc n) old new w v first later = ap length (later (omega arith)) ∙ length-set old (start + suc n) v

pub stays_laid : (old new : CodeState) (d : Laying) → CanLay d old → length new.code.items ≡ length old.code.items → new.cells ≡ old.cells → new.versions ≡ old.versions → CanLay (one_further d) new
stays_laid old new d can code cells versions = record {
  base = can.base;
  range = subst (λ (n : ℕ). start_of d.base + length d.version.words < n) (sym code) can.range;
  code = subst (λ (n : ℕ). n ≤ 4194304) (sym code) can.code;
  symbol = subst (λ v. d.version.symbol < length v.items) (sym cells) can.symbol;
  room = subst (λ v. vec_len v < vec_capacity v) (sym versions) can.room;
  count = subst (λ v. length v.items < 1048576) (sym versions) can.count;
}
