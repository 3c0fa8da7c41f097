-- A pass that is backed by the keeper's versions is one over good versions that stand apart.
use Rattle.std.proofs.Common.{◌≡◌, ℕ, zero, suc, ◌+◌, ◌-◌, ◌*◌, ◌/◌, ◌%◌, ◌<◌, ◌≤◌, ◌≢◌, ◌⊎◌, List, [], ◌∷◌, map, length, get_or, Some, Contains, slice_get, sym, refl, ap, ◌∙◌, subst, ⊎_elim, arith}
use mathlib.Core.Option.{some, some-injective, some-ne-none}
use Rattle.ir_meaning.specs.Plays.{Meaning}
use Rattle.rv_play.specs.Good.{Good, IsBase as MayStand}
use Rattle.rv_play.specs.Link.{Agrees, Backs, AreApart, Backed as BacksAll}
use Rattle.rv_play.specs.Ending as ending
use Rattle.code_epochs.specs.declared.state.VersionState.{VersionState}
use Rattle.code_epochs.specs.declared.parts.Item.{Item}
use Rattle.code_epochs.specs.declared.parts.Item.TheVariants.{Held, Saw}
use Rattle.code_epochs.specs.declared.parts.Book.{Book}
use Rattle.code_epochs.specs.Sound.{At, Backed, IsBase, Apart, start_of}
use Rattle.code_epochs.specs.Passes.{item_of, items_of}
use Rattle.code_epochs.proofs.Lists.{at_same}

at_of_get : (l : List ℕ) (i a : ℕ) → slice_get l i ≡ Some a → At l i a
at_of_get [] i a e = absurd (cc)
at_of_get (x ∷ xs) zero a e = (let same : x ≡ a = cc in ap some same)
at_of_get (x ∷ xs) (suc i) a e = at_of_get xs i a e

text_is : (l : List (List ℕ)) (i : ℕ) (t : List ℕ) → At l i t → get_or l i [] ≡ t
text_is [] i t e = absurd (some-ne-none t (sym e))
text_is (x ∷ xs) zero t e = some-injective x t e
text_is (x ∷ xs) (suc i) t e = text_is xs i t e

agrees : (base : ℕ) (words : List ℕ) (pass : List Item) → ((r a w j u : ℕ) → At pass r (Saw a w) → a ≡ base + 4 * j → At words j u → w ≡ u) → Agrees base words (items_of pass)
agrees base words [] saw = tt
agrees base words (Held k b ∷ pass) saw = agrees base words pass (λ r a w j u at. saw (suc r) a w j u at)
agrees base words (Saw a w ∷ pass) saw =
    ((λ j u place at. sym (saw 0 a w j u refl place (at_of_get words j u at))), agrees base words pass (λ r a w j u at. saw (suc r) a w j u at))

-- what is known of a base that is held
abbrev Stands : Meaning → ℕ → (ℕ → List ℕ) → ℕ → ℕ → Type 0
Stands m n words k b = Good m k (words b) × MayStand (words b) b × (b + 4 * length (words b) ≤ 16777216 + 4 * n)

backs : (m : Meaning) (n : ℕ) (words : ℕ → List ℕ) (pass : List Item)
    → ((q k b : ℕ) → At pass q (Held k b) → Stands m n words k b)
    → ((q r k b a w j u : ℕ) → At pass q (Held k b) → At pass r (Saw a w) → q < r → a ≡ b + 4 * j → At (words b) j u → w ≡ u)
    → Backs m n words (items_of pass)
backs m n words [] held saw = tt
backs m n words (Held k b ∷ pass) held saw =
    let here = held 0 k b refl in (
      (here.0, here.1, here.2, agrees b (words b) pass (λ r a w j u at. saw 0 (suc r) k b a w j u refl at (omega arith))),
      backs m n words pass (λ q k b at. held (suc q) k b at) (λ q r k b a w j u at there before. saw (suc q) (suc r) k b a w j u at there (omega arith)),
    )
backs m n words (Saw a w ∷ pass) held saw =
    backs m n words pass (λ q k b at. held (suc q) k b at) (λ q r k b a w j u at there before. saw (suc q) (suc r) k b a w j u at there (omega arith))

found : (pass : List Item) (q k b : ℕ) → q < length (items_of pass) → get_or (items_of pass) q (ending.Held k b) ≡ ending.Held k b → At pass q (Held k b)
found [] q k b low e = absurd (omega arith)
found (Held l c ∷ pass) zero k b low e = (let symbols : l ≡ k = cc in let bases : c ≡ b = cc in (λ i. some (Held (symbols i) (bases i))))
found (Saw a w ∷ pass) zero k b low e = absurd (cc)
found (x ∷ pass) (suc q) k b low e = found pass q k b (omega arith) e

contained : (pass : List Item) (k b : ℕ) → Contains (items_of pass) (ending.Held k b) → (q : ℕ) × At pass q (Held k b)
contained pass k b c = (c.0, found pass c.0 k b c.1 c.2)

may_stand : (n b words : ℕ) (t : List ℕ) → n ≤ 4194304 → IsBase n b words → length t ≡ words → MayStand t b × (b + 4 * length t ≤ 16777216 + 4 * n)
may_stand n b words t few base size =
    let start : ℕ = start_of b in
    let is : b ≡ 16777220 + 4 * start = base.0 in
    let inside : start + words < n = base.1 in
    (record { aligned = omega arith; low = omega arith; high = omega arith }, omega arith)

pub good_backed : (m : Meaning) (n : ℕ) (book : Book) (pass : List Item) → n ≤ 4194304 → Backed m n book pass → BacksAll m n (items_of pass)
good_backed m n book pass few s =
    let words : ℕ → List ℕ = λ b. get_or book.texts (s.pick b) [] in
    let text : (b : ℕ) (t : List ℕ) → At book.texts (s.pick b) t → words b ≡ t = λ b t at. text_is book.texts (s.pick b) t at in (
      few,
      words,
      backs m n words pass
          (λ q k b here.
          let o = s.held q k b here in
          let e : words b ≡ o.1 = text b o.1 o.3 in
          let ok = may_stand n b o.0.words o.1 few o.8 o.6 in
          subst (λ (t : List ℕ). Good m k t × MayStand t b × (b + 4 * length t ≤ 16777216 + 4 * n)) (sym e) (o.7, ok.0, ok.1))
          (λ q r k b a w j u here there before place at.
          let o = s.held q k b here in
          s.saw q r k b a w j u o.1 here there before o.3 place (subst (λ (t : List ℕ). At t j u) (text b o.1 o.3) at)),
      record {
        one_symbol = λ k l b here there.
            let q = contained pass k b here in
            let r = contained pass l b there in
            let o = s.held q.0 k b q.1 in
            let z = s.held r.0 l b r.1 in
            sym o.4 ∙ ap (λ (v : VersionState). v.symbol) (at_same book.versions (s.pick b) o.0 z.0 o.2 z.2) ∙ z.4;
        disjoint = λ k l b c here there less.
            let q = contained pass k b here in
            let r = contained pass l c there in
            let o = s.held q.0 k b q.1 in
            let z = s.held r.0 l c r.1 in
            let size : length (words b) ≡ o.0.words = ap length (text b o.1 o.3) ∙ o.6 in
            before b c o.0.words z.0.words (length (words b)) less o.8.0 z.8.0 size (s.apart q.0 r.0 k l b c o.0 z.0 q.1 r.1 (λ e. omega arith) o.2 z.2);
      },
    )
  where
    before : (b c v w size : ℕ) → b < c → b ≡ 16777220 + 4 * start_of b → c ≡ 16777220 + 4 * start_of c → size ≡ v → Apart b v c w → b + 4 * size ≤ c
    before b c v w size less at_b at_c is apart =
        let x : ℕ = start_of b in
        let y : ℕ = start_of c in
        let at_x : b ≡ 16777220 + 4 * x = at_b in
        let at_y : c ≡ 16777220 + 4 * y = at_c in
        ⊎_elim (λ (t : x + v < y). omega arith) (λ (t : y + w < x). absurd (omega arith)) apart
