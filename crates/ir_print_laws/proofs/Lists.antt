-- Printed lists are read item by item, where the text of an item may depend on those before it.
use Rattle.std.proofs.Common.{◌≡◌, ℕ, suc, ◌+◌, Bool, true, List, [], ◌∷◌, ◌++◌, length, refl, sym, ap, subst, arith, append_assoc, append-nil}
use Rattle.std.specs.List.{flat_map}
use Rattle.ir_text.specs.Form.{Form}
use Rattle.ir_print_laws.proofs.Segments.{Seg, one_turn, no_turn, then_turns}
use Rattle.ir_print_laws.specs.Written.{Each}

-- the texts of items one behind the other
abbrev pub texts : {I X : Type 0} → (I → X → List ℕ) → (I → X → I) → I → List X → List ℕ
texts text next i [] = []
texts text next i (x ∷ xs) = text i x ++ texts text next (next i x) xs

-- items and what was read of them
abbrev pub AreRead : {I X Y : Type 0} → (I → X → Y → Type 0) → (I → X → I) → I → List X → List Y → Type 0
AreRead Is next i [] [] = Unit {0}
AreRead Is next i [] (y ∷ ys) = ⊥
AreRead Is next i (x ∷ xs) [] = ⊥
AreRead Is next i (x ∷ xs) (y ∷ ys) = Is i x y × AreRead Is next (next i x) xs ys

pub record ItemsAreRead {I X Y S : Type 0} (turn : S → Form (Bool × S)) (state : List Y → S) (Is : I → X → Y → Type 0) (next : I → X → I) (i : I) (xs : List X) (before : List Y) (t r : List ℕ) : Type 0 where
  pub items : List Y
  pub seg : Seg turn (length xs) (state before) t (state (before ++ items)) r
  pub trees : AreRead Is next i xs items

module _ {I X Y S : Type 0} (turn : S → Form (Bool × S)) (state : List Y → S) (text : I → X → List ℕ) (next : I → X → I) (Is : I → X → Y → Type 0) (Has : X → Type 0) (Behind : List ℕ → Type 0)
    (starts : (i : I) (x : X) (r : List ℕ) → Has x → Behind r → Behind (text i x ++ r))
    (step : (i : I) (x : X) (before : List Y) (r : List ℕ) → Has x → Behind r → (y : Y) × (turn (state before)).Is (text i x ++ r) (true, state (before ++ y ∷ [])) r × Is i x y) where
  pub behind : (i : I) (xs : List X) (r : List ℕ) → Each Has xs → Behind r → Behind (texts text next i xs ++ r)
  behind i [] r has ends = ends
  behind i (x ∷ xs) r has ends = subst Behind (sym (append_assoc (text i x) (texts text next (next i x) xs) r)) (starts i x (texts text next (next i x) xs ++ r) has.0 (behind (next i x) xs r has.1 ends))

  pub items_back : (i : I) (xs : List X) (before : List Y) (r : List ℕ) → Each Has xs → Behind r → ItemsAreRead turn state Is next i xs before (texts text next i xs ++ r) r
  items_back i [] before r has ends =
      record {
        items = [];
        seg = subst (λ (ys : List Y). Seg turn 0 (state before) r (state ys) r) (sym (append-nil before)) (no_turn turn (state before) r);
        trees = tt;
      }
  items_back i (x ∷ xs) before r has ends =
      let u = texts text next (next i x) xs ++ r in
      let one = step i x before u has.0 (behind (next i x) xs r has.1 ends) in
      let others = items_back (next i x) xs (before ++ one.0 ∷ []) r has.1 ends in
      let all = then_turns turn 1 (length xs) _ _ _ _ _ _ (one_turn turn (state before) (state (before ++ one.0 ∷ [])) (text i x ++ u) u one.1) others.seg in
      let count : 1 + length xs ≡ suc (length xs) = omega arith in
      let counted = subst (λ (n : ℕ). Seg turn n (state before) (text i x ++ u) (state ((before ++ one.0 ∷ []) ++ others.items)) r) count all in
      let placed = subst (λ (ys : List Y). Seg turn (suc (length xs)) (state before) (text i x ++ u) (state ys) r) (append_assoc before (one.0 ∷ []) others.items) counted in
      record {
        items = one.0 ∷ others.items;
        seg = subst (λ (t : List ℕ). Seg turn (suc (length xs)) (state before) t (state (before ++ one.0 ∷ others.items)) r) (sym (append_assoc (text i x) (texts text next (next i x) xs) r)) placed;
        trees = (one.2, others.trees);
      }

abbrev pub same_place : {X : Type 0} → Unit {0} → X → Unit {0}
same_place i x = tt

-- texts that don't depend on the place
pub texts_flat : {X : Type 0} (text : X → List ℕ) (xs : List X) → texts (λ (i : Unit {0}) (x : X). text x) same_place tt xs ≡ flat_map text xs
texts_flat text [] = refl
texts_flat text (x ∷ xs) = ap (λ (t : List ℕ). text x ++ t) (texts_flat text xs)

pub each_any : {X : Type 0} (xs : List X) → Each (λ (x : X). Unit {0}) xs
each_any [] = tt
each_any (x ∷ xs) = (tt, each_any xs)
