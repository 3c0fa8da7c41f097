-- A phi names once each block that jumps to its block, and no other.
use Rattle.std.proofs.Common.{◌≡◌, refl, sym, ap, ◌∙◌, ℕ, zero, suc, ◌+◌, ◌≤◌, Bool, true, false, cond, List, [], ◌∷◌, map, arith}
use Rattle.std.specs.Prelude.{◌==◌, if◌then◌else◌}
use Rattle.std.proofs.lemmas.List.Sums.{sum_by-cons}
use Rattle.ir_core.specs.declared.program.Function.{Function}
use Rattle.ir_core.specs.declared.program.Global.{Global}
use Rattle.ir_verify.proofs.Lists.{Every}
use Rattle.gmir.specs.Formed.{times}
use Rattle.generic_code.specs.Edges.{Edge, no_phis}
use Rattle.generic_code.specs.Whole.{edges_to}
use Rattle.generic_laws.proofs.Apart.{Apart, Other}
use Rattle.generic_laws.proofs.Named.{IsIn}

times_cons : (n m : ℕ) (ms : List ℕ) → times n (m ∷ ms) ≡ cond (m == n) 1 0 + times n ms
times_cons n m ms = sum_by-cons (λ (k : ℕ). cond (k == n) 1 0) m ms

eq_true : (a b : ℕ) → a ≡ b → (a == b) ≡ true
eq_true a b e = grind arith

eq_false : (a b : ℕ) → (a ≡ b → ⊥) → (a == b) ≡ false
eq_false a b h = by_test (a == b) refl
  where
    by_test : (t : Bool) → (a == b) ≡ t → t ≡ false
    by_test false e = refl
    by_test true e = absurd (h (let same : a ≡ b = grind (arith, e) in same))

abbrev both_one : Bool → Bool → ℕ
both_one t u = cond t (cond u 1 0) 0

module _ (globals : List Global) (function : Function) where
  -- the blocks that take the edges to a block
  abbrev takers : ℕ → List Edge → List ℕ
  takers to es = map (λ (e : Edge). e.at) (edges_to globals function to es)

  taken_cons : (at to : ℕ) (e : Edge) (es : List Edge) → times at (takers to (e ∷ es)) ≡ both_one (e.to == to) (e.at == at) + times at (takers to es)
  taken_cons at to e es = by_test (e.to == to)
    where
      by_test : (t : Bool) → times at (map (λ (e : Edge). e.at) (if t then e ∷ edges_to globals function to es else edges_to globals function to es)) ≡ both_one t (e.at == at) + times at (takers to es)
      by_test true = times_cons at e.at (takers to es)
      by_test false = omega arith

  at_least : (es : List Edge) (at to : ℕ) → IsIn es at to → 1 ≤ times at (takers to es)
  at_least [] at to (j, e, get, a, t) = absurd (let bad : ⊥ = cc in bad)
  at_least (x ∷ es) at to (zero, e, get, a, t) =
      let same : x ≡ e = cc in
      let one = taken_cons at to x es in
      let to_is : (x.to == to) ≡ true = eq_true x.to to (ap (λ (z : Edge). z.to) same ∙ t) in
      let at_is : (x.at == at) ≡ true = eq_true x.at at (ap (λ (z : Edge). z.at) same ∙ a) in
      let is : both_one (x.to == to) (x.at == at) ≡ 1 = ap (λ (b : Bool). both_one b (x.at == at)) to_is ∙ ap (λ (b : Bool). both_one true b) at_is in
      omega (arith, one, is)
  at_least (x ∷ es) at to (suc j, e, get, a, t) = let ih = at_least es at to (j, e, get, a, t) in let one = taken_cons at to x es in omega (arith, ih, one)

  -- where one is there, it is among the edges
  there_in : (es : List Edge) (at to : ℕ) → 1 ≤ times at (takers to es) → IsIn es at to
  there_in [] at to h = absurd (let none : times at [] ≡ 0 = refl in let bad : ⊥ = omega (arith, h, none) in bad)
  there_in (x ∷ es) at to h = by_test (x.to == to) (x.at == at) refl refl (taken_cons at to x es) (λ l. there_in es at to l)
    where
      later : IsIn es at to → IsIn (x ∷ es) at to
      later (j, e, get, a, t) = (suc j, e, get, a, t)

      by_test : (p q : Bool) → (x.to == to) ≡ p → (x.at == at) ≡ q → times at (takers to (x ∷ es)) ≡ both_one (x.to == to) (x.at == at) + times at (takers to es) → (1 ≤ times at (takers to es) → IsIn es at to) → IsIn (x ∷ es) at to
      by_test true true e e' one more = (0, x, refl, (let a : x.at ≡ at = grind (arith, e') in a), (let t : x.to ≡ to = grind (arith, e) in t))
      by_test false q e e' one more = let is : both_one (x.to == to) (x.at == at) ≡ 0 = ap (λ (b : Bool). both_one b (x.at == at)) e in later (more (omega (arith, h, one, is)))
      by_test true false e e' one more =
          let is : both_one (x.to == to) (x.at == at) ≡ 0 = ap (λ (b : Bool). both_one b (x.at == at)) e ∙ ap (λ (b : Bool). both_one true b) e' in later (more (omega (arith, h, one, is)))

  none_other : (e : Edge) (es : List Edge) → Every (Other globals function e) es → no_phis globals function e.to ≡ false → times e.at (takers e.to es) ≡ 0
  none_other e [] h p = refl
  none_other e (x ∷ es) h p = by_test (x.to == e.to) refl (taken_cons e.at e.to x es) (none_other e es h.1 p)
    where
      by_test : (t : Bool) → (x.to == e.to) ≡ t → times e.at (takers e.to (x ∷ es)) ≡ both_one (x.to == e.to) (x.at == e.at) + times e.at (takers e.to es) → times e.at (takers e.to es) ≡ 0 → times e.at (takers e.to (x ∷ es)) ≡ 0
      by_test false t one ih = let is : both_one (x.to == e.to) (x.at == e.at) ≡ 0 = ap (λ (b : Bool). both_one b (x.at == e.at)) t in omega (arith, one, is, ih)
      by_test true t one ih =
          let same : x.to ≡ e.to = grind (arith, t) in
          let apart = eq_false x.at e.at (λ s. h.0 p (ap (no_phis globals function) same ∙ p) (sym s)) in
          let is : both_one (x.to == e.to) (x.at == e.at) ≡ 0 = ap (λ (b : Bool). both_one b (x.at == e.at)) t ∙ ap (λ (b : Bool). both_one true b) apart in
          omega (arith, one, is, ih)

  at_most : (es : List Edge) → Apart globals function es → (at to : ℕ) → no_phis globals function to ≡ false → times at (takers to es) ≤ 1
  at_most [] apart at to p = omega arith
  at_most (x ∷ es) apart at to p = by_test (x.to == to) (x.at == at) refl refl (taken_cons at to x es) (at_most es apart.1 at to p)
    where
      by_test : (a b : Bool) → (x.to == to) ≡ a → (x.at == at) ≡ b → times at (takers to (x ∷ es)) ≡ both_one (x.to == to) (x.at == at) + times at (takers to es) → times at (takers to es) ≤ 1 → times at (takers to (x ∷ es)) ≤ 1
      by_test false b e e' one ih = let is : both_one (x.to == to) (x.at == at) ≡ 0 = ap (λ (b : Bool). both_one b (x.at == at)) e in omega (arith, one, is, ih)
      by_test true false e e' one ih = let is : both_one (x.to == to) (x.at == at) ≡ 0 = ap (λ (b : Bool). both_one b (x.at == at)) e ∙ ap (λ (b : Bool). both_one true b) e' in omega (arith, one, is, ih)
      by_test true true e e' one ih =
          let to_is : x.to ≡ to = grind (arith, e) in
          let at_is : x.at ≡ at = grind (arith, e') in
          let none = none_other x es apart.0 (ap (no_phis globals function) to_is ∙ p) in
          let same : times x.at (takers x.to es) ≡ times at (takers to es) = ap (λ (n : ℕ). times n (takers x.to es)) at_is ∙ ap (λ (n : ℕ). times at (takers n es)) to_is in
          let is : both_one (x.to == to) (x.at == at) ≡ 1 = ap (λ (b : Bool). both_one b (x.at == at)) e ∙ ap (λ (b : Bool). both_one true b) e' in
          omega (arith, one, none, same, is)

  -- a block that an edge takes stands once among those of a phi
  pub once_named : (es : List Edge) → Apart globals function es → (at to : ℕ) → no_phis globals function to ≡ false → IsIn es at to → times at (takers to es) ≡ 1
  once_named es apart at to p in' = let low = at_least es at to in' in let high = at_most es apart at to p in omega (arith, low, high)

  pub named_only : (es : List Edge) (at to : ℕ) → 1 ≤ times at (map (λ (e : Edge). e.at) (edges_to globals function to es)) → IsIn es at to
  named_only es at to h = there_in es at to h
