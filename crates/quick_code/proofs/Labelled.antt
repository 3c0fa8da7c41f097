-- Blocks that stand at their labels.
use Rattle.std.proofs.Common.{◌≡◌, refl, sym, subst, ℕ, zero, suc, ◌+◌, ◌<◌, List, ◌∷◌, ◌++◌, length, arith, append_assoc}
use Rattle.ir_core.specs.declared.program.Function.{Function}
use Rattle.ir_core.specs.declared.program.Global.{Global}
use Rattle.ir_meaning.specs.Plays.{Meaning}
use Rattle.rv_play.specs.CodePlay.{Place}
use Rattle.ir_meaning.specs.Step.{insts_at, phis}
use Rattle.std.specs.Prelude.{drop}
use Rattle.code_pieces.specs.Items.{Item, Bind, plain}
use Rattle.quick_code.specs.Blocks.{block_label, block_items, blocks_items, phis_code, insts_items}
use Rattle.code_pieces.specs.Labels.{StandsAs}
use Rattle.code_pieces.proofs.Labelled.{behind-items as any-behind-items}

module _ (m : Meaning) (place : Place) (labels : ℕ → ℕ) where
  abbrev At : ℕ → List Item → Type 0
  At = StandsAs m place labels

  -- what stands behind items
  behind-items : (xs ys : List Item) (pc : ℕ) → At pc (xs ++ ys) → (q : ℕ) × At q ys
  behind-items = any-behind-items m place labels

  -- behind a block that isn't the last of so many comes the next
  abbrev pub Comes : Function → ℕ → ℕ → List Item → Type 0
  Comes function block many more = block + 1 < many → (after : List Item) × (more ≡ Bind (block_label function (block + 1)) ∷ after)

  -- a block stands at its label
  abbrev pub StandsThere : List Global → Function → ℕ → ℕ → ℕ → ℕ → Type 0
  StandsThere globals function room frame block many =
      (more : List Item) × At (labels (block_label function block)) (block_items globals function room frame block ++ more) × Comes function block many more

  comes : (globals : List Global) (function : Function) (room frame n first : ℕ) (rest : List Item) → Comes function first (first + suc n) (blocks_items globals function room frame (first + 1) n ++ rest)
  comes globals function room frame zero first rest lt = absurd (let bad : ⊥ = omega (arith, lt) in bad)
  comes globals function room frame (suc n) first rest lt = (
    (plain (phis_code function (first + 1) 0 (phis (insts_at function (first + 1))))
        ++ insts_items globals function room frame (first + 1) (length (phis (insts_at function (first + 1)))) (drop (length (phis (insts_at function (first + 1)))) (insts_at function (first + 1)))
        ++ blocks_items globals function room frame (first + 1 + 1) n) ++ rest,
    refl,
  )

  -- each block stands at its label
  pub block-stands : (globals : List Global) (function : Function) (room frame n first pc j : ℕ) (rest : List Item) → At pc (blocks_items globals function room frame first n ++ rest) → j < n
      → StandsThere globals function room frame (first + j) (first + n)
  block-stands globals function room frame zero first pc j rest h lt = absurd (let bad : ⊥ = omega arith in bad)
  block-stands globals function room frame (suc n) first pc zero rest h lt =
      let more = blocks_items globals function room frame (first + 1) n ++ rest in
      let all = subst (λ (items : List Item). At pc items) (append_assoc (block_items globals function room frame first) (blocks_items globals function room frame (first + 1) n) rest) h in
      let same : first ≡ first + 0 = omega arith in
      subst (λ (b : ℕ). StandsThere globals function room frame b (first + suc n)) same (more, subst (λ (q : ℕ). At q (block_items globals function room frame first ++ more)) (sym all.0) all, comes globals function room frame n first rest)
  block-stands globals function room frame (suc n) first pc (suc j) rest h lt =
      let all = subst (λ (items : List Item). At pc items) (append_assoc (block_items globals function room frame first) (blocks_items globals function room frame (first + 1) n) rest) h in
      let next = behind-items (block_items globals function room frame first) (blocks_items globals function room frame (first + 1) n ++ rest) pc all in
      let r = block-stands globals function room frame n (first + 1) next.0 j rest next.1 (omega arith) in
      let same : first + 1 + j ≡ first + suc j = omega arith in
      let many : first + 1 + n ≡ first + suc n = omega arith in
      subst (λ (b : ℕ). StandsThere globals function room frame b (first + suc n)) same (subst (λ (k : ℕ). StandsThere globals function room frame (first + 1 + j) k) many r)
