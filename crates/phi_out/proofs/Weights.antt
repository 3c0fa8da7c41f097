-- The function with moves on edges weighs no more than the one with phis: each edge is paid for by what the phis of its target weigh for it.
use Rattle.std.proofs.Common.{◌≡◌, ◌≤◌, ◌<◌, ◌*◌, ℕ, zero, suc, ◌+◌, ◌==◌, ◌||◌, Bool, true, false, List, [], ◌∷◌, length, map, Some, refl, sym, arith}
use Rattle.std.specs.Prelude.{slice_get, sum_by, if◌then◌else◌}
use Rattle.std.specs.List.{Contains}
use Rattle.std.proofs.lemmas.Bool.{false≢true}
use Rattle.std.proofs.lemmas.List.{length-map}
use Rattle.std.proofs.lemmas.List.Sums.{sum_by-cons, sum_by-append}
use Rattle.mir.specs.declared.code.MInst.{MInst}
use Rattle.mir.specs.declared.code.MInst.TheVariants.{Phi, Branch, Jump}
use Rattle.mir.specs.declared.code.MFunction.{MFunction}
use Rattle.mir.specs.Code.{targets, ends_block, block_of}
use Rattle.mir.specs.WellFormed.{is_phi, sources, Leads, IsWellFormed}
use Rattle.mir_play.specs.Play.{behind_phis}
use Rattle.mir_play.specs.Refines.{static_of, static_of_block, static_weight}
use Rattle.parallel_copies.specs.Edges.{heads}
use Rattle.phi_out.specs.Lowered.{edge_cost, inst_cost, block_cost, IsLowered}
use Rattle.phi_out.proofs.Sums.{sum_to, as_sum, sum_less, sum_both, sum_nothing, sum_turned, sum_has, sum_two, is_in, sum_in}

-- what the phis at the head of a block weigh
abbrev head_static : List MInst → ℕ
head_static (Phi d pairs ∷ insts) = 40 * length pairs + head_static insts
head_static _ = 0

parts : (insts : List MInst) → static_of_block insts ≡ head_static insts + static_of_block (behind_phis insts)
parts [] = refl
parts (Phi d pairs ∷ insts) =
    let one = sum_by-cons static_of (Phi d pairs) insts in let rest = parts insts in
    grind (arith, one, rest)
parts (i ∷ insts) = omega arith

all_parts : (blocks : List (List MInst)) → sum_by static_of_block blocks ≡ sum_by head_static blocks + sum_by (λ insts. static_of_block (behind_phis insts)) blocks
all_parts [] = refl
all_parts (b ∷ bs) =
    let one = parts b in let rest = all_parts bs in
    let first = sum_by-cons static_of_block b bs in
    let second = sum_by-cons head_static b bs in
    let third = sum_by-cons (λ insts. static_of_block (behind_phis insts)) b bs in
    omega (arith, one, rest, first, second, third)

-- ---- where an instruction goes

abbrev hits : ℕ → MInst → Bool
hits t (Jump to) = t == to
hits t (Branch op a b x e) = (t == x) || (t == e)
hits t _ = false

abbrev aims : ℕ → List MInst → Bool
aims t [] = false
aims t (i ∷ insts) = hits t i || aims t insts

hits_target : (t : ℕ) (i : MInst) → hits t i ≡ true → Contains (targets i) t
hits_target t (Jump to) h = (0, omega arith, let same : to ≡ t = grind arith in same)
hits_target t (Branch op a b x e) h = by_tests (t == x) (t == e) refl refl h
  where
    by_tests : (p q : Bool) → (t == x) ≡ p → (t == e) ≡ q → (p || q) ≡ true → Contains (x ∷ e ∷ []) t
    by_tests true q u v k = (0, omega arith, let same : x ≡ t = grind arith in same)
    by_tests false true u v k = (1, omega arith, let same : e ≡ t = grind arith in same)
    by_tests false false u v k = absurd (false≢true k)
hits_target t i h = absurd (false≢true h)

aims_at : (t : ℕ) (insts : List MInst) → aims t insts ≡ true → (place : ℕ) × (inst : MInst) × (slice_get insts place ≡ Some inst) × Contains (targets inst) t
aims_at t [] h = absurd (false≢true h)
aims_at t (i ∷ insts) h = by_test (hits t i) refl h (aims_at t insts)
  where
    by_test : (b : Bool) → hits t i ≡ b → (b || aims t insts) ≡ true → (aims t insts ≡ true → (place : ℕ) × (inst : MInst) × (slice_get insts place ≡ Some inst) × Contains (targets inst) t)
        → (place : ℕ) × (inst : MInst) × (slice_get (i ∷ insts) place ≡ Some inst) × Contains (targets inst) t
    by_test true e k rest = (0, i, refl, hits_target t i e)
    by_test false e k rest = let r = rest k in (suc r.0, r.1, r.2, r.3)

contained : (x : ℕ) (xs : List ℕ) → Contains xs x → is_in x xs ≡ true
contained x [] (k, low, is) = absurd (let bad : ⊥ = omega (arith, low) in bad)
contained x (y ∷ ys) (zero, low, is) = by_same (x == y) (let same : (x == y) ≡ true = grind arith in same)
  where
    by_same : (b : Bool) → b ≡ true → (b || is_in x ys) ≡ true
    by_same true e = refl
    by_same false e = absurd (false≢true e)
contained x (y ∷ ys) (suc k, low, is) = by_test (x == y) (contained x ys (k, omega (arith, low), is))
  where
    by_test : (b : Bool) → is_in x ys ≡ true → (b || is_in x ys) ≡ true
    by_test true e = refl
    by_test false e = e

-- ---- what a block costs

module _ (f : MFunction) (formed : IsWellFormed f) where
  abbrev n : ℕ
  n = length f.blocks

  -- what is paid for an edge to each block that these instructions go to
  abbrev paid : List MInst → ℕ
  paid insts = sum_to n (λ t. if aims t insts then edge_cost f t else 0)

  -- only the last instruction goes anywhere, and to blocks that are there
  abbrev EndsLast : List MInst → Type 0
  EndsLast insts = (place : ℕ) (inst : MInst) → slice_get insts place ≡ Some inst → ((to : ℕ) → Contains (targets inst) to → to < n) × (ends_block inst ≡ true → place + 1 ≡ length insts)

  no_cost : (i : MInst) → ends_block i ≡ false → (inst_cost f i ≡ 0) × ((t : ℕ) → hits t i ≡ false)
  no_cost (Jump to) h = absurd (false≢true (sym h))
  no_cost (Branch op a b t e) h = absurd (false≢true (sym h))
  no_cost i h = (refl, λ t. refl)

  as_aimed : (i : MInst) (c : ℕ) → sum_to n (λ t. if hits t i then edge_cost f t else 0) ≤ sum_to n (λ t. if (hits t i || false) then edge_cost f t else 0)
  as_aimed i c = sum_less n (λ t. if hits t i then edge_cost f t else 0) (λ t. if (hits t i || false) then edge_cost f t else 0) (λ k low. by_test (hits k i) (edge_cost f k))
    where
      by_test : (b : Bool) (w : ℕ) → (if b then w else 0) ≤ (if (b || false) then w else 0)
      by_test true w = omega arith
      by_test false w = omega arith

  one_cost : (i : MInst) → ((to : ℕ) → Contains (targets i) to → to < n) → inst_cost f i ≤ sum_to n (λ t. if hits t i then edge_cost f t else 0)
  one_cost (Jump to) inside = sum_has n to (edge_cost f) (inside to (0, omega arith, refl))
  one_cost (Branch op a b t e) inside = by_test (t == e) refl
    where
      either : (x k : ℕ) → (if k == x then edge_cost f k else 0) ≤ (if ((k == x) || (k == e)) then edge_cost f k else 0)
      either x k = by_bool (k == x) (k == e) (edge_cost f k)
        where
          by_bool : (p q : Bool) (w : ℕ) → (if p then w else 0) ≤ (if (p || q) then w else 0)
          by_bool true q w = omega arith
          by_bool false q w = omega arith

      by_test : (b : Bool) → (t == e) ≡ b → (if b then edge_cost f t else edge_cost f t + edge_cost f e) ≤ sum_to n (λ k. if ((k == t) || (k == e)) then edge_cost f k else 0)
      by_test true same =
          let one = sum_has n t (edge_cost f) (inside t (0, omega arith, refl)) in
          let more = sum_less n (λ k. if k == t then edge_cost f k else 0) (λ k. if ((k == t) || (k == e)) then edge_cost f k else 0) (λ k low. either t k) in
          omega (arith, one, more)
      by_test false apart = sum_two n t e (edge_cost f) (inside t (0, omega arith, refl)) (inside e (1, omega arith, refl)) apart
  one_cost i inside = omega arith

  more_paid : (i : MInst) (insts : List MInst) → ((t : ℕ) → hits t i ≡ false) → paid insts ≤ paid (i ∷ insts)
  more_paid i insts h = sum_less n (λ t. if aims t insts then edge_cost f t else 0) (λ t. if aims t (i ∷ insts) then edge_cost f t else 0) (λ k low. rw (h k) (omega arith))

  cost_is_paid : (insts : List MInst) → EndsLast insts → block_cost f insts ≤ paid insts
  cost_is_paid [] h = omega arith
  cost_is_paid (i ∷ []) h =
      let one = one_cost i (h 0 i refl).0 in let aimed = as_aimed i 0 in let sum = sum_by-cons (inst_cost f) i [] in
      omega (arith, one, aimed, sum)
  cost_is_paid (i ∷ (j ∷ js)) h =
      let nothing = no_cost i (not_last (ends_block i) refl) in
      let rest = cost_is_paid (j ∷ js) (λ place inst at. let k = h (suc place) inst at in (k.0, λ e. let last = k.1 e in omega (arith, last))) in
      let sum = sum_by-cons (inst_cost f) i (j ∷ js) in
      let more = more_paid i (j ∷ js) nothing.1 in
      let none = nothing.0 in
      omega (arith, rest, sum, more, none)
    where
      not_last : (b : Bool) → ends_block i ≡ b → ends_block i ≡ false
      not_last false e = e
      not_last true e = absurd (let last = (h 0 i refl).1 e in let bad : ⊥ = omega (arith, last) in bad)

  ends_last : (block : ℕ) → EndsLast (block_of f block)
  ends_last block place inst at = let p = formed.placed block place inst at in ((λ to c. (p.targets_exist to c).1), p.ends.0)

  -- ---- what the phis of a block pay

  one_phi : (to : ℕ) (pairs : List (ℕ × ℕ)) → ((from : ℕ) → Leads f from to → Contains (map (λ pair. pair.1) pairs) from)
      → sum_to n (λ b. if aims to (block_of f b) then 28 else 0) ≤ 40 * length pairs
  one_phi to pairs named =
      let each = sum_less n (λ b. if aims to (block_of f b) then 28 else 0) (λ b. if is_in b (map (λ pair. pair.1) pairs) then 28 else 0)
      (λ b low. by_test b (aims to (block_of f b)) refl) in
      let few = sum_in n 28 (map (λ pair. pair.1) pairs) in
      let long : length (map (λ pair. pair.1) pairs) ≡ length pairs = length-map pairs (λ pair. pair.1) in
      grind (arith, each, few, long)
    where
      by_test : (b : ℕ) (p : Bool) → aims to (block_of f b) ≡ p → (if p then 28 else 0) ≤ (if is_in b (map (λ pair. pair.1) pairs) then 28 else 0)
      by_test b false e = omega arith
      by_test b true e = rw (contained b (map (λ pair. pair.1) pairs) (named b (aims_at to (block_of f b) e))) (omega arith)

  nothing_paid : (to : ℕ) → sum_to n (λ b. if aims to (block_of f b) then 28 * 0 else 0) ≤ 0
  nothing_paid to =
      let each = sum_less n (λ b. if aims to (block_of f b) then 28 * 0 else 0) (λ b. 0) (λ b low. by_test (aims to (block_of f b))) in
      let none = sum_nothing n in
      omega (arith, each, none)
    where
      by_test : (p : Bool) → (if p then 28 * 0 else 0) ≤ 0
      by_test true = omega arith
      by_test false = omega arith

  phis_pay : (to : ℕ) (insts : List MInst) → ((place : ℕ) (inst : MInst) → slice_get insts place ≡ Some inst → is_phi inst ≡ true → (from : ℕ) → Leads f from to → Contains (sources inst) from)
      → sum_to n (λ b. if aims to (block_of f b) then 28 * heads insts else 0) ≤ head_static insts
  phis_pay to [] h = nothing_paid to
  phis_pay to (Phi d pairs ∷ insts) h =
      let one = one_phi to pairs (h 0 (Phi d pairs) refl refl) in
      let rest = phis_pay to insts (λ place inst at. h (suc place) inst at) in
      let split = sum_less n (λ b. if aims to (block_of f b) then 28 * (heads insts + 1) else 0) (λ b. (if aims to (block_of f b) then 28 else 0) + (if aims to (block_of f b) then 28 * heads insts else 0))
      (λ b low. by_test (aims to (block_of f b))) in
      let both = sum_both n (λ b. if aims to (block_of f b) then 28 else 0) (λ b. if aims to (block_of f b) then 28 * heads insts else 0) in
      omega (arith, one, rest, split, both)
    where
      by_test : (p : Bool) → (if p then 28 * (heads insts + 1) else 0) ≤ (if p then 28 else 0) + (if p then 28 * heads insts else 0)
      by_test true = omega arith
      by_test false = omega arith
  phis_pay to (i ∷ insts) h = nothing_paid to

  paid_by_phis : (to : ℕ) → sum_to n (λ b. if aims to (block_of f b) then edge_cost f to else 0) ≤ head_static (block_of f to)
  paid_by_phis to = phis_pay to (block_of f to) (λ place inst at is from leads. ((formed.placed to place inst at).phi_sources is from).1 leads)

  costs_are_paid : sum_by (block_cost f) f.blocks ≤ sum_by head_static f.blocks
  costs_are_paid =
      let as_costs = as_sum (block_cost f) [] f.blocks in
      let as_heads = as_sum head_static [] f.blocks in
      let each = sum_less n (λ b. block_cost f (block_of f b)) (λ b. sum_to n (λ t. if aims t (block_of f b) then edge_cost f t else 0)) (λ b low. cost_is_paid (block_of f b) (ends_last b)) in
      let turned = sum_turned n n (λ b t. if aims t (block_of f b) then edge_cost f t else 0) in
      let by_target = sum_less n (λ t. sum_to n (λ b. if aims t (block_of f b) then edge_cost f t else 0)) (λ t. head_static (block_of f t)) (λ t low. paid_by_phis t) in
      omega (arith, as_costs, as_heads, each, turned, by_target)

  pub weighs_no_more : (g : MFunction) → IsLowered f g → static_weight g ≤ static_weight f
  weighs_no_more g low =
      let as_blocks : sum_by static_of_block g.blocks ≡ sum_by static_of_block low.blocks + sum_by static_of_block low.edges = rw low.are (sum_by-append static_of_block low.blocks low.edges) in
      let weighs = low.weighs in
      let paid' = costs_are_paid in
      let split = all_parts f.blocks in
      omega (arith, as_blocks, weighs, paid', split)
