-- The phis of the blocks that edges lead to, edge by edge, are no more than the operands of a function's phis.
use Rattle.std.proofs.Common.{◌≡◌, refl, ap, subst, ◌∙◌, ℕ, zero, suc, ◌+◌, ◌<◌, ◌≤◌, Bool, true, false, cond, List, [], ◌∷◌, ◌++◌, length, map, Some, arith}
use Rattle.std.specs.Prelude.{◌==◌, slice_get, drop, flat_map, sum_by, if◌then◌else◌}
use Rattle.std.proofs.lemmas.List.Sums.{sum_by-cons, sum_by-append}
use Rattle.ir_core.specs.Units.{instructions, has_result, results}
use Rattle.ir_core.specs.declared.types.Ty.{Ty}
use Rattle.ir_core.specs.declared.code.Operand.{Operand}
use Rattle.ir_core.specs.declared.code.Operand.TheVariants.{Num}
use Rattle.ir_core.specs.declared.code.Op.{Op}
use Rattle.ir_core.specs.declared.code.Op.TheVariants.{Phi, Br, CondBr, Switch}
use Rattle.ir_core.specs.declared.code.Inst.{Inst}
use Rattle.ir_core.specs.declared.code.Block.{Block}
use Rattle.ir_core.specs.declared.program.Function.{Function}
use Rattle.ir_core.specs.declared.program.Global.{Global}
use Rattle.ir_flow.specs.Code.{edges, targets, case_blocks, pair_blocks}
use Rattle.ir_meaning.specs.Meaning.{operands_of_phi}
use Rattle.ir_meaning.specs.Step.{insts_of, phis}
use Rattle.ir_verify.specs.Shapes.{times}
use Rattle.generic_code.specs.Literals.{Pool, empty_pool, behind_all, registers}
use Rattle.generic_code.specs.Parts.{first_register}
use Rattle.generic_code.specs.Code.{piece_of}
use Rattle.generic_code.specs.Edges.{Edge, heads, spare, edge_types, tests, ending_of}
use Rattle.generic_code.specs.Whole.{is_jump, insts_ending, body_of, bodies_from, edges_to}

-- so many for each of these
abbrev pub phis_total : ℕ → List Inst → ℕ
phis_total n [] = 0
phis_total n (i ∷ is) = n + phis_total n is

total_more : (n : ℕ) (is : List Inst) → phis_total (suc n) is ≡ length is + phis_total n is
total_more n [] = omega arith
total_more n (i ∷ is) = let ih = total_more n is in omega (arith, ih)

pub get_drop : {A : Type 0} (n : ℕ) (xs : List A) (k : ℕ) (x : A) → slice_get (drop n xs) k ≡ Some x → slice_get xs (n + k) ≡ Some x
get_drop zero xs k x e = ap (slice_get xs) (let z : 0 + k ≡ k = omega arith in z) ∙ e
get_drop (suc n) [] k x e = absurd (let bad : ⊥ = cc in bad)
get_drop (suc n) (y ∷ xs) k x e = ap (slice_get (y ∷ xs)) (let z : suc n + k ≡ suc (n + k) = omega arith in z) ∙ get_drop n xs k x e

times_cons : (n m : ℕ) (ms : List ℕ) → times n (m ∷ ms) ≡ cond (m == n) 1 0 + times n ms
times_cons n m ms = sum_by-cons (λ (k : ℕ). cond (k == n) 1 0) m ms

-- ---- the blocks of a phi's operands

abbrev spread : ℕ → List Block → List ℕ → ℕ
spread k [] ms = 0
spread k (x ∷ blocks) ms = times k ms + spread (k + 1) blocks ms

abbrev found : ℕ → List Block → ℕ → ℕ
found k [] m = 0
found k (x ∷ blocks) m = cond (m == k) 1 0 + found (k + 1) blocks m

found_none : (k : ℕ) (blocks : List Block) (m : ℕ) → m < k → found k blocks m ≡ 0
found_none k [] m l = refl
found_none k (x ∷ blocks) m l = let e : (m == k) ≡ false = grind (arith, l) in let ih = found_none (k + 1) blocks m (omega (arith, l)) in rw e (omega (arith, ih))

found_one : (k : ℕ) (blocks : List Block) (m : ℕ) → found k blocks m ≤ 1
found_one k [] m = omega arith
found_one k (x ∷ blocks) m = by_test (m == k) refl (found_one (k + 1) blocks m)
  where
    by_test : (b : Bool) → (m == k) ≡ b → found (k + 1) blocks m ≤ 1 → cond b 1 0 + found (k + 1) blocks m ≤ 1
    by_test false e ih = omega (arith, ih)
    by_test true e ih = let same : m ≡ k = grind (arith, e) in let none = found_none (k + 1) blocks m (omega (arith, same)) in omega (arith, none)

spread_none : (k : ℕ) (blocks : List Block) → spread k blocks [] ≡ 0
spread_none k [] = refl
spread_none k (x ∷ blocks) = let ih = spread_none (k + 1) blocks in let none : times k [] ≡ 0 = refl in omega (arith, ih, none)

spread_cons : (k : ℕ) (blocks : List Block) (m : ℕ) (ms : List ℕ) → spread k blocks (m ∷ ms) ≡ found k blocks m + spread k blocks ms
spread_cons k [] m ms = omega arith
spread_cons k (x ∷ blocks) m ms = let ih = spread_cons (k + 1) blocks m ms in let one = times_cons k m ms in omega (arith, ih, one)

spread_most : (blocks : List Block) (ms : List ℕ) → spread 0 blocks ms ≤ length ms
spread_most blocks [] = let none = spread_none 0 blocks in omega (arith, none)
spread_most blocks (m ∷ ms) = let ih = spread_most blocks ms in let one = spread_cons 0 blocks m ms in let few = found_one 0 blocks m in omega (arith, ih, one, few)

edges_spread : (b k : ℕ) (blocks : List Block) (ms : List ℕ) → ((j : ℕ) (x : Block) → slice_get blocks j ≡ Some x → times (k + j) ms ≡ times b (edges x)) → sum_by (λ x. times b (edges x)) blocks ≡ spread k blocks ms
edges_spread b k [] ms h = refl
edges_spread b k (x ∷ blocks) ms h =
    let ih = edges_spread b (k + 1) blocks ms (λ j y e. ap (λ (n : ℕ). times n ms) (let z : k + 1 + j ≡ k + suc j = omega arith in z) ∙ h (suc j) y e) in
    let first : times k ms ≡ times b (edges x) = ap (λ (n : ℕ). times n ms) (let z : k ≡ k + 0 = omega arith in z) ∙ h 0 x refl in
    let sum = sum_by-cons (λ (y : Block). times b (edges y)) x blocks in
    omega (arith, ih, first, sum)

pairs_long : (pairs : List (Operand × ℕ)) → length (pair_blocks pairs) ≡ length pairs
pairs_long [] = refl
pairs_long (pair ∷ pairs) = ap suc (pairs_long pairs)

-- a phi has an operand for each edge to its block
pub operands_most : (b : ℕ) (blocks : List Block) (pairs : List (Operand × ℕ)) → ((from : ℕ) (x : Block) → slice_get blocks from ≡ Some x → times from (pair_blocks pairs) ≡ times b (edges x))
    → sum_by (λ x. times b (edges x)) blocks ≤ length pairs
operands_most b blocks pairs h =
    let same = edges_spread b 0 blocks (pair_blocks pairs) (λ j x e. ap (λ (n : ℕ). times n (pair_blocks pairs)) (let z : 0 + j ≡ j = omega arith in z) ∙ h j x e) in
    let most = spread_most blocks (pair_blocks pairs) in
    let long = pairs_long pairs in
    omega (arith, same, most, long)

pub heads_operands : (n : ℕ) (insts : List Inst) → ((i : ℕ) (inst : Inst) (pairs : List (Operand × ℕ)) → slice_get insts i ≡ Some inst → inst.op ≡ Phi pairs → n ≤ length pairs)
    → phis_total n (phis insts) ≤ sum_by (λ (inst : Inst). operands_of_phi inst.op) insts
heads_operands n [] h = omega arith
heads_operands n (inst ∷ insts) h = by_op inst.gives inst.op (λ pairs e. h 0 inst pairs refl e) (heads_operands n insts (λ i x pairs e. h (suc i) x pairs e))
  where
    by_op : (ty : Ty) (op : Op) → ((pairs : List (Operand × ℕ)) → op ≡ Phi pairs → n ≤ length pairs) → phis_total n (phis insts) ≤ sum_by (λ (inst : Inst). operands_of_phi inst.op) insts
        → phis_total n (phis (record { gives = ty; op = op } ∷ insts)) ≤ sum_by (λ (inst : Inst). operands_of_phi inst.op) (record { gives = ty; op = op } ∷ insts)
    by_op ty (Phi pairs) few ih = let one = few pairs refl in let sum = sum_by-cons (λ (inst : Inst). operands_of_phi inst.op) (record { gives = ty; op = Phi pairs }) insts in omega (arith, one, ih, sum)
    by_op ty op few ih = omega arith

module _ (globals : List Global) (function : Function) where
  -- the phis of the blocks that edges lead to
  abbrev pub heads_on : List Edge → ℕ
  heads_on [] = 0
  heads_on (e ∷ es) = length (heads globals function e.to) + heads_on es

  pub heads_both : (xs ys : List Edge) → heads_on (xs ++ ys) ≡ heads_on xs + heads_on ys
  heads_both [] ys = omega arith
  heads_both (x ∷ xs) ys = let ih = heads_both xs ys in omega (arith, ih)

  -- block by block: so many for each of its phis as edges lead to it
  abbrev pub cross : ℕ → List Block → List Edge → ℕ
  cross k [] es = 0
  cross k (x ∷ blocks) es = phis_total (length (edges_to globals function k es)) (phis x.insts) + cross (k + 1) blocks es

  abbrev hit : ℕ → List Block → ℕ → ℕ
  hit k [] t = 0
  hit k (x ∷ blocks) t = cond (t == k) (length (phis x.insts)) 0 + hit (k + 1) blocks t

  cross_none : (k : ℕ) (blocks : List Block) → 0 ≤ cross k blocks []
  cross_none k blocks = omega arith

  cross_cons : (k : ℕ) (blocks : List Block) (e : Edge) (es : List Edge) → cross k blocks (e ∷ es) ≡ hit k blocks e.to + cross k blocks es
  cross_cons k [] e es = omega arith
  cross_cons k (x ∷ blocks) e es = let ih = cross_cons (k + 1) blocks e es in let one = by_test (e.to == k) in omega (arith, ih, one)
    where
      by_test : (b : Bool) → phis_total (length (if b then e ∷ edges_to globals function k es else edges_to globals function k es)) (phis x.insts)
          ≡ cond b (length (phis x.insts)) 0 + phis_total (length (edges_to globals function k es)) (phis x.insts)
      by_test true = total_more (length (edges_to globals function k es)) (phis x.insts)
      by_test false = omega arith

  hit_at : (blocks : List Block) (k j : ℕ) → length (phis (insts_of (slice_get blocks j))) ≤ hit k blocks (k + j)
  hit_at [] k j = omega arith
  hit_at (x ∷ blocks) k zero = let e : (k + 0 == k) ≡ true = grind arith in rw e (omega arith)
  hit_at (x ∷ blocks) k (suc j) =
      let ih = hit_at blocks (k + 1) j in
      let same : hit (k + 1) blocks (k + 1 + j) ≡ hit (k + 1) blocks (k + suc j) = ap (hit (k + 1) blocks) (let z : k + 1 + j ≡ k + suc j = omega arith in z) in
      omega (arith, ih, same)

  -- edge by edge is block by block
  pub heads_cross : (es : List Edge) → heads_on es ≤ cross 0 function.blocks es
  heads_cross [] = omega arith
  heads_cross (e ∷ es) =
      let ih = heads_cross es in
      let one = cross_cons 0 function.blocks e es in
      let at = hit_at function.blocks 0 e.to in
      let same : hit 0 function.blocks (0 + e.to) ≡ hit 0 function.blocks e.to = ap (hit 0 function.blocks) (let z : 0 + e.to ≡ e.to = omega arith in z) in
      omega (arith, ih, one, at, same)

  -- ---- the edges to a block

  count_cons : (b : ℕ) (e : Edge) (es : List Edge) → length (edges_to globals function b (e ∷ es)) ≡ cond (e.to == b) 1 0 + length (edges_to globals function b es)
  count_cons b e es = by_test (e.to == b)
    where
      by_test : (t : Bool) → length (if t then e ∷ edges_to globals function b es else edges_to globals function b es) ≡ cond t 1 0 + length (edges_to globals function b es)
      by_test true = omega arith
      by_test false = omega arith

  count_both : (b : ℕ) (xs ys : List Edge) → length (edges_to globals function b (xs ++ ys)) ≡ length (edges_to globals function b xs) + length (edges_to globals function b ys)
  count_both b [] ys = omega arith
  count_both b (x ∷ xs) ys = let ih = count_both b xs ys in let one = count_cons b x (xs ++ ys) in let two = count_cons b x xs in omega (arith, ih, one, two)

  -- the blocks that edges lead to
  abbrev leads_to : List Edge → List ℕ
  leads_to es = map (λ (e : Edge). e.to) es

  count_is : (b : ℕ) (es : List Edge) → length (edges_to globals function b es) ≡ times b (leads_to es)
  count_is b [] = refl
  count_is b (e ∷ es) = let ih = count_is b es in let one = count_cons b e es in let two = times_cons b e.to (leads_to es) in omega (arith, ih, one, two)

  tests_lead : (cases : List (ℕ × ℕ)) (from : ℕ) (of : Ty) (r otherwise at : ℕ) (pool : Pool) (own : ℕ) → leads_to (tests globals function from of r otherwise at pool own cases).edges ≡ case_blocks cases ++ otherwise ∷ []
  tests_lead [] from of r otherwise at pool own = refl
  tests_lead (one ∷ []) from of r otherwise at pool own = refl
  tests_lead (one ∷ two ∷ cases) from of r otherwise at pool own =
      let bit = (behind_all globals pool ((of, Num one.0) ∷ [])).next in
      let next = bit + 1 + length (edge_types globals function from (empty_pool (bit + 1)) one.1) in
      let on = own + spare globals function one.1 in
      ap (λ (ns : List ℕ). one.1 ∷ ns) (tests_lead (two ∷ cases) from of r otherwise on (empty_pool next) (on + 1))

  times_both : (b : ℕ) (xs ys : List ℕ) → times b (xs ++ ys) ≡ times b xs + times b ys
  times_both b xs ys = sum_by-append (λ (k : ℕ). cond (k == b) 1 0) xs ys

  ending_count : (b from : ℕ) (pool : Pool) (own : ℕ) (op : Op) → length (edges_to globals function b (ending_of globals function from pool own op).edges) ≤ times b (targets op)
  ending_count b from pool own (Br to) = let same = count_is b (ending_of globals function from pool own (Br to)).edges in omega (arith, same)
  ending_count b from pool own (CondBr x y z) = let same = count_is b (ending_of globals function from pool own (CondBr x y z)).edges in omega (arith, same)
  ending_count b from pool own (Switch of a otherwise cases) =
      let way = tests globals function from of (first_register (registers globals pool ((of, a) ∷ []))) otherwise from (behind_all globals pool ((of, a) ∷ [])) own cases in
      let same = count_is b way.edges in
      let lead : times b (leads_to way.edges) ≡ times b (case_blocks cases ++ otherwise ∷ []) =
      ap (times b) (tests_lead cases from of (first_register (registers globals pool ((of, a) ∷ []))) otherwise from (behind_all globals pool ((of, a) ∷ [])) own) in
      let both = times_both b (case_blocks cases) (otherwise ∷ []) in
      let first = times_cons b otherwise (case_blocks cases) in
      let last = times_cons b otherwise [] in
      omega (arith, same, lead, both, first, last)
  ending_count b from pool own op = omega arith

  -- the edges of the instructions of a block to another are no more than those of its terminator
  insts_count : (b from : ℕ) (insts : List Inst) (value : ℕ) (pool : Pool) (own most : ℕ) → ((k : ℕ) (inst : Inst) → slice_get insts k ≡ Some inst → is_jump inst.op ≡ true → times b (targets inst.op) ≤ most)
      → length (edges_to globals function b (insts_ending globals function from value pool own insts).edges) ≤ most
  insts_count b from [] value pool own most h = omega arith
  insts_count b from (inst ∷ insts) value pool own most h =
      by_jump (is_jump inst.op) (λ e. h 0 inst refl e) (insts_count b from insts (if has_result inst then value + 1 else value) (piece_of globals function.ret value pool inst.gives inst.op).pool own most (λ k x e. h (suc k) x e)) refl
    where
      by_jump : (j : Bool) → (is_jump inst.op ≡ true → times b (targets inst.op) ≤ most)
          → length (edges_to globals function b (insts_ending globals function from (if has_result inst then value + 1 else value) (piece_of globals function.ret value pool inst.gives inst.op).pool own insts).edges) ≤ most
          → is_jump inst.op ≡ j → length (edges_to globals function b (insts_ending globals function from value pool own (inst ∷ insts)).edges) ≤ most
      by_jump true first rest e = let low = first e in let few = ending_count b from pool own inst.op in rw e (omega (arith, low, few))
      by_jump false first rest e = rw e rest

  pub bodies_count : (b : ℕ) (blocks : List Block) (from value next own : ℕ)
      → ((k : ℕ) (x : Block) → slice_get blocks k ≡ Some x → (i : ℕ) (inst : Inst) → slice_get x.insts i ≡ Some inst → is_jump inst.op ≡ true → times b (targets inst.op) ≤ times b (edges x))
      → length (edges_to globals function b (flat_map (λ body. body.ending.edges) (bodies_from globals function from value next own blocks))) ≤ sum_by (λ x. times b (edges x)) blocks
  bodies_count b [] from value next own h = omega arith
  bodies_count b (x ∷ blocks) from value next own h =
      let body = body_of globals function from value next own x.insts in
      let rest = bodies_from globals function (from + 1) (value + results x.insts) (next + length body.ending.types) (own + length body.ending.later) blocks in
      let ih = bodies_count b blocks (from + 1) (value + results x.insts) (next + length body.ending.types) (own + length body.ending.later) (λ k y e. h (suc k) y e) in
      let first = insts_count b from (drop (length (phis x.insts)) x.insts) (value + length (phis x.insts)) (empty_pool next) own (times b (edges x)) (λ k inst e j. h 0 x refl (length (phis x.insts) + k) inst (get_drop (length (phis x.insts)) x.insts k inst e) j) in
      let both = count_both b body.ending.edges (flat_map (λ body. body.ending.edges) rest) in
      let sum = sum_by-cons (λ (y : Block). times b (edges y)) x blocks in
      omega (arith, ih, first, both, sum)

  pub cross_operands : (k : ℕ) (blocks : List Block) (es : List Edge)
      → ((j : ℕ) (x : Block) → slice_get blocks j ≡ Some x → phis_total (length (edges_to globals function (k + j) es)) (phis x.insts) ≤ sum_by (λ (inst : Inst). operands_of_phi inst.op) x.insts)
      → cross k blocks es ≤ sum_by (λ (inst : Inst). operands_of_phi inst.op) (instructions blocks)
  cross_operands k [] es h = omega arith
  cross_operands k (x ∷ blocks) es h =
      let ih = cross_operands (k + 1) blocks es (λ j y e. subst (λ (n : ℕ). phis_total (length (edges_to globals function n es)) (phis y.insts) ≤ sum_by (λ (inst : Inst). operands_of_phi inst.op) y.insts) (let z : k + suc j ≡ k + 1 + j = omega arith in z) (h (suc j) y e)) in
      let first : phis_total (length (edges_to globals function k es)) (phis x.insts) ≤ sum_by (λ (inst : Inst). operands_of_phi inst.op) x.insts =
      subst (λ (n : ℕ). phis_total (length (edges_to globals function n es)) (phis x.insts) ≤ sum_by (λ (inst : Inst). operands_of_phi inst.op) x.insts) (let z : k + 0 ≡ k = omega arith in z) (h 0 x refl) in
      let sum = sum_by-append (λ (inst : Inst). operands_of_phi inst.op) x.insts (instructions blocks) in
      omega (arith, ih, first, sum)
