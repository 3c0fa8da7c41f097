-- Edges to a block with phis are taken by blocks of their own, so that the block that takes one tells it among all.
use Rattle.std.proofs.Common.{◌≡◌, refl, sym, ap, subst, ◌∙◌, ℕ, zero, suc, ◌+◌, ◌<◌, ◌≤◌, ◌⊎◌, inl, inr, Bool, true, false, List, [], ◌∷◌, ◌++◌, length, Some, arith}
use Rattle.std.specs.Prelude.{◌==◌, slice_get, drop, flat_map, if◌then◌else◌}
use Rattle.ir_core.specs.Units.{has_result, results}
use Rattle.ir_core.specs.declared.types.Ty.{Ty}
use Rattle.ir_core.specs.declared.types.Ty.TheVariants.{Int}
use Rattle.ir_core.specs.declared.code.Op.{Op}
use Rattle.ir_core.specs.declared.code.Op.TheVariants.{Binary, Icmp, Cast, Select, Freeze, Phi, Alloca, Load, Store, Gep, Call, BuiltIn as CallBuiltIn, Ret, Br, CondBr, Switch, Unreachable}
use Rattle.ir_core.specs.declared.code.Inst.{Inst}
use Rattle.ir_core.specs.declared.code.Block.{Block}
use Rattle.ir_core.specs.declared.program.Function.{Function}
use Rattle.ir_core.specs.declared.program.Global.{Global}
use Rattle.ir_meaning.specs.Step.{phis}
use Rattle.ir_verify.proofs.Lists.{Every, every_both, every_map, every_at}
use Rattle.generic_code.specs.Literals.{Pool, empty_pool, behind_all, registers}
use Rattle.generic_code.specs.Parts.{first_register}
use Rattle.generic_code.specs.Code.{piece_of}
use Rattle.generic_code.specs.Edges.{Edge, Ending, ending_behind, no_phis, spare, edge_code, edge_blocks, edge_types, edge_of, taken_at, case_operand, branch, tests, ending_of}
use Rattle.generic_code.specs.Whole.{is_jump, insts_ending, body_of, bodies_from, edges_to}
use Rattle.generic_code.proofs.Edges.{IsTaken, first, later}

eq_of : (k n : ℕ) → (k == n) ≡ true → k ≡ n
eq_of k n e = grind arith

ne_of : (k n : ℕ) → (k ≡ n → ⊥) → (k == n) ≡ false
ne_of k n h = by_test (k == n) refl
  where
    by_test : (b : Bool) → (k == n) ≡ b → b ≡ false
    by_test false e = refl
    by_test true e = absurd (h (eq_of k n e))

module _ (globals : List Global) (function : Function) where
  -- an edge that leads to phis is taken by the block, or by one of these that are its own
  abbrev pub Near : ℕ → ℕ → ℕ → Edge → Type 0
  Near from low high e = no_phis globals function e.to ≡ false → (e.at ≡ from) ⊎ ((low ≤ e.at) × (e.at < high))

  abbrev Within : ℕ → ℕ → Edge → Type 0
  Within low high e = no_phis globals function e.to ≡ false → (low ≤ e.at) × (e.at < high)

  -- two edges that lead to phis are taken by two blocks
  abbrev pub Other : Edge → Edge → Type 0
  Other e e' = no_phis globals function e.to ≡ false → no_phis globals function e'.to ≡ false → e.at ≡ e'.at → ⊥

  abbrev pub Apart : List Edge → Type 0
  Apart [] = Unit {0}
  Apart (e ∷ es) = Every (Other e) es × Apart es

  -- ---- the edge that is taken

  pub taken : (es : List Edge) → Apart es → (k : ℕ) (e : Edge) → slice_get es k ≡ Some e → no_phis globals function e.to ≡ false
      → IsTaken e.at e (edges_to globals function e.to es)
  taken [] apart k e at phis = absurd (let bad : ⊥ = cc in bad)
  taken (x ∷ xs) apart zero e at phis =
      let same : x ≡ e = cc in
      let one : (x.to == e.to) ≡ true = subst (λ (z : Edge). (x.to == z.to) ≡ true) same (let t : (x.to == x.to) ≡ true = grind arith in t) in
      subst (IsTaken e.at e) (sym (ap (λ (b : Bool). if b then x ∷ edges_to globals function e.to xs else edges_to globals function e.to xs) one))
      (subst (λ (z : Edge). IsTaken e.at e (z ∷ edges_to globals function e.to xs)) (sym same) (first (let t : (e.at == e.at) ≡ true = grind arith in t)))
  taken (x ∷ xs) apart (suc k) e at phis = by_test (x.to == e.to) refl (taken xs apart.1 k e at phis)
    where
      by_test : (b : Bool) → (x.to == e.to) ≡ b → IsTaken e.at e (edges_to globals function e.to xs) → IsTaken e.at e (if b then x ∷ edges_to globals function e.to xs else edges_to globals function e.to xs)
      by_test false t rest = rest
      by_test true t rest =
          let same : x.to ≡ e.to = eq_of x.to e.to t in
          later x (ne_of x.at e.at (every_at (Other x) xs k e apart.0 at (ap (no_phis globals function) same ∙ phis) phis)) rest

  -- ---- parts of lists

  apart_both : (xs ys : List Edge) → Apart xs → Apart ys → Every (λ (x : Edge). Every (Other x) ys) xs → Apart (xs ++ ys)
  apart_both [] ys h h' cross = h'
  apart_both (x ∷ xs) ys h h' cross = (every_both (Other x) xs ys h.0 cross.0, apart_both xs ys h.1 h' cross.1)

  -- ---- an edge of a branch

  pub spare_one : (to : ℕ) → no_phis globals function to ≡ false → spare globals function to ≡ 1
  spare_one to e = ap (λ (b : Bool). if b then 0 else 1) e

  own_takes : (from at own to : ℕ) → no_phis globals function to ≡ false → taken_at globals function from at own to ≡ own
  own_takes from at own to e = ap (λ (b : Bool). if b then at else own) e

  pub spare_long : (from next to : ℕ) → length (edge_blocks globals function from next to) ≡ spare globals function to
  spare_long from next to = by_test (no_phis globals function to)
    where
      by_test : (b : Bool) → length (if b then [] else edge_code globals function from (empty_pool next) to ∷ []) ≡ (if b then 0 else 1)
      by_test true = refl
      by_test false = refl

  pub append_long : {A : Type 0} (xs ys : List A) → length (xs ++ ys) ≡ length xs + length ys
  append_long [] ys = omega arith
  append_long (x ∷ xs) ys = let ih = append_long xs ys in omega (arith, ih)

  -- the edges of an ending whose own blocks begin here
  abbrev InOwn : ℕ → Ending → Type 0
  InOwn own e = Every (Within own (own + length e.later)) e.edges × Apart e.edges

  branch_own : (from at next own bit if_one if_zero : ℕ) → InOwn own (branch globals function from at next own bit if_one if_zero)
  branch_own from at next own bit if_one if_zero =
      let second = next + length (edge_types globals function from (empty_pool next) if_one) in
      let one = spare_long from next if_one in
      let two = spare_long from second if_zero in
      let long = append_long (edge_blocks globals function from next if_one) (edge_blocks globals function from second if_zero) in (
        (
          (λ e. let at_is = own_takes from at own if_one e in let some = spare_one if_one e in (omega (arith, at_is), omega (arith, at_is, some, one, long))),
          (
            (λ e. let at_is = own_takes from at (own + spare globals function if_one) if_zero e in let some = spare_one if_zero e in (omega (arith, at_is), omega (arith, at_is, some, one, two, long))),
            tt,
          ),
        ),
        (((λ e e' same. let at_one = own_takes from at own if_one e in let at_two = own_takes from at (own + spare globals function if_one) if_zero e' in let some = spare_one if_one e in omega (arith, at_one, at_two, some, same)), tt), (tt, tt)),
      )

  -- an edge before others
  before_all : (e : Edge) (low low' high : ℕ) (es : List Edge) → (no_phis globals function e.to ≡ false → e.at < low) → Every (Within low high) es → Every (Other e) es
  before_all e low low' high [] h within = tt
  before_all e low low' high (x ∷ xs) h within =
      ((λ p p' same. let a = h p in let b = (within.0 p').0 in omega (arith, a, b, same)), before_all e low low' high xs h within.1)

  widen : (low high low' high' : ℕ) → low' ≤ low → high ≤ high' → (e : Edge) → Within low high e → Within low' high' e
  widen low high low' high' l l' e h = λ p. let a = (h p).0 in let b = (h p).1 in (omega (arith, a, l), omega (arith, b, l'))

  tests_own : (cases : List (ℕ × ℕ)) (from : ℕ) (of : Ty) (r otherwise at : ℕ) (pool : Pool) (own : ℕ) (one : ℕ × ℕ) → InOwn own (tests globals function from of r otherwise at pool own (one ∷ cases))
  tests_own [] from of r otherwise at pool own one =
      branch_own from at ((behind_all globals pool (case_operand globals function from of one.0)).next + 1) own (behind_all globals pool (case_operand globals function from of one.0)).next one.1 otherwise
  tests_own (two ∷ cases) from of r otherwise at pool own one =
      let bit = (behind_all globals pool (case_operand globals function from of one.0)).next in
      let next = bit + 1 + length (edge_types globals function from (empty_pool (bit + 1)) one.1) in
      let on = own + spare globals function one.1 in
      let rest = tests globals function from of r otherwise on (empty_pool next) (on + 1) (two ∷ cases) in
      let ih = tests_own cases from of r otherwise on (empty_pool next) (on + 1) two in
      let own_long = spare_long from (bit + 1) one.1 in
      let long = append_long (edge_blocks globals function from (bit + 1) one.1) (rest.code ∷ rest.later) in (
        (
          (λ e. let at_is = own_takes from at own one.1 e in let some = spare_one one.1 e in (omega (arith, at_is), omega (arith, at_is, some, own_long, long))),
          every_map (Within (on + 1) (on + 1 + length rest.later)) (Within own (own + length (edge_blocks globals function from (bit + 1) one.1 ++ rest.code ∷ rest.later))) rest.edges
              (widen (on + 1) (on + 1 + length rest.later) own (own + length (edge_blocks globals function from (bit + 1) one.1 ++ rest.code ∷ rest.later)) (omega arith) (omega (arith, own_long, long))) ih.0,
        ),
        (
          before_all (edge_of globals function from at (bit + 1) own one.1) (on + 1) 0 (on + 1 + length rest.later) rest.edges (λ e. let at_is = own_takes from at own one.1 e in omega (arith, at_is)) ih.0,
          ih.1,
        ),
      )

  -- ---- a block's edges

  abbrev pub NearBlock : ℕ → ℕ → Ending → Type 0
  NearBlock from own e = Every (Near from own (own + length e.later)) e.edges × Apart e.edges

  near_of : (from own : ℕ) (e : Ending) → InOwn own e → NearBlock from own e
  near_of from own e h = (every_map (Within own (own + length e.later)) (Near from own (own + length e.later)) e.edges (λ x w p. inr (w p)) h.0, h.1)

  tests_near : (cases : List (ℕ × ℕ)) (from : ℕ) (of : Ty) (r otherwise : ℕ) (pool : Pool) (own : ℕ) → NearBlock from own (tests globals function from of r otherwise from pool own cases)
  tests_near [] from of r otherwise pool own = (((λ p. inl refl), tt), (tt, tt))
  tests_near (one ∷ cases) from of r otherwise pool own =
      near_of from own (tests globals function from of r otherwise from pool own (one ∷ cases)) (tests_own cases from of r otherwise from pool own one)

  ending_near : (from : ℕ) (pool : Pool) (own : ℕ) (op : Op) → NearBlock from own (ending_of globals function from pool own op)
  ending_near from pool own (Br to) = (((λ p. inl refl), tt), (tt, tt))
  ending_near from pool own (CondBr x y z) =
      near_of from own (branch globals function from from (behind_all globals pool ((Int 1, x) ∷ [])).next own (first_register (registers globals pool ((Int 1, x) ∷ []))) y z)
      (branch_own from from (behind_all globals pool ((Int 1, x) ∷ [])).next own (first_register (registers globals pool ((Int 1, x) ∷ []))) y z)
  ending_near from pool own (Switch of a otherwise cases) = tests_near cases from of (first_register (registers globals pool ((of, a) ∷ []))) otherwise (behind_all globals pool ((of, a) ∷ [])) own
  ending_near from pool own (Binary o flags x y) = (tt, tt)
  ending_near from pool own (Icmp pred flags of x y) = (tt, tt)
  ending_near from pool own (Cast o flags of x) = (tt, tt)
  ending_near from pool own (Select x y z) = (tt, tt)
  ending_near from pool own (Freeze x) = (tt, tt)
  ending_near from pool own (Phi pairs) = (tt, tt)
  ending_near from pool own (Alloca of count) = (tt, tt)
  ending_near from pool own (Load x) = (tt, tt)
  ending_near from pool own (Store of x y) = (tt, tt)
  ending_near from pool own (Gep of base indices) = (tt, tt)
  ending_near from pool own (Call callee arguments) = (tt, tt)
  ending_near from pool own (CallBuiltIn which arguments) = (tt, tt)
  ending_near from pool own (Ret a) = (tt, tt)
  ending_near from pool own Unreachable = (tt, tt)

  insts_near : (from value : ℕ) (pool : Pool) (own : ℕ) (insts : List Inst) → NearBlock from own (insts_ending globals function from value pool own insts)
  insts_near from value pool own [] = (tt, tt)
  insts_near from value pool own (inst ∷ insts) =
      by_jump (is_jump inst.op) (insts_near from (if has_result inst then value + 1 else value) (piece_of globals function.ret value pool inst.gives inst.op).pool own insts)
    where
      by_jump : (j : Bool) → NearBlock from own (insts_ending globals function from (if has_result inst then value + 1 else value) (piece_of globals function.ret value pool inst.gives inst.op).pool own insts)
          → NearBlock from own (if j then ending_of globals function from pool own inst.op else
          (let piece = piece_of globals function.ret value pool inst.gives inst.op in
          ending_behind piece.code piece.types (insts_ending globals function from (if has_result inst then value + 1 else value) piece.pool own insts)))
      by_jump true h = ending_near from pool own inst.op
      by_jump false h = h

  -- ---- the edges of all blocks

  -- an edge that leads to phis is taken by a block from this one on, below the further blocks, or by a further one from that on
  abbrev Later : ℕ → ℕ → ℕ → Edge → Type 0
  Later from bound own e = no_phis globals function e.to ≡ false → ((from ≤ e.at) × (e.at < bound)) ⊎ (own ≤ e.at)

  near_later : (from bound own high : ℕ) → from < bound → (e : Edge) → Near from own high e → Later from bound own e
  near_later from bound own high l e h = λ p. by_case (h p)
    where
      by_case : (e.at ≡ from) ⊎ ((own ≤ e.at) × (e.at < high)) → ((from ≤ e.at) × (e.at < bound)) ⊎ (own ≤ e.at)
      by_case (inl same) = inl (omega (arith, same), omega (arith, same, l))
      by_case (inr two) = inr two.0

  later_still : (from bound own more : ℕ) (e : Edge) → Later (from + 1) bound (own + more) e → Later from bound own e
  later_still from bound own more e h = λ p. by_case (h p)
    where
      by_case : ((from + 1 ≤ e.at) × (e.at < bound)) ⊎ (own + more ≤ e.at) → ((from ≤ e.at) × (e.at < bound)) ⊎ (own ≤ e.at)
      by_case (inl two) = let a = two.0 in inl (omega (arith, a), two.1)
      by_case (inr a) = inr (omega (arith, a))

  cross_one : (from bound own more : ℕ) → from < bound → bound ≤ own → (x : Edge) → Near from own (own + more) x → (ys : List Edge) → Every (Later (from + 1) bound (own + more)) ys → Every (Other x) ys
  cross_one from bound own more l l' x h [] hs = tt
  cross_one from bound own more l l' x h (y ∷ ys) hs = ((λ p p' same. by_case (h p) (hs.0 p') same), cross_one from bound own more l l' x h ys hs.1)
    where
      by_case : (x.at ≡ from) ⊎ ((own ≤ x.at) × (x.at < own + more)) → ((from + 1 ≤ y.at) × (y.at < bound)) ⊎ (own + more ≤ y.at) → x.at ≡ y.at → ⊥
      by_case (inl a) (inl b) same = let b0 = b.0 in omega (arith, a, b0, same)
      by_case (inl a) (inr b) same = omega (arith, a, b, same, l, l')
      by_case (inr a) (inl b) same = let a0 = a.0 in let b1 = b.1 in omega (arith, a0, b1, same, l')
      by_case (inr a) (inr b) same = let a1 = a.1 in omega (arith, a1, b, same)

  cross : (from bound own more : ℕ) → from < bound → bound ≤ own → (xs ys : List Edge) → Every (Near from own (own + more)) xs → Every (Later (from + 1) bound (own + more)) ys → Every (λ (x : Edge). Every (Other x) ys) xs
  cross from bound own more l l' [] ys h hs = tt
  cross from bound own more l l' (x ∷ xs) ys h hs = (cross_one from bound own more l l' x h.0 ys hs, cross from bound own more l l' xs ys h.1 hs)

  all_apart : (blocks : List Block) (from value next own bound : ℕ) → from + length blocks ≤ bound → bound ≤ own
      → Every (Later from bound own) (flat_map (λ body. body.ending.edges) (bodies_from globals function from value next own blocks))
      × Apart (flat_map (λ body. body.ending.edges) (bodies_from globals function from value next own blocks))
  all_apart [] from value next own bound l l' = (tt, tt)
  all_apart (block ∷ blocks) from value next own bound l l' =
      let body = body_of globals function from value next own block.insts in
      let more = length body.ending.later in
      let rest = bodies_from globals function (from + 1) (value + results block.insts) (next + length body.ending.types) (own + more) blocks in
      let edges = flat_map (λ body. body.ending.edges) rest in
      let near = insts_near from (value + length (phis block.insts)) (empty_pool next) own (drop (length (phis block.insts)) block.insts) in
      let ih = all_apart blocks (from + 1) (value + results block.insts) (next + length body.ending.types) (own + more) bound (omega (arith, l)) (omega (arith, l')) in
      let low : from < bound = omega (arith, l) in (
        every_both (Later from bound own) body.ending.edges edges (every_map (Near from own (own + more)) (Later from bound own) body.ending.edges (near_later from bound own (own + more) low) near.0)
            (every_map (Later (from + 1) bound (own + more)) (Later from bound own) edges (later_still from bound own more) ih.0),
        apart_both body.ending.edges edges near.1 ih.1 (cross from bound own more low l' body.ending.edges edges near.0 ih.0),
      )

  -- the edges of a function's code are apart
  pub edges_apart : (value next : ℕ) → Apart (flat_map (λ body. body.ending.edges) (bodies_from globals function 0 value next (length function.blocks) function.blocks))
  edges_apart value next = (all_apart function.blocks 0 value next (length function.blocks) (length function.blocks) (omega arith) (omega arith)).1
