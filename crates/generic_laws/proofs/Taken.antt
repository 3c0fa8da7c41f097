-- Each edge of the code to a block with phis is a jump of the block that takes it.
use Rattle.std.proofs.Common.{◌≡◌, refl, ap, ◌∙◌, ℕ, suc, ◌+◌, ◌≤◌, ◌⊎◌, inl, inr, Bool, true, false, cond, List, [], ◌∷◌, ◌++◌, length, Some, arith}
use Rattle.std.specs.Prelude.{slice_get, ◌==◌, if◌then◌else◌}
use Rattle.std.proofs.lemmas.List.Sums.{sum_by-cons, sum_by-append}
use Rattle.ir_core.specs.Units.{has_result}
use Rattle.ir_core.specs.declared.types.Ty.{Ty}
use Rattle.ir_core.specs.declared.types.Ty.TheVariants.{Int}
use Rattle.ir_core.specs.declared.code.Operand.TheVariants.{Num}
use Rattle.ir_core.specs.declared.code.Op.{Op}
use Rattle.ir_core.specs.declared.code.Op.TheVariants.{Br, CondBr, Switch}
use Rattle.ir_core.specs.declared.code.Inst.{Inst}
use Rattle.ir_core.specs.declared.program.Function.{Function}
use Rattle.ir_core.specs.declared.program.Global.{Global}
use Rattle.ir_verify.proofs.Lists.{Every, every_map}
use Rattle.gmir.specs.declared.code.GInst.{GInst}
use Rattle.gmir.specs.Formed.{targets, edges, times}
use Rattle.generic_code.specs.Literals.{Pool, loads, registers, behind_all, empty_pool}
use Rattle.generic_code.specs.Parts.{first_register}
use Rattle.generic_code.specs.Code.{piece_of}
use Rattle.generic_code.specs.Edges.{Edge, Ending, jump_to, spare, no_phis, edge_operands, edge_code, edge_types, edge_blocks, edge_of, taken_at, test_code, branch, tests, ending_of}
use Rattle.generic_code.specs.Whole.{is_jump, insts_ending}
use Rattle.generic_laws.proofs.Lists.{get_left, get_right}
use Rattle.generic_laws.proofs.Apart.{spare_long}

-- the code jumps to a block
abbrev pub Hits : ℕ → List GInst → Type 0
Hits to code = 1 ≤ times to (edges code)

edges_both : (xs ys : List GInst) → edges (xs ++ ys) ≡ edges xs ++ edges ys
edges_both [] ys = refl
edges_both (x ∷ xs) ys = ap (λ (ns : List ℕ). targets x ++ ns) (edges_both xs ys) ∙ assoc (targets x) (edges xs) (edges ys)
  where
    assoc : (a b c : List ℕ) → a ++ (b ++ c) ≡ (a ++ b) ++ c
    assoc [] b c = refl
    assoc (n ∷ a) b c = ap (λ (ns : List ℕ). n ∷ ns) (assoc a b c)

pub hits_behind : (to : ℕ) (xs ys : List GInst) → Hits to ys → Hits to (xs ++ ys)
hits_behind to xs ys h =
    let split : times to (edges (xs ++ ys)) ≡ times to (edges xs ++ edges ys) = ap (times to) (edges_both xs ys) in
    let sum : times to (edges xs ++ edges ys) ≡ times to (edges xs) + times to (edges ys) = sum_by-append (λ (k : ℕ). cond (k == to) 1 0) (edges xs) (edges ys) in
    omega (arith, h, split, sum)

hit_first : (b : Bool) (n : ℕ) → b ≡ true → 1 ≤ cond b 1 0 + n
hit_first true n e = omega arith
hit_first false n e = absurd (let bad : ⊥ = cc in bad)

hits_jump : (to : ℕ) → Hits to (jump_to to ∷ [])
hits_jump to =
    let one : times to (to ∷ []) ≡ cond (to == to) 1 0 + times to [] = sum_by-cons (λ (k : ℕ). cond (k == to) 1 0) to [] in
    let first = hit_first (to == to) (times to []) (let same : (to == to) ≡ true = grind arith in same) in
    omega (arith, one, first)

module _ (globals : List Global) (function : Function) (from : ℕ) where
  edge_hits : (pool : Pool) (to : ℕ) → Hits to (edge_code globals function from pool to)
  edge_hits pool to = hits_behind to (loads globals pool (edge_operands globals function from to)) (jump_to to ∷ []) (hits_jump to)

  -- an edge is taken by the code at its block, or by a further block
  abbrev pub Jumps : ℕ → ℕ → List GInst → List (List GInst) → Edge → Type 0
  Jumps at own code later e = no_phis globals function e.to ≡ false → ((e.at ≡ at) × Hits e.to code) ⊎ ((j : ℕ) × (block : List GInst) × (slice_get later j ≡ Some block) × (e.at ≡ own + j) × Hits e.to block)

  abbrev pub AllJump : ℕ → ℕ → Ending → Type 0
  AllJump at own e = Every (Jumps at own e.code e.later) e.edges

  own_takes : (at own to : ℕ) → no_phis globals function to ≡ false → taken_at globals function from at own to ≡ own
  own_takes at own to e = ap (λ (b : Bool). if b then at else own) e

  block_is : (next to : ℕ) → no_phis globals function to ≡ false → slice_get (edge_blocks globals function from next to) 0 ≡ Some (edge_code globals function from (empty_pool next) to)
  block_is next to e = ap (λ (b : Bool). slice_get (if b then [] else edge_code globals function from (empty_pool next) to ∷ []) 0) e

  -- the edge of a branch, whose block is the first of some
  first_jumps : (at next own to : ℕ) (code : List GInst) (more : List (List GInst)) → Jumps at own code (edge_blocks globals function from next to ++ more) (edge_of globals function from at next own to)
  first_jumps at next own to code more p =
      inr (0, edge_code globals function from (empty_pool next) to, get_left (edge_blocks globals function from next to) more 0 (edge_code globals function from (empty_pool next) to) (block_is next to p), own_takes at own to p ∙ (let z : own ≡ own + 0 = omega arith in z), edge_hits (empty_pool next) to)

  branch_jumps : (at next own bit if_one if_zero : ℕ) → AllJump at own (branch globals function from at next own bit if_one if_zero)
  branch_jumps at next own bit if_one if_zero =
      let second = next + length (edge_types globals function from (empty_pool next) if_one) in
      let blocks = edge_blocks globals function from next if_one in
      let long = spare_long globals function from next if_one in (
        first_jumps at next own if_one (branch globals function from at next own bit if_one if_zero).code (edge_blocks globals function from second if_zero),
        (
          (λ p. inr (
            length blocks + 0,
            edge_code globals function from (empty_pool second) if_zero,
            get_right blocks (edge_blocks globals function from second if_zero) 0 ∙ block_is second if_zero p,
            own_takes at (own + spare globals function if_one) if_zero p ∙ (let z : own + spare globals function if_one ≡ own + (length blocks + 0) = omega (arith, long) in z),
            edge_hits (empty_pool second) if_zero,
          )),
          tt,
        ),
      )

  -- with code before, and more blocks before
  code_before : (at own : ℕ) (before : List GInst) (code : List GInst) (later : List (List GInst)) (e : Edge) → Jumps at own code later e → Jumps at own (before ++ code) later e
  code_before at own before code later e h p = by_kind (h p)
    where
      by_kind : ((e.at ≡ at) × Hits e.to code) ⊎ ((j : ℕ) × (block : List GInst) × (slice_get later j ≡ Some block) × (e.at ≡ own + j) × Hits e.to block)
          → ((e.at ≡ at) × Hits e.to (before ++ code)) ⊎ ((j : ℕ) × (block : List GInst) × (slice_get later j ≡ Some block) × (e.at ≡ own + j) × Hits e.to block)
      by_kind (inl (same, hits)) = inl (same, hits_behind e.to before code hits)
      by_kind (inr other) = inr other

  blocks_before : (at own on : ℕ) (before : List (List GInst)) (this code : List GInst) (later : List (List GInst)) → on ≡ own + length before → (e : Edge) → Jumps on (on + 1) code later e → Jumps at own this (before ++ code ∷ later) e
  blocks_before at own on before this code later is e h p = by_kind (h p)
    where
      by_kind : ((e.at ≡ on) × Hits e.to code) ⊎ ((j : ℕ) × (block : List GInst) × (slice_get later j ≡ Some block) × (e.at ≡ on + 1 + j) × Hits e.to block)
          → ((e.at ≡ at) × Hits e.to this) ⊎ ((j : ℕ) × (block : List GInst) × (slice_get (before ++ code ∷ later) j ≡ Some block) × (e.at ≡ own + j) × Hits e.to block)
      by_kind (inl (same, hits)) = inr (length before + 0, code, get_right before (code ∷ later) 0, omega (arith, same, is), hits)
      by_kind (inr (j, block, get, same, hits)) = inr (length before + suc j, block, get_right before (code ∷ later) (suc j) ∙ get, omega (arith, same, is), hits)

  tests_jump : (cases : List (ℕ × ℕ)) (of : Ty) (r otherwise at : ℕ) (pool : Pool) (own : ℕ) → AllJump at own (tests globals function from of r otherwise at pool own cases)
  tests_jump [] of r otherwise at pool own = ((λ p. inl (refl, edge_hits pool otherwise)), tt)
  tests_jump (one ∷ []) of r otherwise at pool own =
      let bit = (behind_all globals pool ((of, Num one.0) ∷ [])).next in
      let way = branch globals function from at (bit + 1) own bit one.1 otherwise in
      every_map (Jumps at own way.code way.later) (Jumps at own (test_code globals function from of r pool one.0 ++ way.code) way.later) way.edges (code_before at own (test_code globals function from of r pool one.0) way.code way.later)
      (branch_jumps at (bit + 1) own bit one.1 otherwise)
  tests_jump (one ∷ two ∷ cases) of r otherwise at pool own =
      let bit = (behind_all globals pool ((of, Num one.0) ∷ [])).next in
      let next = bit + 1 + length (edge_types globals function from (empty_pool (bit + 1)) one.1) in
      let on = own + spare globals function one.1 in
      let rest = tests globals function from of r otherwise on (empty_pool next) (on + 1) (two ∷ cases) in
      let this = (tests globals function from of r otherwise at pool own (one ∷ two ∷ cases)).code in
      let blocks = edge_blocks globals function from (bit + 1) one.1 in
      let long = spare_long globals function from (bit + 1) one.1 in
      let is : on ≡ own + length blocks = omega (arith, long) in (
        first_jumps at (bit + 1) own one.1 this (rest.code ∷ rest.later),
        every_map (Jumps on (on + 1) rest.code rest.later) (Jumps at own this (blocks ++ rest.code ∷ rest.later)) rest.edges (blocks_before at own on blocks this rest.code rest.later is)
            (tests_jump (two ∷ cases) of r otherwise on (empty_pool next) (on + 1)),
      )

  ending_jumps : (pool : Pool) (own : ℕ) (op : Op) → AllJump from own (ending_of globals function from pool own op)
  ending_jumps pool own (Br to) = ((λ p. inl (refl, edge_hits pool to)), tt)
  ending_jumps pool own (CondBr x y z) =
      let way = branch globals function from from (behind_all globals pool ((Int 1, x) ∷ [])).next own (first_register (registers globals pool ((Int 1, x) ∷ []))) y z in
      every_map (Jumps from own way.code way.later) (Jumps from own (loads globals pool ((Int 1, x) ∷ []) ++ way.code) way.later) way.edges (code_before from own (loads globals pool ((Int 1, x) ∷ [])) way.code way.later)
      (branch_jumps from (behind_all globals pool ((Int 1, x) ∷ [])).next own (first_register (registers globals pool ((Int 1, x) ∷ []))) y z)
  ending_jumps pool own (Switch of a otherwise cases) =
      let way = tests globals function from of (first_register (registers globals pool ((of, a) ∷ []))) otherwise from (behind_all globals pool ((of, a) ∷ [])) own cases in
      every_map (Jumps from own way.code way.later) (Jumps from own (loads globals pool ((of, a) ∷ []) ++ way.code) way.later) way.edges (code_before from own (loads globals pool ((of, a) ∷ [])) way.code way.later)
      (tests_jump cases of (first_register (registers globals pool ((of, a) ∷ []))) otherwise from (behind_all globals pool ((of, a) ∷ [])) own)
  ending_jumps pool own op = tt

  pub insts_jump : (insts : List Inst) (value : ℕ) (pool : Pool) (own : ℕ) → AllJump from own (insts_ending globals function from value pool own insts)
  insts_jump [] value pool own = tt
  insts_jump (inst ∷ insts) value pool own =
      by_jump (is_jump inst.op) refl (insts_jump insts (if has_result inst then value + 1 else value) (piece_of globals function.ret value pool inst.gives inst.op).pool own)
    where
      rest : Ending
      rest = insts_ending globals function from (if has_result inst then value + 1 else value) (piece_of globals function.ret value pool inst.gives inst.op).pool own insts

      by_jump : (j : Bool) → is_jump inst.op ≡ j → AllJump from own (insts_ending globals function from (if has_result inst then value + 1 else value) (piece_of globals function.ret value pool inst.gives inst.op).pool own insts)
          → AllJump from own (insts_ending globals function from value pool own (inst ∷ insts))
      by_jump true e ih = rw e (ending_jumps pool own inst.op)
      by_jump false e ih =
          rw e (every_map (Jumps from own rest.code rest.later) (Jumps from own ((piece_of globals function.ret value pool inst.gives inst.op).code ++ rest.code) rest.later) rest.edges
          (code_before from own (piece_of globals function.ret value pool inst.gives inst.op).code rest.code rest.later) ih)
