-- Each jump to a block with phis is an edge of the code, at the block that jumps.
use Rattle.std.proofs.Common.{◌≡◌, refl, sym, ap, subst, ◌∙◌, ℕ, zero, suc, ◌+◌, ◌≤◌, Bool, true, false, List, [], ◌∷◌, ◌++◌, length, Option, Some, None, arith}
use Rattle.std.specs.Prelude.{slice_get, ◌==◌, if◌then◌else◌}
use Rattle.ir_core.specs.Units.{has_result}
use Rattle.ir_core.specs.declared.types.Ty.{Ty}
use Rattle.ir_core.specs.declared.types.Ty.TheVariants.{Int}
use Rattle.ir_core.specs.declared.code.Operand.TheVariants.{Num}
use Rattle.ir_core.specs.declared.code.Op.{Op}
use Rattle.ir_core.specs.declared.code.Op.TheVariants.{Br, CondBr, Switch}
use Rattle.ir_core.specs.declared.code.Inst.{Inst}
use Rattle.ir_core.specs.declared.code.Block.{Block}
use Rattle.ir_core.specs.declared.program.Function.{Function}
use Rattle.ir_core.specs.declared.program.Global.{Global}
use Rattle.ir_meaning.specs.Step.{insts_of, phis}
use Rattle.ir_verify.proofs.Lists.{Every, every_both, every_map}
use Rattle.gmir.specs.declared.code.GInst.{GInst}
use Rattle.gmir.specs.Formed.{targets}
use Rattle.generic_code.specs.Literals.{Pool, registers, behind_all, empty_pool}
use Rattle.generic_code.specs.Parts.{first_register}
use Rattle.generic_code.specs.Code.{piece_of}
use Rattle.generic_code.specs.Edges.{Edge, Ending, jump_to, branch_on, spare, no_phis, edge_operands, edge_code, edge_types, edge_blocks, edge_of, goes_to, taken_at, test_code, branch, tests, ending_of}
use Rattle.generic_code.specs.Whole.{is_jump, insts_ending}
use Rattle.generic_laws.proofs.Apart.{spare_long}
use Rattle.generic_laws.proofs.Arrows.{Arrives, then_arrive, piece_arrives}

-- an edge of these from a block to another
abbrev pub IsIn : List Edge → ℕ → ℕ → Type 0
IsIn es at to = (j : ℕ) × (e : Edge) × (slice_get es j ≡ Some e) × (e.at ≡ at) × (e.to ≡ to)

pub in_later : (e : Edge) (es : List Edge) (at to : ℕ) → IsIn es at to → IsIn (e ∷ es) at to
in_later e es at to (j, x, get, a, t) = (suc j, x, get, a, t)

module _ (globals : List Global) (function : Function) where
  -- a block with phis is reached by an edge of these
  abbrev pub Reach : List Edge → ℕ → ℕ → Type 0
  Reach es at to = no_phis globals function to ≡ false → IsIn es at to

  abbrev pub Named : List Edge → ℕ → List GInst → Type 0
  Named es at code = Every (Arrives globals function (Reach es at)) code

  -- further blocks, by their numbers
  abbrev pub AllNamed : List Edge → ℕ → List (List GInst) → Type 0
  AllNamed es own [] = Unit {0}
  AllNamed es own (code ∷ more) = Named es own code × AllNamed es (own + 1) more

  pub all_both : (es : List Edge) (own : ℕ) (xs ys : List (List GInst)) → AllNamed es own xs → AllNamed es (own + length xs) ys → AllNamed es own (xs ++ ys)
  all_both es own [] ys h h' = subst (λ (n : ℕ). AllNamed es n ys) (let z : own + 0 ≡ own = omega arith in z) h'
  all_both es own (x ∷ xs) ys h h' = (h.0, all_both es (own + 1) xs ys h.1 (subst (λ (n : ℕ). AllNamed es n ys) (let z : own + length (x ∷ xs) ≡ own + 1 + length xs = omega arith in z) h'))

  -- more edges
  Among : List Edge → List Edge → Type 0
  Among es es' = (at to : ℕ) → IsIn es at to → IsIn es' at to

  pub named_more : (es es' : List Edge) (at : ℕ) → ((at to : ℕ) → IsIn es at to → IsIn es' at to) → (code : List GInst) → Named es at code → Named es' at code
  named_more es es' at h code n = every_map (Arrives globals function (Reach es at)) (Arrives globals function (Reach es' at)) code (λ i a. every_map (Reach es at) (Reach es' at) (targets i) (λ to r p. h at to (r p)) a) n

  pub all_more : (es es' : List Edge) (own : ℕ) (blocks : List (List GInst)) → ((at to : ℕ) → IsIn es at to → IsIn es' at to) → AllNamed es own blocks → AllNamed es' own blocks
  all_more es es' own [] h n = tt
  all_more es es' own (x ∷ xs) h n = (named_more es es' own h x n.0, all_more es es' (own + 1) xs h n.1)

  -- no block behind the function's has phis
  past : (blocks : List Block) (k : ℕ) → length blocks ≤ k → slice_get blocks k ≡ None
  past [] k l = refl
  past (x ∷ xs) zero l = absurd (let bad : ⊥ = omega (arith, l) in bad)
  past (x ∷ xs) (suc k) l = past xs k (omega (arith, l))

  far : (k : ℕ) → length function.blocks ≤ k → no_phis globals function k ≡ true
  far k l = ap (λ (o : Option Block). length (phis (insts_of o)) == 0) (past function.blocks k l)

  no_reach : (es : List Edge) (at to : ℕ) → no_phis globals function to ≡ true → Reach es at to
  no_reach es at to e p = absurd (let bad : true ≡ false = sym e ∙ p in let no_way : ⊥ = cc in no_way)

  module _ (from : ℕ) where
    -- a branch goes to blocks without phis
    way_named : (es : List Edge) (at own to : ℕ) → length function.blocks ≤ own → Reach es at (goes_to globals function from own to)
    way_named es at own to l = by_phis (no_phis globals function to) refl
      where
        by_phis : (n : Bool) → no_phis globals function to ≡ n → Reach es at (if n then to else own)
        by_phis true e = no_reach es at to e
        by_phis false e = no_reach es at own (far own l)

    edge_named : (es : List Edge) (at : ℕ) (pool : Pool) (to : ℕ) → IsIn es at to → Named es at (edge_code globals function from pool to)
    edge_named es at pool to h = then_arrive globals function (Reach es at) pool (edge_operands globals function from to) (jump_to to ∷ []) (((λ p. h), tt), tt)

    block_named : (es : List Edge) (own next to : ℕ) → (no_phis globals function to ≡ false → IsIn es own to) → AllNamed es own (edge_blocks globals function from next to)
    block_named es own next to h = by_phis (no_phis globals function to) refl
      where
        by_phis : (n : Bool) → no_phis globals function to ≡ n → AllNamed es own (if n then [] else edge_code globals function from (empty_pool next) to ∷ [])
        by_phis true e = tt
        by_phis false e = (edge_named es own (empty_pool next) to (h e), tt)

    own_takes : (at own to : ℕ) → no_phis globals function to ≡ false → taken_at globals function from at own to ≡ own
    own_takes at own to e = ap (λ (b : Bool). if b then at else own) e

    abbrev EndNamed : ℕ → ℕ → Ending → Type 0
    EndNamed at own e = Named e.edges at e.code × AllNamed e.edges own e.later

    branch_named : (at next own bit if_one if_zero : ℕ) → length function.blocks ≤ own → EndNamed at own (branch globals function from at next own bit if_one if_zero)
    branch_named at next own bit if_one if_zero l =
        let es = (branch globals function from at next own bit if_one if_zero).edges in
        let second = next + length (edge_types globals function from (empty_pool next) if_one) in
        let long = spare_long globals function from next if_one in
        let low : length function.blocks ≤ own + spare globals function if_one = omega (arith, l) in (
          ((way_named es at own if_one l, (way_named es at (own + spare globals function if_one) if_zero low, tt)), tt),
          all_both es own (edge_blocks globals function from next if_one) (edge_blocks globals function from second if_zero)
              (block_named es own next if_one (λ p. (0, edge_of globals function from at next own if_one, refl, own_takes at own if_one p, refl)))
              (subst (λ (n : ℕ). AllNamed es n (edge_blocks globals function from second if_zero)) (let z : own + spare globals function if_one ≡ own + length (edge_blocks globals function from next if_one) = omega (arith, long) in z)
              (block_named es (own + spare globals function if_one) second if_zero (λ p. (1, edge_of globals function from at second (own + spare globals function if_one) if_zero, refl, own_takes at (own + spare globals function if_one) if_zero p, refl)))),
        )

    test_named : (es : List Edge) (at : ℕ) (of : Ty) (r : ℕ) (pool : Pool) (n : ℕ) → Named es at (test_code globals function from of r pool n)
    test_named es at of r pool n = then_arrive globals function (Reach es at) pool ((of, Num n) ∷ []) _ (tt, tt)

    tests_named : (cases : List (ℕ × ℕ)) (of : Ty) (r otherwise at : ℕ) (pool : Pool) (own : ℕ) → length function.blocks ≤ own → EndNamed at own (tests globals function from of r otherwise at pool own cases)
    tests_named [] of r otherwise at pool own l = (edge_named (tests globals function from of r otherwise at pool own []).edges at pool otherwise (0, record { to = otherwise; at = at; uses = _ }, refl, refl, refl), tt)
    tests_named (one ∷ []) of r otherwise at pool own l =
        let bit = (behind_all globals pool ((of, Num one.0) ∷ [])).next in
        let way = branch globals function from at (bit + 1) own bit one.1 otherwise in
        let rest = branch_named at (bit + 1) own bit one.1 otherwise l in
        (every_both (Arrives globals function (Reach way.edges at)) (test_code globals function from of r pool one.0) way.code (test_named way.edges at of r pool one.0) rest.0, rest.1)
    tests_named (one ∷ two ∷ cases) of r otherwise at pool own l =
        let bit = (behind_all globals pool ((of, Num one.0) ∷ [])).next in
        let next = bit + 1 + length (edge_types globals function from (empty_pool (bit + 1)) one.1) in
        let on = own + spare globals function one.1 in
        let rest = tests globals function from of r otherwise on (empty_pool next) (on + 1) (two ∷ cases) in
        let e = edge_of globals function from at (bit + 1) own one.1 in
        let es = e ∷ rest.edges in
        let low : length function.blocks ≤ on = omega (arith, l) in
        let ih = tests_named (two ∷ cases) of r otherwise on (empty_pool next) (on + 1) (omega (arith, l)) in
        let long = spare_long globals function from (bit + 1) one.1 in (
          every_both (Arrives globals function (Reach es at)) (test_code globals function from of r pool one.0) (branch_on bit (goes_to globals function from own one.1) on ∷ []) (test_named es at of r pool one.0)
              ((way_named es at own one.1 l, (no_reach es at on (far on low), tt)), tt),
          all_both es own (edge_blocks globals function from (bit + 1) one.1) (rest.code ∷ rest.later)
              (block_named es own (bit + 1) one.1 (λ p. (0, e, refl, own_takes at own one.1 p, refl)))
              (subst (λ (n : ℕ). AllNamed es n (rest.code ∷ rest.later)) (let z : on ≡ own + length (edge_blocks globals function from (bit + 1) one.1) = omega (arith, long) in z)
              (named_more rest.edges es on (in_later e rest.edges) rest.code ih.0, all_more rest.edges es (on + 1) rest.later (in_later e rest.edges) ih.1)),
        )

    ending_named : (pool : Pool) (own : ℕ) (op : Op) → length function.blocks ≤ own → EndNamed from own (ending_of globals function from pool own op)
    ending_named pool own (Br to) l = (edge_named (ending_of globals function from pool own (Br to)).edges from pool to (0, record { to = to; at = from; uses = _ }, refl, refl, refl), tt)
    ending_named pool own (CondBr x y z) l =
        let rest = branch_named from (behind_all globals pool ((Int 1, x) ∷ [])).next own (first_register (registers globals pool ((Int 1, x) ∷ []))) y z l in
        (then_arrive globals function (Reach (ending_of globals function from pool own (CondBr x y z)).edges from) pool ((Int 1, x) ∷ []) _ rest.0, rest.1)
    ending_named pool own (Switch of a otherwise cases) l =
        let rest = tests_named cases of (first_register (registers globals pool ((of, a) ∷ []))) otherwise from (behind_all globals pool ((of, a) ∷ [])) own l in
        (then_arrive globals function (Reach (ending_of globals function from pool own (Switch of a otherwise cases)).edges from) pool ((of, a) ∷ []) _ rest.0, rest.1)
    ending_named pool own op l = (tt, tt)

    pub insts_named : (insts : List Inst) (value : ℕ) (pool : Pool) (own : ℕ) → length function.blocks ≤ own → EndNamed from own (insts_ending globals function from value pool own insts)
    insts_named [] value pool own l = (tt, tt)
    insts_named (inst ∷ insts) value pool own l =
        by_jump (is_jump inst.op) refl (insts_named insts (if has_result inst then value + 1 else value) (piece_of globals function.ret value pool inst.gives inst.op).pool own l)
      where
        rest : Ending
        rest = insts_ending globals function from (if has_result inst then value + 1 else value) (piece_of globals function.ret value pool inst.gives inst.op).pool own insts

        by_jump : (j : Bool) → is_jump inst.op ≡ j → EndNamed from own (insts_ending globals function from (if has_result inst then value + 1 else value) (piece_of globals function.ret value pool inst.gives inst.op).pool own insts)
            → EndNamed from own (insts_ending globals function from value pool own (inst ∷ insts))
        by_jump true e ih = rw e (ending_named pool own inst.op l)
        by_jump false e ih =
            rw e (every_both (Arrives globals function (Reach rest.edges from)) (piece_of globals function.ret value pool inst.gives inst.op).code rest.code (piece_arrives globals function (Reach rest.edges from) function.ret value pool inst.gives inst.op) ih.0, ih.1)
