-- Where the code of a block jumps: to the blocks that its terminator names, or to further blocks of its own.
use Rattle.std.proofs.Common.{◌≡◌, refl, sym, ap, subst, ℕ, suc, ◌+◌, ◌<◌, ◌≤◌, Bool, true, false, List, [], ◌∷◌, ◌++◌, length, Some, None, arith}
use Rattle.std.specs.Prelude.{slice_get, ◌==◌, if◌then◌else◌}
use Rattle.ir_core.specs.Units.{has_result}
use Rattle.ir_core.specs.declared.types.Ty.{Ty}
use Rattle.ir_core.specs.declared.types.Ty.TheVariants.{Int}
use Rattle.ir_core.specs.declared.code.Operand.{Operand}
use Rattle.ir_core.specs.declared.code.Operand.TheVariants.{Num}
use Rattle.ir_core.specs.declared.code.Op.{Op}
use Rattle.ir_core.specs.declared.code.Op.TheVariants.{Phi, Ret, Br, CondBr, Switch, Unreachable}
use Rattle.ir_core.specs.declared.code.Inst.{Inst}
use Rattle.ir_core.specs.declared.program.Function.{Function}
use Rattle.ir_core.specs.declared.program.Global.{Global}
use Rattle.ir_flow.specs.Code.{targets as op_targets, case_blocks}
use Rattle.ir_meaning.specs.Operators.{width}
use Rattle.ir_verify.proofs.Lists.{Every, every_both}
use Rattle.gmir.specs.declared.code.GOp.{GOp}
use Rattle.gmir.specs.declared.code.GOp.TheVariants as g
use Rattle.gmir.specs.declared.code.GInst.{GInst}
use Rattle.gmir.specs.Formed.{is_branch, targets}
use Rattle.generic_code.specs.Literals.{Pool, loads, registers, behind_all, empty_pool}
use Rattle.generic_code.specs.Parts.{first_register}
use Rattle.generic_code.specs.Code.{address, piece_of}
use Rattle.generic_code.specs.Edges.{Ending, ending_behind, jump_to, branch_on, spare, no_phis, edge_operands, edge_code, edge_types, edge_blocks, goes_to, test_code, branch, tests, ending_of}
use Rattle.generic_code.specs.Whole.{is_jump, insts_ending}
use Rattle.generic_laws.proofs.Inner.{inner, each_inner, loads_then}
use Rattle.generic_laws.proofs.Apart.{spare_long, append_long, spare_one}

module _ (globals : List Global) (function : Function) (Reach : ℕ → Type 0) where
  -- an instruction that jumps to blocks that may be reached
  abbrev pub Arrives : GInst → Type 0
  Arrives i = Every Reach (targets i)

  no_arrow : (i : GInst) → is_branch i.op ≡ false → Arrives i
  no_arrow i e = subst (Every Reach) (sym (ap (λ (b : Bool). if b then i.to else []) e)) tt

  inner_arrives : (i : GInst) → inner i.op ≡ true → Arrives i
  inner_arrives i e = no_arrow i (by_op i.op e)
    where
      by_op : (o : GOp) → inner o ≡ true → is_branch o ≡ false
      by_op g.Br e = absurd (let bad : ⊥ = cc in bad)
      by_op g.BrCond e = absurd (let bad : ⊥ = cc in bad)
      by_op o e = refl

  pub then_arrive : (pool : Pool) (ops : List (Ty × Operand)) (code : List GInst) → Every Arrives code → Every Arrives (loads globals pool ops ++ code)
  then_arrive pool ops code h = loads_then globals Arrives inner_arrives pool ops code h

  address_arrives : (wide : Bool) (value : ℕ) (pool : Pool) (ops : List (Ty × Operand)) → Every Arrives (address globals wide pool value ops).code
  address_arrives true value pool ops = then_arrive pool ops _ (tt, tt)
  address_arrives false value pool ops = then_arrive pool ops _ (tt, (tt, tt))

  pub piece_arrives : (ret : Ty) (value : ℕ) (pool : Pool) (ty : Ty) (op : Op) → Every Arrives (piece_of globals ret value pool ty op).code
  piece_arrives ret value pool ty (Phi pairs) = (tt, tt)
  piece_arrives ret value pool ty (Ret None) = (tt, tt)
  piece_arrives ret value pool ty (Ret (Some a)) = then_arrive pool ((ret, a) ∷ []) _ (tt, tt)
  piece_arrives ret value pool ty (Br to) = (tt, tt)
  piece_arrives ret value pool ty (CondBr x y z) = (tt, tt)
  piece_arrives ret value pool ty (Switch of x otherwise cases) = (tt, tt)
  piece_arrives ret value pool ty Unreachable = (tt, tt)
  piece_arrives ret value pool ty op = each_inner globals Arrives inner_arrives ret value pool ty op refl refl (λ flags from a e. address_arrives (width from == 64) value pool ((from, a) ∷ [])) (λ of count num e. tt)

  module _ (from : ℕ) where
    abbrev pub AllArrive : Ending → Type 0
    AllArrive e = Every Arrives e.code × Every (Every Arrives) e.later

    -- further blocks from one on may be reached
    abbrev pub Own : ℕ → ℕ → Type 0
    Own own count = (k : ℕ) → own ≤ k → k < own + count → Reach k

    edge_arrives : (pool : Pool) (to : ℕ) → Reach to → Every Arrives (edge_code globals function from pool to)
    edge_arrives pool to h = then_arrive pool (edge_operands globals function from to) (jump_to to ∷ []) ((h, tt), tt)

    block_arrives : (next to : ℕ) → Reach to → Every (Every Arrives) (edge_blocks globals function from next to)
    block_arrives next to h = by_phis (no_phis globals function to)
      where
        by_phis : (n : Bool) → Every (Every Arrives) (if n then [] else edge_code globals function from (empty_pool next) to ∷ [])
        by_phis true = tt
        by_phis false = (edge_arrives (empty_pool next) to h, tt)

    way_reached : (own to : ℕ) → Reach to → Own own (spare globals function to) → Reach (goes_to globals function from own to)
    way_reached own to h owns = by_phis (no_phis globals function to) refl
      where
        by_phis : (n : Bool) → no_phis globals function to ≡ n → Reach (if n then to else own)
        by_phis true e = h
        by_phis false e = let one = spare_one globals function to e in owns own (omega arith) (omega (arith, one))

    branch_arrives : (at next own bit if_one if_zero : ℕ) → Reach if_one → Reach if_zero → Own own (length (branch globals function from at next own bit if_one if_zero).later) → AllArrive (branch globals function from at next own bit if_one if_zero)
    branch_arrives at next own bit if_one if_zero h h' owns =
        let second = next + length (edge_types globals function from (empty_pool next) if_one) in
        let one = spare_long globals function from next if_one in
        let two = spare_long globals function from second if_zero in
        let long = append_long globals function (edge_blocks globals function from next if_one) (edge_blocks globals function from second if_zero) in (
          (
            (
              way_reached own if_one h (λ k l l'. owns k l (omega (arith, l', one, long))),
              (way_reached (own + spare globals function if_one) if_zero h' (λ k l l'. owns k (omega (arith, l)) (omega (arith, l', one, two, long))), tt),
            ),
            tt,
          ),
          every_both (Every Arrives) (edge_blocks globals function from next if_one) (edge_blocks globals function from second if_zero) (block_arrives next if_one h) (block_arrives second if_zero h'),
        )

    test_arrives : (of : Ty) (r : ℕ) (pool : Pool) (n : ℕ) → Every Arrives (test_code globals function from of r pool n)
    test_arrives of r pool n = then_arrive pool ((of, Num n) ∷ []) _ (tt, tt)

    tests_arrive : (cases : List (ℕ × ℕ)) (of : Ty) (r otherwise at : ℕ) (pool : Pool) (own : ℕ) → Every Reach (case_blocks cases) → Reach otherwise → Own own (length (tests globals function from of r otherwise at pool own cases).later)
        → AllArrive (tests globals function from of r otherwise at pool own cases)
    tests_arrive [] of r otherwise at pool own h h' owns = (edge_arrives pool otherwise h', tt)
    tests_arrive (one ∷ []) of r otherwise at pool own h h' owns =
        let bit = (behind_all globals pool ((of, Num one.0) ∷ [])).next in
        let rest = branch_arrives at (bit + 1) own bit one.1 otherwise h.0 h' owns in
        (every_both Arrives (test_code globals function from of r pool one.0) (branch globals function from at (bit + 1) own bit one.1 otherwise).code (test_arrives of r pool one.0) rest.0, rest.1)
    tests_arrive (one ∷ two ∷ cases) of r otherwise at pool own h h' owns =
        let bit = (behind_all globals pool ((of, Num one.0) ∷ [])).next in
        let next = bit + 1 + length (edge_types globals function from (empty_pool (bit + 1)) one.1) in
        let on = own + spare globals function one.1 in
        let rest = tests globals function from of r otherwise on (empty_pool next) (on + 1) (two ∷ cases) in
        let own_long = spare_long globals function from (bit + 1) one.1 in
        let long = append_long globals function (edge_blocks globals function from (bit + 1) one.1) (rest.code ∷ rest.later) in
        let ih = tests_arrive (two ∷ cases) of r otherwise on (empty_pool next) (on + 1) h.1 h' (λ k l l'. owns k (omega (arith, l)) (omega (arith, l', own_long, long))) in
        let way = way_reached own one.1 h.0 (λ k l l'. owns k l (omega (arith, l', own_long, long))) in
        let there : Reach on = owns on (omega arith) (omega (arith, own_long, long)) in (
          every_both Arrives (test_code globals function from of r pool one.0) (branch_on bit (goes_to globals function from own one.1) on ∷ []) (test_arrives of r pool one.0) ((way, (there, tt)), tt),
          every_both (Every Arrives) (edge_blocks globals function from (bit + 1) one.1) (rest.code ∷ rest.later) (block_arrives (bit + 1) one.1 h.0) (ih.0, ih.1),
        )

    ending_arrives : (pool : Pool) (own : ℕ) (op : Op) → Every Reach (op_targets op) → Own own (length (ending_of globals function from pool own op).later) → AllArrive (ending_of globals function from pool own op)
    ending_arrives pool own (Br to) h owns = (edge_arrives pool to h.0, tt)
    ending_arrives pool own (CondBr x y z) h owns =
        let rest = branch_arrives from (behind_all globals pool ((Int 1, x) ∷ [])).next own (first_register (registers globals pool ((Int 1, x) ∷ []))) y z h.0 h.1.0 owns in
        (then_arrive pool ((Int 1, x) ∷ []) _ rest.0, rest.1)
    ending_arrives pool own (Switch of a otherwise cases) h owns =
        let rest = tests_arrive cases of (first_register (registers globals pool ((of, a) ∷ []))) otherwise from (behind_all globals pool ((of, a) ∷ [])) own h.1 h.0 owns in
        (then_arrive pool ((of, a) ∷ []) _ rest.0, rest.1)
    ending_arrives pool own op h owns = (tt, tt)

    pub insts_arrive : (insts : List Inst) (value : ℕ) (pool : Pool) (own : ℕ) → ((k : ℕ) (inst : Inst) → slice_get insts k ≡ Some inst → is_jump inst.op ≡ true → Every Reach (op_targets inst.op))
        → Own own (length (insts_ending globals function from value pool own insts).later) → AllArrive (insts_ending globals function from value pool own insts)
    insts_arrive [] value pool own h owns = (tt, tt)
    insts_arrive (inst ∷ insts) value pool own h owns =
        by_jump (is_jump inst.op) refl owns
        (λ owns'. insts_arrive insts (if has_result inst then value + 1 else value) (piece_of globals function.ret value pool inst.gives inst.op).pool own (λ k x e. h (suc k) x e) owns')
      where
        rest : Ending
        rest = insts_ending globals function from (if has_result inst then value + 1 else value) (piece_of globals function.ret value pool inst.gives inst.op).pool own insts

        by_jump : (j : Bool) → is_jump inst.op ≡ j
            → Own own (length (if j then ending_of globals function from pool own inst.op else (let piece = piece_of globals function.ret value pool inst.gives inst.op in
            ending_behind piece.code piece.types (insts_ending globals function from (if has_result inst then value + 1 else value) piece.pool own insts))).later)
            → (Own own (length (insts_ending globals function from (if has_result inst then value + 1 else value) (piece_of globals function.ret value pool inst.gives inst.op).pool own insts).later)
            → AllArrive (insts_ending globals function from (if has_result inst then value + 1 else value) (piece_of globals function.ret value pool inst.gives inst.op).pool own insts))
            → AllArrive (insts_ending globals function from value pool own (inst ∷ insts))
        by_jump true e owns more = rw e (ending_arrives pool own inst.op (h 0 inst refl e) owns)
        by_jump false e owns more =
            let ih = more owns in
            rw e (every_both Arrives (piece_of globals function.ret value pool inst.gives inst.op).code rest.code (piece_arrives function.ret value pool inst.gives inst.op) ih.0, ih.1)
