-- What holds of each instruction of the code of a block, where it holds of all of ordinary operations and of those that make addresses.
use Rattle.std.proofs.Common.{◌≡◌, refl, ℕ, ◌+◌, Bool, true, false, List, [], ◌∷◌, ◌++◌, length, Some, None}
use Rattle.std.specs.Prelude.{◌==◌, if◌then◌else◌}
use Rattle.ir_core.specs.Units.{has_result}
use Rattle.ir_core.specs.declared.types.Ty.{Ty}
use Rattle.ir_core.specs.declared.types.Ty.TheVariants.{Int}
use Rattle.ir_core.specs.declared.types.MemTy.{MemTy}
use Rattle.ir_core.specs.declared.code.Operand.{Operand}
use Rattle.ir_core.specs.declared.code.CastOp.TheVariants as c
use Rattle.ir_core.specs.declared.code.Flags.{Flags}
use Rattle.ir_core.specs.declared.code.Op.{Op}
use Rattle.ir_core.specs.declared.code.Op.TheVariants.{Binary, Icmp, Cast, Select, Freeze, Phi, Alloca, Load, Store, Gep, Call, BuiltIn as CallBuiltIn, Ret, Br, CondBr, Switch, Unreachable}
use Rattle.ir_core.specs.declared.code.Inst.{Inst}
use Rattle.ir_core.specs.declared.program.Function.{Function}
use Rattle.ir_core.specs.declared.program.Global.{Global}
use Rattle.ir_meaning.specs.Operators.{width}
use Rattle.ir_verify.proofs.Lists.{Every, every_both}
use Rattle.gmir.specs.declared.code.GOp.{GOp}
use Rattle.gmir.specs.declared.code.GOp.TheVariants as g
use Rattle.gmir.specs.declared.code.GInst.{GInst}
use Rattle.generic_code.specs.Literals.{Pool, plain, loads, registers, behind_all}
use Rattle.generic_code.specs.Parts.{first_register}
use Rattle.generic_code.specs.Code.{one, address, piece_of}
use Rattle.generic_code.specs.Edges.{Ending, spare, edge_types, jump_to, edge_operands, edge_code, edge_blocks, no_phis, case_operand, test_code, branch, tests, ending_of}
use Rattle.generic_code.specs.Literals.{empty_pool}
use Rattle.generic_code.specs.Whole.{is_jump, insts_ending}
use Rattle.generic_laws.proofs.Inner.{inner, each_inner, loads_then as inner_loads}

-- an operation that is neither a phi nor a parameter, and neither makes an address of a number nor takes data
abbrev pub ordinary : GOp → Bool
ordinary g.Phi = false
ordinary g.Param = false
ordinary g.IntToPtr = false
ordinary g.TakeData = false
ordinary _ = true

module _ (globals : List Global) (P : GInst → Type 0) (ok : (i : GInst) → ordinary i.op ≡ true → P i) where
  -- what is inner is ordinary
  inner_ok : (i : GInst) → inner i.op ≡ true → P i
  inner_ok i e = ok i (by_op i.op e)
    where
      by_op : (o : GOp) → inner o ≡ true → ordinary o ≡ true
      by_op g.Phi e = absurd (let bad : ⊥ = cc in bad)
      by_op g.Param e = absurd (let bad : ⊥ = cc in bad)
      by_op g.IntToPtr e = absurd (let bad : ⊥ = cc in bad)
      by_op g.TakeData e = absurd (let bad : ⊥ = cc in bad)
      by_op o e = refl

  pub loads_then : (pool : Pool) (ops : List (Ty × Operand)) (code : List GInst) → Every P code → Every P (loads globals pool ops ++ code)
  loads_then pool ops code h = inner_loads globals P inner_ok pool ops code h

  -- ---- each instruction

  pub each_piece : (ret : Ty) (value : ℕ) (pool : Pool) (ty : Ty) (op : Op)
      → ((flags : Flags) (from : Ty) (a : Operand) → op ≡ Cast c.IntToPtr flags from a → Every P (address globals (width from == 64) pool value ((from, a) ∷ [])).code)
      → ((of : MemTy) (count num : ℕ) → op ≡ Alloca of count → P (plain g.TakeData (value ∷ []) [] num)) → Every P (piece_of globals ret value pool ty op).code
  each_piece ret value pool ty (Phi pairs) h data' = (ok _ refl, tt)
  each_piece ret value pool ty (Ret None) h data' = (ok _ refl, tt)
  each_piece ret value pool ty (Ret (Some a)) h data' = loads_then pool ((ret, a) ∷ []) _ (ok _ refl, tt)
  each_piece ret value pool ty (Br to) h data' = (ok _ refl, tt)
  each_piece ret value pool ty (CondBr x y z) h data' = (ok _ refl, tt)
  each_piece ret value pool ty (Switch of x otherwise cases) h data' = (ok _ refl, tt)
  each_piece ret value pool ty Unreachable h data' = (ok _ refl, tt)
  each_piece ret value pool ty op h data' = each_inner globals P inner_ok ret value pool ty op refl refl h data'

  -- ---- ends of blocks

  module _ (function : Function) (from : ℕ) where
    pub each_edge : (pool : Pool) (to : ℕ) → Every P (edge_code globals function from pool to)
    each_edge pool to = loads_then pool (edge_operands globals function from to) _ (ok (jump_to to) refl, tt)

    each_edge_block : (t : Bool) (next to : ℕ) → Every (Every P) (if t then [] else edge_code globals function from (empty_pool next) to ∷ [])
    each_edge_block true next to = tt
    each_edge_block false next to = (each_edge (empty_pool next) to, tt)

    -- in the code and in the further blocks of an ending
    abbrev pub EachOf : Ending → Type 0
    EachOf e = Every P e.code × Every (Every P) e.later

    each_branch : (at next own bit if_one if_zero : ℕ) → EachOf (branch globals function from at next own bit if_one if_zero)
    each_branch at next own bit if_one if_zero = (
      (ok _ refl, tt),
      every_both (Every P) (edge_blocks globals function from next if_one) _ (each_edge_block (no_phis globals function if_one) next if_one) (each_edge_block (no_phis globals function if_zero) _ if_zero),
    )

    each_test : (of : Ty) (r : ℕ) (pool : Pool) (n : ℕ) → Every P (test_code globals function from of r pool n)
    each_test of r pool n = loads_then pool (case_operand globals function from of n) _ (ok _ refl, tt)

    each_tests : (cases : List (ℕ × ℕ)) (of : Ty) (r otherwise at : ℕ) (pool : Pool) (own : ℕ) → EachOf (tests globals function from of r otherwise at pool own cases)
    each_tests [] of r otherwise at pool own = (each_edge pool otherwise, tt)
    each_tests (one ∷ []) of r otherwise at pool own =
        let rest = each_branch at ((behind_all globals pool (case_operand globals function from of one.0)).next + 1) own ((behind_all globals pool (case_operand globals function from of one.0)).next) one.1 otherwise in
        (every_both P (test_code globals function from of r pool one.0) _ (each_test of r pool one.0) rest.0, rest.1)
    each_tests (one ∷ two ∷ cases) of r otherwise at pool own =
        let bit = (behind_all globals pool (case_operand globals function from of one.0)).next in
        let behind = own + spare globals function one.1 in
        let rest = each_tests (two ∷ cases) of r otherwise behind (empty_pool (bit + 1 + length (edge_types globals function from (empty_pool (bit + 1)) one.1))) (behind + 1) in (
          every_both P (test_code globals function from of r pool one.0) _ (each_test of r pool one.0) (ok _ refl, tt),
          every_both (Every P) (edge_blocks globals function from (bit + 1) one.1) _ (each_edge_block (no_phis globals function one.1) (bit + 1) one.1) (rest.0, rest.1),
        )

    pub each_ending : (pool : Pool) (own : ℕ) (op : Op) → is_jump op ≡ true → EachOf (ending_of globals function from pool own op)
    each_ending pool own (Br to) j = (each_edge pool to, tt)
    each_ending pool own (CondBr x y z) j =
        let rest = each_branch from (behind_all globals pool ((Int 1, x) ∷ [])).next own (first_register (registers globals pool ((Int 1, x) ∷ []))) y z in
        (loads_then pool ((Int 1, x) ∷ []) _ rest.0, rest.1)
    each_ending pool own (Switch of a otherwise cases) j =
        let rest = each_tests cases of (first_register (registers globals pool ((of, a) ∷ []))) otherwise from (behind_all globals pool ((of, a) ∷ [])) own in
        (loads_then pool ((of, a) ∷ []) _ rest.0, rest.1)
    each_ending pool own (Binary o flags x y) j = absurd (let bad : ⊥ = cc in bad)
    each_ending pool own (Icmp pred flags of x y) j = absurd (let bad : ⊥ = cc in bad)
    each_ending pool own (Cast o flags of x) j = absurd (let bad : ⊥ = cc in bad)
    each_ending pool own (Select x y z) j = absurd (let bad : ⊥ = cc in bad)
    each_ending pool own (Freeze x) j = absurd (let bad : ⊥ = cc in bad)
    each_ending pool own (Phi pairs) j = absurd (let bad : ⊥ = cc in bad)
    each_ending pool own (Alloca of count) j = absurd (let bad : ⊥ = cc in bad)
    each_ending pool own (Load x) j = absurd (let bad : ⊥ = cc in bad)
    each_ending pool own (Store of x y) j = absurd (let bad : ⊥ = cc in bad)
    each_ending pool own (Gep of base indices) j = absurd (let bad : ⊥ = cc in bad)
    each_ending pool own (Call callee arguments) j = absurd (let bad : ⊥ = cc in bad)
    each_ending pool own (CallBuiltIn which arguments) j = absurd (let bad : ⊥ = cc in bad)
    each_ending pool own (Ret a) j = absurd (let bad : ⊥ = cc in bad)
    each_ending pool own Unreachable j = absurd (let bad : ⊥ = cc in bad)

    -- where it holds of all addresses that are made of numbers, and of what takes data
    module _ (all : (d r : ℕ) → P (plain g.IntToPtr (d ∷ []) (r ∷ []) 0)) (data' : (d num : ℕ) → P (plain g.TakeData (d ∷ []) [] num)) where
      each_address : (t : Bool) (pool : Pool) (value : ℕ) (from : Ty) (a : Operand) → Every P (address globals t pool value ((from, a) ∷ [])).code
      each_address true pool value from a = loads_then pool ((from, a) ∷ []) _ (all value _, tt)
      each_address false pool value from a = loads_then pool ((from, a) ∷ []) _ (ok _ refl, (all value _, tt))

      pub each_insts : (value : ℕ) (pool : Pool) (own : ℕ) (insts : List Inst) → EachOf (insts_ending globals function from value pool own insts)
      each_insts value pool own [] = (tt, tt)
      each_insts value pool own (inst ∷ insts) =
          by_jump (is_jump inst.op) refl (each_piece function.ret value pool inst.gives inst.op (λ flags ty a e. each_address (width ty == 64) pool value ty a) (λ of count num e. data' value num))
          (each_insts (if has_result inst then value + 1 else value) (piece_of globals function.ret value pool inst.gives inst.op).pool own insts)
        where
          rest : Ending
          rest = insts_ending globals function from (if has_result inst then value + 1 else value) (piece_of globals function.ret value pool inst.gives inst.op).pool own insts

          by_jump : (j : Bool) → is_jump inst.op ≡ j → Every P (piece_of globals function.ret value pool inst.gives inst.op).code
              → EachOf (insts_ending globals function from (if has_result inst then value + 1 else value) (piece_of globals function.ret value pool inst.gives inst.op).pool own insts)
              → EachOf (insts_ending globals function from value pool own (inst ∷ insts))
          by_jump true e h ih = rw e (each_ending pool own inst.op e)
          by_jump false e h ih = rw e (every_both P (piece_of globals function.ret value pool inst.gives inst.op).code rest.code h ih.0, ih.1)
