-- A state of a function and one of its code, instruction by instruction.
use Rattle.std.proofs.Common.{◌≡◌, refl, sym, ap, subst, ◌∙◌, ℕ, zero, suc, ◌+◌, Bool, true, false, cond, List, [], ◌∷◌, ◌++◌, Some, None, arith}
use Rattle.std.specs.Prelude.{slice_get, drop, take, ◌==◌, if◌then◌else◌}
use Rattle.std.proofs.lemmas.List.{append_assoc}
use Rattle.std.proofs.lemmas.List.Sums.{sum_by-cons}
use Rattle.ir_core.specs.Program.{Program}
use Rattle.ir_core.specs.Units.{has_result, results}
use Rattle.ir_core.specs.declared.types.Ty.{Ty}
use Rattle.ir_core.specs.declared.types.Ty.TheVariants.{Int, Ptr}
use Rattle.ir_core.specs.declared.types.MemTy.{MemTy}
use Rattle.ir_core.specs.declared.code.Operand.{Operand}
use Rattle.ir_core.specs.declared.code.Operand.TheVariants.{Num}
use Rattle.ir_core.specs.declared.code.CastOp.{CastOp}
use Rattle.ir_core.specs.declared.code.CastOp.TheVariants.{Trunc, ZExt, SExt, PtrToInt, IntToPtr, Same}
use Rattle.ir_core.specs.declared.code.BuiltIn.{BuiltIn}
use Rattle.ir_core.specs.declared.code.BuiltIn.TheVariants.{MemCpy, MemMove, MemSet, SMax, SMin, UMax, UMin, Abs}
use Rattle.ir_core.specs.declared.code.Op.{Op}
use Rattle.ir_core.specs.declared.code.Op.TheVariants.{Binary, Icmp, Cast, Select, Freeze, Phi, Alloca, Load, Store, Gep, Call, BuiltIn as CallBuiltIn, Ret, Br, CondBr, Switch, Unreachable}
use Rattle.ir_core.specs.declared.code.Inst.{Inst}
use Rattle.ir_core.specs.declared.program.Function.{Function}
use Rattle.ir_core.specs.declared.program.Global.{Global}
use Rattle.ir_meaning.specs.Value.{Value}
use Rattle.ir_meaning.specs.Memory.{data_start}
use Rattle.ir_meaning.specs.Operators.{width}
use Rattle.ir_meaning.specs.Step as ir
use Rattle.ir_meaning.specs.Step.{function_at, insts_at, number_at}
use Rattle.ir_meaning.specs.Typed.{types, IsTyped}
use Rattle.gmir.specs.declared.code.GType.{GType}
use Rattle.gmir.specs.declared.code.GType.TheVariants.{S}
use Rattle.gmir.specs.declared.code.GInst.{GInst}
use Rattle.gmir.specs.declared.code.GFunction.{GFunction}
use Rattle.gmir.specs.Play as play
use Rattle.gmir.specs.Play.{State}
use Rattle.walks.specs.Walk.{Step}
use Rattle.walks.specs.Simulation.{breaks}
use Rattle.walks.specs.Functions.{Point, step_over_bits}
use Rattle.generic_code.specs.Literals.{Pool, type_of, skip, all_loaded, behind_all}
use Rattle.generic_code.specs.Parts.{Addend, addends_of, in_order, left_of, sum_types, sum_pool}
use Rattle.generic_code.specs.Code.{Piece, piece_of, address, cast, built_in}
use Rattle.generic_code.specs.Edges.{Edge, Ending, no_phis, ending_behind, ending_of}
use Rattle.generic_code.specs.Whole.{is_jump, insts_ending, edges_to}
use Rattle.generic_code.proofs.Loads.{Stand, stand_front, stand_tail, stand_behind, Known, ValuesTyped}
use Rattle.generic_code.proofs.Steps.{Alike, Fol, here_step}
use Rattle.generic_code.proofs.Edges.{IsTaken}
use Rattle.generic_code.proofs.Distances.{IsPath}
use Rattle.generic_code.proofs.Addresses.{left_stand}
use Rattle.generic_code.proofs.Pieces.{by_op}

-- ---- an instruction of a block, and those behind it

pub drop_here : {A : Type 0} (xs : List A) (k : ℕ) (x : A) → slice_get xs k ≡ Some x → drop k xs ≡ x ∷ drop (k + 1) xs
drop_here [] k x e = absurd (let bad : ⊥ = cc in bad)
drop_here {A = A} (y ∷ ys) zero x e = let same : y ≡ x = cc in ap (λ (z : A). z ∷ ys) same
drop_here (y ∷ ys) (suc k) x e = let plus : suc (k + 1) ≡ suc k + 1 = omega arith in drop_here ys k x e ∙ ap (λ (n : ℕ). x ∷ drop n (y ∷ ys)) plus

results_cons : (y : Inst) (ys : List Inst) → results (y ∷ ys) ≡ (if has_result y then 1 else 0) + results ys
results_cons y ys = sum_by-cons (λ (z : Inst). cond (has_result z) 1 0) y ys

take_next : (xs : List Inst) (k : ℕ) (x : Inst) → slice_get xs k ≡ Some x → results (take (k + 1) xs) ≡ results (take k xs) + (if has_result x then 1 else 0)
take_next [] k x e = absurd (let bad : ⊥ = cc in bad)
take_next (y ∷ ys) zero x e =
    let same : y ≡ x = cc in
    results_cons y [] ∙ ap (λ (z : Inst). (if has_result z then 1 else 0) + 0) same ∙ (let w : (if has_result x then 1 else 0) + 0 ≡ 0 + (if has_result x then 1 else 0) = omega arith in w)
take_next (y ∷ ys) (suc k) x e = (let plus : suc k + 1 ≡ suc (k + 1) = omega arith in ap (λ (n : ℕ). results (take n (y ∷ ys))) plus) ∙ results_cons y (take (k + 1) ys) ∙ (let ih = take_next ys k x e in let one = results_cons y (take k ys) in omega (arith, ih, one))

pub number_next : (function : Function) (block place : ℕ) (inst : Inst) → slice_get (insts_at function block) place ≡ Some inst
    → (if has_result inst then number_at function block place + 1 else number_at function block place) ≡ number_at function block (place + 1)
number_next function block place inst e = by_test (has_result inst) (take_next (insts_at function block) place inst e)
  where
    by_test : (b : Bool) → results (take (place + 1) (insts_at function block)) ≡ results (take place (insts_at function block)) + (if b then 1 else 0)
        → (if b then number_at function block place + 1 else number_at function block place) ≡ number_at function block (place + 1)
    by_test true h = omega (arith, h)
    by_test false h = omega (arith, h)

-- ---- the registers behind a piece

module _ (program : Program) (f : GFunction) (tys : List Ty) (values : List Value) (typed : ValuesTyped program f tys values) where
  abbrev gl : List Global
  gl = program.module_.globals

  sum_stand : (all : List Addend) (pool : Pool) (more : List GType) → Stand f.types pool.next (sum_types gl pool all ++ more) → Stand f.types (sum_pool gl pool all).next more
  sum_stand [] pool more st = st
  sum_stand (one ∷ []) pool more st = left_stand program f tys values typed one pool more st
  sum_stand (one ∷ two ∷ rest) pool more st =
      sum_stand (two ∷ rest) (skip 1 (left_of gl one pool).pool) more
      (stand_tail f.types (left_of gl one pool).pool.next _ (sum_types gl (skip 1 (left_of gl one pool).pool) (two ∷ rest) ++ more)
      (left_stand program f tys values typed one pool _ (regroup (left_of gl one pool).types _ more st)))
    where
      regroup : (xs ys zs : List GType) → Stand f.types pool.next ((xs ++ ys) ++ zs) → Stand f.types pool.next (xs ++ (ys ++ zs))
      regroup xs ys zs h = subst (λ (z : List GType). Stand f.types pool.next z) (append_assoc xs ys zs) h

  regrouped : (next : ℕ) (xs ys zs : List GType) → Stand f.types next ((xs ++ ys) ++ zs) → Stand f.types next (xs ++ (ys ++ zs))
  regrouped next xs ys zs h = subst (λ (z : List GType). Stand f.types next z) (append_assoc xs ys zs) h

  module _ (ret : Ty) (value : ℕ) (pool : Pool) (more : List GType) where
    ops_stand : (ops : List (Ty × Operand)) → Stand f.types pool.next (all_loaded gl pool ops ++ more) → Stand f.types (behind_all gl pool ops).next more
    ops_stand ops st = stand_behind gl f.types ops pool more st

    further_stand : (ty : GType) (ops : List (Ty × Operand)) → Stand f.types pool.next ((all_loaded gl pool ops ++ ty ∷ []) ++ more) → Stand f.types (skip 1 (behind_all gl pool ops)).next more
    further_stand ty ops st = stand_tail f.types (behind_all gl pool ops).next ty more (stand_behind gl f.types ops pool (ty ∷ more) (regrouped pool.next (all_loaded gl pool ops) (ty ∷ []) more st))

    absolute_stand : (ty : Ty) (ops : List (Ty × Operand)) → Stand f.types pool.next ((all_loaded gl pool ops ++ type_of ty ∷ S 1 ∷ []) ++ more) → Stand f.types (skip 2 (behind_all gl pool ops)).next more
    absolute_stand ty ops st =
        let one = stand_behind gl f.types ops pool (type_of ty ∷ S 1 ∷ more) (regrouped pool.next (all_loaded gl pool ops) (type_of ty ∷ S 1 ∷ []) more st) in
        let two = stand_tail f.types ((behind_all gl pool ops).next + 1) (S 1) more (stand_tail f.types (behind_all gl pool ops).next (type_of ty) (S 1 ∷ more) one) in
        let e : ((behind_all gl pool ops).next + 1) + 1 ≡ (behind_all gl pool ops).next + 2 = omega arith in
        subst (λ (n : ℕ). Stand f.types n more) e two

    address_stand : (wide : Bool) (ops : List (Ty × Operand)) → Stand f.types pool.next ((address gl wide pool value ops).types ++ more) → Stand f.types (address gl wide pool value ops).pool.next more
    address_stand true ops st = ops_stand ops st
    address_stand false ops st = further_stand (S 64) ops st

    cast_stand : (from : Ty) (a : Operand) (o : CastOp) → Stand f.types pool.next ((cast gl pool value from a o).types ++ more) → Stand f.types (cast gl pool value from a o).pool.next more
    cast_stand from a Trunc st = ops_stand ((from, a) ∷ []) st
    cast_stand from a ZExt st = ops_stand ((from, a) ∷ []) st
    cast_stand from a SExt st = ops_stand ((from, a) ∷ []) st
    cast_stand from a PtrToInt st = ops_stand ((from, a) ∷ []) st
    cast_stand from a IntToPtr st = address_stand (width from == 64) ((from, a) ∷ []) st
    cast_stand from a Same st = ops_stand ((from, a) ∷ []) st

    built_stand : (ty : Ty) (arguments : List (Ty × Operand)) (which : BuiltIn) → Stand f.types pool.next ((built_in gl pool value ty arguments which).types ++ more) → Stand f.types (built_in gl pool value ty arguments which).pool.next more
    built_stand ty arguments MemCpy st = ops_stand (take 3 arguments) st
    built_stand ty arguments MemMove st = ops_stand (take 3 arguments) st
    built_stand ty arguments MemSet st = ops_stand (take 3 arguments) st
    built_stand ty arguments Abs st = absolute_stand ty (take 1 arguments ++ (ty, Num 0) ∷ []) st
    built_stand ty arguments SMax st = further_stand (S 1) arguments st
    built_stand ty arguments SMin st = further_stand (S 1) arguments st
    built_stand ty arguments UMax st = further_stand (S 1) arguments st
    built_stand ty arguments UMin st = further_stand (S 1) arguments st

    pub piece_stand : (ty : Ty) (op : Op) → Stand f.types pool.next ((piece_of gl ret value pool ty op).types ++ more) → Stand f.types (piece_of gl ret value pool ty op).pool.next more
    piece_stand ty (Binary o flags a b) st = ops_stand ((ty, a) ∷ (ty, b) ∷ []) st
    piece_stand ty (Icmp pred flags of a b) st = ops_stand ((of, a) ∷ (of, b) ∷ []) st
    piece_stand ty (Cast o flags from a) st = cast_stand from a o st
    piece_stand ty (Select c a b) st = ops_stand ((Int 1, c) ∷ (ty, a) ∷ (ty, b) ∷ []) st
    piece_stand ty (Freeze a) st = ops_stand ((ty, a) ∷ []) st
    piece_stand ty (Phi pairs) st = st
    piece_stand ty (Alloca of count) st = st
    piece_stand ty (Load address) st = ops_stand ((Ptr, address) ∷ []) st
    piece_stand ty (Store of a address) st = ops_stand ((of, a) ∷ (Ptr, address) ∷ []) st
    piece_stand ty (Gep of base indices) st =
        sum_stand (in_order (addends_of of indices)) (behind_all gl pool ((Ptr, base) ∷ [])) more
        (stand_behind gl f.types ((Ptr, base) ∷ []) pool (sum_types gl (behind_all gl pool ((Ptr, base) ∷ [])) (in_order (addends_of of indices)) ++ more)
        (regrouped pool.next (all_loaded gl pool ((Ptr, base) ∷ [])) (sum_types gl (behind_all gl pool ((Ptr, base) ∷ [])) (in_order (addends_of of indices))) more st))
    piece_stand ty (Call callee arguments) st = ops_stand arguments st
    piece_stand ty (CallBuiltIn which arguments) st = built_stand ty arguments which st
    piece_stand ty (Ret None) st = st
    piece_stand ty (Ret (Some a)) st = ops_stand ((ret, a) ∷ []) st
    piece_stand ty (Br to) st = st
    piece_stand ty (CondBr c a b) st = st
    piece_stand ty (Switch of a otherwise cases) st = st
    piece_stand ty Unreachable st = st

-- ---- related states

module _ (program : Program) (symbol : ℕ) (function : Function) (there : function_at program symbol ≡ Some function) (f : GFunction)
    (typed : ValuesTyped program f (types function) []) (all : List Edge) where
  -- the code of the instructions of a block from a place on
  abbrev pub code_from : ℕ → ℕ → Pool → ℕ → Ending
  code_from block place pool own = insts_ending program.module_.globals function block (number_at function block place) pool own (drop place (insts_at function block))

  -- the phis of an edge's block read on it what it says
  abbrev pub EdgeStands : Edge → Type 0
  EdgeStands edge = no_phis program.module_.globals function edge.to ≡ false → IsTaken edge.at edge (edges_to program.module_.globals function edge.to all)

  abbrev pub AllStand : List Edge → Type 0
  AllStand [] = Unit {0}
  AllStand (edge ∷ edges) = EdgeStands edge × AllStand edges

  -- an ending stands in the code: its further registers, its blocks and its edges
  pub record Stands (pool : Pool) (own : ℕ) (ending : Ending) : Type 0 where
    pub types : Stand f.types pool.next ending.types
    pub later : (k : ℕ) (code : List GInst) → slice_get ending.later k ≡ Some code → play.insts_at f (own + k) ≡ code
    pub edges : AllStand ending.edges

  pub record At (point : Point program symbol) (s : State) : Type 0 where
    pub pool : Pool
    pub own : ℕ
    pub alike : Alike program symbol function there f point.0 point.1 s
    pub known : Known f (types function) pool s.regs
    pub rest : s.rest ≡ (code_from point.0.block point.0.place pool own).code
    pub stands : Stands pool own (code_from point.0.block point.0.place pool own)

  abbrev gl' : List Global
  gl' = program.module_.globals

  abbrev piece_at : ℕ → ℕ → Pool → Inst → Piece
  piece_at block place pool inst = piece_of program.module_.globals function.ret (number_at function block place) pool inst.gives inst.op

  pub code_step : (block place : ℕ) (pool : Pool) (own : ℕ) (inst : Inst) → slice_get (insts_at function block) place ≡ Some inst → is_jump inst.op ≡ false
      → code_from block place pool own
      ≡ ending_behind (piece_at block place pool inst).code (piece_at block place pool inst).types (code_from block (place + 1) (piece_at block place pool inst).pool own)
  code_step block place pool own inst e j =
      ap (insts_ending program.module_.globals function block (number_at function block place) pool own) (drop_here (insts_at function block) place inst e)
      ∙ ap (λ (b : Bool). if b then ending_of program.module_.globals function block pool own inst.op else
      ending_behind (piece_at block place pool inst).code (piece_at block place pool inst).types
      (insts_ending program.module_.globals function block (if has_result inst then number_at function block place + 1 else number_at function block place) (piece_at block place pool inst).pool own (drop (place + 1) (insts_at function block)))) j
      ∙ ap (λ (n : ℕ). ending_behind (piece_at block place pool inst).code (piece_at block place pool inst).types
      (insts_ending program.module_.globals function block n (piece_at block place pool inst).pool own (drop (place + 1) (insts_at function block)))) (number_next function block place inst e)

  pub code_jump : (block place : ℕ) (pool : Pool) (own : ℕ) (inst : Inst) → slice_get (insts_at function block) place ≡ Some inst → is_jump inst.op ≡ true
      → code_from block place pool own ≡ ending_of program.module_.globals function block pool own inst.op
  code_jump block place pool own inst e j =
      ap (insts_ending program.module_.globals function block (number_at function block place) pool own) (drop_here (insts_at function block) place inst e)
      ∙ ap (λ (b : Bool). if b then ending_of program.module_.globals function block pool own inst.op else
      ending_behind (piece_at block place pool inst).code (piece_at block place pool inst).types
      (insts_ending program.module_.globals function block (if has_result inst then number_at function block place + 1 else number_at function block place) (piece_at block place pool inst).pool own (drop (place + 1) (insts_at function block)))) j

  -- what stands behind a piece
  pub stands_behind : (block place : ℕ) (pool : Pool) (own : ℕ) (inst : Inst) (rest : Ending)
      → Stands pool own (ending_behind (piece_at block place pool inst).code (piece_at block place pool inst).types rest) → Stands (piece_at block place pool inst).pool own rest
  stands_behind block place pool own inst rest st = record {
    types = piece_stand program f (types function) [] typed function.ret (number_at function block place) pool rest.types inst.gives inst.op st.types;
    later = st.later;
    edges = st.edges;
  }

  module _ (all_typed : IsTyped program) (end_is : f.end ≡ data_start + program.room)
      (paths : (block place : ℕ) (inst : Inst) (of : MemTy) (base : Operand) (indices : List (Ty × Operand)) → slice_get (insts_at function block) place ≡ Some inst → inst.op ≡ Gep of base indices → IsPath indices of) where
    abbrev pub Follows_at : Point program symbol → State → Type 0
    Follows_at p s = Fol program symbol function there f At (λ q. 0) 0 (here_step program symbol function there f At (λ q. 0) p.0 p.1) (play.step f s)

    -- an instruction that takes no edge
    pub inst_follows : (p : Point program symbol) (s : State) (inst : Inst) → At p s → slice_get (insts_at function p.0.block) p.0.place ≡ Some inst → is_jump inst.op ≡ false → Follows_at p s
    inst_follows p s inst h at j =
        let e = code_step p.0.block p.0.place h.pool h.own inst at j in
        let stands = subst (λ (x : Ending). Stands h.pool h.own x) e h.stands in
        let behind = code_from p.0.block (p.0.place + 1) (piece_at p.0.block p.0.place h.pool inst).pool h.own in
        let rest_is : s.rest ≡ (piece_at p.0.block p.0.place h.pool inst).code ++ behind.code = h.rest ∙ ap (λ (x : Ending). x.code) e in
        subst (λ (code : List GInst). Follows_at p (record s { rest = code })) (sym rest_is)
        (by_op program symbol function there f typed At (λ q. 0) p.0 p.1 s inst h.alike at h.pool h.known behind.code 0 all_typed end_is
        (λ of base indices is. paths p.0.block p.0.place inst of base indices at is) inst.op refl
        ((all_typed.typed symbol function there).insts p.0.block p.0.place inst at) j
        (stand_front f.types h.pool.next (piece_at p.0.block p.0.place h.pool inst).types behind.types stands.types)
        (λ v memory' s' alike known rest. record {
          pool = (piece_at p.0.block p.0.place h.pool inst).pool;
          own = h.own;
          alike = alike;
          known = known;
          rest = rest;
          stands = stands_behind p.0.block p.0.place h.pool h.own inst behind stands;
        }))

    -- where no instruction stands, nothing is asked
    pub none_follows : (p : Point program symbol) (s : State) → At p s → slice_get (insts_at function p.0.block) p.0.place ≡ None → Follows_at p s
    none_follows p s h at =
        let one : here_step program symbol function there f At (λ q. 0) p.0 p.1 ≡ step_over_bits program symbol p.0 p.1 ir.nothing_there =
        ap (step_over_bits program symbol p.0 p.1)
        (ap (λ (k : ℕ). ir.step_in program p.0 p.1 (function_at program k)) h.alike.symbol' ∙ ap (ir.step_in program p.0 p.1) there ∙ ap (ir.step_at program p.0 p.1 function) at) in
        breaks (ap (λ (z : Step (Point program symbol)). z.does) one) (ap (λ (z : Step (Point program symbol)). z.jumps) one)
