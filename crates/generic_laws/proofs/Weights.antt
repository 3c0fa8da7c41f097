-- What the code of a block weighs: at most 256 for each unit of its instructions, and 28 for each phi on each of its edges.
use Rattle.std.proofs.Common.{◌≡◌, refl, sym, ap, subst, ◌∙◌, ℕ, zero, suc, ◌+◌, ◌*◌, ◌≤◌, Bool, true, false, List, [], ◌∷◌, ◌++◌, length, map, Option, Some, None, arith}
use Rattle.std.specs.Prelude.{◌==◌, take, sum_by, if◌then◌else◌}
use Rattle.std.proofs.lemmas.List.Sums.{sum_by-cons}
use Rattle.ir_core.specs.Program.{Program}
use Rattle.ir_core.specs.Units.{units, parts_in, types_of_arguments, has_result, is_result}
use Rattle.ir_core.specs.declared.types.Ty.{Ty}
use Rattle.ir_core.specs.declared.types.Ty.TheVariants.{Int, Ptr}
use Rattle.ir_core.specs.declared.types.MemTy.{MemTy}
use Rattle.ir_core.specs.declared.code.Operand.{Operand}
use Rattle.ir_core.specs.declared.code.Operand.TheVariants.{Num}
use Rattle.ir_core.specs.declared.code.BinOp.{BinOp}
use Rattle.ir_core.specs.declared.code.BinOp.TheVariants as b
use Rattle.ir_core.specs.declared.code.CastOp.{CastOp}
use Rattle.ir_core.specs.declared.code.CastOp.TheVariants as c
use Rattle.ir_core.specs.declared.code.BuiltIn.{BuiltIn}
use Rattle.ir_core.specs.declared.code.BuiltIn.TheVariants.{MemCpy, MemMove, MemSet, SMax, SMin, UMax, UMin, Abs}
use Rattle.ir_core.specs.declared.code.Op.{Op}
use Rattle.ir_core.specs.declared.code.Op.TheVariants.{Binary, Icmp, Cast, Select, Freeze, Phi, Alloca, Load, Store, Gep, Call, BuiltIn as CallBuiltIn, Ret, Br, CondBr, Switch, Unreachable}
use Rattle.ir_core.specs.declared.code.Inst.{Inst}
use Rattle.ir_core.specs.declared.program.Function.{Function}
use Rattle.ir_core.specs.declared.program.Global.{Global}
use Rattle.ir_meaning.specs.Memory.{byte_count}
use Rattle.ir_meaning.specs.Operators.{width}
use Rattle.ir_meaning.specs.Typed.{types, IsOp, IsOperand, IsBuiltIn, AreIndices, IsTyped}
use Rattle.ir_verify.proofs.Lists.{Every}
use Rattle.gmir.specs.declared.code.GType.{GType}
use Rattle.gmir.specs.declared.code.GOp.{GOp}
use Rattle.gmir.specs.declared.code.GOp.TheVariants as g
use Rattle.gmir.specs.declared.code.GInst.{GInst}
use Rattle.gmir.specs.declared.code.GFunction.{GFunction}
use Rattle.gmir.specs.Play as play
use Rattle.gmir.specs.Play.{State, Computes, kind, weight, is_phi, is_legal, op_weight}
use Rattle.gmir.specs.Refines.{static_of, static_of_block}
use Rattle.walks.specs.Walk.{Step, Goes}
use Rattle.walks.specs.Registers.{Registers, write, put}
use Rattle.walks.specs.Simulation.{Chain, here, further}
use Rattle.generic_code.specs.Literals.{Pool, plain, constant, literal, scalar_width, find, write_code, load, loads, all_loaded, registers, behind, behind_all, register_of, empty_pool}
use Rattle.generic_code.specs.Parts.{addends_of, in_order, sum_code, sum_types, first_register}
use Rattle.generic_code.specs.Code.{binary_op, predicate, chooses, one, address, cast, choice, negated, built_in, piece_of, result}
use Rattle.generic_code.specs.Edges.{Ending, ending_behind, jump_to, branch_on, heads, phi_operand, edge_operands, no_phis, spare, edge_code, edge_types, edge_blocks, goes_to, test_code, branch, tests, ending_of}
use Rattle.generic_code.specs.Whole.{is_jump, insts_ending}
use Rattle.generic_code.proofs.Loads.{Stand, stand_front, Known, ValuesTyped, by_most}
use Rattle.generic_code.proofs.Pieces.{two_of}
use Rattle.generic_code.proofs.Distances.{times_of, order_length}
use Rattle.generic_code.proofs.Flow.{piece_stand}
use Rattle.generic_laws.proofs.Sums.{summing, each_sum}
use Rattle.generic_laws.proofs.Typing.{Has, sum_state, base_run, piece_held}
use Rattle.generic_laws.proofs.Along.{Along}
use Rattle.generic_laws.proofs.Counts.{heads_on}

append_long : {A : Type 0} (xs ys : List A) → length (xs ++ ys) ≡ length xs + length ys
append_long [] ys = omega arith
append_long (x ∷ xs) ys = let ih = append_long xs ys in omega (arith, ih)

same_goes : (s s' : State) → Goes s ≡ Goes s' → s ≡ s'
same_goes s s' e = cc

-- ---- the weight of code

module _ (types' : List GType) where
  abbrev pub weigh : List GInst → ℕ
  weigh [] = 0
  weigh (i ∷ is) = static_of types' i + weigh is

  pub weigh_both : (xs ys : List GInst) → weigh (xs ++ ys) ≡ weigh xs + weigh ys
  weigh_both [] ys = omega arith
  weigh_both (x ∷ xs) ys = let ih = weigh_both xs ys in omega (arith, ih)

  pub weigh_is : (is : List GInst) → static_of_block types' is ≡ weigh is
  weigh_is [] = refl
  weigh_is (i ∷ is) = let sum = sum_by-cons (static_of types') i is in let ih = weigh_is is in omega (arith, sum, ih)

  abbrev pub weigh_all : List (List GInst) → ℕ
  weigh_all [] = 0
  weigh_all (is ∷ blocks) = weigh is + weigh_all blocks

  pub weigh_all_both : (xs ys : List (List GInst)) → weigh_all (xs ++ ys) ≡ weigh_all xs + weigh_all ys
  weigh_all_both [] ys = omega arith
  weigh_all_both (x ∷ xs) ys = let ih = weigh_all_both xs ys in omega (arith, ih)

  -- an instruction that isn't a phi
  plain_static : (i : GInst) → is_phi i.op ≡ false → static_of types' i ≡ weight types' i
  plain_static i e = ap (λ (b : Bool). if b then length i.uses * weight types' i else weight types' i) e

  -- ---- the literals of operands

  write_weigh : (o : Option ℕ) (next n : ℕ) → weigh (write_code o next n) ≤ 24
  write_weigh None next n = let light = by_most (is_legal types' (constant next n)) 12 24 24 (omega arith) (omega arith) in omega (arith, light)
  write_weigh (Some r) next n = omega arith

  load_weigh : (o : Option ℕ) (ty : Ty) (pool : Pool) → weigh (load o ty pool) ≤ 24
  load_weigh None ty pool = omega arith
  load_weigh (Some n) ty pool = write_weigh (find pool (scalar_width ty, n)) pool.next n

  module _ (globals : List Global) where
    pub loads_weigh : (pool : Pool) (ops : List (Ty × Operand)) → weigh (loads globals pool ops) ≤ 24 * length ops
    loads_weigh pool [] = omega arith
    loads_weigh pool (one ∷ more) =
        let first = load_weigh (literal globals one.1) one.0 pool in
        let rest = loads_weigh (behind (literal globals one.1) one.0 pool) more in
        let both = weigh_both (load (literal globals one.1) one.0 pool) (loads globals (behind (literal globals one.1) one.0 pool) more) in
        omega (arith, first, rest, both)

    pub loads_weigh_then : (pool : Pool) (ops : List (Ty × Operand)) (code : List GInst) → weigh (loads globals pool ops ++ code) ≤ 24 * length ops + weigh code
    loads_weigh_then pool ops code = let first = loads_weigh pool ops in let both = weigh_both (loads globals pool ops) code in omega (arith, first, both)

    -- operands, and an instruction of at most this weight
    one_weigh : (pool : Pool) (ops : List (Ty × Operand)) (op : GOp) (defs : List ℕ) (num : ℕ) (to : List ℕ) (most : ℕ) → is_phi op ≡ false → ((legal : Bool) → op_weight op legal (length (registers globals pool ops)) ≤ most)
        → weigh (one globals pool ops op defs num to).code ≤ 24 * length ops + most
    one_weigh pool ops op defs num to most e light =
        let i : GInst = record { op = op; defs = defs; uses = registers globals pool ops; num = num; to = to } in
        let single = plain_static i e in
        let low = light (is_legal types' i) in
        let all = loads_weigh_then pool ops (record { op = op; defs = defs; uses = registers globals pool ops; num = num; to = to } ∷ []) in
        omega (arith, single, low, all)

    registers_many : (pool : Pool) (ops : List (Ty × Operand)) → length (registers globals pool ops) ≡ length ops
    registers_many pool [] = refl
    registers_many pool (one ∷ more) = ap suc (registers_many (behind (literal globals one.1) one.0 pool) more)

    -- ---- pieces

    binary_phi : (o : BinOp) → is_phi (binary_op o) ≡ false
    binary_phi b.Add = refl
    binary_phi b.Sub = refl
    binary_phi b.Mul = refl
    binary_phi b.UDiv = refl
    binary_phi b.SDiv = refl
    binary_phi b.URem = refl
    binary_phi b.SRem = refl
    binary_phi b.Shl = refl
    binary_phi b.LShr = refl
    binary_phi b.AShr = refl
    binary_phi b.And = refl
    binary_phi b.Or = refl
    binary_phi b.Xor = refl

    binary_light : (o : BinOp) (n : ℕ) (legal : Bool) → op_weight (binary_op o) legal n ≤ 184
    binary_light b.Add n legal = by_most legal 24 160 184 (omega arith) (omega arith)
    binary_light b.Sub n legal = by_most legal 24 160 184 (omega arith) (omega arith)
    binary_light b.Mul n legal = by_most legal 40 184 184 (omega arith) (omega arith)
    binary_light b.UDiv n legal = by_most legal 40 184 184 (omega arith) (omega arith)
    binary_light b.SDiv n legal = by_most legal 40 184 184 (omega arith) (omega arith)
    binary_light b.URem n legal = by_most legal 40 184 184 (omega arith) (omega arith)
    binary_light b.SRem n legal = by_most legal 40 184 184 (omega arith) (omega arith)
    binary_light b.Shl n legal = by_most legal 24 160 184 (omega arith) (omega arith)
    binary_light b.LShr n legal = by_most legal 24 160 184 (omega arith) (omega arith)
    binary_light b.AShr n legal = by_most legal 24 160 184 (omega arith) (omega arith)
    binary_light b.And n legal = by_most legal 24 160 184 (omega arith) (omega arith)
    binary_light b.Or n legal = by_most legal 24 160 184 (omega arith) (omega arith)
    binary_light b.Xor n legal = by_most legal 24 160 184 (omega arith) (omega arith)

    address_weigh : (wide : Bool) (pool : Pool) (value : ℕ) (from : Ty) (a : Operand) → weigh (address globals wide pool value ((from, a) ∷ [])).code ≤ 256
    address_weigh true pool value from a = let all = one_weigh pool ((from, a) ∷ []) g.IntToPtr (value ∷ []) 0 [] 36 refl (λ legal. by_most legal 12 36 36 (omega arith) (omega arith)) in omega (arith, all)
    address_weigh false pool value from a =
        let next = (behind_all globals pool ((from, a) ∷ [])).next in
        let first : GInst = plain g.ZExt (next ∷ []) (registers globals pool ((from, a) ∷ [])) 0 in
        let second : GInst = plain g.IntToPtr (value ∷ []) (next ∷ []) 0 in
        let all = loads_weigh_then pool ((from, a) ∷ []) (plain g.ZExt ((behind_all globals pool ((from, a) ∷ [])).next ∷ []) (registers globals pool ((from, a) ∷ [])) 0 ∷ plain g.IntToPtr (value ∷ []) ((behind_all globals pool ((from, a) ∷ [])).next ∷ []) 0 ∷ []) in
        let light = by_most (is_legal types' first) 24 72 72 (omega arith) (omega arith) in
        let light' = by_most (is_legal types' second) 12 36 36 (omega arith) (omega arith) in
        omega (arith, all, light, light')

    cast_weigh : (pool : Pool) (value : ℕ) (from : Ty) (a : Operand) (o : CastOp) → weigh (cast globals pool value from a o).code ≤ 256
    cast_weigh pool value from a c.Trunc = let all = one_weigh pool ((from, a) ∷ []) g.Trunc (value ∷ []) 0 [] 36 refl (λ legal. by_most legal 12 36 36 (omega arith) (omega arith)) in omega (arith, all)
    cast_weigh pool value from a c.ZExt = let all = one_weigh pool ((from, a) ∷ []) g.ZExt (value ∷ []) 0 [] 72 refl (λ legal. by_most legal 24 72 72 (omega arith) (omega arith)) in omega (arith, all)
    cast_weigh pool value from a c.SExt = let all = one_weigh pool ((from, a) ∷ []) g.SExt (value ∷ []) 0 [] 72 refl (λ legal. by_most legal 24 72 72 (omega arith) (omega arith)) in omega (arith, all)
    cast_weigh pool value from a c.PtrToInt = let all = one_weigh pool ((from, a) ∷ []) g.PtrToInt (value ∷ []) 0 [] 36 refl (λ legal. by_most legal 12 36 36 (omega arith) (omega arith)) in omega (arith, all)
    cast_weigh pool value from a c.IntToPtr = address_weigh (width from == 64) pool value from a
    cast_weigh pool value from a c.Same = let all = one_weigh pool ((from, a) ∷ []) g.Copy (value ∷ []) 0 [] 36 refl (λ legal. by_most legal 12 36 36 (omega arith) (omega arith)) in omega (arith, all)

    choice_weigh : (pool : Pool) (value : ℕ) (ops : List (Ty × Operand)) (place : ℕ) → weigh (choice globals pool value ops place).code ≤ 24 * length ops + (152 + 184)
    choice_weigh pool value ops place =
        let next = (behind_all globals pool ops).next in
        let first : GInst = plain g.Icmp (next ∷ []) (registers globals pool ops) place in
        let second : GInst = plain g.Select (value ∷ []) (next ∷ registers globals pool ops) 0 in
        let all = loads_weigh_then pool ops (plain g.Icmp ((behind_all globals pool ops).next ∷ []) (registers globals pool ops) place ∷ plain g.Select (value ∷ []) ((behind_all globals pool ops).next ∷ registers globals pool ops) 0 ∷ []) in
        let light = by_most (is_legal types' first) 44 152 152 (omega arith) (omega arith) in
        let light' = by_most (is_legal types' second) 96 184 184 (omega arith) (omega arith) in
        omega (arith, all, light, light')

    negated_weigh : (next value : ℕ) (rs : List ℕ) → weigh (negated globals next value rs) ≤ 160 + 152 + 184
    negated_weigh next value [] = omega arith
    negated_weigh next value (a ∷ []) = omega arith
    negated_weigh next value (a ∷ none ∷ more) =
        let light = by_most (is_legal types' (plain g.Sub (next ∷ []) (none ∷ a ∷ []) 0)) 24 160 160 (omega arith) (omega arith) in
        let light' = by_most (is_legal types' (plain g.Icmp ((next + 1) ∷ []) (a ∷ none ∷ []) 8)) 44 152 152 (omega arith) (omega arith) in
        let light'' = by_most (is_legal types' (plain g.Select (value ∷ []) ((next + 1) ∷ next ∷ a ∷ []) 0)) 96 184 184 (omega arith) (omega arith) in
        omega (arith, light, light', light'')

    three_most : (n : ℕ) (xs : List (Ty × Operand)) → length (take n xs) ≤ n
    three_most zero [] = omega arith
    three_most zero (x ∷ xs) = omega arith
    three_most (suc n) [] = omega arith
    three_most (suc n) (x ∷ xs) = let ih = three_most n xs in omega (arith, ih)

    bytes_weigh : (pool : Pool) (ops : List (Ty × Operand)) (op : GOp) → is_phi op ≡ false → ((n : ℕ) (legal : Bool) → op_weight op legal n ≤ 160) → weigh (one globals pool (take 3 ops) op [] 0 []).code ≤ 256
    bytes_weigh pool ops op e light = let all = one_weigh pool (take 3 ops) op [] 0 [] 160 e (λ legal. light (length (registers globals pool (take 3 ops))) legal) in let few = three_most 3 ops in omega (arith, all, few)

    two_long : (ty ty' : Ty) (ops : List (Ty × Operand)) → types_of_arguments ops ≡ ty ∷ ty' ∷ [] → length ops ≡ 2
    two_long ty ty' ops e = let two = two_of ops ty ty' e in ap length two.is

    built_weigh : (pool : Pool) (value : ℕ) (ty : Ty) (arguments : List (Ty × Operand)) (which : BuiltIn) → IsBuiltIn which (types_of_arguments arguments) ty → weigh (built_in globals pool value ty arguments which).code ≤ 256 * (1 + length arguments)
    built_weigh pool value ty arguments MemCpy is = let all = bytes_weigh pool arguments g.CopyBytes refl (λ n legal. by_most legal 64 160 160 (omega arith) (omega arith)) in omega (arith, all)
    built_weigh pool value ty arguments MemMove is = let all = bytes_weigh pool arguments g.CopyBytes refl (λ n legal. by_most legal 64 160 160 (omega arith) (omega arith)) in omega (arith, all)
    built_weigh pool value ty arguments MemSet is = let all = bytes_weigh pool arguments g.FillBytes refl (λ n legal. by_most legal 64 160 160 (omega arith) (omega arith)) in omega (arith, all)
    built_weigh pool value ty arguments SMax is = let long = two_long ty ty arguments is.0 in let all = choice_weigh pool value arguments (chooses SMax) in omega (arith, long, all)
    built_weigh pool value ty arguments SMin is = let long = two_long ty ty arguments is.0 in let all = choice_weigh pool value arguments (chooses SMin) in omega (arith, long, all)
    built_weigh pool value ty arguments UMax is = let long = two_long ty ty arguments is.0 in let all = choice_weigh pool value arguments (chooses UMax) in omega (arith, long, all)
    built_weigh pool value ty arguments UMin is = let long = two_long ty ty arguments is.0 in let all = choice_weigh pool value arguments (chooses UMin) in omega (arith, long, all)
    built_weigh pool value ty arguments Abs is =
        let long = two_long ty (Int 1) arguments is.0 in
        let ops : List (Ty × Operand) = take 1 arguments ++ (ty, Num 0) ∷ [] in
        let few = three_most 1 arguments in
        let both = append_long (take 1 arguments) ((ty, Num 0) ∷ []) in
        let turned = negated_weigh (behind_all globals pool ops).next value (registers globals pool ops) in
        let all = loads_weigh_then pool (take 1 arguments ++ (ty, Num 0) ∷ []) (negated globals (behind_all globals pool (take 1 arguments ++ (ty, Num 0) ∷ [])).next value (registers globals pool (take 1 arguments ++ (ty, Num 0) ∷ []))) in
        omega (arith, long, few, both, turned, all)

-- ---- code that computes weighs what its steps weigh

module _ (f : GFunction) where
  computes : (i : GInst) → summing i.op ≡ true → kind i.op ≡ Computes
  computes i e = by_op i.op e
    where
      by_op : (o : GOp) → summing o ≡ true → kind o ≡ Computes
      by_op g.Constant e = refl
      by_op g.SExt e = refl
      by_op g.Shl e = refl
      by_op g.Mul e = refl
      by_op g.PtrAdd e = refl
      by_op g.Copy e = refl
      by_op o e = absurd (let bad : ⊥ = cc in bad)

  no_phi : (o : GOp) → kind o ≡ Computes → is_phi o ≡ false
  no_phi g.Phi e = absurd (let bad : ⊥ = cc in bad)
  no_phi o e = refl

  longer_not : (code r : List GInst) → code ++ r ≡ r → length code ≡ 0
  longer_not code r e = let both = append_long code r in let same : length (code ++ r) ≡ length r = ap length e in omega (arith, both, same)

  none_weighs : (code : List GInst) → length code ≡ 0 → weigh f.types code ≡ 0
  none_weighs [] e = refl
  none_weighs (i ∷ code) e = absurd (let bad : ⊥ = omega (arith, e) in bad)

  chain_weighs : (code : List GInst) → Every (λ (i : GInst). kind i.op ≡ Computes) code → {st before : Step State} {w j : ℕ} → Chain State (play.step f) st before w j
      → (s : State) (r : List GInst) → st ≡ play.step f (record s { rest = code ++ r }) → (s' : State) → before.does ≡ Goes s' → s'.rest ≡ r → weigh f.types code ≤ w + before.weight
  chain_weighs [] every chain s r is s' goes rest = omega arith
  chain_weighs (i ∷ code) every {before = before} (here {st = st}) s r is s' goes rest =
      let now : State = record s { rest = i ∷ (code ++ r) } in
      let does : play.step f now ≡ play.plain f now i (code ++ r) (play.give f now i (code ++ r) (play.result f now i (code ++ r))) = ap (play.by_kind f now i (code ++ r)) every.0 in
      let all = is ∙ does in
      let weighs : st.weight ≡ weight f.types i = ap (λ (z : Step State). z.weight) all in
      let same = same_goes s' (record s { rest = code ++ r; regs = put s.regs i.defs (play.result f now i (code ++ r)) }) (sym goes ∙ ap (λ (z : Step State). z.does) all) in
      let short = longer_not code r (sym (ap (λ (z : State). z.rest) same) ∙ rest) in
      let none = none_weighs code short in
      let single = plain_static f.types i (no_phi i.op every.0) in
      omega (arith, none, single, weighs)
  chain_weighs (i ∷ code) every {before = before} (further {st = st} {w = w} {j = j} s2 e chain) s r is s' goes rest =
      let now : State = record s { rest = i ∷ (code ++ r) } in
      let does : play.step f now ≡ play.plain f now i (code ++ r) (play.give f now i (code ++ r) (play.result f now i (code ++ r))) = ap (play.by_kind f now i (code ++ r)) every.0 in
      let all = is ∙ does in
      let weighs : st.weight ≡ weight f.types i = ap (λ (z : Step State). z.weight) all in
      let next : State = record s { rest = code ++ r; regs = put s.regs i.defs (play.result f now i (code ++ r)) } in
      let same = same_goes s2 next (sym e ∙ ap (λ (z : Step State). z.does) all) in
      let ih = chain_weighs code every.1 chain next r (ap (play.step f) same) s' goes rest in
      let single = plain_static f.types i (no_phi i.op every.0) in
      omega (arith, single, weighs, ih)

module _ (program : Program) (all : IsTyped program) (function : Function) (f : GFunction) (typed : ValuesTyped program f (types function) []) where
  abbrev gl : List Global
  gl = program.module_.globals

  module _ (pool : Pool) (regs : Registers) (held : Known f (types function) pool regs) where
    gep_weigh : (value : ℕ) (of : MemTy) (base : Operand) (indices : List (Ty × Operand)) → Has program function f typed value Ptr → IsOperand (types function) Ptr base → AreIndices (types function) indices
        → Stand f.types pool.next (all_loaded gl pool ((Ptr, base) ∷ []) ++ sum_types gl (behind_all gl pool ((Ptr, base) ∷ [])) (in_order (addends_of of indices)))
        → weigh f.types (loads gl pool ((Ptr, base) ∷ []) ++ sum_code gl value (register_of base (literal gl base) Ptr pool) (behind_all gl pool ((Ptr, base) ∷ [])) (in_order (addends_of of indices))) ≤ 256 * (1 + length indices)
    gep_weigh value of base indices has is are stand =
        let run = base_run program function f typed pool regs held value of base indices has is are stand in
        let code = sum_code gl value (register_of base (literal gl base) Ptr pool) (behind_all gl pool ((Ptr, base) ∷ [])) (in_order (addends_of of indices)) in
        let start : State = sum_state program function f typed pool regs held base in
        let gets = run.gets [] in
        let low = gets.4 in
        let sum = chain_weighs f code (each_sum gl (λ (i : GInst). kind i.op ≡ Computes) (computes f) value (register_of base (literal gl base) Ptr pool) (behind_all gl pool ((Ptr, base) ∷ [])) (in_order (addends_of of indices))) gets.2 start [] refl (record start { rest = []; regs = write run.regs value run.sum }) gets.3 refl in
        let first = loads_weigh_then f.types gl pool ((Ptr, base) ∷ []) code in
        let few = order_length (addends_of of indices) in
        let few' = times_of of indices in
        omega (arith, low, sum, first, few, few')

    pub piece_weigh : (value : ℕ) (ty : Ty) (op : Op) → IsOp program function ty op → (is_result ty ≡ true → Has program function f typed value ty) → Stand f.types pool.next (piece_of gl function.ret value pool ty op).types
        → weigh f.types (piece_of gl function.ret value pool ty op).code ≤ 256 * (1 + parts_in op)
    piece_weigh value ty (Binary o flags x y) is has stand = let low = one_weigh f.types gl pool ((ty, x) ∷ (ty, y) ∷ []) (binary_op o) (value ∷ []) 0 [] 184 (binary_phi f.types gl o) (binary_light f.types gl o 2) in omega (arith, low)
    piece_weigh value ty (Icmp pred flags of x y) is has stand = let low = one_weigh f.types gl pool ((of, x) ∷ (of, y) ∷ []) g.Icmp (value ∷ []) (predicate pred) [] 152 refl (λ legal. by_most legal 44 152 152 (omega arith) (omega arith)) in omega (arith, low)
    piece_weigh value ty (Cast o flags from a) is has stand = let low = cast_weigh f.types gl pool value from a o in omega (arith, low)
    piece_weigh value ty (Select x y z) is has stand = let low = one_weigh f.types gl pool ((Int 1, x) ∷ (ty, y) ∷ (ty, z) ∷ []) g.Select (value ∷ []) 0 [] 184 refl (λ legal. by_most legal 96 184 184 (omega arith) (omega arith)) in omega (arith, low)
    piece_weigh value ty (Freeze x) is has stand = let low = one_weigh f.types gl pool ((ty, x) ∷ []) g.Copy (value ∷ []) 0 [] 36 refl (λ legal. by_most legal 12 36 36 (omega arith) (omega arith)) in omega (arith, low)
    piece_weigh value ty (Phi pairs) is has stand = omega arith
    piece_weigh value ty (Alloca of count) is has stand = omega arith
    piece_weigh value ty (Load x) is has stand = let low = one_weigh f.types gl pool ((Ptr, x) ∷ []) g.Load (value ∷ []) (8 * byte_count ty) [] 160 refl (λ legal. by_most legal 24 160 160 (omega arith) (omega arith)) in omega (arith, low)
    piece_weigh value ty (Store of x y) is has stand = let low = one_weigh f.types gl pool ((of, x) ∷ (Ptr, y) ∷ []) g.Store [] (8 * byte_count of) [] 160 refl (λ legal. by_most legal 24 160 160 (omega arith) (omega arith)) in omega (arith, low)
    piece_weigh value ty (Gep of base indices) is has stand = gep_weigh value of base indices (subst (Has program function f typed value) is.0 (has (ap is_result is.0))) is.1 is.2 stand
    piece_weigh value ty (Call callee arguments) is has stand =
        let many = registers_many f.types gl pool arguments in
        let low = one_weigh f.types gl pool arguments g.Call (result ty value) 0 (callee ∷ []) (96 + 36 * length arguments) refl (λ legal. by_most legal (64 + 12 * length (registers gl pool arguments)) (96 + 36 * length (registers gl pool arguments)) (96 + 36 * length arguments) (omega (arith, many)) (omega (arith, many))) in
        omega (arith, low)
    piece_weigh value ty (CallBuiltIn which arguments) is has stand = built_weigh f.types gl pool value ty arguments which is.0
    piece_weigh value ty (Ret None) is has stand = let low = one_weigh f.types gl pool [] g.Return [] 0 [] 96 refl (λ legal. by_most legal 64 96 96 (omega arith) (omega arith)) in omega (arith, low)
    piece_weigh value ty (Ret (Some a)) is has stand = let low = one_weigh f.types gl pool ((function.ret, a) ∷ []) g.Return [] 0 [] 96 refl (λ legal. by_most legal 64 96 96 (omega arith) (omega arith)) in omega (arith, low)
    piece_weigh value ty (Br to) is has stand = omega arith
    piece_weigh value ty (CondBr x y z) is has stand = omega arith
    piece_weigh value ty (Switch of x otherwise cases) is has stand = omega arith
    piece_weigh value ty Unreachable is has stand = omega arith

  -- ---- ends of blocks: 28 for each phi on an edge

  abbrev pub heavy : Ending → ℕ
  heavy e = weigh f.types e.code + weigh_all f.types e.later

  module _ (from : ℕ) where
    operands_long : (insts : List Inst) → length {A = Ty × Operand} (map (λ (inst : Inst). (inst.gives, phi_operand from inst.op)) insts) ≡ length insts
    operands_long [] = refl
    operands_long (inst ∷ insts) = ap suc (operands_long insts)

    edge_weigh : (pool : Pool) (to : ℕ) → weigh f.types (edge_code gl function from pool to) ≤ 4 + 24 * length (heads gl function to)
    edge_weigh pool to = let all = loads_weigh_then f.types gl pool (edge_operands gl function from to) (jump_to to ∷ []) in let long = operands_long (heads gl function to) in omega (arith, all, long)

    edge_block_weigh : (next to : ℕ) → weigh_all f.types (edge_blocks gl function from next to) ≤ 28 * length (heads gl function to)
    edge_block_weigh next to = by_phis (no_phis gl function to) refl
      where
        by_phis : (n : Bool) → no_phis gl function to ≡ n → weigh_all f.types (if n then [] else edge_code gl function from (empty_pool next) to ∷ []) ≤ 28 * length (heads gl function to)
        by_phis true e = omega arith
        by_phis false e = let some : 1 ≤ length (heads gl function to) = grind (arith, e) in let low = edge_weigh (empty_pool next) to in omega (arith, some, low)

    branch_weigh : (at next own bit if_one if_zero : ℕ) → heavy (branch gl function from at next own bit if_one if_zero) ≤ 80 + 28 * heads_on gl function (branch gl function from at next own bit if_one if_zero).edges
    branch_weigh at next own bit if_one if_zero =
        let second = next + length (edge_types gl function from (empty_pool next) if_one) in
        let one = edge_block_weigh next if_one in
        let two = edge_block_weigh second if_zero in
        let both = weigh_all_both f.types (edge_blocks gl function from next if_one) (edge_blocks gl function from second if_zero) in
        let light = by_most (is_legal f.types (branch_on bit (goes_to gl function from own if_one) (goes_to gl function from (own + spare gl function if_one) if_zero))) 64 80 80 (omega arith) (omega arith) in
        omega (arith, one, two, both, light)

    -- a test, and what stands behind it
    test_weigh : (of : Ty) (r : ℕ) (pool : Pool) (n : ℕ) (code : List GInst) → weigh f.types (test_code gl function from of r pool n ++ code) ≤ 176 + weigh f.types code
    test_weigh of r pool n code =
        let test : GInst = plain g.Icmp ((behind_all gl pool ((of, Num n) ∷ [])).next ∷ []) (r ∷ registers gl pool ((of, Num n) ∷ [])) 0 in
        let all = loads_weigh_then f.types gl pool ((of, Num n) ∷ []) (plain g.Icmp ((behind_all gl pool ((of, Num n) ∷ [])).next ∷ []) (r ∷ registers gl pool ((of, Num n) ∷ [])) 0 ∷ []) in
        let both = weigh_both f.types (test_code gl function from of r pool n) code in
        let light = by_most (is_legal f.types test) 44 152 152 (omega arith) (omega arith) in
        omega (arith, all, both, light)

    tests_weigh : (cases : List (ℕ × ℕ)) (of : Ty) (r otherwise at : ℕ) (pool : Pool) (own : ℕ)
        → heavy (tests gl function from of r otherwise at pool own cases) ≤ 4 + (256 * length cases + 28 * heads_on gl function (tests gl function from of r otherwise at pool own cases).edges)
    tests_weigh [] of r otherwise at pool own = let low = edge_weigh pool otherwise in omega (arith, low)
    tests_weigh (one ∷ []) of r otherwise at pool own =
        let bit = (behind_all gl pool ((of, Num one.0) ∷ [])).next in
        let way = branch gl function from at (bit + 1) own bit one.1 otherwise in
        let first = test_weigh of r pool one.0 way.code in
        let rest = branch_weigh at (bit + 1) own bit one.1 otherwise in
        omega (arith, first, rest)
    tests_weigh (one ∷ two ∷ cases) of r otherwise at pool own =
        let bit = (behind_all gl pool ((of, Num one.0) ∷ [])).next in
        let next = bit + 1 + length (edge_types gl function from (empty_pool (bit + 1)) one.1) in
        let on = own + spare gl function one.1 in
        let rest = tests gl function from of r otherwise on (empty_pool next) (on + 1) (two ∷ cases) in
        let ih = tests_weigh (two ∷ cases) of r otherwise on (empty_pool next) (on + 1) in
        let jump : GInst = branch_on bit (goes_to gl function from own one.1) on in
        let first = test_weigh of r pool one.0 (branch_on bit (goes_to gl function from own one.1) on ∷ []) in
        let light = by_most (is_legal f.types jump) 64 80 80 (omega arith) (omega arith) in
        let edge = edge_block_weigh (bit + 1) one.1 in
        let both = weigh_all_both f.types (edge_blocks gl function from (bit + 1) one.1) (rest.code ∷ rest.later) in
        omega (arith, ih, first, light, edge, both)

    ending_weigh : (pool : Pool) (own : ℕ) (op : Op) → heavy (ending_of gl function from pool own op) ≤ 256 * (1 + parts_in op) + 28 * heads_on gl function (ending_of gl function from pool own op).edges
    ending_weigh pool own (Br to) = let low = edge_weigh pool to in omega (arith, low)
    ending_weigh pool own (CondBr x y z) =
        let way = branch gl function from from (behind_all gl pool ((Int 1, x) ∷ [])).next own (first_register (registers gl pool ((Int 1, x) ∷ []))) y z in
        let low = branch_weigh from (behind_all gl pool ((Int 1, x) ∷ [])).next own (first_register (registers gl pool ((Int 1, x) ∷ []))) y z in
        let first = loads_weigh_then f.types gl pool ((Int 1, x) ∷ []) way.code in
        omega (arith, low, first)
    ending_weigh pool own (Switch of a otherwise cases) =
        let way = tests gl function from of (first_register (registers gl pool ((of, a) ∷ []))) otherwise from (behind_all gl pool ((of, a) ∷ [])) own cases in
        let low = tests_weigh cases of (first_register (registers gl pool ((of, a) ∷ []))) otherwise from (behind_all gl pool ((of, a) ∷ [])) own in
        let first = loads_weigh_then f.types gl pool ((of, a) ∷ []) way.code in
        omega (arith, low, first)
    ending_weigh pool own op = omega arith

    -- ---- the instructions of a block

    pub insts_weigh : (insts : List Inst) (value : ℕ) (pool : Pool) (own : ℕ) (regs : Registers) → Known f (types function) pool regs → Along program function f typed value insts
        → Stand f.types pool.next (insts_ending gl function from value pool own insts).types
        → heavy (insts_ending gl function from value pool own insts) ≤ 256 * sum_by units insts + 28 * heads_on gl function (insts_ending gl function from value pool own insts).edges
    insts_weigh [] value pool own regs held along stand = omega arith
    insts_weigh (inst ∷ insts) value pool own regs held along stand =
        by_jump (is_jump inst.op) refl stand (λ regs' held' stand'. insts_weigh insts (if has_result inst then value + 1 else value) (piece_of gl function.ret value pool inst.gives inst.op).pool own regs' held' along.2 stand')
      where
        rest : Ending
        rest = insts_ending gl function from (if has_result inst then value + 1 else value) (piece_of gl function.ret value pool inst.gives inst.op).pool own insts

        this : Bool → Ending
        this j = if j then ending_of gl function from pool own inst.op else (let piece = piece_of gl function.ret value pool inst.gives inst.op in
            ending_behind piece.code piece.types (insts_ending gl function from (if has_result inst then value + 1 else value) piece.pool own insts))

        cost : 1 + parts_in inst.op ≤ units inst
        cost = omega arith

        by_jump : (j : Bool) → is_jump inst.op ≡ j
            → Stand f.types pool.next (if j then ending_of gl function from pool own inst.op else (let piece = piece_of gl function.ret value pool inst.gives inst.op in
            ending_behind piece.code piece.types (insts_ending gl function from (if has_result inst then value + 1 else value) piece.pool own insts))).types
            → ((regs' : Registers) → Known f (types function) (piece_of gl function.ret value pool inst.gives inst.op).pool regs'
            → Stand f.types (piece_of gl function.ret value pool inst.gives inst.op).pool.next (insts_ending gl function from (if has_result inst then value + 1 else value) (piece_of gl function.ret value pool inst.gives inst.op).pool own insts).types
            → heavy (insts_ending gl function from (if has_result inst then value + 1 else value) (piece_of gl function.ret value pool inst.gives inst.op).pool own insts)
            ≤ 256 * sum_by units insts + 28 * heads_on gl function (insts_ending gl function from (if has_result inst then value + 1 else value) (piece_of gl function.ret value pool inst.gives inst.op).pool own insts).edges)
            → heavy (insts_ending gl function from value pool own (inst ∷ insts)) ≤ 256 * sum_by units (inst ∷ insts) + 28 * heads_on gl function (insts_ending gl function from value pool own (inst ∷ insts)).edges
        by_jump true e stand more =
            let sum = sum_by-cons units inst insts in
            let low = ending_weigh pool own inst.op in
            let own_cost = cost in
            rw e (omega (arith, sum, low, own_cost))
        by_jump false e stand more =
            let piece = piece_of gl function.ret value pool inst.gives inst.op in
            let front = stand_front f.types pool.next piece.types rest.types stand in
            let next = piece_held program function f typed pool regs held all value inst.gives inst.op along.0 along.1 front in
            let ih = more next.0 next.1 (piece_stand program f (types function) [] typed function.ret value pool rest.types inst.gives inst.op stand) in
            let low = piece_weigh pool regs held value inst.gives inst.op along.0 along.1 front in
            let both = weigh_both f.types piece.code rest.code in
            let sum = sum_by-cons units inst insts in
            let own_cost = cost in
            rw e (omega (arith, ih, low, both, sum, own_cost))
