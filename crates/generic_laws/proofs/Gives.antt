-- The code of an instruction that has a result writes its register.
use Rattle.std.proofs.Common.{◌≡◌, refl, sym, ap, ◌∙◌, ℕ, ◌+◌, ◌*◌, ◌≤◌, Bool, true, false, List, [], ◌∷◌, ◌++◌, length, arith}
use Rattle.std.specs.Prelude.{take, ◌==◌}
use Rattle.ir_core.specs.Program.{Program}
use Rattle.ir_core.specs.Units.{is_result, types_of_arguments}
use Rattle.ir_core.specs.declared.types.Ty.{Ty}
use Rattle.ir_core.specs.declared.types.Ty.TheVariants.{Void, Int, Ptr}
use Rattle.ir_core.specs.declared.code.Operand.{Operand}
use Rattle.ir_core.specs.declared.code.Operand.TheVariants.{Num}
use Rattle.ir_core.specs.declared.code.CastOp.{CastOp}
use Rattle.ir_core.specs.declared.code.CastOp.TheVariants as c
use Rattle.ir_core.specs.declared.code.BuiltIn.{BuiltIn}
use Rattle.ir_core.specs.declared.code.BuiltIn.TheVariants.{MemCpy, MemMove, MemSet, SMax, SMin, UMax, UMin, Abs}
use Rattle.ir_core.specs.declared.code.Op.{Op}
use Rattle.ir_core.specs.declared.code.Op.TheVariants.{Binary, Icmp, Cast, Select, Freeze, Phi, Alloca, Load, Store, Gep, Call, BuiltIn as CallBuiltIn, Ret, Br, CondBr, Switch, Unreachable}
use Rattle.ir_core.specs.declared.program.Function.{Function}
use Rattle.ir_core.specs.declared.program.Global.{Global}
use Rattle.ir_core.specs.Layout.{size, aligned}
use Rattle.ir_flow.specs.Code.{is_phi}
use Rattle.ir_meaning.specs.Operators.{width}
use Rattle.ir_meaning.specs.Typed.{IsOp, IsBuiltIn}
use Rattle.gmir.specs.declared.code.GOp.{GOp}
use Rattle.gmir.specs.declared.code.GOp.TheVariants as g
use Rattle.gmir.specs.declared.code.GInst.{GInst}
use Rattle.gmir.specs.Formed.{times, written}
use Rattle.generic_code.specs.Literals.{Pool, plain, skip, loads, registers, behind_all}
use Rattle.generic_code.specs.Parts.{Addend, left_of, sum_code, in_order, addends_of, first_register}
use Rattle.generic_code.specs.Code.{one, address, cast, choice, negated, absolute, built_in, result, piece_of, chooses}
use Rattle.generic_laws.proofs.Once.{count, count_is}
use Rattle.generic_laws.proofs.Scopes.{wrote, writes_it}

pub wrote_right : (r : ℕ) (xs ys : List GInst) → 1 ≤ wrote r ys → 1 ≤ wrote r (xs ++ ys)
wrote_right r [] ys l = l
wrote_right r (x ∷ xs) ys l = let ih = wrote_right r xs ys l in omega (arith, ih)

pub wrote_left : (r : ℕ) (xs ys : List GInst) → 1 ≤ wrote r xs → 1 ≤ wrote r (xs ++ ys)
wrote_left r [] ys l = absurd (let bad : ⊥ = omega (arith, l) in bad)
wrote_left r (x ∷ xs) ys l = let both = wrote_both r xs ys in omega (arith, l, both)
  where
    wrote_both : (r : ℕ) (xs ys : List GInst) → wrote r (xs ++ ys) ≡ wrote r xs + wrote r ys
    wrote_both r [] ys = omega arith
    wrote_both r (x ∷ xs) ys = let ih = wrote_both r xs ys in omega (arith, ih)

pub wrote_is : (r : ℕ) (code : List GInst) → times r (written code) ≡ wrote r code
wrote_is r code = count_is r code ∙ same code
  where
    same : (code : List GInst) → count r code ≡ wrote r code
    same [] = omega arith
    same (i ∷ is) = let ih = same is in omega (arith, ih)

-- the last of some
last_wrote : (r : ℕ) (i : GInst) → 1 ≤ times r i.defs → 1 ≤ wrote r (i ∷ [])
last_wrote r i l = omega (arith, l)

module _ (globals : List Global) (value : ℕ) where
  one_gives : (pool : Pool) (ops : List (Ty × Operand)) (op : GOp) (num : ℕ) (to : List ℕ) → 1 ≤ wrote value (one globals pool ops op (value ∷ []) num to).code
  one_gives pool ops op num to =
      let last : GInst = record { op = op; defs = value ∷ []; uses = registers globals pool ops; num = num; to = to } in
      wrote_right value (loads globals pool ops) (last ∷ []) (last_wrote value last (writes_it value []))

  -- the last of two
  two_give : (pool : Pool) (ops : List (Ty × Operand)) (first last : GInst) → 1 ≤ times value last.defs → 1 ≤ wrote value (loads globals pool ops ++ first ∷ last ∷ [])
  two_give pool ops first last l = wrote_right value (loads globals pool ops) (first ∷ last ∷ []) (omega (arith, l))

  choice_gives : (pool : Pool) (ops : List (Ty × Operand)) (place : ℕ) → 1 ≤ wrote value (choice globals pool value ops place).code
  choice_gives pool ops place =
      let d = (behind_all globals pool ops).next in
      two_give pool ops (plain g.Icmp (d ∷ []) (registers globals pool ops) place) (plain g.Select (value ∷ []) (d ∷ registers globals pool ops) 0) (writes_it value [])

  address_gives : (wide : Bool) (pool : Pool) (ops : List (Ty × Operand)) → 1 ≤ wrote value (address globals wide pool value ops).code
  address_gives true pool ops = one_gives pool ops g.IntToPtr 0 []
  address_gives false pool ops =
      let d = (behind_all globals pool ops).next in
      two_give pool ops (plain g.ZExt (d ∷ []) (registers globals pool ops) 0) (plain g.IntToPtr (value ∷ []) (d ∷ []) 0) (writes_it value [])

  cast_gives : (pool : Pool) (from : Ty) (a : Operand) (o : CastOp) → 1 ≤ wrote value (cast globals pool value from a o).code
  cast_gives pool from a c.Trunc = one_gives pool ((from, a) ∷ []) g.Trunc 0 []
  cast_gives pool from a c.ZExt = one_gives pool ((from, a) ∷ []) g.ZExt 0 []
  cast_gives pool from a c.SExt = one_gives pool ((from, a) ∷ []) g.SExt 0 []
  cast_gives pool from a c.PtrToInt = one_gives pool ((from, a) ∷ []) g.PtrToInt 0 []
  cast_gives pool from a c.IntToPtr = address_gives (width from == 64) pool ((from, a) ∷ [])
  cast_gives pool from a c.Same = one_gives pool ((from, a) ∷ []) g.Copy 0 []

  sum_gives : (all : List Addend) (from : ℕ) (pool : Pool) → 1 ≤ wrote value (sum_code globals value from pool all)
  sum_gives [] from pool = last_wrote value (plain g.Copy (value ∷ []) (from ∷ []) 0) (writes_it value [])
  sum_gives (a ∷ []) from pool =
      let last : GInst = plain g.PtrAdd (value ∷ []) (from ∷ (left_of globals a pool).register ∷ []) 0 in
      wrote_right value (left_of globals a pool).code (last ∷ []) (last_wrote value last (writes_it value []))
  sum_gives (a ∷ two ∷ more) from pool =
      let left = left_of globals a pool in
      let ih = sum_gives (two ∷ more) left.pool.next (skip 1 left.pool) in
      wrote_right value left.code (plain g.PtrAdd (left.pool.next ∷ []) (from ∷ left.register ∷ []) 0 ∷ sum_code globals value left.pool.next (skip 1 left.pool) (two ∷ more)) (omega (arith, ih))

  turned_gives : (next : ℕ) (rs : List ℕ) → length rs ≡ 2 → 1 ≤ wrote value (negated globals next value rs)
  turned_gives next [] e = absurd (let bad : ⊥ = omega (arith, e) in bad)
  turned_gives next (a ∷ []) e = absurd (let bad : ⊥ = omega (arith, e) in bad)
  turned_gives next (a ∷ none ∷ more) e = let l = writes_it value [] in omega (arith, l)

  absolute_gives : (pool : Pool) (ty : Ty) (arguments : List (Ty × Operand)) → types_of_arguments arguments ≡ ty ∷ Int 1 ∷ [] → 1 ≤ wrote value (absolute globals pool value ty (take 1 arguments ++ (ty, Num 0) ∷ [])).code
  absolute_gives pool ty [] e = absurd (let bad : ⊥ = cc in bad)
  absolute_gives pool ty (x ∷ []) e = absurd (let bad : ⊥ = cc in bad)
  absolute_gives pool ty (x ∷ y ∷ more) e =
      let ops : List (Ty × Operand) = x ∷ (ty, Num 0) ∷ [] in
      wrote_right value (loads globals pool ops) (negated globals (behind_all globals pool ops).next value (registers globals pool ops)) (turned_gives (behind_all globals pool ops).next (registers globals pool ops) refl)

  nothing : (ty : Ty) → ty ≡ Void → is_result ty ≡ true → ⊥
  nothing ty e r = let bad : false ≡ true = sym (ap is_result e) ∙ r in let no_way : ⊥ = cc in no_way

  built_gives : (pool : Pool) (ty : Ty) (arguments : List (Ty × Operand)) (which : BuiltIn) → IsBuiltIn which (types_of_arguments arguments) ty → is_result ty ≡ true → 1 ≤ wrote value (built_in globals pool value ty arguments which).code
  built_gives pool ty arguments MemCpy is r = absurd (nothing ty is.3 r)
  built_gives pool ty arguments MemMove is r = absurd (nothing ty is.3 r)
  built_gives pool ty arguments MemSet is r = absurd (nothing ty is.3 r)
  built_gives pool ty arguments Abs is r = absolute_gives pool ty arguments is.0
  built_gives pool ty arguments SMax is r = choice_gives pool arguments (chooses SMax)
  built_gives pool ty arguments SMin is r = choice_gives pool arguments (chooses SMin)
  built_gives pool ty arguments UMax is r = choice_gives pool arguments (chooses UMax)
  built_gives pool ty arguments UMin is r = choice_gives pool arguments (chooses UMin)

  call_gives : (pool : Pool) (ty : Ty) (arguments : List (Ty × Operand)) (callee : ℕ) → is_result ty ≡ true → 1 ≤ wrote value (one globals pool arguments g.Call (result ty value) 0 (callee ∷ [])).code
  call_gives pool Void arguments callee r = absurd (let bad : ⊥ = cc in bad)
  call_gives pool (Int w) arguments callee r = one_gives pool arguments g.Call 0 (callee ∷ [])
  call_gives pool Ptr arguments callee r = one_gives pool arguments g.Call 0 (callee ∷ [])

  pub piece_gives : (program : Program) (function : Function) (pool : Pool) (ty : Ty) (op : Op) → IsOp program function ty op → is_phi op ≡ false → is_result ty ≡ true → 1 ≤ wrote value (piece_of globals function.ret value pool ty op).code
  piece_gives program function pool ty (Binary o flags x y) is p r = one_gives pool ((ty, x) ∷ (ty, y) ∷ []) _ 0 []
  piece_gives program function pool ty (Icmp pred flags of x y) is p r = one_gives pool ((of, x) ∷ (of, y) ∷ []) g.Icmp _ []
  piece_gives program function pool ty (Cast o flags from a) is p r = cast_gives pool from a o
  piece_gives program function pool ty (Select x y z) is p r = one_gives pool ((Int 1, x) ∷ (ty, y) ∷ (ty, z) ∷ []) g.Select 0 []
  piece_gives program function pool ty (Freeze x) is p r = one_gives pool ((ty, x) ∷ []) g.Copy 0 []
  piece_gives program function pool ty (Phi pairs) is p r = absurd (let bad : ⊥ = cc in bad)
  piece_gives program function pool ty (Alloca of n) is p r = one_gives pool [] g.TakeData (aligned (size of * n) 16) []
  piece_gives program function pool ty (Load x) is p r = one_gives pool ((Ptr, x) ∷ []) g.Load _ []
  piece_gives program function pool ty (Store of x y) is p r = absurd (nothing ty is.0 r)
  piece_gives program function pool ty (Gep of base indices) is p r =
      wrote_right value (loads globals pool ((Ptr, base) ∷ [])) _ (sum_gives (in_order (addends_of of indices)) (first_register (registers globals pool ((Ptr, base) ∷ []))) (behind_all globals pool ((Ptr, base) ∷ [])))
  piece_gives program function pool ty (Call callee arguments) is p r = call_gives pool ty arguments callee r
  piece_gives program function pool ty (CallBuiltIn which arguments) is p r = built_gives pool ty arguments which is.0 r
  piece_gives program function pool ty (Ret a) is p r = absurd (nothing ty is.0 r)
  piece_gives program function pool ty (Br to) is p r = absurd (nothing ty is.0 r)
  piece_gives program function pool ty (CondBr x y z) is p r = absurd (nothing ty is.0 r)
  piece_gives program function pool ty (Switch of x otherwise cases) is p r = absurd (nothing ty is.0 r)
  piece_gives program function pool ty Unreachable is p r = absurd (nothing ty is r)
