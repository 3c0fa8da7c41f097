-- What holds of each instruction of a piece that ends no block, where it holds of all of inner operations and of those that make addresses.
use Rattle.std.proofs.Common.{◌≡◌, refl, ap, ℕ, Bool, true, false, List, [], ◌∷◌, ◌++◌, Some, None}
use Rattle.std.specs.Prelude.{◌==◌, take}
use Rattle.ir_core.specs.declared.types.Ty.{Ty}
use Rattle.ir_core.specs.declared.types.Ty.TheVariants.{Int, Ptr}
use Rattle.ir_core.specs.declared.types.MemTy.{MemTy}
use Rattle.ir_core.specs.declared.code.Operand.{Operand}
use Rattle.ir_core.specs.declared.code.Operand.TheVariants.{Num}
use Rattle.ir_core.specs.declared.code.BinOp.{BinOp}
use Rattle.ir_core.specs.declared.code.BinOp.TheVariants as b
use Rattle.ir_core.specs.declared.code.CastOp.{CastOp}
use Rattle.ir_core.specs.declared.code.CastOp.TheVariants as c
use Rattle.ir_core.specs.declared.code.Flags.{Flags}
use Rattle.ir_core.specs.declared.code.BuiltIn.{BuiltIn}
use Rattle.ir_core.specs.declared.code.BuiltIn.TheVariants.{MemCpy, MemMove, MemSet, SMax, SMin, UMax, UMin, Abs}
use Rattle.ir_core.specs.declared.code.Op.{Op}
use Rattle.ir_core.specs.declared.code.Op.TheVariants.{Binary, Icmp, Cast, Select, Freeze, Phi, Alloca, Load, Store, Gep, Call, BuiltIn as CallBuiltIn, Ret, Br, CondBr, Switch, Unreachable}
use Rattle.ir_core.specs.declared.program.Global.{Global}
use Rattle.ir_meaning.specs.Operators.{width}
use Rattle.ir_verify.proofs.Lists.{Every, every_both}
use Rattle.gmir.specs.declared.code.GOp.{GOp}
use Rattle.gmir.specs.declared.code.GOp.TheVariants as g
use Rattle.gmir.specs.declared.code.GInst.{GInst}
use Rattle.ir_flow.specs.Code.{is_terminator, is_phi}
use Rattle.generic_code.specs.Literals.{plain, Pool, loads, registers}
use Rattle.generic_code.specs.Parts.{addends_of, in_order}
use Rattle.generic_code.specs.Code.{binary_op, predicate, chooses, one, address, cast, choice, negated, built_in, piece_of, result}
use Rattle.generic_laws.proofs.Sums.{summing, each_loads, each_sum}

-- an operation that is neither a phi nor a parameter, ends no block, and makes no address of a number
abbrev pub inner : GOp → Bool
inner g.Phi = false
inner g.Param = false
inner g.IntToPtr = false
inner g.Br = false
inner g.BrCond = false
inner g.Return = false
inner g.Trap = false
inner g.TakeData = false
inner _ = true

binary_inner : (o : BinOp) → inner (binary_op o) ≡ true
binary_inner b.Add = refl
binary_inner b.Sub = refl
binary_inner b.Mul = refl
binary_inner b.UDiv = refl
binary_inner b.SDiv = refl
binary_inner b.URem = refl
binary_inner b.SRem = refl
binary_inner b.Shl = refl
binary_inner b.LShr = refl
binary_inner b.AShr = refl
binary_inner b.And = refl
binary_inner b.Or = refl
binary_inner b.Xor = refl

module _ (globals : List Global) (P : GInst → Type 0) (ok : (i : GInst) → inner i.op ≡ true → P i) where
  -- what a sum takes is inner
  summed : (i : GInst) → summing i.op ≡ true → P i
  summed i e = ok i (by_op i.op e)
    where
      by_op : (o : GOp) → summing o ≡ true → inner o ≡ true
      by_op g.Phi e = absurd (let bad : ⊥ = cc in bad)
      by_op g.Param e = absurd (let bad : ⊥ = cc in bad)
      by_op g.IntToPtr e = absurd (let bad : ⊥ = cc in bad)
      by_op g.Br e = absurd (let bad : ⊥ = cc in bad)
      by_op g.BrCond e = absurd (let bad : ⊥ = cc in bad)
      by_op g.Return e = absurd (let bad : ⊥ = cc in bad)
      by_op g.Trap e = absurd (let bad : ⊥ = cc in bad)
      by_op g.TakeData e = absurd (let bad : ⊥ = cc in bad)
      by_op o e = refl

  pub loads_then : (pool : Pool) (ops : List (Ty × Operand)) (code : List GInst) → Every P code → Every P (loads globals pool ops ++ code)
  loads_then pool ops code h = every_both P (loads globals pool ops) code (each_loads globals P summed pool ops) h

  each_one : (pool : Pool) (ops : List (Ty × Operand)) (op : GOp) (defs : List ℕ) (num : ℕ) (to : List ℕ) → inner op ≡ true → Every P (one globals pool ops op defs num to).code
  each_one pool ops op defs num to e = loads_then pool ops _ (ok (record { op = op; defs = defs; uses = registers globals pool ops; num = num; to = to }) e, tt)

  -- ---- built-ins and casts

  each_negated : (next value : ℕ) (rs : List ℕ) → Every P (negated globals next value rs)
  each_negated next value [] = tt
  each_negated next value (a ∷ []) = tt
  each_negated next value (a ∷ none ∷ more) = (ok _ refl, (ok _ refl, (ok _ refl, tt)))

  each_choice : (pool : Pool) (value : ℕ) (ops : List (Ty × Operand)) (place : ℕ) → Every P (choice globals pool value ops place).code
  each_choice pool value ops place = loads_then pool ops _ (ok _ refl, (ok _ refl, tt))

  each_built : (pool : Pool) (value : ℕ) (ty : Ty) (arguments : List (Ty × Operand)) (which : BuiltIn) → Every P (built_in globals pool value ty arguments which).code
  each_built pool value ty arguments MemCpy = each_one pool (take 3 arguments) g.CopyBytes [] 0 [] refl
  each_built pool value ty arguments MemMove = each_one pool (take 3 arguments) g.CopyBytes [] 0 [] refl
  each_built pool value ty arguments MemSet = each_one pool (take 3 arguments) g.FillBytes [] 0 [] refl
  each_built pool value ty arguments Abs = loads_then pool (take 1 arguments ++ (ty, Num 0) ∷ []) _ (each_negated _ value _)
  each_built pool value ty arguments SMax = each_choice pool value arguments (chooses SMax)
  each_built pool value ty arguments SMin = each_choice pool value arguments (chooses SMin)
  each_built pool value ty arguments UMax = each_choice pool value arguments (chooses UMax)
  each_built pool value ty arguments UMin = each_choice pool value arguments (chooses UMin)

  each_cast : (pool : Pool) (value : ℕ) (from : Ty) (a : Operand) (o : CastOp) → (o ≡ c.IntToPtr → Every P (address globals (width from == 64) pool value ((from, a) ∷ [])).code) → Every P (cast globals pool value from a o).code
  each_cast pool value from a c.Trunc h = each_one pool ((from, a) ∷ []) g.Trunc (value ∷ []) 0 [] refl
  each_cast pool value from a c.ZExt h = each_one pool ((from, a) ∷ []) g.ZExt (value ∷ []) 0 [] refl
  each_cast pool value from a c.SExt h = each_one pool ((from, a) ∷ []) g.SExt (value ∷ []) 0 [] refl
  each_cast pool value from a c.PtrToInt h = each_one pool ((from, a) ∷ []) g.PtrToInt (value ∷ []) 0 [] refl
  each_cast pool value from a c.IntToPtr h = h refl
  each_cast pool value from a c.Same h = each_one pool ((from, a) ∷ []) g.Copy (value ∷ []) 0 [] refl

  -- ---- each instruction

  pub each_inner : (ret : Ty) (value : ℕ) (pool : Pool) (ty : Ty) (op : Op) → is_terminator op ≡ false → is_phi op ≡ false
      → ((flags : Flags) (from : Ty) (a : Operand) → op ≡ Cast c.IntToPtr flags from a → Every P (address globals (width from == 64) pool value ((from, a) ∷ [])).code)
      → ((of : MemTy) (count num : ℕ) → op ≡ Alloca of count → P (plain g.TakeData (value ∷ []) [] num)) → Every P (piece_of globals ret value pool ty op).code
  each_inner ret value pool ty (Binary o flags x y) t p h data' = each_one pool ((ty, x) ∷ (ty, y) ∷ []) (binary_op o) (value ∷ []) 0 [] (binary_inner o)
  each_inner ret value pool ty (Icmp pred flags of x y) t p h data' = each_one pool ((of, x) ∷ (of, y) ∷ []) g.Icmp (value ∷ []) (predicate pred) [] refl
  each_inner ret value pool ty (Cast o flags from a) t p h data' = each_cast pool value from a o (λ e. h flags from a (ap (λ (o : CastOp). Cast o flags from a) e))
  each_inner ret value pool ty (Select x y z) t p h data' = each_one pool ((Int 1, x) ∷ (ty, y) ∷ (ty, z) ∷ []) g.Select (value ∷ []) 0 [] refl
  each_inner ret value pool ty (Freeze x) t p h data' = each_one pool ((ty, x) ∷ []) g.Copy (value ∷ []) 0 [] refl
  each_inner ret value pool ty (Phi pairs) t p h data' = absurd (let bad : ⊥ = cc in bad)
  each_inner ret value pool ty (Alloca of count) t p h data' = (data' of count _ refl, tt)
  each_inner ret value pool ty (Load x) t p h data' = each_one pool ((Ptr, x) ∷ []) g.Load (value ∷ []) _ [] refl
  each_inner ret value pool ty (Store of x y) t p h data' = each_one pool ((of, x) ∷ (Ptr, y) ∷ []) g.Store [] _ [] refl
  each_inner ret value pool ty (Gep of base indices) t p h data' = loads_then pool ((Ptr, base) ∷ []) _ (each_sum globals P summed value _ _ (in_order (addends_of of indices)))
  each_inner ret value pool ty (Call callee arguments) t p h data' = each_one pool arguments g.Call (result ty value) 0 (callee ∷ []) refl
  each_inner ret value pool ty (CallBuiltIn which arguments) t p h data' = each_built pool value ty arguments which
  each_inner ret value pool ty (Ret None) t p h data' = absurd (let bad : ⊥ = cc in bad)
  each_inner ret value pool ty (Ret (Some a)) t p h data' = absurd (let bad : ⊥ = cc in bad)
  each_inner ret value pool ty (Br to) t p h data' = absurd (let bad : ⊥ = cc in bad)
  each_inner ret value pool ty (CondBr x y z) t p h data' = absurd (let bad : ⊥ = cc in bad)
  each_inner ret value pool ty (Switch of x otherwise cases) t p h data' = absurd (let bad : ⊥ = cc in bad)
  each_inner ret value pool ty Unreachable t p h data' = absurd (let bad : ⊥ = cc in bad)
