-- Each instruction of a piece of code has the form of its operation, over registers that there are.
use Rattle.std.proofs.Common.{◌≡◌, refl, sym, ap, subst, ℕ, ◌^◌, ◌<◌, List, [], ◌∷◌, length, Option, Some, None, arith}
use Rattle.std.specs.Prelude.{slice_get}
use Rattle.std.proofs.lemmas.List.{append_assoc}
use Rattle.std.proofs.lemmas.Nat.{pow_pos}
use Rattle.ir_core.specs.Program.{Program}
use Rattle.ir_core.specs.declared.types.Ty.{Ty}
use Rattle.ir_core.specs.declared.types.Ty.TheVariants.{Void, Int, Ptr}
use Rattle.ir_core.specs.declared.code.Operand.{Operand}
use Rattle.ir_core.specs.declared.code.Operand.TheVariants.{Value as Local, Num, Null, Place, Poison}
use Rattle.ir_core.specs.declared.code.BinOp.{BinOp}
use Rattle.ir_core.specs.declared.code.BinOp.TheVariants as b
use Rattle.ir_core.specs.declared.program.Function.{Function}
use Rattle.ir_core.specs.declared.program.Global.{Global}
use Rattle.ir_meaning.specs.Image.{place_address}
use Rattle.ir_meaning.specs.Operators.{width}
use Rattle.ir_meaning.specs.Typed.{types, IsOperand, IsInteger, IsValueType}
use Rattle.ir_verify.proofs.Lists.{Every, every_both}
use Rattle.gmir.specs.declared.code.GType.{GType}
use Rattle.gmir.specs.declared.code.GType.TheVariants.{S, P0}
use Rattle.gmir.specs.declared.code.GOp.{GOp}
use Rattle.gmir.specs.declared.code.GOp.TheVariants as g
use Rattle.gmir.specs.declared.code.GInst.{GInst}
use Rattle.gmir.specs.declared.code.GFunction.{GFunction}
use Rattle.gmir.specs.Play.{width_of}
use Rattle.gmir.specs.Formed.{HasForm, AllExist, IsSize}
use Rattle.generic_code.specs.Literals.{Pool, constant, type_of, literal, scalar_width, find, write_code, write_types, load, loaded, behind, loads, all_loaded}
use Rattle.generic_code.specs.Code.{binary_op, one}
use Rattle.generic_code.proofs.Loads.{Stand, stand_front, stand_first, stand_behind, ValuesTyped, AreTyped, same_width, value_not_void}
use Rattle.generic_laws.proofs.Lists.{get_below}

-- an instruction that has the form of its operation, over registers that there are
pub record Good (f : GFunction) (i : GInst) : Type 0 where
  pub form : HasForm f i i.op
  pub defs : AllExist f i.defs
  pub uses : AllExist f i.uses

int_type : (ty : Ty) → IsInteger ty → type_of ty ≡ S (width ty)
int_type Void h = absurd h
int_type (Int w) h = refl
int_type Ptr h = absurd h

module _ (f : GFunction) where
  abbrev pub Typed : ℕ → GType → Type 0
  Typed r ty = slice_get f.types r ≡ Some ty

  there_is : (r : ℕ) (ty : GType) → Typed r ty → r < length f.types
  there_is r ty e = get_below f.types r ty e

  -- ---- forms by kind

  abbrev inst_of : GOp → List ℕ → List ℕ → ℕ → GInst
  inst_of op defs uses num = record { op = op; defs = defs; uses = uses; num = num; to = [] }

  pub good_constant : (d n : ℕ) (ty : GType) → Typed d ty → n < 2 ^ width_of ty → Good f (constant d n)
  good_constant d n ty h l = record { form = (d, ty, record { defs = refl; type = h; uses = refl }, l); defs = (there_is d ty h, tt); uses = tt }

  pub binary_form : (o : BinOp) (d a b w : ℕ) → Typed d (S w) → Typed a (S w) → Typed b (S w) → HasForm f (inst_of (binary_op o) (d ∷ []) (a ∷ b ∷ []) 0) (binary_op o)
  binary_form b.Add d a b w h i j = (d, a, b, w, record { defs = refl; type = h; uses = refl }, i, j)
  binary_form b.Sub d a b w h i j = (d, a, b, w, record { defs = refl; type = h; uses = refl }, i, j)
  binary_form b.Mul d a b w h i j = (d, a, b, w, record { defs = refl; type = h; uses = refl }, i, j)
  binary_form b.UDiv d a b w h i j = (d, a, b, w, record { defs = refl; type = h; uses = refl }, i, j)
  binary_form b.SDiv d a b w h i j = (d, a, b, w, record { defs = refl; type = h; uses = refl }, i, j)
  binary_form b.URem d a b w h i j = (d, a, b, w, record { defs = refl; type = h; uses = refl }, i, j)
  binary_form b.SRem d a b w h i j = (d, a, b, w, record { defs = refl; type = h; uses = refl }, i, j)
  binary_form b.Shl d a b w h i j = (d, a, b, w, record { defs = refl; type = h; uses = refl }, i, (w, j))
  binary_form b.LShr d a b w h i j = (d, a, b, w, record { defs = refl; type = h; uses = refl }, i, (w, j))
  binary_form b.AShr d a b w h i j = (d, a, b, w, record { defs = refl; type = h; uses = refl }, i, (w, j))
  binary_form b.And d a b w h i j = (d, a, b, w, record { defs = refl; type = h; uses = refl }, i, j)
  binary_form b.Or d a b w h i j = (d, a, b, w, record { defs = refl; type = h; uses = refl }, i, j)
  binary_form b.Xor d a b w h i j = (d, a, b, w, record { defs = refl; type = h; uses = refl }, i, j)

  pub good_binary : (o : BinOp) (d a b w : ℕ) → Typed d (S w) → Typed a (S w) → Typed b (S w) → Good f (inst_of (binary_op o) (d ∷ []) (a ∷ b ∷ []) 0)
  good_binary o d a b w h i j = record { form = binary_form o d a b w h i j; defs = (there_is d (S w) h, tt); uses = (there_is a (S w) i, (there_is b (S w) j, tt)) }

  pub good_icmp : (d a b w num : ℕ) (ty : GType) → Typed d (S w) → Typed a ty → Typed b ty → num < 10 → Good f (inst_of g.Icmp (d ∷ []) (a ∷ b ∷ []) num)
  good_icmp d a b w num ty h i j l = record { form = (d, a, b, w, ty, record { defs = refl; type = h; uses = refl }, i, j, l); defs = (there_is d (S w) h, tt); uses = (there_is a ty i, (there_is b ty j, tt)) }

  pub good_select : (d c a b w : ℕ) (ty : GType) → Typed d ty → Typed c (S w) → Typed a ty → Typed b ty → Good f (inst_of g.Select (d ∷ []) (c ∷ a ∷ b ∷ []) 0)
  good_select d c a b w ty h k i j = record {
    form = (d, c, a, b, ty, record { defs = refl; type = h; uses = refl }, (w, k), i, j);
    defs = (there_is d ty h, tt);
    uses = (there_is c (S w) k, (there_is a ty i, (there_is b ty j, tt)));
  }

  pub good_copy : (d a : ℕ) (ty : GType) → Typed d ty → Typed a ty → Good f (inst_of g.Copy (d ∷ []) (a ∷ []) 0)
  good_copy d a ty h i = record { form = (d, a, ty, record { defs = refl; type = h; uses = refl }, i); defs = (there_is d ty h, tt); uses = (there_is a ty i, tt) }

  pub good_zext : (d a w v : ℕ) → Typed d (S w) → Typed a (S v) → v < w → Good f (inst_of g.ZExt (d ∷ []) (a ∷ []) 0)
  good_zext d a w v h i l = record { form = (d, a, w, v, record { defs = refl; type = h; uses = refl }, i, l); defs = (there_is d (S w) h, tt); uses = (there_is a (S v) i, tt) }

  pub good_sext : (d a w v : ℕ) → Typed d (S w) → Typed a (S v) → v < w → Good f (inst_of g.SExt (d ∷ []) (a ∷ []) 0)
  good_sext d a w v h i l = record { form = (d, a, w, v, record { defs = refl; type = h; uses = refl }, i, l); defs = (there_is d (S w) h, tt); uses = (there_is a (S v) i, tt) }

  pub good_trunc : (d a w v : ℕ) → Typed d (S w) → Typed a (S v) → w < v → Good f (inst_of g.Trunc (d ∷ []) (a ∷ []) 0)
  good_trunc d a w v h i l = record { form = (d, a, w, v, record { defs = refl; type = h; uses = refl }, i, l); defs = (there_is d (S w) h, tt); uses = (there_is a (S v) i, tt) }

  pub good_to_number : (d a w : ℕ) → Typed d (S w) → Typed a P0 → Good f (inst_of g.PtrToInt (d ∷ []) (a ∷ []) 0)
  good_to_number d a w h i = record { form = (d, a, w, record { defs = refl; type = h; uses = refl }, i); defs = (there_is d (S w) h, tt); uses = (there_is a P0 i, tt) }

  pub good_to_address : (d a w : ℕ) → Typed d P0 → Typed a (S w) → Good f (inst_of g.IntToPtr (d ∷ []) (a ∷ []) 0)
  good_to_address d a w h i = record { form = (d, a, record { defs = refl; type = h; uses = refl }, (w, i)); defs = (there_is d P0 h, tt); uses = (there_is a (S w) i, tt) }

  pub good_add : (d a b : ℕ) → Typed d P0 → Typed a P0 → Typed b (S 64) → Good f (inst_of g.PtrAdd (d ∷ []) (a ∷ b ∷ []) 0)
  good_add d a b h i j = record { form = (d, a, b, record { defs = refl; type = h; uses = refl }, i, j); defs = (there_is d P0 h, tt); uses = (there_is a P0 i, (there_is b (S 64) j, tt)) }

  pub good_take : (d num : ℕ) → Typed d P0 → Good f (inst_of g.TakeData (d ∷ []) [] num)
  good_take d num h = record { form = (d, record { defs = refl; type = h; uses = refl }); defs = (there_is d P0 h, tt); uses = tt }

  pub good_load : (d a num : ℕ) (ty : GType) → Typed d ty → Typed a P0 → IsSize f num ty → Good f (inst_of g.Load (d ∷ []) (a ∷ []) num)
  good_load d a num ty h i s = record { form = (d, a, ty, record { defs = refl; type = h; uses = refl }, i, s); defs = (there_is d ty h, tt); uses = (there_is a P0 i, tt) }

  pub good_store : (v a num : ℕ) (ty : GType) → Typed v ty → Typed a P0 → IsSize f num ty → Good f (inst_of g.Store [] (v ∷ a ∷ []) num)
  good_store v a num ty h i s = record { form = (v, a, ty, refl, refl, h, i, s); defs = tt; uses = (there_is v ty h, (there_is a P0 i, tt)) }

  pub good_copy_bytes : (to from n w : ℕ) → Typed to P0 → Typed from P0 → Typed n (S w) → Good f (inst_of g.CopyBytes [] (to ∷ from ∷ n ∷ []) 0)
  good_copy_bytes to from n w h i j = record { form = (to, from, n, refl, refl, h, i, (w, j)); defs = tt; uses = (there_is to P0 h, (there_is from P0 i, (there_is n (S w) j, tt))) }

  pub good_fill_bytes : (to byte n w : ℕ) → Typed to P0 → Typed byte (S 8) → Typed n (S w) → Good f (inst_of g.FillBytes [] (to ∷ byte ∷ n ∷ []) 0)
  good_fill_bytes to byte n w h i j = record { form = (to, byte, n, 8, refl, refl, h, i, omega arith, (w, j)); defs = tt; uses = (there_is to P0 h, (there_is byte (S 8) i, (there_is n (S w) j, tt))) }

  pub good_trap : Good f (inst_of g.Trap [] [] 0)
  good_trap = record { form = (refl, refl); defs = tt; uses = tt }

module _ (program : Program) (function : Function) (f : GFunction) (typed : ValuesTyped program f (types function) []) where
  abbrev gl : List Global
  gl = program.module_.globals

  abbrev G : GInst → Type 0
  G i = Good f i

  -- the number of a literal fits its type
  literal_fits : (ty : Ty) (o : Operand) (n : ℕ) → IsValueType ty → IsOperand (types function) ty o → literal gl o ≡ Some n → n < 2 ^ width ty
  literal_fits ty (Local k) n some is e = absurd (let bad : ⊥ = cc in bad)
  literal_fits ty (Num k) n some is e = let same : k ≡ n = cc in subst (λ (x : ℕ). x < 2 ^ width ty) same is
  literal_fits ty Null n some is e = let same : 0 ≡ n = cc in subst (λ (x : ℕ). x < 2 ^ width ty) same (pow_pos (width ty))
  literal_fits ty (Place k o) n some is e =
      let same : place_address gl k o ≡ n = cc in
      let wide : width ty ≡ 64 = ap width is in
      let low : place_address gl k o < 2 ^ 64 = omega arith in
      subst (λ (x : ℕ). x < 2 ^ width ty) same (subst (λ (w : ℕ). place_address gl k o < 2 ^ w) (sym wide) low)
  literal_fits ty Poison n some is e = let same : 0 ≡ n = cc in subst (λ (x : ℕ). x < 2 ^ width ty) same (pow_pos (width ty))

  write_good : (o : Option ℕ) (next n : ℕ) (ty : Ty) → IsValueType ty → n < 2 ^ width ty → Stand f.types next (write_types o (type_of ty)) → Every G (write_code o next n)
  write_good None next n ty some l stand = (
    good_constant f next n (type_of ty) (stand_first f.types next (type_of ty) [] stand) (subst (λ (w : ℕ). n < 2 ^ w) (sym (same_width ty (value_not_void ty some))) l),
    tt,
  )
  write_good (Some r) next n ty some l stand = tt

  load_good : (o : Option ℕ) (ty : Ty) (pool : Pool) → IsValueType ty → ((n : ℕ) → o ≡ Some n → n < 2 ^ width ty) → Stand f.types pool.next (loaded o ty pool) → Every G (load o ty pool)
  load_good None ty pool some l stand = tt
  load_good (Some n) ty pool some l stand = write_good (find pool (scalar_width ty, n)) pool.next n ty some (l n refl) stand

  pub loads_good : (ops : List (Ty × Operand)) (pool : Pool) → AreTyped program f (types function) [] ops → Stand f.types pool.next (all_loaded gl pool ops) → Every G (loads gl pool ops)
  loads_good [] pool are stand = tt
  loads_good (one ∷ more) pool are stand =
      every_both G (load (literal gl one.1) one.0 pool) (loads gl (behind (literal gl one.1) one.0 pool) more)
      (load_good (literal gl one.1) one.0 pool are.0 (λ n e. literal_fits one.0 one.1 n are.0 are.1 e)
      (stand_front f.types pool.next (loaded (literal gl one.1) one.0 pool) (all_loaded gl (behind (literal gl one.1) one.0 pool) more) stand))
      (loads_good more (behind (literal gl one.1) one.0 pool) are.2
      (stand_behind gl f.types (one ∷ []) pool (all_loaded gl (behind (literal gl one.1) one.0 pool) more)
      (subst (λ (z : List GType). Stand f.types pool.next z) (sym (append_assoc (loaded (literal gl one.1) one.0 pool) [] (all_loaded gl (behind (literal gl one.1) one.0 pool) more))) stand)))
