-- The code of a function has no more static weight than the function.
use Rattle.std.proofs.Common.{◌≡◌, refl, sym, ap, subst, ◌∙◌, ℕ, zero, suc, ◌+◌, ◌*◌, ◌≤◌, Bool, true, false, List, [], ◌∷◌, ◌++◌, length, Option, Some, None, arith}
use Rattle.std.specs.Prelude.{sum_by, slice_index_or, if◌then◌else◌}
use Rattle.std.proofs.lemmas.List.Sums.{sum_by-cons, sum_by-append}
use Rattle.std.proofs.Math.Nat.{mul-le-mul_left}
use Rattle.ir_core.specs.declared.code.Pred.{Pred}
use Rattle.ir_core.specs.declared.code.Pred.TheVariants as pred
use Rattle.gmir.specs.declared.code.GType.{GType}
use Rattle.gmir.specs.declared.code.GOp.{GOp}
use Rattle.gmir.specs.declared.code.GOp.TheVariants.{Add, Sub, Mul, UDiv, SDiv, URem, SRem, And, Or, Xor, Shl, LShr, AShr, Icmp, Select, Trunc, ZExt, SExt, AnyExt, SExtInReg, PtrToInt, IntToPtr, PtrAdd, Constant, Phi, Load, Store, Br, BrCond, Param, Call, Return, TakeData, CopyBytes, FillBytes, Copy, Trap}
use Rattle.gmir.specs.declared.code.GInst.{GInst}
use Rattle.gmir.specs.declared.code.GFunction.{GFunction}
use Rattle.gmir.specs.Play.{def_at, use_at, weight, op_weight, is_phi}
use Rattle.gmir.specs.Refines.{static_of, static_of_block, static_weight}
use Rattle.mir.specs.declared.code.MInst.{MInst}
use Rattle.walks.specs.Bits.{predicates}
use Rattle.mir_play.specs.Refines as target
use Rattle.selected_code.specs.Selected.{compare, paired, code_by, code, fresh, fresh_in, code_from, blocks_from, selected}
use Rattle.selected_code.proofs.Edges.{least_of}

paired_short : (rs bs : List ℕ) → length (paired rs bs) ≤ length rs
paired_short [] [] = omega arith
paired_short [] (b ∷ bs) = omega arith
paired_short (r ∷ rs) [] = omega arith
paired_short (r ∷ rs) (b ∷ bs) = let low = paired_short rs bs in omega (arith, low)

module _ (types : List GType) (t : ℕ) (i : GInst) where
  abbrev Light : GOp → Type 0
  Light op = sum_by target.static_of (code_by t i op) ≤ (if is_phi op then length i.uses * weight types i else weight types i)

  compare_light : (c : Pred) (d a b : ℕ) → sum_by target.static_of (compare c t d a b) ≤ 44
  compare_light pred.Eq d a b = omega arith
  compare_light pred.Ne d a b = omega arith
  compare_light pred.Ugt d a b = omega arith
  compare_light pred.Uge d a b = omega arith
  compare_light pred.Ult d a b = omega arith
  compare_light pred.Ule d a b = omega arith
  compare_light pred.Sgt d a b = omega arith
  compare_light pred.Sge d a b = omega arith
  compare_light pred.Slt d a b = omega arith
  compare_light pred.Sle d a b = omega arith

  phis_light : 40 ≤ weight types i → length (paired i.uses i.to) * 40 ≤ length i.uses * weight types i
  phis_light low =
      let few = paired_short i.uses i.to in
      let more : length i.uses * 40 ≤ length i.uses * weight types i = mul-le-mul_left (length i.uses) low in
      omega (arith, few, more)

  light : (op : GOp) → i.op ≡ op → op_weight op true (length i.uses) ≤ weight types i → Light op
  light Phi is l = let low = phis_light l in omega (arith, low)
  light Icmp is l = let low = compare_light (slice_index_or predicates i.num pred.Eq) (def_at i 0) (use_at i 0) (use_at i 1) in omega (arith, l, low)
  light Add is l = omega (arith, l)
  light Sub is l = omega (arith, l)
  light Mul is l = omega (arith, l)
  light UDiv is l = omega (arith, l)
  light SDiv is l = omega (arith, l)
  light URem is l = omega (arith, l)
  light SRem is l = omega (arith, l)
  light And is l = omega (arith, l)
  light Or is l = omega (arith, l)
  light Xor is l = omega (arith, l)
  light Shl is l = omega (arith, l)
  light LShr is l = omega (arith, l)
  light AShr is l = omega (arith, l)
  light Select is l = omega (arith, l)
  light Trunc is l = omega (arith, l)
  light ZExt is l = omega (arith, l)
  light SExt is l = omega (arith, l)
  light AnyExt is l = omega (arith, l)
  light SExtInReg is l = omega (arith, l)
  light PtrToInt is l = omega (arith, l)
  light IntToPtr is l = omega (arith, l)
  light PtrAdd is l = omega (arith, l)
  light Constant is l = omega (arith, l)
  light Load is l = omega (arith, l)
  light Store is l = omega (arith, l)
  light Br is l = omega (arith, l)
  light BrCond is l = omega (arith, l)
  light Param is l = omega (arith, l)
  light Call is l = omega (arith, l)
  light Return is l = omega (arith, l)
  light TakeData is l = omega (arith, l)
  light CopyBytes is l = omega (arith, l)
  light FillBytes is l = omega (arith, l)
  light Copy is l = omega (arith, l)
  light Trap is l = omega (arith, l)

  inst_light : sum_by target.static_of (code t i) ≤ static_of types i
  inst_light = light i.op refl (least_of types i i.op refl)

block_light : (types : List GType) (t : ℕ) (is : List GInst) → sum_by target.static_of (code_from t is) ≤ sum_by (static_of types) is
block_light types t [] = omega arith
block_light types t (i ∷ is) =
    let one = inst_light types t i in
    let more = block_light types (t + fresh i.op) is in
    let left : sum_by target.static_of (code t i ++ code_from (t + fresh i.op) is) ≡ sum_by target.static_of (code t i) + sum_by target.static_of (code_from (t + fresh i.op) is) =
    sum_by-append target.static_of (code t i) (code_from (t + fresh i.op) is) in
    let right : sum_by (static_of types) (i ∷ is) ≡ static_of types i + sum_by (static_of types) is = sum_by-cons (static_of types) i is in
    subst (λ k. k ≤ sum_by (static_of types) (i ∷ is)) (sym left) (subst (λ k. sum_by target.static_of (code t i) + sum_by target.static_of (code_from (t + fresh i.op) is) ≤ k) (sym right) (omega (arith, one, more)))

blocks_light : (types : List GType) (t : ℕ) (blocks : List (List GInst)) → sum_by target.static_of_block (blocks_from t blocks) ≤ sum_by (static_of_block types) blocks
blocks_light types t [] = omega arith
blocks_light types t (insts ∷ blocks) =
    let one = block_light types t insts in
    let more = blocks_light types (t + fresh_in insts) blocks in
    let left : sum_by target.static_of_block (code_from t insts ∷ blocks_from (t + fresh_in insts) blocks) ≡ target.static_of_block (code_from t insts) + sum_by target.static_of_block (blocks_from (t + fresh_in insts) blocks) =
    sum_by-cons target.static_of_block (code_from t insts) (blocks_from (t + fresh_in insts) blocks) in
    let right : sum_by (static_of_block types) (insts ∷ blocks) ≡ static_of_block types insts + sum_by (static_of_block types) blocks = sum_by-cons (static_of_block types) insts blocks in
    subst (λ k. k ≤ sum_by (static_of_block types) (insts ∷ blocks)) (sym left)
    (subst (λ k. sum_by target.static_of (code_from t insts) + sum_by target.static_of_block (blocks_from (t + fresh_in insts) blocks) ≤ k) (sym right) (omega (arith, one, more)))

pub static_light : (g : GFunction) → target.static_weight (selected g) ≤ static_weight g
static_light g = let low = blocks_light g.types (length g.types) g.blocks in omega (arith, low)
