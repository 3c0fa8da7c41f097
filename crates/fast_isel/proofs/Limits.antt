-- The types that instructions of a checked module name keep their limits, and sizes of their parts are small.
use Rattle.std.proofs.Common.{◌≡◌, refl, sym, subst, ℕ, zero, suc, ◌^◌, ◌<◌, List, [], ◌∷◌, ◌++◌, length, get_or, Option, Some, None, arith}
use Rattle.std.specs.Prelude.{slice_get}
use Rattle.ir_core.specs.declared.types.Ty.{Ty}
use Rattle.ir_core.specs.declared.types.MemTy.{MemTy, roll-MemTy, out-MemTy, roll-out-MemTy}
use Rattle.ir_core.specs.declared.types.MemTy.TheVariants.{rolls-Array, rolls-Struct}
use Rattle.ir_core.specs.declared.types.MemTy.TheOpen as layer
use Rattle.ir_core.specs.declared.code.Operand.{Operand}
use Rattle.ir_core.specs.declared.code.Operand.TheVariants.{Value as Local, Num, Null, Place, Poison}
use Rattle.ir_core.specs.declared.code.Inst.{Inst}
use Rattle.ir_core.specs.declared.code.Block.{Block}
use Rattle.ir_core.specs.declared.program.Function.{Function}
use Rattle.ir_core.specs.declared.program.Module.{Module}
use Rattle.ir_core.specs.Layout.{size, HasSizesWithin}
use Rattle.ir_core.specs.Units.{instructions}
use Rattle.ir_core.proofs.Structs.{struct-fields}
use Rattle.ir_flow.specs.Limits.{op_limit, insts_limit, function_limit, functions_limit, globals_limit}
use Rattle.ir_meaning.specs.Step.{insts_at, insts_of}
use Rattle.ir_verify.specs.Verdict.{refusal}
use Rattle.ir_verify.proofs.Lists.{or_none_left, or_none_right}
use Rattle.ir_verify.proofs.Rows.{no_limit}
use Rattle.ir_data.proofs.Sizes.{size_within, element_within}
use Rattle.quick_code.specs.Parts.{Piece, sized, literal, of_field, piece, pieces_into, pieces, AreSmall}
use Rattle.fast_isel.specs.Written.{AreLimited}

-- ---- limits of types

limit_left : (xs ys : List Inst) → insts_limit (xs ++ ys) ≡ None → insts_limit xs ≡ None
limit_left [] ys e = refl
limit_left (x ∷ xs) ys e =
    let a = or_none_left (op_limit x.op) (insts_limit (xs ++ ys)) e in
    let b = limit_left xs ys (or_none_right (op_limit x.op) (insts_limit (xs ++ ys)) e) in
    rw (a, b) refl

limit_right : (xs ys : List Inst) → insts_limit (xs ++ ys) ≡ None → insts_limit ys ≡ None
limit_right [] ys e = e
limit_right (x ∷ xs) ys e = limit_right xs ys (or_none_right (op_limit x.op) (insts_limit (xs ++ ys)) e)

block_limit : (blocks : List Block) (b : ℕ) → insts_limit (instructions blocks) ≡ None → insts_limit (insts_of (slice_get blocks b)) ≡ None
block_limit [] b e = refl
block_limit (x ∷ xs) zero e = limit_left x.insts (instructions xs) e
block_limit (x ∷ xs) (suc b) e = block_limit xs b (limit_right x.insts (instructions xs) e)

inst_limit : (insts : List Inst) (i : ℕ) (inst : Inst) → insts_limit insts ≡ None → slice_get insts i ≡ Some inst → op_limit inst.op ≡ None
inst_limit [] i inst e at = absurd (let bad : ⊥ = cc in bad)
inst_limit (x ∷ xs) zero inst e at = let same : x ≡ inst = cc in subst (λ (y : Inst). op_limit y.op ≡ None) same (or_none_left (op_limit x.op) (insts_limit xs) e)
inst_limit (x ∷ xs) (suc i) inst e at = inst_limit xs i inst (or_none_right (op_limit x.op) (insts_limit xs) e) at

function_none : (functions : List Function) (i : ℕ) (f : Function) → functions_limit functions ≡ None → slice_get functions i ≡ Some f → function_limit f ≡ None
function_none [] i f e at = absurd (let bad : ⊥ = cc in bad)
function_none (x ∷ xs) zero f e at = let same : x ≡ f = cc in subst (λ (y : Function). function_limit y ≡ None) same (or_none_left (function_limit x) (functions_limit xs) e)
function_none (x ∷ xs) (suc i) f e at = function_none xs i f (or_none_right (function_limit x) (functions_limit xs) e) at

pub limited-at : (module_ : Module) (symbol : ℕ) (function : Function) → refusal module_ ≡ None → slice_get module_.functions symbol ≡ Some function → AreLimited function
limited-at module_ symbol function rows there = λ block place inst at.
    let none = no_limit module_ rows in
    let a = or_none_right _ _ none in
    let b = or_none_right _ _ a in
    let c = or_none_right (globals_limit module_.globals) (functions_limit module_.functions) b in
    let f = function_none module_.functions symbol function c there in
    let g = or_none_right _ _ f in
    let insts = or_none_right _ (insts_limit (instructions function.blocks)) g in
    inst_limit (insts_at function block) place inst (block_limit function.blocks block insts) at

-- ---- sizes of parts

small-sized : (size : ℕ) (ty : Ty) (o : Operand) (ps : List Piece) → size < 2 ^ 64 → AreSmall ps → AreSmall (sized size ty o ++ ps)
small-sized size ty (Local number) ps lt h = (lt, h)
small-sized size ty (Num k) ps lt h = h
small-sized size ty Null ps lt h = h
small-sized size ty (Place g k) ps lt h = h
small-sized size ty Poison ps lt h = h

within-get : (fields : List MemTy) (i : ℕ) (f : MemTy) → slice_get fields i ≡ Some f → (i < length fields) × (get_or fields i f ≡ f)
within-get [] i f e = absurd (let bad : ⊥ = cc in bad)
within-get (x ∷ xs) zero f e = (omega arith, let same : x ≡ f = cc in same)
within-get (x ∷ xs) (suc i) f e = let r = within-get xs i f e in let lt = r.0 in (omega (arith, lt), r.1)

small-size : (ty : MemTy) → HasSizesWithin ty → size ty < 2 ^ 64
small-size ty h = let s = size_within ty h in omega (arith, s)

small-into : (indices : List (Ty × Operand)) (ty : MemTy) → HasSizesWithin ty → AreSmall (pieces_into indices ty)
small-into [] ty h = tt
small-into (index ∷ indices) ty h = by_layer (out-MemTy ty) (subst HasSizesWithin (sym (roll-out-MemTy ty)) h) (λ part. small-into indices part)
  where
    by_layer : (l : layer.MemTy-F MemTy) → HasSizesWithin (roll-MemTy l) → ((part : MemTy) → HasSizesWithin part → AreSmall (pieces_into indices part)) → AreSmall (piece (pieces_into indices) l index)
    by_layer (layer.Int w) h rest = tt
    by_layer layer.Ptr h rest = tt
    by_layer (layer.Array count element) h rest =
        let within = element_within count element (subst HasSizesWithin (rolls-Array count element) h) in
        small-sized (size element) index.0 index.1 (pieces_into indices element) (small-size element within) (rest element within)
    by_layer (layer.Struct fields packed) h rest = by_field (slice_get fields (literal index.0 index.1)) refl
      where
        by_field : (f : Option MemTy) → slice_get fields (literal index.0 index.1) ≡ f → AreSmall (of_field [] (pieces_into indices) f)
        by_field None e = tt
        by_field (Some field) e =
            let at = within-get fields (literal index.0 index.1) field e in
            rest field (subst HasSizesWithin at.1 (struct-fields fields packed (subst HasSizesWithin (rolls-Struct fields packed) h) (literal index.0 index.1) field at.0))

pub small-pieces : (ty : MemTy) (indices : List (Ty × Operand)) → HasSizesWithin ty → AreSmall (pieces ty indices)
small-pieces ty [] h = tt
small-pieces ty (index ∷ indices) h = small-sized (size ty) index.0 index.1 (pieces_into indices ty) (small-size ty h) (small-into indices ty h)
