-- The types of the results of several blocks.
use Rattle.std.proofs.Common.{◌≡◌, refl, sym, ap, ◌∙◌, ℕ, suc, ◌+◌, ◌<◌, List, [], ◌∷◌, ◌++◌, length, map, drop, get_or, Bool, true, false, append_assoc, arith}
use Rattle.std.specs.Prelude.{if◌then◌else◌}
use Rattle.std.proofs.Math.Seq.{drop-cons}
use Rattle.std.proofs.lemmas.List.{map-append}
use Rattle.ir_core.specs.declared.types.Ty.{Ty}
use Rattle.ir_core.specs.declared.code.Inst.{Inst}
use Rattle.ir_core.specs.declared.code.Block.{Block}
use Rattle.ir_core.specs.Units.{has_result, instructions}
use Rattle.ir_meaning.specs.Typed.{result_types}
use Rattle.gmir.specs.declared.code.GType.{GType}
use Rattle.generic_code.specs.Literals.{type_of}

result-types-append : (xs ys : List Inst) → result_types (xs ++ ys) ≡ result_types xs ++ result_types ys
result-types-append [] ys = refl
result-types-append (x ∷ xs) ys = by (has_result x) (result-types-append xs ys)
  where
    by : (b : Bool) → result_types (xs ++ ys) ≡ result_types xs ++ result_types ys
        → (if b then x.gives ∷ result_types (xs ++ ys) else result_types (xs ++ ys)) ≡ (if b then x.gives ∷ result_types xs else result_types xs) ++ result_types ys
    by true rest = ap (λ (tys : List Ty). x.gives ∷ tys) rest
    by false rest = rest

-- the types of one block more are added
pub block-added : (all added total : List GType) (blocks : List Block) (i : ℕ) (block : Block) (insts : List Inst) → i < length blocks → block ≡ get_or blocks i block → insts ≡ block.insts
    → all ++ map type_of (result_types (instructions (drop i blocks))) ≡ total → added ≡ all ++ map type_of (result_types insts)
    → added ++ map type_of (result_types (instructions (drop (i + 1) blocks))) ≡ total
block-added all added total blocks i block insts lt is same h e =
    let rest : List Inst = instructions (drop (i + 1) blocks) in
    ap (λ (xs : List GType). xs ++ map type_of (result_types rest)) (e ∙ ap (λ (xs : List Inst). all ++ map type_of (result_types xs)) same)
    ∙ append_assoc all (map type_of (result_types block.insts)) (map type_of (result_types rest))
    ∙ ap (λ (xs : List GType). all ++ xs) (sym (map-append type_of (result_types block.insts) (result_types rest)) ∙ ap (map type_of) (sym (result-types-append block.insts rest)))
    ∙ ap (λ (b : Block). all ++ map type_of (result_types (b.insts ++ rest))) is
    ∙ ap (λ (n : ℕ). all ++ map type_of (result_types ((get_or blocks i block).insts ++ instructions (drop n blocks)))) (let one : i + 1 ≡ suc i = omega arith in one)
    ∙ ap (λ (bs : List Block). all ++ map type_of (result_types (instructions bs))) (sym (drop-cons blocks i block lt))
    ∙ h
