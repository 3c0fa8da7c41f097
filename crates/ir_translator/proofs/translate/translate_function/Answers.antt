use Rattle.std.proofs.Common.{◌∙◌, ap, ap₂, sym, subst, arith, length, List, ℕ}
use Rattle.gmir.specs.declared.code.GType.{GType}
use Rattle.generic_code.specs.Edges.{Edge}
use Rattle.ir_core.specs.declared.code.Block.{Block}
use Rattle.gmir.specs.declared.code.GInst.{GInst}
use Rattle.ir_translator_emit.specs.Written.{Written}
use Rattle.ir_translator.specs.Fit.{weight_of}
use Rattle.ir_translator.specs.Groups.{AreGroups}
use Rattle.ir_translator.specs.Laid.{all_laid, codes_of}
use Rattle.ir_translator.proofs.Joining.{codes-many}
use Rattle.ir_translator.proofs.Totals.{types-many, values-few, bodies-same, few-edges, whole-is}
use Rattle.ir_translator.proofs.translate.translate_function.Goals as goal

pub overflow_cast-values : goal.overflow_cast-values
overflow_cast-values c =
    let f = c.args.function.now in
    let many = ap (λ (xs : List GType). length xs) c.in_ok-types.ensures ∙ types-many f in
    let long = c.len-values.ensures in
    let few = values-few f in
    let params = c.requires.fit.params in
    let weight = c.requires.fit.few in
    omega (arith, many, long, few, params, weight)

pub translate_blocks-requires-clause-room : goal.translate_blocks-requires-clause-room
translate_blocks-requires-clause-room c =
    let f = c.args.function.now in
    let many = ap (λ (xs : List GType). length xs) c.in_ok-types.ensures ∙ types-many f in
    let next = ap (λ (w : Written). w.pool.next) c.new-translator.ensures in
    let blocks = ap (λ (bs : List Block). weight_of bs) c.as_slice.ensures in
    let few = values-few f in
    let params = c.requires.fit.params in
    let weight = c.requires.fit.few in
    omega (arith, many, next, blocks, few, params, weight)

pub by_target-requires : goal.by_target-requires
by_target-requires c =
    let f = c.args.function.now in
    let g = c.args.globals.now in
    let tys = c.in_ok-types.types in
    let bodies = bodies-same g f tys c.new-translator.result c.len-params.result c.as_slice.result.now c.new-translator.ensures c.len-params.ensures c.as_slice.ensures in
    let written = c.in_ok-codes.ensures.written ∙ ap₂ all_laid c.new-translator.ensures bodies in
    let few = few-edges g f tys c.as_slice-2.result.now c.translate_blocks.new.translator (c.as_slice-2.ensures ∙ c.into_parts-parts.ensures.edges) written in
    let weight = c.requires.fit.few in
    record { few = omega (arith, few, weight) }

pub join_blocks-requires-clause-count : goal.join_blocks-requires-clause-count
join_blocks-requires-clause-count c =
    let f = c.args.function.now in
    let g = c.args.globals.now in
    let tys = c.in_ok-types.types in
    let bodies = bodies-same g f tys c.new-translator.result c.len-params.result c.as_slice.result.now c.new-translator.ensures c.len-params.ensures c.as_slice.ensures in
    let written = c.in_ok-codes.ensures.written ∙ ap₂ all_laid c.new-translator.ensures bodies in
    ap (λ (xs : List (List GInst)). length xs) (c.in_ok-codes.ensures.codes ∙ ap codes_of bodies) ∙ codes-many g f 0 (length f.params) (length tys) (length f.blocks) f.blocks

pub join_blocks-requires-clause-groups : goal.join_blocks-requires-clause-groups
join_blocks-requires-clause-groups c = λ globals.
    subst (λ (es : List Edge). AreGroups globals c.args.function.now es c.as_slice-4.result.now) (c.as_slice-2.ensures ∙ sym c.as_slice-3.ensures)
    (subst (λ (gs : List (List ℕ)). AreGroups globals c.args.function.now c.as_slice-2.result.now gs) (sym c.as_slice-4.ensures.value) (c.in_ok-groups.ensures.groups globals c.args.function.now))

pub returns : goal.returns
returns c = λ program same room.
    let f = c.args.function.now in
    let g = c.args.globals.now in
    let tys = c.in_ok-types.types in
    let bodies = bodies-same g f tys c.new-translator.result c.len-params.result c.as_slice.result.now c.new-translator.ensures c.len-params.ensures c.as_slice.ensures in
    let written = c.in_ok-codes.ensures.written ∙ ap₂ all_laid c.new-translator.ensures bodies in
    whole-is program f g c.args.symbol c.len-values.result c.args.end tys c.into_parts-parts.result.types c.translate_blocks.new.translator c.as_slice-3.result.now c.in_ok-codes.codes.items c.in_ok-blocks.blocks c.add_blocks.new.blocks c.into_parts-parts.result.blocks
    same room c.in_ok-types.ensures c.len-values.ensures written (c.in_ok-codes.ensures.codes ∙ ap codes_of bodies)
    c.into_parts-parts.ensures.types c.into_parts-parts.ensures.blocks (c.as_slice-3.ensures ∙ c.into_parts-parts.ensures.edges)
    (c.in_ok-blocks.ensures g) c.in_ok-add_blocks.ensures
