use Rattle.std.proofs.Common.{◌-◌, ap, ◌∙◌, arith, length, ◌∷◌, []}
use Rattle.std.specs.Prelude.{take, drop, slice_get}
use Rattle.ir_core.specs.Units.{frame, values}
use Rattle.code_pieces.specs.Assembly.{put}
use Rattle.code_pieces.specs.Items.{Bind}
use Rattle.quick_code.specs.Blocks.{block_label, insts_items}
use Rattle.fast_isel.specs.Taken.{are_forms}
use Rattle.ir_meaning.specs.Step.{insts_at}
use Rattle.fast_isel.proofs.Counts.{number-most, label_below}
use Rattle.fast_isel.proofs.Forms.{few_values, block_forms}
use Rattle.fast_isel.proofs.Joins.{all_behind, block_put, block_free}
use Rattle.fast_isel.proofs.blocks.put_block.Goals as goal

pub put_label-requires : goal.put_label-requires
put_label-requires c =
    let below = label_below c.args.function.now c.args.block c.requires.block in
    ap (slice_get c.args.asm.now.bound) c.label_in.ensures.value ∙ c.requires.free (block_label c.args.function.now c.args.block) (omega arith) (omega (arith, below))

pub put_insts-requires-clause-free : goal.put_insts-requires-clause-free
put_insts-requires-clause-free c =
    block_free c.args.function.now c.args.asm.now c.put_label.new.asm c.put_phis.new.asm c.args.block (c.put_label.ensures ∙ ap (λ l. put c.args.asm.now (Bind l ∷ [])) c.label_in.ensures.value) c.in_ok-heads.ensures.code c.requires.free

pub put_phis-requires-clause-forms : goal.put_phis-requires-clause-forms
put_phis-requires-clause-forms c =
    let f = c.args.function.now in
    ap (λ v. are_forms v (length f.blocks) c.insts_in-insts.result.now) c.requires.values ∙ ap (are_forms (values f) (length f.blocks)) c.insts_in-insts.ensures ∙ block_forms f c.args.block c.requires.taken

pub overflow_add-first : goal.overflow_add-first
overflow_add-first c =
    let most = number-most c.args.function.now c.args.block c.in_ok-heads.heads in
    let number = c.in_ok-heads.ensures.number in
    let few = few_values c.args.function.now c.requires.taken in
    omega (arith, most, number, few)

pub returns : goal.returns
returns c =
    let f = c.args.function.now in
    let heads = c.in_ok-heads.heads in
    let insts = c.insts_in-insts.result.now in
    let rest = take (length insts - heads) (drop heads insts) in
    let many = c.in_ok-heads.ensures.heads in
    block_put c.args.globals.now f c.args.room c.args.asm.now c.put_label.new.asm c.put_phis.new.asm c.put_insts.new.asm (frame f) c.args.block rest (c.put_label.ensures ∙ ap (λ l. put c.args.asm.now (Bind l ∷ [])) c.label_in.ensures.value) c.in_ok-heads.ensures.code
    (all_behind insts heads ∙ ap (drop heads) c.insts_in-insts.ensures ∙ ap (λ k. drop k (insts_at f c.args.block)) many)
    (c.in_ok-put_insts.ensures ∙ ap (λ k. put c.put_phis.new.asm (insts_items c.args.globals.now f c.args.room (frame f) c.args.block k rest)) many)
