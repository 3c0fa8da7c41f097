use Rattle.std.proofs.Common.{ap, ◌∙◌, ◌+◌, ◌*◌}
use Rattle.code_pieces.specs.Code.{prologue}
use Rattle.code_pieces.specs.Bytes.{save_code}
use Rattle.quick_code.specs.Data.{takes_data}
use Rattle.quick_code.specs.Blocks.{block_label, label_count, arguments_code}
use Rattle.code_pieces.specs.Assembly.{labelled}
use Rattle.code_emit.specs.Written.{put_code}
use Rattle.fast_isel.proofs.Joins.{function_put, function_free}
use Rattle.fast_isel.proofs.blocks.code_of.Goals as goal

pub put_blocks-requires-clause-free : goal.put_blocks-requires-clause-free
put_blocks-requires-clause-free c =
    let f = c.args.function.now in
    function_free c.args.symbol f c.put_prologue.new.asm c.put_save.new.asm c.put_parameters.new.asm
    (c.in_ok-put_prologue.ensures
    ∙ ap (λ a. put_code a (prologue c.args.symbol (128 + 32 * c.args.values))) (c.in_ok-asm.ensures ∙ ap labelled (c.label_in.ensures.value ∙ ap (block_label f) c.len.ensures))
    ∙ ap (λ v. put_code (labelled (label_count f)) (prologue c.args.symbol (128 + 32 * v))) c.requires.values)
    (c.in_ok-put_save.ensures ∙ ap (λ b. put_code c.put_prologue.new.asm (save_code b (128 + 32 * c.args.values))) c.takes_data-takes.ensures ∙ ap (λ v. put_code c.put_prologue.new.asm (save_code (takes_data f) (128 + 32 * v))) c.requires.values)
    (c.in_ok-put_parameters.ensures ∙ ap (λ ts. put_code c.put_save.new.asm (arguments_code 0 ts)) c.as_slice-2.ensures)

pub returns : goal.returns
returns c =
    let f = c.args.function.now in
    function_put c.args.globals.now c.args.symbol f c.args.room c.put_prologue.new.asm c.put_save.new.asm c.put_parameters.new.asm c.put_blocks.new.asm
    (c.in_ok-put_prologue.ensures
    ∙ ap (λ a. put_code a (prologue c.args.symbol (128 + 32 * c.args.values))) (c.in_ok-asm.ensures ∙ ap labelled (c.label_in.ensures.value ∙ ap (block_label f) c.len.ensures))
    ∙ ap (λ v. put_code (labelled (label_count f)) (prologue c.args.symbol (128 + 32 * v))) c.requires.values)
    (c.in_ok-put_save.ensures ∙ ap (λ b. put_code c.put_prologue.new.asm (save_code b (128 + 32 * c.args.values))) c.takes_data-takes.ensures ∙ ap (λ v. put_code c.put_prologue.new.asm (save_code (takes_data f) (128 + 32 * v))) c.requires.values)
    (c.in_ok-put_parameters.ensures ∙ ap (λ ts. put_code c.put_save.new.asm (arguments_code 0 ts)) c.as_slice-2.ensures)
    c.in_ok-put_blocks.ensures
