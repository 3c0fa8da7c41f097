use Rattle.std.proofs.Common.{◌≡◌, ap₂, sym, subst, ◌∙◌, Some}
use Rattle.code_pieces.specs.Assembly.{put}
use Rattle.code_emit.specs.Written.{put_code}
use Rattle.mir.specs.declared.code.MFunction.{MFunction}
use Rattle.mir.specs.declared.places.Places.{Places}
use Rattle.mir.specs.Code.{inst_at}
use Rattle.frame_code.specs.Code.{entry_code, blocks_items}
use Rattle.frame_out.specs.Ready.{IsReady}
use Rattle.frame_out.proofs.Joining.{entry_free, function_put}
use Rattle.frame_out.proofs.layout.code_of.Goals as goal

pub put_blocks-requires-clause-ready : goal.put_blocks-requires-clause-ready
put_blocks-requires-clause-ready c = λ block place inst at.
    subst (λ (places : Places). IsReady places inst) (sym c.new-placed.ensures.places)
    (c.requires.ready block place inst (subst (λ (f : MFunction). inst_at f block place ≡ Some inst) c.new-placed.ensures.function at))

pub put_blocks-requires-clause-free : goal.put_blocks-requires-clause-free
put_blocks-requires-clause-free c =
    entry_free c.len-count.result c.in_ok-asm.asm c.put_entry.new.asm (entry_code c.args.function.now c.args.places.now) c.in_ok-asm.ensures
    (c.in_ok-put_entry.ensures ∙ ap₂ (λ (f : MFunction) (places : Places). put_code c.in_ok-asm.asm (entry_code f places)) c.new-placed.ensures.function c.new-placed.ensures.places)

pub returns : goal.returns
returns c =
    function_put c.args.function.now c.args.places.now c.len-count.result c.in_ok-asm.asm c.put_entry.new.asm c.put_blocks.new.asm c.len-count.ensures c.in_ok-asm.ensures
    (c.in_ok-put_entry.ensures ∙ ap₂ (λ (f : MFunction) (places : Places). put_code c.in_ok-asm.asm (entry_code f places)) c.new-placed.ensures.function c.new-placed.ensures.places)
    (c.in_ok-put_blocks.ensures ∙ ap₂ (λ (f : MFunction) (places : Places). put c.put_entry.new.asm (blocks_items f places 0 f.blocks)) c.new-placed.ensures.function c.new-placed.ensures.places)
