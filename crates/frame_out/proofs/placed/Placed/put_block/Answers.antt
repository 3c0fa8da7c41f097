use Rattle.std.proofs.Common.{◌≡◌, ap, subst, ◌∙◌, List, get_or}
use Rattle.std.specs.Prelude.{slice_get, Some}
use Rattle.mir.specs.declared.code.MInst.{MInst}
use Rattle.code_pieces.specs.Assembly.{put}
use Rattle.frame_code.specs.Code.{insts_items}
use Rattle.frame_out.proofs.Joining.{block_is, block_put}
use Rattle.frame_out.proofs.placed.Placed.put_block.Goals as goal

pub put_insts-requires-clause-ready : goal.put_insts-requires-clause-ready
put_insts-requires-clause-ready c = λ place inst at.
    let f = c.args.self.now.function.now in
    let is = c.as_slice-insts.ensures ∙ block_is f c.args.block c.index-as_slice-block.result c.requires.block (c.index-as_slice-block.is ∙ ap (λ blocks. get_or blocks c.args.block c.index-as_slice-block.result) c.as_slice.ensures) in
    c.requires.ready c.args.block place inst (subst (λ (insts : List MInst). slice_get insts place ≡ Some inst) is at)

pub returns : goal.returns
returns c =
    let f = c.args.self.now.function.now in
    let is = c.as_slice-insts.ensures ∙ block_is f c.args.block c.index-as_slice-block.result c.requires.block (c.index-as_slice-block.is ∙ ap (λ blocks. get_or blocks c.args.block c.index-as_slice-block.result) c.as_slice.ensures) in
    block_put f c.args.self.now.places.now c.args.asm.now c.put_label.new.asm c.put_insts.new.asm c.args.block c.put_label.ensures
    (c.in_ok-put_insts.ensures ∙ ap (λ insts. put c.put_label.new.asm (insts_items f c.args.self.now.places.now c.args.block insts)) is)
