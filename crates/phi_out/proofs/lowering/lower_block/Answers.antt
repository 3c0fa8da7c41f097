use Rattle.std.proofs.Common.{◌≡◌, Some, take, ◌∙◌, ap}
use Rattle.std.specs.Prelude.{slice_get}
use Rattle.mir.specs.Code.{block_of}
use Rattle.mir_play.specs.Play.{behind_phis}
use Rattle.phi_out.proofs.Making.{puts_none, puts_last}
use Rattle.phi_out.proofs.Blocks.{not_phi, inside, few_edges, take_last, read_at}
use Rattle.phi_out.proofs.lowering.lower_block.Goals as goal

pub loop-inst-init : goal.loop-inst-init
loop-inst-init c = rw c.new-block.ensures.items (puts_none c.args.function.now c.args.from c.args.edges.now.items)

pub put_inst-requires-clause-no_phi : goal.put_inst-requires-clause-no_phi
put_inst-requires-clause-no_phi c =
    let at : slice_get c.behind-inst-items.result.now c.loop-inst.inst-index ≡ Some c.inst-item.result = read_at c.behind-inst-items.result.now c.loop-inst.inst-index c.inst-item.result c.loop-inst-test.true c.inst-item.is in
    let list : c.behind-inst-items.result.now ≡ behind_phis (block_of c.args.function.now c.args.from) = c.behind-inst-items.ensures ∙ ap behind_phis c.block_at.ensures in
    not_phi c.args.function.now c.requires.formed c.args.from c.loop-inst.inst-index c.inst-item.result (rw list at at)

pub put_inst-requires-clause-inside : goal.put_inst-requires-clause-inside
put_inst-requires-clause-inside c =
    let at : slice_get c.behind-inst-items.result.now c.loop-inst.inst-index ≡ Some c.inst-item.result = read_at c.behind-inst-items.result.now c.loop-inst.inst-index c.inst-item.result c.loop-inst-test.true c.inst-item.is in
    let list : c.behind-inst-items.result.now ≡ behind_phis (block_of c.args.function.now c.args.from) = c.behind-inst-items.ensures ∙ ap behind_phis c.block_at.ensures in
    inside c.args.function.now c.requires.formed c.args.from c.loop-inst.inst-index c.inst-item.result (rw list at at)

pub put_inst-requires-clause-few : goal.put_inst-requires-clause-few
put_inst-requires-clause-few c =
    let at : slice_get c.behind-inst-items.result.now c.loop-inst.inst-index ≡ Some c.inst-item.result = read_at c.behind-inst-items.result.now c.loop-inst.inst-index c.inst-item.result c.loop-inst-test.true c.inst-item.is in
    let list : c.behind-inst-items.result.now ≡ behind_phis (block_of c.args.function.now c.args.from) = c.behind-inst-items.ensures ∙ ap behind_phis c.block_at.ensures in
    few_edges c.args.function.now c.requires.formed c.args.from c.loop-inst.inst-index c.inst-item.result (rw list at at)
    c.args.edges.now.items c.loop-inst.edges.items c.loop-inst.block.items (rw list at c.loop-inst.invariant) 4294967296 c.requires.few

pub loop-inst-preserved : goal.loop-inst-preserved
loop-inst-preserved c =
    let at : slice_get c.behind-inst-items.result.now c.loop-inst.inst-index ≡ Some c.inst-item.result = read_at c.behind-inst-items.result.now c.loop-inst.inst-index c.inst-item.result c.loop-inst-test.true c.inst-item.is in
    rw (take_last c.behind-inst-items.result.now c.loop-inst.inst-index c.inst-item.result at)
    (puts_last c.args.function.now c.args.from (take c.loop-inst.inst-index c.behind-inst-items.result.now) c.inst-item.result c.args.edges.now.items c.loop-inst.edges.items c.put_inst.new.edges.items
    c.loop-inst.block.items c.put_inst.new.block.items c.loop-inst.invariant c.in_ok-put_inst.ensures)
