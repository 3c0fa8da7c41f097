use Rattle.std.proofs.Common.{◌<◌, ◌≤◌, ◌++◌, ◌∙◌, length, take_all, ap, arith}
use Rattle.regbank.specs.Choice.{choices}
use Rattle.regbank.proofs.Choosing.{inst_chosen, one_below}
use Rattle.regbank.proofs.banks.choose_block.Goals as goal

pub choose_inst-requires : goal.choose_inst-requires
choose_inst-requires c = one_below (length c.args.counts.now) c.args.insts.now c.loop-inst.inst-index c.inst-item.result c.requires (let z : c.loop-inst.inst-index < length c.args.insts.now = omega arith in z) c.inst-item.is

pub loop-inst-preserved : goal.loop-inst-preserved
loop-inst-preserved c = λ n counts.
    inst_chosen c.args.insts.now c.loop-inst.inst-index c.inst-item.result n c.args.kept.now.items c.loop-inst.kept.items c.choose_inst.new.kept.items
    (let z : c.loop-inst.inst-index < length c.args.insts.now = omega arith in z) c.inst-item.is (c.loop-inst.invariant n counts) (c.in_ok-choose_inst.ensures n counts)

pub returns : goal.returns
returns c = λ n counts.
    c.loop-inst.invariant n counts
    ∙ ap (λ xs. c.args.kept.now.items ++ choices n xs) (take_all c.loop-inst.inst-index c.args.insts.now (let z : length c.args.insts.now ≤ c.loop-inst.inst-index = omega arith in z))
