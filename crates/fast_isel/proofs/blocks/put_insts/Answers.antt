use Rattle.std.proofs.Common.{◌≡◌, ap, sym, ◌∙◌, ◌+◌, arith, length}
use Rattle.ir_core.specs.Units.{frame}
use Rattle.ir_meaning.specs.Step.{insts_at, number_at}
use Rattle.quick_code.specs.Blocks.{op_items}
use Rattle.fast_isel.specs.Taken.{is_form}
use Rattle.code_pieces.specs.Assembly.{put}
use Rattle.fast_isel.proofs.Counts.{number-most, number-step, edges_at}
use Rattle.fast_isel.proofs.Forms.{few_values, block_forms, forms-at}
use Rattle.fast_isel.proofs.Joins.{inst_at, insts_end, free_more, free_here, insts_more, insts_done}
use Rattle.fast_isel.proofs.blocks.put_insts.Goals as goal

pub put_inst-requires-clause-form : goal.put_inst-requires-clause-form
put_inst-requires-clause-form c =
    let f = c.args.function.now in
    let i = c.loop-inst.inst-index in
    let inst = c.inst-item.result in
    let at = inst_at f c.args.block c.args.place c.args.insts.now i inst c.requires.insts c.loop-inst-test.true c.inst-item.is in
    ap (λ v. is_form v (length f.blocks) inst.gives inst.op) c.requires.values
    ∙ forms-at _ (length f.blocks) (insts_at f c.args.block) (c.args.place + i) inst (block_forms f c.args.block c.requires.taken) at

pub put_inst-requires-clause-limit : goal.put_inst-requires-clause-limit
put_inst-requires-clause-limit c =
    c.requires.limited c.args.block (c.args.place + c.loop-inst.inst-index) c.inst-item.result
    (inst_at c.args.function.now c.args.block c.args.place c.args.insts.now c.loop-inst.inst-index c.inst-item.result c.requires.insts c.loop-inst-test.true c.inst-item.is)

pub put_inst-requires-clause-value : goal.put_inst-requires-clause-value
put_inst-requires-clause-value c =
    let most = number-most c.args.function.now c.args.block (c.args.place + c.loop-inst.inst-index) in
    let value = c.loop-inst.invariant.value in
    let values = c.requires.values in
    omega (arith, most, value, values)

pub put_inst-requires-clause-free : goal.put_inst-requires-clause-free
put_inst-requires-clause-free c = λ is-jump.
    free_here c.args.function.now c.loop-inst.asm c.args.block c.args.insts.now c.loop-inst.inst-index c.inst-item.result c.loop-inst-test.true c.loop-inst.invariant.free

pub put_inst-requires-clause-edges : goal.put_inst-requires-clause-edges
put_inst-requires-clause-edges c =
    let i = c.loop-inst.inst-index in
    let inst = c.inst-item.result in
    edges_at c.args.function.now c.args.block (c.args.place + i) inst (inst_at c.args.function.now c.args.block c.args.place c.args.insts.now i inst c.requires.insts c.loop-inst-test.true c.inst-item.is)

pub number_behind-value-requires : goal.number_behind-value-requires
number_behind-value-requires c =
    let most = number-most c.args.function.now c.args.block (c.args.place + c.loop-inst.inst-index) in
    let few = few_values c.args.function.now c.requires.taken in
    let value = c.loop-inst.invariant.value in
    omega (arith, most, value, few)

pub loop-inst-preserved : goal.loop-inst-preserved
loop-inst-preserved c =
    let f = c.args.function.now in
    let i = c.loop-inst.inst-index in
    let insts = c.args.insts.now in
    let inst = c.inst-item.result in
    let number = number_at f c.args.block (c.args.place + i) in
    let at = inst_at f c.args.block c.args.place insts i inst c.requires.insts c.loop-inst-test.true c.inst-item.is in
    let step = number-step f c.args.block (c.args.place + i) inst at in
    let value = c.loop-inst.invariant.value in
    let behind = c.number_behind-value.ensures in
    let follows : c.args.place + (i + 1) ≡ c.args.place + i + 1 = omega arith in
    let e = c.in_ok-put_inst.ensures ∙ ap (λ d. put c.loop-inst.asm (op_items c.args.globals.now f c.args.room (frame f) c.args.block d inst.gives inst.op)) value in
    record {
      value = behind ∙ (let z : c.loop-inst.value + _ ≡ number + _ = omega (arith, value) in z) ∙ sym step ∙ ap (λ k. number_at f c.args.block k) (sym follows);
      free = free_more c.args.globals.now f c.args.room c.loop-inst.asm c.put_inst.new.asm (frame f) c.args.block number insts i inst c.loop-inst-test.true c.inst-item.is (insts_end f c.requires.flow c.args.block c.args.place insts i c.requires.insts) e c.loop-inst.invariant.free;
      code = insts_more c.args.globals.now f c.args.room c.loop-inst.asm c.put_inst.new.asm _ (frame f) c.args.block (c.args.place + i) (c.args.place + (i + 1)) insts i inst c.loop-inst-test.true c.inst-item.is follows c.loop-inst.invariant.code e;
    }

pub returns : goal.returns
returns c = insts_done c.args.globals.now c.args.function.now c.args.room c.loop-inst.asm _ (frame c.args.function.now) c.args.block (c.args.place + c.loop-inst.inst-index) c.args.insts.now c.loop-inst.inst-index c.loop-inst-test.false c.loop-inst.invariant.code
