use Rattle.std.proofs.Common.{ap, ◌∙◌, arith, length}
use Rattle.ir_meaning.specs.Step.{number_at, on_edge}
use Rattle.quick_code.specs.Blocks.{next_code}
use Rattle.code_emit.specs.Written.{put_code}
use Rattle.fast_isel.specs.Taken.{are_edge_operands}
use Rattle.fast_isel.proofs.Counts.{number-most}
use Rattle.fast_isel.proofs.Joins.{stands_at, phi_form, phi_number, phi_none, none_left, next_more, nexts_done}
use Rattle.fast_isel.proofs.jumps.put_nexts.Goals as goal

pub operand_on-operand-requires : goal.operand_on-operand-requires
operand_on-operand-requires c =
    let form = phi_form c.args.values (length c.args.function.now.blocks) c.args.insts.now c.loop-inst.inst-index c.inst-item.result c.in-Phi.pairs c.loop-inst-test.true c.inst-item.is c.in-Phi.is c.loop-inst.invariant.forms in
    ap (are_edge_operands c.args.values) c.as_slice.ensures ∙ form.operands

pub put_next-requires-clause-value : goal.put_next-requires-clause-value
put_next-requires-clause-value c =
    let most = number-most c.args.function.now c.args.to c.loop-inst.inst-index in
    let value = c.loop-inst.invariant.value in
    let values = c.requires.values in
    omega (arith, most, value, values)

pub overflow_add-value : goal.overflow_add-value
overflow_add-value c =
    let most = number-most c.args.function.now c.args.to c.loop-inst.inst-index in
    let value = c.loop-inst.invariant.value in
    let values = c.requires.values in
    let few = c.requires.few in
    omega (arith, most, value, values, few)

pub loop-inst-preserved : goal.loop-inst-preserved
loop-inst-preserved c =
    let f = c.args.function.now in
    let i = c.loop-inst.inst-index in
    let insts = c.args.insts.now in
    let inst = c.inst-item.result in
    let form = phi_form c.args.values (length f.blocks) insts i inst c.in-Phi.pairs c.loop-inst-test.true c.inst-item.is c.in-Phi.is c.loop-inst.invariant.forms in
    let number = phi_number f c.args.to i inst (stands_at f c.args.to insts i inst c.requires.insts c.loop-inst-test.true c.inst-item.is) form.result in
    let value = c.loop-inst.invariant.value in
    record {
      value = omega (arith, number, value);
      forms = form.rest;
      code = next_more c.args.globals.now f c.loop-inst.asm c.put_next.new.asm _ c.args.from c.args.to insts i inst c.in-Phi.pairs c.loop-inst-test.true c.inst-item.is c.in-Phi.is c.loop-inst.invariant.code
          (c.in_ok-put_next-in-Phi.ensures ∙ ap (λ d. put_code c.loop-inst.asm (next_code c.args.globals.now d c.operand_on-operand.result)) value
          ∙ ap (λ o. put_code c.loop-inst.asm (next_code c.args.globals.now (number_at f c.args.to i) o)) (c.operand_on-operand.ensures.value ∙ ap (on_edge c.args.from) c.as_slice.ensures));
    }

pub returns-in_default : goal.returns-in_default
returns-in_default c =
    nexts_done c.args.globals.now c.args.function.now c.loop-inst.asm _ c.args.from c.args.to c.args.insts.now c.loop-inst.inst-index
    (phi_none c.args.insts.now c.loop-inst.inst-index c.inst-item.result c.loop-inst-test.true c.inst-item.is c.in_default.not-Phi) c.loop-inst.invariant.code

pub returns : goal.returns
returns c =
    nexts_done c.args.globals.now c.args.function.now c.loop-inst.asm _ c.args.from c.args.to c.args.insts.now c.loop-inst.inst-index (none_left c.args.insts.now c.loop-inst.inst-index c.loop-inst-test.false) c.loop-inst.invariant.code
