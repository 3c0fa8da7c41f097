use Rattle.std.proofs.Common.{ap, sym, ◌∙◌, arith, length, ◌++◌}
use Rattle.rv_core.specs.declared.reg.Reg.TheVariants.{T0}
use Rattle.ir_meaning.specs.Step.{number_at}
use Rattle.code_pieces.specs.Code.{store_value}
use Rattle.quick_code.specs.Blocks.{load_next}
use Rattle.code_emit.specs.Written.{put_code}
use Rattle.fast_isel.proofs.Counts.{number-most}
use Rattle.fast_isel.proofs.Joins.{stands_at, phi_form, phi_first, phi_number, phi_none, none_left, phis_more, phis_done}
use Rattle.fast_isel.proofs.jumps.put_phis.Goals as goal

pub put_phi-requires : goal.put_phi-requires
put_phi-requires c =
    let most = number-most c.args.function.now c.args.block c.loop-inst.inst-index in
    let value = c.loop-inst.invariant.value in
    let values = c.requires.values in
    let few = c.requires.few in
    omega (arith, most, value, values, few)

pub loop-inst-preserved : goal.loop-inst-preserved
loop-inst-preserved c =
    let f = c.args.function.now in
    let i = c.loop-inst.inst-index in
    let insts = c.args.insts.now in
    let inst = c.inst-item.result in
    let form = phi_form c.args.values (length f.blocks) insts i inst c.in-Phi.field-0 c.loop-inst-test.true c.inst-item.is c.in-Phi.is c.loop-inst.invariant.forms in
    let number = phi_number f c.args.block i inst (stands_at f c.args.block insts i inst c.requires.insts c.loop-inst-test.true c.inst-item.is) form.result in
    let value = c.loop-inst.invariant.value in
    let heads = c.loop-inst.invariant.heads in
    let many = c.loop-inst.invariant.many in
    let first = ap length (phi_first insts i inst c.in-Phi.field-0 c.loop-inst-test.true c.inst-item.is c.in-Phi.is) in
    record {
      heads = omega (arith, heads);
      value = omega (arith, number, value);
      forms = form.rest;
      many = omega (arith, many, first);
      code = phis_more f c.loop-inst.asm c.put_phi.new.asm _ c.args.block insts i inst c.in-Phi.field-0 c.loop-inst-test.true c.inst-item.is c.in-Phi.is c.loop-inst.invariant.code
          (c.in_ok-put_phi-in-Phi.ensures ∙ ap (λ d. put_code c.loop-inst.asm (load_next T0 d ++ store_value T0 d)) value);
    }

pub overflow_add-first : goal.overflow_add-first
overflow_add-first c =
    let most = number-most c.args.function.now c.args.block c.loop-inst.inst-index in
    let value = c.loop-inst.invariant.value in
    let values = c.requires.values in
    let few = c.requires.few in
    omega (arith, most, value, values, few)

pub overflow_add-heads : goal.overflow_add-heads
overflow_add-heads c =
    let most = number-most c.args.function.now c.args.block c.loop-inst.inst-index in
    let value = c.loop-inst.invariant.value in
    let values = c.requires.values in
    let few = c.requires.few in
    omega (arith, most, value, values, few)

pub returns-in_default : goal.returns-in_default
returns-in_default c =
    let f = c.args.function.now in
    let i = c.loop-inst.inst-index in
    let insts = c.args.insts.now in
    let none = phi_none insts i c.inst-item.result c.loop-inst-test.true c.inst-item.is c.in_default.not-Phi in
    let counted = ap length none in
    let many = c.loop-inst.invariant.many in
    let heads = c.loop-inst.invariant.heads in
    record {
      code = phis_done f c.loop-inst.asm _ c.args.block insts i none c.loop-inst.invariant.code;
      heads = omega (arith, many, counted);
      number = c.loop-inst.invariant.value ∙ ap (λ k. number_at f c.args.block k) (sym heads);
    }

pub returns-clause-code : goal.returns-clause-code
returns-clause-code c =
    phis_done c.args.function.now c.loop-inst.asm _ c.args.block c.args.insts.now c.loop-inst.inst-index (none_left c.args.insts.now c.loop-inst.inst-index c.loop-inst-test.false) c.loop-inst.invariant.code
