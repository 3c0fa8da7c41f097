use Rattle.std.proofs.Common.{◌∙◌, sym, subst, length, arith}
use Rattle.ir_core.specs.declared.program.Function.{Function}
use Rattle.ir_translator_emit.specs.Forms.{IsLed}
use Rattle.ir_translator.proofs.Insts.{fit_here, weight_here, behind_few, piece_kept, insts_more}
use Rattle.ir_translator.proofs.blocks.translate_insts.Goals as goal

pub translate_end-requires-clause-led : goal.translate_end-requires-clause-led
translate_end-requires-clause-led c =
    subst (λ (f : Function). IsLed (length f.blocks) c.inst-item.result.op) (sym c.loop-inst.invariant.function)
    (fit_here (length c.args.translator.now.function.blocks) c.args.insts.now c.loop-inst.inst-index c.inst-item.result c.loop-inst-test.true c.inst-item.is c.requires.fit).1

pub translate_inst-requires-clause-taken : goal.translate_inst-requires-clause-taken
translate_inst-requires-clause-taken c =
    (fit_here (length c.args.translator.now.function.blocks) c.args.insts.now c.loop-inst.inst-index c.inst-item.result c.loop-inst-test.true c.inst-item.is c.requires.fit).0

pub loop-inst-preserved : goal.loop-inst-preserved
loop-inst-preserved c =
    let here = c.loop-inst.invariant in
    let i = c.loop-inst.inst-index in
    let inst = c.inst-item.result in
    let kept = piece_kept c.loop-inst.translator c.translate_inst.new.self _ c.in_ok-translate_inst.ensures.written in
    let heavy = weight_here c.args.insts.now i inst c.loop-inst-test.true c.inst-item.is in
    let most = c.in_ok-translate_inst.ensures.most in
    let behind = behind_few inst c.loop-inst.value c.number_behind-value.result c.number_behind-value.ensures in
    let next = here.next in
    let value = here.value in
    let few = here.few in
    record {
      globals = kept.globals ∙ here.globals;
      function = kept.function ∙ here.function;
      own = kept.own ∙ here.own;
      next = omega (arith, heavy, most, next);
      value = omega (arith, heavy, behind, value);
      few = omega (arith, heavy, few);
      written = insts_more c.args.translator.now.globals c.args.translator.now.function c.args.from c.loop-inst.translator c.translate_inst.new.self _ c.loop-inst.value c.number_behind-value.result c.args.ret c.args.insts.now i inst
          c.loop-inst-test.true c.inst-item.is (sym c.if-is_jump.ensures) here.globals c.requires.ret here.written c.in_ok-translate_inst.ensures.written c.number_behind-value.ensures;
    }
