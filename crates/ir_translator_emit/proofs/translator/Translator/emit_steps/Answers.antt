use Rattle.std.proofs.Common.{ap, ◌∙◌, arith, get_or, List}
use Rattle.ir_core.specs.declared.program.Global.{Global}
use Rattle.generic_code.specs.Parts.{left_of}
use Rattle.ir_translator_emit.specs.declared.sums.Scaled.{Scaled}
use Rattle.ir_translator_emit.specs.Sums.{addend_of, stepped}
use Rattle.ir_translator_emit.proofs.Adding.{steps_more, steps_done}
use Rattle.ir_translator_emit.proofs.translator.Translator.emit_steps.Goals as goal

pub loop-one-preserved : goal.loop-one-preserved
loop-one-preserved c =
    let d : Scaled = record { width = 0; number = 0; size = 0 } in
    let one = get_or c.args.all.now c.loop-one.one-index d in
    let here = c.loop-one.invariant in
    let w = c.loop-one.self in
    let few = here.few in
    let most = c.in_ok-address.ensures.most in
    let next = steps_more c.args.self.now.globals w c.emit_step.new.self _ c.loop-one.address c.in_ok-address.address _ c.args.all.now c.loop-one.one-index d c.loop-one-test.true here.written here.register
    (c.in_ok-address.ensures.written ∙ ap (λ (g : List Global). stepped w c.loop-one.address (left_of g (addend_of one) w.pool)) here.globals)
    (c.in_ok-address.ensures.register ∙ ap (λ (g : List Global). (left_of g (addend_of one) w.pool).pool.next) here.globals) in
    record {
      globals = c.in_ok-address.ensures.globals ∙ here.globals;
      few = omega (arith, few, most);
      written = next.written;
      register = next.register;
    }

pub returns-clause-written : goal.returns-clause-written
returns-clause-written c = steps_done c.args.self.now.globals c.loop-one.self _ c.loop-one.address c.loop-one.address c.args.all.now c.loop-one.one-index c.loop-one-test.false c.loop-one.invariant.written
