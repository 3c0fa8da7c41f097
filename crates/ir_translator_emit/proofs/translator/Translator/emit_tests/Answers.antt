use Rattle.std.proofs.Common.{◌<◌, ◌-◌, sym, subst, arith, length, get_or}
use Rattle.std.proofs.lemmas.Result.{on_ok_weaker}
use Rattle.ir_core.specs.declared.program.Function.{Function}
use Rattle.ir_translator_emit.proofs.Wholes.{case_written}
use Rattle.ir_translator_emit.proofs.Closing.{led_at, tests_end}
use Rattle.ir_translator_emit.proofs.translator.Translator.emit_tests.Goals as goal

pub emit_case-requires-clause-to : goal.emit_case-requires-clause-to
emit_case-requires-clause-to c =
    let low = c.loop-place-test.true in
    subst (λ (f : Function). (get_or c.args.cases.now c.loop-place.place (0, 0)).1 < length f.blocks) (sym c.loop-place.invariant.function)
    (led_at (length c.args.self.now.function.blocks) c.args.cases.now c.loop-place.place (0, 0) (omega (arith, low)) c.requires.cases)

pub loop-place-preserved : goal.loop-place-preserved
loop-place-preserved c =
    let here = c.loop-place.invariant in
    let low = c.loop-place-test.true in
    let own = c.in_ok-at.ensures.own in
    let own-here = here.own in
    let most = c.in_ok-at.ensures.most in
    let most-here = here.next in
    let more = case_written c.args.from c.args.self.now.globals c.args.self.now.function c.loop-place.self c.emit_case.new.self _ c.loop-place.at c.in_ok-at.at c.args.of c.args.register c.args.otherwise c.args.cases.now c.loop-place.place (0, 0)
    (omega (arith, low)) here.globals here.function here.written c.in_ok-at.ensures.written c.in_ok-at.ensures.next in
    record {
      globals = more.globals';
      function = more.function';
      next = omega (arith, most, most-here);
      own = omega (arith, own, own-here);
      written = more.written;
    }

pub emit_last_case-requires-clause-to : goal.emit_last_case-requires-clause-to
emit_last_case-requires-clause-to c =
    let some = c.requires.some in
    subst (λ (f : Function). (get_or c.args.cases.now (length c.args.cases.now - 1) (0, 0)).1 < length f.blocks) (sym c.loop-place.invariant.function)
    (led_at (length c.args.self.now.function.blocks) c.args.cases.now (length c.args.cases.now - 1) (0, 0) (omega (arith, some)) c.requires.cases)

pub returns-clause-written : goal.returns-clause-written
returns-clause-written c =
    let some = c.requires.some in
    let high = c.loop-place-test.false in
    let low = c.loop-place.auto.place-end in
    on_ok_weaker c.emit_last_case.result
    (λ e. tests_end c.args.self.now.globals c.args.self.now.function c.loop-place.self c.emit_last_case.new.self _ c.args.from c.loop-place.at c.args.of c.args.register c.args.otherwise c.args.cases.now c.loop-place.place (length c.args.cases.now - 1) (0, 0)
    (omega (arith, some)) (omega (arith, high, low)) c.loop-place.invariant.globals c.loop-place.invariant.function c.loop-place.invariant.written e)
    c.emit_last_case.ensures.written
