use Rattle.std.proofs.Common.{length}
use Rattle.fast_isel.proofs.Joins.{cases_sound, cases_more, cases_done}
use Rattle.fast_isel.proofs.switches.put_cases.Goals as goal

pub loop-case-preserved : goal.loop-case-preserved
loop-case-preserved c =
    let f = c.args.function.now in
    let cases = c.args.cases.now in
    let i = c.loop-case.case-index in
    record {
      sound = (cases_sound (length f.blocks) cases i (0, 0) c.loop-case-test.true c.loop-case.invariant.sound).2;
      code = cases_more c.args.globals.now f c.args.block cases c.loop-case.asm c.put_case.new.asm _ i c.case_label-label.result (0, 0) c.loop-case-test.true c.loop-case.invariant.code c.case_label-label.ensures c.in_ok-put_case.ensures;
    }

pub returns : goal.returns
returns c = cases_done c.args.globals.now c.args.function.now c.args.block c.args.cases.now c.loop-case.asm _ c.loop-case.case-index c.loop-case-test.false c.loop-case.invariant.code
