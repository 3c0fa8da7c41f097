use Rattle.std.proofs.Common.{ap, ◌∙◌, arith, get_or, length}
use Rattle.code_pieces.specs.Assembly.{put}
use Rattle.quick_code.specs.Blocks.{case_edge}
use Rattle.fast_isel.proofs.Joins.{cases_sound, edges_more, edges_done, edges_free}
use Rattle.fast_isel.proofs.switches.put_case_edges.Goals as goal

pub loop-case-preserved : goal.loop-case-preserved
loop-case-preserved c =
    let g = c.args.globals.now in
    let f = c.args.function.now in
    let block = c.args.block in
    let cases = c.args.cases.now in
    let i = c.loop-case.case-index in
    let number = c.loop-case.invariant.number in
    let e = c.in_ok-put_case_edge.ensures ∙ ap (λ n. put c.loop-case.asm (case_edge g f block cases n (get_or cases i (0, 0)).1)) number in
    record {
      number = omega (arith, number);
      sound = (cases_sound (length f.blocks) cases i (0, 0) c.loop-case-test.true c.loop-case.invariant.sound).2;
      free = edges_free g f block i (get_or cases i (0, 0)).1 cases c.loop-case.asm c.put_case_edge.new.asm e c.loop-case.invariant.free;
      code = edges_more g f block cases c.loop-case.asm c.put_case_edge.new.asm _ i (0, 0) c.loop-case-test.true c.loop-case.invariant.code e;
    }

pub returns : goal.returns
returns c = edges_done c.args.globals.now c.args.function.now c.args.block c.args.cases.now c.loop-case.asm _ c.loop-case.case-index c.loop-case-test.false c.loop-case.invariant.code
