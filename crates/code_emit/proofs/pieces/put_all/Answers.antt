use Rattle.code_emit.proofs.Put.{instr_more, instrs_done, valid-at}
use Rattle.code_emit.proofs.pieces.put_all.Goals as goal

pub put_instr-requires : goal.put_instr-requires
put_instr-requires c = valid-at _ _ _ c.requires c.loop-instr-test.true

pub loop-instr-preserved : goal.loop-instr-preserved
loop-instr-preserved c = instr_more c.loop-instr.asm c.put_instr.new.asm _ c.args.instrs.now c.loop-instr.instr-index _ c.loop-instr-test.true c.loop-instr.invariant c.in_ok-put_instr.ensures

pub returns : goal.returns
returns c = instrs_done c.loop-instr.asm _ c.args.instrs.now c.loop-instr.instr-index c.loop-instr-test.false c.loop-instr.invariant
