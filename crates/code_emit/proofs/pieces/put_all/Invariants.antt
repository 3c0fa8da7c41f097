use Rattle.std.proofs.Common.{◌≡◌, drop}
use Rattle.code_emit.specs.Written.{put_code}
use Rattle.code_emit.proofs.pieces.put_all.Given as goal

abbrev pub invariant-loop-instr : goal.invariant-loop-instr
invariant-loop-instr l = put_code l.asm (drop l.instr-index l.instrs) ≡ put_code l.fn.asm l.instrs
