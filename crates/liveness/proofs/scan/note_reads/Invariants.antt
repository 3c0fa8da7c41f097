use Rattle.std.proofs.Common.{take}
use Rattle.liveness.specs.Scan.{NotesReads}
use Rattle.liveness.proofs.scan.note_reads.Given as goal

abbrev pub invariant-loop-register : goal.invariant-loop-register
invariant-loop-register l = NotesReads l.initial.search l.written (take l.register-index l.registers) l.block l.point l.search
