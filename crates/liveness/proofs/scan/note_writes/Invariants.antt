use Rattle.std.proofs.Common.{take}
use Rattle.liveness.specs.Scan.{NotesWrites}
use Rattle.liveness.proofs.scan.note_writes.Given as goal

abbrev pub invariant-loop-register : goal.invariant-loop-register
invariant-loop-register l = NotesWrites l.initial.search l.initial.written (take l.register-index l.registers) l.point l.search l.written
