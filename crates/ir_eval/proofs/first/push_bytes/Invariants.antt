use Rattle.std.proofs.Common.{◌≡◌, ◌++◌, map, take, Some}
use Rattle.ir_eval.proofs.first.push_bytes.Given as goal

abbrev pub invariant-loop-byte : goal.invariant-loop-byte
invariant-loop-byte l = l.memory ≡ l.fn.memory ++ map Some (take l.byte-index l.bytes)
