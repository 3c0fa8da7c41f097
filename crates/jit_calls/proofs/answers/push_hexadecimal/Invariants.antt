use Rattle.std.proofs.Common.{◌≡◌, ◌++◌, ◌-◌}
use Rattle.jit_calls.specs.Answers.{hexadecimal}
use Rattle.jit_calls.proofs.answers.push_hexadecimal.Given as goal

abbrev pub invariant-loop-place : goal.invariant-loop-place
invariant-loop-place l = l.page ++ hexadecimal (16 - l.place) l.n ≡ l.fn.page ++ hexadecimal 16 l.n
