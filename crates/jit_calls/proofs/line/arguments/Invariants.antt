use Rattle.std.proofs.Common.{◌≡◌, ◌-◌, [], length}
use Rattle.jit_calls.specs.Form.{repeat}
use Rattle.jit_calls.specs.Line.{next_argument, with_argument}
use Rattle.jit_calls.proofs.line.arguments.Given as goal

abbrev pub invariant-loop : goal.invariant-loop
invariant-loop l = (repeat (next_argument l.scope.all.now.globals) with_argument (length l.fn.cursor - l.counter) l.args).read l.cursor ≡ (repeat (next_argument l.scope.all.now.globals) with_argument (length l.fn.cursor) []).read l.fn.cursor
