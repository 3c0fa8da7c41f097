use Rattle.std.proofs.Common.{◌≡◌, ◌+◌, ◌≤◌, [], length}
use Rattle.jit_calls.specs.Lists.{lines, with_lines}
use Rattle.jit_calls.proofs.lists.ended_lines.Given as goal

abbrev pub invariant-loop-one : goal.invariant-loop-one
invariant-loop-one l = record {
  calls : with_lines l.scope.all.now.functions l.scope.all.now.globals l.line l.list (lines l.rest).0 ≡ with_lines l.scope.all.now.functions l.scope.all.now.globals 1 [] (lines l.fn.text).0;
  rest : (lines l.rest).1 ≡ (lines l.fn.text).1;
  line : l.line + length (lines l.rest).0 ≡ 1 + length (lines l.fn.text).0;
  size : length l.rest + l.line ≤ 1 + length l.fn.text;
  first : 1 ≤ l.line;
}

abbrev pub decreases-loop-one : goal.decreases-loop-one
decreases-loop-one l = length l.rest
