use Rattle.std.proofs.Common.{◌≡◌, ◌++◌, drop}
use Rattle.jit_calls.specs.Reports.{row_lines}
use Rattle.jit_calls.proofs.report.push_rows.Given as goal

abbrev pub invariant-loop-symbol : goal.invariant-loop-symbol
invariant-loop-symbol l = l.page ++ row_lines l.functions l.symbol (drop l.symbol l.rows) ≡ l.fn.page ++ row_lines l.functions 0 l.rows
