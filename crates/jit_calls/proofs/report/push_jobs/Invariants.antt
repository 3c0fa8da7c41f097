use Rattle.std.proofs.Common.{◌≡◌, ◌++◌, drop}
use Rattle.jit_calls.specs.Reports.{refused_lines}
use Rattle.jit_calls.proofs.report.push_jobs.Given as goal

abbrev pub invariant-loop-job : goal.invariant-loop-job
invariant-loop-job l = l.page ++ refused_lines l.functions (drop l.job-index l.jobs) ≡ l.fn.page ++ refused_lines l.functions l.jobs
