use Rattle.std.proofs.Common.{◌≡◌, ℕ, ◌≤◌, subst, arith}
use Rattle.std.specs.Prelude.{IfOk}
use Rattle.command_words.specs.Commands.{dump}
use Rattle.command_words.specs.Ranges.{IsInRange}
use Rattle.jit_main.specs.declared.answered.Answered.{Answered}
use Rattle.jit_main.specs.Ends.{LineWrites}
use Rattle.jit_main.proofs.top.serial_writes.Goals as goal

pub returns-in-Sim-clause-text : goal.returns-in-Sim-clause-text
returns-in-Sim-clause-text g c = rw c.in-Sim.is (λ marks. c.sim_files.ensures.text marks)

pub returns-in-Eval-clause-text : goal.returns-in-Eval-clause-text
returns-in-Eval-clause-text g c = rw c.in-Eval.is (λ marks. c.eval_files.ensures.text marks)

pub returns-in-Dump-clause-text : goal.returns-in-Dump-clause-text
returns-in-Dump-clause-text g c =
    let level = c.in-Dump.level in
    let range : (1 ≤ level) × (level ≤ 1) = subst IsInRange c.in-Dump.is c.requires.range in
    let low = range.0 in
    let high = range.1 in
    let one : 1 ≡ level = omega (arith, low, high) in
    let told = g.F.Files.told c.args.files.now in
    rw c.in-Dump.is
    (λ marks.
    subst
    (λ (n : ℕ). IfOk c.dump_file.result (λ (a : Answered). LineWrites marks (dump c.in-Dump.module_name.now n) told a.text.items a.is_unanswered))
    one
    (c.dump_file.ensures.text marks))
