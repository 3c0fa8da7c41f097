-- Plans as plain data.
use Rattle.std.specs.Prelude.{ℕ}
use Rattle.std.specs.Coded.{Coded, code_by, coded×, coded_ℕ}
use mathlib.Core.Path.{refl}
use Rattle.ir_core.specs.Program.{Program}
use Rattle.ir_verify.specs.contracts.checked.Checked as checked
use Rattle.redirect_cells.specs.declared.view.Plan.{Plan}

-- a plan is told apart by its module and its sizes
abbrev pub plan_code : Coded Plan
plan_code = code_by (Program × (ℕ × ℕ)) (coded× checked.the_row.coded (coded× coded_ℕ coded_ℕ)) (λ p. (p.module.value, (p.harts, p.code_words))) (λ t. record { «module» = record { marker = record {}; value = t.0 }; harts = t.1.0; code_words = t.1.1 }) (λ _. refl)
