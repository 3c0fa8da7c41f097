-- The functions of a plan's module, and its versions.
use Rattle.std.proofs.Common.{◌≡◌, ℕ, List, length, sym, ap, subst, ◌∙◌}
use Rattle.ir_core.specs.Program.{Program}
use Rattle.ir_meaning.specs.Meaning.{meaning}
use Rattle.rv_play.specs.Good.{Good}
use Rattle.redirect_cells.specs.declared.view.Plan.{Plan}
use Rattle.redirect_cells.specs.Kept.{meaning_of, functions_of}

pub functions_counted : (plan : Plan) (program : Program) (n : ℕ) → plan.module.value ≡ program → n ≡ length program.module_.functions → n ≡ functions_of plan
unfolding meaning_of
functions_counted plan program n value count = count ∙ ap (λ (p : Program). length p.module_.functions) (sym value)

-- a good version of the module's function is one of the plan's
pub good_in : (plan : Plan) (program : Program) (symbol : ℕ) (words : List ℕ) → plan.module.value ≡ program → Good (meaning program) symbol words → Good (meaning_of plan) symbol words
unfolding meaning_of
good_in plan program symbol words value good = subst (λ (p : Program). Good (meaning p) symbol words) (sym value) good
