-- A session over first versions.
use Rattle.std.proofs.Common.{◌≡◌, ℕ, ◌≤◌, List, [], ◌∷◌, ◌++◌, length, sym, ap, subst, ◌∙◌}
use Rattle.ir_core.specs.Program.{Program}
use Rattle.ir_meaning.specs.Meaning.{meaning}
use Rattle.rv_play.specs.declared.version.Version.{Version}
use Rattle.rv_play.specs.Good.{Good}
use Rattle.code_epochs.specs.Sound.{At}
use Rattle.redirect_cells.specs.declared.view.Plan.{Plan}
use Rattle.redirect_cells.specs.Kept.{meaning_of, functions_of}
use Rattle.redirect_cells.specs.Opened.{AreQuick}
use Rattle.jit_session.specs.Sessions.{AreFirst}

-- first versions of a program are those of a table for it
pub quick : (plan : Plan) (program : Program) (versions : List Version) → plan.module.value ≡ program → AreFirst program versions → AreQuick plan versions
unfolding meaning_of
quick plan program versions same first =
    subst (λ (p : Program). (length versions ≡ length p.module_.functions) × ((k : ℕ) (v : Version) → At versions k v → (v.symbol ≡ k) × Good (meaning p) k v.words)) (sym same) (first.count, first.good)

pub functions_same : (plan : Plan) (program : Program) → plan.module.value ≡ program → functions_of plan ≡ length program.module_.functions
unfolding meaning_of
functions_same plan program same = ap (λ (p : Program). length p.module_.functions) same
