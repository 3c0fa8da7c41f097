use Rattle.std.proofs.Common.{List, sym, subst}
use Rattle.rv_play.specs.declared.version.Version.{Version}
use Rattle.redirect_cells.specs.Opened.{AreQuick}
use Rattle.jit_tests.proofs.TableQuick.{one_quick}
use Rattle.jit_tests.proofs.table_tests.one_version.Goals as goal

pub returns-in-Ok : goal.returns-in-Ok
returns-in-Ok c = λ plan value. subst (λ (l : List Version). AreQuick plan l) (sym c.in-Ok.ensures) (one_quick plan c.args.all.now c.in_ok-version.version value c.requires.one c.in_ok-version.ensures.version)
