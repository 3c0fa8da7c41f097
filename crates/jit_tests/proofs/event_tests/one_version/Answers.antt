use Rattle.std.proofs.Common.{List, sym, subst}
use Rattle.ir_meaning.specs.Meaning.{meaning}
use Rattle.rv_play.specs.declared.version.Version.{Version}
use Rattle.jit_core.specs.First.{AreQuick}
use Rattle.jit_tests.proofs.EventQuick.{one_quick}
use Rattle.jit_tests.proofs.event_tests.one_version.Goals as goal

pub returns-in-Ok : goal.returns-in-Ok
returns-in-Ok c = subst (λ (l : List Version). AreQuick (meaning c.args.all.now) l) (sym c.in-Ok.ensures) (one_quick c.args.all.now c.in_ok-version.version c.requires.one c.in_ok-version.ensures.version)
