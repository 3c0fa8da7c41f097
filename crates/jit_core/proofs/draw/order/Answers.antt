use Rattle.std.proofs.Common.{◌%◌, ◌<◌, length, sym, subst}
use Rattle.std.proofs.Math.Nat.{mod-lt}
use Rattle.rv_play.specs.declared.version.Version.{Version}
use Rattle.code_epochs.specs.Sound.{At}
use Rattle.code_epochs.proofs.Lists.{at_index}
use Rattle.jit_core.proofs.Draws.{not_empty}
use Rattle.jit_core.proofs.draw.order.Goals as goal

pub returns-clause-drawn : goal.returns-clause-drawn
returns-clause-drawn c =
    let vs = c.args.versions.now in
    let some_one : 0 < length vs = not_empty vs c.is_empty.result c.is_empty.ensures c.if-is_empty.false in
    let place = c.args.number % length vs in
    (place, subst (λ (v : Version). At vs place v) (sym c.in_ok-version.ensures) (at_index vs place c.index-versions-place.result (mod-lt c.args.number some_one) c.index-versions-place.is))
