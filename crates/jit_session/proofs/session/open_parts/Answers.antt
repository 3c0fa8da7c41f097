use Rattle.std.proofs.Common.{◌≡◌, ℕ, ◌+◌, length, ap, ◌∙◌, sym, subst}
use Rattle.jit_session.proofs.SessionOpening.{opened}
use Rattle.jit_session.proofs.session.open_parts.Goals as goal

pub returns : goal.returns
returns g c =
    let number = c.requires.seats.0 in
    opened c.args.checked.now c.args.table.now c.args.shared.now.counts c.args.calls c.args.policy c.in_ok-runners.runners.items c.in_ok-runners.all c.in_ok-asking.asking (length c.args.seats.items) number
    c.in_ok-runners.ensures.count c.in_ok-runners.ensures.new c.in_ok-runners.ensures.all (c.in_ok-runners.ensures.parts ∙ c.in_ok-spare.ensures.parts) c.in_ok-asking.ensures.asking c.new_parts.result c.new_parts.ensures.harts c.new_parts.ensures.asking
