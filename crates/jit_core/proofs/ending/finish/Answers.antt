use Rattle.std.proofs.Common.{[], length, refl}
use Rattle.jit_core.proofs.Simulating.{same_core, same_more, all_stand_for}
use Rattle.jit_core.proofs.Finishing.{over_answered, more_rounds}
use Rattle.jit_core.proofs.ending.finish.Goals as goal

pub loop-init : goal.loop-init
loop-init c = record { kept = c.requires.kept; same = same_core c.args.core.now; makes = ([], 0, refl, refl) }

pub loop-preserved : goal.loop-preserved
loop-preserved c =
    let at = c.loop in
    let inv = at.invariant in
    let e = c.go_round.ensures in record {
      kept = e.kept;
      same = same_more c.args.core.now at.core c.go_round.new.core inv.same e.same;
      makes = more_rounds c.args.core.now at.core c.go_round.new.core (length c.args.core.now.seats.items) inv.same.2 inv.makes e.makes;
    }

pub returns-then-not-go_round-clause-makes : goal.returns-then-not-go_round-clause-makes
returns-then-not-go_round-clause-makes c =
    let at = c.loop in
    let inv = at.invariant in
    let e = c.go_round.ensures in
    let m = more_rounds c.args.core.now at.core c.go_round.new.core (length c.args.core.now.seats.items) inv.same.2 inv.makes e.makes in
    (m.0, m.1, m.2, m.3, all_stand_for c.args.core.now c.go_round.new.core m.0 m.3)

pub returns-then-not-go_round-clause-same : goal.returns-then-not-go_round-clause-same
returns-then-not-go_round-clause-same c = same_more c.args.core.now c.loop.core c.go_round.new.core c.loop.invariant.same c.go_round.ensures.same

pub returns-then-not-go_round-clause-ended : goal.returns-then-not-go_round-clause-ended
returns-then-not-go_round-clause-ended c = over_answered c.go_round.new.core c.go_round.ensures.kept (c.go_round.ensures.over c.if-not-go_round.true)
