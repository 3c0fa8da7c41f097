use Rattle.std.proofs.Common.{refl, arith}
use Rattle.phi_out.proofs.Making.{puts_branch, puts_same, no_targets}
use Rattle.phi_out.proofs.lowering.put_inst.Goals as goal

pub sides-requires-clause-then : goal.sides-requires-clause-then
sides-requires-clause-then c = c.requires.inside c.in-Branch.then (rw c.in-Branch.is (0, omega arith, refl))

pub sides-requires-clause-other : goal.sides-requires-clause-other
sides-requires-clause-other c = c.requires.inside c.in-Branch.other (rw c.in-Branch.is (1, omega arith, refl))

pub returns-in_ok-put-in-Branch : goal.returns-in_ok-put-in-Branch
returns-in_ok-put-in-Branch c =
    rw c.in-Branch.is (rw c.in_ok-put-in-Branch.ensures
    (puts_branch c.args.function.now c.args.from c.in-Branch.op c.in-Branch.a c.in-Branch.b c.in-Branch.then c.in-Branch.other c.in_ok-both-in-Branch.both.0 c.in_ok-both-in-Branch.both.1
    c.args.edges.now.items c.sides.new.edges.items c.args.block.now.items c.in_ok-both-in-Branch.ensures))

pub returns-in_ok-put-in_default : goal.returns-in_ok-put-in_default
returns-in_ok-put-in_default c =
    rw c.in_ok-put-in_default.ensures (rw c.in_ok-same-in_default.ensures
    (puts_same c.args.function.now c.args.from c.args.inst.now c.args.edges.now.items c.args.block.now.items (no_targets c.args.inst.now c.in_default.not-Jump c.in_default.not-Branch) c.requires.no_phi))
