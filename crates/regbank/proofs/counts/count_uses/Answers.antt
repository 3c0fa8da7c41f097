use Rattle.std.proofs.Common.{◌<◌, ◌≤◌, length, take_all, arith, subst}
use Rattle.gmir.specs.Formed.{times}
use Rattle.regbank.specs.Counts.{Counts}
use Rattle.regbank.proofs.Counting.{use_counted}
use Rattle.regbank.proofs.counts.count_uses.Goals as goal

pub loop-register-preserved : goal.loop-register-preserved
loop-register-preserved c =
    use_counted c.args.registers.now c.loop-register.register-index c.args.counts.now.items c.loop-register.counts.items _ (let z : c.loop-register.register-index < length c.args.registers.now = omega arith in z) c.loop-register.invariant c.count_use.ensures

pub returns : goal.returns
returns c = subst (λ xs. Counts (λ r. times r xs) c.args.counts.now.items c.loop-register.counts.items) (take_all c.loop-register.register-index c.args.registers.now (let z : length c.args.registers.now ≤ c.loop-register.register-index = omega arith in z)) c.loop-register.invariant
