use Rattle.std.proofs.Common.{◌≡◌, drop}
use Rattle.ir_types.specs.Walk.{walk}
use Rattle.ir_types.proofs.lists.walk.Given as goal

abbrev pub invariant-loop-one : goal.invariant-loop-one
invariant-loop-one g l = walk (g.S.Step.steps l.context) l.state (drop l.one-index l.given) ≡ walk (g.S.Step.steps l.context) l.fn.state l.given
