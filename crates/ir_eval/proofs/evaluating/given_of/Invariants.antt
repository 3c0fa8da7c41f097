use Rattle.std.proofs.Common.{◌≡◌, map, take, Some}
use Rattle.ir_eval.proofs.evaluating.given_of.Given as goal

abbrev pub invariant-loop-n : goal.invariant-loop-n
invariant-loop-n l = l.given ≡ map Some (take l.n-index l.args)
