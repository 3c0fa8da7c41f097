use Rattle.std.proofs.Common.{◌≡◌, ◌++◌, map, take}
use Rattle.mir.proofs.operands.put_firsts.Given as goal

abbrev pub invariant-loop-pair : goal.invariant-loop-pair
invariant-loop-pair l = l.list.items ≡ l.initial.list.items ++ map (λ pair. pair.0) (take l.pair-index l.pairs)
