use Rattle.std.proofs.Common.{◌≡◌, ◌+◌, drop}
use Rattle.gisel.specs.Size.{size}
use Rattle.gisel.proofs.size.left_behind.Given as goal

abbrev pub invariant-loop-inst : goal.invariant-loop-inst
invariant-loop-inst l = l.left + size l.fn.insts ≡ l.fn.most + size (drop l.inst-index l.insts)
