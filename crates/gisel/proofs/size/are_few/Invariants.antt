use Rattle.std.proofs.Common.{◌≡◌, ◌+◌, ◌^◌, drop}
use Rattle.gisel.specs.Size.{sizes}
use Rattle.gisel.proofs.size.are_few.Given as goal

abbrev pub invariant-loop-insts : goal.invariant-loop-insts
invariant-loop-insts l = l.left + sizes l.fn.blocks ≡ 2 ^ 24 + sizes (drop l.insts-index l.blocks)
