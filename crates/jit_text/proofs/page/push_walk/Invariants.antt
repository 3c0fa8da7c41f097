use Rattle.std.proofs.Common.{◌≡◌, ◌++◌, drop}
use Rattle.jit_text.specs.RefusalTexts.{walk_text}
use Rattle.jit_text.proofs.page.push_walk.Given as goal

abbrev pub invariant-loop-block : goal.invariant-loop-block
invariant-loop-block l = l.page ++ walk_text (drop l.block-index l.walk) ≡ l.fn.page ++ walk_text l.walk
