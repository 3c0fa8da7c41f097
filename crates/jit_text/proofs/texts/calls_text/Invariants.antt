use Rattle.std.proofs.Common.{◌≡◌}
use Rattle.jit_text.specs.ManyCallsTexts.{calls_text}
use Rattle.jit_text.proofs.texts.calls_text.Given as goal

abbrev pub invariant-loop-i : goal.invariant-loop-i
invariant-loop-i l = l.page ≡ calls_text l.i
