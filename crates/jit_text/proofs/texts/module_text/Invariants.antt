use Rattle.std.proofs.Common.{◌≡◌}
use Rattle.jit_text.specs.ManyCallsTexts.{functions_text}
use Rattle.jit_text.proofs.texts.module_text.Given as goal

abbrev pub invariant-loop-place : goal.invariant-loop-place
invariant-loop-place l = l.page ≡ functions_text l.place
