use Rattle.std.proofs.Common.{◌∙◌, ◌++◌, ap, add-one}
use Rattle.jit_text.specs.ManyCallsTexts.{call_text, calls_text}
use Rattle.jit_text.proofs.texts.calls_text.Goals as goal

pub loop-i-init : goal.loop-i-init
unfolding calls_text
loop-i-init c = c.new-page.ensures

pub loop-i-preserved : goal.loop-i-preserved
unfolding calls_text
loop-i-preserved c = rw (add-one c.loop-i.i) (c.in_ok-push_call.ensures ∙ ap (λ p. p ++ call_text c.loop-i.i) c.loop-i.invariant)
