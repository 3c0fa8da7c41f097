use Rattle.std.proofs.Common.{◌∙◌, ◌++◌, ap, add-one}
use Rattle.jit_text.specs.ManyCallsTexts.{first_text, next_text, functions_text}
use Rattle.jit_text.proofs.texts.module_text.Goals as goal

pub loop-place-init : goal.loop-place-init
unfolding functions_text
loop-place-init c = c.in_ok-write.ensures ∙ ap (λ p. p ++ first_text) c.new-page.ensures

pub loop-place-preserved : goal.loop-place-preserved
unfolding functions_text
loop-place-preserved c =
    rw (add-one c.loop-place.place) (c.in_ok-push_next.ensures ∙ ap (λ p. p ++ next_text c.loop-place.place) c.loop-place.invariant)
