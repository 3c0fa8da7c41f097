use Rattle.std.proofs.Common.{ap, ◌∙◌, ℕ, ◌%◌, ◌^◌}
use Rattle.rv_play.specs.Ending.{Value}
use Rattle.hart.proofs.Turning.{wide}
use Rattle.hart.proofs.hart.Hart.answer.Goals as goal

pub returns-else-width-lt64 : goal.returns-else-width-lt64
returns-else-width-lt64 c =
    rw c.in-Some.is
    (ap Value (wide c.read-value.result c.in-Some.width c.read-value.type_inv c.if-width-lt64.false ∙ ap (λ (n : ℕ). n % 2 ^ c.in-Some.width) c.read-value.ensures))
