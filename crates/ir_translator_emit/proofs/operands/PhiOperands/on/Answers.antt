use Rattle.std.proofs.Common.{ap, ◌∙◌}
use Rattle.ir_meaning.specs.Step.{on_edge}
use Rattle.ir_translator_emit.specs.Maps.{or_poison}
use Rattle.ir_translator_emit.specs.Written.{Head}
use Rattle.ir_translator_emit.proofs.Maps.{first_on_edge}
use Rattle.ir_translator_emit.proofs.operands.PhiOperands.on.Goals as goal

pub returns-else-self-le-FEW : goal.returns-else-self-le-FEW
returns-else-self-le-FEW c =
    c.operand_in.ensures ∙ ap or_poison (c.self.invariant c.if-self-le-FEW.false c.args.from) ∙ first_on_edge c.args.from c.self.inside.pairs.now
    ∙ ap (λ (head : Head). on_edge c.args.from head.1) c.self.view_is
