use Rattle.std.proofs.Common.{◌∙◌, ap, List, [], ◌∷◌, ℕ}
use Rattle.ir_meaning.specs.Value.{Value}
use Rattle.ir_meaning.specs.Operators.{width}
use Rattle.ir_meaning.specs.Step.{built_in}
use Rattle.ir_eval.specs.Code.{program_with}
use Rattle.ir_eval.proofs.Given.{two_are}
use Rattle.ir_eval.proofs.scalars.of_two.Goals as goal

pub returns : goal.returns
returns c =
    let given = two_are (program_with c.args.all.now c.args.room) c.args.values.now c.args.gives c.args.arguments.now _ _ c.operand-a.result c.operand-b.result c.requires.two c.operand-a.ensures c.operand-b.ensures in
    c.built_in.ensures ∙ ap (λ (w : ℕ). built_in c.args.which w (c.operand-a.result ∷ c.operand-b.result ∷ [])) c.width.ensures
    ∙ ap (λ (vs : List Value). built_in c.args.which (width c.args.gives) vs) given
