use Rattle.std.proofs.Common.{◌≡◌, ◌∙◌, ap, sym, subst, List, drop, true}
use Rattle.ir_meaning.specs.Value.{Value}
use Rattle.ir_meaning.specs.Step.{arguments_of, moves_bytes, run_built_in}
use Rattle.ir_eval.specs.Beyond.{built_in_units}
use Rattle.ir_eval.specs.Code.{program_with}
use Rattle.ir_eval.specs.Fits.{BuiltInFits}
use Rattle.ir_eval.specs.Turns.{came, turn_beyond}
use Rattle.ir_eval.proofs.Given.{moves_fit, three_given, moving_turn}
use Rattle.ir_eval.proofs.moves.built_in_step.Goals as goal

pub move_step-requires-clause-fits : goal.move_step-requires-clause-fits
move_step-requires-clause-fits c =
    moves_fit (program_with c.args.all.now c.args.room) c.as_slice-values.result.now c.args.arguments.now _ _ _ c.operand-to.result c.operand-from.result c.operand-count.result
    c.operand-to.ensures c.operand-from.ensures c.operand-count.ensures c.args.which c.args.inst.now.gives (sym c.moves.ensures ∙ c.if-moves.true)
    (subst (λ (vs : List Value). BuiltInFits c.args.which c.args.inst.now.gives (arguments_of (program_with c.args.all.now c.args.room) vs c.args.arguments.now)) (sym c.as_slice-values.ensures) c.requires.fits)

pub returns-then-moves : goal.returns-then-moves
returns-then-moves c =
    let moves : moves_bytes c.args.which ≡ true = sym c.moves.ensures ∙ c.if-moves.true in
    let fits : BuiltInFits c.args.which c.args.inst.now.gives (arguments_of (program_with c.args.all.now c.args.room) c.as_slice-values.result.now c.args.arguments.now) =
    subst (λ (vs : List Value). BuiltInFits c.args.which c.args.inst.now.gives (arguments_of (program_with c.args.all.now c.args.room) vs c.args.arguments.now)) (sym c.as_slice-values.ensures) c.requires.fits in
    let given = three_given (program_with c.args.all.now c.args.room) c.as_slice-values.result.now c.args.arguments.now _ _ _ c.operand-to.result c.operand-from.result c.operand-count.result
    c.operand-to.ensures c.operand-from.ensures c.operand-count.ensures c.args.which c.args.inst.now.gives moves fits in
    c.move_step.ensures
    ∙ moving_turn (program_with c.args.all.now c.args.room) c.args.function.now c.args.now.now c.args.memory.now c.args.inst.now c.args.which c.args.left.now
    c.operand-to.result c.operand-from.result c.operand-count.result (arguments_of (program_with c.args.all.now c.args.room) c.as_slice-values.result.now (drop 3 c.args.arguments.now)) moves
    ∙ ap (λ (vs : List Value). turn_beyond c.args.left.now (built_in_units c.args.which c.args.memory.now vs)
    (came c.args.now.now c.args.memory.now (run_built_in (program_with c.args.all.now c.args.room) c.args.function.now c.args.now.now c.args.memory.now c.args.inst.now c.args.which vs).does))
    (given ∙ ap (λ (vs : List Value). arguments_of (program_with c.args.all.now c.args.room) vs c.args.arguments.now) c.as_slice-values.ensures)
