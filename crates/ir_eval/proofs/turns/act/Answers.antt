use Rattle.std.proofs.Common.{◌∙◌}
use Rattle.ir_core.specs.Units.{units}
use Rattle.ir_meaning.specs.Step.{act}
use Rattle.ir_eval.specs.Beyond.{beyond}
use Rattle.ir_eval.specs.Code.{program_with}
use Rattle.ir_eval.proofs.Turning.{costs, turn_split, map_ok}
use Rattle.ir_eval.proofs.turns.act.Goals as goal

pub returns-then-pay : goal.returns-then-pay
returns-then-pay c =
    let paid = c.pay.ensures.paid c.if-pay.true in
    map_ok c.perform.result _ _
    (λ done e. e ∙ turn_split c.args.left.now c.pay.new.left (units c.args.inst.now) c.capped_units.result
    (beyond (program_with c.args.all.now c.args.room) c.args.function.now c.args.now.now c.args.memory.now c.args.inst.now.op)
    (act (program_with c.args.all.now c.args.room) c.args.function.now c.args.now.now c.args.memory.now c.args.inst.now c.args.inst.now.op) c.args.now.now c.args.memory.now
    (costs (program_with c.args.all.now c.args.room) c.args.function.now c.args.now.now c.args.memory.now c.args.inst.now c.args.inst.now.op)
    c.capped_units.ensures c.requires.left paid.0 paid.1)
    c.perform.ensures
