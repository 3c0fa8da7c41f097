use Rattle.std.proofs.Common.{◌≡◌, sym, subst, IfOk}
use Rattle.ir_core.specs.declared.code.Op.{Op}
use Rattle.ir_meaning.specs.Step.{act}
use Rattle.ir_eval.specs.Beyond.{beyond}
use Rattle.ir_eval.specs.Code.{program_with}
use Rattle.ir_eval.specs.Turns.{came, told, turn_beyond}
use Rattle.ir_eval.proofs.turns.perform.Goals as goal

pub returns-in-Br : goal.returns-in-Br
returns-in-Br c =
    subst (λ (o : Op). IfOk c.edge.result (λ done. told done c.edge.new.left c.edge.new.now c.args.memory.now ≡ turn_beyond c.args.left.now
    (beyond (program_with c.args.all.now c.args.room) c.args.function.now c.args.now.now c.args.memory.now o)
    (came c.args.now.now c.args.memory.now (act (program_with c.args.all.now c.args.room) c.args.function.now c.args.now.now c.args.memory.now c.args.inst.now o).does)))
    (sym c.in-Br.is) c.edge.ensures
