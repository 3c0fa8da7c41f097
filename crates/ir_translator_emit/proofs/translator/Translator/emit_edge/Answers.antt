use Rattle.std.proofs.lemmas.Result.{on_ok_weaker}
use Rattle.ir_translator_emit.proofs.Wholes.{own_few}
use Rattle.ir_translator_emit.proofs.translator.Translator.emit_edge.Goals as goal

pub returns-clause-few : goal.returns-clause-few
returns-clause-few c =
    on_ok_weaker c.emit_jump.result
    (λ e. own_few c.begin.new.self.globals c.begin.new.self.function c.args.from c.emit_jump.new.self c.begin.new.self c.args.self.now c.in_ok-own.own c.args.to e c.in_ok-own.ensures.begun)
    c.emit_jump.ensures.written
