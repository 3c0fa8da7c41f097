use Rattle.std.proofs.lemmas.Result.{on_ok_weaker}
use Rattle.ir_translator_emit.proofs.Closing.{br_whole}
use Rattle.ir_translator_emit.proofs.translator.Translator.translate_end.Goals as goal

pub returns-in-Br-clause-written : goal.returns-in-Br-clause-written
returns-in-Br-clause-written c =
    on_ok_weaker c.emit_jump.result
    (λ e. br_whole c.args.from c.args.self.now c.emit_jump.new.self c.args.op.now c.in-Br.to c.in-Br.is e)
    c.emit_jump.ensures.written
