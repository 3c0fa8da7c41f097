use Rattle.std.proofs.Common.{ap, ◌∙◌, List}
use Rattle.std.proofs.lemmas.Result.{on_ok_weaker}
use Rattle.ir_core.specs.declared.program.Global.{Global}
use Rattle.generic_code.specs.Parts.{Bytes, left_of}
use Rattle.ir_translator_emit.specs.Sums.{addends_of_values, put_left}
use Rattle.ir_translator_emit.proofs.Adding.{last_put}
use Rattle.ir_translator_emit.proofs.translator.Translator.emit_offset.Goals as goal

pub returns-clause-written : goal.returns-clause-written
returns-clause-written c =
    on_ok_weaker c.emit.result
    (λ e. last_put c.args.self.now.globals c.args.self.now c.emit_steps.new.self c.emit_bytes.new.self c.emit.new.self c.args.value c.args.from c.in_ok-address.address c.in_ok-left.left (addends_of_values c.args.scaled.now) (Bytes c.args.bytes)
    c.in_ok-address.ensures.written c.in_ok-address.ensures.register
    (c.in_ok-left.ensures.written ∙ ap (λ (g : List Global). put_left c.emit_steps.new.self (left_of g (Bytes c.args.bytes) c.emit_steps.new.self.pool)) c.in_ok-address.ensures.globals)
    (c.in_ok-left.ensures.register ∙ ap (λ (g : List Global). (left_of g (Bytes c.args.bytes) c.emit_steps.new.self.pool).register) c.in_ok-address.ensures.globals) e)
    c.emit.ensures.written
