use Rattle.std.proofs.Common.{◌∙◌, ap}
use Rattle.std.proofs.lemmas.Result.{on_ok_weaker}
use Rattle.generic_code.specs.Parts.{first_register}
use Rattle.ir_translator_emit.proofs.Closing.{conditional_whole}
use Rattle.ir_translator_emit.proofs.translator.Translator.emit_conditional.Goals as goal

pub returns-clause-written : goal.returns-clause-written
returns-clause-written c =
    on_ok_weaker c.emit_branch.result
    (λ e. conditional_whole c.args.from c.args.self.now c.read_all.new.self c.emit_branch.new.self c.args.condition c.first_of.result c.args.if_one c.args.if_zero c.in_ok-read.ensures.written
    (c.first_of.ensures ∙ ap first_register (c.as_slice.ensures ∙ c.in_ok-read.ensures.registers)) e)
    c.emit_branch.ensures.written
