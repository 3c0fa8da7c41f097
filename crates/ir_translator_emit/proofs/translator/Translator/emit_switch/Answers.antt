use Rattle.std.proofs.Common.{◌∙◌, ap}
use Rattle.std.proofs.lemmas.Result.{on_ok_weaker}
use Rattle.generic_code.specs.Parts.{first_register}
use Rattle.ir_translator_emit.proofs.Closing.{none_of, none_whole, switch_whole}
use Rattle.ir_translator_emit.proofs.translator.Translator.emit_switch.Goals as goal

pub returns-clause-written : goal.returns-clause-written
returns-clause-written c =
    on_ok_weaker c.emit_tests.result
    (λ e. switch_whole c.args.from c.args.self.now c.read_all.new.self c.emit_tests.new.self c.args.of c.args.a c.first_of-register.result c.args.otherwise c.args.cases.now c.in_ok-read.ensures.written
    (c.first_of-register.ensures ∙ ap first_register (c.as_slice.ensures ∙ c.in_ok-read.ensures.registers)) e)
    c.emit_tests.ensures.written

pub returns-then-is_empty-clause-written : goal.returns-then-is_empty-clause-written
returns-then-is_empty-clause-written c =
    on_ok_weaker c.emit_jump.result
    (λ e. none_whole c.args.from c.args.self.now c.read_all.new.self c.emit_jump.new.self c.args.of c.args.a _ c.args.otherwise c.args.cases.now c.in_ok-read.ensures.written (none_of c.args.cases.now c.if-is_empty.ensures) e)
    c.emit_jump.ensures.written
