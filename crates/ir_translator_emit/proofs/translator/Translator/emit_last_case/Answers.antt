use Rattle.std.proofs.lemmas.Result.{on_ok_weaker}
use Rattle.ir_translator_emit.proofs.Wholes.{last_is}
use Rattle.ir_translator_emit.proofs.translator.Translator.emit_last_case.Goals as goal

pub returns-clause-written : goal.returns-clause-written
returns-clause-written c =
    on_ok_weaker c.emit_branch.result
    (λ e. last_is c.args.from c.args.self.now c.emit_test.new.self c.emit_branch.new.self c.args.at c.in_ok-bit.bit c.args.of c.args.register c.args.otherwise c.args.case c.in_ok-bit.ensures.written c.in_ok-bit.ensures.bit e)
    c.emit_branch.ensures.written
