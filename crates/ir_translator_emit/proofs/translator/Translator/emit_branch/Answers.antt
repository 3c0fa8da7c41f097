use Rattle.std.proofs.Common.{◌+◌, ◌<◌, ap, sym, subst, ◌∙◌, length, ℕ}
use Rattle.std.proofs.lemmas.Result.{on_ok_weaker}
use Rattle.ir_core.specs.declared.program.Function.{Function}
use Rattle.generic_code.specs.Edges.{goes_to}
use Rattle.ir_translator_emit.specs.Written.{HasFewPhis}
use Rattle.ir_translator_emit.proofs.Wholes.{branched_is, behind_first}
use Rattle.ir_translator_emit.proofs.translator.Translator.emit_branch.Goals as goal

pub emit_edge-requires-2-clause-to : goal.emit_edge-requires-2-clause-to
emit_edge-requires-2-clause-to c =
    subst (λ (f : Function). c.args.if_zero < length f.blocks)
    (sym (behind_first c.args.from c.args.self.now c.emit.new.self c.emit_edge.new.self c.args.at c.args.if_one c.goes_to-first.result c.goes_to-second.result c.args.bit c.in_ok-emit.ensures.written c.in_ok-emit_edge.ensures.written)) c.requires.if_zero

pub emit_edge-requires-2-clause-few : goal.emit_edge-requires-2-clause-few
emit_edge-requires-2-clause-few c =
    subst (λ (f : Function). HasFewPhis f)
    (sym (behind_first c.args.from c.args.self.now c.emit.new.self c.emit_edge.new.self c.args.at c.args.if_one c.goes_to-first.result c.goes_to-second.result c.args.bit c.in_ok-emit.ensures.written c.in_ok-emit_edge.ensures.written)) c.requires.few

pub returns-clause-written : goal.returns-clause-written
returns-clause-written c =
    let w = c.args.self.now in
    on_ok_weaker c.emit_edge-2.result
    (λ e. branched_is c.args.from w c.emit.new.self c.emit_edge.new.self c.emit_edge-2.new.self c.args.at c.args.bit c.args.if_one c.args.if_zero c.goes_to-first.result c.goes_to-second.result
    (c.goes_to-first.ensures ∙ ap (λ (n : ℕ). goes_to w.globals w.function c.args.from n c.args.if_one) c.own-own.ensures)
    (c.goes_to-second.ensures ∙ ap (λ (n : ℕ). goes_to w.globals w.function c.args.from (n + c.spare.result) c.args.if_zero) c.own-own.ensures ∙ ap (λ (n : ℕ). goes_to w.globals w.function c.args.from (w.own + n) c.args.if_zero) c.spare.ensures.value)
    c.in_ok-emit.ensures.written c.in_ok-emit_edge.ensures.written e)
    c.emit_edge-2.ensures.written
