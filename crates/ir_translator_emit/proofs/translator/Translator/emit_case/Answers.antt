use Rattle.std.proofs.Common.{◌+◌, ap, ap₂, ◌∙◌, ℕ, arith}
use Rattle.generic_code.specs.Edges.{goes_to}
use Rattle.ir_translator_emit.specs.Written.{Written}
use Rattle.ir_translator_emit.proofs.Put.{put_own, begun_own}
use Rattle.ir_translator_emit.proofs.Wholes.{cased_is}
use Rattle.ir_translator_emit.proofs.translator.Translator.emit_case.Goals as goal

pub returns-clause-written : goal.returns-clause-written
returns-clause-written c =
    let w = c.args.self.now in
    cased_is c.args.from w c.emit_test.new.self c.emit.new.self c.emit_edge.new.self c.begin.new.self c.args.at c.args.of c.args.register c.args.case.0 c.args.case.1 c.in_ok-bit.bit c.goes_to-first.result (c.own-own.result + c.spare.result)
    c.in_ok-bit.ensures.bit (c.goes_to-first.ensures ∙ ap (λ (n : ℕ). goes_to w.globals w.function c.args.from n c.args.case.1) c.own-own.ensures)
    (ap₂ (λ (m n : ℕ). m + n) c.own-own.ensures c.spare.ensures.value) c.in_ok-bit.ensures.written c.in_ok-emit.ensures.written c.in_ok-emit_edge.ensures.written c.in_ok-begin.ensures.begun

pub returns-clause-own : goal.returns-clause-own
returns-clause-own c =
    let a = ap (λ (w : Written). w.own) c.in_ok-begin.ensures.begun ∙ begun_own c.emit_edge.new.self in
    let b = c.in_ok-emit_edge.ensures.few in
    let d = ap (λ (w : Written). w.own) c.in_ok-emit.ensures.written ∙ put_own c.emit_test.new.self _ _ _ in
    let e = ap (λ (w : Written). w.own) c.in_ok-bit.ensures.written ∙ put_own c.args.self.now _ _ _ in
    omega (arith, a, b, d, e)
