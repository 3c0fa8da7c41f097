use Rattle.std.proofs.Common.{ap, ◌∙◌, arith, length, List}
use Rattle.std.proofs.lemmas.Result.{on_ok_weaker}
use Rattle.ir_core.specs.declared.types.Ty.{Ty}
use Rattle.ir_core.specs.declared.code.Operand.{Operand}
use Rattle.generic_code.specs.Literals.{Pool}
use Rattle.ir_translator_emit.specs.Written.{Written}
use Rattle.ir_translator_emit.proofs.Put.{edge_pool}
use Rattle.ir_translator_emit.proofs.Heads.{few_reads}
use Rattle.ir_translator_emit.proofs.translator.Translator.emit_jump.Goals as goal

pub returns-clause-most : goal.returns-clause-most
returns-clause-most c =
    on_ok_weaker c.note_edge.result
    (λ e.
    let pool = ap (λ (w : Written). w.pool.next) e ∙ ap (λ (p : Pool). p.next) (edge_pool c.emit.new.self _) in
    let same = ap (λ (p : Pool). p.next) c.in_ok-emit.ensures.same in
    let most = c.in_ok-uses.ensures.most in
    let many = ap (λ (xs : List (Ty × Operand)). length xs) c.in_ok-operands.ensures in
    let slice = ap (λ (xs : List (Ty × Operand)). length xs) c.as_slice.ensures in
    let few = few_reads c.args.self.now.globals c.args.self.now.function c.args.from c.args.to c.requires.few in
    omega (arith, pool, same, most, many, slice, few))
    c.note_edge.ensures
