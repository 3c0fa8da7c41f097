use Rattle.std.proofs.Common.{sym}
use Rattle.std.proofs.lemmas.Result.{err_from_is_err_and}
use Rattle.ir_resolve.specs.Inits.{typed, value}
use Rattle.ir_resolve.proofs.Lists.{element_goes, element_fails, elements_end, field_fails, fields_end}
use Rattle.ir_resolve.proofs.values.Cursor.+reading.Goals as goal

pub elements-returns-in_err-item : goal.elements-returns-in_err-item
elements-returns-in_err-item t c =
    let p = err_from_is_err_and c.from_residual.result c.from_residual.ensures.1 in
    rw (p.1, p.2) (element_fails (typed c.args.scope.now.types.now (value c.args.depth c.args.scope.now.types.now c.args.scope.now.symbols.now) c.args.element.now) c.args.count c.loop.counter c.loop.items c.loop.self.nodes.now _ c.loop.invariant _ c.loop-test.true c.in_err-item.ensures)

pub elements-returns : goal.elements-returns
elements-returns t c =
    rw (sym (elements_end (typed c.args.scope.now.types.now (value c.args.depth c.args.scope.now.types.now c.args.scope.now.symbols.now) c.args.element.now) c.args.count c.loop.counter c.loop.items c.loop.self.nodes.now _ c.loop.invariant c.loop-test.false)) c.close.ensures

pub fields_of-returns-in_err-item : goal.fields_of-returns-in_err-item
fields_of-returns-in_err-item t c =
    let p = err_from_is_err_and c.from_residual.result c.from_residual.ensures.1 in
    rw (p.1, p.2) (field_fails (typed c.args.scope.now.types.now (value c.args.depth c.args.scope.now.types.now c.args.scope.now.symbols.now)) c.args.fields.now c.loop-field.field-index c.loop-field.items c.loop-field.self.nodes.now _ c.loop-field.invariant c.field-item.result _ c.loop-field-test.true c.field-item.is c.in_err-item.ensures)

pub fields_of-returns : goal.fields_of-returns
fields_of-returns t c =
    rw (sym (fields_end (typed c.args.scope.now.types.now (value c.args.depth c.args.scope.now.types.now c.args.scope.now.symbols.now)) c.args.fields.now c.loop-field.field-index c.loop-field.items c.loop-field.self.nodes.now _ c.loop-field.invariant c.loop-field-test.false)) c.close.ensures

pub elements-loop-preserved : goal.elements-loop-preserved
elements-loop-preserved t c =
    rw c.in_ok-push.ensures.ok (element_goes (typed c.args.scope.now.types.now (value c.args.depth c.args.scope.now.types.now c.args.scope.now.symbols.now) c.args.element.now) c.args.count c.loop.counter c.loop.items c.loop.self.nodes.now _ c.loop.invariant c.in_ok-item.item c.typed.new.self.nodes.now c.loop-test.true c.in_ok-item.ensures)
