use Rattle.std.proofs.Common.{◌≡◌, ◌+◌, ◌*◌, ◌≤◌, drop}
use Rattle.ir_translator_emit.specs.Sums.{addends_of_values, put_left, steps}
use Rattle.ir_translator_emit.proofs.translator.Translator.emit_steps.Given as goal

abbrev pub invariant-loop-one : goal.invariant-loop-one
invariant-loop-one l = record {
  globals : l.self.globals ≡ l.fn.self.globals;
  few : l.self.pool.next ≤ l.fn.self.pool.next + 4 * l.one-index;
  written : put_left l.self (steps l.fn.self.globals l.address l.self.pool (addends_of_values (drop l.one-index l.all))) ≡ put_left l.fn.self (steps l.fn.self.globals l.fn.from l.fn.self.pool (addends_of_values l.all));
  register : (steps l.fn.self.globals l.address l.self.pool (addends_of_values (drop l.one-index l.all))).register ≡ (steps l.fn.self.globals l.fn.from l.fn.self.pool (addends_of_values l.all)).register;
}
