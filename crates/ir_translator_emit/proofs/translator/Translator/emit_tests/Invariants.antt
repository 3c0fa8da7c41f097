use Rattle.std.proofs.Common.{◌≡◌, ◌+◌, ◌*◌, ◌≤◌, drop}
use Rattle.generic_code.specs.Edges.{tests}
use Rattle.ir_translator_emit.specs.Jumps.{whole}
use Rattle.ir_translator_emit.proofs.translator.Translator.emit_tests.Given as goal

abbrev pub invariant-loop-place : goal.invariant-loop-place
invariant-loop-place l = record {
  globals : l.self.globals ≡ l.fn.self.globals;
  function : l.self.function ≡ l.fn.self.function;
  next : l.self.pool.next ≤ l.fn.self.pool.next + 16386 * l.place;
  own : l.self.own ≤ l.fn.self.own + 2 * l.place;
  written : whole l.self (tests l.fn.self.globals l.fn.self.function l.fn.from l.fn.of l.fn.register l.fn.otherwise l.at l.self.pool l.self.own (drop l.place l.cases))
      ≡ whole l.fn.self (tests l.fn.self.globals l.fn.self.function l.fn.from l.fn.of l.fn.register l.fn.otherwise l.fn.from l.fn.self.pool l.fn.self.own l.cases);
}
