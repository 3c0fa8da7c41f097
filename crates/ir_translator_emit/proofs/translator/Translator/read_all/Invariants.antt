use Rattle.std.proofs.Common.{◌≡◌, ◌+◌, ◌++◌, ◌≤◌, drop}
use Rattle.generic_code.specs.Literals.{registers}
use Rattle.ir_translator_emit.proofs.Put.{reads}
use Rattle.ir_translator_emit.specs.Written.{put_reads}
use Rattle.ir_translator_emit.proofs.translator.Translator.read_all.Given as goal

abbrev pub invariant-loop-ty : goal.invariant-loop-ty
invariant-loop-ty l = record {
  globals : l.self.globals ≡ l.fn.self.globals;
  few : l.self.pool.next ≤ l.fn.self.pool.next + l.ty-index;
  registers : l.all ++ registers l.fn.self.globals l.self.pool (drop l.ty-index l.operands) ≡ registers l.fn.self.globals l.fn.self.pool l.operands;
  written : reads l.fn.self.globals l.self (drop l.ty-index l.operands) ≡ put_reads l.fn.self l.operands;
}
