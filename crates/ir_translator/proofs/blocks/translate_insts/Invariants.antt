use Rattle.std.proofs.Common.{◌≡◌, ◌+◌, ◌*◌, ◌≤◌, drop}
use Rattle.generic_code.specs.Whole.{insts_ending}
use Rattle.ir_translator_emit.specs.Jumps.{whole}
use Rattle.ir_translator.specs.Fit.{weight}
use Rattle.ir_translator.proofs.blocks.translate_insts.Given as goal

abbrev pub invariant-loop-inst : goal.invariant-loop-inst
invariant-loop-inst l = record {
  globals : l.translator.globals ≡ l.fn.translator.globals;
  function : l.translator.function ≡ l.fn.translator.function;
  own : l.translator.own ≡ l.fn.translator.own;
  next : l.translator.pool.next + 32771 * weight (drop l.inst-index l.insts) ≤ l.fn.translator.pool.next + 32771 * weight l.insts;
  value : l.value + weight (drop l.inst-index l.insts) ≤ l.fn.first + weight l.insts;
  few : weight (drop l.inst-index l.insts) ≤ weight l.insts;
  written : whole l.translator (insts_ending l.fn.translator.globals l.fn.translator.function l.fn.from l.value l.translator.pool l.translator.own (drop l.inst-index l.insts))
      ≡ whole l.fn.translator (insts_ending l.fn.translator.globals l.fn.translator.function l.fn.from l.fn.first l.fn.translator.pool l.fn.translator.own l.insts);
}
