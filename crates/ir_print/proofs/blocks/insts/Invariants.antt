use Rattle.std.proofs.Common.{◌≡◌, ◌++◌, ◌+◌, drop}
use Rattle.ir_core.specs.Units.{results}
use Rattle.ir_print.specs.Modules.{insts_text}
use Rattle.ir_print.proofs.blocks.insts.Given as goal

abbrev pub invariant-loop-one : goal.invariant-loop-one
invariant-loop-one l = record {
  text : l.page ++ insts_text l.program l.result_ty l.value (drop l.one-index l.insts) ≡ l.fn.page ++ insts_text l.program l.result_ty l.first l.insts;
  next : l.value + results (drop l.one-index l.insts) ≡ l.first + results l.insts;
}
