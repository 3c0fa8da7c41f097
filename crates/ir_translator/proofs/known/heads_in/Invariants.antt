use Rattle.std.proofs.Common.{◌≡◌, ◌++◌, map, drop}
use Rattle.ir_meaning.specs.Step.{phis}
use Rattle.ir_translator_emit.specs.Written.{head_of}
use Rattle.ir_translator.proofs.known.heads_in.Given as goal

abbrev pub invariant-loop-inst : goal.invariant-loop-inst
invariant-loop-inst l = l.heads ++ map head_of (phis (drop l.inst-index l.insts)) ≡ map head_of (phis l.insts)
