use Rattle.std.proofs.Common.{◌≡◌, ◌-◌, ◌^◌, min, sum_by, take}
use Rattle.ir_core.specs.Units.{units}
use Rattle.ir_eval.proofs.edges.units_in.Given as goal

abbrev pub invariant-loop-inst : goal.invariant-loop-inst
invariant-loop-inst l = l.total ≡ min (sum_by units (take l.inst-index l.insts)) (2 ^ 64 - 1)
