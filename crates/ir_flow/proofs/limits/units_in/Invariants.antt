use Rattle.std.proofs.Common.{◌≡◌, ◌≤◌, ◌+◌, ◌-◌, ◌^◌, ◌++◌, drop}
use Rattle.std.specs.Prelude.{sum_by}
use Rattle.ir_core.specs.Units.{instructions, units}
use Rattle.ir_flow.specs.Limits.{capped}
use Rattle.ir_flow.proofs.limits.units_in.Given as goal

abbrev pub invariant-loop-block : goal.invariant-loop-block
invariant-loop-block l = record {
  same : capped (l.count + sum_by units (instructions (drop l.block-index l.block-items))) ≡ capped (sum_by units (instructions l.fn.function.blocks));
  small : l.count ≤ 2 ^ 64 - 1;
}

abbrev pub invariant-loop-inst : goal.invariant-loop-inst
invariant-loop-inst l = record {
  same : capped (l.count + sum_by units (drop l.inst-index l.inst-items ++ instructions (drop (l.block-index + 1) l.block-items)))
      ≡ capped (sum_by units (instructions l.fn.function.blocks));
  small : l.count ≤ 2 ^ 64 - 1;
}
