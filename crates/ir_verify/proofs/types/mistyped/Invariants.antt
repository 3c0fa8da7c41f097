use Rattle.std.proofs.Common.{◌≡◌, ◌+◌, ◌++◌, ◌≤◌, ◌<◌, ◌⊎◌, ℕ, length, drop, take, map, ◌||◌, ◌&&◌, Bool, true, false, if◌then◌else◌}
use Rattle.ir_flow.specs.First.{first_refused}
use Rattle.ir_verify.specs.Types.{is_typed}
use Rattle.ir_core.specs.Units.{instructions}
use Rattle.ir_verify.proofs.types.mistyped.Given as goal

abbrev pub invariant-loop-block : goal.invariant-loop-block
invariant-loop-block l = record {
  same : first_refused (is_typed l.types l.fn.function.ret) l.at (instructions (drop l.block-index l.block-items))
      ≡ first_refused (is_typed l.types l.fn.function.ret) 0 (instructions l.fn.function.blocks);
  count : l.at + length (instructions (drop l.block-index l.block-items)) ≡ length (instructions l.fn.function.blocks);
}

abbrev pub invariant-loop-inst : goal.invariant-loop-inst
invariant-loop-inst l = record {
  same : first_refused (is_typed l.types l.fn.function.ret) l.at (drop l.inst-index l.inst-items ++ instructions (drop (l.block-index + 1) l.block-items))
      ≡ first_refused (is_typed l.types l.fn.function.ret) 0 (instructions l.fn.function.blocks);
  count : l.at + length (drop l.inst-index l.inst-items ++ instructions (drop (l.block-index + 1) l.block-items)) ≡ length (instructions l.fn.function.blocks);
}
