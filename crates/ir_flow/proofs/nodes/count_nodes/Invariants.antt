use Rattle.std.proofs.Common.{◌≡◌, ◌≤◌, ◌+◌, ◌-◌, ◌^◌, map}
use Rattle.std.specs.Prelude.{sum_by}
use Rattle.ir_flow.specs.Limits.{capped, nodes}
use Rattle.ir_flow.proofs.nodes.count_nodes.Given as goal

abbrev pub invariant-loop-next : goal.invariant-loop-next
invariant-loop-next l = record {
  same : capped (l.count + sum_by nodes (map (λ t. t.now) l.left.items)) ≡ capped (nodes l.fn.ty);
  small : l.count ≤ 2 ^ 64 - 1;
}

abbrev pub decreases-loop-next : goal.decreases-loop-next
decreases-loop-next l = sum_by nodes (map (λ t. t.now) l.left.items)
