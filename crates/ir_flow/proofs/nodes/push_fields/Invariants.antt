use Rattle.std.proofs.Common.{◌≡◌, ◌++◌, map, take}
use Rattle.ir_flow.proofs.nodes.push_fields.Given as goal

abbrev pub invariant-loop-field : goal.invariant-loop-field
invariant-loop-field l = map (λ t. t.now) l.left.items ≡ map (λ t. t.now) l.initial.left.items ++ take l.field-index l.fields
