use Rattle.std.proofs.Common.{◌≡◌, ◌≤◌, map, drop, max}
use Rattle.ir_core.specs.Layout.{end_of_fields, greatest_align}
use Rattle.ir_flow.specs.First.{or_then}
use Rattle.ir_flow.specs.Limits.{capped, capped_passing, first_passing, extents_of, measured}
use Rattle.ir_flow.proofs.sizes.+measures.Given as goal

abbrev pub invariant-struct_measure-loop-field : goal.invariant-struct_measure-loop-field
invariant-struct_measure-loop-field l = record {
  end : capped (end_of_fields l.packed l.end (extents_of (map measured (drop l.field-index l.fields))))
      ≡ capped (end_of_fields l.packed 0 (extents_of (map measured l.fields)));
  align : max l.align (greatest_align (extents_of (map measured (drop l.field-index l.fields)))) ≡ greatest_align (extents_of (map measured l.fields));
  least : 1 ≤ l.align;
  most : l.align ≤ 16;
  passing : or_then l.passing (capped_passing (first_passing (map measured (drop l.field-index l.fields))))
      ≡ capped_passing (first_passing (map measured l.fields));
}
