use Rattle.std.proofs.Common.{◌≡◌, ◌^◌, ◌≤◌, map, take}
use Rattle.std.specs.Prelude.{All}
use Rattle.ir_core.specs.Layout.{HasSizesWithin, extent_of as extent_of_type, end_of_fields}
use Rattle.ir_eval.proofs.parts.offset_of.Given as goal

abbrev pub invariant-loop-i : goal.invariant-loop-i
invariant-loop-i l = record {
  end : l.end ≡ end_of_fields l.packed 0 (take l.i (map extent_of_type l.fields));
  low : l.i ≤ l.field;
  within : l.end ≤ 2 ^ 32;
  fields : All HasSizesWithin l.fields;
}
