use Rattle.std.proofs.Common.{◌≡◌, ◌+◌, ◌++◌, length, drop, map, replicate}
use Rattle.ir_verify.specs.Ranges.{all_true, has_memory_widths}
use Rattle.ir_verify.proofs.ranges.+widths.Given as goal

abbrev pub invariant-have_memory_widths-loop-field : goal.invariant-have_memory_widths-loop-field
invariant-have_memory_widths-loop-field l = all_true (map has_memory_widths (drop l.field-index l.fields)) ≡ all_true (map has_memory_widths l.fields)
