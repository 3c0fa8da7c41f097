use Rattle.std.proofs.Common.{◌≡◌, ◌≤◌, ◌++◌, drop, length}
use Rattle.hart.specs.Fixed.{code_of, bases_of}
use Rattle.hart.proofs.fixed.lay_out.Given as goal

abbrev pub invariant-loop-version : goal.invariant-loop-version
invariant-loop-version l = record {
  code : l.code.items ++ code_of l.version-index (drop l.version-index l.versions) ≡ code_of 0 l.versions;
  cells : l.cells.items ++ bases_of (length l.code.items) (drop l.version-index l.versions) ≡ bases_of 0 l.versions;
  count : length l.cells.items ≡ l.version-index;
  fewer : length l.cells.items ≤ length l.code.items;
}
