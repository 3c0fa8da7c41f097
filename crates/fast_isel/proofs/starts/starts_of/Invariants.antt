use Rattle.std.proofs.Common.{◌≡◌, ◌<◌, ℕ, length, Some}
use Rattle.std.specs.Prelude.{slice_get}
use Rattle.fast_isel.proofs.Counts.{start_of}
use Rattle.fast_isel.proofs.starts.starts_of.Given as goal

abbrev pub invariant-loop-block : goal.invariant-loop-block
invariant-loop-block l = record {
  next : l.next ≡ start_of l.function l.block;
  many : length l.starts.items ≡ l.block;
  each : (block : ℕ) → block < l.block → slice_get l.starts.items block ≡ Some (start_of l.function block);
}
