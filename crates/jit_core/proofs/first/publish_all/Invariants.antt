use Rattle.std.proofs.Common.{◌≡◌, ◌++◌, length}
use Rattle.std.specs.Vec.Iter.{into_iter_items, into_iter_len}
use Rattle.jit_core.specs.First.{words_of, Opens}
use Rattle.jit_core.specs.Seated.{IsSameSize}
use Rattle.jit_core.proofs.first.publish_all.Given as goal

abbrev pub invariant-loop-version : goal.invariant-loop-version
invariant-loop-version l = record {
  order : l.yielded ++ into_iter_items l.version-iterator ≡ l.fn.versions.items;
  left : into_iter_len l.version-iterator ≡ length (into_iter_items l.version-iterator);
  next : l.next ≡ words_of l.yielded;
  count : length l.state.versions.items ≡ length l.yielded;
  size : IsSameSize l.initial.state l.state;
  opens : Opens l.initial.state l.state l.fn.versions.items l.yielded;
}
