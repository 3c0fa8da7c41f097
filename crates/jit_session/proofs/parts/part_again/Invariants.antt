use Rattle.std.proofs.Common.{◌≡◌, ◌++◌, length}
use Rattle.std.specs.Prelude.{vec_capacity}
use Rattle.std.specs.Vec.Iter.{into_iter_items, into_iter_len}
use Rattle.jit_session.specs.Parts.{harts_of, asking_in}
use Rattle.jit_session.proofs.parts.part_again.Given as goal

abbrev pub invariant-loop-part : goal.invariant-loop-part
invariant-loop-part g l = record {
  order : l.yielded ++ into_iter_items l.part-iterator ≡ into_iter_items l.initial.part-iterator;
  left : into_iter_len l.part-iterator ≡ length (into_iter_items l.part-iterator);
  harts : l.runners.items ≡ harts_of l.yielded;
  found : l.found ≡ asking_in l.yielded;
  room : vec_capacity l.runners ≡ vec_capacity l.fn.runners;
}
