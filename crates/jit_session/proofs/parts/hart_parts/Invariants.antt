use Rattle.std.proofs.Common.{◌≡◌, ◌+◌, ◌++◌, ◌≤◌, length, None}
use Rattle.std.specs.Prelude.{vec_capacity}
use Rattle.std.specs.Vec.Iter.{into_iter_items, into_iter_len}
use Rattle.jit_session.specs.Parts.{harts_of, asking_in}
use Rattle.jit_session.proofs.parts.hart_parts.Given as goal

abbrev pub invariant-loop-runner : goal.invariant-loop-runner
invariant-loop-runner g l = record {
  order : l.yielded ++ into_iter_items l.runner-iterator ≡ into_iter_items l.initial.runner-iterator;
  left : into_iter_len l.runner-iterator ≡ length (into_iter_items l.runner-iterator);
  harts : harts_of l.parts.items ≡ l.yielded;
  none : asking_in l.parts.items ≡ None;
  room : length l.parts.items + into_iter_len l.runner-iterator + l.workers ≤ vec_capacity l.parts;
}
