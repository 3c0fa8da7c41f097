use Rattle.std.proofs.Common.{◌≡◌, ◌+◌, ◌≤◌, length}
use Rattle.std.specs.Prelude.{vec_capacity}
use Rattle.std.specs.Vec.Iter.{into_iter_items, into_iter_len}
use Rattle.jit_session.specs.Parts.{harts_of, asking_in, or_else}
use Rattle.jit_session.proofs.parts.add_workers.Given as goal

abbrev pub invariant-loop-maker : goal.invariant-loop-maker
invariant-loop-maker g l = record {
  left : into_iter_len l.maker-iterator ≡ length (into_iter_items l.maker-iterator);
  seats : into_iter_len l.maker-iterator ≤ length l.left.items;
  harts : harts_of l.parts.items ≡ harts_of l.fn.parts.items;
  asking : or_else (asking_in l.parts.items) l.idle ≡ l.initial.idle;
  room : length l.parts.items + into_iter_len l.maker-iterator ≤ vec_capacity l.parts;
}
