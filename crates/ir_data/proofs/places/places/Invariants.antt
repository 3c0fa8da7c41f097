use Rattle.std.proofs.Common.{◌≡◌, ◌*◌, ◌+◌, ◌^◌, ◌≤◌, ◌++◌, drop}
use Rattle.ir_meaning.specs.Memory.{data_start}
use Rattle.ir_data.specs.Image.{places_from}
use Rattle.ir_data.proofs.places.places.Given as goal

abbrev pub invariant-loop-global : goal.invariant-loop-global
invariant-loop-global l = record {
  value : l.places ++ places_from l.next (drop l.global-index l.globals) ≡ places_from data_start l.globals;
  most : l.next ≤ data_start + l.global-index * 2 ^ 32;
}
