use Rattle.std.proofs.Common.{◌≡◌, ◌++◌, ◌*◌, ◌≤◌, drop}
use Rattle.rv_asm.specs.Layout.{places_from}
use Rattle.rv_asm.proofs.layout.list_places.Given as goal

abbrev pub invariant-loop-entry : goal.invariant-loop-entry
invariant-loop-entry l =
    record {
      places : l.places.items ++ places_from l.place (drop l.entry-index l.formed) ≡ places_from 0 l.formed;
      small : l.place ≤ 3 * l.entry-index;
    }
