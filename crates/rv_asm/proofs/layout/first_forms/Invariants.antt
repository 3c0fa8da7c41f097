use Rattle.std.proofs.Common.{◌≡◌, ◌≤◌, ◌*◌, ◌++◌, map, drop}
use Rattle.rv_asm.specs.Layout.{item_of, goes_to, first_from}
use Rattle.rv_asm.proofs.layout.first_forms.Given as goal

abbrev pub invariant-loop-entry : goal.invariant-loop-entry
invariant-loop-entry l =
    record {
      items : map item_of l.more.items ++ map item_of (drop l.entry-index l.formed) ≡ map item_of l.formed;
      forms : l.more.items ++ first_from (goes_to l.bound l.places) l.place (drop l.entry-index l.formed) ≡ first_from (goes_to l.bound l.places) 0 l.formed;
      small : l.place ≤ 3 * l.entry-index;
    }
