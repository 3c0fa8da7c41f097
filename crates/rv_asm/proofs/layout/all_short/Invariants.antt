use Rattle.std.proofs.Common.{◌≡◌, ◌++◌, map, drop}
use Rattle.rv_asm.specs.Layout.{item_of, in_short}
use Rattle.rv_asm.proofs.layout.all_short.Given as goal

abbrev pub invariant-loop-item : goal.invariant-loop-item
invariant-loop-item l =
    record {
      items : map item_of l.formed.items ++ drop l.item-index l.items ≡ l.items;
      short : l.formed.items ++ map in_short (drop l.item-index l.items) ≡ map in_short l.items;
    }
