use Rattle.std.proofs.Common.{◌≡◌, map}
use Rattle.rv_asm.specs.Layout.{item_of}
use Rattle.rv_asm.proofs.Least.{AreLeast}
use Rattle.rv_asm.proofs.layout.lay_out.Given as goal

abbrev pub invariant-loop-round : goal.invariant-loop-round
invariant-loop-round l =
    record {
      items : map item_of l.formed.items ≡ l.items;
      least : AreLeast l.items l.bound l.formed.items;
    }
