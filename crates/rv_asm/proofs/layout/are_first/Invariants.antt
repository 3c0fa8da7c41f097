use Rattle.std.proofs.Common.{◌≤◌, ◌*◌, drop}
use Rattle.rv_asm.specs.Layout.{goes_to, AreFirst}
use Rattle.rv_asm.proofs.layout.are_first.Given as goal

abbrev pub invariant-loop-entry : goal.invariant-loop-entry
invariant-loop-entry l =
    record {
      first : AreFirst (goes_to l.bound l.places) l.place (drop l.entry-index l.formed) → AreFirst (goes_to l.bound l.places) 0 l.formed;
      small : l.place ≤ 3 * l.entry-index;
    }
