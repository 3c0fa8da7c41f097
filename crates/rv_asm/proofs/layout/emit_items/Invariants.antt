use Rattle.std.proofs.Common.{◌≡◌, ◌≤◌, ◌*◌, ◌++◌, map, drop}
use Rattle.rv_encode.specs.Spelling.{word_of}
use Rattle.rv_asm.specs.Layout.{goes_to, laid, AreFirst}
use Rattle.rv_asm.proofs.layout.emit_items.Given as goal

abbrev pub invariant-loop-entry : goal.invariant-loop-entry
invariant-loop-entry l =
    record {
      words : l.words.items ++ map word_of (laid (goes_to l.bound l.places) l.place (drop l.entry-index l.formed)) ≡ map word_of (laid (goes_to l.bound l.places) 0 l.formed);
      first : AreFirst (goes_to l.bound l.places) l.place (drop l.entry-index l.formed);
      small : l.place ≤ 3 * l.entry-index;
    }
