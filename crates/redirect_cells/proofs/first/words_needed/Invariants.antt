use Rattle.std.proofs.Common.{◌≡◌, min, take}
use Rattle.redirect_cells.specs.Opened.{words_of}
use Rattle.redirect_cells.proofs.first.words_needed.Given as goal

abbrev pub invariant-loop-version : goal.invariant-loop-version
invariant-loop-version l = l.needed ≡ min (words_of (take l.version-index l.quick)) 18446744073709551615
