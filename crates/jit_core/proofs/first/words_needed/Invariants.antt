use Rattle.std.proofs.Common.{◌≡◌, min, take}
use Rattle.jit_core.specs.First.{words_of}
use Rattle.jit_core.proofs.first.words_needed.Given as goal

abbrev pub invariant-loop-version : goal.invariant-loop-version
invariant-loop-version l = l.needed ≡ min (words_of (take l.version-index l.versions)) 18446744073709551615
