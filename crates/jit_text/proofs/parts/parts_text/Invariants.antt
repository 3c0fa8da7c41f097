use Rattle.std.proofs.Common.{◌≡◌, ◌++◌, drop}
use Rattle.jit_text.specs.Parts.{parts}
use Rattle.jit_text.proofs.parts.parts_text.Given as goal

abbrev pub invariant-loop-version : goal.invariant-loop-version
invariant-loop-version l = l.page ++ parts l.functions (drop l.version-index l.versions) ≡ parts l.functions l.versions
