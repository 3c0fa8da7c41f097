use Rattle.std.proofs.Common.{◌≡◌, drop}
use Rattle.ir_text.specs.Quoted.{unquoted, unquoted_behind, onto}
use Rattle.ir_text.proofs.quoted.unquote.Given as goal

abbrev pub invariant-loop-byte : goal.invariant-loop-byte
invariant-loop-byte l = onto l.bytes (unquoted_behind l.escape (drop l.byte-index l.text)) ≡ unquoted l.text
