use Rattle.std.proofs.Common.{◌≡◌, ◌++◌, take}
use Rattle.std.specs.List.{flat_map}
use Rattle.ir_print_names.specs.Names.{quoted_byte}
use Rattle.ir_print_names.proofs.names.quoted_bytes.Given as goal

abbrev pub invariant-loop-byte : goal.invariant-loop-byte
invariant-loop-byte l = l.page ≡ l.fn.page ++ flat_map quoted_byte (take l.byte-index l.bytes)
