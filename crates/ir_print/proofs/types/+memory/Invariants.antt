use Rattle.std.proofs.Common.{◌≡◌, ◌++◌, drop, length}
use Rattle.std.specs.Prelude.{nat_eq}
use Rattle.ir_print.specs.Types.{opening_of, listed, memory_text}
use Rattle.ir_print.proofs.types.+memory.Given as goal

abbrev pub invariant-structure-loop-index : goal.invariant-structure-loop-index
invariant-structure-loop-index l =
    l.page ++ listed memory_text l.index (drop l.index l.fields)
    ≡ (l.fn.page ++ opening_of l.is_packed (nat_eq (length l.fields) 0)) ++ listed memory_text 0 l.fields
