-- Flags are read exactly.
use Rattle.ir_text.proofs.Exact.{IsExact, exact_forms}
use Rattle.ir_core.specs.declared.code.Flags.{Flags}
use Rattle.ir_grammar.specs.declared.operators.FlagList.{FlagList}
use Rattle.ir_grammar.specs.Operators.{flag_turn, flags_of}

exact-flag_turn : (before : FlagList) → IsExact (flag_turn before)
exact-flag_turn before = search exact_forms depth 12

pub exact-flags_of : (allowed : Flags) → IsExact (flags_of allowed)
unfolding flags_of
exact-flags_of allowed = search (exact_forms, exact-flag_turn) depth 12
