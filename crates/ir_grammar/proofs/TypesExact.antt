-- Types are read exactly.
use Rattle.std.proofs.Common.{ℕ, List, Bool}
use Rattle.ir_text.proofs.Exact.{IsExact, exact_forms}
use Rattle.ir_text.proofs.Words.{exact_words}
use Rattle.ir_grammar.specs.declared.types.OpenType.{OpenType}
use Rattle.ir_grammar.specs.Types.{scalar, integer, struct_end, struct_start, type_start, type_end, type_turn, type_form}

exact-scalar : IsExact scalar
unfolding scalar
exact-scalar = search exact_forms depth 8

pub exact-integer : IsExact integer
unfolding integer
exact-integer = search exact_forms depth 8

pub exact-struct_end : (packed : Bool) → IsExact (struct_end packed)
unfolding struct_end
exact-struct_end packed = search (exact_forms, exact_words) depth 8

exact-struct_start : (open_type : OpenType) (packed : Bool) (left : ℕ) → IsExact (struct_start open_type packed left)
unfolding struct_start
exact-struct_start open_type packed left = search (exact_forms, exact_words, exact-struct_end) depth 10

exact-type_start : (open_type : OpenType) → IsExact (type_start open_type)
unfolding type_start
exact-type_start open_type = search (exact_forms, exact_words, exact-scalar, exact-struct_start) depth 20

exact-type_end : (open_type : OpenType) → IsExact (type_end open_type)
unfolding type_end
exact-type_end open_type = search (exact_forms, exact_words, exact-struct_end) depth 20

exact-type_turn : (open_type : OpenType) → IsExact (type_turn open_type)
exact-type_turn open_type = search (exact_forms, exact-type_start, exact-type_end) depth 20

pub exact-type_form : IsExact type_form
unfolding type_form
exact-type_form = search (exact_forms, exact-type_turn) depth 20
