-- Addresses, operands and initial values are read exactly.
use Rattle.std.proofs.Common.{ℕ, List, Bool}
use Rattle.ir_text.proofs.Exact.{IsExact, exact_forms}
use Rattle.ir_text.proofs.Words.{exact_words}
use Rattle.ir_value_trees.specs.declared.value_tree.InitNode.{InitNode}
use Rattle.ir_value_trees.specs.declared.values.AddressWordList.{AddressWordList}
use Rattle.ir_value_trees.specs.declared.values.IndexList.{IndexList}
use Rattle.ir_value_trees.specs.declared.values.HeadList.{HeadList}
use Rattle.ir_value_trees.specs.declared.values.TailList.{TailList}
use Rattle.ir_value_trees.specs.declared.values.OpenInit.{OpenInit}
use Rattle.ir_value_trees.specs.Values.{address_word, address_word_turn, address_words, index_form, index_turn, address_head, head_turn, address_tail, tail_turn, address_heads, address_tails, address, word_operand, operand, typed, argument, token_init, plain_init, list_end, list_start, init_start, init_end, init_turn, init_form}
use Rattle.ir_grammar.proofs.WordsExact.{exact-string_attribute, exact-numbered_attribute, exact-word_attribute, exact-attributes}
use Rattle.ir_grammar.proofs.TypesExact.{exact-integer, exact-struct_end, exact-type_form}

exact-address_word : IsExact address_word
unfolding address_word
exact-address_word = search (exact_forms, exact_words, exact-string_attribute, exact-numbered_attribute, exact-word_attribute) depth 12

exact-address_word_turn : (before : AddressWordList) → IsExact (address_word_turn before)
exact-address_word_turn before = search (exact_forms, exact-address_word) depth 12

exact-address_words : IsExact address_words
unfolding address_words
exact-address_words = search (exact_forms, exact-address_word_turn) depth 12

pub exact-index_form : IsExact index_form
unfolding index_form
exact-index_form = search (exact_forms, exact_words, exact-integer) depth 12

exact-index_turn : (before : IndexList) → IsExact (index_turn before)
exact-index_turn before = search (exact_forms, exact_words, exact-index_form) depth 12

exact-address_head : IsExact address_head
unfolding address_head
exact-address_head = search (exact_forms, exact_words, exact-address_words, exact-type_form) depth 20

exact-head_turn : (before : HeadList) → IsExact (head_turn before)
exact-head_turn before = search (exact_forms, exact-address_head) depth 12

exact-address_tail : IsExact address_tail
unfolding address_tail
exact-address_tail = search (exact_forms, exact_words, exact-index_turn) depth 12

exact-tail_turn : (before : TailList) → IsExact (tail_turn before)
exact-tail_turn before = search (exact_forms, exact-address_tail) depth 12

exact-address_heads : IsExact address_heads
unfolding address_heads
exact-address_heads = search (exact_forms, exact-head_turn) depth 12

exact-address_tails : (count : ℕ) → IsExact (address_tails count)
unfolding address_tails
exact-address_tails count = search (exact_forms, exact-tail_turn) depth 12

pub exact-address : IsExact address
unfolding address
exact-address = search (exact_forms, exact_words, exact-address_heads, exact-address_tails) depth 20

exact-word_operand : IsExact word_operand
unfolding word_operand
exact-word_operand = search exact_forms depth 12

pub exact-operand : IsExact operand
unfolding operand
exact-operand = search (exact_forms, exact_words, exact-address, exact-word_operand) depth 12

pub exact-typed : IsExact typed
unfolding typed
exact-typed = search (exact_forms, exact-type_form, exact-operand) depth 12

pub exact-argument : IsExact argument
unfolding argument
exact-argument = search (exact_forms, exact-type_form, exact-attributes, exact-operand) depth 12

exact-token_init : IsExact token_init
unfolding token_init
exact-token_init = search (exact_forms, exact_words) depth 12

exact-plain_init : IsExact plain_init
unfolding plain_init
exact-plain_init = search (exact_forms, exact_words, exact-address, exact-token_init) depth 12

exact-list_end : (array packed : Bool) → IsExact (list_end array packed)
unfolding list_end
exact-list_end array packed = search (exact_forms, exact_words, exact-struct_end) depth 12

exact-list_start : (before : OpenInit) (array packed : Bool) (node : InitNode) → IsExact (list_start before array packed node)
unfolding list_start
exact-list_start before array packed node = search (exact_forms, exact-list_end, exact-type_form) depth 12

exact-init_start : (before : OpenInit) → IsExact (init_start before)
unfolding init_start
exact-init_start before = search (exact_forms, exact_words, exact-list_start, exact-plain_init) depth 20

exact-init_end : (before : OpenInit) → IsExact (init_end before)
unfolding init_end
exact-init_end before = search (exact_forms, exact_words, exact-list_end, exact-type_form) depth 20

exact-init_turn : (before : OpenInit) → IsExact (init_turn before)
exact-init_turn before = search (exact_forms, exact-init_start, exact-init_end) depth 20

pub exact-init_form : IsExact init_form
unfolding init_form
exact-init_form = search (exact_forms, exact-init_turn) depth 20
