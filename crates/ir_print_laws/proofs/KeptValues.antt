-- Behind addresses, operands and initial values of a text of bytes stand bytes.
use Rattle.std.proofs.Common.{ℕ, List, Bool}
use Rattle.ir_value_trees.specs.declared.value_tree.InitNode.{InitNode}
use Rattle.ir_value_trees.specs.declared.values.AddressWordList.{AddressWordList}
use Rattle.ir_value_trees.specs.declared.values.IndexList.{IndexList}
use Rattle.ir_value_trees.specs.declared.values.HeadList.{HeadList}
use Rattle.ir_value_trees.specs.declared.values.TailList.{TailList}
use Rattle.ir_value_trees.specs.declared.values.OpenInit.{OpenInit}
use Rattle.ir_value_trees.specs.Values.{address_word, address_word_turn, address_words, index_form, index_turn, address_head, head_turn, address_tail, tail_turn, address_heads, address_tails, address, word_operand, operand, typed, argument, token_init, plain_init, list_end, list_start, init_start, init_end, init_turn, init_form}
use Rattle.ir_print_laws.proofs.Kept.{IsKept, kept_forms}
use Rattle.ir_print_laws.proofs.KeptWords.{kept_words, kept-integer, kept-struct_end, kept-type_form, kept-string_attribute, kept-word_attribute, kept-numbered_attribute, kept-attributes}

pub kept-address_word : IsKept address_word
unfolding address_word
kept-address_word = search (kept_forms, kept_words, kept-string_attribute, kept-numbered_attribute, kept-word_attribute) depth 12

pub kept-address_word_turn : (before : AddressWordList) → IsKept (address_word_turn before)
kept-address_word_turn before = search (kept_forms, kept-address_word) depth 12

pub kept-address_words : IsKept address_words
unfolding address_words
kept-address_words = search (kept_forms, kept-address_word_turn) depth 12

pub kept-index_form : IsKept index_form
unfolding index_form
kept-index_form = search (kept_forms, kept_words, kept-integer) depth 12

pub kept-index_turn : (before : IndexList) → IsKept (index_turn before)
kept-index_turn before = search (kept_forms, kept_words, kept-index_form) depth 12

pub kept-address_head : IsKept address_head
unfolding address_head
kept-address_head = search (kept_forms, kept_words, kept-address_words, kept-type_form) depth 20

pub kept-head_turn : (before : HeadList) → IsKept (head_turn before)
kept-head_turn before = search (kept_forms, kept-address_head) depth 12

pub kept-address_tail : IsKept address_tail
unfolding address_tail
kept-address_tail = search (kept_forms, kept_words, kept-index_turn) depth 12

pub kept-tail_turn : (before : TailList) → IsKept (tail_turn before)
kept-tail_turn before = search (kept_forms, kept-address_tail) depth 12

pub kept-address_heads : IsKept address_heads
unfolding address_heads
kept-address_heads = search (kept_forms, kept-head_turn) depth 12

pub kept-address_tails : (count : ℕ) → IsKept (address_tails count)
unfolding address_tails
kept-address_tails count = search (kept_forms, kept-tail_turn) depth 12

pub kept-address : IsKept address
unfolding address
kept-address = search (kept_forms, kept_words, kept-address_heads, kept-address_tails) depth 20

pub kept-word_operand : IsKept word_operand
unfolding word_operand
kept-word_operand = search kept_forms depth 12

pub kept-operand : IsKept operand
unfolding operand
kept-operand = search (kept_forms, kept_words, kept-address, kept-word_operand) depth 12

pub kept-typed : IsKept typed
unfolding typed
kept-typed = search (kept_forms, kept-type_form, kept-operand) depth 12

pub kept-argument : IsKept argument
unfolding argument
kept-argument = search (kept_forms, kept-type_form, kept-attributes, kept-operand) depth 12

pub kept-token_init : IsKept token_init
unfolding token_init
kept-token_init = search (kept_forms, kept_words) depth 12

pub kept-plain_init : IsKept plain_init
unfolding plain_init
kept-plain_init = search (kept_forms, kept_words, kept-address, kept-token_init) depth 12

pub kept-list_end : (array packed : Bool) → IsKept (list_end array packed)
unfolding list_end
kept-list_end array packed = search (kept_forms, kept_words, kept-struct_end) depth 12

pub kept-list_start : (before : OpenInit) (array packed : Bool) (node : InitNode) → IsKept (list_start before array packed node)
unfolding list_start
kept-list_start before array packed node = search (kept_forms, kept-list_end, kept-type_form) depth 12

pub kept-init_start : (before : OpenInit) → IsKept (init_start before)
unfolding init_start
kept-init_start before = search (kept_forms, kept_words, kept-list_start, kept-plain_init) depth 20

pub kept-init_end : (before : OpenInit) → IsKept (init_end before)
unfolding init_end
kept-init_end before = search (kept_forms, kept_words, kept-list_end, kept-type_form) depth 20

pub kept-init_turn : (before : OpenInit) → IsKept (init_turn before)
kept-init_turn before = search (kept_forms, kept-init_start, kept-init_end) depth 20

pub kept-init_form : IsKept init_form
unfolding init_form
kept-init_form = search (kept_forms, kept-init_turn) depth 20
