-- Words, attributes and suffixes are read exactly.
use Rattle.std.proofs.Common.{ℕ, List}
use Rattle.ir_grammar.specs.declared.type_tree.Align.{Align}
use Rattle.ir_text.proofs.Exact.{IsExact, exact_forms}
use Rattle.ir_text.proofs.Words.{exact_words}
use Rattle.ir_grammar.specs.declared.words.WordList.{WordList}
use Rattle.ir_grammar.specs.declared.words.AttributeList.{AttributeList}
use Rattle.ir_grammar.specs.declared.words.SuffixList.{SuffixList}
use Rattle.ir_grammar.specs.Words.{string_attribute, word_attribute, numbered_attribute, word_item, word_turn, words, attribute_number, attribute_item, attribute_turn, attributes, parentheses, metadata, named_metadata, align_form, suffix, suffix_turn, suffixes}

pub exact-string_attribute : IsExact string_attribute
unfolding string_attribute
exact-string_attribute = search (exact_forms, exact_words) depth 12

pub exact-word_attribute : IsExact word_attribute
unfolding word_attribute
exact-word_attribute = search (exact_forms, exact_words) depth 12

pub exact-numbered_attribute : IsExact numbered_attribute
unfolding numbered_attribute
exact-numbered_attribute = search (exact_forms, exact_words) depth 12

exact-word_item : IsExact word_item
unfolding word_item
exact-word_item = search (exact_forms, exact-string_attribute, exact-numbered_attribute, exact-word_attribute) depth 12

exact-word_turn : (before : WordList) → IsExact (word_turn before)
exact-word_turn before = search (exact_forms, exact-word_item) depth 12

pub exact-words : IsExact words
unfolding words
exact-words = search (exact_forms, exact-word_turn) depth 12

exact-attribute_number : IsExact attribute_number
unfolding attribute_number
exact-attribute_number = search (exact_forms, exact_words) depth 12

pub exact-attribute_item : IsExact attribute_item
unfolding attribute_item
exact-attribute_item = search (exact_forms, exact-attribute_number, exact-string_attribute, exact-numbered_attribute, exact-word_attribute) depth 12

exact-attribute_turn : (before : AttributeList) → IsExact (attribute_turn before)
exact-attribute_turn before = search (exact_forms, exact-attribute_item) depth 12

pub exact-attributes : IsExact attributes
unfolding attributes
exact-attributes = search (exact_forms, exact-attribute_turn) depth 12

pub exact-parentheses : IsExact parentheses
unfolding parentheses
exact-parentheses = search (exact_forms, exact_words) depth 12

pub exact-metadata : IsExact metadata
unfolding metadata
exact-metadata = search (exact_forms, exact_words, exact-parentheses) depth 12

exact-named_metadata : IsExact named_metadata
unfolding named_metadata
exact-named_metadata = search (exact_forms, exact_words, exact-metadata) depth 12

exact-align_form : IsExact align_form
unfolding align_form
exact-align_form = search (exact_forms, exact_words) depth 12

exact-suffix : (aligns : List Align) → IsExact (suffix aligns)
unfolding suffix
exact-suffix aligns = search (exact_forms, exact_words, exact-parentheses, exact-align_form, exact-named_metadata) depth 20

exact-suffix_turn : (before : SuffixList) → IsExact (suffix_turn before)
exact-suffix_turn before = search (exact_forms, exact_words, exact-suffix) depth 12

pub exact-suffixes : IsExact suffixes
unfolding suffixes
exact-suffixes = search (exact_forms, exact-suffix_turn) depth 12
