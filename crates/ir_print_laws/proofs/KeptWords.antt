-- Behind words, flags and types of a text of bytes stand bytes.
use Rattle.std.proofs.Common.{ℕ, List, Bool}
use Rattle.ir_text.specs.Token.{Token}
use Rattle.ir_text.specs.Form.{Form, repeat}
use Rattle.ir_text.specs.Words.{punctuation, keyword, passed, local_name, global_name, label_name, numeral, inside, group_step, group, ending}
use Rattle.ir_core.specs.declared.code.Flags.{Flags}
use Rattle.ir_grammar.specs.declared.operators.FlagList.{FlagList}
use Rattle.ir_grammar.specs.Operators.{flag_turn, flags_of}
use Rattle.ir_grammar.specs.declared.types.OpenType.{OpenType}
use Rattle.ir_grammar.specs.Types.{scalar, integer, struct_end, struct_start, type_start, type_end, type_turn, type_form}
use Rattle.ir_grammar.specs.declared.type_tree.Align.{Align}
use Rattle.ir_grammar.specs.declared.words.WordList.{WordList}
use Rattle.ir_grammar.specs.declared.words.AttributeList.{AttributeList}
use Rattle.ir_grammar.specs.declared.words.SuffixList.{SuffixList}
use Rattle.ir_grammar.specs.Words.{string_attribute, word_attribute, numbered_attribute, word_item, word_turn, words, attribute_number, attribute_item, attribute_turn, attributes, parentheses, metadata, named_metadata, align_form, suffix, suffix_turn, suffixes}
use Rattle.ir_print_laws.proofs.Kept.{IsKept, kept_forms, kept-taken, kept-repeat}

pub kept-punctuation : (byte : ℕ) → IsKept (punctuation byte)
unfolding punctuation
kept-punctuation byte = search kept_forms

pub kept-keyword : (name : List ℕ) → IsKept (keyword name)
unfolding keyword
kept-keyword name = search kept_forms

pub kept-passed : (test : Token → Bool) → IsKept (passed test)
unfolding passed
kept-passed test = search kept_forms

pub kept-local_name : IsKept local_name
unfolding local_name
kept-local_name = search kept_forms

pub kept-global_name : IsKept global_name
unfolding global_name
kept-global_name = search kept_forms

pub kept-label_name : IsKept label_name
unfolding label_name
kept-label_name = search kept_forms

pub kept-numeral : IsKept numeral
unfolding numeral
kept-numeral = search kept_forms

pub kept-inside : (wanted : List ℕ) → IsKept (inside wanted)
kept-inside wanted = kept-taken (group_step wanted)

pub kept-group : IsKept group
unfolding group
kept-group = search (kept_forms, kept-inside) depth 10

pub kept-ending : IsKept ending
unfolding ending
kept-ending = search kept_forms

pub ruleset kept_words = (kept-punctuation, kept-keyword, kept-passed, kept-local_name, kept-global_name, kept-label_name, kept-numeral, kept-group, kept-ending)

pub kept-flag_turn : (before : FlagList) → IsKept (flag_turn before)
kept-flag_turn before = search kept_forms depth 12

pub kept-flags_of : (allowed : Flags) → IsKept (flags_of allowed)
unfolding flags_of
kept-flags_of allowed = search (kept_forms, kept-flag_turn) depth 12

pub kept-scalar : IsKept scalar
unfolding scalar
kept-scalar = search kept_forms depth 8

pub kept-integer : IsKept integer
unfolding integer
kept-integer = search kept_forms depth 8

pub kept-struct_end : (packed : Bool) → IsKept (struct_end packed)
unfolding struct_end
kept-struct_end packed = search (kept_forms, kept_words) depth 8

pub kept-struct_start : (open_type : OpenType) (packed : Bool) (left : ℕ) → IsKept (struct_start open_type packed left)
unfolding struct_start
kept-struct_start open_type packed left = search (kept_forms, kept_words, kept-struct_end) depth 10

pub kept-type_start : (open_type : OpenType) → IsKept (type_start open_type)
unfolding type_start
kept-type_start open_type = search (kept_forms, kept_words, kept-scalar, kept-struct_start) depth 20

pub kept-type_end : (open_type : OpenType) → IsKept (type_end open_type)
unfolding type_end
kept-type_end open_type = search (kept_forms, kept_words, kept-struct_end) depth 20

pub kept-type_turn : (open_type : OpenType) → IsKept (type_turn open_type)
kept-type_turn open_type = search (kept_forms, kept-type_start, kept-type_end) depth 20

pub kept-type_form : IsKept type_form
unfolding type_form
kept-type_form = search (kept_forms, kept-type_turn) depth 20

pub kept-string_attribute : IsKept string_attribute
unfolding string_attribute
kept-string_attribute = search (kept_forms, kept_words) depth 12

pub kept-word_attribute : IsKept word_attribute
unfolding word_attribute
kept-word_attribute = search (kept_forms, kept_words) depth 12

pub kept-numbered_attribute : IsKept numbered_attribute
unfolding numbered_attribute
kept-numbered_attribute = search (kept_forms, kept_words) depth 12

pub kept-word_item : IsKept word_item
unfolding word_item
kept-word_item = search (kept_forms, kept-string_attribute, kept-numbered_attribute, kept-word_attribute) depth 12

pub kept-word_turn : (before : WordList) → IsKept (word_turn before)
kept-word_turn before = search (kept_forms, kept-word_item) depth 12

pub kept-words : IsKept words
unfolding words
kept-words = search (kept_forms, kept-word_turn) depth 12

pub kept-attribute_number : IsKept attribute_number
unfolding attribute_number
kept-attribute_number = search (kept_forms, kept_words) depth 12

pub kept-attribute_item : IsKept attribute_item
unfolding attribute_item
kept-attribute_item = search (kept_forms, kept-attribute_number, kept-string_attribute, kept-numbered_attribute, kept-word_attribute) depth 12

pub kept-attribute_turn : (before : AttributeList) → IsKept (attribute_turn before)
kept-attribute_turn before = search (kept_forms, kept-attribute_item) depth 12

pub kept-attributes : IsKept attributes
unfolding attributes
kept-attributes = search (kept_forms, kept-attribute_turn) depth 12

pub kept-parentheses : IsKept parentheses
unfolding parentheses
kept-parentheses = search (kept_forms, kept_words) depth 12

pub kept-metadata : IsKept metadata
unfolding metadata
kept-metadata = search (kept_forms, kept_words, kept-parentheses) depth 12

pub kept-named_metadata : IsKept named_metadata
unfolding named_metadata
kept-named_metadata = search (kept_forms, kept_words, kept-metadata) depth 12

pub kept-align_form : IsKept align_form
unfolding align_form
kept-align_form = search (kept_forms, kept_words) depth 12

pub kept-suffix : (aligns : List Align) → IsKept (suffix aligns)
unfolding suffix
kept-suffix aligns = search (kept_forms, kept_words, kept-parentheses, kept-align_form, kept-named_metadata) depth 20

pub kept-suffix_turn : (before : SuffixList) → IsKept (suffix_turn before)
kept-suffix_turn before = search (kept_forms, kept_words, kept-suffix) depth 12

pub kept-suffixes : IsKept suffixes
unfolding suffixes
kept-suffixes = search (kept_forms, kept-suffix_turn) depth 12
