-- Behind the parts of a module of a text of bytes stand bytes.
use Rattle.std.proofs.Common.{ℕ, List, Bool}
use Rattle.ir_tree.specs.declared.tree.Tree.{Tree}
use Rattle.ir_tree.specs.declared.modules.InstructionList.{InstructionList}
use Rattle.ir_tree.specs.declared.modules.BlockList.{BlockList}
use Rattle.ir_tree.specs.declared.modules.ParameterList.{ParameterList}
use Rattle.ir_tree.specs.declared.modules.FunctionAttributeList.{FunctionAttributeList}
use Rattle.ir_tree.specs.Modules.{debug_record, instruction_turn, instructions, block_label, block, block_turn, block_list, body, parameter_name, parameter, separator, parameter_turn, parameter_list, parameters, function_metadata, function_attribute_turn, function_attributes, function, global_word, global_form, type_or_opaque, named_type, source_filename, target, item_turn, module_form}
use Rattle.ir_print_laws.proofs.Kept.{IsKept, kept_forms}
use Rattle.ir_print_laws.proofs.KeptWords.{kept_words, kept-type_form, kept-words, kept-attribute_item, kept-attributes, kept-parentheses, kept-suffixes}
use Rattle.ir_print_laws.proofs.KeptValues.{kept-init_form}
use Rattle.ir_print_laws.proofs.KeptInstructions.{kept-instruction}

pub kept-debug_record : IsKept debug_record
unfolding debug_record
kept-debug_record = search (kept_forms, kept_words, kept-parentheses) depth 12

pub kept-instruction_turn : (before : InstructionList) → IsKept (instruction_turn before)
kept-instruction_turn before = search (kept_forms, kept-debug_record, kept-instruction) depth 12

pub kept-instructions : IsKept instructions
unfolding instructions
kept-instructions = search (kept_forms, kept-instruction_turn) depth 12

pub kept-block_label : (first : Bool) → IsKept (block_label first)
unfolding block_label
kept-block_label first = search (kept_forms, kept_words) depth 12

pub kept-block : (first : Bool) → IsKept (block first)
unfolding block
kept-block first = search (kept_forms, kept-block_label, kept-instructions) depth 12

pub kept-block_turn : (before : BlockList) → IsKept (block_turn before)
kept-block_turn before = search (kept_forms, kept-block) depth 12

pub kept-block_list : IsKept block_list
unfolding block_list
kept-block_list = search (kept_forms, kept-block_turn) depth 12

pub kept-body : IsKept body
unfolding body
kept-body = search (kept_forms, kept_words, kept-block_list) depth 12

pub kept-parameter_name : IsKept parameter_name
unfolding parameter_name
kept-parameter_name = search (kept_forms, kept_words) depth 12

pub kept-parameter : IsKept parameter
unfolding parameter
kept-parameter = search (kept_forms, kept-type_form, kept-attributes, kept-parameter_name) depth 12

pub kept-separator : (first : Bool) → IsKept (separator first)
kept-separator first = search (kept_forms, kept_words) depth 8

pub kept-parameter_turn : (before : ParameterList) → IsKept (parameter_turn before)
kept-parameter_turn before = search (kept_forms, kept-separator, kept-parameter) depth 12

pub kept-parameter_list : IsKept parameter_list
unfolding parameter_list
kept-parameter_list = search (kept_forms, kept-parameter_turn) depth 12

pub kept-parameters : IsKept parameters
unfolding parameters
kept-parameters = search (kept_forms, kept_words, kept-parameter_list) depth 12

pub kept-function_metadata : IsKept function_metadata
unfolding function_metadata
kept-function_metadata = search (kept_forms, kept_words) depth 12

pub kept-function_attribute_turn : (before : FunctionAttributeList) → IsKept (function_attribute_turn before)
kept-function_attribute_turn before = search (kept_forms, kept-function_metadata, kept-attribute_item) depth 12

pub kept-function_attributes : IsKept function_attributes
unfolding function_attributes
kept-function_attributes = search (kept_forms, kept-function_attribute_turn) depth 12

pub kept-function : IsKept function
unfolding function
kept-function = search (kept_forms, kept_words, kept-words, kept-type_form, kept-parameters, kept-function_attributes, kept-body) depth 20

pub kept-global_word : IsKept global_word
unfolding global_word
kept-global_word = search (kept_forms, kept_words) depth 12

pub kept-global_form : IsKept global_form
unfolding global_form
kept-global_form = search (kept_forms, kept_words, kept-words, kept-global_word, kept-type_form, kept-init_form, kept-suffixes) depth 20

pub kept-type_or_opaque : IsKept type_or_opaque
unfolding type_or_opaque
kept-type_or_opaque = search (kept_forms, kept_words, kept-type_form) depth 12

pub kept-named_type : IsKept named_type
unfolding named_type
kept-named_type = search (kept_forms, kept_words, kept-type_or_opaque) depth 12

pub kept-source_filename : IsKept source_filename
unfolding source_filename
kept-source_filename = search (kept_forms, kept_words) depth 12

pub kept-target : IsKept target
unfolding target
kept-target = search (kept_forms, kept_words) depth 12

pub kept-item_turn : (before : Tree) → IsKept (item_turn before)
kept-item_turn before = search (kept_forms, kept_words, kept-function, kept-global_form, kept-named_type, kept-target, kept-source_filename) depth 20

pub kept-module_form : IsKept module_form
unfolding module_form
kept-module_form = search (kept_forms, kept_words, kept-item_turn) depth 12
