-- Behind instructions of a text of bytes stand bytes.
use Rattle.std.proofs.Common.{ℕ, List, Bool, Option}
use Rattle.ir_text.specs.declared.name.Name.{Name}
use Rattle.ir_text.specs.Form.{Form}
use Rattle.ir_grammar.specs.declared.type_tree.TypeNode.{TypeNode}
use Rattle.ir_instruction_trees.specs.declared.tree.Incoming.{Incoming}
use Rattle.ir_instruction_trees.specs.declared.tree.Operation.{Operation}
use Rattle.ir_instruction_trees.specs.declared.instructions.IncomingList.{IncomingList}
use Rattle.ir_instruction_trees.specs.declared.instructions.OffsetList.{OffsetList}
use Rattle.ir_instruction_trees.specs.declared.instructions.ArgumentList.{ArgumentList}
use Rattle.ir_instruction_trees.specs.declared.instructions.CaseList.{CaseList}
use Rattle.ir_instruction_trees.specs.Instructions.{binary, comparison, cast, selection, freezing, incoming, incoming_turn, more_incoming, choice, count, allocation, loading, storing, offset_turn, offsets, addressing, separator, argument_turn, argument_list, arguments, tail_word, call_start, call_rest, call, valued, returning, label_of_block, branch, case_form, case_turn, cases, switching, unreachable, effect, finished, assignment, instruction}
use Rattle.ir_print_laws.proofs.Kept.{IsKept, kept_forms}
use Rattle.ir_print_laws.proofs.KeptWords.{kept_words, kept-flags_of, kept-type_form, kept-words, kept-attributes, kept-suffixes}
use Rattle.ir_print_laws.proofs.KeptValues.{kept-operand, kept-typed, kept-argument}

ruleset parts = (kept_forms, kept_words, kept-type_form, kept-operand, kept-typed)

pub kept-binary : IsKept binary
unfolding binary
kept-binary = search (parts, kept-flags_of) depth 20

pub kept-comparison : IsKept comparison
unfolding comparison
kept-comparison = search (parts, kept-flags_of) depth 20

pub kept-cast : IsKept cast
unfolding cast
kept-cast = search (parts, kept-flags_of) depth 20

pub kept-selection : IsKept selection
unfolding selection
kept-selection = search parts depth 20

pub kept-freezing : IsKept freezing
unfolding freezing
kept-freezing = search parts depth 20

pub kept-incoming : IsKept incoming
unfolding incoming
kept-incoming = search parts depth 20

pub kept-incoming_turn : (before : IncomingList) → IsKept (incoming_turn before)
kept-incoming_turn before = search (parts, kept-incoming) depth 12

pub kept-more_incoming : (first : Incoming) → IsKept (more_incoming first)
unfolding more_incoming
kept-more_incoming first = search (kept_forms, kept-incoming_turn) depth 12

pub kept-choice : IsKept choice
unfolding choice
kept-choice = search (parts, kept-incoming, kept-more_incoming) depth 20

pub kept-count : IsKept count
unfolding count
kept-count = search parts depth 20

pub kept-allocation : IsKept allocation
unfolding allocation
kept-allocation = search (parts, kept-count) depth 20

pub kept-loading : IsKept loading
unfolding loading
kept-loading = search parts depth 20

pub kept-storing : IsKept storing
unfolding storing
kept-storing = search parts depth 20

pub kept-offset_turn : (before : OffsetList) → IsKept (offset_turn before)
kept-offset_turn before = search parts depth 12

pub kept-offsets : IsKept offsets
unfolding offsets
kept-offsets = search (kept_forms, kept-offset_turn) depth 12

pub kept-addressing : IsKept addressing
unfolding addressing
kept-addressing = search (parts, kept-words, kept-offsets) depth 20

pub kept-separator : (first : Bool) → IsKept (separator first)
kept-separator first = search (kept_forms, kept_words) depth 8

pub kept-argument_turn : (before : ArgumentList) → IsKept (argument_turn before)
kept-argument_turn before = search (kept_forms, kept-separator, kept-argument) depth 12

pub kept-argument_list : IsKept argument_list
unfolding argument_list
kept-argument_list = search (kept_forms, kept-argument_turn) depth 12

pub kept-arguments : IsKept arguments
unfolding arguments
kept-arguments = search (kept_forms, kept_words, kept-argument_list) depth 12

pub kept-tail_word : IsKept tail_word
unfolding tail_word
kept-tail_word = search (kept_forms, kept_words) depth 12

pub kept-call_start : IsKept call_start
unfolding call_start
kept-call_start = search (kept_forms, kept_words, kept-tail_word, kept-words, kept-type_form) depth 12

pub kept-call_rest : (left : ℕ) (result : Option Name) (ty : List TypeNode) (indirect : Bool) (callee : Name) → IsKept (call_rest left result ty indirect callee)
unfolding call_rest
kept-call_rest left result ty indirect callee = search (kept_forms, kept-arguments, kept-attributes, kept-suffixes) depth 12

pub kept-call : (left : ℕ) (result : Option Name) → IsKept (call left result)
unfolding call
kept-call left result = search (kept_forms, kept_words, kept-call_start, kept-call_rest) depth 20

pub kept-valued : IsKept valued
unfolding valued
kept-valued = search (kept_forms, kept-binary, kept-cast, kept-comparison, kept-selection, kept-freezing, kept-choice, kept-allocation, kept-loading, kept-addressing) depth 20

pub kept-returning : IsKept returning
unfolding returning
kept-returning = search parts depth 20

pub kept-label_of_block : IsKept label_of_block
unfolding label_of_block
kept-label_of_block = search (kept_forms, kept_words) depth 12

pub kept-branch : IsKept branch
unfolding branch
kept-branch = search (parts, kept-label_of_block) depth 20

pub kept-case_form : IsKept case_form
unfolding case_form
kept-case_form = search (parts, kept-label_of_block) depth 20

pub kept-case_turn : (before : CaseList) → IsKept (case_turn before)
kept-case_turn before = search (kept_forms, kept-case_form) depth 12

pub kept-cases : IsKept cases
unfolding cases
kept-cases = search (kept_forms, kept-case_turn) depth 12

pub kept-switching : IsKept switching
unfolding switching
kept-switching = search (parts, kept-label_of_block, kept-cases) depth 20

pub kept-unreachable : IsKept unreachable
unfolding unreachable
kept-unreachable = search (kept_forms, kept_words) depth 12

pub kept-effect : IsKept effect
unfolding effect
kept-effect = search (kept_forms, kept-storing, kept-returning, kept-branch, kept-switching, kept-unreachable) depth 20

pub kept-finished : (left : ℕ) (result : Option Name) (operation : Operation) → IsKept (finished left result operation)
unfolding finished
kept-finished left result operation = search (kept_forms, kept-suffixes) depth 12

pub kept-assignment : (left : ℕ) → IsKept (assignment left)
unfolding assignment
kept-assignment left = search (kept_forms, kept_words, kept-call, kept-finished, kept-valued) depth 20

pub kept-instruction : IsKept instruction
unfolding instruction
kept-instruction = search (kept_forms, kept-assignment, kept-call, kept-finished, kept-effect) depth 20
