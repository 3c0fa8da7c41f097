-- Instructions are read exactly.
use Rattle.std.proofs.Common.{ℕ, List, Bool, Option}
use Rattle.ir_text.specs.declared.name.Name.{Name}
use Rattle.ir_text.specs.Form.{Form}
use Rattle.ir_text.proofs.Exact.{IsExact, exact_forms}
use Rattle.ir_text.proofs.Words.{exact_words}
use Rattle.ir_grammar.specs.declared.type_tree.TypeNode.{TypeNode}
use Rattle.ir_instruction_trees.specs.declared.tree.Incoming.{Incoming}
use Rattle.ir_instruction_trees.specs.declared.tree.Operation.{Operation}
use Rattle.ir_instruction_trees.specs.declared.instructions.IncomingList.{IncomingList}
use Rattle.ir_instruction_trees.specs.declared.instructions.OffsetList.{OffsetList}
use Rattle.ir_instruction_trees.specs.declared.instructions.ArgumentList.{ArgumentList}
use Rattle.ir_instruction_trees.specs.declared.instructions.CaseList.{CaseList}
use Rattle.ir_instruction_trees.specs.Instructions.{binary, comparison, cast, selection, freezing, incoming, incoming_turn, more_incoming, choice, count, allocation, loading, storing, offset_turn, offsets, addressing, separator, argument_turn, argument_list, arguments, tail_word, call_start, call_rest, call, valued, returning, label_of_block, branch, case_form, case_turn, cases, switching, unreachable, effect, finished, assignment, instruction}
use Rattle.ir_grammar.proofs.OperatorsExact.{exact-flags_of}
use Rattle.ir_grammar.proofs.WordsExact.{exact-words, exact-attributes, exact-suffixes}
use Rattle.ir_grammar.proofs.TypesExact.{exact-type_form}
use Rattle.ir_value_trees.proofs.ValuesExact.{exact-operand, exact-typed, exact-argument}

ruleset parts = (exact_forms, exact_words, exact-type_form, exact-operand, exact-typed)

exact-binary : IsExact binary
unfolding binary
exact-binary = search (parts, exact-flags_of) depth 20

exact-comparison : IsExact comparison
unfolding comparison
exact-comparison = search (parts, exact-flags_of) depth 20

exact-cast : IsExact cast
unfolding cast
exact-cast = search (parts, exact-flags_of) depth 20

exact-selection : IsExact selection
unfolding selection
exact-selection = search parts depth 20

exact-freezing : IsExact freezing
unfolding freezing
exact-freezing = search parts depth 20

exact-incoming : IsExact incoming
unfolding incoming
exact-incoming = search parts depth 20

exact-incoming_turn : (before : IncomingList) → IsExact (incoming_turn before)
exact-incoming_turn before = search (parts, exact-incoming) depth 12

exact-more_incoming : (first : Incoming) → IsExact (more_incoming first)
unfolding more_incoming
exact-more_incoming first = search (exact_forms, exact-incoming_turn) depth 12

exact-choice : IsExact choice
unfolding choice
exact-choice = search (parts, exact-incoming, exact-more_incoming) depth 20

exact-count : IsExact count
unfolding count
exact-count = search parts depth 20

exact-allocation : IsExact allocation
unfolding allocation
exact-allocation = search (parts, exact-count) depth 20

exact-loading : IsExact loading
unfolding loading
exact-loading = search parts depth 20

exact-storing : IsExact storing
unfolding storing
exact-storing = search parts depth 20

exact-offset_turn : (before : OffsetList) → IsExact (offset_turn before)
exact-offset_turn before = search parts depth 12

exact-offsets : IsExact offsets
unfolding offsets
exact-offsets = search (exact_forms, exact-offset_turn) depth 12

exact-addressing : IsExact addressing
unfolding addressing
exact-addressing = search (parts, exact-words, exact-offsets) depth 20

exact-separator : (first : Bool) → IsExact (separator first)
exact-separator first = search (exact_forms, exact_words) depth 8

exact-argument_turn : (before : ArgumentList) → IsExact (argument_turn before)
exact-argument_turn before = search (exact_forms, exact-separator, exact-argument) depth 12

exact-argument_list : IsExact argument_list
unfolding argument_list
exact-argument_list = search (exact_forms, exact-argument_turn) depth 12

exact-arguments : IsExact arguments
unfolding arguments
exact-arguments = search (exact_forms, exact_words, exact-argument_list) depth 12

exact-tail_word : IsExact tail_word
unfolding tail_word
exact-tail_word = search (exact_forms, exact_words) depth 12

exact-call_start : IsExact call_start
unfolding call_start
exact-call_start = search (exact_forms, exact_words, exact-tail_word, exact-words, exact-type_form) depth 12

exact-call_rest : (left : ℕ) (result : Option Name) (ty : List TypeNode) (indirect : Bool) (callee : Name) → IsExact (call_rest left result ty indirect callee)
unfolding call_rest
exact-call_rest left result ty indirect callee = search (exact_forms, exact-arguments, exact-attributes, exact-suffixes) depth 12

exact-call : (left : ℕ) (result : Option Name) → IsExact (call left result)
unfolding call
exact-call left result = search (exact_forms, exact_words, exact-call_start, exact-call_rest) depth 20

exact-valued : IsExact valued
unfolding valued
exact-valued = search (exact_forms, exact-binary, exact-cast, exact-comparison, exact-selection, exact-freezing, exact-choice, exact-allocation, exact-loading, exact-addressing) depth 20

exact-returning : IsExact returning
unfolding returning
exact-returning = search parts depth 20

exact-label_of_block : IsExact label_of_block
unfolding label_of_block
exact-label_of_block = search (exact_forms, exact_words) depth 12

exact-branch : IsExact branch
unfolding branch
exact-branch = search (parts, exact-label_of_block) depth 20

exact-case_form : IsExact case_form
unfolding case_form
exact-case_form = search (parts, exact-label_of_block) depth 20

exact-case_turn : (before : CaseList) → IsExact (case_turn before)
exact-case_turn before = search (exact_forms, exact-case_form) depth 12

exact-cases : IsExact cases
unfolding cases
exact-cases = search (exact_forms, exact-case_turn) depth 12

exact-switching : IsExact switching
unfolding switching
exact-switching = search (parts, exact-label_of_block, exact-cases) depth 20

exact-unreachable : IsExact unreachable
unfolding unreachable
exact-unreachable = search (exact_forms, exact_words) depth 12

exact-effect : IsExact effect
unfolding effect
exact-effect = search (exact_forms, exact-storing, exact-returning, exact-branch, exact-switching, exact-unreachable) depth 20

exact-finished : (left : ℕ) (result : Option Name) (operation : Operation) → IsExact (finished left result operation)
unfolding finished
exact-finished left result operation = search (exact_forms, exact-suffixes) depth 12

exact-assignment : (left : ℕ) → IsExact (assignment left)
unfolding assignment
exact-assignment left = search (exact_forms, exact_words, exact-call, exact-finished, exact-valued) depth 20

pub exact-instruction : IsExact instruction
unfolding instruction
exact-instruction = search (exact_forms, exact-assignment, exact-call, exact-finished, exact-effect) depth 20
