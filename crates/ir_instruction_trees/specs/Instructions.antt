-- Instructions, blocks' lines, and what stands between them.
use Rattle.std.specs.Prelude.{ℕ, Bool, true, false, not, ◌&&◌, ◌||◌, nat_eq, length, List, [], ◌∷◌, ◌++◌, Option, Some, None, Result, Ok, Err, codes, if◌then◌else◌}
use Rattle.std.specs.List.{starts_with}
use Rattle.ir_text.specs.declared.name.Name.{Name}
use Rattle.ir_text.specs.declared.name.Number.{Number}
use Rattle.ir_text.specs.Token.{Token, word, local, global, label, number, mark}
use Rattle.ir_text.specs.Form.{Form, ◌>>=◌, yield, place, taken, by_token, by_two, by_flag, rest_of_line, repeat}
use Rattle.ir_text.specs.Words.{is_mark, is_word, punctuation, keyword, passed, local_name, global_name, label_name, group}
use Rattle.ir_text.specs.declared.stop.Stop.{Stop}
use Rattle.ir_grammar.specs.declared.type_tree.TypeNode.{TypeNode}
use Rattle.ir_grammar.specs.declared.type_tree.Align.{Align}
use Rattle.ir_value_trees.specs.declared.value_tree.Value.{Value}
use Rattle.ir_value_trees.specs.declared.value_tree.Typed.{Typed}
use Rattle.ir_instruction_trees.specs.declared.tree.Incoming.{Incoming}
use Rattle.ir_instruction_trees.specs.declared.tree.Case.{Case}
use Rattle.ir_instruction_trees.specs.declared.tree.Operation.{Operation}
use Rattle.ir_instruction_trees.specs.declared.tree.Operation.TheVariants as operations
use Rattle.ir_instruction_trees.specs.declared.tree.Instruction.{Instruction}
use Rattle.ir_instruction_trees.specs.declared.instructions.IncomingList.{IncomingList}
use Rattle.ir_instruction_trees.specs.declared.instructions.OffsetList.{OffsetList}
use Rattle.ir_instruction_trees.specs.declared.instructions.ArgumentList.{ArgumentList}
use Rattle.ir_instruction_trees.specs.declared.instructions.CaseList.{CaseList}
use Rattle.ir_grammar.specs.Operators.{samesign_flag, flags_of, binary_of, cast_of, predicate_of, is_binary, is_cast}
use Rattle.ir_grammar.specs.Words.{words, attributes, suffixes}
use Rattle.ir_grammar.specs.Types.{is_int, type_form}
use Rattle.ir_value_trees.specs.Values.{is_local, operand, typed, argument}

-- `OP FLAGS T V, V`
unfoldable pub binary : Form Operation
binary = do
  operator ← taken binary_of
  flags ← flags_of operator.1
  left ← typed
  _ ← punctuation 44
  right ← operand
  yield (operations.Binary operator.0 flags left right)

-- `icmp [samesign] PRED T V, V`
unfoldable pub comparison : Form Operation
comparison = do
  _ ← keyword (codes "icmp")
  flags ← flags_of samesign_flag
  predicate ← taken predicate_of
  left ← typed
  _ ← punctuation 44
  right ← operand
  yield (operations.Icmp flags predicate left right)

-- `OP FLAGS T V to T`
unfoldable pub cast : Form Operation
cast = do
  operator ← taken cast_of
  flags ← flags_of operator.1
  value ← typed
  _ ← keyword (codes "to")
  ty ← type_form
  yield (operations.Cast operator.0 flags value ty)

-- `select i1 V, T V, T V`
unfoldable pub selection : Form Operation
selection = do
  _ ← keyword (codes "select")
  condition ← typed
  _ ← punctuation 44
  left ← typed
  _ ← punctuation 44
  right ← typed
  yield (operations.Select condition left right)

-- `freeze T V`
unfoldable pub freezing : Form Operation
freezing = do
  _ ← keyword (codes "freeze")
  value ← typed
  yield (operations.Freeze value)

-- `[ V, %B ]`
unfoldable pub incoming : Form Incoming
incoming = do
  _ ← punctuation 91
  value ← operand
  _ ← punctuation 44
  block ← local_name
  _ ← punctuation 93
  yield (record { value = value; block = block })

abbrev pub is_comma_before : (Token → Bool) → Token → Token → Bool
is_comma_before test token second = is_mark 44 token && test second

abbrev pub incoming_turn : IncomingList → Form (Bool × IncomingList)
incoming_turn before =
    by_two (is_comma_before (is_mark 91))
    (do
      _ ← punctuation 44
      one ← incoming
      yield (true, record { incoming = before.incoming ++ one ∷ [] }))
    (yield (false, before))

unfoldable pub more_incoming : Incoming → Form (List Incoming)
more_incoming first = do
  all ← repeat incoming_turn (record { incoming = first ∷ [] })
  yield all.incoming

-- `phi T [ V, %B ], ..`
unfoldable pub choice : Form Operation
choice = do
  _ ← keyword (codes "phi")
  ty ← type_form
  first ← incoming
  given ← more_incoming first
  yield (operations.Phi ty given)

-- `, iN NUMBER`, or nothing; a count that isn't constant reads here and is left out
unfoldable pub count : Form (Option Typed)
count =
    by_two (is_comma_before is_int)
    (do
      _ ← punctuation 44
      one ← typed
      yield (Some one))
    (yield None)

-- `alloca MEMTY [, iN NUMBER]`
unfoldable pub allocation : Form Operation
allocation = do
  left ← place
  _ ← keyword (codes "alloca")
  ty ← type_form
  number_of_items ← count
  yield (operations.Alloca left ty number_of_items)

-- `load T, ptr V`
unfoldable pub loading : Form Operation
loading = do
  _ ← keyword (codes "load")
  ty ← type_form
  _ ← punctuation 44
  from ← typed
  yield (operations.Load ty from)

-- `store T V, ptr V`
unfoldable pub storing : Form Operation
storing = do
  _ ← keyword (codes "store")
  value ← typed
  _ ← punctuation 44
  into ← typed
  yield (operations.Store value into)

abbrev pub offset_turn : OffsetList → Form (Bool × OffsetList)
offset_turn before =
    by_two (is_comma_before is_int)
    (do
      _ ← punctuation 44
      one ← typed
      yield (true, record { offsets = before.offsets ++ one ∷ [] }))
    (yield (false, before))

unfoldable pub offsets : Form (List Typed)
offsets = do
  all ← repeat offset_turn (record { offsets = [] })
  yield all.offsets

-- `getelementptr WORDS MEMTY, ptr V, iN V, ..`
unfoldable pub addressing : Form Operation
addressing = do
  _ ← keyword (codes "getelementptr")
  _ ← words
  ty ← type_form
  _ ← punctuation 44
  base ← typed
  given ← offsets
  yield (operations.Gep ty base given)

abbrev pub separator : Bool → Form (Unit {0})
separator first = by_flag first (yield tt) (punctuation 44)

abbrev pub argument_turn : ArgumentList → Form (Bool × ArgumentList)
argument_turn before =
    by_token (is_mark 41)
    (yield (false, before))
    (do
      _ ← separator (nat_eq (length before.arguments) 0)
      one ← argument
      yield (true, record { arguments = before.arguments ++ one ∷ [] }))

unfoldable pub argument_list : Form (List Typed)
argument_list = do
  all ← repeat argument_turn (record { arguments = [] })
  yield all.arguments

-- `(T ATTRS V, ..)`
unfoldable pub arguments : Form (List Typed)
arguments = do
  _ ← punctuation 40
  given ← argument_list
  _ ← punctuation 41
  yield given

-- `tail` or `notail` before `call`, or nothing
unfoldable pub tail_word : Form (Unit {0})
tail_word =
    by_token (is_word (codes "tail"))
    (keyword (codes "tail"))
    (by_token (is_word (codes "notail"))
    (keyword (codes "notail"))
    (yield tt))

-- `[tail or notail] call WORDS T`
unfoldable pub call_start : Form (List TypeNode)
call_start = do
  _ ← tail_word
  _ ← keyword (codes "call")
  _ ← words
  type_form

-- a call's names that are dropped with their line
abbrev pub is_dropped_name : List ℕ → Bool
is_dropped_name name =
    starts_with nat_eq name (codes "llvm.lifetime.") || starts_with nat_eq name (codes "llvm.dbg.") || starts_with nat_eq name (codes "llvm.assume") || starts_with nat_eq name (codes "llvm.experimental.noalias.scope.decl")

-- the arguments and attributes of a call, and what stands behind it
unfoldable pub call_rest : ℕ → Option Name → List TypeNode → Bool → Name → Form (Option Instruction)
call_rest left result ty indirect callee = do
  given ← arguments
  _ ← attributes
  aligns ← suffixes
  yield (Some (record { left = left; result = result; operation = operations.Call ty indirect callee given; aligns = aligns }))

-- a call; none where it is dropped
unfoldable pub call : ℕ → Option Name → Form (Option Instruction)
call left result = do
  ty ← call_start
  by_token is_local
      (do
        callee ← local_name
        call_rest left result ty true callee)
      (do
        callee ← global_name
        by_flag (is_dropped_name callee.bytes)
            (do
              _ ← rest_of_line
              yield None)
            (call_rest left result ty false callee))

-- an operation with a result, but for a call
unfoldable pub valued : Form Operation
valued =
    by_token is_binary binary
    (by_token is_cast cast
    (by_token (is_word (codes "icmp")) comparison
    (by_token (is_word (codes "select")) selection
    (by_token (is_word (codes "freeze")) freezing
    (by_token (is_word (codes "phi")) choice
    (by_token (is_word (codes "alloca")) allocation
    (by_token (is_word (codes "load")) loading
    addressing)))))))

-- `ret T V` or `ret void`
unfoldable pub returning : Form Operation
returning = do
  _ ← keyword (codes "ret")
  by_token (is_word (codes "void"))
      (do
        ty ← type_form
        yield (operations.Ret ty None))
      (do
        answer ← typed
        yield (operations.Ret answer.ty (Some answer.value)))

-- `label %B`
unfoldable pub label_of_block : Form Name
label_of_block = do
  _ ← keyword (codes "label")
  local_name

-- `br label %B` or `br i1 V, label %B, label %B`
unfoldable pub branch : Form Operation
branch = do
  _ ← keyword (codes "br")
  by_token (is_word (codes "label"))
      (label_of_block >>= λ block. yield (operations.Br block))
      (do
        condition ← typed
        _ ← punctuation 44
        left ← label_of_block
        _ ← punctuation 44
        right ← label_of_block
        yield (operations.CondBr condition left right))

-- `T NUMBER, label %B`
unfoldable pub case_form : Form Case
case_form = do
  given ← typed
  _ ← punctuation 44
  block ← label_of_block
  yield (record { ty = given.ty; value = given.value; block = block })

abbrev pub case_turn : CaseList → Form (Bool × CaseList)
case_turn before =
    by_token (is_mark 93)
    (yield (false, before))
    (case_form >>= λ one. yield (true, record { cases = before.cases ++ one ∷ [] }))

unfoldable pub cases : Form (List Case)
cases = do
  all ← repeat case_turn (record { cases = [] })
  yield all.cases

-- `switch T V, label %B [ T NUMBER, label %B .. ]`
unfoldable pub switching : Form Operation
switching = do
  _ ← keyword (codes "switch")
  value ← typed
  _ ← punctuation 44
  block ← label_of_block
  _ ← punctuation 91
  given ← cases
  _ ← punctuation 93
  yield (operations.Switch value block given)

unfoldable pub unreachable : Form Operation
unreachable = do
  _ ← keyword (codes "unreachable")
  yield operations.Unreachable

-- an operation without a result, but for a call
unfoldable pub effect : Form Operation
effect =
    by_token (is_word (codes "store")) storing
    (by_token (is_word (codes "ret")) returning
    (by_token (is_word (codes "br")) branch
    (by_token (is_word (codes "switch")) switching
    unreachable)))

abbrev pub begins_call : Token → Bool
begins_call token = is_word (codes "call") token || is_word (codes "tail") token || is_word (codes "notail") token

-- an instruction of its parts, where its suffixes were read
abbrev pub whole : ℕ → Option Name → Operation → Result (List Align) Stop → Result (Option Instruction) Stop
whole left result operation (Err stop) = Err stop
whole left result operation (Ok aligns) = Ok (Some (record { left = left; result = result; operation = operation; aligns = aligns }))

-- what stands behind an operation
unfoldable pub finished : ℕ → Option Name → Operation → Form (Option Instruction)
finished left result operation = do
  aligns ← suffixes
  yield (Some (record { left = left; result = result; operation = operation; aligns = aligns }))

-- an operation, and what stands behind it
abbrev pub ended : ℕ → Option Name → Form Operation → Form (Option Instruction)
ended left result form = form >>= finished left result

-- `%NAME = ..`
unfoldable pub assignment : ℕ → Form (Option Instruction)
assignment left = do
  name ← local_name
  _ ← punctuation 61
  by_token begins_call (call left (Some name)) (ended left (Some name) valued)

-- an instruction; none where it is dropped
unfoldable pub instruction : Form (Option Instruction)
instruction = do
  left ← place
  by_token is_local
      (assignment left)
      (by_token begins_call (call left None) (ended left None effect))
