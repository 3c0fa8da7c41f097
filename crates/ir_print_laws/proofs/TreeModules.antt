-- What the grammar says of each function and global in a text of bytes.
use Rattle.std.proofs.Common.{◌≡◌, ℕ, suc, ◌+◌, ◌≤◌, Bool, true, false, List, [], ◌∷◌, ◌++◌, length, Option, Some, None, refl, sym, ◌∙◌, ap, subst, arith}
use Rattle.std.specs.Prelude.{◌&&◌, not, nat_eq, MatchBool, codes, if◌then◌else◌}
use Rattle.std.specs.List.{list_all}
use Rattle.std.specs.Str.{bytes_eq}
use Rattle.std.specs.Char.{is_ascii_digit}
use Rattle.std.proofs.lemmas.Option.{none-some}
use Rattle.ir_text.specs.declared.name.Name.{Name}
use Rattle.ir_text.specs.Token.{Token, word, local, global, label, number, string, bytes, mark, end, token_at, behind_one, begins_with}
use Rattle.ir_text.specs.Form.{Form, ◌>>=◌, yield, taken, turns, most_turns, repeat, place, by_token, by_flag, rest_of_line}
use Rattle.ir_text.specs.Words.{is_mark, is_word, passed, punctuation, numeral, global_of, global_name}
use Rattle.ir_core.specs.declared.code.Flags.{Flags}
use Rattle.ir_core.specs.declared.code.BinOp.{BinOp}
use Rattle.ir_core.specs.declared.code.CastOp.{CastOp}
use Rattle.ir_grammar.specs.declared.type_tree.TypeNode.{TypeNode}
use Rattle.ir_grammar.specs.declared.type_tree.TypeNode.TheVariants as nodes
use Rattle.ir_grammar.specs.declared.operators.FlagList.{FlagList}
use Rattle.ir_grammar.specs.declared.types.OpenType.{OpenType}
use Rattle.ir_grammar.specs.Operators.{no_flags, samesign_flag, with_flag, flag_of, flag_turn, flags_of, binary_name, binary_of, cast_name, cast_of, predicate_of}
use Rattle.ir_grammar.specs.Words.{is_int_name, is_number}
use Rattle.ir_grammar.specs.Types.{scalar_of, scalar, is_int, completed, more, type_start, type_turn, type_form}
use Rattle.ir_value_trees.specs.declared.value_tree.Typed.{Typed}
use Rattle.ir_value_trees.specs.declared.value_tree.InitNode.{InitNode}
use Rattle.ir_value_trees.specs.declared.value_tree.InitNode.TheVariants as inits
use Rattle.ir_value_trees.specs.declared.values.OpenInit.{OpenInit}
use Rattle.ir_value_trees.specs.Values.{address, begins_address, is_local, typed, token_init_of, word_init, token_init, plain_init, whole, closing, wanted_by, list_end, list_start, init_start, init_end, init_turn, init_form}
use Rattle.ir_instruction_trees.specs.declared.tree.Incoming.{Incoming}
use Rattle.ir_instruction_trees.specs.declared.tree.Operation.{Operation}
use Rattle.ir_instruction_trees.specs.declared.tree.Operation.TheVariants as operations
use Rattle.ir_instruction_trees.specs.declared.tree.Instruction.{Instruction}
use Rattle.ir_tree.specs.declared.tree.Block.{Block}
use Rattle.ir_tree.specs.declared.tree.Function.{Function}
use Rattle.ir_tree.specs.declared.tree.Global.{Global}
use Rattle.ir_tree.specs.declared.tree.Tree.{Tree}
use Rattle.ir_instruction_trees.specs.declared.instructions.IncomingList.{IncomingList}
use Rattle.ir_instruction_trees.specs.declared.instructions.OffsetList.{OffsetList}
use Rattle.ir_tree.specs.declared.modules.InstructionList.{InstructionList}
use Rattle.ir_tree.specs.declared.modules.BlockList.{BlockList}
use Rattle.ir_instruction_trees.specs.Instructions.{binary, comparison, cast, selection, freezing, incoming_turn, more_incoming, choice, allocation, loading, storing, is_comma_before, offset_turn, offsets, addressing, call_rest, call, valued, returning, branch, switching, unreachable, effect, finished, assignment, instruction}
use Rattle.ir_tree.specs.Modules.{ends_block, debug_record, with_instruction, instruction_turn, instructions, block, block_turn, block_list, body, function, global_form, named_type, source_filename, target, is_dropped_item, is_end, is_global, item_turn, module_form, IsTextOf}
use Rattle.ir_print_laws.specs.Operators.{allowed_of, allowed_of_cast, masked}
use Rattle.ir_print_laws.specs.Written.{Each}
use Rattle.ir_print_laws.proofs.ReadTokens.{Bytes, TokenBytes}
use Rattle.ir_print_laws.proofs.Kept.{IsKept, kept-then, kept-yield, kept-place, kept-taken, kept-repeat, kept-rest_of_line, Holds, holds-then, holds-behind, holds-yield, holds-taken, holds-by_token, holds-by_two, holds-by_flag, holds-repeat, counted-repeat}
use Rattle.ir_print_laws.proofs.KeptWords.{kept-punctuation, kept-keyword, kept-passed, kept-global_name, kept-local_name, kept-numeral, kept-ending, kept-flag_turn, kept-flags_of, kept-type_form, kept-struct_end, kept-words, kept-attributes, kept-suffixes}
use Rattle.ir_print_laws.proofs.KeptValues.{kept-address, kept-operand, kept-typed, kept-list_end, kept-list_start, kept-plain_init, kept-init_start, kept-init_end, kept-init_turn, kept-init_form}
use Rattle.ir_print_laws.proofs.KeptInstructions.{kept-incoming, kept-incoming_turn, kept-more_incoming, kept-count, kept-offset_turn, kept-offsets, kept-arguments, kept-call_start, kept-label_of_block, kept-cases, kept-valued, kept-effect, kept-finished, kept-instruction}
use Rattle.ir_print_laws.proofs.KeptModules.{kept-debug_record, kept-instruction_turn, kept-instructions, kept-block_label, kept-block, kept-block_turn, kept-block_list, kept-body, kept-parameters, kept-function_attributes, kept-function, kept-global_word, kept-global_form, kept-named_type, kept-source_filename, kept-target, kept-item_turn}
use Rattle.ir_print_laws.proofs.TreeWords.{pick, each_last, length_last, holds-any, holds-both, first_true, HasFlags, HasCastFlags, binary_token, cast_token, flags_fit}
use Rattle.ir_print_laws.proofs.TreeInstructions.{FormedInstruction, MayForm, instruction_fits}

-- ---- blocks

abbrev pub FormedBlock : Block → Type 0
FormedBlock given = Each FormedInstruction given.instructions

abbrev ListFits : InstructionList → Type 0
ListFits before = Each FormedInstruction before.instructions

with_fits : (before : InstructionList) (one : Option Instruction) → ListFits before → MayForm one → ListFits (with_instruction before one)
with_fits before None h may = h
with_fits before (Some one) h may = each_last FormedInstruction before.instructions one h may

instruction_turns : (s : InstructionList) → ListFits s → Holds (instruction_turn s) (λ x. ListFits x.1)
instruction_turns s h =
    holds-by_token ends_block (yield (false, s)) (by_token (is_mark 35) (debug_record >>= λ _. yield (true, s)) (instruction >>= λ one. yield (true, with_instruction s one))) (λ x. ListFits x.1)
    (holds-yield (false, s) (λ x. ListFits x.1) h)
    (holds-by_token (is_mark 35) (debug_record >>= λ _. yield (true, s)) (instruction >>= λ one. yield (true, with_instruction s one)) (λ x. ListFits x.1)
    (holds-behind debug_record (λ _. yield (true, s)) (λ x. ListFits x.1) kept-debug_record (λ _. holds-yield (true, s) (λ x. ListFits x.1) h))
    (holds-then instruction (λ one. yield (true, with_instruction s one)) MayForm (λ x. ListFits x.1) kept-instruction instruction_fits (λ one may. holds-yield (true, with_instruction s one) (λ x. ListFits x.1) (with_fits s one h may))))

instructions_fit : Holds instructions (Each FormedInstruction)
unfolding instructions
instructions_fit = holds-then _ _ ListFits _ (kept-repeat instruction_turn _ kept-instruction_turn) (holds-repeat instruction_turn kept-instruction_turn ListFits _ instruction_turns tt) (λ s h. holds-yield s.instructions _ h)

block_fits : (first : Bool) → Holds (block first) FormedBlock
unfolding block
block_fits first = holds-behind _ _ _ (kept-block_label first) (λ name. holds-then _ _ (Each FormedInstruction) _ kept-instructions instructions_fit (λ all h. holds-yield _ _ h))

abbrev BlocksFit : BlockList → Type 0
BlocksFit before = Each FormedBlock before.blocks

block_turns : (s : BlockList) → BlocksFit s → Holds (block_turn s) (λ x. BlocksFit x.1)
block_turns s h =
    holds-by_token (is_mark 125) (yield (false, s)) (block (nat_eq (length s.blocks) 0) >>= λ one. yield (true, record { blocks = s.blocks ++ one ∷ [] })) (λ x. BlocksFit x.1)
    (holds-yield (false, s) (λ x. BlocksFit x.1) h)
    (holds-then (block (nat_eq (length s.blocks) 0)) (λ one. yield (true, record { blocks = s.blocks ++ one ∷ [] })) FormedBlock (λ x. BlocksFit x.1) (kept-block (nat_eq (length s.blocks) 0)) (block_fits (nat_eq (length s.blocks) 0))
    (λ one fits. holds-yield (true, record { blocks = s.blocks ++ one ∷ [] }) (λ x. BlocksFit x.1) (each_last FormedBlock s.blocks one h fits)))

abbrev count_of : BlockList → ℕ
count_of before = length before.blocks

block_counts : (s : BlockList) → Holds (block_turn s) (λ x. count_of x.1 ≤ count_of s + 1)
block_counts s =
    holds-by_token (is_mark 125) (yield (false, s)) (block (nat_eq (length s.blocks) 0) >>= λ one. yield (true, record { blocks = s.blocks ++ one ∷ [] })) (λ x. count_of x.1 ≤ count_of s + 1)
    (holds-yield (false, s) (λ x. count_of x.1 ≤ count_of s + 1) (omega arith))
    (holds-behind (block (nat_eq (length s.blocks) 0)) (λ one. yield (true, record { blocks = s.blocks ++ one ∷ [] })) (λ x. count_of x.1 ≤ count_of s + 1) (kept-block (nat_eq (length s.blocks) 0))
    (λ one. holds-yield (true, record { blocks = s.blocks ++ one ∷ [] }) (λ x. count_of x.1 ≤ count_of s + 1) (let e = length_last s.blocks one in omega (arith, e))))

abbrev pub FormedBlocks : List Block → Type 0
FormedBlocks blocks = Each FormedBlock blocks × (length blocks ≤ 4194304)

block_list_fits : Holds block_list FormedBlocks
unfolding block_list
block_list_fits =
    holds-then _ _ (λ (s : BlockList). BlocksFit s × (count_of s ≤ 0 + most_turns)) _ (kept-repeat block_turn _ kept-block_turn)
    (holds-both _ BlocksFit (λ (s : BlockList). count_of s ≤ 0 + most_turns) (holds-repeat block_turn kept-block_turn BlocksFit _ block_turns tt) (counted-repeat block_turn kept-block_turn count_of _ block_counts))
    (λ s h. holds-yield s.blocks _ h)

body_fits : Holds body FormedBlocks
unfolding body
body_fits =
    holds-behind _ _ _ (kept-punctuation 123) (λ _. holds-then _ _ FormedBlocks _ kept-block_list block_list_fits (λ blocks h. holds-behind _ _ _ (kept-punctuation 125) (λ _. holds-yield _ _ h)))

-- ---- names

abbrev NameBytes : Name → Type 0
NameBytes name = Bytes name.bytes

global_bytes : (left : ℕ) (token : Token) (v : Name) → TokenBytes token → global_of left token ≡ Some v → NameBytes v
global_bytes left (global spelling name) v all e = let same : name ≡ v.bytes = cc in subst Bytes same all
global_bytes left (word name) v all e = absurd cc
global_bytes left (local spelling name) v all e = absurd cc
global_bytes left (label spelling name) v all e = absurd cc
global_bytes left (number negative digits) v all e = absurd cc
global_bytes left (string inner) v all e = absurd cc
global_bytes left (bytes inner) v all e = absurd cc
global_bytes left (mark byte) v all e = absurd cc
global_bytes left end v all e = absurd cc

name_fits : Holds global_name NameBytes
unfolding global_name
name_fits = holds-behind _ _ _ kept-place (λ left. holds-taken _ _ (global_bytes left))

-- ---- functions

abbrev pub FormedFunction : Function → Type 0
FormedFunction given = Bytes given.name.bytes × FormedBlocks given.blocks

function_fits : Holds function FormedFunction
unfolding function
function_fits =
    holds-behind _ _ _ (kept-keyword _) (λ _. holds-behind _ _ _ kept-words (λ _. holds-behind _ _ _ kept-type_form (λ ret. holds-then _ _ NameBytes _ kept-global_name name_fits (λ name named.
    holds-behind _ _ _ kept-parameters (λ given. holds-behind _ _ _ kept-function_attributes (λ _. holds-then _ _ FormedBlocks _ kept-body body_fits (λ blocks fits. holds-yield _ _ (named, fits))))))))

-- ---- globals

abbrev pub NodeBytes : InitNode → Type 0
NodeBytes (inits.Bytes inner left) = Bytes inner
NodeBytes node = Unit {0}

abbrev OpenFits : OpenInit → Type 0
OpenFits before = Each NodeBytes before.nodes

abbrev IsPlain : InitNode → Type 0
IsPlain (inits.Bytes inner left) = ⊥
IsPlain node = Unit {0}

plain_word : (left : ℕ) (name : List ℕ) (v : InitNode) → word_init left name ≡ Some v → NodeBytes v
plain_word left name v e =
    pick NodeBytes (bytes_eq name (codes "null")) (inits.Null left) _ v tt (λ e. pick NodeBytes (bytes_eq name (codes "zeroinitializer")) (inits.Zero left) _ v tt (λ e. pick NodeBytes (bytes_eq name (codes "true")) (inits.True left) _ v tt (λ e. pick NodeBytes (bytes_eq name (codes "false")) (inits.False left) _ v tt (λ e. absurd (none-some v e)) e) e) e) e

init_bytes : (left : ℕ) (token : Token) (v : InitNode) → TokenBytes token → token_init_of left token ≡ Some v → NodeBytes v
init_bytes left (word name) v all e = plain_word left name v e
init_bytes left (bytes inner) v all e = let same : inits.Bytes inner left ≡ v = cc in subst NodeBytes same all
init_bytes left (global spelling name) v all e = absurd cc
init_bytes left (local spelling name) v all e = absurd cc
init_bytes left (label spelling name) v all e = absurd cc
init_bytes left (number negative digits) v all e = absurd cc
init_bytes left (string inner) v all e = absurd cc
init_bytes left (mark byte) v all e = absurd cc
init_bytes left end v all e = absurd cc

token_fits : Holds token_init NodeBytes
unfolding token_init
token_fits = holds-behind _ _ _ kept-place (λ left. holds-taken _ _ (init_bytes left))

plain_fits : Holds plain_init NodeBytes
unfolding plain_init
plain_fits =
    holds-by_token is_number (numeral >>= λ given. yield (inits.Number given)) (by_token begins_address (address >>= λ place. yield (inits.Address place)) token_init) NodeBytes
    (holds-behind numeral (λ given. yield (inits.Number given)) NodeBytes kept-numeral (λ given. holds-yield (inits.Number given) NodeBytes tt))
    (holds-by_token begins_address (address >>= λ place. yield (inits.Address place)) token_init NodeBytes
    (holds-behind address (λ place. yield (inits.Address place)) NodeBytes kept-address (λ place. holds-yield (inits.Address place) NodeBytes tt)) token_fits)

two_last : (xs : List InitNode) (x y : InitNode) → Each NodeBytes xs → NodeBytes x → NodeBytes y → Each NodeBytes (xs ++ x ∷ y ∷ [])
two_last [] x y all p q = (p, (q, tt))
two_last (z ∷ zs) x y all p q = (all.0, two_last zs x y all.1 p q)

start_fits : (before : OpenInit) (array packed : Bool) (node : InitNode) → OpenFits before → NodeBytes node → Holds (list_start before array packed node) OpenFits
unfolding list_start
start_fits before array packed node h p =
    holds-by_token (is_mark (closing array))
    (do
      left ← place
      _ ← list_end array packed
      yield (whole (whole before node) (inits.Close left)))
    (do
      ty ← type_form
      yield (record { wanted = wanted_by array packed ∷ before.wanted; nodes = before.nodes ++ node ∷ inits.Of ty ∷ []; is_complete = false })) OpenFits
    (holds-behind _ _ _ kept-place (λ left. holds-behind _ _ _ (kept-list_end array packed) (λ _. holds-yield _ _ (each_last NodeBytes (before.nodes ++ node ∷ []) (inits.Close left) (each_last NodeBytes before.nodes node h p) tt))))
    (holds-behind _ _ _ kept-type_form (λ ty. holds-yield _ _ (two_last before.nodes node (inits.Of ty) h p tt)))

abbrev array_start : OpenInit → ℕ → Form OpenInit
array_start before left = punctuation 91 >>= λ _. list_start before true false (inits.Array left)

abbrev open_start : OpenInit → ℕ → Form OpenInit
open_start before left = punctuation 123 >>= λ _. list_start before false false (inits.Struct left)

abbrev packed_start : OpenInit → ℕ → Form OpenInit
packed_start before left = do
  _ ← punctuation 60
  _ ← punctuation 123
  list_start before false true (inits.Packed left)

abbrev one_node : OpenInit → Form OpenInit
one_node before = plain_init >>= λ node. yield (whole before node)

init_start_fits : (before : OpenInit) → OpenFits before → Holds (init_start before) OpenFits
unfolding init_start
init_start_fits before h =
    holds-behind _ _ _ kept-place (λ left.
    holds-by_token (is_mark 91) (array_start before left) (by_token (is_mark 123) (open_start before left) (by_token (is_mark 60) (packed_start before left) (one_node before))) OpenFits
    (holds-behind _ _ _ (kept-punctuation 91) (λ _. start_fits before true false (inits.Array left) h tt))
    (holds-by_token (is_mark 123) (open_start before left) (by_token (is_mark 60) (packed_start before left) (one_node before)) OpenFits
    (holds-behind _ _ _ (kept-punctuation 123) (λ _. start_fits before false false (inits.Struct left) h tt))
    (holds-by_token (is_mark 60) (packed_start before left) (one_node before) OpenFits
    (holds-behind _ _ _ (kept-punctuation 60) (λ _. holds-behind _ _ _ (kept-punctuation 123) (λ _. start_fits before false true (inits.Packed left) h tt)))
    (holds-then plain_init (λ node. yield (whole before node)) NodeBytes OpenFits kept-plain_init plain_fits (λ node p. holds-yield (whole before node) OpenFits (each_last NodeBytes before.nodes node h p))))))

init_end_fits : (before : OpenInit) → OpenFits before → Holds (init_end before) OpenFits
unfolding init_end
init_end_fits before h =
    holds-by_token (is_mark 44)
    (do
      _ ← punctuation 44
      ty ← type_form
      yield (record { wanted = before.wanted; nodes = before.nodes ++ inits.Of ty ∷ []; is_complete = false }))
    (do
      left ← place
      _ ← list_end (begins_with 93 before.wanted) (begins_with 62 before.wanted)
      yield (record { wanted = behind_one before.wanted; nodes = before.nodes ++ inits.Close left ∷ []; is_complete = true })) OpenFits
    (holds-behind _ _ _ (kept-punctuation 44) (λ _. holds-behind _ _ _ kept-type_form (λ ty. holds-yield _ _ (each_last NodeBytes before.nodes (inits.Of ty) h tt))))
    (holds-behind _ _ _ kept-place (λ left. holds-behind _ _ _ (kept-list_end _ _) (λ _. holds-yield _ _ (each_last NodeBytes before.nodes (inits.Close left) h tt))))

init_turns : (s : OpenInit) → OpenFits s → Holds (init_turn s) (λ x. OpenFits x.1)
init_turns s h =
    holds-by_flag s.is_complete (by_flag (nat_eq (length s.wanted) 0) (yield (false, s)) (init_end s >>= λ next. yield (true, next))) (init_start s >>= λ next. yield (true, next)) (λ x. OpenFits x.1)
    (holds-by_flag (nat_eq (length s.wanted) 0) (yield (false, s)) (init_end s >>= λ next. yield (true, next)) (λ x. OpenFits x.1)
    (holds-yield (false, s) (λ x. OpenFits x.1) h)
    (holds-then (init_end s) (λ next. yield (true, next)) OpenFits (λ x. OpenFits x.1) (kept-init_end s) (init_end_fits s h) (λ next fits. holds-yield (true, next) (λ x. OpenFits x.1) fits)))
    (holds-then (init_start s) (λ next. yield (true, next)) OpenFits (λ x. OpenFits x.1) (kept-init_start s) (init_start_fits s h) (λ next fits. holds-yield (true, next) (λ x. OpenFits x.1) fits))

init_fits : Holds init_form (Each NodeBytes)
unfolding init_form
init_fits = holds-then _ _ OpenFits _ (kept-repeat init_turn _ kept-init_turn) (holds-repeat init_turn kept-init_turn OpenFits _ init_turns tt) (λ s h. holds-yield s.nodes _ h)

abbrev pub FormedGlobal : Global → Type 0
FormedGlobal given = Bytes given.name.bytes × Each NodeBytes given.init

global_fits : Holds global_form FormedGlobal
unfolding global_form
global_fits =
    holds-then _ _ NameBytes _ kept-global_name name_fits (λ name named. holds-behind _ _ _ (kept-punctuation 61) (λ _. holds-behind _ _ _ kept-words (λ _. holds-behind _ _ _ kept-global_word (λ _.
    holds-behind _ _ _ kept-type_form (λ ty. holds-then _ _ (Each NodeBytes) _ kept-init_form init_fits (λ init fits. holds-behind _ _ _ kept-suffixes (λ aligns. holds-yield _ _ (named, fits))))))))

-- ---- modules

abbrev pub FormedTree : Tree → Type 0
FormedTree tree = Each FormedFunction tree.functions × Each FormedGlobal tree.globals

abbrev TurnFits : Bool × Tree → Type 0
TurnFits x = FormedTree x.1

abbrev item_function : Tree → Form (Bool × Tree)
item_function s = function >>= λ one. yield (true, record s { functions = s.functions ++ one ∷ [] })

abbrev item_global : Tree → Form (Bool × Tree)
item_global s = global_form >>= λ one. yield (true, record s { globals = s.globals ++ one ∷ [] })

abbrev item_type : Tree → Form (Bool × Tree)
item_type s = named_type >>= λ one. yield (true, record s { types = s.types ++ one ∷ [] })

abbrev item_dropped : Tree → Form (Bool × Tree)
item_dropped s = do
  _ ← passed is_dropped_item
  _ ← rest_of_line
  yield (true, s)

abbrev item_target : Tree → Form (Bool × Tree)
item_target s = target >>= λ _. yield (true, s)

abbrev item_source : Tree → Form (Bool × Tree)
item_source s = source_filename >>= λ _. yield (true, s)

abbrev item_last : Tree → Form (Bool × Tree)
item_last s = by_token (is_word (codes "target")) (item_target s) (item_source s)

abbrev item_other : Tree → Form (Bool × Tree)
item_other s = by_token is_dropped_item (item_dropped s) (item_last s)

abbrev item_named : Tree → Form (Bool × Tree)
item_named s = by_token is_local (item_type s) (item_other s)

abbrev item_defined : Tree → Form (Bool × Tree)
item_defined s = by_token is_global (item_global s) (item_named s)

abbrev item_begun : Tree → Form (Bool × Tree)
item_begun s = by_token (is_word (codes "define")) (item_function s) (item_defined s)

module _ (s : Tree) (h : FormedTree s) where
  function_item : Holds (item_function s) TurnFits
  function_item = holds-then function (λ one. yield (true, record s { functions = s.functions ++ one ∷ [] })) FormedFunction TurnFits kept-function function_fits (λ one fits. holds-yield (true, record s { functions = s.functions ++ one ∷ [] }) TurnFits (each_last FormedFunction s.functions one h.0 fits, h.1))

  global_item : Holds (item_global s) TurnFits
  global_item = holds-then global_form (λ one. yield (true, record s { globals = s.globals ++ one ∷ [] })) FormedGlobal TurnFits kept-global_form global_fits (λ one fits. holds-yield (true, record s { globals = s.globals ++ one ∷ [] }) TurnFits (h.0, each_last FormedGlobal s.globals one h.1 fits))

  type_item : Holds (item_type s) TurnFits
  type_item = holds-behind named_type (λ one. yield (true, record s { types = s.types ++ one ∷ [] })) TurnFits kept-named_type (λ one. holds-yield (true, record s { types = s.types ++ one ∷ [] }) TurnFits h)

  dropped_item : Holds (item_dropped s) TurnFits
  dropped_item = holds-behind (passed is_dropped_item) (λ _. rest_of_line >>= λ _. yield (true, s)) TurnFits (kept-passed is_dropped_item) (λ _. holds-behind rest_of_line (λ _. yield (true, s)) TurnFits kept-rest_of_line (λ _. holds-yield (true, s) TurnFits h))

  target_item : Holds (item_target s) TurnFits
  target_item = holds-behind target (λ _. yield (true, s)) TurnFits kept-target (λ _. holds-yield (true, s) TurnFits h)

  source_item : Holds (item_source s) TurnFits
  source_item = holds-behind source_filename (λ _. yield (true, s)) TurnFits kept-source_filename (λ _. holds-yield (true, s) TurnFits h)

  last_item : Holds (item_last s) TurnFits
  last_item = holds-by_token (is_word (codes "target")) (item_target s) (item_source s) TurnFits target_item source_item

  other_item : Holds (item_other s) TurnFits
  other_item = holds-by_token is_dropped_item (item_dropped s) (item_last s) TurnFits dropped_item last_item

  named_item : Holds (item_named s) TurnFits
  named_item = holds-by_token is_local (item_type s) (item_other s) TurnFits type_item other_item

  defined_item : Holds (item_defined s) TurnFits
  defined_item = holds-by_token is_global (item_global s) (item_named s) TurnFits global_item named_item

  begun_item : Holds (item_begun s) TurnFits
  begun_item = holds-by_token (is_word (codes "define")) (item_function s) (item_defined s) TurnFits function_item defined_item

  item_fits : Holds (item_turn s) TurnFits
  item_fits = holds-by_token is_end (yield (false, s)) (item_begun s) TurnFits (holds-yield (false, s) TurnFits h) begun_item

module_fits : Holds module_form FormedTree
unfolding module_form
module_fits = holds-then _ _ FormedTree _ (kept-repeat item_turn _ kept-item_turn) (holds-repeat item_turn kept-item_turn FormedTree _ item_fits (tt, tt)) (λ tree h. holds-behind _ _ _ kept-ending (λ _. holds-yield tree _ h))

-- each tree of a text of bytes
pub tree_formed : (text : List ℕ) (tree : Tree) → Bytes text → IsTextOf text tree → FormedTree tree
unfolding IsTextOf
tree_formed text tree all is = module_fits.value text tree is.0 all is.1
