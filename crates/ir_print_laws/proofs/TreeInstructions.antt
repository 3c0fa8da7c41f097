-- What the grammar says of each instruction in a text of bytes.
use Rattle.std.proofs.Common.{◌≡◌, ℕ, suc, ◌+◌, ◌≤◌, Bool, true, false, List, [], ◌∷◌, ◌++◌, length, Option, Some, None, refl, sym, ◌∙◌, ap, subst, arith}
use Rattle.std.specs.Prelude.{◌&&◌, not, nat_eq, MatchBool, codes, if◌then◌else◌}
use Rattle.std.specs.List.{list_all}
use Rattle.std.specs.Str.{bytes_eq}
use Rattle.std.specs.Char.{is_ascii_digit}
use Rattle.ir_text.specs.declared.name.Name.{Name}
use Rattle.ir_text.specs.Token.{Token, word, local, global, label, number, string, bytes, mark, end, token_at, behind_one}
use Rattle.ir_text.specs.Form.{Form, ◌>>=◌, yield, taken, turns, most_turns, repeat, by_flag, by_token, rest_of_line}
use Rattle.ir_text.specs.Words.{is_mark, is_word, punctuation, local_name, global_name}
use Rattle.ir_core.specs.declared.code.Flags.{Flags}
use Rattle.ir_core.specs.declared.code.BinOp.{BinOp}
use Rattle.ir_core.specs.declared.code.CastOp.{CastOp}
use Rattle.ir_grammar.specs.declared.type_tree.TypeNode.{TypeNode}
use Rattle.ir_grammar.specs.declared.type_tree.TypeNode.TheVariants as nodes
use Rattle.ir_grammar.specs.declared.operators.FlagList.{FlagList}
use Rattle.ir_grammar.specs.declared.types.OpenType.{OpenType}
use Rattle.ir_grammar.specs.Operators.{is_binary, is_cast, no_flags, samesign_flag, with_flag, flag_of, flag_turn, flags_of, binary_name, binary_of, cast_name, cast_of, predicate_of}
use Rattle.ir_grammar.specs.Words.{is_int_name}
use Rattle.ir_grammar.specs.Types.{scalar_of, scalar, is_int, completed, more, type_start, type_turn, type_form}
use Rattle.ir_value_trees.specs.declared.value_tree.Typed.{Typed}
use Rattle.ir_value_trees.specs.declared.value_tree.InitNode.{InitNode}
use Rattle.ir_value_trees.specs.declared.value_tree.InitNode.TheVariants as inits
use Rattle.ir_value_trees.specs.declared.values.OpenInit.{OpenInit}
use Rattle.ir_value_trees.specs.Values.{is_local, typed, token_init_of, word_init, token_init, plain_init, whole, list_start, init_start, init_end, init_turn, init_form}
use Rattle.ir_instruction_trees.specs.declared.tree.Incoming.{Incoming}
use Rattle.ir_instruction_trees.specs.declared.tree.Operation.{Operation}
use Rattle.ir_instruction_trees.specs.declared.tree.Operation.TheVariants as operations
use Rattle.ir_instruction_trees.specs.declared.tree.Instruction.{Instruction}
use Rattle.ir_tree.specs.declared.tree.Block.{Block}
use Rattle.ir_tree.specs.declared.tree.Function.{Function}
use Rattle.ir_tree.specs.declared.tree.Global.{Global}
use Rattle.ir_tree.specs.declared.tree.Tree.{Tree}
use Rattle.ir_instruction_trees.specs.declared.instructions.IncomingList.{IncomingList}
use Rattle.ir_instruction_trees.specs.declared.instructions.OffsetList.{OffsetList}
use Rattle.ir_tree.specs.declared.modules.InstructionList.{InstructionList}
use Rattle.ir_tree.specs.declared.modules.BlockList.{BlockList}
use Rattle.ir_instruction_trees.specs.Instructions.{binary, comparison, cast, selection, freezing, incoming, incoming_turn, more_incoming, choice, allocation, loading, storing, is_comma_before, offset_turn, offsets, addressing, call_rest, call, is_dropped_name, begins_call, label_of_block, valued, returning, branch, switching, unreachable, effect, finished, assignment, instruction}
use Rattle.ir_tree.specs.Modules.{with_instruction, instruction_turn, instructions, block, block_turn, block_list, body, function, global_form, item_turn, module_form, IsTextOf}
use Rattle.ir_print_laws.specs.Operators.{allowed_of, allowed_of_cast, masked}
use Rattle.ir_print_laws.specs.Written.{Each}
use Rattle.ir_print_laws.proofs.ReadTokens.{Bytes, TokenBytes}
use Rattle.ir_print_laws.proofs.Kept.{IsKept, kept-then, kept-yield, kept-place, kept-taken, kept-repeat, kept-rest_of_line, Holds, holds-then, holds-behind, holds-yield, holds-taken, holds-by_token, holds-by_two, holds-by_flag, holds-repeat, counted-repeat}
use Rattle.ir_print_laws.proofs.KeptWords.{kept-punctuation, kept-keyword, kept-passed, kept-global_name, kept-local_name, kept-numeral, kept-ending, kept-flag_turn, kept-flags_of, kept-type_form, kept-struct_end, kept-words, kept-attributes, kept-suffixes}
use Rattle.ir_print_laws.proofs.KeptValues.{kept-address, kept-operand, kept-typed, kept-list_end, kept-list_start, kept-plain_init, kept-init_start, kept-init_end, kept-init_turn, kept-init_form}
use Rattle.ir_print_laws.proofs.KeptInstructions.{kept-incoming, kept-incoming_turn, kept-more_incoming, kept-count, kept-offset_turn, kept-offsets, kept-arguments, kept-call_start, kept-label_of_block, kept-cases, kept-valued, kept-effect, kept-finished, kept-instruction}
use Rattle.ir_print_laws.proofs.KeptModules.{kept-debug_record, kept-instruction_turn, kept-instructions, kept-block_label, kept-block, kept-block_turn, kept-block_list, kept-body, kept-parameters, kept-function_attributes, kept-function, kept-global_word, kept-global_form, kept-named_type, kept-source_filename, kept-target, kept-item_turn}
use Rattle.ir_print_laws.proofs.TreeWords.{each_last, length_last, holds-any, holds-both, first_true, HasFlags, HasCastFlags, binary_token, cast_token, flags_fit}

-- ---- indices

-- a type that is written as an integer
abbrev pub IsIntTyped : Typed → Type 0
IsIntTyped given = (digits : List ℕ) × (left : ℕ) × (given.ty ≡ nodes.Int digits left ∷ [])

-- a name of an integer type is no other type's
int_other : (name : List ℕ) → is_int_name name ≡ true → (bytes_eq name (codes "ptr") ≡ false) × (bytes_eq name (codes "void") ≡ false)
int_other [] e = absurd cc
int_other (letter ∷ []) e = absurd cc
int_other (letter ∷ digit ∷ digits) e =
    let i : letter ≡ 105 = (let f = first_true (nat_eq letter 105) (list_all is_ascii_digit (digit ∷ digits)) e in grind (arith, f)) in rw i (refl, refl)

int_scalar : (left : ℕ) (name : List ℕ) (node : TypeNode) → is_int_name name ≡ true → scalar_of left (word name) ≡ Some node → node ≡ nodes.Int (behind_one name) left
int_scalar left name node e is = let other = int_other name e in let h = rw (other.0, other.1, e) at is in cc

-- the turns of a type that begins with an integer's name
abbrev start : OpenType
start = record { wanted = []; nodes = []; is_complete = false }

match_false : (b : Bool) (p q : Type 0) → b ≡ false → MatchBool b p q → q
match_false true p q e w = absurd cc
match_false false p q e w = w

match_true : (b : Bool) (p q : Type 0) → b ≡ true → MatchBool b p q → p
match_true true p q e w = w
match_true false p q e w = absurd cc

int_token : (token : Token) → is_int token ≡ true → (name : List ℕ) × (token ≡ word name) × (is_int_name name ≡ true)
int_token (word name) e = (name, refl, e)
int_token (local spelling name) e = absurd cc
int_token (global spelling name) e = absurd cc
int_token (label spelling name) e = absurd cc
int_token (number negative digits) e = absurd cc
int_token (string inner) e = absurd cc
int_token (bytes inner) e = absurd cc
int_token (mark byte) e = absurd cc
int_token end e = absurd cc

no_mark : (byte : ℕ) (token : Token) (name : List ℕ) → token ≡ word name → is_mark byte token ≡ false
no_mark byte token name e = ap (is_mark byte) e

int_start : (text : List ℕ) (next : OpenType) (rest : List ℕ) → is_int (token_at text).0 ≡ true → (type_start start).Is text next rest → (digits : List ℕ) × (left : ℕ) × (next ≡ completed start (nodes.Int digits left))
unfolding type_start scalar
int_start text next rest e w =
    let t = int_token (token_at text).0 e in
    let here = subst (λ (x : List ℕ). (token_at x).0 ≡ word t.0) (sym w.2.1) t.1 in
    let a = match_false _ _ _ (no_mark 91 _ t.0 here) w.3 in
    let b = match_false _ _ _ (no_mark 123 _ t.0 here) a in
    let c = match_false _ _ _ (no_mark 60 _ t.0 here) b in
    let there = subst (λ (x : List ℕ). (token_at x).0 ≡ word t.0) (sym c.2.2.1) here in
    let node = int_scalar c.2.0 t.0 c.0 t.2 (subst (λ (x : Token). scalar_of c.2.0 x ≡ Some c.0) there c.2.3.0) in
    (behind_one t.0, c.2.0, c.3.0 ∙ ap (completed start) node)

-- one turn, and what comes behind it
turn_of : {S : Type 0} (turn : S → Form (Bool × S)) (steps : ℕ) (s : S) (text : List ℕ) (v : S) (rest : List ℕ) → (turns turn (suc steps) s).Is text v rest
    → (turned : Bool × S) × (mid : List ℕ) × (turn s).Is text turned mid × MatchBool turned.0 ((turns turn steps turned.1).Is mid v rest) ((v ≡ turned.1) × (rest ≡ mid))
unfolding turns
turn_of turn steps s text v rest w = w

int_turns : (steps : ℕ) (text : List ℕ) (v : OpenType) (rest : List ℕ) → is_int (token_at text).0 ≡ true → (turns type_turn (suc (suc steps)) start).Is text v rest → (digits : List ℕ) × (left : ℕ) × (v.nodes ≡ nodes.Int digits left ∷ [])
int_turns steps text v rest e w =
    let a = turn_of type_turn (suc steps) start text v rest w in
    let s = int_start text a.2.0 a.2.1 e a.2.2 in
    let after = completed start (nodes.Int s.0 s.1) in
    let turned : a.0 ≡ more after = a.2.3.0 ∙ ap more s.2 in
    let again = match_true a.0.0 _ _ (ap (λ (x : Bool × OpenType). x.0) turned) a.3 in
    let b = turn_of type_turn steps a.0.1 a.1 v rest again in
    let ends : b.0 ≡ (false, after) = (let h = subst (λ (x : OpenType). (type_turn x).Is a.1 b.0 b.1) (ap (λ (x : Bool × OpenType). x.1) turned) b.2 in h.0) in
    let last = match_false b.0.0 _ _ (ap (λ (x : Bool × OpenType). x.0) ends) b.3 in
    (s.0, s.1, ap (λ (x : OpenType). x.nodes) (last.0 ∙ ap (λ (x : Bool × OpenType). x.1) ends))

int_form : (text : List ℕ) (v : List TypeNode) (rest : List ℕ) → is_int (token_at text).0 ≡ true → type_form.Is text v rest → (digits : List ℕ) × (left : ℕ) × (v ≡ nodes.Int digits left ∷ [])
unfolding type_form
int_form text v rest e w = let h = int_turns 4194302 text w.0 w.1 e w.2 in (h.0, h.1, w.3.0 ∙ h.2)

int_typed : (text : List ℕ) (v : Typed) (rest : List ℕ) → is_int (token_at text).0 ≡ true → typed.Is text v rest → IsIntTyped v
unfolding typed
int_typed text v rest e w = let h = int_form text w.0 w.1 e w.2 in (h.0, h.1, ap (λ (x : Typed). x.ty) w.3.3.0 ∙ h.2)

behind_comma : (text rest : List ℕ) (v : Unit {0}) → (punctuation 44).Is text v rest → rest ≡ (token_at text).1
unfolding punctuation
behind_comma text rest v w = w.1

last_true : (a b : Bool) → (a && b) ≡ true → b ≡ true
last_true true b e = e
last_true false b e = absurd cc

abbrev OffsetsFit : OffsetList → Type 0
OffsetsFit before = Each IsIntTyped before.offsets

offset_fits : (s : OffsetList) → OffsetsFit s → Holds (offset_turn s) (λ x. OffsetsFit x.1)
offset_fits s h = record { value = λ text v rest all w. by text v rest _ refl w }
  where
    by : (text : List ℕ) (v : Bool × OffsetList) (rest : List ℕ) (b : Bool) → is_comma_before is_int (token_at text).0 (token_at (token_at text).1).0 ≡ b
        → MatchBool b ((punctuation 44 >>= λ _. typed >>= λ one. yield (true, record { offsets = s.offsets ++ one ∷ [] })).Is text v rest) ((yield (false, s)).Is text v rest) → OffsetsFit v.1
    by text v rest true e w =
        let int : is_int (token_at w.1).0 ≡ true = (let same = behind_comma text w.1 w.0 w.2 in rw same (last_true _ _ e)) in
        let one = int_typed w.1 w.3.0 w.3.1 int w.3.2 in
        subst (λ (x : Bool × OffsetList). OffsetsFit x.1) (sym w.3.3.0) (each_last IsIntTyped s.offsets w.3.0 h one)
    by text v rest false e w = subst (λ (x : Bool × OffsetList). OffsetsFit x.1) (sym w.0) h

offsets_fit : Holds offsets (Each IsIntTyped)
unfolding offsets
offsets_fit = holds-then _ _ OffsetsFit _ (kept-repeat offset_turn _ kept-offset_turn) (holds-repeat offset_turn kept-offset_turn OffsetsFit _ offset_fits tt) (λ s h. holds-yield s.offsets _ h)

-- ---- what comes into a `phi`

abbrev pub HasItem : {X : Type 0} → List X → Type 0
HasItem [] = ⊥
HasItem (x ∷ xs) = Unit {0}

has_last : {X : Type 0} (xs : List X) (x : X) → HasItem (xs ++ x ∷ [])
has_last [] x = tt
has_last (y ∷ ys) x = tt

abbrev IncomingFits : IncomingList → Type 0
IncomingFits before = HasItem before.incoming

incoming_fits : (s : IncomingList) → IncomingFits s → Holds (incoming_turn s) (λ x. IncomingFits x.1)
incoming_fits s h =
    holds-by_two (is_comma_before (is_mark 91)) (punctuation 44 >>= λ _. incoming >>= λ one. yield (true, record { incoming = s.incoming ++ one ∷ [] })) (yield (false, s)) (λ x. IncomingFits x.1)
    (holds-behind (punctuation 44) (λ _. incoming >>= λ one. yield (true, record { incoming = s.incoming ++ one ∷ [] })) (λ x. IncomingFits x.1) (kept-punctuation 44) (λ _.
    holds-behind incoming (λ one. yield (true, record { incoming = s.incoming ++ one ∷ [] })) (λ x. IncomingFits x.1) kept-incoming (λ one. holds-yield (true, record { incoming = s.incoming ++ one ∷ [] }) (λ x. IncomingFits x.1) (has_last s.incoming one))))
    (holds-yield (false, s) (λ x. IncomingFits x.1) h)

more_fits : (first : Incoming) → Holds (more_incoming first) HasItem
unfolding more_incoming
more_fits first = holds-then _ _ IncomingFits _ (kept-repeat incoming_turn _ kept-incoming_turn) (holds-repeat incoming_turn kept-incoming_turn IncomingFits _ incoming_fits tt) (λ s h. holds-yield s.incoming _ h)

-- ---- operations

-- flags are those of the operator, something comes into a `phi`, and indices are integers
abbrev pub Formed : Operation → Type 0
Formed (operations.Binary op flags left right) = masked (allowed_of op) flags ≡ flags
Formed (operations.Icmp flags predicate left right) = masked samesign_flag flags ≡ flags
Formed (operations.Cast op flags given target) = masked (allowed_of_cast op) flags ≡ flags
Formed (operations.Phi given incoming) = HasItem incoming
Formed (operations.Gep given base offsets) = Each IsIntTyped offsets
Formed operation = Unit {0}

abbrev pub HasName : Option Name → Type 0
HasName None = ⊥
HasName (Some name) = Unit {0}

-- an operation that has a result is written with its name, but for a call
abbrev pub IsNamed : Operation → Option Name → Type 0
IsNamed (operations.Store given into) result = Unit {0}
IsNamed (operations.Call given is_local callee arguments) result = Unit {0}
IsNamed (operations.Ret given answer) result = Unit {0}
IsNamed (operations.Br name) result = Unit {0}
IsNamed (operations.CondBr condition left right) result = Unit {0}
IsNamed (operations.Switch given otherwise cases) result = Unit {0}
IsNamed operations.Unreachable result = Unit {0}
IsNamed operation result = HasName result

-- an operation without a result
abbrev IsEffect : Operation → Type 0
IsEffect (operations.Store given into) = Unit {0}
IsEffect (operations.Ret given answer) = Unit {0}
IsEffect (operations.Br name) = Unit {0}
IsEffect (operations.CondBr condition left right) = Unit {0}
IsEffect (operations.Switch given otherwise cases) = Unit {0}
IsEffect operations.Unreachable = Unit {0}
IsEffect operation = ⊥

abbrev pub FormedInstruction : Instruction → Type 0
FormedInstruction given = Formed given.operation × IsNamed given.operation given.result

abbrev pub MayForm : Option Instruction → Type 0
MayForm None = Unit {0}
MayForm (Some given) = FormedInstruction given

binary_fits : Holds binary Formed
unfolding binary
binary_fits =
    holds-then (taken binary_of) _ HasFlags _ (kept-taken binary_of) (holds-taken binary_of HasFlags binary_token) (λ operator has.
    holds-then _ _ (λ flags. masked operator.1 flags ≡ flags) _ (kept-flags_of operator.1) (flags_fit operator.1) (λ flags fits.
    holds-behind _ _ _ kept-typed (λ left. holds-behind _ _ _ (kept-punctuation 44) (λ _. holds-behind _ _ _ kept-operand (λ right.
    holds-yield _ _ (subst (λ (a : Flags). masked a flags ≡ flags) has fits))))))

comparison_fits : Holds comparison Formed
unfolding comparison
comparison_fits =
    holds-behind _ _ _ (kept-keyword _) (λ _. holds-then _ _ (λ flags. masked samesign_flag flags ≡ flags) _ (kept-flags_of samesign_flag) (flags_fit samesign_flag) (λ flags fits.
    holds-behind _ _ _ (kept-taken predicate_of) (λ predicate. holds-behind _ _ _ kept-typed (λ left. holds-behind _ _ _ (kept-punctuation 44) (λ _. holds-behind _ _ _ kept-operand (λ right. holds-yield _ _ fits))))))

cast_fits : Holds cast Formed
unfolding cast
cast_fits =
    holds-then (taken cast_of) _ HasCastFlags _ (kept-taken cast_of) (holds-taken cast_of HasCastFlags cast_token) (λ operator has.
    holds-then _ _ (λ flags. masked operator.1 flags ≡ flags) _ (kept-flags_of operator.1) (flags_fit operator.1) (λ flags fits.
    holds-behind _ _ _ kept-typed (λ given. holds-behind _ _ _ (kept-keyword _) (λ _. holds-behind _ _ _ kept-type_form (λ target.
    holds-yield _ _ (subst (λ (a : Flags). masked a flags ≡ flags) has fits))))))

select_fits : Holds selection Formed
unfolding selection
select_fits =
    holds-behind _ _ _ (kept-keyword _) (λ _. holds-behind _ _ _ kept-typed (λ condition. holds-behind _ _ _ (kept-punctuation 44) (λ _.
    holds-behind _ _ _ kept-typed (λ left. holds-behind _ _ _ (kept-punctuation 44) (λ _. holds-behind _ _ _ kept-typed (λ right. holds-yield _ _ tt))))))

freeze_fits : Holds freezing Formed
unfolding freezing
freeze_fits = holds-behind _ _ _ (kept-keyword _) (λ _. holds-behind _ _ _ kept-typed (λ given. holds-yield _ _ tt))

phi_fits : Holds choice Formed
unfolding choice
phi_fits =
    holds-behind _ _ _ (kept-keyword _) (λ _. holds-behind _ _ _ kept-type_form (λ ty. holds-behind _ _ _ kept-incoming (λ first.
    holds-then _ _ HasItem _ (kept-more_incoming first) (more_fits first) (λ given fits. holds-yield _ _ fits))))

alloca_fits : Holds allocation Formed
unfolding allocation
alloca_fits = holds-behind _ _ _ kept-place (λ left. holds-behind _ _ _ (kept-keyword _) (λ _. holds-behind _ _ _ kept-type_form (λ ty. holds-behind _ _ _ kept-count (λ count. holds-yield _ _ tt))))

load_fits : Holds loading Formed
unfolding loading
load_fits = holds-behind _ _ _ (kept-keyword _) (λ _. holds-behind _ _ _ kept-type_form (λ ty. holds-behind _ _ _ (kept-punctuation 44) (λ _. holds-behind _ _ _ kept-typed (λ from. holds-yield _ _ tt))))

gep_fits : Holds addressing Formed
unfolding addressing
gep_fits =
    holds-behind _ _ _ (kept-keyword _) (λ _. holds-behind _ _ _ kept-words (λ _. holds-behind _ _ _ kept-type_form (λ ty. holds-behind _ _ _ (kept-punctuation 44) (λ _.
    holds-behind _ _ _ kept-typed (λ base. holds-then _ _ (Each IsIntTyped) _ kept-offsets offsets_fit (λ given fits. holds-yield _ _ fits))))))

valued_fits : Holds valued Formed
unfolding valued
valued_fits =
    holds-by_token is_binary _ _ Formed binary_fits (holds-by_token is_cast _ _ Formed cast_fits (holds-by_token (is_word (codes "icmp")) _ _ Formed comparison_fits
    (holds-by_token (is_word (codes "select")) _ _ Formed select_fits (holds-by_token (is_word (codes "freeze")) _ _ Formed freeze_fits (holds-by_token (is_word (codes "phi")) _ _ Formed phi_fits
    (holds-by_token (is_word (codes "alloca")) _ _ Formed alloca_fits (holds-by_token (is_word (codes "load")) _ _ Formed load_fits gep_fits)))))))

store_effect : Holds storing IsEffect
unfolding storing
store_effect = holds-behind _ _ _ (kept-keyword _) (λ _. holds-behind _ _ _ kept-typed (λ given. holds-behind _ _ _ (kept-punctuation 44) (λ _. holds-behind _ _ _ kept-typed (λ into. holds-yield _ _ tt))))

ret_effect : Holds returning IsEffect
unfolding returning
ret_effect =
    holds-behind _ _ _ (kept-keyword _) (λ _. holds-by_token (is_word (codes "void")) _ _ IsEffect
    (holds-behind _ (λ ty. yield (operations.Ret ty None)) IsEffect kept-type_form (λ ty. holds-yield (operations.Ret ty None) IsEffect tt))
    (holds-behind _ (λ answer. yield (operations.Ret answer.ty (Some answer.value))) IsEffect kept-typed (λ answer. holds-yield (operations.Ret answer.ty (Some answer.value)) IsEffect tt)))

abbrev one_way : Form Operation
one_way = label_of_block >>= λ block. yield (operations.Br block)

abbrev two_ways : Form Operation
two_ways = do
  condition ← typed
  _ ← punctuation 44
  left ← label_of_block
  _ ← punctuation 44
  right ← label_of_block
  yield (operations.CondBr condition left right)

one_effect : Holds one_way IsEffect
one_effect = holds-behind _ _ _ kept-label_of_block (λ block. holds-yield _ _ tt)

two_effect : Holds two_ways IsEffect
two_effect =
    holds-behind _ _ _ kept-typed (λ condition. holds-behind _ _ _ (kept-punctuation 44) (λ _. holds-behind _ _ _ kept-label_of_block (λ left.
    holds-behind _ _ _ (kept-punctuation 44) (λ _. holds-behind _ _ _ kept-label_of_block (λ right. holds-yield _ _ tt)))))

branch_effect : Holds branch IsEffect
unfolding branch
branch_effect = holds-behind _ _ _ (kept-keyword _) (λ _. holds-by_token (is_word (codes "label")) one_way two_ways IsEffect one_effect two_effect)

switch_effect : Holds switching IsEffect
unfolding switching
switch_effect =
    holds-behind _ _ _ (kept-keyword _) (λ _. holds-behind _ _ _ kept-typed (λ given. holds-behind _ _ _ (kept-punctuation 44) (λ _. holds-behind _ _ _ kept-label_of_block (λ block.
    holds-behind _ _ _ (kept-punctuation 91) (λ _. holds-behind _ _ _ kept-cases (λ cases. holds-behind _ _ _ (kept-punctuation 93) (λ _. holds-yield _ _ tt)))))))

end_effect : Holds unreachable IsEffect
unfolding unreachable
end_effect = holds-behind _ _ _ (kept-keyword _) (λ _. holds-yield _ _ tt)

effect_fits : Holds effect IsEffect
unfolding effect
effect_fits =
    holds-by_token (is_word (codes "store")) _ _ IsEffect store_effect (holds-by_token (is_word (codes "ret")) _ _ IsEffect ret_effect (holds-by_token (is_word (codes "br")) _ _ IsEffect branch_effect
    (holds-by_token (is_word (codes "switch")) _ _ IsEffect switch_effect end_effect)))

-- ---- instructions

some_named : (operation : Operation) (name : Name) → IsNamed operation (Some name)
some_named (operations.Binary op flags left right) name = tt
some_named (operations.Icmp flags predicate left right) name = tt
some_named (operations.Cast op flags given target) name = tt
some_named (operations.Select condition left right) name = tt
some_named (operations.Freeze given) name = tt
some_named (operations.Phi given incoming) name = tt
some_named (operations.Alloca left given count) name = tt
some_named (operations.Load given from) name = tt
some_named (operations.Store given into) name = tt
some_named (operations.Gep given base all) name = tt
some_named (operations.Call given is_local callee arguments) name = tt
some_named (operations.Ret given answer) name = tt
some_named (operations.Br block) name = tt
some_named (operations.CondBr condition left right) name = tt
some_named (operations.Switch given otherwise cases) name = tt
some_named operations.Unreachable name = tt

effect_named : (operation : Operation) (result : Option Name) → IsEffect operation → Formed operation × IsNamed operation result
effect_named (operations.Binary op flags left right) result is = absurd is
effect_named (operations.Icmp flags predicate left right) result is = absurd is
effect_named (operations.Cast op flags given target) result is = absurd is
effect_named (operations.Select condition left right) result is = absurd is
effect_named (operations.Freeze given) result is = absurd is
effect_named (operations.Phi given incoming) result is = absurd is
effect_named (operations.Alloca left given count) result is = absurd is
effect_named (operations.Load given from) result is = absurd is
effect_named (operations.Store given into) result is = (tt, tt)
effect_named (operations.Gep given base all) result is = absurd is
effect_named (operations.Call given is_local callee arguments) result is = absurd is
effect_named (operations.Ret given answer) result is = (tt, tt)
effect_named (operations.Br block) result is = (tt, tt)
effect_named (operations.CondBr condition left right) result is = (tt, tt)
effect_named (operations.Switch given otherwise cases) result is = (tt, tt)
effect_named operations.Unreachable result is = (tt, tt)

finished_fits : (left : ℕ) (result : Option Name) (operation : Operation) → Formed operation → IsNamed operation result → Holds (finished left result operation) MayForm
unfolding finished
finished_fits left result operation formed named = holds-behind _ _ _ kept-suffixes (λ aligns. holds-yield _ _ (formed, named))

rest_fits : (left : ℕ) (result : Option Name) (ty : List TypeNode) (indirect : Bool) (callee : Name) → Holds (call_rest left result ty indirect callee) MayForm
unfolding call_rest
rest_fits left result ty indirect callee = holds-behind _ _ _ kept-arguments (λ given. holds-behind _ _ _ kept-attributes (λ _. holds-behind _ _ _ kept-suffixes (λ aligns. holds-yield _ _ (tt, tt))))

abbrev far_call : ℕ → Option Name → List TypeNode → Form (Option Instruction)
far_call left result ty = local_name >>= λ callee. call_rest left result ty true callee

abbrev near_call : ℕ → Option Name → List TypeNode → Form (Option Instruction)
near_call left result ty = do
  callee ← global_name
  by_flag (is_dropped_name callee.bytes)
      (do
        _ ← rest_of_line
        yield None)
      (call_rest left result ty false callee)

far_fits : (left : ℕ) (result : Option Name) (ty : List TypeNode) → Holds (far_call left result ty) MayForm
far_fits left result ty = holds-behind _ _ _ kept-local_name (λ callee. rest_fits left result ty true callee)

dropped_fits : Holds (rest_of_line >>= λ _. yield {A = Option Instruction} None) MayForm
dropped_fits = holds-behind _ _ _ kept-rest_of_line (λ _. holds-yield None MayForm tt)

near_fits : (left : ℕ) (result : Option Name) (ty : List TypeNode) → Holds (near_call left result ty) MayForm
near_fits left result ty = holds-behind _ _ _ kept-global_name (λ callee. holds-by_flag (is_dropped_name callee.bytes) _ _ MayForm dropped_fits (rest_fits left result ty false callee))

call_fits : (left : ℕ) (result : Option Name) → Holds (call left result) MayForm
unfolding call
call_fits left result = holds-behind _ _ _ kept-call_start (λ ty. holds-by_token is_local (far_call left result ty) (near_call left result ty) MayForm (far_fits left result ty) (near_fits left result ty))

assignment_fits : (left : ℕ) → Holds (assignment left) MayForm
unfolding assignment
assignment_fits left =
    holds-behind _ _ _ kept-local_name (λ name. holds-behind _ _ _ (kept-punctuation 61) (λ _. holds-by_token begins_call (call left (Some name)) (valued >>= finished left (Some name)) MayForm
    (call_fits left (Some name))
    (holds-then valued (finished left (Some name)) Formed MayForm kept-valued valued_fits (λ operation formed. finished_fits left (Some name) operation formed (some_named operation name)))))

pub instruction_fits : Holds instruction MayForm
unfolding instruction
instruction_fits =
    holds-behind _ _ _ kept-place (λ left. holds-by_token is_local (assignment left) (by_token begins_call (call left None) (effect >>= finished left None)) MayForm
    (assignment_fits left)
    (holds-by_token begins_call (call left None) (effect >>= finished left None) MayForm (call_fits left None)
    (holds-then effect (finished left None) IsEffect MayForm kept-effect effect_fits (λ operation is. let h = effect_named operation None is in finished_fits left None operation h.0 h.1))))
