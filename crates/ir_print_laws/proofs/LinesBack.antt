-- Printed lines of instructions are read as their trees.
use Rattle.std.proofs.Common.{◌≡◌, ℕ, ◌<◌, Bool, true, false, List, [], ◌∷◌, ◌++◌, Option, Some, None, length, slice_get, refl, sym, ◌∙◌, ap, subst, true≢false}
use Rattle.std.specs.Prelude.{codes, decimal}
use Rattle.std.specs.Str.{bytes_eq}
use Rattle.std.specs.List.{list_all}
use Rattle.std.proofs.lemmas.Slice.Eq.{bytes_eq-Decides}
use Rattle.ir_text.specs.declared.name.Name.{Name}
use Rattle.ir_text.specs.declared.token.Spelling.TheVariants.{Bare}
use Rattle.ir_text.specs.Token.{Token, word, local, global, label, number, string, bytes, mark, end, is_name_byte, token_at, behind_blanks}
use Rattle.ir_text.specs.Form.{Form, left_at, most_turns}
use Rattle.ir_text.specs.Words.{punctuation, keyword, local_name}
use Rattle.ir_core.specs.declared.types.Ty.{Ty}
use Rattle.ir_core.specs.declared.code.Operand.{Operand}
use Rattle.ir_core.specs.declared.code.BuiltIn.{BuiltIn}
use Rattle.ir_core.specs.declared.code.BuiltIn.TheVariants as built
use Rattle.ir_core.specs.declared.code.Op.{Op}
use Rattle.ir_core.specs.declared.code.Op.TheVariants as ops
use Rattle.ir_core.specs.declared.code.Inst.{Inst}
use Rattle.ir_core.specs.declared.program.Module.{Module}
use Rattle.ir_core.specs.Units.{has_result}
use Rattle.ir_grammar.specs.Words.{is_attribute_name, suffixes}
use Rattle.ir_value_trees.specs.Values.{is_local}
use Rattle.ir_instruction_trees.specs.declared.tree.Operation.{Operation}
use Rattle.ir_instruction_trees.specs.declared.tree.Operation.TheVariants as operations
use Rattle.ir_instruction_trees.specs.declared.tree.Instruction.{Instruction}
use Rattle.ir_instruction_trees.specs.Instructions.{binary, cast, comparison, selection, freezing, choice, allocation, loading, is_dropped_name, addressing, valued, storing, returning, branch, switching, unreachable, effect, begins_call, call, finished, assignment, instruction}
use Rattle.ir_print_names.specs.Names.{is_bare, name_text}
use Rattle.ir_print.specs.Instructions.{built_in_front, built_in_width, built_in_text, function_of, call_text, op_text, result_text}
use Rattle.ir_print_laws.specs.FormTrees.{written_of, IsValueName}
use Rattle.ir_print_laws.specs.Instructions.{IsOperationTree, operation_form}
use Rattle.ir_print_names.proofs.NamesBack.{digits_are_names}
use Rattle.ir_print_laws.proofs.Joined.{nest4}
use Rattle.ir_print_laws.proofs.Tokens.{token_blank, value_token, decimal_digits}
use Rattle.ir_print_laws.proofs.Segments.{IsBlind, blind_forms}
use Rattle.ir_print_laws.proofs.Marks.{value_here, blind_words, blind-local_name}
use Rattle.ir_print_laws.proofs.OperationsWhole.{OperationIsRead, operation_back}
use Rattle.ir_print_laws.proofs.LongOperations.{long_back}
use Rattle.ir_print_laws.specs.ModuleTrees.{IsNamed, IsResultTree, IsInstructionTree}
use Rattle.ir_print_laws.specs.Written.{IsWrittenOperation, IsResultKind}
use Rattle.ir_print_laws.proofs.Between.{no_suffixes}
use Rattle.ir_print_laws.proofs.CallsBack.{Stops, CallIsRead, call_tail, call_shown, call_back}
use Rattle.ir_print_laws.proofs.GepBack.{gep_back}

-- ---- operations but for calls

abbrev pub is_call : Op → Bool
is_call (ops.Call callee arguments) = true
is_call (ops.BuiltIn which arguments) = true
is_call op = false

op_back : (m : Module) (ret gives : Ty) (op : Op) (r : List ℕ) → is_call op ≡ false → IsWrittenOperation m ret op → Stops r → OperationIsRead m ret gives op (op_text m ret gives op ++ r) r
op_back m ret gives (ops.Phi incoming) r plain is stop = long_back m ret gives (ops.Phi incoming) r is stop.ends stop.comma
op_back m ret gives (ops.Alloca ty count) r plain is stop = long_back m ret gives (ops.Alloca ty count) r is stop.ends stop.comma
op_back m ret gives (ops.Switch ty value otherwise cases) r plain is stop = long_back m ret gives (ops.Switch ty value otherwise cases) r is stop.ends stop.comma
op_back m ret gives (ops.Gep ty base offsets) r plain is stop =
    let h = gep_back m.globals ty base offsets r is.0 is.1.0 is.1.1 stop.ends stop.comma in
    record { operation = _; read = h.3; tree = (h.0, h.1, h.2, refl, h.4, h.5, h.6) }
op_back m ret gives (ops.Call callee arguments) r plain is stop = absurd cc
op_back m ret gives (ops.BuiltIn which arguments) r plain is stop = absurd cc
op_back m ret gives (ops.Binary op flags a b) r plain is stop = operation_back m ret gives (ops.Binary op flags a b) r is stop.ends
op_back m ret gives (ops.Icmp predicate flags ty a b) r plain is stop = operation_back m ret gives (ops.Icmp predicate flags ty a b) r is stop.ends
op_back m ret gives (ops.Cast op flags from a) r plain is stop = operation_back m ret gives (ops.Cast op flags from a) r is stop.ends
op_back m ret gives (ops.Select condition a b) r plain is stop = operation_back m ret gives (ops.Select condition a b) r is stop.ends
op_back m ret gives (ops.Freeze a) r plain is stop = operation_back m ret gives (ops.Freeze a) r is stop.ends
op_back m ret gives (ops.Load address) r plain is stop = operation_back m ret gives (ops.Load address) r is stop.ends
op_back m ret gives (ops.Store ty value address) r plain is stop = operation_back m ret gives (ops.Store ty value address) r is stop.ends
op_back m ret gives (ops.Ret value) r plain is stop = operation_back m ret gives (ops.Ret value) r is stop.ends
op_back m ret gives (ops.Br block) r plain is stop = operation_back m ret gives (ops.Br block) r is stop.ends
op_back m ret gives (ops.CondBr condition first second) r plain is stop = operation_back m ret gives (ops.CondBr condition first second) r is stop.ends
op_back m ret gives ops.Unreachable r plain is stop = operation_back m ret gives ops.Unreachable r is stop.ends

valued_of : (op : Op) (t r : List ℕ) (o : Operation) → is_call op ≡ false → IsResultKind op true → (operation_form op).Is t o r → valued.Is t o r
valued_of (ops.Phi incoming) t r o plain kind h = h
valued_of (ops.Alloca ty count) t r o plain kind h = h
valued_of (ops.Switch ty value otherwise cases) t r o plain kind h = absurd (true≢false kind)
valued_of (ops.Gep ty base offsets) t r o plain kind h = h
valued_of (ops.Call callee arguments) t r o plain kind h = absurd cc
valued_of (ops.BuiltIn which arguments) t r o plain kind h = absurd cc
valued_of (ops.Binary op flags a b) t r o plain kind h = h
valued_of (ops.Icmp predicate flags ty a b) t r o plain kind h = h
valued_of (ops.Cast op flags from a) t r o plain kind h = h
valued_of (ops.Select condition a b) t r o plain kind h = h
valued_of (ops.Freeze a) t r o plain kind h = h
valued_of (ops.Load address) t r o plain kind h = h
valued_of (ops.Store ty value address) t r o plain kind h = absurd (true≢false kind)
valued_of (ops.Ret value) t r o plain kind h = absurd (true≢false kind)
valued_of (ops.Br block) t r o plain kind h = absurd (true≢false kind)
valued_of (ops.CondBr condition first second) t r o plain kind h = absurd (true≢false kind)
valued_of ops.Unreachable t r o plain kind h = absurd (true≢false kind)

effect_of : (op : Op) (t r : List ℕ) (o : Operation) → is_call op ≡ false → IsResultKind op false → (operation_form op).Is t o r → effect.Is t o r
effect_of (ops.Phi incoming) t r o plain kind h = absurd (true≢false (sym kind))
effect_of (ops.Alloca ty count) t r o plain kind h = absurd (true≢false (sym kind))
effect_of (ops.Switch ty value otherwise cases) t r o plain kind h = h
effect_of (ops.Gep ty base offsets) t r o plain kind h = absurd (true≢false (sym kind))
effect_of (ops.Call callee arguments) t r o plain kind h = absurd cc
effect_of (ops.BuiltIn which arguments) t r o plain kind h = absurd cc
effect_of (ops.Binary op flags a b) t r o plain kind h = absurd (true≢false (sym kind))
effect_of (ops.Icmp predicate flags ty a b) t r o plain kind h = absurd (true≢false (sym kind))
effect_of (ops.Cast op flags from a) t r o plain kind h = absurd (true≢false (sym kind))
effect_of (ops.Select condition a b) t r o plain kind h = absurd (true≢false (sym kind))
effect_of (ops.Freeze a) t r o plain kind h = absurd (true≢false (sym kind))
effect_of (ops.Load address) t r o plain kind h = absurd (true≢false (sym kind))
effect_of (ops.Store ty value address) t r o plain kind h = h
effect_of (ops.Ret value) t r o plain kind h = h
effect_of (ops.Br block) t r o plain kind h = h
effect_of (ops.CondBr condition first second) t r o plain kind h = h
effect_of ops.Unreachable t r o plain kind h = h

-- ---- no operation begins as a call does

call_words : (name : List ℕ) (a b c : Bool) → bytes_eq name (codes "call") ≡ a → bytes_eq name (codes "tail") ≡ b → bytes_eq name (codes "notail") ≡ c
    → (P : List ℕ → Type 0) → (P (codes "call") → ⊥) → (P (codes "tail") → ⊥) → (P (codes "notail") → ⊥) → P name → begins_call (word name) ≡ false
call_words name true b c p q r P x y z h = absurd (x (subst P ((bytes_eq-Decides name (codes "call")).0 p) h))
call_words name false true c p q r P x y z h = absurd (y (subst P ((bytes_eq-Decides name (codes "tail")).0 q) h))
call_words name false false true p q r P x y z h = absurd (z (subst P ((bytes_eq-Decides name (codes "notail")).0 r) h))
call_words name false false false p q r P x y z h = rw (p, q, r) refl

-- what is read where a token stands
record ValuedAt (t r : List ℕ) (o : Operation) (name : List ℕ) : Type 0 where
  stands : (token_at t).0 ≡ word name
  read : valued.Is t o r

no_valued : (t r : List ℕ) (o : Operation) (name : List ℕ) → valued.Is t o r → (token_at t).0 ≡ word name → ValuedAt t r o name
no_valued t r o name h is = record { stands = is; read = h }

valued_call : (t r : List ℕ) (o : Operation) → ValuedAt t r o (codes "call") → ⊥
unfolding valued addressing keyword
valued_call t r o v = let h = rw v.stands at v.read in let one = h.2.0 in absurd cc

valued_tail : (t r : List ℕ) (o : Operation) → ValuedAt t r o (codes "tail") → ⊥
unfolding valued addressing keyword
valued_tail t r o v = let h = rw v.stands at v.read in let one = h.2.0 in absurd cc

valued_notail : (t r : List ℕ) (o : Operation) → ValuedAt t r o (codes "notail") → ⊥
unfolding valued addressing keyword
valued_notail t r o v = let h = rw v.stands at v.read in let one = h.2.0 in absurd cc

valued_no_call_by : (t r : List ℕ) (o : Operation) (token : Token) → (token_at t).0 ≡ token → valued.Is t o r → begins_call token ≡ false
valued_no_call_by t r o (word name) is h = call_words name _ _ _ refl refl refl (ValuedAt t r o) (valued_call t r o) (valued_tail t r o) (valued_notail t r o) (no_valued t r o name h is)
valued_no_call_by t r o (local spelling name) is h = refl
valued_no_call_by t r o (global spelling name) is h = refl
valued_no_call_by t r o (number negative digits) is h = refl
valued_no_call_by t r o (label spelling name) is h = refl
valued_no_call_by t r o (string inner) is h = refl
valued_no_call_by t r o (bytes inner) is h = refl
valued_no_call_by t r o (mark byte) is h = refl
valued_no_call_by t r o end is h = refl

valued_no_call : (t r : List ℕ) (o : Operation) → valued.Is t o r → begins_call (token_at t).0 ≡ false
valued_no_call t r o h = valued_no_call_by t r o (token_at t).0 refl h

-- a word that begins no call and is no attribute
record PlainWord (token : Token) : Type 0 where
  name : List ℕ
  is : token ≡ word name
  plain : begins_call token ≡ false
  attribute : is_attribute_name name ≡ false

known_word : (name known : List ℕ) → bytes_eq name known ≡ true → PlainWord (word known) → PlainWord (word name)
known_word name known e w = subst (λ (x : List ℕ). PlainWord (word x)) (sym ((bytes_eq-Decides name known).0 e)) w

effect_known : (t r : List ℕ) (o : Operation) (name : List ℕ) (a b c d f : Bool) → (token_at t).0 ≡ word name → bytes_eq name (codes "store") ≡ a → bytes_eq name (codes "ret") ≡ b → bytes_eq name (codes "br") ≡ c → bytes_eq name (codes "switch") ≡ d → bytes_eq name (codes "unreachable") ≡ f
    → effect.Is t o r → PlainWord (word name)
unfolding effect unreachable keyword
effect_known t r o name true b c d f is p q u v w h = known_word name (codes "store") p (record { name = codes "store"; is = refl; plain = refl; attribute = refl })
effect_known t r o name false true c d f is p q u v w h = known_word name (codes "ret") q (record { name = codes "ret"; is = refl; plain = refl; attribute = refl })
effect_known t r o name false false true d f is p q u v w h = known_word name (codes "br") u (record { name = codes "br"; is = refl; plain = refl; attribute = refl })
effect_known t r o name false false false true f is p q u v w h = known_word name (codes "switch") v (record { name = codes "switch"; is = refl; plain = refl; attribute = refl })
effect_known t r o name false false false false true is p q u v w h = known_word name (codes "unreachable") w (record { name = codes "unreachable"; is = refl; plain = refl; attribute = refl })
effect_known t r o name false false false false false is p q u v w h = let g = rw (is, p, q, u, v) at h in let one = rw w at g.2.0 in absurd cc

effect_word_by : (t r : List ℕ) (o : Operation) (token : Token) → (token_at t).0 ≡ token → effect.Is t o r → PlainWord token
unfolding effect unreachable keyword
effect_word_by t r o (word name) is h = effect_known t r o name _ _ _ _ _ is refl refl refl refl refl h
effect_word_by t r o (local spelling name) is h = let g = rw is at h in let one = g.2.0 in absurd cc
effect_word_by t r o (global spelling name) is h = let g = rw is at h in let one = g.2.0 in absurd cc
effect_word_by t r o (number negative digits) is h = let g = rw is at h in let one = g.2.0 in absurd cc
effect_word_by t r o (label spelling name) is h = let g = rw is at h in let one = g.2.0 in absurd cc
effect_word_by t r o (string inner) is h = let g = rw is at h in let one = g.2.0 in absurd cc
effect_word_by t r o (bytes inner) is h = let g = rw is at h in let one = g.2.0 in absurd cc
effect_word_by t r o (mark byte) is h = let g = rw is at h in let one = g.2.0 in absurd cc
effect_word_by t r o end is h = let g = rw is at h in let one = g.2.0 in absurd cc

effect_word : (t r : List ℕ) (o : Operation) → effect.Is t o r → PlainWord (token_at t).0
effect_word t r o h = effect_word_by t r o (token_at t).0 refl h

-- ---- names of built-ins

front_is_bare : (which : BuiltIn) (digits : List ℕ) → list_all is_name_byte digits ≡ true → is_bare (built_in_front which ++ digits) ≡ true
front_is_bare built.MemCpy digits all = all
front_is_bare built.MemMove digits all = all
front_is_bare built.MemSet digits all = all
front_is_bare built.SMax digits all = all
front_is_bare built.SMin digits all = all
front_is_bare built.UMax digits all = all
front_is_bare built.UMin digits all = all
front_is_bare built.Abs digits all = all

front_is_kept : (which : BuiltIn) (digits : List ℕ) → is_dropped_name (built_in_front which ++ digits) ≡ false
front_is_kept built.MemCpy digits = refl
front_is_kept built.MemMove digits = refl
front_is_kept built.MemSet digits = refl
front_is_kept built.SMax digits = refl
front_is_kept built.SMin digits = refl
front_is_kept built.UMax digits = refl
front_is_kept built.UMin digits = refl
front_is_kept built.Abs digits = refl

pub built_bare : (which : BuiltIn) (all : List (Ty × Operand)) → is_bare (built_in_text which all) ≡ true
built_bare which all = front_is_bare which (decimal (built_in_width which all)) (digits_are_names (decimal (built_in_width which all)) (decimal_digits (built_in_width which all)))

bare_text : (name : List ℕ) → is_bare name ≡ true → name_text name ≡ name
bare_text name e = rw e refl

pub bare_written : (name : List ℕ) → is_bare name ≡ true → written_of name ≡ name
bare_written name e = rw e refl

built_kept : (which : BuiltIn) (all : List (Ty × Operand)) → is_dropped_name (written_of (built_in_text which all)) ≡ false
built_kept which all = ap is_dropped_name (bare_written (built_in_text which all) (built_bare which all)) ∙ front_is_kept which (decimal (built_in_width which all))

-- ---- instructions

pub record LineIsRead (m : Module) (ret : Ty) (value : ℕ) (inst : Inst) (t r : List ℕ) : Type 0 where
  pub given : Instruction
  pub read : instruction.Is t (Some given) r
  pub tree : IsInstructionTree m ret value inst given

pub line_skips : (t : List ℕ) → token_at (10 ∷ 32 ∷ 32 ∷ t) ≡ token_at t
unfolding token_at behind_blanks
line_skips t = refl

equals : (t : List ℕ) → (punctuation 61).Is (32 ∷ 61 ∷ t) tt t
unfolding punctuation token_at behind_blanks
equals t = (refl, refl)

result_here : (v : ℕ) (t : List ℕ) → (name : Name) × local_name.Is (10 ∷ 32 ∷ 32 ∷ 37 ∷ 118 ∷ decimal v ++ 32 ∷ t) name (32 ∷ t) × IsValueName v name
result_here v t =
    let h = value_here v (32 ∷ t) refl in
    let n = 37 ∷ 118 ∷ decimal v ++ 32 ∷ t in
    let one = blind-local_name.skips 32 refl n h.0 (32 ∷ t) h.1 in
    let two = blind-local_name.skips 32 refl (32 ∷ n) h.0 (32 ∷ t) one in
    (h.0, blind-local_name.skips 10 refl (32 ∷ 32 ∷ n) h.0 (32 ∷ t) two, h.2)

finished_is : (left : ℕ) (result : Option Name) (o : Operation) (r : List ℕ) → suffixes.Is r [] r → (finished left result o).Is r (Some (record { left = left; result = result; operation = o; aligns = [] })) r
unfolding finished
finished_is left result o r h = ([], r, h, (refl, refl))

assigned_call : (left : ℕ) (name : Name) (one : Option Instruction) (t u v r : List ℕ) → local_name.Is t name u → (punctuation 61).Is u tt v → begins_call (token_at v).0 ≡ true → (call left (Some name)).Is v one r → (assignment left).Is t one r
unfolding assignment
assigned_call left name one t u v r a b e c = (name, u, a, (tt, v, b, rw e c))

assigned : (left : ℕ) (name : Name) (o : Operation) (one : Option Instruction) (t u v r : List ℕ) → local_name.Is t name u → (punctuation 61).Is u tt v → begins_call (token_at v).0 ≡ false → valued.Is v o r → (finished left (Some name) o).Is r one r → (assignment left).Is t one r
unfolding assignment
assigned left name o one t u v r a b e c d = (name, u, a, (tt, v, b, rw e (o, r, c, d)))

instruction_assigned : (one : Option Instruction) (t r : List ℕ) (token : Token) (u : List ℕ) → token_at t ≡ (token, u) → is_local token ≡ true → (assignment (left_at t)).Is t one r → instruction.Is t one r
unfolding instruction
instruction_assigned one t r token u e is h = (left_at t, t, (refl, refl), rw (e, is) h)

instruction_call : (one : Option Instruction) (t r : List ℕ) → is_local (token_at t).0 ≡ false → begins_call (token_at t).0 ≡ true → (call (left_at t) None).Is t one r → instruction.Is t one r
unfolding instruction
instruction_call one t r e f h = (left_at t, t, (refl, refl), rw (e, f) h)

instruction_effect : (o : Operation) (one : Option Instruction) (t r : List ℕ) → is_local (token_at t).0 ≡ false → begins_call (token_at t).0 ≡ false → effect.Is t o r → (finished (left_at t) None o).Is r one r → instruction.Is t one r
unfolding instruction
instruction_effect o one t r e f h d = (left_at t, t, (refl, refl), rw (e, f) (o, r, h, d))

-- ---- blanks before operations

blind-binary : IsBlind binary
unfolding binary
blind-binary = search (blind_forms, blind_words)

blind-cast : IsBlind cast
unfolding cast
blind-cast = search (blind_forms, blind_words)

blind-comparison : IsBlind comparison
unfolding comparison
blind-comparison = search (blind_forms, blind_words)

blind-selection : IsBlind selection
unfolding selection
blind-selection = search (blind_forms, blind_words)

blind-freezing : IsBlind freezing
unfolding freezing
blind-freezing = search (blind_forms, blind_words)

blind-choice : IsBlind choice
unfolding choice
blind-choice = search (blind_forms, blind_words)

blind-allocation : IsBlind allocation
unfolding allocation
blind-allocation = search (blind_forms, blind_words)

blind-loading : IsBlind loading
unfolding loading
blind-loading = search (blind_forms, blind_words)

blind-addressing : IsBlind addressing
unfolding addressing
blind-addressing = search (blind_forms, blind_words)

blind-storing : IsBlind storing
unfolding storing
blind-storing = search (blind_forms, blind_words)

blind-returning : IsBlind returning
unfolding returning
blind-returning = search (blind_forms, blind_words)

blind-branch : IsBlind branch
unfolding branch
blind-branch = search (blind_forms, blind_words)

blind-switching : IsBlind switching
unfolding switching
blind-switching = search (blind_forms, blind_words)

blind-unreachable : IsBlind unreachable
unfolding unreachable
blind-unreachable = search (blind_forms, blind_words)

blind-valued : IsBlind valued
unfolding valued
blind-valued = search (blind_forms, blind-binary, blind-cast, blind-comparison, blind-selection, blind-freezing, blind-choice, blind-allocation, blind-loading, blind-addressing) depth 20

blind-effect : IsBlind effect
unfolding effect
blind-effect = search (blind_forms, blind-storing, blind-returning, blind-branch, blind-switching, blind-unreachable) depth 20

-- three blanks before a line
behind_three : {A : Type 0} (f : Form A) → IsBlind f → (t : List ℕ) (v : A) (r : List ℕ) → f.Is t v r → f.Is (10 ∷ 32 ∷ 32 ∷ t) v r
behind_three f p t v r h = p.skips 10 refl (32 ∷ 32 ∷ t) v r (p.skips 32 refl (32 ∷ t) v r (p.skips 32 refl t v r h))

-- ---- the whole line

-- the line of an instruction behind the end of the line before
abbrev pub line_text : Module → Ty → ℕ → Inst → List ℕ
line_text m ret value inst = 10 ∷ 32 ∷ 32 ∷ result_text (has_result inst) value ++ op_text m ret inst.gives inst.op

-- a token by which a line begins
pub data Begins : Token → Type 0 where
  result : {name : List ℕ} → Begins (local Bare name)
  operation : {name : List ℕ} → is_attribute_name name ≡ false → Begins (word name)

pub record LineStands (m : Module) (ret : Ty) (value : ℕ) (inst : Inst) (t r : List ℕ) : Type 0 where
  pub line : LineIsRead m ret value inst t r
  pub begins : Begins (token_at t).0

-- with a result: `%vK = ` and the operation
abbrev assigned_text : ℕ → List ℕ → List ℕ
assigned_text v t = 10 ∷ 32 ∷ 32 ∷ 37 ∷ 118 ∷ decimal v ++ 32 ∷ 61 ∷ 32 ∷ t

assigned_token : (v : ℕ) (t : List ℕ) → token_at (assigned_text v t) ≡ (local Bare (118 ∷ decimal v), 32 ∷ 61 ∷ 32 ∷ t)
assigned_token v t = line_skips (37 ∷ 118 ∷ decimal v ++ 32 ∷ 61 ∷ 32 ∷ t) ∙ value_token v (32 ∷ 61 ∷ 32 ∷ t) refl

begins_by : (t : List ℕ) (token : Token) (u : List ℕ) → token_at t ≡ (token, u) → Begins token → Begins (token_at t).0
begins_by t token u e b = subst (λ (x : Token × List ℕ). Begins x.0) (sym e) b

abbrev first_of : Token × List ℕ → Token
first_of x = x.0

assigned_shown : (m : Module) (ret gives : Ty) (v : ℕ) (op : Op) (r : List ℕ) → (codes "\n  " ++ ((codes "%v" ++ decimal v ++ codes " = ") ++ op_text m ret gives op)) ++ r ≡ assigned_text v (op_text m ret gives op ++ r)
assigned_shown m ret gives v op r = ap (λ (t : List ℕ). 10 ∷ 32 ∷ 32 ∷ t) (nest4 (codes "%v") (decimal v) (codes " = ") (op_text m ret gives op) r)

operation_line : (m : Module) (ret gives : Ty) (v : ℕ) (op : Op) (r : List ℕ) → is_call op ≡ false → IsResultKind op true → IsWrittenOperation m ret op → Stops r
    → (given : Instruction) × instruction.Is (assigned_text v (op_text m ret gives op ++ r)) (Some given) r × IsNamed (IsValueName v) given.result × IsOperationTree m ret gives op given.operation × (given.aligns ≡ [])
operation_line m ret gives v op r plain kind is stop =
    let u = op_text m ret gives op ++ r in
    let t = assigned_text v u in
    let h = op_back m ret gives op r plain is stop in
    let read = valued_of op u r h.operation plain kind h.read in
    let other : begins_call (token_at (32 ∷ u)).0 ≡ false = ap (λ (x : Token × List ℕ). begins_call x.0) (token_blank u) ∙ valued_no_call u r h.operation read in
    let name = result_here v (61 ∷ 32 ∷ u) in
    let end = finished_is (left_at t) (Some name.0) h.operation r (no_suffixes r stop.comma) in
    let one = assigned (left_at t) name.0 h.operation _ t (32 ∷ 61 ∷ 32 ∷ u) (32 ∷ u) r name.1 (equals (32 ∷ u)) other (blind-valued.skips 32 refl u h.operation r read) end in
    (_, instruction_assigned _ t r _ _ (assigned_token v u) refl one, (name.0, refl, name.2), h.tree, refl)

effect_line : (m : Module) (ret gives : Ty) (op : Op) (r : List ℕ) → is_call op ≡ false → IsResultKind op false → IsWrittenOperation m ret op → Stops r
    → (given : Instruction) × instruction.Is (10 ∷ 32 ∷ 32 ∷ op_text m ret gives op ++ r) (Some given) r × (given.result ≡ None) × IsOperationTree m ret gives op given.operation × (given.aligns ≡ []) × PlainWord (token_at (10 ∷ 32 ∷ 32 ∷ op_text m ret gives op ++ r)).0
effect_line m ret gives op r plain kind is stop =
    let u = op_text m ret gives op ++ r in
    let t = 10 ∷ 32 ∷ 32 ∷ u in
    let h = op_back m ret gives op r plain is stop in
    let read = effect_of op u r h.operation plain kind h.read in
    let w = effect_word u r h.operation read in
    let at : PlainWord (token_at t).0 = subst (λ (x : Token × List ℕ). PlainWord x.0) (sym (line_skips u)) w in
    let end = finished_is (left_at t) None h.operation r (no_suffixes r stop.comma) in
    (_, instruction_effect h.operation _ t r (ap is_local at.is) at.plain (behind_three effect blind-effect u h.operation r read) end, refl, h.tree, refl, at)

-- ---- calls on a line

call_token : (t : List ℕ) → token_at (codes "call" ++ 32 ∷ t) ≡ (word (codes "call"), 32 ∷ t)
unfolding token_at behind_blanks
call_token t = refl

record CallLine (m : Module) (ret gives : Ty) (op : Op) : Type 0 where
  name : List ℕ
  all : List (Ty × Operand)
  text : op_text m ret gives op ≡ call_text m.globals gives (codes "@" ++ name_text name) all
  kept : is_dropped_name (written_of name) ≡ false
  few : length all < most_turns
  tree : (left : ℕ) (result : Option Name) (t r : List ℕ) (h : CallIsRead m.globals gives name all left result t r) → IsOperationTree m ret gives op (operations.Call h.ty false h.callee h.given)

call_line : (m : Module) (ret gives : Ty) (op : Op) → is_call op ≡ true → IsWrittenOperation m ret op → CallLine m ret gives op
call_line m ret gives (ops.Call callee arguments) e is =
    record {
      name = function_of (slice_get m.functions callee);
      all = arguments;
      text = refl;
      kept = is.0;
      few = is.1;
      tree = λ left result t r h. (h.ty, h.callee, h.given, refl, h.returned, h.named, h.trees);
    }
call_line m ret gives (ops.BuiltIn which arguments) e is =
    record {
      name = built_in_text which arguments;
      all = arguments;
      text = ap (λ (t : List ℕ). call_text m.globals gives (codes "@" ++ t) arguments) (sym (bare_text (built_in_text which arguments) (built_bare which arguments)));
      kept = built_kept which arguments;
      few = is;
      tree = λ left result t r h. (h.ty, h.callee, h.given, refl, h.returned, h.named, h.trees);
    }
call_line m ret gives (ops.Phi incoming) e is = absurd cc
call_line m ret gives (ops.Alloca ty count) e is = absurd cc
call_line m ret gives (ops.Switch ty value otherwise cases) e is = absurd cc
call_line m ret gives (ops.Gep ty base offsets) e is = absurd cc
call_line m ret gives (ops.Binary op flags a b) e is = absurd cc
call_line m ret gives (ops.Icmp predicate flags ty a b) e is = absurd cc
call_line m ret gives (ops.Cast op flags from a) e is = absurd cc
call_line m ret gives (ops.Select condition a b) e is = absurd cc
call_line m ret gives (ops.Freeze a) e is = absurd cc
call_line m ret gives (ops.Load address) e is = absurd cc
call_line m ret gives (ops.Store ty value address) e is = absurd cc
call_line m ret gives (ops.Ret value) e is = absurd cc
call_line m ret gives (ops.Br block) e is = absurd cc
call_line m ret gives (ops.CondBr condition first second) e is = absurd cc
call_line m ret gives ops.Unreachable e is = absurd cc

call_at : (m : Module) (ret gives : Ty) (op : Op) (c : CallLine m ret gives op) (r : List ℕ) → token_at (op_text m ret gives op ++ r) ≡ (word (codes "call"), call_tail m.globals gives c.name c.all r)
call_at m ret gives op c r = ap (λ (t : List ℕ). token_at (t ++ r)) c.text ∙ ap (λ (t : List ℕ). token_at t) (call_shown m.globals gives c.name c.all r) ∙ call_token _

assigned_call_line : (m : Module) (ret gives : Ty) (v : ℕ) (op : Op) (r : List ℕ) → CallLine m ret gives op → Stops r
    → (given : Instruction) × instruction.Is (assigned_text v (op_text m ret gives op ++ r)) (Some given) r × IsNamed (IsValueName v) given.result × IsOperationTree m ret gives op given.operation × (given.aligns ≡ [])
assigned_call_line m ret gives v op r c stop =
    let u = op_text m ret gives op ++ r in
    let t = assigned_text v u in
    let e = token_blank u ∙ call_at m ret gives op c r in
    let name = result_here v (61 ∷ 32 ∷ u) in
    let h = call_back m.globals gives c.name c.all (left_at t) (Some name.0) (32 ∷ u) r e c.kept c.few stop in
    let begins : begins_call (token_at (32 ∷ u)).0 ≡ true = ap (λ (x : Token × List ℕ). begins_call x.0) e in
    let one = assigned_call (left_at t) name.0 _ t (32 ∷ 61 ∷ 32 ∷ u) (32 ∷ u) r name.1 (equals (32 ∷ u)) begins h.read in
    (_, instruction_assigned _ t r _ _ (assigned_token v u) refl one, (name.0, refl, name.2), c.tree (left_at t) (Some name.0) (32 ∷ u) r h, refl)

bare_call_line : (m : Module) (ret gives : Ty) (op : Op) (r : List ℕ) → CallLine m ret gives op → Stops r
    → (given : Instruction) × instruction.Is (10 ∷ 32 ∷ 32 ∷ op_text m ret gives op ++ r) (Some given) r × (given.result ≡ None) × IsOperationTree m ret gives op given.operation × (given.aligns ≡ []) × Begins (token_at (10 ∷ 32 ∷ 32 ∷ op_text m ret gives op ++ r)).0
bare_call_line m ret gives op r c stop =
    let u = op_text m ret gives op ++ r in
    let t = 10 ∷ 32 ∷ 32 ∷ u in
    let e = line_skips u ∙ call_at m ret gives op c r in
    let h = call_back m.globals gives c.name c.all (left_at t) None t r e c.kept c.few stop in
    (_, instruction_call _ t r (ap (λ (x : Token × List ℕ). is_local x.0) e) (ap (λ (x : Token × List ℕ). begins_call x.0) e) h.read, refl, c.tree (left_at t) None t r h, refl, begins_by t _ _ e (operation refl))

-- ---- the whole

plain_begins : (token : Token) → PlainWord token → Begins token
plain_begins token w = subst Begins (sym w.is) (operation w.attribute)

stands_at : (m : Module) (ret : Ty) (value : ℕ) (inst : Inst) (some : Bool) (t u r : List ℕ) → has_result inst ≡ some → t ≡ u → (given : Instruction) → instruction.Is u (Some given) r → IsResultTree some value given.result → IsOperationTree m ret inst.gives inst.op given.operation → given.aligns ≡ [] → Begins (token_at u).0
    → LineStands m ret value inst t r
stands_at m ret value inst some t u r f text given read said tree aligns begins =
    record {
      line = record { given = given; read = subst (λ (x : List ℕ). instruction.Is x (Some given) r) (sym text) read; tree = (subst (λ (b : Bool). IsResultTree b value given.result) (sym f) said, (tree, aligns)) };
      begins = subst (λ (x : List ℕ). Begins (token_at x).0) (sym text) begins;
    }

line_by : (m : Module) (ret : Ty) (value : ℕ) (inst : Inst) (r : List ℕ) (is_one some : Bool) → is_call inst.op ≡ is_one → has_result inst ≡ some → IsResultKind inst.op (has_result inst) → IsWrittenOperation m ret inst.op → Stops r
    → LineStands m ret value inst (line_text m ret value inst ++ r) r
line_by m ret value inst r true true e f kind is stop =
    let h = assigned_call_line m ret inst.gives value inst.op r (call_line m ret inst.gives inst.op e is) stop in
    let token = begins_by (assigned_text value (op_text m ret inst.gives inst.op ++ r)) _ _ (assigned_token value _) result in
    rw f (stands_at m ret value inst true _ _ r f (assigned_shown m ret inst.gives value inst.op r) h.0 h.1 h.2 h.3 h.4 token)
line_by m ret value inst r false true e f kind is stop =
    let h = operation_line m ret inst.gives value inst.op r e (subst (IsResultKind inst.op) f kind) is stop in
    let token = begins_by (assigned_text value (op_text m ret inst.gives inst.op ++ r)) _ _ (assigned_token value _) result in
    rw f (stands_at m ret value inst true _ _ r f (assigned_shown m ret inst.gives value inst.op r) h.0 h.1 h.2 h.3 h.4 token)
line_by m ret value inst r true false e f kind is stop =
    let h = bare_call_line m ret inst.gives inst.op r (call_line m ret inst.gives inst.op e is) stop in
    rw f (stands_at m ret value inst false _ _ r f refl h.0 h.1 h.2 h.3 h.4 h.5)
line_by m ret value inst r false false e f kind is stop =
    let h = effect_line m ret inst.gives inst.op r e (subst (IsResultKind inst.op) f kind) is stop in
    rw f (stands_at m ret value inst false _ _ r f refl h.0 h.1 h.2 h.3 h.4 (plain_begins _ h.5))

pub line_back : (m : Module) (ret : Ty) (value : ℕ) (inst : Inst) (r : List ℕ) → IsResultKind inst.op (has_result inst) → IsWrittenOperation m ret inst.op → Stops r → LineStands m ret value inst (line_text m ret value inst ++ r) r
line_back m ret value inst r kind is stop = line_by m ret value inst r (is_call inst.op) (has_result inst) refl refl kind is stop
