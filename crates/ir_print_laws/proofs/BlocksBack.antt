-- Printed blocks are read as their trees.
use Rattle.std.proofs.Common.{◌≡◌, ℕ, ◌+◌, ◌<◌, Bool, true, false, List, [], ◌∷◌, ◌++◌, Some, length, refl, sym, ◌∙◌, ap, subst, append_assoc}
use Rattle.std.specs.Prelude.{nat_eq, codes, decimal}
use Rattle.ir_text.specs.declared.name.Name.{Name}
use Rattle.ir_text.specs.declared.token.Spelling.TheVariants.{Bare}
use Rattle.ir_text.specs.Token.{Token, label, mark, token_at, behind_blanks, labelled, bare_run, word_token, front, back, is_name_byte}
use Rattle.ir_text.specs.Form.{left_at, most_turns}
use Rattle.ir_text.specs.Words.{is_mark, punctuation, label_name}
use Rattle.ir_core.specs.declared.types.Ty.{Ty}
use Rattle.ir_core.specs.declared.code.Inst.{Inst}
use Rattle.ir_core.specs.declared.code.Block.{Block}
use Rattle.ir_core.specs.declared.program.Module.{Module}
use Rattle.ir_core.specs.Units.{has_result, results}
use Rattle.ir_grammar.specs.Words.{begins_attribute}
use Rattle.ir_instruction_trees.specs.declared.tree.Instruction.{Instruction}
use Rattle.ir_tree.specs.declared.tree.Block.{Block as BlockText}
use Rattle.ir_tree.specs.declared.modules.InstructionList.{InstructionList}
use Rattle.ir_tree.specs.declared.modules.BlockList.{BlockList}
use Rattle.ir_instruction_trees.specs.Instructions.{instruction}
use Rattle.ir_tree.specs.Modules.{ends_block, instruction_turn, instructions, block_label, block, block_turn, block_list, body}
use Rattle.ir_print.specs.Instructions.{result_text, op_text}
use Rattle.ir_print.specs.Modules.{next_value, insts_text, blocks_text}
use Rattle.ir_print_names.proofs.NamesBack.{run_front, run_back, digits_are_names}
use Rattle.ir_print_laws.specs.FormTrees.{IsBlockName}
use Rattle.ir_print_laws.proofs.Joined.{◌▸◌, nest3, nest5}
use Rattle.ir_print_laws.proofs.Tokens.{Ends, decimal_digits}
use Rattle.ir_print_laws.proofs.Segments.{Seg, all_turns}
use Rattle.ir_print_laws.specs.ModuleTrees.{IsNamed, IsInstructionTree, AreInstructionTrees, AreBlockTrees}
use Rattle.ir_print_laws.specs.Written.{Each, IsWrittenInstruction, IsWrittenBlock}
use Rattle.ir_print_laws.proofs.Lists.{texts, AreRead, items_back, behind}
use Rattle.ir_print_laws.proofs.CallsBack.{Stops}
use Rattle.ir_print_laws.proofs.LinesBack.{line_text, Begins, result, operation, line_back}

-- ---- what stands behind a line

abbrev first_token : Token × List ℕ → Token
first_token x = x.0

-- a token by which a line, a label or the end of a body begins
pub data Goes : Token → Type 0 where
  line : {token : Token} → Begins token → Goes token
  labels : {name : List ℕ} → Goes (label Bare name)
  closes : Goes (mark 125)

-- the next line begins behind a line feed
pub record Follows (r : List ℕ) : Type 0 where
  pub rest : List ℕ
  pub is : r ≡ 10 ∷ rest
  pub goes : Goes (token_at r).0

goes_no_comma : (token : Token) → Goes token → is_mark 44 token ≡ false
goes_no_comma _ (line result) = refl
goes_no_comma _ (line (operation e)) = refl
goes_no_comma _ labels = refl
goes_no_comma _ closes = refl

goes_plain : (token second : Token) → Goes token → begins_attribute token second ≡ false
goes_plain _ second (line result) = refl
goes_plain _ second (line (operation e)) = rw e refl
goes_plain _ second labels = refl
goes_plain _ second closes = refl

pub follows_stop : (r : List ℕ) → Follows r → Stops r
follows_stop r f = record { ends = subst Ends (sym f.is) (record { no_name = refl; no_colon = refl }); comma = goes_no_comma (token_at r).0 f.goes; attribute = goes_plain (token_at r).0 _ f.goes }

-- ---- instructions

abbrev lines_state : List Instruction → InstructionList
lines_state given = record { instructions = given }

line_turn : (before : List Instruction) (given : Instruction) (t r : List ℕ) (token : Token) → (token_at t).0 ≡ token → Begins token → instruction.Is t (Some given) r → (instruction_turn (lines_state before)).Is t (true, lines_state (before ++ given ∷ [])) r
line_turn before given t r _ is result h = rw is (Some given, r, h, (refl, refl))
line_turn before given t r _ is (operation e) h = rw is (Some given, r, h, (refl, refl))

line_stop : (given : List Instruction) (r : List ℕ) → ends_block (token_at r).0 ≡ true → (instruction_turn (lines_state given)).Is r (false, lines_state given) r
line_stop given r e = rw e (refl, refl)

module _ (m : Module) (ret : Ty) where
  abbrev is_line : ℕ → Inst → Instruction → Type 0
  is_line value inst given = IsInstructionTree m ret value inst given

  line_starts : (value : ℕ) (inst : Inst) (r : List ℕ) → IsWrittenInstruction m ret inst → Follows r → Follows (line_text m ret value inst ++ r)
  line_starts value inst r has f = record { rest = _; is = refl; goes = line (line_back m ret value inst r has.0 has.1 (follows_stop r f)).begins }

  line_step : (value : ℕ) (inst : Inst) (before : List Instruction) (r : List ℕ) → IsWrittenInstruction m ret inst → Follows r
      → (given : Instruction) × (instruction_turn (lines_state before)).Is (line_text m ret value inst ++ r) (true, lines_state (before ++ given ∷ [])) r × IsInstructionTree m ret value inst given
  line_step value inst before r has f =
      let h = line_back m ret value inst r has.0 has.1 (follows_stop r f) in
      (h.line.given, line_turn before h.line.given (line_text m ret value inst ++ r) r _ refl h.begins h.line.read, h.line.tree)

  abbrev lines : ℕ → List Inst → List ℕ
  lines value insts = texts (line_text m ret) next_value value insts

  line_trees : (value : ℕ) (insts : List Inst) (given : List Instruction) → AreRead is_line next_value value insts given → AreInstructionTrees m ret value insts given
  line_trees value [] [] h = tt
  line_trees value [] (one ∷ more) h = absurd h
  line_trees value (inst ∷ insts) [] h = absurd h
  line_trees value (inst ∷ insts) (one ∷ more) h = (h.0, line_trees (next_value value inst) insts more h.1)

  instructions_are : (n : ℕ) (given : List Instruction) (t r : List ℕ) → n < most_turns → ends_block (token_at r).0 ≡ true → Seg instruction_turn n (lines_state []) t (lines_state given) r → instructions.Is t given r
  unfolding instructions
  instructions_are n given t r lt e f = (lines_state given, r, all_turns instruction_turn n _ _ _ t r lt f (line_stop given r e), (refl, refl))

  instructions_back : (value : ℕ) (insts : List Inst) (r : List ℕ) → Each (IsWrittenInstruction m ret) insts → length insts < most_turns → Follows r → ends_block (token_at r).0 ≡ true
      → (given : List Instruction) × instructions.Is (lines value insts ++ r) given r × AreInstructionTrees m ret value insts given
  instructions_back value insts r has few f e =
      let h = items_back instruction_turn lines_state (line_text m ret) next_value is_line (IsWrittenInstruction m ret) Follows line_starts line_step value insts [] r has f in
      (h.items, instructions_are (length insts) h.items (lines value insts ++ r) r few e h.seg, line_trees value insts h.items h.trees)

  lines_follow : (value : ℕ) (insts : List Inst) (r : List ℕ) → Each (IsWrittenInstruction m ret) insts → Follows r → Follows (lines value insts ++ r)
  lines_follow value insts r has f = behind instruction_turn lines_state (line_text m ret) next_value is_line (IsWrittenInstruction m ret) Follows line_starts line_step value insts r has f

  lines_shown : (value : ℕ) (insts : List Inst) (u : List ℕ) → 10 ∷ insts_text m ret value insts ++ u ≡ lines value insts ++ 10 ∷ u
  unfolding insts_text
  lines_shown value [] u = refl
  lines_shown value (inst ∷ insts) u =
      let front = codes "  " ++ result_text (has_result inst) value ++ op_text m ret inst.gives inst.op in
      ap (λ (t : List ℕ). 10 ∷ t) (nest3 front (codes "\n") (insts_text m ret (next_value value inst) insts) u)
      ∙ ap (λ (t : List ℕ). line_text m ret value inst ++ t) (lines_shown (next_value value inst) insts u)
      ∙ sym (append_assoc (line_text m ret value inst) (lines (next_value value inst) insts) (10 ∷ u))

-- ---- labels

labelled_is : (s : List ℕ) (name rest : List ℕ) → front is_name_byte s ≡ name → back is_name_byte s ≡ 58 ∷ rest → labelled (bare_run s) (word_token s) ≡ (label Bare name, rest)
labelled_is s name rest f b = labelled_by (front is_name_byte s) (back is_name_byte s) name rest f b (word_token s)
  where
    labelled_by : (x y name rest : List ℕ) → x ≡ name → y ≡ 58 ∷ rest → (other : Token × List ℕ) → labelled (Bare, x, y) other ≡ (label Bare name, rest)
    labelled_by x y name rest p q other = rw (p, q) refl

label_token : (k : ℕ) (t : List ℕ) → token_at (10 ∷ 98 ∷ decimal k ++ 58 ∷ t) ≡ (label Bare (98 ∷ decimal k), t)
unfolding token_at behind_blanks
label_token k t =
    let names = digits_are_names (decimal k) (decimal_digits k) in
    labelled_is (98 ∷ decimal k ++ 58 ∷ t) (98 ∷ decimal k) t (run_front is_name_byte (98 ∷ decimal k) (58 ∷ t) names refl) (run_back is_name_byte (98 ∷ decimal k) (58 ∷ t) names refl)

label_read : (k : ℕ) (t r : List ℕ) → token_at t ≡ (label Bare (98 ∷ decimal k), r) → (name : Name) × label_name.Is t name r × IsBlockName k name
unfolding label_name
label_read k t r e = (record { spelling = Bare; bytes = 98 ∷ decimal k; left = left_at t }, (left_at t, t, (refl, refl), rw e (refl, refl)), (refl, refl))

block_is : (first : Bool) (name : Name) (given : List Instruction) (t u r : List ℕ) (written : List ℕ) → token_at t ≡ (label Bare written, u) → label_name.Is t name u → instructions.Is u given r
    → (block first).Is t (record { label = Some name; instructions = given }) r
unfolding block block_label
block_is first name given t u r written e h f = (Some name, u, rw e (name, u, h, (refl, refl)), (given, r, f, (refl, refl)))

-- ---- blocks

abbrev blocks_state : List BlockText → BlockList
blocks_state given = record { blocks = given }

block_turns : (before : List BlockText) (one : BlockText) (t u r : List ℕ) (written : List ℕ) → token_at t ≡ (label Bare written, u) → (block (nat_eq (length before) 0)).Is t one r → (block_turn (blocks_state before)).Is t (true, blocks_state (before ++ one ∷ [])) r
block_turns before one t u r written e h = rw e (one, r, h, (refl, refl))

-- behind a block
record BlockFollows (r : List ℕ) : Type 0 where
  follows : Follows r
  ends : ends_block (token_at r).0 ≡ true

-- the number of a block, and of its first result
abbrev Place : Type 0
Place = ℕ × ℕ

abbrev next_place : Place → Block → Place
next_place i one = (i.0 + 1, i.1 + results one.insts)

module _ (m : Module) (ret : Ty) where
  abbrev block_text : Place → Block → List ℕ
  block_text i one = 10 ∷ 98 ∷ decimal i.0 ++ 58 ∷ lines m ret i.1 one.insts

  abbrev is_block : Place → Block → BlockText → Type 0
  is_block i one given = IsNamed (IsBlockName i.0) given.label × AreInstructionTrees m ret i.1 one.insts given.instructions

  block_shown : (i : Place) (one : Block) (r : List ℕ) → block_text i one ++ r ≡ (10 ∷ 98 ∷ decimal i.0) ▸ (58 ∷ lines m ret i.1 one.insts) ▸ r
  block_shown i one r = ap (λ (t : List ℕ). 10 ∷ 98 ∷ t) (append_assoc (decimal i.0) (58 ∷ lines m ret i.1 one.insts) r)

  block_stands : (i : Place) (one : Block) (r : List ℕ) → token_at (block_text i one ++ r) ≡ (label Bare (98 ∷ decimal i.0), lines m ret i.1 one.insts ++ r)
  block_stands i one r = ap (λ (t : List ℕ). token_at t) (block_shown i one r) ∙ label_token i.0 (lines m ret i.1 one.insts ++ r)

  label_follows : (t u : List ℕ) (k : ℕ) → token_at t ≡ (label Bare (98 ∷ decimal k), u) → (rest : List ℕ) → t ≡ 10 ∷ rest → BlockFollows t
  label_follows t u k e rest is = record { follows = record { rest = rest; is = is; goes = subst (λ (x : Token × List ℕ). Goes x.0) (sym e) labels }; ends = ap (λ (x : Token × List ℕ). ends_block x.0) e }

  block_starts : (i : Place) (one : Block) (r : List ℕ) → IsWrittenBlock m ret one → BlockFollows r → BlockFollows (block_text i one ++ r)
  block_starts i one r has f = label_follows (block_text i one ++ r) _ i.0 (block_stands i one r) _ refl

  block_step : (i : Place) (one : Block) (before : List BlockText) (r : List ℕ) → IsWrittenBlock m ret one → BlockFollows r
      → (given : BlockText) × (block_turn (blocks_state before)).Is (block_text i one ++ r) (true, blocks_state (before ++ given ∷ [])) r × is_block i one given
  block_step i one before r has f =
      let t = block_text i one ++ r in
      let e = block_stands i one r in
      let name = label_read i.0 t _ e in
      let list = instructions_back m ret i.1 one.insts r has.0 has.1 f.follows f.ends in
      let read = block_is (nat_eq (length before) 0) name.0 list.0 t _ r _ e name.1 list.1 in
      (_, block_turns before _ t _ r _ e read, ((name.0, refl, name.2), list.2))

  abbrev block_texts : Place → List Block → List ℕ
  block_texts i blocks = texts block_text next_place i blocks

  block_trees : (i : Place) (blocks : List Block) (given : List BlockText) → AreRead is_block next_place i blocks given → AreBlockTrees m ret i.0 i.1 blocks given
  block_trees i [] [] h = tt
  block_trees i [] (one ∷ more) h = absurd h
  block_trees i (one ∷ blocks) [] h = absurd h
  block_trees i (one ∷ blocks) (given ∷ more) h = (h.0.0, (h.0.1, block_trees (next_place i one) blocks more h.1))

  blocks_shown : (number value : ℕ) (blocks : List Block) (u : List ℕ) → 10 ∷ blocks_text m ret number value blocks ++ u ≡ block_texts (number, value) blocks ++ 10 ∷ u
  unfolding blocks_text
  blocks_shown number value [] u = refl
  blocks_shown number value (one ∷ blocks) u =
      let rest = blocks_text m ret (number + 1) (value + results one.insts) blocks ++ u in
      ap (λ (t : List ℕ). 10 ∷ t) (nest5 (codes "b") (decimal number) (codes ":\n") (insts_text m ret value one.insts) (blocks_text m ret (number + 1) (value + results one.insts) blocks) u)
      ∙ ap (λ (t : List ℕ). (10 ∷ 98 ∷ decimal number) ▸ 58 ∷ t) (lines_shown m ret value one.insts rest)
      ∙ ap (λ (t : List ℕ). (10 ∷ 98 ∷ decimal number) ▸ (58 ∷ lines m ret value one.insts) ▸ t) (blocks_shown (number + 1) (value + results one.insts) blocks u)
      ∙ sym (block_shown (number, value) one (block_texts (number + 1, value + results one.insts) blocks ++ 10 ∷ u))
      ∙ sym (append_assoc (block_text (number, value) one) (block_texts (number + 1, value + results one.insts) blocks) (10 ∷ u))

closes_here : (t : List ℕ) → token_at (10 ∷ 125 ∷ t) ≡ (mark 125, t)
unfolding token_at behind_blanks
closes_here t = refl

close_follows : (t : List ℕ) → BlockFollows (10 ∷ 125 ∷ t)
close_follows t = record { follows = record { rest = _; is = refl; goes = subst (λ (x : Token × List ℕ). Goes x.0) (sym (closes_here t)) closes }; ends = ap (λ (x : Token × List ℕ). ends_block x.0) (closes_here t) }

blocks_stop : (given : List BlockText) (t : List ℕ) → (block_turn (blocks_state given)).Is (10 ∷ 125 ∷ t) (false, blocks_state given) (10 ∷ 125 ∷ t)
blocks_stop given t = rw (closes_here t) (refl, refl)

list_are : (n : ℕ) (given : List BlockText) (t r : List ℕ) → n < most_turns → Seg block_turn n (blocks_state []) t (blocks_state given) (10 ∷ 125 ∷ r) → block_list.Is t given (10 ∷ 125 ∷ r)
unfolding block_list
list_are n given t r lt f = (blocks_state given, 10 ∷ 125 ∷ r, all_turns block_turn n _ _ _ t (10 ∷ 125 ∷ r) lt f (blocks_stop given r), (refl, refl))

opens_body : (t : List ℕ) → (punctuation 123).Is (32 ∷ 123 ∷ t) tt t
unfolding punctuation token_at behind_blanks
opens_body t = (refl, refl)

closes_body : (t : List ℕ) → (punctuation 125).Is (10 ∷ 125 ∷ t) tt t
unfolding punctuation token_at behind_blanks
closes_body t = (refl, refl)

body_is : (given : List BlockText) (t r : List ℕ) → block_list.Is t given (10 ∷ 125 ∷ r) → body.Is (32 ∷ 123 ∷ t) given r
unfolding body
body_is given t r h = (tt, t, opens_body t, (given, 10 ∷ 125 ∷ r, h, (tt, r, closes_body r, (refl, refl))))

-- ` {`, the blocks and `}`
pub body_back : (m : Module) (ret : Ty) (value : ℕ) (blocks : List Block) (r : List ℕ) → Each (IsWrittenBlock m ret) blocks → length blocks < most_turns
    → (given : List BlockText) × body.Is (32 ∷ 123 ∷ 10 ∷ blocks_text m ret 0 value blocks ++ 125 ∷ r) given r × AreBlockTrees m ret 0 value blocks given
body_back m ret value blocks r has few =
    let u = 10 ∷ 125 ∷ r in
    let h = items_back block_turn blocks_state (block_text m ret) next_place (is_block m ret) (IsWrittenBlock m ret) BlockFollows (block_starts m ret) (block_step m ret) (0, value) blocks [] u has (close_follows r) in
    let read = body_is h.items (block_texts m ret (0, value) blocks ++ u) r (list_are (length blocks) h.items _ r few h.seg) in
    let shown = ap (λ (t : List ℕ). 32 ∷ 123 ∷ t) (blocks_shown m ret 0 value blocks (125 ∷ r)) in
    (h.items, subst (λ (t : List ℕ). body.Is t h.items r) (sym shown) read, block_trees m ret (0, value) blocks h.items h.trees)
