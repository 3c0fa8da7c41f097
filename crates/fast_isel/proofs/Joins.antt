-- The pieces of an edge, a branch and a block, put one behind another.
use Rattle.std.proofs.Common.{◌≡◌, ◌≢◌, refl, sym, ap, subst, ◌∙◌, ℕ, zero, suc, ◌+◌, ◌-◌, ◌^◌, ◌<◌, ◌≤◌, ◌⊎◌, inl, inr, List, [], ◌∷◌, ◌++◌, length, get_or, Some, None, Bool, true, false, cond, arith, append_assoc}
use Rattle.std.specs.Prelude.{slice_get, take, drop, nat_lt, ◌==◌, ◌&&◌}
use Rattle.std.proofs.Math.Seq.{drop-cons}
use Rattle.std.proofs.lemmas.List.{append-nil, length-drop}
use Rattle.std.proofs.lemmas.Bool.{and_parts, ltb-true, eq-eqb, ne_eqb}
use Rattle.std.proofs.lemmas.Option.{slice_get_read}
use Rattle.ir_core.specs.declared.code.Op.{Op}
use Rattle.ir_core.specs.declared.code.Op.TheVariants.{Binary, Icmp, Cast, Select, Freeze, Phi, Alloca, Load, Store, Gep, Call, BuiltIn as CallBuiltIn, Ret, Br, CondBr, Switch, Unreachable}
use Rattle.ir_core.specs.declared.code.Operand.{Operand}
use Rattle.ir_core.specs.declared.code.Operand.TheVariants.{Num}
use Rattle.ir_core.specs.declared.code.Inst.{Inst}
use Rattle.ir_core.specs.declared.program.Function.{Function}
use Rattle.ir_core.specs.declared.program.Global.{Global}
use Rattle.ir_core.specs.Units.{frame, has_result, is_result}
use Rattle.rv_core.specs.declared.instr.BranchOp.{BranchOp}
use Rattle.rv_core.specs.declared.instr.BranchOp.TheVariants.{Beq}
use Rattle.rv_core.specs.declared.reg.Reg.TheVariants.{X0, T0, T1}
use Rattle.rv_asm.specs.Code.{Code}
use Rattle.ir_meaning.specs.Step.{insts_at, number_at, on_edge, phis}
use Rattle.code_pieces.specs.Code.{store_value, prologue}
use Rattle.quick_code.specs.Operations.{value_code}
use Rattle.fast_isel.specs.Taken.{are_cases, are_edge_operands, is_form, are_forms}
use Rattle.code_pieces.specs.Items.{Item, Bind, Goto, Test, plain}
use Rattle.quick_code.specs.Blocks.{label_count, is_headless, first_to, case_label, case_edge, case_edges, are_headless, switch_edges, cases_items, switch_items, load_next, next_code, next_of, nexts_code, edge_code, block_label, edge_label, edge_items, last_edge_items, branch_items, phis_code, op_items, insts_items, block_items, blocks_items, arguments_code}
use Rattle.quick_code.specs.Forms.{IsFlow, IsJump}
use Rattle.code_pieces.specs.Bytes.{save_code}
use Rattle.quick_code.specs.Data.{takes_data}
use Rattle.code_pieces.specs.Assembly.{put, labelled}
use Rattle.quick_code.specs.Assembly.{code_of}
use Rattle.code_emit.specs.Written.{put_code}
use Rattle.fast_isel.specs.Written.{AreFree}
use Rattle.code_pieces.proofs.Rising.{Rise, rise-plain}
use Rattle.quick_code.proofs.Fresh.{rise-edge, rise-case, rise-cases, rise-op, rise-block, EndsByJump, ends-drop, none-behind}
use Rattle.code_emit.proofs.Put.{put-none, then-put, code_none, code_is, code_put, more_code, code_code}
use Rattle.fast_isel.proofs.Counts.{one_if, number-step, free-behind, free-label, free-first}

-- ---- edges

pub goto_edge : (globals : List Global) (function : Function) (old one new : Code) (from to : ℕ) → one ≡ put_code old (edge_code globals function from to) → new ≡ put one (Goto (block_label function to) ∷ []) → new ≡ put old (edge_items globals function from to)
goto_edge globals function old one new from to h k = k ∙ ap (λ (c : Code). put c (Goto (block_label function to) ∷ [])) h ∙ code_put old (edge_code globals function from to) (Goto (block_label function to) ∷ [])

pub last_next : (globals : List Global) (function : Function) (old new : Code) (from to : ℕ) → to ≡ from + 1 → new ≡ put_code old (edge_code globals function from to) → new ≡ put old (last_edge_items globals function from to)
last_next globals function old new from to next h =
    h ∙ code_is old (edge_code globals function from to) ∙ ap (put old) (sym (append-nil (plain (edge_code globals function from to))))
    ∙ ap (λ (b : Bool). put old (plain (edge_code globals function from to) ++ cond b [] (Goto (block_label function to) ∷ []))) (sym (eq-eqb to (from + 1) next))

pub last_goto : (globals : List Global) (function : Function) (old one new : Code) (from to : ℕ) → to ≢ from + 1 → one ≡ put_code old (edge_code globals function from to) → new ≡ put one (Goto (block_label function to) ∷ []) → new ≡ put old (last_edge_items globals function from to)
last_goto globals function old one new from to other h k =
    goto_edge globals function old one new from to h k
    ∙ ap (λ (b : Bool). put old (plain (edge_code globals function from to) ++ cond b [] (Goto (block_label function to) ∷ []))) (sym (ne_eqb to (from + 1) other))

-- ---- a branch

pub branch_put : (globals : List Global) (function : Function) (old one two three four new : Code) (block : ℕ) (op : BranchOp) (condition : Operand) (fails holds : ℕ) → one ≡ put_code old (value_code globals T0 condition)
    → two ≡ put one (Test op T0 X0 (edge_label function block) ∷ []) → three ≡ put two (edge_items globals function block fails) → four ≡ put three (Bind (edge_label function block) ∷ [])
    → new ≡ put four (last_edge_items globals function block holds) → new ≡ put old (branch_items globals function block op condition fails holds)
branch_put globals function old one two three four new block op condition fails holds h1 h2 h3 h4 h5 =
    let l = edge_label function block in
    let e3 = then-put three four new (Bind l ∷ []) (last_edge_items globals function block holds) h4 h5 in
    let e2 = then-put two three new (edge_items globals function block fails) (Bind l ∷ last_edge_items globals function block holds) h3 e3 in
    let e1 = then-put one two new (Test op T0 X0 l ∷ []) (edge_items globals function block fails ++ Bind l ∷ last_edge_items globals function block holds) h2 e2 in
    e1 ∙ ap (λ (c : Code). put c (Test op T0 X0 l ∷ (edge_items globals function block fails ++ Bind l ∷ last_edge_items globals function block holds))) h1
    ∙ code_put old (value_code globals T0 condition) (Test op T0 X0 l ∷ (edge_items globals function block fails ++ Bind l ∷ last_edge_items globals function block holds))

-- its label stands nowhere before it is put
pub branch_free : (globals : List Global) (function : Function) (old one two three : Code) (block : ℕ) (op : BranchOp) (condition : Operand) (fails : ℕ) → one ≡ put_code old (value_code globals T0 condition)
    → two ≡ put one (Test op T0 X0 (edge_label function block) ∷ []) → three ≡ put two (edge_items globals function block fails) → slice_get old.bound (edge_label function block) ≡ Some None → slice_get three.bound (edge_label function block) ≡ Some None
branch_free globals function old one two three block op condition fails h1 h2 h3 free =
    let l = edge_label function block in
    free-label two three (edge_items globals function block fails) l (rise-edge globals function block fails l) h3
    (free-label one two (Test op T0 X0 l ∷ []) l (omega arith) h2
    (free-label old one (plain (value_code globals T0 condition)) l (rise-plain (value_code globals T0 condition) l) (h1 ∙ code_is old (value_code globals T0 condition)) free))

-- ---- a switch

cases-past : (cases : List (ℕ × ℕ)) (i : ℕ) → length cases ≤ i → drop i cases ≡ []
cases-past [] zero le = refl
cases-past [] (suc i) le = refl
cases-past (x ∷ xs) zero le = absurd (let bad : ⊥ = omega (arith, le) in bad)
cases-past (x ∷ xs) (suc i) le = cases-past xs i (omega (arith, le))

cases-left : (cases : List (ℕ × ℕ)) (i : ℕ) (d : ℕ × ℕ) → i < length cases → drop i cases ≡ get_or cases i d ∷ drop (i + 1) cases
cases-left cases i d lt = drop-cons cases i d lt ∙ ap (λ (k : ℕ). get_or cases i d ∷ drop k cases) (let z : suc i ≡ i + 1 = omega arith in z)

pub case_put : (globals : List Global) (old one new : Code) (number label : ℕ) → one ≡ put_code old (value_code globals T1 (Num number)) → new ≡ put one (Test Beq T0 T1 label ∷ [])
    → new ≡ put old (plain (value_code globals T1 (Num number)) ++ Test Beq T0 T1 label ∷ [])
case_put globals old one new number label h k = k ∙ ap (λ (c : Code). put c (Test Beq T0 T1 label ∷ [])) h ∙ code_put old (value_code globals T1 (Num number)) (Test Beq T0 T1 label ∷ [])

pub cases_more : (globals : List Global) (function : Function) (block : ℕ) (every : List (ℕ × ℕ)) (old one total : Code) (i label : ℕ) (d : ℕ × ℕ) → i < length every → put old (cases_items globals function block every (drop i every)) ≡ total
    → label ≡ case_label function block every (get_or every i d).1 → one ≡ put old (plain (value_code globals T1 (Num (get_or every i d).0)) ++ Test Beq T0 T1 label ∷ [])
    → put one (cases_items globals function block every (drop (i + 1) every)) ≡ total
cases_more globals function block every old one total i label d lt h is e =
    let x = get_or every i d in
    let rest = cases_items globals function block every (drop (i + 1) every) in
    let test : List Item = plain (value_code globals T1 (Num x.0)) in
    then-put old one (put one rest) (test ++ Test Beq T0 T1 (case_label function block every x.1) ∷ []) rest (e ∙ ap (λ (l : ℕ). put old (test ++ Test Beq T0 T1 l ∷ [])) is) refl
    ∙ ap (put old) (append_assoc test (Test Beq T0 T1 (case_label function block every x.1) ∷ []) rest)
    ∙ ap (λ (xs : List (ℕ × ℕ)). put old (cases_items globals function block every xs)) (sym (cases-left every i d lt))
    ∙ h

pub cases_done : (globals : List Global) (function : Function) (block : ℕ) (every : List (ℕ × ℕ)) (old total : Code) (i : ℕ) → length every ≤ i → put old (cases_items globals function block every (drop i every)) ≡ total → old ≡ total
cases_done globals function block every old total i le h = sym (put-none old) ∙ ap (λ (xs : List (ℕ × ℕ)). put old (cases_items globals function block every xs)) (sym (cases-past every i le)) ∙ h

pub cases_sound : (blocks : ℕ) (cases : List (ℕ × ℕ)) (i : ℕ) (d : ℕ × ℕ) → i < length cases → are_cases blocks (drop i cases) ≡ true
    → ((get_or cases i d).0 < 2 ^ 64) × ((get_or cases i d).1 < blocks) × (are_cases blocks (drop (i + 1) cases) ≡ true)
cases_sound blocks cases i d lt h =
    let x = get_or cases i d in
    let outer = and_parts (nat_lt x.0 (2 ^ 64) && nat_lt x.1 blocks) (are_cases blocks (drop (i + 1) cases)) (sym (ap (are_cases blocks) (cases-left cases i d lt)) ∙ h) in
    let inner = and_parts (nat_lt x.0 (2 ^ 64)) (nat_lt x.1 blocks) outer.0 in
    (ltb-true x.0 (2 ^ 64) inner.0, ltb-true x.1 blocks inner.1, outer.1)

-- the first case that leads to a block
pub first_found : (to : ℕ) (cases : List (ℕ × ℕ)) (i : ℕ) (d : ℕ × ℕ) → i < length cases → (get_or cases i d).1 ≡ to → first_to i to (drop i cases) ≡ i
first_found to cases i d lt is =
    ap (first_to i to) (cases-left cases i d lt) ∙ ap (λ (b : Bool). cond b i (first_to (i + 1) to (drop (i + 1) cases))) (eq-eqb (get_or cases i d).1 to is)

pub first_further : (to : ℕ) (cases : List (ℕ × ℕ)) (i : ℕ) (d : ℕ × ℕ) → i < length cases → (get_or cases i d).1 ≢ to → first_to i to (drop i cases) ≡ first_to (i + 1) to (drop (i + 1) cases)
first_further to cases i d lt other =
    ap (first_to i to) (cases-left cases i d lt) ∙ ap (λ (b : Bool). cond b i (first_to (i + 1) to (drop (i + 1) cases))) (ne_eqb (get_or cases i d).1 to other)

pub first_none : (to : ℕ) (cases : List (ℕ × ℕ)) (i : ℕ) → length cases ≤ i → first_to i to (drop i cases) ≡ i
first_none to cases i le = ap (first_to i to) (cases-past cases i le)

-- the label of a case, and its edge
pub case_head : (function : Function) (block to : ℕ) (every : List (ℕ × ℕ)) → is_headless (phis (insts_at function to)) ≡ true → case_label function block every to ≡ block_label function to
case_head function block to every e = ap (λ (b : Bool). cond b (block_label function to) (edge_label function block + first_to 0 to every)) e

pub case_other : (function : Function) (block to : ℕ) (every : List (ℕ × ℕ)) → is_headless (phis (insts_at function to)) ≡ false → case_label function block every to ≡ edge_label function block + first_to 0 to every
case_other function block to every e = ap (λ (b : Bool). cond b (block_label function to) (edge_label function block + first_to 0 to every)) e

pub edge_head : (globals : List Global) (function : Function) (block number to : ℕ) (every : List (ℕ × ℕ)) (old : Code) → is_headless (phis (insts_at function to)) ≡ true → old ≡ put old (case_edge globals function block every number to)
edge_head globals function block number to every old e =
    sym (put-none old)
    ∙ ap (λ (b : Bool). put old (cond b [] (cond (first_to 0 to every == number) (Bind (edge_label function block + number) ∷ edge_items globals function block to) []))) (sym e)

pub edge_later : (globals : List Global) (function : Function) (block number to : ℕ) (every : List (ℕ × ℕ)) (old : Code) → is_headless (phis (insts_at function to)) ≡ false → first_to 0 to every ≢ number
    → old ≡ put old (case_edge globals function block every number to)
edge_later globals function block number to every old e other =
    sym (put-none old)
    ∙ ap (λ (b : Bool). put old (cond b (Bind (edge_label function block + number) ∷ edge_items globals function block to) [])) (sym (ne_eqb (first_to 0 to every) number other))
    ∙ ap (λ (b : Bool). put old (cond b [] (cond (first_to 0 to every == number) (Bind (edge_label function block + number) ∷ edge_items globals function block to) []))) (sym e)

pub edge_first : (globals : List Global) (function : Function) (block number to : ℕ) (every : List (ℕ × ℕ)) (old one new : Code) → is_headless (phis (insts_at function to)) ≡ false → first_to 0 to every ≡ number
    → one ≡ put old (Bind (edge_label function block + number) ∷ []) → new ≡ put one (edge_items globals function block to) → new ≡ put old (case_edge globals function block every number to)
edge_first globals function block number to every old one new e is h k =
    then-put old one new (Bind (edge_label function block + number) ∷ []) (edge_items globals function block to) h k
    ∙ ap (λ (b : Bool). put old (cond b (Bind (edge_label function block + number) ∷ edge_items globals function block to) [])) (sym (eq-eqb (first_to 0 to every) number is))
    ∙ ap (λ (b : Bool). put old (cond b [] (cond (first_to 0 to every == number) (Bind (edge_label function block + number) ∷ edge_items globals function block to) []))) (sym e)

pub edges_more : (globals : List Global) (function : Function) (block : ℕ) (every : List (ℕ × ℕ)) (old one total : Code) (i : ℕ) (d : ℕ × ℕ) → i < length every → put old (case_edges globals function block every i (drop i every)) ≡ total
    → one ≡ put old (case_edge globals function block every i (get_or every i d).1) → put one (case_edges globals function block every (i + 1) (drop (i + 1) every)) ≡ total
edges_more globals function block every old one total i d lt h e =
    let rest = case_edges globals function block every (i + 1) (drop (i + 1) every) in
    then-put old one (put one rest) (case_edge globals function block every i (get_or every i d).1) rest e refl
    ∙ ap (λ (xs : List (ℕ × ℕ)). put old (case_edges globals function block every i xs)) (sym (cases-left every i d lt))
    ∙ h

pub edges_done : (globals : List Global) (function : Function) (block : ℕ) (every : List (ℕ × ℕ)) (old total : Code) (i : ℕ) → length every ≤ i → put old (case_edges globals function block every i (drop i every)) ≡ total → old ≡ total
edges_done globals function block every old total i le h = sym (put-none old) ∙ ap (λ (xs : List (ℕ × ℕ)). put old (case_edges globals function block every i xs)) (sym (cases-past every i le)) ∙ h

-- the labels behind that of a case are free behind its edge
pub edges_free : (globals : List Global) (function : Function) (block number to : ℕ) (every : List (ℕ × ℕ)) (old one : Code) → one ≡ put old (case_edge globals function block every number to) → AreFree function (edge_label function block + number) old
    → AreFree function (edge_label function block + (number + 1)) one
edges_free globals function block number to every old one e free =
    free-behind function old one (case_edge globals function block every number to) (edge_label function block + number) (edge_label function block + (number + 1)) (rise-case globals function block every number to) e free

pub switch_last : (globals : List Global) (function : Function) (old new : Code) (block otherwise : ℕ) (cases : List (ℕ × ℕ)) → are_headless function cases ≡ true → new ≡ put old (last_edge_items globals function block otherwise)
    → new ≡ put old (switch_edges globals function block otherwise cases)
switch_last globals function old new block otherwise cases e h =
    h ∙ ap (λ (b : Bool). put old (cond b (last_edge_items globals function block otherwise) (edge_items globals function block otherwise ++ case_edges globals function block cases 0 cases))) (sym e)

pub switch_more : (globals : List Global) (function : Function) (old one new : Code) (block otherwise : ℕ) (cases : List (ℕ × ℕ)) → are_headless function cases ≡ false → one ≡ put old (edge_items globals function block otherwise)
    → new ≡ put one (case_edges globals function block cases 0 cases) → new ≡ put old (switch_edges globals function block otherwise cases)
switch_more globals function old one new block otherwise cases e h k =
    then-put old one new (edge_items globals function block otherwise) (case_edges globals function block cases 0 cases) h k
    ∙ ap (λ (b : Bool). put old (cond b (last_edge_items globals function block otherwise) (edge_items globals function block otherwise ++ case_edges globals function block cases 0 cases))) (sym e)

pub otherwise_free : (globals : List Global) (function : Function) (old one : Code) (block otherwise : ℕ) → one ≡ put old (edge_items globals function block otherwise) → AreFree function (edge_label function block) old
    → AreFree function (edge_label function block) one
otherwise_free globals function old one block otherwise e free =
    free-behind function old one (edge_items globals function block otherwise) (edge_label function block) (edge_label function block) (rise-edge globals function block otherwise (edge_label function block)) e free

pub switch_put : (globals : List Global) (function : Function) (old one two new : Code) (block : ℕ) (value : Operand) (otherwise : ℕ) (cases : List (ℕ × ℕ)) → one ≡ put_code old (value_code globals T0 value)
    → two ≡ put one (cases_items globals function block cases cases) → new ≡ put two (switch_edges globals function block otherwise cases) → new ≡ put old (switch_items globals function block value otherwise cases)
switch_put globals function old one two new block value otherwise cases h1 h2 h3 =
    let tests = cases_items globals function block cases cases in
    let tail = tests ++ switch_edges globals function block otherwise cases in
    then-put one two new tests (switch_edges globals function block otherwise cases) h2 h3 ∙ ap (λ (c : Code). put c tail) h1 ∙ code_put old (value_code globals T0 value) tail

-- the labels of a switch's edges are free behind its tests
pub switch_free : (globals : List Global) (function : Function) (old one two : Code) (block : ℕ) (value : Operand) (cases : List (ℕ × ℕ)) → one ≡ put_code old (value_code globals T0 value) → two ≡ put one (cases_items globals function block cases cases)
    → AreFree function (edge_label function block) old → AreFree function (edge_label function block) two
switch_free globals function old one two block value cases h1 h2 free =
    let l = edge_label function block in
    free-behind function one two (cases_items globals function block cases cases) l l (rise-cases globals function block cases cases l) h2
    (free-behind function old one (plain (value_code globals T0 value)) l l (rise-plain (value_code globals T0 value) l) (h1 ∙ code_is old (value_code globals T0 value)) free)

-- ---- the instructions of a block

nothing-left : (insts : List Inst) (i : ℕ) → length insts ≤ i → drop i insts ≡ []
nothing-left [] zero le = refl
nothing-left [] (suc i) le = refl
nothing-left (x ∷ xs) zero le = absurd (let bad : ⊥ = omega (arith, le) in bad)
nothing-left (x ∷ xs) (suc i) le = nothing-left xs i (omega (arith, le))

pub split_at : (insts : List Inst) (i : ℕ) (d : Inst) → i < length insts → drop i insts ≡ get_or insts i d ∷ drop (i + 1) insts
split_at insts i d lt = drop-cons insts i d lt ∙ ap (λ (k : ℕ). get_or insts i d ∷ drop k insts) (let z : suc i ≡ i + 1 = omega arith in z)

-- one instruction more is put
pub insts_more : (globals : List Global) (function : Function) (room : ℕ) (old one total : Code) (fr block place next : ℕ) (insts : List Inst) (i : ℕ) (inst : Inst) → i < length insts → inst ≡ get_or insts i inst → next ≡ place + 1
    → put old (insts_items globals function room fr block place (drop i insts)) ≡ total → one ≡ put old (op_items globals function room fr block (number_at function block place) inst.gives inst.op)
    → put one (insts_items globals function room fr block next (drop (i + 1) insts)) ≡ total
insts_more globals function room old one total fr block place next insts i inst lt is follows h e =
    let items = op_items globals function room fr block (number_at function block place) inst.gives inst.op in
    let rest = insts_items globals function room fr block (place + 1) (drop (i + 1) insts) in
    let all : drop i insts ≡ inst ∷ drop (i + 1) insts = split_at insts i inst lt ∙ ap (λ (x : Inst). x ∷ drop (i + 1) insts) (sym is) in
    ap (λ (k : ℕ). put one (insts_items globals function room fr block k (drop (i + 1) insts))) follows
    ∙ then-put old one (put one rest) items rest e refl
    ∙ ap (λ (xs : List Inst). put old (insts_items globals function room fr block place xs)) (sym all)
    ∙ h

pub insts_done : (globals : List Global) (function : Function) (room : ℕ) (old total : Code) (fr block place : ℕ) (insts : List Inst) (i : ℕ) → length insts ≤ i → put old (insts_items globals function room fr block place (drop i insts)) ≡ total → old ≡ total
insts_done globals function room old total fr block place insts i le h = sym (put-none old) ∙ ap (λ (xs : List Inst). put old (insts_items globals function room fr block place xs)) (sym (nothing-left insts i le)) ∙ h

-- the label at the end of a block stands nowhere yet, or nothing is left
pub free_more : (globals : List Global) (function : Function) (room : ℕ) (old one : Code) (fr block number : ℕ) (insts : List Inst) (i : ℕ) (inst : Inst) → i < length insts → inst ≡ get_or insts i inst → EndsByJump (drop i insts)
    → one ≡ put old (op_items globals function room fr block number inst.gives inst.op) → ((drop i insts ≡ []) ⊎ AreFree function (edge_label function block) old) → (drop (i + 1) insts ≡ []) ⊎ AreFree function (edge_label function block) one
free_more globals function room old one fr block number insts i inst lt is ends e (inl none) =
    let all = split_at insts i inst lt in
    absurd (let bad : get_or insts i inst ∷ drop (i + 1) insts ≡ [] = sym all ∙ none in cc)
free_more globals function room old one fr block number insts i inst lt is ends e (inr free) = by_kind (rise-op globals function room fr block number (edge_label function block) inst.gives inst.op)
  where
    all : drop i insts ≡ inst ∷ drop (i + 1) insts
    all = split_at insts i inst lt ∙ ap (λ (x : Inst). x ∷ drop (i + 1) insts) (sym is)

    by_kind : (Rise (edge_label function block) (edge_label function block) (op_items globals function room fr block number inst.gives inst.op)) ⊎ IsJump inst.op → (drop (i + 1) insts ≡ []) ⊎ AreFree function (edge_label function block) one
    by_kind (inl flat) = inr (free-behind function old one (op_items globals function room fr block number inst.gives inst.op) (edge_label function block) (edge_label function block) flat e free)
    by_kind (inr is-jump) = inl (none-behind inst (drop (i + 1) insts) (subst EndsByJump all ends) is-jump)

-- and so they are free where an instruction stands
pub free_here : (function : Function) (old : Code) (block : ℕ) (insts : List Inst) (i : ℕ) (inst : Inst) → i < length insts → ((drop i insts ≡ []) ⊎ AreFree function (edge_label function block) old) → AreFree function (edge_label function block) old
free_here function old block insts i inst lt (inl none) =
    let all = split_at insts i inst lt in
    absurd (let bad : get_or insts i inst ∷ drop (i + 1) insts ≡ [] = sym all ∙ none in cc)
free_here function old block insts i inst lt (inr free) = free

-- an instruction of the rest of a block
behind-at : (xs : List Inst) (place i : ℕ) (inst : Inst) → slice_get (drop place xs) i ≡ Some inst → slice_get xs (place + i) ≡ Some inst
behind-at xs zero i inst e = ap (λ (k : ℕ). slice_get xs k) (let z : 0 + i ≡ i = omega arith in z) ∙ e
behind-at [] (suc place) i inst e = absurd (let bad : ⊥ = cc in bad)
behind-at (x ∷ xs) (suc place) i inst e = ap (λ (k : ℕ). slice_get (x ∷ xs) k) (let z : suc place + i ≡ suc (place + i) = omega arith in z) ∙ behind-at xs place i inst e

pub inst_at : (function : Function) (block place : ℕ) (insts : List Inst) (i : ℕ) (inst : Inst) → insts ≡ drop place (insts_at function block) → i < length insts → inst ≡ get_or insts i inst
    → slice_get (insts_at function block) (place + i) ≡ Some inst
inst_at function block place insts i inst same lt is =
    behind-at (insts_at function block) place i inst (subst (λ (xs : List Inst). slice_get xs i ≡ Some inst) same (slice_get_read insts (length insts) i inst refl lt is))

pub insts_end : (function : Function) (flow : IsFlow function) (block place : ℕ) (insts : List Inst) (i : ℕ) → insts ≡ drop place (insts_at function block) → EndsByJump (drop i insts)
insts_end function flow block place insts i same =
    ends-drop i insts (subst EndsByJump (sym same) (ends-drop place (insts_at function block) (λ k x at is-jump. flow.ends block k x at is-jump)))

-- ---- the phis at the head of a block

pub stands_at : (function : Function) (block : ℕ) (insts : List Inst) (i : ℕ) (inst : Inst) → insts ≡ insts_at function block → i < length insts → inst ≡ get_or insts i inst → slice_get (insts_at function block) i ≡ Some inst
stands_at function block insts i inst same lt is =
    subst (λ (xs : List Inst). slice_get xs i ≡ Some inst) same (slice_get_read insts (length insts) i inst refl lt is)

phi-head : (inst : Inst) (rest : List Inst) (pairs : List (Operand × ℕ)) → inst.op ≡ Phi pairs → phis (inst ∷ rest) ≡ inst ∷ phis rest
phi-head inst rest pairs e = by_op inst.op e
  where
    by_op : (op : Op) → op ≡ Phi pairs → phis (record { gives = inst.gives; op = op } ∷ rest) ≡ record { gives = inst.gives; op = op } ∷ phis rest
    by_op op e = subst (λ (o : Op). phis (record { gives = inst.gives; op = o } ∷ rest) ≡ record { gives = inst.gives; op = o } ∷ phis rest) (sym e) refl

-- a phi is the first of those that are left
pub phi_first : (insts : List Inst) (i : ℕ) (inst : Inst) (pairs : List (Operand × ℕ)) → i < length insts → inst ≡ get_or insts i inst → inst.op ≡ Phi pairs → phis (drop i insts) ≡ inst ∷ phis (drop (i + 1) insts)
phi_first insts i inst pairs lt is e =
    ap phis (split_at insts i inst lt ∙ ap (λ (x : Inst). x ∷ drop (i + 1) insts) (sym is)) ∙ phi-head inst (drop (i + 1) insts) pairs e

-- none is left where another instruction stands
pub phi_none : (insts : List Inst) (i : ℕ) (inst : Inst) → i < length insts → inst ≡ get_or insts i inst → ((pairs : List (Operand × ℕ)) → inst.op ≡ Phi pairs → ⊥) → phis (drop i insts) ≡ []
phi_none insts i inst lt is other = ap phis (split_at insts i inst lt ∙ ap (λ (x : Inst). x ∷ drop (i + 1) insts) (sym is)) ∙ by_op inst.op other
  where
    by_op : (op : Op) → ((pairs : List (Operand × ℕ)) → op ≡ Phi pairs → ⊥) → phis (record { gives = inst.gives; op = op } ∷ drop (i + 1) insts) ≡ []
    by_op (Phi pairs) h = absurd (h pairs refl)
    by_op (Binary op flags a b) h = refl
    by_op (Icmp pred flags of a b) h = refl
    by_op (Cast op flags of a) h = refl
    by_op (Select c a b) h = refl
    by_op (Freeze a) h = refl
    by_op (Alloca of count) h = refl
    by_op (Load a) h = refl
    by_op (Store of a b) h = refl
    by_op (Gep of a indices) h = refl
    by_op (Call g arguments) h = refl
    by_op (CallBuiltIn which arguments) h = refl
    by_op (Ret a) h = refl
    by_op (Br to) h = refl
    by_op (CondBr c x y) h = refl
    by_op (Switch of a otherwise cases) h = refl
    by_op Unreachable h = refl

pub none_left : (insts : List Inst) (i : ℕ) → length insts ≤ i → phis (drop i insts) ≡ []
none_left insts i le = ap phis (nothing-left insts i le)

-- what the test says of a phi, and of what stands behind it
pub record PhiForm (n blocks : ℕ) (inst : Inst) (pairs : List (Operand × ℕ)) (others : List Inst) : Type 0 where
  pub result : has_result inst ≡ true
  pub operands : are_edge_operands n pairs ≡ true
  pub rest : are_forms n blocks others ≡ true

pub phi_form : (n blocks : ℕ) (insts : List Inst) (i : ℕ) (inst : Inst) (pairs : List (Operand × ℕ)) → i < length insts → inst ≡ get_or insts i inst → inst.op ≡ Phi pairs → are_forms n blocks (drop i insts) ≡ true
    → PhiForm n blocks inst pairs (drop (i + 1) insts)
phi_form n blocks insts i inst pairs lt is e h =
    let all = split_at insts i inst lt ∙ ap (λ (x : Inst). x ∷ drop (i + 1) insts) (sym is) in
    let parts = and_parts (is_form n blocks inst.gives inst.op) (are_forms n blocks (drop (i + 1) insts)) (sym (ap (are_forms n blocks) all) ∙ h) in
    let form = and_parts (is_result inst.gives) (are_edge_operands n pairs) (sym (ap (λ (op : Op). is_form n blocks inst.gives op) e) ∙ parts.0) in
    record { result = form.0; operands = form.1; rest = parts.1 }

-- the number of the next phi
pub phi_number : (function : Function) (block i : ℕ) (inst : Inst) → slice_get (insts_at function block) i ≡ Some inst → has_result inst ≡ true → number_at function block (i + 1) ≡ number_at function block i + 1
phi_number function block i inst at result = let step = number-step function block i inst at in let one : one_if inst ≡ 1 = ap (λ (b : Bool). cond b 1 0) result in omega (arith, step, one)

-- one next value more is stored
pub next_more : (globals : List Global) (function : Function) (old one total : Code) (from to : ℕ) (insts : List Inst) (i : ℕ) (inst : Inst) (pairs : List (Operand × ℕ)) → i < length insts → inst ≡ get_or insts i inst → inst.op ≡ Phi pairs
    → put_code old (nexts_code globals function from to i (phis (drop i insts))) ≡ total → one ≡ put_code old (next_code globals (number_at function to i) (on_edge from pairs))
    → put_code one (nexts_code globals function from to (i + 1) (phis (drop (i + 1) insts))) ≡ total
next_more globals function old one total from to insts i inst pairs lt is e h k =
    let rest = nexts_code globals function from to (i + 1) (phis (drop (i + 1) insts)) in
    more_code old one total (next_of globals (number_at function to i) from inst.op) rest
    (ap (λ (xs : List Inst). put_code old (nexts_code globals function from to i xs)) (sym (phi_first insts i inst pairs lt is e)) ∙ h)
    (k ∙ ap (λ (op : Op). put_code old (next_of globals (number_at function to i) from op)) (sym e))

pub nexts_done : (globals : List Global) (function : Function) (old total : Code) (from to : ℕ) (insts : List Inst) (i : ℕ) → phis (drop i insts) ≡ [] → put_code old (nexts_code globals function from to i (phis (drop i insts))) ≡ total → old ≡ total
nexts_done globals function old total from to insts i none h = sym (code_none old) ∙ ap (λ (xs : List Inst). put_code old (nexts_code globals function from to i xs)) (sym none) ∙ h

-- one value more is taken from its next value
pub phis_more : (function : Function) (old one total : Code) (block : ℕ) (insts : List Inst) (i : ℕ) (inst : Inst) (pairs : List (Operand × ℕ)) → i < length insts → inst ≡ get_or insts i inst → inst.op ≡ Phi pairs
    → put_code old (phis_code function block i (phis (drop i insts))) ≡ total → one ≡ put_code old (load_next T0 (number_at function block i) ++ store_value T0 (number_at function block i))
    → put_code one (phis_code function block (i + 1) (phis (drop (i + 1) insts))) ≡ total
phis_more function old one total block insts i inst pairs lt is e h k =
    let rest = phis_code function block (i + 1) (phis (drop (i + 1) insts)) in
    let first = load_next T0 (number_at function block i) in
    let second = store_value T0 (number_at function block i) in
    more_code old one total (first ++ second) rest
    (ap (put_code old) (append_assoc first second rest) ∙ ap (λ (xs : List Inst). put_code old (phis_code function block i xs)) (sym (phi_first insts i inst pairs lt is e)) ∙ h) k

pub phis_done : (function : Function) (old total : Code) (block : ℕ) (insts : List Inst) (i : ℕ) → phis (drop i insts) ≡ [] → put_code old (phis_code function block i (phis (drop i insts))) ≡ total → old ≡ total
phis_done function old total block insts i none h = sym (code_none old) ∙ ap (λ (xs : List Inst). put_code old (phis_code function block i xs)) (sym none) ∙ h

-- ---- blocks

take-past : (xs : List Inst) (n : ℕ) → length xs ≤ n → take n xs ≡ xs
take-past [] zero le = refl
take-past [] (suc n) le = refl
take-past (x ∷ xs) zero le = absurd (let bad : ⊥ = omega (arith, le) in bad)
take-past (x ∷ xs) (suc n) le = ap (λ (ys : List Inst). x ∷ ys) (take-past xs n (omega (arith, le)))

-- all that stands behind the first of a block
pub all_behind : (xs : List Inst) (k : ℕ) → take (length xs - k) (drop k xs) ≡ drop k xs
all_behind xs k = let left = length-drop k xs in take-past (drop k xs) (length xs - k) (omega (arith, left))

pub block_put : (globals : List Global) (function : Function) (room : ℕ) (old one two new : Code) (fr block : ℕ) (rest : List Inst) → one ≡ put old (Bind (block_label function block) ∷ []) → two ≡ put_code one (phis_code function block 0 (phis (insts_at function block)))
    → rest ≡ drop (length (phis (insts_at function block))) (insts_at function block)
    → new ≡ put two (insts_items globals function room fr block (length (phis (insts_at function block))) rest) → new ≡ put old (block_items globals function room fr block)
block_put globals function room old one two new fr block rest h1 h2 is h3 =
    let heads = phis (insts_at function block) in
    let code = phis_code function block 0 heads in
    let tail = insts_items globals function room fr block (length heads) (drop (length heads) (insts_at function block)) in
    let e : new ≡ put two tail = h3 ∙ ap (λ (xs : List Inst). put two (insts_items globals function room fr block (length heads) xs)) is in
    let e1 : new ≡ put one (plain code ++ tail) = e ∙ ap (λ (c : Code). put c tail) h2 ∙ code_put one code tail in
    then-put old one new (Bind (block_label function block) ∷ []) (plain code ++ tail) h1 e1

-- behind its label and its phis the other label of a block is free
pub block_free : (function : Function) (old one two : Code) (block : ℕ) → one ≡ put old (Bind (block_label function block) ∷ []) → two ≡ put_code one (phis_code function block 0 (phis (insts_at function block)))
    → AreFree function (block_label function block) old → AreFree function (edge_label function block) two
block_free function old one two block h1 h2 free =
    let code = phis_code function block 0 (phis (insts_at function block)) in
    free-behind function one two (plain code) (edge_label function block) (edge_label function block) (rise-plain code (edge_label function block)) (h2 ∙ code_is one code)
    (free-behind function old one (Bind (block_label function block) ∷ []) (block_label function block) (edge_label function block) (omega arith, omega arith) h1 free)

pub blocks_more : (globals : List Global) (function : Function) (room : ℕ) (old one total : Code) (fr block many : ℕ) → block < many → put old (blocks_items globals function room fr block (many - block)) ≡ total → one ≡ put old (block_items globals function room fr block)
    → put one (blocks_items globals function room fr (block + 1) (many - (block + 1))) ≡ total
blocks_more globals function room old one total fr block many lt h e =
    let less : many - block ≡ suc (many - (block + 1)) = omega (arith, lt) in
    then-put old one (put one (blocks_items globals function room fr (block + 1) (many - (block + 1)))) (block_items globals function room fr block) (blocks_items globals function room fr (block + 1) (many - (block + 1))) e refl
    ∙ ap (λ (k : ℕ). put old (blocks_items globals function room fr block k)) (sym less) ∙ h

pub blocks_done : (globals : List Global) (function : Function) (room : ℕ) (old total : Code) (fr block many : ℕ) → many ≤ block → put old (blocks_items globals function room fr block (many - block)) ≡ total → old ≡ total
blocks_done globals function room old total fr block many le h = sym (put-none old) ∙ ap (λ (k : ℕ). put old (blocks_items globals function room fr block k)) (let z : 0 ≡ many - block = omega (arith, le) in z) ∙ h

pub blocks_free : (globals : List Global) (function : Function) (room : ℕ) (flow : IsFlow function) (old one : Code) (fr block : ℕ) → one ≡ put old (block_items globals function room fr block) → AreFree function (block_label function block) old → AreFree function (block_label function (block + 1)) one
blocks_free globals function room flow old one fr block e free =
    free-behind function old one (block_items globals function room fr block) (block_label function block) (block_label function (block + 1)) (rise-block globals function flow room fr block) e free

-- ---- a function

opening_put : (start : Code) (symbol : ℕ) (function : Function) (start' one : Code) → start' ≡ put_code start (prologue symbol (frame function)) → one ≡ put_code start' (save_code (takes_data function) (frame function))
    → one ≡ put_code start (prologue symbol (frame function) ++ save_code (takes_data function) (frame function))
opening_put start symbol function start' one h0 h1 =
    h1 ∙ ap (λ (c : Code). put_code c (save_code (takes_data function) (frame function))) h0 ∙ code_code start (prologue symbol (frame function)) (save_code (takes_data function) (frame function))

pub function_put : (globals : List Global) (symbol : ℕ) (function : Function) (room : ℕ) (start' one two three : Code) → start' ≡ put_code (labelled (label_count function)) (prologue symbol (frame function))
    → one ≡ put_code start' (save_code (takes_data function) (frame function)) → two ≡ put_code one (arguments_code 0 function.params)
    → three ≡ put two (blocks_items globals function room (frame function) 0 (length function.blocks)) → three ≡ code_of globals symbol function room
function_put globals symbol function room start' one two three h0 h1 h2 h3 =
    let start = labelled (label_count function) in
    let blocks = blocks_items globals function room (frame function) 0 (length function.blocks) in
    let e : three ≡ put one (plain (arguments_code 0 function.params) ++ blocks) = h3 ∙ ap (λ (c : Code). put c blocks) h2 ∙ code_put one (arguments_code 0 function.params) blocks in
    e ∙ ap (λ (c : Code). put c (plain (arguments_code 0 function.params) ++ blocks)) (opening_put start symbol function start' one h0 h1) ∙ code_put start (prologue symbol (frame function) ++ save_code (takes_data function) (frame function)) (plain (arguments_code 0 function.params) ++ blocks)

pub function_free : (symbol : ℕ) (function : Function) (start' one two : Code) → start' ≡ put_code (labelled (label_count function)) (prologue symbol (frame function)) → one ≡ put_code start' (save_code (takes_data function) (frame function)) → two ≡ put_code one (arguments_code 0 function.params) → AreFree function 0 two
function_free symbol function start' one two h0 h1 h2 =
    let start = labelled (label_count function) in
    free-behind function one two (plain (arguments_code 0 function.params)) 0 0 (rise-plain (arguments_code 0 function.params) 0) (h2 ∙ code_is one (arguments_code 0 function.params))
    (free-behind function start one (plain (prologue symbol (frame function) ++ save_code (takes_data function) (frame function))) 0 0 (rise-plain (prologue symbol (frame function) ++ save_code (takes_data function) (frame function)) 0)
    (opening_put start symbol function start' one h0 h1 ∙ code_is start (prologue symbol (frame function) ++ save_code (takes_data function) (frame function))) (free-first function))
