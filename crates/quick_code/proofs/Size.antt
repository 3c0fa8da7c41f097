-- How many words quick code has.
use Rattle.std.proofs.Common.{◌≡◌, ◌≢◌, refl, sym, ap, subst, ◌∙◌, ℕ, zero, suc, ◌+◌, ◌*◌, ◌<◌, ◌≤◌, ◌⊎◌, inl, inr, List, [], ◌∷◌, ◌++◌, length, map, Some, None, Bool, true, false, cond, arith}
use Rattle.std.specs.Prelude.{pos, slice_get, drop, sum_by, ◌==◌}
use Rattle.std.proofs.lemmas.Bool.{eqb-true, eqb-false, ne_eqb}
use Rattle.std.proofs.lemmas.List.{length-append, length-map}
use Rattle.std.proofs.lemmas.List.Sums.{sum_by-append, sum_by-cons}
use Rattle.ir_core.specs.declared.types.Ty.{Ty}
use Rattle.ir_core.specs.declared.code.Operand.{Operand}
use Rattle.ir_core.specs.declared.code.Operand.TheVariants.{Num}
use Rattle.ir_core.specs.declared.code.BuiltIn.{BuiltIn}
use Rattle.ir_core.specs.declared.code.BuiltIn.TheVariants.{MemCpy, MemMove, MemSet, SMax, SMin, UMax, UMin, Abs}
use Rattle.ir_core.specs.declared.code.Op.{Op}
use Rattle.ir_core.specs.declared.code.Op.TheVariants.{Binary, Icmp, Cast, Select, Freeze, Phi, Alloca, Load, Store, Gep, Call, BuiltIn as CallBuiltIn, Ret, Br, CondBr, Switch, Unreachable}
use Rattle.ir_core.specs.declared.code.Inst.{Inst}
use Rattle.ir_core.specs.declared.code.Block.{Block}
use Rattle.ir_core.specs.declared.program.Function.{Function}
use Rattle.ir_core.specs.declared.program.Global.{Global}
use Rattle.ir_core.specs.Units.{frame, units, instructions, units_of_function}
use Rattle.rv_core.specs.declared.reg.Reg.TheVariants.{X0, T0, T1, A0}
use Rattle.rv_core.specs.declared.instr.BranchOp.{BranchOp}
use Rattle.rv_core.specs.declared.instr.BranchOp.TheVariants.{Beq, Bne}
use Rattle.rv_core.specs.declared.instr.Instr.{Instr}
use Rattle.rv_core.specs.declared.instr.Instr.TheVariants.{Store as StoreBytes}
use Rattle.rv_encode.specs.Spelling.{word_of}
use Rattle.rv_asm.specs.declared.item.Item.{Item as Assembled}
use Rattle.rv_asm.specs.declared.item.Item.TheVariants as asm
use Rattle.rv_asm.specs.declared.item.Form.{Form}
use Rattle.rv_asm.specs.declared.item.Form.TheVariants.{Short, Near, Far}
use Rattle.rv_asm.specs.declared.item.Formed.{Formed}
use Rattle.rv_asm.specs.Layout.{IsAssembly, size, item_code, item_of, way, laid}
use Rattle.rv_asm.proofs.Laid.{sizes, size-is}
use Rattle.ir_meaning.specs.Operators.{width}
use Rattle.ir_meaning.specs.Step.{Program, function_at, insts_at, insts_of, number_at, on_edge, phis, moves_bytes}
use Rattle.ir_meaning.specs.Meaning.{meaning, of_function, operands_of_phi, phi_operands_of}
use Rattle.code_pieces.specs.Bytes.{save_code, restore_code}
use Rattle.quick_code.specs.Data.{takes_data, alloca_code, moved_code}
use Rattle.quick_code.proofs.Moved.{moved-short}
use Rattle.quick_code.proofs.Allocas.{alloca-short, save-short, restore-short}
use Rattle.code_pieces.specs.Code.{call_code, leave_code, prologue, store_value}
use Rattle.quick_code.specs.Parts.{parts_code}
use Rattle.quick_code.specs.Operations.{value_code, values_code, operands, built_in_operands, work_code, operation_code, store_op, keeping_code}
use Rattle.code_pieces.specs.Items.{Item, Plain, Bind, Goto, Test, plain}
use Rattle.quick_code.specs.Blocks.{is_headless, first_to, case_label, case_edge, case_edges, are_headless, switch_edges, cases_items, next_code, next_of, nexts_code, phis_code, edge_code, block_label, edge_label, edge_items, last_edge_items, branch_items, return_code, answer_code, called_code, op_items, insts_items, block_items, blocks_items, arguments_code, function_items}
use Rattle.quick_code.specs.Forms.{IsForm, IsFlow, IsJump}
use Rattle.code_pieces.specs.Assembly.{assembled, put}
use Rattle.quick_code.specs.Assembly.{code_of}
use Rattle.quick_code.proofs.Operations.{value-short, values-short}
use Rattle.quick_code.proofs.Arguments.{arguments-short, answer-short}
use Rattle.quick_code.proofs.NarrowRuns.{binary-short, compare-short, cast-short}
use Rattle.quick_code.proofs.BuiltIns.{built_in-short}
use Rattle.quick_code.proofs.Distances.{parts-short}
use Rattle.code_pieces.proofs.Slots.{store-short}
use Rattle.code_pieces.proofs.Entry.{prologue-short}
use Rattle.code_pieces.proofs.Ends.{leave-short}
use Rattle.quick_code.proofs.Edges.{next-short, phis-length, units-some}
use Rattle.quick_code.proofs.Fresh.{EndsByJump, ends-tail, ends-drop, none-behind}

-- ---- items

-- the most words that an item has
abbrev most : Assembled → ℕ
most (asm.Plain i) = 1
most (asm.BranchTo op a b label) = 3
most (asm.JumpTo label) = 2

abbrev most_all : List Assembled → ℕ
most_all [] = 0
most_all (x ∷ xs) = most x + most_all xs

-- the same of items among which labels stand
abbrev weight : List Item → ℕ
weight [] = 0
weight (Plain i ∷ items) = 1 + weight items
weight (Bind label ∷ items) = weight items
weight (Goto label ∷ items) = 2 + weight items
weight (Test op a b label ∷ items) = 3 + weight items

size-most : (form : Form) (item : Assembled) → size form item ≤ most item
size-most form (asm.Plain i) = omega arith
size-most Short (asm.BranchTo op a b l) = omega arith
size-most Near (asm.BranchTo op a b l) = omega arith
size-most Far (asm.BranchTo op a b l) = omega arith
size-most Short (asm.JumpTo l) = omega arith
size-most Near (asm.JumpTo l) = omega arith
size-most Far (asm.JumpTo l) = omega arith

laid-size : (to : Assembled → ℕ) (place : ℕ) (xs : List Formed) → length (laid to place xs) ≡ sizes xs
laid-size to place [] = refl
laid-size to place (x ∷ xs) =
    let code = item_code x.form x.item place (to x.item) in
    let rest = laid to (place + size x.form x.item) xs in
    omega (arith, length-append code rest, size-is x.form x.item place (to x.item), laid-size to (place + size x.form x.item) xs)

sizes-most : (xs : List Formed) → sizes xs ≤ most_all (map item_of xs)
sizes-most [] = omega arith
sizes-most (x ∷ xs) = let one = size-most x.form x.item in let rest = sizes-most xs in omega (arith, one, rest)

most-weight : (items : List Item) → most_all (assembled items) ≡ weight items
most-weight [] = refl
most-weight (Plain i ∷ items) = ap (λ (k : ℕ). 1 + k) (most-weight items)
most-weight (Bind label ∷ items) = most-weight items
most-weight (Goto label ∷ items) = ap (λ (k : ℕ). 2 + k) (most-weight items)
most-weight (Test op a b label ∷ items) = ap (λ (k : ℕ). 3 + k) (most-weight items)

weight-plain : (xs : List Instr) → weight (plain xs) ≡ length xs
weight-plain [] = refl
weight-plain (x ∷ xs) = let rest = weight-plain xs in omega (arith, rest)

weight-append : (xs ys : List Item) → weight (xs ++ ys) ≡ weight xs + weight ys
weight-append [] ys = omega arith
weight-append (Plain i ∷ xs) ys = let rest = weight-append xs ys in omega (arith, rest)
weight-append (Bind label ∷ xs) ys = weight-append xs ys
weight-append (Goto label ∷ xs) ys = let rest = weight-append xs ys in omega (arith, rest)
weight-append (Test op a b label ∷ xs) ys = let rest = weight-append xs ys in omega (arith, rest)

-- ---- sums over blocks

-- the sum over so many numbers from one on
abbrev tally : (ℕ → ℕ) → ℕ → ℕ → ℕ
tally f first zero = 0
tally f first (suc n) = f first + tally f (first + 1) n

tally-add : (f g : ℕ → ℕ) (first n : ℕ) → tally (λ i. f i + g i) first n ≡ tally f first n + tally g first n
tally-add f g first zero = refl
tally-add f g first (suc n) = let rest = tally-add f g (first + 1) n in omega (arith, rest)

tally-mono : (f g : ℕ → ℕ) (first n : ℕ) → ((i : ℕ) → f i ≤ g i) → tally f first n ≤ tally g first n
tally-mono f g first zero h = omega arith
tally-mono f g first (suc n) h = let rest = tally-mono f g (first + 1) n h in let one = h first in omega (arith, rest, one)

tally-none : (first n : ℕ) → tally (λ i. 0) first n ≡ 0
tally-none first zero = refl
tally-none first (suc n) = let rest = tally-none (first + 1) n in omega (arith, rest)

tally-shift : (f : ℕ → ℕ) (first n : ℕ) → tally f (first + 1) n ≡ tally (λ i. f (suc i)) first n
tally-shift f first zero = refl
tally-shift f first (suc n) =
    let same : first + 1 ≡ suc first = omega arith in
    let one : f (first + 1) ≡ f (suc first) = ap f same in
    let rest = tally-shift f (first + 1) n in
    omega (arith, one, rest)

-- 1 where it holds
abbrev one_of : Bool → ℕ
one_of true = 1
one_of false = 0

hit-above : (k first n : ℕ) → k < first → tally (λ i. one_of (k == i)) first n ≡ 0
hit-above k first zero lt = refl
hit-above k first (suc n) lt =
    let miss : (k == first) ≡ false = grind arith in
    let one : one_of (k == first) ≡ 0 = ap one_of miss in
    let rest = hit-above k (first + 1) n (omega (arith, lt)) in
    omega (arith, one, rest)

hit-once : (k first n : ℕ) → tally (λ i. one_of (k == i)) first n ≤ 1
hit-once k first zero = omega arith
hit-once k first (suc n) = by_test (k == first) refl (hit-once k (first + 1) n)
  where
    by_test : (b : Bool) → (k == first) ≡ b → tally (λ i. one_of (k == i)) (first + 1) n ≤ 1 → tally (λ i. one_of (k == i)) first (suc n) ≤ 1
    by_test true e ih =
        let same : k ≡ first = grind arith in
        let rest = hit-above k (first + 1) n (omega (arith, same)) in
        let one : one_of (k == first) ≡ 1 = ap one_of e in
        omega (arith, rest, one)
    by_test false e ih =
        let one : one_of (k == first) ≡ 0 = ap one_of e in
        omega (arith, ih, one)

-- ---- the edges for which phis have an operand

-- 1 where one of the pairs comes from the block
abbrev names : ℕ → List (Operand × ℕ) → ℕ
names from [] = 0
names from (pair ∷ pairs) = cond (pair.1 == from) 1 (names from pairs)

abbrev named : ℕ → Op → ℕ
named from (Phi pairs) = names from pairs
named from _ = 0

abbrev total : List Inst → ℕ → ℕ
total [] from = 0
total (inst ∷ insts) from = named from inst.op + total insts from

total-append : (xs ys : List Inst) (from : ℕ) → total (xs ++ ys) from ≡ total xs from + total ys from
total-append [] ys from = omega arith
total-append (x ∷ xs) ys from = let rest = total-append xs ys from in omega (arith, rest)

named-few : (op : Op) (first n : ℕ) → tally (λ from. named from op) first n ≤ operands_of_phi op
named-few (Phi pairs) first n = few pairs
  where
    more : (pair : Operand × ℕ) (pairs : List (Operand × ℕ)) (from : ℕ) → names from (pair ∷ pairs) ≤ one_of (pair.1 == from) + names from pairs
    more pair pairs from = by_test (pair.1 == from)
      where
        by_test : (b : Bool) → cond b 1 (names from pairs) ≤ one_of b + names from pairs
        by_test true = omega arith
        by_test false = omega arith

    few : (pairs : List (Operand × ℕ)) → tally (λ from. names from pairs) first n ≤ length pairs
    few [] = let none = tally-none first n in omega (arith, none)
    few (pair ∷ pairs) =
        let split = tally-mono (λ from. names from (pair ∷ pairs)) (λ from. one_of (pair.1 == from) + names from pairs) first n (more pair pairs) in
        let sum = tally-add (λ from. one_of (pair.1 == from)) (λ from. names from pairs) first n in
        let one = hit-once pair.1 first n in
        let rest = few pairs in
        omega (arith, split, sum, one, rest)
named-few (Binary op flags a b) first n = let none = tally-none first n in omega (arith, none)
named-few (Icmp pred flags of a b) first n = let none = tally-none first n in omega (arith, none)
named-few (Cast op flags of a) first n = let none = tally-none first n in omega (arith, none)
named-few (Select c a b) first n = let none = tally-none first n in omega (arith, none)
named-few (Freeze a) first n = let none = tally-none first n in omega (arith, none)
named-few (Alloca of count) first n = let none = tally-none first n in omega (arith, none)
named-few (Load a) first n = let none = tally-none first n in omega (arith, none)
named-few (Store of a b) first n = let none = tally-none first n in omega (arith, none)
named-few (Gep of a indices) first n = let none = tally-none first n in omega (arith, none)
named-few (Call g arguments) first n = let none = tally-none first n in omega (arith, none)
named-few (CallBuiltIn which arguments) first n = let none = tally-none first n in omega (arith, none)
named-few (Ret a) first n = let none = tally-none first n in omega (arith, none)
named-few (Br to) first n = let none = tally-none first n in omega (arith, none)
named-few (CondBr c x y) first n = let none = tally-none first n in omega (arith, none)
named-few (Switch of a otherwise cases) first n = let none = tally-none first n in omega (arith, none)
named-few Unreachable first n = let none = tally-none first n in omega (arith, none)

abbrev of_phi : Inst → ℕ
of_phi inst = operands_of_phi inst.op

total-few : (insts : List Inst) (first n : ℕ) → tally (total insts) first n ≤ sum_by of_phi insts
total-few [] first n = let none = tally-none first n in omega (arith, none)
total-few (inst ∷ insts) first n =
    let sum = tally-add (λ from. named from inst.op) (total insts) first n in
    let one = named-few inst.op first n in
    let rest = total-few insts first n in
    let more = sum_by-cons of_phi inst insts in
    omega (arith, sum, one, rest, more)

-- the phis of a block are among its instructions
phis-total : (from : ℕ) (insts : List Inst) → total (phis insts) from ≤ total insts from
phis-total from [] = omega arith
phis-total from (inst ∷ insts) = by_op inst.op (phis-total from insts)
  where
    by_op : (op : Op) → total (phis insts) from ≤ total insts from → total (phis (record { gives = inst.gives; op = op } ∷ insts)) from ≤ named from op + total insts from
    by_op (Phi pairs) ih = omega (arith, ih)
    by_op (Binary op flags a b) ih = omega arith
    by_op (Icmp pred flags of a b) ih = omega arith
    by_op (Cast op flags of a) ih = omega arith
    by_op (Select c a b) ih = omega arith
    by_op (Freeze a) ih = omega arith
    by_op (Alloca of count) ih = omega arith
    by_op (Load a) ih = omega arith
    by_op (Store of a b) ih = omega arith
    by_op (Gep of a indices) ih = omega arith
    by_op (Call g arguments) ih = omega arith
    by_op (CallBuiltIn which arguments) ih = omega arith
    by_op (Ret a) ih = omega arith
    by_op (Br to) ih = omega arith
    by_op (CondBr c x y) ih = omega arith
    by_op (Switch of a otherwise cases) ih = omega arith
    by_op Unreachable ih = omega arith

block-total : (from : ℕ) (blocks : List Block) (to : ℕ) → total (insts_of (slice_get blocks to)) from ≤ total (instructions blocks) from
block-total from [] to = omega arith
block-total from (block ∷ blocks) zero = let sum = total-append block.insts (instructions blocks) from in omega (arith, sum)
block-total from (block ∷ blocks) (suc to) = let rest = block-total from blocks to in let sum = total-append block.insts (instructions blocks) from in omega (arith, sum, rest)

-- ---- the edges of cases

-- what the blocks count for to which cases lead, each where it is first named
abbrev shares : (ℕ → ℕ) → List (ℕ × ℕ) → ℕ → List (ℕ × ℕ) → ℕ
shares f every number [] = 0
shares f every number (one ∷ cases) = cond (first_to 0 one.1 every == number) (f one.1) 0 + shares f every (number + 1) cases

-- the same without one of the blocks
abbrev without : (ℕ → ℕ) → ℕ → ℕ → ℕ
without f to = λ b. cond (b == to) 0 (f b)

without-less : (f : ℕ → ℕ) (to b : ℕ) → without f to b ≤ f b
without-less f to b = by_test (b == to)
  where
    by_test : (c : Bool) → cond c 0 (f b) ≤ f b
    by_test true = omega arith
    by_test false = omega arith

tally-without : (f : ℕ → ℕ) (to first n : ℕ) → first ≤ to → (first + n ≤ to → f to ≡ 0) → f to + tally (without f to) first n ≤ tally f first n
tally-without f to first zero le none = let z = none (omega (arith, le)) in omega (arith, z)
tally-without f to first (suc n) le none =
    by_test (first == to) refl (λ other. tally-without f to (first + 1) n (let h : first + 1 ≤ to = omega (arith, le, other) in h) (λ h. none (omega (arith, h))))
  where
    by_test : (b : Bool) → (first == to) ≡ b → (first ≢ to → f to + tally (without f to) (first + 1) n ≤ tally f (first + 1) n) → f to + (cond b 0 (f first) + tally (without f to) (first + 1) n) ≤ f first + tally f (first + 1) n
    by_test true e on =
        let same : first ≡ to = eqb-true first to e in
        let is : f first ≡ f to = ap f same in
        let rest = tally-mono (without f to) f (first + 1) n (without-less f to) in
        omega (arith, is, rest)
    by_test false e on = let rest = on (eqb-false first to e) in omega (arith, rest)

-- shares depend on the blocks alone that are named there first
shares-alike : (f g : ℕ → ℕ) (every : List (ℕ × ℕ)) (number : ℕ) (cases : List (ℕ × ℕ)) → ((b : ℕ) → number ≤ first_to 0 b every → f b ≡ g b) → shares f every number cases ≡ shares g every number cases
shares-alike f g every number [] same = refl
shares-alike f g every number (one ∷ cases) same =
    let first = by_test (first_to 0 one.1 every == number) refl in
    let rest = shares-alike f g every (number + 1) cases (λ b le. same b (omega (arith, le))) in
    omega (arith, first, rest)
  where
    by_test : (b : Bool) → (first_to 0 one.1 every == number) ≡ b → cond b (f one.1) 0 ≡ cond b (g one.1) 0
    by_test true e = let is = eqb-true (first_to 0 one.1 every) number e in same one.1 (omega (arith, is))
    by_test false e = refl

shares-few : (every cases : List (ℕ × ℕ)) (number : ℕ) (f : ℕ → ℕ) (n : ℕ) → ((b : ℕ) → n ≤ b → f b ≡ 0) → shares f every number cases ≤ tally f 0 n
shares-few every [] number f n none = omega arith
shares-few every (one ∷ cases) number f n none = by_test (first_to 0 one.1 every == number) refl (λ g h. shares-few every cases (number + 1) g n h)
  where
    to : ℕ
    to = one.1

    gone : (c : Bool) (x : ℕ) → x ≡ 0 → cond c 0 x ≡ 0
    gone true x e = refl
    gone false x e = e

    by_test : (b : Bool) → (first_to 0 one.1 every == number) ≡ b → ((g : ℕ → ℕ) → ((b : ℕ) → n ≤ b → g b ≡ 0) → shares g every (number + 1) cases ≤ tally g 0 n) → cond b (f one.1) 0 + shares f every (number + 1) cases ≤ tally f 0 n
    by_test true e on =
        let is = eqb-true (first_to 0 one.1 every) number e in
        let alike = shares-alike f (without f to) every (number + 1) cases
        (λ b le. sym (ap (λ (c : Bool). cond c 0 (f b)) (ne_eqb b to (λ z. let h : first_to 0 b every ≡ first_to 0 to every = ap (λ (x : ℕ). first_to 0 x every) z in let bad : ⊥ = omega (arith, h, is, le) in bad)))) in
        let rest = on (without f to) (λ b le. gone (b == to) (f b) (none b le)) in
        let sum = tally-without f to 0 n (omega arith) (λ h. none to (omega (arith, h))) in
        omega (arith, alike, rest, sum)
    by_test false e on = let rest = on f none in omega (arith, rest)

no-block : (blocks : List Block) (from b : ℕ) → length blocks ≤ b → total (insts_of (slice_get blocks b)) from ≡ 0
no-block [] from b le = refl
no-block (block ∷ blocks) from zero le = absurd (let bad : ⊥ = omega (arith, le) in bad)
no-block (block ∷ blocks) from (suc b) le = no-block blocks from b (omega (arith, le))

blocks-total : (from : ℕ) (blocks : List Block) → tally (λ b. total (insts_of (slice_get blocks b)) from) 0 (length blocks) ≡ total (instructions blocks) from
blocks-total from [] = refl
blocks-total from (block ∷ blocks) =
    let sum = total-append block.insts (instructions blocks) from in
    let shift = tally-shift (λ b. total (insts_of (slice_get (block ∷ blocks) b)) from) 0 (length blocks) in
    let rest = blocks-total from blocks in
    omega (arith, sum, shift, rest)

-- ---- the phis of a block, and what stands behind them

phis-cost : (insts : List Inst) → 6 * length (phis insts) + 256 * sum_by units (drop (length (phis insts)) insts) ≤ 256 * sum_by units insts
phis-cost [] = omega arith
phis-cost (inst ∷ insts) = by_op inst.op (phis-cost insts)
  where
    by_op : (op : Op) → 6 * length (phis insts) + 256 * sum_by units (drop (length (phis insts)) insts) ≤ 256 * sum_by units insts
        → 6 * length (phis (record { gives = inst.gives; op = op } ∷ insts)) + 256 * sum_by units (drop (length (phis (record { gives = inst.gives; op = op } ∷ insts))) (record { gives = inst.gives; op = op } ∷ insts))
        ≤ 256 * sum_by units (record { gives = inst.gives; op = op } ∷ insts)
    by_op (Phi pairs) ih =
        let x : Inst = record { gives = inst.gives; op = Phi pairs } in
        let one = units-some x in
        let more = sum_by-cons units x insts in
        omega (arith, ih, one, more)
    by_op (Binary op flags a b) ih = omega arith
    by_op (Icmp pred flags of a b) ih = omega arith
    by_op (Cast op flags of a) ih = omega arith
    by_op (Select c a b) ih = omega arith
    by_op (Freeze a) ih = omega arith
    by_op (Alloca of count) ih = omega arith
    by_op (Load a) ih = omega arith
    by_op (Store of a b) ih = omega arith
    by_op (Gep of a indices) ih = omega arith
    by_op (Call g arguments) ih = omega arith
    by_op (CallBuiltIn which arguments) ih = omega arith
    by_op (Ret a) ih = omega arith
    by_op (Br to) ih = omega arith
    by_op (CondBr c x y) ih = omega arith
    by_op (Switch of a otherwise cases) ih = omega arith
    by_op Unreachable ih = omega arith

-- ---- the code of a function

module _ (globals : List Global) (function : Function) (flow : IsFlow function) where
  -- instructions of the forms that the compiler takes
  abbrev AreForms : List Inst → Type 0
  AreForms insts = (k : ℕ) (inst : Inst) → slice_get insts k ≡ Some inst → IsForm inst.op

  abbrev all : ℕ → ℕ
  all = total (instructions function.blocks)

  next-few : (d from : ℕ) (pairs : List (Operand × ℕ)) → length (next_code globals d (on_edge from pairs)) ≤ 11 * names from pairs
  next-few d from [] = omega arith
  next-few d from (pair ∷ pairs) = by_test (pair.1 == from) (next-few d from pairs)
    where
      by_test : (b : Bool) → length (next_code globals d (on_edge from pairs)) ≤ 11 * names from pairs → length (next_code globals d (cond b pair.0 (on_edge from pairs))) ≤ 11 * cond b 1 (names from pairs)
      by_test true ih = let short = next-short globals d pair.0 in omega (arith, short)
      by_test false ih = ih

  next-of-few : (d from : ℕ) (op : Op) → length (next_of globals d from op) ≤ 11 * named from op
  next-of-few d from (Phi pairs) = next-few d from pairs
  next-of-few d from (Binary op flags a b) = omega arith
  next-of-few d from (Icmp pred flags of a b) = omega arith
  next-of-few d from (Cast op flags of a) = omega arith
  next-of-few d from (Select c a b) = omega arith
  next-of-few d from (Freeze a) = omega arith
  next-of-few d from (Alloca of count) = omega arith
  next-of-few d from (Load a) = omega arith
  next-of-few d from (Store of a b) = omega arith
  next-of-few d from (Gep of a indices) = omega arith
  next-of-few d from (Call g arguments) = omega arith
  next-of-few d from (CallBuiltIn which arguments) = omega arith
  next-of-few d from (Ret a) = omega arith
  next-of-few d from (Br to) = omega arith
  next-of-few d from (CondBr c x y) = omega arith
  next-of-few d from (Switch of a otherwise cases) = omega arith
  next-of-few d from Unreachable = omega arith

  nexts-few : (from to place : ℕ) (insts : List Inst) → length (nexts_code globals function from to place insts) ≤ 11 * total insts from
  nexts-few from to place [] = omega arith
  nexts-few from to place (inst ∷ insts) =
      let one = next-of-few (number_at function to place) from inst.op in
      let rest = nexts-few from to (place + 1) insts in
      let both = length-append (next_of globals (number_at function to place) from inst.op) (nexts_code globals function from to (place + 1) insts) in
      omega (arith, one, rest, both)

  edge-few : (from to : ℕ) → length (edge_code globals function from to) ≤ 11 * all from
  edge-few from to =
      let heads = phis (insts_at function to) in
      let code = nexts-few from to 0 heads in
      let some = phis-total from (insts_at function to) in
      let among = block-total from function.blocks to in
      omega (arith, code, some, among)

  goto-few : (from to : ℕ) → weight (edge_items globals function from to) ≤ 11 * all from + 2
  goto-few from to =
      let code = edge-few from to in
      let both = weight-append (plain (edge_code globals function from to)) (Goto (block_label function to) ∷ []) in
      let first = weight-plain (edge_code globals function from to) in
      omega (arith, code, both, first)

  last-few : (from to : ℕ) → weight (last_edge_items globals function from to) ≤ 11 * all from + 2
  last-few from to =
      let code = edge-few from to in
      let tail = by_test (to == from + 1) in
      let both = weight-append (plain (edge_code globals function from to)) (cond (to == from + 1) [] (Goto (block_label function to) ∷ [])) in
      let first = weight-plain (edge_code globals function from to) in
      omega (arith, code, both, first, tail)
    where
      by_test : (b : Bool) → weight (cond b [] (Goto (block_label function to) ∷ [])) ≤ 2
      by_test true = omega arith
      by_test false = omega arith

  branch-few : (block : ℕ) (op : BranchOp) (condition : Operand) (fails holds : ℕ) → weight (branch_items globals function block op condition fails holds) ≤ 22 * all block + 15
  branch-few block op condition fails holds =
      let l = edge_label function block in
      let short = value-short globals T0 condition in
      let tail = edge_items globals function block fails ++ Bind l ∷ last_edge_items globals function block holds in
      let a = weight-append (plain (value_code globals T0 condition)) (Test op T0 X0 l ∷ tail) in
      let b = weight-plain (value_code globals T0 condition) in
      let c = weight-append (edge_items globals function block fails) (Bind l ∷ last_edge_items globals function block holds) in
      let d = goto-few block fails in
      let e = last-few block holds in
      omega (arith, short, a, b, c, d, e)

  cases-few : (block : ℕ) (every cases : List (ℕ × ℕ)) → weight (cases_items globals function block every cases) ≤ 12 * length cases
  cases-few block every [] = omega arith
  cases-few block every (one ∷ cases) =
      let a = weight-append (plain (value_code globals T1 (Num one.0))) (Test Beq T0 T1 (case_label function block every one.1) ∷ cases_items globals function block every cases) in
      let b = weight-plain (value_code globals T1 (Num one.0)) in
      let c = value-short globals T1 (Num one.0) in
      let d = cases-few block every cases in
      omega (arith, a, b, c, d)

  -- the edges to one block
  to-few : (from to : ℕ) → weight (edge_items globals function from to) ≤ 11 * total (insts_at function to) from + 2
  to-few from to =
      let heads = phis (insts_at function to) in
      let code = nexts-few from to 0 heads in
      let some = phis-total from (insts_at function to) in
      let both = weight-append (plain (edge_code globals function from to)) (Goto (block_label function to) ∷ []) in
      let first = weight-plain (edge_code globals function from to) in
      omega (arith, code, some, both, first)

  case-few : (block : ℕ) (every : List (ℕ × ℕ)) (number to : ℕ) → weight (case_edge globals function block every number to) ≤ 11 * cond (first_to 0 to every == number) (total (insts_at function to) block) 0 + 2
  case-few block every number to = by_head (is_headless (phis (insts_at function to)))
    where
      by_first : (b : Bool) → weight (cond b (Bind (edge_label function block + number) ∷ edge_items globals function block to) []) ≤ 11 * cond b (total (insts_at function to) block) 0 + 2
      by_first true = to-few block to
      by_first false = omega arith

      by_head : (b : Bool) → weight (cond b [] (cond (first_to 0 to every == number) (Bind (edge_label function block + number) ∷ edge_items globals function block to) [])) ≤ 11 * cond (first_to 0 to every == number) (total (insts_at function to) block) 0 + 2
      by_head true = omega arith
      by_head false = by_first (first_to 0 to every == number)

  case-edges-few : (block : ℕ) (every : List (ℕ × ℕ)) (number : ℕ) (cases : List (ℕ × ℕ)) → weight (case_edges globals function block every number cases) ≤ 11 * shares (λ b. total (insts_at function b) block) every number cases + 2 * length cases
  case-edges-few block every number [] = omega arith
  case-edges-few block every number (one ∷ cases) =
      let first = case-few block every number one.1 in
      let rest = case-edges-few block every (number + 1) cases in
      let both = weight-append (case_edge globals function block every number one.1) (case_edges globals function block every (number + 1) cases) in
      omega (arith, first, rest, both)

  switch-few : (block otherwise : ℕ) (cases : List (ℕ × ℕ)) → weight (switch_edges globals function block otherwise cases) ≤ 22 * all block + 2 * length cases + 2
  switch-few block otherwise cases = by_head (are_headless function cases)
    where
      by_head : (b : Bool) → weight (cond b (last_edge_items globals function block otherwise) (edge_items globals function block otherwise ++ case_edges globals function block cases 0 cases)) ≤ 22 * all block + 2 * length cases + 2
      by_head true = let few = last-few block otherwise in omega (arith, few)
      by_head false =
          let first = goto-few block otherwise in
          let edges = case-edges-few block cases 0 cases in
          let most = shares-few cases cases 0 (λ b. total (insts_at function b) block) (length function.blocks) (no-block function.blocks block) in
          let sum = blocks-total block function.blocks in
          let both = weight-append (edge_items globals function block otherwise) (case_edges globals function block cases 0 cases) in
          omega (arith, first, edges, most, sum, both)

  jump-few : (room fr block number : ℕ) (gives : Ty) (op : Op) → IsJump op → weight (op_items globals function room fr block number gives op) ≤ 22 * all block + 15 * units (record { gives = gives; op = op })
  jump-few room fr block number gives (Br to) h = let few = last-few block to in let cost = units-some (record { gives = gives; op = Br to }) in omega (arith, few, cost)
  jump-few room fr block number gives (Switch of x otherwise cases) h =
      let a = weight-append (plain (value_code globals T0 x)) (cases_items globals function block cases cases ++ switch_edges globals function block otherwise cases) in
      let b = weight-plain (value_code globals T0 x) in
      let c = value-short globals T0 x in
      let d = weight-append (cases_items globals function block cases cases) (switch_edges globals function block otherwise cases) in
      let e = cases-few block cases cases in
      let g = switch-few block otherwise cases in
      omega (arith, a, b, c, d, e, g)
  jump-few room fr block number gives (CondBr c x y) h = by_test (y == block + 1)
    where
      by_test : (b : Bool) → weight (cond b (branch_items globals function block Beq c x y) (branch_items globals function block Bne c y x)) ≤ 22 * all block + 15 * units (record { gives = gives; op = CondBr c x y })
      by_test true = let few = branch-few block Beq c x y in let cost = units-some (record { gives = gives; op = CondBr c x y }) in omega (arith, few, cost)
      by_test false = let few = branch-few block Bne c y x in let cost = units-some (record { gives = gives; op = CondBr c x y }) in omega (arith, few, cost)
  jump-few room fr block number gives (Binary op flags a b) h = absurd h
  jump-few room fr block number gives (Icmp pred flags of a b) h = absurd h
  jump-few room fr block number gives (Cast op flags of a) h = absurd h
  jump-few room fr block number gives (Select c a b) h = absurd h
  jump-few room fr block number gives (Freeze a) h = absurd h
  jump-few room fr block number gives (Phi pairs) h = absurd h
  jump-few room fr block number gives (Alloca of count) h = absurd h
  jump-few room fr block number gives (Load a) h = absurd h
  jump-few room fr block number gives (Store of a b) h = absurd h
  jump-few room fr block number gives (Gep of a indices) h = absurd h
  jump-few room fr block number gives (Call g arguments) h = absurd h
  jump-few room fr block number gives (CallBuiltIn which arguments) h = absurd h
  jump-few room fr block number gives (Ret a) h = absurd h
  jump-few room fr block number gives Unreachable h = absurd h

  -- a built-in that gives a value works on at most two operands
  built_in-operands : (which : BuiltIn) (arguments : List (Ty × Operand)) → length arguments ≡ 2 → length (built_in_operands which arguments) ≤ 2
  built_in-operands which arguments two = at which arguments (let many = length-map arguments (λ (argument : Ty × Operand). argument.1) in omega (arith, many, two))
    where
      at : (which : BuiltIn) (arguments : List (Ty × Operand)) → length (map (λ argument. argument.1) arguments) ≤ 2 → length (built_in_operands which arguments) ≤ 2
      at Abs [] h = omega arith
      at Abs (x ∷ more) h = omega arith
      at SMax arguments h = h
      at SMin arguments h = h
      at UMax arguments h = h
      at UMin arguments h = h
      at MemCpy arguments h = h
      at MemMove arguments h = h
      at MemSet arguments h = h

  -- an operation takes at most three operands, eight instructions and a store
  operation-few : (gives : Ty) (op : Op) (number work : ℕ) → length (operands op) ≤ 3 → length (work_code gives op) ≤ work → work ≤ 8 → weight (plain (operation_code globals gives op number)) ≤ 256
  operation-few gives op number work three short eight =
      let l0 = length-append (values_code globals 5 (operands op)) (work_code gives op ++ store_value T0 number) in
      let l1 = length-append (work_code gives op) (store_value T0 number) in
      let l2 = values-short globals 5 (operands op) in
      let l3 = store-short T0 (32 * number) in
      let w = weight-plain (operation_code globals gives op number) in
      omega (arith, three, short, eight, l0, l1, l2, l3, w)

  op-few : (room fr block number : ℕ) (gives : Ty) (op : Op) → IsForm op → (weight (op_items globals function room fr block number gives op) ≤ 256 * units (record { gives = gives; op = op })) ⊎ IsJump op
  op-few room fr block number gives (Binary op flags a b) h =
      let cost = units-some (record { gives = gives; op = Binary op flags a b }) in
      let few = operation-few gives (Binary op flags a b) number 7 (omega arith) (binary-short op (width gives)) (omega arith) in
      inl (omega (arith, cost, few))
  op-few room fr block number gives (Icmp pred flags of a b) h =
      let cost = units-some (record { gives = gives; op = Icmp pred flags of a b }) in
      let few = operation-few gives (Icmp pred flags of a b) number 6 (omega arith) (compare-short pred (width of)) (omega arith) in
      inl (omega (arith, cost, few))
  op-few room fr block number gives (Cast op flags of a) h =
      let cost = units-some (record { gives = gives; op = Cast op flags of a }) in
      let few = operation-few gives (Cast op flags of a) number 4 (omega arith) (cast-short op (width of) (width gives)) (omega arith) in
      inl (omega (arith, cost, few))
  op-few room fr block number gives (Select c a b) h =
      let cost = units-some (record { gives = gives; op = Select c a b }) in
      let few = operation-few gives (Select c a b) number 2 (omega arith) (omega arith) (omega arith) in
      inl (omega (arith, cost, few))
  op-few room fr block number gives (Freeze a) h =
      let cost = units-some (record { gives = gives; op = Freeze a }) in
      let few = operation-few gives (Freeze a) number 0 (omega arith) (omega arith) (omega arith) in
      inl (omega (arith, cost, few))
  op-few room fr block number gives (Phi pairs) h = inl (omega arith)
  op-few room fr block number gives (Call g arguments) h =
      let os : List Operand = map (λ argument. argument.1) arguments in
      let few = values-short globals 10 os in
      let many = length-map arguments (λ (argument : Ty × Operand). argument.1) in
      let l0 = length-append (values_code globals 10 os) (call_code g ++ answer_code gives number) in
      let l1 = length-append (call_code g) (answer_code gives number) in
      let last = answer-short gives number in
      let w = weight-plain (called_code globals gives g arguments number) in
      inl (omega (arith, few, many, l0, l1, last, w))
  op-few room fr block number gives (Ret None) h =
      let cost = units-some (record { gives = gives; op = Ret None }) in
      let back = restore-short (takes_data function) fr in
      let l1 = length-append (restore_code (takes_data function) fr) (leave_code fr) in
      let w = weight-plain (return_code globals (takes_data function) fr None) in
      let last = leave-short fr in
      inl (omega (arith, cost, back, l1, last, w))
  op-few room fr block number gives (Ret (Some a)) h =
      let cost = units-some (record { gives = gives; op = Ret (Some a) }) in
      let o = value-short globals A0 a in
      let back = restore-short (takes_data function) fr in
      let l0 = length-append (value_code globals A0 a) (restore_code (takes_data function) fr ++ leave_code fr) in
      let l1 = length-append (restore_code (takes_data function) fr) (leave_code fr) in
      let w = weight-plain (return_code globals (takes_data function) fr (Some a)) in
      let last = leave-short fr in
      inl (omega (arith, cost, o, back, l0, l1, last, w))
  op-few room fr block number gives (Br to) h = inr tt
  op-few room fr block number gives (CondBr c x y) h = inr tt
  op-few room fr block number gives Unreachable h = inl (omega arith)
  op-few room fr block number gives (Alloca of count) h =
      let cost = units-some (record { gives = gives; op = Alloca of count }) in
      let short = alloca-short room of count number in
      let w = weight-plain (alloca_code room of count number) in
      inl (omega (arith, cost, short, w))
  op-few room fr block number gives (Load a) h =
      let cost = units-some (record { gives = gives; op = Load a }) in
      let few = operation-few gives (Load a) number 1 (omega arith) (omega arith) (omega arith) in
      inl (omega (arith, cost, few))
  op-few room fr block number gives (Store of a b) h =
      let cost = units-some (record { gives = gives; op = Store of a b }) in
      let few = values-short globals 5 (a ∷ b ∷ []) in
      let l0 = length-append (values_code globals 5 (a ∷ b ∷ [])) (StoreBytes (store_op (width of)) T0 T1 (pos 0) ∷ []) in
      let w = weight-plain (keeping_code globals of a b) in
      inl (omega (arith, cost, few, l0, w))
  op-few room fr block number gives (Gep of a indices) h =
      let l0 = length-append (values_code globals 5 (a ∷ [])) (parts_code of indices ++ store_value T0 number) in
      let l1 = length-append (parts_code of indices) (store_value T0 number) in
      let l2 = values-short globals 5 (a ∷ []) in
      let l3 = store-short T0 (32 * number) in
      let short = parts-short of indices in
      let w = weight-plain (operation_code globals gives (Gep of a indices) number) in
      inl (omega (arith, l0, l1, l2, l3, short, w))
  op-few room fr block number gives (CallBuiltIn which arguments) h = inl (by_test (moves_bytes which) refl)
    where
      by_test : (b : Bool) → moves_bytes which ≡ b
          → weight (plain (cond b (moved_code globals which arguments) (operation_code globals gives (CallBuiltIn which arguments) number))) ≤ 256 * units (record { gives = gives; op = CallBuiltIn which arguments })
      by_test true e =
          let cost = units-some (record { gives = gives; op = CallBuiltIn which arguments }) in
          let short = moved-short globals which arguments in
          let w = weight-plain (moved_code globals which arguments) in
          omega (arith, cost, short, w)
      by_test false e =
          let cost = units-some (record { gives = gives; op = CallBuiltIn which arguments }) in
          let two = built_in-operands which arguments (h e) in
          let few = operation-few gives (CallBuiltIn which arguments) number 8 (omega (arith, two)) (built_in-short which (width gives)) (omega arith) in
          omega (arith, cost, few)
  op-few room fr block number gives (Switch of a otherwise cases) h = inr tt

  insts-few : (room fr block place : ℕ) (insts : List Inst) → EndsByJump insts → AreForms insts → weight (insts_items globals function room fr block place insts) ≤ 256 * sum_by units insts + 22 * all block
  insts-few room fr block place [] ends forms = omega arith
  insts-few room fr block place (inst ∷ insts) ends forms =
      by_kind (op-few room fr block (number_at function block place) inst.gives inst.op (forms 0 inst refl)) (insts-few room fr block (place + 1) insts (ends-tail inst insts ends) (λ k x e. forms (suc k) x e))
    where
      by_kind : (weight (op_items globals function room fr block (number_at function block place) inst.gives inst.op) ≤ 256 * units inst) ⊎ IsJump inst.op
          → weight (insts_items globals function room fr block (place + 1) insts) ≤ 256 * sum_by units insts + 22 * all block
          → weight (insts_items globals function room fr block place (inst ∷ insts)) ≤ 256 * sum_by units (inst ∷ insts) + 22 * all block
      by_kind (inl few) rest =
          let both = weight-append (op_items globals function room fr block (number_at function block place) inst.gives inst.op) (insts_items globals function room fr block (place + 1) insts) in
          let sum = sum_by-cons units inst insts in
          omega (arith, few, rest, both, sum)
      by_kind (inr is-jump) rest =
          let few = jump-few room fr block (number_at function block place) inst.gives inst.op is-jump in
          let none : weight (insts_items globals function room fr block (place + 1) insts) ≡ 0 = ap (λ (xs : List Inst). weight (insts_items globals function room fr block (place + 1) xs)) (none-behind inst insts ends is-jump) in
          let both = weight-append (op_items globals function room fr block (number_at function block place) inst.gives inst.op) (insts_items globals function room fr block (place + 1) insts) in
          let sum = sum_by-cons units inst insts in
          let cost = units-some inst in
          omega (arith, few, none, both, sum, cost)

  forms-drop : (k : ℕ) (insts : List Inst) → AreForms insts → AreForms (drop k insts)
  forms-drop zero insts h = h
  forms-drop (suc k) [] h = h
  forms-drop (suc k) (inst ∷ insts) h = forms-drop k insts (λ j x e. h (suc j) x e)

  block-few : (room fr block : ℕ) → weight (block_items globals function room fr block) ≤ 256 * sum_by units (insts_at function block) + 22 * all block
  block-few room fr block =
      let insts = insts_at function block in
      let heads = phis insts in
      let code = phis_code function block 0 heads in
      let rest = insts_items globals function room fr block (length heads) (drop (length heads) insts) in
      let few = insts-few room fr block (length heads) (drop (length heads) insts) (ends-drop (length heads) insts (λ k x e h. flow.ends block k x e h)) (forms-drop (length heads) insts (λ k x e. flow.forms block k x e)) in
      let two = phis-length function block 0 heads in
      let first = weight-plain code in
      let both = weight-append (plain code) rest in
      let cost = phis-cost insts in
      omega (arith, few, two, first, both, cost)

  blocks-few : (room fr many block : ℕ) → weight (blocks_items globals function room fr block many) ≤ 256 * tally (λ b. sum_by units (insts_at function b)) block many + 22 * tally all block many
  blocks-few room fr zero block = omega arith
  blocks-few room fr (suc many) block =
      let one = block-few room fr block in
      let rest = blocks-few room fr many (block + 1) in
      let both = weight-append (block_items globals function room fr block) (blocks_items globals function room fr (block + 1) many) in
      omega (arith, one, rest, both)

  blocks-units : (blocks : List Block) → tally (λ b. sum_by units (insts_of (slice_get blocks b))) 0 (length blocks) ≡ sum_by units (instructions blocks)
  blocks-units [] = refl
  blocks-units (block ∷ blocks) =
      let sum = sum_by-append units block.insts (instructions blocks) in
      let shift = tally-shift (λ b. sum_by units (insts_of (slice_get (block ∷ blocks) b))) 0 (length blocks) in
      let rest = blocks-units blocks in
      omega (arith, sum, shift, rest)

  pub weight-few : (symbol room : ℕ) → weight (function_items globals symbol function room (frame function)) ≤ 256 * (units_of_function function + phi_operands_of function)
  weight-few symbol room =
      let fr = frame function in
      let np = length function.params in
      let blocks = blocks_items globals function room fr 0 (length function.blocks) in
      let a = weight-append (plain (prologue symbol fr ++ save_code (takes_data function) fr)) (plain (arguments_code 0 function.params) ++ blocks) in
      let b = weight-append (plain (arguments_code 0 function.params)) blocks in
      let c = weight-plain (arguments_code 0 function.params) in
      let d = arguments-short 0 function.params in
      let e = blocks-few room fr (length function.blocks) 0 in
      let f = blocks-units function.blocks in
      let g = total-few (instructions function.blocks) 0 (length function.blocks) in
      let few = flow.few in
      let first = weight-plain (prologue symbol fr ++ save_code (takes_data function) fr) in
      let ten = length-append (prologue symbol fr) (save_code (takes_data function) fr) in
      let saves = save-short (takes_data function) fr in
      let short = prologue-short symbol fr in
      omega (arith, a, b, c, d, e, f, g, few, first, ten, saves, short)

-- the words of quick code are few
pub words-few : (program : Program) (symbol : ℕ) (function : Function) (words : List ℕ) → IsFlow function → function_at program symbol ≡ Some function → IsAssembly (code_of program.module_.globals symbol function program.room) words
    → length words ≤ 256 * ((meaning program).units symbol + (meaning program).phi_operands symbol)
unfolding put
words-few program symbol function words flow there made =
    let xs = made.formed in
    let items = function_items program.module_.globals symbol function program.room (frame function) in
    let many : length words ≡ sizes xs = ap length made.made ∙ length-map (laid (way (code_of program.module_.globals symbol function program.room).bound xs) 0 xs) word_of ∙ laid-size (way (code_of program.module_.globals symbol function program.room).bound xs) 0 xs in
    let most' : sizes xs ≤ most_all (assembled items) = subst (λ (ys : List Assembled). sizes xs ≤ most_all ys) made.items (sizes-most xs) in
    let same = most-weight items in
    let few = weight-few program.module_.globals function flow symbol program.room in
    let units-is : (meaning program).units symbol ≡ units_of_function function = ap (of_function 0 units_of_function) there in
    let operands-is : (meaning program).phi_operands symbol ≡ phi_operands_of function = ap (of_function 0 phi_operands_of) there in
    omega (arith, many, most', same, few, units-is, operands-is)
