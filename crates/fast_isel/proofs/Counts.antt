-- What the loops of the compiler count: values, and labels that stand nowhere yet.
use Rattle.std.proofs.Common.{◌≡◌, refl, sym, ap, subst, ◌∙◌, ℕ, zero, suc, ◌+◌, ◌-◌, ◌<◌, ◌≤◌, ◌⊎◌, inl, inr, List, [], ◌∷◌, ◌++◌, length, get_or, replicate, Option, Some, None, cond, arith}
use Rattle.std.specs.Prelude.{slice_get, slice_set, take, drop}
use Rattle.std.proofs.lemmas.Bool.{cases_lt}
use Rattle.std.proofs.lemmas.Option.{slice_get_read}
use Rattle.std.proofs.lemmas.List.Sums.{sum_by-append, sum_by-cons, sum_by-take-le}
use Rattle.ir_core.specs.declared.code.Inst.{Inst}
use Rattle.ir_core.specs.declared.code.Block.{Block}
use Rattle.ir_core.specs.declared.program.Function.{Function}
use Rattle.ir_core.specs.Units.{instructions, results, has_result, values}
use Rattle.ir_meaning.specs.Step.{insts_at, insts_of, number_at}
use Rattle.rv_asm.specs.Code.{Code}
use Rattle.code_pieces.specs.Items.{Item, Plain, Bind, Goto, Test}
use Rattle.quick_code.specs.Blocks.{edges_of, edges_in, block_label, label_count}
use Rattle.code_pieces.specs.Assembly.{bind_all, put, labelled}
use Rattle.fast_isel.specs.declared.starts.Start.{Start}
use Rattle.fast_isel.specs.Written.{AreFree}
use Rattle.code_pieces.proofs.Rising.{Rise, rise-ends}
use Rattle.quick_code.proofs.Fresh.{label-next, label-first}

abbrev edge_number : Inst → ℕ
edge_number inst = edges_of inst.op

abbrev pub one_if : Inst → ℕ
one_if inst = cond (has_result inst) 1 0

results-append : (xs ys : List Inst) → results (xs ++ ys) ≡ results xs + results ys
results-append xs ys = sum_by-append one_if xs ys

-- ---- numbers of values

most-results : (blocks : List Block) (block place : ℕ) → results (instructions (take block blocks)) + results (take place (insts_of (slice_get blocks block))) ≤ results (instructions blocks)
most-results [] zero zero = omega arith
most-results [] zero (suc place) = omega arith
most-results [] (suc block) zero = omega arith
most-results [] (suc block) (suc place) = omega arith
most-results (b ∷ bs) zero place =
    let some = sum_by-take-le one_if b.insts place in
    let all = results-append b.insts (instructions bs) in
    omega (arith, some, all)
most-results (b ∷ bs) (suc block) place =
    let rest = most-results bs block place in
    let left = results-append b.insts (instructions (take block bs)) in
    let right = results-append b.insts (instructions bs) in
    omega (arith, rest, left, right)

-- the number of a value is at most how many there are
pub number-most : (function : Function) (block place : ℕ) → number_at function block place ≤ values function
number-most function block place = let few = most-results function.blocks block place in omega (arith, few)

take-step : (insts : List Inst) (place : ℕ) (inst : Inst) → slice_get insts place ≡ Some inst → results (take (suc place) insts) ≡ results (take place insts) + one_if inst
take-step [] place inst e = absurd (let bad : ⊥ = cc in bad)
take-step (x ∷ xs) zero inst e =
    let same : x ≡ inst = cc in
    let one : one_if x ≡ one_if inst = ap one_if same in
    let sum = sum_by-cons one_if x [] in
    omega (arith, one, sum)
take-step (x ∷ xs) (suc place) inst e =
    let rest = take-step xs place inst e in
    let left = sum_by-cons one_if x (take (suc place) xs) in
    let right = sum_by-cons one_if x (take place xs) in
    omega (arith, rest, left, right)

-- an instruction takes a number where it has a result
pub number-step : (function : Function) (block place : ℕ) (inst : Inst) → slice_get (insts_at function block) place ≡ Some inst → number_at function block (place + 1) ≡ number_at function block place + one_if inst
number-step function block place inst e =
    let step = take-step (insts_at function block) place inst e in
    let same : results (take (place + 1) (insts_at function block)) ≡ results (take (suc place) (insts_at function block)) = ap (λ (k : ℕ). results (take k (insts_at function block))) (let z : place + 1 ≡ suc place = omega arith in z) in
    omega (arith, step, same)

block-results : (blocks : List Block) (block : ℕ) → results (instructions (take (suc block) blocks)) ≡ results (instructions (take block blocks)) + results (insts_of (slice_get blocks block))
block-results [] zero = refl
block-results [] (suc block) = refl
block-results (b ∷ bs) zero = let all = results-append b.insts [] in omega (arith, all)
block-results (b ∷ bs) (suc block) =
    let rest = block-results bs block in
    let left = results-append b.insts (instructions (take (suc block) bs)) in
    let right = results-append b.insts (instructions (take block bs)) in
    omega (arith, rest, left, right)

pub first-step : (function : Function) (block : ℕ) → number_at function (block + 1) 0 ≡ number_at function block 0 + results (insts_at function block)
first-step function block =
    let step = block-results function.blocks block in
    let same : results (instructions (take (block + 1) function.blocks)) ≡ results (instructions (take (suc block) function.blocks)) = ap (λ (k : ℕ). results (instructions (take k function.blocks))) (let z : block + 1 ≡ suc block = omega arith in z) in
    let none = nothing (insts_at function block) in
    let none' = nothing (insts_at function (block + 1)) in
    omega (arith, step, same, none, none')
  where
    nothing : (insts : List Inst) → results (take 0 insts) ≡ 0
    nothing [] = refl
    nothing (x ∷ xs) = refl

pub first-first : (function : Function) → number_at function 0 0 ≡ length function.params
first-first function = by_blocks function.blocks
  where
    by_blocks : (blocks : List Block) → length function.params + results (instructions (take 0 blocks)) + results (take 0 (insts_of (slice_get blocks 0))) ≡ length function.params
    by_blocks [] = omega arith
    by_blocks (b ∷ bs) = by_insts b.insts
      where
        by_insts : (insts : List Inst) → length function.params + 0 + results (take 0 insts) ≡ length function.params
        by_insts [] = omega arith
        by_insts (x ∷ xs) = omega arith

pub first_zero : (function : Function) → number_at function 0 0 ≡ length function.params
first_zero function = first-first function

-- the first number of the next block
pub first_more : (function : Function) (blocks : List Block) (i : ℕ) (block : Block) → blocks ≡ function.blocks → i < length blocks → block ≡ get_or blocks i block
    → number_at function (i + 1) 0 ≡ number_at function i 0 + results block.insts
first_more function blocks i block same lt is =
    let at : slice_get function.blocks i ≡ Some block = subst (λ (bs : List Block). slice_get bs i ≡ Some block) same (slice_get_read blocks (length blocks) i block refl lt is) in
    let insts : results (insts_at function i) ≡ results block.insts = ap (λ (o : Option Block). results (insts_of o)) at in
    let step = first-step function i in
    omega (arith, step, insts)

pub results_few : (function : Function) (blocks : List Block) (i : ℕ) (block : Block) → blocks ≡ function.blocks → i < length blocks → block ≡ get_or blocks i block → results block.insts ≤ values function
results_few function blocks i block same lt is =
    let more = first_more function blocks i block same lt is in
    let most = number-most function (i + 1) 0 in
    omega (arith, more, most)

pub each_more : (starts : List Start) (next : Start) (i : ℕ) (f : ℕ → Start) → length starts ≡ i → next ≡ f i → ((b : ℕ) → b < i → slice_get starts b ≡ Some (f b)) → (b : ℕ) → b < i + 1 → slice_get (starts ++ next ∷ []) b ≡ Some (f b)
each_more starts next i f many is each b lt = by_order (cases_lt b i)
  where
    inside : (xs ys : List Start) (b : ℕ) → b < length xs → slice_get (xs ++ ys) b ≡ slice_get xs b
    inside [] ys b lt = absurd (let bad : ⊥ = omega (arith, lt) in bad)
    inside (x ∷ xs) ys zero lt = refl
    inside (x ∷ xs) ys (suc b) lt = inside xs ys b (omega (arith, lt))

    behind : (xs : List Start) (v : Start) → slice_get (xs ++ v ∷ []) (length xs) ≡ Some v
    behind [] v = refl
    behind (x ∷ xs) v = behind xs v

    by_order : (b < i) ⊎ (i ≤ b) → slice_get (starts ++ next ∷ []) b ≡ Some (f b)
    by_order (inl less) = inside starts (next ∷ []) b (omega (arith, less, many)) ∙ each b less
    by_order (inr le) =
        let same : b ≡ length starts = omega (arith, le, lt, many) in
        ap (slice_get (starts ++ next ∷ [])) same ∙ behind starts next ∙ ap Some is ∙ ap (λ (k : ℕ). Some (f k)) (let z : i ≡ b = omega (arith, le, lt) in z)

-- where a block starts
abbrev pub start_of : Function → ℕ → Start
start_of function block = record { value = number_at function block 0; label = block_label function block }

abbrev made_start : ℕ → ℕ → Start
made_start value label = record { value = value; label = label }

-- the next block starts behind the values and the labels of a block
pub start_next : (function : Function) (block : ℕ) (start next : Start) (insts : List Inst) → insts ≡ insts_at function block → start ≡ start_of function block
    → next.value ≡ start.value + results insts → next.label ≡ start.label + 1 + edges_in insts → next ≡ start_of function (block + 1)
start_next function block start next insts same is follows behind =
    let value = first-step function block in
    let label = label-next function block in
    let value' : start.value + results insts ≡ number_at function (block + 1) 0 = ap (λ (x : Start). x.value + results insts) is ∙ ap (λ (xs : List Inst). number_at function block 0 + results xs) same ∙ sym value in
    let label' : start.label + 1 + edges_in insts ≡ block_label function (block + 1) =
    ap (λ (x : Start). x.label + 1 + edges_in insts) is ∙ ap (λ (xs : List Inst). block_label function block + 1 + edges_in xs) same ∙ sym label in
    ap (λ (v : ℕ). made_start v next.label) (follows ∙ value') ∙ ap (made_start (number_at function (block + 1) 0)) (behind ∙ label')

pub start_zero : (function : Function) (start : Start) → start.value ≡ length function.params → start.label ≡ 0 → start ≡ start_of function 0
start_zero function start value label = ap (λ (v : ℕ). made_start v start.label) (value ∙ sym (first-first function)) ∙ ap (made_start (number_at function 0 0)) (label ∙ sym (label-first function))

label-rises : (function : Function) (block more : ℕ) → block_label function block ≤ block_label function (block + more)
label-rises function block zero = let e : block_label function block ≡ block_label function (block + 0) = ap (block_label function) (let z : block ≡ block + 0 = omega arith in z) in omega (arith, e)
label-rises function block (suc more) =
    let rest = label-rises function block more in
    let step = label-next function (block + more) in
    let same : block_label function (block + suc more) ≡ block_label function (block + more + 1) = ap (block_label function) (let z : block + suc more ≡ block + more + 1 = omega arith in z) in
    omega (arith, rest, step, same)

-- the labels of a block and its edges are below the number of all
pub label_below : (function : Function) (block : ℕ) → block < length function.blocks → block_label function block + 1 + edges_in (insts_at function block) ≤ label_count function
label_below function block lt =
    let step = label-next function block in
    let rest = label-rises function (block + 1) (length function.blocks - (block + 1)) in
    let same : block_label function (block + 1 + (length function.blocks - (block + 1))) ≡ label_count function = ap (block_label function) (let z : block + 1 + (length function.blocks - (block + 1)) ≡ length function.blocks = omega (arith, lt) in z) in
    omega (arith, step, rest, same)

pub label_most : (function : Function) (block : ℕ) → block ≤ length function.blocks → block_label function block ≤ label_count function
label_most function block le =
    let rest = label-rises function block (length function.blocks - block) in
    let same : block_label function (block + (length function.blocks - block)) ≡ label_count function = ap (block_label function) (let z : block + (length function.blocks - block) ≡ length function.blocks = omega (arith, le) in z) in
    omega (arith, rest, same)

-- an instruction's edges are among those of its block
edges-among : (insts : List Inst) (k : ℕ) (inst : Inst) → slice_get insts k ≡ Some inst → edges_of inst.op ≤ edges_in insts
edges-among [] k inst e = absurd (let bad : ⊥ = cc in bad)
edges-among (x ∷ xs) zero inst e =
    let same : x ≡ inst = cc in
    let one : edges_of x.op ≡ edges_of inst.op = ap (λ (y : Inst). edges_of y.op) same in
    let sum = sum_by-cons edge_number x xs in
    omega (arith, one, sum)
edges-among (x ∷ xs) (suc k) inst e =
    let rest = edges-among xs k inst e in
    let sum = sum_by-cons edge_number x xs in
    omega (arith, rest, sum)

pub edges_at : (function : Function) (block place : ℕ) (inst : Inst) → slice_get (insts_at function block) place ≡ Some inst → edges_of inst.op ≤ edges_in (insts_at function block)
edges_at function block place inst e = edges-among (insts_at function block) place inst e

-- the edges of the instructions that are left
pub edges_left : (insts : List Inst) (i : ℕ) (inst : Inst) → i < length insts → inst ≡ get_or insts i inst → edges_in (drop i insts) ≡ edges_of inst.op + edges_in (drop (i + 1) insts)
edges_left [] i inst lt is = absurd (let bad : ⊥ = omega (arith, lt) in bad)
edges_left (x ∷ xs) zero inst lt is =
    let same : edges_of inst.op ≡ edges_of x.op = ap (λ (y : Inst). edges_of y.op) is in
    let sum = sum_by-cons edge_number x xs in
    omega (arith, same, sum)
edges_left (x ∷ xs) (suc i) inst lt is = edges_left xs i inst (omega (arith, lt)) is ∙ ap (λ (k : ℕ). edges_of inst.op + edges_in (drop k (x ∷ xs))) (let z : suc (i + 1) ≡ suc i + 1 = omega arith in z)

pub edges_none : (insts : List Inst) (i : ℕ) → length insts ≤ i → edges_in (drop i insts) ≡ 0
edges_none [] zero le = refl
edges_none [] (suc i) le = refl
edges_none (x ∷ xs) zero le = absurd (let bad : ⊥ = omega (arith, le) in bad)
edges_none (x ∷ xs) (suc i) le = edges_none xs i (omega (arith, le))

-- ---- labels

get-set-apart : (xs : List (Option ℕ)) (i j : ℕ) (x : Option ℕ) → j < i → slice_get (slice_set xs j x) i ≡ slice_get xs i
get-set-apart [] i j x lt = refl
get-set-apart (y ∷ ys) zero j x lt = absurd (let bad : ⊥ = omega (arith, lt) in bad)
get-set-apart (y ∷ ys) (suc i) zero x lt = refl
get-set-apart (y ∷ ys) (suc i) (suc j) x lt = get-set-apart ys i j x (omega (arith, lt))

-- a label behind those that stand among items stays where it is
pub kept-above : (items : List Item) (at low high label : ℕ) (bound : List (Option ℕ)) → Rise low high items → high ≤ label → slice_get (bind_all at items bound) label ≡ slice_get bound label
kept-above [] at low high label bound h le = refl
kept-above (Plain i ∷ items) at low high label bound h le = kept-above items (at + 1) low high label bound h le
kept-above (Bind l ∷ items) at low high label bound h le =
    let end = rise-ends items (l + 1) high h.1 in
    kept-above items at (l + 1) high label (slice_set bound l (Some at)) h.1 le ∙ get-set-apart bound label l (Some at) (omega (arith, end, le))
kept-above (Goto l ∷ items) at low high label bound h le = kept-above items (at + 1) low high label bound h le
kept-above (Test op a b l ∷ items) at low high label bound h le = kept-above items (at + 1) low high label bound h le

pub free-behind : (function : Function) (code new : Code) (items : List Item) (low high : ℕ) → Rise low high items → new ≡ put code items → AreFree function low code → AreFree function high new
unfolding put
free-behind function code new items low high rise is free label le lt =
    let end = rise-ends items low high rise in
    ap (λ (c : Code). slice_get c.bound label) is ∙ kept-above items (length code.items) low high label code.bound rise le ∙ free label (omega (arith, le, end)) lt

-- a label that stands nowhere, behind items among which none stands
pub free-label : (code new : Code) (items : List Item) (label : ℕ) → Rise label label items → new ≡ put code items → slice_get code.bound label ≡ Some None → slice_get new.bound label ≡ Some None
unfolding put
free-label code new items label rise is free =
    ap (λ (c : Code). slice_get c.bound label) is ∙ kept-above items (length code.items) label label label code.bound rise (omega arith) ∙ free

abbrev nowhere : Option ℕ
nowhere = None

pub none-stands : (labels label : ℕ) → label < labels → slice_get (replicate labels nowhere) label ≡ Some nowhere
none-stands zero label lt = absurd (let bad : ⊥ = omega (arith, lt) in bad)
none-stands (suc labels) zero lt = refl
none-stands (suc labels) (suc label) lt = none-stands labels label (omega (arith, lt))

pub free-first : (function : Function) → AreFree function 0 (labelled (label_count function))
free-first function label le lt = none-stands (label_count function) label lt
