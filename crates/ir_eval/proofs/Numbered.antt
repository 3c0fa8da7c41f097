-- The numbers of values, counted block by block.
use Rattle.std.specs.Prelude.{◌≡◌, ℕ, zero, suc, ◌+◌, ◌<◌, ◌≤◌, ◌⊎◌, cond, List, [], ◌∷◌, ◌++◌, length, take, drop, slice_get, slice_index, Some, None, refl}
use Rattle.std.proofs.Common.{arith, sym, subst, ◌∙◌, ap, append_assoc, add-one, drop-cons, get_or, inl, inr}
use Rattle.std.proofs.lemmas.List.{length-append}
use Rattle.std.proofs.lemmas.List.Sums.{sum_by-append}
use Rattle.ir_core.specs.Units.{results, instructions, has_result}
use Rattle.ir_core.specs.declared.program.Function.{Function}
use Rattle.ir_core.specs.declared.code.Inst.{Inst}
use Rattle.ir_core.specs.declared.code.Block.{Block}
use Rattle.ir_meaning.specs.Step.{insts_of}
use Rattle.ir_verify.proofs.Lists.{some_at}
use Rattle.ir_eval.specs.Fits.{HasNumbers, number_in, numbers_from, rows_at, rows_from}

results-append : (xs ys : List Inst) → results (xs ++ ys) ≡ results xs + results ys
results-append xs ys = sum_by-append (λ x. cond (has_result x) 1 0) xs ys

-- ---- a block

dropped : (insts : List Inst) (i : ℕ) (inst : Inst) → i < length insts → inst ≡ get_or insts i inst → drop i insts ≡ inst ∷ drop (i + 1) insts
dropped insts i inst below is = drop-cons insts i inst below ∙ ap (λ (x : Inst). x ∷ drop (suc i) insts) (sym is) ∙ ap (λ n. inst ∷ drop n insts) (sym (add-one i))

pub next_number : (insts : List Inst) (i : ℕ) (inst : Inst) (row : List ℕ) (next next' : ℕ) → i < length insts → inst ≡ get_or insts i inst → next' ≡ next + results (inst ∷ [])
    → (row ++ next ∷ []) ++ numbers_from next' (drop (i + 1) insts) ≡ row ++ numbers_from next (drop i insts)
next_number insts i inst row next next' below is e =
    append_assoc row (next ∷ []) (numbers_from next' (drop (i + 1) insts))
    ∙ ap (λ (n : ℕ). row ++ next ∷ numbers_from n (drop (i + 1) insts)) e
    ∙ ap (λ (xs : List Inst). row ++ numbers_from next xs) (sym (dropped insts i inst below is))

pub results_step : (insts : List Inst) (i : ℕ) (inst : Inst) → i < length insts → inst ≡ get_or insts i inst → results (drop i insts) ≡ results (inst ∷ []) + results (drop (i + 1) insts)
results_step insts i inst below is = ap (λ (xs : List Inst). results xs) (dropped insts i inst below is) ∙ results-append (inst ∷ []) (drop (i + 1) insts)

at_place : (insts : List Inst) (first p : ℕ) → p < length insts → slice_index (numbers_from first insts) p ≡ first + results (take p insts)
at_place [] first p h = absurd (omega arith)
at_place (x ∷ xs) first zero h = nothing_more first
  where
    nothing_more : (n : ℕ) → n ≡ n + 0
    nothing_more n = omega arith
at_place (x ∷ xs) first (suc p) h =
    let rest : slice_index (numbers_from (first + results (x ∷ [])) xs) p ≡ first + results (x ∷ []) + results (take p xs) = at_place xs (first + results (x ∷ [])) p (omega arith) in
    let both : results ((x ∷ []) ++ take p xs) ≡ results (x ∷ []) + results (take p xs) = results-append (x ∷ []) (take p xs) in
    rest ∙ regroup first (results (x ∷ [])) (results (take p xs)) (results ((x ∷ []) ++ take p xs)) both
  where
    regroup : (a b c d : ℕ) → d ≡ b + c → a + b + c ≡ a + d
    regroup a b c d e = omega (arith, e)

-- ---- blocks

dropped_block : (blocks : List Block) (i : ℕ) (block : Block) → i < length blocks → block ≡ get_or blocks i block → drop i blocks ≡ block ∷ drop (i + 1) blocks
dropped_block blocks i block below is = drop-cons blocks i block below ∙ ap (λ (x : Block). x ∷ drop (suc i) blocks) (sym is) ∙ ap (λ n. block ∷ drop n blocks) (sym (add-one i))

pub next_row : (blocks : List Block) (i : ℕ) (block : Block) (rows : List (List ℕ)) (row : List ℕ) (next next' : ℕ) → i < length blocks → block ≡ get_or blocks i block
    → row ≡ numbers_from next block.insts → next' ≡ next + results block.insts
    → (rows ++ row ∷ []) ++ rows_from next' (drop (i + 1) blocks) ≡ rows ++ rows_from next (drop i blocks)
next_row blocks i block rows row next next' below is own e =
    append_assoc rows (row ∷ []) (rows_from next' (drop (i + 1) blocks))
    ∙ ap (λ (r : List ℕ). rows ++ r ∷ rows_from next' (drop (i + 1) blocks)) own
    ∙ ap (λ (n : ℕ). rows ++ numbers_from next block.insts ∷ rows_from n (drop (i + 1) blocks)) e
    ∙ ap (λ (bs : List Block). rows ++ rows_from next bs) (sym (dropped_block blocks i block below is))

pub block_step : (blocks : List Block) (i : ℕ) (block : Block) → i < length blocks → block ≡ get_or blocks i block
    → results (instructions (drop i blocks)) ≡ results block.insts + results (instructions (drop (i + 1) blocks))
block_step blocks i block below is =
    ap (λ (bs : List Block). results (instructions bs)) (dropped_block blocks i block below is) ∙ results-append block.insts (instructions (drop (i + 1) blocks))

in_rows : (blocks : List Block) (first b p : ℕ) → p < length (insts_of (slice_get blocks b))
    → number_in (rows_from first blocks) b p ≡ first + results (instructions (take b blocks)) + results (take p (insts_of (slice_get blocks b)))
in_rows [] first b p h = absurd (omega arith)
in_rows (x ∷ xs) first zero p h = at_place x.insts first p h ∙ ap (λ n. n + results (take p x.insts)) (nothing_more first)
  where
    nothing_more : (n : ℕ) → n ≡ n + 0
    nothing_more n = omega arith
in_rows (x ∷ xs) first (suc b) p h =
    let rest = in_rows xs (first + results x.insts) b p h in
    let both : results (x.insts ++ instructions (take b xs)) ≡ results x.insts + results (instructions (take b xs)) = results-append x.insts (instructions (take b xs)) in
    rest ∙ regroup first (results x.insts) (results (instructions (take b xs))) (results (take p (insts_of (slice_get xs b)))) (results (x.insts ++ instructions (take b xs))) both
  where
    regroup : (a b c d e : ℕ) → e ≡ b + c → a + b + c + d ≡ a + e + d
    regroup a b c d e f = omega (arith, f)

pub has_numbers : (function : Function) (rows : List (List ℕ)) → rows ≡ rows_from (length function.params) function.blocks → HasNumbers function rows
has_numbers function rows is b p h = ap (λ (rs : List (List ℕ)). number_in rs b p) is ∙ in_rows function.blocks (length function.params) b p h

no_more : (blocks : List Block) (i : ℕ) → length blocks ≤ i → drop i blocks ≡ []
no_more [] zero h = refl
no_more [] (suc i) h = refl
no_more (b ∷ bs) zero h = absurd (omega arith)
no_more (b ∷ bs) (suc i) h = no_more bs i (omega arith)

right_nil : (xs : List (List ℕ)) → xs ++ [] ≡ xs
right_nil [] = refl
right_nil (x ∷ xs) = ap (λ (ys : List (List ℕ)). x ∷ ys) (right_nil xs)

pub all_rows : (blocks : List Block) (i : ℕ) (rows all : List (List ℕ)) (next : ℕ) → length blocks ≤ i → rows ++ rows_from next (drop i blocks) ≡ all → rows ≡ all
all_rows blocks i rows all next h e = sym (right_nil rows) ∙ ap (λ (bs : List Block). rows ++ rows_from next bs) (sym (no_more blocks i h)) ∙ e

pub at_or_zero : (xs : List ℕ) (p n : ℕ) → Some n ≡ slice_get xs p → n ≡ slice_index xs p
at_or_zero [] p n e = absurd (let bad : ⊥ = cc in bad)
at_or_zero (x ∷ xs) zero n e = cc
at_or_zero (x ∷ xs) (suc p) n e = at_or_zero xs p n e

pub none_is_zero : (xs : List ℕ) (p : ℕ) → None ≡ slice_get xs p → 0 ≡ slice_index xs p
none_is_zero [] p e = refl
none_is_zero (x ∷ xs) zero e = absurd (let bad : ⊥ = cc in bad)
none_is_zero (x ∷ xs) (suc p) e = none_is_zero xs p e

below : (functions : List Function) (s : ℕ) (f : Function) → slice_get functions s ≡ Some f → s < length functions
below [] s f e = absurd (let bad : ⊥ = cc in bad)
below (x ∷ xs) zero f e = omega arith
below (x ∷ xs) (suc s) f e = let rest : s < length xs = below xs s f e in omega (arith, rest)

-- ---- functions

front : (plan : List (List (List ℕ))) (rows : List (List ℕ)) (s : ℕ) → s < length plan → rows_at (plan ++ rows ∷ []) s ≡ rows_at plan s
front [] rows s h = absurd (omega arith)
front (x ∷ xs) rows zero h = refl
front (x ∷ xs) rows (suc s) h = front xs rows s (omega arith)

back : (plan : List (List (List ℕ))) (rows : List (List ℕ)) (s : ℕ) → s ≡ length plan → rows_at (plan ++ rows ∷ []) s ≡ rows
back [] rows zero e = refl
back [] rows (suc s) e = absurd (omega (arith, e))
back (x ∷ xs) rows zero e = absurd (omega (arith, e))
back (x ∷ xs) rows (suc s) e = back xs rows s (omega (arith, e))

-- a table for each of the first functions
abbrev pub PlansFirst : List Function → List (List (List ℕ)) → ℕ → Type 0
PlansFirst functions plan i = (length plan ≡ i) × ((s : ℕ) (f : Function) → s < i → slice_get functions s ≡ Some f → HasNumbers f (rows_at plan s))

some_same : (x y : Function) → Some x ≡ Some y → x ≡ y
some_same x y e = cc

pub plan_whole : (functions : List Function) (plan : List (List (List ℕ))) (i : ℕ) → length functions ≤ i → PlansFirst functions plan i
    → (s : ℕ) (f : Function) → slice_get functions s ≡ Some f → (s < length plan) × HasNumbers f (rows_at plan s)
plan_whole functions plan i h p s f at = let inside = below functions s f at in let long = p.0 in (omega (arith, inside, h, long), p.1 s f (omega (arith, inside, h)) at)

pub plan_more : (functions : List Function) (plan after : List (List (List ℕ))) (rows : List (List ℕ)) (i : ℕ) (function : Function) → i < length functions → function ≡ get_or functions i function
    → HasNumbers function rows → after ≡ plan ++ rows ∷ [] → PlansFirst functions plan i → PlansFirst functions after (i + 1)
plan_more functions plan after rows i function below is own e h = (
  ap (λ (p : List (List (List ℕ))). length p) e ∙ length-append plan (rows ∷ []) ∙ ap (λ n. n + 1) h.0,
  λ s f lt at. subst (λ (p : List (List (List ℕ))). HasNumbers f (rows_at p s)) (sym e) (by_place s f at (split s lt)),
)
  where
    split : (s : ℕ) → s < i + 1 → (s < i) ⊎ (s ≡ i)
    split s lt = grind (arith, lt)

    by_place : (s : ℕ) (f : Function) → slice_get functions s ≡ Some f → (s < i) ⊎ (s ≡ i) → HasNumbers f (rows_at (plan ++ rows ∷ []) s)
    by_place s f at (inl lt) = let long = h.0 in subst (λ (r : List (List ℕ)). HasNumbers f r) (sym (front plan rows s (omega (arith, lt, long)))) (h.1 s f lt at)
    by_place s f at (inr same) =
        let here : slice_get functions i ≡ Some function = some_at functions i function below is in
        let who : function ≡ f = some_same function f (sym here ∙ ap (slice_get functions) (sym same) ∙ at) in
        subst (λ (r : List (List ℕ)). HasNumbers f r) (sym (back plan rows s (same ∙ sym h.0))) (subst (λ (g : Function). HasNumbers g rows) who own)
