-- Choices one after another.
use Rattle.std.proofs.Common.{◌≡◌, refl, sym, ap, subst, ◌∙◌, ℕ, zero, suc, ◌+◌, ◌*◌, ◌<◌, ◌≤◌, ⊎_elim, Bool, true, false, List, [], ◌∷◌, ◌++◌, length, take, drop, min, Some, arith}
use Rattle.std.specs.Prelude.{if◌then◌else◌, slice_get, slice_index_or, get_or, nat_le, IsTrue, Result, Ok, Err, OnOk}
use Rattle.std.proofs.lemmas.List.{append_assoc, append-nil}
use Rattle.std.proofs.lemmas.Nat.{mul-le}
use Rattle.std.proofs.lemmas.Bool.{cases_lt, false≢true}
use Rattle.gmir.specs.declared.code.GOp.{GOp}
use Rattle.gmir.specs.declared.code.GOp.TheVariants.{Constant}
use Rattle.gmir.specs.declared.code.GInst.{GInst}
use Rattle.gmir.specs.declared.code.GFunction.{GFunction}
use Rattle.gmir.specs.Play.{def_at, insts_at}
use Rattle.gmir.specs.Formed.{HasForm, AllExist, IsFormed}
use Rattle.regbank.specs.Choice.{is_constant, is_kept, words_of, choices, block_choices, WritesBelow}
use Rattle.regbank.proofs.Counting.{next}

-- counts past the greatest one choose alike
more_kept : (words u : ℕ) → 4294967295 < u → is_kept words 4294967295 ≡ is_kept words u
more_kept zero u h = let none : u * 0 ≡ 0 = omega arith in let test : nat_le (0 + 1) (u * 0) ≡ false = rw none refl in sym test
more_kept (suc words) u h =
    let one : suc words + 1 ≤ 4294967295 * suc words = omega arith in
    let two : 4294967295 * suc words ≤ u * suc words = mul-le 4294967295 (suc words) u (suc words) (omega (arith, h)) (omega arith) in
    let first : nat_le (suc words + 1) (4294967295 * suc words) ≡ true = grind arith in
    let second : nat_le (suc words + 1) (u * suc words) ≡ true = grind arith in
    first ∙ sym second

pub choice_is : (words u : ℕ) → is_kept words (min u 4294967295) ≡ is_kept words u
choice_is words u =
    ⊎_elim
    (λ l. ap (is_kept words) (let z : min u 4294967295 ≡ 4294967295 = grind arith in z) ∙ more_kept words u l)
    (λ l. ap (is_kept words) (let z : min u 4294967295 ≡ u = grind arith in z))
    (cases_lt 4294967295 u)

by_constant : (b x : Bool) (xs ys : List Bool) → (if b then x ∷ (xs ++ ys) else xs ++ ys) ≡ (if b then x ∷ xs else xs) ++ ys
by_constant true x xs ys = refl
by_constant false x xs ys = refl

pub choices_push : (n : ℕ → ℕ) (xs : List GInst) (x : GInst) → choices n (xs ++ x ∷ []) ≡ choices n xs ++ choices n (x ∷ [])
choices_push n [] x = refl
choices_push n (y ∷ ys) x =
    ap (λ rest. if is_constant y.op then is_kept (words_of y) (n (def_at y 0)) ∷ rest else rest) (choices_push n ys x)
    ∙ by_constant (is_constant y.op) (is_kept (words_of y) (n (def_at y 0))) (choices n ys) (choices n (x ∷ []))

pub blocks_push : (n : ℕ → ℕ) (xs : List (List GInst)) (x : List GInst) → block_choices n (xs ++ x ∷ []) ≡ block_choices n xs ++ choices n x
blocks_push n [] x = append-nil (choices n x)
blocks_push n (y ∷ ys) x = ap (λ rest. choices n y ++ rest) (blocks_push n ys x) ∙ sym (append_assoc (choices n y) (block_choices n ys) (choices n x))

-- ---- one turn of each loop

pub inst_chosen : (xs : List GInst) (k : ℕ) (x : GInst) (n : ℕ → ℕ) (first now new : List Bool) → k < length xs → x ≡ get_or xs k x → now ≡ first ++ choices n (take k xs)
    → new ≡ now ++ choices n (x ∷ []) → new ≡ first ++ choices n (take (k + 1) xs)
inst_chosen xs k x n first now new h e p q =
    q ∙ ap (λ z. z ++ choices n (x ∷ [])) p ∙ append_assoc first (choices n (take k xs)) (choices n (x ∷ []))
    ∙ ap (λ z. first ++ z) (sym (ap (choices n) (next xs k x h ∙ ap (λ y. take k xs ++ y ∷ []) (sym e)) ∙ choices_push n (take k xs) x))

pub block_chosen : (xs : List (List GInst)) (k : ℕ) (x is : List GInst) (n : ℕ → ℕ) (now new : List Bool) → k < length xs → x ≡ get_or xs k x → is ≡ x → now ≡ block_choices n (take k xs)
    → new ≡ now ++ choices n is → new ≡ block_choices n (take (k + 1) xs)
block_chosen xs k x is n now new h e u p q =
    q ∙ ap (λ z. z ++ choices n is) p ∙ ap (λ z. block_choices n (take k xs) ++ choices n z) u
    ∙ sym (ap (block_choices n) (next xs k x h ∙ ap (λ y. take k xs ++ y ∷ []) (sym e)) ∙ blocks_push n (take k xs) x)

-- ---- constants are written to registers that there are

pub get_from : {A : Type 0} (xs : List A) (k : ℕ) (x : A) → k < length xs → x ≡ get_or xs k x → slice_get xs k ≡ Some x
get_from [] k x h e = absurd (let bad : ⊥ = omega (arith, h) in bad)
get_from (y ∷ ys) zero x h e = ap Some (sym e)
get_from (y ∷ ys) (suc k) x h e = get_from ys k x (let z : k < length ys = omega (arith, h) in z) e

pub one_below : (bound : ℕ) (xs : List GInst) (k : ℕ) (x : GInst) → WritesBelow bound xs → k < length xs → x ≡ get_or xs k x → WritesBelow bound (x ∷ [])
one_below bound xs k x w h e zero i same c = w k i (get_from xs k x h e ∙ same) c
one_below bound xs k x w h e (suc j) i same c = absurd (let bad : ⊥ = cc in bad)

split_at : (xs : List GInst) (k : ℕ) (x : GInst) → slice_get xs k ≡ Some x → xs ≡ take k xs ++ x ∷ drop (suc k) xs
split_at [] k x e = absurd (let bad : ⊥ = cc in bad)
split_at (y ∷ ys) zero x e = let same : y ≡ x = cc in ap (λ z. z ∷ ys) same
split_at (y ∷ ys) (suc k) x e = ap (λ z. y ∷ z) (split_at ys k x e)

is_constant_op : (op : GOp) → IsTrue (is_constant op) → op ≡ Constant
is_constant_op Constant h = refl
is_constant_op _ h = absurd (false≢true h)

first_below : (f : GFunction) (i : GInst) → HasForm f i Constant → AllExist f i.defs → def_at i 0 < length f.types
first_below f i (d, ty, gives, low) exist =
    let there : AllExist f (d ∷ []) = subst (AllExist f) gives.defs exist in
    rw gives.defs there.0

pub formed_below : (f : GFunction) → IsFormed f → (b : ℕ) → b < length f.blocks → WritesBelow (length f.types) (insts_at f b)
formed_below f formed b h k i e c =
    let at = formed.insts b (take k (insts_at f b)) i (drop (suc k) (insts_at f b)) h (split_at (insts_at f b) k i e) in
    first_below f i (subst (HasForm f i) (is_constant_op i.op c) at.form) at.defs

-- the choice of one constant
pub one_chosen : (i : GInst) (n : ℕ → ℕ) (words uses : ℕ) (choice : Bool) (first now : List Bool) → IsTrue (is_constant i.op) → words ≡ words_of i
    → uses ≡ min (n (def_at i 0)) 4294967295 → choice ≡ is_kept words uses → now ≡ first ++ choice ∷ [] → now ≡ first ++ choices n (i ∷ [])
one_chosen i n words uses choice first now c w u e p =
    p ∙ ap (λ z. first ++ z ∷ []) (e ∙ ap (λ z. is_kept z uses) w ∙ ap (is_kept (words_of i)) u ∙ choice_is (words_of i) (n (def_at i 0)))
    ∙ ap (λ b. first ++ (if b then is_kept (words_of i) (n (def_at i 0)) ∷ [] else [])) (sym c)

-- what holds where there is memory
pub on_ok : {V E : Type 0} (r : Result V E) (A B : Type 0) → (A → B) → OnOk r A → OnOk r B
on_ok (Ok v) A B h p = h p
on_ok (Err e) A B h p = tt

index_is : (xs : List (List GInst)) (k : ℕ) (x : List GInst) → k < length xs → x ≡ get_or xs k x → slice_index_or xs k [] ≡ x
index_is [] k x h e = absurd (let bad : ⊥ = omega (arith, h) in bad)
index_is (y ∷ ys) zero x h e = sym e
index_is (y ∷ ys) (suc k) x h e = index_is ys k x (let z : k < length ys = omega (arith, h) in z) e

-- a block's constants are written to registers that there are
pub block_below : (f : GFunction) (k n : ℕ) (x is : List GInst) → IsFormed f → k < length f.blocks → x ≡ get_or f.blocks k x → is ≡ x → n ≡ length f.types → WritesBelow n is
block_below f k n x is formed h e u m =
    subst (λ z. WritesBelow z is) (sym m) (subst (WritesBelow (length f.types)) (index_is f.blocks k x h e ∙ sym u) (formed_below f formed k h))
