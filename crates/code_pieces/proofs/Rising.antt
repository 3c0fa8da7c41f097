-- Labels that rise, so that each stands at one place.
use Rattle.std.proofs.Common.{[], ◌≡◌, refl, ap, ◌∙◌, ℕ, zero, suc, ◌+◌, ◌<◌, ◌≤◌, List, ◌∷◌, ◌++◌, length, replicate, Option, Some, None, arith}
use Rattle.std.specs.Prelude.{slice_get, slice_set}
use Rattle.rv_core.specs.declared.instr.Instr.{Instr}
use Rattle.code_pieces.specs.Items.{Item, Plain, Bind, Goto, Test, plain}
use Rattle.code_pieces.specs.Assembly.{assembled, bind_all}
use Rattle.code_pieces.proofs.Bridge.{AreBound, AreWithin}

-- labels rise from one number up to below another
abbrev pub Rise : ℕ → ℕ → List Item → Type 0
Rise low high [] = low ≤ high
Rise low high (Plain i ∷ items) = Rise low high items
Rise low high (Bind label ∷ items) = (low ≤ label) × Rise (label + 1) high items
Rise low high (Goto label ∷ items) = Rise low high items
Rise low high (Test op a b label ∷ items) = Rise low high items

pub rise-lower : (items : List Item) (low less high : ℕ) → less ≤ low → Rise low high items → Rise less high items
rise-lower [] low less high le h = omega (arith, le, h)
rise-lower (Plain i ∷ items) low less high le h = rise-lower items low less high le h
rise-lower (Bind label ∷ items) low less high le h = let first = h.0 in (omega (arith, le, first), h.1)
rise-lower (Goto label ∷ items) low less high le h = rise-lower items low less high le h
rise-lower (Test op a b label ∷ items) low less high le h = rise-lower items low less high le h

pub rise-append : (xs ys : List Item) (low middle high : ℕ) → Rise low middle xs → Rise middle high ys → Rise low high (xs ++ ys)
rise-append [] ys low middle high h k = rise-lower ys middle low high h k
rise-append (Plain i ∷ xs) ys low middle high h k = rise-append xs ys low middle high h k
rise-append (Bind label ∷ xs) ys low middle high h k = (h.0, rise-append xs ys (label + 1) middle high h.1 k)
rise-append (Goto label ∷ xs) ys low middle high h k = rise-append xs ys low middle high h k
rise-append (Test op a b label ∷ xs) ys low middle high h k = rise-append xs ys low middle high h k

pub rise-ends : (items : List Item) (low high : ℕ) → Rise low high items → low ≤ high
rise-ends [] low high h = h
rise-ends (Plain i ∷ items) low high h = rise-ends items low high h
rise-ends (Bind label ∷ items) low high h = let first = h.0 in let rest = rise-ends items (label + 1) high h.1 in omega (arith, first, rest)
rise-ends (Goto label ∷ items) low high h = rise-ends items low high h
rise-ends (Test op a b label ∷ items) low high h = rise-ends items low high h

pub rise-plain : (xs : List Instr) (low : ℕ) → Rise low low (plain xs)
rise-plain [] low = omega arith
rise-plain (x ∷ xs) low = rise-plain xs low

-- ---- what a store does

get-set-same : (xs : List (Option ℕ)) (i : ℕ) (x : Option ℕ) → i < length xs → slice_get (slice_set xs i x) i ≡ Some x
get-set-same [] i x lt = absurd (let bad : ⊥ = omega (arith, lt) in bad)
get-set-same (y ∷ ys) zero x lt = refl
get-set-same (y ∷ ys) (suc i) x lt = get-set-same ys i x (omega (arith, lt))

get-set-other : (xs : List (Option ℕ)) (i j : ℕ) (x : Option ℕ) → i < j → slice_get (slice_set xs j x) i ≡ slice_get xs i
get-set-other [] i j x lt = refl
get-set-other (y ∷ ys) i zero x lt = absurd (let bad : ⊥ = omega (arith, lt) in bad)
get-set-other (y ∷ ys) zero (suc j) x lt = refl
get-set-other (y ∷ ys) (suc i) (suc j) x lt = get-set-other ys i j x (omega (arith, lt))

length-stored : (xs : List (Option ℕ)) (i : ℕ) (x : Option ℕ) → length (slice_set xs i x) ≡ length xs
length-stored [] i x = refl
length-stored (y ∷ ys) zero x = refl
length-stored (y ∷ ys) (suc i) x = ap suc (length-stored ys i x)

-- a label below those that stand among items stays where it is
kept : (items : List Item) (at low high label : ℕ) (bound : List (Option ℕ)) → Rise low high items → label < low → slice_get (bind_all at items bound) label ≡ slice_get bound label
kept [] at low high label bound h lt = refl
kept (Plain i ∷ items) at low high label bound h lt = kept items (at + 1) low high label bound h lt
kept (Bind l ∷ items) at low high label bound h lt =
    let first = h.0 in
    kept items at (l + 1) high label (slice_set bound l (Some at)) h.1 (omega (arith, first, lt)) ∙ get-set-other bound label l (Some at) (omega (arith, first, lt))
kept (Goto l ∷ items) at low high label bound h lt = kept items (at + 1) low high label bound h lt
kept (Test op a b l ∷ items) at low high label bound h lt = kept items (at + 1) low high label bound h lt

pub are-bound : (items : List Item) (at low high : ℕ) (bound : List (Option ℕ)) → Rise low high items → high ≤ length bound → AreBound (bind_all at items bound) at items
are-bound [] at low high bound h long = tt
are-bound (Plain i ∷ items) at low high bound h long = are-bound items (at + 1) low high bound h long
are-bound (Bind l ∷ items) at low high bound h long =
    let end = rise-ends items (l + 1) high h.1 in
    let many = length-stored bound l (Some at) in (
      kept items at (l + 1) high l (slice_set bound l (Some at)) h.1 (omega arith) ∙ get-set-same bound l (Some at) (omega (arith, end, long)),
      are-bound items at (l + 1) high (slice_set bound l (Some at)) h.1 (omega (arith, long, many)),
    )
are-bound (Goto l ∷ items) at low high bound h long = are-bound items (at + 1) low high bound h long
are-bound (Test op a b l ∷ items) at low high bound h long = are-bound items (at + 1) low high bound h long

-- each label stands before an item of the code or behind the last
pub bind-within : (items : List Item) (at many : ℕ) (bound : List (Option ℕ)) → AreWithin bound many → at + length (assembled items) ≤ many → AreWithin (bind_all at items bound) many
bind-within [] at many bound h le = h
bind-within (Plain i ∷ items) at many bound h le = bind-within items (at + 1) many bound h (omega (arith, le))
bind-within (Bind l ∷ items) at many bound h le = bind-within items at many (slice_set bound l (Some at)) (λ label k e. stored bound l label k e h) le
  where
    stored : (xs : List (Option ℕ)) (l label k : ℕ) → slice_get (slice_set xs l (Some at)) label ≡ Some (Some k) → AreWithin xs many → k ≤ many
    stored [] l label k e within = within label k e
    stored (x ∷ xs) zero zero k e within = let same : at ≡ k = cc in omega (arith, same, le)
    stored (x ∷ xs) zero (suc label) k e within = within (suc label) k e
    stored (x ∷ xs) (suc l) zero k e within = within 0 k e
    stored (x ∷ xs) (suc l) (suc label) k e within = stored xs l label k e (λ other j f. within (suc other) j f)
bind-within (Goto l ∷ items) at many bound h le = bind-within items (at + 1) many bound h (omega (arith, le))
bind-within (Test op a b l ∷ items) at many bound h le = bind-within items (at + 1) many bound h (omega (arith, le))

pub none-within : (labels many : ℕ) → AreWithin (replicate labels None) many
none-within zero many label k e = absurd (let bad : ⊥ = cc in bad)
none-within (suc labels) many zero k e = absurd (let bad : ⊥ = cc in bad)
none-within (suc labels) many (suc label) k e = none-within labels many label k e

pub rise-higher : (items : List Item) (low high more : ℕ) → high ≤ more → Rise low high items → Rise low more items
rise-higher [] low high more le h = omega (arith, le, h)
rise-higher (Plain i ∷ items) low high more le h = rise-higher items low high more le h
rise-higher (Bind label ∷ items) low high more le h = (h.0, rise-higher items (label + 1) high more le h.1)
rise-higher (Goto label ∷ items) low high more le h = rise-higher items low high more le h
rise-higher (Test op a b label ∷ items) low high more le h = rise-higher items low high more le h
