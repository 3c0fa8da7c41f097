-- Instructions that stand one after another among words at a base.
use Rattle.std.proofs.Common.{◌≡◌, refl, sym, ap, subst, ◌∙◌, ℕ, suc, ◌+◌, ◌-◌, ◌*◌, ◌/◌, ◌%◌, List, [], ◌∷◌, ◌++◌, map, length, Option, Some, None, Bool, true, false, cond, arith, append_assoc}
use Rattle.std.specs.Prelude.{◌==◌, ◌&&◌, nat_le, slice_get}
use Rattle.std.proofs.lemmas.List.{length-append}
use Rattle.rv_core.specs.declared.instr.Instr.{Instr}
use Rattle.rv_core.specs.Instr.{AreValid}
use Rattle.rv_encode.specs.Spelling.{word_of}
use Rattle.rv_encode.proofs.RoundTrip.{spelled_reads}
use Rattle.rv_asm.specs.Runs.{instr_at, spelled}

-- these instructions stand from an address on
abbrev pub Stands : List ℕ → ℕ → ℕ → List Instr → Type 0
Stands words base pc [] = Unit {0}
Stands words base pc (i ∷ is) = (instr_at words base pc ≡ Some i) × Stands words base (pc + 4) is

pub valid-append : (xs ys : List Instr) → AreValid xs → AreValid ys → AreValid (xs ++ ys)
valid-append [] ys h k = k
valid-append (x ∷ xs) ys h k = (h.0, valid-append xs ys h.1 k)

pub stands-apart : (words : List ℕ) (base pc : ℕ) (xs ys : List Instr) → Stands words base pc (xs ++ ys) → Stands words base pc xs × Stands words base (pc + 4 * length xs) ys
stands-apart words base pc [] ys h = (tt, subst (λ (p : ℕ). Stands words base p ys) (let e : pc ≡ pc + 4 * 0 = omega arith in e) h)
stands-apart words base pc (i ∷ xs) ys h =
    let r = stands-apart words base (pc + 4) xs ys h.1 in
    let e : pc + 4 + 4 * length xs ≡ pc + 4 * suc (length xs) = omega arith in
    ((h.0, r.0), subst (λ (p : ℕ). Stands words base p ys) e r.1)

get-front : (before is : List Instr) (i : Instr) → slice_get (map word_of (before ++ i ∷ is)) (length before) ≡ Some (word_of i)
get-front [] is i = refl
get-front (b ∷ before) is i = get-front before is i

pick : (b : Bool) (x y : Option ℕ) → b ≡ true → cond b x y ≡ x
pick true x y h = refl
pick false x y h = absurd (let bad : false ≡ true = h in cc)

word-is : (words : List ℕ) (base i w pc : ℕ) → slice_get words i ≡ Some w → pc ≡ base + 4 * i
    → cond ((nat_le base pc) && ((pc - base) % 4 == 0)) (slice_get words ((pc - base) / 4)) None ≡ Some w
word-is words base i w pc is at =
    let inside : ((nat_le base pc) && ((pc - base) % 4 == 0)) ≡ true = grind arith in
    let which : (pc - base) / 4 ≡ i = omega arith in
    pick _ _ _ inside ∙ ap (slice_get words) which ∙ is

-- the words of valid instructions are those instructions
pub stands-from : (words : List ℕ) (base : ℕ) (before is : List Instr) → words ≡ map word_of (before ++ is) → AreValid is → Stands words base (base + 4 * length before) is
stands-from words base before [] e v = tt
stands-from words base before (i ∷ is) e v =
    let at : base + 4 * length (before ++ i ∷ []) ≡ base + 4 * length before + 4 = omega (arith, length-append before (i ∷ [])) in
    let word = word-is words base (length before) (word_of i) (base + 4 * length before) (ap (λ (ws : List ℕ). slice_get ws (length before)) e ∙ get-front before is i) refl in (
      ap spelled word ∙ spelled_reads (word_of i) i (v.0, refl),
      subst (λ (p : ℕ). Stands words base p is) at (stands-from words base (before ++ i ∷ []) is (e ∙ ap (map word_of) (sym (append_assoc before (i ∷ []) is))) v.1),
    )
