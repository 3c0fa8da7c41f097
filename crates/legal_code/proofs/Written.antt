-- Which registers a legal form writes: those that the function writes, as often, and each new one once.
use Rattle.std.proofs.Common.{◌≡◌, refl, ap, ◌∙◌, ℕ, suc, ◌+◌, ◌<◌, ◌≤◌, ⊎_elim, Bool, true, false, List, [], ◌∷◌, ◌++◌, length, arith}
use Rattle.std.specs.Prelude.{if◌then◌else◌, ◌==◌, slice_index_or, flat_map}
use Rattle.std.proofs.lemmas.List.Sums.{sum_by-cons, sum_by-append}
use Rattle.std.proofs.lemmas.Bool.{cases_lt, ne_eqb}
use Rattle.gmir.specs.declared.code.GType.{GType}
use Rattle.gmir.specs.declared.code.GOp.{GOp}
use Rattle.gmir.specs.declared.code.GInst.{GInst}
use Rattle.gmir.specs.declared.code.GFunction.{GFunction}
use Rattle.gmir.specs.Formed.{AllExist, written, times}
use Rattle.legal_code.specs.Legal.{Extension, Kept, ByZeros, BySigns, extends, taken, extension, extensions, taken_all, Form, Same, Masks, Extends, Copies, form, before, before_by, last, last_by, spent, spent_by, legal_insts, legal_blocks, spent_insts, spent_blocks}
use Rattle.legal_code.proofs.Sound.{AllSound}

pub times_append : (r : ℕ) (xs ys : List ℕ) → times r (xs ++ ys) ≡ times r xs + times r ys
times_append r xs ys = sum_by-append (λ m. if m == r then 1 else 0) xs ys

times_cons : (r x : ℕ) (xs : List ℕ) → times r (x ∷ xs) ≡ (if x == r then 1 else 0) + times r xs
times_cons r x xs = sum_by-cons (λ m. if m == r then 1 else 0) x xs

pub once_written : (d : ℕ) → times d (d ∷ []) ≡ 1
once_written d = times_cons d d [] ∙ ap (λ (b : Bool). (if b then 1 else 0) + times d []) (let z : (d == d) ≡ true = grind arith in z)

-- how often these instructions write a register
abbrev pub writes : ℕ → List GInst → ℕ
writes r is = times r (written is)

pub writes_cons : (r : ℕ) (i : GInst) (is : List GInst) → writes r (i ∷ is) ≡ times r i.defs + writes r is
writes_cons r i is = times_append r i.defs (written is)

pub writes_append : (r : ℕ) (is js : List GInst) → writes r (is ++ js) ≡ writes r is + writes r js
writes_append r [] js = omega arith
writes_append r (i ∷ is) js =
    let rest = writes_append r is js in let one = writes_cons r i (is ++ js) in let own = writes_cons r i is in omega (arith, rest, one, own)

pub none_exist : (f : GFunction) (rs : List ℕ) → AllExist f rs → (r : ℕ) → length f.types ≤ r → times r rs ≡ 0
none_exist f [] h r l = refl
none_exist f (x ∷ xs) h r l =
    let rest = none_exist f xs h.1 r l in
    let low = h.0 in
    let test = ne_eqb x r (λ e. let bad : ⊥ = omega (arith, e, l, low) in bad) in
    times_cons r x xs ∙ ap (λ (b : Bool). (if b then 1 else 0) + times r xs) test ∙ (let z : 0 + times r xs ≡ 0 = omega (arith, rest) in z)

-- So much is written from a register on: of those before the bound as much as of others, of the new ones these, each at most once.
pub record IsPart (bound n c : ℕ) (p q : ℕ → ℕ) : Type 0 where
  pub old : (r : ℕ) → r < bound → p r ≡ q r
  pub below : (r : ℕ) → bound ≤ r → r < n → p r ≡ 0
  pub above : (r : ℕ) → bound ≤ r → n + c ≤ r → p r ≡ 0
  pub once : (r : ℕ) → bound ≤ r → p r ≤ 1

pub parts : (bound n c d : ℕ) (p q p' q' s t : ℕ → ℕ) → IsPart bound n c p q → IsPart bound (n + c) d p' q' → ((r : ℕ) → s r ≡ p r + p' r) → ((r : ℕ) → t r ≡ q r + q' r)
    → IsPart bound n (c + d) s t
parts bound n c d p q p' q' s t x y e g = record {
  old = λ r l. let one = x.old r l in let two = y.old r l in let a = e r in let b = g r in omega (arith, one, two, a, b);
  below = λ r l m. let one = x.below r l m in let two = y.below r l (omega (arith, m)) in let a = e r in omega (arith, one, two, a);
  above = λ r l m. let one = x.above r l (omega (arith, m)) in let two = y.above r l (omega (arith, m)) in let a = e r in omega (arith, one, two, a);
  once = λ r l. ⊎_elim
      (λ m. let one = x.once r l in let two = y.below r l m in let a = e r in omega (arith, one, two, a))
      (λ m. let one = x.above r l m in let two = y.once r l in let a = e r in omega (arith, one, two, a))
      (cases_lt r (n + c));
}

pub no_part : (bound n : ℕ) (p q : ℕ → ℕ) → ((r : ℕ) → r < bound → p r ≡ q r) → ((r : ℕ) → bound ≤ r → p r ≡ 0) → IsPart bound n 0 p q
no_part bound n p q old none = record { old = old; below = λ r l m. none r l; above = λ r l m. none r l; once = λ r l. let z = none r l in omega (arith, z) }

test_at_most : (x r : ℕ) → (if x == r then 1 else 0) ≤ 1
test_at_most x r = by (x == r)
  where
    by : (b : Bool) → (if b then 1 else 0) ≤ 1
    by true = omega arith
    by false = omega arith

test_other : (x r : ℕ) → (x ≡ r → ⊥) → ◌≡◌ {A = ℕ} (if x == r then 1 else 0) 0
test_other x r h = ap (λ (b : Bool). if b then 1 else 0) (ne_eqb x r h)

-- one new register
one_new : (bound n : ℕ) → bound ≤ n → IsPart bound n 1 (λ r. if n == r then 1 else 0) (λ r. 0)
one_new bound n low = record {
  old = λ r l. test_other n r (λ e. let bad : ⊥ = omega (arith, e, l, low) in bad);
  below = λ r l m. test_other n r (λ e. let bad : ⊥ = omega (arith, e, m) in bad);
  above = λ r l m. test_other n r (λ e. let bad : ⊥ = omega (arith, e, m) in bad);
  once = λ r l. test_at_most n r;
}

one_inst : (r d : ℕ) → times r (d ∷ []) ≡ (if d == r then 1 else 0)
one_inst r d = let e = times_cons r d [] in omega (arith, e)

module _ (types : List GType) (bound : ℕ) where
  extends_part : (e : Extension) (a next : ℕ) → bound ≤ next → IsPart bound next (taken e) (λ r. writes r (extends e a next)) (λ r. 0)
  extends_part Kept a next low = no_part bound next (λ r. 0) (λ r. 0) (λ r l. refl) (λ r l. refl)
  extends_part (ByZeros w) a next low =
      parts bound next 1 1 (λ r. if next == r then 1 else 0) (λ r. 0) (λ r. if next + 1 == r then 1 else 0) (λ r. 0) (λ r. times r (next ∷ (next + 1) ∷ [])) (λ r. 0)
      (one_new bound next low) (one_new bound (next + 1) (omega (arith, low)))
      (λ r. times_cons r next ((next + 1) ∷ []) ∙ ap (λ z. (if next == r then 1 else 0) + z) (one_inst r (next + 1))) (λ r. refl)
  extends_part (BySigns w) a next low = record {
    old = λ r l. one_inst r next ∙ (one_new bound next low).old r l;
    below = λ r l m. one_inst r next ∙ (one_new bound next low).below r l m;
    above = λ r l m. one_inst r next ∙ (one_new bound next low).above r l m;
    once = λ r l. let e = one_inst r next in let z = (one_new bound next low).once r l in omega (arith, e, z);
  }

  extensions_part : (op : GOp) (n k next : ℕ) (rs : List ℕ) → bound ≤ next → IsPart bound next (taken_all types op n k rs) (λ r. writes r (extensions types op n k next rs)) (λ r. 0)
  extensions_part op n k next [] low = no_part bound next (λ r. 0) (λ r. 0) (λ r l. refl) (λ r l. refl)
  extensions_part op n k next (x ∷ xs) low =
      parts bound next (taken (extension types op n k x)) (taken_all types op n (suc k) xs)
      (λ r. writes r (extends (extension types op n k x) x next)) (λ r. 0)
      (λ r. writes r (extensions types op n (suc k) (next + taken (extension types op n k x)) xs)) (λ r. 0)
      (λ r. writes r (extends (extension types op n k x) x next ++ extensions types op n (suc k) (next + taken (extension types op n k x)) xs)) (λ r. 0)
      (extends_part (extension types op n k x) x next low) (extensions_part op n (suc k) (next + taken (extension types op n k x)) xs (omega (arith, low)))
      (λ r. writes_append r (extends (extension types op n k x) x next) (extensions types op n (suc k) (next + taken (extension types op n k x)) xs)) (λ r. refl)

  before_part : (next : ℕ) (i : GInst) → bound ≤ next → IsPart bound next (spent types i) (λ r. writes r (before types next i)) (λ r. 0)
  before_part next i low = by (form i.op)
    where
      by : (x : Form) → IsPart bound next (spent_by types x i) (λ r. writes r (before_by types x next i)) (λ r. 0)
      by Same = extensions_part i.op i.num 0 next i.uses low
      by Masks = record {
        old = λ r l. one_inst r next ∙ (one_new bound next low).old r l;
        below = λ r l m. one_inst r next ∙ (one_new bound next low).below r l m;
        above = λ r l m. one_inst r next ∙ (one_new bound next low).above r l m;
        once = λ r l. let e = one_inst r next in let z = (one_new bound next low).once r l in omega (arith, e, z);
      }
      by Extends = no_part bound next (λ r. 0) (λ r. 0) (λ r l. refl) (λ r l. refl)
      by Copies = no_part bound next (λ r. 0) (λ r. 0) (λ r l. refl) (λ r l. refl)

  pub last_defs : (next : ℕ) (i : GInst) → (last types next i).defs ≡ i.defs
  last_defs next i = by (form i.op)
    where
      by : (x : Form) → (last_by types x next i).defs ≡ i.defs
      by Same = refl
      by Masks = refl
      by Extends = refl
      by Copies = refl

module _ (f : GFunction) where
  pub insts_part : (next : ℕ) (is : List GInst) → length f.types ≤ next → AllSound f is
      → IsPart (length f.types) next (spent_insts f.types is) (λ r. writes r (legal_insts f.types next is)) (λ r. writes r is)
  insts_part next [] low sound = no_part (length f.types) next (λ r. 0) (λ r. 0) (λ r l. refl) (λ r l. refl)
  insts_part next (i ∷ is) low sound =
      parts (length f.types) next (spent f.types i) (spent_insts f.types is)
      (λ r. writes r (before f.types next i)) (λ r. 0)
      (λ r. times r i.defs + writes r (legal_insts f.types (next + spent f.types i) is)) (λ r. times r i.defs + writes r is)
      (λ r. writes r (legal_insts f.types next (i ∷ is))) (λ r. writes r (i ∷ is))
      (before_part f.types (length f.types) next i low) (behind (insts_part (next + spent f.types i) is (omega (arith, low)) sound.1))
      (λ r. writes_append r (before f.types next i) (last f.types next i ∷ legal_insts f.types (next + spent f.types i) is)
      ∙ ap (λ z. writes r (before f.types next i) + z)
      (writes_cons r (last f.types next i) (legal_insts f.types (next + spent f.types i) is) ∙ ap (λ ds. times r ds + writes r (legal_insts f.types (next + spent f.types i) is)) (last_defs f.types (length f.types) next i)))
      (λ r. let e = writes_cons r i is in omega (arith, e))
    where
      behind : IsPart (length f.types) (next + spent f.types i) (spent_insts f.types is) (λ r. writes r (legal_insts f.types (next + spent f.types i) is)) (λ r. writes r is)
          → IsPart (length f.types) (next + spent f.types i) (spent_insts f.types is) (λ r. times r i.defs + writes r (legal_insts f.types (next + spent f.types i) is)) (λ r. times r i.defs + writes r is)
      behind x = record {
        old = λ r l. ap (λ z. times r i.defs + z) (x.old r l);
        below = λ r l m. let none = none_exist f i.defs sound.0.defs r l in let z = x.below r l m in omega (arith, none, z);
        above = λ r l m. let none = none_exist f i.defs sound.0.defs r l in let z = x.above r l m in omega (arith, none, z);
        once = λ r l. let none = none_exist f i.defs sound.0.defs r l in let z = x.once r l in omega (arith, none, z);
      }

  pub blocks_part : (next : ℕ) (bs : List (List GInst)) → length f.types ≤ next → ((b : ℕ) → AllSound f (slice_index_or bs b []))
      → IsPart (length f.types) next (spent_blocks f.types bs) (λ r. times r (flat_map written (legal_blocks f.types next bs))) (λ r. times r (flat_map written bs))
  blocks_part next [] low sound = no_part (length f.types) next (λ r. 0) (λ r. 0) (λ r l. refl) (λ r l. refl)
  blocks_part next (b ∷ bs) low sound =
      parts (length f.types) next (spent_insts f.types b) (spent_blocks f.types bs)
      (λ r. writes r (legal_insts f.types next b)) (λ r. writes r b)
      (λ r. times r (flat_map written (legal_blocks f.types (next + spent_insts f.types b) bs))) (λ r. times r (flat_map written bs))
      (λ r. times r (flat_map written (legal_blocks f.types next (b ∷ bs)))) (λ r. times r (flat_map written (b ∷ bs)))
      (insts_part next b low (sound 0)) (blocks_part (next + spent_insts f.types b) bs (omega (arith, low)) (λ x. sound (suc x)))
      (λ r. times_append r (written (legal_insts f.types next b)) (flat_map written (legal_blocks f.types (next + spent_insts f.types b) bs)))
      (λ r. times_append r (written b) (flat_map written bs))
