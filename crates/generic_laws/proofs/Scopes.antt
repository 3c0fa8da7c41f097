-- What code reads has been written: registers that are assigned at a place, and those that code before it writes.
use Rattle.std.proofs.Common.{◌≡◌, refl, subst, ℕ, zero, suc, ◌+◌, ◌≤◌, ◌⊎◌, inl, inr, Bool, true, false, cond, List, [], ◌∷◌, ◌++◌, Option, Some, None, arith}
use Rattle.std.specs.Prelude.{◌==◌}
use Rattle.std.specs.Map.{lookup}
use Rattle.std.proofs.lemmas.List.Sums.{sum_by-cons}
use Rattle.ir_core.specs.declared.types.Ty.{Ty}
use Rattle.ir_core.specs.declared.code.Operand.{Operand}
use Rattle.ir_core.specs.declared.code.Operand.TheVariants.{Value as Local, Num, Null, Place, Poison}
use Rattle.ir_core.specs.declared.program.Global.{Global}
use Rattle.ir_verify.proofs.Lists.{Every, every_both, every_map}
use Rattle.gmir.specs.declared.code.GInst.{GInst}
use Rattle.gmir.specs.Formed.{times}
use Rattle.generic_code.specs.Literals.{Pool, Literal, same_literal, literal, scalar_width, find, write_code, write_pool, write_register, load, behind, register_of, loads, registers, behind_all}

abbrev pub Or : (ℕ → Type 0) → GInst → ℕ → Type 0
Or S i = λ r. S r ⊎ (1 ≤ times r i.defs)

-- the registers behind code
abbrev pub After : (ℕ → Type 0) → List GInst → ℕ → Type 0
After S [] = S
After S (i ∷ is) = After (Or S i) is

-- each register that code reads is one of these, or is written before
abbrev pub Reads : (ℕ → Type 0) → List GInst → Type 0
Reads S [] = Unit {0}
Reads S (i ∷ is) = Every S i.uses × Reads (Or S i) is

pub or_more : (S T : ℕ → Type 0) → ((q : ℕ) → S q → T q) → (i : GInst) → (q : ℕ) → Or S i q → Or T i q
or_more S T h i q (inl s) = inl (h q s)
or_more S T h i q (inr w) = inr w

pub after_more : (code : List GInst) (S T : ℕ → Type 0) → ((q : ℕ) → S q → T q) → (r : ℕ) → After S code r → After T code r
after_more [] S T h r s = h r s
after_more (i ∷ is) S T h r s = after_more is (Or S i) (Or T i) (or_more S T h i) r s

pub after_keeps : (code : List GInst) (S : ℕ → Type 0) (r : ℕ) → S r → After S code r
after_keeps [] S r s = s
after_keeps (i ∷ is) S r s = after_keeps is (Or S i) r (inl s)

pub reads_more : (code : List GInst) (S T : ℕ → Type 0) → ((q : ℕ) → S q → T q) → Reads S code → Reads T code
reads_more [] S T h r = tt
reads_more (i ∷ is) S T h r = (every_map S T i.uses h r.0, reads_more is (Or S i) (Or T i) (or_more S T h i) r.1)

pub reads_both : (xs ys : List GInst) (S : ℕ → Type 0) → Reads S xs → Reads (After S xs) ys → Reads S (xs ++ ys)
reads_both [] ys S h h' = h'
reads_both (x ∷ xs) ys S h h' = (h.0, reads_both xs ys (Or S x) h.1 h')

pub after_both : (xs ys : List GInst) (S : ℕ → Type 0) (r : ℕ) → After (After S xs) ys r → After S (xs ++ ys) r
after_both [] ys S r h = h
after_both (x ∷ xs) ys S r h = after_both xs ys (Or S x) r h

-- what code writes stands behind it
abbrev pub wrote : ℕ → List GInst → ℕ
wrote r [] = 0
wrote r (i ∷ is) = times r i.defs + wrote r is

some_or_none : (n : ℕ) → (1 ≤ n) ⊎ (n ≡ 0)
some_or_none zero = inr refl
some_or_none (suc n) = inl (omega arith)

pub after_wrote : (code : List GInst) (S : ℕ → Type 0) (r : ℕ) → 1 ≤ wrote r code → After S code r
after_wrote [] S r l = absurd (let bad : ⊥ = omega (arith, l) in bad)
after_wrote (i ∷ is) S r l = by_first (some_or_none (times r i.defs)) (after_wrote is (Or S i) r)
  where
    by_first : (1 ≤ times r i.defs) ⊎ (times r i.defs ≡ 0) → (1 ≤ wrote r is → After (Or S i) is r) → After (Or S i) is r
    by_first (inl w) more = after_keeps is (Or S i) r (inr w)
    by_first (inr none) more = more (omega (arith, l, none))

-- what stands behind code stood before, or code writes it
pub after_back : (code : List GInst) (S : ℕ → Type 0) (r : ℕ) → After S code r → S r ⊎ (1 ≤ wrote r code)
after_back [] S r s = inl s
after_back (i ∷ is) S r s = by_rest (after_back is (Or S i) r s)
  where
    by_rest : (S r ⊎ (1 ≤ times r i.defs)) ⊎ (1 ≤ wrote r is) → S r ⊎ (1 ≤ times r i.defs + wrote r is)
    by_rest (inl (inl s)) = inl s
    by_rest (inl (inr w)) = inr (omega (arith, w))
    by_rest (inr w) = inr (omega (arith, w))

-- one register that is written
pub writes_it : (r : ℕ) (rs : List ℕ) → 1 ≤ times r (r ∷ rs)
writes_it r rs =
    let one : times r (r ∷ rs) ≡ cond (r == r) 1 0 + times r rs = sum_by-cons (λ (k : ℕ). cond (k == r) 1 0) r rs in
    by_test (r == r) (let same : (r == r) ≡ true = grind arith in same) one
  where
    by_test : (t : Bool) → t ≡ true → times r (r ∷ rs) ≡ cond t 1 0 + times r rs → 1 ≤ times r (r ∷ rs)
    by_test true e one = omega (arith, one)
    by_test false e one = absurd (let bad : ⊥ = cc in bad)

-- ---- literals

-- the registers of known literals are there
abbrev pub Held : (ℕ → Type 0) → Pool → Type 0
Held S pool = Every (λ (k : Literal × ℕ). S k.1) pool.known

pub held_more : (S T : ℕ → Type 0) → ((q : ℕ) → S q → T q) → (pool : Pool) → Held S pool → Held T pool
held_more S T h pool k = every_map (λ (k : Literal × ℕ). S k.1) (λ (k : Literal × ℕ). T k.1) pool.known (λ x s. h x.1 s) k

found_held : (S : ℕ → Type 0) (one : Literal) (entries : List (Literal × ℕ)) (r : ℕ) → Every (λ (k : Literal × ℕ). S k.1) entries → lookup (same_literal one) entries ≡ Some r → S r
found_held S one [] r h e = absurd (let bad : ⊥ = cc in bad)
found_held S one (x ∷ xs) r h e = by_test (same_literal one x.0) (λ e'. found_held S one xs r h.1 e') e
  where
    by_test : (b : Bool) → (lookup (same_literal one) xs ≡ Some r → S r) → cond b (Some x.1) (lookup (same_literal one) xs) ≡ Some r → S r
    by_test true more e = subst S (let same : x.1 ≡ r = cc in same) h.0
    by_test false more e = more e

-- a value that an operand names is there
abbrev pub CanBe : (ℕ → Type 0) → Operand → Type 0
CanBe S (Local number) = S number
CanBe S _ = Unit {0}

abbrev pub Can : (ℕ → Type 0) → Ty × Operand → Type 0
Can S one = CanBe S one.1

pub can_more : (S T : ℕ → Type 0) → ((q : ℕ) → S q → T q) → (one : Ty × Operand) → Can S one → Can T one
can_more S T h (ty, a) c = by_operand a c
  where
    by_operand : (a : Operand) → CanBe S a → CanBe T a
    by_operand (Local number) c = h number c
    by_operand (Num n) c = tt
    by_operand Null c = tt
    by_operand (Place global offset) c = tt
    by_operand Poison c = tt

-- one literal
write_gives : (S : ℕ → Type 0) (one : Literal) (n : ℕ) (pool : Pool) → Held S pool → (o : Option ℕ) → find pool one ≡ o
    → Reads S (write_code o pool.next n) × Held (After S (write_code o pool.next n)) (write_pool o one pool) × After S (write_code o pool.next n) (write_register o pool.next)
write_gives S one n pool h None e = (
  (tt, tt),
  every_both (λ (k : Literal × ℕ). S k.1 ⊎ (1 ≤ times k.1 (pool.next ∷ []))) pool.known ((one, pool.next) ∷ [])
      (every_map (λ (k : Literal × ℕ). S k.1) (λ (k : Literal × ℕ). S k.1 ⊎ (1 ≤ times k.1 (pool.next ∷ []))) pool.known (λ x s. inl s) h) (inr (writes_it pool.next []), tt),
  inr (writes_it pool.next []),
)
write_gives S one n pool h (Some r) e = (tt, h, found_held S one pool.known r h e)

module _ (globals : List Global) where
  abbrev LoadGives : (ℕ → Type 0) → Pool → Ty → Operand → Option ℕ → Type 0
  LoadGives S pool ty a o = Reads S (load o ty pool) × Held (After S (load o ty pool)) (behind o ty pool) × After S (load o ty pool) (register_of a o ty pool)

  literal_gives : (S : ℕ → Type 0) (pool : Pool) (ty : Ty) (n : ℕ) → Held S pool
      → Reads S (load (Some n) ty pool) × Held (After S (load (Some n) ty pool)) (behind (Some n) ty pool) × After S (load (Some n) ty pool) (write_register (find pool (scalar_width ty, n)) pool.next)
  literal_gives S pool ty n h = write_gives S (scalar_width ty, n) n pool h (find pool (scalar_width ty, n)) refl

  load_gives : (S : ℕ → Type 0) (pool : Pool) (ty : Ty) (a : Operand) → Held S pool → CanBe S a → LoadGives S pool ty a (literal globals a)
  load_gives S pool ty (Local number) h c = (tt, h, c)
  load_gives S pool ty (Num n) h c = literal_gives S pool ty n h
  load_gives S pool ty Null h c = literal_gives S pool ty 0 h
  load_gives S pool ty (Place global offset) h c = literal_gives S pool ty _ h
  load_gives S pool ty Poison h c = literal_gives S pool ty 0 h

  -- the literals of operands, whose registers are there behind them
  pub record Loaded (S : ℕ → Type 0) (pool : Pool) (ops : List (Ty × Operand)) : Type 0 where
    pub reads : Reads S (loads globals pool ops)
    pub held : Held (After S (loads globals pool ops)) (behind_all globals pool ops)
    pub there : Every (After S (loads globals pool ops)) (registers globals pool ops)

  pub loaded_gives : (ops : List (Ty × Operand)) (S : ℕ → Type 0) (pool : Pool) → Held S pool → Every (Can S) ops → Loaded S pool ops
  loaded_gives [] S pool h c = record { reads = tt; held = h; there = tt }
  loaded_gives (one ∷ more) S pool h c =
      let o = literal globals one.1 in
      let first = load o one.0 pool in
      let rest = loads globals (behind o one.0 pool) more in
      let given = load_gives S pool one.0 one.1 h c.0 in
      let ih = loaded_gives more (After S first) (behind o one.0 pool) given.1 (every_map (Can S) (Can (After S first)) more (λ x k. can_more S (After S first) (after_keeps first S) x k) c.1) in
      record {
        reads = reads_both first rest S given.0 ih.reads;
        held = held_more (After (After S first) rest) (After S (first ++ rest)) (after_both first rest S) (behind_all globals (behind o one.0 pool) more) ih.held;
        there = (
          after_both first rest S (register_of one.1 o one.0 pool) (after_keeps rest (After S first) (register_of one.1 o one.0 pool) given.2),
          every_map (After (After S first) rest) (After S (first ++ rest)) (registers globals (behind o one.0 pool) more) (after_both first rest S) ih.there,
        );
      }
