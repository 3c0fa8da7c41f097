-- The moves make the copies.
use Rattle.std.proofs.Common.{◌≡◌, refl, sym, ap, ◌∙◌, ℕ, suc, ◌*◌, ◌≤◌, Bool, true, false, List, [], ◌∷◌, length, arith}
use Rattle.std.specs.Prelude.{if◌then◌else◌, ◌==◌}
use Rattle.mir.specs.declared.code.MInst.{MInst}
use Rattle.walks.specs.Walk.{Bits}
use Rattle.walks.specs.Registers.{Registers, write}
use Rattle.parallel_copies.specs.Moves.{Copies, at_once, all_moved, Unwritten, Unread, Distinct, Picks, here, there, renamed, Sequences, done, drops, emits, breaks}

pub eq_of : (x y : ℕ) → (x == y) ≡ true → x ≡ y
eq_of x y h = grind arith

differs : (x y : ℕ) → (x == y) ≡ false → x ≡ y → ⊥
differs x y h e = grind arith

pub flip : (x y : ℕ) → (x == y) ≡ false → (y == x) ≡ false
flip x y h = grind arith

apart : (x d z : ℕ) → (d == z) ≡ false → (x == d) ≡ true → (x == z) ≡ false
apart x d z h e = grind arith

pub picks_unwritten : (c : ℕ × ℕ) (copies rest : Copies) → Picks c copies rest → (x : ℕ) → Unwritten x copies → Unwritten x rest × ((x == c.0) ≡ false)
picks_unwritten c copies rest here x h = (h.1, h.0)
picks_unwritten c copies rest (there {copies = more} {rest = left} p) x h = let r = picks_unwritten c more left p x h.1 in ((h.0, r.0), r.1)

picks_unread : (c : ℕ × ℕ) (copies rest : Copies) → Picks c copies rest → (x : ℕ) → Unread x copies → Unread x rest × ((x == c.1) ≡ false)
picks_unread c copies rest here x h = (h.1, h.0)
picks_unread c copies rest (there {copies = more} {rest = left} p) x h = let r = picks_unread c more left p x h.1 in ((h.0, r.0), r.1)

pub picks_distinct : (c : ℕ × ℕ) (copies rest : Copies) → Picks c copies rest → Distinct copies → Distinct rest × Unwritten c.0 rest
picks_distinct c copies rest here h = (h.1, h.0)
picks_distinct c copies rest (there {other = o} {copies = more} {rest = left} p) h =
    let r = picks_distinct c more left p h.1 in let w = picks_unwritten c more left p o.0 h.0 in ((w.0, r.0), (flip o.0 c.0 w.1, r.1))

-- the picked copy may be looked up first
first_by : (regs : Registers) (x d s o : ℕ) (os : ℕ) (rest : Bits) (b b' : Bool) → (x == d) ≡ b → (x == o) ≡ b' → (o == d) ≡ false → (if b' then regs os else (if b then regs s else rest)) ≡ (if b then regs s else (if b' then regs os else rest))
first_by regs x d s o os rest true true e e' h = absurd (differs o d h (sym (eq_of x o e') ∙ eq_of x d e))
first_by regs x d s o os rest true false e e' h = refl
first_by regs x d s o os rest false b' e e' h = refl

picked : (regs : Registers) (d s : ℕ) (copies rest : Copies) → Picks (d, s) copies rest → Unwritten d rest → (x : ℕ) → at_once regs copies x ≡ (if x == d then regs s else at_once regs rest x)
picked regs d s copies rest here u x = refl
picked regs d s copies rest (there {other = o} {copies = more} {rest = left} p) u x =
    ap (λ (v : Bits). if x == o.0 then regs o.1 else v) (picked regs d s more left p u.1 x)
    ∙ first_by regs x d s o.0 o.1 (at_once regs left x) (x == d) (x == o.0) refl refl (flip d o.0 u.0)

same_read : (regs : Registers) (d y : ℕ) (v : Bits) → (y == d) ≡ false → write regs d v y ≡ regs y
same_read regs d y v h = ap (λ b. if b then v else regs y) h

written_by : (regs : Registers) (d : ℕ) (v : Bits) (x o os : ℕ) (more more' : Bits) (b b' : Bool) → (x == d) ≡ b → (x == o) ≡ b' → (d == o) ≡ false → write regs d v os ≡ regs os → more ≡ (if b then v else more')
    → (if b' then write regs d v os else more) ≡ (if b then v else (if b' then regs os else more'))
written_by regs d v x o os more more' true true e e' h k r = absurd (differs d o h (sym (eq_of x d e) ∙ eq_of x o e'))
written_by regs d v x o os more more' true false e e' h k r = r
written_by regs d v x o os more more' false true e e' h k r = k
written_by regs d v x o os more more' false false e e' h k r = r

-- a write of a register that no copy reads or writes
written : (regs : Registers) (d : ℕ) (v : Bits) (rest : Copies) → Unread d rest → Unwritten d rest → (x : ℕ) → at_once (write regs d v) rest x ≡ (if x == d then v else at_once regs rest x)
written regs d v [] u w x = refl
written regs d v (o ∷ os) u w x =
    written_by regs d v x o.0 o.1 (at_once (write regs d v) os x) (at_once regs os x) (x == d) (x == o.0) refl refl w.0 (same_read regs d o.1 v (flip d o.1 u.0)) (written regs d v os u.1 w.1 x)

-- reads of the register that was kept
kept_by : (regs : Registers) (d t y : ℕ) (v : Bits) (b : Bool) → (y == d) ≡ b → (t == d) ≡ false → (t == y) ≡ false
    → write (write regs t (regs d)) d v (if b then t else y) ≡ regs y
kept_by regs d t y v true e h k = same_read (write regs t (regs d)) d t v h ∙ ap (λ b. if b then regs d else regs t) (same t) ∙ ap regs (sym (eq_of y d e))
  where
    same : (n : ℕ) → (n == n) ≡ true
    same n = grind arith
kept_by regs d t y v false e h k = same_read (write regs t (regs d)) d y v e ∙ same_read regs t y (regs d) (flip t y k)

kept : (regs : Registers) (d t : ℕ) (v : Bits) (rest : Copies) → (t == d) ≡ false → Unread t rest → Unwritten d rest → (x : ℕ) → (x == t) ≡ false
    → at_once (write (write regs t (regs d)) d v) (renamed d t rest) x ≡ (if x == d then v else at_once regs rest x)
kept regs d t v [] h u w x k = by_test (x == d) refl
  where
    by_test : (b : Bool) → (x == d) ≡ b → (if b then v else write regs t (regs d) x) ≡ (if b then v else regs x)
    by_test true e = refl
    by_test false e = same_read regs t x (regs d) k
kept regs d t v (o ∷ os) h u w x k = by_tests (x == d) (x == o.0) refl refl (kept regs d t v os h u.1 w.1 x k)
  where
    by_tests : (b b' : Bool) → (x == d) ≡ b → (x == o.0) ≡ b' → at_once (write (write regs t (regs d)) d v) (renamed d t os) x ≡ (if b then v else at_once regs os x)
        → (if b' then write (write regs t (regs d)) d v (if o.1 == d then t else o.1) else at_once (write (write regs t (regs d)) d v) (renamed d t os) x)
        ≡ (if b then v else (if b' then regs o.1 else at_once regs os x))
    by_tests true true e e' r = absurd (differs d o.0 w.0 (sym (eq_of x d e) ∙ eq_of x o.0 e'))
    by_tests true false e e' r = r
    by_tests false true e e' r = kept_by regs d t o.1 v (o.1 == d) refl h u.0
    by_tests false false e e' r = r

-- a register that no copy writes keeps its value
untouched : (regs : Registers) (x : ℕ) (copies : Copies) → Unwritten x copies → at_once regs copies x ≡ regs x
untouched regs x [] h = refl
untouched regs x (copy ∷ copies) h = ap (λ (b : Bool). if b then regs copy.1 else at_once regs copies x) h.0 ∙ untouched regs x copies h.1

-- a copy from the register itself changes nothing
itself : (regs : Registers) (d : ℕ) (rest : Copies) → Unwritten d rest → (x : ℕ) → at_once regs rest x ≡ (if x == d then regs d else at_once regs rest x)
itself regs d rest u x = by_test (x == d) refl
  where
    by_test : (b : Bool) → (x == d) ≡ b → at_once regs rest x ≡ (if b then regs d else at_once regs rest x)
    by_test true e = let same : x ≡ d = eq_of x d e in rw same (untouched regs d rest u)
    by_test false e = refl

pub renamed_unwritten : (d t x : ℕ) (rest : Copies) → Unwritten x rest → Unwritten x (renamed d t rest)
renamed_unwritten d t x [] h = tt
renamed_unwritten d t x (o ∷ os) h = (h.0, renamed_unwritten d t x os h.1)

pub renamed_distinct : (d t : ℕ) (rest : Copies) → Distinct rest → Distinct (renamed d t rest)
renamed_distinct d t [] h = tt
renamed_distinct d t (o ∷ os) h = (renamed_unwritten d t o.0 os h.0, renamed_distinct d t os h.1)

module _ (spare x : ℕ) (apart' : (x == spare) ≡ false) where
  -- in other registers than the spare one the moves leave what the copies leave
  pub sequences_copy : (copies : Copies) (moves : List MInst) → Sequences spare copies moves → Distinct copies → (regs : Registers)
      → all_moved moves regs x ≡ at_once regs copies x
  sequences_copy copies moves done h regs = refl
  sequences_copy copies moves (drops {rest = rest} d p q) h regs =
      let r = picks_distinct (d, d) copies rest p h in
      sequences_copy rest moves q r.0 regs ∙ itself regs d rest r.1 x ∙ sym (picked regs d d copies rest p r.1 x)
  sequences_copy copies moves (emits {rest = rest} {moves = more} d s p u q) h regs =
      let r = picks_distinct (d, s) copies rest p h in
      sequences_copy rest more q r.0 (write regs d (regs s)) ∙ written regs d (regs s) rest u r.1 x ∙ sym (picked regs d s copies rest p r.1 x)
  sequences_copy copies moves (breaks {rest = rest} {moves = more} d s p u w q) h regs =
      let r = picks_distinct (d, s) copies rest p h in
      let ur = picks_unread (d, s) copies rest p spare u in
      let wr = picks_unwritten (d, s) copies rest p spare w in
      sequences_copy (renamed d spare rest) more q (renamed_distinct d spare rest r.0) (write (write regs spare (regs d)) d (write regs spare (regs d) s))
      ∙ kept regs d spare (write regs spare (regs d) s) rest wr.1 ur.0 r.1 x apart'
      ∙ ap (λ (v : Bits). if x == d then v else at_once regs rest x) (same_read regs spare s (regs d) (flip spare s ur.1))
      ∙ sym (picked regs d s copies rest p r.1 x)

pub renamed_length : (d t : ℕ) (rest : Copies) → length (renamed d t rest) ≡ length rest
renamed_length d t [] = refl
renamed_length d t (o ∷ os) = ap suc (renamed_length d t os)

picks_length : (c : ℕ × ℕ) (copies rest : Copies) → Picks c copies rest → length copies ≡ suc (length rest)
picks_length c copies rest here = refl
picks_length c copies rest (there {copies = more} {rest = left} p) = ap suc (picks_length c more left p)

-- at most two moves a copy
pub few_moves : (spare : ℕ) (copies : Copies) (moves : List MInst) → Sequences spare copies moves → length moves ≤ 2 * length copies
few_moves spare copies moves done = omega arith
few_moves spare copies moves (drops {rest = rest} d p q) =
    let a = few_moves spare rest moves q in let b = picks_length (d, d) copies rest p in omega (arith, a, b)
few_moves spare copies moves (emits {rest = rest} {moves = more} d s p u q) =
    let a = few_moves spare rest more q in let b = picks_length (d, s) copies rest p in omega (arith, a, b)
few_moves spare copies moves (breaks {rest = rest} {moves = more} d s p u w q) =
    let a = few_moves spare (renamed d spare rest) more q in let b = picks_length (d, s) copies rest p in let c = renamed_length d spare rest in omega (arith, a, b, c)
