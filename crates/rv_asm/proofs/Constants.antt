-- The instructions that load a constant leave it in the register.
use Rattle.std.proofs.Common.{◌≡◌, ◌≢◌, refl, ap, ◌∙◌, ℕ, zero, suc, ◌+◌, ◌-◌, ◌*◌, ◌/◌, ◌%◌, ◌^◌, ◌<◌, ◌≤◌, ◌⊎◌, inl, inr, ⊎_elim, List, [], ◌∷◌, ◌++◌, Bool, true, false, cond, arith}
use Rattle.std.specs.Prelude.{◌==◌, ◌||◌, nat_lt, nat_le, ℤ, pos, negsuc}
use Rattle.std.proofs.lemmas.Bool.{cases_lt, ltb-true, ltb-false, leb-true, leb-false, lt-ltb, le-ltb}
use Rattle.rv_core.specs.Reg.{number_of}
use Rattle.rv_core.specs.declared.reg.Reg.{Reg}
use Rattle.rv_core.specs.declared.instr.ImmOp.{ImmOp}
use Rattle.rv_core.specs.declared.instr.ImmOp.TheVariants.{Addi, Slli, Addiw}
use Rattle.rv_core.specs.declared.instr.Instr.{Instr}
use Rattle.rv_core.specs.declared.instr.Instr.TheVariants.{Lui, Imm}
use Rattle.rv_core.specs.Step.{Registers, written, write, next, after, modulo, sign_extend_word, op_value, register_form}
use Rattle.rv_asm.specs.Constant.{upper, lower, is_twelve, is_word, high_part, add_low, word_code, const_code, after_all, Puts}
use Rattle.rv_asm.proofs.Bits.{eq-true, write-is, read-is, written-same, written-twice, functions-equal, low-cases, sign-cases}

-- ---- the arithmetic

high-cases : (n : ℕ) → n < 2 ^ 64 → ((n < 2 ^ 63) × (high_part n ≡ (n + 2048) / 4096)) ⊎ ((2 ^ 63 ≤ n) × (high_part n ≡ (n + 2048) / 4096 + (2 ^ 64 - 2 ^ 52)))
high-cases n lt = ⊎_elim (λ h. inl (h, rw (lt-ltb _ _ h))) (λ h. inr (h, rw (le-ltb _ _ h))) (cases_lt n (2 ^ 63))

-- a number is its high part, moved up, and its low part
parts-sum : (n : ℕ) → n < 2 ^ 64 → ((high_part n * 2 ^ 12) % 2 ^ 64 + modulo (lower n)) % 2 ^ 64 ≡ n
parts-sum n lt =
    ⊎_elim
    (λ h. ⊎_elim (λ l. omega (arith, h.1, l.1, h.0, l.0)) (λ l. omega (arith, h.1, l.1, h.0, l.0)) (low-cases n))
    (λ h. ⊎_elim (λ l. omega (arith, h.1, l.1, h.0, l.0)) (λ l. omega (arith, h.1, l.1, h.0, l.0)) (low-cases n))
    (high-cases n lt)

no-low : (n : ℕ) → n < 2 ^ 64 → n % 4096 ≡ 0 → (high_part n * 2 ^ 12) % 2 ^ 64 ≡ n
no-low n lt e = ⊎_elim (λ h. omega (arith, h.1, h.0)) (λ h. omega (arith, h.1, h.0)) (high-cases n lt)

abbrev IsWord : ℕ → Type 0
IsWord n = (n < 2 ^ 31) ⊎ ((2 ^ 64 - 2 ^ 31 ≤ n) × (n < 2 ^ 64))

sign-back : (n k : ℕ) → IsWord n → k % 2 ^ 32 ≡ n % 2 ^ 32 → sign_extend_word k ≡ n
sign-back n k h e =
    ⊎_elim
    (λ s. ⊎_elim (λ w. omega (arith, s.1, s.0, w, e)) (λ w. omega (arith, s.1, s.0, w.0, w.1, e)) h)
    (λ s. ⊎_elim (λ w. omega (arith, s.1, s.0, w, e)) (λ w. omega (arith, s.1, s.0, w.0, w.1, e)) h)
    (sign-cases k)

abbrev field : ℕ → ℕ
field n = upper n % 2 ^ 20

word-low : (n : ℕ) → n < 2 ^ 64 → (sign_extend_word (field n * 2 ^ 12) + modulo (lower n)) % 2 ^ 32 ≡ n % 2 ^ 32
word-low n lt =
    ⊎_elim
    (λ s. ⊎_elim (λ l. omega (arith, s.1, l.1, l.0)) (λ l. omega (arith, s.1, l.1, l.0)) (low-cases n))
    (λ s. ⊎_elim (λ l. omega (arith, s.1, l.1, l.0)) (λ l. omega (arith, s.1, l.1, l.0)) (low-cases n))
    (sign-cases (field n * 2 ^ 12))

word-no-low : (n : ℕ) → IsWord n → n % 4096 ≡ 0 → sign_extend_word (field n * 2 ^ 12) ≡ n
word-no-low n h e = sign-back n (field n * 2 ^ 12) h (omega (arith, e))

or-true : (b c : Bool) → (b || c) ≡ true → (b ≡ true) ⊎ (c ≡ true)
or-true true c h = inl refl
or-true false c h = inr h

or-false : (b c : Bool) → (b || c) ≡ false → (b ≡ false) × (c ≡ false)
or-false true c h = cc
or-false false c h = (refl, h)

word-true : (n : ℕ) → n < 2 ^ 64 → is_word n ≡ true → IsWord n
word-true n lt h = ⊎_elim (λ e. inl (ltb-true _ _ e)) (λ e. inr (leb-true _ _ e, lt)) (or-true (nat_lt n (2 ^ 31)) (nat_le (2 ^ 64 - 2 ^ 31) n) h)

pub word-false : (n : ℕ) → is_word n ≡ false → (2 ^ 31 ≤ n) × (n < 2 ^ 64 - 2 ^ 31)
word-false n h = let r = or-false (nat_lt n (2 ^ 31)) (nat_le (2 ^ 64 - 2 ^ 31) n) h in (ltb-false _ _ r.0, leb-false _ _ r.1)

abbrev IsWithin : ℕ → ℕ → Type 0
IsWithin b n = (n < b) ⊎ ((2 ^ 64 - b ≤ n) × (n < 2 ^ 64))

high-first : (n : ℕ) → n < 2 ^ 64 → is_word n ≡ false → IsWithin (2 ^ 52) (high_part n)
high-first n lt w = let r = word-false n w in ⊎_elim (λ h. inl (omega (arith, h.0, h.1))) (λ h. inr (omega (arith, h.0, h.1, r.1), omega (arith, h.1, r.1))) (high-cases n lt)

high-second : (n : ℕ) → IsWithin (2 ^ 52) n → n < 2 ^ 64 → is_word n ≡ false → IsWithin (2 ^ 41) (high_part n)
high-second n b lt w =
    let r = word-false n w in
    ⊎_elim (λ h. ⊎_elim (λ l. inl (omega (arith, h.1, l))) (λ l. absurd (omega (arith, h.0, l.0))) b) (λ h. ⊎_elim (λ l. absurd (omega (arith, h.0, l))) (λ l. inr (omega (arith, h.1, l.0), omega (arith, h.1, r.1))) b) (high-cases n lt)

high-third : (n : ℕ) → IsWithin (2 ^ 41) n → n < 2 ^ 64 → is_word n ≡ false → IsWord (high_part n)
high-third n b lt w =
    let r = word-false n w in
    ⊎_elim (λ h. ⊎_elim (λ l. inl (omega (arith, h.1, l))) (λ l. absurd (omega (arith, h.0, l.0))) b) (λ h. ⊎_elim (λ l. absurd (omega (arith, h.0, l))) (λ l. inr (omega (arith, h.1, l.0), omega (arith, h.1, r.1))) b) (high-cases n lt)

reach-below : (b n : ℕ) → b ≤ 2 ^ 64 → IsWithin b n → n < 2 ^ 64
reach-below b n le h = ⊎_elim (λ l. omega (arith, l, le)) (λ l. l.1) h

-- ---- the code

after-append : (xs ys : List Instr) (s : Registers) → after_all (xs ++ ys) s ≡ after_all ys (after_all xs s)
after-append [] ys s = refl
after-append (x ∷ xs) ys s = after-append xs ys (after s x)

written-own : (f : ℕ → ℕ) (i w : ℕ) → f i ≡ w → f ≡ written f i w
written-own f i w h = functions-equal (λ j. at j (j == i) refl)
  where
    at : (j : ℕ) (b : Bool) → (j == i) ≡ b → f j ≡ cond b w (f j)
    at j true e = ap f (eq-true j i e) ∙ h
    at j false e = refl

module _ (rd : Reg) (nz : number_of rd ≢ 0) where
  -- the instructions turn one value in the register into another, and change no other register
  abbrev Turns : List Instr → ℕ → ℕ → Type 0
  Turns code v w = (s : Registers) → s.x (number_of rd) ≡ v → (after_all code s).x ≡ written s.x (number_of rd) w

  puts-then : (xs ys : List Instr) (v w : ℕ) → Puts xs rd v → Turns ys v w → Puts (xs ++ ys) rd w
  puts-then xs ys v w h g = λ s.
      let mid : (after_all xs s).x ≡ written s.x (number_of rd) v = h s in
      let at : (after_all xs s).x (number_of rd) ≡ v = ap (λ (f : ℕ → ℕ). f (number_of rd)) mid ∙ written-same s.x (number_of rd) v in
      ap (λ (u : Registers). u.x) (after-append xs ys s) ∙ g (after_all xs s) at ∙ ap (λ (f : ℕ → ℕ). written f (number_of rd) w) mid ∙ written-twice s.x (number_of rd) v w

  turns-then : (xs ys : List Instr) (u v w : ℕ) → Turns xs u v → Turns ys v w → Turns (xs ++ ys) u w
  turns-then xs ys u v w h g = λ s start.
      let mid : (after_all xs s).x ≡ written s.x (number_of rd) v = h s start in
      let at : (after_all xs s).x (number_of rd) ≡ v = ap (λ (f : ℕ → ℕ). f (number_of rd)) mid ∙ written-same s.x (number_of rd) v in
      ap (λ (u : Registers). u.x) (after-append xs ys s) ∙ g (after_all xs s) at ∙ ap (λ (f : ℕ → ℕ). written f (number_of rd) w) mid ∙ written-twice s.x (number_of rd) v w

  wrote : (s : Registers) (v w : ℕ) → v ≡ w → (next (write s rd v)).x ≡ written s.x (number_of rd) w
  wrote s v w e = ap (λ (q : Registers). q.x) (write-is s rd v nz) ∙ ap (written s.x (number_of rd)) e

  turns-by : (op : ImmOp) (z : ℤ) (v w : ℕ) → op_value (register_form op) v (modulo z) ≡ w → Turns (Imm op rd rd z ∷ []) v w
  turns-by op z v w e = λ s at. wrote s _ w (ap (λ (x : ℕ). op_value (register_form op) x (modulo z)) (read-is s rd nz ∙ at) ∙ e)

  -- the low part is added where there is one
  turns-low : (op : ImmOp) (n v w : ℕ) → (n % 4096 ≡ 0 → v ≡ w) → op_value (register_form op) v (modulo (lower n)) ≡ w → Turns (add_low op rd n) v w
  turns-low op n v w same e = by_test (n % 4096 == 0) refl
    where
      by_test : (b : Bool) → (n % 4096 == 0) ≡ b → Turns (cond b [] (Imm op rd rd (lower n) ∷ [])) v w
      by_test true t = λ s at. written-own s.x (number_of rd) w (at ∙ same (eq-true _ _ t))
      by_test false t = turns-by op (lower n) v w e

  puts-if : (b : Bool) (xs ys : List Instr) (v : ℕ) → (b ≡ true → Puts xs rd v) → (b ≡ false → Puts ys rd v) → Puts (cond b xs ys) rd v
  puts-if true xs ys v h k = h refl
  puts-if false xs ys v h k = k refl

  -- a number of 32 bits
  word-puts : (n : ℕ) → IsWord n → n < 2 ^ 64 → Puts (word_code rd n) rd n
  word-puts n word lt =
      puts-if (is_twelve n) _ _ n
      (λ h s. wrote s _ n (small (nat_lt n 2048) refl))
      (λ h. puts-then (Lui rd (field n) ∷ []) (add_low Addiw rd n) (sign_extend_word (field n * 2 ^ 12)) n (λ s. wrote s _ _ refl)
      (turns-low Addiw n (sign_extend_word (field n * 2 ^ 12)) n (word-no-low n word) (sign-back n _ word (word-low n lt))))
    where
      small : (b : Bool) → nat_lt n 2048 ≡ b → (0 + modulo (cond b (pos n) (negsuc (2 ^ 64 - 1 - n)))) % 2 ^ 64 ≡ n
      small true e = omega arith
      small false e = omega arith

  -- a number whose high part, taken k times, has 32 bits
  abbrev IsInReach : ℕ → ℕ → Type 0
  IsInReach zero n = (n < 2 ^ 64) × IsWord n
  IsInReach (suc k) n = (n < 2 ^ 64) × (is_word n ≡ false → IsInReach k (high_part n))

  const-puts-in : (k n : ℕ) → IsInReach k n → Puts (const_code k rd n) rd n
  const-puts-in zero n h = word-puts n h.1 h.0
  const-puts-in (suc k) n h =
      puts-if (is_word n) _ _ n
      (λ e. word-puts n (word-true n h.0 e) h.0)
      (λ e. puts-then (const_code k rd (high_part n)) (Imm Slli rd rd (pos 12) ∷ add_low Addi rd n) (high_part n) n (const-puts-in k (high_part n) (h.1 e))
      (turns-then (Imm Slli rd rd (pos 12) ∷ []) (add_low Addi rd n) (high_part n) ((high_part n * 2 ^ 12) % 2 ^ 64) n
      (turns-by Slli (pos 12) (high_part n) ((high_part n * 2 ^ 12) % 2 ^ 64) refl)
      (turns-low Addi n ((high_part n * 2 ^ 12) % 2 ^ 64) n (no-low n h.0) (parts-sum n h.0))))

  -- a number of 64 bits
  pub const-puts : (n : ℕ) → n < 2 ^ 64 → Puts (const_code 3 rd n) rd n
  const-puts n lt =
      const-puts-in 3 n (
        lt,
        λ w0. let b1 = high-first n lt w0 in let l1 = reach-below (2 ^ 52) (high_part n) (omega arith) b1 in (
          l1,
          λ w1. let b2 = high-second (high_part n) b1 l1 w1 in let l2 = reach-below (2 ^ 41) (high_part (high_part n)) (omega arith) b2 in
              (l2, λ w2. let b3 = high-third (high_part (high_part n)) b2 l2 w2 in (⊎_elim (λ l. omega (arith, l)) (λ l. l.1) b3, b3)),
        ),
      )
