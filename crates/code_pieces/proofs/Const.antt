-- Loading a number into a register.
use Rattle.std.proofs.Common.{◌≡◌, ◌≢◌, refl, sym, ap, subst, ◌∙◌, ℕ, zero, suc, ◌+◌, ◌-◌, ◌*◌, ◌/◌, ◌%◌, ◌^◌, ◌<◌, ◌≤◌, ◌⊎◌, inl, inr, ⊎_elim, List, [], ◌∷◌, ◌++◌, length, Bool, true, false, cond, arith, append_assoc}
use Rattle.std.specs.Prelude.{◌==◌, ◌||◌, nat_lt, nat_le, pos, negsuc}
use Rattle.std.specs.Int.{w32, cast_signed}
use Rattle.std.proofs.lemmas.Bool.{cases_lt, ltb-true, ltb-false, leb-true, leb-false, lt-ltb, le-ltb}
use Rattle.std.proofs.lemmas.Int.{ints}
use Rattle.std.proofs.lemmas.List.{length-append, append-nil}
use Rattle.rv_core.specs.Reg.{number_of}
use Rattle.rv_core.specs.declared.reg.Reg.{Reg}
use Rattle.rv_core.specs.declared.reg.Reg.TheVariants.{X0}
use Rattle.rv_core.specs.declared.instr.ImmOp.TheVariants.{Addi, Slli, Addiw}
use Rattle.rv_core.specs.declared.instr.Instr.{Instr}
use Rattle.rv_core.specs.declared.instr.Instr.TheVariants.{Lui, Imm}
use Rattle.rv_core.specs.Step.{Registers, written, read, write, next, modulo, sign_extend_word, plus}
use Rattle.ir_meaning.specs.Plays.{Meaning}
use Rattle.rv_play.specs.Machine.{Act, On, act, code_base, code_limit}
use Rattle.rv_play.specs.CodePlay.{Place, Point, is_jalr}
use Rattle.rv_play.specs.Ending.{upper, lower}
use Rattle.rv_play.proofs.Lines.{Stands, stands-apart, Goes, goes-then, plain-step}
use Rattle.code_pieces.specs.Code.{is_twelve, is_word, high_part, add_low, word_code, const_code}

pub eq-true : (a b : ℕ) → (a == b) ≡ true → a ≡ b
eq-true a b h = grind arith

is-not : (n : ℕ) → n ≢ 0 → (n == 0) ≡ false
is-not n h = by_test (n == 0) refl
  where
    by_test : (b : Bool) → (n == 0) ≡ b → b ≡ false
    by_test true e = absurd (h (eq-true n 0 e))
    by_test false e = refl

pub self-eq : (n : ℕ) → (n == n) ≡ true
self-eq n = grind arith

pub functions-equal : {f g : ℕ → ℕ} → ((a : ℕ) → f a ≡ g a) → f ≡ g
functions-equal h = λ i x. h x i

-- a register that isn't the first is written and read
pub write-is : (s : Registers) (rd : Reg) (v : ℕ) → number_of rd ≢ 0 → write s rd v ≡ record s { x = written s.x (number_of rd) v }
write-is s rd v h = ap (λ (b : Bool). cond b s (record s { x = written s.x (number_of rd) v })) (is-not (number_of rd) h)

pub read-written : (f : ℕ → ℕ) (pc : ℕ) (rd : Reg) (v : ℕ) → number_of rd ≢ 0 → read (record { x = written f (number_of rd) v; pc = pc }) rd ≡ v
read-written f pc rd v h =
    ap (λ (b : Bool). cond b 0 (written f (number_of rd) v (number_of rd))) (is-not (number_of rd) h)
    ∙ ap (λ (b : Bool). cond b v (f (number_of rd))) (self-eq (number_of rd))

-- a point after k instructions that changed one register
abbrev pub put : Point → Reg → ℕ → ℕ → Point
put p rd v k = record p {
  machine = record p.machine { regs = record { x = written p.machine.regs.x (number_of rd) v; pc = p.machine.regs.pc + 4 * k } };
  steps = p.steps + k;
}

written-twice : (r : ℕ → ℕ) (i v w : ℕ) → written (written r i v) i w ≡ written r i w
written-twice r i v w = functions-equal (λ j. again (j == i) (r j))
  where
    again : (b : Bool) (x : ℕ) → cond b w (cond b v x) ≡ cond b w x
    again true x = refl
    again false x = refl

put-twice : (p : Point) (rd : Reg) (v w k l n : ℕ) → n ≡ k + l → put (put p rd v k) rd w l ≡ put p rd w n
put-twice p rd v w k l n e =
    let at : p.machine.regs.pc + 4 * k + 4 * l ≡ p.machine.regs.pc + 4 * n = omega (arith, e) in
    let count : p.steps + k + l ≡ p.steps + n = omega (arith, e) in
    let made : (ℕ → ℕ) → ℕ → ℕ → Point = λ x pc steps. record p { machine = record p.machine { regs = record { x = x; pc = pc } }; steps = steps } in
    ap (λ (x : ℕ → ℕ). made x (p.machine.regs.pc + 4 * k + 4 * l) (p.steps + k + l)) (written-twice p.machine.regs.x (number_of rd) v w)
    ∙ ap (λ (pc : ℕ). made (written p.machine.regs.x (number_of rd) w) pc (p.steps + k + l)) at
    ∙ ap (λ (steps : ℕ). made (written p.machine.regs.x (number_of rd) w) (p.machine.regs.pc + 4 * n) steps) count

-- ---- the arithmetic

-- the low twelve bits of a number
pub low-cases : (n : ℕ) → ((n % 4096 < 2048) × (modulo (lower n) ≡ n % 4096)) ⊎ ((2048 ≤ n % 4096) × (modulo (lower n) ≡ 2 ^ 64 - (4096 - n % 4096)))
low-cases n =
    ⊎_elim
    (λ h. inl (h, ap (λ (b : Bool). modulo (cond b (pos (n % 4096)) (negsuc (4095 - n % 4096)))) (lt-ltb _ _ h) ∙ omega (arith, h)))
    (λ h. inr (h, ap (λ (b : Bool). modulo (cond b (pos (n % 4096)) (negsuc (4095 - n % 4096)))) (le-ltb _ _ h) ∙ omega (arith, h)))
    (cases_lt (n % 4096) 2048)

pub high-cases : (n : ℕ) → n < 2 ^ 64 → ((n < 2 ^ 63) × (high_part n ≡ (n + 2048) / 4096)) ⊎ ((2 ^ 63 ≤ n) × (high_part n ≡ (n + 2048) / 4096 + (2 ^ 64 - 2 ^ 52)))
high-cases n lt = ⊎_elim (λ h. inl (h, rw (lt-ltb _ _ h))) (λ h. inr (h, rw (le-ltb _ _ h))) (cases_lt n (2 ^ 63))

-- a number is its high part, moved up, and its low part
parts-sum : (n : ℕ) → n < 2 ^ 64 → ((high_part n * 2 ^ 12) % 2 ^ 64 + modulo (lower n)) % 2 ^ 64 ≡ n
parts-sum n lt =
    ⊎_elim
    (λ h. ⊎_elim (λ l. omega (arith, h.1, l.1, h.0, l.0)) (λ l. omega (arith, h.1, l.1, h.0, l.0)) (low-cases n))
    (λ h. ⊎_elim (λ l. omega (arith, h.1, l.1, h.0, l.0)) (λ l. omega (arith, h.1, l.1, h.0, l.0)) (low-cases n))
    (high-cases n lt)

no-low : (n : ℕ) → n < 2 ^ 64 → n % 4096 ≡ 0 → (high_part n * 2 ^ 12) % 2 ^ 64 ≡ n
no-low n lt e = ⊎_elim (λ h. omega (arith, h.1, h.0)) (λ h. omega (arith, h.1, h.0)) (high-cases n lt)

-- a word's sign is extended
pub sign-cases : (n : ℕ) → ((n % 2 ^ 32 < 2 ^ 31) × (sign_extend_word n ≡ n % 2 ^ 32)) ⊎ ((2 ^ 31 ≤ n % 2 ^ 32) × (sign_extend_word n ≡ n % 2 ^ 32 + (2 ^ 64 - 2 ^ 32)))
sign-cases n =
    ⊎_elim
    (λ h. inl (h, ap modulo (positive (n % 2 ^ 32) h) ∙ omega (arith, h)))
    (λ h. inr (h, ap modulo (negated (n % 2 ^ 32) h (omega arith)) ∙ omega (arith, h)))
    (cases_lt (n % 2 ^ 32) (2 ^ 31))
  where
    positive : (k : ℕ) → k < 2 ^ 31 → cast_signed w32 k ≡ pos k
    positive k h = grind (arith, ints)

    negated : (k : ℕ) → 2 ^ 31 ≤ k → k < 2 ^ 32 → cast_signed w32 k ≡ negsuc (2 ^ 32 - 1 - k)
    negated k h l = grind (arith, ints)

abbrev IsWord : ℕ → Type 0
IsWord n = (n < 2 ^ 31) ⊎ ((2 ^ 64 - 2 ^ 31 ≤ n) × (n < 2 ^ 64))

sign-back : (n k : ℕ) → IsWord n → k % 2 ^ 32 ≡ n % 2 ^ 32 → sign_extend_word k ≡ n
sign-back n k h e =
    ⊎_elim
    (λ s. ⊎_elim (λ w. omega (arith, s.1, s.0, w, e)) (λ w. omega (arith, s.1, s.0, w.0, w.1, e)) h)
    (λ s. ⊎_elim (λ w. omega (arith, s.1, s.0, w, e)) (λ w. omega (arith, s.1, s.0, w.0, w.1, e)) h)
    (sign-cases k)

abbrev field : ℕ → ℕ
field n = upper n % 2 ^ 20

word-low : (n : ℕ) → n < 2 ^ 64 → (sign_extend_word (field n * 2 ^ 12) + modulo (lower n)) % 2 ^ 32 ≡ n % 2 ^ 32
word-low n lt =
    ⊎_elim
    (λ s. ⊎_elim (λ l. omega (arith, s.1, l.1, l.0)) (λ l. omega (arith, s.1, l.1, l.0)) (low-cases n))
    (λ s. ⊎_elim (λ l. omega (arith, s.1, l.1, l.0)) (λ l. omega (arith, s.1, l.1, l.0)) (low-cases n))
    (sign-cases (field n * 2 ^ 12))

word-no-low : (n : ℕ) → IsWord n → n % 4096 ≡ 0 → sign_extend_word (field n * 2 ^ 12) ≡ n
word-no-low n h e = sign-back n (field n * 2 ^ 12) h (omega (arith, e))

or-true : (b c : Bool) → (b || c) ≡ true → (b ≡ true) ⊎ (c ≡ true)
or-true true c h = inl refl
or-true false c h = inr h

or-false : (b c : Bool) → (b || c) ≡ false → (b ≡ false) × (c ≡ false)
or-false true c h = cc
or-false false c h = (refl, h)

word-true : (n : ℕ) → n < 2 ^ 64 → is_word n ≡ true → IsWord n
word-true n lt h = ⊎_elim (λ e. inl (ltb-true _ _ e)) (λ e. inr (leb-true _ _ e, lt)) (or-true (nat_lt n (2 ^ 31)) (nat_le (2 ^ 64 - 2 ^ 31) n) h)

pub word-false : (n : ℕ) → is_word n ≡ false → (2 ^ 31 ≤ n) × (n < 2 ^ 64 - 2 ^ 31)
word-false n h = let r = or-false (nat_lt n (2 ^ 31)) (nat_le (2 ^ 64 - 2 ^ 31) n) h in (ltb-false _ _ r.0, leb-false _ _ r.1)

-- ---- the code

pub read-is : (s : Registers) (rd : Reg) → number_of rd ≢ 0 → read s rd ≡ s.x (number_of rd)
read-is s rd nz = ap (λ (b : Bool). cond b 0 (s.x (number_of rd))) (not-first (number_of rd == 0) refl)
  where
    not-first : (b : Bool) → (number_of rd == 0) ≡ b → b ≡ false
    not-first true e = absurd (nz (eq-true (number_of rd) 0 e))
    not-first false e = refl

module _ (m : Meaning) (functions : m.functions ≤ 1024) (place : Place) (low : code_base + 4 ≤ place.base) (high : place.base + 4 * length place.words ≤ code_limit) where
  -- code that leaves a number in a register, and nothing else
  abbrev pub Puts : Point → Reg → ℕ → List Instr → Type 0
  Puts p rd v code = Stands place p.machine.regs.pc code → Goes m functions place low high (length code) p (put p rd v (length code))

  pub puts-then : (p : Point) (rd : Reg) (v w : ℕ) (xs ys : List Instr) → Puts p rd v xs → Puts (put p rd v (length xs)) rd w ys → Puts p rd w (xs ++ ys)
  puts-then p rd v w xs ys first second st =
      let parts = stands-apart place p.machine.regs.pc xs ys st in
      let len = length-append xs ys in
      let run = goes-then m functions place low high (length xs) (length ys) p (put p rd v (length xs)) (put (put p rd v (length xs)) rd w (length ys)) (first parts.0) (second parts.1) in
      subst (λ (n : ℕ). Goes m functions place low high n p (put p rd w (length (xs ++ ys)))) (sym len)
      (subst (Goes m functions place low high (length xs + length ys) p) (put-twice p rd v w (length xs) (length ys) (length (xs ++ ys)) len) run)

  pub puts-if : (p : Point) (rd : Reg) (v : ℕ) (b : Bool) (xs ys : List Instr) → (b ≡ true → Puts p rd v xs) → (b ≡ false → Puts p rd v ys) → Puts p rd v (cond b xs ys)
  puts-if p rd v true xs ys h k = h refl
  puts-if p rd v false xs ys h k = k refl

  -- one instruction that writes the register
  pub puts-one : (p : Point) (rd : Reg) (v : ℕ) (i : Instr) → number_of rd ≢ 0 → is_jalr i ≡ false
      → act m p.machine i ≡ On (record p.machine { regs = next (write p.machine.regs rd v) }) → Puts p rd v (i ∷ [])
  puts-one p rd v i nz plain acts st =
      let bound = st.1 in let inside = st.0 in
      let near : plus p.machine.regs.pc (pos 4) ≡ p.machine.regs.pc + 4 * 1 = omega (arith, bound) in
      let to : act m p.machine i ≡ On (record p.machine { regs = record { x = written p.machine.regs.x (number_of rd) v; pc = p.machine.regs.pc + 4 * 1 } }) =
      acts
      ∙ ap (λ (s : Registers). On (record p.machine { regs = next s })) (write-is p.machine.regs rd v nz)
      ∙ ap (λ (pc : ℕ). On (record p.machine { regs = record { x = written p.machine.regs.x (number_of rd) v; pc = pc } })) near in
      plain-step m functions place low high p i (record p.machine { regs = record { x = written p.machine.regs.x (number_of rd) v; pc = p.machine.regs.pc + 4 * 1 } }) st.2 plain to (omega (arith, inside))

  -- the low part is added where there is one
  puts-low : (p : Point) (rd : Reg) (v w : ℕ) (xs : List Instr) (b : Bool) (i : Instr) → Puts p rd v xs → (b ≡ true → v ≡ w) → (b ≡ false → Puts (put p rd v (length xs)) rd w (i ∷ [])) → Puts p rd w (xs ++ cond b [] (i ∷ []))
  puts-low p rd v w xs true i first same more = subst (Puts p rd w) (sym (append-nil xs)) (subst (λ (x : ℕ). Puts p rd x xs) (same refl) first)
  puts-low p rd v w xs false i first same more = puts-then p rd v w xs (i ∷ []) first (more refl)

  -- the machine after an instruction that writes a register
  abbrev wrote : Point → Reg → ℕ → Act
  wrote p rd v = On (record p.machine { regs = next (write p.machine.regs rd v) })

  pub read-put : (p : Point) (rd : Reg) (v k : ℕ) → number_of rd ≢ 0 → read (put p rd v k).machine.regs rd ≡ v
  read-put p rd v k nz = read-written p.machine.regs.x (p.machine.regs.pc + 4 * k) rd v nz

  -- a number of 32 bits
  word-puts : (p : Point) (rd : Reg) (n : ℕ) → number_of rd ≢ 0 → IsWord n → n < 2 ^ 64 → Puts p rd n (word_code rd n)
  word-puts p rd n nz word lt =
      puts-if p rd n (is_twelve n) _ _
      (λ h. puts-one p rd n (Imm Addi rd X0 (cond (nat_lt n 2048) (pos n) (negsuc (2 ^ 64 - 1 - n)))) nz refl (ap (wrote p rd) (small (nat_lt n 2048) refl)))
      (λ h. puts-low p rd (sign_extend_word (field n * 2 ^ 12)) n (Lui rd (field n) ∷ []) (n % 4096 == 0) (Imm Addiw rd rd (lower n)) (puts-one p rd (sign_extend_word (field n * 2 ^ 12)) (Lui rd (field n)) nz refl refl)
      (λ e. word-no-low n word (eq-true _ _ e))
      (λ e. let p' = put p rd (sign_extend_word (field n * 2 ^ 12)) 1 in
      puts-one p' rd n (Imm Addiw rd rd (lower n)) nz refl (ap (wrote p' rd) (ap (λ x. sign_extend_word (x + modulo (lower n))) (read-put p rd (sign_extend_word (field n * 2 ^ 12)) 1 nz) ∙ sign-back n _ word (word-low n lt)))))
    where
      small : (b : Bool) → nat_lt n 2048 ≡ b → (0 + modulo (cond b (pos n) (negsuc (2 ^ 64 - 1 - n)))) % 2 ^ 64 ≡ n
      small true e = omega arith
      small false e = omega arith

  -- a number whose high part, taken k times, has 32 bits
  abbrev IsInReach : ℕ → ℕ → Type 0
  IsInReach zero n = (n < 2 ^ 64) × IsWord n
  IsInReach (suc k) n = (n < 2 ^ 64) × (is_word n ≡ false → IsInReach k (high_part n))

  const-puts-in : (k : ℕ) (p : Point) (rd : Reg) (n : ℕ) → number_of rd ≢ 0 → IsInReach k n → Puts p rd n (const_code k rd n)
  const-puts-in zero p rd n nz h = word-puts p rd n nz h.1 h.0
  const-puts-in (suc k) p rd n nz h =
      puts-if p rd n (is_word n) _ _
      (λ e. word-puts p rd n nz (word-true n h.0 e) h.0)
      (λ e.
      let q = high_part n in
      let code = const_code k rd q in
      let shift = Imm Slli rd rd (pos 12) in
      let low' = add_low Addi rd n in
      let up = (q * 2 ^ 12) % 2 ^ 64 in
      let high' : Puts p rd q code = const-puts-in k p rd q nz (h.1 e) in
      let p1 = put p rd q (length code) in
      let shifted : Puts p rd up (code ++ shift ∷ []) = puts-then p rd q up code (shift ∷ []) high' (puts-one p1 rd up shift nz refl (ap (λ x. wrote p1 rd ((x * 2 ^ 12) % 2 ^ 64)) (read-put p rd q (length code) nz))) in
      let p2 = put p rd up (length (code ++ shift ∷ [])) in
      let all : Puts p rd n ((code ++ shift ∷ []) ++ low') = puts-low p rd up n (code ++ shift ∷ []) (n % 4096 == 0) (Imm Addi rd rd (lower n)) shifted
      (λ z. no-low n h.0 (eq-true _ _ z))
      (λ z. puts-one p2 rd n (Imm Addi rd rd (lower n)) nz refl (ap (wrote p2 rd) (ap (λ x. (x + modulo (lower n)) % 2 ^ 64) (read-put p rd up (length (code ++ shift ∷ [])) nz) ∙ parts-sum n h.0))) in
      subst (Puts p rd n) (append_assoc code (shift ∷ []) low') all)

  abbrev IsWithin : ℕ → ℕ → Type 0
  IsWithin b n = (n < b) ⊎ ((2 ^ 64 - b ≤ n) × (n < 2 ^ 64))

  high-first : (n : ℕ) → n < 2 ^ 64 → is_word n ≡ false → IsWithin (2 ^ 52) (high_part n)
  high-first n lt w = let r = word-false n w in ⊎_elim (λ h. inl (omega (arith, h.0, h.1))) (λ h. inr (omega (arith, h.0, h.1, r.1), omega (arith, h.1, r.1))) (high-cases n lt)

  high-second : (n : ℕ) → IsWithin (2 ^ 52) n → n < 2 ^ 64 → is_word n ≡ false → IsWithin (2 ^ 41) (high_part n)
  high-second n b lt w =
      let r = word-false n w in
      ⊎_elim (λ h. ⊎_elim (λ l. inl (omega (arith, h.1, l))) (λ l. absurd (omega (arith, h.0, l.0))) b) (λ h. ⊎_elim (λ l. absurd (omega (arith, h.0, l))) (λ l. inr (omega (arith, h.1, l.0), omega (arith, h.1, r.1))) b) (high-cases n lt)

  high-third : (n : ℕ) → IsWithin (2 ^ 41) n → n < 2 ^ 64 → is_word n ≡ false → IsWord (high_part n)
  high-third n b lt w =
      let r = word-false n w in
      ⊎_elim (λ h. ⊎_elim (λ l. inl (omega (arith, h.1, l))) (λ l. absurd (omega (arith, h.0, l.0))) b) (λ h. ⊎_elim (λ l. absurd (omega (arith, h.0, l))) (λ l. inr (omega (arith, h.1, l.0), omega (arith, h.1, r.1))) b) (high-cases n lt)

  reach-below : (b n : ℕ) → b ≤ 2 ^ 64 → IsWithin b n → n < 2 ^ 64
  reach-below b n le h = ⊎_elim (λ l. omega (arith, l, le)) (λ l. l.1) h

  -- a number of 64 bits
  pub const-puts : (p : Point) (rd : Reg) (n : ℕ) → number_of rd ≢ 0 → n < 2 ^ 64 → Puts p rd n (const_code 3 rd n)
  const-puts p rd n nz lt =
      const-puts-in 3 p rd n nz (
        lt,
        λ w0. let b1 = high-first n lt w0 in let l1 = reach-below (2 ^ 52) (high_part n) (omega arith) b1 in (
          l1,
          λ w1. let b2 = high-second (high_part n) b1 l1 w1 in let l2 = reach-below (2 ^ 41) (high_part (high_part n)) (omega arith) b2 in
              (l2, λ w2. let b3 = high-third (high_part (high_part n)) b2 l2 w2 in (⊎_elim (λ l. omega (arith, l)) (λ l. l.1) b3, b3)),
        ),
      )

-- ---- the lengths of code

low-short : (c : Bool) (z : Instr) → length (cond c [] (z ∷ [])) ≤ 1
low-short true z = omega arith
low-short false z = omega arith

if-short : (b : Bool) (xs ys : List Instr) (n : ℕ) → length xs ≤ n → length ys ≤ n → length (cond b xs ys) ≤ n
if-short true xs ys n h k = h
if-short false xs ys n h k = k

word-short : (rd : Reg) (n : ℕ) → length (word_code rd n) ≤ 2
word-short rd n =
    let low = low-short (n % 4096 == 0) (Imm Addiw rd rd (lower n)) in
    if-short (is_twelve n) _ (Lui rd (upper n % 2 ^ 20) ∷ add_low Addiw rd n) 2 (omega arith) (omega (arith, low))

pub const-short : (k : ℕ) (rd : Reg) (n : ℕ) → length (const_code k rd n) ≤ 2 + 2 * k
const-short zero rd n = word-short rd n
const-short (suc k) rd n =
    let word = word-short rd n in
    let high = const-short k rd (high_part n) in
    let low = low-short (n % 4096 == 0) (Imm Addi rd rd (lower n)) in
    let all = length-append (const_code k rd (high_part n)) (Imm Slli rd rd (pos 12) ∷ add_low Addi rd n) in
    if-short (is_word n) (word_code rd n) (const_code k rd (high_part n) ++ Imm Slli rd rd (pos 12) ∷ add_low Addi rd n) (2 + 2 * suc k) (omega (arith, word)) (omega (arith, high, low, all))
