-- A number's low twelve bits and the rest, and words with their sign.
use Rattle.std.proofs.Common.{◌≡◌, ◌≢◌, refl, ap, ◌∙◌, ℕ, ◌+◌, ◌-◌, ◌*◌, ◌%◌, ◌^◌, ◌<◌, ◌≤◌, ◌⊎◌, inl, inr, ⊎_elim, Bool, true, false, cond, arith}
use Rattle.std.specs.Prelude.{◌==◌, pos, negsuc}
use Rattle.std.specs.Int.{w32, cast_signed}
use Rattle.std.proofs.lemmas.Bool.{cases_lt, lt-ltb, le-ltb}
use Rattle.std.proofs.lemmas.Int.{ints}
use Rattle.rv_core.specs.Reg.{number_of}
use Rattle.rv_core.specs.declared.reg.Reg.{Reg}
use Rattle.rv_core.specs.Step.{Registers, written, read, write, modulo, sign_extend_word}
use Rattle.rv_asm.specs.Constant.{lower, upper}

pub eq-true : (a b : ℕ) → (a == b) ≡ true → a ≡ b
eq-true a b h = grind arith

pub is-not : (a b : ℕ) → a ≢ b → (a == b) ≡ false
is-not a b h = by_test (a == b) refl
  where
    by_test : (c : Bool) → (a == b) ≡ c → c ≡ false
    by_test true e = absurd (h (eq-true a b e))
    by_test false e = refl

pub self-eq : (n : ℕ) → (n == n) ≡ true
self-eq n = grind arith

-- a register that isn't the first is written and read
pub write-is : (s : Registers) (rd : Reg) (v : ℕ) → number_of rd ≢ 0 → write s rd v ≡ record s { x = written s.x (number_of rd) v }
write-is s rd v h = ap (λ (b : Bool). cond b s (record s { x = written s.x (number_of rd) v })) (is-not (number_of rd) 0 h)

pub read-is : (s : Registers) (rd : Reg) → number_of rd ≢ 0 → read s rd ≡ s.x (number_of rd)
read-is s rd h = ap (λ (b : Bool). cond b 0 (s.x (number_of rd))) (is-not (number_of rd) 0 h)

pub written-same : (f : ℕ → ℕ) (i v : ℕ) → written f i v i ≡ v
written-same f i v = ap (λ (b : Bool). cond b v (f i)) (self-eq i)

pub written-other : (f : ℕ → ℕ) (i v j : ℕ) → j ≢ i → written f i v j ≡ f j
written-other f i v j h = ap (λ (b : Bool). cond b v (f j)) (is-not j i h)

pub functions-equal : {f g : ℕ → ℕ} → ((a : ℕ) → f a ≡ g a) → f ≡ g
functions-equal h = λ i x. h x i

pub written-twice : (f : ℕ → ℕ) (i v w : ℕ) → written (written f i v) i w ≡ written f i w
written-twice f i v w = functions-equal (λ j. again (j == i) (f j))
  where
    again : (b : Bool) (x : ℕ) → cond b w (cond b v x) ≡ cond b w x
    again true x = refl
    again false x = refl

-- the low twelve bits of a number
pub low-cases : (n : ℕ) → ((n % 4096 < 2048) × (modulo (lower n) ≡ n % 4096)) ⊎ ((2048 ≤ n % 4096) × (modulo (lower n) ≡ 2 ^ 64 - (4096 - n % 4096)))
low-cases n =
    ⊎_elim
    (λ h. inl (h, ap (λ (b : Bool). modulo (cond b (pos (n % 4096)) (negsuc (4095 - n % 4096)))) (lt-ltb _ _ h) ∙ omega (arith, h)))
    (λ h. inr (h, ap (λ (b : Bool). modulo (cond b (pos (n % 4096)) (negsuc (4095 - n % 4096)))) (le-ltb _ _ h) ∙ omega (arith, h)))
    (cases_lt (n % 4096) 2048)

-- a word's sign is extended
pub sign-cases : (n : ℕ) → ((n % 2 ^ 32 < 2 ^ 31) × (sign_extend_word n ≡ n % 2 ^ 32)) ⊎ ((2 ^ 31 ≤ n % 2 ^ 32) × (sign_extend_word n ≡ n % 2 ^ 32 + (2 ^ 64 - 2 ^ 32)))
sign-cases n =
    ⊎_elim
    (λ h. inl (h, ap modulo (positive (n % 2 ^ 32) h) ∙ omega (arith, h)))
    (λ h. inr (h, ap modulo (negated (n % 2 ^ 32) h (omega arith)) ∙ omega (arith, h)))
    (cases_lt (n % 2 ^ 32) (2 ^ 31))
  where
    positive : (k : ℕ) → k < 2 ^ 31 → cast_signed w32 k ≡ pos k
    positive k h = grind (arith, ints)

    negated : (k : ℕ) → 2 ^ 31 ≤ k → k < 2 ^ 32 → cast_signed w32 k ≡ negsuc (2 ^ 32 - 1 - k)
    negated k h l = grind (arith, ints)

-- the two parts of an offset of 32 bits that isn't too far
abbrev pub parts : ℕ → ℕ
parts d = (sign_extend_word (upper d % 2 ^ 20 * 2 ^ 12) + modulo (lower d)) % 2 ^ 64

pub far-forward : (d : ℕ) → d < 2 ^ 26 → parts d ≡ d
far-forward d h =
    ⊎_elim
    (λ s. ⊎_elim (λ l. omega (arith, s.0, s.1, l.1, l.0, h)) (λ l. omega (arith, s.0, s.1, l.1, l.0, h)) (low-cases d))
    (λ s. absurd (let t = s.0 in omega (arith, t, h)))
    (sign-cases (upper d % 2 ^ 20 * 2 ^ 12))

pub far-backward : (d e : ℕ) → 0 < e → e < 2 ^ 26 → d ≡ 2 ^ 32 - e → parts d ≡ 2 ^ 64 - e
far-backward d e some h is =
    ⊎_elim
    (λ s. ⊎_elim (λ l. omega (arith, s.0, s.1, l.1, l.0, h, some, is)) (λ l. omega (arith, s.0, s.1, l.1, l.0, h, some, is)) (low-cases d))
    (λ s. ⊎_elim (λ l. omega (arith, s.0, s.1, l.1, l.0, h, some, is)) (λ l. omega (arith, s.0, s.1, l.1, l.0, h, some, is)) (low-cases d))
    (sign-cases (upper d % 2 ^ 20 * 2 ^ 12))
