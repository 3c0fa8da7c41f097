-- The instructions that load a constant are as many as the constant takes.
use Rattle.std.proofs.Common.{◌≡◌, refl, sym, ap, ◌∙◌, ℕ, zero, suc, ◌+◌, ◌-◌, ◌/◌, ◌%◌, ◌^◌, ◌<◌, ◌≤◌, ⊎_elim, subst, [], ◌∷◌, ◌++◌, length, Bool, true, false, cond, arith}
use Rattle.std.specs.Prelude.{◌==◌, nat_lt, int_div, ◌-ℤ◌, ℤ, pos, negsuc}
use Rattle.std.proofs.lemmas.Bool.{cases_lt, lt-ltb, le-ltb}
use Rattle.std.proofs.lemmas.Int.{ints}
use Rattle.std.proofs.lemmas.List.{length-append}
use Rattle.rj_num.specs.Width.{signed}
use Rattle.rj_num.specs.Constant.{words_within, words_of_constant, words_of_word, has_no_low_part, is_immediate, is_word as is_word_number, high_part as high_part_number}
use Rattle.rv_core.specs.declared.reg.Reg.{Reg}
use Rattle.rv_core.specs.declared.instr.ImmOp.{ImmOp}
use Rattle.rv_core.specs.declared.instr.ImmOp.TheVariants.{Addi, Slli, Addiw}
use Rattle.rv_core.specs.declared.reg.Reg.TheVariants.{X0}
use Rattle.rv_core.specs.declared.instr.Instr.{Instr}
use Rattle.rv_core.specs.declared.instr.Instr.TheVariants.{Imm, Lui}
use Rattle.rv_asm.specs.Constant.{lower, upper, is_twelve, is_word, high_part, const_code, word_code, add_low}
use Rattle.rv_asm.proofs.Constants.{word-false}

positive : (n : ℕ) → n < 2 ^ 63 → signed 64 n ≡ pos n
positive n h = rw (lt-ltb n (2 ^ 63) h)

negated : (n : ℕ) → 2 ^ 63 ≤ n → n < 2 ^ 64 → signed 64 n ≡ negsuc (2 ^ 64 - 1 - n)
negated n h k = rw (le-ltb n (2 ^ 63) h) (below n h k)
  where
    below : (n : ℕ) → 2 ^ 63 ≤ n → n < 2 ^ 64 → pos n -ℤ pos (2 ^ 64) ≡ negsuc (2 ^ 64 - 1 - n)
    below n h k = grind (arith, ints)

-- a fact of numbers with their sign, from the two halves
by-half : (P : ℕ → ℤ → Type 0) → ((n : ℕ) → n < 2 ^ 63 → P n (pos n)) → ((n : ℕ) → 2 ^ 63 ≤ n → n < 2 ^ 64 → P n (negsuc (2 ^ 64 - 1 - n))) → (n : ℕ) → n < 2 ^ 64 → P n (signed 64 n)
by-half P low high n lt = ⊎_elim (λ h. subst (P n) (sym (positive n h)) (low n h)) (λ h. subst (P n) (sym (negated n h lt)) (high n h lt)) (cases_lt n (2 ^ 63))

twelve-is : (n : ℕ) → n < 2 ^ 64 → is_twelve n ≡ is_immediate (signed 64 n)
twelve-is = by-half (λ n v. is_twelve n ≡ is_immediate v) (λ n h. grind (arith, ints)) (λ n h k. grind (arith, ints))

word-is : (n : ℕ) → n < 2 ^ 64 → is_word n ≡ is_word_number (signed 64 n)
word-is = by-half (λ n v. is_word n ≡ is_word_number v) (λ n h. grind (arith, ints)) (λ n h k. grind (arith, ints))

low-is : (n : ℕ) → n < 2 ^ 64 → (n % 4096 == 0) ≡ has_no_low_part (signed 64 n)
low-is = by-half (λ n v. (n % 4096 == 0) ≡ has_no_low_part v) (λ n h. refl) (λ n h k. let e : n % 4096 ≡ 4095 - (2 ^ 64 - 1 - n) % 4096 = omega (arith, h, k) in ap (λ (m : ℕ). m == 0) e)

-- the low twelve bits are taken off, and the rest is divided
cut-on : (n : ℕ) → int_div (pos n -ℤ signed 12 (n % 4096)) (pos 4096) ≡ pos ((n + 2048) / 4096)
cut-on n = grind (arith, ints)

cut-below : (m : ℕ) → 2048 ≤ m → int_div (negsuc m -ℤ signed 12 (4095 - m % 4096)) (pos 4096) ≡ negsuc ((m + 2048) / 4096 - 1)
cut-below m h = grind (arith, ints)

high-is : (n : ℕ) → n < 2 ^ 64 → is_word n ≡ false → signed 64 (high_part n) ≡ high_part_number (signed 64 n)
high-is = by-half (λ n v. is_word n ≡ false → signed 64 (high_part n) ≡ high_part_number v)
    (λ n h w. ap (signed 64) (low n h) ∙ positive ((n + 2048) / 4096) (omega (arith, h)) ∙ sym (cut-on n))
    (λ n h k w.
    let r = word-false n w in
    let m : ℕ = 2 ^ 64 - 1 - n in
    ap (signed 64) (high n h) ∙ negated ((n + 2048) / 4096 + (2 ^ 64 - 2 ^ 52)) (omega (arith, h)) (omega (arith, r.1)) ∙ (let e : 2 ^ 64 - 1 - ((n + 2048) / 4096 + (2 ^ 64 - 2 ^ 52)) ≡ (2 ^ 64 - 1 - n + 2048) / 4096 - 1 = omega (arith, h, k, r.1) in ap negsuc e) ∙ sym (cut-below (2 ^ 64 - 1 - n) (omega (arith, r.1))))
  where
    low : (n : ℕ) → n < 2 ^ 63 → high_part n ≡ (n + 2048) / 4096
    low n h = rw (lt-ltb n (2 ^ 63) h)

    high : (n : ℕ) → 2 ^ 63 ≤ n → high_part n ≡ (n + 2048) / 4096 + (2 ^ 64 - 2 ^ 52)
    high n h = rw (le-ltb n (2 ^ 63) h)

length-low : (op : ImmOp) (rd : Reg) (n : ℕ) → length (add_low op rd n) ≡ cond (n % 4096 == 0) 0 1
length-low op rd n = at (n % 4096 == 0)
  where
    at : (b : Bool) → length (cond b [] (Imm op rd rd (lower n) ∷ [])) ≡ cond b 0 1
    at true = refl
    at false = refl

length-word : (rd : Reg) (n : ℕ) → length (word_code rd n) ≡ cond (is_twelve n) 1 (cond (n % 4096 == 0) 1 2)
length-word rd n = at (is_twelve n) (n % 4096 == 0) (Imm Addi rd X0 (cond (nat_lt n 2048) (pos n) (negsuc (2 ^ 64 - 1 - n)))) (Lui rd (upper n % 2 ^ 20)) (length-low Addiw rd n)
  where
    at : (b c : Bool) (i j : Instr) → length (add_low Addiw rd n) ≡ cond c 0 1 → length (cond b (i ∷ []) (j ∷ add_low Addiw rd n)) ≡ cond b 1 (cond c 1 2)
    at true c i j e = refl
    at false true i j e = ap suc e
    at false false i j e = ap suc e

twelve-word : (n : ℕ) → is_word n ≡ false → is_twelve n ≡ false
twelve-word n w = let r = word-false n w in let a = r.0 in let b = r.1 in grind arith

high-below : (n : ℕ) → n < 2 ^ 64 → is_word n ≡ false → high_part n < 2 ^ 64
high-below n lt w = let r = word-false n w in let b = r.1 in ⊎_elim (λ h. rw (lt-ltb n (2 ^ 63) h) (omega (arith, h))) (λ h. rw (le-ltb n (2 ^ 63) h) (omega (arith, h, b))) (cases_lt n (2 ^ 63))

counted : (k : ℕ) (rd : Reg) (n : ℕ) → n < 2 ^ 64 → length (const_code k rd n) ≡ words_within k (signed 64 n)
counted zero rd n lt =
    length-word rd n ∙ ap (λ (b : Bool). cond b 1 (cond (n % 4096 == 0) 1 2)) (twelve-is n lt) ∙ ap (λ (b : Bool). cond (is_immediate (signed 64 n)) 1 (cond b 1 2)) (low-is n lt)
counted (suc k) rd n lt = by_test (is_word n) refl (λ w. counted k rd (high_part n) (high-below n lt w))
  where
    by_test : (b : Bool) → is_word n ≡ b → (is_word n ≡ false → length (const_code k rd (high_part n)) ≡ words_within k (signed 64 (high_part n))) → length (const_code (suc k) rd n) ≡ words_within (suc k) (signed 64 n)
    by_test true w more =
        ap (λ (b : Bool). length (cond b (word_code rd n) (const_code k rd (high_part n) ++ Imm Slli rd rd (pos 12) ∷ add_low Addi rd n))) w
        ∙ length-word rd n
        ∙ ap (λ (b : Bool). cond b 1 (cond (n % 4096 == 0) 1 2)) (twelve-is n lt)
        ∙ ap (λ (b : Bool). cond (is_immediate (signed 64 n)) 1 (cond b 1 2)) (low-is n lt)
        ∙ ap (λ (b : Bool). cond (is_immediate (signed 64 n)) 1 (cond b (words_of_word (signed 64 n)) (words_within k (high_part_number (signed 64 n)) + 1 + cond (has_no_low_part (signed 64 n)) 0 1))) (sym w ∙ word-is n lt)
    by_test false w more =
        let small : is_immediate (signed 64 n) ≡ false = sym (twelve-is n lt) ∙ twelve-word n w in
        let long : is_word_number (signed 64 n) ≡ false = sym (word-is n lt) ∙ w in
        let rest : words_within k (signed 64 (high_part n)) ≡ words_within k (high_part_number (signed 64 n)) = ap (words_within k) (high-is n lt w) in
        let all : words_within (suc k) (signed 64 n) ≡ words_within k (high_part_number (signed 64 n)) + 1 + cond (has_no_low_part (signed 64 n)) 0 1 = rw (small, long) refl in
        let split = length-append (const_code k rd (high_part n)) (Imm Slli rd rd (pos 12) ∷ add_low Addi rd n) in
        let low : length (add_low Addi rd n) ≡ cond (has_no_low_part (signed 64 n)) 0 1 = length-low Addi rd n ∙ ap (λ (b : Bool). cond b 0 1) (low-is n lt) in
        let first = more w in
        ap (λ (b : Bool). length (cond b (word_code rd n) (const_code k rd (high_part n) ++ Imm Slli rd rd (pos 12) ∷ add_low Addi rd n))) w ∙ omega (arith, split, low, first, rest) ∙ sym all

-- a constant of 64 bits
pub const-counted : (rd : Reg) (n : ℕ) → n < 2 ^ 64 → length (const_code 3 rd n) ≡ words_of_constant n
const-counted rd n lt = counted 3 rd n lt
