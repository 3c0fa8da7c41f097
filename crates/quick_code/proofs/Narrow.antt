-- Operators of a width up to 64, by operations on 64 bits.
use Rattle.std.proofs.Common.{◌≡◌, ◌≢◌, sym, ap, subst, ◌∙◌, ℕ, ◌+◌, ◌-◌, ◌*◌, ◌/◌, ◌%◌, ◌^◌, ◌<◌, ◌≤◌, ⊎_elim, Bool, false, cond, not, arith, mod-eq_of_lt}
use Rattle.std.specs.Prelude.{◌==◌, ℤ, pos, negsuc, ◌-ℤ◌, int_div, int_rem, int_lt, int_le, unsigned_abs}
use Rattle.std.specs.Int.{w64, cast_signed, int_shr}
use Rattle.std.proofs.lemmas.Bool.{cases_lt, lt-ltb, le-ltb, ne_eqb}
use Rattle.std.proofs.lemmas.Int.{ints}
use Rattle.std.proofs.lemmas.Nat.{pow_pos, pow-add, shl-shr, field_of, mod-pow-add, shl_below, shl_whole, shr_high, mod_low, shr_below, shr_le, shr_split}
use Rattle.rv_core.specs.Step.{modulo, op_value}
use Rattle.rv_core.specs.declared.instr.RegOp.TheVariants.{Sub, Sll, Sra, Srl, Div, Rem, Slt}
use Rattle.rj_num.specs.Width.{is_negative, signed, modulo as wrap}

-- a width, and what is left of 64 bits
abbrev pub IsWidth : ℕ → ℕ → Type 0
IsWidth w k = (1 ≤ w) × (w + k ≡ 64)

amount-is : (w k : ℕ) → IsWidth w k → modulo (pos k) % 64 ≡ k
amount-is w k h = let one = h.0 in let sum = h.1 in omega (arith, one, sum)

-- 2 ^ 64 in its two parts
whole : (w k : ℕ) → w + k ≡ 64 → 2 ^ w * 2 ^ k ≡ 2 ^ 64
whole w k e = sym (pow-add 2 w k) ∙ ap (λ (j : ℕ). 2 ^ j) e

-- up and down again cuts
pub cut-by-shifts : (w k n : ℕ) → IsWidth w k → op_value Srl (op_value Sll n (modulo (pos k))) (modulo (pos k)) ≡ n % 2 ^ w
cut-by-shifts w k n h =
    ap (λ (j : ℕ). (n * 2 ^ j) % 2 ^ 64 / 2 ^ j) (amount-is w k h)
    ∙ ap (λ (j : ℕ). (n * 2 ^ k) % 2 ^ j / 2 ^ k) (sym h.1)
    ∙ field_of (n * 2 ^ k) w k
    ∙ ap (λ (x : ℕ). x % 2 ^ w) (shl-shr n k)

-- a cut forgets a larger one
pub cut-again : (w k n : ℕ) → w + k ≡ 64 → n % 2 ^ 64 % 2 ^ w ≡ n % 2 ^ w
cut-again w k n e =
    let turned : k + w ≡ 64 = omega (arith, e) in
    ap (λ (j : ℕ). n % 2 ^ j % 2 ^ w) (sym turned)
    ∙ ap (λ (x : ℕ). x % 2 ^ w) (mod-pow-add n k w)
    ∙ mod_low (n / 2 ^ w % 2 ^ k) w (n % 2 ^ w) (below n w)
  where
    below : (n w : ℕ) → n % 2 ^ w < 2 ^ w
    below n w = let p = pow_pos w in omega (arith, p)

-- the bits of an integer, cut to a width
pub cut-modulo : (w k : ℕ) (z : ℤ) → w + k ≡ 64 → modulo z % 2 ^ w ≡ wrap w z
cut-modulo w k (pos n) e = cut-again w k n e
cut-modulo w k (negsuc n) e =
    let p = pow_pos w in
    let turned : k + w ≡ 64 = omega (arith, e) in
    let parts : n % 2 ^ 64 ≡ (n / 2 ^ w % 2 ^ k) * 2 ^ w + n % 2 ^ w = ap (λ (j : ℕ). n % 2 ^ j) (sym turned) ∙ mod-pow-add n k w in
    let q : ℕ = n / 2 ^ w % 2 ^ k in
    let r : ℕ = n % 2 ^ w in
    let high : q < 2 ^ k = (let pk = pow_pos k in omega (arith, pk)) in
    let low : r < 2 ^ w = omega (arith, p) in
    let all : 2 ^ k * 2 ^ w ≡ 2 ^ 64 = whole k w turned in
    let rest : 2 ^ 64 - 1 - n % 2 ^ 64 ≡ (2 ^ k - 1 - q) * 2 ^ w + (2 ^ w - 1 - r) = apart (2 ^ k) (2 ^ w) q r (n % 2 ^ 64) (2 ^ 64) high low all parts in
    ap (λ (x : ℕ). x % 2 ^ w) rest ∙ mod_low (2 ^ k - 1 - q) w (2 ^ w - 1 - r) (omega (arith, p))
  where
    apart : (Q W q r m T : ℕ) → q < Q → r < W → Q * W ≡ T → m ≡ q * W + r → T - 1 - m ≡ (Q - 1 - q) * W + (W - 1 - r)
    apart Q W q r m T high low e f =
        let d : ℕ = Q - 1 - q in
        let is : Q ≡ d + q + 1 = omega (arith, high) in
        let product : Q * W ≡ d * W + q * W + W = ap (λ (x : ℕ). x * W) is ∙ omega arith in
        omega (arith, product, e, f, low)

-- ---- numbers with their sign

pub positive : (w n : ℕ) → n < 2 ^ (w - 1) → signed w n ≡ pos n
positive w n h = ap (λ (b : Bool). cond (not b) (pos n -ℤ pos (2 ^ w)) (pos n)) (lt-ltb n (2 ^ (w - 1)) h)

below-zero : (a b : ℕ) → a < b → pos a -ℤ pos b ≡ negsuc (b - a - 1)
below-zero a b h = grind (arith, ints)

pub negative : (w n : ℕ) → 2 ^ (w - 1) ≤ n → n < 2 ^ w → signed w n ≡ negsuc (2 ^ w - n - 1)
negative w n h k = ap (λ (b : Bool). cond (not b) (pos n -ℤ pos (2 ^ w)) (pos n)) (le-ltb n (2 ^ (w - 1)) h) ∙ below-zero n (2 ^ w) k

cast-positive : (n : ℕ) → n < 2 ^ 63 → cast_signed w64 n ≡ pos n
cast-positive n h = grind (arith, ints)

cast-negative : (n : ℕ) → 2 ^ 63 ≤ n → n < 2 ^ 64 → cast_signed w64 n ≡ negsuc (2 ^ 64 - 1 - n)
cast-negative n h k = grind (arith, ints)

-- half of a width
half : (w : ℕ) → 1 ≤ w → 2 ^ (w - 1) * 2 ≡ 2 ^ w
half w h = let e : w - 1 + 1 ≡ w = omega (arith, h) in sym (pow-add 2 (w - 1) 1) ∙ ap (λ (j : ℕ). 2 ^ j) e

-- up and down again with the sign extends it
pub sign-by-shifts : (w k n : ℕ) → IsWidth w k → n < 2 ^ w → op_value Sra (op_value Sll n (modulo (pos k))) (modulo (pos k)) ≡ modulo (signed w n)
sign-by-shifts w k n h lt =
    ap (λ (j : ℕ). modulo (int_shr (cast_signed w64 ((n * 2 ^ j) % 2 ^ 64)) j)) (amount-is w k h)
    ∙ ap (λ (x : ℕ). modulo (int_shr (cast_signed w64 x) k)) (shl_whole n w k 64 lt (let sum = h.1 in omega (arith, sum)))
    ∙ ⊎_elim low high (cases_lt n (2 ^ (w - 1)))
  where
    low : n < 2 ^ (w - 1) → modulo (int_shr (cast_signed w64 (n * 2 ^ k)) k) ≡ modulo (signed w n)
    low l =
        let sum : w - 1 + k ≡ 63 = (let one = h.0 in let all = h.1 in omega (arith, one, all)) in
        let small : n * 2 ^ k < 2 ^ 63 = subst (λ (j : ℕ). n * 2 ^ k < 2 ^ j) sum (shl_below n (w - 1) k l) in
        ap (λ (z : ℤ). modulo (int_shr z k)) (cast-positive (n * 2 ^ k) small) ∙ ap (λ (x : ℕ). modulo (pos x)) (shl-shr n k) ∙ ap modulo (sym (positive w n l))

    high : 2 ^ (w - 1) ≤ n → modulo (int_shr (cast_signed w64 (n * 2 ^ k)) k) ≡ modulo (signed w n)
    high l =
        let sum : w - 1 + k ≡ 63 = (let one = h.0 in let all = h.1 in omega (arith, one, all)) in
        let least : 2 ^ (w - 1) * 2 ^ k ≡ 2 ^ 63 = sym (pow-add 2 (w - 1) k) ∙ ap (λ (j : ℕ). 2 ^ j) sum in
        let p = pow_pos k in
        let great : 2 ^ 63 ≤ n * 2 ^ k = times (2 ^ (w - 1)) n (2 ^ k) (2 ^ 63) l least in
        let small : n * 2 ^ k < 2 ^ 64 = subst (λ (j : ℕ). n * 2 ^ k < 2 ^ j) h.1 (shl_below n w k lt) in
        let all : 2 ^ w * 2 ^ k ≡ 2 ^ 64 = whole w k h.1 in
        let rest : 2 ^ 64 - 1 - n * 2 ^ k ≡ (2 ^ w - n - 1) * 2 ^ k + (2 ^ k - 1) = apart (2 ^ w) (2 ^ k) n (2 ^ 64) lt all p in
        ap (λ (z : ℤ). modulo (int_shr z k)) (cast-negative (n * 2 ^ k) great small)
        ∙ ap (λ (x : ℕ). modulo (negsuc (x / 2 ^ k))) rest
        ∙ ap (λ (x : ℕ). modulo (negsuc x)) (shr_high (2 ^ w - n - 1) k (2 ^ k - 1) (omega (arith, p)))
        ∙ ap modulo (sym (negative w n l lt))
      where
        times : (a b c d : ℕ) → a ≤ b → a * c ≡ d → d ≤ b * c
        times a b c d le e =
            let x : ℕ = b - a in
            let is : b ≡ x + a = omega (arith, le) in
            let product : b * c ≡ x * c + a * c = ap (λ (y : ℕ). y * c) is ∙ omega arith in
            omega (arith, product, e)

        apart : (W P n T : ℕ) → n < W → W * P ≡ T → 0 < P → T - 1 - n * P ≡ (W - n - 1) * P + (P - 1)
        apart W P n T l e p =
            let d : ℕ = W - n - 1 in
            let is : W ≡ d + n + 1 = omega (arith, l) in
            let product : W * P ≡ d * P + n * P + P = ap (λ (x : ℕ). x * P) is ∙ omega arith in
            omega (arith, product, e, p)

-- ---- read back with its sign from 64 bits

-- an integer of 64 bits with its sign
abbrev FitsHere : ℤ → Type 0
FitsHere (pos n) = n < 2 ^ 63
FitsHere (negsuc n) = n < 2 ^ 63

read-back : (z : ℤ) → FitsHere z → cast_signed w64 (modulo z) ≡ z
read-back (pos n) h =
    let e : n % 2 ^ 64 ≡ n = omega (arith, h) in ap (cast_signed w64) e ∙ cast-positive n h
read-back (negsuc n) h =
    let e : 2 ^ 64 - 1 - n % 2 ^ 64 ≡ 2 ^ 64 - 1 - n = omega (arith, h) in
    let back : 2 ^ 64 - 1 - (2 ^ 64 - 1 - n) ≡ n = omega (arith, h) in
    ap (cast_signed w64) e ∙ cast-negative (2 ^ 64 - 1 - n) (omega (arith, h)) (omega (arith, h)) ∙ ap negsuc back

signed-fits : (w k n : ℕ) → IsWidth w k → n < 2 ^ w → FitsHere (signed w n)
signed-fits w k n h lt =
    ⊎_elim
    (λ l. subst FitsHere (sym (positive w n l)) (omega (arith, l, bound)))
    (λ l. subst FitsHere (sym (negative w n l lt)) (let two = half w h.0 in omega (arith, l, bound, two)))
    (cases_lt n (2 ^ (w - 1)))
  where
    bound : 2 ^ (w - 1) ≤ 2 ^ 63
    bound =
        let sum : w - 1 + k ≡ 63 = (let one = h.0 in let all = h.1 in omega (arith, one, all)) in
        let product : 2 ^ (w - 1) * 2 ^ k ≡ 2 ^ 63 = sym (pow-add 2 (w - 1) k) ∙ ap (λ (j : ℕ). 2 ^ j) sum in
        at (2 ^ (w - 1)) (2 ^ k) (2 ^ 63) (pow_pos k) product
      where
        at : (a b c : ℕ) → 0 < b → a * b ≡ c → a ≤ c
        at a b c p e =
            let d : ℕ = b - 1 in
            let is : b ≡ d + 1 = omega (arith, p) in
            let product : a * b ≡ a * d + a = ap (λ (x : ℕ). a * x) is ∙ omega arith in
            omega (arith, product, e)

pub sign-read : (w k n : ℕ) → IsWidth w k → n < 2 ^ w → cast_signed w64 (modulo (signed w n)) ≡ signed w n
sign-read w k n h lt = read-back (signed w n) (signed-fits w k n h lt)

-- 64 bits are their own sign's
pub sign-whole : (n : ℕ) → n < 2 ^ 64 → modulo (signed 64 n) ≡ n
sign-whole n lt =
    ⊎_elim
    (λ l. ap modulo (positive 64 n l) ∙ omega (arith, lt))
    (λ l. ap modulo (negative 64 n l lt) ∙ omega (arith, lt))
    (cases_lt n (2 ^ 63))

-- ---- operators

not-below-zero : (a b : ℕ) → b ≤ a → pos a -ℤ pos b ≡ pos (a - b)
not-below-zero a b h = grind (arith, ints)

difference-below : (W P T a b : ℕ) → W * P ≡ T → 0 < P → a < b → b < W → a + (T - b) ≡ (P - 1) * W + (W - (b - a))
difference-below W P T a b e p l lb =
    let d : ℕ = P - 1 in
    let is : P ≡ d + 1 = omega (arith, p) in
    let product : W * P ≡ d * W + W = ap (λ (x : ℕ). W * x) is ∙ omega arith in
    omega (arith, product, e, l, lb)

pub sub-is : (w k a b : ℕ) → w + k ≡ 64 → a < 2 ^ w → b < 2 ^ w → op_value Sub a b % 2 ^ w ≡ wrap w (pos a -ℤ pos b)
sub-is w k a b e la lb = cut-again w k (a + (2 ^ 64 - b)) e ∙ ⊎_elim low high (cases_lt a b)
  where
    low : a < b → (a + (2 ^ 64 - b)) % 2 ^ w ≡ wrap w (pos a -ℤ pos b)
    low l =
        let rest : a + (2 ^ 64 - b) ≡ (2 ^ k - 1) * 2 ^ w + (2 ^ w - (b - a)) = difference-below (2 ^ w) (2 ^ k) (2 ^ 64) a b (whole w k e) (pow_pos k) l lb in
        let none : (b - a - 1) % 2 ^ w ≡ b - a - 1 = mod-eq_of_lt (let s : b - a - 1 < 2 ^ w = omega (arith, lb) in s) in
        ap (λ (x : ℕ). x % 2 ^ w) rest
        ∙ mod_low (2 ^ k - 1) w (2 ^ w - (b - a)) (omega (arith, l, lb))
        ∙ (let s : 2 ^ w - (b - a) ≡ 2 ^ w - 1 - (b - a - 1) = omega (arith, l, lb) in s)
        ∙ ap (λ (x : ℕ). 2 ^ w - 1 - x) (sym none)
        ∙ ap (wrap w) (sym (below-zero a b l))

    high : b ≤ a → (a + (2 ^ 64 - b)) % 2 ^ w ≡ wrap w (pos a -ℤ pos b)
    high l =
        let turned : k + w ≡ 64 = omega (arith, e) in
        let all : 2 ^ k * 2 ^ w ≡ 2 ^ 64 = whole k w turned in
        let q : 2 ^ w ≤ 2 ^ 64 = part (2 ^ k) (2 ^ w) (2 ^ 64) (pow_pos k) all in
        let rest : a + (2 ^ 64 - b) ≡ 2 ^ k * 2 ^ w + (a - b) = omega (arith, l, all, lb, q) in
        ap (λ (x : ℕ). x % 2 ^ w) rest ∙ mod_low (2 ^ k) w (a - b) (omega (arith, la)) ∙ sym (mod-eq_of_lt (let s : a - b < 2 ^ w = omega (arith, la) in s)) ∙ ap (wrap w) (sym (not-below-zero a b l))
      where
        part : (P W T : ℕ) → 0 < P → P * W ≡ T → W ≤ T
        part P W T p e =
            let d : ℕ = P - 1 in
            let is : P ≡ d + 1 = omega (arith, p) in
            let product : P * W ≡ d * W + W = ap (λ (x : ℕ). x * W) is ∙ omega arith in
            omega (arith, product, e)

-- shifts by less than the width
pub shl-is : (w k a b : ℕ) → IsWidth w k → b < w → op_value Sll a b % 2 ^ w ≡ (a * 2 ^ b) % 2 ^ w
shl-is w k a b h l =
    let sum = h.1 in
    let same : b % 64 ≡ b = omega (arith, l, sum) in
    ap (λ (j : ℕ). (a * 2 ^ j) % 2 ^ 64 % 2 ^ w) same ∙ cut-again w k (a * 2 ^ b) h.1

pub lshr-is : (w k a b : ℕ) → IsWidth w k → b < w → op_value Srl a b ≡ a / 2 ^ b
lshr-is w k a b h l =
    let sum = h.1 in
    let same : b % 64 ≡ b = omega (arith, l, sum) in
    ap (λ (j : ℕ). a / 2 ^ j) same

-- what a number's sign fills in from above
pub ashr-is : (w k a b : ℕ) → IsWidth w k → a < 2 ^ w → b < w → op_value Sra (modulo (signed w a)) b % 2 ^ w ≡ a / 2 ^ b + cond (is_negative w a) (2 ^ w - 2 ^ (w - b)) 0
ashr-is w k a b h la l =
    let sum = h.1 in
    let same : b % 64 ≡ b = omega (arith, l, sum) in
    ap (λ (j : ℕ). modulo (int_shr (cast_signed w64 (modulo (signed w a))) j) % 2 ^ w) same
    ∙ ap (λ (z : ℤ). modulo (int_shr z b) % 2 ^ w) (sign-read w k a h la)
    ∙ cut-modulo w k (int_shr (signed w a) b) h.1
    ∙ ⊎_elim low high (cases_lt a (2 ^ (w - 1)))
  where
    low : a < 2 ^ (w - 1) → wrap w (int_shr (signed w a) b) ≡ a / 2 ^ b + cond (is_negative w a) (2 ^ w - 2 ^ (w - b)) 0
    low n =
        let less : a / 2 ^ b < 2 ^ w = (let d = shr_le a b in omega (arith, d, la)) in
        ap (λ (z : ℤ). wrap w (int_shr z b)) (positive w a n) ∙ mod-eq_of_lt less
        ∙ (let z : a / 2 ^ b ≡ a / 2 ^ b + 0 = omega arith in z)
        ∙ ap (λ (c : Bool). a / 2 ^ b + cond (not c) (2 ^ w - 2 ^ (w - b)) 0) (sym (lt-ltb a (2 ^ (w - 1)) n))

    high : 2 ^ (w - 1) ≤ a → wrap w (int_shr (signed w a) b) ≡ a / 2 ^ b + cond (is_negative w a) (2 ^ w - 2 ^ (w - b)) 0
    high n =
        let p = pow_pos b in
        let q : ℕ = a / 2 ^ b in
        let parts : 2 ^ (w - b) * 2 ^ b ≡ 2 ^ w = whole-of (w - b) b w (omega (arith, l)) in
        let split : q * 2 ^ b + a % 2 ^ b ≡ a = shr_split a b in
        let small : q < 2 ^ (w - b) = shr_below a (w - b) b (let e : w - b + b ≡ w = omega (arith, l) in subst (λ (j : ℕ). a < 2 ^ j) (sym e) la) in
        let rest : a % 2 ^ b < 2 ^ b = omega (arith, p) in
        let cut : 2 ^ w - a - 1 ≡ (2 ^ (w - b) - 1 - q) * 2 ^ b + (2 ^ b - 1 - a % 2 ^ b) = apart (2 ^ (w - b)) (2 ^ b) q (a % 2 ^ b) a (2 ^ w) small rest parts split in
        let shifted : (2 ^ w - a - 1) / 2 ^ b ≡ 2 ^ (w - b) - 1 - q = ap (λ (x : ℕ). x / 2 ^ b) cut ∙ shr_high (2 ^ (w - b) - 1 - q) b (2 ^ b - 1 - a % 2 ^ b) (omega (arith, p)) in
        let within : 2 ^ (w - b) ≤ 2 ^ w = part (2 ^ (w - b)) (2 ^ b) (2 ^ w) p parts in
        let none : (2 ^ (w - b) - 1 - q) % 2 ^ w ≡ 2 ^ (w - b) - 1 - q = mod-eq_of_lt (let s : 2 ^ (w - b) - 1 - q < 2 ^ w = (let g = pow_pos (w - b) in omega (arith, within, g)) in s) in
        ap (λ (z : ℤ). wrap w (int_shr z b)) (negative w a n la)
        ∙ ap (λ (x : ℕ). 2 ^ w - 1 - x % 2 ^ w) shifted
        ∙ ap (λ (x : ℕ). 2 ^ w - 1 - x) none
        ∙ (let s : 2 ^ w - 1 - (2 ^ (w - b) - 1 - q) ≡ q + (2 ^ w - 2 ^ (w - b)) = omega (arith, small, within) in s)
        ∙ ap (λ (c : Bool). q + cond (not c) (2 ^ w - 2 ^ (w - b)) 0) (sym (le-ltb a (2 ^ (w - 1)) n))
      where
        whole-of : (i j n : ℕ) → i + j ≡ n → 2 ^ i * 2 ^ j ≡ 2 ^ n
        whole-of i j n e = sym (pow-add 2 i j) ∙ ap (λ (m : ℕ). 2 ^ m) e

        part : (Q P T : ℕ) → 0 < P → Q * P ≡ T → Q ≤ T
        part Q P T p e =
            let d : ℕ = P - 1 in
            let is : P ≡ d + 1 = omega (arith, p) in
            let product : Q * P ≡ Q * d + Q = ap (λ (x : ℕ). Q * x) is ∙ omega arith in
            omega (arith, product, e)

        apart : (Q P q r a T : ℕ) → q < Q → r < P → Q * P ≡ T → q * P + r ≡ a → T - a - 1 ≡ (Q - 1 - q) * P + (P - 1 - r)
        apart Q P q r a T high low e f =
            let d : ℕ = Q - 1 - q in
            let is : Q ≡ d + q + 1 = omega (arith, high) in
            let product : Q * P ≡ d * P + q * P + P = ap (λ (x : ℕ). x * P) is ∙ omega arith in
            omega (arith, product, e, f, low)

-- quotients and remainders with their signs
zero-is : (w k n : ℕ) → IsWidth w k → n < 2 ^ w → modulo (signed w n) ≡ 0 → n ≡ 0
zero-is w k n h lt e =
    let none : signed w n ≡ pos 0 = sym (sign-read w k n h lt) ∙ ap (cast_signed w64) e in
    ⊎_elim
    (λ l. ap unsigned_abs (sym (positive w n l) ∙ none))
    (λ l. absurd (let bad : negsuc (2 ^ w - n - 1) ≡ pos 0 = sym (negative w n l lt) ∙ none in cc))
    (cases_lt n (2 ^ (w - 1)))

divides : (w k n : ℕ) → IsWidth w k → n < 2 ^ w → n ≢ 0 → (modulo (signed w n) == 0) ≡ false
divides w k n h lt some = ne_eqb (modulo (signed w n)) 0 (λ e. some (zero-is w k n h lt e))

pub sdiv-is : (w k a b : ℕ) → IsWidth w k → a < 2 ^ w → b < 2 ^ w → b ≢ 0 → op_value Div (modulo (signed w a)) (modulo (signed w b)) % 2 ^ w ≡ wrap w (int_div (signed w a) (signed w b))
sdiv-is w k a b h la lb some =
    ap (λ (c : Bool). modulo (cond c (negsuc 0) (int_div (cast_signed w64 (modulo (signed w a))) (cast_signed w64 (modulo (signed w b))))) % 2 ^ w) (divides w k b h lb some)
    ∙ ap (λ (z : ℤ). modulo (int_div z (cast_signed w64 (modulo (signed w b)))) % 2 ^ w) (sign-read w k a h la)
    ∙ ap (λ (z : ℤ). modulo (int_div (signed w a) z) % 2 ^ w) (sign-read w k b h lb)
    ∙ cut-modulo w k (int_div (signed w a) (signed w b)) h.1

pub srem-is : (w k a b : ℕ) → IsWidth w k → a < 2 ^ w → b < 2 ^ w → b ≢ 0 → op_value Rem (modulo (signed w a)) (modulo (signed w b)) % 2 ^ w ≡ wrap w (int_rem (signed w a) (signed w b))
srem-is w k a b h la lb some =
    ap (λ (c : Bool). modulo (cond c (cast_signed w64 (modulo (signed w a))) (int_rem (cast_signed w64 (modulo (signed w a))) (cast_signed w64 (modulo (signed w b))))) % 2 ^ w) (divides w k b h lb some)
    ∙ ap (λ (z : ℤ). modulo (int_rem z (cast_signed w64 (modulo (signed w b)))) % 2 ^ w) (sign-read w k a h la)
    ∙ ap (λ (z : ℤ). modulo (int_rem (signed w a) z) % 2 ^ w) (sign-read w k b h lb)
    ∙ cut-modulo w k (int_rem (signed w a) (signed w b)) h.1

-- comparisons with their signs
pub slt-is : (w k a b : ℕ) → IsWidth w k → a < 2 ^ w → b < 2 ^ w → op_value Slt (modulo (signed w a)) (modulo (signed w b)) ≡ cond (int_lt (signed w a) (signed w b)) 1 0
slt-is w k a b h la lb =
    ap (λ (z : ℤ). cond (int_lt z (cast_signed w64 (modulo (signed w b)))) 1 0) (sign-read w k a h la)
    ∙ ap (λ (z : ℤ). cond (int_lt (signed w a) z) 1 0) (sign-read w k b h lb)

pub turned-order : (x y : ℤ) → int_le x y ≡ not (int_lt y x)
turned-order (pos m) (pos n) = grind (arith, ints)
turned-order (pos m) (negsuc n) = grind (arith, ints)
turned-order (negsuc m) (pos n) = grind (arith, ints)
turned-order (negsuc m) (negsuc n) = grind (arith, ints)
