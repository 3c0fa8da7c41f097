-- The bytes of an alloca, counted with a size of at most 2^64 - 1.
use Rattle.std.proofs.Common.{◌≡◌, sym, ap, ◌∙◌, ℕ, zero, suc, ◌+◌, ◌-◌, ◌*◌, ◌^◌, ◌<◌, ◌≤◌, ◌⊎◌, inl, inr, Bool, cond, arith, min}
use Rattle.std.proofs.lemmas.Bool.{cases_lt, lt-ltb, le-ltb}
use Rattle.ir_core.specs.declared.types.MemTy.{MemTy}
use Rattle.ir_core.specs.declared.layout.Extent.{Extent}
use Rattle.ir_core.specs.Layout.{size, aligned}
use Rattle.ir_flow.specs.Limits.{capped, measured}
use Rattle.ir_data.proofs.Sizes.{is_measured}
use Rattle.code_pieces.specs.Bytes.{taken_bytes}

-- 2^32 bytes and more are all alike
many-bytes : (bytes : ℕ) → 2 ^ 32 ≤ bytes → taken_bytes bytes ≡ 2 ^ 32
many-bytes bytes le = ap (λ (b : Bool). cond b bytes (2 ^ 32)) (le-ltb bytes (2 ^ 32) le)

some-more : (size count : ℕ) → 2 ^ 64 ≤ size → 1 ≤ count → 2 ^ 64 ≤ size * count
some-more size zero le some = absurd (let bad : ⊥ = omega (arith, some) in bad)
some-more size (suc count) le some = let z : size * suc count ≡ size + size * count = omega arith in omega (arith, z, le)

small-more : (count : ℕ) → 1 ≤ count → 2 ^ 64 - 1 ≤ (2 ^ 64 - 1) * count
small-more count some = omega (arith, some)

bytes-alike : (size own count : ℕ) → own ≡ min size (2 ^ 64 - 1) → taken_bytes (aligned (own * count) 16) ≡ taken_bytes (aligned (size * count) 16)
bytes-alike size own zero e =
    let a : own * 0 ≡ 0 = omega arith in
    let b : size * 0 ≡ 0 = omega arith in
    ap (λ (k : ℕ). taken_bytes (aligned k 16)) a ∙ ap (λ (k : ℕ). taken_bytes (aligned k 16)) (let z : 0 ≡ size * 0 = omega (arith, b) in z)
bytes-alike size own (suc count) e = by_size (cases_lt size (2 ^ 64))
  where
    by_size : (size < 2 ^ 64) ⊎ (2 ^ 64 ≤ size) → taken_bytes (aligned (own * suc count) 16) ≡ taken_bytes (aligned (size * suc count) 16)
    by_size (inl lt) = ap (λ (k : ℕ). taken_bytes (aligned (k * suc count) 16)) (let z : own ≡ size = omega (arith, e, lt) in z)
    by_size (inr le) =
        let is : own ≡ 2 ^ 64 - 1 = omega (arith, e, le) in
        let a = small-more (suc count) (omega arith) in
        let a' : own * suc count ≡ (2 ^ 64 - 1) * suc count = ap (λ (k : ℕ). k * suc count) is in
        let b = some-more size (suc count) le (omega arith) in
        many-bytes (aligned (own * suc count) 16) (omega (arith, a, a')) ∙ (let z : 2 ^ 32 ≡ taken_bytes (aligned (size * suc count) 16) = omega (arith, many-bytes (aligned (size * suc count) 16) (omega (arith, b))) in z)

pub taken-of : (of : MemTy) (own count : ℕ) → own ≡ capped (measured of).extent.size → taken_bytes (aligned (own * count) 16) ≡ taken_bytes (aligned (size of * count) 16)
taken-of of own count e = bytes-alike (size of) own count (e ∙ ap (λ (x : Extent). capped x.size) (is_measured of).0)

-- counted as they are
counted : (of : MemTy) (own count a b : ℕ) → own ≡ capped (measured of).extent.size → a ≡ own → b ≡ count → taken_bytes (aligned (a * b) 16) ≡ taken_bytes (aligned (size of * count) 16)
counted of own count a b e same same' =
    ap (λ (k : ℕ). taken_bytes (aligned (k * b) 16)) same ∙ ap (λ (k : ℕ). taken_bytes (aligned (own * k) 16)) same' ∙ taken-of of own count e

pub few_taken : (of : MemTy) (own count a b : ℕ) → own ≡ capped (measured of).extent.size → a ≡ own → b ≡ count → aligned (a * b) 16 < 2 ^ 32 → aligned (a * b) 16 ≡ taken_bytes (aligned (size of * count) 16)
few_taken of own count a b e same same' lt =
    (let z : aligned (a * b) 16 ≡ taken_bytes (aligned (a * b) 16) = sym (ap (λ (t : Bool). cond t (aligned (a * b) 16) (2 ^ 32)) (lt-ltb (aligned (a * b) 16) (2 ^ 32) lt)) in z) ∙ counted of own count a b e same same'

pub many_taken : (of : MemTy) (own count a b : ℕ) → own ≡ capped (measured of).extent.size → a ≡ own → b ≡ count → 2 ^ 32 ≤ aligned (a * b) 16 → 4294967296 ≡ taken_bytes (aligned (size of * count) 16)
many_taken of own count a b e same same' le = sym (many-bytes (aligned (a * b) 16) le) ∙ counted of own count a b e same same'
