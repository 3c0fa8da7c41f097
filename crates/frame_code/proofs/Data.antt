-- What is loaded from data memory and stored in it, bit by bit.
use Rattle.std.proofs.Common.{◌≡◌, refl, sym, ap, subst, ◌∙◌, ℕ, zero, suc, ◌+◌, ◌-◌, ◌*◌, ◌/◌, ◌%◌, ◌^◌, ◌<◌, ◌≤◌, ◌⊎◌, inl, inr, Bool, true, false, cond, not, List, [], ◌∷◌, ◌++◌, length, Option, Some, None, arith}
use Rattle.std.proofs.Math.Nat.{pow-succ', div-div-eq-div-mul}
use Rattle.std.specs.Prelude.{◌==◌, nat_lt, pos, negsuc, take, drop, slice_get, slice_index_or, if◌then◌else◌}
use Rattle.std.specs.Int.{w8, w16, w32, cast_signed}
use Rattle.std.proofs.lemmas.Bool.{cases_lt, ltb-true, ltb-false, lt-ltb, le-ltb}
use Rattle.std.proofs.lemmas.Int.{ints}
use Rattle.std.proofs.lemmas.List.{length-append, length-take-le}
use Rattle.rv_core.specs.declared.instr.LoadOp.{LoadOp}
use Rattle.rv_core.specs.declared.instr.LoadOp.TheVariants.{Lb, Lh, Lw, Ld, Lbu, Lhu, Lwu}
use Rattle.rv_core.specs.Bytes.{load_bytes, store_bytes}
use Rattle.rv_core.specs.Step.{modulo}
use Rattle.rv_core.proofs.Bytes.{store_inside, store_outside}
use Rattle.ir_meaning.specs.Value.{Byte}
use Rattle.ir_meaning.specs.Memory.{Memory, is_inside, bytes_at, with_bytes}
use Rattle.ir_meaning.proofs.Lengths.{inside-bounds}
use Rattle.rv_play.specs.Machine.{data_base, extended}
use Rattle.rv_play.specs.Good.{IsBytes, RefinesMemory}
use Rattle.rv_play.proofs.Fits.{extended_below}
use Rattle.walks.specs.Walk.{Bits}
use Rattle.walks.specs.Bits.{bit_of, cut, constant, number, zero_extended, sign_extended}
use Rattle.walks.specs.Bytes.{byte_bit, bits_of_bytes, bytes_of_bits}
use Rattle.walks.proofs.Numbers.{number_known, same_number}
use Rattle.mir_play.specs.Values.{load_size, extended as extended_bits}
use Rattle.mir_play.specs.Machine.{IsHeld}
use Rattle.mir_play.proofs.Numbers.{bit_below_cut, right_of, above_of, not_of}
use Rattle.code_pieces.proofs.Memories.{get-front, get-back, get-take, get-drop}

-- ---- the bits of what is loaded

pub load-below : (f : ℕ → ℕ) (a n : ℕ) → IsBytes f → load_bytes f a n < 256 ^ n
load-below f a zero h = omega arith
load-below f a (suc n) h =
    let rest = load-below f (a + 1) n h in
    let byte = h a in
    let power : 256 ^ suc n ≡ 256 * 256 ^ n = pow-succ' 256 n in
    omega (arith, rest, byte, power)

-- bit k of byte j
loaded-bit : (f : ℕ → ℕ) (a n j k : ℕ) → IsBytes f → j < n → k < 8 → bit_of (load_bytes f a n) (8 * j + k) ≡ bit_of (f (a + j)) k
loaded-bit f a zero j k h lt small = absurd (let bad : ⊥ = omega (arith, lt) in bad)
loaded-bit f a (suc n) zero k h lt small =
    let byte = h a in
    let more = load_bytes f (a + 1) n in
    let low : (f a + 256 * more) % 2 ^ 8 ≡ f a = omega (arith, byte) in
    let at : 8 * 0 + k ≡ k = omega arith in
    let here : f a ≡ f (a + 0) = ap f (let z : a ≡ a + 0 = omega arith in z) in
    ap (bit_of (f a + 256 * more)) at ∙ sym (bit_below_cut (f a + 256 * more) 8 k small) ∙ ap (λ (n : ℕ). bit_of n k) (low ∙ here)
loaded-bit f a (suc n) (suc j) k h lt small =
    let byte = h a in
    let more = load_bytes f (a + 1) n in
    let high : (f a + 256 * more) / 2 ^ 8 ≡ more = omega (arith, byte) in
    let at : 8 * suc j + k ≡ 8 * j + k + 8 = omega arith in
    let there : a + 1 + j ≡ a + suc j = omega arith in
    ap (bit_of (f a + 256 * more)) at ∙ sym (right_of (f a + 256 * more) 8 (8 * j + k)) ∙ ap (λ (n : ℕ). bit_of n (8 * j + k)) high
    ∙ loaded-bit f (a + 1) n j k h (omega (arith, lt)) small ∙ ap (λ (x : ℕ). bit_of (f x) k) there

-- each known bit is one of the number's
abbrev pub AreBits : Bits → ℕ → Type 0
AreBits a n = (i : ℕ) (bit : Bool) → a i ≡ Some bit → bit_of n i ≡ bit

index-byte : (xs : List Byte) (j b : ℕ) → slice_index_or xs j None ≡ Some b → slice_get xs j ≡ Some (Some b)
index-byte [] j b e = absurd (let bad : ⊥ = cc in bad)
index-byte (x ∷ xs) zero b e = ap (λ (y : Byte). Some y) e
index-byte (x ∷ xs) (suc j) b e = index-byte xs j b e

get-below : (xs : List Byte) (j : ℕ) (b : Byte) → slice_get xs j ≡ Some b → j < length xs
get-below [] j b e = absurd (let bad : ⊥ = cc in bad)
get-below (x ∷ xs) zero b e = omega arith
get-below (x ∷ xs) (suc j) b e = let lt = get-below xs j b e in omega (arith, lt)

take-few : (n : ℕ) (xs : List Byte) → length (take n xs) ≤ n
take-few zero [] = omega arith
take-few zero (x ∷ xs) = omega arith
take-few (suc n) [] = omega arith
take-few (suc n) (x ∷ xs) = let le = take-few n xs in omega (arith, le)

module _ (memory : Memory) (f : ℕ → ℕ) (at count : ℕ) (low : data_base ≤ at) (refines : RefinesMemory memory f) (bytes : IsBytes f) where
  pub loaded-are : AreBits (bits_of_bytes (bytes_at memory at count)) (load_bytes f at count)
  loaded-are i bit e = by_byte (slice_index_or (bytes_at memory at count) (i / 8) None) refl e
    where
      by_byte : (o : Byte) → slice_index_or (bytes_at memory at count) (i / 8) None ≡ o → byte_bit o (i % 8) ≡ Some bit → bit_of (load_bytes f at count) i ≡ bit
      by_byte None e is = absurd (let bad : ⊥ = cc in bad)
      by_byte (Some b) e is =
          let got = index-byte (bytes_at memory at count) (i / 8) b e in
          let few = get-below (bytes_at memory at count) (i / 8) (Some b) got in
          let long = take-few count (drop (at - data_base) memory) in
          let lt : i / 8 < count = omega (arith, few, long) in
          let there : slice_get memory (at - data_base + i / 8) ≡ Some (Some b) = sym (get-drop memory (at - data_base) (i / 8)) ∙ sym (get-take (drop (at - data_base) memory) count (i / 8) lt) ∙ got in
          let where' : data_base + (at - data_base + i / 8) ≡ at + i / 8 = omega (arith, low) in
          let byte : f (at + i / 8) ≡ b = ap f (sym where') ∙ refines (at - data_base + i / 8) b there in
          let whole : i ≡ 8 * (i / 8) + i % 8 = omega arith in
          let known : bit_of b (i % 8) ≡ bit = cc in
          ap (bit_of (load_bytes f at count)) whole ∙ loaded-bit f at count (i / 8) (i % 8) bytes lt (omega arith) ∙ ap (λ (n : ℕ). bit_of n (i % 8)) byte ∙ known

-- ---- the bits of a register that is loaded

IsWide : ℕ → Bits → ℕ → Type 0
IsWide w a n = AreBits a n × (n < 2 ^ w)

none-known : {A : Type 0} (bit : Bool) → None ≡ Some bit → A
none-known bit e = absurd (let bad : ⊥ = cc in bad)

-- cut to 64 bits
cut-are : (a : Bits) (n : ℕ) → AreBits a n → (i : ℕ) (bit : Bool) → cut 64 a i ≡ Some bit → constant 64 n i ≡ Some bit
cut-are a n h i bit e = by_test (nat_lt i 64) e
  where
    by_test : (b : Bool) → cond b (a i) None ≡ Some bit → cond b (Some (bit_of n i)) None ≡ Some bit
    by_test true e = ap Some (h i bit e)
    by_test false e = none-known bit e

-- with zeros above
zeros-are : (w : ℕ) (a : Bits) (n : ℕ) → AreBits a n → n < 2 ^ w → (i : ℕ) (bit : Bool) → zero_extended w 64 a i ≡ Some bit → constant 64 n i ≡ Some bit
zeros-are w a n h low i bit e = by_test (nat_lt i 64) e
  where
    by_width : (c : Bool) → nat_lt i w ≡ c → cond c (a i) (Some false) ≡ Some bit → bit_of n i ≡ bit
    by_width true t e = h i bit e
    by_width false t e = above_of n w i low (ltb-false i w t) ∙ (let same : false ≡ bit = cc in same)

    by_test : (b : Bool) → cond b (cond (nat_lt i w) (a i) (Some false)) None ≡ Some bit → cond b (Some (bit_of n i)) None ≡ Some bit
    by_test true e = ap Some (by_width (nat_lt i w) refl e)
    by_test false e = none-known bit e

-- a number of w bits, and what it is as 64 bits with its sign
record Signs (w n k : ℕ) : Type 0 where
  inside : (i : ℕ) → i < w → bit_of k i ≡ bit_of n i
  above : (i : ℕ) → w ≤ i → i < 64 → bit_of k i ≡ bit_of n (w - 1)

signs-are : (w : ℕ) (a : Bits) (n k : ℕ) → AreBits a n → Signs w n k → (i : ℕ) (bit : Bool) → sign_extended w 64 a i ≡ Some bit → constant 64 k i ≡ Some bit
signs-are w a n k h signs i bit e = by_test (nat_lt i 64) refl e
  where
    by_width : (c : Bool) → nat_lt i w ≡ c → i < 64 → cond c (a i) (a (w - 1)) ≡ Some bit → bit_of k i ≡ bit
    by_width true t lt e = signs.inside i (ltb-true i w t) ∙ h i bit e
    by_width false t lt e = signs.above i (ltb-false i w t) lt ∙ h (w - 1) bit e

    by_test : (b : Bool) → nat_lt i 64 ≡ b → cond b (cond (nat_lt i w) (a i) (a (w - 1))) None ≡ Some bit → cond b (Some (bit_of k i)) None ≡ Some bit
    by_test true t e = ap Some (by_width (nat_lt i w) refl (ltb-true i 64 t) e)
    by_test false t e = none-known bit e

abbrev Turned : ℕ → ℕ → ℕ → Type 0
Turned w n k = ((n < 2 ^ (w - 1)) × (k ≡ n)) ⊎ ((2 ^ (w - 1) ≤ n) × (k ≡ n + (2 ^ 64 - 2 ^ w)))

-- of a number without a sign
signs-low : (w n k : ℕ) → 1 ≤ w → n < 2 ^ (w - 1) → k ≡ n → Signs w n k
signs-low w n k some low same = record {
  inside = λ i lt. ap (λ (x : ℕ). bit_of x i) same;
  above = λ i le lt. ap (λ (x : ℕ). bit_of x i) same ∙ above_of n (w - 1) i low (omega (arith, le)) ∙ sym (above_of n (w - 1) (w - 1) low (omega arith));
}

-- of one with a sign: whatever is known of the width is told
signs-high : (w n k rest : ℕ) → bit_of n (w - 1) ≡ true → k % 2 ^ w ≡ n % 2 ^ w → k ≡ 2 ^ 64 - 1 - rest → rest < 2 ^ w → rest < 2 ^ 64 → Signs w n k
signs-high w n k rest one low is few small = record {
  inside = λ i lt. sym (bit_below_cut k w i lt) ∙ ap (λ (x : ℕ). bit_of x i) low ∙ bit_below_cut n w i lt;
  above = λ i le lt. ap (λ (x : ℕ). bit_of x i) is ∙ not_of rest i small lt ∙ ap not (above_of rest w i few le) ∙ sym one;
}

signed-byte : (n : ℕ) → n < 2 ^ 8 → Signs 8 n (modulo (cast_signed w8 n))
signed-byte n low = by_order (cases_lt n (2 ^ 7))
  where
    positive : n < 2 ^ 7 → cast_signed w8 n ≡ pos n
    positive h = grind (arith, ints)

    negated : 2 ^ 7 ≤ n → cast_signed w8 n ≡ negsuc (2 ^ 8 - 1 - n)
    negated h = let l = low in grind (arith, ints)

    by_order : (n < 2 ^ 7) ⊎ (2 ^ 7 ≤ n) → Signs 8 n (modulo (cast_signed w8 n))
    by_order (inl h) = signs-low 8 n (modulo (cast_signed w8 n)) (omega arith) h (ap modulo (positive h) ∙ (let z : modulo (pos n) ≡ n = omega (arith, h) in z))
    by_order (inr h) =
        let is : modulo (cast_signed w8 n) ≡ n + (2 ^ 64 - 2 ^ 8) = ap modulo (negated h) ∙ (let z : modulo (negsuc (2 ^ 8 - 1 - n)) ≡ n + (2 ^ 64 - 2 ^ 8) = omega (arith, h, low) in z) in
        let half : n / 2 ^ 7 % 2 ≡ 1 = omega (arith, h, low) in
        signs-high 8 n (modulo (cast_signed w8 n)) (2 ^ 8 - 1 - n) (ap (λ (x : ℕ). x == 1) half) (omega (arith, is)) (omega (arith, is, low)) (omega arith) (omega arith)

signed-half : (n : ℕ) → n < 2 ^ 16 → Signs 16 n (modulo (cast_signed w16 n))
signed-half n low = by_order (cases_lt n (2 ^ 15))
  where
    positive : n < 2 ^ 15 → cast_signed w16 n ≡ pos n
    positive h = grind (arith, ints)

    negated : 2 ^ 15 ≤ n → cast_signed w16 n ≡ negsuc (2 ^ 16 - 1 - n)
    negated h = let l = low in grind (arith, ints)

    by_order : (n < 2 ^ 15) ⊎ (2 ^ 15 ≤ n) → Signs 16 n (modulo (cast_signed w16 n))
    by_order (inl h) = signs-low 16 n (modulo (cast_signed w16 n)) (omega arith) h (ap modulo (positive h) ∙ (let z : modulo (pos n) ≡ n = omega (arith, h) in z))
    by_order (inr h) =
        let is : modulo (cast_signed w16 n) ≡ n + (2 ^ 64 - 2 ^ 16) = ap modulo (negated h) ∙ (let z : modulo (negsuc (2 ^ 16 - 1 - n)) ≡ n + (2 ^ 64 - 2 ^ 16) = omega (arith, h, low) in z) in
        let half : n / 2 ^ 15 % 2 ≡ 1 = omega (arith, h, low) in
        signs-high 16 n (modulo (cast_signed w16 n)) (2 ^ 16 - 1 - n) (ap (λ (x : ℕ). x == 1) half) (omega (arith, is)) (omega (arith, is, low)) (omega arith) (omega arith)

signed-word : (n : ℕ) → n < 2 ^ 32 → Signs 32 n (modulo (cast_signed w32 n))
signed-word n low = by_order (cases_lt n (2 ^ 31))
  where
    positive : n < 2 ^ 31 → cast_signed w32 n ≡ pos n
    positive h = grind (arith, ints)

    negated : 2 ^ 31 ≤ n → cast_signed w32 n ≡ negsuc (2 ^ 32 - 1 - n)
    negated h = let l = low in grind (arith, ints)

    by_order : (n < 2 ^ 31) ⊎ (2 ^ 31 ≤ n) → Signs 32 n (modulo (cast_signed w32 n))
    by_order (inl h) = signs-low 32 n (modulo (cast_signed w32 n)) (omega arith) h (ap modulo (positive h) ∙ (let z : modulo (pos n) ≡ n = omega (arith, h) in z))
    by_order (inr h) =
        let is : modulo (cast_signed w32 n) ≡ n + (2 ^ 64 - 2 ^ 32) = ap modulo (negated h) ∙ (let z : modulo (negsuc (2 ^ 32 - 1 - n)) ≡ n + (2 ^ 64 - 2 ^ 32) = omega (arith, h, low) in z) in
        let half : n / 2 ^ 31 % 2 ≡ 1 = omega (arith, h, low) in
        signs-high 32 n (modulo (cast_signed w32 n)) (2 ^ 32 - 1 - n) (ap (λ (x : ℕ). x == 1) half) (omega (arith, is)) (omega (arith, is, low)) (omega arith) (omega arith)

extended-are : (op : LoadOp) (a : Bits) (n : ℕ) → AreBits a n → n < 256 ^ load_size op → (i : ℕ) (bit : Bool) → extended_bits op a i ≡ Some bit → constant 64 (extended op n) i ≡ Some bit
extended-are Lb a n h low = signs-are 8 a n (extended Lb n) h (signed-byte n (omega (arith, low)))
extended-are Lh a n h low = signs-are 16 a n (extended Lh n) h (signed-half n (omega (arith, low)))
extended-are Lw a n h low = signs-are 32 a n (extended Lw n) h (signed-word n (omega (arith, low)))
extended-are Ld a n h low = cut-are a n h
extended-are Lbu a n h low = zeros-are 8 a n h (omega (arith, low))
extended-are Lhu a n h low = zeros-are 16 a n h (omega (arith, low))
extended-are Lwu a n h low = zeros-are 32 a n h (omega (arith, low))

size-same : (op : LoadOp) → load_size op ≡ Rattle.rv_play.specs.Machine.load_size op
size-same Lb = refl
size-same Lh = refl
size-same Lw = refl
size-same Ld = refl
size-same Lbu = refl
size-same Lhu = refl
size-same Lwu = refl

-- what is loaded into a register
pub loaded-held : (op : LoadOp) (memory : Memory) (f : ℕ → ℕ) (at : ℕ) → is_inside memory at (load_size op) ≡ true → RefinesMemory memory f → IsBytes f
    → IsHeld (extended_bits op (bits_of_bytes (bytes_at memory at (load_size op)))) (extended op (load_bytes f at (load_size op)))
loaded-held op memory f at inside refines bytes =
    let n = load_bytes f at (load_size op) in
    let low = load-below f at (load_size op) bytes in
    record {
      low = extended_below op n (subst (λ (k : ℕ). n < 256 ^ k) (size-same op) low);
      bits = extended-are op (bits_of_bytes (bytes_at memory at (load_size op))) n (loaded-are memory f at (load_size op) (inside-bounds memory at (load_size op) inside).0 refines bytes) low;
    }

-- ---- the bytes of what is stored

pub stored-long : (n : ℕ) (a : Bits) → length (bytes_of_bits n a) ≡ n
stored-long zero a = refl
stored-long (suc n) a = ap suc (stored-long n (λ i. a (i + 8)))

low-byte : (a : Bits) (v b : ℕ) → AreBits a v → number 8 a ≡ Some b → v % 256 ≡ b
low-byte a v b h e =
    let known = number_known 8 a b e in
    let low = known.low in
    let same : v % 2 ^ 8 ≡ b % 2 ^ 8 = same_number 8 v b (λ i lt. h i (bit_of b i) (known.bits i lt)) in
    omega (arith, same, low)

stored-byte : (n : ℕ) (a : Bits) (v j b : ℕ) → AreBits a v → slice_get (bytes_of_bits n a) j ≡ Some (Some b) → v / 256 ^ j % 256 ≡ b
stored-byte zero a v j b h e = absurd (let bad : ⊥ = cc in bad)
stored-byte (suc n) a v zero b h e =
    let here : number 8 a ≡ Some b = cc in
    let one : v / 256 ^ 0 ≡ v = omega arith in
    ap (λ (x : ℕ). x % 256) one ∙ low-byte a v b h here
stored-byte (suc n) a v (suc j) b h e =
    let more : AreBits (λ i. a (i + 8)) (v / 256) = λ i bit known. right_of v 8 i ∙ h (i + 8) bit known in
    let rest = stored-byte n (λ i. a (i + 8)) (v / 256) j b more e in
    let twice : v / 256 / 256 ^ j ≡ v / (256 * 256 ^ j) = div-div-eq-div-mul v 256 (256 ^ j) in
    let power : 256 ^ suc j ≡ 256 * 256 ^ j = pow-succ' 256 j in
    ap (λ (x : ℕ). v / x % 256) power ∙ ap (λ (x : ℕ). x % 256) (sym twice) ∙ rest

held-bits : (a : Bits) (v : ℕ) → IsHeld a v → AreBits a v
held-bits a v h i bit e = by_test (nat_lt i 64) (h.bits i bit e)
  where
    by_test : (b : Bool) → cond b (Some (bit_of v i)) None ≡ Some bit → bit_of v i ≡ bit
    by_test true e = let same : bit_of v i ≡ bit = cc in same
    by_test false e = none-known bit e

-- a memory with bytes at an address: where each byte comes from
module _ (memory : Memory) (t : ℕ) (bytes : List Byte) (low : data_base ≤ t) (high : t + length bytes ≤ data_base + length memory) where
  front : length (take (t - data_base) memory) ≡ t - data_base
  front = length-take-le (t - data_base) memory (let h = high in let l = low in omega (arith, h, l))

  both : length (take (t - data_base) memory ++ bytes) ≡ t - data_base + length bytes
  both = let x = front in let y = length-append (take (t - data_base) memory) bytes in omega (arith, x, y)

  abbrev back : Memory
  back = drop (t - data_base + length bytes) memory

  got : (i : ℕ) (y : Byte) → slice_get (with_bytes memory t bytes) i ≡ Some y
      → (((i < t - data_base) ⊎ (t - data_base + length bytes ≤ i)) × (slice_get memory i ≡ Some y)) ⊎ ((t - data_base ≤ i) × (i < t - data_base + length bytes) × (slice_get bytes (i - (t - data_base)) ≡ Some y))
  got i y e = by_place (cases_lt i (t - data_base)) (cases_lt i (t - data_base + length bytes))
    where
      by_place : (i < t - data_base) ⊎ (t - data_base ≤ i) → (i < t - data_base + length bytes) ⊎ (t - data_base + length bytes ≤ i)
          → (((i < t - data_base) ⊎ (t - data_base + length bytes ≤ i)) × (slice_get memory i ≡ Some y)) ⊎ ((t - data_base ≤ i) × (i < t - data_base + length bytes) × (slice_get bytes (i - (t - data_base)) ≡ Some y))
      by_place (inl lt) z =
          let x = front in let y' = both in
          inl (inl lt, sym (get-take memory (t - data_base) i lt) ∙ sym (get-front (take (t - data_base) memory) bytes i (omega (arith, lt, x))) ∙ sym (get-front (take (t - data_base) memory ++ bytes) back i (omega (arith, lt, y'))) ∙ e)
      by_place (inr le) (inl lt) =
          let x = front in let y' = both in
          inr (le, lt, sym (get-back (take (t - data_base) memory) bytes i (i - (t - data_base)) (omega (arith, le, x))) ∙ sym (get-front (take (t - data_base) memory ++ bytes) back i (omega (arith, lt, y'))) ∙ e)
      by_place (inr le) (inr past) =
          let y' = both in
          let k = i - (t - data_base + length bytes) in
          let at : t - data_base + length bytes + (i - (t - data_base + length bytes)) ≡ i = omega (arith, past) in
          inl (inr past, ap (slice_get memory) (sym at) ∙ sym (get-drop memory (t - data_base + length bytes) k) ∙ sym (get-back (take (t - data_base) memory ++ bytes) back i k (omega (arith, y', past))) ∙ e)

-- what a store leaves stands for the memory behind it
pub store-held : (memory : Memory) (f : ℕ → ℕ) (t n v : ℕ) (a : Bits) → is_inside memory t n ≡ true → RefinesMemory memory f → IsHeld a v → RefinesMemory (with_bytes memory t (bytes_of_bits n a)) (store_bytes f t n v)
store-held memory f t n v a inside refines held i b e =
    let bounds = inside-bounds memory t n inside in
    let low = bounds.0 in let high = bounds.1 in let long = stored-long n a in
    by_case low high long (got memory t (bytes_of_bits n a) low (omega (arith, high, long)) i (Some b) e)
  where
    by_case : data_base ≤ t → t + n ≤ data_base + length memory → length (bytes_of_bits n a) ≡ n
        → (((i < t - data_base) ⊎ (t - data_base + length (bytes_of_bits n a) ≤ i)) × (slice_get memory i ≡ Some (Some b)))
        ⊎ ((t - data_base ≤ i) × (i < t - data_base + length (bytes_of_bits n a)) × (slice_get (bytes_of_bits n a) (i - (t - data_base)) ≡ Some (Some b)))
        → store_bytes f t n v (data_base + i) ≡ b
    by_case low high long (inl (inl lt, got)) = store_outside f t n v (data_base + i) (inl (omega (arith, lt, low))) ∙ refines i b got
    by_case low high long (inl (inr past, got)) = store_outside f t n v (data_base + i) (inr (omega (arith, past, low, long))) ∙ refines i b got
    by_case low high long (inr (le, lt, got)) =
        let at : data_base + i - t ≡ i - (t - data_base) = omega (arith, low, le) in
        store_inside f t n v (data_base + i) (omega (arith, low, le)) (omega (arith, low, lt, long)) ∙ ap (λ (j : ℕ). v / 256 ^ j % 256) at
        ∙ stored-byte n a v (i - (t - data_base)) b (held-bits a v held) got

pub store-below : (f : ℕ → ℕ) (a n v : ℕ) → IsBytes f → IsBytes (store_bytes f a n v)
store-below f a n v h x = by_order (cases_lt x a) (cases_lt x (a + n))
  where
    by_order : (x < a) ⊎ (a ≤ x) → (x < a + n) ⊎ (a + n ≤ x) → store_bytes f a n v x < 256
    by_order (inl lt) z = let e = store_outside f a n v x (inl lt) in let b = h x in omega (arith, e, b)
    by_order (inr le) (inr past) = let e = store_outside f a n v x (inr past) in let b = h x in omega (arith, e, b)
    by_order (inr le) (inl lt) = let e = store_inside f a n v x le lt in omega (arith, e)
