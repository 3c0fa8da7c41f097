-- Values in data memory, and the bits of registers that are read and written there.
use Rattle.std.proofs.Common.{◌≡◌, refl, sym, ap, subst, ◌∙◌, ℕ, zero, suc, ◌+◌, ◌-◌, ◌*◌, ◌/◌, ◌%◌, ◌^◌, ◌<◌, ◌≤◌, ◌⊎◌, inl, inr, List, [], ◌∷◌, length, Some, None, arith}
use Rattle.std.specs.Prelude.{◌==◌, replicate}
use Rattle.std.specs.Int.{bit_at}
use Rattle.std.proofs.lemmas.Bool.{cases_lt}
use Rattle.std.proofs.lemmas.Nat.Bits.{bit_at_cat_low, bit_at_cat_high}
use Rattle.ir_meaning.specs.Value.{Value, Byte}
use Rattle.ir_meaning.specs.Memory.{digit, from_bytes, number_bytes, to_bytes}
use Rattle.ir_meaning.proofs.Bytes.{AllBytes}
use Rattle.walks.specs.Walk.{Bits}
use Rattle.walks.specs.Refines.{RefinesBits, RefinesMemory}
use Rattle.walks.specs.Bits.{constant, bit_of, number}
use Rattle.walks.specs.Bytes.{byte_bit, bits_of_bytes, bytes_of_bits}
use Rattle.walks.specs.Functions.{bits_of}
use Rattle.walks.proofs.Numbers.{number_constant}
use Rattle.walks.proofs.Monotone.{keeps_number}
use Rattle.walks.proofs.Bytes.{cons_mono, nothing_mono}
use Rattle.generic_code.proofs.Rows.{by_bits}
use Rattle.generic_code.proofs.Moves.{right_bit, constant_bit}

-- ---- what is read

first_byte : (b : Byte) (bytes : List Byte) (i : ℕ) → i < 8 → bits_of_bytes (b ∷ bytes) i ≡ byte_bit b i
first_byte b bytes i h =
    let none : i / 8 ≡ 0 = omega (arith, h) in
    let same : i % 8 ≡ i = omega (arith, h) in
    rw (none, same) refl

later_byte : (b : Byte) (bytes : List Byte) (i : ℕ) → 8 ≤ i → bits_of_bytes (b ∷ bytes) i ≡ bits_of_bytes bytes (i - 8)
later_byte b bytes i h =
    let more : i / 8 ≡ suc ((i - 8) / 8) = omega (arith, h) in
    let same : i % 8 ≡ (i - 8) % 8 = omega (arith, h) in
    rw (more, same) refl

-- the bits of a number and those of its bytes
read_number : (bytes : List Byte) (n : ℕ) → AllBytes bytes → from_bytes bytes ≡ Some n → (i : ℕ) → i < 8 * length bytes → bits_of_bytes bytes i ≡ Some (bit_of n i)
read_number [] n small e i h = absurd (let bad : ⊥ = omega (arith, h) in bad)
read_number (None ∷ bytes) n small e i h = absurd (let bad : ⊥ = cc in bad)
read_number (Some b ∷ bytes) n small e i h = by_rest (read_number bytes) (from_bytes bytes) refl e
  where
    by_rest : ((k : ℕ) → AllBytes bytes → from_bytes bytes ≡ Some k → (j : ℕ) → j < 8 * length bytes → bits_of_bytes bytes j ≡ Some (bit_of k j))
        → (rest : Value) → from_bytes bytes ≡ rest → digit (Some b) rest ≡ Some n → bits_of_bytes (Some b ∷ bytes) i ≡ Some (bit_of n i)
    by_rest ih None is e' = absurd (let bad : ⊥ = cc in bad)
    by_rest ih (Some k) is e' = by_place (cases_lt i 8)
      where
        sum : n ≡ k * 2 ^ 8 + b
        sum = let same : b + 256 * k ≡ n = cc in omega (arith, same)

        by_place : (i < 8) ⊎ (8 ≤ i) → bits_of_bytes (Some b ∷ bytes) i ≡ Some (bit_of n i)
        by_place (inl l) =
            first_byte (Some b) bytes i l
            ∙ ap (λ (z : ℕ). Some (z == 1)) (sym (ap (λ (z : ℕ). bit_at z i) sum ∙ bit_at_cat_low k 8 b i l))
        by_place (inr l) =
            let within : i - 8 < 8 * length bytes = (let size : 8 * suc (length bytes) ≡ 8 * length bytes + 8 = omega arith in omega (arith, h, l, size)) in
            later_byte (Some b) bytes i l
            ∙ ih k small.1 is (i - 8) within
            ∙ ap (λ (z : ℕ). Some (z == 1)) (sym (ap (λ (z : ℕ). bit_at z i) sum ∙ bit_at_cat_high k 8 b i small.0 l))

pub read_row : (w : ℕ) (bytes : List Byte) → AllBytes bytes → 8 * length bytes ≡ w → RefinesBits (bits_of w (from_bytes bytes)) (bits_of_bytes bytes)
read_row w bytes small long = by_value (from_bytes bytes) refl
  where
    by_value : (v : Value) → from_bytes bytes ≡ v → RefinesBits (bits_of w v) (bits_of_bytes bytes)
    by_value None e = λ i b z. absurd (let bad : ⊥ = cc in bad)
    by_value (Some n) e = by_bits w n (bits_of_bytes bytes) (λ i below. read_number bytes n small e i (let l : i < 8 * length bytes = omega (arith, below, long) in l))

-- ---- what is written

pub bytes_long : (n : ℕ) (a : Bits) → length (bytes_of_bits n a) ≡ n
bytes_long zero a = refl
bytes_long (suc n) a = ap suc (bytes_long n (λ i. a (i + 8)))

poison_bytes : (n : ℕ) (a : Bits) → RefinesMemory (replicate n None) (bytes_of_bits n a)
poison_bytes zero a = nothing_mono
poison_bytes (suc n) a = cons_mono None (number 8 a) (replicate n None) (bytes_of_bits n (λ i. a (i + 8))) (λ x e. absurd (let bad : ⊥ = cc in bad)) (poison_bytes n (λ i. a (i + 8)))

-- the bits behind the first byte
rest_bits : (w x : ℕ) (a : Bits) → RefinesBits (constant (w + 8) x) a → RefinesBits (constant w (x / 256)) (λ i. a (i + 8))
rest_bits w x a h = by_bits w (x / 256) (λ i. a (i + 8)) (λ i below.
    h (i + 8) (bit_of (x / 256) i) (constant_bit (w + 8) x (i + 8) (omega (arith, below)) ∙ ap (λ (z : ℕ). Some (z == 1)) (sym (right_bit x 8 i))))

written_number : (n x : ℕ) (a : Bits) → RefinesBits (constant (8 * n) x) a → RefinesMemory (number_bytes n x) (bytes_of_bits n a)
written_number zero x a h = nothing_mono
written_number (suc n) x a h =
    let size : 8 * suc n ≡ 8 * n + 8 = omega arith in
    let h' : RefinesBits (constant (8 * n + 8) x) a = subst (λ (w : ℕ). RefinesBits (constant w x) a) size h in
    let first : number 8 a ≡ Some (x % 256) = keeps_number 8 (constant (8 * n + 8) x) a h' (x % 256) (number_constant (8 * n + 8) 8 x (omega arith)) in
    cons_mono (Some (x % 256)) (number 8 a) (number_bytes n (x / 256)) (bytes_of_bits n (λ i. a (i + 8))) (λ y e. first ∙ e) (written_number n (x / 256) (λ i. a (i + 8)) (rest_bits (8 * n) x a h'))

pub written_row : (n : ℕ) (v : Value) (a : Bits) → RefinesBits (bits_of (8 * n) v) a → RefinesMemory (to_bytes n v) (bytes_of_bits n a)
written_row n None a h = poison_bytes n a
written_row n (Some x) a h = written_number n x a h
