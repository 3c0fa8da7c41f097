-- What is read and written in data memory is the same where more is known.
use Rattle.std.proofs.Common.{◌≡◌, refl, ap, subst, ◌&&◌, ℕ, zero, suc, ◌+◌, ◌-◌, ◌/◌, ◌%◌, Bool, true, false, [], ◌∷◌, ◌++◌, length, take, drop, Option, Some, None, arith}
use Rattle.std.specs.Prelude.{slice_index_or, replicate, if◌then◌else◌}
use Rattle.ir_meaning.specs.Value.{Byte}
use Rattle.ir_meaning.specs.Memory.{Memory, bytes_at, with_bytes, data_start, is_inside}
use Rattle.ir_meaning.specs.Step.{copied, set}
use Rattle.walks.specs.Walk.{Bits}
use Rattle.walks.specs.Refines.{RefinesBits, RefinesMemory}
use Rattle.walks.specs.Bits.{number}
use Rattle.walks.specs.Bytes.{byte_bit, bits_of_bytes, bytes_of_bits}
use Rattle.walks.proofs.Monotone.{Keeps, keeps_number}

keeps_byte : (o o' : Byte) → Keeps o o' → (i : ℕ) → Keeps (byte_bit o i) (byte_bit o' i)
keeps_byte None o' h i = λ z e. absurd (let bad : ⊥ = cc in bad)
keeps_byte (Some n) o' h i = rw (h n refl) (λ z e. e)

pub bits_mono : (m m' : Memory) → RefinesMemory m m' → RefinesBits (bits_of_bytes m) (bits_of_bytes m')
bits_mono m m' h i = keeps_byte (slice_index_or m (i / 8) None) (slice_index_or m' (i / 8) None) (h.bytes (i / 8)) (i % 8)

abbrev KeepsBytes : Memory → Memory → Type 0
KeepsBytes m m' = (i : ℕ) → Keeps (slice_index_or m i None) (slice_index_or m' i None)

pub nothing_mono : RefinesMemory [] []
nothing_mono = record { long = refl; bytes = λ i b e. e }

keeps_cons : (b b' : Byte) (m m' : Memory) → Keeps b b' → KeepsBytes m m' → KeepsBytes (b ∷ m) (b' ∷ m')
keeps_cons b b' m m' h k zero = h
keeps_cons b b' m m' h k (suc i) = k i

pub cons_mono : (b b' : Byte) (m m' : Memory) → Keeps b b' → RefinesMemory m m' → RefinesMemory (b ∷ m) (b' ∷ m')
cons_mono b b' m m' h k = record { long = ap suc k.long; bytes = keeps_cons b b' m m' h k.bytes }

pub head_mono : (b b' : Byte) (m m' : Memory) → RefinesMemory (b ∷ m) (b' ∷ m') → Keeps b b'
head_mono b b' m m' h = h.bytes 0

pub tail_mono : (b b' : Byte) (m m' : Memory) → RefinesMemory (b ∷ m) (b' ∷ m') → RefinesMemory m m'
tail_mono b b' m m' h = let long = h.long in record { long = (let e : length m' ≡ length m = omega (arith, long) in e); bytes = λ i. h.bytes (suc i) }

pub unlike_left : (b : Byte) (m : Memory) → RefinesMemory [] (b ∷ m) → ⊥
unlike_left b m h = let long = h.long in omega (arith, long)

pub unlike_right : (b : Byte) (m : Memory) → RefinesMemory (b ∷ m) [] → ⊥
unlike_right b m h = let long = h.long in omega (arith, long)

pub stored_mono : (n : ℕ) (a a' : Bits) → RefinesBits a a' → RefinesMemory (bytes_of_bits n a) (bytes_of_bits n a')
stored_mono zero a a' p = nothing_mono
stored_mono (suc n) a a' p =
    cons_mono (number 8 a) (number 8 a') (bytes_of_bits n (λ i. a (i + 8))) (bytes_of_bits n (λ i. a' (i + 8))) (keeps_number 8 a a' p)
    (stored_mono n (λ i. a (i + 8)) (λ i. a' (i + 8)) (λ i. p (i + 8)))

pub append_mono : (m m' r r' : Memory) → RefinesMemory m m' → RefinesMemory r r' → RefinesMemory (m ++ r) (m' ++ r')
append_mono [] [] r r' h k = k
append_mono [] (b' ∷ bs') r r' h k = absurd (unlike_left b' bs' h)
append_mono (b ∷ bs) [] r r' h k = absurd (unlike_right b bs h)
append_mono (b ∷ bs) (b' ∷ bs') r r' h k =
    cons_mono b b' (bs ++ r) (bs' ++ r') (head_mono b b' bs bs' h) (append_mono bs bs' r r' (tail_mono b b' bs bs' h) k)

pub take_mono : (n : ℕ) (m m' : Memory) → RefinesMemory m m' → RefinesMemory (take n m) (take n m')
take_mono zero m m' h = nothing_mono
take_mono (suc n) [] [] h = nothing_mono
take_mono (suc n) [] (b' ∷ bs') h = absurd (unlike_left b' bs' h)
take_mono (suc n) (b ∷ bs) [] h = absurd (unlike_right b bs h)
take_mono (suc n) (b ∷ bs) (b' ∷ bs') h =
    cons_mono b b' (take n bs) (take n bs') (head_mono b b' bs bs' h) (take_mono n bs bs' (tail_mono b b' bs bs' h))

pub drop_mono : (n : ℕ) (m m' : Memory) → RefinesMemory m m' → RefinesMemory (drop n m) (drop n m')
drop_mono zero m m' h = h
drop_mono (suc n) [] [] h = nothing_mono
drop_mono (suc n) [] (b' ∷ bs') h = absurd (unlike_left b' bs' h)
drop_mono (suc n) (b ∷ bs) [] h = absurd (unlike_right b bs h)
drop_mono (suc n) (b ∷ bs) (b' ∷ bs') h = drop_mono n bs bs' (tail_mono b b' bs bs' h)

pub replicate_mono : (n : ℕ) (b b' : Byte) → Keeps b b' → RefinesMemory (replicate n b) (replicate n b')
replicate_mono zero b b' h = nothing_mono
replicate_mono (suc n) b b' h = cons_mono b b' (replicate n b) (replicate n b') h (replicate_mono n b b' h)

pub read_mono : (m m' : Memory) (address count : ℕ) → RefinesMemory m m' → RefinesMemory (bytes_at m address count) (bytes_at m' address count)
read_mono m m' address count h = take_mono count (drop (address - data_start) m) (drop (address - data_start) m') (drop_mono (address - data_start) m m' h)

pub written_mono : (m m' : Memory) (address : ℕ) (r r' : Memory) → RefinesMemory m m' → RefinesMemory r r' → RefinesMemory (with_bytes m address r) (with_bytes m' address r')
written_mono m m' address r r' h k =
    rw k.long
    (append_mono (take (address - data_start) m ++ r) (take (address - data_start) m' ++ r')
    (drop (address - data_start + length r) m) (drop (address - data_start + length r) m')
    (append_mono (take (address - data_start) m) (take (address - data_start) m') r r' (take_mono (address - data_start) m m' h) k)
    (drop_mono (address - data_start + length r) m m' h))

-- what memory is left is there too, and refines it
abbrev pub MemoryKept : Option Memory → Option Memory → Type 0
MemoryKept o o' = (m : Memory) → o ≡ Some m → (m' : Memory) × (o' ≡ Some m') × RefinesMemory m m'

pub kept_none : (o' : Option Memory) → MemoryKept None o'
kept_none o' m e = absurd (let bad : ⊥ = cc in bad)

pub kept_some : (m m' : Memory) → RefinesMemory m m' → MemoryKept (Some m) (Some m')
kept_some m m' h n e = (m', refl, (let same : m ≡ n = cc in subst (λ z. RefinesMemory z m') same h))

kept_by : (test : Bool) (m m' : Memory) → RefinesMemory m m' → MemoryKept (if test then Some m else None) (if test then Some m' else None)
kept_by true m m' h = kept_some m m' h
kept_by false m m' h = kept_none None

-- tests of ranges are the same
inside_same : (m m' : Memory) (address count : ℕ) → RefinesMemory m m' → is_inside m' address count ≡ is_inside m address count
inside_same m m' address count h = rw h.long refl

copied_to : (may : ℕ → ℕ → ℕ → Bool) (m m' : Memory) (to from n : ℕ) → RefinesMemory m m'
    → MemoryKept (copied may m (Some to) (Some from) (Some (suc n))) (copied may m' (Some to) (Some from) (Some (suc n)))
copied_to may m m' to from n h =
    rw (inside_same m m' to (suc n) h, inside_same m m' from (suc n) h)
    (kept_by (is_inside m to (suc n) && is_inside m from (suc n) && may to from (suc n)) (with_bytes m to (bytes_at m from (suc n))) (with_bytes m' to (bytes_at m' from (suc n)))
    (written_mono m m' to (bytes_at m from (suc n)) (bytes_at m' from (suc n)) h (read_mono m m' from (suc n) h)))

pub copied_mono : (may : ℕ → ℕ → ℕ → Bool) (m m' : Memory) (to to' from from' count count' : Option ℕ) → RefinesMemory m m'
    → Keeps to to' → Keeps from from' → Keeps count count' → MemoryKept (copied may m to from count) (copied may m' to' from' count')
copied_mono may m m' to to' from from' None count' h p q r = kept_none (copied may m' to' from' count')
copied_mono may m m' to to' from from' (Some zero) count' h p q r = rw (r 0 refl) (kept_some m m' h)
copied_mono may m m' None to' from from' (Some (suc n)) count' h p q r = kept_none (copied may m' to' from' count')
copied_mono may m m' (Some to) to' None from' (Some (suc n)) count' h p q r = kept_none (copied may m' to' from' count')
copied_mono may m m' (Some to) to' (Some from) from' (Some (suc n)) count' h p q r = rw (p to refl, q from refl, r (suc n) refl) (copied_to may m m' to from n h)

set_to : (m m' : Memory) (to n : ℕ) (byte byte' : Byte) → RefinesMemory m m' → Keeps byte byte'
    → MemoryKept (set m (Some to) byte (Some (suc n))) (set m' (Some to) byte' (Some (suc n)))
set_to m m' to n byte byte' h k =
    rw (inside_same m m' to (suc n) h)
    (kept_by (is_inside m to (suc n)) (with_bytes m to (replicate (suc n) byte)) (with_bytes m' to (replicate (suc n) byte'))
    (written_mono m m' to (replicate (suc n) byte) (replicate (suc n) byte') h (replicate_mono (suc n) byte byte' k)))

pub set_mono : (m m' : Memory) (to to' : Option ℕ) (byte byte' : Byte) (count count' : Option ℕ) → RefinesMemory m m'
    → Keeps to to' → Keeps byte byte' → Keeps count count' → MemoryKept (set m to byte count) (set m' to' byte' count')
set_mono m m' to to' byte byte' None count' h p q r = kept_none (set m' to' byte' count')
set_mono m m' to to' byte byte' (Some zero) count' h p q r = rw (r 0 refl) (kept_some m m' h)
set_mono m m' None to' byte byte' (Some (suc n)) count' h p q r = kept_none (set m' to' byte' count')
set_mono m m' (Some to) to' byte byte' (Some (suc n)) count' h p q r = rw (p to refl, r (suc n) refl) (set_to m m' to n byte byte' h q)
