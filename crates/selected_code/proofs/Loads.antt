-- Addresses, loads and stores.
use Rattle.std.proofs.Common.{◌≡◌, refl, sym, ap, subst, ◌∙◌, ℕ, zero, suc, ◌+◌, ◌-◌, ◌*◌, ◌^◌, ◌/◌, ◌%◌, ◌<◌, ◌≤◌, ⊎_elim, Bool, true, false, List, [], ◌∷◌, length, take, drop, Option, Some, None, arith, mod-eq_of_lt, pos}
use Rattle.std.specs.Prelude.{ℤ, nat_lt, slice_index_or, if◌then◌else◌}
use Rattle.std.proofs.lemmas.Bool.{cases_lt, lt-ltb}
use Rattle.rv_core.specs.declared.instr.LoadOp.{LoadOp}
use Rattle.rv_core.specs.declared.instr.LoadOp.TheVariants.{Lb, Lh, Lw, Ld, Lbu, Lhu, Lwu}
use Rattle.rv_core.specs.Step.{modulo, plus}
use Rattle.ir_meaning.specs.Memory.{Memory, bytes_at, data_start}
use Rattle.walks.specs.Walk.{Bits}
use Rattle.walks.specs.Bits.{cut, number, zero_extended, sign_extended}
use Rattle.walks.specs.Bytes.{byte_bit, bits_of_bytes}
use Rattle.walks.specs.Refines.{RefinesBits, RefinesMemory}
use Rattle.walks.proofs.Monotone.{Keeps, keeps_number, cut_mono}
use Rattle.walks.proofs.Numbers.{number_known}
use Rattle.walks.proofs.Bytes.{bits_mono, read_mono}
use Rattle.mir_play.specs.Values.{moved_by, address, load_size, extended}
use Rattle.selected_code.proofs.Values.{nothing}

-- an offset of 0 keeps the address
pub address_kept : (a a' : Bits) → RefinesBits a a' → Keeps (number 64 a) (address a' (pos 0))
address_kept a a' p k e =
    let there : number 64 a' ≡ Some k = keeps_number 64 a a' p k e in
    let same : plus k (pos 0) ≡ k = (let z : k + 0 ≡ k = omega arith in ap (λ (x : ℕ). x % 2 ^ 64) z ∙ mod-eq_of_lt (number_known 64 a k e).low) in
    ap (moved_by (pos 0)) there ∙ ap Some same

-- nothing stands past so many bytes
past_bytes : (k : ℕ) (bytes : Memory) (j : ℕ) → k ≤ j → slice_index_or (take k bytes) j None ≡ None
past_bytes zero bytes zero h = refl
past_bytes zero bytes (suc j) h = refl
past_bytes (suc k) [] zero h = refl
past_bytes (suc k) [] (suc j) h = refl
past_bytes (suc k) (b ∷ bytes) zero h = absurd (let bad : ⊥ = omega arith in bad)
past_bytes (suc k) (b ∷ bytes) (suc j) h = past_bytes k bytes j (omega arith)

abbrev NoneFrom : ℕ → Bits → Type 0
NoneFrom v x = (i : ℕ) → v ≤ i → x i ≡ None

read_none : (bytes : Memory) (k v : ℕ) → v ≡ 8 * k → NoneFrom v (bits_of_bytes (take k bytes))
read_none bytes k v e i h =
    let far : k ≤ i / 8 = omega (arith, e, h) in
    ap (λ b. byte_bit b (i % 8)) (past_bytes k bytes (i / 8) far)

module _ (v : ℕ) (x : Bits) (none : NoneFrom v x) where
  zero_wide : RefinesBits (cut 64 x) (zero_extended v 64 x)
  zero_wide i bit e = by_test (nat_lt i 64) e
    where
      by_bit : x i ≡ Some bit → (if nat_lt i v then x i else Some false) ≡ Some bit
      by_bit s = ⊎_elim (λ l. rw (lt-ltb i v l) s) (λ l. nothing bit (sym (none i l) ∙ s)) (cases_lt i v)

      by_test : (t : Bool) → (if t then x i else None) ≡ Some bit → (if t then (if nat_lt i v then x i else Some false) else None) ≡ Some bit
      by_test true s = by_bit s
      by_test false s = nothing bit s

  sign_wide : RefinesBits (cut 64 x) (sign_extended v 64 x)
  sign_wide i bit e = by_test (nat_lt i 64) e
    where
      by_bit : x i ≡ Some bit → (if nat_lt i v then x i else x (v - 1)) ≡ Some bit
      by_bit s = ⊎_elim (λ l. rw (lt-ltb i v l) s) (λ l. nothing bit (sym (none i l) ∙ s)) (cases_lt i v)

      by_test : (t : Bool) → (if t then x i else None) ≡ Some bit → (if t then (if nat_lt i v then x i else x (v - 1)) else None) ≡ Some bit
      by_test true s = by_bit s
      by_test false s = nothing bit s

-- what is loaded is extended, where its upper bits were free
extends : (op : LoadOp) (bytes : Memory) → RefinesBits (cut 64 (bits_of_bytes (take (load_size op) bytes))) (extended op (bits_of_bytes (take (load_size op) bytes)))
extends Lb bytes = sign_wide 8 (bits_of_bytes (take 1 bytes)) (read_none bytes 1 8 refl)
extends Lh bytes = sign_wide 16 (bits_of_bytes (take 2 bytes)) (read_none bytes 2 16 refl)
extends Lw bytes = sign_wide 32 (bits_of_bytes (take 4 bytes)) (read_none bytes 4 32 refl)
extends Ld bytes = λ i bit e. e
extends Lbu bytes = zero_wide 8 (bits_of_bytes (take 1 bytes)) (read_none bytes 1 8 refl)
extends Lhu bytes = zero_wide 16 (bits_of_bytes (take 2 bytes)) (read_none bytes 2 16 refl)
extends Lwu bytes = zero_wide 32 (bits_of_bytes (take 4 bytes)) (read_none bytes 4 32 refl)

pub load_refines : (op : LoadOp) (m m' : Memory) (a : ℕ) → RefinesMemory m m'
    → RefinesBits (cut 64 (bits_of_bytes (bytes_at m a (load_size op)))) (extended op (bits_of_bytes (bytes_at m' a (load_size op))))
load_refines op m m' a h i bit e =
    extends op (drop (a - data_start) m') i bit
    (cut_mono 64 (bits_of_bytes (bytes_at m a (load_size op))) (bits_of_bytes (bytes_at m' a (load_size op)))
    (bits_mono (bytes_at m a (load_size op)) (bytes_at m' a (load_size op)) (read_mono m m' a (load_size op) h)) i bit e)
