-- Numbers in registers and their bits.
use Rattle.std.proofs.Common.{◌≡◌, refl, sym, ap, subst, ◌∙◌, ℕ, zero, suc, ◌+◌, ◌-◌, ◌%◌, ◌^◌, ◌<◌, ◌≤◌, Bool, true, false, List, [], ◌∷◌, length, Option, Some, None, arith}
use Rattle.std.specs.Prelude.{if◌then◌else◌, nat_lt, slice_get, slice_index_or}
use Rattle.std.proofs.Math.Pow.{mod-mod-pow}
use Rattle.std.proofs.Math.Nat.{mod-eq_of_lt}
use Rattle.rv_core.specs.declared.reg.Reg.{Reg}
use Rattle.rv_core.specs.declared.reg.Reg.TheVariants.{A0}
use Rattle.rv_core.specs.Step.{Registers, read}
use Rattle.ir_meaning.specs.Value.{Value}
use Rattle.ir_meaning.specs.Memory.{Memory}
use Rattle.ir_meaning.specs.Ranges.{FitsWidth, FitsResult, AreArgs}
use Rattle.rv_play.specs.Good.{RefinesValue, RefinesArgs, RefinesResult, RefinesMemory}
use Rattle.walks.specs.Walk.{Bits}
use Rattle.walks.specs.Bits.{constant, bit_of}
use Rattle.walks.specs.Functions.{bits_of, all_bits, result_bits}
use Rattle.walks.specs.Refines.{RefinesBits, AllRefine}
use Rattle.walks.specs.Refines as walks
use Rattle.walks.proofs.Compose.{bits_compose}
use Rattle.walks.proofs.Numbers.{same_bit, same_number, lt_true}
use Rattle.good_code.specs.Runs.{register, registers_of, HoldBits}
use Rattle.good_code.specs.Narrow.{AllNarrow}

fits_by : (w v n i : ℕ) → w ≤ 64 → n % 2 ^ w ≡ v → (b : Bool) → nat_lt i w ≡ b → (bit : Bool) → (if b then Some (bit_of v i) else None) ≡ Some bit → constant 64 n i ≡ Some bit
fits_by w v n i small h true e bit z =
    let below : i < w = grind arith in
    let inside : nat_lt i 64 ≡ true = lt_true i 64 (omega arith) in
    let count : (w - suc i) + suc i ≡ w = omega arith in
    let same : v % 2 ^ suc i ≡ n % 2 ^ suc i = ap (λ x. x % 2 ^ suc i) (sym h) ∙ subst (λ (k : ℕ). n % 2 ^ k % 2 ^ suc i ≡ n % 2 ^ suc i) count (mod-mod-pow n (w - suc i) (suc i)) in
    rw inside (ap Some (sym (same_bit v n i same)) ∙ z)
fits_by w v n i small h false e bit z = absurd (let bad : ⊥ = cc in bad)

-- a register that has a value of a width has its bits
pub value_bits : (w : ℕ) (v : Value) (n : ℕ) → w ≤ 64 → RefinesValue w v n → RefinesBits (bits_of w v) (constant 64 n)
value_bits w None n small h = λ i bit z. absurd (let bad : ⊥ = cc in bad)
value_bits w (Some v) n small h = λ i. fits_by w v n i small h (nat_lt i w) refl

bit_back : (v n i : ℕ) (b : Bool) → (if b then Some (bit_of n i) else None) ≡ Some (bit_of v i) → bit_of n i ≡ bit_of v i
bit_back v n i true h = cc
bit_back v n i false h = absurd (let bad : ⊥ = cc in bad)

-- and the other way round
pub bits_value : (w : ℕ) (v : Value) (n : ℕ) → FitsWidth w v → RefinesBits (bits_of w v) (constant 64 n) → RefinesValue w v n
bits_value w None n fits h = tt
bits_value w (Some v) n fits h =
    same_number w n v (λ i below. let inside : nat_lt i w ≡ true = lt_true i w below in bit_back v n i (nat_lt i 64) (h i (bit_of v i) (rw inside refl))) ∙ mod-eq_of_lt fits

-- arguments in registers
pub args_refine : (ws : List ℕ) (vs : List Value) (rs : List Reg) (s : Registers) → AllNarrow ws → AreArgs ws vs → length ws ≤ length rs → RefinesArgs ws vs rs s → AllRefine (all_bits ws vs) (registers_of ws rs s)
args_refine [] [] rs s narrow are few h = tt
args_refine [] (v ∷ vs) rs s narrow are few h = absurd are
args_refine (w ∷ ws) [] rs s narrow are few h = absurd are
args_refine (w ∷ ws) (v ∷ vs) [] s narrow are few h = absurd (let bad : ⊥ = omega (arith, few) in bad)
args_refine (w ∷ ws) (v ∷ vs) (r ∷ rs) s narrow are few h = (value_bits w v (read s r) narrow.0 h.0, args_refine ws vs rs s narrow.1 are.1 (omega (arith, few)) h.1)

pub args_held : (ws : List ℕ) (vs : List Value) (xs : List Bits) (rs : List Reg) (s : Registers) → AreArgs ws vs → AllRefine (all_bits ws vs) xs → HoldBits xs rs s → RefinesArgs ws vs rs s
args_held [] vs xs rs s are h k = tt
args_held (w ∷ ws) [] xs rs s are h k = absurd are
args_held (w ∷ ws) (v ∷ vs) [] rs s are h k = absurd h
args_held (w ∷ ws) (v ∷ vs) (x ∷ xs) [] s are h k = tt
args_held (w ∷ ws) (v ∷ vs) (x ∷ xs) (r ∷ rs) s are h k =
    (bits_value w v (read s r) are.0 (bits_compose (bits_of w v) x (register s r) h.0 k.0), args_held ws vs xs rs s are.1 h.1 k.1)

-- results in a0
pub result_refines : (o : Option ℕ) (v : Value) (s : Registers) → ((w : ℕ) → o ≡ Some w → w ≤ 64) → RefinesResult o v s → RefinesBits (result_bits o v) (register s A0)
result_refines None v s small h = λ i bit z. absurd (let bad : ⊥ = cc in bad)
result_refines (Some w) v s small h = value_bits w v (read s A0) (small w refl) h

pub result_held : (o : Option ℕ) (v : Value) (x : Bits) (s : Registers) → FitsResult o v → RefinesBits (result_bits o v) x → RefinesBits x (register s A0) → RefinesResult o v s
result_held None v x s fits h k = tt
result_held (Some w) v x s fits h k = bits_value w v (read s A0) fits (bits_compose (bits_of w v) x (register s A0) h k)

-- ---- bytes

get_known : (m : Memory) (i : ℕ) (x : Option ℕ) → slice_get m i ≡ Some x → slice_index_or m i None ≡ x
get_known [] i x h = absurd (let bad : ⊥ = cc in bad)
get_known (b ∷ bs) zero x h = cc
get_known (b ∷ bs) (suc i) x h = get_known bs i x h

known_get : (m : Memory) (i b : ℕ) → slice_index_or m i None ≡ Some b → slice_get m i ≡ Some (Some b)
known_get [] i b h = absurd (let bad : ⊥ = cc in bad)
known_get (x ∷ xs) zero b h = ap Some h
known_get (x ∷ xs) (suc i) b h = known_get xs i b h

pub bytes_refine : (m m' : Memory) (bytes : ℕ → ℕ) → walks.RefinesMemory m m' → RefinesMemory m' bytes → RefinesMemory m bytes
bytes_refine m m' bytes h k i b e = k i b (known_get m' i b (h.bytes i b (get_known m i (Some b) e)))
