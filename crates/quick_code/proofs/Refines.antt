-- Lists of values that registers and memory refine.
use Rattle.std.proofs.Common.{◌≡◌, refl, ap, ◌∙◌, ℕ, zero, suc, ◌+◌, ◌%◌, ◌^◌, List, [], ◌∷◌, ◌++◌, replicate, Some, None, mod-eq_of_lt}
use Rattle.std.specs.Prelude.{take, slice_get}
use Rattle.ir_core.specs.declared.types.Ty.{Ty}
use Rattle.ir_core.specs.declared.types.Ty.TheVariants.{Void, Int, Ptr}
use Rattle.rv_core.specs.declared.reg.Reg.{Reg}
use Rattle.rv_core.specs.declared.reg.Reg.TheVariants.{A0}
use Rattle.rv_core.specs.Step.{Registers, read}
use Rattle.ir_meaning.specs.Value.{Value}
use Rattle.ir_meaning.specs.Memory.{Memory}
use Rattle.ir_meaning.specs.Meaning.{result_width}
use Rattle.ir_meaning.specs.Ranges.{FitsWidth, FitsResult, AreArgs}
use Rattle.rv_play.specs.Good.{RefinesArgs, RefinesResult, RefinesValue, arg_regs}
use Rattle.code_pieces.proofs.Frame.{Is}

pub refines-take : (n : ℕ) (memory : Memory) (i b : ℕ) → slice_get (take n memory) i ≡ Some (Some b) → slice_get memory i ≡ Some (Some b)
refines-take zero memory i b h = absurd (let bad : ⊥ = cc in bad)
refines-take (suc n) [] i b h = absurd (let bad : ⊥ = cc in bad)
refines-take (suc n) (x ∷ xs) zero b h = h
refines-take (suc n) (x ∷ xs) (suc i) b h = refines-take n xs i b h

pub value-refines : (w : ℕ) (value : Value) (n : ℕ) → Is value n → FitsWidth w value → RefinesValue w value n
value-refines w None n h k = tt
value-refines w (Some v) n h k = ap (λ (x : ℕ). x % 2 ^ w) (h v refl) ∙ mod-eq_of_lt k

pub result-refines : (ty : Ty) (value : Value) (s : Registers) → Is value (read s A0) → FitsResult (result_width ty) value → RefinesResult (result_width ty) value s
result-refines Void value s h k = tt
result-refines (Int w) value s h k = value-refines w value (read s A0) h k
result-refines Ptr value s h k = value-refines 64 value (read s A0) h k

-- each argument register reads as this function
abbrev pub Reads : List Reg → (ℕ → ℕ) → Registers → Type 0
Reads [] f s = Unit {0}
Reads (r ∷ rs) f s = (read s r ≡ f 0) × Reads rs (λ i. f (suc i)) s

pub args-refine : (ws : List ℕ) (vs : List Value) (rs : List Reg) (f : ℕ → ℕ) (s : Registers) → Reads rs f s → ((k v : ℕ) → slice_get vs k ≡ Some (Some v) → f k ≡ v) → AreArgs ws vs → RefinesArgs ws vs rs s
args-refine [] vs rs f s h g fit = tt
args-refine (w ∷ ws) [] rs f s h g fit = absurd fit
args-refine (w ∷ ws) (v ∷ vs) [] f s h g fit = tt
args-refine (w ∷ ws) (v ∷ vs) (r ∷ rs) f s h g fit =
    (value-refines w v (read s r) (λ k e. h.0 ∙ g 0 k (ap (λ (x : Value). Some x) e)) fit.0, args-refine ws vs rs (λ i. f (suc i)) s h.1 (λ k x e. g (suc k) x e) fit.1)

pub arguments-read : (s : Registers) → Reads arg_regs (λ i. s.x (10 + i)) s
arguments-read s = (refl, (refl, (refl, (refl, (refl, (refl, (refl, (refl, tt))))))))

none-there : (n i k : ℕ) (v : Value) → v ≡ None → slice_get (replicate n v) i ≡ Some (Some k) → ⊥
none-there zero i k v h e = cc
none-there (suc n) zero k v h e = cc
none-there (suc n) (suc i) k v h e = none-there n i k v h e

-- among first values only arguments are numbers
pub first-number : (args : List Value) (n i k : ℕ) (v : Value) → v ≡ None → slice_get (args ++ replicate n v) i ≡ Some (Some k) → slice_get args i ≡ Some (Some k)
first-number [] n i k v h e = absurd (none-there n i k v h e)
first-number (x ∷ xs) n zero k v h e = e
first-number (x ∷ xs) n (suc i) k v h e = first-number xs n i k v h e
