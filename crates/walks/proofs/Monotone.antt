-- What operations give is the same where more bits are known.
use Rattle.std.proofs.Common.{◌≡◌, refl, ℕ, zero, suc, ◌+◌, ◌-◌, Bool, true, false, Option, Some, None}
use Rattle.std.specs.Prelude.{if◌then◌else◌, nat_lt}
use Rattle.walks.specs.Walk.{Bits}
use Rattle.walks.specs.Refines.{RefinesBits}
use Rattle.walks.specs.Bits.{free, cut, bit_of, with_bit, number, on_both, low_exact, whole, and_bit, or_bit, xor_bit, bitwise, shifted, shift_left, shift_right, shift_right_signed, zero_extended, sign_extended, chosen}

-- what is known stays
abbrev pub Keeps : {A : Type 0} → Option A → Option A → Type 0
Keeps {A} o o' = (x : A) → o ≡ Some x → o' ≡ Some x

pub keeps_if : {A : Type 0} {o o' : Option A} (c : Bool) → Keeps o o' → Keeps (if c then o else None) (if c then o' else None)
keeps_if true h = h
keeps_if false h = λ x e. e

pub keeps_cases : {A : Type 0} {o o' z z' : Option A} (c : Bool) → Keeps o o' → Keeps z z' → Keeps (if c then o else z) (if c then o' else z')
keeps_cases true h h' = h
keeps_cases false h h' = h'

pub keeps_bit : (w : ℕ) (o o' : Option ℕ) (x x' : Option Bool) → Keeps o o' → Keeps x x' → Keeps (with_bit w o x) (with_bit w o' x')
keeps_bit w None o' x x' h h' n e = absurd (let bad : ⊥ = cc in bad)
keeps_bit w (Some m) o' None x' h h' n e = absurd (let bad : ⊥ = cc in bad)
keeps_bit w (Some m) o' (Some b) x' h h' n e = rw (h m refl, h' b refl) e

pub keeps_number : (w : ℕ) (a b : Bits) → RefinesBits a b → Keeps (number w a) (number w b)
keeps_number zero a b h = λ n e. e
keeps_number (suc w) a b h = keeps_bit w (number w a) (number w b) (a w) (b w) (keeps_number w a b h) (h w)

pub keeps_both : {B : Type 0} (f : ℕ → ℕ → Option B) (o o' x x' : Option ℕ) → Keeps o o' → Keeps x x' → Keeps (on_both f o x) (on_both f o' x')
keeps_both f None o' x x' h h' n e = absurd (let bad : ⊥ = cc in bad)
keeps_both f (Some m) o' None x' h h' n e = absurd (let bad : ⊥ = cc in bad)
keeps_both f (Some m) o' (Some b) x' h h' n e = rw (h m refl, h' b refl) e

pub cut_mono : (w : ℕ) (a a' : Bits) → RefinesBits a a' → RefinesBits (cut w a) (cut w a')
cut_mono w a a' h i = keeps_if (nat_lt i w) (h i)

pub low_mono : (f : ℕ → ℕ → ℕ → ℕ) (w : ℕ) (a a' b b' : Bits) → RefinesBits a a' → RefinesBits b b' → RefinesBits (low_exact f w a b) (low_exact f w a' b')
low_mono f w a a' b b' h h' i =
    keeps_if (nat_lt i w) (keeps_both (λ m n. Some (bit_of (f (suc i) m n) i)) (number (suc i) a) (number (suc i) a') (number (suc i) b) (number (suc i) b') (keeps_number (suc i) a a' h) (keeps_number (suc i) b b' h'))

pub whole_mono : (f : ℕ → ℕ → ℕ) (v w : ℕ) (a a' b b' : Bits) → RefinesBits a a' → RefinesBits b b' → RefinesBits (whole f v w a b) (whole f v w a' b')
whole_mono f v w a a' b b' h h' i =
    keeps_if (nat_lt i w) (keeps_both (λ m n. Some (bit_of (f m n) i)) (number v a) (number v a') (number v b) (number v b') (keeps_number v a a' h) (keeps_number v b b' h'))

pub keeps_and : (x x' y y' : Option Bool) → Keeps x x' → Keeps y y' → Keeps (and_bit x y) (and_bit x' y')
keeps_and (Some true) x' y y' h h' = rw (h true refl) h'
keeps_and (Some false) x' y y' h h' = rw (h false refl) (λ z e. e)
keeps_and None x' None y' h h' = λ z e. absurd (let bad : ⊥ = cc in bad)
keeps_and None x' (Some true) y' h h' = λ z e. absurd (let bad : ⊥ = cc in bad)
keeps_and None None (Some false) y' h h' = rw (h' false refl) (λ z e. e)
keeps_and None (Some true) (Some false) y' h h' = rw (h' false refl) (λ z e. e)
keeps_and None (Some false) (Some false) y' h h' = λ z e. e

pub keeps_or : (x x' y y' : Option Bool) → Keeps x x' → Keeps y y' → Keeps (or_bit x y) (or_bit x' y')
keeps_or (Some false) x' y y' h h' = rw (h false refl) h'
keeps_or (Some true) x' y y' h h' = rw (h true refl) (λ z e. e)
keeps_or None x' None y' h h' = λ z e. absurd (let bad : ⊥ = cc in bad)
keeps_or None x' (Some false) y' h h' = λ z e. absurd (let bad : ⊥ = cc in bad)
keeps_or None None (Some true) y' h h' = rw (h' true refl) (λ z e. e)
keeps_or None (Some false) (Some true) y' h h' = rw (h' true refl) (λ z e. e)
keeps_or None (Some true) (Some true) y' h h' = λ z e. e

pub keeps_xor : (x x' y y' : Option Bool) → Keeps x x' → Keeps y y' → Keeps (xor_bit x y) (xor_bit x' y')
keeps_xor None x' y y' h h' = λ z e. absurd (let bad : ⊥ = cc in bad)
keeps_xor (Some true) x' None y' h h' = λ z e. absurd (let bad : ⊥ = cc in bad)
keeps_xor (Some false) x' None y' h h' = λ z e. absurd (let bad : ⊥ = cc in bad)
keeps_xor (Some true) x' (Some b) y' h h' = rw (h true refl, h' b refl) (λ z e. e)
keeps_xor (Some false) x' (Some b) y' h h' = rw (h false refl, h' b refl) (λ z e. e)

pub bitwise_mono : (f : Option Bool → Option Bool → Option Bool) → ((x x' y y' : Option Bool) → Keeps x x' → Keeps y y' → Keeps (f x y) (f x' y'))
    → (w : ℕ) (a a' b b' : Bits) → RefinesBits a a' → RefinesBits b b' → RefinesBits (bitwise f w a b) (bitwise f w a' b')
bitwise_mono f keeps w a a' b b' h h' i = keeps_if (nat_lt i w) (keeps (a i) (a' i) (b i) (b' i) (h i) (h' i))

pub shifted_mono : (f f' : ℕ → Bits) (w : ℕ) (k k' : Option ℕ) → ((k : ℕ) → RefinesBits (f k) (f' k)) → Keeps k k' → RefinesBits (shifted f w k) (shifted f' w k')
shifted_mono f f' w None k' h h' i = λ z e. absurd (let bad : ⊥ = cc in bad)
shifted_mono f f' w (Some k) k' h h' i = rw (h' k refl) (keeps_if (nat_lt k w) (h k i))

pub left_mono : (w : ℕ) (a a' : Bits) → RefinesBits a a' → (k : ℕ) → RefinesBits (shift_left w a k) (shift_left w a' k)
left_mono w a a' h k i = keeps_if (nat_lt i w) (keeps_cases {o = Some false} {o' = Some false} (nat_lt i k) (λ z e. e) (h (i - k)))

pub right_mono : (w : ℕ) (a a' : Bits) → RefinesBits a a' → (k : ℕ) → RefinesBits (shift_right w a k) (shift_right w a' k)
right_mono w a a' h k i = keeps_if (nat_lt i w) (keeps_cases {z = Some false} {z' = Some false} (nat_lt (i + k) w) (h (i + k)) (λ z e. e))

pub signed_mono : (w : ℕ) (a a' : Bits) → RefinesBits a a' → (k : ℕ) → RefinesBits (shift_right_signed w a k) (shift_right_signed w a' k)
signed_mono w a a' h k i = keeps_if (nat_lt i w) (keeps_cases (nat_lt (i + k) w) (h (i + k)) (h (w - 1)))

pub zero_mono : (v w : ℕ) (a a' : Bits) → RefinesBits a a' → RefinesBits (zero_extended v w a) (zero_extended v w a')
zero_mono v w a a' h i = keeps_if (nat_lt i w) (keeps_cases {z = Some false} {z' = Some false} (nat_lt i v) (h i) (λ z e. e))

pub sign_mono : (v w : ℕ) (a a' : Bits) → RefinesBits a a' → RefinesBits (sign_extended v w a) (sign_extended v w a')
sign_mono v w a a' h i = keeps_if (nat_lt i w) (keeps_cases (nat_lt i v) (h i) (h (v - 1)))

pub chosen_mono : (x x' : Option Bool) (a a' b b' : Bits) → Keeps x x' → RefinesBits a a' → RefinesBits b b' → RefinesBits (chosen x a b) (chosen x' a' b')
chosen_mono None x' a a' b b' h p q i = λ z e. absurd (let bad : ⊥ = cc in bad)
chosen_mono (Some true) x' a a' b b' h p q i = rw (h true refl) (p i)
chosen_mono (Some false) x' a a' b b' h p q i = rw (h false refl) (q i)

pub nothing : RefinesBits free free
nothing i z e = e
