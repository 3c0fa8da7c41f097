-- What operations do to bits, each of which is 0, 1 or free.
use Rattle.std.specs.Prelude.{ℕ, zero, suc, ◌+◌, ◌-◌, ◌*◌, ◌/◌, ◌%◌, ◌^◌, ◌==◌, Bool, true, false, not, nat_lt, List, [], ◌∷◌, slice_index_or, int_div, int_rem, Option, Some, None, if◌then◌else◌}
use Rattle.rj_num.specs.Width.{signed, modulo}
use Rattle.ir_core.specs.declared.code.Pred.{Pred}
use Rattle.ir_core.specs.declared.code.Pred.TheVariants.{Eq, Ne, Ugt, Uge, Ult, Ule, Sgt, Sge, Slt, Sle}
use Rattle.ir_meaning.specs.Operators.{holds, bit}
use Rattle.walks.specs.Walk.{Bits}

abbrev pub free : Bits
free i = None

-- whether a bit of a number is 1
abbrev pub bit_of : ℕ → ℕ → Bool
bit_of n i = n / 2 ^ i % 2 == 1

-- the low bits, so many
abbrev pub cut : ℕ → Bits → Bits
cut w a i = if nat_lt i w then a i else None

-- the bits of a number, so many
abbrev pub constant : ℕ → ℕ → Bits
constant w n i = if nat_lt i w then Some (bit_of n i) else None

abbrev pub with_bit : ℕ → Option ℕ → Option Bool → Option ℕ
with_bit w None bit = None
with_bit w (Some n) None = None
with_bit w (Some n) (Some bit) = Some (if bit then n + 2 ^ w else n)

-- the number of the low bits, where none of them is free
abbrev pub number : ℕ → Bits → Option ℕ
number zero a = Some 0
number (suc w) a = with_bit w (number w a) (a w)

abbrev pub on_both : {B : Type 0} → (ℕ → ℕ → Option B) → Option ℕ → Option ℕ → Option B
on_both f None b = None
on_both f (Some m) None = None
on_both f (Some m) (Some n) = f m n

-- exact below the lowest free bit, and free from it on: a bit asks for no bit above it
abbrev pub low_exact : (ℕ → ℕ → ℕ → ℕ) → ℕ → Bits → Bits → Bits
low_exact f w a b i =
    if nat_lt i w then on_both (λ m n. Some (bit_of (f (suc i) m n) i)) (number (suc i) a) (number (suc i) b) else None

-- a number of all the bits of two operands, or free
abbrev pub whole : (ℕ → ℕ → ℕ) → ℕ → ℕ → Bits → Bits → Bits
whole f v w a b i = if nat_lt i w then on_both (λ m n. Some (bit_of (f m n) i)) (number v a) (number v b) else None

abbrev pub and_bit : Option Bool → Option Bool → Option Bool
and_bit (Some false) b = Some false
and_bit (Some true) b = b
and_bit None (Some false) = Some false
and_bit None (Some true) = None
and_bit None None = None

abbrev pub or_bit : Option Bool → Option Bool → Option Bool
or_bit (Some true) b = Some true
or_bit (Some false) b = b
or_bit None (Some true) = Some true
or_bit None (Some false) = None
or_bit None None = None

abbrev pub xor_bit : Option Bool → Option Bool → Option Bool
xor_bit (Some true) (Some b) = Some (not b)
xor_bit (Some false) (Some b) = Some b
xor_bit (Some a) None = None
xor_bit None b = None

abbrev pub bitwise : (Option Bool → Option Bool → Option Bool) → ℕ → Bits → Bits → Bits
bitwise f w a b i = if nat_lt i w then f (a i) (b i) else None

-- shifted where the amount is known and below the width
abbrev pub shifted : (ℕ → Bits) → ℕ → Option ℕ → Bits
shifted f w None i = None
shifted f w (Some k) i = if nat_lt k w then f k i else None

abbrev pub shift_left : ℕ → Bits → ℕ → Bits
shift_left w a k i = if nat_lt i w then (if nat_lt i k then Some false else a (i - k)) else None

abbrev pub shift_right : ℕ → Bits → ℕ → Bits
shift_right w a k i = if nat_lt i w then (if nat_lt (i + k) w then a (i + k) else Some false) else None

abbrev pub shift_right_signed : ℕ → Bits → ℕ → Bits
shift_right_signed w a k i = if nat_lt i w then (if nat_lt (i + k) w then a (i + k) else a (w - 1)) else None

-- the low v bits, and zeros above them
abbrev pub zero_extended : ℕ → ℕ → Bits → Bits
zero_extended v w a i = if nat_lt i w then (if nat_lt i v then a i else Some false) else None

-- the low v bits, and copies of the highest of them above
abbrev pub sign_extended : ℕ → ℕ → Bits → Bits
sign_extended v w a i = if nat_lt i w then (if nat_lt i v then a i else a (v - 1)) else None

abbrev pub chosen : Option Bool → Bits → Bits → Bits
chosen None a b i = None
chosen (Some true) a b i = a i
chosen (Some false) a b i = b i

-- ---- sums, differences and products, of which the low bits ask for low bits alone

abbrev pub add_low : ℕ → ℕ → ℕ → ℕ
add_low w m n = m + n

abbrev pub sub_low : ℕ → ℕ → ℕ → ℕ
sub_low w m n = (m + 2 ^ w) - n

abbrev pub mul_low : ℕ → ℕ → ℕ → ℕ
mul_low w m n = m * n

-- ---- quotients towards zero and remainders with the dividend's sign, modulo two to the width

abbrev pub divide_signed : ℕ → ℕ → ℕ → ℕ
divide_signed w m n = modulo w (int_div (signed w m) (signed w n))

abbrev pub rest_signed : ℕ → ℕ → ℕ → ℕ
rest_signed w m n = modulo w (int_rem (signed w m) (signed w n))

-- ---- comparisons

-- the predicates by their places
abbrev pub predicates : List Pred
predicates = Eq ∷ Ne ∷ Ugt ∷ Uge ∷ Ult ∷ Ule ∷ Sgt ∷ Sge ∷ Slt ∷ Sle ∷ []

-- whether two numbers of a width compare by the predicate at this place: 1 or 0
abbrev pub compared : ℕ → ℕ → ℕ → ℕ → ℕ
compared w place m n = bit (holds (slice_index_or predicates place Eq) w m n)
