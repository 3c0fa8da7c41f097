-- What operations, loads and stores of target code do to registers of 64 bits, each of which is 0, 1 or free.
use Rattle.std.specs.Prelude.{◌≢◌, ℕ, ◌/◌, ◌%◌, ℤ, Bool, Option, Some, None}
use Rattle.rv_core.specs.declared.instr.BranchOp.{BranchOp}
use Rattle.rv_core.specs.declared.instr.ImmOp.{ImmOp}
use Rattle.rv_core.specs.declared.instr.RegOp.{RegOp}
use Rattle.rv_core.specs.declared.instr.RegOp.TheVariants.{Add, Sub, Sll, Slt, Sltu, Xor, Srl, Sra, Or, And, Mul, Mulh, Mulhsu, Mulhu, Div, Divu, Rem, Remu, Addw, Subw, Sllw, Srlw, Sraw, Mulw, Divw, Divuw, Remw, Remuw}
use Rattle.rv_core.specs.declared.instr.LoadOp.{LoadOp}
use Rattle.rv_core.specs.declared.instr.LoadOp.TheVariants.{Lb, Lh, Lw, Ld, Lbu, Lhu, Lwu}
use Rattle.rv_core.specs.declared.instr.StoreOp.{StoreOp}
use Rattle.rv_core.specs.declared.instr.StoreOp.TheVariants.{Sb, Sh, Sw, Sd}
use Rattle.rv_core.specs.Step.{op_value, register_form, is_taken, modulo, plus}
use Rattle.walks.specs.Walk.{Bits}
use Rattle.walks.specs.Bits.{cut, constant, number, on_both, low_exact, whole, and_bit, or_bit, xor_bit, bitwise, shifted, shift_left, shift_right, shift_right_signed, zero_extended, sign_extended, add_low, sub_low, mul_low, divide_signed, rest_signed}

-- ---- operations

-- the result of a W form: 32 bits, extended by their sign
abbrev pub word : Bits → Bits
word a = sign_extended 32 64 a

-- quotients and remainders of the low bits, so many; a divisor 0 is told apart by the step
abbrev pub quotient : ℕ → Bits → Bits → Bits
quotient w a b = whole (divide_signed w) w w a b

abbrev pub quotient_unsigned : ℕ → Bits → Bits → Bits
quotient_unsigned w a b = whole (λ m n. m / n) w w a b

abbrev pub remainder : ℕ → Bits → Bits → Bits
remainder w a b = whole (rest_signed w) w w a b

abbrev pub remainder_unsigned : ℕ → Bits → Bits → Bits
remainder_unsigned w a b = whole (λ m n. m % n) w w a b

-- What an operation gives. Sums, differences and products are exact below the lowest free bit, and, or and xor go bit by bit. A shift
-- takes the low six bits of its amount. A W form is the same operation on the low 32 bits, a shift by the low five bits of its amount,
-- and its 32 bits are extended by their sign. In the others a free bit of an operand frees the result.
abbrev pub value : RegOp → Bits → Bits → Bits
value Add a b = low_exact add_low 64 a b
value Sub a b = low_exact sub_low 64 a b
value Mul a b = low_exact mul_low 64 a b
value And a b = bitwise and_bit 64 a b
value Or a b = bitwise or_bit 64 a b
value Xor a b = bitwise xor_bit 64 a b
value Sll a b = shifted (shift_left 64 a) 64 (number 6 b)
value Srl a b = shifted (shift_right 64 a) 64 (number 6 b)
value Sra a b = shifted (shift_right_signed 64 a) 64 (number 6 b)
value Div a b = quotient 64 a b
value Divu a b = quotient_unsigned 64 a b
value Rem a b = remainder 64 a b
value Remu a b = remainder_unsigned 64 a b
value Slt a b = whole (op_value Slt) 64 64 a b
value Sltu a b = whole (op_value Sltu) 64 64 a b
value Mulh a b = whole (op_value Mulh) 64 64 a b
value Mulhsu a b = whole (op_value Mulhsu) 64 64 a b
value Mulhu a b = whole (op_value Mulhu) 64 64 a b
value Addw a b = word (low_exact add_low 32 a b)
value Subw a b = word (low_exact sub_low 32 a b)
value Mulw a b = word (low_exact mul_low 32 a b)
value Sllw a b = word (shifted (shift_left 32 a) 32 (number 5 b))
value Srlw a b = word (shifted (shift_right 32 a) 32 (number 5 b))
value Sraw a b = word (shifted (shift_right_signed 32 a) 32 (number 5 b))
value Divw a b = word (quotient 32 a b)
value Divuw a b = word (quotient_unsigned 32 a b)
value Remw a b = word (remainder 32 a b)
value Remuw a b = word (remainder_unsigned 32 a b)

-- what an operation with an immediate gives
abbrev pub immediate_value : ImmOp → Bits → ℤ → Bits
immediate_value op a n = value (register_form op) a (constant 64 (modulo n))

-- the divisor that an operation asks to be known and not 0: all of it, or its low word
abbrev pub divisor : RegOp → Bits → Option (Option ℕ)
divisor Div b = Some (number 64 b)
divisor Divu b = Some (number 64 b)
divisor Rem b = Some (number 64 b)
divisor Remu b = Some (number 64 b)
divisor Divw b = Some (number 32 b)
divisor Divuw b = Some (number 32 b)
divisor Remw b = Some (number 32 b)
divisor Remuw b = Some (number 32 b)
divisor _ b = None

-- whether a branch is taken, where all bits of both registers are known
abbrev pub taken : BranchOp → Bits → Bits → Option Bool
taken op a b = on_both (λ m n. Some (is_taken op m n)) (number 64 a) (number 64 b)

-- ---- data memory

abbrev pub moved_by : ℤ → Option ℕ → Option ℕ
moved_by offset None = None
moved_by offset (Some n) = Some (plus n offset)

-- an address, where all bits of the register are known
abbrev pub address : Bits → ℤ → Option ℕ
address a offset = moved_by offset (number 64 a)

abbrev pub load_size : LoadOp → ℕ
load_size Lb = 1
load_size Lh = 2
load_size Lw = 4
load_size Ld = 8
load_size Lbu = 1
load_size Lhu = 2
load_size Lwu = 4

-- the loaded bits, extended to the register's width
abbrev pub extended : LoadOp → Bits → Bits
extended Lb a = sign_extended 8 64 a
extended Lh a = sign_extended 16 64 a
extended Lw a = sign_extended 32 64 a
extended Ld a = cut 64 a
extended Lbu a = zero_extended 8 64 a
extended Lhu a = zero_extended 16 64 a
extended Lwu a = zero_extended 32 64 a

abbrev pub store_size : StoreOp → ℕ
store_size Sb = 1
store_size Sh = 2
store_size Sw = 4
store_size Sd = 8

-- a division's divisor is known and not 0
abbrev pub MayDivide : Option (Option ℕ) → Type 0
MayDivide None = Unit {0}
MayDivide (Some None) = ⊥
MayDivide (Some (Some n)) = n ≢ 0
