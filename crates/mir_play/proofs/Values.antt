-- What operations and loads give is the same where more bits are known.
use Rattle.std.proofs.Common.{refl, ℕ, ℤ, Option, Some, None, ◌/◌, ◌%◌}
use Rattle.rv_core.specs.declared.instr.BranchOp.{BranchOp}
use Rattle.rv_core.specs.declared.instr.ImmOp.{ImmOp}
use Rattle.rv_core.specs.declared.instr.RegOp.{RegOp}
use Rattle.rv_core.specs.declared.instr.RegOp.TheVariants.{Add, Sub, Sll, Slt, Sltu, Xor, Srl, Sra, Or, And, Mul, Mulh, Mulhsu, Mulhu, Div, Divu, Rem, Remu, Addw, Subw, Sllw, Srlw, Sraw, Mulw, Divw, Divuw, Remw, Remuw}
use Rattle.rv_core.specs.declared.instr.LoadOp.{LoadOp}
use Rattle.rv_core.specs.declared.instr.LoadOp.TheVariants.{Lb, Lh, Lw, Ld, Lbu, Lhu, Lwu}
use Rattle.rv_core.specs.Step.{op_value, register_form, is_taken, modulo}
use Rattle.walks.specs.Walk.{Bits}
use Rattle.walks.specs.Bits.{constant, number, and_bit, or_bit, xor_bit, shifted, shift_left, shift_right, shift_right_signed, add_low, sub_low, mul_low, divide_signed, rest_signed}
use Rattle.walks.specs.Refines.{RefinesBits}
use Rattle.walks.proofs.Monotone.{Keeps, keeps_number, keeps_both, cut_mono, low_mono, whole_mono, keeps_and, keeps_or, keeps_xor, bitwise_mono, shifted_mono, left_mono, right_mono, signed_mono, zero_mono, sign_mono}
use Rattle.mir_play.specs.Values.{word, value, immediate_value, divisor, taken, moved_by, address, extended}

word_mono : (a a' : Bits) → RefinesBits a a' → RefinesBits (word a) (word a')
word_mono a a' p = sign_mono 32 64 a a' p

module _ (a a' b b' : Bits) (p : RefinesBits a a') (q : RefinesBits b b') where
  left : (w n : ℕ) → RefinesBits (shifted (shift_left w a) w (number n b)) (shifted (shift_left w a') w (number n b'))
  left w n = shifted_mono (shift_left w a) (shift_left w a') w (number n b) (number n b') (left_mono w a a' p) (keeps_number n b b' q)

  right : (w n : ℕ) → RefinesBits (shifted (shift_right w a) w (number n b)) (shifted (shift_right w a') w (number n b'))
  right w n = shifted_mono (shift_right w a) (shift_right w a') w (number n b) (number n b') (right_mono w a a' p) (keeps_number n b b' q)

  right_signed : (w n : ℕ) → RefinesBits (shifted (shift_right_signed w a) w (number n b)) (shifted (shift_right_signed w a') w (number n b'))
  right_signed w n = shifted_mono (shift_right_signed w a) (shift_right_signed w a') w (number n b) (number n b') (signed_mono w a a' p) (keeps_number n b b' q)

  pub value_mono : (op : RegOp) → RefinesBits (value op a b) (value op a' b')
  value_mono Add = low_mono add_low 64 a a' b b' p q
  value_mono Sub = low_mono sub_low 64 a a' b b' p q
  value_mono Mul = low_mono mul_low 64 a a' b b' p q
  value_mono And = bitwise_mono and_bit keeps_and 64 a a' b b' p q
  value_mono Or = bitwise_mono or_bit keeps_or 64 a a' b b' p q
  value_mono Xor = bitwise_mono xor_bit keeps_xor 64 a a' b b' p q
  value_mono Sll = left 64 6
  value_mono Srl = right 64 6
  value_mono Sra = right_signed 64 6
  value_mono Div = whole_mono (divide_signed 64) 64 64 a a' b b' p q
  value_mono Divu = whole_mono (λ m n. m / n) 64 64 a a' b b' p q
  value_mono Rem = whole_mono (rest_signed 64) 64 64 a a' b b' p q
  value_mono Remu = whole_mono (λ m n. m % n) 64 64 a a' b b' p q
  value_mono Slt = whole_mono (op_value Slt) 64 64 a a' b b' p q
  value_mono Sltu = whole_mono (op_value Sltu) 64 64 a a' b b' p q
  value_mono Mulh = whole_mono (op_value Mulh) 64 64 a a' b b' p q
  value_mono Mulhsu = whole_mono (op_value Mulhsu) 64 64 a a' b b' p q
  value_mono Mulhu = whole_mono (op_value Mulhu) 64 64 a a' b b' p q
  value_mono Addw = word_mono _ _ (low_mono add_low 32 a a' b b' p q)
  value_mono Subw = word_mono _ _ (low_mono sub_low 32 a a' b b' p q)
  value_mono Mulw = word_mono _ _ (low_mono mul_low 32 a a' b b' p q)
  value_mono Sllw = word_mono _ _ (left 32 5)
  value_mono Srlw = word_mono _ _ (right 32 5)
  value_mono Sraw = word_mono _ _ (right_signed 32 5)
  value_mono Divw = word_mono _ _ (whole_mono (divide_signed 32) 32 32 a a' b b' p q)
  value_mono Divuw = word_mono _ _ (whole_mono (λ m n. m / n) 32 32 a a' b b' p q)
  value_mono Remw = word_mono _ _ (whole_mono (rest_signed 32) 32 32 a a' b b' p q)
  value_mono Remuw = word_mono _ _ (whole_mono (λ m n. m % n) 32 32 a a' b b' p q)

  pub taken_keeps : (op : BranchOp) → Keeps (taken op a b) (taken op a' b')
  taken_keeps op = keeps_both (λ m n. Some (is_taken op m n)) (number 64 a) (number 64 a') (number 64 b) (number 64 b') (keeps_number 64 a a' p) (keeps_number 64 b b' q)

pub immediate_mono : (op : ImmOp) (a a' : Bits) (n : ℤ) → RefinesBits a a' → RefinesBits (immediate_value op a n) (immediate_value op a' n)
immediate_mono op a a' n p = value_mono a a' (constant 64 (modulo n)) (constant 64 (modulo n)) p (λ i bit e. e) (register_form op)

pub extended_mono : (op : LoadOp) (a a' : Bits) → RefinesBits a a' → RefinesBits (extended op a) (extended op a')
extended_mono Lb a a' p = sign_mono 8 64 a a' p
extended_mono Lh a a' p = sign_mono 16 64 a a' p
extended_mono Lw a a' p = sign_mono 32 64 a a' p
extended_mono Ld a a' p = cut_mono 64 a a' p
extended_mono Lbu a a' p = zero_mono 8 64 a a' p
extended_mono Lhu a a' p = zero_mono 16 64 a a' p
extended_mono Lwu a a' p = zero_mono 32 64 a a' p

moved_keeps : (offset : ℤ) (o o' : Option ℕ) → Keeps o o' → Keeps (moved_by offset o) (moved_by offset o')
moved_keeps offset None o' h = λ n e. absurd (let bad : ⊥ = cc in bad)
moved_keeps offset (Some m) o' h = rw (h m refl) (λ n e. e)

pub address_keeps : (a a' : Bits) (offset : ℤ) → RefinesBits a a' → Keeps (address a offset) (address a' offset)
address_keeps a a' offset p = moved_keeps offset (number 64 a) (number 64 a') (keeps_number 64 a a' p)

-- the divisors that operations ask for: the same ones, known where they were
abbrev pub DivisorKept : Option (Option ℕ) → Option (Option ℕ) → Type 0
DivisorKept None None = Unit {0}
DivisorKept None (Some o') = ⊥
DivisorKept (Some o) None = ⊥
DivisorKept (Some o) (Some o') = Keeps o o'

pub divisor_kept : (op : RegOp) (b b' : Bits) → RefinesBits b b' → DivisorKept (divisor op b) (divisor op b')
divisor_kept Div b b' q = keeps_number 64 b b' q
divisor_kept Divu b b' q = keeps_number 64 b b' q
divisor_kept Rem b b' q = keeps_number 64 b b' q
divisor_kept Remu b b' q = keeps_number 64 b b' q
divisor_kept Divw b b' q = keeps_number 32 b b' q
divisor_kept Divuw b b' q = keeps_number 32 b b' q
divisor_kept Remw b b' q = keeps_number 32 b b' q
divisor_kept Remuw b b' q = keeps_number 32 b b' q
divisor_kept Add b b' q = tt
divisor_kept Sub b b' q = tt
divisor_kept Sll b b' q = tt
divisor_kept Slt b b' q = tt
divisor_kept Sltu b b' q = tt
divisor_kept Xor b b' q = tt
divisor_kept Srl b b' q = tt
divisor_kept Sra b b' q = tt
divisor_kept Or b b' q = tt
divisor_kept And b b' q = tt
divisor_kept Mul b b' q = tt
divisor_kept Mulh b b' q = tt
divisor_kept Mulhsu b b' q = tt
divisor_kept Mulhu b b' q = tt
divisor_kept Addw b b' q = tt
divisor_kept Subw b b' q = tt
divisor_kept Sllw b b' q = tt
divisor_kept Srlw b b' q = tt
divisor_kept Sraw b b' q = tt
divisor_kept Mulw b b' q = tt
