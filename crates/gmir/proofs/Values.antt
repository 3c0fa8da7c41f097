-- What an instruction computes is the same where more bits are known.
use Rattle.std.proofs.Common.{ℕ, ◌/◌, ◌%◌}
use Rattle.walks.specs.Walk.{Bits}
use Rattle.walks.specs.Refines.{RefinesBits}
use Rattle.walks.specs.Bits.{cut, number, and_bit, or_bit, xor_bit, shift_left, shift_right, shift_right_signed, chosen, add_low, sub_low, mul_low, divide_signed, rest_signed, compared}
use Rattle.gmir.specs.declared.code.GOp.{GOp}
use Rattle.gmir.specs.declared.code.GOp.TheVariants.{Add, Sub, Mul, UDiv, SDiv, URem, SRem, And, Or, Xor, Shl, LShr, AShr, Icmp, Select, Trunc, ZExt, SExt, AnyExt, SExtInReg, PtrToInt, IntToPtr, PtrAdd, Constant, Phi, Load, Store, Br, BrCond, Param, Call, Return, TakeData, CopyBytes, FillBytes, Copy, Trap}
use Rattle.gmir.specs.Play.{value}
use Rattle.walks.proofs.Monotone.{keeps_number, cut_mono, low_mono, whole_mono, keeps_and, keeps_or, keeps_xor, bitwise_mono, shifted_mono, left_mono, right_mono, signed_mono, zero_mono, sign_mono, chosen_mono, nothing}

pub value_mono : (op : GOp) (w v u n : ℕ) (a a' b b' c c' : Bits) → RefinesBits a a' → RefinesBits b b' → RefinesBits c c' → RefinesBits (value op w v u n a b c) (value op w v u n a' b' c')
value_mono Add w v u n a a' b b' c c' p q r = low_mono add_low w a a' b b' p q
value_mono Sub w v u n a a' b b' c c' p q r = low_mono sub_low w a a' b b' p q
value_mono Mul w v u n a a' b b' c c' p q r = low_mono mul_low w a a' b b' p q
value_mono UDiv w v u n a a' b b' c c' p q r = whole_mono (λ x y. x / y) w w a a' b b' p q
value_mono SDiv w v u n a a' b b' c c' p q r = whole_mono (divide_signed w) w w a a' b b' p q
value_mono URem w v u n a a' b b' c c' p q r = whole_mono (λ x y. x % y) w w a a' b b' p q
value_mono SRem w v u n a a' b b' c c' p q r = whole_mono (rest_signed w) w w a a' b b' p q
value_mono And w v u n a a' b b' c c' p q r = bitwise_mono and_bit keeps_and w a a' b b' p q
value_mono Or w v u n a a' b b' c c' p q r = bitwise_mono or_bit keeps_or w a a' b b' p q
value_mono Xor w v u n a a' b b' c c' p q r = bitwise_mono xor_bit keeps_xor w a a' b b' p q
value_mono Shl w v u n a a' b b' c c' p q r = shifted_mono (shift_left w a) (shift_left w a') w (number u b) (number u b') (left_mono w a a' p) (keeps_number u b b' q)
value_mono LShr w v u n a a' b b' c c' p q r = shifted_mono (shift_right w a) (shift_right w a') w (number u b) (number u b') (right_mono w a a' p) (keeps_number u b b' q)
value_mono AShr w v u n a a' b b' c c' p q r = shifted_mono (shift_right_signed w a) (shift_right_signed w a') w (number u b) (number u b') (signed_mono w a a' p) (keeps_number u b b' q)
value_mono Icmp w v u n a a' b b' c c' p q r = whole_mono (compared v n) v w a a' b b' p q
value_mono Select w v u n a a' b b' c c' p q r = cut_mono w (chosen (a 0) b c) (chosen (a' 0) b' c') (chosen_mono (a 0) (a' 0) b b' c c' (p 0) q r)
value_mono Trunc w v u n a a' b b' c c' p q r = cut_mono w a a' p
value_mono ZExt w v u n a a' b b' c c' p q r = zero_mono v w a a' p
value_mono SExt w v u n a a' b b' c c' p q r = sign_mono v w a a' p
value_mono AnyExt w v u n a a' b b' c c' p q r = cut_mono w (cut v a) (cut v a') (cut_mono v a a' p)
value_mono SExtInReg w v u n a a' b b' c c' p q r = sign_mono n w a a' p
value_mono PtrToInt w v u n a a' b b' c c' p q r = zero_mono v w a a' p
value_mono IntToPtr w v u n a a' b b' c c' p q r = zero_mono v w a a' p
value_mono PtrAdd w v u n a a' b b' c c' p q r = low_mono add_low w a a' b b' p q
value_mono Constant w v u n a a' b b' c c' p q r = λ i z e. e
value_mono Copy w v u n a a' b b' c c' p q r = cut_mono w a a' p
value_mono Phi w v u n a a' b b' c c' p q r = nothing
value_mono Load w v u n a a' b b' c c' p q r = nothing
value_mono Store w v u n a a' b b' c c' p q r = nothing
value_mono Br w v u n a a' b b' c c' p q r = nothing
value_mono BrCond w v u n a a' b b' c c' p q r = nothing
value_mono Param w v u n a a' b b' c c' p q r = nothing
value_mono Call w v u n a a' b b' c c' p q r = nothing
value_mono Return w v u n a a' b b' c c' p q r = nothing
value_mono TakeData w v u n a a' b b' c c' p q r = nothing
value_mono CopyBytes w v u n a a\' b b\' c c\' p q r = nothing
value_mono FillBytes w v u n a a\' b b\' c c\' p q r = nothing
value_mono Trap w v u n a a' b b' c c' p q r = nothing
