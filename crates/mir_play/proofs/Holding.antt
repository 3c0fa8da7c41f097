-- What is known of values is so on the machine, whatever the free bits are.
use Rattle.std.proofs.Common.{◌≡◌, refl, sym, ap, subst, ◌∙◌, ℕ, ◌^◌, ◌<◌, ◌≤◌, ⊎_elim, Bool, true, false, Option, Some, None, arith, mod-eq_of_lt}
use Rattle.std.specs.Prelude.{ℤ, pos, negsuc, nat_lt, if◌then◌else◌, unwrap_or}
use Rattle.std.proofs.lemmas.Bool.{cases_lt, le-ltb}
use Rattle.rv_core.specs.declared.instr.BranchOp.{BranchOp}
use Rattle.rv_core.specs.declared.instr.ImmOp.{ImmOp}
use Rattle.rv_core.specs.declared.instr.ImmOp.TheVariants.{Addi, Slti, Sltiu, Xori, Ori, Andi, Slli, Srli, Srai, Addiw, Slliw, Srliw, Sraiw}
use Rattle.rv_core.specs.declared.instr.RegOp.{RegOp}
use Rattle.rv_core.specs.declared.instr.RegOp.TheVariants.{Add, Sub, Sll, Slt, Sltu, Xor, Srl, Sra, Or, And, Mul, Mulh, Mulhsu, Mulhu, Div, Divu, Rem, Remu, Addw, Subw, Sllw, Srlw, Sraw, Mulw, Divw, Divuw, Remw, Remuw}
use Rattle.rv_core.specs.Step.{op_value, register_form, is_taken, modulo, plus}
use Rattle.walks.specs.Walk.{Bits}
use Rattle.walks.specs.Bits.{constant, number, on_both, shifted, shift_left, shift_right, shift_right_signed}
use Rattle.walks.specs.Refines.{RefinesBits}
use Rattle.walks.proofs.Numbers.{number_constant}
use Rattle.mir_play.specs.Values.{value, immediate_value, divisor, MayDivide, taken, moved_by, address}
use Rattle.mir_play.specs.Machine.{IsHeld, ValuesHold}
use Rattle.mir_play.proofs.Values.{value_mono, taken_keeps, address_keeps, DivisorKept, divisor_kept}
use Rattle.mir_play.proofs.Machine.{bit_is, machine_is}

nothing : {A B : Type 0} (x : A) → None ≡ Some x → B
nothing x e = absurd (let bad : ⊥ = cc in bad)

-- ---- no value has a bit above the 64 of a register

shifts_none : (f : ℕ → Bits) (i : ℕ) → ((k : ℕ) → f k i ≡ None) → (o : Option ℕ) → shifted f 64 o i ≡ None
shifts_none f i h None = refl
shifts_none f i h (Some k) = by_test (nat_lt k 64)
  where
    by_test : (b : Bool) → (if b then f k i else None) ≡ None
    by_test true = h k
    by_test false = refl

module _ (a b : Bits) (i : ℕ) (h : 64 ≤ i) where
  past : nat_lt i 64 ≡ false
  past = le-ltb i 64 h

  pub none_above : (op : RegOp) → value op a b i ≡ None
  none_above Add = rw past refl
  none_above Sub = rw past refl
  none_above Mul = rw past refl
  none_above And = rw past refl
  none_above Or = rw past refl
  none_above Xor = rw past refl
  none_above Sll = shifts_none (shift_left 64 a) i (λ k. rw past refl) (number 6 b)
  none_above Srl = shifts_none (shift_right 64 a) i (λ k. rw past refl) (number 6 b)
  none_above Sra = shifts_none (shift_right_signed 64 a) i (λ k. rw past refl) (number 6 b)
  none_above Div = rw past refl
  none_above Divu = rw past refl
  none_above Rem = rw past refl
  none_above Remu = rw past refl
  none_above Slt = rw past refl
  none_above Sltu = rw past refl
  none_above Mulh = rw past refl
  none_above Mulhsu = rw past refl
  none_above Mulhu = rw past refl
  none_above Addw = rw past refl
  none_above Subw = rw past refl
  none_above Mulw = rw past refl
  none_above Sllw = rw past refl
  none_above Srlw = rw past refl
  none_above Sraw = rw past refl
  none_above Divw = rw past refl
  none_above Divuw = rw past refl
  none_above Remw = rw past refl
  none_above Remuw = rw past refl

-- ---- operations

may_divide : (o o' : Option (Option ℕ)) → DivisorKept o o' → MayDivide o → MayDivide o'
may_divide None None k d = tt
may_divide None (Some o') k d = absurd k
may_divide (Some o) None k d = absurd k
may_divide (Some None) (Some o') k d = absurd d
may_divide (Some (Some n)) (Some o') k d = subst (λ (z : Option ℕ). MayDivide (Some z)) (sym (k n refl)) d

operations : (op : RegOp) (a b : Bits) (m n : ℕ) → IsHeld a m → IsHeld b n → MayDivide (divisor op b) → RefinesBits (value op a b) (constant 64 (op_value op m n))
operations op a b m n p q d i bit e = ⊎_elim below above (cases_lt i 64)
  where
    known : value op (constant 64 m) (constant 64 n) i ≡ Some bit
    known = value_mono a (constant 64 m) b (constant 64 n) p.bits q.bits op i bit e

    below : i < 64 → constant 64 (op_value op m n) i ≡ Some bit
    below l =
        let may : MayDivide (divisor op (constant 64 n)) = may_divide (divisor op b) (divisor op (constant 64 n)) (divisor_kept op b (constant 64 n) q.bits) d in
        bit_is (op_value op m n) i l ∙ sym (machine_is m n p.low q.low op may i l) ∙ known

    above : 64 ≤ i → constant 64 (op_value op m n) i ≡ Some bit
    above l = nothing bit (sym (none_above (constant 64 m) (constant 64 n) i l op) ∙ known)

-- ---- immediates, branches and addresses

modulo_below : (k : ℤ) → modulo k < 2 ^ 64
modulo_below (pos k) = omega arith
modulo_below (negsuc k) = omega arith

immediate_divides : (op : ImmOp) (b : Bits) → MayDivide (divisor (register_form op) b)
immediate_divides Addi b = tt
immediate_divides Slti b = tt
immediate_divides Sltiu b = tt
immediate_divides Xori b = tt
immediate_divides Ori b = tt
immediate_divides Andi b = tt
immediate_divides Slli b = tt
immediate_divides Srli b = tt
immediate_divides Srai b = tt
immediate_divides Addiw b = tt
immediate_divides Slliw b = tt
immediate_divides Srliw b = tt
immediate_divides Sraiw b = tt

immediates : (op : ImmOp) (a : Bits) (m : ℕ) (k : ℤ) → IsHeld a m → RefinesBits (immediate_value op a k) (constant 64 (op_value (register_form op) m (modulo k)))
immediates op a m k p =
    operations (register_form op) a (constant 64 (modulo k)) m (modulo k) p (record { low = modulo_below k; bits = λ i bit e. e })
    (immediate_divides op (constant 64 (modulo k)))

-- the number of all bits
all_bits : (m : ℕ) → m < 2 ^ 64 → number 64 (constant 64 m) ≡ Some m
all_bits m h = number_constant 64 64 m (omega arith) ∙ ap Some (mod-eq_of_lt h)

same : {A : Type 0} (x y : A) → Some x ≡ Some y → x ≡ y
same x y e = ap (λ o. unwrap_or o x) e

branches : (op : BranchOp) (a b : Bits) (m n : ℕ) (t : Bool) → IsHeld a m → IsHeld b n → taken op a b ≡ Some t → is_taken op m n ≡ t
branches op a b m n t p q e =
    let known : taken op (constant 64 m) (constant 64 n) ≡ Some t = taken_keeps a (constant 64 m) b (constant 64 n) p.bits q.bits op t e in
    let f : ℕ → ℕ → Option Bool = λ x y. Some (is_taken op x y) in
    let is : taken op (constant 64 m) (constant 64 n) ≡ Some (is_taken op m n) =
    ap (λ o. on_both f o (number 64 (constant 64 n))) (all_bits m p.low) ∙ ap (on_both f (Some m)) (all_bits n q.low) in
    same (is_taken op m n) t (sym is ∙ known)

addresses : (a : Bits) (m at : ℕ) (offset : ℤ) → IsHeld a m → address a offset ≡ Some at → plus m offset ≡ at
addresses a m at offset p e =
    let known : address (constant 64 m) offset ≡ Some at = address_keeps a (constant 64 m) offset p.bits at e in
    let is : address (constant 64 m) offset ≡ Some (plus m offset) = ap (moved_by offset) (all_bits m p.low) in
    same (plus m offset) at (sym is ∙ known)

pub values_hold : ValuesHold
values_hold = record { operations = operations; immediates = immediates; branches = branches; addresses = addresses }
