-- Comparisons, casts and choices of a width up to 64.
use Rattle.std.proofs.Common.{◌≡◌, ◌≢◌, refl, sym, ap, ap₂, subst, ◌∙◌, ℕ, zero, suc, ◌+◌, ◌-◌, ◌%◌, ◌^◌, ◌<◌, ◌≤◌, ⊎_elim, List, [], ◌∷◌, ◌++◌, Some, Bool, true, false, cond, not, arith, mod-eq_of_lt}
use Rattle.std.specs.Prelude.{◌==◌, nat_lt, nat_le, pos, int_lt, int_le, bit_xor}
use Rattle.std.proofs.lemmas.Bool.{cases_lt, cases_eq, ne_eqb, eq-eqb, lt-ltb, le-ltb, lt-leb, le-leb}
use lib.Bits.{xor_self, xor_assoc, xor_zero_r}
use Rattle.ir_core.specs.declared.code.Flags.{Flags}
use Rattle.ir_core.specs.declared.code.Pred.{Pred}
use Rattle.ir_core.specs.declared.code.Pred.TheVariants as pred
use Rattle.ir_core.specs.declared.code.CastOp.{CastOp}
use Rattle.ir_core.specs.declared.code.CastOp.TheVariants as cast
use Rattle.rv_core.specs.declared.reg.Reg.TheVariants.{X0, T0, T1}
use Rattle.rv_core.specs.declared.instr.ImmOp.TheVariants.{Sltiu, Xori}
use Rattle.rv_core.specs.declared.instr.RegOp.{RegOp}
use Rattle.rv_core.specs.declared.instr.RegOp.TheVariants.{Slt, Sltu, Xor}
use Rattle.rv_core.specs.declared.instr.Instr.{Instr}
use Rattle.rv_core.specs.declared.instr.Instr.TheVariants.{Imm, Op as RegisterOp}
use Rattle.rv_core.specs.Step.{modulo, op_value}
use Rattle.rj_num.specs.Width.{signed}
use Rattle.ir_meaning.specs.Operators.{compare, holds, bit}
use Rattle.ir_meaning.specs.Operators.{cast as cast_value}
use Rattle.quick_code.specs.Narrow.{zero_extended, sign_extended, compare_code, cast_code, Turns}
use Rattle.quick_code.proofs.Narrow.{IsWidth, slt-is, turned-order, cut-modulo}
use Rattle.quick_code.proofs.NarrowCode.{turns-then, turns-to, turns-none, on-both, on-first, written-other, kept, number, signs-first, signs-second, cuts, modulo-below, below-64}

-- ---- bits

bit-is : (t : Bool) → cond t 1 0 ≡ bit t
bit-is true = refl
bit-is false = refl

turned-bit : (t : Bool) → bit_xor (cond t 1 0) 1 ≡ bit (not t)
turned-bit true = refl
turned-bit false = refl

-- numbers without a bit in which they differ are one
same-bits : (a b : ℕ) → bit_xor a b ≡ 0 → a ≡ b
same-bits a b e = sym (xor_zero_r a) ∙ ap (bit_xor a) (sym (xor_self b)) ∙ sym (xor_assoc a b b) ∙ ap (λ (x : ℕ). bit_xor x b) e

no-bits : (a b : ℕ) → a ≡ b → bit_xor a b ≡ 0
no-bits a b e = ap (λ (x : ℕ). bit_xor x b) e ∙ xor_self b

eq-bit : (a b : ℕ) → cond (nat_lt (bit_xor a b) 1) 1 0 ≡ bit (a == b)
eq-bit a b = ⊎_elim
    (λ e. (let z = no-bits a b e in ap (λ (t : Bool). cond t 1 0) (lt-ltb (bit_xor a b) 1 (omega (arith, z)))) ∙ sym (ap bit (eq-eqb a b e)))
    (λ ne. ap (λ (t : Bool). cond t 1 0) (le-ltb (bit_xor a b) 1 (some (bit_xor a b) (λ z. ne (same-bits a b z)))) ∙ sym (ap bit (ne_eqb a b ne)))
    (cases_eq a b)
  where
    some : (n : ℕ) → n ≢ 0 → 1 ≤ n
    some zero h = absurd (h refl)
    some (suc n) h = omega arith

ne-bit : (a b : ℕ) → cond (nat_lt 0 (bit_xor a b)) 1 0 ≡ bit (not (a == b))
ne-bit a b = ⊎_elim
    (λ e. (let z = no-bits a b e in ap (λ (t : Bool). cond t 1 0) (le-ltb 0 (bit_xor a b) (omega (arith, z)))) ∙ sym (ap (λ (t : Bool). bit (not t)) (eq-eqb a b e)))
    (λ ne. ap (λ (t : Bool). cond t 1 0) (lt-ltb 0 (bit_xor a b) (some (bit_xor a b) (λ z. ne (same-bits a b z)))) ∙ sym (ap (λ (t : Bool). bit (not t)) (ne_eqb a b ne)))
    (cases_eq a b)
  where
    some : (n : ℕ) → n ≢ 0 → 0 < n
    some zero h = absurd (h refl)
    some (suc n) h = omega arith

not-below : (a b : ℕ) → nat_le b a ≡ not (nat_lt a b)
not-below a b = ⊎_elim (λ l. lt-leb b a l ∙ sym (ap not (lt-ltb a b l))) (λ l. le-leb b a l ∙ sym (ap not (le-ltb a b l))) (cases_lt a b)

-- an operation with its operands the other way round
on-turned : (op : RegOp) (a b : ℕ) → Turns (RegisterOp op T0 T1 T0 ∷ []) a b (op_value op b a) b
on-turned op a b = λ s ea eb. (ap₂ (op_value op) eb ea, eb, λ j n5 n6. written-other s.x 5 _ j n5)

-- whether a number isn't 0
on-some : (a b : ℕ) → Turns (RegisterOp Sltu T0 X0 T0 ∷ []) a b (op_value Sltu 0 a) b
on-some a b = λ s ea eb. (ap (op_value Sltu 0) ea, eb, λ j n5 n6. written-other s.x 5 _ j n5)

module _ (w : ℕ) (one : 1 ≤ w) (most : w ≤ 64) where
  wide : IsWidth w (64 - w)
  wide = (one, let e : w + (64 - w) ≡ 64 = omega (arith, most) in e)

  -- both numbers with their signs, and then
  both-signed : (xs : List Instr) (a b v : ℕ) → a < 2 ^ w → b < 2 ^ w → Turns xs (modulo (signed w a)) (modulo (signed w b)) v (modulo (signed w b)) → Turns ((sign_extended w T0 ++ sign_extended w T1) ++ xs) a b v (modulo (signed w b))
  both-signed xs a b v la lb h =
      turns-then (sign_extended w T0 ++ sign_extended w T1) xs a b (modulo (signed w a)) (modulo (signed w b)) v (modulo (signed w b))
      (turns-then (sign_extended w T0) (sign_extended w T1) a b (modulo (signed w a)) b (modulo (signed w a)) (modulo (signed w b)) (signs-first w one most a b la) (signs-second w one most (modulo (signed w a)) b lb))
      h

  then-turned : (i : Instr) (a b : ℕ) (t : Bool) → Turns (i ∷ []) a b (cond t 1 0) b → Turns (i ∷ Imm Xori T0 T0 (pos 1) ∷ []) a b (bit (not t)) b
  then-turned i a b t h =
      turns-to (i ∷ Imm Xori T0 T0 (pos 1) ∷ []) a b (bit_xor (cond t 1 0) 1) b (bit (not t)) (turned-bit t)
      (turns-then (i ∷ []) (Imm Xori T0 T0 (pos 1) ∷ []) a b (cond t 1 0) b _ b h (on-first Xori (pos 1) (cond t 1 0) b))

  -- the code of a comparison leaves its bit
  compares : (p : Pred) (a b : ℕ) → a < 2 ^ w → b < 2 ^ w → (d : ℕ) × Turns (compare_code p w) a b (bit (holds p w a b)) d
  compares pred.Eq a b la lb =
      (b, turns-to (compare_code pred.Eq w) a b (cond (nat_lt (bit_xor a b) 1) 1 0) b (bit (a == b)) (eq-bit a b) (turns-then (RegisterOp Xor T0 T0 T1 ∷ []) (Imm Sltiu T0 T0 (pos 1) ∷ []) a b (bit_xor a b) b _ b (on-both Xor a b) (on-first Sltiu (pos 1) (bit_xor a b) b)))
  compares pred.Ne a b la lb =
      (b, turns-to (compare_code pred.Ne w) a b (cond (nat_lt 0 (bit_xor a b)) 1 0) b (bit (not (a == b))) (ne-bit a b) (turns-then (RegisterOp Xor T0 T0 T1 ∷ []) (RegisterOp Sltu T0 X0 T0 ∷ []) a b (bit_xor a b) b _ b (on-both Xor a b) (on-some (bit_xor a b) b)))
  compares pred.Ugt a b la lb = (b, turns-to (compare_code pred.Ugt w) a b (cond (nat_lt b a) 1 0) b (bit (nat_lt b a)) (bit-is (nat_lt b a)) (on-turned Sltu a b))
  compares pred.Uge a b la lb = (b, turns-to (compare_code pred.Uge w) a b (bit (not (nat_lt a b))) b (bit (nat_le b a)) (ap bit (sym (not-below a b))) (then-turned (RegisterOp Sltu T0 T0 T1) a b (nat_lt a b) (on-both Sltu a b)))
  compares pred.Ult a b la lb = (b, turns-to (compare_code pred.Ult w) a b (cond (nat_lt a b) 1 0) b (bit (nat_lt a b)) (bit-is (nat_lt a b)) (on-both Sltu a b))
  compares pred.Ule a b la lb = (b, turns-to (compare_code pred.Ule w) a b (bit (not (nat_lt b a))) b (bit (nat_le a b)) (ap bit (sym (not-below b a))) (then-turned (RegisterOp Sltu T0 T1 T0) a b (nat_lt b a) (on-turned Sltu a b)))
  compares pred.Sgt a b la lb =
      let x = signed w a in let y = signed w b in (
        modulo (signed w b),
        both-signed (RegisterOp Slt T0 T1 T0 ∷ []) a b (bit (int_lt (signed w b) (signed w a))) la lb
            (turns-to (RegisterOp Slt T0 T1 T0 ∷ []) (modulo (signed w a)) (modulo (signed w b)) _ (modulo (signed w b)) (bit (int_lt (signed w b) (signed w a))) (slt-is w (64 - w) b a wide lb la ∙ bit-is (int_lt (signed w b) (signed w a))) (on-turned Slt (modulo (signed w a)) (modulo (signed w b)))),
      )
  compares pred.Sge a b la lb = (
    modulo (signed w b),
    both-signed (RegisterOp Slt T0 T0 T1 ∷ Imm Xori T0 T0 (pos 1) ∷ []) a b (bit (int_le (signed w b) (signed w a))) la lb
        (turns-to (RegisterOp Slt T0 T0 T1 ∷ Imm Xori T0 T0 (pos 1) ∷ []) (modulo (signed w a)) (modulo (signed w b)) (bit (not (int_lt (signed w a) (signed w b)))) (modulo (signed w b)) (bit (int_le (signed w b) (signed w a))) (ap bit (sym (turned-order (signed w b) (signed w a))))
        (then-turned (RegisterOp Slt T0 T0 T1) (modulo (signed w a)) (modulo (signed w b)) (int_lt (signed w a) (signed w b))
        (turns-to (RegisterOp Slt T0 T0 T1 ∷ []) (modulo (signed w a)) (modulo (signed w b)) _ (modulo (signed w b)) (cond (int_lt (signed w a) (signed w b)) 1 0) (slt-is w (64 - w) a b wide la lb) (on-both Slt (modulo (signed w a)) (modulo (signed w b)))))),
  )
  compares pred.Slt a b la lb = (
    modulo (signed w b),
    both-signed (RegisterOp Slt T0 T0 T1 ∷ []) a b (bit (int_lt (signed w a) (signed w b))) la lb
        (turns-to (RegisterOp Slt T0 T0 T1 ∷ []) (modulo (signed w a)) (modulo (signed w b)) _ (modulo (signed w b)) (bit (int_lt (signed w a) (signed w b))) (slt-is w (64 - w) a b wide la lb ∙ bit-is (int_lt (signed w a) (signed w b))) (on-both Slt (modulo (signed w a)) (modulo (signed w b)))),
  )
  compares pred.Sle a b la lb = (
    modulo (signed w b),
    both-signed (RegisterOp Slt T0 T1 T0 ∷ Imm Xori T0 T0 (pos 1) ∷ []) a b (bit (int_le (signed w a) (signed w b))) la lb
        (turns-to (RegisterOp Slt T0 T1 T0 ∷ Imm Xori T0 T0 (pos 1) ∷ []) (modulo (signed w a)) (modulo (signed w b)) (bit (not (int_lt (signed w b) (signed w a)))) (modulo (signed w b)) (bit (int_le (signed w a) (signed w b))) (ap bit (sym (turned-order (signed w a) (signed w b))))
        (then-turned (RegisterOp Slt T0 T1 T0) (modulo (signed w a)) (modulo (signed w b)) (int_lt (signed w b) (signed w a))
        (turns-to (RegisterOp Slt T0 T1 T0 ∷ []) (modulo (signed w a)) (modulo (signed w b)) _ (modulo (signed w b)) (cond (int_lt (signed w b) (signed w a)) 1 0) (slt-is w (64 - w) b a wide lb la) (on-turned Slt (modulo (signed w a)) (modulo (signed w b)))))),
  )

  pub compare-computes : (p : Pred) (flags : Flags) (a b v : ℕ) → a < 2 ^ w → b < 2 ^ w → compare p flags w (Some a) (Some b) ≡ Some v → (d : ℕ) × Turns (compare_code p w) a b v d
  compare-computes p flags a b v la lb h =
      let r = compares p a b la lb in
      (r.0, turns-to (compare_code p w) a b (bit (holds p w a b)) r.0 v (kept _ _ v h) r.1)

-- the code of a cast leaves the number in its new width
pub cast-computes : (op : CastOp) (flags : Flags) (from to a b v : ℕ) → 1 ≤ from → from ≤ 64 → 1 ≤ to → to ≤ 64 → a < 2 ^ from → cast_value op flags from to (Some a) ≡ Some v → (op ≡ cast.IntToPtr → to ≡ 64) → Turns (cast_code op from to) a b v b
cast-computes cast.Trunc flags from to a b v one most one' most' la h place = turns-to (zero_extended to T0) a b (a % 2 ^ to) b v (kept _ _ v h) (cuts to one' most' a b (below-64 from one most a la))
cast-computes cast.ZExt flags from to a b v one most one' most' la h place = turns-to [] a b a b v (kept _ _ v h) (turns-none a b)
cast-computes cast.SExt flags from to a b v one most one' most' la h place =
    let all : to + (64 - to) ≡ 64 = omega (arith, most') in
    turns-then (sign_extended from T0) (zero_extended to T0) a b (modulo (signed from a)) b v b (signs-first from one most a b la)
    (turns-to (zero_extended to T0) (modulo (signed from a)) b (modulo (signed from a) % 2 ^ to) b v (cut-modulo to (64 - to) (signed from a) all ∙ ap number h) (cuts to one' most' (modulo (signed from a)) b (modulo-below from one most (signed from a))))
cast-computes cast.PtrToInt flags from to a b v one most one' most' la h place = turns-to (zero_extended to T0) a b (a % 2 ^ to) b v (ap number h) (cuts to one' most' a b (below-64 from one most a la))
cast-computes cast.IntToPtr flags from to a b v one most one' most' la h place =
    let same : a ≡ v = sym (mod-eq_of_lt (subst (λ (j : ℕ). a < 2 ^ j) (sym (place refl)) (below-64 from one most a la))) ∙ ap number h in
    turns-to [] a b a b v same (turns-none a b)
cast-computes cast.Same flags from to a b v one most one' most' la h place = turns-to [] a b a b v (ap number h) (turns-none a b)
