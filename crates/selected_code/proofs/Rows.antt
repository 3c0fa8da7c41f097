-- What each pattern that computes leaves in registers.
use Rattle.std.proofs.Common.{◌≡◌, ◌≢◌, refl, sym, ap, subst, ◌∙◌, ℕ, ◌+◌, ◌-◌, ◌<◌, ◌≤◌, Bool, List, [], ◌∷◌, Option, arith, pos, negsuc}
use Rattle.std.specs.Prelude.{ℤ, slice_get, slice_index_or}
use Rattle.ir_core.specs.declared.code.Pred.{Pred}
use Rattle.ir_core.specs.declared.code.Pred.TheVariants as pred
use Rattle.rv_core.specs.declared.instr.ImmOp.{ImmOp}
use Rattle.rv_core.specs.declared.instr.ImmOp.TheVariants.{Sltiu, Xori, Andi, Slli, Srai}
use Rattle.rv_core.specs.declared.instr.RegOp.TheVariants as on
use Rattle.mir.specs.declared.code.MInst.TheVariants as m
use Rattle.walks.specs.Walk.{Bits}
use Rattle.walks.specs.Bits.{cut, chosen}
use Rattle.walks.specs.Refines.{RefinesBits}
use Rattle.walks.specs.Registers.{Registers, read, write, RegsAgree}
use Rattle.walks.proofs.Registers.{write_agrees}
use Rattle.mir_play.specs.Values.{value, immediate_value}
use Rattle.selected_code.specs.Selected.{compare, choose, extend}
use Rattle.selected_code.proofs.Values.{compared_bits, mask, choose_refines}
use Rattle.selected_code.proofs.Straight.{read_same, read_other, below, beside, AllBelow, operand_agrees, after}

module _ (n : ℕ) (regs regs' : Registers) (h : RegsAgree (below n) regs regs') where
  abbrev Leaves : ℕ → Bits → Registers → Type 0
  Leaves d x left = RegsAgree (below n) (write regs d x) left

  -- an immediate operation on a new register
  then_immediate : (op : ImmOp) (t d : ℕ) (k : ℤ) (v x : Bits) → n ≤ t → RefinesBits x (immediate_value op v k)
      → Leaves d x (write (write regs' t v) d (immediate_value op (write regs' t v t) k))
  then_immediate op t d k v x high p =
      write_agrees (below n) regs (write regs' t v) d x (immediate_value op (write regs' t v t) k) (beside n regs regs' t v high h)
      (subst (λ (z : Bits). RefinesBits x (immediate_value op z k)) (sym (read_same regs' t v)) p)

  one_leaves : (d : ℕ) (x v : Bits) → RefinesBits x v → Leaves d x (write regs' d v)
  one_leaves d x v p = write_agrees (below n) regs regs' d x v h p

module _ (n : ℕ) (regs regs' : Registers) (h : RegsAgree (below n) regs regs') (t : ℕ) (high : n ≤ t) where
  ne_leaves : (d : ℕ) (v x : Bits) → RefinesBits x (immediate_value Xori (immediate_value Sltiu v (pos 1)) (pos 1))
      → RegsAgree (below n) (write regs d x)
      (write (write (write regs' t v) (t + 1) (immediate_value Sltiu (write regs' t v t) (pos 1))) d
      (immediate_value Xori (write (write regs' t v) (t + 1) (immediate_value Sltiu (write regs' t v t) (pos 1)) (t + 1)) (pos 1)))
  ne_leaves d v x p =
      then_immediate n regs (write regs' t v) (beside n regs regs' t v high h) Xori (t + 1) d (pos 1) (immediate_value Sltiu (write regs' t v t) (pos 1)) x (omega (arith, high))
      (subst (λ (z : Bits). RefinesBits x (immediate_value Xori (immediate_value Sltiu z (pos 1)) (pos 1))) (sym (read_same regs' t v)) p)

  pub compare_leaves : (c : Pred) (d a b : ℕ) (x : Bits) → RefinesBits x (compared_bits c (regs' a) (regs' b))
      → RegsAgree (below n) (write regs d x) (after (compare c t d a b) regs')
  compare_leaves pred.Eq d a b x p = then_immediate n regs regs' h Sltiu t d (pos 1) (value on.Xor (regs' a) (regs' b)) x high p
  compare_leaves pred.Ne d a b x p = ne_leaves d (value on.Xor (regs' a) (regs' b)) x p
  compare_leaves pred.Ugt d a b x p = one_leaves n regs regs' h d x _ p
  compare_leaves pred.Uge d a b x p = then_immediate n regs regs' h Xori t d (pos 1) (value on.Sltu (regs' a) (regs' b)) x high p
  compare_leaves pred.Ult d a b x p = one_leaves n regs regs' h d x _ p
  compare_leaves pred.Ule d a b x p = then_immediate n regs regs' h Xori t d (pos 1) (value on.Sltu (regs' b) (regs' a)) x high p
  compare_leaves pred.Sgt d a b x p = one_leaves n regs regs' h d x _ p
  compare_leaves pred.Sge d a b x p = then_immediate n regs regs' h Xori t d (pos 1) (value on.Slt (regs' a) (regs' b)) x high p
  compare_leaves pred.Slt d a b x p = one_leaves n regs regs' h d x _ p
  compare_leaves pred.Sle d a b x p = then_immediate n regs regs' h Xori t d (pos 1) (value on.Slt (regs' b) (regs' a)) x high p

  pub extend_leaves : (k d a : ℕ) (x : Bits) → RefinesBits x (immediate_value Srai (immediate_value Slli (regs' a) (pos (64 - k))) (pos (64 - k)))
      → RegsAgree (below n) (write regs d x) (after (extend k t d a) regs')
  extend_leaves k d a x p = then_immediate n regs regs' h Srai t d (pos (64 - k)) (immediate_value Slli (regs' a) (pos (64 - k))) x high p

  -- ---- a choice: after each of its first five instructions
  module _ (rs : List ℕ) (exist : AllBelow n rs) (d : ℕ) where
    abbrev c : ℕ
    c = slice_index_or rs 0 0

    abbrev a : ℕ
    a = slice_index_or rs 1 0

    abbrev b : ℕ
    b = slice_index_or rs 2 0

    abbrev v1 : Bits
    v1 = immediate_value Slli (regs' c) (pos 63)

    abbrev r1 : Registers
    r1 = write regs' t v1

    abbrev v2 : Bits
    v2 = immediate_value Srai (r1 t) (pos 63)

    abbrev r2 : Registers
    r2 = write r1 (t + 1) v2

    abbrev v3 : Bits
    v3 = value on.And (r2 a) (r2 (t + 1))

    abbrev r3 : Registers
    r3 = write r2 (t + 2) v3

    abbrev v4 : Bits
    v4 = immediate_value Xori (r3 (t + 1)) (negsuc 0)

    abbrev r4 : Registers
    r4 = write r3 (t + 3) v4

    abbrev v5 : Bits
    v5 = value on.And (r4 b) (r4 (t + 3))

    abbrev r5 : Registers
    r5 = write r4 (t + 4) v5

    h1 : RegsAgree (below n) regs r1
    h1 = beside n regs regs' t v1 high h

    h2 : RegsAgree (below n) regs r2
    h2 = beside n regs r1 (t + 1) v2 (omega (arith, high)) h1

    h3 : RegsAgree (below n) regs r3
    h3 = beside n regs r2 (t + 2) v3 (omega (arith, high)) h2

    h4 : RegsAgree (below n) regs r4
    h4 = beside n regs r3 (t + 3) v4 (omega (arith, high)) h3

    h5 : RegsAgree (below n) regs r5
    h5 = beside n regs r4 (t + 4) v5 (omega (arith, high)) h4

    mask_is : v2 ≡ mask (regs' c)
    mask_is = ap (λ (z : Bits). immediate_value Srai z (pos 63)) (read_same regs' t v1)

    at_2 : r2 (t + 1) ≡ mask (regs' c)
    at_2 = read_same r1 (t + 1) v2 ∙ mask_is

    first_part : r5 (t + 2) ≡ value on.And (r2 a) (mask (regs' c))
    first_part =
        read_other r4 (t + 4) (t + 2) v5 (λ e. omega (arith, e)) ∙ read_other r3 (t + 3) (t + 2) v4 (λ e. omega (arith, e)) ∙ read_same r2 (t + 2) v3
        ∙ ap (value on.And (r2 a)) at_2

    turned_mask : r4 (t + 3) ≡ immediate_value Xori (mask (regs' c)) (negsuc 0)
    turned_mask =
        read_same r3 (t + 3) v4 ∙ ap (λ (z : Bits). immediate_value Xori z (negsuc 0)) (read_other r2 (t + 2) (t + 1) v3 (λ e. omega (arith, e)) ∙ at_2)

    second_part : r5 (t + 4) ≡ value on.And (r4 b) (immediate_value Xori (mask (regs' c)) (negsuc 0))
    second_part = read_same r4 (t + 4) v5 ∙ ap (value on.And (r4 b)) turned_mask

    pub choose_leaves : RegsAgree (below n) (write regs d (cut 64 (chosen (read regs (slice_get rs 0) 0) (read regs (slice_get rs 1)) (read regs (slice_get rs 2)))))
        (after (choose t d c a b) regs')
    choose_leaves =
        write_agrees (below n) regs r5 d _ (value on.Or (r5 (t + 2)) (r5 (t + 4))) h5
        (subst (λ (z : Bits). RefinesBits (cut 64 (chosen (read regs (slice_get rs 0) 0) (read regs (slice_get rs 1)) (read regs (slice_get rs 2)))) (value on.Or z (r5 (t + 4)))) (sym first_part)
        (subst (λ (z : Bits). RefinesBits (cut 64 (chosen (read regs (slice_get rs 0) 0) (read regs (slice_get rs 1)) (read regs (slice_get rs 2))))
        (value on.Or (value on.And (r2 a) (mask (regs' c))) z)) (sym second_part)
        (choose_refines (read regs (slice_get rs 0)) (read regs (slice_get rs 1)) (read regs (slice_get rs 2)) (regs' c) (r2 a) (r4 b)
        (operand_agrees n regs regs' h rs exist 0) (operand_agrees n regs r2 h2 rs exist 1) (operand_agrees n regs r4 h4 rs exist 2))))
