-- The code that cuts a register to a width.
use Rattle.std.proofs.Common.{[], ◌≡◌, ◌≢◌, refl, sym, ap, subst, ◌∙◌, ℕ, ◌+◌, ◌-◌, ◌*◌, ◌%◌, ◌^◌, ◌<◌, ◌≤◌, ◌∷◌, length, Bool, true, false, cond, arith, mod-eq_of_lt}
use Rattle.std.specs.Prelude.{◌==◌, nat_le, pos}
use Rattle.rv_core.specs.Reg.{number_of}
use Rattle.rv_core.specs.declared.reg.Reg.{Reg}
use Rattle.rv_core.specs.declared.instr.ImmOp.TheVariants.{Andi, Slli, Srli}
use Rattle.rv_core.specs.declared.instr.RegOp.TheVariants.{And, Sll, Srl}
use Rattle.rv_core.specs.declared.instr.Instr.TheVariants.{Imm}
use Rattle.rv_core.specs.Step.{read, written, modulo, op_value}
use Rattle.ir_meaning.specs.Plays.{Meaning}
use Rattle.rv_play.specs.Machine.{code_base, code_limit}
use Rattle.rv_play.specs.CodePlay.{Place, Point}
use Rattle.rv_play.proofs.Lines.{Goes, goes-none}
use Rattle.quick_code.specs.Narrow.{zero_extended}
use Rattle.code_pieces.proofs.Const.{read-is, put, Puts, puts-one, puts-then, puts-if, read-put, functions-equal, eq-true}
use Rattle.quick_code.proofs.Narrow.{cut-by-shifts}
use Rattle.quick_code.proofs.NarrowCode.{is-width, full, mask-is}

-- it takes at most two instructions
pub cut-short : (w : ℕ) (rd : Reg) → length (zero_extended w rd) ≤ 2
cut-short w rd = whole (w == 64)
  where
    masked : (b : Bool) → length (cond b (Imm Andi rd rd (pos (2 ^ w - 1)) ∷ []) (Imm Slli rd rd (pos (64 - w)) ∷ Imm Srli rd rd (pos (64 - w)) ∷ [])) ≤ 2
    masked true = omega arith
    masked false = omega arith

    whole : (b : Bool) → length (cond b [] (cond (nat_le w 11) (Imm Andi rd rd (pos (2 ^ w - 1)) ∷ []) (Imm Slli rd rd (pos (64 - w)) ∷ Imm Srli rd rd (pos (64 - w)) ∷ []))) ≤ 2
    whole true = omega arith
    whole false = masked (nat_le w 11)

written-same : (f : ℕ → ℕ) (i v : ℕ) → v ≡ f i → written f i v ≡ f
written-same f i v same = functions-equal (λ j. at j (j == i) refl)
  where
    at : (j : ℕ) (b : Bool) → (j == i) ≡ b → cond b v (f j) ≡ f j
    at j true e = same ∙ ap f (sym (eq-true j i e))
    at j false e = refl

put-same : (p : Point) (rd : Reg) (v : ℕ) → v ≡ p.machine.regs.x (number_of rd) → put p rd v 0 ≡ p
put-same p rd v same =
    let at : p.machine.regs.pc + 4 * 0 ≡ p.machine.regs.pc = omega arith in
    let count : p.steps + 0 ≡ p.steps = omega arith in
    let made : (ℕ → ℕ) → ℕ → ℕ → Point = λ x pc steps. record p { machine = record p.machine { regs = record { x = x; pc = pc } }; steps = steps } in
    ap (λ (x : ℕ → ℕ). made x (p.machine.regs.pc + 4 * 0) (p.steps + 0)) (written-same p.machine.regs.x (number_of rd) v same)
    ∙ ap (λ (pc : ℕ). made p.machine.regs.x pc (p.steps + 0)) at
    ∙ ap (λ (steps : ℕ). made p.machine.regs.x p.machine.regs.pc steps) count

module _ (m : Meaning) (functions : m.functions ≤ 1024) (place : Place) (low : code_base + 4 ≤ place.base) (high : place.base + 4 * length place.words ≤ code_limit) where
  -- a register becomes its low bits, and nothing else changes
  pub cut-puts : (w : ℕ) (rd : Reg) (p : Point) → 1 ≤ w → w ≤ 64 → number_of rd ≢ 0 → p.machine.regs.x (number_of rd) < 2 ^ 64
      → Puts m functions place low high p rd (p.machine.regs.x (number_of rd) % 2 ^ w) (zero_extended w rd)
  cut-puts w rd p one most nz lt =
      let n = p.machine.regs.x (number_of rd) in
      let v = n % 2 ^ w in
      puts-if m functions place low high p rd v (w == 64) [] _
      (λ e st.
      let same : v ≡ n = mod-eq_of_lt (subst (λ (j : ℕ). n < 2 ^ j) (sym (full w one most e)) lt) in
      subst (λ (q : Point). Goes m functions place low high 0 p q) (sym (put-same p rd v same)) (goes-none m functions place low high p))
      (λ e. puts-if m functions place low high p rd v (nat_le w 11) (Imm Andi rd rd (pos (2 ^ w - 1)) ∷ []) (Imm Slli rd rd (pos (64 - w)) ∷ Imm Srli rd rd (pos (64 - w)) ∷ [])
      (λ d. subst (λ (x : ℕ). Puts m functions place low high p rd x (Imm Andi rd rd (pos (2 ^ w - 1)) ∷ []))
      (ap (λ (x : ℕ). op_value And x (modulo (pos (2 ^ w - 1)))) (read-is p.machine.regs rd nz) ∙ mask-is w one most n)
      (puts-one m functions place low high p rd (op_value And (read p.machine.regs rd) (modulo (pos (2 ^ w - 1)))) (Imm Andi rd rd (pos (2 ^ w - 1))) nz refl refl))
      (λ d.
      let up : ℕ = op_value Sll (read p.machine.regs rd) (modulo (pos (64 - w))) in
      let p' = put p rd up 1 in
      let down : ℕ = op_value Srl (read p'.machine.regs rd) (modulo (pos (64 - w))) in
      let is : down ≡ v =
      ap (λ (x : ℕ). op_value Srl x (modulo (pos (64 - w)))) (read-put m functions place low high p rd up 1 nz)
      ∙ ap (λ (x : ℕ). op_value Srl (op_value Sll x (modulo (pos (64 - w)))) (modulo (pos (64 - w)))) (read-is p.machine.regs rd nz)
      ∙ cut-by-shifts w (64 - w) n (is-width w one most) in
      subst (λ (x : ℕ). Puts m functions place low high p rd x (Imm Slli rd rd (pos (64 - w)) ∷ Imm Srli rd rd (pos (64 - w)) ∷ [])) is
      (puts-then m functions place low high p rd up down (Imm Slli rd rd (pos (64 - w)) ∷ []) (Imm Srli rd rd (pos (64 - w)) ∷ [])
      (puts-one m functions place low high p rd up (Imm Slli rd rd (pos (64 - w))) nz refl refl)
      (puts-one m functions place low high p' rd down (Imm Srli rd rd (pos (64 - w))) nz refl refl))))
