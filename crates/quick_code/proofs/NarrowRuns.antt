-- The code of operators runs wherever it stands: each instruction goes to the next, and only registers change.
use Rattle.std.proofs.Common.{◌≡◌, refl, sym, ap, subst, ◌∙◌, ℕ, suc, ◌+◌, ◌*◌, ◌≤◌, List, [], ◌∷◌, ◌++◌, length, Bool, true, false, cond, arith}
use Rattle.std.specs.Prelude.{◌-◌, ◌^◌, ◌==◌, nat_le, pos}
use Rattle.std.proofs.Math.Pow.{pow_mono}
use Rattle.std.proofs.lemmas.Bool.{leb-true}
use Rattle.std.proofs.lemmas.Int.{ints}
use Rattle.std.proofs.lemmas.List.{length-append}
use Rattle.ir_core.specs.declared.code.BinOp.{BinOp}
use Rattle.ir_core.specs.declared.code.BinOp.TheVariants as ir
use Rattle.ir_core.specs.declared.code.Pred.{Pred}
use Rattle.ir_core.specs.declared.code.Pred.TheVariants as pred
use Rattle.ir_core.specs.declared.code.CastOp.{CastOp}
use Rattle.ir_core.specs.declared.code.CastOp.TheVariants as cast
use Rattle.rv_core.specs.Reg.{number_of}
use Rattle.rv_core.specs.declared.reg.Reg.{Reg}
use Rattle.rv_core.specs.declared.reg.Reg.TheVariants.{T0, T1}
use Rattle.rv_core.specs.declared.instr.ImmOp.TheVariants.{Xori, Andi}
use Rattle.rv_core.specs.declared.instr.RegOp.{RegOp}
use Rattle.rv_core.specs.declared.instr.RegOp.TheVariants.{Add, And, Div, Divw, Divu, Mul, Or, Rem, Remw, Remu, Sraw, Sll, Slt, Sltu, Sra, Srl, Sub, Xor}
use Rattle.rv_core.specs.declared.instr.Instr.{Instr}
use Rattle.rv_core.specs.declared.instr.Instr.TheVariants.{Lui, Auipc, Jal, Jalr, Branch, Load, Store, Imm, Op as RegisterOp, Fence, Ecall, Ebreak}
use Rattle.rv_core.specs.Instr.{IsValid, AreValid}
use Rattle.rv_core.specs.Step.{Registers, written, write, after, next, plus}
use Rattle.ir_meaning.specs.Plays.{Meaning}
use Rattle.rv_play.specs.Machine.{On, act, code_base, code_limit}
use Rattle.rv_play.specs.CodePlay.{Place, Point, is_jalr}
use Rattle.rv_play.proofs.Lines.{Stands, Goes, goes-then, goes-none, plain-step, valid-append}
use Rattle.quick_code.specs.Narrow.{zero_extended, sign_extended, binary_code, compare_code, cast_code, after_all}

-- instructions that go to the next one and change a register alone
abbrev pub AreSteps : List Instr → Type 0
AreSteps [] = Unit {0}
AreSteps (Imm op rd rs1 z ∷ is) = AreSteps is
AreSteps (RegisterOp op rd rs1 rs2 ∷ is) = AreSteps is
AreSteps (Lui rd n ∷ is) = ⊥
AreSteps (Auipc rd n ∷ is) = ⊥
AreSteps (Jal rd z ∷ is) = ⊥
AreSteps (Jalr rd rs1 z ∷ is) = ⊥
AreSteps (Branch op rs1 rs2 z ∷ is) = ⊥
AreSteps (Load op rd rs1 z ∷ is) = ⊥
AreSteps (Store op rs2 rs1 z ∷ is) = ⊥
AreSteps (Fence ∷ is) = ⊥
AreSteps (Ecall ∷ is) = ⊥
AreSteps (Ebreak ∷ is) = ⊥

-- the point behind a list of them
abbrev pub behind : Point → List Instr → Point
behind p code = record p {
  machine = record p.machine { regs = record { x = (after_all code p.machine.regs).x; pc = p.machine.regs.pc + 4 * length code } };
  steps = p.steps + length code;
}

write-pc : (s : Registers) (rd : Reg) (v : ℕ) → (write s rd v).pc ≡ s.pc
write-pc s rd v = at (number_of rd == 0)
  where
    at : (b : Bool) → (cond b s (record s { x = written s.x (number_of rd) v })).pc ≡ s.pc
    at true = refl
    at false = refl

next-pc : (s : Registers) (rd : Reg) (v : ℕ) → s.pc + 4 ≤ code_limit → (next (write s rd v)).pc ≡ s.pc + 4
next-pc s rd v h = ap (λ (pc : ℕ). plus pc (pos 4)) (write-pc s rd v) ∙ omega (arith, h)

module _ (m : Meaning) (functions : m.functions ≤ 1024) (place : Place) (low : code_base + 4 ≤ place.base) (high : place.base + 4 * length place.words ≤ code_limit) where
  -- one of them, and then the others
  step-on : (i : Instr) (is : List Instr) (p : Point) → Stands place p.machine.regs.pc (i ∷ is) → is_jalr i ≡ false → act m p.machine i ≡ On (record p.machine { regs = after p.machine.regs i }) → (after p.machine.regs i).pc ≡ p.machine.regs.pc + 4
      → ((q : Point) → Stands place q.machine.regs.pc is → Goes m functions place low high (length is) q (behind q is)) → Goes m functions place low high (length (i ∷ is)) p (behind p (i ∷ is))
  step-on i is p st plain acts at rest =
      let s : Registers = p.machine.regs in
      let inside = st.0 in
      let r : Registers = record { x = (after s i).x; pc = s.pc + 4 } in
      let same : after s i ≡ r = ap (λ (pc : ℕ). record { x = (after s i).x; pc = pc }) at in
      let q : Point = record p { machine = record p.machine { regs = r }; steps = p.steps + 1 } in
      let first : Goes m functions place low high 1 p q = plain-step m functions place low high p i (record p.machine { regs = r }) st.2 plain (acts ∙ ap (λ (t : Registers). On (record p.machine { regs = t })) same) (omega (arith, inside)) in
      let all = goes-then m functions place low high 1 (length is) p q (behind q is) first (rest q st.3) in
      let count : 1 + length is ≡ suc (length is) = omega arith in
      let made : (ℕ → ℕ) → ℕ → ℕ → Point = λ x pc steps. record p { machine = record p.machine { regs = record { x = x; pc = pc } }; steps = steps } in
      let registers : (after_all is r).x ≡ (after_all is (after s i)).x = ap (λ (t : Registers). (after_all is t).x) (sym same) in
      let pcs : s.pc + 4 + 4 * length is ≡ s.pc + 4 * suc (length is) = omega arith in
      let steps : p.steps + 1 + length is ≡ p.steps + suc (length is) = omega arith in
      let to : behind q is ≡ behind p (i ∷ is) =
      ap (λ (x : ℕ → ℕ). made x (s.pc + 4 + 4 * length is) (p.steps + 1 + length is)) registers
      ∙ ap (λ (pc : ℕ). made (after_all is (after s i)).x pc (p.steps + 1 + length is)) pcs
      ∙ ap (λ (n : ℕ). made (after_all is (after s i)).x (s.pc + 4 * suc (length is)) n) steps in
      subst (Goes m functions place low high (suc (length is)) p) to (subst (λ (n : ℕ). Goes m functions place low high n p (behind q is)) count all)

  pub steps-go : (code : List Instr) (p : Point) → AreSteps code → Stands place p.machine.regs.pc code → Goes m functions place low high (length code) p (behind p code)
  steps-go [] p h st =
      let pcs : p.machine.regs.pc ≡ p.machine.regs.pc + 4 * 0 = omega arith in
      let steps : p.steps ≡ p.steps + 0 = omega arith in
      let made : ℕ → ℕ → Point = λ pc n. record p { machine = record p.machine { regs = record { x = p.machine.regs.x; pc = pc } }; steps = n } in
      subst (Goes m functions place low high 0 p) (ap (λ (pc : ℕ). made pc p.steps) pcs ∙ ap (made (p.machine.regs.pc + 4 * 0)) steps) (goes-none m functions place low high p)
  steps-go (Imm op rd rs1 z ∷ is) p h st = step-on (Imm op rd rs1 z) is p st refl refl (next-pc p.machine.regs rd _ st.1) (λ q t. steps-go is q h t)
  steps-go (RegisterOp op rd rs1 rs2 ∷ is) p h st = step-on (RegisterOp op rd rs1 rs2) is p st refl refl (next-pc p.machine.regs rd _ st.1) (λ q t. steps-go is q h t)
  steps-go (Lui _ _ ∷ is) p h st = elim h [ ]
  steps-go (Auipc _ _ ∷ is) p h st = elim h [ ]
  steps-go (Jal _ _ ∷ is) p h st = elim h [ ]
  steps-go (Jalr _ _ _ ∷ is) p h st = elim h [ ]
  steps-go (Branch _ _ _ _ ∷ is) p h st = elim h [ ]
  steps-go (Load _ _ _ _ ∷ is) p h st = elim h [ ]
  steps-go (Store _ _ _ _ ∷ is) p h st = elim h [ ]
  steps-go (Fence ∷ is) p h st = elim h [ ]
  steps-go (Ecall ∷ is) p h st = elim h [ ]
  steps-go (Ebreak ∷ is) p h st = elim h [ ]

-- ---- the code of operators is such

-- steps that have spellings, and how many
pub record IsRun (most : ℕ) (code : List Instr) : Type 0 where
  pub steps : AreSteps code
  pub valid : AreValid code
  pub few : length code ≤ most

steps-append : (xs ys : List Instr) → AreSteps xs → AreSteps ys → AreSteps (xs ++ ys)
steps-append [] ys h k = k
steps-append (Imm op rd rs1 z ∷ xs) ys h k = steps-append xs ys h k
steps-append (RegisterOp op rd rs1 rs2 ∷ xs) ys h k = steps-append xs ys h k
steps-append (Lui _ _ ∷ xs) ys h k = elim h [ ]
steps-append (Auipc _ _ ∷ xs) ys h k = elim h [ ]
steps-append (Jal _ _ ∷ xs) ys h k = elim h [ ]
steps-append (Jalr _ _ _ ∷ xs) ys h k = elim h [ ]
steps-append (Branch _ _ _ _ ∷ xs) ys h k = elim h [ ]
steps-append (Load _ _ _ _ ∷ xs) ys h k = elim h [ ]
steps-append (Store _ _ _ _ ∷ xs) ys h k = elim h [ ]
steps-append (Fence ∷ xs) ys h k = elim h [ ]
steps-append (Ecall ∷ xs) ys h k = elim h [ ]
steps-append (Ebreak ∷ xs) ys h k = elim h [ ]

run-append : (m n : ℕ) (xs ys : List Instr) → IsRun m xs → IsRun n ys → IsRun (m + n) (xs ++ ys)
run-append m n xs ys h k = record {
  steps = steps-append xs ys h.steps k.steps;
  valid = valid-append xs ys h.valid k.valid;
  few = let l = length-append xs ys in let a = h.few in let b = k.few in omega (arith, l, a, b);
}

run-if : (n : ℕ) (b : Bool) (xs ys : List Instr) → (b ≡ true → IsRun n xs) → (b ≡ false → IsRun n ys) → IsRun n (cond b xs ys)
run-if n true xs ys h k = h refl
run-if n false xs ys h k = k refl

run-none : IsRun 2 []
run-none = record { steps = tt; valid = tt; few = omega arith }

op-run : (op : RegOp) (rd rs1 rs2 : Reg) → IsRun 1 (RegisterOp op rd rs1 rs2 ∷ [])
op-run op rd rs1 rs2 = record { steps = tt; valid = (tt, tt); few = omega arith }

module _ (w : ℕ) (one : 1 ≤ w) (most : w ≤ 64) where
  pub zero-run : (rd : Reg) → IsRun 2 (zero_extended w rd)
  zero-run rd =
      run-if 2 (w == 64) [] _ (λ e. run-none)
      (λ e. run-if 2 (nat_le w 11) _ _
      (λ d. record { steps = tt; valid = (mask-fits (leb-true _ _ d), tt); few = omega arith })
      (λ d. record { steps = tt; valid = ((omega (arith, ints), omega (arith, ints, one)), ((omega (arith, ints), omega (arith, ints, one)), tt)); few = omega arith }))
    where
      mask-fits : w ≤ 11 → IsValid (Imm Andi rd rd (pos (2 ^ w - 1)))
      mask-fits h = let p : 2 ^ w ≤ 2 ^ 11 = pow_mono h in (omega (arith, ints), omega (arith, ints, p))

  pub sign-run : (rd : Reg) → IsRun 2 (sign_extended w rd)
  sign-run rd =
      run-if 2 (w == 64) [] _ (λ e. run-none)
      (λ e. run-if 2 (w == 32) _ _
      (λ d. record { steps = tt; valid = ((omega (arith, ints), omega (arith, ints)), tt); few = omega arith })
      (λ d. record { steps = tt; valid = ((omega (arith, ints), omega (arith, ints, one)), ((omega (arith, ints), omega (arith, ints, one)), tt)); few = omega arith }))

  wider : (m n : ℕ) (xs : List Instr) → m ≤ n → IsRun m xs → IsRun n xs
  wider m n xs h k = record { steps = k.steps; valid = k.valid; few = let a = k.few in omega (arith, h, a) }

  word-run : (op : RegOp) → IsRun 7 (RegisterOp op T0 T0 T1 ∷ zero_extended w T0)
  word-run op = wider 3 7 _ (omega arith) (run-append 1 2 (RegisterOp op T0 T0 T1 ∷ []) (zero_extended w T0) (op-run op T0 T0 T1) (zero-run T0))

  -- an operator takes at most seven steps
  pub binary-run : (op : BinOp) → IsRun 7 (binary_code op w)
  binary-run ir.Add = wider 3 7 _ (omega arith) (run-append 1 2 (RegisterOp Add T0 T0 T1 ∷ []) (zero_extended w T0) (op-run Add T0 T0 T1) (zero-run T0))
  binary-run ir.Sub = wider 3 7 _ (omega arith) (run-append 1 2 (RegisterOp Sub T0 T0 T1 ∷ []) (zero_extended w T0) (op-run Sub T0 T0 T1) (zero-run T0))
  binary-run ir.Mul = wider 3 7 _ (omega arith) (run-append 1 2 (RegisterOp Mul T0 T0 T1 ∷ []) (zero_extended w T0) (op-run Mul T0 T0 T1) (zero-run T0))
  binary-run ir.UDiv = wider 1 7 _ (omega arith) (op-run Divu T0 T0 T1)
  binary-run ir.URem = wider 1 7 _ (omega arith) (op-run Remu T0 T0 T1)
  binary-run ir.SDiv = run-if 7 (w == 32) (RegisterOp Divw T0 T0 T1 ∷ zero_extended w T0) (sign_extended w T0 ++ (sign_extended w T1 ++ RegisterOp Div T0 T0 T1 ∷ zero_extended w T0)) (λ e. word-run Divw) (λ e. run-append 2 5 (sign_extended w T0) (sign_extended w T1 ++ RegisterOp Div T0 T0 T1 ∷ zero_extended w T0) (sign-run T0) (run-append 2 3 (sign_extended w T1) (RegisterOp Div T0 T0 T1 ∷ zero_extended w T0) (sign-run T1) (run-append 1 2 (RegisterOp Div T0 T0 T1 ∷ []) (zero_extended w T0) (op-run Div T0 T0 T1) (zero-run T0))))
  binary-run ir.SRem = run-if 7 (w == 32) (RegisterOp Remw T0 T0 T1 ∷ zero_extended w T0) (sign_extended w T0 ++ (sign_extended w T1 ++ RegisterOp Rem T0 T0 T1 ∷ zero_extended w T0)) (λ e. word-run Remw) (λ e. run-append 2 5 (sign_extended w T0) (sign_extended w T1 ++ RegisterOp Rem T0 T0 T1 ∷ zero_extended w T0) (sign-run T0) (run-append 2 3 (sign_extended w T1) (RegisterOp Rem T0 T0 T1 ∷ zero_extended w T0) (sign-run T1) (run-append 1 2 (RegisterOp Rem T0 T0 T1 ∷ []) (zero_extended w T0) (op-run Rem T0 T0 T1) (zero-run T0))))
  binary-run ir.Shl = wider 3 7 _ (omega arith) (run-append 1 2 (RegisterOp Sll T0 T0 T1 ∷ []) (zero_extended w T0) (op-run Sll T0 T0 T1) (zero-run T0))
  binary-run ir.LShr = wider 1 7 _ (omega arith) (op-run Srl T0 T0 T1)
  binary-run ir.AShr = run-if 7 (w == 32) (RegisterOp Sraw T0 T0 T1 ∷ zero_extended w T0) (sign_extended w T0 ++ (RegisterOp Sra T0 T0 T1 ∷ zero_extended w T0)) (λ e. word-run Sraw) (λ e. wider 5 7 _ (omega arith) (run-append 2 3 (sign_extended w T0) (RegisterOp Sra T0 T0 T1 ∷ zero_extended w T0) (sign-run T0) (run-append 1 2 (RegisterOp Sra T0 T0 T1 ∷ []) (zero_extended w T0) (op-run Sra T0 T0 T1) (zero-run T0))))
  binary-run ir.And = wider 1 7 _ (omega arith) (op-run And T0 T0 T1)
  binary-run ir.Or = wider 1 7 _ (omega arith) (op-run Or T0 T0 T1)
  binary-run ir.Xor = wider 1 7 _ (omega arith) (op-run Xor T0 T0 T1)

  pub both-run : IsRun 4 (sign_extended w T0 ++ sign_extended w T1)
  both-run = run-append 2 2 (sign_extended w T0) (sign_extended w T1) (sign-run T0) (sign-run T1)

  turned-run : (op : RegOp) (rs1 rs2 : Reg) → IsRun 2 (RegisterOp op T0 rs1 rs2 ∷ Imm Xori T0 T0 (pos 1) ∷ [])
  turned-run op rs1 rs2 = record { steps = tt; valid = (tt, ((omega (arith, ints), omega (arith, ints)), tt)); few = omega arith }

  -- and so does a comparison at most six
  pub compare-run : (p : Pred) → IsRun 6 (compare_code p w)
  compare-run pred.Eq = record { steps = tt; valid = (tt, ((omega (arith, ints), omega (arith, ints)), tt)); few = omega arith }
  compare-run pred.Ne = record { steps = tt; valid = (tt, (tt, tt)); few = omega arith }
  compare-run pred.Ugt = wider 1 6 _ (omega arith) (op-run Sltu T0 T1 T0)
  compare-run pred.Uge = wider 2 6 _ (omega arith) (turned-run Sltu T0 T1)
  compare-run pred.Ult = wider 1 6 _ (omega arith) (op-run Sltu T0 T0 T1)
  compare-run pred.Ule = wider 2 6 _ (omega arith) (turned-run Sltu T1 T0)
  compare-run pred.Sgt = wider 5 6 _ (omega arith) (run-append 4 1 (sign_extended w T0 ++ sign_extended w T1) (RegisterOp Slt T0 T1 T0 ∷ []) both-run (op-run Slt T0 T1 T0))
  compare-run pred.Sge = run-append 4 2 (sign_extended w T0 ++ sign_extended w T1) (RegisterOp Slt T0 T0 T1 ∷ Imm Xori T0 T0 (pos 1) ∷ []) both-run (turned-run Slt T0 T1)
  compare-run pred.Slt = wider 5 6 _ (omega arith) (run-append 4 1 (sign_extended w T0 ++ sign_extended w T1) (RegisterOp Slt T0 T0 T1 ∷ []) both-run (op-run Slt T0 T0 T1))
  compare-run pred.Sle = run-append 4 2 (sign_extended w T0 ++ sign_extended w T1) (RegisterOp Slt T0 T1 T0 ∷ Imm Xori T0 T0 (pos 1) ∷ []) both-run (turned-run Slt T1 T0)

-- a cast takes at most four steps
pub cast-run : (op : CastOp) (from to : ℕ) → 1 ≤ from → from ≤ 64 → 1 ≤ to → to ≤ 64 → IsRun 4 (cast_code op from to)
cast-run cast.Trunc from to a b c d = widened (zero-run to c d T0)
  where
    widened : {xs : List Instr} → IsRun 2 xs → IsRun 4 xs
    widened k = record { steps = k.steps; valid = k.valid; few = let f = k.few in omega (arith, f) }
cast-run cast.ZExt from to a b c d = record { steps = tt; valid = tt; few = omega arith }
cast-run cast.SExt from to a b c d = run-append 2 2 (sign_extended from T0) (zero_extended to T0) (sign-run from a b T0) (zero-run to c d T0)
cast-run cast.PtrToInt from to a b c d = widened (zero-run to c d T0)
  where
    widened : {xs : List Instr} → IsRun 2 xs → IsRun 4 xs
    widened k = record { steps = k.steps; valid = k.valid; few = let f = k.few in omega (arith, f) }
cast-run cast.IntToPtr from to a b c d = record { steps = tt; valid = tt; few = omega arith }
cast-run cast.Same from to a b c d = record { steps = tt; valid = tt; few = omega arith }

-- ---- how long it is, whatever the width

if-short : (b : Bool) (n : ℕ) (xs ys : List Instr) → length xs ≤ n → length ys ≤ n → length (cond b xs ys) ≤ n
if-short true n xs ys h k = h
if-short false n xs ys h k = k

pub zero-short : (w : ℕ) (rd : Reg) → length (zero_extended w rd) ≤ 2
zero-short w rd = if-short (w == 64) 2 [] _ (omega arith) (if-short (nat_le w 11) 2 _ _ (omega arith) (omega arith))

pub sign-short : (w : ℕ) (rd : Reg) → length (sign_extended w rd) ≤ 2
sign-short w rd = if-short (w == 64) 2 [] _ (omega arith) (if-short (w == 32) 2 _ _ (omega arith) (omega arith))

signed-short : (w : ℕ) (op : RegOp) → length (sign_extended w T0 ++ (sign_extended w T1 ++ RegisterOp op T0 T0 T1 ∷ zero_extended w T0)) ≤ 7
signed-short w op =
    let a = length-append (sign_extended w T0) (sign_extended w T1 ++ RegisterOp op T0 T0 T1 ∷ zero_extended w T0) in
    let b = length-append (sign_extended w T1) (RegisterOp op T0 T0 T1 ∷ zero_extended w T0) in
    let c = sign-short w T0 in let d = sign-short w T1 in let e = zero-short w T0 in
    omega (arith, a, b, c, d, e)

pub binary-short : (op : BinOp) (w : ℕ) → length (binary_code op w) ≤ 7
binary-short ir.Add w = let e = zero-short w T0 in omega (arith, e)
binary-short ir.Sub w = let e = zero-short w T0 in omega (arith, e)
binary-short ir.Mul w = let e = zero-short w T0 in omega (arith, e)
binary-short ir.UDiv w = omega arith
binary-short ir.URem w = omega arith
binary-short ir.SDiv w = if-short (w == 32) 7 _ _ (let e = zero-short w T0 in omega (arith, e)) (signed-short w Div)
binary-short ir.SRem w = if-short (w == 32) 7 _ _ (let e = zero-short w T0 in omega (arith, e)) (signed-short w Rem)
binary-short ir.Shl w = let e = zero-short w T0 in omega (arith, e)
binary-short ir.LShr w = omega arith
binary-short ir.AShr w =
    if-short (w == 32) 7 _ _ (let e = zero-short w T0 in omega (arith, e))
    (let a = length-append (sign_extended w T0) (RegisterOp Sra T0 T0 T1 ∷ zero_extended w T0) in let c = sign-short w T0 in let e = zero-short w T0 in omega (arith, a, c, e))
binary-short ir.And w = omega arith
binary-short ir.Or w = omega arith
binary-short ir.Xor w = omega arith

both-short : (w : ℕ) (xs : List Instr) → length xs ≤ 2 → length ((sign_extended w T0 ++ sign_extended w T1) ++ xs) ≤ 6
both-short w xs h =
    let a = length-append (sign_extended w T0 ++ sign_extended w T1) xs in
    let b = length-append (sign_extended w T0) (sign_extended w T1) in
    let c = sign-short w T0 in let d = sign-short w T1 in
    omega (arith, a, b, c, d, h)

pub compare-short : (p : Pred) (w : ℕ) → length (compare_code p w) ≤ 6
compare-short pred.Eq w = omega arith
compare-short pred.Ne w = omega arith
compare-short pred.Ugt w = omega arith
compare-short pred.Uge w = omega arith
compare-short pred.Ult w = omega arith
compare-short pred.Ule w = omega arith
compare-short pred.Sgt w = both-short w (RegisterOp Slt T0 T1 T0 ∷ []) (omega arith)
compare-short pred.Sge w = both-short w (RegisterOp Slt T0 T0 T1 ∷ Imm Xori T0 T0 (pos 1) ∷ []) (omega arith)
compare-short pred.Slt w = both-short w (RegisterOp Slt T0 T0 T1 ∷ []) (omega arith)
compare-short pred.Sle w = both-short w (RegisterOp Slt T0 T1 T0 ∷ Imm Xori T0 T0 (pos 1) ∷ []) (omega arith)

pub cast-short : (op : CastOp) (from to : ℕ) → length (cast_code op from to) ≤ 4
cast-short cast.Trunc from to = let e = zero-short to T0 in omega (arith, e)
cast-short cast.ZExt from to = omega arith
cast-short cast.SExt from to = let a = length-append (sign_extended from T0) (zero_extended to T0) in let c = sign-short from T0 in let e = zero-short to T0 in omega (arith, a, c, e)
cast-short cast.PtrToInt from to = let e = zero-short to T0 in omega (arith, e)
cast-short cast.IntToPtr from to = omega arith
cast-short cast.Same from to = omega arith
