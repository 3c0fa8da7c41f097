-- A branch over one instruction, with straight code before it and behind it.
use Rattle.std.proofs.Common.{◌≡◌, refl, ap, subst, ◌∙◌, ℕ, ◌+◌, ◌*◌, ◌≤◌, List, [], ◌∷◌, ◌++◌, length, Bool, true, false, cond, arith}
use Rattle.std.specs.Prelude.{pos}
use Rattle.std.proofs.lemmas.List.{length-append}
use Rattle.rv_core.specs.declared.reg.Reg.{Reg}
use Rattle.rv_core.specs.declared.instr.BranchOp.{BranchOp}
use Rattle.rv_core.specs.declared.instr.Instr.{Instr}
use Rattle.rv_core.specs.declared.instr.Instr.TheVariants.{Branch}
use Rattle.rv_core.specs.Step.{Registers, read, is_taken, plus}
use Rattle.ir_meaning.specs.Value.{Value}
use Rattle.ir_meaning.specs.Memory.{Memory}
use Rattle.ir_meaning.specs.Step.{Program}
use Rattle.ir_meaning.specs.Plays.{Meaning, Invocation}
use Rattle.rv_play.specs.Machine.{Machine, On, code_base, code_limit, control_base, control_end}
use Rattle.rv_play.specs.CodePlay.{Place, Point}
use Rattle.rv_play.proofs.Lines.{Stands, stands-apart, Goes, goes-then, plain-step, moved}
use Rattle.quick_code.specs.Narrow.{after_all}
use Rattle.code_pieces.proofs.Frame.{Is, Holds}
use Rattle.quick_code.proofs.NarrowRuns.{AreSteps, behind, steps-go}
use Rattle.quick_code.proofs.Meanings.{Keeps}
use Rattle.quick_code.proofs.Operations.{Worked, hold-behind}

-- what stands in t0 behind the code, where the branch is taken and where it isn't
pub record Leaves (xs : List Instr) (op : BranchOp) (ra rb : Reg) (i : Instr) (ys : List Instr) (value : Value) (r : Registers) : Type 0 where
  pub taken : is_taken op (read (after_all xs r) ra) (read (after_all xs r) rb) ≡ true → (pc : ℕ) → Is value ((after_all ys (record { x = (after_all xs r).x; pc = pc })).x 5)
  pub on : is_taken op (read (after_all xs r) ra) (read (after_all xs r) rb) ≡ false → (pc : ℕ) → Is value ((after_all (i ∷ ys) (record { x = (after_all xs r).x; pc = pc })).x 5)

module _ (program : Program) (a : Invocation) (s : Machine) (low frame n : ℕ) (m : Meaning) (functions : m.functions ≤ 1024) (room : m.room ≤ 67108864) (place : Place) (lowb : code_base + 4 ≤ place.base) (highb : place.base + 4 * length place.words ≤ code_limit)
    (bottom : control_base ≤ low) (top : low + frame ≤ control_end) (is-frame : frame ≡ 128 + 32 * n) where
  abbrev Runs : ℕ → Point → Point → Type 0
  Runs = Goes m functions place lowb highb

  abbrev Held : List Value → Memory → Point → Type 0
  Held = Holds a s low frame

  abbrev Work : List Instr → List Value → Memory → Value → Point → Type 0
  Work = Worked program a s low frame n m functions room place lowb highb bottom top is-frame

  -- the point behind a branch
  abbrev branched : Point → ℕ → Point
  branched p pc = moved p (record p.machine { regs = record { x = p.machine.regs.x; pc = pc } }) p.counted

  hold-branched : (values : List Value) (here : Memory) (p : Point) (pc : ℕ) → Held values here p → Held values here (branched p pc)
  hold-branched values here p pc h = record { sp = h.sp; slots = h.slots; ra = h.ra; aside = h.aside; saved = h.saved; data_top = h.data_top; kept = h.kept; memory' = h.memory'; counted = h.counted }

  branch-goes : (p : Point) (op : BranchOp) (ra rb : Reg) (b : Bool) (pc : ℕ) → is_taken op (read p.machine.regs ra) (read p.machine.regs rb) ≡ b → Stands place p.machine.regs.pc (Branch op ra rb (pos 8) ∷ []) → p.machine.regs.pc + 8 ≤ code_limit
      → p.machine.regs.pc + cond b 8 4 ≡ pc → Runs 1 p (branched p pc)
  branch-goes p op ra rb true pc e st bound to =
      let inside = st.0 in
      let goes : plus p.machine.regs.pc (pos 8) ≡ pc = omega (arith, to, bound) in
      plain-step m functions place lowb highb p (Branch op ra rb (pos 8)) (branched p pc).machine st.2 refl
      (ap (λ (c : Bool). On (record p.machine { regs = record { x = p.machine.regs.x; pc = plus p.machine.regs.pc (cond c (pos 8) (pos 4)) } })) e
      ∙ ap (λ (j : ℕ). On (record p.machine { regs = record { x = p.machine.regs.x; pc = j } })) goes) (omega (arith, inside, to))
  branch-goes p op ra rb false pc e st bound to =
      let inside = st.0 in
      let goes : plus p.machine.regs.pc (pos 4) ≡ pc = omega (arith, to, bound) in
      plain-step m functions place lowb highb p (Branch op ra rb (pos 8)) (branched p pc).machine st.2 refl
      (ap (λ (c : Bool). On (record p.machine { regs = record { x = p.machine.regs.x; pc = plus p.machine.regs.pc (cond c (pos 8) (pos 4)) } })) e
      ∙ ap (λ (j : ℕ). On (record p.machine { regs = record { x = p.machine.regs.x; pc = j } })) goes) (omega (arith, inside, to))

  pub unless-work : (xs : List Instr) (op : BranchOp) (ra rb : Reg) (i : Instr) (ys : List Instr) (values : List Value) (here : Memory) (value : Value) (p : Point)
      → AreSteps xs → Keeps xs → AreSteps (i ∷ ys) → Keeps (i ∷ ys) → AreSteps ys → Keeps ys → Leaves xs op ra rb i ys value p.machine.regs → Held values here p
      → Stands place p.machine.regs.pc (xs ++ Branch op ra rb (pos 8) ∷ i ∷ ys) → Work (xs ++ Branch op ra rb (pos 8) ∷ i ∷ ys) values here value p
  unless-work xs op ra rb i ys values here value p steps-xs keeps-xs steps-on keeps-on steps-ys keeps-ys leaves h st =
      by_test (is_taken op (read q.machine.regs ra) (read q.machine.regs rb)) refl
    where
      q : Point
      q = behind p xs

      parts : Stands place p.machine.regs.pc xs × Stands place (p.machine.regs.pc + 4 * length xs) (Branch op ra rb (pos 8) ∷ i ∷ ys)
      parts = stands-apart place p.machine.regs.pc xs (Branch op ra rb (pos 8) ∷ i ∷ ys) st

      first : Runs (length xs) p q
      first = steps-go m functions place lowb highb xs p steps-xs parts.0

      held : Held values here q
      held = hold-behind program a s low frame n m functions room place lowb highb bottom top is-frame xs values here p keeps-xs h

      bound : q.machine.regs.pc + 8 ≤ code_limit
      bound = let b = parts.1.3.1 in omega (arith, b)

      all : length (xs ++ Branch op ra rb (pos 8) ∷ i ∷ ys) ≡ length xs + (2 + length ys)
      all = let l = length-append xs (Branch op ra rb (pos 8) ∷ i ∷ ys) in omega (arith, l)

      by_test : (b : Bool) → is_taken op (read q.machine.regs ra) (read q.machine.regs rb) ≡ b → Work (xs ++ Branch op ra rb (pos 8) ∷ i ∷ ys) values here value p
      by_test true e =
          let r : Point = branched q (q.machine.regs.pc + 8) in
          let here' : Stands place (q.machine.regs.pc + 8) ys = subst (λ (k : ℕ). Stands place k ys) (let z : q.machine.regs.pc + 4 + 4 ≡ q.machine.regs.pc + 8 = omega arith in z) parts.1.3.3 in
          let second = branch-goes q op ra rb true (q.machine.regs.pc + 8) e (parts.1.0, parts.1.1, parts.1.2, tt) bound refl in
          let third = steps-go m functions place lowb highb ys r steps-ys here' in
          let many = all in
          record {
            count = length xs + (1 + length ys);
            few = omega (arith, many);
            point = behind r ys;
            run = goes-then m functions place lowb highb (length xs) (1 + length ys) p q (behind r ys) first (goes-then m functions place lowb highb 1 (length ys) q r (behind r ys) second third);
            pc = omega (arith, many);
            holds = hold-behind program a s low frame n m functions room place lowb highb bottom top is-frame ys values here r keeps-ys (hold-branched values here q (q.machine.regs.pc + 8) held);
            is = leaves.taken e (q.machine.regs.pc + 8);
          }
      by_test false e =
          let r : Point = branched q (q.machine.regs.pc + 4) in
          let second = branch-goes q op ra rb false (q.machine.regs.pc + 4) e (parts.1.0, parts.1.1, parts.1.2, tt) bound refl in
          let third = steps-go m functions place lowb highb (i ∷ ys) r steps-on parts.1.3 in
          let many = all in
          record {
            count = length xs + (1 + length (i ∷ ys));
            few = omega (arith, many);
            point = behind r (i ∷ ys);
            run = goes-then m functions place lowb highb (length xs) (1 + length (i ∷ ys)) p q (behind r (i ∷ ys)) first (goes-then m functions place lowb highb 1 (length (i ∷ ys)) q r (behind r (i ∷ ys)) second third);
            pc = omega (arith, many);
            holds = hold-behind program a s low frame n m functions room place lowb highb bottom top is-frame (i ∷ ys) values here r keeps-on (hold-branched values here q (q.machine.regs.pc + 4) held);
            is = leaves.on e (q.machine.regs.pc + 4);
          }
