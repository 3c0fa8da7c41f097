-- The code of an instruction that gives a value does what it means: operands are loaded, worked on, and the result is stored.
use Rattle.std.proofs.Common.{◌≡◌, ◌≢◌, refl, sym, ap, subst, ◌∙◌, ℕ, zero, suc, ◌+◌, ◌-◌, ◌*◌, ◌%◌, ◌^◌, ◌<◌, ◌≤◌, List, [], ◌∷◌, ◌++◌, length, Some, None, Bool, true, false, cond, arith, mod-lt}
use Rattle.std.specs.Prelude.{◌==◌, not, pos, map, slice_get, slice_set}
use Rattle.std.proofs.lemmas.Nat.{pow_pos}
use Rattle.std.proofs.lemmas.List.{length-append}
use Rattle.ir_core.specs.declared.code.Operand.{Operand}
use Rattle.ir_core.specs.declared.code.Operand.TheVariants.{Value as Local, Num, Null, Place as PlaceOf, Poison}
use Rattle.ir_core.specs.declared.program.Global.{Global}
use Rattle.rv_core.specs.Reg.{number_of, reg_at}
use Rattle.rv_core.specs.declared.reg.Reg.{Reg}
use Rattle.rv_core.specs.declared.reg.Reg.TheVariants.{X0, T0, T1, T2}
use Rattle.rv_core.specs.declared.instr.BranchOp.TheVariants.{Bne}
use Rattle.rv_core.specs.declared.instr.ImmOp.TheVariants.{Addi}
use Rattle.rv_core.specs.declared.instr.Instr.{Instr}
use Rattle.rv_core.specs.declared.instr.Instr.TheVariants.{Branch, Imm}
use Rattle.rv_core.specs.Bytes.{load_bytes}
use Rattle.rv_core.specs.Step.{written, plus}
use Rattle.ir_meaning.specs.Value.{Value}
use Rattle.ir_meaning.specs.Operators.{select}
use Rattle.ir_meaning.specs.Memory.{Memory}
use Rattle.ir_meaning.specs.Image.{place_address, address_of}
use Rattle.ir_meaning.specs.Step.{Program, operand}
use Rattle.ir_meaning.specs.Plays.{Meaning, Invocation}
use Rattle.rv_play.specs.Machine.{Machine, On, code_base, code_limit, control_base, control_end}
use Rattle.rv_play.specs.CodePlay.{Place, Point}
use Rattle.rv_play.proofs.Lines.{Stands, stands-apart, Goes, goes-then, goes-none, plain-step, moved}
use Rattle.code_pieces.specs.Code.{store_value}
use Rattle.quick_code.specs.Narrow.{after_all}
use Rattle.quick_code.specs.Operations.{IsSlotOperand, AreSlotOperands, value_code, values_code, choice_code}
use Rattle.code_pieces.proofs.Const.{put, puts-one, const-puts, const-short, eq-true}
use Rattle.code_pieces.proofs.Frame.{Is, Holds, IsScratch, keeps-then, saved_regs, scratch-t0, scratch-t1, scratch-t2, scratch-argument, argument-number, hold-put, hold-store, store-goes, value-puts, operand-some}
use Rattle.code_pieces.proofs.Slots.{load-short, store-some, other-register}
use Rattle.quick_code.proofs.NarrowRuns.{AreSteps, behind, steps-go}
use Rattle.quick_code.proofs.Meanings.{Keeps}

-- registers from a number on that the frame doesn't need
abbrev pub AreScratch : ℕ → ℕ → Type 0
AreScratch r count = (j : ℕ) → r ≤ j → j < r + count → IsScratch (reg_at j) × (number_of (reg_at j) ≡ j)

pub scratch-temporaries : (count : ℕ) → count ≤ 3 → AreScratch 5 count
scratch-temporaries count few (suc (suc (suc (suc (suc zero))))) low high = (scratch-t0, refl)
scratch-temporaries count few (suc (suc (suc (suc (suc (suc zero)))))) low high = (scratch-t1, refl)
scratch-temporaries count few (suc (suc (suc (suc (suc (suc (suc zero))))))) low high = (scratch-t2, refl)
scratch-temporaries count few zero low high = absurd (omega (arith, low))
scratch-temporaries count few (suc zero) low high = absurd (omega (arith, low))
scratch-temporaries count few (suc (suc zero)) low high = absurd (omega (arith, low))
scratch-temporaries count few (suc (suc (suc zero))) low high = absurd (omega (arith, low))
scratch-temporaries count few (suc (suc (suc (suc zero)))) low high = absurd (omega (arith, low))
scratch-temporaries count few (suc (suc (suc (suc (suc (suc (suc (suc j)))))))) low high = absurd (omega (arith, few, high))

pub scratch-arguments : (count : ℕ) → count ≤ 8 → AreScratch 10 count
scratch-arguments count few j low high =
    let place' : ℕ = j - 10 in
    let same : 10 + place' ≡ j = omega (arith, low) in
    let short : place' < 8 = omega (arith, high, few, low) in
    subst (λ (k : ℕ). IsScratch (reg_at k) × (number_of (reg_at k) ≡ k)) same (scratch-argument place' short, argument-number place' short)

-- an operand takes at most eight instructions
pub value-short : (globals : List Global) (rd : Reg) (o : Operand) → length (value_code globals rd o) ≤ 8
value-short globals rd (Local i) = let short = load-short rd (32 * i) in omega (arith, short)
value-short globals rd (Num k) = const-short 3 rd k
value-short globals rd Null = const-short 3 rd 0
value-short globals rd (PlaceOf global offset) = const-short 3 rd (place_address globals global offset)
value-short globals rd Poison = omega arith

pub values-short : (globals : List Global) (r : ℕ) (os : List Operand) → length (values_code globals r os) ≤ 8 * length os
values-short globals r [] = omega arith
values-short globals r (o ∷ os) =
    let one = value-short globals (reg_at r) o in
    let rest = values-short globals (r + 1) os in
    let all = length-append (value_code globals (reg_at r) o) (values_code globals (r + 1) os) in
    omega (arith, one, rest, all)

-- each value stands in its register, from that of a number on
abbrev pub AreIn : List Value → ℕ → (ℕ → ℕ) → Type 0
AreIn vs r x = (k v : ℕ) → slice_get vs k ≡ Some (Some v) → x (r + k) ≡ v

module _ (program : Program) (a : Invocation) (s : Machine) (low frame n : ℕ) (m : Meaning) (functions : m.functions ≤ 1024) (room : m.room ≤ 67108864) (place : Place) (lowb : code_base + 4 ≤ place.base) (highb : place.base + 4 * length place.words ≤ code_limit)
    (bottom : control_base ≤ low) (top : low + frame ≤ control_end) (is-frame : frame ≡ 128 + 32 * n) where
  abbrev Runs : ℕ → Point → Point → Type 0
  Runs = Goes m functions place lowb highb

  abbrev Held : List Value → Memory → Point → Type 0
  Held = Holds a s low frame

  abbrev globals : List Global
  globals = program.module_.globals

  -- ---- operands

  -- an operand is in its register
  pub record Brings (values : List Value) (here : Memory) (p : Point) (rd : Reg) (o : Operand) : Type 0 where
    pub point : Point
    pub run : Runs (length (value_code globals rd o)) p point
    pub pc : point.machine.regs.pc ≡ p.machine.regs.pc + 4 * length (value_code globals rd o)
    pub holds : Held values here point
    pub others : (j : ℕ) → j ≢ number_of rd → point.machine.regs.x j ≡ p.machine.regs.x j
    pub control : point.machine.control ≡ p.machine.control
    pub is : Is (operand program values o) (point.machine.regs.x (number_of rd))

  here-written : (f : ℕ → ℕ) (i v : ℕ) → written f i v i ≡ v
  here-written f i v = ap (λ (b : Bool). cond b v (f i)) (let h : (i == i) ≡ true = grind arith in h)

  by-put : (values : List Value) (here : Memory) (p : Point) (rd : Reg) (o : Operand) (number : ℕ) → IsScratch rd → Held values here p → Is (operand program values o) number
      → Runs (length (value_code globals rd o)) p (put p rd number (length (value_code globals rd o))) → Brings values here p rd o
  by-put values here p rd o number scratch h is run = record {
    point = put p rd number (length (value_code globals rd o));
    run = run;
    pc = refl;
    holds = hold-put a s low frame values here p rd number (length (value_code globals rd o)) scratch h;
    others = λ j ne. other-register p.machine.regs.x (number_of rd) j number ne;
    control = refl;
    is = λ k e. here-written p.machine.regs.x (number_of rd) number ∙ is k e;
  }

  pub value-brings : (values : List Value) (here : Memory) (p : Point) (rd : Reg) (o : Operand) → IsScratch rd → IsSlotOperand n o → Held values here p → Stands place p.machine.regs.pc (value_code globals rd o) → Brings values here p rd o
  value-brings values here p rd (Local i) scratch small h st =
      by-put values here p rd (Local i) (load_bytes p.machine.control (low + 32 * i) 8) scratch h (λ k e. h.slots i k (operand-some values i k e))
      (value-puts a s low frame m functions room place lowb highb bottom top values here p rd i scratch (omega (arith, is-frame, small)) h st)
  value-brings values here p rd (Num k) scratch small h st =
      by-put values here p rd (Num k) k scratch h (λ j e. let same : k ≡ j = cc in same) (const-puts m functions place lowb highb p rd k scratch.0 small st)
  value-brings values here p rd Null scratch small h st =
      by-put values here p rd Null 0 scratch h (λ k e. let same : 0 ≡ k = cc in same) (const-puts m functions place lowb highb p rd 0 scratch.0 (omega arith) st)
  value-brings values here p rd (PlaceOf global offset) scratch small h st =
      let address = place_address globals global offset in
      let below : address < 2 ^ 64 = mod-lt (address_of globals global + offset) (pow_pos 64) in
      by-put values here p rd (PlaceOf global offset) address scratch h (λ k e. let same : address ≡ k = cc in same) (const-puts m functions place lowb highb p rd address scratch.0 below st)
  value-brings values here p rd Poison scratch small h st = record {
    point = p;
    run = goes-none m functions place lowb highb p;
    pc = omega arith;
    holds = h;
    others = λ j ne. refl;
    control = refl;
    is = λ k e. absurd (let bad : ⊥ = cc in bad);
  }

  -- operands are in their registers, and those below are as they were
  pub record Brought (values : List Value) (here : Memory) (p : Point) (r : ℕ) (os : List Operand) : Type 0 where
    pub point : Point
    pub run : Runs (length (values_code globals r os)) p point
    pub pc : point.machine.regs.pc ≡ p.machine.regs.pc + 4 * length (values_code globals r os)
    pub holds : Held values here point
    pub below : (j : ℕ) → j < r → point.machine.regs.x j ≡ p.machine.regs.x j
    pub are : AreIn (map (operand program values) os) r point.machine.regs.x

  pub values-bring : (values : List Value) (here : Memory) (p : Point) (r : ℕ) (os : List Operand) → AreScratch r (length os) → AreSlotOperands n os → Held values here p
      → Stands place p.machine.regs.pc (values_code globals r os) → Brought values here p r os
  values-bring values here p r [] scratch small h st = record {
    point = p;
    run = goes-none m functions place lowb highb p;
    pc = omega arith;
    holds = h;
    below = λ j lt. refl;
    are = λ k v e. absurd (let bad : ⊥ = cc in bad);
  }
  values-bring values here p r (o ∷ os) scratch small h st =
      let c0 : List Instr = value_code globals (reg_at r) o in
      let c1 : List Instr = values_code globals (r + 1) os in
      let own = scratch r (omega arith) (omega arith) in
      let number = own.1 in
      let parts = stands-apart place p.machine.regs.pc c0 c1 st in
      let one = value-brings values here p (reg_at r) o own.0 small.0 h parts.0 in
      let one-pc = one.pc in
      let rest = values-bring values here one.point (r + 1) os (λ j le lt. scratch j (omega (arith, le)) (omega (arith, lt))) small.1 one.holds (subst (λ (pc : ℕ). Stands place pc c1) (sym one-pc) parts.1) in
      let len = length-append c0 c1 in
      let rest-pc = rest.pc in
      record {
        point = rest.point;
        run = subst (λ (k : ℕ). Runs k p rest.point) (sym len) (goes-then m functions place lowb highb (length c0) (length c1) p one.point rest.point one.run rest.run);
        pc = omega (arith, rest-pc, one-pc, len);
        holds = rest.holds;
        below = λ j lt. rest.below j (omega (arith, lt)) ∙ one.others j (λ z. let bad : ⊥ = omega (arith, z, number, lt) in bad);
        are = cases rest.point (rest.below r (omega arith) ∙ ap one.point.machine.regs.x (sym number)) one.is rest.are;
      }
    where
      cases : {x : ℕ} (q : Point) → q.machine.regs.x r ≡ x → Is (operand program values o) x → AreIn (map (operand program values) os) (r + 1) q.machine.regs.x → AreIn (map (operand program values) (o ∷ os)) r q.machine.regs.x
      cases q at is more zero v e = ap q.machine.regs.x (let z : r + 0 ≡ r = omega arith in z) ∙ at ∙ is v (let same : operand program values o ≡ Some v = cc in same)
      cases q at is more (suc k) v e = ap q.machine.regs.x (let z : r + suc k ≡ r + 1 + k = omega arith in z) ∙ more k v e

  -- ---- the work

  -- what is given stands in t0
  pub record Worked (code : List Instr) (values : List Value) (here : Memory) (value : Value) (p : Point) : Type 0 where
    pub count : ℕ
    pub few : count ≤ length code
    pub point : Point
    pub run : Runs count p point
    pub pc : point.machine.regs.pc ≡ p.machine.regs.pc + 4 * length code
    pub holds : Held values here point
    pub is : Is value (point.machine.regs.x 5)

  pub hold-behind : (code : List Instr) (values : List Value) (here : Memory) (p : Point) → Keeps code → Held values here p → Held values here (behind p code)
  hold-behind code values here p keeps h =
      let k = keeps p.machine.regs in
      let o : (j : ℕ) → j ≢ 5 → j ≢ 6 → (behind p code).machine.regs.x j ≡ p.machine.regs.x j = k in
      record {
        sp = o 2 (λ z. cc) (λ z. cc) ∙ h.sp;
        slots = h.slots;
        ra = h.ra;
        saved = keeps-then saved_regs s.regs p.machine.regs (behind p code).machine.regs h.saved
            (o 8 (λ z. cc) (λ z. cc), (o 9 (λ z. cc) (λ z. cc), (o 18 (λ z. cc) (λ z. cc), (o 19 (λ z. cc) (λ z. cc), (o 20 (λ z. cc) (λ z. cc), (o 21 (λ z. cc) (λ z. cc), (o 22 (λ z. cc) (λ z. cc), (o 23 (λ z. cc) (λ z. cc), (o 24 (λ z. cc) (λ z. cc), (o 25 (λ z. cc) (λ z. cc), (o 26 (λ z. cc) (λ z. cc), tt)))))))))));
        aside = h.aside;
        data_top = o 27 (λ z. cc) (λ z. cc) ∙ h.data_top;
        kept = h.kept;
        memory' = h.memory';
        counted = h.counted;
      }

  -- work by instructions that go to the next one
  pub straight-work : (code : List Instr) (values : List Value) (here : Memory) (value : Value) (p : Point) → AreSteps code → Keeps code → Is value ((after_all code p.machine.regs).x 5) → Held values here p
      → Stands place p.machine.regs.pc code → Worked code values here value p
  straight-work code values here value p steps keeps is h st = record {
    count = length code;
    few = omega arith;
    point = behind p code;
    run = steps-go m functions place lowb highb code p steps st;
    pc = refl;
    holds = hold-behind code values here p keeps h;
    is = is;
  }

  -- a choice
  choice-is : (c x y : Value) (i j k : ℕ) → Is x i → Is y j → Is c k → k ≢ 0 → Is (select c x y) i
  choice-is None x y i j k hx hy hc ne = λ v e. absurd (let bad : ⊥ = cc in bad)
  choice-is (Some zero) x y i j k hx hy hc ne = absurd (ne (hc 0 refl))
  choice-is (Some (suc c)) x y i j k hx hy hc ne = hx

  other-is : (c x y : Value) (i j k : ℕ) → Is x i → Is y j → Is c k → k ≡ 0 → Is (select c x y) j
  other-is None x y i j k hx hy hc e = λ v z. absurd (let bad : ⊥ = cc in bad)
  other-is (Some zero) x y i j k hx hy hc e = hy
  other-is (Some (suc c)) x y i j k hx hy hc e = absurd (let z = hc (suc c) refl in let bad : ⊥ = omega (arith, z, e) in bad)

  -- the point behind the branch
  abbrev branched : Point → ℕ → Point
  branched p pc = moved p (record p.machine { regs = record { x = p.machine.regs.x; pc = pc } }) p.counted

  hold-branched : (values : List Value) (here : Memory) (p : Point) (pc : ℕ) → Held values here p → Held values here (branched p pc)
  hold-branched values here p pc h = record { sp = h.sp; slots = h.slots; ra = h.ra; aside = h.aside; saved = h.saved; data_top = h.data_top; kept = h.kept; memory' = h.memory'; counted = h.counted }

  branch-goes : (p : Point) (zeroed : Bool) (pc : ℕ) → (p.machine.regs.x 7 == 0) ≡ zeroed → Stands place p.machine.regs.pc (Branch Bne T2 X0 (pos 8) ∷ []) → p.machine.regs.pc + 8 ≤ code_limit → p.machine.regs.pc + cond (not zeroed) 8 4 ≡ pc
      → Runs 1 p (branched p pc)
  branch-goes p true pc e st bound to =
      let inside = st.0 in
      let goes : plus p.machine.regs.pc (pos 4) ≡ pc = omega (arith, to, bound) in
      plain-step m functions place lowb highb p (Branch Bne T2 X0 (pos 8)) (branched p pc).machine st.2 refl
      (ap (λ (c : Bool). On (record p.machine { regs = record { x = p.machine.regs.x; pc = plus p.machine.regs.pc (cond (not c) (pos 8) (pos 4)) } })) e
      ∙ ap (λ (j : ℕ). On (record p.machine { regs = record { x = p.machine.regs.x; pc = j } })) goes) (omega (arith, inside, to))
  branch-goes p false pc e st bound to =
      let inside = st.0 in
      let goes : plus p.machine.regs.pc (pos 8) ≡ pc = omega (arith, to, bound) in
      plain-step m functions place lowb highb p (Branch Bne T2 X0 (pos 8)) (branched p pc).machine st.2 refl
      (ap (λ (c : Bool). On (record p.machine { regs = record { x = p.machine.regs.x; pc = plus p.machine.regs.pc (cond (not c) (pos 8) (pos 4)) } })) e
      ∙ ap (λ (j : ℕ). On (record p.machine { regs = record { x = p.machine.regs.x; pc = j } })) goes) (omega (arith, inside, to))

  pub choice-work : (values : List Value) (here : Memory) (c x y : Value) (p : Point) → Is x (p.machine.regs.x 5) → Is y (p.machine.regs.x 6) → Is c (p.machine.regs.x 7) → ((k : ℕ) → y ≡ Some k → k < 2 ^ 64) → Held values here p
      → Stands place p.machine.regs.pc choice_code → Worked choice_code values here (select c x y) p
  choice-work values here c x y p hx hy hc fy h st = by_test (p.machine.regs.x 7 == 0) refl
    where
      bound : p.machine.regs.pc + 8 ≤ code_limit
      bound = let b = st.3.1 in omega (arith, b)

      by_test : (b : Bool) → (p.machine.regs.x 7 == 0) ≡ b → Worked choice_code values here (select c x y) p
      by_test false e = record {
        count = 1;
        few = omega arith;
        point = branched p (p.machine.regs.pc + 8);
        run = branch-goes p false (p.machine.regs.pc + 8) e (st.0, st.1, st.2, tt) bound refl;
        pc = refl;
        holds = hold-branched values here p (p.machine.regs.pc + 8) h;
        is = choice-is c x y (p.machine.regs.x 5) (p.machine.regs.x 6) (p.machine.regs.x 7) hx hy hc (λ z. let bad : ⊥ = grind (arith, e, z) in bad);
      }
      by_test true e =
          let st1 = st.3 in
          let q : Point = branched p (p.machine.regs.pc + 4) in
          let r : ℕ = (p.machine.regs.x 6 + 0 % 2 ^ 64) % 2 ^ 64 in
          let z : p.machine.regs.x 7 ≡ 0 = eq-true (p.machine.regs.x 7) 0 e in
          record {
            count = 2;
            few = omega arith;
            point = put q T0 r 1;
            run = goes-then m functions place lowb highb 1 1 p q (put q T0 r 1) (branch-goes p true (p.machine.regs.pc + 4) e (st.0, st.1, st.2, tt) bound refl)
                (puts-one m functions place lowb highb q T0 r (Imm Addi T0 T1 (pos 0)) scratch-t0.0 refl refl (st1.0, st1.1, st1.2, tt));
            pc = omega arith;
            holds = hold-put a s low frame values here q T0 r 1 scratch-t0 (hold-branched values here p (p.machine.regs.pc + 4) h);
            is = λ k g. let w = other-is c x y (p.machine.regs.x 5) (p.machine.regs.x 6) (p.machine.regs.x 7) hx hy hc z k g in let lt = below c x y z hc g in omega (arith, w, lt);
          }
        where
          below : (c x y : Value) → p.machine.regs.x 7 ≡ 0 → Is c (p.machine.regs.x 7) → {k : ℕ} → select c x y ≡ Some k → ((k : ℕ) → y ≡ Some k → k < 2 ^ 64) → k < 2 ^ 64
          below None x y z hc {k} g fy = absurd (let bad : ⊥ = cc in bad)
          below (Some zero) x y z hc {k} g fy = fy k g
          below (Some (suc c)) x y z hc {k} g fy = absurd (let w = hc (suc c) refl in let bad : ⊥ = omega (arith, z, w) in bad)

  -- ---- an instruction that gives a value

  -- where its code has come to, with these values
  pub record Reaches (code : List Instr) (values : List Value) (here : Memory) (p : Point) : Type 0 where
    pub count : ℕ
    pub some : 1 ≤ count
    pub few : count ≤ length code
    pub point : Point
    pub run : Runs count p point
    pub pc : point.machine.regs.pc ≡ p.machine.regs.pc + 4 * length code
    pub holds : Held values here point

  pub operation-goes : (os : List Operand) (work : List Instr) (value : Value) (values : List Value) (here : Memory) (p : Point) (d : ℕ) → length os ≤ 3 → AreSlotOperands n os → d < n
      → ((k : ℕ) → value ≡ Some k → k < 2 ^ 64)
      → ((q : Point) → AreIn (map (operand program values) os) 5 q.machine.regs.x → Held values here q → Stands place q.machine.regs.pc work → Worked work values here value q)
      → Held values here p → Stands place p.machine.regs.pc (values_code globals 5 os ++ (work ++ store_value T0 d))
      → Reaches (values_code globals 5 os ++ (work ++ store_value T0 d)) (slice_set values d value) here p
  operation-goes os work value values here p d few small inside fits works h st =
      let c0 : List Instr = values_code globals 5 os in
      let c2 : List Instr = store_value T0 d in
      let parts = stands-apart place p.machine.regs.pc c0 (work ++ c2) st in
      let b = values-bring values here p 5 os (scratch-temporaries (length os) few) small h parts.0 in
      let pc0 = b.pc in
      let parts1 = stands-apart place b.point.machine.regs.pc work c2 (subst (λ (k : ℕ). Stands place k (work ++ c2)) (sym pc0) parts.1) in
      let w = works b.point b.are b.holds parts1.0 in
      let pc1 = w.pc in
      let r : ℕ = w.point.machine.regs.x 5 in
      let store = store-goes a s low frame m functions room place lowb highb bottom top values here w.point T0 d (λ z. omega (arith, z)) (omega (arith, is-frame, inside)) w.holds (subst (λ (k : ℕ). Stands place k c2) (sym pc1) parts1.1) in
      let q : Point = store.point in
      let pc2 = store.pc in
      let some = store-some T0 (32 * d) in
      let len0 = length-append c0 (work ++ c2) in
      let len1 = length-append work c2 in
      let fw = w.few in
      record {
        count = length c0 + (w.count + length c2);
        some = omega (arith, some);
        few = omega (arith, len0, len1, fw);
        point = q;
        run = goes-then m functions place lowb highb (length c0) (w.count + length c2) p b.point q b.run (goes-then m functions place lowb highb w.count (length c2) b.point w.point q w.run store.run);
        pc = omega (arith, len0, len1, pc0, pc1, pc2);
        holds = hold-store a s low frame values here w.point q d r value store.alters (omega (arith, is-frame, inside)) w.is fits w.holds;
      }
