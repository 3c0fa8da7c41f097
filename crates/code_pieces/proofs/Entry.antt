-- The code that enters an activation counts it, tests the stack, and stores the arguments.
use Rattle.std.proofs.Common.{◌≡◌, refl, sym, ap, subst, ◌∙◌, ℕ, zero, suc, ◌+◌, ◌-◌, ◌*◌, ◌%◌, ◌^◌, ◌<◌, ◌≤◌, inl, inr, List, [], ◌∷◌, ◌++◌, length, Bool, true, false, cond, arith, not}
use Rattle.std.specs.Prelude.{nat_lt, nat_le, pos}
use Rattle.std.proofs.lemmas.Bool.{lt-ltb, le-ltb, leb-true}
use Rattle.std.proofs.lemmas.List.{length-append}
use Rattle.rv_core.specs.declared.reg.Reg.{Reg}
use Rattle.rv_core.specs.declared.reg.Reg.TheVariants.{X0, Ra, Sp, T0, T1, T2}
use Rattle.rv_core.specs.declared.instr.ImmOp.TheVariants.{Addi}
use Rattle.rv_core.specs.declared.instr.RegOp.TheVariants.{Sub}
use Rattle.rv_core.specs.declared.instr.BranchOp.TheVariants.{Bgeu}
use Rattle.rv_core.specs.declared.instr.Instr.{Instr}
use Rattle.rv_core.specs.declared.instr.Instr.TheVariants.{Lui, Branch, Imm, Op as RegisterOp, Ecall}
use Rattle.rv_core.specs.Bytes.{load_bytes}
use Rattle.rv_core.proofs.Bytes.{load_stored, load_outside, store_outside}
use Rattle.rv_core.specs.Step.{written, read, plus, modulo, next}
use Rattle.ir_meaning.specs.Memory.{Memory}
use Rattle.ir_meaning.specs.Plays.{Meaning, Invocation}
use Rattle.rv_play.specs.Machine.{Machine, On, Counts, Fails, act, code_base, code_limit, control_base, control_end, data_base}
use Rattle.rv_play.specs.CodePlay.{Place, Point, Overflows, CodeReply, code_run, entered}
use Rattle.rv_play.specs.Good.{IsRegs, RefinesMemory}
use Rattle.rv_play.proofs.Lines.{Stands, stands-apart, Goes, goes-then, one-step, plain-step, count-step, moved, next-regs}
use Rattle.code_pieces.specs.Code.{negative, const_code, lowered_code, lower_sp, store_at, prologue}
use Rattle.code_pieces.proofs.Const.{Puts, put, puts-one, puts-then, puts-if, const-puts, const-short}
use Rattle.code_pieces.proofs.Slots.{Alters, Saves, saves-at, store-short, other-register}
use Rattle.code_pieces.proofs.Frame.{Holds, saved_regs, keeps-then, keeps-others}

-- a negative number modulo 2 ^ 64
pub negative-is : (k : ℕ) → 0 < k → k < 2 ^ 32 → modulo (negative k) ≡ 2 ^ 64 - k
negative-is zero h l = absurd (omega arith)
negative-is (suc k) h l = omega arith

-- sp less a frame takes at most nine instructions
pub lowered-short : (frame : ℕ) → length (lowered_code frame) ≤ 9
unfolding lowered_code
lowered-short frame =
    let one = const-short 3 T0 frame in
    let all = length-append (const_code 3 T0 frame) (RegisterOp Sub T0 Sp T0 ∷ []) in
    by_test (nat_le frame 2048) (omega (arith, one, all))
  where
    by_test : (b : Bool) → length (const_code 3 T0 frame ++ RegisterOp Sub T0 Sp T0 ∷ []) ≤ 9 → length (cond b (Imm Addi T0 Sp (negative frame) ∷ []) (const_code 3 T0 frame ++ RegisterOp Sub T0 Sp T0 ∷ [])) ≤ 9
    by_test true h = omega arith
    by_test false h = h

pub prologue-short : (symbol frame : ℕ) → length (prologue symbol frame) ≤ 20
prologue-short symbol frame =
    let first = lowered-short frame in
    let last = store-short Ra (frame - 8) in
    let all = length-append (lowered_code frame) (Lui T2 0x40000 ∷ Branch Bgeu T0 T2 (pos 12) ∷ Imm Addi T0 X0 (pos 2) ∷ Ecall ∷ lower_sp frame ∷ store_at Ra (frame - 8)) in
    omega (arith, first, last, all)

module _ (a : Invocation) (s : Machine) (low fr : ℕ) (m : Meaning) (functions : m.functions ≤ 1024) (room : m.room ≤ 67108864) (place : Place) (lowb : code_base + 4 ≤ place.base) (highb : place.base + 4 * length place.words ≤ code_limit)
    (symbol : a.symbol < m.functions) (frame-large : 128 ≤ fr) (frame-small : fr ≤ 2 ^ 20) (sp-is : s.regs.x 2 ≡ a.sp) (sp-low : control_base ≤ a.sp) (sp-high : a.sp ≤ control_end) (low-is : low ≡ a.sp - fr) (regs : IsRegs s.regs)
    (here : Memory) (refines : RefinesMemory here s.bytes) where
  abbrev Runs : ℕ → Point → Point → Type 0
  Runs = Goes m functions place lowb highb

  abbrev p0 : Point
  p0 = entered place.base s

  abbrev p1 : Point
  p1 = put p0 T0 1 1

  abbrev p2 : Point
  p2 = put p1 T1 a.symbol 1

  abbrev p3 : Point
  p3 = moved p2 (record p2.machine { regs = next-regs p2.machine }) ([] ++ a.symbol ∷ [])

  abbrev p4 : Point
  p4 = put p3 T0 low (length (lowered_code fr))

  abbrev p5 : Point
  p5 = put p4 T2 0x40000000 1

  -- behind the test, at the place that it leads to
  abbrev p6 : ℕ → Point
  p6 pc = moved p5 (record p5.machine { regs = record { x = p5.machine.regs.x; pc = pc } }) p5.counted

  -- what stands behind sp less the frame
  abbrev behind : List Instr
  behind = Lui T2 0x40000 ∷ Branch Bgeu T0 T2 (pos 12) ∷ Imm Addi T0 X0 (pos 2) ∷ Ecall ∷ lower_sp fr ∷ store_at Ra (fr - 8)

  abbrev Brings : Point → Reg → ℕ → List Instr → Type 0
  Brings = Puts m functions place lowb highb

  near-lowered : fr ≤ 2048 → (s.regs.x 2 + modulo (negative fr)) % 2 ^ 64 ≡ low
  near-lowered le = let neg = negative-is fr (omega (arith, frame-large)) (omega (arith, le)) in omega (arith, neg, sp-is, sp-low, sp-high, low-is, le, frame-large)

  lower-near : fr ≤ 2048 → Brings p3 T0 low (Imm Addi T0 Sp (negative fr) ∷ [])
  lower-near le =
      puts-one m functions place lowb highb p3 T0 low (Imm Addi T0 Sp (negative fr)) (λ bad. cc) refl
      (ap (λ (v : ℕ). On (record p3.machine { regs = record { x = written p3.machine.regs.x 5 v; pc = plus p3.machine.regs.pc (pos 4) } })) (near-lowered le))

  lower-far : Brings p3 T0 low (const_code 3 T0 fr ++ RegisterOp Sub T0 Sp T0 ∷ [])
  lower-far =
      let q : Point = put p3 T0 fr (length (const_code 3 T0 fr)) in
      let less : (s.regs.x 2 + (2 ^ 64 - fr)) % 2 ^ 64 ≡ low = omega (arith, sp-is, sp-low, sp-high, low-is, frame-small) in
      puts-then m functions place lowb highb p3 T0 fr low (const_code 3 T0 fr) (RegisterOp Sub T0 Sp T0 ∷ []) (const-puts m functions place lowb highb p3 T0 fr (λ bad. cc) (omega (arith, frame-small)))
      (puts-one m functions place lowb highb q T0 low (RegisterOp Sub T0 Sp T0) (λ bad. cc) refl
      (ap (λ (v : ℕ). On (record q.machine { regs = record { x = written q.machine.regs.x 5 v; pc = plus q.machine.regs.pc (pos 4) } })) less))

  lowers : Brings p3 T0 low (lowered_code fr)
  unfolding lowered_code
  lowers = puts-if m functions place lowb highb p3 T0 low (nat_le fr 2048) (Imm Addi T0 Sp (negative fr) ∷ []) (const_code 3 T0 fr ++ RegisterOp Sub T0 Sp T0 ∷ []) (λ e. lower-near (leb-true fr 2048 e)) (λ e. lower-far)

  -- what stands from there on
  rest-stands : Stands place p0.machine.regs.pc (prologue a.symbol fr) → Stands place p3.machine.regs.pc (lowered_code fr) × Stands place p4.machine.regs.pc behind
  rest-stands st = stands-apart place p3.machine.regs.pc (lowered_code fr) behind st.3.3.3

  -- the run up to the test
  front : Stands place p0.machine.regs.pc (prologue a.symbol fr) → Runs (4 + length (lowered_code fr)) p0 p5
  front st =
      let i1 = st.0 in let b1 = st.1 in
      let st1 = st.3 in let st2 = st1.3 in
      let parts = rest-stands st in
      let st4 = parts.1 in
      let small : (0 + a.symbol % 2 ^ 64) % 2 ^ 64 ≡ a.symbol = omega (arith, symbol, functions) in
      let r0 = puts-one m functions place lowb highb p0 T0 1 (Imm Addi T0 X0 (pos 1)) (λ bad. cc) refl refl (st.0, st.1, st.2, tt) in
      let r1 = puts-one m functions place lowb highb p1 T1 a.symbol (Imm Addi T1 X0 (pos a.symbol)) (λ bad. cc) refl
      (ap (λ (v : ℕ). On (record p1.machine { regs = record { x = written p1.machine.regs.x 6 v; pc = plus p1.machine.regs.pc (pos 4) } })) small) (st1.0, st1.1, st1.2, tt) in
      let b2 = st2.1 in let i2 = st2.0 in
      let near : plus p2.machine.regs.pc (pos 4) ≡ p2.machine.regs.pc + 4 = omega (arith, b2) in
      let known : nat_lt a.symbol m.functions ≡ true = lt-ltb _ _ symbol in
      let counts : act m p2.machine Ecall ≡ Counts a.symbol (record p2.machine { regs = next-regs p2.machine }) =
      ap (λ (b : Bool). cond b (Counts a.symbol (record p2.machine { regs = record { x = p2.machine.regs.x; pc = plus p2.machine.regs.pc (pos 4) } })) Fails) known
      ∙ ap (λ (pc : ℕ). Counts a.symbol (record p2.machine { regs = record { x = p2.machine.regs.x; pc = pc } })) near in
      let r2 = count-step m functions place lowb highb p2 Ecall a.symbol (record p2.machine { regs = next-regs p2.machine }) st2.2 refl counts (omega (arith, i2)) in
      let r3 = lowers parts.0 in
      let r4 = puts-one m functions place lowb highb p4 T2 0x40000000 (Lui T2 0x40000) (λ bad. cc) refl refl (st4.0, st4.1, st4.2, tt) in
      let k = length (lowered_code fr) in
      let all = goes-then m functions place lowb highb (3 + k) 1 p0 p4 p5 (goes-then m functions place lowb highb 3 k p0 p3 p4 (goes-then m functions place lowb highb 2 1 p0 p2 p3 (goes-then m functions place lowb highb 1 1 p0 p1 p2 r0 r1) r2) r3) r4 in
      subst (λ (n : ℕ). Runs n p0 p5) (let z : 3 + k + 1 ≡ 4 + k = omega arith in z) all

  -- the test
  tested : (b : Bool) (pc : ℕ) → nat_lt low 0x40000000 ≡ b → (st : Stands place p5.machine.regs.pc (Branch Bgeu T0 T2 (pos 12) ∷ [])) → p5.machine.regs.pc + cond (not b) 12 4 ≡ pc → Runs 1 p5 (p6 pc)
  tested true pc e st to =
      let bound = st.1 in let inside = st.0 in
      let goes : plus p5.machine.regs.pc (pos 4) ≡ pc = omega (arith, to, bound) in
      plain-step m functions place lowb highb p5 (Branch Bgeu T0 T2 (pos 12)) (p6 pc).machine st.2 refl
      (ap (λ (c : Bool). On (record p5.machine { regs = record { x = p5.machine.regs.x; pc = plus p5.machine.regs.pc (cond (not c) (pos 12) (pos 4)) } })) e
      ∙ ap (λ (j : ℕ). On (record p5.machine { regs = record { x = p5.machine.regs.x; pc = j } })) goes) (omega (arith, inside, to))
  tested false pc e st to =
      let bound = st.1 in let inside = st.0 in
      let goes : plus p5.machine.regs.pc (pos 12) ≡ pc = omega (arith, to, bound) in
      plain-step m functions place lowb highb p5 (Branch Bgeu T0 T2 (pos 12)) (p6 pc).machine st.2 refl
      (ap (λ (c : Bool). On (record p5.machine { regs = record { x = p5.machine.regs.x; pc = plus p5.machine.regs.pc (cond (not c) (pos 12) (pos 4)) } })) e
      ∙ ap (λ (j : ℕ). On (record p5.machine { regs = record { x = p5.machine.regs.x; pc = j } })) goes) (omega (arith, inside, to))

  -- where there is no room the run overflows
  pub overflows : a.sp < control_base + fr → Stands place p0.machine.regs.pc (prologue a.symbol fr)
      → (q : Point) × (q.counted ≡ a.symbol ∷ []) × ((f : ℕ) (replies : List CodeReply) → code_run m place (7 + length (lowered_code fr) + f) p0 replies ≡ Overflows q)
  overflows deep st =
      let k = length (lowered_code fr) in
      let st5 = (rest-stands st).1.3 in let st6 = st5.3 in let st7 = st6.3 in
      let below : nat_lt low 0x40000000 ≡ true = lt-ltb _ _ (omega (arith, deep, low-is, sp-low, frame-small)) in
      let q6 : Point = p6 (p5.machine.regs.pc + 4) in
      let q7 : Point = put q6 T0 2 1 in
      let r5 = tested true (p5.machine.regs.pc + 4) below (st5.0, st5.1, st5.2, tt) refl in
      let r6 = puts-one m functions place lowb highb q6 T0 2 (Imm Addi T0 X0 (pos 2)) (λ bad. cc) refl refl (st6.0, st6.1, st6.2, tt) in
      let all = goes-then m functions place lowb highb (4 + k + 1) 1 p0 q6 q7 (goes-then m functions place lowb highb (4 + k) 1 p0 p5 q6 (front st) r5) r6 in
      let q8 : Point = moved q7 (record q7.machine { regs = next q7.machine.regs }) q7.counted in (
        q8,
        refl,
        λ f replies.
            ap (λ (j : ℕ). code_run m place j p0 replies) (let e : 7 + k + f ≡ 4 + k + 1 + 1 + suc f = omega arith in e)
            ∙ all (suc f) replies
            ∙ one-step m functions place lowb highb q7 Ecall (Overflows q8) st7.2 refl f replies,
      )

  -- ---- room

  -- the frame, before any value
  pub record Opened : Type 0 where
    pub point : Point
    pub count : ℕ
    pub few : count ≤ 20
    pub run : Runs count p0 point
    pub pc : point.machine.regs.pc ≡ p0.machine.regs.pc + 4 * length (prologue a.symbol fr)
    pub holds : Holds a s low fr [] here point
    pub registers : (j : ℕ) → 10 ≤ j → j < 31 → point.machine.regs.x j ≡ s.regs.x j

  other : (f : ℕ → ℕ) (i v j : ℕ) → i < j → written f i v j ≡ f j
  other f i v j h = other-register f i j v (λ z. let bad : ⊥ = omega (arith, z, h) in bad)

  module _ (wide : control_base + fr ≤ a.sp) where
    bottom : control_base ≤ low
    bottom = omega (arith, wide, low-is)

    top : low + fr ≤ control_end
    top = omega (arith, wide, low-is, sp-high)

    abbrev q6 : Point
    q6 = p6 (p5.machine.regs.pc + 12)

    abbrev p8 : Point
    p8 = put q6 Sp low 1

    take-by : (b : Bool) → nat_le fr 2048 ≡ b → Brings q6 Sp low (cond b (Imm Addi Sp Sp (negative fr)) (Imm Addi Sp T0 (pos 0)) ∷ [])
    take-by true e =
        puts-one m functions place lowb highb q6 Sp low (Imm Addi Sp Sp (negative fr)) (λ bad. cc) refl
        (ap (λ (v : ℕ). On (record q6.machine { regs = record { x = written q6.machine.regs.x 2 v; pc = plus q6.machine.regs.pc (pos 4) } })) (near-lowered (leb-true fr 2048 e)))
    take-by false e =
        let tp = top in
        let same : (low + 0 % 2 ^ 64) % 2 ^ 64 ≡ low = omega (arith, tp) in
        puts-one m functions place lowb highb q6 Sp low (Imm Addi Sp T0 (pos 0)) (λ bad. cc) refl
        (ap (λ (v : ℕ). On (record q6.machine { regs = record { x = written q6.machine.regs.x 2 v; pc = plus q6.machine.regs.pc (pos 4) } })) same)

    save : Stands place p0.machine.regs.pc (prologue a.symbol fr) → Saves m functions room place lowb highb low fr bottom top Ra (fr - 8) p8
    save st =
        let st8 = (rest-stands st).1.3.3.3.3 in
        saves-at m functions room place lowb highb low fr bottom top p8 Ra (fr - 8) (λ z. omega (arith, z)) refl (omega (arith, frame-large))
        (subst (λ (pc : ℕ). Stands place pc (store_at Ra (fr - 8))) (let e : p5.machine.regs.pc + 4 + 4 + 4 + 4 ≡ p8.machine.regs.pc = omega arith in e) st8.3)

    -- the frame stands
    frame-opens : s.regs.x 27 ≡ data_base + length here → (q : Point) → Alters p8 q (low + (fr - 8)) (read s.regs Ra) → Holds a s low fr [] here q
    frame-opens entering-top q alters = record {
      sp = alters.others 2 (λ z. omega (arith, z));
      slots = λ i v e. let bad : ⊥ = cc in absurd bad;
      ra = ap (λ (c : ℕ → ℕ). load_bytes c (low + (fr - 8)) 8) alters.control ∙ load_stored s.control (low + (fr - 8)) 8 (read s.regs Ra) ∙ (let r = regs 1 in omega (arith, r));
      aside = ap (λ (c : ℕ → ℕ). load_bytes c (low + (fr - 104)) 8) alters.control ∙ load_outside s.control (low + (fr - 8)) 8 (read s.regs Ra) (low + (fr - 104)) 8 (inl (omega (arith, frame-large)));
      data_top = alters.others 27 (λ z. omega (arith, z)) ∙ entering-top;
      saved = keeps-then saved_regs s.regs p8.machine.regs q.machine.regs (refl, (refl, (refl, (refl, (refl, (refl, (refl, (refl, (refl, (refl, (refl, tt))))))))))) (keeps-others p8.machine.regs q.machine.regs alters.others);
      kept = λ x le. ap (λ (c : ℕ → ℕ). c x) alters.control ∙ store_outside s.control (low + (fr - 8)) 8 (read s.regs Ra) x (inr (omega (arith, frame-large, le)));
      memory' = subst (λ (b : ℕ → ℕ). RefinesMemory here b) (sym alters.bytes) refines;
      counted = alters.counted;
    }

    pub opens : s.regs.x 27 ≡ data_base + length here → Stands place p0.machine.regs.pc (prologue a.symbol fr) → Opened
    opens entering-top st =
        let k = length (lowered_code fr) in
        let st5 = (rest-stands st).1.3 in
        let st8 : Stands place q6.machine.regs.pc (lower_sp fr ∷ []) =
        let w = st5.3.3.3 in subst (λ (pc : ℕ). Stands place pc (lower_sp fr ∷ [])) (let e : p5.machine.regs.pc + 4 + 4 + 4 ≡ q6.machine.regs.pc = omega arith in e) (w.0, w.1, w.2, tt) in
        let above : nat_lt low 0x40000000 ≡ false = le-ltb _ _ bottom in
        let r5 = tested false (p5.machine.regs.pc + 12) above (st5.0, st5.1, st5.2, tt) refl in
        let r8 = take-by (nat_le fr 2048) refl st8 in
        let last = save st in
        let len = length-append (lowered_code fr) behind in
        let short = lowered-short fr in
        let last-pc = last.pc in
        let last-short = store-short Ra (fr - 8) in
        record {
          point = last.point;
          count = 4 + k + 1 + 1 + length (store_at Ra (fr - 8));
          few = omega (arith, short, last-short);
          run = goes-then m functions place lowb highb (4 + k + 1 + 1) (length (store_at Ra (fr - 8))) p0 p8 last.point (goes-then m functions place lowb highb (4 + k + 1) 1 p0 q6 p8 (goes-then m functions place lowb highb (4 + k) 1 p0 p5 q6 (front st) r5) r8) last.run;
          pc = omega (arith, last-pc, len);
          holds = frame-opens entering-top last.point last.alters;
          registers = λ j h less.
              last.alters.others j (λ z. let bad : ⊥ = omega (arith, z, less) in bad)
              ∙ other p5.machine.regs.x 2 low j (omega (arith, h)) ∙ other p4.machine.regs.x 7 0x40000000 j (omega (arith, h)) ∙ other p3.machine.regs.x 5 low j (omega (arith, h))
              ∙ other p1.machine.regs.x 6 a.symbol j (omega (arith, h)) ∙ other p0.machine.regs.x 5 1 j (omega (arith, h)) ∙ other s.regs.x 6 place.base j (omega (arith, h));
        }
