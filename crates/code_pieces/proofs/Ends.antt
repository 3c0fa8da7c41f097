-- The code that ends an activation returns its answer.
use Rattle.std.proofs.Common.{◌≡◌, ◌≢◌, refl, sym, ap, subst, ◌∙◌, ℕ, suc, ◌+◌, ◌-◌, ◌*◌, ◌%◌, ◌^◌, ◌<◌, ◌≤◌, List, [], ◌∷◌, ◌++◌, length, Bool, true, false, cond, arith}
use Rattle.std.specs.Prelude.{◌==◌, ◌&&◌, nat_lt, pos}
use Rattle.std.proofs.lemmas.List.{length-append}
use Rattle.rv_core.specs.declared.reg.Reg.TheVariants.{X0, Ra, Sp, T0}
use Rattle.rv_core.specs.declared.instr.RegOp.TheVariants.{Add}
use Rattle.rv_core.specs.declared.instr.ImmOp.TheVariants.{Addi}
use Rattle.rv_core.specs.declared.instr.Instr.{Instr}
use Rattle.rv_core.specs.declared.instr.Instr.TheVariants.{Imm, Op as RegisterOp, Jalr}
use Rattle.rv_core.specs.Bytes.{load_bytes}
use Rattle.rv_core.specs.Step.{Registers, written, read, plus}
use Rattle.ir_meaning.specs.Value.{Value}
use Rattle.ir_meaning.specs.Memory.{Memory}
use Rattle.ir_meaning.specs.Step.{Program}
use Rattle.ir_meaning.specs.Plays.{Meaning, Invocation}
use Rattle.rv_play.specs.Machine.{Machine, On, act, code_base, code_limit, control_base, control_end, data_base}
use Rattle.rv_play.specs.CodePlay.{Place, Point, CodeEnd, Returns, CodeReply, code_run, after_act}
use Rattle.rv_play.specs.Good.{RefinesMemory, KeepsControl, KeepsRegs}
use Rattle.rv_play.proofs.Lines.{Stands, stands-apart, Goes, goes-then, one-step, moved}
use Rattle.code_pieces.specs.Code.{const_code, load_at, raised_code, leave_code}
use Rattle.code_pieces.proofs.Const.{put, puts-one, const-puts, const-short}
use Rattle.code_pieces.proofs.Slots.{loads-at, load-short, other-register}
use Rattle.code_pieces.proofs.Frame.{Is, Holds, saved_regs, keeps-then}

-- at a return
pub record Returned (a : Invocation) (s : Machine) (sp : ℕ) (here : Memory) (value : Value) (q : Point) : Type 0 where
  pub counted : q.counted ≡ a.symbol ∷ []
  pub control : KeepsControl s sp q.machine
  pub sp-is : q.machine.regs.x 2 ≡ sp
  pub saved : KeepsRegs saved_regs s.regs q.machine.regs
  pub data_top : q.machine.regs.x 27 ≡ data_base + length here
  pub answer : Is value (q.machine.regs.x 10)
  pub memory' : RefinesMemory here q.machine.bytes

both : (b c : Bool) (x y : CodeEnd) → b ≡ true → c ≡ true → cond (true && (b && c)) x y ≡ x
both true true x y h k = refl
both false c x y h k = absurd (let bad : false ≡ true = h in cc)
both true false x y h k = absurd (let bad : false ≡ true = k in cc)

same-test : (x y : ℕ) → x ≡ y → (x == y) ≡ true
same-test x y h = grind arith

keeps-both : (r t : Registers) → ((j : ℕ) → j ≢ 2 → j ≢ 5 → t.x j ≡ r.x j) → KeepsRegs saved_regs r t
keeps-both r t o =
    (at 8 (λ z. omega (arith, z)) (λ z. omega (arith, z)), (at 9 (λ z. omega (arith, z)) (λ z. omega (arith, z)), (at 18 (λ z. omega (arith, z)) (λ z. omega (arith, z)), (at 19 (λ z. omega (arith, z)) (λ z. omega (arith, z)), (at 20 (λ z. omega (arith, z)) (λ z. omega (arith, z)), (at 21 (λ z. omega (arith, z)) (λ z. omega (arith, z)), (at 22 (λ z. omega (arith, z)) (λ z. omega (arith, z)), (at 23 (λ z. omega (arith, z)) (λ z. omega (arith, z)), (at 24 (λ z. omega (arith, z)) (λ z. omega (arith, z)), (at 25 (λ z. omega (arith, z)) (λ z. omega (arith, z)), (at 26 (λ z. omega (arith, z)) (λ z. omega (arith, z)), tt)))))))))))
  where
    at : (j : ℕ) → j ≢ 2 → j ≢ 5 → t.x j ≡ r.x j
    at j n2 n5 = o j n2 n5

module _ (program : Program) (a : Invocation) (s : Machine) (low frame n : ℕ) (m : Meaning) (functions : m.functions ≤ 1024) (room : m.room ≤ 67108864) (place : Place) (lowb : code_base + 4 ≤ place.base) (highb : place.base + 4 * length place.words ≤ code_limit)
    (bottom : control_base ≤ low) (top : low + frame ≤ control_end) (is-frame : frame ≡ 128 + 32 * n) (entering : place.sp ≡ low + frame) (back : place.ra ≡ read s.regs Ra) (even : read s.regs Ra % 4 ≡ 0) (small-ra : read s.regs Ra < 2 ^ 64) where
  -- sp is raised, and no other register but t0 changes
  record RaisedBy (code : List Instr) (p : Point) : Type 0 where
    point : Point
    run : Goes m functions place lowb highb (length code) p point
    pc : point.machine.regs.pc ≡ p.machine.regs.pc + 4 * length code
    sp : point.machine.regs.x 2 ≡ low + frame
    others : (j : ℕ) → j ≢ 2 → j ≢ 5 → point.machine.regs.x j ≡ p.machine.regs.x j
    control : point.machine.control ≡ p.machine.control
    bytes : point.machine.bytes ≡ p.machine.bytes
    counted : point.counted ≡ p.counted

  raise-near : (p : Point) → p.machine.regs.x 2 ≡ low → Stands place p.machine.regs.pc (Imm Addi Sp Sp (pos frame) ∷ []) → RaisedBy (Imm Addi Sp Sp (pos frame) ∷ []) p
  raise-near p sp st =
      let raised : (p.machine.regs.x 2 + frame % 2 ^ 64) % 2 ^ 64 ≡ low + frame = omega (arith, sp, top) in
      record {
        point = put p Sp (low + frame) 1;
        run = puts-one m functions place lowb highb p Sp (low + frame) (Imm Addi Sp Sp (pos frame)) (λ bad. cc) refl
            (ap (λ (v : ℕ). On (record p.machine { regs = record { x = written p.machine.regs.x 2 v; pc = plus p.machine.regs.pc (pos 4) } })) raised) st;
        pc = refl;
        sp = refl;
        others = λ j n2 n5. other-register p.machine.regs.x 2 j (low + frame) n2;
        control = refl;
        bytes = refl;
        counted = refl;
      }

  raise-far : (p : Point) → p.machine.regs.x 2 ≡ low → Stands place p.machine.regs.pc (const_code 3 T0 frame ++ RegisterOp Add Sp Sp T0 ∷ []) → RaisedBy (const_code 3 T0 frame ++ RegisterOp Add Sp Sp T0 ∷ []) p
  raise-far p sp st =
      let c0 : List Instr = const_code 3 T0 frame in
      let c1 : List Instr = RegisterOp Add Sp Sp T0 ∷ [] in
      let parts = stands-apart place p.machine.regs.pc c0 c1 st in
      let q : Point = put p T0 frame (length c0) in
      let raised : (p.machine.regs.x 2 + frame) % 2 ^ 64 ≡ low + frame = omega (arith, sp, top) in
      let first = const-puts m functions place lowb highb p T0 frame (λ bad. cc) (omega (arith, top)) parts.0 in
      let last = puts-one m functions place lowb highb q Sp (low + frame) (RegisterOp Add Sp Sp T0) (λ bad. cc) refl
      (ap (λ (v : ℕ). On (record q.machine { regs = record { x = written q.machine.regs.x 2 v; pc = plus q.machine.regs.pc (pos 4) } })) raised) parts.1 in
      let len = length-append c0 c1 in
      let r : Point = put q Sp (low + frame) 1 in
      record {
        point = r;
        run = subst (λ (k : ℕ). Goes m functions place lowb highb k p r) (sym len) (goes-then m functions place lowb highb (length c0) 1 p q r first last);
        pc = omega (arith, len);
        sp = refl;
        others = λ j n2 n5. other-register q.machine.regs.x 2 j (low + frame) n2 ∙ other-register p.machine.regs.x 5 j frame n5;
        control = refl;
        bytes = refl;
        counted = refl;
      }

  raise-by : (b : Bool) (p : Point) → p.machine.regs.x 2 ≡ low → Stands place p.machine.regs.pc (cond b (Imm Addi Sp Sp (pos frame) ∷ []) (const_code 3 T0 frame ++ RegisterOp Add Sp Sp T0 ∷ []))
      → RaisedBy (cond b (Imm Addi Sp Sp (pos frame) ∷ []) (const_code 3 T0 frame ++ RegisterOp Add Sp Sp T0 ∷ [])) p
  raise-by true p sp st = raise-near p sp st
  raise-by false p sp st = raise-far p sp st

  raises : (p : Point) → p.machine.regs.x 2 ≡ low → Stands place p.machine.regs.pc (raised_code frame) → RaisedBy (raised_code frame) p
  unfolding raised_code
  raises p sp st = raise-by (nat_lt frame 2048) p sp st

  -- the frame is given back, and the answer stands in a0
  pub record Left (here : Memory) (p : Point) (value : Value) : Type 0 where
    pub point : Point
    pub runs : (f : ℕ) (replies : List CodeReply) → code_run m place (length (leave_code frame) + f) p replies ≡ Returns point
    pub is : Returned a s (low + frame) here value point

  pub leaves : (values : List Value) (here : Memory) (p : Point) (value : Value) → Is value (p.machine.regs.x 10) → Holds a s low frame values here p → Stands place p.machine.regs.pc (leave_code frame) → Left here p value
  leaves values here p value answer h st =
      let c0 : List Instr = load_at Ra (frame - 8) in
      let c1 : List Instr = raised_code frame in
      let c2 : List Instr = Jalr X0 Ra (pos 0) ∷ [] in
      let parts = stands-apart place p.machine.regs.pc c0 (c1 ++ c2) st in
      let ra : ℕ = load_bytes p.machine.control (low + (frame - 8)) 8 in
      let p1 : Point = put p Ra ra (length c0) in
      let run1 = loads-at m functions room place lowb highb low frame bottom top p Ra (frame - 8) (λ bad. cc) (λ x v. refl) h.sp (omega (arith, is-frame)) parts.0 in
      let parts1 = stands-apart place p1.machine.regs.pc c1 c2 parts.1 in
      let up = raises p1 h.sp parts1.0 in
      let p2 : Point = up.point in
      let at2 = up.pc in
      let st2 : Stands place p2.machine.regs.pc c2 = subst (λ (pc : ℕ). Stands place pc c2) (sym at2) parts1.1 in
      let link : p2.machine.regs.x 1 ≡ read s.regs Ra = up.others 1 (λ z. omega (arith, z)) (λ z. omega (arith, z)) ∙ h.ra in
      let to : ℕ = plus (read p2.machine.regs Ra) (pos 0) - plus (read p2.machine.regs Ra) (pos 0) % 2 in
      let arrived : to ≡ place.ra = omega (arith, link, back, even, small-ra) in
      let q : Point = moved p2 (record p2.machine { regs = record { x = p2.machine.regs.x; pc = to } }) p2.counted in
      let ends : after_act m place (Jalr X0 Ra (pos 0)) p2 (act m p2.machine (Jalr X0 Ra (pos 0))) ≡ Returns q =
      both (to == place.ra) (p2.machine.regs.x 2 == place.sp) (Returns q) _ (same-test _ _ arrived) (same-test _ _ (up.sp ∙ sym entering)) in
      let run0 = goes-then m functions place lowb highb (length c0) (length c1) p p1 p2 run1 up.run in
      let len0 = length-append c0 (c1 ++ c2) in
      let len1 = length-append c1 c2 in
      record {
        point = q;
        runs = λ f replies.
            ap (λ (k : ℕ). code_run m place k p replies) (let e : length (c0 ++ (c1 ++ c2)) + f ≡ length c0 + length c1 + suc f = omega (arith, len0, len1) in e)
            ∙ run0 (suc f) replies
            ∙ one-step m functions place lowb highb p2 (Jalr X0 Ra (pos 0)) (Returns q) st2.2 ends f replies;
        is = record {
          counted = up.counted ∙ h.counted;
          control = λ x le. ap (λ (c : ℕ → ℕ). c x) up.control ∙ h.kept x le;
          sp-is = up.sp;
          saved = keeps-then saved_regs s.regs p1.machine.regs q.machine.regs h.saved (keeps-both p1.machine.regs q.machine.regs up.others);
          data_top = up.others 27 (λ z. omega (arith, z)) (λ z. omega (arith, z)) ∙ h.data_top;
          answer = λ k e. up.others 10 (λ z. omega (arith, z)) (λ z. omega (arith, z)) ∙ answer k e;
          memory' = subst (λ (b : ℕ → ℕ). RefinesMemory here b) (sym up.bytes) h.memory';
        };
      }

-- such code takes at most thirteen instructions
pub leave-short : (frame : ℕ) → length (leave_code frame) ≤ 13
unfolding raised_code
leave-short frame =
    let first = load-short Ra (frame - 8) in
    let one = const-short 3 T0 frame in
    let sum = length-append (const_code 3 T0 frame) (RegisterOp Add Sp Sp T0 ∷ []) in
    let some = by_test (nat_lt frame 2048) (omega (arith, one, sum)) in
    let all = length-append (load_at Ra (frame - 8)) (raised_code frame ++ Jalr X0 Ra (pos 0) ∷ []) in
    let more = length-append (raised_code frame) (Jalr X0 Ra (pos 0) ∷ []) in
    omega (arith, first, some, all, more)
  where
    by_test : (b : Bool) → length (const_code 3 T0 frame ++ RegisterOp Add Sp Sp T0 ∷ []) ≤ 9 → length (cond b (Imm Addi Sp Sp (pos frame) ∷ []) (const_code 3 T0 frame ++ RegisterOp Add Sp Sp T0 ∷ [])) ≤ 9
    by_test true h = omega arith
    by_test false h = h
