-- The loops that move and fill bytes of data memory.
use Rattle.std.proofs.Common.{◌≡◌, ◌≢◌, refl, sym, ap, subst, ◌∙◌, ℕ, zero, suc, ◌+◌, ◌-◌, ◌*◌, ◌/◌, ◌%◌, ◌^◌, ◌<◌, ◌≤◌, ◌⊎◌, inl, inr, [], ◌∷◌, length, Bool, true, false, cond, arith}
use Rattle.std.specs.Prelude.{◌==◌, ◌&&◌, not, nat_le, pos, negsuc}
use Rattle.std.proofs.lemmas.Bool.{cases_lt, le-leb, lt-ltb, le-ltb}
use Rattle.rv_core.specs.declared.reg.Reg.{Reg}
use Rattle.rv_core.specs.declared.reg.Reg.TheVariants.{X0, T0, T1, T2, T3, T4}
use Rattle.rv_core.specs.declared.instr.BranchOp.{BranchOp}
use Rattle.rv_core.specs.declared.instr.BranchOp.TheVariants.{Beq, Bne, Bgeu}
use Rattle.rv_core.specs.declared.instr.ImmOp.TheVariants.{Addi}
use Rattle.rv_core.specs.declared.instr.LoadOp.TheVariants.{Lbu}
use Rattle.rv_core.specs.declared.instr.StoreOp.TheVariants.{Sb}
use Rattle.rv_core.specs.declared.instr.RegOp.TheVariants.{Add}
use Rattle.rv_core.specs.declared.instr.Instr.TheVariants.{Branch, Load, Store, Imm, Op as RegisterOp}
use Rattle.rv_core.specs.Bytes.{load_bytes, store_bytes}
use Rattle.rv_core.proofs.Bytes.{store_inside, store_outside}
use Rattle.rv_core.specs.Step.{next, read, write, plus, op_value, modulo, is_taken}
use Rattle.ir_meaning.specs.Plays.{Meaning}
use Rattle.rv_play.specs.Machine.{Machine, Act, On, Fails, act, loaded, in_data, in_control, code_base, code_limit, data_base}
use Rattle.rv_play.specs.CodePlay.{Place, Point}
use Rattle.rv_play.proofs.Lines.{Stands, Goes, goes-then, plain-step, moved, next-regs}
use Rattle.code_pieces.specs.Bytes.{copy_loop, fill_loop, move_code, fill_code}
use Rattle.code_pieces.proofs.Const.{put, puts-one, eq-true}
use Rattle.code_pieces.proofs.Frame.{scratch-t0, scratch-t1, scratch-t2}

module _ (m : Meaning) (functions : m.functions ≤ 1024) (room : m.room ≤ 67108864) (place : Place) (lowb : code_base + 4 ≤ place.base) (highb : place.base + 4 * length place.words ≤ code_limit) where
  abbrev Runs : ℕ → Point → Point → Type 0
  Runs = Goes m functions place lowb highb

  -- a byte of data memory
  abbrev InData : ℕ → Type 0
  InData address = (data_base ≤ address) × (address + 1 ≤ data_base + m.room)

  near : (pc : ℕ) → pc + 4 ≤ code_limit → plus pc (pos 4) ≡ pc + 4
  near pc h = omega (arith, h)

  data-inside : (address : ℕ) → InData address → in_data m address 1 ≡ true
  data-inside address h =
      let lo = h.0 in let hi = h.1 in
      ap (λ (x : Bool). x && nat_le (address + 1) (data_base + m.room)) (le-leb data_base address lo) ∙ le-leb (address + 1) (data_base + m.room) hi

  pick : (b : Bool) (x y : Act) → b ≡ true → cond b x y ≡ x
  pick true x y h = refl
  pick false x y h = absurd (let bad : false ≡ true = h in cc)

  byte-loads : (t : Machine) → t.regs.pc + 4 ≤ code_limit → InData (t.regs.x 6) → act m t (Load Lbu T3 T1 (pos 0)) ≡ On (record t { regs = write (next-regs t) T3 (load_bytes t.bytes (t.regs.x 6) 1) })
  byte-loads t h inside =
      let lo = inside.0 in let hi = inside.1 in
      let at : plus (t.regs.x 6) (pos 0) ≡ t.regs.x 6 = omega (arith, hi, room) in
      let after-one : ℕ → ℕ → Act = λ pc x. cond (in_data m x 1) (On (loaded (record t { regs = record { x = t.regs.x; pc = pc } }) Lbu T3 (load_bytes t.bytes x 1))) (cond (in_control x 1) (On (loaded (record t { regs = record { x = t.regs.x; pc = pc } }) Lbu T3 (load_bytes t.control x 1))) Fails) in
      ap (λ (x : ℕ). after-one (plus t.regs.pc (pos 4)) x) at
      ∙ ap (λ (pc : ℕ). after-one pc (t.regs.x 6)) (near t.regs.pc h)
      ∙ pick (in_data m (t.regs.x 6) 1) _ _ (data-inside (t.regs.x 6) inside)

  copied-stores : (t : Machine) → t.regs.pc + 4 ≤ code_limit → InData (t.regs.x 5) → act m t (Store Sb T3 T0 (pos 0)) ≡ On (record t { regs = next-regs t; bytes = store_bytes t.bytes (t.regs.x 5) 1 (t.regs.x 28) })
  copied-stores t h inside =
      let lo = inside.0 in let hi = inside.1 in
      let at : plus (t.regs.x 5) (pos 0) ≡ t.regs.x 5 = omega (arith, hi, room) in
      let after-one : ℕ → ℕ → Act = λ pc x. cond (in_data m x 1) (On (record t { regs = record { x = t.regs.x; pc = pc }; bytes = store_bytes t.bytes x 1 (t.regs.x 28) })) (cond (in_control x 1) (On (record t { regs = record { x = t.regs.x; pc = pc }; control = store_bytes t.control x 1 (t.regs.x 28) })) Fails) in
      ap (λ (x : ℕ). after-one (plus t.regs.pc (pos 4)) x) at
      ∙ ap (λ (pc : ℕ). after-one pc (t.regs.x 5)) (near t.regs.pc h)
      ∙ pick (in_data m (t.regs.x 5) 1) _ _ (data-inside (t.regs.x 5) inside)

  filled-stores : (t : Machine) → t.regs.pc + 4 ≤ code_limit → InData (t.regs.x 5) → act m t (Store Sb T1 T0 (pos 0)) ≡ On (record t { regs = next-regs t; bytes = store_bytes t.bytes (t.regs.x 5) 1 (t.regs.x 6) })
  filled-stores t h inside =
      let lo = inside.0 in let hi = inside.1 in
      let at : plus (t.regs.x 5) (pos 0) ≡ t.regs.x 5 = omega (arith, hi, room) in
      let after-one : ℕ → ℕ → Act = λ pc x. cond (in_data m x 1) (On (record t { regs = record { x = t.regs.x; pc = pc }; bytes = store_bytes t.bytes x 1 (t.regs.x 6) })) (cond (in_control x 1) (On (record t { regs = record { x = t.regs.x; pc = pc }; control = store_bytes t.control x 1 (t.regs.x 6) })) Fails) in
      ap (λ (x : ℕ). after-one (plus t.regs.pc (pos 4)) x) at
      ∙ ap (λ (pc : ℕ). after-one pc (t.regs.x 5)) (near t.regs.pc h)
      ∙ pick (in_data m (t.regs.x 5) 1) _ _ (data-inside (t.regs.x 5) inside)

  -- ---- what a loop keeps

  -- all registers but t0 to t4, the control bytes, and what was counted
  pub record Kept (p q : Point) : Type 0 where
    pub others : (j : ℕ) → j ≢ 5 → j ≢ 6 → j ≢ 7 → j ≢ 28 → j ≢ 29 → q.machine.regs.x j ≡ p.machine.regs.x j
    pub control : q.machine.control ≡ p.machine.control
    pub counted : q.counted ≡ p.counted

  kept-then : (p q r : Point) → Kept p q → Kept q r → Kept p r
  kept-then p q r h k = record {
    others = λ j a b c d e. k.others j a b c d e ∙ h.others j a b c d e;
    control = k.control ∙ h.control;
    counted = k.counted ∙ h.counted;
  }

  unwritten : (f : ℕ → ℕ) (i j v : ℕ) → j ≢ i → cond (j == i) v (f j) ≡ f j
  unwritten f i j v ne = by_test (j == i) refl
    where
      by_test : (b : Bool) → (j == i) ≡ b → cond b v (f j) ≡ f j
      by_test true e = absurd (ne (eq-true j i e))
      by_test false e = refl

  -- the point behind a branch
  abbrev branched : Point → ℕ → Point
  branched p pc = moved p (record p.machine { regs = record { x = p.machine.regs.x; pc = pc } }) p.counted

  -- back to the loop's start where there is more
  back : (p : Point) (k far : ℕ) → p.machine.regs.x 7 ≡ k → far ≤ 64 → code_base + suc far ≤ p.machine.regs.pc → Stands place p.machine.regs.pc (Branch Bne T2 X0 (negsuc far) ∷ [])
      → Runs 1 p (branched p (cond (k == 0) (p.machine.regs.pc + 4) (p.machine.regs.pc - suc far)))
  back p k far is small inside st = by_test (k == 0) refl
    where
      bound : p.machine.regs.pc + 4 ≤ code_limit
      bound = st.1

      tested : (b : Bool) → (k == 0) ≡ b → (p.machine.regs.x 7 == 0) ≡ b
      tested b e = ap (λ (x : ℕ). x == 0) is ∙ e

      by_test : (b : Bool) → (k == 0) ≡ b → Runs 1 p (branched p (cond b (p.machine.regs.pc + 4) (p.machine.regs.pc - suc far)))
      by_test true e =
          let b = bound in let base' = st.0 in
          let goes : plus p.machine.regs.pc (pos 4) ≡ p.machine.regs.pc + 4 = omega (arith, b) in
          plain-step m functions place lowb highb p (Branch Bne T2 X0 (negsuc far)) (branched p (p.machine.regs.pc + 4)).machine st.2 refl
          (ap (λ (c : Bool). On (record p.machine { regs = record { x = p.machine.regs.x; pc = plus p.machine.regs.pc (cond (not c) (negsuc far) (pos 4)) } })) (tested true e)
          ∙ ap (λ (j : ℕ). On (record p.machine { regs = record { x = p.machine.regs.x; pc = j } })) goes) (omega (arith, base'))
      by_test false e =
          let b = bound in let base' = st.0 in let i = inside in
          let goes : plus p.machine.regs.pc (negsuc far) ≡ p.machine.regs.pc - suc far = omega (arith, b, small, i) in
          plain-step m functions place lowb highb p (Branch Bne T2 X0 (negsuc far)) (branched p (p.machine.regs.pc - suc far)).machine st.2 refl
          (ap (λ (c : Bool). On (record p.machine { regs = record { x = p.machine.regs.x; pc = plus p.machine.regs.pc (cond (not c) (negsuc far) (pos 4)) } })) (tested false e)
          ∙ ap (λ (j : ℕ). On (record p.machine { regs = record { x = p.machine.regs.x; pc = j } })) goes) (omega (arith, small, i))

  lessened : (k : ℕ) → suc k < 2 ^ 64 → op_value Add (suc k) (modulo (negsuc 0)) ≡ k
  lessened k h = omega (arith, h)

  -- ---- a byte is copied

  -- where the loop is behind one byte, with k to come
  pub record Turned (stored : (ℕ → ℕ) → (ℕ → ℕ)) (many k : ℕ) (t f : ℕ) (p : Point) : Type 0 where
    pub point : Point
    pub run : Runs many p point
    pub pc : point.machine.regs.pc ≡ cond (k == 0) (p.machine.regs.pc + 4 * many) p.machine.regs.pc
    pub to : point.machine.regs.x 5 ≡ t
    pub from : point.machine.regs.x 6 ≡ f
    pub left : point.machine.regs.x 7 ≡ k
    pub step : point.machine.regs.x 29 ≡ p.machine.regs.x 29
    pub bytes : point.machine.bytes ≡ stored p.machine.bytes
    pub kept : Kept p point

  more : (k a b : ℕ) → cond (suc k == 0) a b ≡ b
  more k a b = ap (λ (c : Bool). cond c a b) (let z : (suc k == 0) ≡ false = grind arith in z)

  landed : (pc k n : ℕ) → 4 * n ≤ 64 → 4 ≤ 4 * n → cond (k == 0) (pc + 4 * (n - 1) + 4) (pc + 4 * (n - 1) - 4 * (n - 1)) ≡ cond (k == 0) (pc + 4 * n) pc
  landed pc k n small some = by_test (k == 0)
    where
      by_test : (b : Bool) → cond b (pc + 4 * (n - 1) + 4) (pc + 4 * (n - 1) - 4 * (n - 1)) ≡ cond b (pc + 4 * n) pc
      by_test true = omega (arith, small, some)
      by_test false = omega (arith, small, some)

  copy-turns : (k : ℕ) (p : Point) → p.machine.regs.x 7 ≡ suc k → suc k < 2 ^ 64 → InData (p.machine.regs.x 5) → InData (p.machine.regs.x 6) → Stands place p.machine.regs.pc copy_loop
      → Turned (λ g. store_bytes g (p.machine.regs.x 5) 1 (load_bytes g (p.machine.regs.x 6) 1)) 6 k (op_value Add (p.machine.regs.x 5) (p.machine.regs.x 29)) (op_value Add (p.machine.regs.x 6) (p.machine.regs.x 29)) p
  copy-turns k p left small to from st =
      let st1 = st.3 in let st2 = st1.3 in let st3 = st2.3 in let st4 = st3.3 in let st5 = st4.3 in
      let v : ℕ = load_bytes p.machine.bytes (p.machine.regs.x 6) 1 in
      let b0 = st.0 in let b1 = st1.0 in let c0 = st.1 in let c1 = st1.1 in
      let p1 : Point = put p T3 v 1 in
      let r0 : Runs 1 p p1 = plain-step m functions place lowb highb p (Load Lbu T3 T1 (pos 0)) p1.machine st.2 refl (byte-loads p.machine c0 from) (omega (arith, b0)) in
      let p2 : Point = moved p1 (record p1.machine { regs = next-regs p1.machine; bytes = store_bytes p1.machine.bytes (p1.machine.regs.x 5) 1 (p1.machine.regs.x 28) }) p1.counted in
      let r1 : Runs 1 p1 p2 = plain-step m functions place lowb highb p1 (Store Sb T3 T0 (pos 0)) p2.machine st1.2 refl (copied-stores p1.machine c1 to) (omega (arith, b1)) in
      let f1 : ℕ = op_value Add (p.machine.regs.x 6) (p.machine.regs.x 29) in
      let p3 : Point = put p2 T1 f1 1 in
      let r2 : Runs 1 p2 p3 = puts-one m functions place lowb highb p2 T1 f1 (RegisterOp Add T1 T1 T4) scratch-t1.0 refl refl (st2.0, st2.1, st2.2, tt) in
      let t1 : ℕ = op_value Add (p.machine.regs.x 5) (p.machine.regs.x 29) in
      let p4 : Point = put p3 T0 t1 1 in
      let r3 : Runs 1 p3 p4 = puts-one m functions place lowb highb p3 T0 t1 (RegisterOp Add T0 T0 T4) scratch-t0.0 refl refl (st3.0, st3.1, st3.2, tt) in
      let p5 : Point = put p4 T2 k 1 in
      let less : op_value Add (p4.machine.regs.x 7) (modulo (negsuc 0)) ≡ k = ap (λ (x : ℕ). op_value Add x (modulo (negsuc 0))) left ∙ lessened k small in
      let r4 : Runs 1 p4 p5 = puts-one m functions place lowb highb p4 T2 k (Imm Addi T2 T2 (negsuc 0)) scratch-t2.0 refl (ap (λ (x : ℕ). On (record p4.machine { regs = next (write p4.machine.regs T2 x) })) less) (st4.0, st4.1, st4.2, tt) in
      let at5 : p5.machine.regs.pc ≡ p.machine.regs.pc + 20 = omega arith in
      let r5 = back p5 k 19 refl (omega arith) (omega (arith, at5, b0)) (st5.0, st5.1, st5.2, tt) in
      let p6 : Point = branched p5 (cond (k == 0) (p5.machine.regs.pc + 4) (p5.machine.regs.pc - 20)) in
      record {
        point = p6;
        run = goes-then m functions place lowb highb 1 5 p p1 p6 r0 (goes-then m functions place lowb highb 1 4 p1 p2 p6 r1 (goes-then m functions place lowb highb 1 3 p2 p3 p6 r2 (goes-then m functions place lowb highb 1 2 p3 p4 p6 r3 (goes-then m functions place lowb highb 1 1 p4 p5 p6 r4 r5))));
        pc = ap (λ (x : ℕ). cond (k == 0) (x + 4) (x - 20)) at5 ∙ landed p.machine.regs.pc k 6 (omega arith) (omega arith);
        to = refl;
        from = refl;
        left = refl;
        step = refl;
        bytes = refl;
        kept = record {
          others = λ j a b c d e. unwritten p4.machine.regs.x 7 j k c ∙ unwritten p3.machine.regs.x 5 j t1 a ∙ unwritten p2.machine.regs.x 6 j f1 b ∙ unwritten p.machine.regs.x 28 j v d;
          control = refl;
          counted = refl;
        };
      }

  -- ---- a byte is written

  fill-turns : (k : ℕ) (p : Point) → p.machine.regs.x 7 ≡ suc k → suc k < 2 ^ 64 → InData (p.machine.regs.x 5) → Stands place p.machine.regs.pc fill_loop
      → Turned (λ g. store_bytes g (p.machine.regs.x 5) 1 (p.machine.regs.x 6)) 4 k (op_value Add (p.machine.regs.x 5) (modulo (pos 1))) (p.machine.regs.x 6) p
  fill-turns k p left small to st =
      let st1 = st.3 in let st2 = st1.3 in let st3 = st2.3 in
      let b0 = st.0 in let c0 = st.1 in
      let p1 : Point = moved p (record p.machine { regs = next-regs p.machine; bytes = store_bytes p.machine.bytes (p.machine.regs.x 5) 1 (p.machine.regs.x 6) }) p.counted in
      let r0 : Runs 1 p p1 = plain-step m functions place lowb highb p (Store Sb T1 T0 (pos 0)) p1.machine st.2 refl (filled-stores p.machine c0 to) (omega (arith, b0)) in
      let t1 : ℕ = op_value Add (p.machine.regs.x 5) (modulo (pos 1)) in
      let p2 : Point = put p1 T0 t1 1 in
      let r1 : Runs 1 p1 p2 = puts-one m functions place lowb highb p1 T0 t1 (Imm Addi T0 T0 (pos 1)) scratch-t0.0 refl refl (st1.0, st1.1, st1.2, tt) in
      let p3 : Point = put p2 T2 k 1 in
      let less : op_value Add (p2.machine.regs.x 7) (modulo (negsuc 0)) ≡ k = ap (λ (x : ℕ). op_value Add x (modulo (negsuc 0))) left ∙ lessened k small in
      let r2 : Runs 1 p2 p3 = puts-one m functions place lowb highb p2 T2 k (Imm Addi T2 T2 (negsuc 0)) scratch-t2.0 refl (ap (λ (x : ℕ). On (record p2.machine { regs = next (write p2.machine.regs T2 x) })) less) (st2.0, st2.1, st2.2, tt) in
      let at3 : p3.machine.regs.pc ≡ p.machine.regs.pc + 12 = omega arith in
      let r3 = back p3 k 11 refl (omega arith) (omega (arith, at3, b0)) (st3.0, st3.1, st3.2, tt) in
      let p4 : Point = branched p3 (cond (k == 0) (p3.machine.regs.pc + 4) (p3.machine.regs.pc - 12)) in
      record {
        point = p4;
        run = goes-then m functions place lowb highb 1 3 p p1 p4 r0 (goes-then m functions place lowb highb 1 2 p1 p2 p4 r1 (goes-then m functions place lowb highb 1 1 p2 p3 p4 r2 r3));
        pc = ap (λ (x : ℕ). cond (k == 0) (x + 4) (x - 12)) at3 ∙ landed p.machine.regs.pc k 4 (omega arith) (omega arith);
        to = refl;
        from = refl;
        left = refl;
        step = refl;
        bytes = refl;
        kept = record {
          others = λ j a b c d e. unwritten p2.machine.regs.x 7 j k c ∙ unwritten p.machine.regs.x 5 j t1 a;
          control = refl;
          counted = refl;
        };
      }

  -- ---- all bytes

  stored-here : (g : ℕ → ℕ) (t v : ℕ) → store_bytes g t 1 v t ≡ v % 256
  stored-here g t v =
      let none : t - t ≡ 0 = omega arith in
      let one : v / 256 ^ 0 % 256 ≡ v % 256 = omega arith in
      store_inside g t 1 v t (omega arith) (omega arith) ∙ ap (λ (j : ℕ). v / 256 ^ j % 256) none ∙ one

  -- so many bytes from an address on are written, each by what belongs there
  pub record Written (per n t : ℕ) (g : ℕ → ℕ) (p : Point) : Type 0 where
    pub point : Point
    pub run : Runs (per * n) p point
    pub pc : point.machine.regs.pc ≡ p.machine.regs.pc + 4 * per
    pub kept : Kept p point
    pub inside : (x : ℕ) → t ≤ x → x < t + n → point.machine.bytes x ≡ g x % 256
    pub outside : (x : ℕ) → (x < t) ⊎ (t + n ≤ x) → point.machine.bytes x ≡ p.machine.bytes x

  -- the byte at an address is written, and no other
  record First (t v : ℕ) (p q : Point) : Type 0 where
    first : q.machine.bytes t ≡ v % 256
    others : (x : ℕ) → (x < t) ⊎ (t + 1 ≤ x) → q.machine.bytes x ≡ p.machine.bytes x

  first-of : (t v a w : ℕ) (p q : Point) → a ≡ t → w ≡ v → q.machine.bytes ≡ store_bytes p.machine.bytes a 1 w → First t v p q
  first-of t v a w p q same same' e =
      let is : q.machine.bytes ≡ store_bytes p.machine.bytes t 1 v = e ∙ ap (λ (b : ℕ). store_bytes p.machine.bytes b 1 w) same ∙ ap (λ (b : ℕ). store_bytes p.machine.bytes t 1 b) same' in
      record {
        first = ap (λ (g : ℕ → ℕ). g t) is ∙ stored-here p.machine.bytes t v;
        others = λ x h. ap (λ (g : ℕ → ℕ). g x) is ∙ store_outside p.machine.bytes t 1 v x h;
      }

  loaded-byte : (g : ℕ → ℕ) (a f : ℕ) → a ≡ f → load_bytes g a 1 ≡ g f
  loaded-byte g a f e = ap (λ (b : ℕ). load_bytes g b 1) e ∙ (let z : g f + 256 * 0 ≡ g f = omega arith in z)

  -- the first byte alone
  one-byte : (per t : ℕ) (g : ℕ → ℕ) (p q : Point) (v : ℕ) → Runs per p q → q.machine.regs.pc ≡ p.machine.regs.pc + 4 * per → Kept p q → First t v p q → g t ≡ v → Written per 1 t g p
  one-byte per t g p q v run pc kept f is = record {
    point = q;
    run = subst (λ (j : ℕ). Runs j p q) (let z : per ≡ per * 1 = omega arith in z) run;
    pc = pc;
    kept = kept;
    inside = λ x le lt. let same : x ≡ t = omega (arith, le, lt) in ap q.machine.bytes same ∙ f.first ∙ ap (λ (y : ℕ). y % 256) (sym is) ∙ ap (λ (y : ℕ). g y % 256) (sym same);
    outside = f.others;
  }

  -- the first byte, and those behind it
  lowest-then : (per n t : ℕ) (g g' : ℕ → ℕ) (p q : Point) (v : ℕ) → Runs per p q → q.machine.regs.pc ≡ p.machine.regs.pc → Kept p q → First t v p q → g t ≡ v
      → ((x : ℕ) → t + 1 ≤ x → x < t + suc n → g' x ≡ g x) → Written per n (t + 1) g' q → Written per (suc n) t g p
  lowest-then per n t g g' p q v run pc kept f is same w =
      let wpc = w.pc in
      record {
        point = w.point;
        run = subst (λ (j : ℕ). Runs j p w.point) (let z : per + per * n ≡ per * suc n = omega arith in z) (goes-then m functions place lowb highb per (per * n) p q w.point run w.run);
        pc = omega (arith, wpc, pc);
        kept = kept-then p q w.point kept w.kept;
        inside = λ x le lt. by_place x le lt (cases_lt t x);
        outside = λ x h. w.outside x (wider x h) ∙ f.others x (narrower x h);
      }
    where
      by_place : (x : ℕ) → t ≤ x → x < t + suc n → (t < x) ⊎ (x ≤ t) → w.point.machine.bytes x ≡ g x % 256
      by_place x le lt (inl above) = w.inside x (omega (arith, above)) (omega (arith, lt)) ∙ ap (λ (y : ℕ). y % 256) (same x (omega (arith, above)) lt)
      by_place x le lt (inr below) =
          let here : x ≡ t = omega (arith, le, below) in
          ap w.point.machine.bytes here ∙ w.outside t (inl (omega arith)) ∙ f.first ∙ ap (λ (y : ℕ). y % 256) (sym is) ∙ ap (λ (y : ℕ). g y % 256) (sym here)

      wider : (x : ℕ) → (x < t) ⊎ (t + suc n ≤ x) → (x < t + 1) ⊎ (t + 1 + n ≤ x)
      wider x (inl h) = inl (omega (arith, h))
      wider x (inr h) = inr (omega (arith, h))

      narrower : (x : ℕ) → (x < t) ⊎ (t + suc n ≤ x) → (x < t) ⊎ (t + 1 ≤ x)
      narrower x (inl h) = inl h
      narrower x (inr h) = inr (omega (arith, h))

  -- the last byte, and those before it
  highest-then : (per n t : ℕ) (g g' : ℕ → ℕ) (p q : Point) (v : ℕ) → Runs per p q → q.machine.regs.pc ≡ p.machine.regs.pc → Kept p q → First (t + n) v p q → g (t + n) ≡ v
      → ((x : ℕ) → t ≤ x → x < t + n → g' x ≡ g x) → Written per n t g' q → Written per (suc n) t g p
  highest-then per n t g g' p q v run pc kept f is same w =
      let wpc = w.pc in
      record {
        point = w.point;
        run = subst (λ (j : ℕ). Runs j p w.point) (let z : per + per * n ≡ per * suc n = omega arith in z) (goes-then m functions place lowb highb per (per * n) p q w.point run w.run);
        pc = omega (arith, wpc, pc);
        kept = kept-then p q w.point kept w.kept;
        inside = λ x le lt. by_place x le lt (cases_lt x (t + n));
        outside = λ x h. w.outside x (wider x h) ∙ f.others x (narrower x h);
      }
    where
      by_place : (x : ℕ) → t ≤ x → x < t + suc n → (x < t + n) ⊎ (t + n ≤ x) → w.point.machine.bytes x ≡ g x % 256
      by_place x le lt (inl below) = w.inside x le below ∙ ap (λ (y : ℕ). y % 256) (same x le below)
      by_place x le lt (inr above) =
          let here : x ≡ t + n = omega (arith, lt, above) in
          ap w.point.machine.bytes here ∙ w.outside (t + n) (inr (omega arith)) ∙ f.first ∙ ap (λ (y : ℕ). y % 256) (sym is) ∙ ap (λ (y : ℕ). g y % 256) (sym here)

      wider : (x : ℕ) → (x < t) ⊎ (t + suc n ≤ x) → (x < t) ⊎ (t + n ≤ x)
      wider x (inl h) = inl h
      wider x (inr h) = inr (omega (arith, h))

      narrower : (x : ℕ) → (x < t) ⊎ (t + suc n ≤ x) → (x < t + n) ⊎ (t + n + 1 ≤ x)
      narrower x (inl h) = inl (omega (arith, h))
      narrower x (inr h) = inr (omega (arith, h))

  -- upwards
  forward : (k : ℕ) (p : Point) (t f : ℕ) → p.machine.regs.x 5 ≡ t → p.machine.regs.x 6 ≡ f → p.machine.regs.x 7 ≡ suc k → p.machine.regs.x 29 ≡ 1 → t ≤ f → data_base ≤ t → f + suc k ≤ data_base + m.room
      → Stands place p.machine.regs.pc copy_loop → Written 6 (suc k) t (λ x. p.machine.bytes (f + (x - t))) p
  forward zero p t f e5 e6 e7 e29 le low high st =
      let c = copy-turns 0 p e7 (omega arith) (omega (arith, e5, low), omega (arith, e5, le, high)) (omega (arith, e6, low, le), omega (arith, e6, high)) st in
      one-byte 6 t (λ x. p.machine.bytes (f + (x - t))) p c.point (p.machine.bytes f) c.run c.pc c.kept
      (first-of t (p.machine.bytes f) (p.machine.regs.x 5) (load_bytes p.machine.bytes (p.machine.regs.x 6) 1) p c.point e5 (loaded-byte p.machine.bytes (p.machine.regs.x 6) f e6) c.bytes)
      (ap p.machine.bytes (let z : f + (t - t) ≡ f = omega arith in z))
  forward (suc k) p t f e5 e6 e7 e29 le low high st =
      let c = copy-turns (suc k) p e7 (omega (arith, high, low, le, room)) (omega (arith, e5, low), omega (arith, e5, le, high)) (omega (arith, e6, low, le), omega (arith, e6, high)) st in
      let first = first-of t (p.machine.bytes f) (p.machine.regs.x 5) (load_bytes p.machine.bytes (p.machine.regs.x 6) 1) p c.point e5 (loaded-byte p.machine.bytes (p.machine.regs.x 6) f e6) c.bytes in
      let to = c.to in let from = c.from in
      let rest = forward k c.point (t + 1) (f + 1) (omega (arith, to, e5, e29, le, high, room)) (omega (arith, from, e6, e29, high, room)) c.left (c.step ∙ e29) (omega (arith, le)) (omega (arith, low)) (omega (arith, high))
      (subst (λ (pc : ℕ). Stands place pc copy_loop) (sym (c.pc ∙ more k (p.machine.regs.pc + 4 * 6) p.machine.regs.pc)) st) in
      lowest-then 6 (suc k) t (λ x. p.machine.bytes (f + (x - t))) (λ x. c.point.machine.bytes (f + 1 + (x - (t + 1)))) p c.point (p.machine.bytes f) c.run (c.pc ∙ more k (p.machine.regs.pc + 4 * 6) p.machine.regs.pc) c.kept first
      (ap p.machine.bytes (let z : f + (t - t) ≡ f = omega arith in z))
      (λ x above below. ap c.point.machine.bytes (let z : f + 1 + (x - (t + 1)) ≡ f + (x - t) = omega (arith, above) in z) ∙ first.others (f + (x - t)) (inr (omega (arith, above, le)))) rest

  -- downwards
  backward : (k : ℕ) (p : Point) (t f : ℕ) → p.machine.regs.x 5 ≡ t + k → p.machine.regs.x 6 ≡ f + k → p.machine.regs.x 7 ≡ suc k → p.machine.regs.x 29 ≡ 2 ^ 64 - 1 → f < t → data_base ≤ f → t + suc k ≤ data_base + m.room
      → Stands place p.machine.regs.pc copy_loop → Written 6 (suc k) t (λ x. p.machine.bytes (f + (x - t))) p
  backward zero p t f e5 e6 e7 e29 lt low high st =
      let c = copy-turns 0 p e7 (omega arith) (omega (arith, e5, low, lt), omega (arith, e5, high)) (omega (arith, e6, low), omega (arith, e6, lt, high)) st in
      one-byte 6 t (λ x. p.machine.bytes (f + (x - t))) p c.point (p.machine.bytes f) c.run c.pc c.kept
      (first-of t (p.machine.bytes f) (p.machine.regs.x 5) (load_bytes p.machine.bytes (p.machine.regs.x 6) 1) p c.point (omega (arith, e5)) (loaded-byte p.machine.bytes (p.machine.regs.x 6) f (omega (arith, e6))) c.bytes)
      (ap p.machine.bytes (let z : f + (t - t) ≡ f = omega arith in z))
  backward (suc k) p t f e5 e6 e7 e29 lt low high st =
      let c = copy-turns (suc k) p e7 (omega (arith, high, low, lt, room)) (omega (arith, e5, low, lt), omega (arith, e5, high)) (omega (arith, e6, low), omega (arith, e6, lt, high)) st in
      let first = first-of (t + suc k) (p.machine.bytes (f + suc k)) (p.machine.regs.x 5) (load_bytes p.machine.bytes (p.machine.regs.x 6) 1) p c.point e5 (loaded-byte p.machine.bytes (p.machine.regs.x 6) (f + suc k) e6) c.bytes in
      let to = c.to in let from = c.from in
      let rest = backward k c.point t f (omega (arith, to, e5, e29, low, lt, high, room)) (omega (arith, from, e6, e29, low, lt, high, room)) c.left (c.step ∙ e29) lt low (omega (arith, high))
      (subst (λ (pc : ℕ). Stands place pc copy_loop) (sym (c.pc ∙ more k (p.machine.regs.pc + 4 * 6) p.machine.regs.pc)) st) in
      highest-then 6 (suc k) t (λ x. p.machine.bytes (f + (x - t))) (λ x. c.point.machine.bytes (f + (x - t))) p c.point (p.machine.bytes (f + suc k)) c.run (c.pc ∙ more k (p.machine.regs.pc + 4 * 6) p.machine.regs.pc) c.kept first
      (ap p.machine.bytes (let z : f + (t + suc k - t) ≡ f + suc k = omega arith in z))
      (λ x above below. first.others (f + (x - t)) (inl (omega (arith, above, below, lt)))) rest

  fills : (k : ℕ) (p : Point) (t v : ℕ) → p.machine.regs.x 5 ≡ t → p.machine.regs.x 6 ≡ v → p.machine.regs.x 7 ≡ suc k → data_base ≤ t → t + suc k ≤ data_base + m.room
      → Stands place p.machine.regs.pc fill_loop → Written 4 (suc k) t (λ x. v) p
  fills zero p t v e5 e6 e7 low high st =
      let c = fill-turns 0 p e7 (omega arith) (omega (arith, e5, low), omega (arith, e5, high)) st in
      one-byte 4 t (λ x. v) p c.point v c.run c.pc c.kept (first-of t v (p.machine.regs.x 5) (p.machine.regs.x 6) p c.point e5 e6 c.bytes) refl
  fills (suc k) p t v e5 e6 e7 low high st =
      let c = fill-turns (suc k) p e7 (omega (arith, high, low, room)) (omega (arith, e5, low), omega (arith, e5, high)) st in
      let to = c.to in
      let rest = fills k c.point (t + 1) v (omega (arith, to, e5, high, room)) (c.from ∙ e6) c.left (omega (arith, low)) (omega (arith, high)) (subst (λ (pc : ℕ). Stands place pc fill_loop) (sym (c.pc ∙ more k (p.machine.regs.pc + 4 * 4) p.machine.regs.pc)) st) in
      lowest-then 4 (suc k) t (λ x. v) (λ x. v) p c.point v c.run (c.pc ∙ more k (p.machine.regs.pc + 4 * 4) p.machine.regs.pc) c.kept (first-of t v (p.machine.regs.x 5) (p.machine.regs.x 6) p c.point e5 e6 c.bytes) refl (λ x above below. refl) rest

  -- ---- the code

  takes : (op : BranchOp) (a b : Reg) (far : ℕ) (p : Point) (taken : Bool) → is_taken op (read p.machine.regs a) (read p.machine.regs b) ≡ taken → Stands place p.machine.regs.pc (Branch op a b (pos far) ∷ []) → p.machine.regs.pc + far ≤ code_limit
      → Runs 1 p (branched p (cond taken (p.machine.regs.pc + far) (p.machine.regs.pc + 4)))
  takes op a b far p true e st bound =
      let base' = st.0 in
      let goes : plus p.machine.regs.pc (pos far) ≡ p.machine.regs.pc + far = omega (arith, bound) in
      plain-step m functions place lowb highb p (Branch op a b (pos far)) (branched p (p.machine.regs.pc + far)).machine st.2 refl
      (ap (λ (c : Bool). On (record p.machine { regs = record { x = p.machine.regs.x; pc = plus p.machine.regs.pc (cond c (pos far) (pos 4)) } })) e
      ∙ ap (λ (j : ℕ). On (record p.machine { regs = record { x = p.machine.regs.x; pc = j } })) goes) (omega (arith, base'))
  takes op a b far p false e st bound =
      let base' = st.0 in let b4 = st.1 in
      let goes : plus p.machine.regs.pc (pos 4) ≡ p.machine.regs.pc + 4 = omega (arith, b4) in
      plain-step m functions place lowb highb p (Branch op a b (pos far)) (branched p (p.machine.regs.pc + 4)).machine st.2 refl
      (ap (λ (c : Bool). On (record p.machine { regs = record { x = p.machine.regs.x; pc = plus p.machine.regs.pc (cond c (pos far) (pos 4)) } })) e
      ∙ ap (λ (j : ℕ). On (record p.machine { regs = record { x = p.machine.regs.x; pc = j } })) goes) (omega (arith, base'))

  -- the code of a built-in is behind it
  pub record Through (span most n t : ℕ) (g : ℕ → ℕ) (p : Point) : Type 0 where
    pub count : ℕ
    pub some : 1 ≤ count
    pub few : count ≤ most
    pub point : Point
    pub run : Runs count p point
    pub pc : point.machine.regs.pc ≡ p.machine.regs.pc + 4 * span
    pub kept : Kept p point
    pub inside : (x : ℕ) → t ≤ x → x < t + n → point.machine.bytes x ≡ g x % 256
    pub outside : (x : ℕ) → (x < t) ⊎ (t + n ≤ x) → point.machine.bytes x ≡ p.machine.bytes x

  kept-branch : (p : Point) (pc : ℕ) → Kept p (branched p pc)
  kept-branch p pc = record { others = λ j a b c d e. refl; control = refl; counted = refl }

  -- a loop behind some instructions
  through : (span per before n t : ℕ) (g : ℕ → ℕ) (p q : Point) → Runs before p q → 1 ≤ before → Kept p q → q.machine.bytes ≡ p.machine.bytes → Written per n t g q → q.machine.regs.pc + 4 * per ≡ p.machine.regs.pc + 4 * span
      → Through span (before + per * n) n t g p
  through span per before n t g p q run some kept same w at =
      let wpc = w.pc in
      record {
        count = before + per * n;
        some = omega (arith, some);
        few = omega arith;
        point = w.point;
        run = goes-then m functions place lowb highb before (per * n) p q w.point run w.run;
        pc = omega (arith, wpc, at);
        kept = kept-then p q w.point kept w.kept;
        inside = w.inside;
        outside = λ x h. w.outside x h ∙ ap (λ (f : ℕ → ℕ). f x) same;
      }

  -- no byte
  none-goes : (span : ℕ) (t : ℕ) (g : ℕ → ℕ) (p : Point) → p.machine.regs.x 7 ≡ 0 → Stands place p.machine.regs.pc (Branch Beq T2 X0 (pos (4 * span)) ∷ []) → p.machine.regs.pc + 4 * span ≤ code_limit → Through span 1 0 t g p
  none-goes span t g p e st bound = record {
    count = 1;
    some = omega arith;
    few = omega arith;
    point = branched p (p.machine.regs.pc + 4 * span);
    run = takes Beq T2 X0 (4 * span) p true (ap (λ (x : ℕ). x == 0) e) st bound;
    pc = refl;
    kept = kept-branch p (p.machine.regs.pc + 4 * span);
    inside = λ x le lt. absurd (let bad : ⊥ = omega (arith, le, lt) in bad);
    outside = λ x h. refl;
  }

  some-byte : (n : ℕ) (p : Point) → p.machine.regs.x 7 ≡ suc n → (p.machine.regs.x 7 == 0) ≡ false
  some-byte n p e = grind (arith, e)

  pub fill-goes : (n : ℕ) (p : Point) (t v : ℕ) → p.machine.regs.x 5 ≡ t → p.machine.regs.x 6 ≡ v → p.machine.regs.x 7 ≡ suc n → data_base ≤ t → t + suc n ≤ data_base + m.room → Stands place p.machine.regs.pc fill_code
      → Through 5 (1 + 4 * suc n) (suc n) t (λ x. v) p
  fill-goes n p t v e5 e6 e7 low high st =
      let b4 = st.3.3.3.3.1 in
      let q : Point = branched p (p.machine.regs.pc + 4) in
      let r0 = takes Beq T2 X0 20 p false (some-byte n p e7) (st.0, st.1, st.2, tt) (omega (arith, b4)) in
      through 5 4 1 (suc n) t (λ x. v) p q r0 (omega arith) (kept-branch p (p.machine.regs.pc + 4)) refl (fills n q t v e5 e6 e7 low high st.3) (omega arith)

  pub fill-none : (p : Point) (t : ℕ) (g : ℕ → ℕ) → p.machine.regs.x 7 ≡ 0 → Stands place p.machine.regs.pc fill_code → Through 5 1 0 t g p
  fill-none p t g e st = let b4 = st.3.3.3.3.1 in none-goes 5 t g p e (st.0, st.1, st.2, tt) (omega (arith, b4))

  pub move-none : (p : Point) (t : ℕ) (g : ℕ → ℕ) → p.machine.regs.x 7 ≡ 0 → Stands place p.machine.regs.pc move_code → Through 14 1 0 t g p
  move-none p t g e st = let b4 = st.3.3.3.3.3.3.3.3.3.3.3.3.3.1 in none-goes 14 t g p e (st.0, st.1, st.2, tt) (omega (arith, b4))

  pub move-goes : (n : ℕ) (p : Point) (t f : ℕ) → p.machine.regs.x 5 ≡ t → p.machine.regs.x 6 ≡ f → p.machine.regs.x 7 ≡ suc n → data_base ≤ t → data_base ≤ f → t + suc n ≤ data_base + m.room → f + suc n ≤ data_base + m.room
      → Stands place p.machine.regs.pc move_code → Through 14 (8 + 6 * suc n) (suc n) t (λ x. p.machine.bytes (f + (x - t))) p
  move-goes n p t f e5 e6 e7 lowt lowf hight highf st = by_order (cases_lt f t)
    where
      st1 : Stands place (p.machine.regs.pc + 4) (Imm Addi T4 X0 (pos 1) ∷ [])
      st1 = (st.3.0, st.3.1, st.3.2, tt)

      st2 : Stands place (p.machine.regs.pc + 4 + 4) (Branch Bgeu T1 T0 (pos 24) ∷ [])
      st2 = (st.3.3.0, st.3.3.1, st.3.3.2, tt)

      end : p.machine.regs.pc + 56 ≤ code_limit
      end = let b = st.3.3.3.3.3.3.3.3.3.3.3.3.3.1 in omega (arith, b)

      loop : Stands place (p.machine.regs.pc + 32) copy_loop
      loop = subst (λ (pc : ℕ). Stands place pc copy_loop) (let z : p.machine.regs.pc + 4 + 4 + 4 + 4 + 4 + 4 + 4 + 4 ≡ p.machine.regs.pc + 32 = omega arith in z) st.3.3.3.3.3.3.3.3

      q0 : Point
      q0 = branched p (p.machine.regs.pc + 4)

      r0 : Runs 1 p q0
      r0 = takes Beq T2 X0 56 p false (some-byte n p e7) (st.0, st.1, st.2, tt) end

      q1 : Point
      q1 = put q0 T4 1 1

      r1 : Runs 1 q0 q1
      r1 = puts-one m functions place lowb highb q0 T4 1 (Imm Addi T4 X0 (pos 1)) (λ bad. cc) refl refl st1

      kept1 : Kept p q1
      kept1 = record { others = λ j a b c d e. unwritten p.machine.regs.x 29 j 1 e; control = refl; counted = refl }

      by_order : (f < t) ⊎ (t ≤ f) → Through 14 (8 + 6 * suc n) (suc n) t (λ x. p.machine.bytes (f + (x - t))) p
      by_order (inr le) =
          let e = end in
          let q2 : Point = branched q1 (q1.machine.regs.pc + 24) in
          let r2 = takes Bgeu T1 T0 24 q1 true (ap not (le-ltb (p.machine.regs.x 6) (p.machine.regs.x 5) (omega (arith, e5, e6, le)))) (subst (λ (pc : ℕ). Stands place pc (Branch Bgeu T1 T0 (pos 24) ∷ [])) (let z : p.machine.regs.pc + 4 + 4 ≡ q1.machine.regs.pc = omega arith in z) st2) (omega (arith, e)) in
          let at : p.machine.regs.pc + 32 ≡ q2.machine.regs.pc = omega arith in
          let w = forward n q2 t f e5 e6 e7 refl le lowt highf (subst (λ (pc : ℕ). Stands place pc copy_loop) at loop) in
          let all = through 14 6 3 (suc n) t (λ x. p.machine.bytes (f + (x - t))) p q2 (goes-then m functions place lowb highb 1 2 p q0 q2 r0 (goes-then m functions place lowb highb 1 1 q0 q1 q2 r1 r2)) (omega arith)
          (kept-then p q1 q2 kept1 (kept-branch q1 (q1.machine.regs.pc + 24))) refl w (omega arith) in
          let few = all.few in
          record { count = all.count; some = all.some; few = omega (arith, few); point = all.point; run = all.run; pc = all.pc; kept = all.kept; inside = all.inside; outside = all.outside }
      by_order (inl lt) =
          let e = end in
          let q2 : Point = branched q1 (q1.machine.regs.pc + 4) in
          let r2 = takes Bgeu T1 T0 24 q1 false (ap not (lt-ltb (p.machine.regs.x 6) (p.machine.regs.x 5) (omega (arith, e5, e6, lt)))) (subst (λ (pc : ℕ). Stands place pc (Branch Bgeu T1 T0 (pos 24) ∷ [])) (let z : p.machine.regs.pc + 4 + 4 ≡ q1.machine.regs.pc = omega arith in z) st2) (omega (arith, e)) in
          let at2 : p.machine.regs.pc + 4 + 4 + 4 ≡ q2.machine.regs.pc = omega arith in
          let rest = subst (λ (pc : ℕ). Stands place pc (RegisterOp Add T0 T0 T2 ∷ RegisterOp Add T1 T1 T2 ∷ Imm Addi T0 T0 (negsuc 0) ∷ Imm Addi T1 T1 (negsuc 0) ∷ Imm Addi T4 X0 (negsuc 0) ∷ copy_loop)) at2 st.3.3.3 in
          let t1 : ℕ = op_value Add (p.machine.regs.x 5) (p.machine.regs.x 7) in
          let f1 : ℕ = op_value Add (p.machine.regs.x 6) (p.machine.regs.x 7) in
          let t2 : ℕ = op_value Add (op_value Add (p.machine.regs.x 5) (p.machine.regs.x 7)) (modulo (negsuc 0)) in
          let f2 : ℕ = op_value Add (op_value Add (p.machine.regs.x 6) (p.machine.regs.x 7)) (modulo (negsuc 0)) in
          let q3 : Point = put q2 T0 t1 1 in
          let r3 = puts-one m functions place lowb highb q2 T0 t1 (RegisterOp Add T0 T0 T2) scratch-t0.0 refl refl (rest.0, rest.1, rest.2, tt) in
          let s3 = rest.3 in
          let q4 : Point = put q3 T1 f1 1 in
          let r4 = puts-one m functions place lowb highb q3 T1 f1 (RegisterOp Add T1 T1 T2) scratch-t1.0 refl refl (s3.0, s3.1, s3.2, tt) in
          let s4 = s3.3 in
          let q5 : Point = put q4 T0 t2 1 in
          let r5 = puts-one m functions place lowb highb q4 T0 t2 (Imm Addi T0 T0 (negsuc 0)) scratch-t0.0 refl refl (s4.0, s4.1, s4.2, tt) in
          let s5 = s4.3 in
          let q6 : Point = put q5 T1 f2 1 in
          let r6 = puts-one m functions place lowb highb q5 T1 f2 (Imm Addi T1 T1 (negsuc 0)) scratch-t1.0 refl refl (s5.0, s5.1, s5.2, tt) in
          let s6 = s5.3 in
          let q7 : Point = put q6 T4 (2 ^ 64 - 1) 1 in
          let r7 = puts-one m functions place lowb highb q6 T4 (2 ^ 64 - 1) (Imm Addi T4 X0 (negsuc 0)) (λ bad. cc) refl refl (s6.0, s6.1, s6.2, tt) in
          let at : p.machine.regs.pc + 32 ≡ q7.machine.regs.pc = omega arith in
          let w = backward n q7 t f (omega (arith, e5, e7, lowt, hight, room)) (omega (arith, e6, e7, lowf, highf, room)) e7 refl lt lowf hight (subst (λ (pc : ℕ). Stands place pc copy_loop) at loop) in
          let run = goes-then m functions place lowb highb 1 7 p q0 q7 r0 (goes-then m functions place lowb highb 1 6 q0 q1 q7 r1 (goes-then m functions place lowb highb 1 5 q1 q2 q7 r2 (goes-then m functions place lowb highb 1 4 q2 q3 q7 r3
          (goes-then m functions place lowb highb 1 3 q3 q4 q7 r4 (goes-then m functions place lowb highb 1 2 q4 q5 q7 r5 (goes-then m functions place lowb highb 1 1 q5 q6 q7 r6 r7)))))) in
          let kept : Kept p q7 = record {
            others = λ j a b c d e'.
                unwritten q6.machine.regs.x 29 j (2 ^ 64 - 1) e' ∙ unwritten q5.machine.regs.x 6 j f2 b ∙ unwritten q4.machine.regs.x 5 j t2 a ∙ unwritten q3.machine.regs.x 6 j f1 b ∙ unwritten q2.machine.regs.x 5 j t1 a
                ∙ unwritten p.machine.regs.x 29 j 1 e';
            control = refl;
            counted = refl;
          } in
          through 14 6 8 (suc n) t (λ x. p.machine.bytes (f + (x - t))) p q7 run (omega arith) kept refl w (omega arith)
