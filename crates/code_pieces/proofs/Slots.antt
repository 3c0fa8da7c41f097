-- Loads from the frame and stores into it, at offsets of any size.
use Rattle.std.proofs.Common.{◌≡◌, ◌≢◌, refl, ap, ◌∙◌, ℕ, ◌+◌, ◌*◌, ◌%◌, ◌^◌, ◌<◌, ◌≤◌, ⊎_elim, List, [], ◌∷◌, length, Bool, true, false, cond, arith}
use Rattle.std.specs.Prelude.{◌==◌, nat_lt, ℤ, pos}
use Rattle.rv_core.specs.Reg.{number_of}
use Rattle.rv_core.specs.declared.reg.Reg.{Reg}
use Rattle.rv_core.specs.declared.reg.Reg.TheVariants.{Sp, T6}
use Rattle.rv_core.specs.declared.instr.LoadOp.TheVariants.{Ld}
use Rattle.rv_core.specs.declared.instr.StoreOp.TheVariants.{Sd}
use Rattle.rv_core.specs.declared.instr.RegOp.TheVariants.{Add}
use Rattle.rv_core.specs.declared.instr.Instr.{Instr}
use Rattle.rv_core.specs.declared.instr.Instr.TheVariants.{Lui, Load, Store, Op as RegisterOp}
use Rattle.rv_core.specs.Bytes.{load_bytes, store_bytes}
use Rattle.rv_core.specs.Step.{Registers, written, write, read, plus, sign_extend_word}
use Rattle.ir_meaning.specs.Plays.{Meaning}
use Rattle.rv_play.specs.Machine.{Machine, Act, On, Fails, act, loaded, in_data, in_control, code_base, code_limit, control_base, control_end}
use Rattle.rv_play.specs.CodePlay.{Place, Point}
use Rattle.rv_play.specs.Ending.{upper, lower}
use Rattle.rv_play.proofs.Lines.{Stands, stands-apart, Goes, goes-then, plain-step, moved, next-regs, InControl}
use Rattle.code_pieces.specs.Code.{load_at, store_at}
use Rattle.code_pieces.proofs.Const.{Puts, put, puts-one, puts-then, puts-if, read-put, write-is, low-cases, sign-cases}

other-number : (n j : ℕ) (b : Bool) (v x : ℕ) → (j == n) ≡ b → j ≢ n → cond b v x ≡ x
other-number n j true v x e h = absurd (h (grind arith))
other-number n j false v x e h = refl

-- a write of a register with another number
pub other-register : (f : ℕ → ℕ) (n j v : ℕ) → j ≢ n → written f n v j ≡ f j
other-register f n j v h = other-number n j (j == n) v (f j) refl h

-- both parts of an offset, and what it is counted from, make the address
parts-reach : (low offset : ℕ) → control_base ≤ low → low + offset < 2 ^ 31 → plus ((sign_extend_word (upper offset * 2 ^ 12) + low) % 2 ^ 64) (lower offset) ≡ low + offset
parts-reach low offset bottom lt =
    ⊎_elim
    (λ s. ⊎_elim (λ l. omega (arith, s.1, s.0, l.1, l.0, lt, bottom)) (λ l. omega (arith, s.1, s.0, l.1, l.0, lt, bottom)) (low-cases offset))
    (λ s. absurd (let h = s.0 in let bad : ⊥ = omega (arith, h, lt, bottom) in bad))
    (sign-cases (upper offset * 2 ^ 12))

-- one store, of a number of eight bytes, changes the control stack, and t6
pub record Alters (p q : Point) (address number : ℕ) : Type 0 where
  pub control : q.machine.control ≡ store_bytes p.machine.control address 8 number
  pub others : (j : ℕ) → j ≢ 31 → q.machine.regs.x j ≡ p.machine.regs.x j
  pub bytes : q.machine.bytes ≡ p.machine.bytes
  pub counted : q.counted ≡ p.counted

read-other : (s : Registers) (pc : ℕ) (r : Reg) (n v : ℕ) → number_of r ≢ n → read (record { x = written s.x n v; pc = pc }) r ≡ read s r
read-other s pc r n v ne = ap (λ (w : ℕ). cond (number_of r == 0) 0 w) (other-register s.x n (number_of r) v ne)

module _ (m : Meaning) (functions : m.functions ≤ 1024) (room : m.room ≤ 67108864) (place : Place) (lowb : code_base + 4 ≤ place.base) (highb : place.base + 4 * length place.words ≤ code_limit)
    (low frame : ℕ) (bottom : control_base ≤ low) (top : low + frame ≤ control_end) where
  near : (pc : ℕ) → pc + 4 ≤ code_limit → plus pc (pos 4) ≡ pc + 4
  near pc h = omega arith

  not-data : (address : ℕ) → InControl address → in_data m address 8 ≡ false
  not-data address h = let b = h.0 in grind arith

  is-control : (address : ℕ) → InControl address → in_control address 8 ≡ true
  is-control address h = let b = h.0 in let t = h.1 in grind arith

  chosen : (b1 b2 : Bool) (x y z : Act) → b1 ≡ false → b2 ≡ true → cond b1 x (cond b2 y z) ≡ y
  chosen false true x y z e1 e2 = refl
  chosen true b2 x y z e1 e2 = absurd (let bad : true ≡ false = e1 in cc)
  chosen false false x y z e1 e2 = absurd (let bad : false ≡ true = e2 in cc)

  load-acts : (s : Machine) (rd rs1 : Reg) (z : ℤ) (address : ℕ) → s.regs.pc + 4 ≤ code_limit → plus (read s.regs rs1) z ≡ address → InControl address
      → act m s (Load Ld rd rs1 z) ≡ On (record s { regs = write (next-regs s) rd (load_bytes s.control address 8) })
  load-acts s rd rs1 z address h e c =
      let after-one : ℕ → ℕ → Act = λ pc a. cond (in_data m a 8) (On (loaded (record s { regs = record { x = s.regs.x; pc = pc } }) Ld rd (load_bytes s.bytes a 8))) (cond (in_control a 8) (On (loaded (record s { regs = record { x = s.regs.x; pc = pc } }) Ld rd (load_bytes s.control a 8))) Fails) in
      ap (λ (a : ℕ). after-one (plus s.regs.pc (pos 4)) a) e
      ∙ ap (λ (pc : ℕ). after-one pc address) (near s.regs.pc h)
      ∙ chosen (in_data m address 8) (in_control address 8) _ _ _ (not-data address c) (is-control address c)

  store-acts : (s : Machine) (rs2 rs1 : Reg) (z : ℤ) (address : ℕ) → s.regs.pc + 4 ≤ code_limit → plus (read s.regs rs1) z ≡ address → InControl address
      → act m s (Store Sd rs2 rs1 z) ≡ On (record s { regs = next-regs s; control = store_bytes s.control address 8 (read s.regs rs2) })
  store-acts s rs2 rs1 z address h e c =
      let after-one : ℕ → ℕ → Act = λ pc a. cond (in_data m a 8) (On (record s { regs = record { x = s.regs.x; pc = pc }; bytes = store_bytes s.bytes a 8 (read s.regs rs2) })) (cond (in_control a 8) (On (record s { regs = record { x = s.regs.x; pc = pc }; control = store_bytes s.control a 8 (read s.regs rs2) })) Fails) in
      ap (λ (a : ℕ). after-one (plus s.regs.pc (pos 4)) a) e
      ∙ ap (λ (pc : ℕ). after-one pc address) (near s.regs.pc h)
      ∙ chosen (in_data m address 8) (in_control address 8) _ _ _ (not-data address c) (is-control address c)

  abbrev Runs : ℕ → Point → Point → Type 0
  Runs = Goes m functions place lowb highb

  abbrev Brings : Point → Reg → ℕ → List Instr → Type 0
  Brings = Puts m functions place lowb highb

  inside-stack : (offset : ℕ) → offset + 8 ≤ frame → InControl (low + offset)
  inside-stack offset inside = (omega (arith, bottom), omega (arith, inside, top))

  -- where sp is
  near-reach : (p : Point) (offset : ℕ) → p.machine.regs.x 2 ≡ low → offset + 8 ≤ frame → plus (read p.machine.regs Sp) (pos offset) ≡ low + offset
  near-reach p offset sp inside = omega (arith, sp, inside, top)

  -- the upper part of an offset, and sp, are added up in a register
  far-base : (p : Point) (rd : Reg) (offset : ℕ) → number_of rd ≢ 0 → ((x : ℕ → ℕ) (v : ℕ) → written x (number_of rd) v 2 ≡ x 2) → p.machine.regs.x 2 ≡ low
      → Brings p rd ((sign_extend_word (upper offset * 2 ^ 12) + low) % 2 ^ 64) (Lui rd (upper offset) ∷ RegisterOp Add rd rd Sp ∷ [])
  far-base p rd offset nz apart sp =
      let high = sign_extend_word (upper offset * 2 ^ 12) in
      let p1 : Point = put p rd high 1 in
      puts-then m functions place lowb highb p rd high ((high + low) % 2 ^ 64) (Lui rd (upper offset) ∷ []) (RegisterOp Add rd rd Sp ∷ []) (puts-one m functions place lowb highb p rd high (Lui rd (upper offset)) nz refl refl)
      (puts-one m functions place lowb highb p1 rd ((high + low) % 2 ^ 64) (RegisterOp Add rd rd Sp) nz refl
      (ap (wrote-to p1 rd) (ap (λ (x : ℕ). (x + read p1.machine.regs Sp) % 2 ^ 64) (read-put m functions place lowb highb p rd high 1 nz) ∙ ap (λ (x : ℕ). (high + x) % 2 ^ 64) (apart p.machine.regs.x high ∙ sp))))
    where
      wrote-to : Point → Reg → ℕ → Act
      wrote-to p rd v = On (record p.machine { regs = record { x = (write p.machine.regs rd v).x; pc = plus (write p.machine.regs rd v).pc (pos 4) } })

  -- a number of the frame is loaded
  pub loads-at : (p : Point) (rd : Reg) (offset : ℕ) → number_of rd ≢ 0 → ((x : ℕ → ℕ) (v : ℕ) → written x (number_of rd) v 2 ≡ x 2) → p.machine.regs.x 2 ≡ low → offset + 8 ≤ frame
      → Brings p rd (load_bytes p.machine.control (low + offset) 8) (load_at rd offset)
  unfolding load_at
  loads-at p rd offset nz apart sp inside = puts-if m functions place lowb highb p rd number (nat_lt offset 2048) (Load Ld rd Sp (pos offset) ∷ []) (Lui rd (upper offset) ∷ RegisterOp Add rd rd Sp ∷ Load Ld rd rd (lower offset) ∷ []) (λ e. close) (λ e. far)
    where
      number : ℕ
      number = load_bytes p.machine.control (low + offset) 8

      close : Brings p rd number (Load Ld rd Sp (pos offset) ∷ [])
      close st =
          let bound = st.1 in let base' = st.0 in
          plain-step m functions place lowb highb p (Load Ld rd Sp (pos offset)) _ st.2 refl
          (load-acts p.machine rd Sp (pos offset) (low + offset) bound (near-reach p offset sp inside) (inside-stack offset inside) ∙ ap (λ (r : Registers). On (record p.machine { regs = r })) (write-is (next-regs p.machine) rd number nz))
          (omega (arith, base'))

      base : ℕ
      base = (sign_extend_word (upper offset * 2 ^ 12) + low) % 2 ^ 64

      q : Point
      q = put p rd base 2

      last : Brings q rd number (Load Ld rd rd (lower offset) ∷ [])
      last st =
          let bound = st.1 in let base' = st.0 in
          let address : plus (read q.machine.regs rd) (lower offset) ≡ low + offset = ap (λ (x : ℕ). plus x (lower offset)) (read-put m functions place lowb highb p rd base 2 nz) ∙ parts-reach low offset bottom (omega (arith, inside, top)) in
          plain-step m functions place lowb highb q (Load Ld rd rd (lower offset)) _ st.2 refl
          (load-acts q.machine rd rd (lower offset) (low + offset) bound address (inside-stack offset inside) ∙ ap (λ (r : Registers). On (record q.machine { regs = r })) (write-is (next-regs q.machine) rd number nz))
          (omega (arith, base'))

      far : Brings p rd number (Lui rd (upper offset) ∷ RegisterOp Add rd rd Sp ∷ Load Ld rd rd (lower offset) ∷ [])
      far = puts-then m functions place lowb highb p rd base number (Lui rd (upper offset) ∷ RegisterOp Add rd rd Sp ∷ []) (Load Ld rd rd (lower offset) ∷ []) (far-base p rd offset nz apart sp) last

  -- where a store has come to
  pub record SavesBy (code : List Instr) (rs : Reg) (offset : ℕ) (p : Point) : Type 0 where
    pub point : Point
    pub run : Runs (length code) p point
    pub pc : point.machine.regs.pc ≡ p.machine.regs.pc + 4 * length code
    pub alters : Alters p point (low + offset) (read p.machine.regs rs)

  abbrev pub Saves : Reg → ℕ → Point → Type 0
  Saves rs offset p = SavesBy (store_at rs offset) rs offset p

  -- a register is stored in the frame
  pub saves-at : (p : Point) (rs : Reg) (offset : ℕ) → number_of rs ≢ 31 → p.machine.regs.x 2 ≡ low → offset + 8 ≤ frame → Stands place p.machine.regs.pc (store_at rs offset) → Saves rs offset p
  unfolding store_at
  saves-at p rs offset other sp inside = by_test (nat_lt offset 2048)
    where
      stored : Point → ℕ → Point
      stored q v = moved q (record q.machine { regs = next-regs q.machine; control = store_bytes q.machine.control (low + offset) 8 v }) q.counted

      base : ℕ
      base = (sign_extend_word (upper offset * 2 ^ 12) + low) % 2 ^ 64

      q : Point
      q = put p T6 base 2

      same : read q.machine.regs rs ≡ read p.machine.regs rs
      same = read-other p.machine.regs q.machine.regs.pc rs 31 base other

      by_test : (b : Bool) → Stands place p.machine.regs.pc (cond b (Store Sd rs Sp (pos offset) ∷ []) (Lui T6 (upper offset) ∷ RegisterOp Add T6 T6 Sp ∷ Store Sd rs T6 (lower offset) ∷ []))
          → SavesBy (cond b (Store Sd rs Sp (pos offset) ∷ []) (Lui T6 (upper offset) ∷ RegisterOp Add T6 T6 Sp ∷ Store Sd rs T6 (lower offset) ∷ [])) rs offset p
      by_test true st =
          let bound = st.1 in let base' = st.0 in
          record {
            point = stored p (read p.machine.regs rs);
            run = plain-step m functions place lowb highb p (Store Sd rs Sp (pos offset)) _ st.2 refl
                (store-acts p.machine rs Sp (pos offset) (low + offset) bound (near-reach p offset sp inside) (inside-stack offset inside)) (omega (arith, base'));
            pc = omega arith;
            alters = record { control = refl; others = λ j ne. refl; bytes = refl; counted = refl };
          }
      by_test false st =
          let parts = stands-apart place p.machine.regs.pc (Lui T6 (upper offset) ∷ RegisterOp Add T6 T6 Sp ∷ []) (Store Sd rs T6 (lower offset) ∷ []) st in
          let st2 = parts.1 in
          let bound = st2.1 in let base' = st2.0 in
          let first = far-base p T6 offset (λ bad. cc) (λ x v. refl) sp parts.0 in
          let address : plus (read q.machine.regs T6) (lower offset) ≡ low + offset = parts-reach low offset bottom (omega (arith, inside, top)) in
          let last : Runs 1 q (stored q (read q.machine.regs rs)) =
          plain-step m functions place lowb highb q (Store Sd rs T6 (lower offset)) _ st2.2 refl (store-acts q.machine rs T6 (lower offset) (low + offset) bound address (inside-stack offset inside)) (omega (arith, base')) in
          record {
            point = stored q (read q.machine.regs rs);
            run = goes-then m functions place lowb highb 2 1 p q (stored q (read q.machine.regs rs)) first last;
            pc = omega arith;
            alters = record {
              control = ap (λ (v : ℕ). store_bytes p.machine.control (low + offset) 8 v) same;
              others = λ j ne. other-register p.machine.regs.x 31 j base ne;
              bytes = refl;
              counted = refl;
            };
          }

-- such code takes at most three instructions
pub load-short : (rd : Reg) (offset : ℕ) → length (load_at rd offset) ≤ 3
unfolding load_at
load-short rd offset = by_test (nat_lt offset 2048)
  where
    by_test : (b : Bool) → length (cond b (Load Ld rd Sp (pos offset) ∷ []) (Lui rd (upper offset) ∷ RegisterOp Add rd rd Sp ∷ Load Ld rd rd (lower offset) ∷ [])) ≤ 3
    by_test true = omega arith
    by_test false = omega arith

pub store-short : (rs : Reg) (offset : ℕ) → length (store_at rs offset) ≤ 3
unfolding store_at
store-short rs offset = by_test (nat_lt offset 2048)
  where
    by_test : (b : Bool) → length (cond b (Store Sd rs Sp (pos offset) ∷ []) (Lui T6 (upper offset) ∷ RegisterOp Add T6 T6 Sp ∷ Store Sd rs T6 (lower offset) ∷ [])) ≤ 3
    by_test true = omega arith
    by_test false = omega arith

pub store-some : (rs : Reg) (offset : ℕ) → 1 ≤ length (store_at rs offset)
unfolding store_at
store-some rs offset = by_test (nat_lt offset 2048)
  where
    by_test : (b : Bool) → 1 ≤ length (cond b (Store Sd rs Sp (pos offset) ∷ []) (Lui T6 (upper offset) ∷ RegisterOp Add T6 T6 Sp ∷ Store Sd rs T6 (lower offset) ∷ []))
    by_test true = omega arith
    by_test false = omega arith
