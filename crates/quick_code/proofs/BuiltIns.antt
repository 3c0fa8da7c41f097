-- The code of a built-in that gives a value leaves that value in t0.
use Rattle.std.proofs.Common.{◌≡◌, ◌≢◌, refl, sym, ap, ap₂, ◌∙◌, ℕ, ◌+◌, ◌-◌, ◌*◌, ◌%◌, ◌^◌, ◌<◌, ◌≤◌, ⊎_elim, List, [], ◌∷◌, ◌++◌, length, Some, None, Bool, true, false, cond, not, arith, mod-eq_of_lt}
use Rattle.std.specs.Prelude.{nat_lt, ◌==◌, ◌&&◌, ℤ, pos, int_lt}
use Rattle.std.specs.Int.{w64, cast_signed}
use Rattle.std.proofs.lemmas.Bool.{cases_lt, lt-ltb, le-ltb}
use Rattle.std.proofs.Math.Pow.{pow_mono}
use Rattle.std.proofs.lemmas.Int.{ints}
use Rattle.std.proofs.lemmas.Nat.{pow_pos}
use Rattle.std.proofs.lemmas.List.{length-append}
use Rattle.ir_core.specs.declared.code.BuiltIn.{BuiltIn}
use Rattle.ir_core.specs.declared.code.BuiltIn.TheVariants.{MemCpy, MemMove, MemSet, SMax, SMin, UMax, UMin, Abs}
use Rattle.rv_core.specs.declared.reg.Reg.{Reg}
use Rattle.rv_core.specs.declared.reg.Reg.TheVariants.{X0, T0, T1}
use Rattle.rv_core.specs.declared.instr.BranchOp.{BranchOp}
use Rattle.rv_core.specs.declared.instr.BranchOp.TheVariants.{Bge, Bgeu}
use Rattle.rv_core.specs.declared.instr.RegOp.TheVariants.{Add, Sub}
use Rattle.rv_core.specs.declared.instr.Instr.{Instr}
use Rattle.rv_core.specs.declared.instr.Instr.TheVariants.{Branch, Op as RegisterOp}
use Rattle.rv_core.specs.Step.{Registers, modulo, op_value, is_taken}
use Rattle.rj_num.specs.Width.{is_negative, signed, modulo as wrap}
use Rattle.ir_meaning.specs.Value.{Value, poison_if}
use Rattle.ir_meaning.specs.Ranges.{FitsWidth}
use Rattle.ir_meaning.specs.Memory.{Memory}
use Rattle.ir_meaning.specs.Step.{Program, built_in, moves_bytes}
use Rattle.ir_meaning.specs.Plays.{Meaning, Invocation}
use Rattle.ir_meaning.proofs.Fitting.{greatest-fits, abs-fits}
use Rattle.rv_play.specs.Machine.{Machine, code_base, code_limit, control_base, control_end}
use Rattle.rv_play.specs.CodePlay.{Place, Point}
use Rattle.rv_play.proofs.Lines.{Stands}
use Rattle.quick_code.specs.Narrow.{zero_extended, sign_extended, taken_second, built_in_code, after_all, Turns}
use Rattle.code_pieces.proofs.Frame.{Is, Holds}
use Rattle.quick_code.proofs.Narrow.{sign-read, cut-modulo, positive, negative}
use Rattle.quick_code.proofs.NarrowCode.{turns-then, turns-to, written-other, kept, number, signs-first, signs-second, cuts, modulo-below, below-64, is-width}
use Rattle.quick_code.proofs.NarrowRuns.{AreSteps, zero-run, sign-run, both-run, zero-short, sign-short}
use Rattle.quick_code.proofs.Meanings.{Keeps, keeps-none, keeps-then, keeps-first, keeps-cut, keeps-sign, keeps-second-sign}
use Rattle.quick_code.proofs.Operations.{Worked}
use Rattle.quick_code.proofs.Unless.{Leaves, unless-work}

-- ---- what is chosen

first-of : (t : Bool) (x y k : ℕ) → not t ≡ true → Some (cond t y x) ≡ Some k → x ≡ k
first-of true x y k h e = absurd (let bad : false ≡ true = h in cc)
first-of false x y k h e = ap number e

second-of : (t : Bool) (x y k : ℕ) → not t ≡ false → Some (cond t y x) ≡ Some k → y ≡ k
second-of true x y k h e = ap number e
second-of false x y k h e = absurd (let bad : true ≡ false = h in cc)

nothing : {x : ℕ} → Is None x
nothing = λ k e. absurd (let bad : ⊥ = cc in bad)

no-leaves : {xs ys : List Instr} {op : BranchOp} {ra rb : Reg} {i : Instr} {r : Registers} → Leaves xs op ra rb i ys None r
no-leaves = record { taken = λ e pc. nothing; on = λ e pc. nothing }

take-second : (a b : ℕ) → b < 2 ^ 64 → Turns (taken_second ∷ []) a b b b
take-second a b lt = λ s ea eb. (ap (λ (x : ℕ). op_value Add x 0) eb ∙ omega (arith, lt), eb, λ j n5 n6. written-other s.x 5 _ j n5)

abbrev both : ℕ → List Instr
both w = sign_extended w T0 ++ sign_extended w T1

module _ (w : ℕ) (one : 1 ≤ w) (most : w ≤ 64) where
  sum : w + (64 - w) ≡ 64
  sum = omega (arith, most)

  -- a number with its sign, cut again
  wrapped : (n : ℕ) → n < 2 ^ w → wrap w (signed w n) ≡ n
  wrapped n lt =
      ⊎_elim
      (λ l. ap (wrap w) (positive w n l) ∙ (let e : n % 2 ^ w ≡ n = mod-small n (2 ^ w) lt in e))
      (λ l. ap (wrap w) (negative w n l lt) ∙ (let e = mod-small (2 ^ w - n - 1) (2 ^ w) (omega (arith, lt)) in omega (arith, e, lt)))
      (cases_lt n (2 ^ (w - 1)))
    where
      mod-small : (n m : ℕ) → n < m → n % m ≡ n
      mod-small n m lt = mod-eq_of_lt lt

  both-turn : (a b : ℕ) → a < 2 ^ w → b < 2 ^ w → Turns (both w) a b (modulo (signed w a)) (modulo (signed w b))
  both-turn a b la lb =
      turns-then (sign_extended w T0) (sign_extended w T1) a b (modulo (signed w a)) b (modulo (signed w a)) (modulo (signed w b)) (signs-first w one most a b la) (signs-second w one most (modulo (signed w a)) b lb)

  cut-turn : (n b : ℕ) → n < 2 ^ w → Turns (zero_extended w T0) (modulo (signed w n)) b n b
  cut-turn n b lt =
      turns-to (zero_extended w T0) (modulo (signed w n)) b (modulo (signed w n) % 2 ^ w) b n (cut-modulo w (64 - w) (signed w n) sum ∙ wrapped n lt)
      (cuts w one most (modulo (signed w n)) b (modulo-below w one most (signed w n)))

  other-turn : (a b : ℕ) → b < 2 ^ w → Turns (taken_second ∷ zero_extended w T0) a (modulo (signed w b)) b (modulo (signed w b))
  other-turn a b lt =
      turns-then (taken_second ∷ []) (zero_extended w T0) a (modulo (signed w b)) (modulo (signed w b)) (modulo (signed w b)) b (modulo (signed w b)) (take-second a (modulo (signed w b)) (modulo-below w one most (signed w b)))
      (cut-turn b (modulo (signed w b)) lt)

  -- the comparison of two numbers with their signs
  order : (a b x y : ℕ) → a < 2 ^ w → b < 2 ^ w → x ≡ modulo (signed w a) → y ≡ modulo (signed w b) → is_taken Bge x y ≡ not (int_lt (signed w a) (signed w b))
  order a b x y la lb ex ey =
      ap (λ (z : ℤ). not (int_lt z (cast_signed w64 y))) (ap (cast_signed w64) ex ∙ sign-read w (64 - w) a (is-width w one most) la)
      ∙ ap (λ (z : ℤ). not (int_lt (signed w a) z)) (ap (cast_signed w64) ey ∙ sign-read w (64 - w) b (is-width w one most) lb)

  signed-leaves-max : (a b : Value) (r : Registers) → FitsWidth w a → FitsWidth w b → Is a (r.x 5) → Is b (r.x 6) → Leaves (both w) Bge T0 T1 taken_second (zero_extended w T0) (built_in SMax w (a ∷ b ∷ [])) r
  signed-leaves-max None b r fa fb ha hb = no-leaves
  signed-leaves-max (Some a) None r fa fb ha hb = no-leaves
  signed-leaves-max (Some a) (Some b) r fa fb ha hb =
      let t = both-turn a b fa fb r (ha a refl) (hb b refl) in
      let x : ℕ → ℕ = (after_all (both w) r).x in
      let is = order a b (x 5) (x 6) fa fb t.0 t.1 in
      record {
        taken = λ e pc k z. (cut-turn a (modulo (signed w b)) fa (record { x = x; pc = pc }) t.0 t.1).0 ∙ first-of (int_lt (signed w a) (signed w b)) a b k (sym is ∙ e) z;
        on = λ e pc k z. (other-turn (modulo (signed w a)) b fb (record { x = x; pc = pc }) t.0 t.1).0 ∙ second-of (int_lt (signed w a) (signed w b)) a b k (sym is ∙ e) z;
      }

  signed-leaves-min : (a b : Value) (r : Registers) → FitsWidth w a → FitsWidth w b → Is a (r.x 5) → Is b (r.x 6) → Leaves (both w) Bge T1 T0 taken_second (zero_extended w T0) (built_in SMin w (a ∷ b ∷ [])) r
  signed-leaves-min None b r fa fb ha hb = no-leaves
  signed-leaves-min (Some a) None r fa fb ha hb = no-leaves
  signed-leaves-min (Some a) (Some b) r fa fb ha hb =
      let t = both-turn a b fa fb r (ha a refl) (hb b refl) in
      let x : ℕ → ℕ = (after_all (both w) r).x in
      let is = order b a (x 6) (x 5) fb fa t.1 t.0 in
      record {
        taken = λ e pc k z. (cut-turn a (modulo (signed w b)) fa (record { x = x; pc = pc }) t.0 t.1).0 ∙ first-of (int_lt (signed w b) (signed w a)) a b k (sym is ∙ e) z;
        on = λ e pc k z. (other-turn (modulo (signed w a)) b fb (record { x = x; pc = pc }) t.0 t.1).0 ∙ second-of (int_lt (signed w b) (signed w a)) a b k (sym is ∙ e) z;
      }

  leaves-max : (a b : Value) (r : Registers) → FitsWidth w a → FitsWidth w b → Is a (r.x 5) → Is b (r.x 6) → Leaves [] Bgeu T0 T1 taken_second [] (built_in UMax w (a ∷ b ∷ [])) r
  leaves-max None b r fa fb ha hb = no-leaves
  leaves-max (Some a) None r fa fb ha hb = no-leaves
  leaves-max (Some a) (Some b) r fa fb ha hb =
      let ea = ha a refl in
      let eb = hb b refl in
      let is : not (nat_lt (r.x 5) (r.x 6)) ≡ not (nat_lt a b) = ap₂ (λ (x y : ℕ). not (nat_lt x y)) ea eb in
      record {
        taken = λ e pc k z. ea ∙ first-of (nat_lt a b) a b k (sym is ∙ e) z;
        on = λ e pc k z. (take-second a b (below-64 w one most b fb) (record { x = r.x; pc = pc }) ea eb).0 ∙ second-of (nat_lt a b) a b k (sym is ∙ e) z;
      }

  leaves-min : (a b : Value) (r : Registers) → FitsWidth w a → FitsWidth w b → Is a (r.x 5) → Is b (r.x 6) → Leaves [] Bgeu T1 T0 taken_second [] (built_in UMin w (a ∷ b ∷ [])) r
  leaves-min None b r fa fb ha hb = no-leaves
  leaves-min (Some a) None r fa fb ha hb = no-leaves
  leaves-min (Some a) (Some b) r fa fb ha hb =
      let ea = ha a refl in
      let eb = hb b refl in
      let is : not (nat_lt (r.x 6) (r.x 5)) ≡ not (nat_lt b a) = ap₂ (λ (x y : ℕ). not (nat_lt y x)) ea eb in
      record {
        taken = λ e pc k z. ea ∙ first-of (nat_lt b a) a b k (sym is ∙ e) z;
        on = λ e pc k z. (take-second a b (below-64 w one most b fb) (record { x = r.x; pc = pc }) ea eb).0 ∙ second-of (nat_lt b a) a b k (sym is ∙ e) z;
      }

  -- ---- an absolute value

  negative-of : (n : ℕ) → n < 2 ^ w → is_taken Bge (modulo (signed w n)) 0 ≡ not (is_negative w n)
  negative-of n lt =
      ap (λ (z : ℤ). not (int_lt z (pos 0))) (sign-read w (64 - w) n (is-width w one most) lt)
      ∙ ⊎_elim
      (λ l. ap (λ (z : ℤ). not (int_lt z (pos 0))) (positive w n l) ∙ not-below n ∙ sym (ap (λ (b : Bool). not (not b)) (lt-ltb n (2 ^ (w - 1)) l)))
      (λ l. ap (λ (z : ℤ). not (int_lt z (pos 0))) (negative w n l lt) ∙ sym (ap (λ (b : Bool). not (not b)) (le-ltb n (2 ^ (w - 1)) l)))
      (cases_lt n (2 ^ (w - 1)))
    where
      not-below : (n : ℕ) → not (int_lt (pos n) (pos 0)) ≡ true
      not-below n = grind (arith, ints)

  -- what is given, by the number's sign
  abs-same : (p t : Bool) (n k : ℕ) → not t ≡ true → poison_if p (cond t (2 ^ w - n) n) ≡ Some k → n ≡ k
  abs-same p true n k h e = absurd (let bad : false ≡ true = h in cc)
  abs-same p false n k h e = kept p n k e

  abs-turned : (p t : Bool) (n k : ℕ) → not t ≡ false → poison_if p (cond t (2 ^ w - n) n) ≡ Some k → (t ≡ true) × (2 ^ w - n ≡ k)
  abs-turned p true n k h e = (refl, kept p (2 ^ w - n) k e)
  abs-turned p false n k h e = absurd (let bad : true ≡ false = h in cc)

  some-of : (n : ℕ) → n < 2 ^ w → is_negative w n ≡ true → 0 < n
  some-of n lt e = let p = pow_pos (w - 1) in at n (2 ^ (w - 1)) e p
    where
      at : (n half : ℕ) → not (nat_lt n half) ≡ true → 0 < half → 0 < n
      at n half e h = grind arith

  -- the difference from 0, cut
  turned-number : (n : ℕ) → n < 2 ^ w → is_negative w n ≡ true → op_value Sub 0 (modulo (signed w n)) % 2 ^ w ≡ 2 ^ w - n
  turned-number n lt e =
      ⊎_elim
      (λ l. absurd (let bad : false ≡ true = sym (ap not (lt-ltb n (2 ^ (w - 1)) l)) ∙ e in cc))
      (λ l.
      (let some = some-of n lt e in
      let wide : 2 ^ w ≤ 2 ^ 64 = pow_mono most in
      let small : (2 ^ w - n - 1) % 2 ^ 64 ≡ 2 ^ w - n - 1 = mod-eq_of_lt (let z : 2 ^ w - n - 1 < 2 ^ 64 = omega (arith, wide, lt) in z) in
      let is : modulo (signed w n) ≡ 2 ^ 64 - 1 - (2 ^ w - n - 1) = ap modulo (negative w n l lt) ∙ ap (λ (x : ℕ). 2 ^ 64 - 1 - x) small in
      let value : op_value Sub 0 (modulo (signed w n)) ≡ 2 ^ w - n = omega (arith, is, wide, lt, some) in
      ap (λ (x : ℕ). x % 2 ^ w) value ∙ mod-eq_of_lt (let z : 2 ^ w - n < 2 ^ w = omega (arith, some, lt) in z)))
      (cases_lt n (2 ^ (w - 1)))

  turned-turn : (n b : ℕ) → n < 2 ^ w → is_negative w n ≡ true → Turns (RegisterOp Sub T0 X0 T0 ∷ zero_extended w T0) (modulo (signed w n)) b (2 ^ w - n) b
  turned-turn n b lt e =
      turns-to (RegisterOp Sub T0 X0 T0 ∷ zero_extended w T0) (modulo (signed w n)) b (op_value Sub 0 (modulo (signed w n)) % 2 ^ w) b (2 ^ w - n) (turned-number n lt e)
      (turns-then (RegisterOp Sub T0 X0 T0 ∷ []) (zero_extended w T0) (modulo (signed w n)) b (op_value Sub 0 (modulo (signed w n))) b _ b
      (λ s ea eb. (ap (op_value Sub 0) ea, eb, λ j n5 n6. written-other s.x 5 _ j n5))
      (cuts w one most (op_value Sub 0 (modulo (signed w n))) b (omega arith)))

  abs-leaves : (a b : Value) (r : Registers) → FitsWidth w a → Is a (r.x 5) → Leaves (sign_extended w T0) Bge T0 X0 (RegisterOp Sub T0 X0 T0) (zero_extended w T0) (built_in Abs w (a ∷ b ∷ [])) r
  abs-leaves None b r fa ha = no-leaves
  abs-leaves (Some n) None r fa ha = no-leaves
  abs-leaves (Some n) (Some least) r fa ha =
      let t = signs-first w one most n (r.x 6) fa r (ha n refl) refl in
      let x : ℕ → ℕ = (after_all (sign_extended w T0) r).x in
      let is : is_taken Bge (x 5) 0 ≡ not (is_negative w n) = ap (λ (y : ℕ). is_taken Bge y 0) t.0 ∙ negative-of n fa in
      let p : Bool = n == 2 ^ (w - 1) && not (least == 0) in
      record {
        taken = λ e pc k z. (cut-turn n (r.x 6) fa (record { x = x; pc = pc }) t.0 t.1).0 ∙ abs-same p (is_negative w n) n k (sym is ∙ e) z;
        on = λ e pc k z. let c = abs-turned p (is_negative w n) n k (sym is ∙ e) z in (turned-turn n (r.x 6) fa c.0 (record { x = x; pc = pc }) t.0 t.1).0 ∙ c.1;
      }

  -- ---- the registers that it changes, and its steps

  keeps-both : Keeps (both w)
  keeps-both = keeps-then (sign_extended w T0) (sign_extended w T1) (keeps-sign w) (keeps-second-sign w)

  keeps-taken : (ys : List Instr) → Keeps ys → Keeps (taken_second ∷ ys)
  keeps-taken ys k = keeps-first taken_second ys (λ s j n5. written-other s.x 5 _ j n5) k

  keeps-turned : (ys : List Instr) → Keeps ys → Keeps (RegisterOp Sub T0 X0 T0 ∷ ys)
  keeps-turned ys k = keeps-first (RegisterOp Sub T0 X0 T0) ys (λ s j n5. written-other s.x 5 _ j n5) k

  zero-steps : AreSteps (zero_extended w T0)
  zero-steps = (zero-run w one most T0).steps

-- what it gives is of its width
pub built_in-fits : (which : BuiltIn) (w w' : ℕ) (x y : Value) → FitsWidth w x → (which ≢ Abs → FitsWidth w y) → FitsWidth w' y → FitsWidth w (built_in which w (x ∷ y ∷ []))
built_in-fits Abs w w' x y fx fy fy' = abs-fits w w' (x ∷ y ∷ []) (fx, fy')
built_in-fits SMax w w' x y fx fy fy' = greatest-fits SMax w (x ∷ y ∷ []) (fx, fy (λ z. cc))
built_in-fits SMin w w' x y fx fy fy' = greatest-fits SMin w (x ∷ y ∷ []) (fx, fy (λ z. cc))
built_in-fits UMax w w' x y fx fy fy' = greatest-fits UMax w (x ∷ y ∷ []) (fx, fy (λ z. cc))
built_in-fits UMin w w' x y fx fy fy' = greatest-fits UMin w (x ∷ y ∷ []) (fx, fy (λ z. cc))
built_in-fits MemCpy w w' x y fx fy fy' = tt
built_in-fits MemMove w w' x y fx fy fy' = tt
built_in-fits MemSet w w' x y fx fy fy' = tt

-- it takes at most eight words
pub built_in-short : (which : BuiltIn) (w : ℕ) → length (built_in_code which w) ≤ 8
built_in-short SMax w =
    let a = length-append (both w) (Branch Bge T0 T1 (pos 8) ∷ taken_second ∷ zero_extended w T0) in
    let b = length-append (sign_extended w T0) (sign_extended w T1) in
    let c = sign-short w T0 in let d = sign-short w T1 in let e = zero-short w T0 in
    omega (arith, a, b, c, d, e)
built_in-short SMin w =
    let a = length-append (both w) (Branch Bge T1 T0 (pos 8) ∷ taken_second ∷ zero_extended w T0) in
    let b = length-append (sign_extended w T0) (sign_extended w T1) in
    let c = sign-short w T0 in let d = sign-short w T1 in let e = zero-short w T0 in
    omega (arith, a, b, c, d, e)
built_in-short UMax w = omega arith
built_in-short UMin w = omega arith
built_in-short Abs w =
    let a = length-append (sign_extended w T0) (Branch Bge T0 X0 (pos 8) ∷ RegisterOp Sub T0 X0 T0 ∷ zero_extended w T0) in
    let c = sign-short w T0 in let e = zero-short w T0 in
    omega (arith, a, c, e)
built_in-short MemCpy w = omega arith
built_in-short MemMove w = omega arith
built_in-short MemSet w = omega arith

module _ (program : Program) (a : Invocation) (s : Machine) (low frame n : ℕ) (m : Meaning) (functions : m.functions ≤ 1024) (room : m.room ≤ 67108864) (place : Place) (lowb : code_base + 4 ≤ place.base) (highb : place.base + 4 * length place.words ≤ code_limit)
    (bottom : control_base ≤ low) (top : low + frame ≤ control_end) (is-frame : frame ≡ 128 + 32 * n) where
  pub built_in-work : (which : BuiltIn) (w : ℕ) (x y : Value) (values : List Value) (here : Memory) (p : Point) → 1 ≤ w → w ≤ 64 → moves_bytes which ≡ false → FitsWidth w x → (which ≢ Abs → FitsWidth w y) → Is x (p.machine.regs.x 5)
      → (which ≢ Abs → Is y (p.machine.regs.x 6)) → Holds a s low frame values here p → Stands place p.machine.regs.pc (built_in_code which w)
      → Worked program a s low frame n m functions room place lowb highb bottom top is-frame (built_in_code which w) values here (built_in which w (x ∷ y ∷ [])) p
  built_in-work SMax w x y values here p one most no-bytes fx fy hx hy h st =
      unless-work program a s low frame n m functions room place lowb highb bottom top is-frame (both w) Bge T0 T1 taken_second (zero_extended w T0) values here (built_in SMax w (x ∷ y ∷ [])) p
      (both-run w one most).steps (keeps-both w one most) (zero-steps w one most) (keeps-taken w one most (zero_extended w T0) (keeps-cut w)) (zero-steps w one most) (keeps-cut w)
      (signed-leaves-max w one most x y p.machine.regs fx (fy (λ z. cc)) hx (hy (λ z. cc))) h st
  built_in-work SMin w x y values here p one most no-bytes fx fy hx hy h st =
      unless-work program a s low frame n m functions room place lowb highb bottom top is-frame (both w) Bge T1 T0 taken_second (zero_extended w T0) values here (built_in SMin w (x ∷ y ∷ [])) p
      (both-run w one most).steps (keeps-both w one most) (zero-steps w one most) (keeps-taken w one most (zero_extended w T0) (keeps-cut w)) (zero-steps w one most) (keeps-cut w)
      (signed-leaves-min w one most x y p.machine.regs fx (fy (λ z. cc)) hx (hy (λ z. cc))) h st
  built_in-work UMax w x y values here p one most no-bytes fx fy hx hy h st =
      unless-work program a s low frame n m functions room place lowb highb bottom top is-frame [] Bgeu T0 T1 taken_second [] values here (built_in UMax w (x ∷ y ∷ [])) p
      tt keeps-none tt (keeps-taken w one most [] keeps-none) tt keeps-none (leaves-max w one most x y p.machine.regs fx (fy (λ z. cc)) hx (hy (λ z. cc))) h st
  built_in-work UMin w x y values here p one most no-bytes fx fy hx hy h st =
      unless-work program a s low frame n m functions room place lowb highb bottom top is-frame [] Bgeu T1 T0 taken_second [] values here (built_in UMin w (x ∷ y ∷ [])) p
      tt keeps-none tt (keeps-taken w one most [] keeps-none) tt keeps-none (leaves-min w one most x y p.machine.regs fx (fy (λ z. cc)) hx (hy (λ z. cc))) h st
  built_in-work Abs w x y values here p one most no-bytes fx fy hx hy h st =
      unless-work program a s low frame n m functions room place lowb highb bottom top is-frame (sign_extended w T0) Bge T0 X0 (RegisterOp Sub T0 X0 T0) (zero_extended w T0) values here (built_in Abs w (x ∷ y ∷ [])) p
      (sign-run w one most T0).steps (keeps-sign w) (zero-steps w one most) (keeps-turned w one most (zero_extended w T0) (keeps-cut w)) (zero-steps w one most) (keeps-cut w)
      (abs-leaves w one most x y p.machine.regs fx hx) h st
  built_in-work MemCpy w x y values here p one most no-bytes fx fy hx hy h st = absurd (let bad : true ≡ false = no-bytes in cc)
  built_in-work MemMove w x y values here p one most no-bytes fx fy hx hy h st = absurd (let bad : true ≡ false = no-bytes in cc)
  built_in-work MemSet w x y values here p one most no-bytes fx fy hx hy h st = absurd (let bad : true ≡ false = no-bytes in cc)
