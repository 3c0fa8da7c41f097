-- The code of an address of a part moves the address in t0 on by what the indices add.
use Rattle.std.proofs.Common.{◌≡◌, refl, sym, ap, ap₂, subst, ◌∙◌, ℕ, ◌+◌, ◌-◌, ◌*◌, ◌%◌, ◌^◌, ◌<◌, ◌≤◌, List, [], ◌∷◌, ◌++◌, length, Option, Some, None, Bool, true, false, cond, arith}
use Rattle.std.specs.Prelude.{◌==◌, ◌&&◌, nat_lt, ℤ, pos, negsuc, slice_index_or}
use Rattle.std.specs.Int.{w64, trailing_zeros}
use Rattle.std.proofs.lemmas.Bool.{and_parts, ltb-true, eqb-true}
use Rattle.std.proofs.lemmas.List.{length-append}
use Rattle.ir_core.specs.declared.code.Operand.TheVariants.{Value as Local}
use Rattle.rv_core.specs.declared.reg.Reg.TheVariants.{T0, T1, T2}
use Rattle.rv_core.specs.declared.instr.ImmOp.TheVariants.{Addi, Slli}
use Rattle.rv_core.specs.declared.instr.RegOp.TheVariants.{Add, Mul, Sll}
use Rattle.rv_core.specs.declared.instr.Instr.{Instr}
use Rattle.rv_core.specs.declared.instr.Instr.TheVariants.{Imm, Op as RegisterOp}
use Rattle.rv_core.specs.Step.{modulo, op_value}
use Rattle.rj_num.specs.Width.{signed}
use Rattle.ir_meaning.specs.Value.{Value}
use Rattle.ir_meaning.specs.Memory.{Memory, index_64}
use Rattle.ir_meaning.specs.Step.{Program}
use Rattle.ir_meaning.specs.Plays.{Meaning, Invocation}
use Rattle.rv_play.specs.Machine.{Machine, code_base, code_limit, control_base, control_end}
use Rattle.rv_play.specs.CodePlay.{Place, Point}
use Rattle.rv_play.proofs.Lines.{Stands, stands-apart, Goes, goes-then, goes-none}
use Rattle.code_pieces.specs.Code.{load_value, const_code}
use Rattle.quick_code.specs.Narrow.{sign_extended}
use Rattle.quick_code.specs.Parts.{Piece, Bytes, Times, exponent, scaled_code, scale_code, twelve, added_code, times_code, pieces_code, bytes_code}
use Rattle.code_pieces.proofs.Const.{put, const-puts, const-short}
use Rattle.code_pieces.proofs.Frame.{Holds, scratch-t1, scratch-t2, hold-put}
use Rattle.code_pieces.proofs.Slots.{load-short}
use Rattle.quick_code.proofs.NarrowCode.{signs-second, modulo-below, written-other}
use Rattle.quick_code.proofs.NarrowRuns.{AreSteps, behind, steps-go, sign-run, sign-short}
use Rattle.quick_code.proofs.Meanings.{Keeps, keeps-none, keeps-first, keeps-second-sign}
use Rattle.quick_code.proofs.Operations.{value-brings, hold-behind}

-- what the values that are indices add to an address
pub record AddsOne (values : List Value) (w number size : ℕ) (Rest : ℕ → Type 0) (total : ℕ) : Type 0 where
  pub v : ℕ
  pub more : ℕ
  pub is : slice_index_or values number None ≡ Some v
  pub small : v < 2 ^ w
  pub others : Rest more
  pub sum : total ≡ index_64 w v * size + more

abbrev pub Adds : List Value → List Piece → ℕ → Type 0
Adds values [] total = total ≡ 0
Adds values (Bytes count ∷ ps) total = Adds values ps total
Adds values (Times w number size ∷ ps) total = AddsOne values w number size (Adds values ps) total

-- pieces among n values
abbrev pub ArePieces : ℕ → List Piece → Type 0
ArePieces n [] = Unit {0}
ArePieces n (Bytes count ∷ ps) = ArePieces n ps
ArePieces n (Times w number size ∷ ps) = (1 ≤ w) × (w ≤ 64) × (number < n) × (size < 2 ^ 64) × ArePieces n ps

-- ---- how long it is

if-short : (b : Bool) (n : ℕ) (xs ys : List Instr) → length xs ≤ n → length ys ≤ n → length (cond b xs ys) ≤ n
if-short true n xs ys h k = h
if-short false n xs ys h k = k

scaled-short : (o : Option ℕ) (size : ℕ) → length (scaled_code o size) ≤ 9
scaled-short (Some k) size = omega arith
scaled-short None size = let c = const-short 3 T2 size in let l = length-append (const_code 3 T2 size) (RegisterOp Mul T1 T1 T2 ∷ []) in omega (arith, c, l)

scale-short : (size : ℕ) → length (scale_code size) ≤ 9
scale-short size = if-short (size == 1) 9 [] _ (omega arith) (scaled-short (exponent size) size)

pub times-short : (w number size : ℕ) → length (times_code w number size) ≤ 15
times-short w number size =
    let l = load-short T1 (32 * number) in
    let f = length-append (load_value T1 number) (sign_extended w T1 ++ (scale_code size ++ RegisterOp Add T0 T0 T1 ∷ [])) in
    let a = length-append (sign_extended w T1) (scale_code size ++ RegisterOp Add T0 T0 T1 ∷ []) in
    let b = length-append (scale_code size) (RegisterOp Add T0 T0 T1 ∷ []) in
    let c = sign-short w T1 in
    let d = scale-short size in
    omega (arith, l, f, a, b, c, d)

added-short : (o : Option ℤ) (count : ℕ) → length (added_code o count) ≤ 9
added-short (Some z) count = omega arith
added-short None count = let c = const-short 3 T1 count in let l = length-append (const_code 3 T1 count) (RegisterOp Add T0 T0 T1 ∷ []) in omega (arith, c, l)

pub bytes-short : (count : ℕ) → length (bytes_code count) ≤ 9
bytes-short count = if-short (count == 0) 9 [] _ (omega arith) (added-short (twelve count) count)

-- ---- numbers

some-of : {A : Type 0} (x y : A) → Some x ≡ Some y → x ≡ y
some-of x y e = cc

-- an exponent that is found is one
power-of : (size k : ℕ) → exponent size ≡ Some k → (k < 64) × (size ≡ 2 ^ k)
power-of size k e = by_test (nat_lt j 64 && size == 2 ^ j) refl e
  where
    j : ℕ
    j = trailing_zeros w64 size

    by_test : (b : Bool) → (nat_lt j 64 && size == 2 ^ j) ≡ b → cond b (Some j) None ≡ Some k → (k < 64) × (size ≡ 2 ^ k)
    by_test true t e =
        let parts = and_parts (nat_lt j 64) (size == 2 ^ j) t in
        let same : j ≡ k = some-of j k e in
        subst (λ (i : ℕ). (i < 64) × (size ≡ 2 ^ i)) same (ltb-true j 64 parts.0, eqb-true size (2 ^ j) parts.1)
    by_test false t e = absurd (let bad : None ≡ Some k = e in cc)

shifted : (i k size : ℕ) → k < 64 → size ≡ 2 ^ k → op_value Sll i (modulo (pos k)) ≡ (i * size) % 2 ^ 64
shifted i k size lt e =
    let amount : modulo (pos k) % 64 ≡ k = omega (arith, lt) in
    ap (λ (j : ℕ). (i * 2 ^ j) % 2 ^ 64) amount ∙ ap (λ (x : ℕ). (i * x) % 2 ^ 64) (sym e)

one-of : (i size : ℕ) → size ≡ 1 → i < 2 ^ 64 → i ≡ (i * size) % 2 ^ 64
one-of i size e lt =
    let p : i * size ≡ i * 1 = ap (λ (x : ℕ). i * x) e in
    let q : i * 1 ≡ i = omega arith in
    omega (arith, p, q, lt)

twelve-bits : (count : ℕ) (z : ℤ) → count < 2 ^ 64 → twelve count ≡ Some z → modulo z ≡ count
twelve-bits count z lt e = by_low (nat_lt count 2048) e
  where
    far : ℕ
    far = 2 ^ 64 - 1 - count

    by_high : (b : Bool) → cond b (Some (negsuc far)) None ≡ Some z → modulo z ≡ count
    by_high true e = ap modulo (sym (some-of (negsuc far) z e)) ∙ omega (arith, lt)
    by_high false e = absurd (let bad : None ≡ Some z = e in cc)

    by_low : (b : Bool) → cond b (Some (pos count)) (cond (nat_lt far 2048) (Some (negsuc far)) None) ≡ Some z → modulo z ≡ count
    by_low true e = ap modulo (sym (some-of (pos count) z e)) ∙ omega (arith, lt)
    by_low false e = by_high (nat_lt far 2048) e

module _ (program : Program) (a : Invocation) (s : Machine) (low frame n : ℕ) (m : Meaning) (functions : m.functions ≤ 1024) (room : m.room ≤ 67108864) (place : Place) (lowb : code_base + 4 ≤ place.base) (highb : place.base + 4 * length place.words ≤ code_limit)
    (bottom : control_base ≤ low) (top : low + frame ≤ control_end) (is-frame : frame ≡ 128 + 32 * n) where
  abbrev Runs : ℕ → Point → Point → Type 0
  Runs = Goes m functions place lowb highb

  abbrev Held : List Value → Memory → Point → Type 0
  Held = Holds a s low frame

  -- the code goes to what stands behind it, and the frame stands
  pub record Went (code : List Instr) (values : List Value) (here : Memory) (p q : Point) : Type 0 where
    pub run : Runs (length code) p q
    pub pc : q.machine.regs.pc ≡ p.machine.regs.pc + 4 * length code
    pub holds : Held values here q

  went-none : (values : List Value) (here : Memory) (p : Point) → Held values here p → Went [] values here p p
  went-none values here p h = record { run = goes-none m functions place lowb highb p; pc = omega arith; holds = h }

  went-then : (xs ys : List Instr) (values : List Value) (here : Memory) (p q r : Point) → Went xs values here p q → Went ys values here q r → Went (xs ++ ys) values here p r
  went-then xs ys values here p q r w v =
      let len = length-append xs ys in
      let pw = w.pc in
      let pv = v.pc in
      record {
        run = subst (λ (k : ℕ). Runs k p r) (sym len) (goes-then m functions place lowb highb (length xs) (length ys) p q r w.run v.run);
        pc = omega (arith, len, pw, pv);
        holds = v.holds;
      }

  went-steps : (code : List Instr) (values : List Value) (here : Memory) (p : Point) → AreSteps code → Keeps code → Held values here p → Stands place p.machine.regs.pc code → Went code values here p (behind p code)
  went-steps code values here p steps keeps h st = record {
    run = steps-go m functions place lowb highb code p steps st;
    pc = refl;
    holds = hold-behind program a s low frame n m functions room place lowb highb bottom top is-frame code values here p keeps h;
  }

  next-stands : (xs ys : List Instr) (values : List Value) (here : Memory) (p q : Point) → Went xs values here p q → Stands place p.machine.regs.pc (xs ++ ys) → Stands place q.machine.regs.pc ys
  next-stands xs ys values here p q w st = subst (λ (k : ℕ). Stands place k ys) (sym w.pc) (stands-apart place p.machine.regs.pc xs ys st).1

  keeps-add : Keeps (RegisterOp Add T0 T0 T1 ∷ [])
  keeps-add = keeps-first (RegisterOp Add T0 T0 T1) [] (λ s j n5. written-other s.x 5 _ j n5) keeps-none

  -- ---- a size

  record Scaled (size : ℕ) (code : List Instr) (values : List Value) (here : Memory) (p : Point) : Type 0 where
    point : Point
    went : Went code values here p point
    first : point.machine.regs.x 5 ≡ p.machine.regs.x 5
    product : p.machine.regs.x 6 < 2 ^ 64 → point.machine.regs.x 6 ≡ (p.machine.regs.x 6 * size) % 2 ^ 64

  scaled-goes : (o : Option ℕ) (size : ℕ) (values : List Value) (here : Memory) (p : Point) → exponent size ≡ o → size < 2 ^ 64 → Held values here p → Stands place p.machine.regs.pc (scaled_code o size) → Scaled size (scaled_code o size) values here p
  scaled-goes (Some k) size values here p e small h st =
      let power = power-of size k e in
      record {
        point = behind p (Imm Slli T1 T1 (pos k) ∷ []);
        went = went-steps (Imm Slli T1 T1 (pos k) ∷ []) values here p tt (λ s j n5 n6. written-other s.x 6 _ j n6) h st;
        first = refl;
        product = λ lt. shifted (p.machine.regs.x 6) k size power.0 power.1;
      }
  scaled-goes None size values here p e small h st =
      let c0 : List Instr = const_code 3 T2 size in
      let parts = stands-apart place p.machine.regs.pc c0 (RegisterOp Mul T1 T1 T2 ∷ []) st in
      let q : Point = put p T2 size (length c0) in
      let loaded : Went c0 values here p q = record {
        run = const-puts m functions place lowb highb p T2 size scratch-t2.0 small parts.0;
        pc = refl;
        holds = hold-put a s low frame values here p T2 size (length c0) scratch-t2 h;
      } in
      let times = went-steps (RegisterOp Mul T1 T1 T2 ∷ []) values here q tt (λ s j n5 n6. written-other s.x 6 _ j n6) loaded.holds parts.1 in
      record {
        point = behind q (RegisterOp Mul T1 T1 T2 ∷ []);
        went = went-then c0 (RegisterOp Mul T1 T1 T2 ∷ []) values here p q (behind q (RegisterOp Mul T1 T1 T2 ∷ [])) loaded times;
        first = refl;
        product = λ lt. refl;
      }

  scale-goes : (size : ℕ) (values : List Value) (here : Memory) (p : Point) → size < 2 ^ 64 → Held values here p → Stands place p.machine.regs.pc (scale_code size) → Scaled size (scale_code size) values here p
  scale-goes size values here p small h st = by_one (size == 1) refl st
    where
      by_one : (b : Bool) → (size == 1) ≡ b → Stands place p.machine.regs.pc (cond b [] (scaled_code (exponent size) size)) → Scaled size (cond b [] (scaled_code (exponent size) size)) values here p
      by_one true e st = record {
        point = p;
        went = went-none values here p h;
        first = refl;
        product = λ lt. one-of (p.machine.regs.x 6) size (eqb-true size 1 e) lt;
      }
      by_one false e st = scaled-goes (exponent size) size values here p refl small h st

  -- ---- an index

  record Timed (w number size : ℕ) (values : List Value) (here : Memory) (p : Point) : Type 0 where
    point : Point
    went : Went (times_code w number size) values here p point
    adds : (v : ℕ) → slice_index_or values number None ≡ Some v → v < 2 ^ w → point.machine.regs.x 5 ≡ (p.machine.regs.x 5 + index_64 w v * size) % 2 ^ 64

  times-go : (w number size : ℕ) (values : List Value) (here : Memory) (p : Point) → 1 ≤ w → w ≤ 64 → number < n → size < 2 ^ 64 → Held values here p → Stands place p.machine.regs.pc (times_code w number size) → Timed w number size values here p
  times-go w number size values here p one most inside small h st =
      let c0 : List Instr = load_value T1 number in
      let c1 : List Instr = sign_extended w T1 in
      let c2 : List Instr = scale_code size in
      let c3 : List Instr = RegisterOp Add T0 T0 T1 ∷ [] in
      let l = value-brings program a s low frame n m functions room place lowb highb bottom top is-frame values here p T1 (Local number) scratch-t1 inside h (stands-apart place p.machine.regs.pc c0 (c1 ++ (c2 ++ c3)) st).0 in
      let q0 : Point = l.point in
      let w0 : Went c0 values here p q0 = record { run = l.run; pc = l.pc; holds = l.holds } in
      let st1 = next-stands c0 (c1 ++ (c2 ++ c3)) values here p q0 w0 st in
      let q1 : Point = behind q0 c1 in
      let w1 : Went c1 values here q0 q1 = went-steps c1 values here q0 (sign-run w one most T1).steps (keeps-second-sign w) l.holds (stands-apart place q0.machine.regs.pc c1 (c2 ++ c3) st1).0 in
      let st2 = next-stands c1 (c2 ++ c3) values here q0 q1 w1 st1 in
      let w2 = scale-goes size values here q1 small w1.holds (stands-apart place q1.machine.regs.pc c2 c3 st2).0 in
      let q2 : Point = w2.point in
      let st3 = next-stands c2 c3 values here q1 q2 w2.went st2 in
      let q3 : Point = behind q2 c3 in
      let w3 : Went c3 values here q2 q3 = went-steps c3 values here q2 tt keeps-add w2.went.holds st3 in
      record {
        point = q3;
        went = went-then c0 (c1 ++ (c2 ++ c3)) values here p q0 q3 w0 (went-then c1 (c2 ++ c3) values here q0 q1 q3 w1 (went-then c2 c3 values here q1 q2 q3 w2.went w3));
        adds = λ v e lt.
            let acc : ℕ = p.machine.regs.x 5 in
            let kept : q0.machine.regs.x 5 ≡ acc = l.others 5 (λ z. omega (arith, z)) in
            let t = signs-second w one most acc v lt q0.machine.regs kept (l.is v e) in
            let i : ℕ = index_64 w v in
            let x5 : q2.machine.regs.x 5 ≡ acc = w2.first ∙ t.0 in
            let below : q1.machine.regs.x 6 < 2 ^ 64 = subst (λ (x : ℕ). x < 2 ^ 64) (sym t.1) (modulo-below w one most (signed w v)) in
            let x6 : q2.machine.regs.x 6 ≡ (i * size) % 2 ^ 64 = w2.product below ∙ ap (λ (x : ℕ). (x * size) % 2 ^ 64) t.1 in
            let sum : op_value Add (q2.machine.regs.x 5) (q2.machine.regs.x 6) ≡ (acc + (i * size) % 2 ^ 64) % 2 ^ 64 = ap₂ (op_value Add) x5 x6 in
            sum ∙ cut-sum acc (i * size);
      }
    where
      cut-sum : (a b : ℕ) → (a + b % 2 ^ 64) % 2 ^ 64 ≡ (a + b) % 2 ^ 64
      cut-sum a b = omega arith

  -- ---- all of them

  pub record Gone (ps : List Piece) (values : List Value) (here : Memory) (p : Point) : Type 0 where
    pub point : Point
    pub went : Went (pieces_code ps) values here p point
    pub adds : (total : ℕ) → p.machine.regs.x 5 < 2 ^ 64 → Adds values ps total → point.machine.regs.x 5 ≡ (p.machine.regs.x 5 + total) % 2 ^ 64

  pub pieces-go : (ps : List Piece) (values : List Value) (here : Memory) (p : Point) → ArePieces n ps → Held values here p → Stands place p.machine.regs.pc (pieces_code ps) → Gone ps values here p
  pieces-go [] values here p are h st = record { point = p; went = went-none values here p h; adds = λ total lt e. omega (arith, lt, e) }
  pieces-go (Bytes count ∷ ps) values here p are h st = let g = pieces-go ps values here p are h st in record { point = g.point; went = g.went; adds = g.adds }
  pieces-go (Times w number size ∷ ps) values here p are h st =
      let c0 : List Instr = times_code w number size in
      let c1 : List Instr = pieces_code ps in
      let t = times-go w number size values here p are.0 are.1 are.2 are.3 h (stands-apart place p.machine.regs.pc c0 c1 st).0 in
      let g = pieces-go ps values here t.point are.4 t.went.holds (next-stands c0 c1 values here p t.point t.went st) in
      record {
        point = g.point;
        went = went-then c0 c1 values here p t.point g.point t.went g.went;
        adds = λ total lt e.
            let one = t.adds e.v e.is e.small in
            let all = g.adds e.more (let below : t.point.machine.regs.x 5 < 2 ^ 64 = omega (arith, one) in below) e.others in
            all ∙ sums (p.machine.regs.x 5) (index_64 w e.v * size) e.more (t.point.machine.regs.x 5) total one e.sum;
      }
    where
      sums : (a b c x t : ℕ) → x ≡ (a + b) % 2 ^ 64 → t ≡ b + c → (x + c) % 2 ^ 64 ≡ (a + t) % 2 ^ 64
      sums a b c x t e f = omega (arith, e, f)

  -- ---- bytes

  pub record Moved (count : ℕ) (code : List Instr) (values : List Value) (here : Memory) (p : Point) : Type 0 where
    pub point : Point
    pub went : Went code values here p point
    pub adds : p.machine.regs.x 5 < 2 ^ 64 → point.machine.regs.x 5 ≡ (p.machine.regs.x 5 + count) % 2 ^ 64

  added-goes : (o : Option ℤ) (count : ℕ) (values : List Value) (here : Memory) (p : Point) → twelve count ≡ o → count < 2 ^ 64 → Held values here p → Stands place p.machine.regs.pc (added_code o count) → Moved count (added_code o count) values here p
  added-goes (Some z) count values here p e small h st = record {
    point = behind p (Imm Addi T0 T0 z ∷ []);
    went = went-steps (Imm Addi T0 T0 z ∷ []) values here p tt (keeps-first (Imm Addi T0 T0 z) [] (λ s j n5. written-other s.x 5 _ j n5) keeps-none) h st;
    adds = λ lt. ap (op_value Add (p.machine.regs.x 5)) (twelve-bits count z small e);
  }
  added-goes None count values here p e small h st =
      let c0 : List Instr = const_code 3 T1 count in
      let parts = stands-apart place p.machine.regs.pc c0 (RegisterOp Add T0 T0 T1 ∷ []) st in
      let q : Point = put p T1 count (length c0) in
      let loaded : Went c0 values here p q = record {
        run = const-puts m functions place lowb highb p T1 count scratch-t1.0 small parts.0;
        pc = refl;
        holds = hold-put a s low frame values here p T1 count (length c0) scratch-t1 h;
      } in
      let sum = went-steps (RegisterOp Add T0 T0 T1 ∷ []) values here q tt keeps-add loaded.holds parts.1 in
      record {
        point = behind q (RegisterOp Add T0 T0 T1 ∷ []);
        went = went-then c0 (RegisterOp Add T0 T0 T1 ∷ []) values here p q (behind q (RegisterOp Add T0 T0 T1 ∷ [])) loaded sum;
        adds = λ lt. refl;
      }

  pub bytes-go : (count : ℕ) (values : List Value) (here : Memory) (p : Point) → count < 2 ^ 64 → Held values here p → Stands place p.machine.regs.pc (bytes_code count) → Moved count (bytes_code count) values here p
  bytes-go count values here p small h st = by_none (count == 0) refl st
    where
      by_none : (b : Bool) → (count == 0) ≡ b → Stands place p.machine.regs.pc (cond b [] (added_code (twelve count) count)) → Moved count (cond b [] (added_code (twelve count) count)) values here p
      by_none true e st = record {
        point = p;
        went = went-none values here p h;
        adds = λ lt. (let z : count ≡ 0 = eqb-true count 0 e in omega (arith, z, lt));
      }
      by_none false e st = added-goes (twelve count) count values here p refl small h st
