-- The code that enters an activation stores its arguments, cut to their widths; and that behind a call stores the answer.
use Rattle.std.proofs.Common.{◌≡◌, ◌≢◌, refl, sym, ap, subst, ◌∙◌, ℕ, zero, suc, ◌+◌, ◌*◌, ◌%◌, ◌^◌, ◌<◌, ◌≤◌, ◌⊎◌, inl, inr, List, [], ◌∷◌, ◌++◌, length, Some, None, Bool, true, cond, arith, append_assoc}
use Rattle.std.specs.Prelude.{map, slice_get, slice_set}
use Rattle.std.proofs.Math.Pow.{pow_mono}
use Rattle.std.proofs.lemmas.Nat.{pow_pos}
use Rattle.std.proofs.lemmas.List.{length-append}
use Rattle.ir_core.specs.declared.types.Ty.{Ty}
use Rattle.ir_core.specs.declared.types.Ty.TheVariants.{Void, Int, Ptr}
use Rattle.ir_core.specs.Units.{is_result}
use Rattle.rv_core.specs.Reg.{number_of}
use Rattle.rv_core.specs.declared.reg.Reg.{Reg}
use Rattle.rv_core.specs.declared.reg.Reg.TheVariants.{A0}
use Rattle.rv_core.specs.declared.instr.Instr.{Instr}
use Rattle.rv_core.specs.Bytes.{load_bytes, store_bytes}
use Rattle.rv_core.proofs.Bytes.{load_stored, load_outside}
use Rattle.rv_core.specs.Step.{Registers, read}
use Rattle.ir_meaning.specs.Value.{Value}
use Rattle.ir_meaning.specs.Memory.{Memory}
use Rattle.ir_meaning.specs.Operators.{width}
use Rattle.ir_meaning.specs.Plays.{Meaning, Invocation}
use Rattle.ir_meaning.specs.Meaning.{result_width}
use Rattle.ir_meaning.specs.Ranges.{FitsWidth, FitsResult, AreArgs}
use Rattle.ir_meaning.specs.Typed.{IsValueType, IsResultType}
use Rattle.rv_play.specs.Machine.{Machine, code_base, code_limit, control_base, control_end}
use Rattle.rv_play.specs.CodePlay.{Place, Point}
use Rattle.rv_play.specs.Good.{IsRegs, RefinesValue, RefinesResult, RefinesArgs}
use Rattle.rv_play.proofs.Lines.{Stands, stands-apart, Goes, goes-then, goes-none}
use Rattle.code_pieces.specs.Code.{argument_reg, store_value}
use Rattle.quick_code.specs.Narrow.{zero_extended}
use Rattle.quick_code.specs.Blocks.{arguments_code, answer_code}
use Rattle.code_pieces.proofs.Const.{put, read-put}
use Rattle.code_pieces.proofs.Frame.{Is, Holds, scratch-argument, argument-number, hold-put, hold-store, store-goes}
use Rattle.code_pieces.proofs.Slots.{store-short, other-register}
use Rattle.quick_code.proofs.Refines.{Reads}
use Rattle.quick_code.proofs.Cuts.{cut-puts, cut-short}
use Rattle.quick_code.proofs.Numbers.{width-small, width-some}

pub arguments-short : (p : ℕ) (tys : List Ty) → length (arguments_code p tys) ≤ 5 * length tys
arguments-short p [] = omega arith
arguments-short p (ty ∷ tys) =
    let one = cut-short (width ty) (argument_reg p) in
    let rest = arguments-short (p + 1) tys in
    let all = length-append (zero_extended (width ty) (argument_reg p)) (store_value (argument_reg p) p ++ arguments_code (p + 1) tys) in
    let more = length-append (store_value (argument_reg p) p) (arguments_code (p + 1) tys) in
    let short = store-short (argument_reg p) (32 * p) in
    omega (arith, one, rest, all, more, short)

pub answer-short : (gives : Ty) (number : ℕ) → length (answer_code gives number) ≤ 5
answer-short Void number = omega arith
answer-short (Int w) number = let one = cut-short w A0 in let all = length-append (zero_extended w A0) (store_value A0 number) in let short = store-short A0 (32 * number) in omega (arith, one, all, short)
answer-short Ptr number = let short = store-short A0 (32 * number) in omega (arith, short)

-- cut to its width a register holds the value
value-is : (w n : ℕ) (value : Value) → RefinesValue w value n → Is value (n % 2 ^ w)
value-is w n None h k e = absurd (let bad : ⊥ = cc in bad)
value-is w n (Some v) h k e = let same : v ≡ k = cc in h ∙ same

value-small : (w : ℕ) (value : Value) → w ≤ 64 → FitsWidth w value → (k : ℕ) → value ≡ Some k → k < 2 ^ 64
value-small w None most fits k e = absurd (let bad : ⊥ = cc in bad)
value-small w (Some v) most fits k e = let same : v ≡ k = cc in let wide : 2 ^ w ≤ 2 ^ 64 = pow_mono most in omega (arith, same, fits, wide)

-- there are as many arguments as parameters
pub args-inside : (tys : List Ty) (vs : List Value) → AreArgs (map width tys) vs → (k : ℕ) (v : Value) → slice_get vs k ≡ Some v → k < length tys
args-inside [] [] fit k v e = absurd (let bad : ⊥ = cc in bad)
args-inside [] (x ∷ xs) fit k v e = absurd fit
args-inside (ty ∷ tys) [] fit k v e = absurd fit
args-inside (ty ∷ tys) (x ∷ xs) fit zero v e = omega arith
args-inside (ty ∷ tys) (x ∷ xs) fit (suc k) v e = let rest = args-inside tys xs fit.1 k v e in omega (arith, rest)

module _ (a : Invocation) (s : Machine) (low frame : ℕ) (m : Meaning) (functions : m.functions ≤ 1024) (room : m.room ≤ 67108864) (place : Place) (lowb : code_base + 4 ≤ place.base) (highb : place.base + 4 * length place.words ≤ code_limit)
    (bottom : control_base ≤ low) (top : low + frame ≤ control_end) where
  abbrev Runs : ℕ → Point → Point → Type 0
  Runs = Goes m functions place lowb highb

  abbrev Held : List Value → Memory → Point → Type 0
  Held = Holds a s low frame

  -- ---- one value

  -- a register is cut and stored
  record Kept (w : ℕ) (rd : Reg) (d : ℕ) (values : List Value) (value : Value) (here : Memory) (p : Point) : Type 0 where
    point : Point
    run : Runs (length (zero_extended w rd) + length (store_value rd d)) p point
    pc : point.machine.regs.pc ≡ p.machine.regs.pc + 4 * (length (zero_extended w rd) + length (store_value rd d))
    holds : Held (slice_set values d value) here point
    control : point.machine.control ≡ store_bytes p.machine.control (low + 32 * d) 8 (p.machine.regs.x (number_of rd) % 2 ^ w)
    others : (j : ℕ) → j ≢ number_of rd → j ≢ 31 → point.machine.regs.x j ≡ p.machine.regs.x j

  keep : (w place' d : ℕ) (values : List Value) (value : Value) (here : Memory) (p : Point) → place' < 8 → 1 ≤ w → w ≤ 64 → 32 * d + 112 ≤ frame → p.machine.regs.x (number_of (argument_reg place')) < 2 ^ 64
      → Is value (p.machine.regs.x (number_of (argument_reg place')) % 2 ^ w) → ((k : ℕ) → value ≡ Some k → k < 2 ^ 64) → Held values here p
      → Stands place p.machine.regs.pc (zero_extended w (argument_reg place') ++ store_value (argument_reg place') d) → Kept w (argument_reg place') d values value here p
  keep w place' d values value here p few one most inside small is fits h st =
      let rd : Reg = argument_reg place' in
      let scratch = scratch-argument place' few in
      let c0 : List Instr = zero_extended w rd in
      let c1 : List Instr = store_value rd d in
      let parts = stands-apart place p.machine.regs.pc c0 c1 st in
      let n : ℕ = p.machine.regs.x (number_of rd) % 2 ^ w in
      let cut = cut-puts m functions place lowb highb w rd p one most scratch.0 small parts.0 in
      let p0 : Point = put p rd n (length c0) in
      let h0 = hold-put a s low frame values here p rd n (length c0) scratch h in
      let number = argument-number place' few in
      let save = store-goes a s low frame m functions room place lowb highb bottom top values here p0 rd d (λ z. let bad : ⊥ = omega (arith, z, number, few) in bad) (omega (arith, inside)) h0 parts.1 in
      let reads : read p0.machine.regs rd ≡ n = read-put m functions place lowb highb p rd n (length c0) scratch.0 in
      let q : Point = save.point in
      let save-pc = save.pc in
      record {
        point = q;
        run = goes-then m functions place lowb highb (length c0) (length c1) p p0 q cut save.run;
        pc = omega (arith, save-pc);
        holds = hold-store a s low frame values here p0 q d (read p0.machine.regs rd) value save.alters inside (λ k e. reads ∙ is k e) fits h0;
        control = save.alters.control ∙ ap (λ (x : ℕ). store_bytes p.machine.control (low + 32 * d) 8 x) reads;
        others = λ j ne last. save.alters.others j last ∙ other-register p.machine.regs.x (number_of rd) j n ne;
      }

  -- ---- an answer

  pub record Answered (gives : Ty) (d : ℕ) (values : List Value) (value : Value) (here : Memory) (p : Point) : Type 0 where
    pub point : Point
    pub run : Runs (length (answer_code gives d)) p point
    pub pc : point.machine.regs.pc ≡ p.machine.regs.pc + 4 * length (answer_code gives d)
    pub holds : Held (cond (is_result gives) (slice_set values d value) values) here point

  answer-kept : (gives : Ty) (d : ℕ) (values : List Value) (value : Value) (here : Memory) (p : Point) → is_result gives ≡ true → answer_code gives d ≡ zero_extended (width gives) A0 ++ store_value A0 d
      → Kept (width gives) A0 d values value here p → Answered gives d values value here p
  answer-kept gives d values value here p result same k =
      let at = k.pc in
      let count : length (zero_extended (width gives) A0) + length (store_value A0 d) ≡ length (answer_code gives d) = (let all = length-append (zero_extended (width gives) A0) (store_value A0 d) in let is = ap length same in omega (arith, all, is)) in
      record {
        point = k.point;
        run = subst (λ (j : ℕ). Runs j p k.point) count k.run;
        pc = omega (arith, at, count);
        holds = subst (λ (vs : List Value). Held vs here k.point) (ap (λ (b : Bool). cond b (slice_set values d value) values) (sym result)) k.holds;
      }

  -- the registers are those that the answer was given in
  pub answer-goes : (gives : Ty) (d : ℕ) (values : List Value) (value : Value) (here : Memory) (p : Point) (t : Registers) → IsResultType gives → (is_result gives ≡ true → 32 * d + 112 ≤ frame) → t.x 10 < 2 ^ 64 → p.machine.regs.x 10 ≡ t.x 10
      → RefinesResult (result_width gives) value t → FitsResult (result_width gives) value → Held values here p → Stands place p.machine.regs.pc (answer_code gives d) → Answered gives d values value here p
  answer-goes Void d values value here p t is inside small same refines fits h st =
      record { point = p; run = goes-none m functions place lowb highb p; pc = omega arith; holds = h }
  answer-goes (Int w) d values value here p t is inside small same refines fits h st =
      answer-kept (Int w) d values value here p refl refl
      (keep w 0 d values value here p (omega arith) is.0 is.1 (inside refl) (omega (arith, same, small)) (λ k e. ap (λ (x : ℕ). x % 2 ^ w) same ∙ value-is w (t.x 10) value refines k e) (value-small w value is.1 fits) h st)
  answer-goes Ptr d values value here p t is inside small same refines fits h st =
      answer-kept Ptr d values value here p refl refl
      (keep 64 0 d values value here p (omega arith) (omega arith) (omega arith) (inside refl) (omega (arith, same, small)) (λ k e. ap (λ (x : ℕ). x % 2 ^ 64) same ∙ value-is 64 (t.x 10) value refines k e) (value-small 64 value (omega arith) fits) h st)

  -- ---- arguments

  module _ (regs : IsRegs s.regs) (here : Memory) (args : List Value) where
    -- the first arguments stand in their slots, and the others in their registers
    pub record Begun (start : ℕ) (p : Point) : Type 0 where
      pub holds : Held [] here p
      pub slots : (i v : ℕ) → i < start → slice_get args i ≡ Some (Some v) → load_bytes p.machine.control (low + 32 * i) 8 ≡ v
      pub registers : (j : ℕ) → 10 + start ≤ j → j < 18 → p.machine.regs.x j ≡ s.regs.x j

    pub record AllBegun (start : ℕ) (tys : List Ty) (p : Point) : Type 0 where
      pub point : Point
      pub run : Runs (length (arguments_code start tys)) p point
      pub pc : point.machine.regs.pc ≡ p.machine.regs.pc + 4 * length (arguments_code start tys)
      pub begun : Begun (start + length tys) point

    -- the registers of arguments from one on hold them
    abbrev pub AreGiven : ℕ → List Ty → Type 0
    AreGiven start [] = Unit {0}
    AreGiven start (ty ∷ tys) = IsValueType ty × ((v : ℕ) → slice_get args start ≡ Some (Some v) → s.regs.x (10 + start) % 2 ^ width ty ≡ v) × AreGiven (start + 1) tys

    -- an entry gives them
    pub are-given : (start : ℕ) (tys : List Ty) (vs : List Value) (rs : List Reg) (f : ℕ → ℕ) → Reads rs f s.regs → RefinesArgs (map width tys) vs rs s.regs → length tys ≤ length rs → AreArgs (map width tys) vs
        → ((k : ℕ) (ty : Ty) → slice_get tys k ≡ Some ty → IsValueType ty) → ((k : ℕ) → f k ≡ s.regs.x (10 + (start + k)))
        → ((k v : ℕ) → slice_get args (start + k) ≡ Some (Some v) → slice_get vs k ≡ Some (Some v)) → AreGiven start tys
    are-given start [] vs rs f reads refines few fit types same among = tt
    are-given start (ty ∷ tys) [] rs f reads refines few fit types same among = absurd fit
    are-given start (ty ∷ tys) (v ∷ vs) [] f reads refines few fit types same among = absurd (let bad : ⊥ = omega (arith, few) in bad)
    are-given start (ty ∷ tys) (v ∷ vs) (r ∷ rs) f reads refines few fit types same among = (
      types 0 ty refl,
      λ u e.
          let here : v ≡ Some u = first v u (among 0 u (ap (slice_get args) (let z : start + 0 ≡ start = omega arith in z) ∙ e)) in
          let at : s.regs.x (10 + start) ≡ read s.regs r = ap s.regs.x (let z : 10 + start ≡ 10 + (start + 0) = omega arith in z) ∙ sym (same 0) ∙ sym reads.0 in
          ap (λ (x : ℕ). x % 2 ^ width ty) at ∙ value-is (width ty) (read s.regs r) v refines.0 u here,
      are-given (start + 1) tys vs rs (λ i. f (suc i)) reads.1 refines.1 (omega (arith, few)) fit.1 (λ k t e. types (suc k) t e)
          (λ k. same (suc k) ∙ ap s.regs.x (let z : 10 + (start + suc k) ≡ 10 + (start + 1 + k) = omega arith in z))
          (λ k u e. among (suc k) u (ap (slice_get args) (let z : start + suc k ≡ start + 1 + k = omega arith in z) ∙ e)),
    )
      where
        first : (v : Value) (u : ℕ) → Some v ≡ Some (Some u) → v ≡ Some u
        first v u e = let same : v ≡ Some u = cc in same

    pub arguments-go : (start : ℕ) (tys : List Ty) (p : Point) → start + length tys ≤ 8 → 32 * (start + length tys) + 128 ≤ frame → AreGiven start tys → Begun start p
        → Stands place p.machine.regs.pc (arguments_code start tys) → AllBegun start tys p
    arguments-go start [] p few inside given b st = record {
      point = p;
      run = goes-none m functions place lowb highb p;
      pc = omega arith;
      begun = subst (λ (k : ℕ). Begun k p) (let e : start ≡ start + 0 = omega arith in e) b;
    }
    arguments-go start (ty ∷ tys) p few inside given b st =
        let w = width ty in
        let rd : Reg = argument_reg start in
        let number = argument-number start (omega (arith, few)) in
        let c0 : List Instr = zero_extended w rd in
        let c1 : List Instr = arguments_code (start + 1) tys in
        let apart = stands-apart place p.machine.regs.pc (c0 ++ store_value rd start) c1 (subst (Stands place p.machine.regs.pc) (sym (append_assoc c0 (store_value rd start) c1)) st) in
        let x : ℕ = p.machine.regs.x (number_of rd) in
        let bound = regs (10 + start) in
        let is-x : x ≡ s.regs.x (10 + start) = ap p.machine.regs.x number ∙ b.registers (10 + start) (omega arith) (omega (arith, few)) in
        let k = keep w start start [] None here p (omega (arith, few)) (width-some ty given.0) (width-small ty given.0) (omega (arith, inside)) (omega (arith, is-x, bound)) (λ j e. absurd (let bad : ⊥ = cc in bad)) (λ j e. absurd (let bad : ⊥ = cc in bad)) b.holds apart.0 in
        let at = k.pc in
        let len0 = length-append c0 (store_value rd start) in
        let len1 = length-append c0 (store_value rd start ++ c1) in
        let len2 = length-append (store_value rd start) c1 in
        let pc1 : p.machine.regs.pc + 4 * length (c0 ++ store_value rd start) ≡ k.point.machine.regs.pc = omega (arith, at, len0) in
        let kept : (i v : ℕ) → i < start + 1 → slice_get args i ≡ Some (Some v) → load_bytes k.point.machine.control (low + 32 * i) 8 ≡ v =
        λ i v lt e. ap (λ (c : ℕ → ℕ). load_bytes c (low + 32 * i) 8) k.control ∙ in-slot p start (x % 2 ^ w) i v (order i start (omega (arith, lt))) (λ u f. ap (λ (z : ℕ). z % 2 ^ w) is-x ∙ given.1 u f) (low-bits x w (width-small ty given.0)) b.slots e in
        let next : Begun (start + 1) k.point = record {
          holds = k.holds;
          slots = kept;
          registers = λ j le less. k.others j (λ z. let bad : ⊥ = omega (arith, z, number, le) in bad) (λ z. let bad : ⊥ = omega (arith, z, less) in bad) ∙ b.registers j (omega (arith, le)) less;
        } in
        let rest = arguments-go (start + 1) tys k.point (omega (arith, few)) (omega (arith, inside)) given.2 next (subst (λ (pc : ℕ). Stands place pc c1) pc1 apart.1) in
        let rest-pc = rest.pc in
        record {
          point = rest.point;
          run = subst (λ (j : ℕ). Runs j p rest.point) (let e : length c0 + length (store_value rd start) + length c1 ≡ length (c0 ++ (store_value rd start ++ c1)) = omega (arith, len1, len2) in e)
              (goes-then m functions place lowb highb (length c0 + length (store_value rd start)) (length c1) p k.point rest.point k.run rest.run);
          pc = omega (arith, rest-pc, at, len1, len2);
          begun = subst (λ (j : ℕ). Begun j rest.point) (let e : start + 1 + length tys ≡ start + suc (length tys) = omega arith in e) rest.begun;
        }
      where
        low-bits : (x w : ℕ) → w ≤ 64 → x % 2 ^ w < 2 ^ 64
        low-bits x w most = let p = pow_pos w in let wide : 2 ^ w ≤ 2 ^ 64 = pow_mono most in omega (arith, p, wide)

        order : (i start : ℕ) → i ≤ start → (i < start) ⊎ (i ≡ start)
        order zero zero h = inr refl
        order zero (suc start) h = inl (omega arith)
        order (suc i) zero h = absurd (omega arith)
        order (suc i) (suc start) h = up (order i start (omega arith))
          where
            up : (i < start) ⊎ (i ≡ start) → (suc i < suc start) ⊎ (suc i ≡ suc start)
            up (inl k) = inl (omega arith)
            up (inr k) = inr (ap suc k)

        in-slot : (p : Point) (start n i v : ℕ) → (i < start) ⊎ (i ≡ start) → ((u : ℕ) → slice_get args start ≡ Some (Some u) → n ≡ u) → n < 2 ^ 64
            → ((j u : ℕ) → j < start → slice_get args j ≡ Some (Some u) → load_bytes p.machine.control (low + 32 * j) 8 ≡ u) → slice_get args i ≡ Some (Some v)
            → load_bytes (store_bytes p.machine.control (low + 32 * start) 8 n) (low + 32 * i) 8 ≡ v
        in-slot p start n i v (inl lt) is small before e = load_outside p.machine.control (low + 32 * start) 8 n (low + 32 * i) 8 (inl (omega (arith, lt))) ∙ before i v lt e
        in-slot p start n i v (inr same) is small before e =
            ap (λ (j : ℕ). load_bytes (store_bytes p.machine.control (low + 32 * start) 8 n) (low + 32 * j) 8) same
            ∙ load_stored p.machine.control (low + 32 * start) 8 n
            ∙ (let z = is v (ap (slice_get args) (sym same) ∙ e) in omega (arith, z, small))
