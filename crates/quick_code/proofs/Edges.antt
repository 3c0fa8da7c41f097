-- The code of an edge gives the phis of its block their values, all at once.
use Rattle.std.proofs.Common.{◌≡◌, ◌≢◌, refl, sym, ap, subst, ◌∙◌, ℕ, ◌+◌, ◌-◌, ◌*◌, ◌%◌, ◌^◌, ◌<◌, ◌≤◌, ◌⊎◌, inl, inr, List, [], ◌∷◌, ◌++◌, length, Some, None, Bool, true, cond, arith}
use Rattle.std.specs.Prelude.{slice_set, sum_by}
use Rattle.std.proofs.lemmas.Bool.{cases_lt}
use Rattle.std.proofs.lemmas.List.{length-append}
use Rattle.std.proofs.lemmas.List.Sums.{sum_by-cons}
use Rattle.ir_core.specs.declared.code.Operand.{Operand}
use Rattle.ir_core.specs.declared.code.Operand.TheVariants.{Value as Local, Num, Null, Place as PlaceOf, Poison}
use Rattle.ir_core.specs.declared.code.Op.{Op}
use Rattle.ir_core.specs.declared.code.Op.TheVariants.{Binary, Icmp, Cast, Select, Freeze, Phi, Alloca, Load as LoadOf, Store as StoreOf, Gep, Call, BuiltIn as CallBuiltIn, Ret, Br, CondBr, Switch, Unreachable}
use Rattle.ir_core.specs.declared.code.Inst.{Inst}
use Rattle.ir_core.specs.declared.program.Function.{Function}
use Rattle.ir_core.specs.declared.program.Global.{Global}
use Rattle.ir_core.specs.Units.{has_result, units}
use Rattle.rv_core.specs.Reg.{number_of}
use Rattle.rv_core.specs.declared.reg.Reg.{Reg}
use Rattle.rv_core.specs.declared.reg.Reg.TheVariants.{T0}
use Rattle.rv_core.specs.declared.instr.Instr.{Instr}
use Rattle.rv_core.specs.Bytes.{load_bytes}
use Rattle.rv_core.proofs.Bytes.{load_stored, load_outside, store_outside}
use Rattle.ir_meaning.specs.Value.{Value}
use Rattle.ir_meaning.specs.Memory.{Memory}
use Rattle.ir_meaning.specs.Step.{Program, operand, number_at, on_edge, phi_value, with_phis, with_result}
use Rattle.ir_meaning.specs.Plays.{Meaning, Invocation}
use Rattle.rv_play.specs.Machine.{Machine, code_base, code_limit, control_base, control_end}
use Rattle.rv_play.specs.CodePlay.{Place, Point}
use Rattle.rv_play.specs.Good.{RefinesMemory}
use Rattle.rv_play.proofs.Lines.{Stands, stands-apart, Goes, goes-then, goes-none}
use Rattle.quick_code.specs.Operations.{IsSlotOperand, value_code}
use Rattle.code_pieces.specs.Code.{store_value}
use Rattle.quick_code.specs.Blocks.{load_next, store_next, next_code, next_of, nexts_code, phis_code}
use Rattle.code_pieces.specs.Labels.{Hops}
use Rattle.code_pieces.proofs.Const.{put}
use Rattle.code_pieces.proofs.Slots.{Alters, Saves, loads-at, saves-at, load-short, store-short}
use Rattle.code_pieces.proofs.Frame.{Is, Holds, IsScratch, scratch-t0, saved_regs, keeps-then, keeps-others, hold-put, hold-store, store-goes}
use Rattle.quick_code.proofs.Operations.{value-short, value-brings}

-- what a phi takes from a block
abbrev pub IsPhiOperand : ℕ → ℕ → Op → Type 0
IsPhiOperand n from (Phi pairs) = IsSlotOperand n (on_edge from pairs)
IsPhiOperand n from _ = Unit {0}

-- ---- lengths

next-sum : (globals : List Global) (d : ℕ) (o : Operand) → length (value_code globals T0 o ++ store_next T0 d) ≤ 11
next-sum globals d o =
    let one = length-append (value_code globals T0 o) (store_next T0 d) in
    let load = value-short globals T0 o in
    let save = store-short T0 (32 * d + 16) in
    omega (arith, one, load, save)

pub next-short : (globals : List Global) (d : ℕ) (o : Operand) → length (next_code globals d o) ≤ 11
next-short globals d (Local i) = next-sum globals d (Local i)
next-short globals d (Num k) = next-sum globals d (Num k)
next-short globals d Null = next-sum globals d Null
next-short globals d (PlaceOf g i) = next-sum globals d (PlaceOf g i)
next-short globals d Poison = omega arith

next-of-short : (globals : List Global) (d from : ℕ) (op : Op) → length (next_of globals d from op) ≤ 11
next-of-short globals d from (Phi pairs) = next-short globals d (on_edge from pairs)
next-of-short globals d from (Binary op flags a b) = omega arith
next-of-short globals d from (Icmp pred flags ty a b) = omega arith
next-of-short globals d from (Cast op flags ty a) = omega arith
next-of-short globals d from (Select c a b) = omega arith
next-of-short globals d from (Freeze a) = omega arith
next-of-short globals d from (Alloca ty count) = omega arith
next-of-short globals d from (LoadOf a) = omega arith
next-of-short globals d from (StoreOf ty a b) = omega arith
next-of-short globals d from (Gep ty a indices) = omega arith
next-of-short globals d from (Call g arguments) = omega arith
next-of-short globals d from (CallBuiltIn which arguments) = omega arith
next-of-short globals d from (Ret a) = omega arith
next-of-short globals d from (Br to) = omega arith
next-of-short globals d from (CondBr c x y) = omega arith
next-of-short globals d from (Switch ty a otherwise cases) = omega arith
next-of-short globals d from Unreachable = omega arith

pub phis-length : (function : Function) (to at : ℕ) (insts : List Inst) → length (phis_code function to at insts) ≤ 6 * length insts
phis-length function to at [] = omega arith
phis-length function to at (inst ∷ insts) =
    let d = number_at function to at in
    let rest = phis-length function to (at + 1) insts in
    let first = load-short T0 (32 * d + 16) in
    let second = store-short T0 (32 * d) in
    let one = length-append (load_next T0 d) (store_value T0 d ++ phis_code function to (at + 1) insts) in
    let two = length-append (store_value T0 d) (phis_code function to (at + 1) insts) in
    omega (arith, rest, first, second, one, two)

pub units-some : (inst : Inst) → 1 ≤ units inst
units-some inst = omega arith

pub units-many : (insts : List Inst) → length insts ≤ sum_by units insts
units-many [] = omega arith
units-many (inst ∷ insts) = let rest = units-many insts in let one = sum_by-cons units inst insts in omega (arith, rest, one)

-- ---- where next values stand

module _ (program : Program) (function : Function) (a : Invocation) (s : Machine) (low frame n : ℕ) (m : Meaning) (functions : m.functions ≤ 1024) (room : m.room ≤ 67108864) (place : Place) (lowb : code_base + 4 ≤ place.base) (highb : place.base + 4 * length place.words ≤ code_limit)
    (bottom : control_base ≤ low) (top : low + frame ≤ control_end) (is-frame : frame ≡ 128 + 32 * n) where
  abbrev Runs : ℕ → Point → Point → Type 0
  Runs = Goes m functions place lowb highb

  abbrev Held : List Value → Memory → Point → Type 0
  Held = Holds a s low frame

  abbrev globals : List Global
  globals = program.module_.globals

  -- where code has come to, with these values
  pub record Through (code : List Instr) (values : List Value) (here : Memory) (p : Point) : Type 0 where
    pub point : Point
    pub run : Runs (length code) p point
    pub pc : point.machine.regs.pc ≡ p.machine.regs.pc + 4 * length code
    pub holds : Held values here point

  abbrev pub next-at : Point → ℕ → ℕ
  next-at p d = load_bytes p.machine.control (low + (32 * d + 16)) 8

  -- a slot and a next value are apart
  slot-next : (i d : ℕ) → (low + (32 * d + 16) + 8 ≤ low + 32 * i) ⊎ (low + 32 * i + 8 ≤ low + (32 * d + 16))
  slot-next i d = by_order (cases_lt d i)
    where
      by_order : (d < i) ⊎ (i ≤ d) → (low + (32 * d + 16) + 8 ≤ low + 32 * i) ⊎ (low + 32 * i + 8 ≤ low + (32 * d + 16))
      by_order (inl lt) = inl (omega arith)
      by_order (inr le) = inr (omega arith)

  next-slot : (i d : ℕ) → (low + 32 * d + 8 ≤ low + (32 * i + 16)) ⊎ (low + (32 * i + 16) + 8 ≤ low + 32 * d)
  next-slot i d = by_order (cases_lt i d)
    where
      by_order : (i < d) ⊎ (d ≤ i) → (low + 32 * d + 8 ≤ low + (32 * i + 16)) ⊎ (low + (32 * i + 16) + 8 ≤ low + 32 * d)
      by_order (inl lt) = inr (omega arith)
      by_order (inr le) = inl (omega arith)

  nexts-apart : (i d : ℕ) → i ≢ d → (low + (32 * i + 16) + 8 ≤ low + (32 * d + 16)) ⊎ (low + (32 * d + 16) + 8 ≤ low + (32 * i + 16))
  nexts-apart i d ne = by_order (cases_lt i d)
    where
      by_order : (i < d) ⊎ (d ≤ i) → (low + (32 * i + 16) + 8 ≤ low + (32 * d + 16)) ⊎ (low + (32 * d + 16) + 8 ≤ low + (32 * i + 16))
      by_order (inl lt) = inl (omega arith)
      by_order (inr le) = inr (let lt : d < i = omega (arith, ne) in omega arith)

  hold-next : (values : List Value) (here : Memory) (p q : Point) (d v : ℕ) → Alters p q (low + (32 * d + 16)) v → d < n → Held values here p → Held values here q
  hold-next values here p q d v alters inside h = record {
    sp = alters.others 2 (λ z. omega (arith, z)) ∙ h.sp;
    slots = λ i x e. ap (λ (c : ℕ → ℕ). load_bytes c (low + 32 * i) 8) alters.control ∙ load_outside p.machine.control (low + (32 * d + 16)) 8 v (low + 32 * i) 8 (swap i (slot-next i d)) ∙ h.slots i x e;
    ra = ap (λ (c : ℕ → ℕ). load_bytes c (low + (frame - 8)) 8) alters.control ∙ load_outside p.machine.control (low + (32 * d + 16)) 8 v (low + (frame - 8)) 8 (inr (omega (arith, inside, is-frame))) ∙ h.ra;
    aside = ap (λ (c : ℕ → ℕ). load_bytes c (low + (frame - 104)) 8) alters.control ∙ load_outside p.machine.control (low + (32 * d + 16)) 8 v (low + (frame - 104)) 8 (inr (omega (arith, inside, is-frame))) ∙ h.aside;
    data_top = alters.others 27 (λ z. omega (arith, z)) ∙ h.data_top;
    saved = keeps-then saved_regs s.regs p.machine.regs q.machine.regs h.saved (keeps-others p.machine.regs q.machine.regs alters.others);
    kept = λ x le. ap (λ (c : ℕ → ℕ). c x) alters.control ∙ store_outside p.machine.control (low + (32 * d + 16)) 8 v x (inr (omega (arith, inside, is-frame, le))) ∙ h.kept x le;
    memory' = subst (λ (b : ℕ → ℕ). RefinesMemory here b) (sym alters.bytes) h.memory';
    counted = alters.counted ∙ h.counted;
  }
    where
      swap : (i : ℕ) → (low + (32 * d + 16) + 8 ≤ low + 32 * i) ⊎ (low + 32 * i + 8 ≤ low + (32 * d + 16)) → (low + 32 * i + 8 ≤ low + (32 * d + 16)) ⊎ (low + (32 * d + 16) + 8 ≤ low + 32 * i)
      swap i (inl h) = inr h
      swap i (inr h) = inl h

  -- a register is stored as a next value
  next-goes : (values : List Value) (here : Memory) (p : Point) (rs : Reg) (d : ℕ) → number_of rs ≢ 31 → d < n → Held values here p → Stands place p.machine.regs.pc (store_next rs d)
      → Saves m functions room place lowb highb low frame bottom top rs (32 * d + 16) p
  next-goes values here p rs d other inside h st = saves-at m functions room place lowb highb low frame bottom top p rs (32 * d + 16) other h.sp (omega (arith, inside, is-frame)) st

  -- a next value is loaded
  load-next-goes : (values : List Value) (here : Memory) (p : Point) (rd : Reg) (d : ℕ) → IsScratch rd → d < n → Held values here p → Stands place p.machine.regs.pc (load_next rd d)
      → Runs (length (load_next rd d)) p (put p rd (next-at p d) (length (load_next rd d)))
  load-next-goes values here p rd d scratch inside h st =
      loads-at m functions room place lowb highb low frame bottom top p rd (32 * d + 16) scratch.0 (λ x v. (scratch.1 (record { x = x; pc = 0 }) v 0).0) h.sp (omega (arith, inside, is-frame)) st

  -- ---- the next values of an edge

  -- one next value is stored, and no other changes
  record Stored (code : List Instr) (d : ℕ) (value : Value) (values : List Value) (here : Memory) (p : Point) : Type 0 where
    point : Point
    run : Runs (length code) p point
    pc : point.machine.regs.pc ≡ p.machine.regs.pc + 4 * length code
    holds : Held values here point
    next : Is value (next-at point d)
    others : (e : ℕ) → e ≢ d → next-at point e ≡ next-at p e

  below-is : (value : Value) (v x : ℕ) → Is value v → ((k : ℕ) → value ≡ Some k → k < 2 ^ 64) → x ≡ v % 2 ^ 64 → Is value x
  below-is value v x is fits e = λ k h. let same = is k h in let lt = fits k h in omega (arith, same, lt, e)

  next-loaded : (o : Operand) (d : ℕ) (values : List Value) (here : Memory) (p : Point) → IsSlotOperand n o → d < n → ((k : ℕ) → operand program values o ≡ Some k → k < 2 ^ 64) → Held values here p
      → Stands place p.machine.regs.pc (value_code globals T0 o ++ store_next T0 d) → Stored (value_code globals T0 o ++ store_next T0 d) d (operand program values o) values here p
  next-loaded o d values here p small inside fits h st =
      let c0 : List Instr = value_code globals T0 o in
      let c1 : List Instr = store_next T0 d in
      let parts = stands-apart place p.machine.regs.pc c0 c1 st in
      let l0 = value-brings program a s low frame n m functions room place lowb highb bottom top is-frame values here p T0 o scratch-t0 small h parts.0 in
      let p0 : Point = l0.point in
      let pc0 = l0.pc in
      let x : ℕ = p0.machine.regs.x 5 in
      let save = next-goes values here p0 T0 d (λ z. omega (arith, z)) inside l0.holds (subst (λ (pc : ℕ). Stands place pc c1) (sym pc0) parts.1) in
      let q : Point = save.point in
      let pc1 = save.pc in
      let len = length-append c0 c1 in
      record {
        point = q;
        run = subst (λ (k : ℕ). Runs k p q) (sym len) (goes-then m functions place lowb highb (length c0) (length c1) p p0 q l0.run save.run);
        pc = omega (arith, len, pc0, pc1);
        holds = hold-next values here p0 q d x save.alters inside l0.holds;
        next = below-is (operand program values o) x (next-at q d) l0.is fits (ap (λ (c : ℕ → ℕ). load_bytes c (low + (32 * d + 16)) 8) save.alters.control ∙ load_stored p0.machine.control (low + (32 * d + 16)) 8 x);
        others = λ e ne.
            ap (λ (c : ℕ → ℕ). load_bytes c (low + (32 * e + 16)) 8) save.alters.control
            ∙ load_outside p0.machine.control (low + (32 * d + 16)) 8 x (low + (32 * e + 16)) 8 (nexts-apart e d ne)
            ∙ ap (λ (c : ℕ → ℕ). load_bytes c (low + (32 * e + 16)) 8) l0.control;
      }

  nothing-stored : (d : ℕ) (values : List Value) (here : Memory) (p : Point) → Held values here p → Stored [] d None values here p
  nothing-stored d values here p h = record {
    point = p;
    run = goes-none m functions place lowb highb p;
    pc = omega arith;
    holds = h;
    next = λ k e. absurd (let bad : ⊥ = cc in bad);
    others = λ e ne. refl;
  }

  next-stored : (o : Operand) (d : ℕ) (values : List Value) (here : Memory) (p : Point) → IsSlotOperand n o → d < n → ((k : ℕ) → operand program values o ≡ Some k → k < 2 ^ 64) → Held values here p
      → Stands place p.machine.regs.pc (next_code globals d o) → Stored (next_code globals d o) d (operand program values o) values here p
  next-stored (Local i) d values here p small inside fits h st = next-loaded (Local i) d values here p small inside fits h st
  next-stored (Num k) d values here p small inside fits h st = next-loaded (Num k) d values here p small inside fits h st
  next-stored Null d values here p small inside fits h st = next-loaded Null d values here p small inside fits h st
  next-stored (PlaceOf g o) d values here p small inside fits h st = next-loaded (PlaceOf g o) d values here p small inside fits h st
  next-stored Poison d values here p small inside fits h st = nothing-stored d values here p h

  op-stored : (op : Op) (from d : ℕ) (values : List Value) (here : Memory) (p : Point) → IsPhiOperand n from op → d < n → ((k : ℕ) → phi_value program values from op ≡ Some k → k < 2 ^ 64) → Held values here p
      → Stands place p.machine.regs.pc (next_of globals d from op) → Stored (next_of globals d from op) d (phi_value program values from op) values here p
  op-stored (Phi pairs) from d values here p small inside fits h st = next-stored (on_edge from pairs) d values here p small inside fits h st
  op-stored (Binary op flags x y) from d values here p small inside fits h st = nothing-stored d values here p h
  op-stored (Icmp pred flags ty x y) from d values here p small inside fits h st = nothing-stored d values here p h
  op-stored (Cast op flags ty x) from d values here p small inside fits h st = nothing-stored d values here p h
  op-stored (Select c x y) from d values here p small inside fits h st = nothing-stored d values here p h
  op-stored (Freeze x) from d values here p small inside fits h st = nothing-stored d values here p h
  op-stored (Alloca ty count) from d values here p small inside fits h st = nothing-stored d values here p h
  op-stored (LoadOf x) from d values here p small inside fits h st = nothing-stored d values here p h
  op-stored (StoreOf ty x y) from d values here p small inside fits h st = nothing-stored d values here p h
  op-stored (Gep ty x indices) from d values here p small inside fits h st = nothing-stored d values here p h
  op-stored (Call g arguments) from d values here p small inside fits h st = nothing-stored d values here p h
  op-stored (CallBuiltIn which arguments) from d values here p small inside fits h st = nothing-stored d values here p h
  op-stored (Ret x) from d values here p small inside fits h st = nothing-stored d values here p h
  op-stored (Br to) from d values here p small inside fits h st = nothing-stored d values here p h
  op-stored (CondBr c x y) from d values here p small inside fits h st = nothing-stored d values here p h
  op-stored (Switch ty x otherwise cases) from d values here p small inside fits h st = nothing-stored d values here p h
  op-stored Unreachable from d values here p small inside fits h st = nothing-stored d values here p h

  module _ (from to : ℕ) where
    -- the phis of the block from a place on: their numbers follow one another, and each operand and value fits
    abbrev pub AreReady : List Value → ℕ → List Inst → Type 0
    AreReady values at [] = Unit {0}
    AreReady values at (inst ∷ insts) =
        (number_at function to at < n) × (number_at function to (at + 1) ≡ number_at function to at + 1) × (has_result inst ≡ true) × IsPhiOperand n from inst.op
        × ((k : ℕ) → phi_value program values from inst.op ≡ Some k → k < 2 ^ 64) × AreReady values (at + 1) insts

    -- their next values stand
    abbrev pub AreNext : List Value → ℕ → List Inst → Point → Type 0
    AreNext values at [] p = Unit {0}
    AreNext values at (inst ∷ insts) p = Is (phi_value program values from inst.op) (next-at p (number_at function to at)) × AreNext values (at + 1) insts p

    pub record Nexts (values : List Value) (here : Memory) (p : Point) (at : ℕ) (insts : List Inst) : Type 0 where
      pub point : Point
      pub run : Runs (length (nexts_code globals function from to at insts)) p point
      pub pc : point.machine.regs.pc ≡ p.machine.regs.pc + 4 * length (nexts_code globals function from to at insts)
      pub short : length (nexts_code globals function from to at insts) ≤ 11 * length insts
      pub holds : Held values here point
      pub next : AreNext values at insts point
      pub lower : (e : ℕ) → e < number_at function to at → next-at point e ≡ next-at p e

    pub nexts-go : (values : List Value) (here : Memory) (insts : List Inst) (p : Point) (at : ℕ) → AreReady values at insts → Held values here p → Stands place p.machine.regs.pc (nexts_code globals function from to at insts)
        → Nexts values here p at insts
    nexts-go values here [] p at ready h st = record {
      point = p;
      run = goes-none m functions place lowb highb p;
      pc = omega arith;
      short = omega arith;
      holds = h;
      next = tt;
      lower = λ e lt. refl;
    }
    nexts-go values here (inst ∷ insts) p at ready h st =
        let d = number_at function to at in
        let c0 = next_of globals d from inst.op in
        let c1 = nexts_code globals function from to (at + 1) insts in
        let parts = stands-apart place p.machine.regs.pc c0 c1 st in
        let one = op-stored inst.op from d values here p ready.3 ready.0 ready.4 h parts.0 in
        let rest = nexts-go values here insts one.point (at + 1) ready.5 one.holds (subst (λ (q : ℕ). Stands place q c1) (sym one.pc) parts.1) in
        let len = length-append c0 c1 in
        let few = next-of-short globals d from inst.op in
        let more = rest.short in
        let here' = one.pc in let there' = rest.pc in
        let follows = ready.1 in
        record {
          point = rest.point;
          run = subst (λ (k : ℕ). Runs k p rest.point) (sym len) (goes-then m functions place lowb highb (length c0) (length c1) p one.point rest.point one.run rest.run);
          pc = omega (arith, here', there', len);
          short = omega (arith, few, more, len);
          holds = rest.holds;
          next = (λ k e. rest.lower d (omega (arith, follows)) ∙ one.next k e, rest.next);
          lower = λ e lt. rest.lower e (omega (arith, follows, lt)) ∙ one.others e (λ z. let bad : ⊥ = omega (arith, z, lt) in bad);
        }

    -- next values depend on their words alone
    next-alike : (values : List Value) (insts : List Inst) (at : ℕ) (p q : Point) → ((e : ℕ) → next-at q e ≡ next-at p e) → AreNext values at insts p → AreNext values at insts q
    next-alike values [] at p q same h = tt
    next-alike values (inst ∷ insts) at p q same h = (λ k e. same (number_at function to at) ∙ h.0 k e, next-alike values insts (at + 1) p q same h.1)

    set-result : (at : ℕ) (inst : Inst) (v : Value) (values : List Value) → has_result inst ≡ true → with_result function to at inst v values ≡ slice_set values (number_at function to at) v
    set-result at inst v values e = ap (λ (b : Bool). cond b (slice_set values (number_at function to at) v) values) e

    pub phis-go : (before : List Value) (here : Memory) (insts : List Inst) (values : List Value) (p : Point) (at : ℕ) → AreReady before at insts → AreNext before at insts p → Held values here p
        → Stands place p.machine.regs.pc (phis_code function to at insts)
        → Through (phis_code function to at insts) (with_phis program function from before to at insts values) here p
    phis-go before here [] values p at ready next h st = record {
      point = p;
      run = goes-none m functions place lowb highb p;
      pc = omega arith;
      holds = h;
    }
    phis-go before here (inst ∷ insts) values p at ready next h st =
        let d = number_at function to at in
        let inside = ready.0 in
        let v = phi_value program before from inst.op in
        let x = next-at p d in
        let c0 : List Instr = load_next T0 d in
        let c1 : List Instr = store_value T0 d in
        let c2 : List Instr = phis_code function to (at + 1) insts in
        let parts = stands-apart place p.machine.regs.pc c0 (c1 ++ c2) st in
        let run0 = load-next-goes values here p T0 d scratch-t0 ready.0 h parts.0 in
        let p0 : Point = put p T0 x (length c0) in
        let h0 = hold-put a s low frame values here p T0 x (length c0) scratch-t0 h in
        let parts1 = stands-apart place p0.machine.regs.pc c1 c2 parts.1 in
        let save = store-goes a s low frame m functions room place lowb highb bottom top values here p0 T0 d (λ z. omega (arith, z)) (omega (arith, is-frame, inside)) h0 parts1.0 in
        let p1 : Point = save.point in
        let at1 = save.pc in
        let h1 = hold-store a s low frame values here p0 p1 d x v save.alters (omega (arith, is-frame, inside)) next.0 ready.4 h0 in
        let h1' = subst (λ (vs : List Value). Held vs here p1) (sym (set-result at inst v values ready.2)) h1 in
        let alike = next-alike before insts (at + 1) p p1
        (λ e. ap (λ (c : ℕ → ℕ). load_bytes c (low + (32 * e + 16)) 8) save.alters.control ∙ load_outside p.machine.control (low + 32 * d) 8 x (low + (32 * e + 16)) 8 (back e d (next-slot e d))) next.1 in
        let rest = phis-go before here insts (with_result function to at inst v values) p1 (at + 1) ready.5 alike h1' (subst (λ (pc : ℕ). Stands place pc c2) (sym at1) parts1.1) in
        let there' = rest.pc in
        let len0 = length-append c0 (c1 ++ c2) in
        let len1 = length-append c1 c2 in
        record {
          point = rest.point;
          run = subst (λ (k : ℕ). Runs k p rest.point) (let e : length c0 + (length c1 + length c2) ≡ length (c0 ++ (c1 ++ c2)) = omega (arith, len0, len1) in e)
              (goes-then m functions place lowb highb (length c0) (length c1 + length c2) p p0 rest.point run0 (goes-then m functions place lowb highb (length c1) (length c2) p0 p1 rest.point save.run rest.run));
          pc = omega (arith, there', at1, len0, len1);
          holds = rest.holds;
        }
      where
        back : (e d : ℕ) → (low + 32 * d + 8 ≤ low + (32 * e + 16)) ⊎ (low + (32 * e + 16) + 8 ≤ low + 32 * d) → (low + (32 * e + 16) + 8 ≤ low + 32 * d) ⊎ (low + 32 * d + 8 ≤ low + (32 * e + 16))
        back e d (inl h) = inr h
        back e d (inr h) = inl h

  -- ---- a jump

  -- a jump changes nothing in the frame
  pub hold-hopped : (least : ℕ) (values : List Value) (here : Memory) (p : Point) (to : ℕ) → Held values here p → (h : Hops m place least p to) → Held values here h.point
  hold-hopped least values here p to h hop = record {
    sp = hop.others 2 (λ z. omega (arith, z)) ∙ h.sp;
    slots = λ i v e. ap (λ (c : ℕ → ℕ). load_bytes c (low + 32 * i) 8) hop.control ∙ h.slots i v e;
    ra = ap (λ (c : ℕ → ℕ). load_bytes c (low + (frame - 8)) 8) hop.control ∙ h.ra;
    aside = ap (λ (c : ℕ → ℕ). load_bytes c (low + (frame - 104)) 8) hop.control ∙ h.aside;
    data_top = hop.others 27 (λ z. omega (arith, z)) ∙ h.data_top;
    saved = keeps-then saved_regs s.regs p.machine.regs hop.point.machine.regs h.saved (keeps-others p.machine.regs hop.point.machine.regs hop.others);
    kept = λ x le. ap (λ (c : ℕ → ℕ). c x) hop.control ∙ h.kept x le;
    memory' = subst (λ (b : ℕ → ℕ). RefinesMemory here b) (sym hop.bytes) h.memory';
    counted = hop.counted ∙ h.counted;
  }

  -- the next values stand behind a jump
  pub next-hopped : (least from to : ℕ) (values : List Value) (insts : List Inst) (at : ℕ) (p : Point) (target : ℕ) (h : Hops m place least p target) → AreNext from to values at insts p → AreNext from to values at insts h.point
  next-hopped least from to values insts at p target h next = next-alike from to values insts at p h.point (λ e. ap (λ (c : ℕ → ℕ). load_bytes c (low + (32 * e + 16)) 8) h.control) next
