-- Built-ins that move bytes are one step of the play each.
use Rattle.std.proofs.Common.{◌≡◌, refl, sym, ap, subst, ◌∙◌, ℕ, zero, suc, ◌+◌, ◌-◌, ◌*◌, ◌%◌, ◌<◌, ◌≤◌, inl, inr, List, [], ◌∷◌, ◌++◌, length, Some, None, Bool, true, false, cond, arith}
use Rattle.std.specs.Prelude.{◌&&◌, replicate, slice_set, slice_get, drop}
use Rattle.std.proofs.lemmas.Bool.{and_parts}
use Rattle.std.proofs.lemmas.List.{length-append, length-replicate}
use Rattle.ir_core.specs.declared.types.Ty.{Ty}
use Rattle.ir_core.specs.declared.types.Ty.TheVariants.{Int, Ptr}
use Rattle.ir_core.specs.declared.code.Operand.{Operand}
use Rattle.ir_core.specs.declared.code.BuiltIn.{BuiltIn}
use Rattle.ir_core.specs.declared.code.BuiltIn.TheVariants.{MemCpy, MemMove, MemSet, SMax, SMin, UMax, UMin, Abs}
use Rattle.ir_core.specs.declared.code.Op.TheVariants.{BuiltIn as CallBuiltIn}
use Rattle.ir_core.specs.declared.code.BuiltIn.{BuiltIn}
use Rattle.ir_core.specs.declared.code.BuiltIn.TheVariants.{MemCpy, MemMove, MemSet, SMax, SMin, UMax, UMin, Abs}
use Rattle.ir_core.specs.declared.code.Inst.{Inst}
use Rattle.ir_core.specs.declared.program.Function.{Function}
use Rattle.ir_core.specs.declared.program.Global.{Global}
use Rattle.ir_core.specs.Units.{frame, units, values as value_count, types_of_arguments, has_result, is_result}
use Rattle.rv_core.specs.declared.reg.Reg.TheVariants.{S11}
use Rattle.rv_core.specs.declared.instr.Instr.{Instr}
use Rattle.rv_core.specs.Bytes.{load_bytes}
use Rattle.rv_core.specs.Step.{read}
use Rattle.ir_meaning.specs.declared.activation.Activation.{Activation}
use Rattle.ir_meaning.specs.Value.{Value}
use Rattle.ir_meaning.specs.Memory.{Memory, is_inside, bytes_at, with_bytes}
use Rattle.ir_meaning.specs.Operators.{width}
use Rattle.ir_meaning.specs.Step.{moves_bytes, apart_or_equal, copied, set as set_bytes, moved_count, after_moving, Program, Does, Step, Goes, step, act, behind, operand, arguments_of, function_at, insts_at, number_at, stack_start}
use Rattle.ir_meaning.specs.Plays.{Invocation}
use Rattle.ir_meaning.specs.Meaning.{meaning}
use Rattle.ir_meaning.specs.Ranges.{IsMemory, FitsWidth, IsInvocation}
use Rattle.ir_meaning.specs.Typed.{types, IsTyped, IsOp, IsOperand, AreArguments, IsLength}
use Rattle.ir_meaning.proofs.Bytes.{memory-of}
use Rattle.ir_meaning.proofs.Lengths.{with_bytes-length, bytes_at-length, inside-bounds}
use Rattle.ir_meaning.proofs.Ranges.{Standing, keeps-goes}
use Rattle.rv_play.specs.Machine.{Machine, control_base, control_end, data_base}
use Rattle.rv_play.specs.CodePlay.{Place, Point, CodeReply, code_run, place_of}
use Rattle.rv_play.specs.Good.{RefinesMemory, IsBase, Enters}
use Rattle.rv_play.proofs.Lines.{Stands, stands-apart}
use Rattle.code_pieces.specs.Bytes.{move_code, fill_code}
use Rattle.quick_code.specs.Data.{takes_data}
use Rattle.quick_code.specs.Operations.{AreSlotOperands, values_code}
use Rattle.code_pieces.specs.Items.{Item, plain}
use Rattle.quick_code.specs.Blocks.{op_items, insts_items}
use Rattle.code_pieces.specs.Labels.{StandsAs}
use Rattle.quick_code.specs.Forms.{IsFlow}
use Rattle.code_pieces.proofs.Frame.{Is, Holds}
use Rattle.quick_code.proofs.Operations.{scratch-temporaries, values-short, values-bring}
use Rattle.code_pieces.proofs.Labelled.{plain-apart}
use Rattle.quick_code.proofs.Labelled.{StandsThere}
use Rattle.quick_code.proofs.Edges.{units-some}
use Rattle.quick_code.proofs.Numbers.{operand-inside}
use Rattle.code_pieces.proofs.Moving.{move-goes, move-none, fill-goes, fill-none, Through}
use Rattle.code_pieces.proofs.Moved.{copy-refines, fill-refines, hold-behind as hold-moved}
use Rattle.quick_code.proofs.Simulation.{Onward, Advances}
use Rattle.quick_code.proofs.FlowState.{bottom as any-bottom, top as any-top, Here as AnyHere, typed-at as any-typed-at, code-at as any-code-at}
use Rattle.quick_code.proofs.FlowValues.{does-it as any-does-it, fits-at as any-fits-at, built_in-step as any-built_in-step}

module _ (program : Program) (typed : IsTyped program) (function : Function) (flow : IsFlow function) (a : Invocation) (is : IsInvocation (meaning program) a) (there : function_at program a.symbol ≡ Some function)
    (s : Machine) (words : List ℕ) (base : ℕ) (stands : IsBase words base) (enters : Enters (meaning program) a s) (fits-frame : stack_start + frame function ≤ a.sp) (is-aside : takes_data function ≡ true → load_bytes s.control (a.sp - (128 + 32 * value_count function) + (128 + 32 * value_count function - 104)) 8 ≡ read s.regs S11) (labels : ℕ → ℕ) (aligned : (label : ℕ) → labels label % 4 ≡ 0)
    (placed : (block : ℕ) → block < length function.blocks → StandsThere (meaning program) (place_of words base s) labels program.module_.globals function program.room (frame function) block (length function.blocks)) where
  abbrev globals : List Global
  globals = program.module_.globals

  abbrev n : ℕ
  n = value_count function

  abbrev fr : ℕ
  fr = 128 + 32 * n

  abbrev low : ℕ
  low = a.sp - fr

  abbrev place : Place
  place = place_of words base s

  abbrev Stood : Activation → Memory → Type 0
  Stood = Standing program typed a is function there

  abbrev Held : List Value → Memory → Point → Type 0
  Held = Holds a s low fr

  abbrev At : ℕ → List Item → Type 0
  At = StandsAs (meaning program) place labels

  bottom : control_base ≤ low
  bottom = any-bottom program typed function flow a is there s words base stands enters fits-frame is-aside labels aligned placed

  top : low + fr ≤ control_end
  top = any-top program typed function flow a is there s words base stands enters fits-frame is-aside labels aligned placed

  abbrev Here : Activation → Memory → Point → Type 0
  Here = AnyHere program typed function flow a is there s words base stands enters fits-frame is-aside labels aligned placed

  abbrev Done : ℕ → Activation → Memory → Point → Does → Type 0
  Done = Advances program a s place Here

  typed-at : (block k : ℕ) (inst : Inst) → slice_get (insts_at function block) k ≡ Some inst → IsOp program function inst.gives inst.op
  typed-at = any-typed-at program typed function flow a is there s words base stands enters fits-frame is-aside labels aligned placed

  abbrev behind_it : Activation → List Item → List Item
  behind_it now rest = insts_items globals function program.room fr now.block (now.place + 1) (drop (now.place + 1) (insts_at function now.block)) ++ rest

  code-at : (now : Activation) (here : Memory) (p : Point) (inst : Inst) (h : Here now here p) → slice_get (insts_at function now.block) now.place ≡ Some inst
      → At p.machine.regs.pc (op_items globals function program.room fr now.block (number_at function now.block now.place) inst.gives inst.op ++ behind_it now h.rest)
  code-at = any-code-at program typed function flow a is there s words base stands enters fits-frame is-aside labels aligned placed

  does-it : (now : Activation) (here : Memory) (inst : Inst) → Stood now here → slice_get (insts_at function now.block) now.place ≡ Some inst → (step program now here).does ≡ (act program function now here inst inst.op).does
  does-it = any-does-it program typed function flow a is there s words base stands enters fits-frame is-aside labels aligned placed

  fits-at : (now : Activation) (here : Memory) (ty : Ty) (o : Operand) → Stood now here → IsOperand (types function) ty o → FitsWidth (width ty) (operand program now.values o)
  fits-at = any-fits-at program typed function flow a is there s words base stands enters fits-frame is-aside labels aligned placed

  built_in-step : (now : Activation) (here : Memory) (p : Point) (gives : Ty) (which : BuiltIn) (arguments : List (Ty × Operand)) → Here now here p
      → slice_get (insts_at function now.block) now.place ≡ Some (record { gives = gives; op = CallBuiltIn which arguments }) → moves_bytes which ≡ false → length arguments ≡ 2
      → Done (act program function now here (record { gives = gives; op = CallBuiltIn which arguments }) (CallBuiltIn which arguments)).units now here p
      (act program function now here (record { gives = gives; op = CallBuiltIn which arguments }) (CallBuiltIn which arguments)).does
  built_in-step = any-built_in-step program typed function flow a is there s words base stands enters fits-frame is-aside labels aligned placed

  -- ---- bytes that are moved

  -- the code has moved them
  lands : (now : Activation) (here after : Memory) (p q : Point) (inst : Inst) (h : Here now here p) (c0 work : List Instr) (span most moves t : ℕ) (g : ℕ → ℕ)
      → ((f : ℕ) (answers : List CodeReply) → code_run (meaning program) place (length c0 + f) p answers ≡ code_run (meaning program) place f q answers) → q.machine.regs.pc ≡ p.machine.regs.pc + 4 * length c0 → Held now.values here q
      → (w : Through (meaning program) typed.functions typed.room place stands.low stands.high span most moves t g q) → length work ≡ span → length c0 ≤ 24 → most ≤ 8 + 6 * moves → At (p.machine.regs.pc + 4 * length (c0 ++ work)) (behind_it now h.rest)
      → length after ≡ length here → RefinesMemory after w.point.machine.bytes → has_result inst ≡ false → (step program now here).does ≡ Goes (behind function now inst None) after
      → Onward program a s place Here (units inst + moves) now (behind function now inst None) after p
  lands now here after p q inst h c0 work span most moves t g run pc held w is-span short cost code same-long refines none does =
      let some = w.some in let few = w.few in let wpc = w.pc in let one = units-some inst in let even = h.even in
      let len = length-append c0 work in
      let there' : p.machine.regs.pc + 4 * length (c0 ++ work) ≡ w.point.machine.regs.pc = omega (arith, len, is-span, wpc, pc) in
      let held' = hold-moved a s low fr now.values here after q w.point held w.kept.others w.kept.control w.kept.counted same-long refines in
      record {
        count = length c0 + w.count;
        point = w.point;
        moves = inl (omega (arith, some));
        few = omega (arith, short, few, cost, one);
        run = λ f answers. ap (λ (k : ℕ). code_run (meaning program) place k p answers) (let z : length c0 + w.count + f ≡ length c0 + (w.count + f) = omega arith in z) ∙ run (w.count + f) answers ∙ w.run f answers;
        at = record {
          stood = keeps-goes program typed a is function there now (behind function now inst None) here after h.stood does;
          long = λ takes. same-long ∙ h.long takes;
          held = subst (λ (vs : List Value). Held vs after w.point) (ap (λ (b : Bool). cond b (slice_set now.values (number_at function now.block now.place) None) now.values) (sym none)) held';
          even = omega (arith, there', even);
          rest = h.rest;
          code = subst (λ (k : ℕ). At k (behind_it now h.rest)) there' code;
          comes = h.comes;
        };
      }

  -- the operands are loaded, and the code that moves bytes stands behind them
  pub record Ready (now : Activation) (here : Memory) (p : Point) (rest : List Item) (work : List Instr) (x y z : Operand) : Type 0 where
    pub point : Point
    pub run : (f : ℕ) (answers : List CodeReply) → code_run (meaning program) place (length (values_code globals 5 (x ∷ y ∷ z ∷ [])) + f) p answers ≡ code_run (meaning program) place f point answers
    pub pc : point.machine.regs.pc ≡ p.machine.regs.pc + 4 * length (values_code globals 5 (x ∷ y ∷ z ∷ []))
    pub held : Held now.values here point
    pub first : Is (operand program now.values x) (point.machine.regs.x 5)
    pub second : Is (operand program now.values y) (point.machine.regs.x 6)
    pub third : Is (operand program now.values z) (point.machine.regs.x 7)
    pub code : Stands place point.machine.regs.pc work
    pub behind : At (p.machine.regs.pc + 4 * length (values_code globals 5 (x ∷ y ∷ z ∷ []) ++ work)) rest
    pub short : length (values_code globals 5 (x ∷ y ∷ z ∷ [])) ≤ 24

  pub ready : (now : Activation) (here : Memory) (p : Point) (rest : List Item) (work : List Instr) (x y z : Operand) → Held now.values here p → AreSlotOperands n (x ∷ y ∷ z ∷ [])
      → At p.machine.regs.pc (plain (values_code globals 5 (x ∷ y ∷ z ∷ []) ++ work) ++ rest) → Ready now here p rest work x y z
  ready now here p rest work x y z held small st =
      let c0 : List Instr = values_code globals 5 (x ∷ y ∷ z ∷ []) in
      let parts = plain-apart (meaning program) place labels p.machine.regs.pc (c0 ++ work) rest st in
      let apart = stands-apart place p.machine.regs.pc c0 work parts.0 in
      let b = values-bring program a s low fr n (meaning program) typed.functions typed.room place stands.low stands.high bottom top refl now.values here p 5 (x ∷ y ∷ z ∷ []) (scratch-temporaries 3 (omega arith)) small held apart.0 in
      record {
        point = b.point;
        run = b.run;
        pc = b.pc;
        held = b.holds;
        first = λ k e. b.are 0 k (ap (λ (w : Value). Some w) e);
        second = λ k e. b.are 1 k (ap (λ (w : Value). Some w) e);
        third = λ k e. b.are 2 k (ap (λ (w : Value). Some w) e);
        code = subst (λ (k : ℕ). Stands place k work) (sym b.pc) apart.1;
        behind = parts.1;
        short = values-short globals 5 (x ∷ y ∷ z ∷ []);
      }

  bytes-below : (now : Activation) (here : Memory) → Stood now here → IsMemory here
  bytes-below now here stood = memory-of here stood.bytes

  copy-step : (now : Activation) (here : Memory) (p : Point) (inst : Inst) (may : ℕ → ℕ → ℕ → Bool) (x y z : Operand) (vs : List Value) (h : Here now here p) → has_result inst ≡ false → AreSlotOperands n (x ∷ y ∷ z ∷ [])
      → At p.machine.regs.pc (plain (values_code globals 5 (x ∷ y ∷ z ∷ []) ++ move_code) ++ behind_it now h.rest)
      → (step program now here).does
      ≡ (after_moving program function now here inst (moved_count (operand program now.values x ∷ operand program now.values y ∷ operand program now.values z ∷ vs)) (copied may here (operand program now.values x) (operand program now.values y) (operand program now.values z))).does
      → Done (after_moving program function now here inst (moved_count (operand program now.values x ∷ operand program now.values y ∷ operand program now.values z ∷ vs)) (copied may here (operand program now.values x) (operand program now.values y) (operand program now.values z))).units now here p
      (after_moving program function now here inst (moved_count (operand program now.values x ∷ operand program now.values y ∷ operand program now.values z ∷ vs)) (copied may here (operand program now.values x) (operand program now.values y) (operand program now.values z))).does
  copy-step now here p inst may x y z vs h none small st does = by_count (operand program now.values z) refl
    where
      r : Ready now here p (behind_it now h.rest) move_code x y z
      r = ready now here p (behind_it now h.rest) move_code x y z h.held small st

      Moves : Value → Value → Value → Step
      Moves vt vf vc = after_moving program function now here inst (moved_count (vt ∷ vf ∷ vc ∷ vs)) (copied may here vt vf vc)

      does-as : (vt vf vc : Value) → operand program now.values x ≡ vt → operand program now.values y ≡ vf → operand program now.values z ≡ vc → (step program now here).does ≡ (Moves vt vf vc).does
      does-as vt vf vc ex ey ez =
          does ∙ ap (λ (v : Value). (Moves v (operand program now.values y) (operand program now.values z)).does) ex ∙ ap (λ (v : Value). (Moves vt v (operand program now.values z)).does) ey ∙ ap (λ (v : Value). (Moves vt vf v).does) ez

      by_test : (t f m : ℕ) → operand program now.values x ≡ Some t → operand program now.values y ≡ Some f → operand program now.values z ≡ Some (suc m) → (b : Bool)
          → (is_inside here t (suc m) && is_inside here f (suc m) && may t f (suc m)) ≡ b
          → Done (after_moving program function now here inst (suc m) (cond b (Some (with_bytes here t (bytes_at here f (suc m)))) None)).units now here p (after_moving program function now here inst (suc m) (cond b (Some (with_bytes here t (bytes_at here f (suc m)))) None)).does
      by_test t f m ex ey ez false e = tt
      by_test t f m ex ey ez true e =
          let outer = and_parts (is_inside here t (suc m) && is_inside here f (suc m)) (may t f (suc m)) e in
          let inner = and_parts (is_inside here t (suc m)) (is_inside here f (suc m)) outer.0 in
          let bt = inside-bounds here t (suc m) inner.0 in let bf = inside-bounds here f (suc m) inner.1 in
          let lt = bt.0 in let ht = bt.1 in let lf = bf.0 in let hf = bf.1 in
          let room = h.stood.room in
          let w = move-goes (meaning program) typed.functions typed.room place stands.low stands.high m r.point t f (r.first t ex) (r.second f ey) (r.third (suc m) ez) lt lf (omega (arith, ht, room)) (omega (arith, hf, room)) r.code in
          let many = bytes_at-length here f (suc m) inner.1 in
          let after : Memory = with_bytes here t (bytes_at here f (suc m)) in
          let same-long = with_bytes-length here t (bytes_at here f (suc m)) (ap (is_inside here t) many ∙ inner.0) in
          lands now here after p r.point inst h (values_code globals 5 (x ∷ y ∷ z ∷ [])) move_code 14 (8 + 6 * suc m) (suc m) t (λ b. r.point.machine.bytes (f + (b - t))) r.run r.pc r.held w refl r.short (omega arith) r.behind same-long
          (copy-refines here r.point.machine.bytes w.point.machine.bytes t f (suc m) many lt lf ht (bytes-below now here h.stood) r.held.memory' w.inside w.outside) none
          (does-as (Some t) (Some f) (Some (suc m)) ex ey ez ∙ ap (λ (b : Bool). (after_moving program function now here inst (suc m) (cond b (Some (with_bytes here t (bytes_at here f (suc m)))) None)).does) e)

      by_count : (vc : Value) → operand program now.values z ≡ vc → Done (Moves (operand program now.values x) (operand program now.values y) vc).units now here p (Moves (operand program now.values x) (operand program now.values y) vc).does
      by_count None ez = tt
      by_count (Some zero) ez =
          let w = move-none (meaning program) typed.functions typed.room place stands.low stands.high r.point 0 (λ b. 0) (r.third 0 ez) r.code in
          lands now here here p r.point inst h (values_code globals 5 (x ∷ y ∷ z ∷ [])) move_code 14 1 0 0 (λ b. 0) r.run r.pc r.held w refl r.short (omega arith) r.behind refl
          (λ i b e. w.outside (data_base + i) (inr (omega arith)) ∙ r.held.memory' i b e) none (does-as (operand program now.values x) (operand program now.values y) (Some 0) refl refl ez)
      by_count (Some (suc m)) ez = by_to (operand program now.values x) refl
        where
          by_from : (t : ℕ) → operand program now.values x ≡ Some t → (vf : Value) → operand program now.values y ≡ vf → Done (Moves (Some t) vf (Some (suc m))).units now here p (Moves (Some t) vf (Some (suc m))).does
          by_from t ex None ey = tt
          by_from t ex (Some f) ey = by_test t f m ex ey ez (is_inside here t (suc m) && is_inside here f (suc m) && may t f (suc m)) refl

          by_to : (vt : Value) → operand program now.values x ≡ vt → Done (Moves vt (operand program now.values y) (Some (suc m))).units now here p (Moves vt (operand program now.values y) (Some (suc m))).does
          by_to None ex = tt
          by_to (Some t) ex = by_from t ex (operand program now.values y) refl

  fill-step : (now : Activation) (here : Memory) (p : Point) (inst : Inst) (x y z : Operand) (vs : List Value) (h : Here now here p) → has_result inst ≡ false → AreSlotOperands n (x ∷ y ∷ z ∷ []) → FitsWidth 8 (operand program now.values y)
      → At p.machine.regs.pc (plain (values_code globals 5 (x ∷ y ∷ z ∷ []) ++ fill_code) ++ behind_it now h.rest)
      → (step program now here).does
      ≡ (after_moving program function now here inst (moved_count (operand program now.values x ∷ operand program now.values y ∷ operand program now.values z ∷ vs)) (set_bytes here (operand program now.values x) (operand program now.values y) (operand program now.values z))).does
      → Done (after_moving program function now here inst (moved_count (operand program now.values x ∷ operand program now.values y ∷ operand program now.values z ∷ vs)) (set_bytes here (operand program now.values x) (operand program now.values y) (operand program now.values z))).units now here p
      (after_moving program function now here inst (moved_count (operand program now.values x ∷ operand program now.values y ∷ operand program now.values z ∷ vs)) (set_bytes here (operand program now.values x) (operand program now.values y) (operand program now.values z))).does
  fill-step now here p inst x y z vs h none small fits st does = by_count (operand program now.values z) refl
    where
      r : Ready now here p (behind_it now h.rest) fill_code x y z
      r = ready now here p (behind_it now h.rest) fill_code x y z h.held small st

      Moves : Value → Value → Step
      Moves vt vc = after_moving program function now here inst (moved_count (vt ∷ operand program now.values y ∷ vc ∷ vs)) (set_bytes here vt (operand program now.values y) vc)

      does-as : (vt vc : Value) → operand program now.values x ≡ vt → operand program now.values z ≡ vc → (step program now here).does ≡ (Moves vt vc).does
      does-as vt vc ex ez = does ∙ ap (λ (v : Value). (Moves v (operand program now.values z)).does) ex ∙ ap (λ (v : Value). (Moves vt v).does) ez

      below : (v : Value) → FitsWidth 8 v → (b : ℕ) → v ≡ Some b → b < 256
      below None f b e = absurd (let bad : ⊥ = cc in bad)
      below (Some k) f b e = let same : k ≡ b = cc in omega (arith, same, f)

      by_test : (t m : ℕ) → operand program now.values x ≡ Some t → operand program now.values z ≡ Some (suc m) → (b : Bool) → is_inside here t (suc m) ≡ b
          → Done (after_moving program function now here inst (suc m) (cond b (Some (with_bytes here t (replicate (suc m) (operand program now.values y)))) None)).units now here p
          (after_moving program function now here inst (suc m) (cond b (Some (with_bytes here t (replicate (suc m) (operand program now.values y)))) None)).does
      by_test t m ex ez false e = tt
      by_test t m ex ez true e =
          let bt = inside-bounds here t (suc m) e in
          let lt = bt.0 in let ht = bt.1 in
          let room = h.stood.room in
          let byte : Value = operand program now.values y in
          let v : ℕ = r.point.machine.regs.x 6 in
          let w = fill-goes (meaning program) typed.functions typed.room place stands.low stands.high m r.point t v (r.first t ex) refl (r.third (suc m) ez) lt (omega (arith, ht, room)) r.code in
          let many = length-replicate (suc m) byte in
          let same-long = with_bytes-length here t (replicate (suc m) (operand program now.values y)) (ap (is_inside here t) many ∙ e) in
          lands now here (with_bytes here t (replicate (suc m) (operand program now.values y))) p r.point inst h (values_code globals 5 (x ∷ y ∷ z ∷ [])) fill_code 5 (1 + 4 * suc m) (suc m) t (λ b. v) r.run r.pc r.held w refl r.short (omega arith) r.behind same-long
          (fill-refines here r.point.machine.bytes w.point.machine.bytes t (suc m) v (operand program now.values y) lt ht r.held.memory' (λ b k. (r.second b k, below (operand program now.values y) fits b k)) w.inside w.outside) none
          (does-as (Some t) (Some (suc m)) ex ez ∙ ap (λ (b : Bool). (after_moving program function now here inst (suc m) (cond b (Some (with_bytes here t (replicate (suc m) (operand program now.values y)))) None)).does) e)

      by_count : (vc : Value) → operand program now.values z ≡ vc → Done (Moves (operand program now.values x) vc).units now here p (Moves (operand program now.values x) vc).does
      by_count None ez = tt
      by_count (Some zero) ez =
          let w = fill-none (meaning program) typed.functions typed.room place stands.low stands.high r.point 0 (λ b. 0) (r.third 0 ez) r.code in
          lands now here here p r.point inst h (values_code globals 5 (x ∷ y ∷ z ∷ [])) fill_code 5 1 0 0 (λ b. 0) r.run r.pc r.held w refl r.short (omega arith) r.behind refl
          (λ i b e. w.outside (data_base + i) (inr (omega arith)) ∙ r.held.memory' i b e) none (does-as (operand program now.values x) (Some 0) refl ez)
      by_count (Some (suc m)) ez = by_to (operand program now.values x) refl
        where
          by_to : (vt : Value) → operand program now.values x ≡ vt → Done (Moves vt (Some (suc m))).units now here p (Moves vt (Some (suc m))).does
          by_to None ex = tt
          by_to (Some t) ex = by_test t m ex ez (is_inside here t (suc m)) refl

  -- the first three operands of a built-in that moves bytes
  three-inside : (u v w : Ty) (x y z : Ty × Operand) (more : List (Ty × Operand)) (rest : List Ty) → types_of_arguments (x ∷ y ∷ z ∷ more) ≡ u ∷ v ∷ w ∷ rest → width u ≤ 64 → width v ≤ 64 → width w ≤ 64 → AreArguments (types function) (x ∷ y ∷ z ∷ more)
      → AreSlotOperands n (x.1 ∷ y.1 ∷ z.1 ∷ [])
  three-inside u v w x y z more rest e hu hv hw are =
      let ex : x.0 ≡ u = cc in let ey : y.0 ≡ v = cc in let ez : z.0 ≡ w = cc in
      let first = operand-inside function x.0 x.1 (subst (λ (t : Ty). width t ≤ 64) (sym ex) hu) are.0 in
      let second = operand-inside function y.0 y.1 (subst (λ (t : Ty). width t ≤ 64) (sym ey) hv) are.1.0 in
      let third = operand-inside function z.0 z.1 (subst (λ (t : Ty). width t ≤ 64) (sym ez) hw) are.1.1.0 in
      (first, (second, (third, tt)))

  length-width : (w : ℕ) → IsLength w → w ≤ 64
  length-width w (inl e) = omega (arith, e)
  length-width w (inr e) = omega (arith, e)

  moving-step : (now : Activation) (here : Memory) (p : Point) (gives : Ty) (which : BuiltIn) (arguments : List (Ty × Operand)) → Here now here p → slice_get (insts_at function now.block) now.place ≡ Some (record { gives = gives; op = CallBuiltIn which arguments }) → moves_bytes which ≡ true
      → Done (act program function now here (record { gives = gives; op = CallBuiltIn which arguments }) (CallBuiltIn which arguments)).units now here p
      (act program function now here (record { gives = gives; op = CallBuiltIn which arguments }) (CallBuiltIn which arguments)).does
  moving-step now here p gives MemCpy [] h at is-moving = tt
  moving-step now here p gives MemCpy (x ∷ []) h at is-moving = tt
  moving-step now here p gives MemCpy (x ∷ y ∷ []) h at is-moving = tt
  moving-step now here p gives MemCpy (x ∷ y ∷ z ∷ more) h at is-moving =
      let inst : Inst = record { gives = gives; op = CallBuiltIn MemCpy (x ∷ y ∷ z ∷ more) } in
      let ty = typed-at now.block now.place inst at in
      copy-step now here p inst apart_or_equal x.1 y.1 z.1 (arguments_of program now.values more) h (ap is_result ty.0.3) (three-inside Ptr Ptr (Int ty.0.0) x y z more (Int 1 ∷ []) ty.0.2 (omega arith) (omega arith) (length-width ty.0.0 ty.0.1) ty.1)
      (code-at now here p inst h at) (does-it now here inst h.stood at)
  moving-step now here p gives MemMove [] h at is-moving = tt
  moving-step now here p gives MemMove (x ∷ []) h at is-moving = tt
  moving-step now here p gives MemMove (x ∷ y ∷ []) h at is-moving = tt
  moving-step now here p gives MemMove (x ∷ y ∷ z ∷ more) h at is-moving =
      let inst : Inst = record { gives = gives; op = CallBuiltIn MemMove (x ∷ y ∷ z ∷ more) } in
      let ty = typed-at now.block now.place inst at in
      copy-step now here p inst (λ to from count. true) x.1 y.1 z.1 (arguments_of program now.values more) h (ap is_result ty.0.3) (three-inside Ptr Ptr (Int ty.0.0) x y z more (Int 1 ∷ []) ty.0.2 (omega arith) (omega arith) (length-width ty.0.0 ty.0.1) ty.1)
      (code-at now here p inst h at) (does-it now here inst h.stood at)
  moving-step now here p gives MemSet [] h at is-moving = tt
  moving-step now here p gives MemSet (x ∷ []) h at is-moving = tt
  moving-step now here p gives MemSet (x ∷ y ∷ []) h at is-moving = tt
  moving-step now here p gives MemSet (x ∷ y ∷ z ∷ more) h at is-moving =
      let inst : Inst = record { gives = gives; op = CallBuiltIn MemSet (x ∷ y ∷ z ∷ more) } in
      let ty = typed-at now.block now.place inst at in
      let byte : y.0 ≡ Int 8 = let e = ty.0.2 in cc in
      fill-step now here p inst x.1 y.1 z.1 (arguments_of program now.values more) h (ap is_result ty.0.3) (three-inside Ptr (Int 8) (Int ty.0.0) x y z more (Int 1 ∷ []) ty.0.2 (omega arith) (omega arith) (length-width ty.0.0 ty.0.1) ty.1)
      (subst (λ (t : Ty). FitsWidth (width t) (operand program now.values y.1)) byte (fits-at now here y.0 y.1 h.stood ty.1.1.0)) (code-at now here p inst h at) (does-it now here inst h.stood at)
  moving-step now here p gives SMax arguments h at is-moving = absurd (let bad : ⊥ = cc in bad)
  moving-step now here p gives SMin arguments h at is-moving = absurd (let bad : ⊥ = cc in bad)
  moving-step now here p gives UMax arguments h at is-moving = absurd (let bad : ⊥ = cc in bad)
  moving-step now here p gives UMin arguments h at is-moving = absurd (let bad : ⊥ = cc in bad)
  moving-step now here p gives Abs arguments h at is-moving = absurd (let bad : ⊥ = cc in bad)

  -- a built-in of either kind
  pub built_in-turn : (now : Activation) (here : Memory) (p : Point) (gives : Ty) (which : BuiltIn) (arguments : List (Ty × Operand)) → Here now here p
      → slice_get (insts_at function now.block) now.place ≡ Some (record { gives = gives; op = CallBuiltIn which arguments }) → (moves_bytes which ≡ false → length arguments ≡ 2)
      → Done (act program function now here (record { gives = gives; op = CallBuiltIn which arguments }) (CallBuiltIn which arguments)).units now here p
      (act program function now here (record { gives = gives; op = CallBuiltIn which arguments }) (CallBuiltIn which arguments)).does
  built_in-turn now here p gives which arguments h at two = by_kind (moves_bytes which) refl
    where
      by_kind : (b : Bool) → moves_bytes which ≡ b
          → Done (act program function now here (record { gives = gives; op = CallBuiltIn which arguments }) (CallBuiltIn which arguments)).units now here p
          (act program function now here (record { gives = gives; op = CallBuiltIn which arguments }) (CallBuiltIn which arguments)).does
      by_kind true e = moving-step now here p gives which arguments h at e
      by_kind false e = built_in-step now here p gives which arguments h at e (two e)
