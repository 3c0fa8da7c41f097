-- Returns, edges, jumps and branches are one step of the play each.
use Rattle.std.proofs.Common.{◌≡◌, refl, sym, ap, subst, ◌∙◌, ℕ, zero, suc, ◌+◌, ◌-◌, ◌*◌, ◌%◌, ◌≢◌, ◌<◌, ◌≤◌, ◌⊎◌, inl, inr, List, [], ◌∷◌, ◌++◌, length, Option, Some, None, Bool, true, false, cond, arith, append_assoc}
use Rattle.std.specs.Prelude.{◌==◌, not, slice_get, take, drop}
use Rattle.std.proofs.lemmas.Bool.{eqb-true}
use Rattle.std.proofs.lemmas.List.{length-take-le}
use Rattle.ir_core.specs.declared.types.Ty.{Ty}
use Rattle.ir_core.specs.declared.types.Ty.TheVariants.{Int}
use Rattle.ir_core.specs.declared.code.Operand.{Operand}
use Rattle.ir_core.specs.declared.code.Op.TheVariants.{Ret, Br, CondBr}
use Rattle.ir_core.specs.declared.code.Inst.{Inst}
use Rattle.ir_core.specs.declared.program.Function.{Function}
use Rattle.ir_core.specs.declared.program.Global.{Global}
use Rattle.ir_core.specs.Units.{frame, units, values as value_count}
use Rattle.rv_core.specs.declared.reg.Reg.TheVariants.{X0, Sp, T0, A0, S11}
use Rattle.rv_core.specs.declared.instr.BranchOp.{BranchOp}
use Rattle.rv_core.specs.declared.instr.BranchOp.TheVariants.{Beq, Bne}
use Rattle.rv_core.specs.declared.instr.Instr.{Instr}
use Rattle.rv_core.specs.Bytes.{load_bytes}
use Rattle.rv_core.specs.Step.{read, is_taken}
use Rattle.ir_meaning.specs.declared.activation.Activation.{Activation}
use Rattle.ir_meaning.specs.Value.{Value}
use Rattle.ir_meaning.specs.Memory.{Memory}
use Rattle.ir_meaning.specs.Step.{Program, Does, Step, Goes, Returns, step, step_at, act, operand, jump, branch_target, take_edge, phis, phi_units, phi_value, function_at, insts_at, number_at, stack_start}
use Rattle.ir_meaning.specs.Plays.{Invocation}
use Rattle.ir_meaning.specs.Meaning.{meaning, result_width, of_function}
use Rattle.ir_meaning.specs.Ranges.{IsInvocation}
use Rattle.ir_meaning.specs.Typed.{IsTyped, IsOp}
use Rattle.ir_meaning.proofs.Keeping.{DoesFit}
use Rattle.ir_meaning.proofs.Ranges.{Standing, gives-of, does-fit, keeps-goes}
use Rattle.rv_play.specs.Machine.{Machine, control_base, control_end, data_base}
use Rattle.rv_play.specs.CodePlay.{Place, Point, CodeReply, code_run, place_of}
use Rattle.rv_play.specs.Good.{IsBase, Enters, RefinesResult}
use Rattle.rv_play.proofs.Lines.{Stands, stands-apart}
use Rattle.code_pieces.specs.Code.{leave_code, load_at}
use Rattle.code_pieces.specs.Bytes.{restore_code}
use Rattle.quick_code.specs.Data.{takes_data}
use Rattle.quick_code.specs.Operations.{IsSlotOperand, AreSlotOperands, value_code, values_code}
use Rattle.code_pieces.specs.Items.{Item, Goto, Test, Bind, plain}
use Rattle.quick_code.specs.Blocks.{nexts_code, phis_code, block_label, edge_label, edge_code, edge_items, last_edge_items, branch_items, return_code, op_items, insts_items}
use Rattle.code_pieces.specs.Labels.{Hops, StandsAs}
use Rattle.quick_code.specs.Forms.{IsFlow, IsJump}
use Rattle.code_pieces.proofs.Const.{put}
use Rattle.code_pieces.proofs.Slots.{load-short, loads-at}
use Rattle.code_pieces.proofs.Frame.{Is, Holds, saved_regs, keeps-last, scratch-t0, scratch-argument}
use Rattle.quick_code.proofs.Operations.{value-short, value-brings}
use Rattle.quick_code.proofs.Refines.{refines-take, result-refines}
use Rattle.code_pieces.proofs.Ends.{leaves, leave-short}
use Rattle.code_pieces.proofs.Labelled.{plain-apart, behind-items}
use Rattle.quick_code.proofs.Labelled.{StandsThere}
use Rattle.quick_code.proofs.Edges.{AreReady, nexts-go, phis-go, hold-hopped, next-hopped, phis-length, units-some, units-many}
use Rattle.quick_code.proofs.Numbers.{width-small, operand-inside, number-inside, number-next, value-below, gives-some, phis-stand}
use Rattle.quick_code.proofs.Typing.{phi-typed, phi-form, nothing-behind}
use Rattle.quick_code.proofs.Simulation.{Onward, Advances, blocks_left}
use Rattle.quick_code.proofs.FlowState.{bottom as any-bottom, sum-is as any-sum-is, top as any-top, entering as any-entering, Here as AnyHere, is-function as any-is-function, step-is as any-step-is, typed-at as any-typed-at, code-at as any-code-at}
use Rattle.quick_code.proofs.FlowValues.{does-it as any-does-it}
use Rattle.quick_code.proofs.FlowBytes.{Ready as AnyReady, ready as any-ready}

module _ (program : Program) (typed : IsTyped program) (function : Function) (flow : IsFlow function) (a : Invocation) (is : IsInvocation (meaning program) a) (there : function_at program a.symbol ≡ Some function)
    (s : Machine) (words : List ℕ) (base : ℕ) (stands : IsBase words base) (enters : Enters (meaning program) a s) (fits-frame : stack_start + frame function ≤ a.sp) (is-aside : takes_data function ≡ true → load_bytes s.control (a.sp - (128 + 32 * value_count function) + (128 + 32 * value_count function - 104)) 8 ≡ read s.regs S11) (labels : ℕ → ℕ) (aligned : (label : ℕ) → labels label % 4 ≡ 0)
    (placed : (block : ℕ) → block < length function.blocks → StandsThere (meaning program) (place_of words base s) labels program.module_.globals function program.room (frame function) block (length function.blocks)) where
  abbrev globals : List Global
  globals = program.module_.globals

  abbrev n : ℕ
  n = value_count function

  abbrev fr : ℕ
  fr = 128 + 32 * n

  abbrev low : ℕ
  low = a.sp - fr

  abbrev place : Place
  place = place_of words base s

  abbrev Stood : Activation → Memory → Type 0
  Stood = Standing program typed a is function there

  abbrev Held : List Value → Memory → Point → Type 0
  Held = Holds a s low fr

  abbrev At : ℕ → List Item → Type 0
  At = StandsAs (meaning program) place labels

  bottom : control_base ≤ low
  bottom = any-bottom program typed function flow a is there s words base stands enters fits-frame is-aside labels aligned placed

  sum-is : low + fr ≡ a.sp
  sum-is = any-sum-is program typed function flow a is there s words base stands enters fits-frame is-aside labels aligned placed

  top : low + fr ≤ control_end
  top = any-top program typed function flow a is there s words base stands enters fits-frame is-aside labels aligned placed

  entering : place.sp ≡ low + fr
  entering = any-entering program typed function flow a is there s words base stands enters fits-frame is-aside labels aligned placed

  abbrev IsLong : Memory → Type 0
  IsLong here = takes_data function ≡ false → length here ≡ length a.memory

  abbrev Here : Activation → Memory → Point → Type 0
  Here = AnyHere program typed function flow a is there s words base stands enters fits-frame is-aside labels aligned placed

  abbrev Done : ℕ → Activation → Memory → Point → Does → Type 0
  Done = Advances program a s place Here

  is-function : (now : Activation) (here : Memory) → Stood now here → function_at program now.symbol ≡ Some function
  is-function = any-is-function program typed function flow a is there s words base stands enters fits-frame is-aside labels aligned placed

  step-is : (now : Activation) (here : Memory) (o : Option Inst) → Stood now here → slice_get (insts_at function now.block) now.place ≡ o → step program now here ≡ step_at program now here function o
  step-is = any-step-is program typed function flow a is there s words base stands enters fits-frame is-aside labels aligned placed

  typed-at : (block k : ℕ) (inst : Inst) → slice_get (insts_at function block) k ≡ Some inst → IsOp program function inst.gives inst.op
  typed-at = any-typed-at program typed function flow a is there s words base stands enters fits-frame is-aside labels aligned placed

  abbrev behind_it : Activation → List Item → List Item
  behind_it now rest = insts_items globals function program.room fr now.block (now.place + 1) (drop (now.place + 1) (insts_at function now.block)) ++ rest

  code-at : (now : Activation) (here : Memory) (p : Point) (inst : Inst) (h : Here now here p) → slice_get (insts_at function now.block) now.place ≡ Some inst
      → At p.machine.regs.pc (op_items globals function program.room fr now.block (number_at function now.block now.place) inst.gives inst.op ++ behind_it now h.rest)
  code-at = any-code-at program typed function flow a is there s words base stands enters fits-frame is-aside labels aligned placed

  does-it : (now : Activation) (here : Memory) (inst : Inst) → Stood now here → slice_get (insts_at function now.block) now.place ≡ Some inst → (step program now here).does ≡ (act program function now here inst inst.op).does
  does-it = any-does-it program typed function flow a is there s words base stands enters fits-frame is-aside labels aligned placed

  abbrev Ready : Activation → Memory → Point → (List Item) → (List Instr) → Operand → Operand → Operand → Type 0
  Ready = AnyReady program typed function flow a is there s words base stands enters fits-frame is-aside labels aligned placed

  ready : (now : Activation) (here : Memory) (p : Point) (rest : List Item) (work : List Instr) (x y z : Operand) → Held now.values here p → AreSlotOperands n (x ∷ y ∷ z ∷ [])
      → At p.machine.regs.pc (plain (values_code globals 5 (x ∷ y ∷ z ∷ []) ++ work) ++ rest) → Ready now here p rest work x y z
  ready = any-ready program typed function flow a is there s words base stands enters fits-frame is-aside labels aligned placed

  -- ---- a return

  -- the data top of the entry
  short-again : (now : Activation) (here : Memory) → Stood now here → length (take now.entry_length here) ≡ length a.memory
  short-again now here stood =
      let le = stood.long in
      ap (λ (k : ℕ). length (take k here)) stood.entry_length ∙ length-take-le (length a.memory) here le

  -- s11 is what it was at the entry
  record Closed (now : Activation) (here : Memory) (q : Point) : Type 0 where
    count : ℕ
    point : Point
    few : count ≤ 3
    run : (f : ℕ) (answers : List CodeReply) → code_run (meaning program) place (count + f) q answers ≡ code_run (meaning program) place f point answers
    holds : Held now.values (take now.entry_length here) point
    answer : point.machine.regs.x 10 ≡ q.machine.regs.x 10
    code : Stands place point.machine.regs.pc (leave_code fr)

  closes : (now : Activation) (here : Memory) (q : Point) → Stood now here → IsLong here → Held now.values here q → Stands place q.machine.regs.pc (restore_code (takes_data function) fr ++ leave_code fr) → Closed now here q
  closes now here q stood long held = by_test (takes_data function) refl
    where
      by_test : (b : Bool) → takes_data function ≡ b → Stands place q.machine.regs.pc (cond b (load_at S11 (fr - 104)) [] ++ leave_code fr) → Closed now here q
      by_test false e st = record {
        count = 0;
        point = q;
        few = omega arith;
        run = λ f answers. ap (λ (k : ℕ). code_run (meaning program) place k q answers) (let z : 0 + f ≡ f = omega arith in z);
        holds = record {
          sp = held.sp;
          slots = held.slots;
          ra = held.ra;
          aside = held.aside;
          saved = held.saved;
          data_top = held.data_top ∙ ap (λ (k : ℕ). data_base + k) (long e ∙ sym (short-again now here stood));
          kept = held.kept;
          memory' = λ i b z. held.memory' i b (refines-take now.entry_length here i b z);
          counted = held.counted;
        };
        answer = refl;
        code = st;
      }
      by_test true e st =
          let v : ℕ = load_bytes q.machine.control (low + (fr - 104)) 8 in
          let bot = bottom in let tp = top in
          let c0 : List Instr = load_at S11 (fr - 104) in
          let parts = stands-apart place q.machine.regs.pc c0 (leave_code fr) st in
          let short = load-short S11 (fr - 104) in
          record {
            count = length c0;
            point = put q S11 v (length c0);
            few = short;
            run = loads-at (meaning program) typed.functions typed.room place stands.low stands.high low fr bot tp q S11 (fr - 104) (λ bad. cc) (λ x w. refl) held.sp (omega arith) parts.0;
            holds = record {
              sp = held.sp;
              slots = held.slots;
              ra = held.ra;
              aside = held.aside;
              saved = held.saved;
              data_top = held.aside ∙ is-aside e ∙ enters.top ∙ ap (λ (k : ℕ). data_base + k) (sym (short-again now here stood));
              kept = held.kept;
              memory' = λ i b z. held.memory' i b (refines-take now.entry_length here i b z);
              counted = held.counted;
            };
            answer = refl;
            code = parts.1;
          }

  -- a return that has an answer in a0
  returned-with : (now : Activation) (here : Memory) (p q : Point) (inst : Inst) (value : Value) (count : ℕ) → Here now here p → Is value (q.machine.regs.x 10) → Held now.values here q → Stands place q.machine.regs.pc (restore_code (takes_data function) fr ++ leave_code fr) → count ≤ 8
      → ((f : ℕ) (answers : List CodeReply) → code_run (meaning program) place (count + f) p answers ≡ code_run (meaning program) place f q answers)
      → (step program now here).does ≡ Returns value (take now.entry_length here)
      → Done (units inst) now here p (Returns value (take now.entry_length here))
  returned-with now here p q inst value count h answer held st short run does =
      let regs = enters.regs in
      let c = closes now here q h.stood h.long held st in
      let e = leaves program a s low fr n (meaning program) typed.functions typed.room place stands.low stands.high bottom top refl entering refl enters.ra.0 (regs 1) now.values (take now.entry_length here) c.point value (λ k z. c.answer ∙ answer k z) c.holds c.code in
      let one = c.few in
      let fit : DoesFit program function (gives-of program typed a is function there now) (Returns value (take now.entry_length here)) =
      subst (DoesFit program function (gives-of program typed a is function there now)) does (does-fit program typed a is function there now here h.stood) in
      let r = e.is in
      let cost = units-some inst in
      let last = leave-short fr in
      record {
        count = count + c.count + length (leave_code fr);
        point = e.point;
        few = omega (arith, short, cost, one, last);
        run = λ f answers.
            ap (λ (k : ℕ). code_run (meaning program) place k p answers) (let z : count + c.count + length (leave_code fr) + f ≡ count + (c.count + (length (leave_code fr) + f)) = omega arith in z)
            ∙ run (c.count + (length (leave_code fr) + f)) answers ∙ c.run (length (leave_code fr) + f) answers ∙ e.runs f answers;
        is = record {
          counted = r.counted;
          control = λ x le. r.control x (let z = sum-is in omega (arith, z, le));
          regs = (r.sp-is ∙ sum-is ∙ sym enters.sp, keeps-last saved_regs S11 s.regs e.point.machine.regs r.saved (r.data_top ∙ ap (λ (k : ℕ). data_base + k) (short-again now here h.stood) ∙ sym enters.top));
          result =
              subst (λ (g : Option Function). RefinesResult (of_function None (λ (f : Function). result_width f.ret) g) value e.point.machine.regs) (sym there)
              (result-refines function.ret value e.point.machine.regs r.answer fit.0);
          memory' = r.memory';
        };
      }

  pub ret-step : (now : Activation) (here : Memory) (p : Point) (gives : Ty) (answer : Option Operand) → Here now here p
      → slice_get (insts_at function now.block) now.place ≡ Some (record { gives = gives; op = Ret answer })
      → Done (units (record { gives = gives; op = Ret answer })) now here p (act program function now here (record { gives = gives; op = Ret answer }) (Ret answer)).does
  ret-step now here p gives None h at =
      let inst : Inst = record { gives = gives; op = Ret None } in
      let parts = plain-apart (meaning program) place labels p.machine.regs.pc (restore_code (takes_data function) fr ++ leave_code fr) (behind_it now h.rest) (code-at now here p inst h at) in
      returned-with now here p p inst None 0 h (λ k e. absurd (let bad : ⊥ = cc in bad)) h.held parts.0 (omega arith)
      (λ f answers. ap (λ (k : ℕ). code_run (meaning program) place k p answers) (let z : 0 + f ≡ f = omega arith in z)) (does-it now here inst h.stood at)
  ret-step now here p gives (Some answer) h at =
      let inst : Inst = record { gives = gives; op = Ret (Some answer) } in
      let ty = typed-at now.block now.place inst at in
      let c0 : List Instr = value_code globals A0 answer in
      let parts = plain-apart (meaning program) place labels p.machine.regs.pc (return_code globals (takes_data function) fr (Some answer)) (behind_it now h.rest) (code-at now here p inst h at) in
      let apart = stands-apart place p.machine.regs.pc c0 (restore_code (takes_data function) fr ++ leave_code fr) parts.0 in
      let l0 = value-brings program a s low fr n (meaning program) typed.functions typed.room place stands.low stands.high bottom top refl now.values here p A0 answer (scratch-argument 0 (omega arith)) (operand-inside function function.ret answer (width-small function.ret ty.1.0) ty.1.1) h.held apart.0 in
      let pc0 = l0.pc in
      returned-with now here p l0.point inst (operand program now.values answer) (length c0) h l0.is l0.holds (subst (λ (pc : ℕ). Stands place pc (restore_code (takes_data function) fr ++ leave_code fr)) (sym pc0) apart.1) (value-short globals A0 answer)
      l0.run (does-it now here inst h.stood at)

  -- ---- an edge

  abbrev heads : ℕ → List Inst
  heads to = phis (insts_at function to)

  -- the phis of a block are ready for an edge
  ready-from : (now : Activation) (here : Memory) (to : ℕ) → Stood now here → (insts : List Inst) (k : ℕ) → ((i : ℕ) (inst : Inst) → slice_get insts i ≡ Some inst → slice_get (heads to) (k + i) ≡ Some inst)
      → AreReady program function a s low fr n (meaning program) typed.functions typed.room place stands.low stands.high bottom top refl now.block to now.values k insts
  ready-from now here to h [] k suffix = tt
  ready-from now here to h (inst ∷ insts) k suffix =
      let at = phis-stand (insts_at function to) k inst (ap (λ (j : ℕ). slice_get (heads to) j) (let z : k ≡ k + 0 = omega arith in z) ∙ suffix 0 inst refl) in
      let some = phi-typed program function now.values now.block inst.gives inst.op h.values (typed-at to k inst at.0) at.1 in
      let result = gives-some inst.gives some.0 in (
        number-inside function to k inst at.0 result,
        number-next function to k inst at.0 result,
        result,
        phi-form program function now.block inst.gives inst.op (typed-at to k inst at.0) at.1,
        value-below inst.gives (phi_value program now.values now.block inst.op) some.0 some.1,
        ready-from now here to h insts (k + 1) (λ i x e. ap (λ (j : ℕ). slice_get (heads to) j) (let z : k + 1 + i ≡ k + suc i = omega arith in z) ∙ suffix (suc i) x e),
      )

  -- an edge is taken from a point that a few instructions lead to: behind its next values the code comes to the block
  pub edge-step : (now : Activation) (here : Memory) (p q : Point) (few u to least : ℕ) (go : List Item) → Stood now here → IsLong here → Held now.values here q → few ≤ 16 * u → 1 ≤ u
      → ((f : ℕ) (answers : List CodeReply) → code_run (meaning program) place (few + f) p answers ≡ code_run (meaning program) place f q answers)
      → At q.machine.regs.pc (plain (edge_code globals function now.block to) ++ go)
      → ((r : Point) → At r.machine.regs.pc go → read r.machine.regs Sp ≢ place.sp → Hops (meaning program) place least r (labels (block_label function to)))
      → to < length function.blocks → (step program now here).does ≡ Goes (jump program function now to) here
      → (1 ≤ few + least) ⊎ (blocks_left program a s place Here (jump program function now to) < blocks_left program a s place Here now)
      → Onward program a s place Here (u + phi_units function to) now (jump program function now to) here p
  edge-step now here p q few u to least go stood long held short one run st arrives exists does moves =
      let c0 = nexts_code globals function now.block to 0 (heads to) in
      let c1 = phis_code function to 0 (heads to) in
      let parts = plain-apart (meaning program) place labels q.machine.regs.pc c0 go st in
      let ready = ready-from now here to stood (heads to) 0 (λ i x e. ap (λ (j : ℕ). slice_get (heads to) j) (let z : 0 + i ≡ i = omega arith in z) ∙ e) in
      let nexts = nexts-go program function a s low fr n (meaning program) typed.functions typed.room place stands.low stands.high bottom top refl now.block to now.values here (heads to) q 0 ready held parts.0 in
      let sp-is = nexts.holds.sp in
      let inside = entering in
      let hop = arrives nexts.point (subst (λ (k : ℕ). At k go) (sym nexts.pc) parts.1) (λ z. let bad : ⊥ = omega (arith, z, sp-is, inside) in bad) in
      let held1 = hold-hopped program function a s low fr n (meaning program) typed.functions typed.room place stands.low stands.high bottom top refl least now.values here nexts.point (labels (block_label function to)) nexts.holds hop in
      let target = placed to exists in
      let block = target.1.1 in
      let after : List Item = insts_items globals function program.room fr to (length (heads to)) (drop (length (heads to)) (insts_at function to)) in
      let block' = subst (λ (items : List Item). At (labels (block_label function to)) items) (append_assoc (plain c1) after target.0) block in
      let parts' = plain-apart (meaning program) place labels hop.point.machine.regs.pc c1 (after ++ target.0) (subst (λ (k : ℕ). At k (plain c1 ++ (after ++ target.0))) (sym hop.there) block') in
      let next' = next-hopped program function a s low fr n (meaning program) typed.functions typed.room place stands.low stands.high bottom top refl least now.block to now.values (heads to) 0 nexts.point (labels (block_label function to)) hop nexts.next in
      let phis' = phis-go program function a s low fr n (meaning program) typed.functions typed.room place stands.low stands.high bottom top refl now.block to now.values here (heads to) now.values hop.point 0 ready next' held1 parts'.0 in
      let l0 = nexts.short in
      let l1 = phis-length function to 0 (heads to) in
      let cost = units-many (heads to) in
      let hf = hop.few in let hs = hop.some in
      let count = few + (length c0 + (hop.count + length c1)) in
      let pc1 = phis'.pc in
      let to-even = aligned (block_label function to) in
      let hop-there = hop.there in
      record {
        count = count;
        point = phis'.point;
        moves = moved-on few least (length c0) (length c1) hop.count hs moves;
        few = omega (arith, short, one, l0, l1, hf, cost);
        run = λ f answers.
            ap (λ (k : ℕ). code_run (meaning program) place k p answers) (let z : few + (length c0 + (hop.count + length c1)) + f ≡ few + (length c0 + (hop.count + (length c1 + f))) = omega arith in z)
            ∙ run (length c0 + (hop.count + (length c1 + f))) answers
            ∙ nexts.run (hop.count + (length c1 + f)) answers
            ∙ hop.run (length c1 + f) answers
            ∙ phis'.run f answers;
        at = record {
          stood = keeps-goes program typed a is function there now (jump program function now to) here here stood does;
          long = long;
          held = phis'.holds;
          even = omega (arith, pc1, to-even, hop-there);
          rest = target.0;
          code = subst (λ (k : ℕ). At k (after ++ target.0)) (sym pc1) parts'.1;
          comes = target.2;
        };
      }
    where
      moved-on : (few least x y count : ℕ) → least ≤ count → (1 ≤ few + least) ⊎ (blocks_left program a s place Here (jump program function now to) < blocks_left program a s place Here now)
          → (1 ≤ few + (x + (count + y))) ⊎ (blocks_left program a s place Here (jump program function now to) < blocks_left program a s place Here now)
      moved-on few least x y count le (inl some) = inl (omega (arith, le, some))
      moved-on few least x y count le (inr fewer) = inr fewer

  -- the same with a jump
  pub goto-step : (now : Activation) (here : Memory) (p q : Point) (few u to : ℕ) (more : List Item) → Stood now here → IsLong here → Held now.values here q → few ≤ 16 * u → 1 ≤ u
      → ((f : ℕ) (answers : List CodeReply) → code_run (meaning program) place (few + f) p answers ≡ code_run (meaning program) place f q answers)
      → At q.machine.regs.pc (plain (edge_code globals function now.block to) ++ Goto (block_label function to) ∷ more) → to < length function.blocks → (step program now here).does ≡ Goes (jump program function now to) here
      → Onward program a s place Here (u + phi_units function to) now (jump program function now to) here p
  goto-step now here p q few u to more stood long held short one run st exists does =
      edge-step now here p q few u to 1 (Goto (block_label function to) ∷ more) stood long held short one run st (λ r at sp. at.1 r refl sp) exists does (inl (omega arith))

  -- a block falls through to the next
  left-behind : (now : Activation) (here : Memory) (to : ℕ) → Stood now here → to ≡ now.block + 1 → to < length function.blocks
      → blocks_left program a s place Here (jump program function now to) < blocks_left program a s place Here now
  left-behind now here to stood next exists =
      let all : of_function 0 (λ (f : Function). length f.blocks) (function_at program now.symbol) ≡ length function.blocks = ap (of_function 0 (λ (f : Function). length f.blocks)) (is-function now here stood) in
      omega (arith, all, next, exists)

  next-label : (now : Activation) (here : Memory) (p : Point) (inst : Inst) (h : Here now here p) → slice_get (insts_at function now.block) now.place ≡ Some inst → IsJump inst.op
      → now.block + 1 < length function.blocks → (pc : ℕ) → At pc (behind_it now h.rest) → labels (block_label function (now.block + 1)) ≡ pc
  next-label now here p inst h at is-jump exists pc st =
      let none = nothing-behind (insts_at function now.block) (now.place + 1) (flow.ends now.block now.place inst at is-jump) in
      let st' = subst (λ (insts : List Inst). At pc (insts_items globals function program.room fr now.block (now.place + 1) insts ++ h.rest)) none st in
      let next = h.comes exists in
      let st'' : At pc (Bind (block_label function (now.block + 1)) ∷ next.0) = subst (At pc) next.1 st' in
      st''.0

  -- the edge at the end of a block
  pub last-edge-step : (now : Activation) (here : Memory) (p q : Point) (inst : Inst) (few to : ℕ) (h : Here now here p) → slice_get (insts_at function now.block) now.place ≡ Some inst → IsJump inst.op
      → Held now.values here q → few ≤ 16 * units inst
      → ((f : ℕ) (answers : List CodeReply) → code_run (meaning program) place (few + f) p answers ≡ code_run (meaning program) place f q answers)
      → At q.machine.regs.pc (last_edge_items globals function now.block to ++ behind_it now h.rest) → to < length function.blocks → (step program now here).does ≡ Goes (jump program function now to) here
      → Onward program a s place Here (units inst + phi_units function to) now (jump program function now to) here p
  last-edge-step now here p q inst few to h at is-jump held short run st exists does = by_test (to == now.block + 1) refl (subst (At q.machine.regs.pc) (append_assoc (plain (edge_code globals function now.block to)) (cond (to == now.block + 1) [] (Goto (block_label function to) ∷ [])) (behind_it now h.rest)) st)
    where
      by_test : (b : Bool) → (to == now.block + 1) ≡ b → At q.machine.regs.pc (plain (edge_code globals function now.block to) ++ (cond b [] (Goto (block_label function to) ∷ []) ++ behind_it now h.rest))
          → Onward program a s place Here (units inst + phi_units function to) now (jump program function now to) here p
      by_test false e st = goto-step now here p q few (units inst) to (behind_it now h.rest) h.stood h.long held short (units-some inst) run st exists does
      by_test true e st =
          let next : to ≡ now.block + 1 = eqb-true to (now.block + 1) e in
          edge-step now here p q few (units inst) to 0 (behind_it now h.rest) h.stood h.long held short (units-some inst) run st
          (λ r at-r sp. record {
            count = 0;
            point = r;
            some = omega arith;
            few = omega arith;
            run = λ f answers. ap (λ (k : ℕ). code_run (meaning program) place k r answers) (let z : 0 + f ≡ f = omega arith in z);
            there = sym (next-label now here p inst h at is-jump (omega (arith, next, exists)) r.machine.regs.pc at-r) ∙ ap (λ (b : ℕ). labels (block_label function b)) (sym next);
            others = λ i ne. refl;
            bytes = refl;
            control = refl;
            counted = refl;
          })
          exists does (inr (left-behind now here to h.stood next exists))

  -- ---- jumps and branches

  pub br-step : (now : Activation) (here : Memory) (p : Point) (gives : Ty) (to : ℕ) → Here now here p
      → slice_get (insts_at function now.block) now.place ≡ Some (record { gives = gives; op = Br to })
      → Done (act program function now here (record { gives = gives; op = Br to }) (Br to)).units now here p (act program function now here (record { gives = gives; op = Br to }) (Br to)).does
  br-step now here p gives to h at =
      let inst : Inst = record { gives = gives; op = Br to } in
      let ty = typed-at now.block now.place inst at in
      let does = ap (λ (st : Step). st.does) (step-is now here (Some inst) h.stood at) in
      last-edge-step now here p p inst 0 to h at tt h.held (omega arith)
      (λ f answers. ap (λ (k : ℕ). code_run (meaning program) place k p answers) (let z : 0 + f ≡ f = omega arith in z)) (code-at now here p inst h at) ty.1 does

  -- the condition is loaded and tested
  record Tested (now : Activation) (here : Memory) (p : Point) (op : BranchOp) (condition : Operand) (fails holds : ℕ) (rest : List Item) : Type 0 where
    number : ℕ
    behind : ℕ
    at-test : Point
    means : Is (operand program now.values condition) number
    hop : Hops (meaning program) place 1 at-test (cond (is_taken op number 0) (labels (edge_label function now.block)) behind)
    few : ℕ
    short : few ≤ 16
    run : (f : ℕ) (answers : List CodeReply) → code_run (meaning program) place (few + f) p answers ≡ code_run (meaning program) place f hop.point answers
    held : Held now.values here hop.point
    code : At behind (edge_items globals function now.block fails ++ Bind (edge_label function now.block) ∷ (last_edge_items globals function now.block holds ++ rest))

  tested : (now : Activation) (here : Memory) (p : Point) (op : BranchOp) (condition : Operand) (fails holds : ℕ) (rest : List Item) → Here now here p
      → At p.machine.regs.pc (branch_items globals function now.block op condition fails holds ++ rest) → IsSlotOperand n condition → Tested now here p op condition fails holds rest
  tested now here p op condition fails holds rest h st small =
      let c0 : List Instr = value_code globals T0 condition in
      let lab = edge_label function now.block in
      let tail : List Item = edge_items globals function now.block fails ++ Bind lab ∷ last_edge_items globals function now.block holds in
      let all = subst (λ (items : List Item). At p.machine.regs.pc items) (append_assoc (plain c0) (Test op T0 X0 lab ∷ tail) rest) st in
      let parts = plain-apart (meaning program) place labels p.machine.regs.pc c0 (Test op T0 X0 lab ∷ (tail ++ rest)) all in
      let l0 = value-brings program a s low fr n (meaning program) typed.functions typed.room place stands.low stands.high bottom top refl now.values here p T0 condition scratch-t0 small h.held parts.0 in
      let p0 : Point = l0.point in
      let x : ℕ = p0.machine.regs.x 5 in
      let test = parts.1 in
      let sp-is = l0.holds.sp in
      let inside = entering in
      let hop = test.2 p0 l0.pc (λ z. let bad : ⊥ = omega (arith, z, sp-is, inside) in bad) in
      let o = value-short globals T0 condition in
      let hf = hop.few in
      record {
        number = x;
        behind = test.0;
        at-test = p0;
        means = l0.is;
        hop = hop;
        few = length c0 + hop.count;
        short = omega (arith, o, hf);
        run = λ f answers.
            ap (λ (k : ℕ). code_run (meaning program) place k p answers) (let z : length c0 + hop.count + f ≡ length c0 + (hop.count + f) = omega arith in z)
            ∙ l0.run (hop.count + f) answers
            ∙ hop.run f answers;
        held = hold-hopped program function a s low fr n (meaning program) typed.functions typed.room place stands.low stands.high bottom top refl 1 now.values here p0 (cond (is_taken op x 0) (labels lab) test.0) l0.holds hop;
        code = subst (λ (items : List Item). At test.0 items) (append_assoc (edge_items globals function now.block fails) (Bind lab ∷ last_edge_items globals function now.block holds) rest) test.3;
      }

  -- where the comparison fails
  fails-step : (now : Activation) (here : Memory) (p : Point) (inst : Inst) (op : BranchOp) (condition : Operand) (fails holds : ℕ) (rest : List Item) → Here now here p
      → (c : Tested now here p op condition fails holds rest) → is_taken op c.number 0 ≡ false → fails < length function.blocks → (step program now here).does ≡ Goes (jump program function now fails) here
      → Onward program a s place Here (units inst + phi_units function fails) now (jump program function now fails) here p
  fails-step now here p inst op condition fails holds rest h c not-taken exists does =
      let there' = c.hop.there ∙ ap (λ (b : Bool). cond b (labels (edge_label function now.block)) c.behind) not-taken in
      let more : List Item = Bind (edge_label function now.block) ∷ (last_edge_items globals function now.block holds ++ rest) in
      goto-step now here p c.hop.point c.few (units inst) fails more h.stood h.long c.held (let short = c.short in let one = units-some inst in omega (arith, short, one)) (units-some inst) c.run
      (subst (λ (k : ℕ). At k (plain (edge_code globals function now.block fails) ++ Goto (block_label function fails) ∷ more)) (sym there')
      (subst (λ (items : List Item). At c.behind items) (append_assoc (plain (edge_code globals function now.block fails)) (Goto (block_label function fails) ∷ []) more) c.code))
      exists does

  -- where it holds
  holds-step : (now : Activation) (here : Memory) (p : Point) (inst : Inst) (op : BranchOp) (condition : Operand) (fails holds : ℕ) (h : Here now here p)
      → slice_get (insts_at function now.block) now.place ≡ Some inst → IsJump inst.op
      → (c : Tested now here p op condition fails holds (behind_it now h.rest)) → is_taken op c.number 0 ≡ true → holds < length function.blocks → (step program now here).does ≡ Goes (jump program function now holds) here
      → Onward program a s place Here (units inst + phi_units function holds) now (jump program function now holds) here p
  holds-step now here p inst op condition fails holds h at is-jump c taken exists does =
      let there' = c.hop.there ∙ ap (λ (b : Bool). cond b (labels (edge_label function now.block)) c.behind) taken in
      let bound = behind-items (meaning program) place labels (edge_items globals function now.block fails) (Bind (edge_label function now.block) ∷ (last_edge_items globals function now.block holds ++ behind_it now h.rest)) c.behind c.code in
      last-edge-step now here p c.hop.point inst c.few holds h at is-jump c.held (let short = c.short in let one = units-some inst in omega (arith, short, one)) c.run
      (subst (λ (k : ℕ). At k (last_edge_items globals function now.block holds ++ behind_it now h.rest)) (sym bound.1.0 ∙ sym there') bound.1.1)
      exists does

  pub cond-step : (now : Activation) (here : Memory) (p : Point) (gives : Ty) (condition : Operand) (if_true if_false : ℕ) → Here now here p
      → slice_get (insts_at function now.block) now.place ≡ Some (record { gives = gives; op = CondBr condition if_true if_false })
      → Done (act program function now here (record { gives = gives; op = CondBr condition if_true if_false }) (CondBr condition if_true if_false)).units now here p
      (act program function now here (record { gives = gives; op = CondBr condition if_true if_false }) (CondBr condition if_true if_false)).does
  cond-step now here p gives condition if_true if_false h at =
      by_test (if_false == now.block + 1) (code-at now here p (record { gives = gives; op = CondBr condition if_true if_false }) h at) (operand program now.values condition) refl
    where
      inst : Inst
      inst = record { gives = gives; op = CondBr condition if_true if_false }

      small : IsSlotOperand n condition
      small = operand-inside function (Int 1) condition (omega arith) (typed-at now.block now.place inst at).1

      does : (v : Value) → operand program now.values condition ≡ v → (step program now here).does ≡ (take_edge program function now here inst (branch_target v if_true if_false)).does
      does v e = ap (λ (st : Step). st.does) (step-is now here (Some inst) h.stood at) ∙ ap (λ (w : Value). (take_edge program function now here inst (branch_target w if_true if_false)).does) e

      not-zero : (x k : ℕ) → x ≡ suc k → (x == 0) ≡ false
      not-zero x k e = grind arith

      true-exists : if_true < length function.blocks
      true-exists = (typed-at now.block now.place inst at).2

      false-exists : if_false < length function.blocks
      false-exists = (typed-at now.block now.place inst at).3

      by_test : (b : Bool) → At p.machine.regs.pc (cond b (branch_items globals function now.block Beq condition if_true if_false) (branch_items globals function now.block Bne condition if_false if_true) ++ behind_it now h.rest)
          → (v : Value) → operand program now.values condition ≡ v
          → Done (take_edge program function now here inst (branch_target v if_true if_false)).units now here p (take_edge program function now here inst (branch_target v if_true if_false)).does
      by_test b st None e = tt
      by_test true st (Some zero) e =
          let c = tested now here p Beq condition if_true if_false (behind_it now h.rest) h st small in
          holds-step now here p inst Beq condition if_true if_false h at tt c (ap (λ (x : ℕ). x == 0) (c.means 0 e)) false-exists (does (Some zero) e)
      by_test true st (Some (suc k)) e =
          let c = tested now here p Beq condition if_true if_false (behind_it now h.rest) h st small in
          fails-step now here p inst Beq condition if_true if_false (behind_it now h.rest) h c (not-zero c.number k (c.means (suc k) e)) true-exists (does (Some (suc k)) e)
      by_test false st (Some zero) e =
          let c = tested now here p Bne condition if_false if_true (behind_it now h.rest) h st small in
          fails-step now here p inst Bne condition if_false if_true (behind_it now h.rest) h c (ap (λ (x : ℕ). not (x == 0)) (c.means 0 e)) false-exists (does (Some zero) e)
      by_test false st (Some (suc k)) e =
          let c = tested now here p Bne condition if_false if_true (behind_it now h.rest) h st small in
          holds-step now here p inst Bne condition if_false if_true h at tt c (ap not (not-zero c.number k (c.means (suc k) e))) true-exists (does (Some (suc k)) e)
