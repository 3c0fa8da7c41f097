-- The code of a function of several blocks does what each step of its play does.
use Rattle.std.proofs.Common.{◌≡◌, refl, sym, ap, subst, ◌∙◌, ℕ, ◌+◌, ◌-◌, ◌*◌, ◌%◌, ◌^◌, ◌≢◌, ◌<◌, ◌≤◌, ◌⊎◌, inl, inr, List, [], ◌∷◌, ◌++◌, length, Option, Some, None, Bool, true, false, cond, arith, append_assoc}
use Rattle.std.specs.Prelude.{◌==◌, map, slice_get, drop}
use Rattle.std.proofs.lemmas.Bool.{and_parts, eqb-true, eqb-false, eq-eqb, ne_eqb}
use Rattle.std.proofs.Math.Pow.{pow_mono}
use Rattle.std.proofs.lemmas.List.{length-append}
use Rattle.ir_core.specs.declared.types.Ty.{Ty}
use Rattle.ir_core.specs.declared.types.Ty.TheVariants.{Void, Int, Ptr}
use Rattle.ir_core.specs.declared.types.MemTy.{MemTy}
use Rattle.ir_core.specs.declared.code.Operand.TheVariants.{Num}
use Rattle.ir_core.specs.declared.code.Operand.{Operand}
use Rattle.ir_core.specs.declared.code.BinOp.{BinOp}
use Rattle.ir_core.specs.declared.code.CastOp.{CastOp}
use Rattle.ir_core.specs.declared.code.BuiltIn.{BuiltIn}
use Rattle.ir_core.specs.declared.code.Flags.{Flags}
use Rattle.ir_core.specs.declared.code.Pred.{Pred}
use Rattle.ir_core.specs.declared.code.Op.{Op}
use Rattle.ir_core.specs.declared.code.Op.TheVariants.{Binary, Icmp, Cast, Select, Freeze, Phi, Alloca, Load, Store, Gep, Call, BuiltIn as CallBuiltIn, Ret, Br, CondBr, Switch, Unreachable}
use Rattle.ir_core.specs.declared.code.BuiltIn.{BuiltIn}
use Rattle.ir_core.specs.declared.code.Inst.{Inst}
use Rattle.ir_core.specs.declared.program.Function.{Function}
use Rattle.ir_core.specs.declared.program.Global.{Global}
use Rattle.ir_core.specs.Units.{frame, units, values as value_count, types_of_arguments}
use Rattle.rv_core.specs.declared.reg.Reg.TheVariants.{Sp, T0, T1, S11}
use Rattle.rv_core.specs.declared.instr.BranchOp.TheVariants.{Beq}
use Rattle.rv_core.specs.declared.instr.Instr.{Instr}
use Rattle.rv_core.specs.Bytes.{load_bytes}
use Rattle.rv_core.specs.Step.{read, written, sign_extend_word, is_taken}
use Rattle.ir_meaning.specs.declared.activation.Activation.{Activation}
use Rattle.ir_meaning.specs.Value.{Value}
use Rattle.ir_meaning.specs.Memory.{Memory}
use Rattle.ir_meaning.specs.Operators.{width}
use Rattle.ir_meaning.specs.Step.{moves_bytes, Program, Does, Step, Goes, Calls, step, step_at, act, behind, operand, arguments_of, jump, switch_target, case_block, take_edge, answered, answered_in, answered_at, phis, phi_units, function_at, insts_at, number_at, stack_start}
use Rattle.ir_meaning.specs.Plays.{Invocation}
use Rattle.ir_meaning.specs.Meaning.{meaning, of_function}
use Rattle.ir_meaning.specs.Ranges.{FitsResult, AreArgs, IsInvocation}
use Rattle.ir_meaning.specs.Typed.{IsTyped, IsOp, IsInteger, AreCases}
use Rattle.ir_meaning.proofs.Keeping.{DoesFit}
use Rattle.ir_meaning.proofs.Ranges.{Standing, gives-of, does-fit, keeps-reply}
use Rattle.rv_play.specs.Machine.{Machine, code_base, control_base, control_end, stub_of}
use Rattle.rv_play.specs.Ending.{upper}
use Rattle.rv_play.specs.CodePlay.{Place, Point, CodeReply, code_run, place_of, resume}
use Rattle.rv_play.specs.Good.{IsBase, Enters, RefinesResult, AtCall, arg_regs}
use Rattle.rv_play.proofs.Lines.{Stands, stands-apart}
use Rattle.code_pieces.specs.Code.{call_code}
use Rattle.quick_code.specs.Data.{takes_data}
use Rattle.quick_code.specs.Parts.{pieces, is_path, AreSmall}
use Rattle.quick_code.specs.Operations.{value_code, values_code}
use Rattle.code_pieces.specs.Items.{Item, Goto, Test, Bind, plain}
use Rattle.quick_code.specs.Blocks.{is_headless, first_to, case_label, case_edge, case_edges, are_headless, switch_edges, cases_items, nexts_code, phis_code, block_label, edge_label, edge_code, edge_items, last_edge_items, answer_code, op_items, insts_items}
use Rattle.code_pieces.specs.Labels.{Hops, StandsAs}
use Rattle.quick_code.specs.Forms.{IsForm, IsFlow, IsJump}
use Rattle.code_pieces.proofs.Slots.{other-register}
use Rattle.code_pieces.proofs.Frame.{Holds, scratch-t0, scratch-t1}
use Rattle.quick_code.proofs.Operations.{AreIn, scratch-arguments, value-short, values-short, value-brings, values-bring}
use Rattle.quick_code.proofs.Arguments.{answer-goes, answer-short}
use Rattle.code_pieces.proofs.Calling.{call_point, call-runs, hold-call, hold-resumed}
use Rattle.quick_code.proofs.Refines.{args-refine, arguments-read}
use Rattle.code_pieces.proofs.Labelled.{plain-apart, behind-items}
use Rattle.quick_code.proofs.Labelled.{StandsThere}
use Rattle.quick_code.proofs.Edges.{hold-hopped, units-some}
use Rattle.quick_code.proofs.Numbers.{operand-inside, number-inside}
use Rattle.quick_code.proofs.Typing.{callee-gives, callee-takes, arguments-inside, callee-result, values-of, arguments-many}
use Rattle.quick_code.proofs.Simulation.{Onward, Advances, Steps, blocks_left}
use Rattle.quick_code.proofs.FlowState.{bottom as any-bottom, sum-is as any-sum-is, top as any-top, entering as any-entering, Here as AnyHere, is-function as any-is-function, step-is as any-step-is, typed-at as any-typed-at, code-at as any-code-at}
use Rattle.quick_code.proofs.FlowValues.{does-it as any-does-it, binary-step as any-binary-step, icmp-step as any-icmp-step, cast-step as any-cast-step, select-step as any-select-step, freeze-step as any-freeze-step, gep-step as any-gep-step, load-step as any-load-step, store-step as any-store-step, alloca-step as any-alloca-step}
use Rattle.quick_code.proofs.FlowBytes.{built_in-turn as any-built_in-turn}
use Rattle.quick_code.proofs.FlowEdges.{ret-step as any-ret-step, edge-step as any-edge-step, goto-step as any-goto-step, last-edge-step as any-last-edge-step, br-step as any-br-step, cond-step as any-cond-step}

-- a case leads to a block
abbrev Among : ℕ → List (ℕ × ℕ) → Type 0
Among to [] = ⊥
Among to (one ∷ cases) = (one.1 ≡ to) ⊎ Among to cases

later-among : (one : ℕ × ℕ) (to : ℕ) (cases : List (ℕ × ℕ)) → Among to (one ∷ cases) → one.1 ≢ to → Among to cases
later-among one to cases (inl e) other = absurd (other e)
later-among one to cases (inr among) other = among

no-heads : (insts : List Inst) → is_headless insts ≡ true → insts ≡ []
no-heads [] e = refl
no-heads (inst ∷ insts) e = absurd (let bad : false ≡ true = e in cc)

among-headless : (function : Function) (to : ℕ) (cases : List (ℕ × ℕ)) → Among to cases → are_headless function cases ≡ true → is_headless (phis (insts_at function to)) ≡ true
among-headless function to [] among e = absurd among
among-headless function to (one ∷ cases) (inl same) e =
    ap (λ (b : ℕ). is_headless (phis (insts_at function b))) (sym same) ∙ (and_parts (is_headless (phis (insts_at function one.1))) (are_headless function cases) e).0
among-headless function to (one ∷ cases) (inr among) e = among-headless function to cases among (and_parts (is_headless (phis (insts_at function one.1))) (are_headless function cases) e).1

module _ (program : Program) (typed : IsTyped program) (function : Function) (flow : IsFlow function) (a : Invocation) (is : IsInvocation (meaning program) a) (there : function_at program a.symbol ≡ Some function)
    (s : Machine) (words : List ℕ) (base : ℕ) (stands : IsBase words base) (enters : Enters (meaning program) a s) (fits-frame : stack_start + frame function ≤ a.sp) (is-aside : takes_data function ≡ true → load_bytes s.control (a.sp - (128 + 32 * value_count function) + (128 + 32 * value_count function - 104)) 8 ≡ read s.regs S11) (labels : ℕ → ℕ) (aligned : (label : ℕ) → labels label % 4 ≡ 0)
    (placed : (block : ℕ) → block < length function.blocks → StandsThere (meaning program) (place_of words base s) labels program.module_.globals function program.room (frame function) block (length function.blocks)) where
  abbrev globals : List Global
  globals = program.module_.globals

  abbrev n : ℕ
  n = value_count function

  abbrev fr : ℕ
  fr = 128 + 32 * n

  abbrev low : ℕ
  low = a.sp - fr

  abbrev place : Place
  place = place_of words base s

  abbrev Stood : Activation → Memory → Type 0
  Stood = Standing program typed a is function there

  abbrev Held : List Value → Memory → Point → Type 0
  Held = Holds a s low fr

  abbrev At : ℕ → List Item → Type 0
  At = StandsAs (meaning program) place labels

  bottom : control_base ≤ low
  bottom = any-bottom program typed function flow a is there s words base stands enters fits-frame is-aside labels aligned placed

  sum-is : low + fr ≡ a.sp
  sum-is = any-sum-is program typed function flow a is there s words base stands enters fits-frame is-aside labels aligned placed

  top : low + fr ≤ control_end
  top = any-top program typed function flow a is there s words base stands enters fits-frame is-aside labels aligned placed

  entering : place.sp ≡ low + fr
  entering = any-entering program typed function flow a is there s words base stands enters fits-frame is-aside labels aligned placed

  abbrev IsLong : Memory → Type 0
  IsLong here = takes_data function ≡ false → length here ≡ length a.memory

  abbrev Here : Activation → Memory → Point → Type 0
  Here = AnyHere program typed function flow a is there s words base stands enters fits-frame is-aside labels aligned placed

  abbrev Done : ℕ → Activation → Memory → Point → Does → Type 0
  Done = Advances program a s place Here

  is-function : (now : Activation) (here : Memory) → Stood now here → function_at program now.symbol ≡ Some function
  is-function = any-is-function program typed function flow a is there s words base stands enters fits-frame is-aside labels aligned placed

  step-is : (now : Activation) (here : Memory) (o : Option Inst) → Stood now here → slice_get (insts_at function now.block) now.place ≡ o → step program now here ≡ step_at program now here function o
  step-is = any-step-is program typed function flow a is there s words base stands enters fits-frame is-aside labels aligned placed

  typed-at : (block k : ℕ) (inst : Inst) → slice_get (insts_at function block) k ≡ Some inst → IsOp program function inst.gives inst.op
  typed-at = any-typed-at program typed function flow a is there s words base stands enters fits-frame is-aside labels aligned placed

  abbrev behind_it : Activation → List Item → List Item
  behind_it now rest = insts_items globals function program.room fr now.block (now.place + 1) (drop (now.place + 1) (insts_at function now.block)) ++ rest

  code-at : (now : Activation) (here : Memory) (p : Point) (inst : Inst) (h : Here now here p) → slice_get (insts_at function now.block) now.place ≡ Some inst
      → At p.machine.regs.pc (op_items globals function program.room fr now.block (number_at function now.block now.place) inst.gives inst.op ++ behind_it now h.rest)
  code-at = any-code-at program typed function flow a is there s words base stands enters fits-frame is-aside labels aligned placed

  does-it : (now : Activation) (here : Memory) (inst : Inst) → Stood now here → slice_get (insts_at function now.block) now.place ≡ Some inst → (step program now here).does ≡ (act program function now here inst inst.op).does
  does-it = any-does-it program typed function flow a is there s words base stands enters fits-frame is-aside labels aligned placed

  binary-step : (now : Activation) (here : Memory) (p : Point) (gives : Ty) (op : BinOp) (flags : Flags) (x y : Operand) → Here now here p → slice_get (insts_at function now.block) now.place ≡ Some (record { gives = gives; op = Binary op flags x y })
      → Done (units (record { gives = gives; op = Binary op flags x y })) now here p (act program function now here (record { gives = gives; op = Binary op flags x y }) (Binary op flags x y)).does
  binary-step = any-binary-step program typed function flow a is there s words base stands enters fits-frame is-aside labels aligned placed

  icmp-step : (now : Activation) (here : Memory) (p : Point) (gives : Ty) (pred : Pred) (flags : Flags) (of : Ty) (x y : Operand) → Here now here p → slice_get (insts_at function now.block) now.place ≡ Some (record { gives = gives; op = Icmp pred flags of x y })
      → Done (units (record { gives = gives; op = Icmp pred flags of x y })) now here p (act program function now here (record { gives = gives; op = Icmp pred flags of x y }) (Icmp pred flags of x y)).does
  icmp-step = any-icmp-step program typed function flow a is there s words base stands enters fits-frame is-aside labels aligned placed

  cast-step : (now : Activation) (here : Memory) (p : Point) (gives : Ty) (op : CastOp) (flags : Flags) (of : Ty) (x : Operand) → Here now here p → slice_get (insts_at function now.block) now.place ≡ Some (record { gives = gives; op = Cast op flags of x })
      → Done (units (record { gives = gives; op = Cast op flags of x })) now here p (act program function now here (record { gives = gives; op = Cast op flags of x }) (Cast op flags of x)).does
  cast-step = any-cast-step program typed function flow a is there s words base stands enters fits-frame is-aside labels aligned placed

  select-step : (now : Activation) (here : Memory) (p : Point) (gives : Ty) (c x y : Operand) → Here now here p → slice_get (insts_at function now.block) now.place ≡ Some (record { gives = gives; op = Select c x y })
      → Done (units (record { gives = gives; op = Select c x y })) now here p (act program function now here (record { gives = gives; op = Select c x y }) (Select c x y)).does
  select-step = any-select-step program typed function flow a is there s words base stands enters fits-frame is-aside labels aligned placed

  freeze-step : (now : Activation) (here : Memory) (p : Point) (gives : Ty) (x : Operand) → Here now here p → slice_get (insts_at function now.block) now.place ≡ Some (record { gives = gives; op = Freeze x })
      → Done (units (record { gives = gives; op = Freeze x })) now here p (act program function now here (record { gives = gives; op = Freeze x }) (Freeze x)).does
  freeze-step = any-freeze-step program typed function flow a is there s words base stands enters fits-frame is-aside labels aligned placed

  gep-step : (now : Activation) (here : Memory) (p : Point) (gives : Ty) (of : MemTy) (base : Operand) (indices : List (Ty × Operand)) → Here now here p
      → slice_get (insts_at function now.block) now.place ≡ Some (record { gives = gives; op = Gep of base indices }) → is_path of indices ≡ true → AreSmall (pieces of indices)
      → Done (units (record { gives = gives; op = Gep of base indices })) now here p (act program function now here (record { gives = gives; op = Gep of base indices }) (Gep of base indices)).does
  gep-step = any-gep-step program typed function flow a is there s words base stands enters fits-frame is-aside labels aligned placed

  load-step : (now : Activation) (here : Memory) (p : Point) (gives : Ty) (x : Operand) → Here now here p → slice_get (insts_at function now.block) now.place ≡ Some (record { gives = gives; op = Load x })
      → Done (units (record { gives = gives; op = Load x })) now here p (act program function now here (record { gives = gives; op = Load x }) (Load x)).does
  load-step = any-load-step program typed function flow a is there s words base stands enters fits-frame is-aside labels aligned placed

  store-step : (now : Activation) (here : Memory) (p : Point) (gives of : Ty) (x y : Operand) → Here now here p → slice_get (insts_at function now.block) now.place ≡ Some (record { gives = gives; op = Store of x y })
      → Done (units (record { gives = gives; op = Store of x y })) now here p (act program function now here (record { gives = gives; op = Store of x y }) (Store of x y)).does
  store-step = any-store-step program typed function flow a is there s words base stands enters fits-frame is-aside labels aligned placed

  alloca-step : (now : Activation) (here : Memory) (p : Point) (gives : Ty) (of : MemTy) (count : ℕ) → Here now here p → slice_get (insts_at function now.block) now.place ≡ Some (record { gives = gives; op = Alloca of count })
      → Done (units (record { gives = gives; op = Alloca of count })) now here p (act program function now here (record { gives = gives; op = Alloca of count }) (Alloca of count)).does
  alloca-step = any-alloca-step program typed function flow a is there s words base stands enters fits-frame is-aside labels aligned placed

  built_in-turn : (now : Activation) (here : Memory) (p : Point) (gives : Ty) (which : BuiltIn) (arguments : List (Ty × Operand)) → Here now here p
      → slice_get (insts_at function now.block) now.place ≡ Some (record { gives = gives; op = CallBuiltIn which arguments }) → (moves_bytes which ≡ false → length arguments ≡ 2)
      → Done (act program function now here (record { gives = gives; op = CallBuiltIn which arguments }) (CallBuiltIn which arguments)).units now here p
      (act program function now here (record { gives = gives; op = CallBuiltIn which arguments }) (CallBuiltIn which arguments)).does
  built_in-turn = any-built_in-turn program typed function flow a is there s words base stands enters fits-frame is-aside labels aligned placed

  ret-step : (now : Activation) (here : Memory) (p : Point) (gives : Ty) (answer : Option Operand) → Here now here p
      → slice_get (insts_at function now.block) now.place ≡ Some (record { gives = gives; op = Ret answer })
      → Done (units (record { gives = gives; op = Ret answer })) now here p (act program function now here (record { gives = gives; op = Ret answer }) (Ret answer)).does
  ret-step = any-ret-step program typed function flow a is there s words base stands enters fits-frame is-aside labels aligned placed

  abbrev heads : ℕ → List Inst
  heads to = phis (insts_at function to)

  edge-step : (now : Activation) (here : Memory) (p q : Point) (few u to least : ℕ) (go : List Item) → Stood now here → IsLong here → Held now.values here q → few ≤ 16 * u → 1 ≤ u
      → ((f : ℕ) (answers : List CodeReply) → code_run (meaning program) place (few + f) p answers ≡ code_run (meaning program) place f q answers)
      → At q.machine.regs.pc (plain (edge_code globals function now.block to) ++ go)
      → ((r : Point) → At r.machine.regs.pc go → read r.machine.regs Sp ≢ place.sp → Hops (meaning program) place least r (labels (block_label function to)))
      → to < length function.blocks → (step program now here).does ≡ Goes (jump program function now to) here
      → (1 ≤ few + least) ⊎ (blocks_left program a s place Here (jump program function now to) < blocks_left program a s place Here now)
      → Onward program a s place Here (u + phi_units function to) now (jump program function now to) here p
  edge-step = any-edge-step program typed function flow a is there s words base stands enters fits-frame is-aside labels aligned placed

  goto-step : (now : Activation) (here : Memory) (p q : Point) (few u to : ℕ) (more : List Item) → Stood now here → IsLong here → Held now.values here q → few ≤ 16 * u → 1 ≤ u
      → ((f : ℕ) (answers : List CodeReply) → code_run (meaning program) place (few + f) p answers ≡ code_run (meaning program) place f q answers)
      → At q.machine.regs.pc (plain (edge_code globals function now.block to) ++ Goto (block_label function to) ∷ more) → to < length function.blocks → (step program now here).does ≡ Goes (jump program function now to) here
      → Onward program a s place Here (u + phi_units function to) now (jump program function now to) here p
  goto-step = any-goto-step program typed function flow a is there s words base stands enters fits-frame is-aside labels aligned placed

  last-edge-step : (now : Activation) (here : Memory) (p q : Point) (inst : Inst) (few to : ℕ) (h : Here now here p) → slice_get (insts_at function now.block) now.place ≡ Some inst → IsJump inst.op
      → Held now.values here q → few ≤ 16 * units inst
      → ((f : ℕ) (answers : List CodeReply) → code_run (meaning program) place (few + f) p answers ≡ code_run (meaning program) place f q answers)
      → At q.machine.regs.pc (last_edge_items globals function now.block to ++ behind_it now h.rest) → to < length function.blocks → (step program now here).does ≡ Goes (jump program function now to) here
      → Onward program a s place Here (units inst + phi_units function to) now (jump program function now to) here p
  last-edge-step = any-last-edge-step program typed function flow a is there s words base stands enters fits-frame is-aside labels aligned placed

  br-step : (now : Activation) (here : Memory) (p : Point) (gives : Ty) (to : ℕ) → Here now here p
      → slice_get (insts_at function now.block) now.place ≡ Some (record { gives = gives; op = Br to })
      → Done (act program function now here (record { gives = gives; op = Br to }) (Br to)).units now here p (act program function now here (record { gives = gives; op = Br to }) (Br to)).does
  br-step = any-br-step program typed function flow a is there s words base stands enters fits-frame is-aside labels aligned placed

  cond-step : (now : Activation) (here : Memory) (p : Point) (gives : Ty) (condition : Operand) (if_true if_false : ℕ) → Here now here p
      → slice_get (insts_at function now.block) now.place ≡ Some (record { gives = gives; op = CondBr condition if_true if_false })
      → Done (act program function now here (record { gives = gives; op = CondBr condition if_true if_false }) (CondBr condition if_true if_false)).units now here p
      (act program function now here (record { gives = gives; op = CondBr condition if_true if_false }) (CondBr condition if_true if_false)).does
  cond-step = any-cond-step program typed function flow a is there s words base stands enters fits-frame is-aside labels aligned placed

  -- ---- a switch

  -- the code stands at a block's label
  at-label : (r : Point) (label : ℕ) (more : List Item) → At r.machine.regs.pc (Bind label ∷ more) → Hops (meaning program) place 0 r (labels label)
  at-label r label more st = record {
    count = 0;
    point = r;
    some = omega arith;
    few = omega arith;
    run = λ f answers. ap (λ (k : ℕ). code_run (meaning program) place k r answers) (let z : 0 + f ≡ f = omega arith in z);
    there = sym st.0;
    others = λ i ne. refl;
    bytes = refl;
    control = refl;
    counted = refl;
  }

  no-edge : (from to : ℕ) → phis (insts_at function to) ≡ [] → edge_code globals function from to ≡ []
  no-edge from to none = ap (λ (heads : List Inst). nexts_code globals function from to 0 heads) none

  -- the code has come to the label of a block without phis
  landed-step : (now : Activation) (here : Memory) (p q : Point) (inst : Inst) (few to : ℕ) → Here now here p → Held now.values here q → few ≤ 16 * units inst → 1 ≤ few
      → ((f : ℕ) (answers : List CodeReply) → code_run (meaning program) place (few + f) p answers ≡ code_run (meaning program) place f q answers)
      → q.machine.regs.pc ≡ labels (block_label function to) → phis (insts_at function to) ≡ [] → to < length function.blocks → (step program now here).does ≡ Goes (jump program function now to) here
      → Onward program a s place Here (units inst + phi_units function to) now (jump program function now to) here p
  landed-step now here p q inst few to h held short some run there' none exists does =
      let target = placed to exists in
      let block = target.1.1 in
      let tail : List Item = (plain (phis_code function to 0 (heads to)) ++ insts_items globals function program.room fr to (length (heads to)) (drop (length (heads to)) (insts_at function to))) ++ target.0 in
      let label : At (labels (block_label function to)) (Bind (block_label function to) ∷ tail) = (refl, block) in
      let st = subst (λ (code : List Instr). At q.machine.regs.pc (plain code ++ Bind (block_label function to) ∷ tail)) (sym (no-edge now.block to none))
      (subst (λ (k : ℕ). At k (Bind (block_label function to) ∷ tail)) (sym there') label) in
      edge-step now here p q few (units inst) to 0 (Bind (block_label function to) ∷ tail) h.stood h.long held short (units-some inst) run st
      (λ r at-r sp. at-label r (block_label function to) tail at-r) exists does (inl (omega (arith, some)))

  flip : (x y : ℕ) → (x == y) ≡ (y == x)
  flip x y = by_test (y == x) refl
    where
      by_test : (b : Bool) → (y == x) ≡ b → (x == y) ≡ b
      by_test true e = eq-eqb x y (sym (eqb-true y x e))
      by_test false e = ne_eqb x y (λ h. eqb-false y x e (sym h))

  -- where a case leads: to the label of a block without phis, or to that of an edge
  abbrev Lands : Activation → ℕ → ℕ → Type 0
  Lands now label to =
      ((label ≡ block_label function to) × (phis (insts_at function to) ≡ []))
      ⊎ ((more : List Item) × At (labels label) (plain (edge_code globals function now.block to) ++ Goto (block_label function to) ∷ more))

  land-step : (now : Activation) (here : Memory) (p q : Point) (inst : Inst) (few label to : ℕ) → Here now here p → Held now.values here q → few ≤ 16 * units inst → 1 ≤ few
      → ((f : ℕ) (answers : List CodeReply) → code_run (meaning program) place (few + f) p answers ≡ code_run (meaning program) place f q answers)
      → q.machine.regs.pc ≡ labels label → Lands now label to → to < length function.blocks → (step program now here).does ≡ Goes (jump program function now to) here
      → Onward program a s place Here (units inst + phi_units function to) now (jump program function now to) here p
  land-step now here p q inst few label to h held short some run there' (inl head) exists does = landed-step now here p q inst few to h held short some run (there' ∙ ap labels head.0) head.1 exists does
  land-step now here p q inst few label to h held short some run there' (inr edge) exists does =
      goto-step now here p q few (units inst) to edge.0 h.stood h.long held short (units-some inst) run
      (subst (λ (k : ℕ). At k (plain (edge_code globals function now.block to) ++ Goto (block_label function to) ∷ edge.0)) (sym there') edge.1) exists does

  -- each case leads somewhere
  abbrev AllLand : Activation → List (ℕ × ℕ) → List (ℕ × ℕ) → Type 0
  AllLand now all [] = Unit {0}
  AllLand now all (one ∷ cases) = Lands now (case_label function now.block all one.1) one.1 × AllLand now all cases

  all-land : (now : Activation) (all cases : List (ℕ × ℕ)) → ((to : ℕ) → Among to cases → Lands now (case_label function now.block all to) to) → AllLand now all cases
  all-land now all [] f = tt
  all-land now all (one ∷ cases) f = (f one.1 (inl refl), all-land now all cases (λ to among. f to (inr among)))

  head-lands : (now : Activation) (all : List (ℕ × ℕ)) (to : ℕ) → is_headless (phis (insts_at function to)) ≡ true → Lands now (case_label function now.block all to) to
  head-lands now all to e = inl (ap (λ (b : Bool). cond b (block_label function to) (edge_label function now.block + first_to 0 to all)) e, no-heads (phis (insts_at function to)) e)

  -- the edge to a block stands where its first case says
  edge-stands : (now : Activation) (all : List (ℕ × ℕ)) (to : ℕ) → is_headless (phis (insts_at function to)) ≡ false → (cases : List (ℕ × ℕ)) (number pc : ℕ) (rest : List Item) → Among to cases → first_to number to cases ≡ first_to 0 to all
      → At pc (case_edges globals function now.block all number cases ++ rest)
      → (more : List Item) × At (labels (edge_label function now.block + first_to 0 to all)) (plain (edge_code globals function now.block to) ++ Goto (block_label function to) ∷ more)
  edge-stands now all to heads [] number pc rest among same st = absurd among
  edge-stands now all to heads (one ∷ cases) number pc rest among same st =
      by_test (one.1 == to) refl (λ among' same' next. edge-stands now all to heads cases (number + 1) next.0 rest among' same' next.1)
    where
      mine : List Item
      mine = case_edge globals function now.block all number one.1

      later : List Item
      later = case_edges globals function now.block all (number + 1) cases

      st' : At pc (mine ++ (later ++ rest))
      st' = subst (At pc) (append_assoc mine later rest) st

      edge : ℕ → List Item
      edge k = Bind (edge_label function now.block + k) ∷ edge_items globals function now.block to

      found : one.1 ≡ to → first_to 0 to all ≡ number → mine ≡ edge number
      found is first =
          ap (λ (b : ℕ). case_edge globals function now.block all number b) is
          ∙ ap (λ (b : Bool). cond b [] (cond (first_to 0 to all == number) (edge number) [])) heads
          ∙ ap (λ (b : Bool). cond b (edge number) []) (eq-eqb (first_to 0 to all) number first)

      by_test : (b : Bool) → (one.1 == to) ≡ b
          → (Among to cases → first_to (number + 1) to cases ≡ first_to 0 to all → (q : ℕ) × At q (later ++ rest)
          → (more : List Item) × At (labels (edge_label function now.block + first_to 0 to all)) (plain (edge_code globals function now.block to) ++ Goto (block_label function to) ∷ more))
          → (more : List Item) × At (labels (edge_label function now.block + first_to 0 to all)) (plain (edge_code globals function now.block to) ++ Goto (block_label function to) ∷ more)
      by_test true e on =
          let is = eqb-true one.1 to e in
          let first : first_to 0 to all ≡ number = sym same ∙ ap (λ (b : Bool). cond b number (first_to (number + 1) to cases)) e in
          let here' : At pc (edge number ++ (later ++ rest)) = subst (λ (items : List Item). At pc (items ++ (later ++ rest))) (found is first) st' in
          let code = subst (λ (items : List Item). At pc items) (append_assoc (plain (edge_code globals function now.block to)) (Goto (block_label function to) ∷ []) (later ++ rest)) here'.1 in
          (later ++ rest, subst (λ (k : ℕ). At k (plain (edge_code globals function now.block to) ++ Goto (block_label function to) ∷ (later ++ rest))) (sym here'.0 ∙ ap (λ (k : ℕ). labels (edge_label function now.block + k)) (sym first)) code)
      by_test false e on =
          on (later-among one to cases among (eqb-false one.1 to e)) (sym (ap (λ (b : Bool). cond b number (first_to (number + 1) to cases)) e) ∙ same) (behind-items (meaning program) place labels mine (later ++ rest) pc st')

  edge-lands : (now : Activation) (all : List (ℕ × ℕ)) (pc : ℕ) (rest : List Item) → At pc (case_edges globals function now.block all 0 all ++ rest) → (to : ℕ) → Among to all → (b : Bool) → is_headless (phis (insts_at function to)) ≡ b
      → Lands now (case_label function now.block all to) to
  edge-lands now all pc rest st to among true e = head-lands now all to e
  edge-lands now all pc rest st to among false e =
      let at = edge-stands now all to e all 0 pc rest among refl st in
      inr (
        at.0,
        subst (λ (label : ℕ). At (labels label) (plain (edge_code globals function now.block to) ++ Goto (block_label function to) ∷ at.0))
            (sym (ap (λ (b : Bool). cond b (block_label function to) (edge_label function now.block + first_to 0 to all)) e)) at.1,
      )

  -- the number in t0 was tested against one case
  record Compared (now : Activation) (here : Memory) (p : Point) (few : ℕ) (one : ℕ × ℕ) (v label : ℕ) (rest : List Item) : Type 0 where
    more : ℕ
    some : 1 ≤ more
    short : more ≤ 11
    behind : ℕ
    point : Point
    run : (f : ℕ) (answers : List CodeReply) → code_run (meaning program) place (few + more + f) p answers ≡ code_run (meaning program) place f point answers
    held : Held now.values here point
    stays : point.machine.regs.x 5 ≡ v
    there' : point.machine.regs.pc ≡ cond (one.0 == v) (labels label) behind
    code : At behind rest

  compared : (now : Activation) (here : Memory) (p q : Point) (few : ℕ) (one : ℕ × ℕ) (v label : ℕ) (rest : List Item) → one.0 < 2 ^ 64 → Held now.values here q → q.machine.regs.x 5 ≡ v
      → ((f : ℕ) (answers : List CodeReply) → code_run (meaning program) place (few + f) p answers ≡ code_run (meaning program) place f q answers)
      → At q.machine.regs.pc (plain (value_code globals T1 (Num one.0)) ++ Test Beq T0 T1 label ∷ rest) → Compared now here p few one v label rest
  compared now here p q few one v label rest below held is-v run st =
      let c1 : List Instr = value_code globals T1 (Num one.0) in
      let parts = plain-apart (meaning program) place labels q.machine.regs.pc c1 (Test Beq T0 T1 label ∷ rest) st in
      let l1 = value-brings program a s low fr n (meaning program) typed.functions typed.room place stands.low stands.high bottom top refl now.values here q T1 (Num one.0) scratch-t1 below held parts.0 in
      let q1 : Point = l1.point in
      let x5 : ℕ = q1.machine.regs.x 5 in
      let x6 : ℕ = q1.machine.regs.x 6 in
      let is-v' : x5 ≡ v = l1.others 5 (λ z. omega (arith, z)) ∙ is-v in
      let test = parts.1 in
      let sp-is = l1.holds.sp in
      let inside = entering in
      let hop = test.2 q1 l1.pc (λ z. let bad : ⊥ = omega (arith, z, sp-is, inside) in bad) in
      let o = value-short globals T1 (Num one.0) in
      let hf = hop.few in let hs = hop.some in
      let loaded : x6 ≡ one.0 = l1.is one.0 refl in
      let same : (x5 == x6) ≡ (one.0 == v) = ap (λ (x : ℕ). x == x6) is-v' ∙ ap (λ (y : ℕ). v == y) loaded ∙ flip v one.0 in
      record {
        more = length c1 + hop.count;
        some = omega (arith, hs);
        short = omega (arith, o, hf);
        behind = test.0;
        point = hop.point;
        run = λ f answers.
            ap (λ (k : ℕ). code_run (meaning program) place k p answers) (let z : few + (length c1 + hop.count) + f ≡ few + (length c1 + (hop.count + f)) = omega arith in z)
            ∙ run (length c1 + (hop.count + f)) answers
            ∙ l1.run (hop.count + f) answers
            ∙ hop.run f answers;
        held = hold-hopped program function a s low fr n (meaning program) typed.functions typed.room place stands.low stands.high bottom top refl 1 now.values here q1
            (cond (is_taken Beq x5 x6) (labels label) test.0) l1.holds hop;
        stays = hop.others 5 (λ z. omega (arith, z)) ∙ is-v';
        there' = hop.there ∙ ap (λ (b : Bool). cond b (labels label) test.0) same;
        code = test.3;
      }

  -- the number in t0 is tested against the cases
  cases-step : (now : Activation) (here : Memory) (p : Point) (inst : Inst) (h : Here now here p) → (of : Ty) → width of ≤ 64 → (v otherwise to : ℕ) (all cases : List (ℕ × ℕ)) (few : ℕ) (q : Point) (tail : List Item) → AllLand now all cases
      → AreCases (length function.blocks) of cases → Held now.values here q → q.machine.regs.x 5 ≡ v → few + 11 * length cases ≤ 16 * units inst
      → ((f : ℕ) (answers : List CodeReply) → code_run (meaning program) place (few + f) p answers ≡ code_run (meaning program) place f q answers)
      → At q.machine.regs.pc (cases_items globals function now.block all cases ++ tail)
      → case_block v cases otherwise ≡ to → (step program now here).does ≡ Goes (jump program function now to) here
      → ((k : ℕ) (r : Point) → Held now.values here r → k ≤ 16 * units inst → ((f : ℕ) (answers : List CodeReply) → code_run (meaning program) place (k + f) p answers ≡ code_run (meaning program) place f r answers)
      → At r.machine.regs.pc tail → otherwise ≡ to → Onward program a s place Here (units inst + phi_units function to) now (jump program function now to) here p)
      → Onward program a s place Here (units inst + phi_units function to) now (jump program function now to) here p
  cases-step now here p inst h of thin v otherwise to all [] few q tail land typed-cases held is-v short run st leads does last = last few q held (omega (arith, short)) run st leads
  cases-step now here p inst h of thin v otherwise to all (one ∷ cases) few q tail land typed-cases held is-v short run st leads does last =
      let label = case_label function now.block all one.1 in
      let rest : List Item = cases_items globals function now.block all cases ++ tail in
      let c = compared now here p q few one v label rest (let power : 2 ^ width of ≤ 2 ^ 64 = pow_mono thin in let inside = typed-cases.0 in omega (arith, power, inside)) held is-v run
      (subst (At q.machine.regs.pc) (append_assoc (plain (value_code globals T1 (Num one.0))) (Test Beq T0 T1 label ∷ cases_items globals function now.block all cases) tail) st) in
      let cs = c.short in
      by_test c (one.0 == v) refl leads
      (λ at goes. cases-step now here p inst h of thin v otherwise to all cases (few + c.more) c.point tail land.1 typed-cases.2 c.held c.stays (omega (arith, short, cs)) c.run at goes does last)
    where
      by_test : (c : Compared now here p few one v (case_label function now.block all one.1) (cases_items globals function now.block all cases ++ tail)) (b : Bool) → (one.0 == v) ≡ b → cond b one.1 (case_block v cases otherwise) ≡ to
          → (At c.point.machine.regs.pc (cases_items globals function now.block all cases ++ tail) → case_block v cases otherwise ≡ to → Onward program a s place Here (units inst + phi_units function to) now (jump program function now to) here p)
          → Onward program a s place Here (units inst + phi_units function to) now (jump program function now to) here p
      by_test c true e goes on =
          let arrived = c.there' ∙ ap (λ (b : Bool). cond b (labels (case_label function now.block all one.1)) c.behind) e in
          let cs = c.short in
          let some = c.some in
          land-step now here p c.point inst (few + c.more) (case_label function now.block all one.1) to h c.held (omega (arith, short, cs)) (omega (arith, some)) c.run arrived
          (subst (λ (b : ℕ). Lands now (case_label function now.block all one.1) b) goes land.0) (subst (λ (b : ℕ). b < length function.blocks) goes typed-cases.1) does
      by_test c false e goes on =
          let arrived = c.there' ∙ ap (λ (b : Bool). cond b (labels (case_label function now.block all one.1)) c.behind) e in
          on (subst (λ (k : ℕ). At k (cases_items globals function now.block all cases ++ tail)) (sym arrived) c.code) goes

  narrow : (of : Ty) → IsInteger of → width of ≤ 64
  narrow (Int w) h = h.1
  narrow Void h = absurd h
  narrow Ptr h = absurd h

  -- the cases and the edges behind a number that stands in t0
  chosen-step : (now : Activation) (here : Memory) (p : Point) (inst : Inst) (h : Here now here p) → slice_get (insts_at function now.block) now.place ≡ Some inst → IsJump inst.op
      → (of : Ty) → width of ≤ 64 → (v otherwise to : ℕ) (cases : List (ℕ × ℕ)) (few : ℕ) (q : Point) → AreCases (length function.blocks) of cases → otherwise < length function.blocks
      → Held now.values here q → q.machine.regs.x 5 ≡ v → few + 11 * length cases ≤ 16 * units inst
      → ((f : ℕ) (answers : List CodeReply) → code_run (meaning program) place (few + f) p answers ≡ code_run (meaning program) place f q answers)
      → (b : Bool) → are_headless function cases ≡ b
      → At q.machine.regs.pc (cases_items globals function now.block cases cases
      ++ (cond b (last_edge_items globals function now.block otherwise) (edge_items globals function now.block otherwise ++ case_edges globals function now.block cases 0 cases) ++ behind_it now h.rest))
      → case_block v cases otherwise ≡ to → (step program now here).does ≡ Goes (jump program function now to) here
      → Onward program a s place Here (units inst + phi_units function to) now (jump program function now to) here p
  chosen-step now here p inst h at is-jump of thin v otherwise to cases few q typed-cases exists held is-v short run true e st leads does =
      cases-step now here p inst h of thin v otherwise to cases cases few q (last_edge_items globals function now.block otherwise ++ behind_it now h.rest)
      (all-land now cases cases (λ b among. head-lands now cases b (among-headless function b cases among e))) typed-cases held is-v short run st leads does
      (λ k r held' short' run' st' same.
      last-edge-step now here p r inst k to h at is-jump held' short' run' (subst (λ (b : ℕ). At r.machine.regs.pc (last_edge_items globals function now.block b ++ behind_it now h.rest)) same st')
      (subst (λ (b : ℕ). b < length function.blocks) same exists) does)
  chosen-step now here p inst h at is-jump of thin v otherwise to cases few q typed-cases exists held is-v short run false e st leads does =
      let first : List Item = edge_items globals function now.block otherwise in
      let edges : List Item = case_edges globals function now.block cases 0 cases in
      let behind = behind-items (meaning program) place labels (cases_items globals function now.block cases cases) ((first ++ edges) ++ behind_it now h.rest) q.machine.regs.pc st in
      let there' = behind-items (meaning program) place labels first (edges ++ behind_it now h.rest) behind.0 (subst (At behind.0) (append_assoc first edges (behind_it now h.rest)) behind.1) in
      cases-step now here p inst h of thin v otherwise to cases cases few q ((first ++ edges) ++ behind_it now h.rest)
      (all-land now cases cases (λ b among. edge-lands now cases there'.0 (behind_it now h.rest) there'.1 b among (is_headless (phis (insts_at function b))) refl)) typed-cases held is-v short run st leads does
      (λ k r held' short' run' st' same.
      goto-step now here p r k (units inst) to (edges ++ behind_it now h.rest) h.stood h.long held' short' (units-some inst) run'
      (subst (λ (b : ℕ). At r.machine.regs.pc (plain (edge_code globals function now.block b) ++ Goto (block_label function b) ∷ (edges ++ behind_it now h.rest))) same
      (subst (At r.machine.regs.pc) (append_assoc first edges (behind_it now h.rest) ∙ append_assoc (plain (edge_code globals function now.block otherwise)) (Goto (block_label function otherwise) ∷ []) (edges ++ behind_it now h.rest)) st'))
      (subst (λ (b : ℕ). b < length function.blocks) same exists) does)

  switch-step : (now : Activation) (here : Memory) (p : Point) (gives of : Ty) (value : Operand) (otherwise : ℕ) (cases : List (ℕ × ℕ)) → Here now here p
      → slice_get (insts_at function now.block) now.place ≡ Some (record { gives = gives; op = Switch of value otherwise cases })
      → Done (act program function now here (record { gives = gives; op = Switch of value otherwise cases }) (Switch of value otherwise cases)).units now here p
      (act program function now here (record { gives = gives; op = Switch of value otherwise cases }) (Switch of value otherwise cases)).does
  switch-step now here p gives of value otherwise cases h at = by_value (operand program now.values value) refl
    where
      inst : Inst
      inst = record { gives = gives; op = Switch of value otherwise cases }

      c0 : List Instr
      c0 = value_code globals T0 value

      does : (v : Value) → operand program now.values value ≡ v → (step program now here).does ≡ (take_edge program function now here inst (switch_target v cases otherwise)).does
      does v e = ap (λ (st : Step). st.does) (step-is now here (Some inst) h.stood at) ∙ ap (λ (w : Value). (take_edge program function now here inst (switch_target w cases otherwise)).does) e

      by_value : (v : Value) → operand program now.values value ≡ v
          → Done (take_edge program function now here inst (switch_target v cases otherwise)).units now here p (take_edge program function now here inst (switch_target v cases otherwise)).does
      by_value None e = tt
      by_value (Some v) e =
          let tests : List Item = cases_items globals function now.block cases cases in
          let tail : List Item = switch_edges globals function now.block otherwise cases in
          let st = subst (At p.machine.regs.pc) (append_assoc (plain c0) (tests ++ tail) (behind_it now h.rest)) (code-at now here p inst h at) in
          let parts = plain-apart (meaning program) place labels p.machine.regs.pc c0 ((tests ++ tail) ++ behind_it now h.rest) st in
          let ty = typed-at now.block now.place inst at in
          let l0 = value-brings program a s low fr n (meaning program) typed.functions typed.room place stands.low stands.high bottom top refl now.values here p T0 value scratch-t0 (operand-inside function of value (narrow of ty.1) ty.2) h.held parts.0 in
          let q : Point = l0.point in
          let o = value-short globals T0 value in
          chosen-step now here p inst h at tt of (narrow of ty.1) v otherwise (case_block v cases otherwise) cases (length c0) q ty.4 ty.3 l0.holds (l0.is v e) (omega (arith, o)) l0.run (are_headless function cases) refl
          (subst (At q.machine.regs.pc) (append_assoc tests tail (behind_it now h.rest)) (subst (λ (k : ℕ). At k ((tests ++ tail) ++ behind_it now h.rest)) (sym l0.pc) parts.1)) refl (does (Some v) e)

  -- ---- a call

  frame-of-callee : (meaning program).frame a.symbol ≡ fr
  frame-of-callee = ap (of_function 0 frame) there

  -- the machine stands at the callee's entry
  at-call : (g : ℕ) (arguments : List (Ty × Operand)) (values : List Value) (here : Memory) (q : Point) → Held values here q → q.machine.regs.pc % 4 ≡ 0 → code_base ≤ q.machine.regs.pc
      → AreIn (arguments_of program values arguments) 10 q.machine.regs.x → AreArgs ((meaning program).parameters g) (arguments_of program values arguments)
      → AtCall (meaning program) a s g (arguments_of program values arguments) here (call_point g q)
  at-call g arguments values here q held even inside given fit =
      let h = hold-call a s low fr (meaning program) typed.functions place stands.low stands.high entering (omega arith) g values here q held in
      let many = typed.functions in
      record {
        counted = h.counted;
        control = λ x le. h.kept x (let e = sum-is in omega (arith, e, le));
        sp = h.sp ∙ ap (λ (j : ℕ). a.sp - j) (sym frame-of-callee);
        top = h.data_top;
        ra = (omega (arith, even), inr (omega (arith, inside, many)));
        registers =
            args-refine ((meaning program).parameters g) (arguments_of program values arguments) arg_regs (λ i. (call_point g q).machine.regs.x (10 + i)) (call_point g q).machine.regs (arguments-read (call_point g q).machine.regs)
            (λ k v e.
            other-register (written q.machine.regs.x 6 (sign_extend_word (upper (stub_of g) * 2 ^ 12))) 1 (10 + k) (q.machine.regs.pc + 8) (λ z. let bad : ⊥ = omega (arith, z) in bad)
            ∙ other-register q.machine.regs.x 6 (10 + k) (sign_extend_word (upper (stub_of g) * 2 ^ 12)) (λ z. let bad : ⊥ = omega (arith, z) in bad)
            ∙ given k v e) fit;
        memory' = h.memory';
      }

  answered-is : (now : Activation) (here : Memory) (inst : Inst) (v : Value) → Stood now here → slice_get (insts_at function now.block) now.place ≡ Some inst → answered program now v ≡ behind function now inst v
  answered-is now here inst v h at = ap (answered_in now v) (is-function now here h) ∙ ap (answered_at now v function) at

  call-step : (now : Activation) (here : Memory) (p : Point) (gives : Ty) (g : ℕ) (arguments : List (Ty × Operand)) → Here now here p
      → slice_get (insts_at function now.block) now.place ≡ Some (record { gives = gives; op = Call g arguments }) → length arguments ≤ 8
      → Done (units (record { gives = gives; op = Call g arguments })) now here p (Calls g (arguments_of program now.values arguments))
  call-step now here p gives g arguments h at few =
      let inst : Inst = record { gives = gives; op = Call g arguments } in
      let d = number_at function now.block now.place in
      let values = now.values in
      let given = arguments_of program values arguments in
      let os : List Operand = map (λ argument. argument.1) arguments in
      let ca : List Instr = values_code globals 10 os in
      let cs : List Instr = call_code g ++ answer_code gives d in
      let does : (step program now here).does ≡ Calls g given = does-it now here inst h.stood at in
      let ty = typed-at now.block now.place inst at in
      let fit : DoesFit program function (gives-of program typed a is function there now) (Calls g given) =
      subst (DoesFit program function (gives-of program typed a is function there now)) does (does-fit program typed a is function there now here h.stood) in
      let is-type = callee-gives program typed g (types_of_arguments arguments) gives (function_at program g) refl ty.0 in
      let many = arguments-many arguments in
      let parts = plain-apart (meaning program) place labels p.machine.regs.pc (ca ++ cs) (behind_it now h.rest) (code-at now here p inst h at) in
      let parts' = stands-apart place p.machine.regs.pc ca cs parts.0 in
      let t = values-bring program a s low fr n (meaning program) typed.functions typed.room place stands.low stands.high bottom top refl values here p 10 os (scratch-arguments (length os) (omega (arith, few, many)))
      (arguments-inside function arguments (callee-takes program typed g (types_of_arguments arguments) gives (function_at program g) refl ty.0) ty.1) h.held parts'.0 in
      let q : Point = t.point in
      let pc = t.pc in
      let even = h.even in
      let sta : Stands place q.machine.regs.pc cs = subst (λ (j : ℕ). Stands place j cs) (sym pc) parts'.1 in
      let parts'' = stands-apart place q.machine.regs.pc (call_code g) (answer_code gives d) sta in
      let low-pc = sta.0 in
      let short = values-short globals 10 os in
      let calls = call-runs a s low fr (meaning program) typed.functions place stands.low stands.high entering (omega arith) g values here q fit.0 t.holds parts''.0 in
      let len = length-append ca cs in
      let last = answer-short gives d in
      record {
        count = length ca + 2;
        more = length (answer_code gives d);
        point = call_point g q;
        some = omega arith;
        few = omega (arith, short, few, many, last);
        run = λ f answers.
            ap (λ (k : ℕ). code_run (meaning program) place k p answers) (let z : length ca + 2 + f ≡ length ca + (2 + f) = omega arith in z)
            ∙ t.run (2 + f) answers ∙ calls f answers;
        call = at-call g arguments values here q t.holds (omega (arith, pc, even)) low-pc (subst (λ (vs : List Value). AreIn vs 10 q.machine.regs.x) (values-of program values arguments) t.are) fit.1;
        back = λ r c is-reply refines-reply.
            let regs = refines-reply.regs in
            let qc : Point = call_point g q in
            let q2 : Point = resume qc c in
            let result = callee-result (function_at program g) (types_of_arguments arguments) gives ty.0 in
            let held2 = hold-resumed a s low fr (meaning program) typed.functions place stands.low stands.high entering (omega arith) values here r.memory qc c
            (hold-call a s low fr (meaning program) typed.functions place stands.low stands.high entering (omega arith) g values here q t.holds) refines-reply.memory is-reply.long in
            let answer = answer-goes a s low fr (meaning program) typed.functions typed.room place stands.low stands.high bottom top gives d values r.value r.memory q2 c.regs is-type
            (λ some. let inside = number-inside function now.block now.place inst at some in omega (arith, inside)) (regs 10) refl
            (subst (λ (w : Option ℕ). RefinesResult w r.value c.regs) result refines-reply.result) (subst (λ (w : Option ℕ). FitsResult w r.value) result is-reply.value) held2 parts''.1 in
            let q3 : Point = answer.point in
            let next-is = answered-is now here inst r.value h.stood at in
            let pc2 = answer.pc in
            let len2 = length-append (call_code g) (answer_code gives d) in
            let pc3 : p.machine.regs.pc + 4 * length (ca ++ cs) ≡ q3.machine.regs.pc = omega (arith, pc, pc2, len, len2) in
            let long = is-reply.long in
            let long' = h.long in
            record {
              point = q3;
              run = answer.run;
              at = subst (λ (z : Activation). Here z r.memory q3) (sym next-is) (record {
                stood = subst (λ (z : Activation). Stood z r.memory) next-is (keeps-reply program typed a is function there now here g given r h.stood does is-reply);
                long = λ none. long ∙ long' none;
                held = answer.holds;
                even = omega (arith, pc3, even);
                rest = h.rest;
                code = subst (λ (k : ℕ). At k (behind_it now h.rest)) pc3 parts.1;
                comes = h.comes;
              });
            };
      }

  -- ---- each step

  op-step : (now : Activation) (here : Memory) (p : Point) (gives : Ty) (op : Op) → Here now here p → slice_get (insts_at function now.block) now.place ≡ Some (record { gives = gives; op = op }) → IsForm op
      → Done (act program function now here (record { gives = gives; op = op }) op).units now here p (act program function now here (record { gives = gives; op = op }) op).does
  op-step now here p gives (Binary op flags x y) h at form = binary-step now here p gives op flags x y h at
  op-step now here p gives (Icmp pred flags of x y) h at form = icmp-step now here p gives pred flags of x y h at
  op-step now here p gives (Cast op flags of x) h at form = cast-step now here p gives op flags of x h at
  op-step now here p gives (Select c x y) h at form = select-step now here p gives c x y h at
  op-step now here p gives (Freeze x) h at form = freeze-step now here p gives x h at
  op-step now here p gives (Call g arguments) h at form = call-step now here p gives g arguments h at form
  op-step now here p gives (Ret answer) h at form = ret-step now here p gives answer h at
  op-step now here p gives (Br to) h at form = br-step now here p gives to h at
  op-step now here p gives (CondBr condition if_true if_false) h at form = cond-step now here p gives condition if_true if_false h at
  op-step now here p gives (Phi pairs) h at form = tt
  op-step now here p gives Unreachable h at form = tt
  op-step now here p gives (Alloca of count) h at form = alloca-step now here p gives of count h at
  op-step now here p gives (Load x) h at form = load-step now here p gives x h at
  op-step now here p gives (Store of x y) h at form = store-step now here p gives of x y h at
  op-step now here p gives (Gep of x indices) h at form = gep-step now here p gives of x indices h at form.0 form.1
  op-step now here p gives (CallBuiltIn which arguments) h at form = built_in-turn now here p gives which arguments h at form
  op-step now here p gives (Switch of x otherwise cases) h at form = switch-step now here p gives of x otherwise cases h at

  -- what the code does for a step of the play
  pub steps : Steps program a s place Here
  steps now here p h = by_inst (slice_get (insts_at function now.block) now.place) refl
    where
      by_inst : (o : Option Inst) → slice_get (insts_at function now.block) now.place ≡ o → Done (step program now here).units now here p (step program now here).does
      by_inst None at = subst (λ (st : Step). Done st.units now here p st.does) (sym (step-is now here None h.stood at)) tt
      by_inst (Some inst) at =
          subst (λ (st : Step). Done st.units now here p st.does) (sym (step-is now here (Some inst) h.stood at))
          (op-step now here p inst.gives inst.op h at (flow.forms now.block now.place inst at))
