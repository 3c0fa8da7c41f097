-- Each instruction that gives a value, and each load and store, is one step of the play.
use Rattle.std.proofs.Common.{◌≡◌, refl, sym, ap, subst, ◌∙◌, ℕ, ◌+◌, ◌-◌, ◌*◌, ◌%◌, ◌≢◌, ◌<◌, ◌≤◌, inl, List, [], ◌∷◌, ◌++◌, length, Option, Some, None, Bool, true, false, cond, arith}
use Rattle.std.specs.Prelude.{nat_le, replicate, slice_set, pos, map, slice_get, drop}
use Rattle.std.proofs.lemmas.Bool.{leb-true, leb-false}
use Rattle.std.proofs.lemmas.List.{length-append}
use Rattle.ir_core.specs.declared.types.Ty.{Ty}
use Rattle.ir_core.specs.declared.types.Ty.TheVariants.{Int, Ptr}
use Rattle.ir_core.specs.declared.types.MemTy.{MemTy}
use Rattle.ir_core.specs.Layout.{size, aligned as rounded}
use Rattle.ir_core.specs.declared.code.Operand.{Operand}
use Rattle.ir_core.specs.declared.code.BinOp.{BinOp}
use Rattle.ir_core.specs.declared.code.CastOp.{CastOp}
use Rattle.ir_core.specs.declared.code.BuiltIn.{BuiltIn}
use Rattle.ir_core.specs.declared.code.BuiltIn.TheVariants.{MemCpy, MemMove, MemSet, SMax, SMin, UMax, UMin, Abs}
use Rattle.ir_core.specs.declared.code.Flags.{Flags}
use Rattle.ir_core.specs.declared.code.Pred.{Pred}
use Rattle.ir_core.specs.declared.code.Op.{Op}
use Rattle.ir_core.specs.declared.code.Op.TheVariants.{Binary, Icmp, Cast, Select, Freeze, Alloca, Load, Store, Gep, BuiltIn as CallBuiltIn}
use Rattle.ir_core.specs.declared.code.BuiltIn.{BuiltIn}
use Rattle.ir_core.specs.declared.code.BuiltIn.TheVariants.{MemCpy, MemMove, MemSet, SMax, SMin, UMax, UMin, Abs}
use Rattle.ir_core.specs.declared.code.Inst.{Inst}
use Rattle.ir_core.specs.declared.program.Function.{Function}
use Rattle.ir_core.specs.declared.program.Global.{Global}
use Rattle.ir_core.specs.Units.{frame, units, values as value_count, has_result, is_result}
use Rattle.rv_core.specs.declared.reg.Reg.TheVariants.{T0, T1, S11}
use Rattle.rv_core.specs.declared.instr.Instr.{Instr}
use Rattle.rv_core.specs.declared.instr.Instr.TheVariants.{Store as StoreBytes}
use Rattle.rv_core.specs.Bytes.{load_bytes}
use Rattle.rv_core.specs.Step.{read}
use Rattle.ir_meaning.specs.declared.activation.Activation.{Activation}
use Rattle.ir_meaning.specs.Value.{Value, Computed, Gives, NoMeaning}
use Rattle.ir_meaning.specs.Memory.{Memory, top as top_of, is_inside, bytes_at, with_bytes, from_bytes, to_bytes, byte_count}
use Rattle.ir_meaning.specs.Operators.{width, binary, compare, cast, select, freeze}
use Rattle.ir_meaning.specs.Step.{moves_bytes, part, index_numbers, moved, built_in, plain as plain_step, moved_count, after_moving, Program, Does, Step, Goes, Overflows, Breaks, at_address, loaded, stored, step, step_at, act, behind, computed, give, operand, function_at, insts_at, number_at, stack_start}
use Rattle.ir_meaning.specs.Plays.{Invocation}
use Rattle.ir_meaning.specs.Meaning.{meaning}
use Rattle.ir_meaning.specs.Ranges.{FitsWidth, IsInvocation}
use Rattle.ir_meaning.specs.Typed.{types, IsTyped, IsOp, IsValueType, IsOperand, AreArguments, IsBuiltIn, AreIndices}
use Rattle.ir_meaning.proofs.Fitting.{ComputedFits, binary-fits, compare-fits, cast-fits, select-fits}
use Rattle.ir_meaning.proofs.Bytes.{loaded-fits}
use Rattle.ir_meaning.proofs.Lengths.{to_bytes-length, with_bytes-length}
use Rattle.ir_meaning.proofs.Keeping.{operand-fits}
use Rattle.ir_meaning.proofs.Ranges.{Standing, keeps-goes}
use Rattle.rv_play.specs.Machine.{Machine, control_base, control_end}
use Rattle.rv_play.specs.CodePlay.{Place, Point, code_run, place_of}
use Rattle.rv_play.specs.Good.{IsBase, Enters}
use Rattle.rv_play.proofs.Lines.{Stands, stands-apart}
use Rattle.code_pieces.specs.Code.{store_value}
use Rattle.quick_code.specs.Data.{takes_data, alloca_code, moved_code}
use Rattle.quick_code.specs.Narrow.{binary_code, compare_code, cast_code}
use Rattle.quick_code.specs.Parts.{pieces, is_path, AreSmall}
use Rattle.quick_code.specs.Operations.{IsSlotOperand, AreSlotOperands, values_code, operands, built_in_operands, work_code, operation_code, store_op, keeping_code}
use Rattle.code_pieces.specs.Items.{Item, plain}
use Rattle.quick_code.specs.Blocks.{op_items, insts_items}
use Rattle.code_pieces.specs.Labels.{StandsAs}
use Rattle.quick_code.specs.Forms.{IsFlow}
use Rattle.code_pieces.proofs.Slots.{store-short}
use Rattle.code_pieces.proofs.Frame.{Is, Holds}
use Rattle.quick_code.proofs.NarrowRuns.{binary-run, compare-run, cast-run}
use Rattle.quick_code.proofs.Meanings.{binary-means, compare-means, cast-means, binary-keeps, compare-keeps, cast-keeps, keeps-none, to-pointer}
use Rattle.quick_code.proofs.Operations.{AreIn, Worked, scratch-temporaries, values-short, values-bring, straight-work, choice-work, operation-goes}
use Rattle.quick_code.proofs.BuiltIns.{built_in-fits, built_in-short, built_in-work}
use Rattle.quick_code.proofs.Distances.{AreFit, pieces-are, parts-short, parts-work}
use Rattle.code_pieces.proofs.Labelled.{plain-apart}
use Rattle.quick_code.proofs.Labelled.{StandsThere}
use Rattle.quick_code.proofs.Edges.{units-some}
use Rattle.quick_code.proofs.Numbers.{width-small, width-some, operand-inside, number-inside, value-below, gives-some}
use Rattle.quick_code.proofs.Allocas.{alloca-goes, alloca-stops, block-takes}
use Rattle.quick_code.proofs.DataMemory.{stored-value, load-work, store-runs, kept_point, hold-kept}
use Rattle.quick_code.proofs.Typing.{TwoTyped, two-typed, integer-value, cast-from, cast-to}
use Rattle.quick_code.proofs.Simulation.{Onward, Advances}
use Rattle.quick_code.proofs.FlowState.{bottom as any-bottom, top as any-top, Here as AnyHere, step-is as any-step-is, typed-at as any-typed-at, code-at as any-code-at}

module _ (program : Program) (typed : IsTyped program) (function : Function) (flow : IsFlow function) (a : Invocation) (is : IsInvocation (meaning program) a) (there : function_at program a.symbol ≡ Some function)
    (s : Machine) (words : List ℕ) (base : ℕ) (stands : IsBase words base) (enters : Enters (meaning program) a s) (fits-frame : stack_start + frame function ≤ a.sp) (is-aside : takes_data function ≡ true → load_bytes s.control (a.sp - (128 + 32 * value_count function) + (128 + 32 * value_count function - 104)) 8 ≡ read s.regs S11) (labels : ℕ → ℕ) (aligned : (label : ℕ) → labels label % 4 ≡ 0)
    (placed : (block : ℕ) → block < length function.blocks → StandsThere (meaning program) (place_of words base s) labels program.module_.globals function program.room (frame function) block (length function.blocks)) where
  abbrev globals : List Global
  globals = program.module_.globals

  abbrev n : ℕ
  n = value_count function

  abbrev fr : ℕ
  fr = 128 + 32 * n

  abbrev low : ℕ
  low = a.sp - fr

  abbrev place : Place
  place = place_of words base s

  abbrev Stood : Activation → Memory → Type 0
  Stood = Standing program typed a is function there

  abbrev Held : List Value → Memory → Point → Type 0
  Held = Holds a s low fr

  abbrev At : ℕ → List Item → Type 0
  At = StandsAs (meaning program) place labels

  bottom : control_base ≤ low
  bottom = any-bottom program typed function flow a is there s words base stands enters fits-frame is-aside labels aligned placed

  top : low + fr ≤ control_end
  top = any-top program typed function flow a is there s words base stands enters fits-frame is-aside labels aligned placed

  abbrev Here : Activation → Memory → Point → Type 0
  Here = AnyHere program typed function flow a is there s words base stands enters fits-frame is-aside labels aligned placed

  abbrev Done : ℕ → Activation → Memory → Point → Does → Type 0
  Done = Advances program a s place Here

  step-is : (now : Activation) (here : Memory) (o : Option Inst) → Stood now here → slice_get (insts_at function now.block) now.place ≡ o → step program now here ≡ step_at program now here function o
  step-is = any-step-is program typed function flow a is there s words base stands enters fits-frame is-aside labels aligned placed

  typed-at : (block k : ℕ) (inst : Inst) → slice_get (insts_at function block) k ≡ Some inst → IsOp program function inst.gives inst.op
  typed-at = any-typed-at program typed function flow a is there s words base stands enters fits-frame is-aside labels aligned placed

  abbrev behind_it : Activation → List Item → List Item
  behind_it now rest = insts_items globals function program.room fr now.block (now.place + 1) (drop (now.place + 1) (insts_at function now.block)) ++ rest

  code-at : (now : Activation) (here : Memory) (p : Point) (inst : Inst) (h : Here now here p) → slice_get (insts_at function now.block) now.place ≡ Some inst
      → At p.machine.regs.pc (op_items globals function program.room fr now.block (number_at function now.block now.place) inst.gives inst.op ++ behind_it now h.rest)
  code-at = any-code-at program typed function flow a is there s words base stands enters fits-frame is-aside labels aligned placed

  -- ---- an instruction that gives a value

  abbrev OpWork : Ty → Op → Activation → Memory → Value → Type 0
  OpWork gives op now here value =
      (q : Point) → AreIn (map (operand program now.values) (operands op)) 5 q.machine.regs.x → Held now.values here q → Stands place q.machine.regs.pc (work_code gives op)
      → Worked program a s low fr n (meaning program) typed.functions typed.room place stands.low stands.high bottom top refl (work_code gives op) now.values here value q

  work-step : (now : Activation) (here : Memory) (p : Point) (gives : Ty) (op : Op) (value : Value) → Here now here p → slice_get (insts_at function now.block) now.place ≡ Some (record { gives = gives; op = op }) → IsValueType gives
      → op_items globals function program.room fr now.block (number_at function now.block now.place) gives op ≡ plain (operation_code globals gives op (number_at function now.block now.place))
      → length (operands op) ≤ 3 → AreSlotOperands n (operands op) → 27 + length (work_code gives op) ≤ 256 * units (record { gives = gives; op = op }) → FitsWidth (width gives) value → OpWork gives op now here value
      → (step program now here).does ≡ Goes (behind function now (record { gives = gives; op = op }) value) here
      → Onward program a s place Here (units (record { gives = gives; op = op })) now (behind function now (record { gives = gives; op = op }) value) here p
  work-step now here p gives op value h at is-type same three small short fits works does =
      let inst : Inst = record { gives = gives; op = op } in
      let d = number_at function now.block now.place in
      let values = now.values in
      let result : has_result inst ≡ true = gives-some gives is-type in
      let c0 : List Instr = operation_code globals gives op d in
      let parts = plain-apart (meaning program) place labels p.machine.regs.pc c0 (behind_it now h.rest) (subst (λ (items : List Item). At p.machine.regs.pc (items ++ behind_it now h.rest)) same (code-at now here p inst h at)) in
      let inside = number-inside function now.block now.place inst at result in
      let t = operation-goes program a s low fr n (meaning program) typed.functions typed.room place stands.low stands.high bottom top refl (operands op) (work_code gives op) value values here p d three small inside (value-below gives value is-type fits) works h.held parts.0 in
      let l0 = length-append (values_code globals 5 (operands op)) (work_code gives op ++ store_value T0 d) in
      let l1 = length-append (work_code gives op) (store_value T0 d) in
      let l2 = values-short globals 5 (operands op) in
      let l3 = store-short T0 (32 * d) in
      let pc = t.pc in
      let even = h.even in
      let many = t.few in
      record {
        count = t.count;
        point = t.point;
        moves = inl t.some;
        few = omega (arith, many, short, three, l0, l1, l2, l3);
        run = t.run;
        at = record {
          stood = keeps-goes program typed a is function there now (behind function now inst value) here here h.stood does;
          long = h.long;
          held = subst (λ (vs : List Value). Held vs here t.point) (ap (λ (b : Bool). cond b (slice_set values d value) values) (sym result)) t.holds;
          even = omega (arith, pc, even);
          rest = h.rest;
          code = subst (λ (q : ℕ). At q (behind_it now h.rest)) (sym pc) parts.1;
          comes = h.comes;
        };
      }

  operation-step : (now : Activation) (here : Memory) (p : Point) (gives : Ty) (op : Op) (value : Value) → Here now here p → slice_get (insts_at function now.block) now.place ≡ Some (record { gives = gives; op = op }) → IsValueType gives
      → op_items globals function program.room fr now.block (number_at function now.block now.place) gives op ≡ plain (operation_code globals gives op (number_at function now.block now.place))
      → length (operands op) ≤ 3 → AreSlotOperands n (operands op) → length (work_code gives op) ≤ 8 → FitsWidth (width gives) value → OpWork gives op now here value
      → (step program now here).does ≡ Goes (behind function now (record { gives = gives; op = op }) value) here
      → Onward program a s place Here (units (record { gives = gives; op = op })) now (behind function now (record { gives = gives; op = op }) value) here p
  operation-step now here p gives op value h at is-type same three small short fits works does =
      work-step now here p gives op value h at is-type same three small (let cost = units-some (record { gives = gives; op = op }) in omega (arith, cost, short)) fits works does

  pub does-it : (now : Activation) (here : Memory) (inst : Inst) → Stood now here → slice_get (insts_at function now.block) now.place ≡ Some inst → (step program now here).does ≡ (act program function now here inst inst.op).does
  does-it now here inst h at = ap (λ (st : Step). st.does) (step-is now here (Some inst) h at)

  pub fits-at : (now : Activation) (here : Memory) (ty : Ty) (o : Operand) → Stood now here → IsOperand (types function) ty o → FitsWidth (width ty) (operand program now.values o)
  fits-at now here ty o h is-operand = operand-fits program (types function) now.values ty o h.values is-operand

  pub binary-step : (now : Activation) (here : Memory) (p : Point) (gives : Ty) (op : BinOp) (flags : Flags) (x y : Operand) → Here now here p → slice_get (insts_at function now.block) now.place ≡ Some (record { gives = gives; op = Binary op flags x y })
      → Done (units (record { gives = gives; op = Binary op flags x y })) now here p (act program function now here (record { gives = gives; op = Binary op flags x y }) (Binary op flags x y)).does
  binary-step now here p gives op flags x y h at = by_value (binary op flags (width gives) (operand program now.values x) (operand program now.values y)) refl
    where
      inst : Inst
      inst = record { gives = gives; op = Binary op flags x y }

      by_value : (c : Computed) → binary op flags (width gives) (operand program now.values x) (operand program now.values y) ≡ c → Done (units inst) now here p (computed (give program function now here inst) c)
      by_value NoMeaning e = tt
      by_value (Gives value) e =
          let ty = typed-at now.block now.place inst at in
          let is-type = integer-value gives ty.0 in
          let some = width-some gives is-type in
          let most = width-small gives is-type in
          let fx = fits-at now here gives x h.stood ty.1 in
          let fy = fits-at now here gives y h.stood ty.2 in
          let fits = subst (ComputedFits (width gives)) e (binary-fits op flags (width gives) (operand program now.values x) (operand program now.values y) fx fy) in
          let run = binary-run (width gives) some most op in
          operation-step now here p gives (Binary op flags x y) value h at is-type refl (omega arith) (operand-inside function gives x most ty.1, (operand-inside function gives y most ty.2, tt)) (let seven = run.few in omega (arith, seven)) fits
          (λ q are held st. straight-work program a s low fr n (meaning program) typed.functions typed.room place stands.low stands.high bottom top refl (binary_code op (width gives)) now.values here value q run.steps (binary-keeps op (width gives))
          (binary-means op flags (width gives) (operand program now.values x) (operand program now.values y) value q.machine.regs some most fx fy e (λ k z. are 0 k (ap (λ (v : Value). Some v) z)) (λ k z. are 1 k (ap (λ (v : Value). Some v) z))) held st)
          (does-it now here inst h.stood at ∙ ap (λ (c : Computed). computed (give program function now here inst) c) e)

  pub icmp-step : (now : Activation) (here : Memory) (p : Point) (gives : Ty) (pred : Pred) (flags : Flags) (of : Ty) (x y : Operand) → Here now here p → slice_get (insts_at function now.block) now.place ≡ Some (record { gives = gives; op = Icmp pred flags of x y })
      → Done (units (record { gives = gives; op = Icmp pred flags of x y })) now here p (act program function now here (record { gives = gives; op = Icmp pred flags of x y }) (Icmp pred flags of x y)).does
  icmp-step now here p gives pred flags of x y h at =
      let inst : Inst = record { gives = gives; op = Icmp pred flags of x y } in
      let a0 = operand program now.values x in
      let b0 = operand program now.values y in
      let ty = typed-at now.block now.place inst at in
      let some = width-some of ty.1 in
      let most = width-small of ty.1 in
      let fx = fits-at now here of x h.stood ty.2 in
      let fy = fits-at now here of y h.stood ty.3 in
      let run = compare-run (width of) some most pred in
      let six = run.few in
      operation-step now here p gives (Icmp pred flags of x y) (compare pred flags (width of) a0 b0) h at (subst IsValueType (sym ty.0) (omega arith, omega arith)) refl (omega arith)
      (operand-inside function of x most ty.2, (operand-inside function of y most ty.3, tt)) (omega (arith, six))
      (subst (λ (t : Ty). FitsWidth (width t) (compare pred flags (width of) a0 b0)) (sym ty.0) (compare-fits pred flags (width of) a0 b0 fx fy))
      (λ q are held st. straight-work program a s low fr n (meaning program) typed.functions typed.room place stands.low stands.high bottom top refl (compare_code pred (width of)) now.values here (compare pred flags (width of) a0 b0) q run.steps (compare-keeps pred (width of))
      (compare-means pred flags (width of) a0 b0 q.machine.regs some most fx fy (λ k z. are 0 k (ap (λ (v : Value). Some v) z)) (λ k z. are 1 k (ap (λ (v : Value). Some v) z))) held st)
      (does-it now here inst h.stood at)

  pub cast-step : (now : Activation) (here : Memory) (p : Point) (gives : Ty) (op : CastOp) (flags : Flags) (of : Ty) (x : Operand) → Here now here p → slice_get (insts_at function now.block) now.place ≡ Some (record { gives = gives; op = Cast op flags of x })
      → Done (units (record { gives = gives; op = Cast op flags of x })) now here p (act program function now here (record { gives = gives; op = Cast op flags of x }) (Cast op flags of x)).does
  cast-step now here p gives op flags of x h at =
      let inst : Inst = record { gives = gives; op = Cast op flags of x } in
      let a0 = operand program now.values x in
      let ty = typed-at now.block now.place inst at in
      let is-from = cast-from op of gives ty.0 in
      let is-to = cast-to op of gives ty.0 in
      let some = width-some of is-from in
      let most = width-small of is-from in
      let some' = width-some gives is-to in
      let most' = width-small gives is-to in
      let fx = fits-at now here of x h.stood ty.1 in
      let run = cast-run op (width of) (width gives) some most some' most' in
      let four = run.few in
      operation-step now here p gives (Cast op flags of x) (cast op flags (width of) (width gives) a0) h at is-to refl (omega arith) (operand-inside function of x most ty.1, tt) (omega (arith, four)) (cast-fits op flags of gives a0 ty.0 fx)
      (λ q are held st. straight-work program a s low fr n (meaning program) typed.functions typed.room place stands.low stands.high bottom top refl (cast_code op (width of) (width gives)) now.values here (cast op flags (width of) (width gives) a0) q run.steps (cast-keeps op (width of) (width gives))
      (cast-means op flags (width of) (width gives) a0 q.machine.regs some most some' most' (to-pointer op of gives ty.0) fx (λ k z. are 0 k (ap (λ (v : Value). Some v) z))) held st)
      (does-it now here inst h.stood at)

  pub select-step : (now : Activation) (here : Memory) (p : Point) (gives : Ty) (c x y : Operand) → Here now here p → slice_get (insts_at function now.block) now.place ≡ Some (record { gives = gives; op = Select c x y })
      → Done (units (record { gives = gives; op = Select c x y })) now here p (act program function now here (record { gives = gives; op = Select c x y }) (Select c x y)).does
  select-step now here p gives c x y h at =
      let inst : Inst = record { gives = gives; op = Select c x y } in
      let a0 = operand program now.values x in
      let b0 = operand program now.values y in
      let c0 = operand program now.values c in
      let ty = typed-at now.block now.place inst at in
      let most = width-small gives ty.0 in
      let fx = fits-at now here gives x h.stood ty.2 in
      let fy = fits-at now here gives y h.stood ty.3 in
      operation-step now here p gives (Select c x y) (select c0 a0 b0) h at ty.0 refl (omega arith) (operand-inside function gives x most ty.2, (operand-inside function gives y most ty.3, (operand-inside function (Int 1) c (omega arith) ty.1, tt))) (omega arith) (select-fits (width gives) c0 a0 b0 fx fy)
      (λ q are held st. choice-work program a s low fr n (meaning program) typed.functions typed.room place stands.low stands.high bottom top refl now.values here c0 a0 b0 q (λ k z. are 0 k (ap (λ (v : Value). Some v) z)) (λ k z. are 1 k (ap (λ (v : Value). Some v) z)) (λ k z. are 2 k (ap (λ (v : Value). Some v) z)) (value-below gives b0 ty.0 fy) held st)
      (does-it now here inst h.stood at)

  pub freeze-step : (now : Activation) (here : Memory) (p : Point) (gives : Ty) (x : Operand) → Here now here p → slice_get (insts_at function now.block) now.place ≡ Some (record { gives = gives; op = Freeze x })
      → Done (units (record { gives = gives; op = Freeze x })) now here p (act program function now here (record { gives = gives; op = Freeze x }) (Freeze x)).does
  freeze-step now here p gives x h at = by_value (operand program now.values x) refl
    where
      inst : Inst
      inst = record { gives = gives; op = Freeze x }

      by_value : (v : Value) → operand program now.values x ≡ v → Done (units inst) now here p (computed (give program function now here inst) (freeze v))
      by_value None e = tt
      by_value (Some k) e =
          let ty = typed-at now.block now.place inst at in
          let most = width-small gives ty.0 in
          let fits = subst (FitsWidth (width gives)) e (fits-at now here gives x h.stood ty.1) in
          operation-step now here p gives (Freeze x) (Some k) h at ty.0 refl (omega arith) (operand-inside function gives x most ty.1, tt) (omega arith) fits
          (λ q are held st. straight-work program a s low fr n (meaning program) typed.functions typed.room place stands.low stands.high bottom top refl [] now.values here (Some k) q tt keeps-none (λ j z. are 0 j (ap (λ (v : Value). Some v) (e ∙ z))) held st)
          (does-it now here inst h.stood at ∙ ap (λ (v : Value). computed (give program function now here inst) (freeze v)) e)

  -- ---- a built-in that gives a value

  -- what it works on
  built_in-are : (now : Activation) (which : BuiltIn) (x y : Ty × Operand) (q : Point) → AreIn (map (operand program now.values) (built_in_operands which (x ∷ y ∷ []))) 5 q.machine.regs.x
      → Is (operand program now.values x.1) (q.machine.regs.x 5) × (which ≢ Abs → Is (operand program now.values y.1) (q.machine.regs.x 6))
  built_in-are now Abs x y q are = (λ k z. are 0 k (ap (λ (v : Value). Some v) z), λ bad. absurd (bad refl))
  built_in-are now SMax x y q are = (λ k z. are 0 k (ap (λ (v : Value). Some v) z), λ ne k z. are 1 k (ap (λ (v : Value). Some v) z))
  built_in-are now SMin x y q are = (λ k z. are 0 k (ap (λ (v : Value). Some v) z), λ ne k z. are 1 k (ap (λ (v : Value). Some v) z))
  built_in-are now UMax x y q are = (λ k z. are 0 k (ap (λ (v : Value). Some v) z), λ ne k z. are 1 k (ap (λ (v : Value). Some v) z))
  built_in-are now UMin x y q are = (λ k z. are 0 k (ap (λ (v : Value). Some v) z), λ ne k z. are 1 k (ap (λ (v : Value). Some v) z))
  built_in-are now MemCpy x y q are = (λ k z. are 0 k (ap (λ (v : Value). Some v) z), λ ne k z. are 1 k (ap (λ (v : Value). Some v) z))
  built_in-are now MemMove x y q are = (λ k z. are 0 k (ap (λ (v : Value). Some v) z), λ ne k z. are 1 k (ap (λ (v : Value). Some v) z))
  built_in-are now MemSet x y q are = (λ k z. are 0 k (ap (λ (v : Value). Some v) z), λ ne k z. are 1 k (ap (λ (v : Value). Some v) z))

  -- its operands stand in the frame, or are numbers
  built_in-inside : (which : BuiltIn) (x y : Ty × Operand) → IsSlotOperand n x.1 → IsSlotOperand n y.1 → (length (built_in_operands which (x ∷ y ∷ [])) ≤ 3) × AreSlotOperands n (built_in_operands which (x ∷ y ∷ []))
  built_in-inside Abs x y hx hy = (omega arith, (hx, tt))
  built_in-inside SMax x y hx hy = (omega arith, (hx, (hy, tt)))
  built_in-inside SMin x y hx hy = (omega arith, (hx, (hy, tt)))
  built_in-inside UMax x y hx hy = (omega arith, (hx, (hy, tt)))
  built_in-inside UMin x y hx hy = (omega arith, (hx, (hy, tt)))
  built_in-inside MemCpy x y hx hy = (omega arith, (hx, (hy, tt)))
  built_in-inside MemMove x y hx hy = (omega arith, (hx, (hy, tt)))
  built_in-inside MemSet x y hx hy = (omega arith, (hx, (hy, tt)))

  pub built_in-step : (now : Activation) (here : Memory) (p : Point) (gives : Ty) (which : BuiltIn) (arguments : List (Ty × Operand)) → Here now here p
      → slice_get (insts_at function now.block) now.place ≡ Some (record { gives = gives; op = CallBuiltIn which arguments }) → moves_bytes which ≡ false → length arguments ≡ 2
      → Done (act program function now here (record { gives = gives; op = CallBuiltIn which arguments }) (CallBuiltIn which arguments)).units now here p
      (act program function now here (record { gives = gives; op = CallBuiltIn which arguments }) (CallBuiltIn which arguments)).does
  built_in-step now here p gives which [] h at no-bytes two = absurd (let bad : ⊥ = omega (arith, two) in bad)
  built_in-step now here p gives which (x ∷ []) h at no-bytes two = absurd (let bad : ⊥ = omega (arith, two) in bad)
  built_in-step now here p gives which (x ∷ y ∷ z ∷ more) h at no-bytes two = absurd (let bad : ⊥ = omega (arith, two) in bad)
  built_in-step now here p gives which (x ∷ y ∷ []) h at no-bytes two =
      subst (λ (st : Step). Done st.units now here p st.does) (sym is-plain)
      (operation-step now here p gives (CallBuiltIn which (x ∷ y ∷ [])) value h at (integer-value gives t.integer) is-work inside.0 inside.1 (built_in-short which (width gives)) fits
      (λ q are held st. let os = built_in-are now which x y q are in
      built_in-work program a s low fr n (meaning program) typed.functions typed.room place stands.low stands.high bottom top refl which (width gives) x0 y0 now.values here q some most no-bytes fx t-second os.0 os.1 held st)
      (does-it now here inst h.stood at ∙ ap (λ (st : Step). st.does) is-plain))
    where
      inst : Inst
      inst = record { gives = gives; op = CallBuiltIn which (x ∷ y ∷ []) }

      x0 : Value
      x0 = operand program now.values x.1

      y0 : Value
      y0 = operand program now.values y.1

      value : Value
      value = built_in which (width gives) (x0 ∷ y0 ∷ [])

      is-work : op_items globals function program.room fr now.block (number_at function now.block now.place) gives (CallBuiltIn which (x ∷ y ∷ []))
          ≡ plain (operation_code globals gives (CallBuiltIn which (x ∷ y ∷ [])) (number_at function now.block now.place))
      is-work =
          ap (λ (b : Bool). plain (cond b (moved_code globals which (x ∷ y ∷ [])) (operation_code globals gives (CallBuiltIn which (x ∷ y ∷ [])) (number_at function now.block now.place)))) no-bytes

      is-plain : act program function now here inst (CallBuiltIn which (x ∷ y ∷ [])) ≡ plain_step program function now here inst (give program function now here inst value)
      is-plain = ap (λ (b : Bool). cond b (after_moving program function now here inst (moved_count (x0 ∷ y0 ∷ [])) (moved which here (x0 ∷ y0 ∷ []))) (plain_step program function now here inst (give program function now here inst value))) no-bytes

      ty : IsBuiltIn which (x.0 ∷ y.0 ∷ []) gives × AreArguments (types function) (x ∷ y ∷ [])
      ty = typed-at now.block now.place inst at

      t : TwoTyped which gives x.0 y.0
      t = two-typed which gives x.0 y.0 no-bytes ty.0

      some : 1 ≤ width gives
      some = width-some gives (integer-value gives t.integer)

      most : width gives ≤ 64
      most = width-small gives (integer-value gives t.integer)

      fx : FitsWidth (width gives) x0
      fx = fits-at now here gives x.1 h.stood (subst (λ (u : Ty). IsOperand (types function) u x.1) t.left ty.1.0)

      t-second : which ≢ Abs → FitsWidth (width gives) y0
      t-second ne = fits-at now here gives y.1 h.stood (subst (λ (u : Ty). IsOperand (types function) u y.1) (t.right ne) ty.1.1.0)

      inside : (length (built_in_operands which (x ∷ y ∷ [])) ≤ 3) × AreSlotOperands n (built_in_operands which (x ∷ y ∷ []))
      inside = built_in-inside which x y (operand-inside function x.0 x.1 (subst (λ (u : Ty). width u ≤ 64) (sym t.left) most) ty.1.0) (operand-inside function y.0 y.1 t.narrow ty.1.1.0)

      fits : FitsWidth (width gives) value
      fits = built_in-fits which (width gives) (width y.0) x0 y0 fx t-second (fits-at now here y.0 y.1 h.stood ty.1.1.0)

  -- ---- an address of a part

  part-below : (ty : MemTy) (base : Value) (ns : Option (List ℕ)) → FitsWidth 64 (part ty base ns)
  part-below ty None ns = tt
  part-below ty (Some b) None = tt
  part-below ty (Some b) (Some ns) = omega arith

  indices-fit : (now : Activation) (here : Memory) (indices : List (Ty × Operand)) → Stood now here → AreIndices (types function) indices → AreFit program now.values indices
  indices-fit now here [] h t = tt
  indices-fit now here (index ∷ indices) h t = (fits-at now here index.0 index.1 h t.1, indices-fit now here indices h t.2)

  pub gep-step : (now : Activation) (here : Memory) (p : Point) (gives : Ty) (of : MemTy) (base : Operand) (indices : List (Ty × Operand)) → Here now here p
      → slice_get (insts_at function now.block) now.place ≡ Some (record { gives = gives; op = Gep of base indices }) → is_path of indices ≡ true → AreSmall (pieces of indices)
      → Done (units (record { gives = gives; op = Gep of base indices })) now here p (act program function now here (record { gives = gives; op = Gep of base indices }) (Gep of base indices)).does
  gep-step now here p gives of base indices h at path small =
      let inst : Inst = record { gives = gives; op = Gep of base indices } in
      let b0 = operand program now.values base in
      let value = part of b0 (index_numbers program now.values indices) in
      let ty = typed-at now.block now.place inst at in
      let short = parts-short of indices in
      work-step now here p gives (Gep of base indices) value h at (subst IsValueType (sym ty.0) tt) refl (omega arith) (operand-inside function Ptr base (omega arith) ty.1, tt) (omega (arith, short))
      (subst (λ (t : Ty). FitsWidth (width t) value) (sym ty.0) (part-below of b0 (index_numbers program now.values indices)))
      (λ q are held st. parts-work program a s low fr n (meaning program) typed.functions typed.room place stands.low stands.high bottom top refl of indices b0 now.values here q
      (pieces-are function indices of ty.2 small) (indices-fit now here indices h.stood ty.2) path (fits-at now here Ptr base h.stood ty.1) (λ k z. are 0 k (ap (λ (v : Value). Some v) z)) held st)
      (does-it now here inst h.stood at)

  -- ---- data memory

  pub load-step : (now : Activation) (here : Memory) (p : Point) (gives : Ty) (x : Operand) → Here now here p → slice_get (insts_at function now.block) now.place ≡ Some (record { gives = gives; op = Load x })
      → Done (units (record { gives = gives; op = Load x })) now here p (act program function now here (record { gives = gives; op = Load x }) (Load x)).does
  load-step now here p gives x h at = by_value (operand program now.values x) refl
    where
      inst : Inst
      inst = record { gives = gives; op = Load x }

      by_value : (v : Value) → operand program now.values x ≡ v → Done (units inst) now here p (at_address here v (byte_count gives) (loaded program function now here inst gives))
      by_value None e = tt
      by_value (Some address) e = by_test (is_inside here address (byte_count gives)) refl
        where
          by_test : (b : Bool) → is_inside here address (byte_count gives) ≡ b → Done (units inst) now here p (cond b (loaded program function now here inst gives address) Breaks)
          by_test false f = tt
          by_test true f =
              let ty = typed-at now.block now.place inst at in
              operation-step now here p gives (Load x) (from_bytes (bytes_at here address (byte_count gives))) h at (stored-value gives ty.0) refl (omega arith) (operand-inside function Ptr x (omega arith) ty.1, tt) (omega arith)
              (loaded-fits here address gives h.stood.bytes ty.0 f)
              (λ q are held st. load-work program a s low fr n (meaning program) typed.functions typed.room place stands.low stands.high bottom top refl now.values here gives address q ty.0 h.stood.room f (are 0 address (ap (λ (v : Value). Some v) e)) held st)
              (does-it now here inst h.stood at ∙ ap (λ (v : Value). at_address here v (byte_count gives) (loaded program function now here inst gives)) e
              ∙ ap (λ (b : Bool). cond b (loaded program function now here inst gives address) Breaks) f)

  pub store-step : (now : Activation) (here : Memory) (p : Point) (gives of : Ty) (x y : Operand) → Here now here p → slice_get (insts_at function now.block) now.place ≡ Some (record { gives = gives; op = Store of x y })
      → Done (units (record { gives = gives; op = Store of x y })) now here p (act program function now here (record { gives = gives; op = Store of x y }) (Store of x y)).does
  store-step now here p gives of x y h at = by_value (operand program now.values y) refl
    where
      inst : Inst
      inst = record { gives = gives; op = Store of x y }

      by_value : (v : Value) → operand program now.values y ≡ v → Done (units inst) now here p (at_address here v (byte_count of) (stored program function now here inst of (operand program now.values x)))
      by_value None e = tt
      by_value (Some address) e = by_test (is_inside here address (byte_count of)) refl
        where
          by_test : (b : Bool) → is_inside here address (byte_count of) ≡ b → Done (units inst) now here p (cond b (stored program function now here inst of (operand program now.values x) address) Breaks)
          by_test false f = tt
          by_test true f =
              let ty = typed-at now.block now.place inst at in
              let v : Value = operand program now.values x in
              let after : Memory = with_bytes here address (to_bytes (byte_count of) (operand program now.values x)) in
              let c0 : List Instr = values_code globals 5 (x ∷ y ∷ []) in
              let c1 : List Instr = StoreBytes (store_op (width of)) T0 T1 (pos 0) ∷ [] in
              let parts = plain-apart (meaning program) place labels p.machine.regs.pc (keeping_code globals of x y) (behind_it now h.rest) (code-at now here p inst h at) in
              let apart = stands-apart place p.machine.regs.pc c0 c1 parts.0 in
              let b = values-bring program a s low fr n (meaning program) typed.functions typed.room place stands.low stands.high bottom top refl now.values here p 5 (x ∷ y ∷ []) (scratch-temporaries 2 (omega arith))
              (operand-inside function of x (width-small of (stored-value of ty.1)) ty.2, (operand-inside function Ptr y (omega arith) ty.3, tt)) h.held apart.0 in
              let pc = b.pc in
              let run = store-runs program a s low fr n (meaning program) typed.functions typed.room place stands.low stands.high bottom top refl here of address b.point ty.1 h.stood.room f (b.are 1 address (ap (λ (w : Value). Some w) e)) (subst (λ (k : ℕ). Stands place k c1) (sym pc) apart.1) in
              let q : Point = kept_point program a s low fr n (meaning program) typed.functions typed.room place stands.low stands.high bottom top refl b.point address (byte_count of) in
              let does : (step program now here).does ≡ Goes (behind function now inst None) after =
              does-it now here inst h.stood at ∙ ap (λ (w : Value). at_address here w (byte_count of) (stored program function now here inst of v)) e ∙ ap (λ (t : Bool). cond t (stored program function now here inst of v address) Breaks) f in
              let held = hold-kept program a s low fr n (meaning program) typed.functions typed.room place stands.low stands.high bottom top refl now.values here address (byte_count of) v b.point f (λ k z. b.are 0 k (ap (λ (w : Value). Some w) z)) b.holds in
              let none : has_result inst ≡ false = ap is_result ty.0 in
              let len = length-append c0 c1 in
              let short = values-short globals 5 (x ∷ y ∷ []) in
              let cost = units-some inst in let even = h.even in
              let there' : p.machine.regs.pc + 4 * length (keeping_code globals of x y) ≡ q.machine.regs.pc = omega (arith, pc, len) in
              record {
                count = length c0 + 1;
                point = q;
                moves = inl (omega arith);
                few = omega (arith, short, cost);
                run = λ k answers. ap (λ (j : ℕ). code_run (meaning program) place j p answers) (let z : length c0 + 1 + k ≡ length c0 + (1 + k) = omega arith in z) ∙ b.run (1 + k) answers ∙ run k answers;
                at = record {
                  stood = keeps-goes program typed a is function there now (behind function now inst None) here after h.stood does;
                  long = λ none. with_bytes-length here address (to_bytes (byte_count of) v) (ap (is_inside here address) (to_bytes-length (byte_count of) v) ∙ f) ∙ h.long none;
                  held = subst (λ (vs : List Value). Held vs after q) (ap (λ (t : Bool). cond t (slice_set now.values (number_at function now.block now.place) None) now.values) (sym none)) held;
                  even = omega (arith, there', even);
                  rest = h.rest;
                  code = subst (λ (k : ℕ). At k (behind_it now h.rest)) there' parts.1;
                  comes = h.comes;
                };
              }

  -- ---- an alloca

  -- a function with an alloca saves the data top
  takes-it : (block : ℕ) (k : ℕ) (gives : Ty) (of : MemTy) (count : ℕ) → slice_get (insts_at function block) k ≡ Some (record { gives = gives; op = Alloca of count }) → takes_data function ≡ true
  takes-it block k gives of count at = block-takes function.blocks block k (record { gives = gives; op = Alloca of count }) refl at

  pub alloca-step : (now : Activation) (here : Memory) (p : Point) (gives : Ty) (of : MemTy) (count : ℕ) → Here now here p → slice_get (insts_at function now.block) now.place ≡ Some (record { gives = gives; op = Alloca of count })
      → Done (units (record { gives = gives; op = Alloca of count })) now here p (act program function now here (record { gives = gives; op = Alloca of count }) (Alloca of count)).does
  alloca-step now here p gives of count h at = by_test (nat_le (length here + rounded (size of * count) 16) program.room) refl
    where
      inst : Inst
      inst = record { gives = gives; op = Alloca of count }

      d : ℕ
      d = number_at function now.block now.place

      code : List Instr
      code = alloca_code program.room of count d

      parts : Stands place p.machine.regs.pc code × At (p.machine.regs.pc + 4 * length code) (behind_it now h.rest)
      parts = plain-apart (meaning program) place labels p.machine.regs.pc code (behind_it now h.rest) (code-at now here p inst h at)

      chosen : Bool → Does
      chosen b = elim b [ true ↦ Goes (behind function now inst (Some (top_of here))) (here ++ replicate (rounded (size of * count) 16) None) | false ↦ Overflows ]

      does : (b : Bool) → nat_le (length here + rounded (size of * count) 16) program.room ≡ b
          → (step program now here).does ≡ chosen b
      does b e = does-it now here inst h.stood at ∙ ap (λ (t : Bool). chosen t) e

      by_test : (b : Bool) → nat_le (length here + rounded (size of * count) 16) program.room ≡ b
          → Done (units inst) now here p (chosen b)
      by_test false e =
          let passes = leb-false _ _ e in
          let c = alloca-stops a s low fr n (meaning program) typed.functions typed.room place stands.low stands.high bottom top refl of count d program.room now.values here p typed.room h.stood.room passes h.held parts.0 in
          let few = c.2 in let cost = units-some inst in
          record { count = c.0; point = c.1; few = omega (arith, few, cost); run = c.4; is = c.3 }
      by_test true e =
          let fits = leb-true _ _ e in
          let is-ptr = typed-at now.block now.place inst at in
          let result : has_result inst ≡ true = ap is_result is-ptr in
          let inside = number-inside function now.block now.place inst at result in
          let g = alloca-goes a s low fr n (meaning program) typed.functions typed.room place stands.low stands.high bottom top refl of count d program.room now.values here p typed.room fits inside h.held parts.0 in
          let few = g.few in let cost = units-some inst in let pc = g.pc in let even = h.even in
          let after : Memory = here ++ replicate (rounded (size of * count) 16) None in
          record {
            count = g.count;
            point = g.point;
            moves = inl g.some;
            few = omega (arith, few, cost);
            run = g.run;
            at = record {
              stood = keeps-goes program typed a is function there now (behind function now inst (Some (top_of here))) here after h.stood (does true e);
              long = λ none. absurd (let bad : true ≡ false = sym (takes-it now.block now.place gives of count at) ∙ none in cc);
              held = subst (λ (vs : List Value). Held vs after g.point) (ap (λ (b : Bool). cond b (slice_set now.values d (Some (top_of here))) now.values) (sym result)) g.holds;
              even = omega (arith, pc, even);
              rest = h.rest;
              code = subst (λ (k : ℕ). At k (behind_it now h.rest)) (sym pc) parts.1;
              comes = h.comes;
            };
          }
