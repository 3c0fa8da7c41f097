-- What the code of a function holds at each state of its play.
use Rattle.std.proofs.Common.{◌≡◌, sym, ap, subst, ◌∙◌, ℕ, ◌+◌, ◌-◌, ◌*◌, ◌%◌, ◌<◌, ◌≤◌, List, ◌++◌, length, Option, Some, true, false, arith, append_assoc}
use Rattle.std.specs.Prelude.{slice_get, drop}
use Rattle.ir_core.specs.declared.code.Inst.{Inst}
use Rattle.ir_core.specs.declared.program.Function.{Function}
use Rattle.ir_core.specs.declared.program.Global.{Global}
use Rattle.ir_core.specs.Units.{frame, values as value_count}
use Rattle.rv_core.specs.declared.reg.Reg.TheVariants.{S11}
use Rattle.rv_core.specs.Bytes.{load_bytes}
use Rattle.rv_core.specs.Step.{read}
use Rattle.ir_meaning.specs.declared.activation.Activation.{Activation}
use Rattle.ir_meaning.specs.Value.{Value}
use Rattle.ir_meaning.specs.Memory.{Memory}
use Rattle.ir_meaning.specs.Step.{Program, Does, step, step_in, step_at, function_at, insts_at, number_at, stack_start}
use Rattle.ir_meaning.specs.Plays.{Invocation}
use Rattle.ir_meaning.specs.Meaning.{meaning}
use Rattle.ir_meaning.specs.Ranges.{IsInvocation}
use Rattle.ir_meaning.specs.Typed.{IsTyped, IsOp}
use Rattle.ir_meaning.proofs.Ranges.{Standing}
use Rattle.rv_play.specs.Machine.{Machine, control_base, control_end}
use Rattle.rv_play.specs.CodePlay.{Place, Point, place_of}
use Rattle.rv_play.specs.Good.{IsBase, Enters}
use Rattle.quick_code.specs.Data.{takes_data}
use Rattle.code_pieces.specs.Items.{Item}
use Rattle.quick_code.specs.Blocks.{op_items, insts_items}
use Rattle.code_pieces.specs.Labels.{StandsAs}
use Rattle.quick_code.specs.Forms.{IsFlow}
use Rattle.code_pieces.proofs.Frame.{Holds}
use Rattle.quick_code.proofs.Labelled.{StandsThere, Comes}
use Rattle.quick_code.proofs.Numbers.{drop-get}
use Rattle.quick_code.proofs.Simulation.{Advances}

module _ (program : Program) (typed : IsTyped program) (function : Function) (flow : IsFlow function) (a : Invocation) (is : IsInvocation (meaning program) a) (there : function_at program a.symbol ≡ Some function)
    (s : Machine) (words : List ℕ) (base : ℕ) (stands : IsBase words base) (enters : Enters (meaning program) a s) (fits-frame : stack_start + frame function ≤ a.sp) (is-aside : takes_data function ≡ true → load_bytes s.control (a.sp - (128 + 32 * value_count function) + (128 + 32 * value_count function - 104)) 8 ≡ read s.regs S11) (labels : ℕ → ℕ) (aligned : (label : ℕ) → labels label % 4 ≡ 0)
    (placed : (block : ℕ) → block < length function.blocks → StandsThere (meaning program) (place_of words base s) labels program.module_.globals function program.room (frame function) block (length function.blocks)) where
  abbrev globals : List Global
  globals = program.module_.globals

  abbrev n : ℕ
  n = value_count function

  abbrev fr : ℕ
  fr = 128 + 32 * n

  abbrev low : ℕ
  low = a.sp - fr

  abbrev place : Place
  place = place_of words base s

  abbrev Stood : Activation → Memory → Type 0
  Stood = Standing program typed a is function there

  abbrev Held : List Value → Memory → Point → Type 0
  Held = Holds a s low fr

  abbrev At : ℕ → List Item → Type 0
  At = StandsAs (meaning program) place labels

  pub bottom : control_base ≤ low
  bottom = let h = fits-frame in omega (arith, h)

  pub sum-is : low + fr ≡ a.sp
  sum-is = let h = fits-frame in omega (arith, h)

  pub top : low + fr ≤ control_end
  top = let e = sum-is in let h = is.sp_high in omega (arith, e, h)

  pub entering : place.sp ≡ low + fr
  entering = enters.sp ∙ sym sum-is

  -- without an alloca the data top is that of the entry
  abbrev IsLong : Memory → Type 0
  IsLong here = takes_data function ≡ false → length here ≡ length a.memory

  -- the code stands for a state of the play
  pub record Here (now : Activation) (here : Memory) (p : Point) : Type 0 where
    pub stood : Stood now here
    pub long : IsLong here
    pub held : Held now.values here p
    pub even : p.machine.regs.pc % 4 ≡ 0
    pub rest : List Item
    pub code : At p.machine.regs.pc (insts_items globals function program.room fr now.block now.place (drop now.place (insts_at function now.block)) ++ rest)
    pub comes : Comes (meaning program) place labels function now.block (length function.blocks) rest

  abbrev Done : ℕ → Activation → Memory → Point → Does → Type 0
  Done = Advances program a s place Here

  -- ---- the instruction at a state

  pub is-function : (now : Activation) (here : Memory) → Stood now here → function_at program now.symbol ≡ Some function
  is-function now here h = ap (function_at program) h.symbol ∙ there

  pub step-is : (now : Activation) (here : Memory) (o : Option Inst) → Stood now here → slice_get (insts_at function now.block) now.place ≡ o → step program now here ≡ step_at program now here function o
  step-is now here o h at = ap (step_in program now here) (is-function now here h) ∙ ap (step_at program now here function) at

  pub typed-at : (block k : ℕ) (inst : Inst) → slice_get (insts_at function block) k ≡ Some inst → IsOp program function inst.gives inst.op
  typed-at block k inst at = (typed.typed a.symbol function there).insts block k inst at

  -- what stands behind an instruction
  abbrev behind_it : Activation → List Item → List Item
  behind_it now rest = insts_items globals function program.room fr now.block (now.place + 1) (drop (now.place + 1) (insts_at function now.block)) ++ rest

  pub code-at : (now : Activation) (here : Memory) (p : Point) (inst : Inst) (h : Here now here p) → slice_get (insts_at function now.block) now.place ≡ Some inst
      → At p.machine.regs.pc (op_items globals function program.room fr now.block (number_at function now.block now.place) inst.gives inst.op ++ behind_it now h.rest)
  code-at now here p inst h at =
      subst (λ (items : List Item). At p.machine.regs.pc items) (append_assoc (op_items globals function program.room fr now.block (number_at function now.block now.place) inst.gives inst.op) (insts_items globals function program.room fr now.block (now.place + 1) (drop (now.place + 1) (insts_at function now.block))) h.rest)
      (subst (λ (insts : List Inst). At p.machine.regs.pc (insts_items globals function program.room fr now.block now.place insts ++ h.rest)) (drop-get (insts_at function now.block) now.place inst at) h.code)
