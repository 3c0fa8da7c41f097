-- When words run as a play over bits does.
use Rattle.std.specs.Prelude.{◌≡◌, ℕ, ◌+◌, ◌-◌, ◌<◌, ◌≤◌, List, [], ◌∷◌, ◌++◌, length}
use Rattle.rv_core.specs.declared.reg.Reg.{Reg}
use Rattle.rv_core.specs.declared.reg.Reg.TheVariants.{Ra, Sp, A0, S11}
use Rattle.rv_core.specs.Step.{Registers, read}
use Rattle.ir_meaning.specs.declared.calls.Reply.{Reply as IrReply}
use Rattle.ir_meaning.specs.Memory.{Memory}
use Rattle.ir_meaning.specs.Plays.{Meaning, Invocation}
use Rattle.ir_meaning.specs.Ranges.{IsInvocation}
use Rattle.rv_play.specs.Machine.{Machine, data_base}
use Rattle.rv_play.specs.CodePlay.{Point, CodeEnd, CodeReply, code_play, kept_regs}
use Rattle.rv_play.specs.CodePlay as code
use Rattle.rv_play.specs.Good.{IsBase, IsReturnAddress, IsRunning, Enters, AreReplies, KeepsControl, KeepsRegs, RefinesMemory, arg_regs}
use Rattle.walks.specs.Walk.{Bits, Reply, Entry, End, Calls, Returns, Overflows, Undefined, Play}
use Rattle.walks.specs.Bits.{constant}
use Rattle.walks.specs.Refines.{RefinesBits, IsDefined}

-- ---- the registers of a machine as bits

abbrev pub register : Registers → Reg → Bits
register s r = constant 64 (read s r)

-- a register for each width
abbrev pub registers_of : List ℕ → List Reg → Registers → List Bits
registers_of (w ∷ ws) (r ∷ rs) s = register s r ∷ registers_of ws rs s
registers_of _ _ s = []

-- what the play is entered with where the machine stands at the entry of this activation
abbrev pub entry_at : Meaning → Invocation → Machine → Entry
entry_at m a s = record { args = registers_of (m.parameters a.symbol) arg_regs s.regs; memory = a.memory; sp = a.sp }

-- the replies with what these machines have in a0
abbrev pub replies_at : List IrReply → List CodeReply → List Reply
replies_at (r ∷ rs) (c ∷ cs) = record { value = register c.regs A0; memory = r.memory } ∷ replies_at rs cs
replies_at _ _ = []

-- ---- replies that fit their calls

-- Where the play calls after some of the replies, there is such a function, and the reply that comes next leaves data memory as long as it was at the call.
abbrev pub FitReplies : ℕ → Play → Entry → List Reply → Type 0
FitReplies functions play entry rs =
    (before behind : List Reply) (r : Reply) (callee : ℕ) (args : List Bits) (memory : Memory) (w j : ℕ)
    → rs ≡ before ++ r ∷ behind → play entry before (Calls callee args memory) w j
    → (callee < functions) × (length r.memory ≡ length memory)

-- ---- where words stand at an end of the play

-- argument registers that refine these bits
abbrev pub HoldBits : List Bits → List Reg → Registers → Type 0
HoldBits (x ∷ xs) (r ∷ rs) s = RefinesBits x (register s r) × HoldBits xs rs s
HoldBits _ _ s = Unit {0}

-- at a call the machine stands at the entry of the callee, in the frame's place
pub record AtCall (m : Meaning) (a : Invocation) (s : Machine) (args : List Bits) (memory : Memory) (p : Point) : Type 0 where
  pub counted : p.counted ≡ a.symbol ∷ []
  pub control : KeepsControl s a.sp p.machine
  pub sp : read p.machine.regs Sp ≡ a.sp - m.frame a.symbol
  pub top : read p.machine.regs S11 ≡ data_base + length memory
  pub ra : IsReturnAddress m (read p.machine.regs Ra)
  pub registers : HoldBits args arg_regs p.machine.regs
  pub memory' : RefinesMemory memory p.machine.bytes

pub record AtReturn (a : Invocation) (s : Machine) (value : Bits) (memory : Memory) (p : Point) : Type 0 where
  pub counted : p.counted ≡ a.symbol ∷ []
  pub control : KeepsControl s a.sp p.machine
  pub regs : KeepsRegs kept_regs s.regs p.machine.regs
  pub result : RefinesBits value (register p.machine.regs A0)
  pub memory' : RefinesMemory memory p.machine.bytes

abbrev pub AtEnd : Meaning → Invocation → Machine → End → CodeEnd → Type 0
AtEnd m a s (Calls callee args memory) e = (p : Point) × (e ≡ code.Calls callee p) × AtCall m a s args memory p
AtEnd m a s (Returns value memory) e = (p : Point) × (e ≡ code.Returns p) × AtReturn a s value memory p
AtEnd m a s Overflows e = (p : Point) × (e ≡ code.Overflows p) × (p.counted ≡ a.symbol ∷ [])
AtEnd m a s Undefined e = Unit {0}

-- what is called is a function
abbrev pub HasCallee : ℕ → End → Type 0
HasCallee functions (Calls callee args memory) = callee < functions
HasCallee functions _ = Unit {0}

-- The words run as the play, from each entry and with replies that fit: where the play comes to a call of a function that is there, to a return or to a want of stack,
-- the words come to it within as many steps as its weight; and where the words have ended, the play ends.
pub record RunsAs (m : Meaning) (symbol : ℕ) (words : List ℕ) (play : Play) : Type 0 where
  pub ends : (a : Invocation) (base : ℕ) (s : Machine) (rs : List IrReply) (cs : List CodeReply) (e : End) (w j : ℕ)
      → a.symbol ≡ symbol → IsInvocation m a → IsBase words base → Enters m a s → AreReplies m a [] rs cs
      → FitReplies m.functions play (entry_at m a s) (replies_at rs cs)
      → play (entry_at m a s) (replies_at rs cs) e w j → IsDefined e → HasCallee m.functions e
      → (n : ℕ) × (n ≤ w) × AtEnd m a s e (code_play m words base s cs n)
  pub ended : (a : Invocation) (base : ℕ) (s : Machine) (rs : List IrReply) (cs : List CodeReply) (n : ℕ)
      → a.symbol ≡ symbol → IsInvocation m a → IsBase words base → Enters m a s → AreReplies m a [] rs cs
      → FitReplies m.functions play (entry_at m a s) (replies_at rs cs)
      → (IsRunning (code_play m words base s cs n) → ⊥)
      → (e : End) × (w : ℕ) × (j : ℕ) × play (entry_at m a s) (replies_at rs cs) e w j
