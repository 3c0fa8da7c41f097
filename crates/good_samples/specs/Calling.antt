-- A function that calls another with its own argument and gives the answer: the module, the function of target code, and words.
use Rattle.std.specs.Prelude.{◌≡◌, ℕ, ◌≤◌, pos, negsuc, List, [], ◌∷◌, map, Some}
use Rattle.rv_core.specs.declared.reg.Reg.TheVariants.{X0, Ra, Sp, T0, T1, T2}
use Rattle.rv_core.specs.declared.instr.ImmOp.TheVariants.{Addi}
use Rattle.rv_core.specs.declared.instr.BranchOp.TheVariants.{Bgeu}
use Rattle.rv_core.specs.declared.instr.LoadOp.TheVariants.{Ld}
use Rattle.rv_core.specs.declared.instr.StoreOp.TheVariants.{Sd}
use Rattle.rv_core.specs.declared.instr.Instr.{Instr}
use Rattle.rv_core.specs.declared.instr.Instr.TheVariants.{Lui, Jalr, Branch, Load, Store, Imm, Ecall}
use Rattle.rv_encode.specs.Spelling.{word_of}
use Rattle.ir_core.specs.declared.types.Ty.TheVariants.{Void, Int}
use Rattle.ir_core.specs.declared.code.Operand.TheVariants.{Value as Local}
use Rattle.ir_core.specs.declared.code.Op.TheVariants.{Call as IrCall, Ret}
use Rattle.ir_core.specs.declared.code.Inst.{Inst}
use Rattle.ir_core.specs.declared.program.Function.{Function}
use Rattle.ir_core.specs.Program.{Program}
use Rattle.ir_meaning.specs.Plays.{Meaning}
use Rattle.ir_meaning.specs.Meaning.{meaning}
use Rattle.rv_play.specs.Good.{Good}
use Rattle.walks.specs.Walk.{play_of}
use Rattle.mir.specs.declared.code.MInst.TheVariants.{Param, Call, Return}
use Rattle.mir.specs.declared.code.MFunction.{MFunction}
use Rattle.mir_play.specs.Play.{walk}
use Rattle.mir_play.specs.Refines.{IsCompiled}
use Rattle.good_code.specs.Runs.{RunsAs}

-- the function of target code: register 0 has the argument, register 1 the answer
abbrev pub calling : MFunction
calling = record { symbol = 0; values = 2; end = 0x10100000; regs = 2; blocks = (Param 0 0 ∷ Call 1 (0 ∷ []) (1 ∷ []) ∷ Return (1 ∷ []) ∷ []) ∷ [] }

-- symbol 0 calls symbol 1, whose stub stands at 0x10010
abbrev pub code : List Instr
code =
    Imm Addi T0 X0 (pos 1)
    ∷ Imm Addi T1 X0 (pos 0)
    ∷ Ecall
    ∷ Imm Addi T0 Sp (negsuc 191)
    ∷ Lui T2 0x40000
    ∷ Branch Bgeu T0 T2 (pos 12)
    ∷ Imm Addi T0 X0 (pos 2)
    ∷ Ecall
    ∷ Imm Addi Sp Sp (negsuc 191)
    ∷ Store Sd Ra Sp (pos 184)
    ∷ Lui T1 0x10
    ∷ Jalr Ra T1 (pos 16)
    ∷ Load Ld Ra Sp (pos 184)
    ∷ Imm Addi Sp Sp (pos 192)
    ∷ Jalr X0 Ra (pos 0)
    ∷ []

abbrev pub words : List ℕ
words = map word_of code

-- the words run as the function of target code does
abbrev pub CallingRuns : Type 0
CallingRuns =
    (m : Meaning) → 2 ≤ m.functions → m.functions ≤ 1024 → m.room ≤ 67108864 → m.parameters 0 ≡ 64 ∷ [] → m.frame 0 ≡ 192 → RunsAs m 0 words (play_of (walk calling))

-- ---- the module

abbrev pub function_of : List Inst → Function
function_of insts = record { name = []; params = Int 64 ∷ []; ret = Int 64; blocks = record { insts = insts } ∷ [] }

-- it calls @g
abbrev pub f : Function
f = function_of (record { gives = Int 64; op = IrCall 1 ((Int 64, Local 0) ∷ []) } ∷ record { gives = Void; op = Ret (Some (Local 1)) } ∷ [])

-- it gives its argument
abbrev pub g : Function
g = function_of (record { gives = Void; op = Ret (Some (Local 0)) } ∷ [])

abbrev pub calling_program : Program
calling_program = record {
  module_ = record { globals = []; functions = f ∷ g ∷ [] };
  room = 1048576;
}

-- the function of target code is compiled from @f
abbrev pub CallingIsCompiled : Type 0
CallingIsCompiled = IsCompiled calling_program 0 calling

-- the words are a good version of @f
abbrev pub CallingIsGood : Type 0
CallingIsGood = Good (meaning calling_program) 0 words
