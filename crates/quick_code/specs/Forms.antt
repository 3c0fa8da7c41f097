-- The forms of functions of several blocks that the quick compiler takes.
use Rattle.std.specs.Prelude.{◌≡◌, ℕ, ◌+◌, ◌^◌, ◌≤◌, [], length, slice_get, Some, true, false}
use Rattle.ir_core.specs.declared.code.Op.{Op}
use Rattle.ir_core.specs.declared.code.Op.TheVariants.{Gep, Call, BuiltIn, Br, CondBr, Switch}
use Rattle.ir_core.specs.declared.code.Inst.{Inst}
use Rattle.ir_core.specs.declared.program.Function.{Function}
use Rattle.ir_core.specs.Units.{frame}
use Rattle.ir_meaning.specs.Step.{insts_at, phis, moves_bytes}
use Rattle.quick_code.specs.Parts.{pieces, is_path, AreSmall}

-- an instruction that has code: a call passes its arguments in registers, a built-in that gives a value has two arguments, and indices lead from part to
-- part, whose sizes are numbers of 64 bits
abbrev pub IsForm : Op → Type 0
IsForm (Gep ty base indices) = (is_path ty indices ≡ true) × AreSmall (pieces ty indices)
IsForm (BuiltIn which arguments) = moves_bytes which ≡ false → length arguments ≡ 2
IsForm (Call callee arguments) = length arguments ≤ 8
IsForm _ = Unit {0}

-- an edge leaves the block
abbrev pub IsJump : Op → Type 0
IsJump (Br to) = Unit {0}
IsJump (CondBr condition if_true if_false) = Unit {0}
IsJump (Switch ty value otherwise cases) = Unit {0}
IsJump _ = ⊥

-- a function of blocks whose instructions have these forms, and whose jumps end their blocks, with at most eight parameters, and whose frame has at most
-- a mebibyte
pub record IsFlow (function : Function) : Type 0 where
  pub few : length function.params ≤ 8
  pub some : 1 ≤ length function.blocks
  pub frames : frame function ≤ 2 ^ 20
  pub entry : phis (insts_at function 0) ≡ []
  pub forms : (block place : ℕ) (inst : Inst) → slice_get (insts_at function block) place ≡ Some inst → IsForm inst.op
  pub ends : (block place : ℕ) (inst : Inst) → slice_get (insts_at function block) place ≡ Some inst → IsJump inst.op → length (insts_at function block) ≡ place + 1
