-- What a checked module keeps.
use Rattle.std.specs.Prelude.{◌≡◌, ℕ, Bool, true, List, slice_get, length, Option, Some, None}
use Rattle.ir_core.specs.declared.code.Operand.{Operand}
use Rattle.ir_core.specs.declared.code.Op.TheVariants.{Phi}
use Rattle.ir_core.specs.declared.code.Inst.{Inst}
use Rattle.ir_core.specs.declared.code.Block.{Block}
use Rattle.ir_core.specs.declared.program.Function.{Function}
use Rattle.ir_core.specs.declared.program.Module.{Module}
use Rattle.ir_core.specs.Units.{instructions}
use Rattle.ir_flow.specs.Code.{edges, pair_blocks}
use Rattle.ir_flow.specs.Assigned.{AllAssigned}
use Rattle.ir_flow.specs.Limits.{limit_passed}
use Rattle.ir_meaning.specs.Step.{Program}
use Rattle.ir_meaning.specs.Typed.{IsTyped}
use Rattle.ir_verify.specs.Calls.{wrong_callee}
use Rattle.ir_verify.specs.Phis.{times, all_agree}
use Rattle.ir_verify.specs.Ranges.{is_in_range, all_globals}
use Rattle.ir_verify.specs.Shapes.{is_shaped}
use Rattle.ir_verify.specs.Small.{IsSmall, HasFewBlocks}
use Rattle.ir_verify.specs.Verdict.{IsChecked}

-- a checked module is well typed
abbrev pub CheckedIsTyped : Type 0
CheckedIsTyped = (program : Program) → IsChecked program → IsTyped program

-- the operands of a phi come along the edges to its block, one for each, and those from one block are the same
abbrev pub TakesEdges : List Block → ℕ → List (Operand × ℕ) → Type 0
TakesEdges blocks to pairs =
    ((from : ℕ) (block : Block) → slice_get blocks from ≡ Some block → times from (pair_blocks pairs) ≡ times to (edges block)) × (all_agree pairs ≡ true)

-- what the rows say of a function of a checked module, block by block and instruction by instruction
pub record IsWellFormed (module_ : Module) (function : Function) : Type 0 where
  -- at most 8 parameters and 16,384 instructions; at least one block
  pub small : IsSmall function
  pub blocks : HasFewBlocks function
  -- one terminator at the end, phis first and not in the entry, `alloca` only there, distinct cases
  pub shaped : (b : ℕ) (block : Block) → slice_get function.blocks b ≡ Some block → is_shaped b block ≡ true
  -- no edge leads to the entry
  pub entry : (b : ℕ) (block : Block) → slice_get function.blocks b ≡ Some block → times 0 (edges block) ≡ 0
  -- values, blocks, functions and globals that are named are there; widths and numbers fit
  pub in_range : (i : ℕ) (inst : Inst) → slice_get (instructions function.blocks) i ≡ Some inst → is_in_range module_ function inst ≡ true
  -- calls have their callees' parameters and result
  pub calls : (i : ℕ) (inst : Inst) → slice_get (instructions function.blocks) i ≡ Some inst → wrong_callee module_ inst.gives inst.op ≡ None
  pub phis : (b : ℕ) (block : Block) (i : ℕ) (inst : Inst) (pairs : List (Operand × ℕ)) → slice_get function.blocks b ≡ Some block
      → slice_get block.insts i ≡ Some inst → inst.op ≡ Phi pairs → TakesEdges function.blocks b pairs
  -- each use is assigned on every walk
  pub assigned : AllAssigned function

-- each function of a checked module is well formed, no limit is passed, and each global has a type of memory and a first value that fits it
abbrev pub CheckedIsWellFormed : Type 0
CheckedIsWellFormed = (program : Program) → IsChecked program
    → (limit_passed program.module_ ≡ None)
    × (all_globals (length program.module_.globals) program.module_.globals ≡ true)
    × ((symbol : ℕ) (function : Function) → slice_get program.module_.functions symbol ≡ Some function → IsWellFormed program.module_ function)
