-- Calls on one data memory, one after another, computed: each adds to a global and answers the sum.
use Rattle.std.specs.Prelude.{◌≡◌, ℕ, [], ◌∷◌}
use Rattle.ir_core.specs.Layout.{size, align}
use Rattle.ir_core.specs.declared.types.Ty.TheVariants.{Void, Int}
use Rattle.ir_core.specs.declared.types.MemTy.TheVariants.{Int as MemInt}
use Rattle.ir_core.specs.declared.code.BinOp.TheVariants.{Add}
use Rattle.ir_core.specs.declared.code.Operand.TheVariants.{Value as Local, Place}
use Rattle.ir_core.specs.declared.code.Op.TheVariants.{Load, Store}
use Rattle.ir_core.specs.declared.program.Init.TheVariants.{Num as Number'}
use Rattle.ir_core.specs.declared.program.Global.{Global}
use Rattle.ir_core.proofs.Layouts.{extent-Int}
use Rattle.ir_meaning.specs.declared.calls.Outcome.TheVariants.{Value as Number}
use Rattle.ir_meaning.specs.Memory.{Memory}
use Rattle.ir_meaning.specs.Image.{first_memory}
use Rattle.ir_meaning.specs.Step.{Program}
use Rattle.ir_meaning.specs.Eval.{Evaluation, eval}
use Rattle.ir_meaning.proofs.Images.{initial-Num}
use Rattle.ir_meaning.proofs.Rows.{inst, block, binary_of, ret_of, function_of}

abbrev five : Global
five = record { name = []; ty = MemInt 64; init = Number' 5 }

abbrev bump_program : Program
bump_program = record {
  module_ = record {
    globals = five ∷ [];
    functions = function_of (Int 64 ∷ []) (Int 64) (block (
        inst (Int 64) (Load (Place 0 0))
        ∷ binary_of Add 64 (Local 1) (Local 0)
        ∷ inst Void (Store (Int 64) (Local 2) (Place 0 0))
        ∷ ret_of (Local 2)
        ∷ []) ∷ []) ∷ [];
  };
  room = 4096;
}

abbrev bump : Memory → ℕ → Evaluation
bump memory by = eval bump_program 0 (by ∷ []) memory 6

pub bumped : (bump (first_memory (five ∷ [])) 1).outcome ≡ Number 6
bumped = simp (initial-Num, size, align, extent-Int)

-- the second goes on with what the first left
pub bumped_twice : (bump (bump (first_memory (five ∷ [])) 1).memory 2).outcome ≡ Number 8
bumped_twice = simp (initial-Num, size, align, extent-Int)

pub bumped_afresh : (bump (first_memory (five ∷ [])) 3).outcome ≡ Number 8
bumped_afresh = simp (initial-Num, size, align, extent-Int)
