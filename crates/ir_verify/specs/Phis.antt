-- The blocks of phis against the edges to their block.
use Rattle.std.specs.Prelude.{ℕ, zero, suc, ◌+◌, Bool, true, false, ◌&&◌, ◌||◌, ◌==◌, not, List, [], ◌∷◌, length, sum_by, count_by, Option, Some, None, if◌then◌else◌}
use Rattle.ir_core.specs.declared.code.Operand.{Operand}
use Rattle.ir_core.specs.declared.code.Operand.TheVariants.{Value as Local, Num, Null, Place, Poison}
use Rattle.ir_core.specs.declared.code.Op.{Op}
use Rattle.ir_core.specs.declared.code.Op.TheVariants.{Phi}
use Rattle.ir_core.specs.declared.code.Inst.{Inst}
use Rattle.ir_core.specs.declared.code.Block.{Block}
use Rattle.ir_core.specs.declared.program.Function.{Function}
use Rattle.ir_flow.specs.Code.{edges, pair_blocks}

abbrev pub same_operand : Operand → Operand → Bool
same_operand (Local a) (Local b) = a == b
same_operand (Num a) (Num b) = a == b
same_operand Null Null = true
same_operand (Place a i) (Place b j) = a == b && i == j
same_operand Poison Poison = true
same_operand _ _ = false

-- one block has one operand
abbrev pub agrees : Operand → ℕ → List (Operand × ℕ) → Bool
agrees operand block [] = true
agrees operand block (pair ∷ pairs) = (not (pair.1 == block) || same_operand operand pair.0) && agrees operand block pairs

abbrev pub all_agree : List (Operand × ℕ) → Bool
all_agree [] = true
all_agree (pair ∷ pairs) = agrees pair.0 pair.1 pairs && all_agree pairs

abbrev pub times : ℕ → List ℕ → ℕ
times n ns = count_by (λ m. m == n) ns

-- each of these blocks, numbered from here, stands among the phi's as often as it has edges to the block
abbrev pub matches_edges : List ℕ → ℕ → ℕ → List Block → Bool
matches_edges from to number [] = true
matches_edges from to number (block ∷ blocks) = times number from == times to (edges block) && matches_edges from to (number + 1) blocks

abbrev pub is_phi_of : List Block → ℕ → Op → Bool
is_phi_of blocks to (Phi pairs) = matches_edges (pair_blocks pairs) to 0 blocks && all_agree pairs
is_phi_of blocks to _ = true

abbrev pub all_phis : List Block → ℕ → List Inst → Bool
all_phis blocks to [] = true
all_phis blocks to (inst ∷ insts) = is_phi_of blocks to inst.op && all_phis blocks to insts

abbrev pub first_wrong_phis : List Block → ℕ → List Block → Option ℕ
first_wrong_phis all number [] = None
first_wrong_phis all number (block ∷ blocks) = if all_phis all number block.insts then first_wrong_phis all (number + 1) blocks else Some number

-- the first block with wrong phis
abbrev pub wrong_phis : Function → Option ℕ
wrong_phis function = first_wrong_phis function.blocks 0 function.blocks
