-- The generic code of a block's end: edges with the literals that the phis of their blocks read. An edge of a conditional branch to a
-- block with phis takes a block of its own, so that these literals stand on its path alone. A switch is a chain of tests, each but the
-- first in a block of its own.
use Rattle.std.specs.Prelude.{ℕ, ◌+◌, ◌==◌, Bool, List, [], ◌∷◌, ◌++◌, length, map, if◌then◌else◌}
use Rattle.ir_core.specs.declared.types.Ty.{Ty}
use Rattle.ir_core.specs.declared.types.Ty.TheVariants.{Int}
use Rattle.ir_core.specs.declared.code.Operand.{Operand}
use Rattle.ir_core.specs.declared.code.Operand.TheVariants.{Num, Poison}
use Rattle.ir_core.specs.declared.code.Op.{Op}
use Rattle.ir_core.specs.declared.code.Op.TheVariants.{Phi, Br, CondBr, Switch}
use Rattle.ir_core.specs.declared.code.Inst.{Inst}
use Rattle.ir_core.specs.declared.program.Function.{Function}
use Rattle.ir_core.specs.declared.program.Global.{Global}
use Rattle.ir_meaning.specs.Step.{insts_at, on_edge, phis}
use Rattle.gmir.specs.declared.code.GType.{GType}
use Rattle.gmir.specs.declared.code.GType.TheVariants.{S}
use Rattle.gmir.specs.declared.code.GOp.TheVariants.{Icmp, Br as Jump, BrCond}
use Rattle.gmir.specs.declared.code.GInst.{GInst}
use Rattle.generic_code.specs.Literals.{Pool, plain, empty_pool, loads, all_loaded, registers, behind_all}
use Rattle.generic_code.specs.Parts.{first_register}

-- an edge to a block: the generic block that takes it, and the registers that the block's phis read on it
pub record Edge : Type 0 where
  pub to : ℕ
  pub at : ℕ
  pub uses : List ℕ

-- the code that ends a block, the types of its further registers, the blocks behind the function's that are its own, and its edges in order
pub record Ending : Type 0 where
  pub code : List GInst
  pub types : List GType
  pub later : List (List GInst)
  pub edges : List Edge

abbrev pub no_ending : Ending
no_ending = record { code = []; types = []; later = []; edges = [] }

-- an ending with code before it
abbrev pub ending_behind : List GInst → List GType → Ending → Ending
ending_behind code types ending = record {
  code = code ++ ending.code;
  types = types ++ ending.types;
  later = ending.later;
  edges = ending.edges;
}

abbrev pub jump_to : ℕ → GInst
jump_to to = record { op = Jump; defs = []; uses = []; num = 0; to = to ∷ [] }

-- to the first block where the bit is 1
abbrev pub branch_on : ℕ → ℕ → ℕ → GInst
branch_on bit if_one if_zero = record { op = BrCond; defs = []; uses = bit ∷ []; num = 0; to = if_one ∷ if_zero ∷ [] }

abbrev pub phi_operand : ℕ → Op → Operand
phi_operand from (Phi pairs) = on_edge from pairs
phi_operand from _ = Poison

module _ (globals : List Global) (function : Function) where
  abbrev pub heads : ℕ → List Inst
  heads block = phis (insts_at function block)

  -- what the phis of a block read on an edge from another
  abbrev pub edge_operands : ℕ → ℕ → List (Ty × Operand)
  edge_operands from to = map (λ inst. (inst.gives, phi_operand from inst.op)) (heads to)

  abbrev pub no_phis : ℕ → Bool
  no_phis to = length (heads to) == 0

  -- how many blocks an edge of a conditional branch takes
  abbrev pub spare : ℕ → ℕ
  spare to = if no_phis to then 0 else 1

  module _ (from : ℕ) where
    -- the literals of an edge, and its jump
    abbrev pub edge_code : Pool → ℕ → List GInst
    edge_code pool to = loads globals pool (edge_operands from to) ++ jump_to to ∷ []

    abbrev pub edge_types : Pool → ℕ → List GType
    edge_types pool to = all_loaded globals pool (edge_operands from to)

    abbrev pub edge_uses : Pool → ℕ → List ℕ
    edge_uses pool to = registers globals pool (edge_operands from to)

    -- the block of an edge of a conditional branch, by its first further register: where it leads to phis
    abbrev pub edge_blocks : ℕ → ℕ → List (List GInst)
    edge_blocks next to = if no_phis to then [] else edge_code (empty_pool next) to ∷ []

    -- where a conditional branch goes, whose edge would take this block, and the block that takes the edge
    abbrev pub goes_to : ℕ → ℕ → ℕ
    goes_to own to = if no_phis to then to else own

    abbrev pub taken_at : ℕ → ℕ → ℕ → ℕ
    taken_at at own to = if no_phis to then at else own

    -- the edge of a conditional branch at a block
    abbrev pub edge_of : ℕ → ℕ → ℕ → ℕ → Edge
    edge_of at next own to = record { to = to; at = taken_at at own to; uses = edge_uses (empty_pool next) to }

    -- a jump at a block, whose edge has its literals before it
    abbrev pub jump : ℕ → Pool → ℕ → Ending
    jump at pool to = record {
      code = edge_code pool to;
      types = edge_types pool to;
      later = [];
      edges = record { to = to; at = at; uses = edge_uses pool to } ∷ [];
    }

    -- A conditional branch at a block, by the register of its bit, the first further register and the first block that it may take
    abbrev pub branch : ℕ → ℕ → ℕ → ℕ → ℕ → ℕ → Ending
    branch at next own bit if_one if_zero =
        let second = next + length (edge_types (empty_pool next) if_one) in
        record {
          code = branch_on bit (goes_to own if_one) (goes_to (own + spare if_one) if_zero) ∷ [];
          types = edge_types (empty_pool next) if_one ++ edge_types (empty_pool second) if_zero;
          later = edge_blocks next if_one ++ edge_blocks second if_zero;
          edges = edge_of at next own if_one ∷ edge_of at second (own + spare if_one) if_zero ∷ [];
        }

    -- the test of a register against a number of its type: its bit stands in the first register behind the literal
    abbrev pub case_operand : Ty → ℕ → List (Ty × Operand)
    case_operand of n = (of, Num n) ∷ []

    abbrev pub test_code : Ty → ℕ → Pool → ℕ → List GInst
    test_code of r pool n =
        loads globals pool (case_operand of n)
        ++ plain Icmp ((behind_all globals pool (case_operand of n)).next ∷ []) (r ∷ registers globals pool (case_operand of n)) 0 ∷ []

    abbrev pub test_types : Ty → Pool → ℕ → List GType
    test_types of pool n = all_loaded globals pool (case_operand of n) ++ S 1 ∷ []

    -- The tests of a register against cases: the first stands in this block, and each other one in a block of its own, behind that of the
    -- edge of the case before
    abbrev pub tests : Ty → ℕ → ℕ → ℕ → Pool → ℕ → List (ℕ × ℕ) → Ending
    tests of r otherwise at pool own [] = jump at pool otherwise
    tests of r otherwise at pool own (one ∷ []) =
        let bit = (behind_all globals pool (case_operand of one.0)).next in
        ending_behind (test_code of r pool one.0) (test_types of pool one.0) (branch at (bit + 1) own bit one.1 otherwise)
    tests of r otherwise at pool own (one ∷ two ∷ cases) =
        let bit = (behind_all globals pool (case_operand of one.0)).next in
        let next = bit + 1 + length (edge_types (empty_pool (bit + 1)) one.1) in
        let behind = own + spare one.1 in
        let rest = tests of r otherwise behind (empty_pool next) (behind + 1) (two ∷ cases) in
        record {
          code = test_code of r pool one.0 ++ branch_on bit (goes_to own one.1) behind ∷ [];
          types = test_types of pool one.0 ++ edge_types (empty_pool (bit + 1)) one.1 ++ rest.types;
          later = edge_blocks (bit + 1) one.1 ++ rest.code ∷ rest.later;
          edges = edge_of at (bit + 1) own one.1 ∷ rest.edges;
        }

    -- the code of an instruction that takes an edge, by the registers at its place and the first block that it may take
    abbrev pub ending_of : Pool → ℕ → Op → Ending
    ending_of pool own (Br to) = jump from pool to
    ending_of pool own (CondBr condition if_one if_zero) =
        let read = (Int 1, condition) ∷ [] in
        ending_behind (loads globals pool read) (all_loaded globals pool read)
        (branch from (behind_all globals pool read).next own (first_register (registers globals pool read)) if_one if_zero)
    ending_of pool own (Switch of a otherwise cases) =
        let read = (of, a) ∷ [] in
        ending_behind (loads globals pool read) (all_loaded globals pool read)
        (tests of (first_register (registers globals pool read)) otherwise from (behind_all globals pool read) own cases)
    ending_of pool own _ = no_ending
