-- The generic code of a function: a block for each of its blocks, and then those that edges and tests take.
use Rattle.std.specs.Prelude.{ℕ, ◌+◌, ◌==◌, Bool, true, false, List, [], ◌∷◌, ◌++◌, length, map, drop, flat_map, slice_index_or, if◌then◌else◌}
use Rattle.ir_core.specs.Program.{Program}
use Rattle.ir_core.specs.declared.types.Ty.{Ty}
use Rattle.ir_core.specs.declared.code.Op.{Op}
use Rattle.ir_core.specs.declared.code.Op.TheVariants.{Br, CondBr, Switch}
use Rattle.ir_core.specs.declared.code.Inst.{Inst}
use Rattle.ir_core.specs.declared.code.Block.{Block}
use Rattle.ir_core.specs.declared.program.Function.{Function}
use Rattle.ir_core.specs.declared.program.Global.{Global}
use Rattle.ir_core.specs.Units.{results, has_result, values as value_count}
use Rattle.ir_meaning.specs.Memory.{data_start}
use Rattle.ir_meaning.specs.Step.{phis}
use Rattle.ir_meaning.specs.Typed.{types}
use Rattle.gmir.specs.declared.code.GOp.TheVariants.{Param, Phi}
use Rattle.gmir.specs.declared.code.GInst.{GInst}
use Rattle.gmir.specs.declared.code.GFunction.{GFunction}
use Rattle.generic_code.specs.Literals.{Pool, type_of, plain, empty_pool}
use Rattle.generic_code.specs.Code.{piece_of}
use Rattle.generic_code.specs.Edges.{Edge, Ending, no_ending, ending_behind, ending_of}

abbrev pub is_jump : Op → Bool
is_jump (Br to) = true
is_jump (CondBr condition if_one if_zero) = true
is_jump (Switch of a otherwise cases) = true
is_jump _ = false

-- parameters by the places of their argument registers
abbrev pub params_code : ℕ → List Ty → List GInst
params_code place [] = []
params_code place (ty ∷ tys) = plain Param (place ∷ []) [] place ∷ params_code (place + 1) tys

-- a block: the number of its first value, its phis, and the code behind them
pub record Body : Type 0 where
  pub value : ℕ
  pub heads : List Inst
  pub ending : Ending

module _ (globals : List Global) (function : Function) where
  -- the code of instructions behind a block's phis, by the numbers of the block and of the next value, the registers at this place and
  -- the first block that it may take
  abbrev pub insts_ending : ℕ → ℕ → Pool → ℕ → List Inst → Ending
  insts_ending from value pool own [] = no_ending
  insts_ending from value pool own (inst ∷ insts) =
      if is_jump inst.op
      then ending_of globals function from pool own inst.op
      else
      (let piece = piece_of globals function.ret value pool inst.gives inst.op in
      ending_behind piece.code piece.types (insts_ending from (if has_result inst then value + 1 else value) piece.pool own insts))

  abbrev pub body_of : ℕ → ℕ → ℕ → ℕ → List Inst → Body
  body_of from value next own insts = record {
    value = value;
    heads = phis insts;
    ending = insts_ending from (value + length (phis insts)) (empty_pool next) own (drop (length (phis insts)) insts);
  }

  -- the bodies of blocks from a number on, with the number of the next value, and the first register and the first block that they may take
  abbrev pub bodies_from : ℕ → ℕ → ℕ → ℕ → List Block → List Body
  bodies_from from value next own [] = []
  bodies_from from value next own (block ∷ blocks) =
      let body = body_of from value next own block.insts in
      body ∷ bodies_from (from + 1) (value + results block.insts) (next + length body.ending.types) (own + length body.ending.later) blocks

  abbrev pub bodies : List Body
  bodies = bodies_from 0 (length function.params) (value_count function) (length function.blocks) function.blocks

  -- ---- phis

  -- the edges to a block, of all
  abbrev pub edges_to : ℕ → List Edge → List Edge
  edges_to to [] = []
  edges_to to (edge ∷ edges) = if edge.to == to then edge ∷ edges_to to edges else edges_to to edges

  -- the register that a phi, by its place, reads on an edge
  abbrev pub phi_register : ℕ → Edge → ℕ
  phi_register place edge = slice_index_or edge.uses place 0

  -- the phis of a block from a place on, each with a register for each edge to the block
  abbrev pub phis_code : ℕ → ℕ → List Edge → List Inst → List GInst
  phis_code value place edges [] = []
  phis_code value place edges (inst ∷ insts) =
      record { op = Phi; defs = value ∷ []; uses = map (phi_register place) edges; num = 0; to = map (λ edge. edge.at) edges }
      ∷ phis_code (value + 1) (place + 1) edges insts

  -- ---- the whole

  -- each block with its phis, and the first with the parameters before them
  abbrev pub blocks_code : List Edge → ℕ → List Body → List (List GInst)
  blocks_code edges number [] = []
  blocks_code edges number (body ∷ more) =
      ((if number == 0 then params_code 0 function.params else [])
      ++ (phis_code body.value 0 (edges_to number edges) body.heads ++ body.ending.code))
      ∷ blocks_code edges (number + 1) more

-- the generic function of a function of a module, whose number is given
abbrev pub translated : Program → ℕ → Function → GFunction
translated program symbol function =
    let all = bodies program.module_.globals function in
    record {
      symbol = symbol;
      values = value_count function;
      end = data_start + program.room;
      types = map type_of (types function) ++ flat_map (λ body. body.ending.types) all;
      blocks =
          blocks_code program.module_.globals function (flat_map (λ body. body.ending.edges) all) 0 all
          ++ flat_map (λ body. body.ending.later) all;
    }
