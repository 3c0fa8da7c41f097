-- When a function of target code refines a function.
use Rattle.std.specs.Prelude.{◌≡◌, ℕ, ◌+◌, ◌*◌, List, length, sum_by, Some}
use Rattle.ir_core.specs.Program.{Program}
use Rattle.ir_core.specs.declared.program.Function.{Function}
use Rattle.ir_meaning.specs.Step.{function_at}
use Rattle.mir.specs.declared.code.MInst.{MInst}
use Rattle.mir.specs.declared.code.MInst.TheVariants.{Phi}
use Rattle.mir.specs.declared.code.MFunction.{MFunction}
use Rattle.walks.specs.Face.{Face, RefinesFace, function_face}
use Rattle.mir_play.specs.Play.{weight, walk}

-- a phi counts once per operand, and bytes that are moved don't count
abbrev pub static_of : MInst → ℕ
static_of (Phi d pairs) = length pairs * weight (Phi d pairs)
static_of i = weight i

abbrev pub static_of_block : List MInst → ℕ
static_of_block insts = sum_by static_of insts

-- the entry weighs 160
abbrev pub static_weight : MFunction → ℕ
static_weight f = 160 + sum_by static_of_block f.blocks

abbrev pub face : MFunction → Face
face f = record { symbol = f.symbol; values = f.values; end = f.end; static = static_weight f; walk = walk f }

-- the function of target code refines one of this face: of generic machine code, of target code, or of a module
abbrev pub RefinesFrom : Face → MFunction → Type 0
RefinesFrom f g = RefinesFace f (face g)

-- g refines f
abbrev pub Refines : MFunction → MFunction → Type 0
Refines f g = RefinesFrom (face f) g

-- it refines the function of that symbol
abbrev pub IsCompiled : Program → ℕ → MFunction → Type 0
IsCompiled program symbol g = (function : Function) × (function_at program symbol ≡ Some function) × RefinesFrom (function_face program symbol function) g
