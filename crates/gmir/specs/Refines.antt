-- When a function of generic machine code refines another, and when it refines a function of a module.
use Rattle.std.specs.Prelude.{ℕ, ◌+◌, ◌*◌, List, length, sum_by, if◌then◌else◌}
use Rattle.gmir.specs.declared.code.GType.{GType}
use Rattle.gmir.specs.declared.code.GInst.{GInst}
use Rattle.gmir.specs.declared.code.GFunction.{GFunction}
use Rattle.ir_core.specs.Program.{Program}
use Rattle.ir_core.specs.declared.program.Function.{Function}
use Rattle.walks.specs.Face.{Face, RefinesFace, function_face}
use Rattle.gmir.specs.Play.{is_phi, weight, walk}

-- a phi counts once per operand, and bytes that are moved don't count
abbrev pub static_of : List GType → GInst → ℕ
static_of types i = if is_phi i.op then length i.uses * weight types i else weight types i

abbrev pub static_of_block : List GType → List GInst → ℕ
static_of_block types insts = sum_by (static_of types) insts

-- the entry weighs 160
abbrev pub static_weight : GFunction → ℕ
static_weight f = 160 + sum_by (static_of_block f.types) f.blocks

abbrev pub face : GFunction → Face
face f = record { symbol = f.symbol; values = f.values; end = f.end; static = static_weight f; walk = walk f }

-- g refines f
abbrev pub Refines : GFunction → GFunction → Type 0
Refines f g = RefinesFace (face f) (face g)

-- g refines the function of that symbol
abbrev pub RefinesFunction : Program → ℕ → Function → GFunction → Type 0
RefinesFunction program symbol function g = RefinesFace (function_face program symbol function) (face g)
