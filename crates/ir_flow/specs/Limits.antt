-- The limits of a module.
use Rattle.std.specs.Prelude.{ℕ, ◌+◌, ◌-◌, ◌*◌, ◌^◌, Bool, true, false, min, nat_lt, List, [], ◌∷◌, length, map, sum_by, Option, Some, None, if◌then◌else◌}
use Rattle.ir_core.specs.declared.layout.Extent.{Extent}
use Rattle.ir_core.specs.declared.types.MemTy.{MemTy, fold-MemTy}
use Rattle.ir_core.specs.declared.types.MemTy.TheOpen.{MemTy-F, Int, Ptr, Array, Struct}
use Rattle.ir_core.specs.declared.code.Op.{Op}
use Rattle.ir_core.specs.declared.code.Op.TheVariants.{Alloca, Gep}
use Rattle.ir_core.specs.declared.code.Inst.{Inst}
use Rattle.ir_core.specs.declared.program.Function.{Function}
use Rattle.ir_core.specs.declared.program.Global.{Global}
use Rattle.ir_core.specs.declared.program.Module.{Module}
use Rattle.ir_core.specs.declared.program.What.{What}
use Rattle.ir_core.specs.declared.program.What.TheVariants.{Functions, Globals, Parameters, Units, Nodes, Size}
use Rattle.ir_core.specs.Layout.{int_extent, pointer_extent, array_extent, struct_extent, measure}
use Rattle.ir_core.specs.Units.{instructions, units}
use Rattle.ir_flow.specs.declared.sizes.Measured.{Measured}
use Rattle.ir_flow.specs.First.{or_then}

-- what is passed, and the count that passes it
abbrev pub Passed : Type 0
Passed = What × ℕ

-- a count, up to the greatest number of 64 bits
abbrev pub capped : ℕ → ℕ
capped n = min n (2 ^ 64 - 1)

abbrev pub above : What → ℕ → ℕ → Option Passed
above what most count = if nat_lt most count then Some (what, capped count) else None

-- ---- types of memory

-- how many types a type of memory is made of, itself with them
abbrev pub nodes : MemTy → ℕ
nodes ty = (measure ty).nodes

-- a type's extent, and the size of the outermost type in it that takes more than 2^32 bytes, the first of its parts before the others
abbrev pub first_passing : List Measured → Option ℕ
first_passing [] = None
first_passing (part ∷ parts) = or_then part.passing (first_passing parts)

abbrev pub own_or_parts : ℕ → Option ℕ → Option ℕ
own_or_parts size parts = if nat_lt (2 ^ 32) size then Some size else parts

abbrev pub measured_with : Extent → List Measured → Measured
measured_with extent parts = record { extent = extent; passing = own_or_parts extent.size (first_passing parts) }

abbrev pub extents_of : List Measured → List Extent
extents_of = map (λ part. part.extent)

abbrev pub measured_step : MemTy-F Measured → Measured
measured_step (Int w) = measured_with (int_extent w) []
measured_step Ptr = measured_with pointer_extent []
measured_step (Array count element) = measured_with (array_extent count element.extent) (element ∷ [])
measured_step (Struct fields packed) = measured_with (struct_extent (extents_of fields) packed) fields

abbrev pub measured : MemTy → Measured
measured = fold-MemTy Measured measured_step

abbrev pub capped_passing : Option ℕ → Option ℕ
capped_passing None = None
capped_passing (Some size) = Some (capped size)

abbrev pub shown_size : Option ℕ → Option Passed
shown_size None = None
shown_size (Some size) = Some (Size, size)

-- a type of memory has at most 4,096 nodes, and it and the types inside take at most 2^32 bytes
abbrev pub type_limit : MemTy → Option Passed
type_limit ty = or_then (above Nodes 4096 (nodes ty)) (shown_size (capped_passing (measured ty).passing))

-- ---- instructions, functions and globals

abbrev pub op_limit : Op → Option Passed
op_limit (Alloca of count) = type_limit of
op_limit (Gep of base indices) = type_limit of
op_limit _ = None

abbrev pub insts_limit : List Inst → Option Passed
insts_limit [] = None
insts_limit (inst ∷ insts) = or_then (op_limit inst.op) (insts_limit insts)

abbrev pub function_limit : Function → Option Passed
function_limit function =
    or_then (above Parameters 8 (length function.params))
    (or_then (above Units 16384 (sum_by units (instructions function.blocks))) (insts_limit (instructions function.blocks)))

abbrev pub functions_limit : List Function → Option Passed
functions_limit [] = None
functions_limit (function ∷ functions) = or_then (function_limit function) (functions_limit functions)

abbrev pub globals_limit : List Global → Option Passed
globals_limit [] = None
globals_limit (global ∷ globals) = or_then (type_limit global.ty) (globals_limit globals)

-- the first limit that a module passes: of functions and globals, then of the types of globals, then of each function
abbrev pub limit_passed : Module → Option Passed
limit_passed module_ =
    or_then (above Functions 1024 (length module_.functions))
    (or_then (above Globals 4096 (length module_.globals)) (or_then (globals_limit module_.globals) (functions_limit module_.functions)))
