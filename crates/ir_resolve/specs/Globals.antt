-- The globals of a tree.
use Rattle.std.specs.Prelude.{◌≡◌, ℕ, ◌+◌, Bool, true, false, nat_le, List, [], ◌∷◌, ◌++◌, length, Option, Some, None, Result, Ok, Err, if◌then◌else◌}
use Rattle.ir_grammar.specs.declared.type_tree.Align.{Align}
use Rattle.ir_tree.specs.declared.tree.Global.{Global as GlobalText}
use Rattle.ir_core.specs.declared.program.Global.{Global}
use Rattle.ir_core.specs.declared.program.What.TheVariants as what
use Rattle.ir_types.specs.declared.fault.Fault.{Fault}
use Rattle.ir_types.specs.declared.fault.Fault.TheVariants as faults
use Rattle.ir_types.specs.declared.tables.Target.TheVariants as targets
use Rattle.ir_types.specs.Walk.{◌>>=◌, walk}
use Rattle.ir_types.specs.Numbers.{natural}
use Rattle.ir_types.specs.Tables.{put_named}
use Rattle.ir_types.specs.Names.{Symbols, bytes_of, if_new}
use Rattle.ir_types.specs.declared.table.Types.{Types}
use Rattle.ir_types.specs.Types.{memory}
use Rattle.ir_resolve.specs.Inits.{init_of}
use Rattle.ir_resolve.specs.declared.globals.AlignList.{AlignList}
use Rattle.ir_resolve.specs.declared.globals.GlobalList.{GlobalList}
use Rattle.ir_resolve.specs.declared.globals.GlobalNames.{GlobalNames}

-- an alignment of at most 16; a greater one is left out
abbrev pub small_align : ℕ → Option ℕ → Result ℕ Fault
small_align left None = Err (faults.LeftOut left)
small_align left (Some n) = if nat_le n 16 then Ok n else Err (faults.LeftOut left)

abbrev pub align_of : Align → Result ℕ Fault
align_of given = if given.number.is_negative then Err (faults.Syntax given.number.left) else small_align given.left (natural given.number.digits)

abbrev pub align_step : AlignList → Align → Result AlignList Fault
align_step before given = align_of given >>= λ n. Ok (record { last = n })

-- what `align` says behind a global, which is dropped
unfoldable pub small_aligns : List Align → Result AlignList Fault
small_aligns given = walk align_step (record { last = 0 }) given

-- a global: its name, its type and its initial value
unfoldable pub global : Types → Symbols → GlobalText → Result Global Fault
global types symbols given = do
  name ← bytes_of given.name
  ty ← memory types given.ty
  init ← init_of types symbols ty given.init
  _ ← small_aligns given.aligns
  Ok (record { name = name; ty = ty; init = init })

abbrev pub global_step : Types → Symbols → GlobalList → GlobalText → Result GlobalList Fault
global_step types symbols before given = global types symbols given >>= λ one. Ok (record { all = before.all ++ one ∷ [] })

-- of globals the limit plus one is shown
abbrev pub few_globals : ℕ → Result (Unit {0}) Fault
few_globals count = if nat_le count 4096 then Ok tt else Err (faults.Limit what.Globals 4097)

-- the globals in order of text, where the named types and what names stand for are known
unfoldable pub globals_of : Types → Symbols → List GlobalText → Result (List Global) Fault
globals_of types symbols given = do
  _ ← few_globals (length given)
  list ← walk (global_step types symbols) (record { all = [] }) given
  Ok list.all

-- one more name of a global, which is new
unfoldable pub global_name : GlobalNames → GlobalText → Result GlobalNames Fault
global_name before given = do
  bytes ← bytes_of given.name
  named ← if_new (put_named bytes (targets.Global before.count) before.named).0 given.name.left (put_named bytes (targets.Global before.count) before.named).1
  Ok (record { named = named; count = before.count + 1 })

-- the names of globals, each with its number in order of text
unfoldable pub global_names : List GlobalText → Result Symbols Fault
global_names given = walk global_name (record { named = []; count = 0 }) given >>= λ all. Ok all.named
