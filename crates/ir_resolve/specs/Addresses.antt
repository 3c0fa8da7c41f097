-- Constant addresses: a global, and how far from its first byte the indices lead.
use Rattle.std.specs.Prelude.{ℕ, ◌+◌, ◌-◌, ◌*◌, ◌%◌, ◌^◌, nat_eq, nat_lt, List, [], ◌∷◌, ◌++◌, length, map, Option, Some, None, Result, Ok, Err, slice_get, if◌then◌else◌}
use Rattle.ir_grammar.specs.declared.type_tree.TypeNode.{TypeNode}
use Rattle.ir_grammar.specs.declared.type_tree.TypeNode.TheVariants as nodes
use Rattle.ir_value_trees.specs.declared.value_tree.Index.{Index}
use Rattle.ir_value_trees.specs.declared.value_tree.Address.{Address}
use Rattle.ir_core.specs.declared.types.MemTy.{MemTy, out-MemTy}
use Rattle.ir_core.specs.declared.types.MemTy.TheOpen.{MemTy-F, Int, Ptr, Array, Struct}
use Rattle.ir_core.specs.Layout.{size, extent_of, offset_of_field}
use Rattle.ir_types.specs.declared.fault.Fault.{Fault}
use Rattle.ir_types.specs.declared.fault.Fault.TheVariants as faults
use Rattle.ir_types.specs.declared.tables.Target.{Target}
use Rattle.ir_types.specs.declared.tables.Target.TheVariants as targets
use Rattle.ir_types.specs.Walk.{◌>>=◌, or_fault, walk}
use Rattle.ir_types.specs.Numbers.{natural}
use Rattle.ir_types.specs.Names.{Symbols, named_target}
use Rattle.ir_types.specs.Parts.{width_of}
use Rattle.ir_types.specs.declared.table.Types.{Types}
use Rattle.ir_types.specs.Types.{memory}
use Rattle.ir_resolve.specs.declared.offsets.Offset.{Offset}
use Rattle.ir_resolve.specs.declared.offsets.OffsetList.{OffsetList}
use Rattle.ir_resolve.specs.declared.address.Way.{Way}
use Rattle.ir_resolve.specs.Literals.{literal_of, extended}

-- ---- indices

abbrev pub index_width : Index → Result ℕ Fault
index_width index = width_in index.number.left index.ty
  where
    width_in : ℕ → TypeNode → Result ℕ Fault
    width_in at (nodes.Int digits left) = width_of left (natural digits)
    width_in at (nodes.Void left) = Err (faults.Syntax at)
    width_in at (nodes.Ptr left) = Err (faults.Syntax at)
    width_in at (nodes.Array count left) = Err (faults.Syntax at)
    width_in at (nodes.Struct left) = Err (faults.Syntax at)
    width_in at (nodes.Packed left) = Err (faults.Syntax at)
    width_in at nodes.Close = Err (faults.Syntax at)
    width_in at (nodes.Named name) = Err (faults.Syntax at)

-- `iN NUMBER`, sign-extended to 64 bits
unfoldable pub offset_of : Index → Result Offset Fault
offset_of index = do
  w ← index_width index
  n ← literal_of index.number w
  value ← or_fault (faults.Syntax index.number.left) (extended w n)
  Ok (record { value = value; left = index.number.left })

abbrev pub offset_step : OffsetList → Index → Result OffsetList Fault
offset_step before index = offset_of index >>= λ one. Ok (record { all = before.all ++ one ∷ [] })

unfoldable pub offsets_of : List Index → Result (List Offset) Fault
offsets_of given = walk offset_step (record { all = [] }) given >>= λ list. Ok list.all

-- ---- how far indices lead, modulo 2^64

abbrev pub further : ℕ → ℕ → ℕ
further a b = (a + b) % 2 ^ 64

abbrev pub times : ℕ → ℕ → ℕ
times count size = count * size % 2 ^ 64

-- the part of a type to which an index leads: an element of an array, or a field of a struct
abbrev pub part_in : ℕ → MemTy-F MemTy → Option MemTy
part_in n (Int w) = None
part_in n Ptr = None
part_in n (Array count element) = Some element
part_in n (Struct fields packed) = slice_get fields n

-- where that part begins
abbrev pub start_in : ℕ → MemTy-F MemTy → ℕ
start_in n (Int w) = 0
start_in n Ptr = 0
start_in n (Array count element) = times n (size element)
start_in n (Struct fields packed) = if nat_lt n (length fields) then offset_of_field (map extent_of fields) packed n else 0

-- a part that begins so far, and how far the later indices lead into it
abbrev pub leads_from : (MemTy → Result ℕ Fault) → ℕ → ℕ → Option MemTy → Result ℕ Fault
leads_from rest left start None = Err (faults.Syntax left)
leads_from rest left start (Some part) = rest part >>= λ more. Ok (further start more)

abbrev pub leads_into : List Offset → MemTy → Result ℕ Fault
leads_into [] ty = Ok 0
leads_into (offset ∷ offsets) ty = leads_from (leads_into offsets) offset.left (start_in offset.value (out-MemTy ty)) (part_in offset.value (out-MemTy ty))

-- the first index counts whole values of the type, the others lead into it
abbrev pub distance : MemTy → List Offset → Result ℕ Fault
distance ty [] = Ok 0
distance ty (first ∷ offsets) = leads_into offsets ty >>= λ more. Ok (further (times first.value (size ty)) more)

-- ---- addresses

-- a `getelementptr` of a type with indices
unfoldable pub head_distance : Types → List TypeNode → List Index → Result ℕ Fault
head_distance types head tail = do
  ty ← memory types head
  offsets ← offsets_of tail
  distance ty offsets

abbrev pub head_from : Option (List TypeNode) → Result (List TypeNode) Fault
head_from head = or_fault (faults.Syntax 0) head

-- the next `getelementptr` around what was gone so far; the innermost one's type comes last
unfoldable pub way_step : Types → List (List TypeNode) → Way → List Index → Result Way Fault
way_step types heads before tail = do
  head ← head_from (if nat_eq before.heads 0 then None else slice_get heads (before.heads - 1))
  more ← head_distance types head tail
  Ok (record { heads = before.heads - 1; offset = further before.offset more })

-- a global; a function's name is no operand
abbrev pub global_number : ℕ → Target → Result ℕ Fault
global_number left (targets.Global n) = Ok n
global_number left (targets.Function n) = Err (faults.LeftOut left)
global_number left (targets.Value n) = Err (faults.Name left)
global_number left (targets.Block n) = Err (faults.Name left)
global_number left (targets.Type n) = Err (faults.Name left)

-- each `getelementptr` has its indices
abbrev pub no_head_left : ℕ → Way → Result ℕ Fault
no_head_left left way = if nat_eq way.heads 0 then Ok way.offset else Err (faults.Syntax left)

-- a constant place: the global's number in order of text, and the offset
unfoldable pub address : Types → Symbols → Address → Result (ℕ × ℕ) Fault
address types symbols given = do
  target ← named_target symbols given.name
  global ← global_number given.name.left target
  way ← walk (way_step types given.heads) (record { heads = length given.heads; offset = 0 }) given.tails
  offset ← no_head_left given.left way
  Ok (global, offset)
