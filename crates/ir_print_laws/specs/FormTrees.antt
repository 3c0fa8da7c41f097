-- The tree of a printed module, whatever the places in it.
use Rattle.std.specs.Prelude.{◌≡◌, ℕ, ◌-◌, ◌^◌, Bool, true, false, ◌||◌, ◌&&◌, ◌==◌, nat_le, slice_get, MatchBool, List, [], ◌∷◌, ◌++◌, codes, decimal, if◌then◌else◌}
use Rattle.std.specs.List.{flat_map}
use Rattle.rj_num.specs.Width.{is_negative, holds_unsigned}
use Rattle.ir_text.specs.declared.token.Spelling.{Spelling}
use Rattle.ir_text.specs.declared.token.Spelling.TheVariants.{Bare, Numbered, Quoted}
use Rattle.ir_text.specs.declared.name.Name.{Name}
use Rattle.ir_text.specs.declared.name.Number.{Number}
use Rattle.ir_core.specs.declared.types.Ty.{Ty}
use Rattle.ir_core.specs.declared.types.Ty.TheVariants as values
use Rattle.ir_core.specs.declared.types.MemTy.{MemTy, Int, Ptr}
use Rattle.ir_core.specs.declared.types.MemTy.TheVariants.{Array, Struct}
use Rattle.ir_core.specs.declared.code.Operand.{Operand}
use Rattle.ir_core.specs.declared.code.Operand.TheVariants as operands
use Rattle.ir_core.specs.declared.program.Global.{Global}
use Rattle.ir_grammar.specs.declared.type_tree.TypeNode.{TypeNode}
use Rattle.ir_grammar.specs.declared.type_tree.TypeNode.TheVariants as nodes
use Rattle.ir_value_trees.specs.declared.value_tree.Index.{Index}
use Rattle.ir_value_trees.specs.declared.value_tree.Address.{Address}
use Rattle.ir_value_trees.specs.declared.value_tree.Value.{Value}
use Rattle.ir_value_trees.specs.declared.value_tree.Value.TheVariants as written
use Rattle.ir_value_trees.specs.declared.value_tree.Typed.{Typed}
use Rattle.ir_print_names.specs.Names.{is_bare, is_numeral, quoted_byte}
use Rattle.ir_print.specs.Values.{width_of, global_of}

-- how a name is written
abbrev pub spelling_of : List ℕ → Spelling
spelling_of name = if is_bare name then Bare else if is_numeral name then Numbered else Quoted

abbrev pub written_of : List ℕ → List ℕ
written_of name = if is_bare name || is_numeral name then name else flat_map quoted_byte name

-- the name of a global or a function
abbrev pub IsNameOf : List ℕ → Name → Type 0
IsNameOf name given = (given.spelling ≡ spelling_of name) × (given.bytes ≡ written_of name)

-- `%vK`
abbrev pub IsValueName : ℕ → Name → Type 0
IsValueName value given = (given.spelling ≡ Bare) × (given.bytes ≡ codes "v" ++ decimal value)

-- `%bK`, or `bK:`
abbrev pub IsBlockName : ℕ → Name → Type 0
IsBlockName block given = (given.spelling ≡ Bare) × (given.bytes ≡ codes "b" ++ decimal block)

-- a number without a sign
abbrev pub IsCount : ℕ → Number → Type 0
IsCount count given = (given.is_negative ≡ false) × (given.digits ≡ decimal count)

-- the type of a value
abbrev pub IsTyTree : Ty → List TypeNode → Type 0
IsTyTree values.Void parts = (left : ℕ) × (parts ≡ nodes.Void left ∷ [])
IsTyTree (values.Int width) parts = (left : ℕ) × (parts ≡ nodes.Int (decimal width) left ∷ [])
IsTyTree values.Ptr parts = (left : ℕ) × (parts ≡ nodes.Ptr left ∷ [])

-- where a type of memory ends among parts, and where the fields of a struct do
mutual
  pub data IsMemoryTree : List TypeNode → MemTy → List TypeNode → Type 0 where
    integer : {width left : ℕ} {rest : List TypeNode} → IsMemoryTree (nodes.Int (decimal width) left ∷ rest) (Int width) rest
    pointer : {left : ℕ} {rest : List TypeNode} → IsMemoryTree (nodes.Ptr left ∷ rest) Ptr rest
    array : {count left : ℕ} {number : Number} {element : MemTy} {inner rest : List TypeNode} → IsCount count number → IsMemoryTree inner element rest → IsMemoryTree (nodes.Array number left ∷ inner) (Array count element) rest
    structure : {left : ℕ} {fields : List MemTy} {inner rest : List TypeNode} → AreFieldTrees inner fields rest → IsMemoryTree (nodes.Struct left ∷ inner) (Struct fields false) rest
    packed : {left : ℕ} {fields : List MemTy} {inner rest : List TypeNode} → AreFieldTrees inner fields rest → IsMemoryTree (nodes.Packed left ∷ inner) (Struct fields true) rest

  pub data AreFieldTrees : List TypeNode → List MemTy → List TypeNode → Type 0 where
    ended : {rest : List TypeNode} → AreFieldTrees (nodes.Close ∷ rest) [] rest
    another : {field : MemTy} {fields : List MemTy} {inner middle rest : List TypeNode} → IsMemoryTree inner field middle → AreFieldTrees middle fields rest → AreFieldTrees inner (field ∷ fields) rest

-- whether a number of a width has a sign, and its digits
abbrev pub has_sign : ℕ → ℕ → Bool
has_sign width n = (nat_le 1 width && nat_le width 128 && holds_unsigned width n) && is_negative width n

abbrev pub IsSignedTree : ℕ → ℕ → Number → Type 0
IsSignedTree width n given = (given.is_negative ≡ has_sign width n) × (given.digits ≡ decimal (if has_sign width n then 2 ^ width - n else n))

-- a number of a width: of one bit a word
abbrev pub IsNumberTree : ℕ → ℕ → Value → Type 0
IsNumberTree width n value =
    MatchBool (width == 1 && n == 0) ((left : ℕ) × (value ≡ written.False left))
    (MatchBool (width == 1 && n == 1) ((left : ℕ) × (value ≡ written.True left))
    ((given : Number) × (value ≡ written.Number given) × IsSignedTree width n given))

-- `iN OFFSET`
abbrev pub IsOffsetTree : ℕ → Index → Type 0
IsOffsetTree offset index = ((left : ℕ) × (index.ty ≡ nodes.Int (codes "64") left)) × IsCount offset index.number

-- the address of a global and an offset
abbrev pub IsAddressTree : List ℕ → ℕ → Address → Type 0
IsAddressTree name offset address =
    IsNameOf name address.name
    × MatchBool (offset == 0)
    ((address.heads ≡ []) × (address.tails ≡ []))
    (((left : ℕ) × (address.heads ≡ (nodes.Int (codes "8") left ∷ []) ∷ [])) × ((index : Index) × (address.tails ≡ (index ∷ []) ∷ []) × IsOffsetTree offset index))

-- an operand of a type
abbrev pub IsOperandTree : List Global → Ty → Operand → Value → Type 0
IsOperandTree globals ty (operands.Value v) value = (name : Name) × (value ≡ written.Local name) × IsValueName v name
IsOperandTree globals ty (operands.Num n) value = IsNumberTree (width_of ty) n value
IsOperandTree globals ty operands.Null value = (left : ℕ) × (value ≡ written.Null left)
IsOperandTree globals ty (operands.Place k offset) value = (address : Address) × (value ≡ written.Address address) × IsAddressTree (global_of (slice_get globals k)) offset address
IsOperandTree globals ty operands.Poison value = (left : ℕ) × (value ≡ written.Poison left)

-- `T V`
abbrev pub IsTypedTree : List Global → Ty → Operand → Typed → Type 0
IsTypedTree globals ty operand given = IsTyTree ty given.ty × IsOperandTree globals ty operand given.value
