-- The trees of printed initial values, whatever the places in them.
use Rattle.std.specs.Prelude.{ℕ, true, false, slice_get, List, [], ◌∷◌}
use Rattle.std.specs.List.{flat_map}
use Rattle.ir_text.specs.declared.name.Number.{Number}
use Rattle.ir_core.specs.declared.types.MemTy.{MemTy, Int}
use Rattle.ir_core.specs.declared.types.MemTy.TheVariants.{Array, Struct}
use Rattle.ir_core.specs.declared.program.Init.{Init}
use Rattle.ir_core.specs.declared.program.Init.TheVariants as inits
use Rattle.ir_core.specs.declared.program.Global.{Global}
use Rattle.ir_grammar.specs.declared.type_tree.TypeNode.{TypeNode}
use Rattle.ir_value_trees.specs.declared.value_tree.Address.{Address}
use Rattle.ir_value_trees.specs.declared.value_tree.InitNode.{InitNode}
use Rattle.ir_value_trees.specs.declared.value_tree.InitNode.TheVariants as nodes
use Rattle.ir_print_names.specs.Names.{quoted_byte}
use Rattle.ir_print.specs.Values.{global_of}
use Rattle.ir_print_laws.specs.FormTrees.{IsMemoryTree, IsSignedTree, IsAddressTree}

-- the type of an array's element, once for each item
unfoldable pub repeated : MemTy → List Init → List MemTy
repeated element [] = []
repeated element (item ∷ items) = element ∷ repeated element items

-- where an initial value of a type ends among nodes, and where the items of a list do
mutual
  pub data IsInitTree (globals : List Global) : List InitNode → Init → MemTy → List InitNode → Type 0 where
    number_init : {n width : ℕ} {given : Number} {rest : List InitNode} → IsSignedTree width n given → IsInitTree globals (nodes.Number given ∷ rest) (inits.Num n) (Int width) rest
    null_init : {left : ℕ} {ty : MemTy} {rest : List InitNode} → IsInitTree globals (nodes.Null left ∷ rest) inits.Null ty rest
    zero_init : {left : ℕ} {ty : MemTy} {rest : List InitNode} → IsInitTree globals (nodes.Zero left ∷ rest) inits.Zero ty rest
    place_init : {k offset : ℕ} {ty : MemTy} {address : Address} {rest : List InitNode} → IsAddressTree (global_of (slice_get globals k)) offset address → IsInitTree globals (nodes.Address address ∷ rest) (inits.Place k offset) ty rest
    text_init : {bytes : List ℕ} {left : ℕ} {ty : MemTy} {rest : List InitNode} → IsInitTree globals (nodes.Bytes (flat_map quoted_byte bytes) left ∷ rest) (inits.Bytes bytes) ty rest
    array_init : {count left : ℕ} (element : MemTy) {items : List Init} {inner rest : List InitNode} → AreInitTrees globals inner items (repeated element items) rest → IsInitTree globals (nodes.Array left ∷ inner) (inits.List items) (Array count element) rest
    struct_init : {left : ℕ} {fields : List MemTy} {items : List Init} {inner rest : List InitNode} → AreInitTrees globals inner items fields rest → IsInitTree globals (nodes.Struct left ∷ inner) (inits.List items) (Struct fields false) rest
    packed_init : {left : ℕ} {fields : List MemTy} {items : List Init} {inner rest : List InitNode} → AreInitTrees globals inner items fields rest → IsInitTree globals (nodes.Packed left ∷ inner) (inits.List items) (Struct fields true) rest

  pub data AreInitTrees (globals : List Global) : List InitNode → List Init → List MemTy → List InitNode → Type 0 where
    ends_init : {left : ℕ} {rest : List InitNode} → AreInitTrees globals (nodes.Close left ∷ rest) [] [] rest
    next_init : {ty : MemTy} {tys : List MemTy} {item : Init} {items : List Init} {parts : List TypeNode} {inner middle rest : List InitNode}
        → IsMemoryTree parts ty [] → IsInitTree globals inner item ty middle → AreInitTrees globals middle items tys rest → AreInitTrees globals (nodes.Of parts ∷ inner) (item ∷ items) (ty ∷ tys) rest
