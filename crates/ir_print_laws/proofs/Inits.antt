-- Trees of printed initial values say what was printed.
use Rattle.std.proofs.Common.{◌≡◌, ℕ, zero, suc, ◌^◌, ◌<◌, ◌≤◌, Bool, true, false, List, [], ◌∷◌, ◌++◌, Some, map, length, refl, sym, ◌∙◌, ap, arith, append_assoc, append-nil}
use Rattle.std.specs.Prelude.{◌&&◌, nat_lt, nat_eq, Result, Ok, Err, slice_get}
use Rattle.std.specs.List.{list_all, flat_map}
use Rattle.ir_text.specs.declared.name.Number.{Number}
use Rattle.ir_core.specs.declared.types.MemTy.{MemTy, Int, out-MemTy}
use Rattle.ir_core.specs.declared.types.MemTy.TheVariants.{Array, Struct}
use Rattle.ir_core.specs.declared.types.MemTy.TheOpen as layer
use Rattle.ir_core.specs.declared.program.Init.{Init, roll-Init, fold-roll-Init}
use Rattle.ir_core.specs.declared.program.Init.TheFolds.{map-Init}
use Rattle.ir_core.specs.declared.program.Init.TheVariants as inits
use Rattle.ir_core.specs.declared.program.Init.TheOpen as init
use Rattle.ir_core.specs.declared.program.Module.{Module}
use Rattle.ir_core.specs.Layout.{measure}
use Rattle.ir_grammar.specs.declared.type_tree.TypeNode.{TypeNode}
use Rattle.ir_value_trees.specs.declared.value_tree.Address.{Address}
use Rattle.ir_value_trees.specs.declared.value_tree.InitNode.{InitNode}
use Rattle.ir_value_trees.specs.declared.value_tree.InitNode.TheVariants as nodes
use Rattle.ir_types.specs.declared.fault.Fault.{Fault}
use Rattle.ir_types.specs.Walk.{◌>>=◌}
use Rattle.ir_types.specs.Names.{Symbols}
use Rattle.ir_resolve.specs.Same.{same_type}
use Rattle.ir_resolve.specs.Inits.{Reading, leaf, closed, typed, elements, fields_of, array_of, struct_of, value_with, value, at_end, init_of, byte_count, bytes_init, where_counted}
use Rattle.ir_resolve.specs.Inits as read
use Rattle.ir_print_names.specs.Names.{quoted_byte}
use Rattle.ir_print.specs.Values.{global_of}
use Rattle.ir_print_names.proofs.NamesBack.{bytes_back}
use Rattle.ir_print.proofs.Layers.{out_int, out_array, out_struct}
use Rattle.ir_print_laws.specs.FormTrees.{IsMemoryTree, IsSignedTree, IsAddressTree}
use Rattle.ir_print_laws.specs.Inits.{repeated, IsInitTree, number_init, null_init, zero_init, place_init, text_init, array_init, struct_init, packed_init, AreInitTrees, ends_init, next_init}
use Rattle.ir_print_laws.specs.Fits.{fits_number, is_pointer, is_byte, has_bytes, fit_each, fit_items, init_fits_step, init_fits, FitsMemory, no_types}
use Rattle.ir_print_laws.proofs.Digits.{literal_says}
use Rattle.ir_print_laws.proofs.Operands.{SaysAddress}
use Rattle.ir_print_laws.proofs.Operations.{SaysMemory}
use Rattle.ir_print_laws.proofs.Memory.{both_true, sum_nodes, nodes_array, nodes_struct, nodes_more, fits_int, width_fits}
use Rattle.ir_print_laws.proofs.Same.{AllFit, element_fits, fields_fit, some_nodes, is_same}

-- ---- what fits

pub fits_by : (globals : ℕ) (one : Init) (y : init.Init-F Init) (ty : MemTy) → roll-Init y ≡ one → init_fits globals one ty ≡ init_fits_step globals (map-Init Init (MemTy → Bool) (init_fits globals) y) ty
fits_by globals one y ty e = ap (λ (x : Init). init_fits globals x ty) (sym e) ∙ ap (λ (f : MemTy → Bool). f ty) (fold-roll-Init (MemTy → Bool) (init_fits_step globals) y)

lt_of : (n m : ℕ) → nat_lt n m ≡ true → n < m
lt_of n m e = grind (arith, e)

eq_of : (n m : ℕ) → nat_eq n m ≡ true → n ≡ m
eq_of n m e = grind (arith, e)

same_pointer : (y : layer.MemTy-F MemTy) → read.is_pointer y ≡ is_pointer y
same_pointer (layer.Int w) = refl
same_pointer layer.Ptr = refl
same_pointer (layer.Array count element) = refl
same_pointer (layer.Struct fields is_packed) = refl

same_byte : (y : layer.MemTy-F MemTy) → read.is_byte y ≡ is_byte y
same_byte (layer.Int w) = refl
same_byte layer.Ptr = refl
same_byte (layer.Array count element) = refl
same_byte (layer.Struct fields is_packed) = refl

bytes_count : (y : layer.MemTy-F MemTy) (n : ℕ) → has_bytes y n ≡ true → byte_count y ≡ Some n
bytes_count (layer.Int w) n e = absurd cc
bytes_count layer.Ptr n e = absurd cc
bytes_count (layer.Struct fields is_packed) n e = absurd cc
bytes_count (layer.Array count element) n e =
    let b = both_true (is_byte (out-MemTy element)) (nat_eq n count) e in
    rw (same_byte (out-MemTy element), b.0) (ap (λ (x : ℕ). Some x) (sym (eq_of n count b.1)))

-- ---- lists

same_bind : {A B : Type 0} (r : Result A Fault) (f g : A → Result B Fault) → ((x : A) → f x ≡ g x) → (r >>= f) ≡ (r >>= g)
same_bind (Ok x) f g e = e x
same_bind (Err e) f g same = refl

-- an array's elements are read as fields of its element's type
elements_as : (one : MemTy → Reading) (element : MemTy) (items : List Init) (before : List Init) (given : List InitNode) → elements (one element) (length items) before given ≡ fields_of one (repeated element items) before given
unfolding repeated
elements_as one element [] before given = refl
elements_as one element (item ∷ items) before given = same_bind (one element given) _ _ (λ r. elements_as one element items (before ++ r.0 ∷ []) r.1)

repeated_length : (element : MemTy) (items : List Init) → length (repeated element items) ≡ length items
unfolding repeated
repeated_length element [] = refl
repeated_length element (item ∷ items) = ap suc (repeated_length element items)

module _ (m : Module) (symbols : Symbols) (addresses : SaysAddress m symbols (length m.globals)) (memories : SaysMemory) where
  abbrev fits : Init → MemTy → Bool
  fits = init_fits (length m.globals)

  -- one item
  leaf_at : (depth : ℕ) (ty : MemTy) (node : InitNode) (one : Init) (rest : List InitNode) → value_with no_types symbols (typed no_types (value depth no_types symbols)) ty (node ∷ rest) ≡ Ok (one, rest) → value (suc depth) no_types symbols ty (node ∷ rest) ≡ Ok (one, rest)
  unfolding value
  leaf_at depth ty node one rest e = e

  number_says : (depth n w : ℕ) (given : Number) (rest : List InitNode) → FitsMemory (Int w) → fits (inits.Num n) (Int w) ≡ true → IsSignedTree w n given → value (suc depth) no_types symbols (Int w) (nodes.Number given ∷ rest) ≡ Ok (inits.Num n, rest)
  number_says depth n w given rest memory_fits e is =
      let step = fits_by (length m.globals) (inits.Num n) (init.Num n) (Int w) (inits.rolls-Num n) in
      let lt : nat_lt n (2 ^ w) ≡ true = sym (ap (λ (y : layer.MemTy-F MemTy). fits_number y n) (out_int w)) ∙ sym step ∙ e in
      let width = width_fits w (sym (fits_int w) ∙ memory_fits.0) in
      let l = literal_says w n given width.0 width.1 (lt_of n (2 ^ w) lt) is in
      leaf_at depth (Int w) (nodes.Number given) (inits.Num n) rest (rw (out_int w, l) refl)

  null_says : (depth left : ℕ) (ty : MemTy) (rest : List InitNode) → fits inits.Null ty ≡ true → value (suc depth) no_types symbols ty (nodes.Null left ∷ rest) ≡ Ok (inits.Null, rest)
  null_says depth left ty rest e =
      let pointer = same_pointer (out-MemTy ty) ∙ sym (fits_by (length m.globals) inits.Null init.Null ty inits.rolls-Null) ∙ e in
      leaf_at depth ty (nodes.Null left) inits.Null rest (rw pointer refl)

  zero_says : (depth left : ℕ) (ty : MemTy) (rest : List InitNode) → value (suc depth) no_types symbols ty (nodes.Zero left ∷ rest) ≡ Ok (inits.Zero, rest)
  zero_says depth left ty rest = leaf_at depth ty (nodes.Zero left) inits.Zero rest refl

  place_says : (depth k offset : ℕ) (ty : MemTy) (given : Address) (rest : List InitNode) → fits (inits.Place k offset) ty ≡ true → IsAddressTree (global_of (slice_get m.globals k)) offset given → value (suc depth) no_types symbols ty (nodes.Address given ∷ rest) ≡ Ok (inits.Place k offset, rest)
  place_says depth k offset ty given rest e is =
      let all = sym (fits_by (length m.globals) (inits.Place k offset) (init.Place k offset) ty (inits.rolls-Place k offset)) ∙ e in
      let b = both_true (is_pointer (out-MemTy ty)) (nat_lt k (length m.globals) && nat_lt offset (2 ^ 64)) all in
      let c = both_true (nat_lt k (length m.globals)) (nat_lt offset (2 ^ 64)) b.1 in
      let pointer = same_pointer (out-MemTy ty) ∙ b.0 in
      let says = addresses k offset given (lt_of k (length m.globals) c.0) (lt_of offset (2 ^ 64) c.1) is in
      leaf_at depth ty (nodes.Address given) (inits.Place k offset) rest (rw (pointer, says) refl)

  text_says : (depth left : ℕ) (bytes : List ℕ) (ty : MemTy) (rest : List InitNode) → fits (inits.Bytes bytes) ty ≡ true → value (suc depth) no_types symbols ty (nodes.Bytes (flat_map quoted_byte bytes) left ∷ rest) ≡ Ok (inits.Bytes bytes, rest)
  text_says depth left bytes ty rest e =
      let all = sym (fits_by (length m.globals) (inits.Bytes bytes) (init.Bytes bytes) ty (inits.rolls-Bytes bytes)) ∙ e in
      let b = both_true (has_bytes (out-MemTy ty) (length bytes)) (list_all (λ byte. nat_lt byte 256) bytes) all in
      let count = bytes_count (out-MemTy ty) (length bytes) b.0 in
      let same : nat_eq (length bytes) (length bytes) ≡ true = grind arith in
      leaf_at depth ty (nodes.Bytes (flat_map quoted_byte bytes) left) (inits.Bytes bytes) rest (rw (bytes_back bytes b.1) (rw count (rw same refl)))

  -- ---- lists

  same_one : (ty : MemTy) (few : (measure ty).nodes ≤ 4096) → same_type 4096 ty ty ≡ true
  same_one ty few = is_same 4096 ty few

  typed_says : (inner : MemTy → Reading) (ty : MemTy) (parts : List TypeNode) (one : Init) (given rest : List InitNode) → FitsMemory ty → IsMemoryTree parts ty [] → inner ty given ≡ Ok (one, rest) → typed no_types inner ty (nodes.Of parts ∷ given) ≡ Ok (one, rest)
  typed_says inner ty parts one given rest memory_fits is e = rw (memories ty parts memory_fits is) (rw (same_one ty memory_fits.1.0) e)

  next_says : (one : MemTy → Reading) (ty : MemTy) (tys : List MemTy) (item : Init) (before : List Init) (given middle : List InitNode) (all : Result (Init × List InitNode) Fault) → one ty given ≡ Ok (item, middle) → fields_of one tys (before ++ item ∷ []) middle ≡ all → fields_of one (ty ∷ tys) before given ≡ all
  next_says one ty tys item before given middle all e rest = rw e rest

  array_says : (depth count left : ℕ) (element : MemTy) (items : List Init) (inner rest : List InitNode) → fits (inits.List items) (Array count element) ≡ true → ((n : ℕ) → n ≡ count → length items ≡ n)
      → fields_of (typed no_types (value depth no_types symbols)) (repeated element items) [] inner ≡ Ok (inits.List items, rest) → value (suc depth) no_types symbols (Array count element) (nodes.Array left ∷ inner) ≡ Ok (inits.List items, rest)
  unfolding value
  array_says depth count left element items inner rest e count_is read_all =
      let same = count_is count refl in
      rw (out_array count element) (ap (λ (n : ℕ). elements (typed no_types (value depth no_types symbols) element) n [] inner) (sym same) ∙ elements_as (typed no_types (value depth no_types symbols)) element items [] inner ∙ read_all)

  struct_says : (depth left : ℕ) (fields : List MemTy) (items : List Init) (inner rest : List InitNode) → fields_of (typed no_types (value depth no_types symbols)) fields [] inner ≡ Ok (inits.List items, rest) → value (suc depth) no_types symbols (Struct fields false) (nodes.Struct left ∷ inner) ≡ Ok (inits.List items, rest)
  unfolding value
  struct_says depth left fields items inner rest read_all = rw (out_struct fields false) read_all

  packed_says : (depth left : ℕ) (fields : List MemTy) (items : List Init) (inner rest : List InitNode) → fields_of (typed no_types (value depth no_types symbols)) fields [] inner ≡ Ok (inits.List items, rest) → value (suc depth) no_types symbols (Struct fields true) (nodes.Packed left ∷ inner) ≡ Ok (inits.List items, rest)
  unfolding value
  packed_says depth left fields items inner rest read_all = rw (out_struct fields true) read_all

  -- the items of a list fit the types
  abbrev ItemsFit : List Init → List MemTy → Type 0
  ItemsFit items tys = fit_each (map fits items) tys ≡ true

  list_fits : (items : List Init) (ty : MemTy) → fits (inits.List items) ty ≡ fit_items (out-MemTy ty) (map fits items)
  list_fits items ty = fits_by (length m.globals) (inits.List items) (init.List items) ty (inits.rolls-List items)

  length_map : {X Y : Type 0} (f : X → Y) (xs : List X) → length (map f xs) ≡ length xs
  length_map f [] = refl
  length_map f (x ∷ xs) = ap suc (length_map f xs)

  repeated_fit : (element : MemTy) (items : List Init) → list_all (λ (item : MemTy → Bool). item element) (map fits items) ≡ true → ItemsFit items (repeated element items)
  unfolding repeated
  repeated_fit element [] e = refl
  repeated_fit element (item ∷ items) e = let b = both_true (fits item element) (list_all (λ (x : MemTy → Bool). x element) (map fits items)) e in rw (b.0, repeated_fit element items b.1) refl

  repeated_all : (element : MemTy) (items : List Init) → FitsMemory element → AllFit (repeated element items)
  unfolding repeated
  repeated_all element [] one = tt
  repeated_all element (item ∷ items) one = (one, repeated_all element items one)

  -- each type is so deep at most
  abbrev Within : ℕ → List MemTy → Type 0
  Within depth [] = Unit {0}
  Within depth (ty ∷ tys) = ((measure ty).nodes ≤ depth) × Within depth tys

  repeated_within : (depth : ℕ) (element : MemTy) (items : List Init) → (measure element).nodes ≤ depth → Within depth (repeated element items)
  unfolding repeated
  repeated_within depth element [] le = tt
  repeated_within depth element (item ∷ items) le = (le, repeated_within depth element items le)

  fields_within : (depth : ℕ) (fields : List MemTy) → sum_nodes fields ≤ depth → Within depth fields
  fields_within depth [] le = tt
  fields_within depth (field ∷ fields) le = let more = nodes_more field fields in (omega (arith, more, le), fields_within depth fields (omega (arith, more, le)))

  struct_fits : (items : List Init) (fields : List MemTy) (is_packed : Bool) → fits (inits.List items) (Struct fields is_packed) ≡ true → ItemsFit items fields
  struct_fits items fields is_packed e = sym (ap (λ (y : layer.MemTy-F MemTy). fit_items y (map fits items)) (out_struct fields is_packed)) ∙ sym (list_fits items (Struct fields is_packed)) ∙ e

  array_fits : (items : List Init) (count : ℕ) (element : MemTy) → fits (inits.List items) (Array count element) ≡ true → (length items ≡ count) × ItemsFit items (repeated element items)
  array_fits items count element e =
      let all = sym (ap (λ (y : layer.MemTy-F MemTy). fit_items y (map fits items)) (out_array count element)) ∙ sym (list_fits items (Array count element)) ∙ e in
      let b = both_true (nat_eq (length (map fits items)) count) (list_all (λ (item : MemTy → Bool). item element) (map fits items)) all in
      (sym (length_map fits items) ∙ eq_of (length (map fits items)) count b.0, repeated_fit element items b.1)

  mutual
    init_says : (depth : ℕ) (given : List InitNode) (one : Init) (ty : MemTy) (rest : List InitNode) → IsInitTree m.globals given one ty rest → FitsMemory ty → (measure ty).nodes ≤ depth → fits one ty ≡ true → value depth no_types symbols ty given ≡ Ok (one, rest)
    init_says zero given one ty rest is memory_fits le e = let some = some_nodes ty in absurd (omega (arith, some, le))
    init_says (suc depth) _ _ _ rest (number_init {n = n} {width = w} {given = given} is) memory_fits le e = number_says depth n w given rest memory_fits e is
    init_says (suc depth) _ _ ty rest (null_init {left = left}) memory_fits le e = null_says depth left ty rest e
    init_says (suc depth) _ _ ty rest (zero_init {left = left}) memory_fits le e = zero_says depth left ty rest
    init_says (suc depth) _ _ ty rest (place_init {k = k} {offset = offset} {address = given} is) memory_fits le e = place_says depth k offset ty given rest e is
    init_says (suc depth) _ _ ty rest (text_init {bytes = bytes} {left = left}) memory_fits le e = text_says depth left bytes ty rest e
    init_says (suc depth) _ _ _ rest (array_init {count = count} {left = left} element {items = items} {inner = inner} ds) memory_fits le e =
        let f = array_fits items count element e in
        let size = nodes_array count element in
        let inner_fits = element_fits count element memory_fits in
        let few : (measure element).nodes ≤ depth = omega (arith, size, le) in
        let all = items_say depth inner items (repeated element items) [] rest ds (repeated_all element items inner_fits) (repeated_within depth element items few) f.1 in
        array_says depth count left element items inner rest e (λ n p. f.0 ∙ sym p) all
    init_says (suc depth) _ _ _ rest (struct_init {left = left} {fields = fields} {items = items} {inner = inner} ds) memory_fits le e =
        let size = nodes_struct fields false in
        let few : sum_nodes fields ≤ depth = omega (arith, size, le) in
        struct_says depth left fields items inner rest (items_say depth inner items fields [] rest ds (fields_fit fields false memory_fits) (fields_within depth fields few) (struct_fits items fields false e))
    init_says (suc depth) _ _ _ rest (packed_init {left = left} {fields = fields} {items = items} {inner = inner} ds) memory_fits le e =
        let size = nodes_struct fields true in
        let few : sum_nodes fields ≤ depth = omega (arith, size, le) in
        packed_says depth left fields items inner rest (items_say depth inner items fields [] rest ds (fields_fit fields true memory_fits) (fields_within depth fields few) (struct_fits items fields true e))

    items_say : (depth : ℕ) (given : List InitNode) (items : List Init) (tys : List MemTy) (before : List Init) (rest : List InitNode) → AreInitTrees m.globals given items tys rest → AllFit tys → Within depth tys → ItemsFit items tys
        → fields_of (typed no_types (value depth no_types symbols)) tys before given ≡ Ok (inits.List (before ++ items), rest)
    items_say depth _ [] [] before rest (ends_init {left = left}) all within e = ap (λ (xs : List Init). Ok (inits.List xs, rest)) (sym (append-nil before))
    items_say depth _ (item ∷ items) (ty ∷ tys) before rest (next_init {parts = parts} {inner = inner} {middle = middle} is one others) all within e =
        let b = both_true (fits item ty) (fit_each (map fits items) tys) e in
        let first = init_says depth inner item ty middle one all.0 within.0 b.0 in
        let here = typed_says (value depth no_types symbols) ty parts item inner middle all.0 is first in
        let later = items_say depth middle items tys (before ++ item ∷ []) rest others all.1 within.1 b.1 in
        next_says (typed no_types (value depth no_types symbols)) ty tys item before (nodes.Of parts ∷ inner) middle _ here (later ∙ ap (λ (xs : List Init). Ok (inits.List xs, rest)) (append_assoc before (item ∷ []) items))
    items_say depth given [] (ty ∷ tys) before rest x all within e = elim x [ ]
    items_say depth given (item ∷ items) [] before rest x all within e = elim x [ ]

  pub init_of_says : (given : List InitNode) (one : Init) (ty : MemTy) → IsInitTree m.globals given one ty [] → FitsMemory ty → fits one ty ≡ true → init_of no_types symbols ty given ≡ Ok one
  unfolding init_of
  init_of_says given one ty is memory_fits e = rw (init_says 4096 given one ty [] is memory_fits memory_fits.1.0 e) refl
