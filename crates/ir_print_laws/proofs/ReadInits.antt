-- Initial values that are read fit.
use Rattle.std.proofs.Common.{◌≡◌, ℕ, zero, suc, ◌+◌, ◌^◌, ◌<◌, Bool, true, false, List, [], ◌∷◌, ◌++◌, length, map, Option, Some, None, Result, Ok, Err, refl, sym, ◌∙◌, ap, subst, arith, append_assoc, append-nil, if◌then◌else◌}
use Rattle.std.specs.Prelude.{◌&&◌, nat_eq, nat_lt}
use Rattle.std.specs.List.{list_all}
use Rattle.ir_text.specs.declared.name.Name.{Name}
use Rattle.ir_text.specs.declared.name.Number.{Number}
use Rattle.ir_text.specs.Quoted.{unquoted}
use Rattle.ir_grammar.specs.declared.type_tree.TypeNode.{TypeNode}
use Rattle.ir_value_trees.specs.declared.value_tree.Address.{Address}
use Rattle.ir_value_trees.specs.declared.value_tree.InitNode.{InitNode}
use Rattle.ir_value_trees.specs.declared.value_tree.InitNode.TheVariants as nodes
use Rattle.ir_core.specs.declared.types.MemTy.{MemTy, out-MemTy}
use Rattle.ir_core.specs.declared.types.MemTy.TheOpen as layer
use Rattle.ir_core.specs.declared.program.Init.{Init}
use Rattle.ir_core.specs.declared.program.Init.TheVariants as inits
use Rattle.ir_core.specs.declared.program.Init.TheOpen as open_init
use Rattle.ir_types.specs.declared.fault.Fault.{Fault}
use Rattle.ir_types.specs.declared.fault.Fault.TheVariants as faults
use Rattle.ir_types.specs.declared.tables.Target.TheVariants as targets
use Rattle.ir_types.specs.Walk.{◌>>=◌, or_fault}
use Rattle.ir_types.specs.Names.{Symbols, named_target}
use Rattle.ir_types.specs.declared.table.Types.{Types}
use Rattle.ir_types.specs.Types.{memory}
use Rattle.ir_resolve.specs.Literals.{literal_of}
use Rattle.ir_resolve.specs.Addresses.{address}
use Rattle.ir_resolve.specs.Same.{same_bool, same_type}
use Rattle.ir_resolve.specs.Operands.{place_of_type}
use Rattle.ir_resolve.specs.Inits.{Reading, place_of, number_of, byte_count, where_counted, bytes_init, leaf, closed, typed, elements, fields_of, array_of, struct_of, value_with, value, at_end, init_of}
use Rattle.ir_resolve.specs.Inits as read
use Rattle.ir_print_laws.specs.Written.{Each}
use Rattle.ir_print_laws.specs.Fits.{fits_number, is_pointer, is_byte, has_bytes, fit_each, fit_items, init_fits}
use Rattle.ir_print_laws.proofs.Inits.{fits_by}
use Rattle.ir_print_laws.proofs.Operations.{and_true}
use Rattle.ir_print_laws.proofs.ReadTokens.{Bytes, is_byte as below_256, all_bytes}
use Rattle.ir_print_laws.proofs.Quoted.{unquoted_bytes}
use Rattle.ir_print_laws.proofs.TreeModules.{NodeBytes}
use Rattle.ir_print_laws.proofs.Inverting.{bind, same_ok, same_some, or_ok, known}
use Rattle.ir_print_laws.proofs.Typed.{number_below, address_well}

pointer_same : (y : layer.MemTy-F MemTy) → read.is_pointer y ≡ is_pointer y
pointer_same (layer.Int w) = refl
pointer_same layer.Ptr = refl
pointer_same (layer.Array count element) = refl
pointer_same (layer.Struct fields packed) = refl

byte_same : (y : layer.MemTy-F MemTy) → read.is_byte y ≡ is_byte y
byte_same (layer.Int w) = refl
byte_same layer.Ptr = refl
byte_same (layer.Array count element) = refl
byte_same (layer.Struct fields packed) = refl

module _ (types : Types) (symbols : Symbols) (globals : ℕ) (there : (name : Name) (n : ℕ) → named_target symbols name ≡ Ok (targets.Global n) → n < globals) where
  abbrev Fit : MemTy → Init → Type 0
  Fit ty one = init_fits globals one ty ≡ true

  -- ---- values that are one node

  num_fit : (ty : MemTy) (n : ℕ) → fits_number (out-MemTy ty) n ≡ true → Fit ty (inits.Num n)
  num_fit ty n e = fits_by globals (inits.Num n) (open_init.Num n) ty (inits.rolls-Num n) ∙ e

  number_by : (y : layer.MemTy-F MemTy) (number : Number) (one : Init) → number_of y number ≡ Ok one → (n : ℕ) × (one ≡ inits.Num n) × (fits_number y n ≡ true)
  number_by (layer.Int w) number one e =
      let b = bind (literal_of number w) (λ n. Ok (inits.Num n)) one e in
      let lt = number_below number w b.0 b.1 in
      (b.0, sym (same_ok (inits.Num b.0) one b.2), grind (arith, lt))
  number_by layer.Ptr number one e = absurd cc
  number_by (layer.Array count element) number one e = absurd cc
  number_by (layer.Struct fields packed) number one e = absurd cc

  number_fit : (ty : MemTy) (number : Number) (one : Init) → number_of (out-MemTy ty) number ≡ Ok one → Fit ty one
  number_fit ty number one e = let h = number_by (out-MemTy ty) number one e in subst (Fit ty) (sym h.1) (num_fit ty h.0 h.2)

  if_true : {A : Type 0} (b : Bool) (x : Result A Fault) (fault : Fault) (v : A) → (if b then x else Err fault) ≡ Ok v → (b ≡ true) × (x ≡ Ok v)
  if_true true x fault v e = (refl, e)
  if_true false x fault v e = absurd cc

  null_fit : (ty : MemTy) (left : ℕ) (one : Init) → (if read.is_pointer (out-MemTy ty) then Ok inits.Null else Err (faults.Syntax left)) ≡ Ok one → Fit ty one
  null_fit ty left one e =
      let h = if_true (read.is_pointer (out-MemTy ty)) (Ok inits.Null) (faults.Syntax left) one e in
      known (Fit ty) inits.Null one h.1 (fits_by globals inits.Null open_init.Null ty inits.rolls-Null ∙ sym (pointer_same (out-MemTy ty)) ∙ h.0)

  place_fit : (ty : MemTy) (given : Address) (one : Init) → (if read.is_pointer (out-MemTy ty) then (address types symbols given >>= λ place. Ok (inits.Place place.0 place.1)) else Err (faults.Syntax given.left)) ≡ Ok one → Fit ty one
  place_fit ty given one e =
      let h = if_true (read.is_pointer (out-MemTy ty)) (address types symbols given >>= λ place. Ok (inits.Place place.0 place.1)) (faults.Syntax given.left) one e in
      let b = bind (address types symbols given) (λ place. Ok (inits.Place place.0 place.1)) one h.1 in
      let w = address_well types symbols given b.0 b.1 in
      let k = there given.name b.0.0 w.0 in
      let offset = w.1 in
      known (Fit ty) (inits.Place b.0.0 b.0.1) one b.2
      (fits_by globals (inits.Place b.0.0 b.0.1) (open_init.Place b.0.0 b.0.1) ty (inits.rolls-Place b.0.0 b.0.1)
      ∙ and_true (is_pointer (out-MemTy ty)) _ (sym (pointer_same (out-MemTy ty)) ∙ h.0) (and_true (nat_lt b.0.0 globals) (nat_lt b.0.1 (2 ^ 64)) (grind (arith, k)) (grind (arith, offset))))

  counted_by : (y : layer.MemTy-F MemTy) (count : ℕ) → byte_count y ≡ Some count → has_bytes y count ≡ true
  counted_by (layer.Int w) count e = absurd cc
  counted_by layer.Ptr count e = absurd cc
  counted_by (layer.Struct fields packed) count e = absurd cc
  counted_by (layer.Array n element) count e = by (read.is_byte (out-MemTy element)) refl e
    where
      by : (b : Bool) → read.is_byte (out-MemTy element) ≡ b → (if b then Some n else None) ≡ Some count → (is_byte (out-MemTy element) && nat_eq count n) ≡ true
      by true is h = let same = same_some n count h in and_true (is_byte (out-MemTy element)) (nat_eq count n) (sym (byte_same (out-MemTy element)) ∙ is) (grind (arith, same))
      by false is h = absurd cc

  counted_is : (left : ℕ) (bytes : List ℕ) (o : Option ℕ) (one : Init) → where_counted left bytes o ≡ Ok one → (one ≡ inits.Bytes bytes) × (o ≡ Some (length bytes))
  counted_is left bytes None one e = absurd cc
  counted_is left bytes (Some count) one e = by (nat_eq (length bytes) count) refl e
    where
      by : (b : Bool) → nat_eq (length bytes) count ≡ b → (if b then Ok (inits.Bytes bytes) else Err (faults.Syntax left)) ≡ Ok one → (one ≡ inits.Bytes bytes) × (Some count ≡ Some (length bytes))
      by true is h = let same : count ≡ length bytes = grind (arith, is) in (sym (same_ok (inits.Bytes bytes) one h), ap (λ (n : ℕ). Some n) same)
      by false is h = absurd cc

  text_fit : (ty : MemTy) (text : List ℕ) (left : ℕ) (one : Init) → Bytes text → bytes_init (out-MemTy ty) text left ≡ Ok one → Fit ty one
  text_fit ty text left one all e =
      let a = bind (or_fault (faults.Syntax left) (unquoted text)) (λ bytes. where_counted left bytes (byte_count (out-MemTy ty))) one e in
      let c = counted_is left a.0 (byte_count (out-MemTy ty)) one a.2 in
      subst (Fit ty) (sym c.0) (fits_by globals (inits.Bytes a.0) (open_init.Bytes a.0) ty (inits.rolls-Bytes a.0)
      ∙ and_true (has_bytes (out-MemTy ty) (length a.0)) _ (counted_by (out-MemTy ty) (length a.0) c.1) (all_bytes a.0 (unquoted_bytes text a.0 all (or_ok (faults.Syntax left) (unquoted text) a.0 a.1))))

  leaf_fit : (ty : MemTy) (node : InitNode) (one : Init) → NodeBytes node → leaf types symbols (out-MemTy ty) node ≡ Ok one → Fit ty one
  leaf_fit ty (nodes.Number number) one all e = number_fit ty number one e
  leaf_fit ty (nodes.Null left) one all e = null_fit ty left one e
  leaf_fit ty (nodes.Zero left) one all e = known (Fit ty) inits.Zero one e (fits_by globals inits.Zero open_init.Zero ty inits.rolls-Zero)
  leaf_fit ty (nodes.Address given) one all e = place_fit ty given one e
  leaf_fit ty (nodes.Bytes text left) one all e = text_fit ty text left one all e
  leaf_fit ty (nodes.True left) one all e = absurd cc
  leaf_fit ty (nodes.False left) one all e = absurd cc
  leaf_fit ty (nodes.Array left) one all e = absurd cc
  leaf_fit ty (nodes.Struct left) one all e = absurd cc
  leaf_fit ty (nodes.Packed left) one all e = absurd cc
  leaf_fit ty (nodes.Of given) one all e = absurd cc
  leaf_fit ty (nodes.Close left) one all e = absurd cc

  -- ---- lists

  -- what is read, and that the nodes behind it are of bytes
  abbrev FitRead : MemTy → Init × List InitNode → Type 0
  FitRead ty got = Fit ty got.0 × Each NodeBytes got.1

  abbrev FitReading : (MemTy → Reading) → Type 0
  FitReading one = (ty : MemTy) (given : List InitNode) (got : Init × List InitNode) → Each NodeBytes given → one ty given ≡ Ok got → FitRead ty got

  typed_fit : (inner : MemTy → Reading) → FitReading inner → FitReading (typed types inner)
  typed_fit inner fit ty [] got all e = absurd cc
  typed_fit inner fit ty (nodes.Of given ∷ rest) got all e =
      let a = bind (memory types given) (λ written. if same_type 4096 written ty then inner ty rest else Err (faults.Syntax (place_of_type given))) got e in
      let b = if_true (same_type 4096 a.0 ty) (inner ty rest) (faults.Syntax (place_of_type given)) got a.2 in
      fit ty rest got all.1 b.1
  typed_fit inner fit ty (nodes.Number number ∷ rest) got all e = absurd cc
  typed_fit inner fit ty (nodes.Null left ∷ rest) got all e = absurd cc
  typed_fit inner fit ty (nodes.Zero left ∷ rest) got all e = absurd cc
  typed_fit inner fit ty (nodes.Address given ∷ rest) got all e = absurd cc
  typed_fit inner fit ty (nodes.Bytes text left ∷ rest) got all e = absurd cc
  typed_fit inner fit ty (nodes.True left ∷ rest) got all e = absurd cc
  typed_fit inner fit ty (nodes.False left ∷ rest) got all e = absurd cc
  typed_fit inner fit ty (nodes.Array left ∷ rest) got all e = absurd cc
  typed_fit inner fit ty (nodes.Struct left ∷ rest) got all e = absurd cc
  typed_fit inner fit ty (nodes.Packed left ∷ rest) got all e = absurd cc
  typed_fit inner fit ty (nodes.Close left ∷ rest) got all e = absurd cc

  closed_is : (items : List Init) (given : List InitNode) (got : Init × List InitNode) → Each NodeBytes given → closed items given ≡ Ok got → (got.0 ≡ inits.List items) × Each NodeBytes got.1
  closed_is items [] got all e = absurd cc
  closed_is items (nodes.Close left ∷ rest) got all e = known (λ (x : Init × List InitNode). (x.0 ≡ inits.List items) × Each NodeBytes x.1) (inits.List items, rest) got e (refl, all.1)
  closed_is items (nodes.Of given ∷ rest) got all e = absurd cc
  closed_is items (nodes.Number number ∷ rest) got all e = absurd cc
  closed_is items (nodes.Null left ∷ rest) got all e = absurd cc
  closed_is items (nodes.Zero left ∷ rest) got all e = absurd cc
  closed_is items (nodes.Address given ∷ rest) got all e = absurd cc
  closed_is items (nodes.Bytes text left ∷ rest) got all e = absurd cc
  closed_is items (nodes.True left ∷ rest) got all e = absurd cc
  closed_is items (nodes.False left ∷ rest) got all e = absurd cc
  closed_is items (nodes.Array left ∷ rest) got all e = absurd cc
  closed_is items (nodes.Struct left ∷ rest) got all e = absurd cc
  closed_is items (nodes.Packed left ∷ rest) got all e = absurd cc

  record Elements (element : MemTy) (count : ℕ) (items : List Init) (got : Init × List InitNode) : Type 0 where
    more : List Init
    is : got.0 ≡ inits.List (items ++ more)
    count_is : length more ≡ count
    fit : Each (Fit element) more
    rest : Each NodeBytes got.1

  elements_fit : (one : MemTy → Reading) → FitReading one → (element : MemTy) (count : ℕ) (items : List Init) (given : List InitNode) (got : Init × List InitNode) → Each NodeBytes given → elements (one element) count items given ≡ Ok got → Elements element count items got
  elements_fit one fit element zero items given got all e =
      let c = closed_is items given got all e in
      record { more = []; is = c.0 ∙ ap inits.List (sym (append-nil items)); count_is = refl; fit = tt; rest = c.1 }
  elements_fit one fit element (suc count) items given got all e =
      let a = bind (one element given) (λ r. elements (one element) count (items ++ r.0 ∷ []) r.1) got e in
      let first = fit element given a.0 all a.1 in
      let rest = elements_fit one fit element count (items ++ a.0.0 ∷ []) a.0.1 got first.1 a.2 in
      record { more = a.0.0 ∷ rest.more; is = rest.is ∙ ap inits.List (append_assoc items (a.0.0 ∷ []) rest.more); count_is = ap suc rest.count_is; fit = (first.0, rest.fit); rest = rest.rest }

  record Fields (tys : List MemTy) (items : List Init) (got : Init × List InitNode) : Type 0 where
    more : List Init
    is : got.0 ≡ inits.List (items ++ more)
    fit : fit_each (map (init_fits globals) more) tys ≡ true
    rest : Each NodeBytes got.1

  fields_fit : (one : MemTy → Reading) → FitReading one → (tys : List MemTy) (items : List Init) (given : List InitNode) (got : Init × List InitNode) → Each NodeBytes given → fields_of one tys items given ≡ Ok got → Fields tys items got
  fields_fit one fit [] items given got all e =
      let c = closed_is items given got all e in
      record { more = []; is = c.0 ∙ ap inits.List (sym (append-nil items)); fit = refl; rest = c.1 }
  fields_fit one fit (ty ∷ tys) items given got all e =
      let a = bind (one ty given) (λ r. fields_of one tys (items ++ r.0 ∷ []) r.1) got e in
      let first = fit ty given a.0 all a.1 in
      let rest = fields_fit one fit tys (items ++ a.0.0 ∷ []) a.0.1 got first.1 a.2 in
      record { more = a.0.0 ∷ rest.more; is = rest.is ∙ ap inits.List (append_assoc items (a.0.0 ∷ []) rest.more); fit = and_true (init_fits globals a.0.0 ty) (fit_each (map (init_fits globals) rest.more) tys) first.0 rest.fit; rest = rest.rest }

  all_fit : (element : MemTy) (items : List Init) → Each (Fit element) items → list_all (λ (item : MemTy → Bool). item element) (map (init_fits globals) items) ≡ true
  all_fit element [] all = refl
  all_fit element (x ∷ items) all = and_true (init_fits globals x element) (list_all (λ (item : MemTy → Bool). item element) (map (init_fits globals) items)) all.0 (all_fit element items all.1)

  map_length : {X Y : Type 0} (f : X → Y) (xs : List X) → length (map f xs) ≡ length xs
  map_length f [] = refl
  map_length f (x ∷ xs) = ap suc (map_length f xs)

  list_is : (ty : MemTy) (items : List Init) → fit_items (out-MemTy ty) (map (init_fits globals) items) ≡ true → Fit ty (inits.List items)
  list_is ty items e = fits_by globals (inits.List items) (open_init.List items) ty (inits.rolls-List items) ∙ e

  array_fit : (one : MemTy → Reading) → FitReading one → (ty : MemTy) (y : layer.MemTy-F MemTy) → out-MemTy ty ≡ y → (left : ℕ) (given : List InitNode) (got : Init × List InitNode) → Each NodeBytes given → array_of one y left given ≡ Ok got → FitRead ty got
  array_fit one fit ty (layer.Array count element) is left given got all e =
      let a = elements_fit one fit element count [] given got all e in
      let long = map_length (init_fits globals) a.more in
      let count_is = a.count_is in
      let counts : nat_eq (length (map (init_fits globals) a.more)) count ≡ true = grind (arith, long, count_is) in
      let fits : fit_items (layer.Array count element) (map (init_fits globals) a.more) ≡ true = and_true _ _ counts (all_fit element a.more a.fit) in
      (subst (Fit ty) (sym a.is) (list_is ty a.more (ap (λ (y : layer.MemTy-F MemTy). fit_items y (map (init_fits globals) a.more)) is ∙ fits)), a.rest)
  array_fit one fit ty (layer.Int w) is left given got all e = absurd cc
  array_fit one fit ty layer.Ptr is left given got all e = absurd cc
  array_fit one fit ty (layer.Struct fields packed) is left given got all e = absurd cc

  struct_fit : (one : MemTy → Reading) → FitReading one → (packed : Bool) (ty : MemTy) (y : layer.MemTy-F MemTy) → out-MemTy ty ≡ y → (left : ℕ) (given : List InitNode) (got : Init × List InitNode) → Each NodeBytes given → struct_of one packed y left given ≡ Ok got → FitRead ty got
  struct_fit one fit packed ty (layer.Struct fields is_packed) is left given got all e =
      let h = if_true (same_bool packed is_packed) (fields_of one fields [] given) (faults.Syntax left) got e in
      let a = fields_fit one fit fields [] given got all h.1 in
      (subst (Fit ty) (sym a.is) (list_is ty a.more (ap (λ (y : layer.MemTy-F MemTy). fit_items y (map (init_fits globals) a.more)) is ∙ a.fit)), a.rest)
  struct_fit one fit packed ty (layer.Int w) is left given got all e = absurd cc
  struct_fit one fit packed ty layer.Ptr is left given got all e = absurd cc
  struct_fit one fit packed ty (layer.Array count element) is left given got all e = absurd cc

  node_fit : (ty : MemTy) (node : InitNode) (rest : List InitNode) (got : Init × List InitNode) → NodeBytes node → Each NodeBytes rest → (leaf types symbols (out-MemTy ty) node >>= λ init. Ok (init, rest)) ≡ Ok got → FitRead ty got
  node_fit ty node rest got one all e =
      let a = bind (leaf types symbols (out-MemTy ty) node) (λ init. Ok (init, rest)) got e in
      known (FitRead ty) (a.0, rest) got a.2 (leaf_fit ty node a.0 one a.1, all)

  with_fit : (one : MemTy → Reading) → FitReading one → FitReading (value_with types symbols one)
  with_fit one fit ty [] got all e = absurd cc
  with_fit one fit ty (nodes.Array left ∷ rest) got all e = array_fit one fit ty (out-MemTy ty) refl left rest got all.1 e
  with_fit one fit ty (nodes.Struct left ∷ rest) got all e = struct_fit one fit false ty (out-MemTy ty) refl left rest got all.1 e
  with_fit one fit ty (nodes.Packed left ∷ rest) got all e = struct_fit one fit true ty (out-MemTy ty) refl left rest got all.1 e
  with_fit one fit ty (nodes.Number number ∷ rest) got all e = node_fit ty (nodes.Number number) rest got all.0 all.1 e
  with_fit one fit ty (nodes.Null left ∷ rest) got all e = node_fit ty (nodes.Null left) rest got all.0 all.1 e
  with_fit one fit ty (nodes.Zero left ∷ rest) got all e = node_fit ty (nodes.Zero left) rest got all.0 all.1 e
  with_fit one fit ty (nodes.Address given ∷ rest) got all e = node_fit ty (nodes.Address given) rest got all.0 all.1 e
  with_fit one fit ty (nodes.Bytes text left ∷ rest) got all e = node_fit ty (nodes.Bytes text left) rest got all.0 all.1 e
  with_fit one fit ty (nodes.True left ∷ rest) got all e = node_fit ty (nodes.True left) rest got all.0 all.1 e
  with_fit one fit ty (nodes.False left ∷ rest) got all e = node_fit ty (nodes.False left) rest got all.0 all.1 e
  with_fit one fit ty (nodes.Of given ∷ rest) got all e = node_fit ty (nodes.Of given) rest got all.0 all.1 e
  with_fit one fit ty (nodes.Close left ∷ rest) got all e = node_fit ty (nodes.Close left) rest got all.0 all.1 e

  value_fit : (depth : ℕ) → FitReading (value depth types symbols)
  unfolding value
  value_fit zero ty given got all e = absurd cc
  value_fit (suc depth) ty given got all e = with_fit (typed types (value depth types symbols)) (typed_fit (value depth types symbols) (value_fit depth)) ty given got all e

  end_is : (one : Init) (given : List InitNode) (got : Init) → at_end one given ≡ Ok got → one ≡ got
  end_is one [] got e = same_ok one got e
  end_is one (node ∷ rest) got e = absurd cc

  pub init_fit : (ty : MemTy) (given : List InitNode) (one : Init) → Each NodeBytes given → init_of types symbols ty given ≡ Ok one → init_fits globals one ty ≡ true
  unfolding init_of
  init_fit ty given one all e =
      let a = bind (value 4096 types symbols ty given) (λ got. at_end got.0 got.1) one e in
      subst (Fit ty) (end_is a.0.0 a.0.1 one a.2) (value_fit 4096 ty given a.0 all a.1).0
