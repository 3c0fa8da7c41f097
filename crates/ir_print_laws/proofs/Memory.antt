-- Trees of printed types of memory say what was printed.
use Rattle.std.proofs.Common.{◌≡◌, ℕ, ◌+◌, ◌^◌, ◌<◌, ◌≤◌, Bool, true, false, List, [], ◌∷◌, ◌++◌, Some, None, map, refl, sym, ◌∙◌, ap, arith, append_assoc, append-nil}
use Rattle.std.specs.Prelude.{reverse, nat_lt, ◌&&◌, decimal, sum_by, Result, Ok}
use Rattle.std.specs.List.{list_all}
use Rattle.std.proofs.lemmas.List.{reverse-append, reverse-reverse}
use Rattle.std.proofs.lemmas.List.Sums.{sum_by-cons}
use Rattle.ir_text.specs.declared.name.Number.{Number}
use Rattle.ir_core.specs.declared.types.TheConstants.{MAX_WIDTH}
use Rattle.ir_core.specs.declared.types.MemTy.{MemTy, Int, Ptr, roll-MemTy, fold-roll-MemTy}
use Rattle.ir_core.specs.declared.types.MemTy.TheFolds.{map-MemTy}
use Rattle.ir_core.specs.declared.types.MemTy.TheVariants.{Array, Struct, rolls-Int, rolls-Ptr, rolls-Array, rolls-Struct}
use Rattle.ir_core.specs.declared.types.MemTy.TheOpen as layer
use Rattle.ir_core.specs.Layout.{Measure, is_memory_width, measure}
use Rattle.ir_core.proofs.Layouts.{measure-Int, measure-Ptr, measure-Array, measure-Struct}
use Rattle.ir_grammar.specs.declared.type_tree.TypeNode.{TypeNode}
use Rattle.ir_grammar.specs.declared.type_tree.TypeNode.TheVariants as nodes
use Rattle.ir_types.specs.declared.fault.Fault.{Fault}
use Rattle.ir_types.specs.Walk.{walk}
use Rattle.ir_flow.specs.Limits.{capped}
use Rattle.ir_types.specs.declared.parts.Part.{Part}
use Rattle.ir_types.specs.declared.parts.Part.TheVariants as parts
use Rattle.ir_types.specs.declared.parts.PartList.{PartList}
use Rattle.ir_types.specs.declared.build.OpenType.{OpenType}
use Rattle.ir_types.specs.declared.build.OpenType.TheVariants as opens
use Rattle.ir_types.specs.declared.build.Builder.{Builder}
use Rattle.ir_types.specs.declared.summary.Summary.{Summary}
use Rattle.ir_types.specs.Parts.{count_of, part_of, part_step, parts_of}
use Rattle.ir_types.specs.Summaries.{summary_step, summary_of}
use Rattle.ir_types.specs.Build.{completed, closed, plain_part, build_step, place_with, place_named, built}
use Rattle.ir_types.specs.Types.{memory}
use Rattle.ir_print_laws.specs.FormTrees.{IsCount, IsMemoryTree, AreFieldTrees, integer, pointer, array, structure, packed, ended, another}
use Rattle.ir_print_laws.specs.Fits.{fits_step, fits_memory, FitsMemory, no_types}
use Rattle.ir_print_laws.proofs.Digits.{count_says}
use Rattle.ir_print_laws.proofs.Operands.{int_says}

-- ---- what fits, and how many parts there are

fits_by : (ty : MemTy) (y : layer.MemTy-F MemTy) → ty ≡ roll-MemTy y → fits_memory ty ≡ fits_step (map-MemTy MemTy Bool fits_memory y)
fits_by ty y e = ap fits_memory e ∙ fold-roll-MemTy Bool fits_step y

pub fits_int : (w : ℕ) → fits_memory (Int w) ≡ is_memory_width w
fits_int w = fits_by (Int w) (layer.Int w) (sym (rolls-Int w))

pub fits_ptr : fits_memory Ptr ≡ true
fits_ptr = fits_by Ptr layer.Ptr (sym rolls-Ptr)

pub fits_array : (count : ℕ) (element : MemTy) → fits_memory (Array count element) ≡ (nat_lt count (2 ^ 64) && fits_memory element)
fits_array count element = fits_by (Array count element) (layer.Array count element) (sym (rolls-Array count element))

pub fits_struct : (fields : List MemTy) (is_packed : Bool) → fits_memory (Struct fields is_packed) ≡ list_all (λ (fits : Bool). fits) (map fits_memory fields)
fits_struct fields is_packed = fits_by (Struct fields is_packed) (layer.Struct fields is_packed) (sym (rolls-Struct fields is_packed))

abbrev pub sum_nodes : List MemTy → ℕ
sum_nodes fields = sum_by (λ (m : Measure). m.nodes) (map measure fields)

pub nodes_int : (w : ℕ) → (measure (Int w)).nodes ≡ 1
nodes_int w = ap (λ (m : Measure). m.nodes) (measure-Int w)

pub nodes_ptr : (measure Ptr).nodes ≡ 1
nodes_ptr = ap (λ (m : Measure). m.nodes) measure-Ptr

pub nodes_array : (count : ℕ) (element : MemTy) → (measure (Array count element)).nodes ≡ 1 + (measure element).nodes
nodes_array count element =
    let one = ap (λ (m : Measure). m.nodes) (measure-Array count element) in
    let sum = sum_by-cons (λ (m : Measure). m.nodes) (measure element) [] in
    omega (arith, one, sum)

pub nodes_struct : (fields : List MemTy) (is_packed : Bool) → (measure (Struct fields is_packed)).nodes ≡ 1 + sum_nodes fields
nodes_struct fields is_packed = ap (λ (m : Measure). m.nodes) (measure-Struct fields is_packed)

pub nodes_more : (field : MemTy) (fields : List MemTy) → sum_nodes (field ∷ fields) ≡ (measure field).nodes + sum_nodes fields
nodes_more field fields = sum_by-cons (λ (m : Measure). m.nodes) (measure field) (map measure fields)

pub both_true : (a b : Bool) → (a && b) ≡ true → (a ≡ true) × (b ≡ true)
both_true true true e = (refl, refl)
both_true true false e = absurd cc
both_true false b e = absurd cc

pub width_fits : (w : ℕ) → is_memory_width w ≡ true → (1 ≤ w) × (w ≤ MAX_WIDTH)
width_fits w e = (grind (arith, e), grind (arith, e))

capped_small : (n : ℕ) → n ≤ 4096 → capped n ≡ n
capped_small n le = omega (arith, le)

-- ---- the three readings of a type

abbrev listed : List Part → PartList
listed all = record { all = all }

abbrev placed : Builder → Part → Result Builder Fault
placed = place_with (place_named 0 [] [])

abbrev open_in : List OpenType → Builder
open_in outer = record { outer = outer; done = None }

abbrev counted : ℕ → Summary
counted n = record { nodes = n; odd = None; rank = 0 }

-- what is read of nodes up to a rest: parts that make the type in every open one, and are counted
record TypeSaid (inner : List TypeNode) (ty : MemTy) (rest : List TypeNode) : Type 0 where
  given : List Part
  said : (before : List Part) → walk (part_step no_types.names) (listed before) inner ≡ walk (part_step no_types.names) (listed (before ++ given)) rest
  builds : (outer : List OpenType) (more : List Part) → walk placed (open_in outer) (given ++ more) ≡ walk placed (completed ty (reverse outer)) more
  counts : (n : ℕ) (more : List Part) → n + (measure ty).nodes ≤ 4096 → walk (summary_step []) (counted n) (given ++ more) ≡ walk (summary_step []) (counted (n + (measure ty).nodes)) more

record FieldsSaid (inner : List TypeNode) (fields : List MemTy) (rest : List TypeNode) : Type 0 where
  given : List Part
  said : (before : List Part) → walk (part_step no_types.names) (listed before) inner ≡ walk (part_step no_types.names) (listed (before ++ given)) rest
  builds : (outer : List OpenType) (done : List MemTy) (is_packed : Bool) (more : List Part) → walk placed (open_in (outer ++ opens.Struct done is_packed ∷ [])) (given ++ more) ≡ walk placed (completed (Struct (done ++ fields) is_packed) (reverse outer)) more
  counts : (n : ℕ) (more : List Part) → n + sum_nodes fields ≤ 4096 → walk (summary_step []) (counted n) (given ++ more) ≡ walk (summary_step []) (counted (n + sum_nodes fields)) more

-- one part
one_said : (before : List Part) (node : TypeNode) (part : Part) (rest : List TypeNode) → part_of no_types.names node ≡ Ok part → walk (part_step no_types.names) (listed before) (node ∷ rest) ≡ walk (part_step no_types.names) (listed (before ++ part ∷ [])) rest
unfolding walk
one_said before node part rest e = rw e refl

one_built : (before after : Builder) (part : Part) (more : List Part) → placed before part ≡ Ok after → walk placed before (part ∷ more) ≡ walk placed after more
unfolding walk
one_built before after part more e = rw e refl

one_counted : (n m : ℕ) (part : Part) (more : List Part) → summary_step [] (counted n) part ≡ Ok (counted m) → walk (summary_step []) (counted n) (part ∷ more) ≡ walk (summary_step []) (counted m) more
unfolding walk
one_counted n m part more e = rw e refl

int_said : (w left : ℕ) (rest : List TypeNode) → fits_memory (Int w) ≡ true → TypeSaid (nodes.Int (decimal w) left ∷ rest) (Int w) rest
unfolding part_of build_step plain_part summary_step
int_said w left rest fits =
    let width : is_memory_width w ≡ true = sym (fits_int w) ∙ fits in
    let r = width_fits w width in
    let part : part_of no_types.names (nodes.Int (decimal w) left) ≡ Ok (parts.Int w left) = rw (int_says w left r.0 r.1) refl in
    record {
      given = parts.Int w left ∷ [];
      said = λ before. one_said before (nodes.Int (decimal w) left) (parts.Int w left) rest part;
      builds = λ outer more. one_built (open_in outer) (completed (Int w) (reverse outer)) (parts.Int w left) more refl;
      counts = λ n more few. one_counted n (n + (measure (Int w)).nodes) (parts.Int w left) more
          (let one = nodes_int w in let le : n + 1 ≤ 4096 = omega (arith, few, one) in rw (width, capped_small (n + 1) le, one) refl);
    }

ptr_said : (left : ℕ) (rest : List TypeNode) → TypeSaid (nodes.Ptr left ∷ rest) Ptr rest
unfolding part_of build_step plain_part summary_step
ptr_said left rest =
    record {
      given = parts.Ptr ∷ [];
      said = λ before. one_said before (nodes.Ptr left) parts.Ptr rest refl;
      builds = λ outer more. one_built (open_in outer) (completed Ptr (reverse outer)) parts.Ptr more refl;
      counts = λ n more few. one_counted n (n + (measure Ptr).nodes) parts.Ptr more (let one = nodes_ptr in let le : n + 1 ≤ 4096 = omega (arith, few, one) in rw (capped_small (n + 1) le, one) refl);
    }

count_part : (count : ℕ) (number : Number) (left : ℕ) → count < 2 ^ 64 → IsCount count number → part_of no_types.names (nodes.Array number left) ≡ Ok (parts.Array count)
unfolding part_of count_of
count_part count number left lt is =
    let d = count_says count number (omega (arith, lt)) is in
    let b : nat_lt count (2 ^ 64) ≡ true = grind (arith, lt) in
    rw (is.0, d, b) refl

lt_of : (n : ℕ) → nat_lt n (2 ^ 64) ≡ true → n < 2 ^ 64
lt_of n e = grind (arith, e)

-- a whole type in the innermost open one
in_array : (outer : List OpenType) (count : ℕ) (ty : MemTy) → completed ty (reverse (outer ++ opens.Array count ∷ [])) ≡ completed (Array count ty) (reverse outer)
unfolding completed
in_array outer count ty = ap (completed ty) (reverse-append outer (opens.Array count ∷ []))

in_struct : (outer : List OpenType) (done : List MemTy) (is_packed : Bool) (ty : MemTy) → completed ty (reverse (outer ++ opens.Struct done is_packed ∷ [])) ≡ open_in (outer ++ opens.Struct (done ++ ty ∷ []) is_packed ∷ [])
unfolding completed
in_struct outer done is_packed ty =
    ap (completed ty) (reverse-append outer (opens.Struct done is_packed ∷ [])) ∙ ap (λ (xs : List OpenType). open_in (xs ++ opens.Struct (done ++ ty ∷ []) is_packed ∷ [])) (reverse-reverse outer)

closes : (outer : List OpenType) (done : List MemTy) (is_packed : Bool) → closed (reverse (outer ++ opens.Struct done is_packed ∷ [])) ≡ Ok (completed (Struct done is_packed) (reverse outer))
closes outer done is_packed = ap closed (reverse-append outer (opens.Struct done is_packed ∷ []))

array_said : (count left : ℕ) (number : Number) (element : MemTy) (inner rest : List TypeNode) → IsCount count number → fits_memory (Array count element) ≡ true → (fits_memory element ≡ true → TypeSaid inner element rest) → TypeSaid (nodes.Array number left ∷ inner) (Array count element) rest
unfolding build_step plain_part summary_step
array_said count left number element inner rest is fits deeper =
    let b = both_true (nat_lt count (2 ^ 64)) (fits_memory element) (sym (fits_array count element) ∙ fits) in
    let e = deeper b.1 in
    let size = nodes_array count element in
    record {
      given = parts.Array count ∷ e.given;
      said = λ before. one_said before (nodes.Array number left) (parts.Array count) inner (count_part count number left (lt_of count b.0) is) ∙ e.said (before ++ parts.Array count ∷ []) ∙ ap (λ (xs : List Part). walk (part_step no_types.names) (listed xs) rest) (append_assoc before (parts.Array count ∷ []) e.given);
      builds = λ outer more. one_built (open_in outer) (open_in (outer ++ opens.Array count ∷ [])) (parts.Array count) (e.given ++ more) refl ∙ e.builds (outer ++ opens.Array count ∷ []) more ∙ ap (λ (x : Builder). walk placed x more) (in_array outer count element);
      counts = λ n more few.
          let le : n + 1 ≤ 4096 = omega (arith, few, size) in
          let le2 : n + 1 + (measure element).nodes ≤ 4096 = omega (arith, few, size) in
          let same : n + 1 + (measure element).nodes ≡ n + (measure (Array count element)).nodes = omega (arith, size) in
          one_counted n (n + 1) (parts.Array count) (e.given ++ more) (rw (capped_small (n + 1) le) refl) ∙ e.counts (n + 1) more le2 ∙ ap (λ (x : ℕ). walk (summary_step []) (counted x) more) same;
    }

abbrev struct_part : Bool → Part
struct_part true = parts.Packed
struct_part false = parts.Struct

abbrev struct_node : Bool → ℕ → TypeNode
struct_node true left = nodes.Packed left
struct_node false left = nodes.Struct left

starts_said : (is_packed : Bool) (left : ℕ) → part_of no_types.names (struct_node is_packed left) ≡ Ok (struct_part is_packed)
unfolding part_of
starts_said true left = refl
starts_said false left = refl

starts_built : (is_packed : Bool) (outer : List OpenType) → placed (open_in outer) (struct_part is_packed) ≡ Ok (open_in (outer ++ opens.Struct [] is_packed ∷ []))
unfolding build_step plain_part
starts_built true outer = refl
starts_built false outer = refl

starts_counted : (is_packed : Bool) (n : ℕ) → n + 1 ≤ 4096 → summary_step [] (counted n) (struct_part is_packed) ≡ Ok (counted (n + 1))
unfolding summary_step
starts_counted true n le = rw (capped_small (n + 1) le) refl
starts_counted false n le = rw (capped_small (n + 1) le) refl

struct_said : (is_packed : Bool) (left : ℕ) (fields : List MemTy) (inner rest : List TypeNode) → fits_memory (Struct fields is_packed) ≡ true → (list_all (λ (fits : Bool). fits) (map fits_memory fields) ≡ true → FieldsSaid inner fields rest) → TypeSaid (struct_node is_packed left ∷ inner) (Struct fields is_packed) rest
struct_said is_packed left fields inner rest fits deeper =
    let e = deeper (sym (fits_struct fields is_packed) ∙ fits) in
    let size = nodes_struct fields is_packed in
    record {
      given = struct_part is_packed ∷ e.given;
      said = λ before. one_said before (struct_node is_packed left) (struct_part is_packed) inner (starts_said is_packed left) ∙ e.said (before ++ struct_part is_packed ∷ []) ∙ ap (λ (xs : List Part). walk (part_step no_types.names) (listed xs) rest) (append_assoc before (struct_part is_packed ∷ []) e.given);
      builds = λ outer more. one_built (open_in outer) (open_in (outer ++ opens.Struct [] is_packed ∷ [])) (struct_part is_packed) (e.given ++ more) (starts_built is_packed outer) ∙ e.builds outer [] is_packed more;
      counts = λ n more few.
          let le : n + 1 ≤ 4096 = omega (arith, few, size) in
          let le2 : n + 1 + sum_nodes fields ≤ 4096 = omega (arith, few, size) in
          let same : n + 1 + sum_nodes fields ≡ n + (measure (Struct fields is_packed)).nodes = omega (arith, size) in
          one_counted n (n + 1) (struct_part is_packed) (e.given ++ more) (starts_counted is_packed n le) ∙ e.counts (n + 1) more le2 ∙ ap (λ (x : ℕ). walk (summary_step []) (counted x) more) same;
    }

no_fields : (rest : List TypeNode) → FieldsSaid (nodes.Close ∷ rest) [] rest
unfolding part_of build_step plain_part summary_step
no_fields rest =
    record {
      given = parts.Close ∷ [];
      said = λ before. one_said before nodes.Close parts.Close rest refl;
      builds = λ outer done is_packed more. one_built (open_in (outer ++ opens.Struct done is_packed ∷ [])) (completed (Struct done is_packed) (reverse outer)) parts.Close more (closes outer done is_packed)
          ∙ ap (λ (xs : List MemTy). walk placed (completed (Struct xs is_packed) (reverse outer)) more) (sym (append-nil done));
      counts = λ n more few. let le : n + 0 ≤ 4096 = omega (arith, few) in one_counted n (n + 0) parts.Close more (rw (capped_small (n + 0) le) refl);
    }

more_fields : (field : MemTy) (fields : List MemTy) (inner middle rest : List TypeNode) → TypeSaid inner field middle → FieldsSaid middle fields rest → FieldsSaid inner (field ∷ fields) rest
more_fields field fields inner middle rest one others =
    let size = nodes_more field fields in
    record {
      given = one.given ++ others.given;
      said = λ before. one.said before ∙ others.said (before ++ one.given) ∙ ap (λ (xs : List Part). walk (part_step no_types.names) (listed xs) rest) (append_assoc before one.given others.given);
      builds = λ outer done is_packed more.
          ap (λ (xs : List Part). walk placed (open_in (outer ++ opens.Struct done is_packed ∷ [])) xs) (append_assoc one.given others.given more)
          ∙ one.builds (outer ++ opens.Struct done is_packed ∷ []) (others.given ++ more)
          ∙ ap (λ (x : Builder). walk placed x (others.given ++ more)) (in_struct outer done is_packed field)
          ∙ others.builds outer (done ++ field ∷ []) is_packed more
          ∙ ap (λ (xs : List MemTy). walk placed (completed (Struct xs is_packed) (reverse outer)) more) (append_assoc done (field ∷ []) fields);
      counts = λ n more few.
          let le : n + (measure field).nodes ≤ 4096 = omega (arith, few, size) in
          let le2 : n + (measure field).nodes + sum_nodes fields ≤ 4096 = omega (arith, few, size) in
          let same : n + (measure field).nodes + sum_nodes fields ≡ n + sum_nodes (field ∷ fields) = omega (arith, size) in
          ap (λ (xs : List Part). walk (summary_step []) (counted n) xs) (append_assoc one.given others.given more)
          ∙ one.counts n (others.given ++ more) le ∙ others.counts (n + (measure field).nodes) more le2 ∙ ap (λ (x : ℕ). walk (summary_step []) (counted x) more) same;
    }

mutual
  type_said : (inner : List TypeNode) (ty : MemTy) (rest : List TypeNode) → IsMemoryTree inner ty rest → fits_memory ty ≡ true → TypeSaid inner ty rest
  type_said _ _ rest (integer {width = w} {left = left}) fits = int_said w left rest fits
  type_said _ _ rest (pointer {left = left}) fits = ptr_said left rest
  type_said _ _ rest (array {count = count} {left = left} {number = number} {element = element} {inner = inner} is d) fits = array_said count left number element inner rest is fits (λ e. type_said inner element rest d e)
  type_said _ _ rest (structure {left = left} {fields = fields} {inner = inner} d) fits = struct_said false left fields inner rest fits (λ e. fields_said inner fields rest d e)
  type_said _ _ rest (packed {left = left} {fields = fields} {inner = inner} d) fits = struct_said true left fields inner rest fits (λ e. fields_said inner fields rest d e)

  fields_said : (inner : List TypeNode) (fields : List MemTy) (rest : List TypeNode) → AreFieldTrees inner fields rest → list_all (λ (fits : Bool). fits) (map fits_memory fields) ≡ true → FieldsSaid inner fields rest
  fields_said _ _ rest ended fits = no_fields rest
  fields_said inner (field ∷ fields) rest (another {middle = middle} d ds) fits =
      let b = both_true (fits_memory field) (list_all (λ (fits : Bool). fits) (map fits_memory fields)) fits in
      more_fields field fields inner middle rest (type_said inner field middle d b.0) (fields_said middle fields rest ds b.1)

-- ---- the whole

done_at : (ty : MemTy) → completed ty (reverse []) ≡ record { outer = []; done = Some ty }
unfolding completed
done_at ty = refl

parts_say : (parts_all : List Part) (given : List TypeNode) → walk (part_step no_types.names) (listed []) given ≡ walk (part_step no_types.names) (listed parts_all) [] → parts_of no_types.names given ≡ Ok parts_all
unfolding parts_of walk
parts_say parts_all given e = rw e refl

summary_says : (all : List Part) (n : ℕ) → walk (summary_step []) (counted 0) (all ++ []) ≡ walk (summary_step []) (counted n) [] → summary_of no_types.entries all ≡ Ok (counted n)
unfolding summary_of walk
summary_says all n e = ap (λ (xs : List Part). walk (summary_step []) (counted 0) xs) (sym (append-nil all)) ∙ e

built_says : (all : List Part) (ty : MemTy) → walk placed (open_in []) (all ++ []) ≡ walk placed (completed ty (reverse [])) [] → built 0 no_types.bodies no_types.entries all ≡ Ok ty
unfolding built walk completed
built_says all ty e = rw (ap (λ (xs : List Part). walk placed (open_in []) xs) (sym (append-nil all)) ∙ e) refl

pub memory_says : (ty : MemTy) (given : List TypeNode) → FitsMemory ty → IsMemoryTree given ty [] → memory no_types given ≡ Ok ty
unfolding memory
memory_says ty given fits is =
    let s = type_said given ty [] is fits.0 in
    let p = parts_say s.given given (s.said []) in
    let small = fits.1.0 in
    let le : 0 + (measure ty).nodes ≤ 4096 = omega (arith, small) in
    let same : 0 + (measure ty).nodes ≡ (measure ty).nodes = omega arith in
    let c = summary_says s.given (0 + (measure ty).nodes) (s.counts 0 [] le) ∙ ap (λ (n : ℕ). Ok (counted n)) same in
    let b = built_says s.given ty (s.builds [] []) in
    let few : nat_lt 4096 (measure ty).nodes ≡ false = grind (arith, small) in
    rw (p, c, few) (rw b (rw fits.1.1 refl))
