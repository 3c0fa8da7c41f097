-- Types of memory that are read are within their limits.
use Rattle.std.proofs.Common.{◌≡◌, ℕ, zero, suc, ◌+◌, ◌^◌, ◌<◌, ◌≤◌, max, Bool, true, false, List, [], ◌∷◌, ◌++◌, length, map, Option, Some, None, Result, Ok, Err, refl, sym, ◌∙◌, ap, subst, arith, append_assoc, append-nil, if◌then◌else◌}
use Rattle.std.specs.Prelude.{◌&&◌, nat_lt, nat_le, reverse, is_some, slice_get, sum_by}
use Rattle.std.specs.List.{list_all}
use Rattle.std.proofs.lemmas.List.{reverse-append, reverse-reverse}
use Rattle.ir_grammar.specs.declared.type_tree.TypeNode.{TypeNode}
use Rattle.ir_core.specs.declared.types.MemTy.{MemTy}
use Rattle.ir_core.specs.declared.types.MemTy as mem
use Rattle.ir_core.specs.Layout.{measure, is_memory_width}
use Rattle.ir_flow.specs.First.{or_then}
use Rattle.ir_flow.specs.Limits.{capped, measured, capped_passing}
use Rattle.ir_types.specs.declared.fault.Fault.{Fault}
use Rattle.ir_types.specs.declared.fault.Fault.TheVariants as faults
use Rattle.ir_core.specs.declared.program.What.TheVariants as what
use Rattle.ir_types.specs.Walk.{◌>>=◌, or_fault, walk}
use Rattle.ir_types.specs.declared.parts.Part.{Part}
use Rattle.ir_types.specs.declared.parts.Part.TheVariants as parts
use Rattle.ir_types.specs.declared.summary.Summary.{Summary}
use Rattle.ir_types.specs.declared.summary.Entry.{Entry}
use Rattle.ir_types.specs.declared.summary.Entry.TheVariants as entries
use Rattle.ir_types.specs.declared.build.OpenType.{OpenType}
use Rattle.ir_types.specs.declared.build.OpenType.TheVariants as opens
use Rattle.ir_types.specs.declared.build.Builder.{Builder}
use Rattle.ir_types.specs.declared.table.Types.{Types}
use Rattle.ir_types.specs.Parts.{parts_of}
use Rattle.ir_types.specs.Replaced.{Definitions, definition, both, joined, one_with, over, expansion, replaced, nodes_of, node_count, odd_of, first_odd}
use Rattle.ir_types.specs.Summaries.{known_of, summary_step, summary_of, no_parts, IsSummary, IsKnown, AreResolved}
use Rattle.ir_types.specs.Build.{completed, closed, begun, plain_part, build_step, place_with, place_named, built}
use Rattle.ir_types.specs.Types.{few_nodes, all_stand, few_bytes, memory}
use Rattle.ir_types.proofs.Replacing.{both_inv, deeper, replaced_deeper, nothing_replaced, expanded, summary_on}
use Rattle.ir_print_laws.specs.Written.{Each}
use Rattle.ir_print_laws.specs.Fits.{fits_memory, FitsMemory}
use Rattle.ir_print_laws.proofs.Memory.{fits_int, fits_ptr, fits_array, fits_struct, sum_nodes, nodes_int, nodes_ptr, nodes_array, nodes_struct, nodes_more, both_true}
use Rattle.ir_print_laws.proofs.Inverting.{bind, same_ok, same_some, or_ok, known, first_walk, no_walk}
use Rattle.ir_print_laws.proofs.Typed.{WellPart, WellBodies, parts_well}

-- ---- parts with names replaced

walk_first : {S T : Type 0} (step : S → T → Result S Fault) (before next last : S) (x : T) (xs : List T) → step before x ≡ Ok next → walk step next xs ≡ Ok last → walk step before (x ∷ xs) ≡ Ok last
unfolding walk
walk_first step before next last x xs e more = rw e more

walk_none : {S T : Type 0} (step : S → T → Result S Fault) (s : S) → walk step s [] ≡ Ok s
unfolding walk
walk_none step s = refl

walk_both : {S T : Type 0} (step : S → T → Result S Fault) (before middle last : S) (xs ys : List T) → walk step before xs ≡ Ok middle → walk step middle ys ≡ Ok last → walk step before (xs ++ ys) ≡ Ok last
walk_both step before middle last [] ys e f = subst (λ (s : _). walk step s ys ≡ Ok last) (sym (no_walk step before middle e)) f
walk_both step before middle last (x ∷ xs) ys e f =
    let h = first_walk step before middle x xs e in
    walk_first step before h.0 last x (xs ++ ys) h.1 (walk_both step h.0 middle last xs ys h.2 f)

-- what stands for parts at some depth, and makes the same
abbrev Flat : Definitions → List Part → Builder → Builder → Type 0
Flat bodies given before after = (flat : List Part) × (depth : ℕ) × (replaced depth bodies given ≡ Some flat) × (walk build_step before flat ≡ Ok after)

abbrev FlatName : Definitions → ℕ → Builder → Builder → Type 0
FlatName bodies n before after = (flat : List Part) × (depth : ℕ) × (expansion depth bodies n ≡ Some flat) × (walk build_step before flat ≡ Ok after)

abbrev FlatPart : Definitions → Part → Builder → Builder → Type 0
FlatPart bodies part before after = (flat : List Part) × (depth : ℕ) × ((deep : ℕ) → depth ≤ deep → one_with (expansion deep bodies) part ≡ Some flat) × (walk build_step before flat ≡ Ok after)

plain_flat : (bodies : Definitions) (part : Part) (before after : Builder) → ((f : ℕ → Option (List Part)) → one_with f part ≡ Some (part ∷ [])) → build_step before part ≡ Ok after → FlatPart bodies part before after
plain_flat bodies part before after plain e = (part ∷ [], 0, (λ deep le. plain (expansion deep bodies)), walk_first build_step before after after part [] e (walk_none build_step after))

both_some : (a b : Option (List Part)) (x y : List Part) → a ≡ Some x → b ≡ Some y → both a b ≡ Some (x ++ y)
both_some a b x y e f = rw (e, f) refl

module _ (bodies : Definitions) (entries_known : List Entry) (named : Builder → ℕ → ℕ → Result Builder Fault)
    (flat_named : (before : Builder) (n left : ℕ) (after : Builder) → named before n left ≡ Ok after → FlatName bodies n before after) where
  part_flat : (part : Part) (before after : Builder) → place_with named before part ≡ Ok after → FlatPart bodies part before after
  part_flat (parts.Named n left) before after e = let h = flat_named before n left after e in (h.0, h.1, (λ deep le. deeper bodies h.1 deep n h.0 le h.2), h.3)
  part_flat (parts.Int w left) before after e = plain_flat bodies (parts.Int w left) before after (λ f. refl) e
  part_flat parts.Ptr before after e = plain_flat bodies parts.Ptr before after (λ f. refl) e
  part_flat (parts.Array count) before after e = plain_flat bodies (parts.Array count) before after (λ f. refl) e
  part_flat parts.Struct before after e = plain_flat bodies parts.Struct before after (λ f. refl) e
  part_flat parts.Packed before after e = plain_flat bodies parts.Packed before after (λ f. refl) e
  part_flat parts.Close before after e = plain_flat bodies parts.Close before after (λ f. refl) e

  all_flat : (given : List Part) (before after : Builder) → walk (place_with named) before given ≡ Ok after → Flat bodies given before after
  unfolding joined
  all_flat [] before after e = ([], 0, nothing_replaced 0 bodies, subst (λ (s : Builder). walk build_step before [] ≡ Ok s) (no_walk (place_with named) before after e) (walk_none build_step before))
  all_flat (part ∷ given) before after e =
      let f = first_walk (place_with named) before after part given e in
      let one = part_flat part before f.0 f.1 in
      let more = all_flat given f.0 after f.2 in
      let deep : ℕ = max one.1 more.1 in
      (one.0 ++ more.0, deep, both_some _ _ one.0 more.0 (one.2 deep (omega arith)) (replaced_deeper bodies more.1 deep given more.0 (omega arith) more.2), walk_both build_step before f.0 after one.0 more.0 one.3 more.3)

-- what is known of a name
entry_of : (left : ℕ) (o : Option Entry) (found : Summary × ℕ) → known_of left o ≡ Ok found → o ≡ Some (entries.Known found.0 found.1)
entry_of left None found e = absurd cc
entry_of left (Some entries.Fresh) found e = absurd cc
entry_of left (Some entries.Open) found e = absurd cc
entry_of left (Some (entries.Known summary root)) found e = ap (λ (x : Summary × ℕ). Some (entries.Known x.0 x.1)) (same_ok (summary, root) found e)

one_flat : (o : Option (List Part)) (x y : List Part) → o ≡ Some x → o ≡ Some y → x ≡ y
one_flat o x y e f = same_some x y (sym e ∙ f)

module _ (bodies : Definitions) (all : List Entry) (resolved : AreResolved bodies all) where
  -- a named type is placed as its definition with names replaced
  named_flat : (depth : ℕ) (before : Builder) (n left : ℕ) (after : Builder) → place_named depth bodies all before n left ≡ Ok after → FlatName bodies n before after
  unfolding place_named
  named_flat zero before n left after e = absurd cc
  named_flat (suc depth) before n left after e =
      let a = bind (known_of left (slice_get all n)) (λ found. or_fault (faults.Name left) (definition bodies found.1) >>= λ body. walk (place_with (place_named depth bodies all)) before body) after e in
      let b = bind (or_fault (faults.Name left) (definition bodies a.0.1)) (λ body. walk (place_with (place_named depth bodies all)) before body) after a.2 in
      let body = or_ok (faults.Name left) (definition bodies a.0.1) b.0 b.1 in
      let flat = all_flat bodies all (place_named depth bodies all) (named_flat depth) b.0 before after b.2 in
      let root = expanded flat.1 bodies a.0.1 b.0 flat.0 body flat.2 in
      let right = resolved.right n a.0.0 a.0.1 (entry_of left (slice_get all n) a.0 a.1) in
      let deep : ℕ = max (suc flat.1) a.0.0.rank in
      let same = one_flat (expansion deep bodies a.0.1) right.0 flat.0 (deeper bodies a.0.0.rank deep a.0.1 right.0 (omega arith) right.2) (deeper bodies (suc flat.1) deep a.0.1 flat.0 (omega arith) root) in
      (flat.0, a.0.0.rank, right.1 ∙ ap (λ (x : List Part). Some x) same, flat.3)

  summary_walk : (given done : List Part) (before last : Summary) → IsSummary bodies done before → walk (summary_step all) before given ≡ Ok last → IsSummary bodies (done ++ given) last
  summary_walk [] done before last is e = subst (λ (x : List Part). IsSummary bodies x last) (sym (append-nil done)) (subst (λ (s : Summary). IsSummary bodies done s) (no_walk (summary_step all) before last e) is)
  summary_walk (part ∷ given) done before last is e =
      let f = first_walk (summary_step all) before last part given e in
      subst (λ (x : List Part). IsSummary bodies x last) (append_assoc done (part ∷ []) given)
      (summary_walk given (done ++ part ∷ []) f.0 last (summary_on bodies all resolved.right done part before f.0 f.1 is) f.2)

  summary_is : (given : List Part) (last : Summary) → summary_of all given ≡ Ok last → IsSummary bodies given last
  unfolding summary_of node_count first_odd
  summary_is given last e = summary_walk given [] no_parts last ([], nothing_replaced 0 bodies, (refl, refl)) e

  -- parts with names replaced are well where those of the definitions are
  each_both : (xs ys : List Part) → Each WellPart xs → Each WellPart ys → Each WellPart (xs ++ ys)
  each_both [] ys p q = q
  each_both (x ∷ xs) ys p q = (p.0, each_both xs ys p.1 q)

  over_some : (f : List Part → Option (List Part)) (o : Option (List Part)) (flat : List Part) → over f o ≡ Some flat → (body : List Part) × (o ≡ Some body) × (f body ≡ Some flat)
  over_some f None flat e = absurd cc
  over_some f (Some body) flat e = (body, refl, e)

  module _ (named : ℕ → Option (List Part)) (well_named : (n : ℕ) (flat : List Part) → named n ≡ Some flat → Each WellPart flat) where
    one_well : (part : Part) (flat : List Part) → WellPart part → one_with named part ≡ Some flat → Each WellPart flat
    one_well (parts.Named n left) flat w e = well_named n flat e
    one_well (parts.Int k left) flat w e = subst (Each WellPart) (same_some (parts.Int k left ∷ []) flat e) (w, tt)
    one_well parts.Ptr flat w e = subst (Each WellPart) (same_some (parts.Ptr ∷ []) flat e) (w, tt)
    one_well (parts.Array count) flat w e = subst (Each WellPart) (same_some (parts.Array count ∷ []) flat e) (w, tt)
    one_well parts.Struct flat w e = subst (Each WellPart) (same_some (parts.Struct ∷ []) flat e) (w, tt)
    one_well parts.Packed flat w e = subst (Each WellPart) (same_some (parts.Packed ∷ []) flat e) (w, tt)
    one_well parts.Close flat w e = subst (Each WellPart) (same_some (parts.Close ∷ []) flat e) (w, tt)

    joined_well : (given flat : List Part) → Each WellPart given → joined (one_with named) given ≡ Some flat → Each WellPart flat
    unfolding joined
    joined_well [] flat well e = subst (Each WellPart) (same_some [] flat e) tt
    joined_well (part ∷ given) flat well e =
        let h = both_inv (one_with named part) (joined (one_with named) given) flat e in
        subst (Each WellPart) (sym h.4) (each_both h.0 h.1 (one_well part h.0 well.0 h.2) (joined_well given h.1 well.1 h.3))

  expansion_well : (well : WellBodies bodies) (depth : ℕ) (n : ℕ) (flat : List Part) → expansion depth bodies n ≡ Some flat → Each WellPart flat
  unfolding expansion
  expansion_well well zero n flat e = absurd cc
  expansion_well well (suc depth) n flat e =
      let h = over_some (joined (one_with (expansion depth bodies))) (definition bodies n) flat e in
      joined_well (expansion depth bodies) (expansion_well well depth) h.0 flat (well n h.0 h.1) h.2

-- ---- how many types there are

abbrev open_nodes : OpenType → ℕ
open_nodes (opens.Array count) = 1
open_nodes (opens.Struct fields packed) = 1 + sum_nodes fields

abbrev outer_nodes : List OpenType → ℕ
outer_nodes [] = 0
outer_nodes (one ∷ outer) = open_nodes one + outer_nodes outer

abbrev done_nodes : Option MemTy → ℕ
done_nodes None = 0
done_nodes (Some ty) = (measure ty).nodes

abbrev builder_nodes : Builder → ℕ
builder_nodes made = outer_nodes made.outer + done_nodes made.done

outer_both : (xs ys : List OpenType) → outer_nodes (xs ++ ys) ≡ outer_nodes xs + outer_nodes ys
outer_both [] ys = omega arith
outer_both (x ∷ xs) ys = let e = outer_both xs ys in omega (arith, e)

outer_reverse : (xs : List OpenType) → outer_nodes (reverse xs) ≡ outer_nodes xs
outer_reverse [] = refl
outer_reverse (x ∷ xs) =
    let a = ap outer_nodes (reverse-append (x ∷ []) xs) in
    let b = outer_both (reverse xs) (x ∷ []) in
    let c = outer_reverse xs in
    omega (arith, a, b, c)

sum_last : (fields : List MemTy) (ty : MemTy) → sum_nodes (fields ++ ty ∷ []) ≡ sum_nodes fields + (measure ty).nodes
sum_last [] ty = let e = nodes_more ty [] in omega (arith, e)
sum_last (field ∷ fields) ty =
    let a = nodes_more field (fields ++ ty ∷ []) in
    let b = nodes_more field fields in
    let c = sum_last fields ty in
    omega (arith, a, b, c)

completed_nodes : (ty : MemTy) (around : List OpenType) → builder_nodes (completed ty around) ≡ (measure ty).nodes + outer_nodes around
unfolding completed
completed_nodes ty [] = omega arith
completed_nodes ty (opens.Array count ∷ around) = let a = completed_nodes (mem.Array count ty) around in let b = nodes_array count ty in omega (arith, a, b)
completed_nodes ty (opens.Struct fields packed ∷ around) =
    let a = outer_both (reverse around) (opens.Struct (fields ++ ty ∷ []) packed ∷ []) in
    let b = outer_reverse around in
    let c = sum_last fields ty in
    omega (arith, a, b, c)

closed_nodes : (outer : List OpenType) (after : Builder) → closed outer ≡ Ok after → builder_nodes after ≡ outer_nodes outer
closed_nodes [] after e = absurd cc
closed_nodes (opens.Array count ∷ around) after e = absurd cc
closed_nodes (opens.Struct fields packed ∷ around) after e =
    let a = completed_nodes (mem.Struct fields packed) around in
    let b = nodes_struct fields packed in
    let c = ap builder_nodes (same_ok (completed (mem.Struct fields packed) around) after e) in
    omega (arith, a, b, c)

begun_nodes : (outer : List OpenType) (one : OpenType) → open_nodes one ≡ 1 → builder_nodes (begun outer one) ≡ outer_nodes outer + 1
begun_nodes outer one e = let a = outer_both outer (one ∷ []) in omega (arith, a, e)

leaf_nodes : (ty : MemTy) (outer : List OpenType) → (measure ty).nodes ≡ 1 → builder_nodes (completed ty (reverse outer)) ≡ outer_nodes outer + 1
leaf_nodes ty outer one = let a = completed_nodes ty (reverse outer) in let b = outer_reverse outer in omega (arith, a, b, one)

plain_nodes : (outer : List OpenType) (part : Part) (after : Builder) → plain_part outer part ≡ Ok after → builder_nodes after ≡ outer_nodes outer + nodes_of part
unfolding plain_part
plain_nodes outer (parts.Int w left) after e = sym (ap builder_nodes (same_ok _ after e)) ∙ leaf_nodes (mem.Int w) outer (nodes_int w)
plain_nodes outer parts.Ptr after e = sym (ap builder_nodes (same_ok _ after e)) ∙ leaf_nodes mem.Ptr outer nodes_ptr
plain_nodes outer (parts.Array count) after e = sym (ap builder_nodes (same_ok _ after e)) ∙ begun_nodes outer (opens.Array count) refl
plain_nodes outer parts.Struct after e = sym (ap builder_nodes (same_ok _ after e)) ∙ begun_nodes outer (opens.Struct [] false) refl
plain_nodes outer parts.Packed after e = sym (ap builder_nodes (same_ok _ after e)) ∙ begun_nodes outer (opens.Struct [] true) refl
plain_nodes outer parts.Close after e = let a = closed_nodes (reverse outer) after e in let b = outer_reverse outer in omega (arith, a, b)
plain_nodes outer (parts.Named n left) after e = absurd cc

-- nothing comes behind a whole type
step_open : (before : Builder) (part : Part) (after : Builder) → build_step before part ≡ Ok after → (before.done ≡ None) × (plain_part before.outer part ≡ Ok after)
unfolding build_step
step_open before part after e = by before.done refl e
  where
    by : (o : Option MemTy) → before.done ≡ o → ◌≡◌ {A = Result Builder Fault} (if is_some o then Err (faults.Syntax 0) else plain_part before.outer part) (Ok after) → (before.done ≡ None) × (plain_part before.outer part ≡ Ok after)
    by None is h = (is, h)
    by (Some ty) is h = absurd cc

walk_nodes : (flat : List Part) (before after : Builder) → walk build_step before flat ≡ Ok after → builder_nodes after ≡ builder_nodes before + node_count flat
unfolding node_count
walk_nodes [] before after e = let a = ap builder_nodes (no_walk build_step before after e) in omega (arith, a)
walk_nodes (part ∷ flat) before after e =
    let f = first_walk build_step before after part flat e in
    let s = step_open before part f.0 f.1 in
    let a = plain_nodes before.outer part f.0 s.1 in
    let b = walk_nodes flat f.0 after f.2 in
    let c = ap done_nodes s.0 in
    omega (arith, a, b, c)

-- ---- what fits

abbrev Fit : MemTy → Type 0
Fit ty = fits_memory ty ≡ true

abbrev OpenFit : OpenType → Type 0
OpenFit (opens.Array count) = count < 2 ^ 64
OpenFit (opens.Struct fields packed) = Each Fit fields

abbrev DoneFit : Option MemTy → Type 0
DoneFit None = Unit {0}
DoneFit (Some ty) = Fit ty

abbrev BuilderFit : Builder → Type 0
BuilderFit made = Each OpenFit made.outer × DoneFit made.done

each_on : {X : Type 0} (Is : X → Type 0) (xs ys : List X) → Each Is xs → Each Is ys → Each Is (xs ++ ys)
each_on Is [] ys p q = q
each_on Is (x ∷ xs) ys p q = (p.0, each_on Is xs ys p.1 q)

each_reverse : (xs : List OpenType) → Each OpenFit xs → Each OpenFit (reverse xs)
each_reverse [] all = tt
each_reverse (x ∷ xs) all = subst (Each OpenFit) (sym (reverse-append (x ∷ []) xs)) (each_on OpenFit (reverse xs) (x ∷ []) (each_reverse xs all.1) (all.0, tt))

all_true : (fields : List MemTy) → Each Fit fields → list_all (λ (fits : Bool). fits) (map fits_memory fields) ≡ true
all_true [] all = refl
all_true (field ∷ fields) all = rw (all.0, all_true fields all.1) refl

struct_fit : (fields : List MemTy) (packed : Bool) → Each Fit fields → Fit (mem.Struct fields packed)
struct_fit fields packed all = fits_struct fields packed ∙ all_true fields all

array_fit : (count : ℕ) (element : MemTy) → count < 2 ^ 64 → Fit element → Fit (mem.Array count element)
array_fit count element lt fit = fits_array count element ∙ (let b : nat_lt count (2 ^ 64) ≡ true = grind (arith, lt) in rw (b, fit) refl)

completed_fit : (ty : MemTy) (around : List OpenType) → Fit ty → Each OpenFit around → BuilderFit (completed ty around)
unfolding completed
completed_fit ty [] fit all = (tt, fit)
completed_fit ty (opens.Array count ∷ around) fit all = completed_fit (mem.Array count ty) around (array_fit count ty all.0 fit) all.1
completed_fit ty (opens.Struct fields packed ∷ around) fit all = (each_on OpenFit (reverse around) _ (each_reverse around all.1) (each_on Fit fields (ty ∷ []) all.0 (fit, tt), tt), tt)

closed_fit : (outer : List OpenType) (after : Builder) → Each OpenFit outer → closed outer ≡ Ok after → BuilderFit after
closed_fit [] after all e = absurd cc
closed_fit (opens.Array count ∷ around) after all e = absurd cc
closed_fit (opens.Struct fields packed ∷ around) after all e = known BuilderFit (completed (mem.Struct fields packed) around) after e (completed_fit (mem.Struct fields packed) around (struct_fit fields packed all.0) all.1)

begun_fit : (outer : List OpenType) (one : OpenType) → Each OpenFit outer → OpenFit one → BuilderFit (begun outer one)
begun_fit outer one all fit = (each_on OpenFit outer (one ∷ []) all (fit, tt), tt)

stands : (w left : ℕ) → odd_of (parts.Int w left) ≡ None → is_memory_width w ≡ true
stands w left e = by (is_memory_width w) e
  where
    by : (b : Bool) → (if b then None else Some left) ≡ None → b ≡ true
    by true h = refl
    by false h = absurd cc

ptr_fit : Fit mem.Ptr
ptr_fit = fits_ptr

plain_fit : (outer : List OpenType) (part : Part) (after : Builder) → Each OpenFit outer → WellPart part → odd_of part ≡ None → plain_part outer part ≡ Ok after → BuilderFit after
unfolding plain_part
plain_fit outer (parts.Int w left) after all well odd e = known BuilderFit (completed (mem.Int w) (reverse outer)) after e (completed_fit (mem.Int w) (reverse outer) (fits_int w ∙ stands w left odd) (each_reverse outer all))
plain_fit outer parts.Ptr after all well odd e = known BuilderFit (completed mem.Ptr (reverse outer)) after e (completed_fit mem.Ptr (reverse outer) ptr_fit (each_reverse outer all))
plain_fit outer (parts.Array count) after all well odd e = known BuilderFit (begun outer (opens.Array count)) after e (begun_fit outer (opens.Array count) all well)
plain_fit outer parts.Struct after all well odd e = known BuilderFit (begun outer (opens.Struct [] false)) after e (begun_fit outer (opens.Struct [] false) all tt)
plain_fit outer parts.Packed after all well odd e = known BuilderFit (begun outer (opens.Struct [] true)) after e (begun_fit outer (opens.Struct [] true) all tt)
plain_fit outer parts.Close after all well odd e = closed_fit (reverse outer) after (each_reverse outer all) e
plain_fit outer (parts.Named n left) after all well odd e = absurd cc

then_left : (a b : Option ℕ) → or_then a b ≡ None → (a ≡ None) × (b ≡ None)
then_left None b e = (refl, e)
then_left (Some x) b e = absurd cc

walk_fit : (flat : List Part) (before after : Builder) → BuilderFit before → Each WellPart flat → first_odd flat ≡ None → walk build_step before flat ≡ Ok after → BuilderFit after
unfolding first_odd
walk_fit [] before after fit well odd e = subst BuilderFit (no_walk build_step before after e) fit
walk_fit (part ∷ flat) before after fit well odd e =
    let f = first_walk build_step before after part flat e in
    let s = step_open before part f.0 f.1 in
    let o = then_left (odd_of part) (first_odd flat) odd in
    walk_fit flat f.0 after (plain_fit before.outer part f.0 fit.0 well.0 o.0 s.1) well.1 o.1 f.2

-- ---- the whole

few_is : (count : ℕ) (u : Unit {0}) → few_nodes count ≡ Ok u → count ≤ 4096
few_is count u e = by (nat_lt 4096 count) refl e
  where
    by : (b : Bool) → nat_lt 4096 count ≡ b → ◌≡◌ {A = Result (Unit {0}) Fault} (if b then Err (faults.Limit what.Nodes count) else Ok tt) (Ok u) → count ≤ 4096
    by true i h = absurd cc
    by false i h = grind (arith, i)

stand_is : (o : Option ℕ) (u : Unit {0}) → all_stand o ≡ Ok u → o ≡ None
stand_is None u e = refl
stand_is (Some left) u e = absurd cc

bytes_is : (o : Option ℕ) (u : Unit {0}) → few_bytes o ≡ Ok u → o ≡ None
bytes_is None u e = refl
bytes_is (Some size) u e = absurd cc

uncapped : (n m : ℕ) → m ≡ capped n → m ≤ 4096 → n ≤ 4096
uncapped n m e le = omega (arith, e, le)

-- a type of memory that is read is within its limits
pub memory_fits : (types : Types) (given : List TypeNode) (ty : MemTy) → WellBodies types.bodies → AreResolved types.bodies types.entries → memory types given ≡ Ok ty → FitsMemory ty
unfolding memory built
memory_fits types given ty well resolved e =
    let a = bind (parts_of types.names given) (λ all. summary_of types.entries all >>= λ summary. few_nodes summary.nodes >>= λ _. all_stand summary.odd >>= λ _. built summary.rank types.bodies types.entries all >>= λ ty. few_bytes (capped_passing (measured ty).passing) >>= λ _. Ok ty) ty e in
    let b = bind (summary_of types.entries a.0) (λ summary. few_nodes summary.nodes >>= λ _. all_stand summary.odd >>= λ _. built summary.rank types.bodies types.entries a.0 >>= λ ty. few_bytes (capped_passing (measured ty).passing) >>= λ _. Ok ty) ty a.2 in
    let c = bind (few_nodes b.0.nodes) (λ _. all_stand b.0.odd >>= λ _. built b.0.rank types.bodies types.entries a.0 >>= λ ty. few_bytes (capped_passing (measured ty).passing) >>= λ _. Ok ty) ty b.2 in
    let d = bind (all_stand b.0.odd) (λ _. built b.0.rank types.bodies types.entries a.0 >>= λ ty. few_bytes (capped_passing (measured ty).passing) >>= λ _. Ok ty) ty c.2 in
    let f = bind (built b.0.rank types.bodies types.entries a.0) (λ ty. few_bytes (capped_passing (measured ty).passing) >>= λ _. Ok ty) ty d.2 in
    let g = bind (few_bytes (capped_passing (measured f.0).passing)) (λ _. Ok f.0) ty f.2 in
    let start : Builder = record { outer = []; done = None } in
    let h = bind (walk (place_with (place_named b.0.rank types.bodies types.entries)) start a.0) (λ whole. or_fault (faults.Syntax 0) whole.done) f.0 f.1 in
    let done = or_ok (faults.Syntax 0) h.0.done f.0 h.2 in
    let flat = all_flat types.bodies types.entries (place_named b.0.rank types.bodies types.entries) (named_flat types.bodies types.entries resolved b.0.rank) a.0 start h.0 h.1 in
    let sum = summary_is types.bodies types.entries resolved a.0 b.0 b.1 in
    let deep : ℕ = max flat.1 b.0.rank in
    let same = one_flat (replaced deep types.bodies a.0) flat.0 sum.0 (replaced_deeper types.bodies flat.1 deep a.0 flat.0 (omega arith) flat.2) (replaced_deeper types.bodies b.0.rank deep a.0 sum.0 (omega arith) sum.1) in
    let count : node_count flat.0 ≤ 4096 = uncapped (node_count flat.0) b.0.nodes (sum.2.0 ∙ ap (λ (x : List Part). capped (node_count x)) (sym same)) (few_is b.0.nodes c.0 c.1) in
    let odd : first_odd flat.0 ≡ None = ap first_odd same ∙ sym sum.2.1 ∙ stand_is b.0.odd d.0 d.1 in
    let flat_well = joined_well types.bodies types.entries resolved (expansion flat.1 types.bodies) (expansion_well types.bodies types.entries resolved well flat.1) a.0 flat.0 (parts_well types.names given a.0 a.1) flat.2 in
    let nodes = walk_nodes flat.0 start h.0 flat.3 in
    let fit = walk_fit flat.0 start h.0 (tt, tt) flat_well odd flat.3 in
    let fewer = ap done_nodes done in
    let few : (measure f.0).nodes ≤ 4096 = omega (arith, nodes, fewer, count) in
    known FitsMemory f.0 ty g.2 (subst DoneFit done fit.1, (few, bytes_is (capped_passing (measured f.0).passing) g.0 g.1))
