-- One byte, element, field or global more.
use Rattle.std.proofs.Common.{Result, Ok, Err, ◌≡◌, ℕ, zero, suc, ◌+◌, ◌-◌, ◌*◌, ◌/◌, ◌%◌, ◌^◌, ◌<◌, ◌≤◌, Bool, true, false, ◌&&◌, List, [], ◌∷◌, ◌++◌, map, length, take, drop, get_or, replicate, Option, Some, None, sym, ◌∙◌, ap, subst, refl, arith, add-one, drop-cons, if◌then◌else◌}
use Rattle.std.proofs.lemmas.Grind.{flat_map-append}
use Rattle.std.specs.Prelude.{OnOk, sum_by, flat_map, slice_index_or}
use Rattle.std.proofs.lemmas.List.{map-append, append_assoc}
use Rattle.ir_core.specs.declared.types.MemTy.{MemTy}
use Rattle.ir_core.specs.declared.program.Init.{Init}
use Rattle.ir_core.specs.declared.program.Global.{Global}
use Rattle.ir_core.specs.Layout.{size, align, extent_of, end_of_fields, field_start}
use Rattle.ir_meaning.specs.Value.{Byte}
use Rattle.ir_meaning.specs.Memory.{Memory, data_start, number_bytes}
use Rattle.ir_meaning.specs.Image.{Filling, span, address_of, place_address, zeros, elements, fields_from, filled, initial, global_bytes, first_memory}
use Rattle.ir_verify.specs.Ranges.{all_fit, init_fits}
use Rattle.ir_verify.proofs.Lists.{and_both}
use Rattle.std.proofs.lemmas.Bool.{false≢true}
use Rattle.std.proofs.lemmas.List.Sums.{sum_by-cons, sum_by-take-le, sum_by-take-drop, sum_by-drop_more}
use Rattle.std.proofs.lemmas.Bool.Decides.{nat_tests}
use Rattle.std.proofs.lemmas.List.{get_or-take, take_more, length-append, length-map, length-replicate}
use Rattle.std.specs.Prelude.{All, ◌==◌}
use Rattle.ir_core.specs.declared.types.MemTy.{out-MemTy}
use Rattle.ir_core.specs.declared.types.MemTy.TheVariants.{Array, Struct}
use Rattle.ir_core.specs.declared.program.Init.{fold-roll-Init}
use Rattle.ir_core.specs.declared.program.Init.TheVariants.{List as InitList, rolls-List}
use Rattle.ir_core.specs.declared.program.Init.TheOpen as init_layer
use Rattle.ir_core.specs.Layout.{HasSizesWithin, struct_extent}
use Rattle.ir_core.proofs.Layouts.{extent-Array, extent-Struct, out-Array, out-Struct}
use Rattle.ir_core.proofs.Structs.{struct-fields, struct-size, rest-within, end-within}
use Rattle.ir_meaning.proofs.Images.{initial-List}
use Rattle.ir_verify.specs.Ranges.{items_fit, init_step, all_globals, is_global, has_memory_widths}
use Rattle.ir_data.specs.Image.{AreElements, AreFields, IsField, HasFewBytes}
use Rattle.ir_data.specs.Image.{places_from, taken, last_end, known, fillings}

-- an item of a list and those behind it
pub split_at : {A : Type 0} (xs : List A) (i : ℕ) (x : A) → i < length xs → x ≡ get_or xs i x → drop i xs ≡ x ∷ drop (i + 1) xs
split_at xs i x h is =
    drop-cons xs i x h ∙ ap (λ (y : _). y ∷ drop (suc i) xs) (sym is) ∙ ap (λ n. x ∷ drop n xs) (sym (add-one i))

pub next_digit : (bytes : List ℕ) (count i rest byte next : ℕ) → i < count → byte ≡ rest % 256 → next ≡ rest / 256
    → map Some (bytes ++ byte ∷ []) ++ number_bytes (count - (i + 1)) next ≡ map Some bytes ++ number_bytes (count - i) rest
next_digit bytes count i rest byte next h a b =
    let left : count - i ≡ suc (count - (i + 1)) = omega arith in
    rw (left, a, b, map-append (λ (n : ℕ). Some n) bytes (rest % 256 ∷ [])) (append_assoc (map Some bytes) (Some (rest % 256) ∷ []) (number_bytes (count - (i + 1)) (rest / 256)))

-- ---- places

pub place_at : (globals : List Global) (start i : ℕ) → i < length globals → slice_index_or (places_from start globals) i 0 ≡ start + sum_by span (take i globals)
place_at [] start i h = absurd (omega arith)
place_at (g ∷ gs) start zero h = omega arith
place_at (g ∷ gs) start (suc i) h =
    place_at gs (start + span g) i (omega arith) ∙ add_assoc start (span g) (sum_by span (take i gs)) ∙ sym (ap (λ n. start + n) (sum_by-cons span g (take i gs)))
  where
    add_assoc : (a b d : ℕ) → a + b + d ≡ a + (b + d)
    add_assoc a b d = omega arith

pub places_long : (globals : List Global) (start : ℕ) → length (places_from start globals) ≡ length globals
places_long [] start = refl
places_long (g ∷ gs) start = ap suc (places_long gs (start + span g))

-- ---- the fields of a struct

pub as_many : {A : Type 0} (test : A → MemTy → Bool) (items : List A) (types : List MemTy) → all_fit (map test items) types ≡ true → length items ≡ length types
as_many test [] [] h = refl
as_many test [] (ty ∷ types) h = absurd (false≢true h)
as_many test (item ∷ items) [] h = absurd (false≢true h)
as_many test (item ∷ items) (ty ∷ types) h = ap suc (as_many test items types (and_both (test item ty) (all_fit (map test items) types) h).1)

module _ (globals : List Global) (places : List ℕ) (items : List Init) (fields : List MemTy) (packed : Bool) (size_ place i : ℕ) (item : Init) (field : MemTy)
    (are : AreFields globals places items fields packed size_)
    (fit : all_fit (map (init_fits (length globals)) (drop i items)) (drop i fields) ≡ true) (same : length items ≡ length fields)
    (end : end_of_fields packed place (map extent_of (drop i fields)) ≡ end_of_fields packed 0 (map extent_of fields))
    (below : i < length items) (is_item : item ≡ get_or items i item) (is_field : field ≡ get_or fields i field) where
  below_fields : i < length fields
  below_fields = omega (arith, below, same)

  items_split : drop i items ≡ item ∷ drop (i + 1) items
  items_split = split_at items i item below is_item

  fields_split : drop i fields ≡ field ∷ drop (i + 1) fields
  fields_split = split_at fields i field below_fields is_field

  both_fit : (init_fits (length globals) item field ≡ true) × (all_fit (map (init_fits (length globals)) (drop (i + 1) items)) (drop (i + 1) fields) ≡ true)
  both_fit = and_both _ _ (rw (items_split, fields_split) at fit)

  pub place_low : place ≤ 2 ^ 32
  place_low =
      let within = rest-within packed place (drop i fields) fields end in
      let most = struct-size fields packed are.sizes in
      omega (arith, within, most)

  pub field_is : IsField globals places item field place
  field_is = record {
    stand = are.stand;
    sizes = subst HasSizesWithin (sym is_field) (struct-fields fields packed are.sizes i field below_fields);
    fits = both_fit.0;
    low = place_low;
  }

  pub fit_on : all_fit (map (init_fits (length globals)) (drop (i + 1) items)) (drop (i + 1) fields) ≡ true
  fit_on = both_fit.1

  pub end_on : (next : ℕ) → next ≡ field_start packed place (align field) + size field
      → end_of_fields packed next (map extent_of (drop (i + 1) fields)) ≡ end_of_fields packed 0 (map extent_of fields)
  end_on next e = rw e (sym (ap (λ (ts : List MemTy). end_of_fields packed place (map extent_of ts)) fields_split) ∙ end)

  pub value_on : (before after : List ℕ) (next : ℕ) (old : List Byte) → next ≡ field_start packed place (align field) + size field
      → map Some after ≡ (map Some before ++ zeros (field_start packed place (align field) - place)) ++ initial globals field item
      → map Some before ++ fields_from packed place (drop i fields) (fillings globals (drop i items)) ≡ old
      → map Some after ++ fields_from packed next (drop (i + 1) fields) (fillings globals (drop (i + 1) items)) ≡ old
  value_on before after next old e is all =
      let gap : List Byte = zeros (field_start packed place (align field) - place) in
      let own : List Byte = initial globals field item in
      let rest : List Byte = fields_from packed next (drop (i + 1) fields) (fillings globals (drop (i + 1) items)) in
      let opened : fields_from packed place (drop i fields) (fillings globals (drop i items)) ≡ (gap ++ own) ++ rest = rw (items_split, fields_split, e) refl in
      ap (λ (bs : List Byte). bs ++ rest) is
      ∙ ap (λ (bs : List Byte). bs ++ rest) (append_assoc (map Some before) gap own)
      ∙ append_assoc (map Some before) (gap ++ own) rest
      ∙ sym (ap (λ (bs : List Byte). map Some before ++ bs) opened)
      ∙ all

nothing_left : {A : Type 0} (xs : List A) (i : ℕ) → length xs ≤ i → drop i xs ≡ []
nothing_left [] zero h = refl
nothing_left [] (suc i) h = refl
nothing_left (x ∷ xs) zero h = absurd (omega arith)
nothing_left (x ∷ xs) (suc i) h = nothing_left xs i (omega arith)

module _ (globals : List Global) (places : List ℕ) (items : List Init) (fields : List MemTy) (packed : Bool) (size_ place i : ℕ)
    (are : AreFields globals places items fields packed size_) (same : length items ≡ length fields)
    (end : end_of_fields packed place (map extent_of (drop i fields)) ≡ end_of_fields packed 0 (map extent_of fields))
    (all : length items ≤ i) where
  no_fields : drop i fields ≡ []
  no_fields = nothing_left fields i (omega (arith, all, same))

  pub end_place : place ≤ size_
  end_place =
      let last : place ≡ end_of_fields packed 0 (map extent_of fields) = sym (ap (λ (ts : List MemTy). end_of_fields packed place (map extent_of ts)) no_fields) ∙ end in
      let within = end-within (map extent_of fields) packed in
      let whole : size_ ≡ (struct_extent (map extent_of fields) packed).size = are.whole ∙ ap (λ e. e.size) (extent-Struct fields packed) in
      omega (arith, last, within, whole)

  pub fields_done : (before after old : List ℕ)
      → map Some before ++ fields_from packed place (drop i fields) (fillings globals (drop i items)) ≡ map Some old ++ fields_from packed 0 fields (fillings globals items)
      → length before ≡ length old + place → map Some after ≡ map Some before ++ zeros (size_ - place)
      → map Some after ≡ map Some old ++ filled size_ (fields_from packed 0 fields (fillings globals items))
  fields_done before after old value more e =
      let bytes : List Byte = fields_from packed 0 fields (fillings globals items) in
      let now : map Some before ≡ map Some old ++ bytes =
      sym (append_nil (map Some before)) ∙ sym (ap (λ (ts : List MemTy). map Some before ++ fields_from packed place ts (fillings globals (drop i items))) no_fields) ∙ value in
      let long : length bytes ≡ place =
      let a : length before ≡ length old + length bytes =
      sym (length-map before (λ (n : ℕ). Some n)) ∙ ap length now ∙ length-append (map Some old) bytes ∙ ap (λ n. n + length bytes) (length-map old (λ (n : ℕ). Some n)) in
      omega (arith, a, more) in
      e ∙ ap (λ (bs : List Byte). bs ++ zeros (size_ - place)) now ∙ append_assoc (map Some old) bytes (zeros (size_ - place))
      ∙ ap (λ n. map Some old ++ (bytes ++ zeros (size_ - n))) (sym long)
    where
      append_nil : {A : Type 0} (xs : List A) → xs ++ [] ≡ xs
      append_nil [] = refl
      append_nil (x ∷ xs) = ap (λ (ys : List _). x ∷ ys) (append_nil xs)

-- ---- the elements of an array

fits-List : (globals : ℕ) (items : List Init) (ty : MemTy) → init_fits globals (InitList items) ty ≡ items_fit (map (init_fits globals) items) ty
fits-List globals items ty =
    ap (λ (i : Init). init_fits globals i ty) (sym (rolls-List items)) ∙ ap (λ (f : MemTy → Bool). f ty) (fold-roll-Init (MemTy → Bool) (init_step globals) (init_layer.List items))

same_number : (a b : ℕ) → (a == b) ≡ true → a ≡ b
same_number a b h = grind (arith, nat_tests)

module _ (globals : List Global) (items : List Init) (count : ℕ) (element : MemTy)
    (fits : init_fits (length globals) (InitList items) (Array count element) ≡ true) where
  pub elements_fit : (length items ≡ count) × (all_fit (map (init_fits (length globals)) items) (replicate (length items) element) ≡ true)
  elements_fit =
      let open_ : items_fit (map (init_fits (length globals)) items) (Array count element) ≡ true = sym (fits-List (length globals) items (Array count element)) ∙ fits in
      let both = and_both _ _ (rw (out-Array count element) at open_) in
      let long : length (map (init_fits (length globals)) items) ≡ length items = length-map items (init_fits (length globals)) in
      (sym long ∙ same_number _ count both.0, subst (λ n. all_fit (map (init_fits (length globals)) items) (replicate n element) ≡ true) long both.1)

  pub elements_done : (old new : List ℕ) → map Some new ≡ map Some old ++ elements element (fillings globals items) → length new ≡ length old + length items * size element
      → (map Some new ≡ map Some old ++ initial globals (Array count element) (InitList items)) × (length new ≡ length old + size (Array count element))
  elements_done old new value more =
      let bytes : List Byte = elements element (fillings globals items) in
      let whole : size (Array count element) ≡ count * size element = ap (λ e. e.size) (extent-Array count element) in
      let product : length items * size element ≡ count * size element = ap (λ n. n * size element) elements_fit.0 in
      let long : length bytes ≡ size (Array count element) =
      let a : length new ≡ length old + length bytes =
      sym (length-map new (λ (n : ℕ). Some n)) ∙ ap length value ∙ length-append (map Some old) bytes ∙ ap (λ n. n + length bytes) (length-map old (λ (n : ℕ). Some n)) in
      omega (arith, a, more, whole, product) in
      let is : initial globals (Array count element) (InitList items) ≡ filled (size (Array count element)) bytes =
      rw (out-Array count element) at (initial-List globals (Array count element) items) in
      let none : zeros (size (Array count element) - length bytes) ≡ [] = ap zeros (let z : size (Array count element) - length bytes ≡ 0 = omega (arith, long) in z) in
      (value ∙ ap (λ (bs : List Byte). map Some old ++ bs) (sym (append_nil bytes) ∙ ap (λ (z : List Byte). bytes ++ z) (sym none) ∙ sym is), omega (arith, more, whole, product))
    where
      append_nil : {A : Type 0} (xs : List A) → xs ++ [] ≡ xs
      append_nil [] = refl
      append_nil (x ∷ xs) = ap (λ (ys : List _). x ∷ ys) (append_nil xs)

-- ---- globals

pub few_of_first : (globals : List Global) (i : ℕ) → HasFewBytes globals → i ≤ length globals → HasFewBytes (take i globals)
few_of_first globals i few h = record {
  count = omega (arith, few.count, length-take_le i globals h);
  sizes = λ k d below.
      let inside : k < i = omega (arith, below, length-take_le i globals h) in
      let far : k < length globals = omega (arith, inside, h) in
      rw (get_or-take i globals k d inside) (few.sizes k d far);
}
  where
    length-take_le : (i : ℕ) (xs : List Global) → i ≤ length xs → length (take i xs) ≡ i
    length-take_le zero xs h = refl
    length-take_le (suc i) [] h = absurd (omega arith)
    length-take_le (suc i) (x ∷ xs) h = ap suc (length-take_le i xs (omega arith))

pub global_fits : (count : ℕ) (globals : List Global) (i : ℕ) (g : Global) → all_globals count globals ≡ true → i < length globals → g ≡ get_or globals i g
    → init_fits count g.init g.ty ≡ true
global_fits count [] i g h below is = absurd (omega arith)
global_fits count (x ∷ xs) zero g h below is =
    let first = (and_both (has_memory_widths x.ty) (init_fits count x.init x.ty) (and_both (is_global count x) (all_globals count xs) h).0).1 in
    subst (λ (y : Global). init_fits count y.init y.ty ≡ true) (sym is) first
global_fits count (x ∷ xs) (suc i) g h below is = global_fits count xs i g (and_both (is_global count x) (all_globals count xs) h).1 (omega arith) is

known_some : (xs : List ℕ) → map known (map Some xs) ≡ xs
known_some [] = refl
known_some (x ∷ xs) = ap (λ (ys : List ℕ). x ∷ ys) (known_some xs)

known_zeros : (n : ℕ) → map known (zeros n) ≡ replicate n 0
known_zeros zero = refl
known_zeros (suc n) = ap (λ (ys : List ℕ). 0 ∷ ys) (known_zeros n)

known_poison : (n : ℕ) → map known (replicate n None) ≡ replicate n 0
known_poison zero = refl
known_poison (suc n) = ap (λ (ys : List ℕ). 0 ∷ ys) (known_poison n)

right_nil : {A : Type 0} (xs : List A) → xs ++ [] ≡ xs
right_nil [] = refl
right_nil (x ∷ xs) = ap (λ (ys : List _). x ∷ ys) (right_nil xs)

-- bytes that are added to bytes, as numbers
added : (before after : List ℕ) (more : List Byte) → map Some after ≡ map Some before ++ more → after ≡ before ++ map known more
added before after more e =
    sym (known_some after) ∙ ap (map known) e ∙ map-append known (map Some before) more ∙ ap (λ (xs : List ℕ). xs ++ map known more) (known_some before)

added_long : (before after : List ℕ) (more : List Byte) → map Some after ≡ map Some before ++ more → length after ≡ length before + length more
added_long before after more e =
    sym (length-map after (λ (n : ℕ). Some n)) ∙ ap length e ∙ length-append (map Some before) more ∙ ap (λ n. n + length more) (length-map before (λ (n : ℕ). Some n))

pub size_spans : (g : Global) → size g.ty ≤ span g
size_spans g = omega arith

module _ (globals : List Global) (i start : ℕ) (g : Global) (bytes zeroed after : List ℕ)
    (below : i < length globals) (is : g ≡ get_or globals i g)
    (shown : map known (flat_map (global_bytes globals) (take i globals)) ≡ bytes ++ replicate (start - length bytes) 0)
    (low : length bytes ≤ start) (long : length (flat_map (global_bytes globals) (take i globals)) ≡ start)
    (pad : map Some zeroed ≡ map Some bytes ++ zeros (start - length bytes)) (pad_more : length zeroed ≡ length bytes + (start - length bytes))
    (put : map Some after ≡ map Some zeroed ++ initial globals g.ty g.init) (put_more : length after ≡ length zeroed + size g.ty) where
  pub after_long : length after ≡ start + size g.ty
  after_long = omega (arith, pad_more, put_more, low)

  own_long : length (initial globals g.ty g.init) ≡ size g.ty
  own_long = omega (arith, put_more, added_long zeroed after (initial globals g.ty g.init) put)

  taken_more : flat_map (global_bytes globals) (take (i + 1) globals) ≡ flat_map (global_bytes globals) (take i globals) ++ global_bytes globals g
  taken_more =
      ap (flat_map (global_bytes globals)) (take_more globals i g below ∙ ap (λ (x : Global). take i globals ++ x ∷ []) (sym is))
      ∙ flat_map-append (global_bytes globals) (take i globals) (g ∷ [])
      ∙ ap (λ (bs : List Byte). flat_map (global_bytes globals) (take i globals) ++ bs) (right_nil (global_bytes globals g))

  pub known_on : map known (flat_map (global_bytes globals) (take (i + 1) globals)) ≡ after ++ replicate (start + span g - length after) 0
  known_on =
      let own : List Byte = initial globals g.ty g.init in
      let gap : ℕ = span g - size g.ty in
      let zeroed_is : zeroed ≡ bytes ++ replicate (start - length bytes) 0 =
      added bytes zeroed (zeros (start - length bytes)) pad ∙ ap (λ (xs : List ℕ). bytes ++ xs) (known_zeros (start - length bytes)) in
      let left : gap ≡ start + span g - length after = omega (arith, after_long) in
      ap (map known) taken_more ∙ map-append known (flat_map (global_bytes globals) (take i globals)) (global_bytes globals g)
      ∙ ap (λ (xs : List ℕ). xs ++ map known (global_bytes globals g)) (shown ∙ sym zeroed_is)
      ∙ ap (λ (xs : List ℕ). zeroed ++ xs) (map-append known own (replicate gap None) ∙ ap (λ (xs : List ℕ). map known own ++ xs) (known_poison gap))
      ∙ sym (append_assoc zeroed (map known own) (replicate gap 0))
      ∙ ap (λ (xs : List ℕ). xs ++ replicate gap 0) (sym (added zeroed after own put))
      ∙ ap (λ n. after ++ replicate n 0) left

  pub long_on : length (flat_map (global_bytes globals) (take (i + 1) globals)) ≡ start + span g
  long_on =
      let more : length (global_bytes globals g) ≡ length (initial globals g.ty g.init) + (span g - size g.ty) =
      length-append (initial globals g.ty g.init) (replicate (span g - size g.ty) None) ∙ ap (λ n. length (initial globals g.ty g.init) + n) (length-replicate (span g - size g.ty) None) in
      let all = ap length taken_more ∙ length-append (flat_map (global_bytes globals) (take i globals)) (global_bytes globals g) in
      omega (arith, all, long, more, own_long, size_spans g)

  pub last_on : last_end (length bytes) start (drop i globals) ≡ last_end 0 0 globals → last_end (length after) (start + span g) (drop (i + 1) globals) ≡ last_end 0 0 globals
  last_on e =
      ap (λ n. last_end n (start + span g) (drop (i + 1) globals)) after_long
      ∙ sym (ap (λ (gs : List Global). last_end (length bytes) start gs) (split_at globals i g below is)) ∙ e

  pub taken_on : start + taken (drop i globals) ≡ taken globals → start + span g + taken (drop (i + 1) globals) ≡ taken globals
  taken_on e =
      let more : taken (drop i globals) ≡ span g + taken (drop (i + 1) globals) =
      sum_by-drop_more span globals i g below ∙ ap (λ (x : Global). span x + taken (drop (i + 1) globals)) (sym is) in
      omega (arith, e, more)

pub on_ok_both : {T E P Q R : Type 0} (r : Result T E) → (P → Q → R) → OnOk r P → OnOk r Q → OnOk r R
on_ok_both (Ok x) f p q = f p q
on_ok_both (Err e) f p q = tt
