-- Arithmetic that stops at the greatest number, and the measure of each kind of type.
use Rattle.std.proofs.Common.{◌≡◌, ℕ, zero, suc, ◌+◌, ◌*◌, ◌-◌, ◌^◌, ◌<◌, ◌≤◌, ◌⊎◌, inl, inr, max, min, nat_lt, Bool, true, false, List, [], ◌∷◌, ◌++◌, map, length, take, drop, get_or, Option, Some, None, sym, ◌∙◌, ap, refl, arith, add-one, drop-cons, if◌then◌else◌, IsSome, IsTrue}
use Rattle.std.specs.Prelude.{sum_by}
use Rattle.std.proofs.lemmas.Bool.Decides.{nat_tests}
use Rattle.std.proofs.lemmas.Bool.{false≢true}
use Rattle.std.proofs.lemmas.Grind.{common_steps}
use Rattle.std.specs.Option.{is_some}
use Rattle.ir_core.specs.declared.types.MemTy.{MemTy, Int, Ptr, fold-roll-MemTy}
use Rattle.ir_core.specs.declared.types.MemTy.TheVariants.{Array, Struct, rolls-Int, rolls-Ptr, rolls-Array, rolls-Struct}
use Rattle.ir_core.specs.declared.types.MemTy.TheOpen as layer
use Rattle.ir_core.specs.declared.layout.Extent.{Extent}
use Rattle.ir_core.specs.declared.code.Inst.{Inst}
use Rattle.ir_core.specs.declared.code.Block.{Block}
use Rattle.ir_core.specs.Layout.{Measure, measure, int_extent, pointer_extent, array_extent, struct_extent, field_start, end_of_fields, greatest_align}
use Rattle.ir_core.specs.Units.{instructions}
use Rattle.ir_core.proofs.Layouts.{measure-Struct}
use Rattle.ir_core.proofs.Structs.{end-grows}
use Rattle.ir_flow.specs.declared.sizes.Measured.{Measured}
use Rattle.ir_flow.specs.First.{or_then}
use Rattle.ir_flow.specs.Limits.{Passed, capped, capped_passing, own_or_parts, first_passing, extents_of, measured, measured_with, measured_step, nodes, op_limit, insts_limit}

-- ---- numbers

below_or_past : (x : ℕ) → (x < 2 ^ 64 - 1) ⊎ (2 ^ 64 - 1 ≤ x)
below_or_past x = grind arith

capped_below : (x : ℕ) → x < 2 ^ 64 - 1 → capped x ≡ x
capped_below x h = omega arith

capped_past : (x : ℕ) → 2 ^ 64 - 1 ≤ x → capped x ≡ 2 ^ 64 - 1
capped_past x h = omega arith

-- fields that begin at places that are the same when capped end at such places
pub same_ends : (packed : Bool) (x y : ℕ) (es : List Extent) → capped x ≡ capped y → capped (end_of_fields packed x es) ≡ capped (end_of_fields packed y es)
same_ends packed x y es e = by_size (below_or_past x)
  where
    by_size : (x < 2 ^ 64 - 1) ⊎ (2 ^ 64 - 1 ≤ x) → capped (end_of_fields packed x es) ≡ capped (end_of_fields packed y es)
    by_size (inl below) = let same : x ≡ y = omega arith in rw same refl
    by_size (inr past) =
        let a = end-grows packed x es in
        let b = end-grows packed y es in
        capped_past (end_of_fields packed x es) (omega arith) ∙ sym (capped_past (end_of_fields packed y es) (omega arith))

pub capped_sum : (start size sum s t : ℕ) → start ≡ capped s → size ≡ capped t → sum ≡ min (start + size) (2 ^ 64 - 1) → capped sum ≡ capped (s + t)
capped_sum start size sum s t a b c = omega arith

-- ---- what parts show

pub or_none : {A : Type 0} (a : Option A) → or_then a None ≡ a
or_none None = refl
or_none (Some x) = refl

pub capped_own : (size own : ℕ) (passing : Option ℕ) → own ≡ capped size → own_or_parts own (capped_passing passing) ≡ capped_passing (own_or_parts size passing)
capped_own size own passing e = by_size (nat_lt (2 ^ 32) size) refl
  where
    by_size : (b : Bool) → nat_lt (2 ^ 32) size ≡ b → own_or_parts own (capped_passing passing) ≡ capped_passing (own_or_parts size passing)
    by_size true h =
        let g : nat_lt (2 ^ 32) own ≡ true = grind (arith, nat_tests) in
        rw (h, g) (ap Some e)
    by_size false h =
        let g : nat_lt (2 ^ 32) own ≡ false = grind (arith, nat_tests) in
        rw (h, g) refl

pub capped_first : (a b : Option ℕ) → capped_passing (or_then a b) ≡ or_then (capped_passing a) (capped_passing b)
capped_first None b = refl
capped_first (Some x) b = refl

pub or_assoc : {A : Type 0} (a b d : Option A) → or_then (or_then a b) d ≡ or_then a (or_then b d)
or_assoc None b d = refl
or_assoc (Some x) b d = refl

pub or_given : {A : Type 0} (a b : Option A) → true ≡ is_some a → or_then a b ≡ a
or_given None b h = absurd (false≢true (sym h))
or_given (Some x) b h = refl

pub or_missing : {A : Type 0} (a b : Option A) → false ≡ is_some a → or_then a b ≡ b
or_missing None b h = refl
or_missing (Some x) b h = absurd (false≢true h)

-- ---- types

pub measured-Int : (w : ℕ) → measured (Int w) ≡ measured_with (int_extent w) []
measured-Int w = ap (λ (t : MemTy). measured t) (sym (rolls-Int w)) ∙ fold-roll-MemTy Measured measured_step (layer.Int w)

pub measured-Ptr : measured Ptr ≡ measured_with pointer_extent []
measured-Ptr = ap (λ (t : MemTy). measured t) (sym rolls-Ptr) ∙ fold-roll-MemTy Measured measured_step layer.Ptr

pub measured-Array : (count : ℕ) (element : MemTy)
    → measured (Array count element) ≡ measured_with (array_extent count (measured element).extent) (measured element ∷ [])
measured-Array count element =
    ap (λ (t : MemTy). measured t) (sym (rolls-Array count element)) ∙ fold-roll-MemTy Measured measured_step (layer.Array count element)

pub measured-Struct : (fields : List MemTy) (packed : Bool)
    → measured (Struct fields packed) ≡ measured_with (struct_extent (extents_of (map measured fields)) packed) (map measured fields)
measured-Struct fields packed =
    ap (λ (t : MemTy). measured t) (sym (rolls-Struct fields packed)) ∙ fold-roll-MemTy Measured measured_step (layer.Struct fields packed)

pub passing-Array : (count size own : ℕ) (element : MemTy) → own ≡ capped (count * (measured element).extent.size)
    → own_or_parts own (capped_passing (measured element).passing) ≡ capped_passing (measured (Array count element)).passing
passing-Array count size own element e =
    capped_own (count * (measured element).extent.size) own (measured element).passing e
    ∙ ap (λ (p : Option ℕ). capped_passing (own_or_parts (count * (measured element).extent.size) p)) (sym (or_none (measured element).passing))
    ∙ ap (λ (m : Measured). capped_passing m.passing) (sym (measured-Array count element))

pub capped_product : (count s part own : ℕ) → part ≡ capped s → own ≡ capped (count * part) → own ≡ capped (count * s)
capped_product count s part own a b = by_size (below_or_past s)
  where
    zero_or_more : (count ≡ 0) ⊎ (0 < count)
    zero_or_more = grind arith

    grows : (c n : ℕ) → 0 < c → n ≤ c * n
    grows zero n h = absurd (omega arith)
    grows (suc c) n h = omega arith

    by_count : 2 ^ 64 - 1 ≤ s → (count ≡ 0) ⊎ (0 < count) → own ≡ capped (count * s)
    by_count past (inl none) =
        let x : count * part ≡ 0 = rw none (omega arith) in
        let y : count * s ≡ 0 = rw none (omega arith) in
        omega (arith, b, x, y)
    by_count past (inr some) =
        let x : 2 ^ 64 - 1 ≤ count * part = let g = grows count part some in omega arith in
        let y : 2 ^ 64 - 1 ≤ count * s = let g = grows count s some in omega arith in
        b ∙ capped_past (count * part) x ∙ sym (capped_past (count * s) y)

    by_size : (s < 2 ^ 64 - 1) ⊎ (2 ^ 64 - 1 ≤ s) → own ≡ capped (count * s)
    by_size (inl below) = b ∙ ap (λ n. capped (count * n)) (a ∙ capped_below s below)
    by_size (inr past) = by_count past zero_or_more

-- ---- fields

pub least_align : (es : List Extent) → 1 ≤ greatest_align es
least_align [] = omega arith
least_align (e ∷ es) = let h : 1 ≤ greatest_align es = least_align es in omega arith

module _ (fields : List MemTy) (i : ℕ) (field : MemTy) (h : i < length fields) (is : field ≡ get_or fields i field) where
  next_end : (packed : Bool) (place : ℕ) → end_of_fields packed place (extents_of (map measured (drop i fields)))
      ≡ end_of_fields packed (field_start packed place (measured field).extent.align + (measured field).extent.size) (extents_of (map measured (drop (i + 1) fields)))
  next_end packed place =
      ap (λ (ts : List MemTy). end_of_fields packed place (extents_of (map measured ts))) (drop-cons fields i field h ∙ ap (λ (t : MemTy). t ∷ drop (suc i) fields) (sym is))
      ∙ ap (λ n. end_of_fields packed (field_start packed place (measured field).extent.align + (measured field).extent.size) (extents_of (map measured (drop n fields)))) (sym (add-one i))

  next_align : greatest_align (extents_of (map measured (drop i fields))) ≡ max (measured field).extent.align (greatest_align (extents_of (map measured (drop (i + 1) fields))))
  next_align =
      ap (λ (ts : List MemTy). greatest_align (extents_of (map measured ts))) (drop-cons fields i field h ∙ ap (λ (t : MemTy). t ∷ drop (suc i) fields) (sym is))
      ∙ ap (λ n. max (measured field).extent.align (greatest_align (extents_of (map measured (drop n fields))))) (sym (add-one i))

  next_passing : first_passing (map measured (drop i fields)) ≡ or_then (measured field).passing (first_passing (map measured (drop (i + 1) fields)))
  next_passing =
      ap (λ (ts : List MemTy). first_passing (map measured ts)) (drop-cons fields i field h ∙ ap (λ (t : MemTy). t ∷ drop (suc i) fields) (sym is))
      ∙ ap (λ n. or_then (measured field).passing (first_passing (map measured (drop n fields)))) (sym (add-one i))

  pub end_on : (packed : Bool) (place next align start size : ℕ) (all : List Extent)
      → capped (end_of_fields packed place (extents_of (map measured (drop i fields)))) ≡ capped (end_of_fields packed 0 all)
      → align ≡ (measured field).extent.align → start ≡ capped (field_start packed place align) → size ≡ capped (measured field).extent.size
      → next ≡ min (start + size) (2 ^ 64 - 1)
      → capped (end_of_fields packed next (extents_of (map measured (drop (i + 1) fields)))) ≡ capped (end_of_fields packed 0 all)
  end_on packed place next align start size all same a b d e =
      let f : start ≡ capped (field_start packed place (measured field).extent.align) = b ∙ ap (λ n. capped (field_start packed place n)) a in
      same_ends packed next (field_start packed place (measured field).extent.align + (measured field).extent.size) (extents_of (map measured (drop (i + 1) fields)))
      (capped_sum start size next _ _ f d e)
      ∙ ap capped (sym (next_end packed place)) ∙ same

  pub align_on : (align next part all : ℕ) → max align (greatest_align (extents_of (map measured (drop i fields)))) ≡ all
      → part ≡ (measured field).extent.align → next ≡ max align part
      → max next (greatest_align (extents_of (map measured (drop (i + 1) fields)))) ≡ all
  align_on align next part all same a b = omega (arith, next_align)

  pub passing_on : (passing next part all : Option ℕ) → or_then passing (capped_passing (first_passing (map measured (drop i fields)))) ≡ all
      → part ≡ capped_passing (measured field).passing → next ≡ or_then passing part
      → or_then next (capped_passing (first_passing (map measured (drop (i + 1) fields)))) ≡ all
  passing_on passing next part all same a b =
      ap (λ (p : Option ℕ). or_then p rest) (b ∙ ap (λ (p : Option ℕ). or_then passing p) a)
      ∙ or_assoc passing (capped_passing (measured field).passing) rest
      ∙ ap (λ (p : Option ℕ). or_then passing p) (sym (capped_first (measured field).passing (first_passing (map measured (drop (i + 1) fields)))) ∙ ap capped_passing (sym next_passing))
      ∙ same
    where
      rest : Option ℕ
      rest = capped_passing (first_passing (map measured (drop (i + 1) fields)))

-- ---- nodes

nodes_of_fields : (fields : List MemTy) → sum_by (λ m. m.nodes) (map measure fields) ≡ sum_by nodes fields
nodes_of_fields [] = refl
nodes_of_fields (field ∷ fields) = let rest : sum_by (λ m. m.nodes) (map measure fields) ≡ sum_by nodes fields = nodes_of_fields fields in grind (arith, common_steps, rest)

pub nodes-Struct : (fields : List MemTy) (packed : Bool) → nodes (Struct fields packed) ≡ 1 + sum_by nodes fields
nodes-Struct fields packed = ap (λ (m : Measure). m.nodes) (measure-Struct fields packed) ∙ ap (λ n. 1 + n) (nodes_of_fields fields)

-- ---- instructions

limit-append : (a b : List Inst) → insts_limit (a ++ b) ≡ or_then (insts_limit a) (insts_limit b)
limit-append [] b = refl
limit-append (inst ∷ a) b = ap (λ (o : Option Passed). or_then (op_limit inst.op) o) (limit-append a b) ∙ sym (or_assoc (op_limit inst.op) (insts_limit a) (insts_limit b))

pub limit_step : (blocks : List Block) (i : ℕ) (block : Block) → i < length blocks → block ≡ get_or blocks i block
    → insts_limit (instructions (drop i blocks)) ≡ or_then (insts_limit block.insts) (insts_limit (instructions (drop (i + 1) blocks)))
limit_step blocks i block h is =
    ap (λ (bs : List Block). insts_limit (instructions bs)) (drop-cons blocks i block h ∙ ap (λ (b : Block). b ∷ drop (suc i) blocks) (sym is))
    ∙ limit-append block.insts (instructions (drop (suc i) blocks))
    ∙ ap (λ n. or_then (insts_limit block.insts) (insts_limit (instructions (drop n blocks)))) (sym (add-one i))
