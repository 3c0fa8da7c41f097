-- Trees of printed addresses say what was printed.
use Rattle.std.proofs.Common.{◌≡◌, ℕ, ◌+◌, ◌-◌, ◌*◌, ◌%◌, ◌^◌, ◌<◌, Bool, true, false, [], ◌∷◌, slice_get, Some, None, refl, sym, ◌∙◌, ap, arith, mod-eq_of_lt}
use Rattle.std.specs.Prelude.{nat_eq, nat_lt, codes, Ok, if◌then◌else◌}
use Rattle.std.specs.Fmt.{digits}
use Rattle.ir_text.specs.declared.name.Name.{Name}
use Rattle.ir_core.specs.declared.types.MemTy.{Int, fold-roll-MemTy}
use Rattle.ir_core.specs.declared.types.MemTy.TheVariants.{rolls-Int}
use Rattle.ir_core.specs.declared.types.MemTy.TheOpen as layer
use Rattle.ir_core.specs.declared.program.Module.{Module}
use Rattle.ir_core.specs.Layout.{size}
use Rattle.ir_core.specs.declared.layout.Extent.{Extent}
use Rattle.ir_core.proofs.Layouts.{extent-Int}
use Rattle.ir_flow.specs.Limits.{measured, measured_step, capped_passing}
use Rattle.ir_flow.specs.declared.sizes.Measured.{Measured}
use Rattle.ir_grammar.specs.declared.type_tree.TypeNode.TheVariants as nodes
use Rattle.ir_value_trees.specs.declared.value_tree.Index.{Index}
use Rattle.ir_value_trees.specs.declared.value_tree.Address.{Address}
use Rattle.ir_types.specs.declared.tables.Target.TheVariants as targets
use Rattle.ir_types.specs.Walk.{walk}
use Rattle.ir_types.specs.Numbers.{natural, digits_onto}
use Rattle.ir_types.specs.Names.{Symbols, named_target}
use Rattle.ir_types.specs.Types.{memory}
use Rattle.ir_resolve.specs.declared.offsets.Offset.{Offset}
use Rattle.ir_resolve.specs.Literals.{literal_of, widened}
use Rattle.ir_resolve.specs.Addresses.{offset_of, offsets_of, further, times, distance, head_distance, way_step, address}
use Rattle.ir_print.specs.Values.{global_of}
use Rattle.ir_print_laws.specs.FormTrees.{IsNameOf, IsCount, IsMemoryTree, integer, IsOffsetTree, IsAddressTree}
use Rattle.ir_print_laws.specs.Fits.{FitsMemory, no_types}
use Rattle.ir_print_laws.proofs.Digits.{count_says}
use Rattle.ir_print_laws.proofs.Operands.{SaysAddress}
use Rattle.ir_print_laws.proofs.Memory.{fits_int, nodes_int, memory_says}

-- a byte
measured_byte : (measured (Int 8)).passing ≡ None
measured_byte = ap (λ (m : Measured). m.passing) (ap measured (sym (rolls-Int 8)) ∙ fold-roll-MemTy Measured measured_step (layer.Int 8))

byte_fits : FitsMemory (Int 8)
byte_fits = (fits_int 8 ∙ refl, (let one = nodes_int 8 in omega (arith, one), ap capped_passing measured_byte))

byte_tree : (left : ℕ) → IsMemoryTree (nodes.Int (codes "8") left ∷ []) (Int 8) []
unfolding digits
byte_tree left = integer {width = 8}

byte_says : (left : ℕ) → memory no_types (nodes.Int (codes "8") left ∷ []) ≡ Ok (Int 8)
byte_says left = memory_says (Int 8) _ byte_fits (byte_tree left)

byte_size : size (Int 8) ≡ 1
byte_size = ap (λ (e : Extent). e.size) (extent-Int 8)

-- `iN OFFSET`
abbrev at_offset : ℕ → ℕ → Offset
at_offset offset left = record { value = offset; left = left }

wide_offset : (offset : ℕ) → offset < 2 ^ 64 → widened (2 ^ 64) offset ≡ offset
wide_offset offset lt = by (nat_lt (2 * offset) (2 ^ 64))
  where
    back : offset + 2 ^ 64 - 2 ^ 64 ≡ offset
    back = omega arith

    by : (b : Bool) → (if b then offset else offset + 2 ^ 64 - 2 ^ 64) ≡ offset
    by true = refl
    by false = omega arith

wide_says : (left : ℕ) → natural (codes "64") ≡ Some 64
unfolding digits_onto
wide_says left = refl

literal_wide : (offset : ℕ) (index : Index) → offset < 2 ^ 64 → IsCount offset index.number → literal_of index.number 64 ≡ Ok offset
unfolding literal_of
literal_wide offset index lt is =
    let d = count_says offset index.number (omega (arith, lt)) is in
    let b : nat_lt offset (2 ^ 64) ≡ true = grind (arith, lt) in
    rw (d, is.0, b) refl

offset_says : (offset : ℕ) (index : Index) → offset < 2 ^ 64 → IsOffsetTree offset index → offset_of index ≡ Ok (at_offset offset index.number.left)
unfolding offset_of
offset_says offset index lt is =
    let l = literal_wide offset index lt is.1 in
    let b : nat_lt offset (2 ^ 64) ≡ true = grind (arith, lt) in
    rw is.0.1 (rw (wide_says 0) (rw (l, b, wide_offset offset lt) refl))

offsets_say : (offset : ℕ) (index : Index) → offset < 2 ^ 64 → IsOffsetTree offset index → offsets_of (index ∷ []) ≡ Ok (at_offset offset index.number.left ∷ [])
unfolding offsets_of walk
offsets_say offset index lt is = rw (offset_says offset index lt is) refl

times_one : (offset : ℕ) → offset < 2 ^ 64 → times offset 1 ≡ offset
times_one offset lt = let e : offset * 1 ≡ offset = omega arith in ap (λ (n : ℕ). n % 2 ^ 64) e ∙ mod-eq_of_lt lt

further_none : (offset : ℕ) → offset < 2 ^ 64 → further offset 0 ≡ offset
further_none offset lt = let e : offset + 0 ≡ offset = omega arith in ap (λ (n : ℕ). n % 2 ^ 64) e ∙ mod-eq_of_lt lt

none_further : (offset : ℕ) → offset < 2 ^ 64 → further 0 offset ≡ offset
none_further offset lt = let e : 0 + offset ≡ offset = omega arith in ap (λ (n : ℕ). n % 2 ^ 64) e ∙ mod-eq_of_lt lt

distance_says : (offset left : ℕ) → offset < 2 ^ 64 → distance (Int 8) (at_offset offset left ∷ []) ≡ Ok offset
distance_says offset left lt = ap Ok (ap (λ (n : ℕ). further (times offset n) 0) byte_size ∙ ap (λ (n : ℕ). further n 0) (times_one offset lt) ∙ further_none offset lt)

head_says : (offset left : ℕ) (index : Index) → offset < 2 ^ 64 → IsOffsetTree offset index → head_distance no_types (nodes.Int (codes "8") left ∷ []) (index ∷ []) ≡ Ok offset
unfolding head_distance
head_says offset left index lt is = rw (byte_says left, offsets_say offset index lt is) (distance_says offset index.number.left lt)

abbrev Globals : Module → Symbols → ℕ → Type 0
Globals m symbols globals = (k : ℕ) (name : Name) → k < globals → IsNameOf (global_of (slice_get m.globals k)) name → named_target symbols name ≡ Ok (targets.Global k)

near_says : (symbols : Symbols) (k : ℕ) (one : Address) → named_target symbols one.name ≡ Ok (targets.Global k) → one.heads ≡ [] → one.tails ≡ [] → address no_types symbols one ≡ Ok (k, 0)
unfolding address walk
near_says symbols k one e heads tails = rw (e, heads, tails) refl

far_says : (symbols : Symbols) (k offset left : ℕ) (index : Index) (one : Address) → offset < 2 ^ 64 → named_target symbols one.name ≡ Ok (targets.Global k) → one.heads ≡ (nodes.Int (codes "8") left ∷ []) ∷ [] → one.tails ≡ (index ∷ []) ∷ [] → IsOffsetTree offset index → address no_types symbols one ≡ Ok (k, offset)
unfolding address walk way_step
far_says symbols k offset left index one lt e heads tails is = rw (e, heads, tails) (rw (head_says offset left index lt is) (rw (none_further offset lt) refl))

says_by : (m : Module) (symbols : Symbols) (k offset : ℕ) (one : Address) (none : Bool) → nat_eq offset 0 ≡ none → offset < 2 ^ 64 → named_target symbols one.name ≡ Ok (targets.Global k) → IsAddressTree (global_of (slice_get m.globals k)) offset one → address no_types symbols one ≡ Ok (k, offset)
says_by m symbols k offset one true e lt found is =
    let h = rw e at is.1 in
    let zero_offset : 0 ≡ offset = grind (arith, e) in
    near_says symbols k one found h.0 h.1 ∙ ap (λ (n : ℕ). Ok (k, n)) zero_offset
says_by m symbols k offset one false e lt found is =
    let h = rw e at is.1 in
    far_says symbols k offset h.0.0 h.1.0 one lt found h.0.1 h.1.1 h.1.2

pub addresses_say : (m : Module) (symbols : Symbols) (globals : ℕ) → Globals m symbols globals → SaysAddress m symbols globals
addresses_say m symbols globals known = λ k offset one lt few is. says_by m symbols k offset one (nat_eq offset 0) refl few (known k one.name lt is.0) is
