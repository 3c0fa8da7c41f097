-- What passes the rows up to the ranges is small, and its edges and uses name what is there.
use Rattle.std.proofs.Common.{◌≡◌, ℕ, zero, suc, ◌+◌, ◌-◌, ◌^◌, ◌<◌, ◌≤◌, ◌⊎◌, inl, inr, List, [], ◌∷◌, ◌++◌, length, get_or, map, refl, sym, ◌∙◌, ap, subst, Bool, true, false, ◌&&◌, not, nat_lt, nat_le, arith, Option, Some, None, if◌then◌else◌}
use Rattle.std.specs.Prelude.{slice_get, sum_by, All}
use Rattle.std.proofs.lemmas.Bool.{false≢true}
use Rattle.std.proofs.lemmas.Bool.Decides.{nat_tests}
use Rattle.std.proofs.lemmas.Grind.{common_steps}
use Rattle.std.proofs.lemmas.List.{length-append, length-map}
use Rattle.ir_core.specs.declared.types.Ty.{Ty}
use Rattle.ir_core.specs.declared.code.Operand.{Operand}
use Rattle.ir_core.specs.declared.code.Operand.TheVariants.{Value as Local, Num, Null, Place, Poison}
use Rattle.ir_core.specs.declared.code.Op.{Op}
use Rattle.ir_core.specs.declared.code.Op.TheVariants.{Phi}
use Rattle.ir_core.specs.declared.code.Inst.{Inst}
use Rattle.ir_core.specs.declared.code.Block.{Block}
use Rattle.ir_core.specs.declared.program.Function.{Function}
use Rattle.ir_core.specs.declared.program.Module.{Module}
use Rattle.ir_core.specs.declared.program.What.{What}
use Rattle.ir_core.specs.declared.program.What.TheVariants.{Functions, Globals, Parameters, Units}
use Rattle.ir_core.specs.Units.{instructions, units, results, values, types_in}
use Rattle.ir_flow.specs.First.{first_refused, or_then, first_in}
use Rattle.ir_flow.specs.Limits.{Passed, above, function_limit, functions_limit, globals_limit, insts_limit, limit_passed}
use Rattle.ir_flow.specs.declared.uses.Use.{Use}
use Rattle.ir_flow.specs.Code.{places, typed_pairs, targets, targets_of_last, edges, edges_of, pair_blocks, blocks_named}
use Rattle.ir_flow.specs.Assigned.{first_values, firsts_of, use_of, uses_of_places, uses_of_pairs, uses_of, behind, uses_in_block, uses_in_blocks, uses, IsUsable}
use Rattle.ir_verify.specs.Shapes.{ends_once, fits_number, all_cases_distinct, is_shaped, first_misshapen, misshapen}
use Rattle.ir_verify.specs.Ranges.{all_below, all_named, names_what_is, has_width, all_have_widths, names_more, is_in_range, out_of_range, at_first, all_parameters}
use Rattle.ir_verify.specs.Small.{IsSmall, HasFewBlocks}
use Rattle.ir_verify.proofs.Lists.{Every, every_left, every_right, every_both, every_at, every_map, and_both, lt_is, lt_not, or_none_left, or_none_right, none_refused}

none_some : {A : Type 0} (x : A) → None ≡ Some x → ⊥
none_some x e = cc

-- ---- limits

pub within : (what : What) (most count : ℕ) → above what most count ≡ None → count ≤ most
within what most count e = by_test (nat_lt most count) refl e
  where
    by_test : (b : Bool) → nat_lt most count ≡ b → above what most count ≡ None → count ≤ most
    by_test true h e = absurd (none_some _ (sym (rw h at e)))
    by_test false h e = lt_not most count h

units_least : (inst : Inst) → 1 ≤ units inst
units_least inst = omega arith

insts_within_units : (insts : List Inst) → length insts ≤ sum_by units insts
insts_within_units [] = omega arith
insts_within_units (inst ∷ insts) =
    let rest : length insts ≤ sum_by units insts = insts_within_units insts in
    grind (arith, common_steps, rest, units_least inst)

pub results_within : (insts : List Inst) → results insts ≤ length insts
results_within [] = omega arith
results_within (inst ∷ insts) = let rest : results insts ≤ length insts = results_within insts in grind (arith, common_steps, rest)

pub function_small : (function : Function) → function_limit function ≡ None → IsSmall function
function_small function e =
    let params : length function.params ≤ 8 = within Parameters 8 (length function.params) (or_none_left _ _ e) in
    let more = or_none_right (above Parameters 8 (length function.params)) _ e in
    let few : sum_by units (instructions function.blocks) ≤ 16384 = within Units 16384 _ (or_none_left _ _ more) in
    let a = insts_within_units (instructions function.blocks) in
    let b = results_within (instructions function.blocks) in
    (params, omega (arith, few, a), omega (arith, few, a, b, params))

functions_small : (functions : List Function) → functions_limit functions ≡ None → Every IsSmall functions
functions_small [] e = tt
functions_small (function ∷ functions) e =
    (function_small function (or_none_left (function_limit function) _ e), functions_small functions (or_none_right (function_limit function) _ e))

module _ (module_ : Module) (e : limit_passed module_ ≡ None) where
  after_functions : or_then (above Globals 4096 (length module_.globals)) (or_then (globals_limit module_.globals) (functions_limit module_.functions)) ≡ None
  after_functions = or_none_right (above Functions 1024 (length module_.functions)) _ e

  pub few_functions : length module_.functions ≤ 1024
  few_functions = within Functions 1024 (length module_.functions) (or_none_left _ _ e)

  pub few_globals : length module_.globals ≤ 4096
  few_globals = within Globals 4096 (length module_.globals) (or_none_left _ _ after_functions)

  after_globals : or_then (globals_limit module_.globals) (functions_limit module_.functions) ≡ None
  after_globals = or_none_right (above Globals 4096 (length module_.globals)) _ after_functions

  pub globals_pass : globals_limit module_.globals ≡ None
  globals_pass = or_none_left (globals_limit module_.globals) _ after_globals

  pub functions_pass : functions_limit module_.functions ≡ None
  functions_pass = or_none_right (globals_limit module_.globals) _ after_globals

  pub all_small : Every IsSmall module_.functions
  all_small = functions_small module_.functions functions_pass

-- ---- shapes

pub not_empty : (insts : List Inst) → ends_once insts ≡ true → 1 ≤ length insts
not_empty [] h = absurd (false≢true h)
not_empty (inst ∷ insts) h = omega arith

shaped_then : (number : ℕ) (block : Block) (blocks : List Block) → (b : Bool) → is_shaped number block ≡ b → first_misshapen number (block ∷ blocks) ≡ None
    → (is_shaped number block ≡ true) × (first_misshapen (number + 1) blocks ≡ None)
shaped_then number block blocks true h e = (h, rw h at e)
shaped_then number block blocks false h e = absurd (none_some number (sym (rw h at e)))

pub shaped_ends : (number : ℕ) (block : Block) → is_shaped number block ≡ true → ends_once block.insts ≡ true
shaped_ends number block h = (and_both (ends_once block.insts) _ ((and_both (ends_once block.insts && fits_number number block.insts) _ h).0)).0

blocks_within : (number : ℕ) (blocks : List Block) → first_misshapen number blocks ≡ None → length blocks ≤ length (instructions blocks)
blocks_within number [] e = omega arith
blocks_within number (block ∷ blocks) e =
    let two : (is_shaped number block ≡ true) × (first_misshapen (number + 1) blocks ≡ None) = shaped_then number block blocks (is_shaped number block) refl e in
    let one : 1 ≤ length block.insts = not_empty block.insts (shaped_ends number block two.0) in
    let rest : length blocks ≤ length (instructions blocks) = blocks_within (number + 1) blocks two.1 in
    omega (arith, one, rest, length-append block.insts (instructions blocks))

blocks_few : (blocks : List Block) (function : Function) → function.blocks ≡ blocks → misshapen function ≡ None → IsSmall function → HasFewBlocks function
blocks_few [] function is e small = absurd (none_some 0 (sym (rw is at e)))
blocks_few (block ∷ blocks) function is e small =
    let h : length (block ∷ blocks) ≤ length (instructions (block ∷ blocks)) = blocks_within 0 (block ∷ blocks) (rw is at e) in
    let g : length (instructions (block ∷ blocks)) ≤ 16384 = rw is at small.1 in
    (rw is (omega arith), rw is (omega (arith, h, g)))

pub has_few_blocks : (function : Function) → misshapen function ≡ None → IsSmall function → HasFewBlocks function
has_few_blocks function = blocks_few function.blocks function refl

-- ---- ranges

abbrev pub InRange : Module → Function → Inst → Type 0
InRange module_ function inst = is_in_range module_ function inst ≡ true

pub insts_in_range : (module_ : Module) (function : Function) → out_of_range module_ function ≡ None → Every (InRange module_ function) (instructions function.blocks)
insts_in_range module_ function e =
    none_refused (is_in_range module_ function) 0 (instructions function.blocks)
    (or_none_right (at_first (all_parameters function.params && has_width function.ret)) _ e)

module _ (module_ : Module) (function : Function) where
  pub range_parts : (inst : Inst) → InRange module_ function inst
      → (has_width inst.gives ≡ true) × (all_have_widths (types_in inst.op) ≡ true)
      × (all_named module_ (values function) (places function.ret inst.gives inst.op) ≡ true)
      × (all_below (length function.blocks) (blocks_named inst.op) ≡ true) × (names_more module_ inst.op ≡ true)
  range_parts inst h =
      let a = and_both _ (names_more module_ inst.op) h in
      let b = and_both _ (all_below (length function.blocks) (blocks_named inst.op)) a.0 in
      let d = and_both _ (all_named module_ (values function) (places function.ret inst.gives inst.op)) b.0 in
      let f = and_both (has_width inst.gives) (all_have_widths (types_in inst.op)) d.0 in
      (f.0, f.1, d.1, b.1, a.1)

  below_at : (count : ℕ) (ns : List ℕ) (k : ℕ) → all_below count ns ≡ true → k < length ns → get_or ns k 0 < count
  below_at count [] k h less = absurd (omega arith)
  below_at count (n ∷ ns) zero h less = lt_is n count (and_both (nat_lt n count) (all_below count ns) h).0
  below_at count (n ∷ ns) (suc k) h less = below_at count ns k (and_both (nat_lt n count) (all_below count ns) h).1 (omega arith)

  named_targets : (count : ℕ) (op : Op) → all_below count (blocks_named op) ≡ true → all_below count (targets op) ≡ true
  named_targets count (Phi pairs) h = refl
  named_targets count _ h = h

  edges_below : (insts : List Inst) (found : Option Inst) (i : ℕ) → Every (InRange module_ function) insts → slice_get insts i ≡ found
      → all_below (length function.blocks) (targets_of_last found) ≡ true
  edges_below insts None i h e = refl
  edges_below insts (Some inst) i h e =
      named_targets (length function.blocks) inst.op (range_parts inst (every_at (InRange module_ function) insts i inst h e)).3

  pub targets_there : (blocks : List Block) → Every (InRange module_ function) (instructions blocks) → (b k : ℕ) → b < length (map edges blocks)
      → k < length (get_or (map edges blocks) b []) → get_or (get_or (map edges blocks) b []) k 0 < length function.blocks
  targets_there [] h b k less inner = absurd (omega arith)
  targets_there (block ∷ blocks) h zero k less inner =
      below_at (length function.blocks) (edges block) k
      (edges_below block.insts (slice_get block.insts (length block.insts - 1)) (length block.insts - 1) (every_left (InRange module_ function) block.insts (instructions blocks) h) refl) inner
  targets_there (block ∷ blocks) h (suc b) k less inner =
      targets_there blocks (every_right (InRange module_ function) block.insts (instructions blocks) h) b k (omega arith) inner

  -- ---- uses

  abbrev pub IsThere : Use → Type 0
  IsThere one = (one.block < length function.blocks) × (one.value < values function)

  use_there : (block before : ℕ) (ty : Ty) (operand : Operand) → block < length function.blocks → names_what_is module_ (values function) ty operand ≡ true
      → Every IsThere (use_of block before operand)
  use_there block before ty (Local number) below h = ((below, lt_is number (values function) h), tt)
  use_there block before ty _ below h = tt

  places_there : (block before : ℕ) (all : List (Ty × Operand)) → block < length function.blocks → all_named module_ (values function) all ≡ true
      → Every IsThere (uses_of_places block before all)
  places_there block before [] below h = tt
  places_there block before (one ∷ more) below h =
      let two = and_both (names_what_is module_ (values function) one.0 one.1) (all_named module_ (values function) more) h in
      every_both IsThere (use_of block before one.1) (uses_of_places block before more) (use_there block before one.0 one.1 below two.0) (places_there block before more below two.1)

  pairs_there : (firsts : List ℕ) (ty : Ty) (pairs : List (Operand × ℕ)) → all_named module_ (values function) (typed_pairs ty pairs) ≡ true
      → all_below (length function.blocks) (pair_blocks pairs) ≡ true → Every IsThere (uses_of_pairs firsts pairs)
  pairs_there firsts ty [] h g = tt
  pairs_there firsts ty (pair ∷ pairs) h g =
      let two = and_both (names_what_is module_ (values function) ty pair.0) (all_named module_ (values function) (typed_pairs ty pairs)) h in
      let below = and_both (nat_lt pair.1 (length function.blocks)) (all_below (length function.blocks) (pair_blocks pairs)) g in
      every_both IsThere (use_of pair.1 (get_or firsts (pair.1 + 1) 0) pair.0) (uses_of_pairs firsts pairs)
      (use_there pair.1 (get_or firsts (pair.1 + 1) 0) ty pair.0 (lt_is pair.1 (length function.blocks) below.0) two.0) (pairs_there firsts ty pairs two.1 below.1)

  op_there : (firsts : List ℕ) (block before : ℕ) (ty : Ty) (op : Op) → block < length function.blocks
      → all_named module_ (values function) (places function.ret ty op) ≡ true → all_below (length function.blocks) (blocks_named op) ≡ true
      → Every IsThere (uses_of firsts function.ret block before (record { gives = ty; op = op }))
  op_there firsts block before ty (Phi pairs) below h g = pairs_there firsts ty pairs h g
  op_there firsts block before ty op below h g = places_there block before (places function.ret ty op) below h

  block_there : (firsts : List ℕ) (block before : ℕ) (insts : List Inst) → block < length function.blocks → Every (InRange module_ function) insts
      → Every IsThere (uses_in_block firsts function.ret block before insts)
  block_there firsts block before [] below h = tt
  block_there firsts block before (inst ∷ insts) below h =
      let parts = range_parts inst h.0 in
      every_both IsThere (uses_of firsts function.ret block before inst) (uses_in_block firsts function.ret block (behind before inst) insts)
      (op_there firsts block before inst.gives inst.op below parts.2 parts.3) (block_there firsts block (behind before inst) insts below h.1)

  blocks_there : (firsts : List ℕ) (number : ℕ) (blocks : List Block) → number + length blocks ≡ length function.blocks → Every (InRange module_ function) (instructions blocks)
      → Every IsThere (uses_in_blocks firsts function.ret number blocks)
  blocks_there firsts number [] e h = tt
  blocks_there firsts number (block ∷ blocks) e h =
      every_both IsThere (uses_in_block firsts function.ret number (get_or firsts number 0) block.insts) (uses_in_blocks firsts function.ret (number + 1) blocks)
      (block_there firsts number (get_or firsts number 0) block.insts (omega arith) (every_left (InRange module_ function) block.insts (instructions blocks) h))
      (blocks_there firsts (number + 1) blocks (omega arith) (every_right (InRange module_ function) block.insts (instructions blocks) h))

-- ---- the numbers of first values

firsts_within : (next : ℕ) (blocks : List Block) (k : ℕ) (block : Block) → slice_get blocks k ≡ Some block
    → (get_or (first_values next blocks) k 0 ≤ next + results (instructions blocks)) × (length block.insts ≤ length (instructions blocks))
firsts_within next [] k block e = absurd (none_some block e)
firsts_within next (first ∷ blocks) zero block e =
    let same : first ≡ block = cc in
    (omega arith, rw (← same) (omega (arith, length-append first.insts (instructions blocks))))
firsts_within next (first ∷ blocks) (suc k) block e =
    let rest : (get_or (first_values (next + results first.insts) blocks) k 0 ≤ next + results first.insts + results (instructions blocks)) × (length block.insts ≤ length (instructions blocks)) =
    firsts_within (next + results first.insts) blocks k block e in
    let more : results (instructions (first ∷ blocks)) ≡ results first.insts + results (instructions blocks) = grind (arith, common_steps) in
    (omega (arith, rest.0, more), omega (arith, rest.1, length-append first.insts (instructions blocks)))

pub usable : (module_ : Module) (function : Function) → IsSmall function → HasFewBlocks function → out_of_range module_ function ≡ None → IsUsable function
usable module_ function small few range =
    let in_range = insts_in_range module_ function range in
    record {
      some = few.0;
      few = omega (arith, few.1);
      count = omega (arith, small.2);
      small = λ k block e. let h = firsts_within (length function.params) function.blocks k block e in omega (arith, h.0, h.1, small.1, small.2);
      has_targets = λ b k less inner. rw (length-map function.blocks edges) (targets_there module_ function function.blocks in_range b k less inner);
      has_values = λ i one e. every_at (IsThere module_ function) (uses function) i one (blocks_there module_ function (firsts_of function) 0 function.blocks (omega arith) in_range) e;
    }
