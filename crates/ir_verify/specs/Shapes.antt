-- The shape of blocks, and edges to the entry.
use Rattle.std.specs.Prelude.{ℕ, zero, suc, ◌+◌, Bool, true, false, ◌&&◌, ◌||◌, ◌==◌, not, nat_lt, List, [], ◌∷◌, length, map, count_by, Option, Some, None, if◌then◌else◌}
use Rattle.std.specs.List.{list_any, list_all}
use Rattle.ir_core.specs.declared.code.Op.{Op}
use Rattle.ir_core.specs.declared.code.Op.TheVariants.{Switch}
use Rattle.ir_core.specs.declared.code.Inst.{Inst}
use Rattle.ir_core.specs.declared.code.Block.{Block}
use Rattle.ir_core.specs.declared.program.Function.{Function}
use Rattle.ir_flow.specs.Code.{is_terminator, is_phi, is_alloca, edges}
use Rattle.ir_flow.specs.First.{first_refused}

-- there is a terminator, and the first one is the last instruction
abbrev pub ends_once : List Inst → Bool
ends_once [] = false
ends_once (inst ∷ insts) = if is_terminator inst.op then length insts == 0 else ends_once insts

-- no phi stands after an instruction that isn't one
abbrev pub has_no_phi : List Inst → Bool
has_no_phi [] = true
has_no_phi (inst ∷ insts) = not (is_phi inst.op) && has_no_phi insts

abbrev pub has_phis_first : List Inst → Bool
has_phis_first [] = true
has_phis_first (inst ∷ insts) = if is_phi inst.op then has_phis_first insts else has_no_phi insts

abbrev pub has_no_alloca : List Inst → Bool
has_no_alloca [] = true
has_no_alloca (inst ∷ insts) = not (is_alloca inst.op) && has_no_alloca insts

-- no number stands twice
abbrev pub is_among : ℕ → List ℕ → Bool
is_among n [] = false
is_among n (m ∷ ms) = n == m || is_among n ms

abbrev pub are_distinct : List ℕ → Bool
are_distinct [] = true
are_distinct (n ∷ ns) = not (is_among n ns) && are_distinct ns

-- each number is below the next
abbrev pub is_below_first : ℕ → List ℕ → Bool
is_below_first n [] = true
is_below_first n (m ∷ ms) = nat_lt n m

abbrev pub is_rising : List ℕ → Bool
is_rising [] = true
is_rising (n ∷ ns) = is_below_first n ns && is_rising ns

abbrev pub has_distinct_cases : Op → Bool
has_distinct_cases (Switch of a otherwise cases) = are_distinct (map (λ one. one.0) cases)
has_distinct_cases _ = true

abbrev pub all_cases_distinct : List Inst → Bool
all_cases_distinct [] = true
all_cases_distinct (inst ∷ insts) = has_distinct_cases inst.op && all_cases_distinct insts

-- phis stand first and not in the entry, an alloca only there
abbrev pub fits_number : ℕ → List Inst → Bool
fits_number zero insts = has_no_phi insts
fits_number (suc n) insts = has_phis_first insts && has_no_alloca insts

abbrev pub is_shaped : ℕ → Block → Bool
is_shaped number block = ends_once block.insts && fits_number number block.insts && all_cases_distinct block.insts

-- the first of these blocks that is misshapen
abbrev pub first_misshapen : ℕ → List Block → Option ℕ
first_misshapen number [] = None
first_misshapen number (block ∷ blocks) = if is_shaped number block then first_misshapen (number + 1) blocks else Some number

-- the block that a function shows; block 0 where there is none
abbrev pub misshapen : Function → Option ℕ
misshapen function = in_blocks function.blocks
  where
    in_blocks : List Block → Option ℕ
    in_blocks [] = Some 0
    in_blocks (block ∷ blocks) = first_misshapen 0 (block ∷ blocks)

-- how often a number stands in a list
abbrev pub times : ℕ → List ℕ → ℕ
times n ns = count_by (λ m. m == n) ns

-- the first block that jumps to the entry
abbrev pub jumps_to_entry : Function → Option ℕ
jumps_to_entry function = first_refused (λ (block : Block). times 0 (edges block) == 0) 0 function.blocks
