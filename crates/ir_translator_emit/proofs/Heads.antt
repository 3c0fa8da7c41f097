-- The phis of blocks, as they stand in a table.
use Rattle.std.proofs.Common.{◌≡◌, refl, ap, ap₂, ◌∙◌, ℕ, zero, suc, ◌<◌, ◌≤◌, List, [], ◌∷◌, length, map, get_or, arith}
use Rattle.std.specs.Prelude.{slice_get, ◌==◌}
use Rattle.std.proofs.lemmas.List.{length-map}
use Rattle.ir_core.specs.declared.types.Ty.{Ty}
use Rattle.ir_core.specs.declared.code.Operand.{Operand}
use Rattle.ir_core.specs.declared.code.Op.{Op}
use Rattle.ir_core.specs.declared.code.Op.TheVariants.{Phi}
use Rattle.ir_core.specs.declared.code.Inst.{Inst}
use Rattle.ir_core.specs.declared.code.Block.{Block}
use Rattle.ir_core.specs.declared.program.Function.{Function}
use Rattle.ir_core.specs.declared.program.Global.{Global}
use Rattle.ir_meaning.specs.Step.{insts_at, insts_of, on_edge, phis}
use Rattle.generic_code.specs.Edges.{phi_operand, edge_operands, no_phis}
use Rattle.ir_translator_emit.specs.Written.{Head, pairs_of, head_of, heads_of, reads_on, HasFewPhis}

operand_is : (from : ℕ) (op : Op) → on_edge from (pairs_of op) ≡ phi_operand from op
operand_is from (Phi pairs) = refl
operand_is from _ = refl

reads_are : (from : ℕ) (insts : List Inst) → reads_on from (map head_of insts) ≡ map (λ (inst : Inst). (inst.gives, phi_operand from inst.op)) insts
reads_are from [] = refl
reads_are from (inst ∷ insts) = ap₂ (λ (o : Operand) (rest : List (Ty × Operand)). (inst.gives, o) ∷ rest) (operand_is from inst.op) (reads_are from insts)

row_at : (blocks : List Block) (to : ℕ) (d : List Head) → to < length blocks → get_or (map (λ (block : Block). map head_of (phis block.insts)) blocks) to d ≡ map head_of (phis (insts_of (slice_get blocks to)))
row_at [] to d lt = absurd (let bad : ⊥ = omega (arith, lt) in bad)
row_at (block ∷ blocks) zero d lt = refl
row_at (block ∷ blocks) (suc to) d lt = row_at blocks to d (omega (arith, lt))

-- what stands in the table for a block
pub row_is : (function : Function) (table : List (List Head)) (row : List Head) (to : ℕ) → table ≡ heads_of function → to < length function.blocks → row ≡ get_or table to row → row ≡ map head_of (phis (insts_at function to))
row_is function table row to e lt is = is ∙ ap (λ (t : List (List Head)). get_or t to row) e ∙ row_at function.blocks to row lt

pub edge_reads : (globals : List Global) (function : Function) (from to : ℕ) (row : List Head) → row ≡ map head_of (phis (insts_at function to)) → reads_on from row ≡ edge_operands globals function from to
edge_reads globals function from to row e = ap (reads_on from) e ∙ reads_are from (phis (insts_at function to))

pub none_in : (globals : List Global) (function : Function) (to n : ℕ) (row : List Head) → row ≡ map head_of (phis (insts_at function to)) → n ≡ length row → (n == 0) ≡ no_phis globals function to
none_in globals function to n row e is = ap (λ (k : ℕ). k == 0) (is ∙ ap (λ (r : List Head). length r) e ∙ length-map (phis (insts_at function to)) head_of)

pub row_below : (function : Function) (table : List (List Head)) (to : ℕ) → table ≡ heads_of function → to < length function.blocks → to < length table
row_below function table to e lt =
    let many = length-map function.blocks (λ (block : Block). map head_of (phis block.insts)) in
    let same = ap (λ (t : List (List Head)). length t) e in
    omega (arith, many, same, lt)

-- an edge reads few operands
pub few_reads : (globals : List Global) (function : Function) (from to : ℕ) → HasFewPhis function → length (edge_operands globals function from to) ≤ 16384
few_reads globals function from to few =
    let same = length-map {B = Ty × Operand} (phis (insts_at function to)) (λ (inst : Inst). (inst.gives, phi_operand from inst.op)) in
    let most = few to in
    omega (arith, same, most)
