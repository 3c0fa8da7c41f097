-- The code of a function weighs at most what the function does, and so it refines the function.
use Rattle.std.proofs.Common.{◌≡◌, refl, sym, ap, subst, ℕ, zero, suc, ◌+◌, ◌*◌, ◌≤◌, Bool, true, false, List, [], ◌∷◌, ◌++◌, length, map, Some, arith}
use Rattle.std.specs.Prelude.{◌==◌, slice_get, drop, flat_map, sum_by, if◌then◌else◌}
use Rattle.std.proofs.lemmas.List.Sums.{sum_by-cons, sum_by-append}
use Rattle.std.proofs.lemmas.List.{length-map}
use Rattle.std.proofs.lemmas.Nat.{mul-le}
use Rattle.ir_core.specs.Program.{Program}
use Rattle.ir_core.specs.Units.{units, instructions, results, units_of_function, values as value_count}
use Rattle.ir_core.specs.declared.types.Ty.{Ty}
use Rattle.ir_core.specs.declared.code.Inst.{Inst}
use Rattle.ir_core.specs.declared.code.Block.{Block}
use Rattle.ir_core.specs.declared.program.Function.{Function}
use Rattle.ir_core.specs.declared.program.Global.{Global}
use Rattle.ir_flow.specs.Code.{edges, targets}
use Rattle.ir_meaning.specs.Meaning.{operands_of_phi, phi_operands_of}
use Rattle.ir_meaning.specs.Step.{function_at, insts_of, insts_at, number_at, phis}
use Rattle.ir_meaning.specs.Typed.{IsTypedFunction}
use Rattle.ir_verify.specs.Shapes.{times}
use Rattle.ir_verify.specs.Verdict.{IsChecked}
use Rattle.ir_verify.specs.Laws.{IsWellFormed}
use Rattle.ir_verify.proofs.Typing.{checked-typed}
use Rattle.ir_verify.proofs.WellFormed.{well_formed}
use Rattle.gmir.specs.declared.code.GType.{GType}
use Rattle.gmir.specs.declared.code.GOp.TheVariants as g
use Rattle.gmir.specs.declared.code.GInst.{GInst}
use Rattle.gmir.specs.declared.code.GFunction.{GFunction}
use Rattle.gmir.specs.Play.{weight, is_legal}
use Rattle.gmir.specs.Refines.{static_of_block, static_weight}
use Rattle.walks.specs.Bits.{free}
use Rattle.generic_code.specs.Literals.{plain, empty_pool}
use Rattle.generic_code.specs.Edges.{Edge, Ending, heads}
use Rattle.generic_code.specs.Whole.{Body, body_of as body_is, bodies, bodies_from, blocks_code, params_code, phis_code, phi_register, edges_to, is_jump, translated}
use Rattle.generic_code.proofs.Loads.{by_most}
use Rattle.generic_laws.specs.Laws.{TranslatedRefines}
use Rattle.generic_laws.proofs.Counts.{phis_total, operands_most, heads_operands, heads_on, heads_both, cross, heads_cross, bodies_count, cross_operands}
use Rattle.generic_laws.proofs.Weights.{weigh, weigh_both, weigh_is, weigh_all, weigh_all_both, insts_weigh}
use Rattle.generic_laws.proofs.Stands.{values_typed}
use Rattle.generic_laws.proofs.Blocks.{body_of, along, held}
use Rattle.generic_laws.proofs.Paths.{edges_are}
use Rattle.generic_laws.proofs.Plays.{jump_ends, block_ends, play_refines}

-- what stands behind weighs no more than all
drop_less : (n : ℕ) (insts : List Inst) → sum_by units (drop n insts) ≤ sum_by units insts
drop_less zero [] = omega arith
drop_less zero (x ∷ xs) = omega arith
drop_less (suc n) [] = omega arith
drop_less (suc n) (x ∷ xs) = let ih = drop_less n xs in let sum = sum_by-cons units x xs in omega (arith, ih, sum)

module _ (types' : List GType) where
  all_is : (blocks : List (List GInst)) → sum_by (static_of_block types') blocks ≡ weigh_all types' blocks
  all_is [] = refl
  all_is (b ∷ blocks) = let sum = sum_by-cons (static_of_block types') b blocks in let one = weigh_is types' b in let ih = all_is blocks in omega (arith, sum, one, ih)

  params_weigh : (place : ℕ) (tys : List Ty) → weigh types' (params_code place tys) ≤ 24 * length tys
  params_weigh place [] = omega arith
  params_weigh place (ty ∷ tys) =
      let light = by_most (is_legal types' (plain g.Param (place ∷ []) [] place)) 12 24 24 (omega arith) (omega arith) in
      let ih = params_weigh (place + 1) tys in
      omega (arith, light, ih)

  module _ (globals : List Global) (function : Function) where
    phis_weigh : (value place : ℕ) (es : List Edge) (insts : List Inst) → weigh types' (phis_code globals function value place es insts) ≤ 64 * phis_total (length es) insts
    phis_weigh value place es [] = omega arith
    phis_weigh value place es (inst ∷ insts) =
        let i : GInst = record { op = g.Phi; defs = value ∷ []; uses = map (phi_register globals function place) es; num = 0; to = map (λ (e : Edge). e.at) es } in
        let light : weight types' i ≤ 64 = by_most (is_legal types' i) 40 64 64 (omega arith) (omega arith) in
        let long : length i.uses ≡ length es = length-map es (phi_register globals function place) in
        let less : length i.uses * weight types' i ≤ length es * 64 = mul-le (length i.uses) (weight types' i) (length es) 64 (omega (arith, long)) light in
        let ih = phis_weigh (value + 1) (place + 1) es insts in
        omega (arith, less, ih)

    -- what the first block weighs more
    abbrev first_weight : Bool → ℕ
    first_weight b = if b then 24 * length function.params else 0

    first_weigh : (b : Bool) → weigh types' (if b then params_code 0 function.params else []) ≤ first_weight b
    first_weigh true = params_weigh 0 function.params
    first_weigh false = omega arith

    later_first : (n : ℕ) → first_weight (n + 1 == 0) ≡ 0
    later_first n = let e : (n + 1 == 0) ≡ false = grind arith in ap first_weight e

    abbrev Heavy : Ending → ℕ
    Heavy e = weigh types' e.code + weigh_all types' e.later

    -- all blocks
    total : (es : List Edge) (blocks : List Block) (from value next own : ℕ)
        → ((k : ℕ) (x : Block) (body : Body) → slice_get blocks k ≡ Some x → slice_get (bodies_from globals function from value next own blocks) k ≡ Some body
        → Heavy body.ending ≤ 256 * sum_by units x.insts + 28 * heads_on globals function body.ending.edges)
        → weigh_all types' (blocks_code globals function es from (bodies_from globals function from value next own blocks)) + weigh_all types' (flat_map (λ body. body.ending.later) (bodies_from globals function from value next own blocks))
        ≤ first_weight (from == 0) + (64 * cross globals function from blocks es + (256 * sum_by units (instructions blocks) + 28 * heads_on globals function (flat_map (λ body. body.ending.edges) (bodies_from globals function from value next own blocks))))
    total es [] from value next own h = omega arith
    total es (x ∷ blocks) from value next own h =
        let body = body_is globals function from value next own x.insts in
        let rest = bodies_from globals function (from + 1) (value + results x.insts) (next + length body.ending.types) (own + length body.ending.later) blocks in
        let ih = total es blocks (from + 1) (value + results x.insts) (next + length body.ending.types) (own + length body.ending.later) (λ k y b e e'. h (suc k) y b e e') in
        let no_more = later_first from in
        let one = h 0 x body refl refl in
        let first = first_weigh (from == 0) in
        let heads_code = phis_code globals function body.value 0 (edges_to globals function from es) body.heads in
        let middle = phis_weigh body.value 0 (edges_to globals function from es) (phis x.insts) in
        let both = weigh_both types' (if from == 0 then params_code 0 function.params else []) (heads_code ++ body.ending.code) in
        let both' = weigh_both types' heads_code body.ending.code in
        let later = weigh_all_both types' body.ending.later (flat_map (λ body. body.ending.later) rest) in
        let sum = sum_by-append units x.insts (instructions blocks) in
        let ends = heads_both globals function body.ending.edges (flat_map (λ body. body.ending.edges) rest) in
        omega (arith, ih, no_more, one, first, middle, both, both', later, sum, ends)

module _ (program : Program) (checked : IsChecked program) (symbol : ℕ) (function : Function) (there : function_at program symbol ≡ Some function) where
  abbrev gl : List Global
  gl = program.module_.globals

  abbrev f : GFunction
  f = translated program symbol function

  abbrev all : List Body
  all = bodies program.module_.globals function

  abbrev es : List Edge
  es = flat_map (λ body. body.ending.edges) (bodies program.module_.globals function)

  well : IsTypedFunction program function
  well = (checked-typed program checked).typed symbol function there

  formed : IsWellFormed program.module_ function
  formed = (well_formed program checked).2 symbol function there

  body_heavy : (k : ℕ) (x : Block) (body : Body) → slice_get function.blocks k ≡ Some x → slice_get all k ≡ Some body → weigh f.types body.ending.code + weigh_all f.types body.ending.later ≤ 256 * sum_by units x.insts + 28 * heads_on gl function body.ending.edges
  body_heavy k x body at e =
      let b = body_of program checked symbol function there k body e in
      let p = b.at in
      let insts_is : insts_at function k ≡ x.insts = ap insts_of at in
      let low = insts_weigh program (checked-typed program checked) function f (values_typed program symbol function there ((checked-typed program checked).typed symbol function there)) k (drop (length (heads gl function k)) (insts_at function k)) (number_at function k (length (heads gl function k)))
      (empty_pool p.next) p.own (λ r. free) (held program checked symbol function there k p) (along program checked symbol function there k) p.stands.types in
      let less = drop_less (length (heads gl function k)) (insts_at function k) in
      let same : sum_by units (insts_at function k) ≡ sum_by units x.insts = ap (sum_by units) insts_is in
      subst (λ (z : Body). weigh f.types z.ending.code + weigh_all f.types z.ending.later ≤ 256 * sum_by units x.insts + 28 * heads_on gl function z.ending.edges) b.same
      (subst (λ (z : Ending). weigh f.types z.code + weigh_all f.types z.later ≤ 256 * sum_by units x.insts + 28 * heads_on gl function z.edges) (sym p.ending_is) (omega (arith, low, less, same)))

  jumps_few : (b : ℕ) (k : ℕ) (x : Block) → slice_get function.blocks k ≡ Some x → (i : ℕ) (inst : Inst) → slice_get x.insts i ≡ Some inst → is_jump inst.op ≡ true → times b (targets inst.op) ≤ times b (edges x)
  jumps_few b k x at i inst e j =
      let same : times b (edges x) ≡ times b (targets inst.op) = ap (times b) (edges_are x i inst (block_ends program checked symbol function there k x at) e (jump_ends inst.op j)) in
      omega (arith, same)

  block_operands : (b : ℕ) (x : Block) → slice_get function.blocks b ≡ Some x → phis_total (length (edges_to gl function b es)) (phis x.insts) ≤ sum_by (λ (inst : Inst). operands_of_phi inst.op) x.insts
  block_operands b x at =
      heads_operands (length (edges_to gl function b es)) x.insts (λ i inst pairs e is.
      let few = bodies_count gl function b function.blocks 0 (length function.params) (value_count function) (length function.blocks) (jumps_few b) in
      let most = operands_most b function.blocks pairs (formed.phis b x i inst pairs at e is).0 in
      omega (arith, few, most))

  static_less : static_weight f ≤ 256 * (units_of_function function + phi_operands_of function)
  static_less =
      let front = blocks_code gl function es 0 all in
      let further = flat_map (λ body. body.ending.later) all in
      let is = all_is f.types (front ++ further) in
      let both = weigh_all_both f.types front further in
      let most = total f.types gl function es function.blocks 0 (length function.params) (value_count function) (length function.blocks) body_heavy in
      let edge_wise = heads_cross gl function es in
      let operands = cross_operands gl function 0 function.blocks es (λ j x e. subst (λ (n : ℕ). phis_total (length (edges_to gl function n es)) (phis x.insts) ≤ sum_by (λ (inst : Inst). operands_of_phi inst.op) x.insts) (let z : j ≡ 0 + j = omega arith in z) (block_operands j x e)) in
      let eight = formed.small.0 in
      omega (arith, is, both, most, edge_wise, operands, eight)

pub translated_refines : TranslatedRefines
translated_refines program symbol function checked there = record {
  symbol = refl;
  values = refl;
  end' = refl;
  static = static_less program checked symbol function there;
  play = play_refines program checked symbol function there;
}
