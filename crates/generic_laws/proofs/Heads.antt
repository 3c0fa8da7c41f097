-- Phis and parameters have their forms, and so has each instruction of the code of a function.
use Rattle.std.proofs.Common.{◌≡◌, refl, sym, ap, subst, ◌∙◌, ℕ, zero, suc, ◌+◌, ◌≤◌, Bool, true, false, List, [], ◌∷◌, ◌++◌, length, map, Some, arith}
use Rattle.std.specs.Prelude.{slice_get, slice_index_or, drop, flat_map, ◌==◌, if◌then◌else◌}
use Rattle.std.proofs.lemmas.List.{length-map}
use Rattle.ir_core.specs.Program.{Program}
use Rattle.ir_core.specs.Units.{instructions}
use Rattle.ir_core.specs.declared.types.Ty.{Ty}
use Rattle.ir_core.specs.declared.code.Inst.{Inst}
use Rattle.ir_core.specs.declared.program.Function.{Function}
use Rattle.ir_core.specs.declared.program.Global.{Global}
use Rattle.ir_meaning.specs.Step.{function_at, insts_at, number_at}
use Rattle.ir_meaning.specs.Typed.{types, result_types, IsTypedFunction}
use Rattle.ir_meaning.proofs.Numbering.{number-type}
use Rattle.ir_verify.proofs.Lists.{Every, every_both, every_at, every_map}
use Rattle.ir_verify.specs.Verdict.{IsChecked}
use Rattle.ir_verify.proofs.Typing.{checked-typed}
use Rattle.ir_verify.proofs.WellFormed.{well_formed}
use Rattle.gmir.specs.declared.code.GType.{GType}
use Rattle.gmir.specs.declared.code.GInst.{GInst}
use Rattle.gmir.specs.declared.code.GFunction.{GFunction}
use Rattle.gmir.specs.Play as play
use Rattle.gmir.specs.Formed as formed
use Rattle.walks.specs.Bits.{free}
use Rattle.generic_code.specs.Literals.{type_of, empty_pool}
use Rattle.generic_code.specs.Edges.{Edge, Ending, heads, phi_operand}
use Rattle.generic_code.specs.Whole.{Body, bodies, params_code, phis_code, phi_register, blocks_code, edges_to, translated}
use Rattle.generic_code.proofs.Loads.{ValuesTyped}
use Rattle.generic_code.proofs.Computes.{some_value}
use Rattle.generic_code.proofs.Flow.{number_next}
use Rattle.generic_code.proofs.Arrivals.{HeadsAt, heads_at}
use Rattle.generic_laws.specs.Laws.{TranslatedHasForms}
use Rattle.generic_laws.proofs.Lists.{get_left, get_below}
use Rattle.generic_laws.proofs.Typing.{AllHave}
use Rattle.generic_laws.proofs.Forms.{Good}
use Rattle.generic_laws.proofs.Formal.{AllGood, AllUses, UsesHave, insts_good}
use Rattle.generic_laws.proofs.Stands.{values_typed}
use Rattle.generic_laws.proofs.Blocks.{body_of, along, held, every_flat, every_index}

module _ (program : Program) (checked : IsChecked program) (symbol : ℕ) (function : Function) (there : function_at program symbol ≡ Some function) where
  abbrev gl : List Global
  gl = program.module_.globals

  abbrev f : GFunction
  f = translated program symbol function

  abbrev well : IsTypedFunction program function
  well = (checked-typed program checked).typed symbol function there

  abbrev typed : ValuesTyped program (translated program symbol function) (types function) []
  typed = values_typed program symbol function there ((checked-typed program checked).typed symbol function there)

  abbrev G : GInst → Type 0
  G i = Good (translated program symbol function) i

  abbrev Has : ℕ → Ty → Type 0
  Has r ty = slice_get (translated program symbol function).types r ≡ Some (type_of ty)

  few : (callee : ℕ) (called : Function) → function_at program callee ≡ Some called → length called.params ≤ 8
  few callee called e = ((well_formed program checked).2 callee called e).small.0

  -- ---- parameters

  params_good : (tys : List Ty) (place : ℕ) → place + length tys ≤ 8 → ((k : ℕ) (ty : Ty) → slice_get tys k ≡ Some ty → Has (place + k) ty) → Every G (params_code place tys)
  params_good [] place low h = tt
  params_good (ty ∷ tys) place low h =
      let has : Has place ty = subst (λ (n : ℕ). Has n ty) (let z : place + 0 ≡ place = omega arith in z) (h 0 ty refl) in (
        record { form = (place, type_of ty, record { defs = refl; type = has; uses = refl }, omega (arith, low)); defs = (get_below f.types place (type_of ty) has, tt); uses = tt },
        params_good tys (place + 1) (omega (arith, low)) (λ k t e. subst (λ (n : ℕ). Has n t) (let z : place + suc k ≡ place + 1 + k = omega arith in z) (h (suc k) t e)),
      )

  own_params : Every G (params_code 0 function.params)
  own_params =
      let eight = few symbol function there in
      params_good function.params 0 (omega (arith, eight)) (λ k ty e. subst (λ (n : ℕ). Has n ty) (let z : k ≡ 0 + k = omega arith in z) (typed k ty (get_left function.params (result_types (instructions function.blocks)) k ty e)))

  -- ---- phis

  -- an operand among those of an edge
  use_has : (from : ℕ) (insts : List Inst) (rs : List ℕ) (k : ℕ) (inst : Inst) → AllHave program function f typed (map (λ (inst : Inst). (inst.gives, phi_operand from inst.op)) insts) rs → slice_get insts k ≡ Some inst → Has (slice_index_or rs k 0) inst.gives
  use_has from [] rs k inst h e = absurd (let bad : ⊥ = cc in bad)
  use_has from (x ∷ insts) [] k inst h e = absurd h
  use_has from (x ∷ insts) (r ∷ rs) zero inst h e = let same : x ≡ inst = cc in subst (λ (i : Inst). Has r i.gives) same h.0
  use_has from (x ∷ insts) (r ∷ rs) (suc k) inst h e = use_has from insts rs k inst h.1 e

  -- an edge to a block, whose phis' registers have their types
  abbrev Comes : ℕ → Edge → Type 0
  Comes to e = (e.to ≡ to) × ((k : ℕ) (inst : Inst) → slice_get (heads program.module_.globals function to) k ≡ Some inst → Has (slice_index_or e.uses k 0) inst.gives)

  abbrev Offers : Edge → Type 0
  Offers e = (k : ℕ) (inst : Inst) → slice_get (heads program.module_.globals function e.to) k ≡ Some inst → Has (slice_index_or e.uses k 0) inst.gives

  those_to : (to : ℕ) (es : List Edge) → Every Offers es → Every (Comes to) (edges_to gl function to es)
  those_to to [] h = tt
  those_to to (e ∷ es) h = by_test (e.to == to) refl (those_to to es h.1)
    where
      by_test : (b : Bool) → (e.to == to) ≡ b → Every (Comes to) (edges_to gl function to es) → Every (Comes to) (if b then e ∷ edges_to gl function to es else edges_to gl function to es)
      by_test false t rest = rest
      by_test true t rest =
          let same : e.to ≡ to = grind (arith, t) in
          ((same, subst (λ (n : ℕ). (k : ℕ) (inst : Inst) → slice_get (heads gl function n) k ≡ Some inst → Has (slice_index_or e.uses k 0) inst.gives) same h.0), rest)

  uses_have : (to place : ℕ) (inst : Inst) (es : List Edge) → slice_get (heads gl function to) place ≡ Some inst → Every (Comes to) es → formed.AllHave f (type_of inst.gives) (map (phi_register gl function place) es)
  uses_have to place inst [] at h = tt
  uses_have to place inst (e ∷ es) at h = (h.0.1 place inst at, uses_have to place inst es at h.1)

  uses_exist : (ty : GType) (rs : List ℕ) → formed.AllHave f ty rs → formed.AllExist f rs
  uses_exist ty [] h = tt
  uses_exist ty (r ∷ rs) h = (get_below f.types r ty h.0, uses_exist ty rs h.1)

  phis_good : (to : ℕ) (es : List Edge) → Every (Comes to) es → (insts : List Inst) (place : ℕ) → HeadsAt program function well 0 to place insts
      → ((k : ℕ) (inst : Inst) → slice_get insts k ≡ Some inst → slice_get (heads gl function to) (place + k) ≡ Some inst) → Every G (phis_code gl function (number_at function to place) place es insts)
  phis_good to es h [] place at all = tt
  phis_good to es h (inst ∷ insts) place at all =
      let gives = (some_value inst.gives at.0.value_type).1 in
      let has : Has (number_at function to place) inst.gives = typed (number_at function to place) inst.gives (number-type function to place inst at.0.at gives) in
      let here : slice_get (heads gl function to) place ≡ Some inst = ap (slice_get (heads gl function to)) (let z : place ≡ place + 0 = omega arith in z) ∙ all 0 inst refl in
      let have = uses_have to place inst es here h in
      let next : number_at function to place + 1 ≡ number_at function to (place + 1) = ap (λ (b : Bool). if b then number_at function to place + 1 else number_at function to place) (sym gives) ∙ number_next function to place inst at.0.at in
      let long : length (map (λ (e : Edge). e.at) es) ≡ length (map (phi_register gl function place) es) = length-map es (λ (e : Edge). e.at) ∙ sym (length-map es (phi_register gl function place)) in (
        record {
          form = (number_at function to place, type_of inst.gives, record { defs = refl; type = has; uses = refl }, have, long);
          defs = (get_below f.types (number_at function to place) (type_of inst.gives) has, tt);
          uses = uses_exist (type_of inst.gives) (map (phi_register gl function place) es) have;
        },
        subst (λ (n : ℕ). Every G (phis_code gl function n (place + 1) es insts)) (sym next)
            (phis_good to es h insts (place + 1) at.1 (λ k x e. ap (slice_get (heads gl function to)) (let z : place + 1 + k ≡ place + suc k = omega arith in z) ∙ all (suc k) x e)),
      )

  -- ---- all blocks

  abbrev es : List Edge
  es = flat_map (λ body. body.ending.edges) (bodies program.module_.globals function)

  body_good : (k : ℕ) (body : Body) → slice_get (bodies gl function) k ≡ Some body → AllGood program (checked-typed program checked) few function f typed body.ending × AllUses program (checked-typed program checked) few function f typed k body.ending.edges
  body_good k body e =
      let b = body_of program checked symbol function there k body e in
      let p = b.at in
      subst (λ (x : Body). AllGood program (checked-typed program checked) few function f typed x.ending × AllUses program (checked-typed program checked) few function f typed k x.ending.edges) b.same
      (subst (λ (z : Ending). AllGood program (checked-typed program checked) few function f typed z × AllUses program (checked-typed program checked) few function f typed k z.edges) (sym p.ending_is)
      (insts_good program (checked-typed program checked) few function f typed well k (drop (length (heads gl function k)) (insts_at function k)) (number_at function k (length (heads gl function k))) (empty_pool p.next) p.own (λ r. free)
      (held program checked symbol function there k p) (along program checked symbol function there k) p.stands.types))

  offered : Every Offers es
  offered =
      every_flat Offers (λ (body : Body). body.ending.edges) (bodies gl function)
      (λ k body e. every_map (λ (x : Edge). UsesHave program (checked-typed program checked) few function f typed k x) Offers body.ending.edges (λ x h place inst at. use_has k (heads gl function x.to) x.uses place inst h at) (body_good k body e).1)

  block_phis : (k : ℕ) (body : Body) → slice_get (bodies gl function) k ≡ Some body → Every G (phis_code gl function body.value 0 (edges_to gl function k es) body.heads)
  block_phis k body e =
      let b = body_of program checked symbol function there k body e in
      let p = b.at in
      subst (λ (x : Body). Every G (phis_code gl function x.value 0 (edges_to gl function k es) x.heads)) b.same
      (subst (λ (n : ℕ). Every G (phis_code gl function n 0 (edges_to gl function k es) p.body.heads)) (sym p.value_is)
      (subst (λ (hs : List Inst). Every G (phis_code gl function (number_at function k 0) 0 (edges_to gl function k es) hs)) (sym p.heads_are)
      (phis_good k (edges_to gl function k es) (those_to k es offered) (heads gl function k) 0 (heads_at program function well 0 k) (λ j inst at. ap (slice_get (heads gl function k)) (let z : 0 + j ≡ j = omega arith in z) ∙ at))))

  first_good : (t : Bool) → Every G (if t then params_code 0 function.params else [])
  first_good true = own_params
  first_good false = tt

  each_block : (number : ℕ) (all : List Body) → ((k : ℕ) (body : Body) → slice_get all k ≡ Some body → Every G (phis_code gl function body.value 0 (edges_to gl function (number + k) es) body.heads) × Every G body.ending.code) → Every (Every G) (blocks_code gl function es number all)
  each_block number [] h = tt
  each_block number (body ∷ all) h =
      let first = h 0 body refl in
      let phis_are : Every G (phis_code gl function body.value 0 (edges_to gl function number es) body.heads) =
      subst (λ (n : ℕ). Every G (phis_code gl function body.value 0 (edges_to gl function n es) body.heads)) (let z : number + 0 ≡ number = omega arith in z) first.0 in (
        every_both G (if number == 0 then params_code 0 function.params else []) (phis_code gl function body.value 0 (edges_to gl function number es) body.heads ++ body.ending.code) (first_good (number == 0))
            (every_both G (phis_code gl function body.value 0 (edges_to gl function number es) body.heads) body.ending.code phis_are first.1),
        each_block (number + 1) all (λ k x e. let r = h (suc k) x e in
            (subst (λ (n : ℕ). Every G (phis_code gl function x.value 0 (edges_to gl function n es) x.heads)) (let z : number + suc k ≡ number + 1 + k = omega arith in z) r.0, r.1)),
      )

  all_good : Every (Every G) f.blocks
  all_good =
      every_both (Every G) (blocks_code gl function es 0 (bodies gl function)) (flat_map (λ body. body.ending.later) (bodies gl function))
      (each_block 0 (bodies gl function) (λ k body e. (subst (λ (n : ℕ). Every G (phis_code gl function body.value 0 (edges_to gl function n es) body.heads)) (let z : k ≡ 0 + k = omega arith in z) (block_phis k body e), (body_good k body e).0.0)))
      (every_flat (Every G) (λ (body : Body). body.ending.later) (bodies gl function) (λ k body e. (body_good k body e).0.1))

  pub forms : (block k : ℕ) (i : GInst) → slice_get (play.insts_at f block) k ≡ Some i → formed.HasForm f i i.op × formed.AllExist f i.defs × formed.AllExist f i.uses
  forms block k i at = let good = every_at G (play.insts_at f block) k i (every_index G f.blocks block all_good) at in (good.form, good.defs, good.uses)

pub translated_has_forms : TranslatedHasForms
translated_has_forms program symbol function checked there = forms program checked symbol function there
