-- What holds of each block of the code of a function.
use Rattle.std.proofs.Common.{◌≡◌, refl, sym, ap, subst, ◌∙◌, ℕ, zero, suc, ◌+◌, Bool, true, false, List, [], ◌∷◌, ◌++◌, length, map, Some, arith}
use Rattle.std.specs.Prelude.{slice_get, slice_index_or, drop, flat_map, ◌==◌, if◌then◌else◌}
use Rattle.ir_core.specs.Program.{Program}
use Rattle.ir_core.specs.Units.{values as value_count}
use Rattle.ir_core.specs.declared.types.Ty.{Ty}
use Rattle.ir_core.specs.declared.code.Inst.{Inst}
use Rattle.ir_core.specs.declared.code.Block.{Block}
use Rattle.ir_core.specs.declared.program.Function.{Function}
use Rattle.ir_core.specs.declared.program.Global.{Global}
use Rattle.ir_meaning.specs.Step.{function_at, insts_at, number_at}
use Rattle.ir_meaning.specs.Typed.{types, IsTyped, IsTypedFunction}
use Rattle.ir_verify.proofs.Lists.{Every, every_both, every_at}
use Rattle.ir_verify.specs.Verdict.{IsChecked}
use Rattle.ir_verify.proofs.Typing.{checked-typed}
use Rattle.gmir.specs.declared.code.GOp.TheVariants as g
use Rattle.gmir.specs.declared.code.GInst.{GInst}
use Rattle.gmir.specs.declared.code.GFunction.{GFunction}
use Rattle.gmir.specs.Play as play
use Rattle.walks.specs.Bits.{free}
use Rattle.legal_code.specs.Legal.{HasWideAddresses}
use Rattle.generic_code.specs.Literals.{plain, empty_pool}
use Rattle.generic_code.specs.Edges.{Edge, heads}
use Rattle.generic_code.specs.Whole.{Body, bodies, bodies_from, blocks_code, params_code, phis_code, phi_register, edges_to, translated}
use Rattle.generic_code.proofs.Loads.{Known, known_empty}
use Rattle.generic_laws.specs.Laws.{TranslatedHasWideAddresses}
use Rattle.generic_laws.proofs.Lists.{get_some, get_below}
use Rattle.generic_laws.proofs.Stands.{Placed, placed, values_typed, all_edges}
use Rattle.generic_laws.proofs.Along.{Along, along_at}
use Rattle.generic_laws.proofs.Wide.{TakesWide, AllWide, insts_wide}

-- ---- lists

pub every_by : {A : Type 0} (P : A → Type 0) (xs : List A) → ((k : ℕ) (x : A) → slice_get xs k ≡ Some x → P x) → Every P xs
every_by P [] h = tt
every_by P (x ∷ xs) h = (h 0 x refl, every_by P xs (λ k y e. h (suc k) y e))

pub every_flat : {A B : Type 0} (P : B → Type 0) (g : A → List B) (xs : List A) → ((k : ℕ) (x : A) → slice_get xs k ≡ Some x → Every P (g x)) → Every P (flat_map g xs)
every_flat P g [] h = tt
every_flat P g (x ∷ xs) h = every_both P (g x) (flat_map g xs) (h 0 x refl) (every_flat P g xs (λ k y e. h (suc k) y e))

pub every_index : (P : GInst → Type 0) (xs : List (List GInst)) (k : ℕ) → Every (Every P) xs → Every P (slice_index_or xs k [])
every_index P [] k h = tt
every_index P (x ∷ xs) zero h = h.0
every_index P (x ∷ xs) (suc k) h = every_index P xs k h.1

bodies_long : (globals : List Global) (function : Function) (blocks : List Block) (from value next own : ℕ) → length (bodies_from globals function from value next own blocks) ≡ length blocks
bodies_long globals function [] from value next own = refl
bodies_long globals function (x ∷ blocks) from value next own = ap suc (bodies_long globals function blocks (from + 1) _ _ _)

same_some : {A : Type 0} (x y : A) → Some x ≡ Some y → x ≡ y
same_some x y e = cc

module _ (program : Program) (checked : IsChecked program) (symbol : ℕ) (function : Function) (there : function_at program symbol ≡ Some function) where
  abbrev pub all_typed : IsTyped program
  all_typed = checked-typed program checked

  abbrev pub well : IsTypedFunction program function
  well = (checked-typed program checked).typed symbol function there

  abbrev gl : List Global
  gl = program.module_.globals

  abbrev pub f : GFunction
  f = translated program symbol function

  abbrev pub At : ℕ → Type 0
  At = Placed program symbol function there ((checked-typed program checked).typed symbol function there)

  -- where a body stands
  pub record BodyOf (k : ℕ) (body : Body) : Type 0 where
    pub block : Block
    pub there' : slice_get function.blocks k ≡ Some block
    pub at : At k
    pub same : at.body ≡ body

  pub body_of : (k : ℕ) (body : Body) → slice_get (bodies program.module_.globals function) k ≡ Some body → BodyOf k body
  body_of k body e =
      let low = get_below (bodies program.module_.globals function) k body e in
      let long = bodies_long gl function function.blocks 0 (length function.params) (value_count function) (length function.blocks) in
      let x = get_some function.blocks k (omega (arith, low, long)) in
      let p = placed program symbol function there well k x.0 x.1 in
      record { block = x.0; there' = x.1; at = p; same = same_some p.body body (sym p.get ∙ e) }

  -- the instructions behind the phis of a block
  pub along : (block : ℕ) → Along program function f (values_typed program symbol function there well) (number_at function block (length (heads gl function block))) (drop (length (heads gl function block)) (insts_at function block))
  along block = along_at program function f (values_typed program symbol function there well) well (drop (length (heads gl function block)) (insts_at function block)) block (length (heads gl function block)) refl

  -- where a block begins no literal is held
  pub held : (block : ℕ) (p : At block) → Known f (types function) (empty_pool p.next) (λ x. free)
  held block p = known_empty f (types function) p.next (λ x. free) p.low

  -- ---- what holds of all code

  module _ (P : GInst → Type 0) (param : (place number : ℕ) → P (plain g.Param (place ∷ []) [] number))
      (phi : (value place : ℕ) (edges : List Edge) → P (record { op = g.Phi; defs = value ∷ []; uses = map (phi_register gl function place) edges; num = 0; to = map (λ edge. edge.at) edges })) where
    each_param : (place : ℕ) (tys : List Ty) → Every P (params_code place tys)
    each_param place [] = tt
    each_param place (ty ∷ tys) = (param place place, each_param (place + 1) tys)

    each_phi : (value place : ℕ) (edges : List Edge) (insts : List Inst) → Every P (phis_code gl function value place edges insts)
    each_phi value place edges [] = tt
    each_phi value place edges (inst ∷ insts) = (phi value place edges, each_phi (value + 1) (place + 1) edges insts)

    each_first : (t : Bool) → Every P (if t then params_code 0 function.params else [])
    each_first true = each_param 0 function.params
    each_first false = tt

    each_block : (edges : List Edge) (number : ℕ) (all : List Body) → ((k : ℕ) (body : Body) → slice_get all k ≡ Some body → Every P body.ending.code) → Every (Every P) (blocks_code gl function edges number all)
    each_block edges number [] h = tt
    each_block edges number (body ∷ all) h = (
      every_both P (if number == 0 then params_code 0 function.params else []) (phis_code gl function body.value 0 (edges_to gl function number edges) body.heads ++ body.ending.code) (each_first (number == 0))
          (every_both P (phis_code gl function body.value 0 (edges_to gl function number edges) body.heads) body.ending.code (each_phi body.value 0 (edges_to gl function number edges) body.heads) (h 0 body refl)),
      each_block edges (number + 1) all (λ k x e. h (suc k) x e),
    )

    pub each_code : ((k : ℕ) (body : Body) → slice_get (bodies gl function) k ≡ Some body → Every P body.ending.code × Every (Every P) body.ending.later) → Every (Every P) f.blocks
    each_code h =
        every_both (Every P) (blocks_code gl function (all_edges program symbol function there well) 0 (bodies gl function)) (flat_map (λ body. body.ending.later) (bodies gl function))
        (each_block (all_edges program symbol function there well) 0 (bodies gl function) (λ k body e. (h k body e).0)) (every_flat (Every P) (λ (body : Body). body.ending.later) (bodies gl function) (λ k body e. (h k body e).1))

  -- ---- addresses

  abbrev Wide : GInst → Type 0
  Wide = TakesWide program (checked-typed program checked) function (translated program symbol function) (values_typed program symbol function there ((checked-typed program checked).typed symbol function there))

  body_wide : (k : ℕ) (body : Body) → slice_get (bodies gl function) k ≡ Some body → Every Wide body.ending.code × Every (Every Wide) body.ending.later
  body_wide k body e =
      let b = body_of k body e in
      let p = b.at in
      subst (λ (x : Body). Every Wide x.ending.code × Every (Every Wide) x.ending.later) b.same
      (subst (AllWide program all_typed function f (values_typed program symbol function there well)) (sym p.ending_is)
      (insts_wide program all_typed function f (values_typed program symbol function there well) (drop (length (heads gl function k)) (insts_at function k)) k (number_at function k (length (heads gl function k))) (empty_pool p.next) p.own (λ x. free)
      (held k p) (along k) p.stands.types))

  all_wide : Every (Every Wide) f.blocks
  all_wide = each_code Wide (λ place number is a uses. absurd (let bad : ⊥ = cc in bad)) (λ value place edges is a uses. absurd (let bad : ⊥ = cc in bad)) body_wide

  pub wide : HasWideAddresses f
  wide block k a i at is uses = every_at Wide (play.insts_at f block) k i (every_index Wide f.blocks block all_wide) at is a uses

pub translated_has_wide_addresses : TranslatedHasWideAddresses
translated_has_wide_addresses program symbol function checked there = wide program checked symbol function there
