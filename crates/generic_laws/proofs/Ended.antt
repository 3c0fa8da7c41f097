-- Each block of the code of a function has one terminator, at its end, and jumps to blocks that are there, and never to the first.
use Rattle.std.proofs.Common.{◌≡◌, refl, sym, ap, subst, ◌∙◌, ℕ, zero, suc, ◌+◌, ◌<◌, ◌≤◌, Bool, true, false, List, [], ◌∷◌, ◌++◌, length, Option, Some, arith}
use Rattle.std.specs.Prelude.{slice_get, slice_index_or, drop, flat_map, ◌==◌, ◌&&◌, not, if◌then◌else◌}
use Rattle.std.proofs.lemmas.Bool.{and_parts}
use Rattle.ir_core.specs.Program.{Program}
use Rattle.ir_core.specs.declared.types.Ty.{Ty}
use Rattle.ir_core.specs.declared.code.Op.{Op}
use Rattle.ir_core.specs.declared.code.Op.TheVariants.{Br, CondBr, Switch}
use Rattle.ir_core.specs.declared.code.Inst.{Inst}
use Rattle.ir_core.specs.declared.code.Block.{Block}
use Rattle.ir_core.specs.declared.program.Function.{Function}
use Rattle.ir_core.specs.declared.program.Global.{Global}
use Rattle.ir_flow.specs.Code.{targets as op_targets, case_blocks, is_phi}
use Rattle.ir_meaning.specs.Step.{function_at, insts_of, insts_at, number_at, phis}
use Rattle.ir_meaning.specs.Typed.{IsOp, IsTypedFunction, AreCases}
use Rattle.ir_verify.specs.Shapes.{times, ends_once, fits_number, has_no_phi, has_phis_first, has_no_alloca, all_cases_distinct}
use Rattle.ir_verify.specs.Verdict.{IsChecked}
use Rattle.ir_verify.specs.Laws.{IsWellFormed}
use Rattle.ir_verify.proofs.Lists.{Every, every_both, every_at}
use Rattle.ir_verify.proofs.Typing.{checked-typed}
use Rattle.ir_verify.proofs.WellFormed.{well_formed}
use Rattle.gmir.specs.declared.code.GInst.{GInst}
use Rattle.gmir.specs.declared.code.GFunction.{GFunction}
use Rattle.gmir.specs.Play as play
use Rattle.gmir.specs.Formed.{is_end, targets}
use Rattle.generic_code.specs.Literals.{empty_pool}
use Rattle.generic_code.specs.Edges.{Edge, Ending, heads}
use Rattle.generic_code.specs.Whole.{Body, bodies, params_code, phis_code, blocks_code, edges_to, is_jump, translated}
use Rattle.generic_laws.specs.Laws.{TranslatedEndsBlocks}
use Rattle.generic_laws.proofs.Lists.{get_some}
use Rattle.generic_laws.proofs.Stands.{placed}
use Rattle.generic_laws.proofs.Counts.{get_drop}
use Rattle.generic_laws.proofs.Paths.{edges_are, stands_nowhere}
use Rattle.generic_laws.proofs.Plays.{jump_ends, block_ends}
use Rattle.generic_laws.proofs.Blocks.{body_of, each_code, every_flat, every_index}
use Rattle.generic_laws.proofs.Places.{Ends, NoEnd, ends_behind, ends_there, ends_some, phis_over, phis_gone, insts_end}
use Rattle.generic_laws.proofs.Arrows.{Arrives, insts_arrive}

none_gone : (insts : List Inst) → has_no_phi insts ≡ true → has_phis_first insts ≡ true
none_gone [] h = refl
none_gone (inst ∷ insts) h =
    let parts = and_parts (not (is_phi inst.op)) (has_no_phi insts) h in by_test (is_phi inst.op) parts.0 parts.1
  where
    by_test : (b : Bool) → not b ≡ true → has_no_phi insts ≡ true → (if b then has_phis_first insts else has_no_phi insts) ≡ true
    by_test true e e' = absurd (let bad : ⊥ = cc in bad)
    by_test false e e' = e'

fits_phis : (number : ℕ) (insts : List Inst) → fits_number number insts ≡ true → has_phis_first insts ≡ true
fits_phis zero insts h = none_gone insts h
fits_phis (suc n) insts h = (and_parts (has_phis_first insts) (has_no_alloca insts) h).0

module _ (program : Program) (checked : IsChecked program) (symbol : ℕ) (function : Function) (there : function_at program symbol ≡ Some function) where
  abbrev gl : List Global
  gl = program.module_.globals

  abbrev f : GFunction
  f = translated program symbol function

  well : IsTypedFunction program function
  well = (checked-typed program checked).typed symbol function there

  formed : IsWellFormed program.module_ function
  formed = (well_formed program checked).2 symbol function there

  -- the instructions behind the phis of a block
  pub behind_shape : (k : ℕ) (x : Block) → slice_get function.blocks k ≡ Some x → (ends_once (drop (length (heads gl function k)) (insts_at function k)) ≡ true) × (has_no_phi (drop (length (heads gl function k)) (insts_at function k)) ≡ true)
  behind_shape k x e =
      let outer = and_parts (ends_once x.insts && fits_number k x.insts) (all_cases_distinct x.insts) (formed.shaped k x e) in
      let parts = and_parts (ends_once x.insts) (fits_number k x.insts) outer.0 in
      subst (λ (is : List Inst). (ends_once (drop (length (phis is)) is) ≡ true) × (has_no_phi (drop (length (phis is)) is) ≡ true)) (sym (let z : insts_at function k ≡ x.insts = ap insts_of e in z))
      (phis_over x.insts parts.0, phis_gone x.insts (fits_phis k x.insts parts.1))

  -- ---- ends

  body_ends : (k : ℕ) (body : Body) → slice_get (bodies gl function) k ≡ Some body → Ends body.ending.code × Every Ends body.ending.later
  body_ends k body e =
      let b = body_of program checked symbol function there k body e in
      let p = b.at in
      let shape = behind_shape k b.block b.there' in
      subst (λ (x : Body). Ends x.ending.code × Every Ends x.ending.later) b.same
      (subst (λ (z : Ending). Ends z.code × Every Ends z.later) (sym p.ending_is)
      (insts_end gl function k (drop (length (heads gl function k)) (insts_at function k)) (number_at function k (length (heads gl function k))) (empty_pool p.next) p.own shape.0 shape.1))

  params_no_end : (place : ℕ) (tys : List Ty) → Every NoEnd (params_code place tys)
  params_no_end place [] = tt
  params_no_end place (ty ∷ tys) = (refl, params_no_end (place + 1) tys)

  first_no_end : (t : Bool) → Every NoEnd (if t then params_code 0 function.params else [])
  first_no_end true = params_no_end 0 function.params
  first_no_end false = tt

  phis_no_end : (value place : ℕ) (es : List Edge) (insts : List Inst) → Every NoEnd (phis_code gl function value place es insts)
  phis_no_end value place es [] = tt
  phis_no_end value place es (inst ∷ insts) = (refl, phis_no_end (value + 1) (place + 1) es insts)

  abbrev es : List Edge
  es = flat_map (λ body. body.ending.edges) (bodies program.module_.globals function)

  blocks_end : (number : ℕ) (all : List Body) → ((k : ℕ) (body : Body) → slice_get all k ≡ Some body → Ends body.ending.code) → Every Ends (blocks_code gl function es number all)
  blocks_end number [] h = tt
  blocks_end number (body ∷ all) h = (
    ends_behind (if number == 0 then params_code 0 function.params else []) (phis_code gl function body.value 0 (edges_to gl function number es) body.heads ++ body.ending.code) (first_no_end (number == 0))
        (ends_behind (phis_code gl function body.value 0 (edges_to gl function number es) body.heads) body.ending.code (phis_no_end body.value 0 (edges_to gl function number es) body.heads) (h 0 body refl)),
    blocks_end (number + 1) all (λ k x e. h (suc k) x e),
  )

  all_end : Every Ends f.blocks
  all_end =
      every_both Ends (blocks_code gl function es 0 (bodies gl function)) (flat_map (λ body. body.ending.later) (bodies gl function))
      (blocks_end 0 (bodies gl function) (λ k body e. (body_ends k body e).0)) (every_flat Ends (λ (body : Body). body.ending.later) (bodies gl function) (λ k body e. (body_ends k body e).1))

  every_there : (P : List GInst → Type 0) (blocks : List (List GInst)) (k : ℕ) → Every P blocks → k < length blocks → P (slice_index_or blocks k [])
  every_there P [] k h l = absurd (let bad : ⊥ = omega (arith, l) in bad)
  every_there P (x ∷ xs) zero h l = h.0
  every_there P (x ∷ xs) (suc k) h l = every_there P xs k h.1 (omega (arith, l))

  -- ---- jumps

  -- a block of the code that isn't the first
  abbrev Inside : ℕ → Type 0
  Inside to = (1 ≤ to) × (to < length (translated program symbol function).blocks)

  later_block : (to bound : ℕ) → (to ≡ 0 → ⊥) → to < length function.blocks → length function.blocks ≤ bound → (1 ≤ to) × (to < bound)
  later_block zero bound h l l' = absurd (h refl)
  later_block (suc to) bound h l l' = (omega arith, omega (arith, l, l'))

  cases_inside : (of : Ty) (bound : ℕ) → length function.blocks ≤ bound → (cases : List (ℕ × ℕ)) → AreCases (length function.blocks) of cases → times 0 (case_blocks cases) ≡ 0 → Every (λ (to : ℕ). (1 ≤ to) × (to < bound)) (case_blocks cases)
  cases_inside of bound l [] are none = tt
  cases_inside of bound l (one ∷ cases) are none = let two = stands_nowhere 0 one.1 (case_blocks cases) none in (later_block one.1 bound two.0 are.1 l, cases_inside of bound l cases are.2 two.1)

  op_inside : (ty : Ty) (op : Op) (bound : ℕ) → length function.blocks ≤ bound → IsOp program function ty op → is_jump op ≡ true → times 0 (op_targets op) ≡ 0 → Every (λ (to : ℕ). (1 ≤ to) × (to < bound)) (op_targets op)
  op_inside ty (Br to) bound l is j none = (later_block to bound (stands_nowhere 0 to [] none).0 is.1 l, tt)
  op_inside ty (CondBr c a b) bound l is j none = let one = stands_nowhere 0 a (b ∷ []) none in (later_block a bound one.0 is.2 l, (later_block b bound (stands_nowhere 0 b [] one.1).0 is.3 l, tt))
  op_inside ty (Switch of a otherwise cases) bound l is j none = let one = stands_nowhere 0 otherwise (case_blocks cases) none in (later_block otherwise bound one.0 is.3 l, cases_inside of bound l cases is.4 one.1)
  op_inside ty op bound l is j none = absurd (let bad : ⊥ = cc in bad)

  body_arrives : (k : ℕ) (body : Body) → slice_get (bodies gl function) k ≡ Some body → Every (Arrives gl function Inside) body.ending.code × Every (Every (Arrives gl function Inside)) body.ending.later
  body_arrives k body e =
      let b = body_of program checked symbol function there k body e in
      let p = b.at in
      let above = p.above in
      let room = p.room in
      let some = formed.blocks.0 in
      subst (λ (x : Body). Every (Arrives gl function Inside) x.ending.code × Every (Every (Arrives gl function Inside)) x.ending.later) b.same
      (subst (λ (z : Ending). Every (Arrives gl function Inside) z.code × Every (Every (Arrives gl function Inside)) z.later) (sym p.ending_is)
      (insts_arrive gl function Inside k (drop (length (heads gl function k)) (insts_at function k)) (number_at function k (length (heads gl function k))) (empty_pool p.next) p.own
      (λ i inst at j.
      let here = get_drop (length (heads gl function k)) (insts_at function k) i inst at in
      let in_block : slice_get b.block.insts (length (heads gl function k) + i) ≡ Some inst = ap (λ (o : Option Block). slice_get (insts_of o) (length (heads gl function k) + i)) (sym b.there') ∙ here in
      op_inside inst.gives inst.op (length f.blocks) (omega (arith, above, room)) (well.insts k (length (heads gl function k) + i) inst here) j
      (ap (times 0) (sym (edges_are b.block (length (heads gl function k) + i) inst (block_ends program checked symbol function there k b.block b.there') in_block (jump_ends inst.op j))) ∙ formed.entry k b.block b.there'))
      (λ to l l'. (omega (arith, l, above, some), omega (arith, l', room)))))

  all_arrive : Every (Every (Arrives gl function Inside)) f.blocks
  all_arrive = each_code program checked symbol function there (Arrives gl function Inside) (λ place number. tt) (λ value place edges. tt) body_arrives

  get_inside : (to k : ℕ) (tos : List ℕ) → Every Inside tos → slice_get tos k ≡ Some to → Inside to
  get_inside to k tos h e = every_at Inside tos k to h e

  at_length : (before : List GInst) (i : GInst) (is : List GInst) → slice_get (before ++ i ∷ is) (length before) ≡ Some i
  at_length [] i is = refl
  at_length (x ∷ xs) i is = at_length xs i is

  pub filled : (block : ℕ) → block < length f.blocks → 1 ≤ length (play.insts_at f block)
  filled block l = ends_some (play.insts_at f block) (every_there Ends f.blocks block all_end l)

  pub ends : (block : ℕ) (before : List GInst) (i : GInst) (behind : List GInst) → block < length f.blocks → play.insts_at f block ≡ before ++ i ∷ behind → is_end i.op ≡ (length behind == 0)
  ends block before i behind l e = ends_there before i behind (subst Ends e (every_there Ends f.blocks block all_end l))

  pub targets_inside : (block : ℕ) (before : List GInst) (i : GInst) (behind : List GInst) → play.insts_at f block ≡ before ++ i ∷ behind → (k to : ℕ) → slice_get (targets i) k ≡ Some to → (1 ≤ to) × (to < length f.blocks)
  targets_inside block before i behind e k to at =
      get_inside to k (targets i) (every_at (Arrives gl function Inside) (play.insts_at f block) (length before) i (every_index (Arrives gl function Inside) f.blocks block all_arrive) (ap (λ (is : List GInst). slice_get is (length before)) e ∙ at_length before i behind)) at

  pub some_block : 1 ≤ length f.blocks
  some_block =
      let first = get_some function.blocks 0 formed.blocks.0 in
      let p = placed program symbol function there well 0 first.0 first.1 in
      let above = p.above in let room = p.room in let some = formed.blocks.0 in omega (arith, above, room, some)

pub translated_ends_blocks : TranslatedEndsBlocks
translated_ends_blocks program symbol function checked there = record {
  some = some_block program checked symbol function there;
  filled = filled program checked symbol function there;
  ends = ends program checked symbol function there;
  targets' = λ block before i behind l e. targets_inside program checked symbol function there block before i behind e;
}
