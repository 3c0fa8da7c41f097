-- Parameters stand first in the first block, and phis first in the others.
use Rattle.std.proofs.Common.{◌≡◌, refl, sym, ap, subst, ◌∙◌, ℕ, zero, suc, ◌+◌, ◌<◌, ◌≤◌, ◌⊎◌, inl, inr, Bool, true, false, List, [], ◌∷◌, ◌++◌, length, Option, Some, arith}
use Rattle.std.specs.Prelude.{slice_get, slice_index_or, drop, flat_map, ◌==◌, ◌&&◌, if◌then◌else◌}
use Rattle.std.proofs.lemmas.Bool.{and_parts, cases_lt}
use Rattle.ir_core.specs.Program.{Program}
use Rattle.ir_core.specs.declared.types.Ty.{Ty}
use Rattle.ir_core.specs.declared.code.Inst.{Inst}
use Rattle.ir_core.specs.declared.code.Block.{Block}
use Rattle.ir_core.specs.declared.program.Function.{Function}
use Rattle.ir_core.specs.declared.program.Global.{Global}
use Rattle.ir_meaning.specs.Step.{function_at, insts_of, insts_at, number_at, phis}
use Rattle.ir_verify.specs.Shapes.{ends_once, fits_number, all_cases_distinct}
use Rattle.ir_verify.specs.Verdict.{IsChecked}
use Rattle.ir_verify.specs.Laws.{IsWellFormed}
use Rattle.ir_verify.proofs.Lists.{Every, every_both, every_at, every_map}
use Rattle.ir_verify.proofs.WellFormed.{well_formed}
use Rattle.gmir.specs.declared.code.GOp.{GOp}
use Rattle.gmir.specs.declared.code.GOp.TheVariants as g
use Rattle.gmir.specs.declared.code.GInst.{GInst}
use Rattle.gmir.specs.declared.code.GFunction.{GFunction}
use Rattle.gmir.specs.Play as play
use Rattle.gmir.specs.Play.{is_phi}
use Rattle.gmir.specs.Formed.{is_param}
use Rattle.generic_code.specs.Literals.{empty_pool}
use Rattle.generic_code.specs.Edges.{Edge, Ending, heads}
use Rattle.generic_code.specs.Whole.{Body, bodies, params_code, phis_code, blocks_code, edges_to, translated}
use Rattle.generic_laws.specs.Laws.{HeadsFirst, TranslatedHeadsFirst}
use Rattle.generic_laws.proofs.Lists.{get_some, get_left, get_index}
use Rattle.generic_laws.proofs.Philess.{ordinary, each_insts}
use Rattle.generic_laws.proofs.Plays.{no_heads}
use Rattle.generic_laws.proofs.Blocks.{body_of, every_flat}

-- an instruction that is neither a phi nor a parameter
abbrev pub IsMiddle : GInst → Type 0
IsMiddle i = (is_phi i.op ≡ false) × (is_param i.op ≡ false)

middle : (i : GInst) → ordinary i.op ≡ true → IsMiddle i
middle i e = by_op i.op e
  where
    by_op : (o : GOp) → ordinary o ≡ true → (is_phi o ≡ false) × (is_param o ≡ false)
    by_op g.Phi e = absurd (let bad : ⊥ = cc in bad)
    by_op g.Param e = absurd (let bad : ⊥ = cc in bad)
    by_op o e = (refl, refl)

-- ---- code of which a first part passes a test, and no other instruction does

module _ (a : GInst → Bool) where
  abbrev pub Starts : List GInst → Type 0
  Starts code = (xs : List GInst) × (ys : List GInst) × (code ≡ xs ++ ys) × Every (λ (i : GInst). a i ≡ true) xs × Every (λ (i : GInst). a i ≡ false) ys

  none_here : (ys : List GInst) (before : List GInst) (i : GInst) (behind : List GInst) → Every (λ (i : GInst). a i ≡ false) ys → ys ≡ before ++ i ∷ behind → a i ≡ true → ⊥
  none_here [] [] i behind h e t = let bad : ⊥ = cc in bad
  none_here [] (b ∷ before) i behind h e t = let bad : ⊥ = cc in bad
  none_here (y ∷ ys) [] i behind h e t = let same : y ≡ i = cc in let bad : false ≡ true = sym h.0 ∙ ap a same ∙ t in let no_way : ⊥ = cc in no_way
  none_here (y ∷ ys) (b ∷ before) i behind h e t = none_here ys before i behind h.1 (let z : ys ≡ before ++ i ∷ behind = cc in z) t

  before_passes : (xs ys : List GInst) (before : List GInst) (i : GInst) (behind : List GInst) → Every (λ (i : GInst). a i ≡ true) xs → Every (λ (i : GInst). a i ≡ false) ys → xs ++ ys ≡ before ++ i ∷ behind → a i ≡ true
      → Every (λ (i : GInst). a i ≡ true) before
  before_passes xs ys [] i behind h h' e t = tt
  before_passes [] ys (b ∷ before) i behind h h' e t = absurd (none_here ys (b ∷ before) i behind h' e t)
  before_passes (x ∷ xs) ys (b ∷ before) i behind h h' e t =
      let same : x ≡ b = cc in (ap a (sym same) ∙ h.0, before_passes xs ys before i behind h.1 h' (let z : xs ++ ys ≡ before ++ i ∷ behind = cc in z) t)

  pub starts_before : (code : List GInst) → Starts code → (before : List GInst) (i : GInst) (behind : List GInst) → code ≡ before ++ i ∷ behind → a i ≡ true → (other : GInst) (k : ℕ) → slice_get before k ≡ Some other → a other ≡ true
  starts_before code (xs, ys, is, h, h') before i behind e t other k at = every_at (λ (i : GInst). a i ≡ true) before k other (before_passes xs ys before i behind h h' (sym is ∙ e) t) at

module _ (program : Program) (checked : IsChecked program) (symbol : ℕ) (function : Function) (there : function_at program symbol ≡ Some function) where
  abbrev gl : List Global
  gl = program.module_.globals

  abbrev f : GFunction
  f = translated program symbol function

  formed : IsWellFormed program.module_ function
  formed = (well_formed program checked).2 symbol function there

  abbrev es : List Edge
  es = flat_map (λ body. body.ending.edges) (bodies program.module_.globals function)

  pub body_middle : (k : ℕ) (body : Body) → slice_get (bodies gl function) k ≡ Some body → Every IsMiddle body.ending.code × Every (Every IsMiddle) body.ending.later
  body_middle k body e =
      let b = body_of program checked symbol function there k body e in
      let p = b.at in
      subst (λ (x : Body). Every IsMiddle x.ending.code × Every (Every IsMiddle) x.ending.later) b.same
      (subst (λ (z : Ending). Every IsMiddle z.code × Every (Every IsMiddle) z.later) (sym p.ending_is)
      (each_insts gl IsMiddle middle function k (λ d r. (refl, refl)) (λ d num. (refl, refl)) (number_at function k (length (heads gl function k))) (empty_pool p.next) p.own (drop (length (heads gl function k)) (insts_at function k))))

  -- the first block has no phi
  pub no_first : (body : Body) → slice_get (bodies gl function) 0 ≡ Some body → body.heads ≡ []
  no_first body e =
      let b = body_of program checked symbol function there 0 body e in
      let p = b.at in
      let outer = and_parts (ends_once b.block.insts && fits_number 0 b.block.insts) (all_cases_distinct b.block.insts) (formed.shaped 0 b.block b.there') in
      let shape = (and_parts (ends_once b.block.insts) (fits_number 0 b.block.insts) outer.0).1 in
      ap (λ (x : Body). x.heads) (sym b.same) ∙ p.heads_are ∙ ap (λ (o : Option Block). phis (insts_of o)) b.there' ∙ no_heads b.block.insts shape

  -- ---- the parts of a block

  abbrev phi_test : GInst → Bool
  phi_test i = is_phi i.op

  abbrev param_test : GInst → Bool
  param_test i = is_param i.op

  -- the first block starts with its parameters and has no phi, others start with their phis and have no parameter
  abbrev Heads : ℕ → List GInst → Type 0
  Heads block code = ((block ≡ 0) × Starts param_test code × Every (λ (i : GInst). is_phi i.op ≡ false) code) ⊎ ((1 ≤ block) × Starts phi_test code × Every (λ (i : GInst). is_param i.op ≡ false) code)

  params_are : (place : ℕ) (tys : List Ty) → Every (λ (i : GInst). is_param i.op ≡ true) (params_code place tys) × Every (λ (i : GInst). is_phi i.op ≡ false) (params_code place tys)
  params_are place [] = (tt, tt)
  params_are place (ty ∷ tys) = let ih = params_are (place + 1) tys in ((refl, ih.0), (refl, ih.1))

  phis_are : (value place : ℕ) (all : List Edge) (insts : List Inst) → Every (λ (i : GInst). is_phi i.op ≡ true) (phis_code gl function value place all insts) × Every (λ (i : GInst). is_param i.op ≡ false) (phis_code gl function value place all insts)
  phis_are value place all [] = (tt, tt)
  phis_are value place all (inst ∷ insts) = let ih = phis_are (value + 1) (place + 1) all insts in ((refl, ih.0), (refl, ih.1))

  no_phis : (code : List GInst) → Every IsMiddle code → Every (λ (i : GInst). is_phi i.op ≡ false) code
  no_phis code h = every_map IsMiddle (λ (i : GInst). is_phi i.op ≡ false) code (λ i m. m.0) h

  no_params : (code : List GInst) → Every IsMiddle code → Every (λ (i : GInst). is_param i.op ≡ false) code
  no_params code h = every_map IsMiddle (λ (i : GInst). is_param i.op ≡ false) code (λ i m. m.1) h

  block_heads : (number : ℕ) (body : Body) → Every IsMiddle body.ending.code → (number ≡ 0 → body.heads ≡ [])
      → Heads number ((if number == 0 then params_code 0 function.params else []) ++ (phis_code gl function body.value 0 (edges_to gl function number es) body.heads ++ body.ending.code))
  block_heads zero body h none =
      let params = params_are 0 function.params in
      subst (λ (hs : List Inst). Heads 0 (params_code 0 function.params ++ (phis_code gl function body.value 0 (edges_to gl function 0 es) hs ++ body.ending.code))) (sym (none refl))
      (inl (refl, (params_code 0 function.params, body.ending.code, refl, params.0, no_params body.ending.code h), every_both (λ (i : GInst). is_phi i.op ≡ false) (params_code 0 function.params) body.ending.code params.1 (no_phis body.ending.code h)))
  block_heads (suc n) body h none =
      let later : (suc n == 0) ≡ false = grind arith in
      let heads_code = phis_code gl function body.value 0 (edges_to gl function (suc n) es) body.heads in
      let are = phis_are body.value 0 (edges_to gl function (suc n) es) body.heads in
      subst (λ (t : Bool). Heads (suc n) ((if t then params_code 0 function.params else []) ++ (heads_code ++ body.ending.code))) (sym later)
      (inr (omega arith, (heads_code, body.ending.code, refl, are.0, no_phis body.ending.code h), every_both (λ (i : GInst). is_param i.op ≡ false) heads_code body.ending.code are.1 (no_params body.ending.code h)))

  abbrev HeadsFrom : ℕ → List (List GInst) → Type 0
  HeadsFrom number blocks = (k : ℕ) (code : List GInst) → slice_get blocks k ≡ Some code → Heads (number + k) code

  blocks_heads : (number : ℕ) (all : List Body) → ((k : ℕ) (body : Body) → slice_get all k ≡ Some body → Every IsMiddle body.ending.code × (number + k ≡ 0 → body.heads ≡ [])) → HeadsFrom number (blocks_code gl function es number all)
  blocks_heads number [] h k code e = absurd (let bad : ⊥ = cc in bad)
  blocks_heads number (body ∷ all) h zero code e =
      let one = h 0 body refl in
      let same : number ≡ number + 0 = omega arith in
      let here = block_heads number body one.0 (λ z. one.1 (omega (arith, z))) in
      let is : (if number == 0 then params_code 0 function.params else []) ++ (phis_code gl function body.value 0 (edges_to gl function number es) body.heads ++ body.ending.code) ≡ code = cc in
      subst (λ (n : ℕ). Heads n code) same (subst (Heads number) is here)
  blocks_heads number (body ∷ all) h (suc k) code e =
      subst (λ (n : ℕ). Heads n code) (let z : number + 1 + k ≡ number + suc k = omega arith in z)
      (blocks_heads (number + 1) all (λ j x at. let r = h (suc j) x at in (r.0, λ z. r.1 (omega (arith, z)))) k code e)

  abbrev front : List (List GInst)
  front = blocks_code program.module_.globals function es 0 (bodies program.module_.globals function)

  abbrev further : List (List GInst)
  further = flat_map (λ body. body.ending.later) (bodies program.module_.globals function)

  front_heads : HeadsFrom 0 front
  front_heads = blocks_heads 0 (bodies gl function) (λ k body e. ((body_middle k body e).0, (λ z. first_by k body z e)))
    where
      first_by : (k : ℕ) (body : Body) → 0 + k ≡ 0 → slice_get (bodies gl function) k ≡ Some body → body.heads ≡ []
      first_by zero body z e = no_first body e
      first_by (suc k) body z e = absurd (let bad : ⊥ = omega (arith, z) in bad)

  further_middle : Every (Every IsMiddle) further
  further_middle = every_flat (Every IsMiddle) (λ (body : Body). body.ending.later) (bodies gl function) (λ k body e. (body_middle k body e).1)

  index_past : (xs ys : List (List GInst)) (k : ℕ) → length xs ≤ k → Every (Every IsMiddle) ys → Every IsMiddle (slice_index_or (xs ++ ys) k [])
  index_past [] [] k l h = tt
  index_past [] (y ∷ ys) zero l h = h.0
  index_past [] (y ∷ ys) (suc k) l h = index_past [] ys k (omega arith) h.1
  index_past (x ∷ xs) ys zero l h = absurd (let bad : ⊥ = omega (arith, l) in bad)
  index_past (x ∷ xs) ys (suc k) l h = index_past xs ys k (omega (arith, l)) h

  -- a block of the function, or a further one
  by_block : (block : ℕ) → Heads block (play.insts_at f block) ⊎ Every IsMiddle (play.insts_at f block)
  by_block block = by_place (cases_lt block (length front))
    where
      by_place : (block < length front) ⊎ (length front ≤ block) → Heads block (play.insts_at f block) ⊎ Every IsMiddle (play.insts_at f block)
      by_place (inl l) =
          let x = get_some front block l in
          let is : play.insts_at f block ≡ x.0 = get_index (front ++ further) block x.0 [] (get_left front further block x.0 x.1) in
          let here : Heads block x.0 = subst (λ (n : ℕ). Heads n x.0) (let z : 0 + block ≡ block = omega arith in z) (front_heads block x.0 x.1) in
          inl (subst (Heads block) (sym is) here)
      by_place (inr l) = inr (index_past front further block l further_middle)

  abbrev Before : (GInst → Bool) → List GInst → Type 0
  Before a before = (other : GInst) (k : ℕ) → slice_get before k ≡ Some other → a other ≡ true

  params_first : (block : ℕ) (before : List GInst) (i : GInst) (behind : List GInst) → play.insts_at f block ≡ before ++ i ∷ behind → is_param i.op ≡ true → (block ≡ 0) × Before param_test before
  params_first block before i behind e t = by_kind (by_block block)
    where
      by_kind : Heads block (play.insts_at f block) ⊎ Every IsMiddle (play.insts_at f block) → (block ≡ 0) × Before param_test before
      by_kind (inl (inl (zero_is, starts, none))) = (zero_is, starts_before param_test (play.insts_at f block) starts before i behind e t)
      by_kind (inl (inr (later, starts, none))) = absurd (none_here param_test (play.insts_at f block) before i behind none e t)
      by_kind (inr all) = absurd (none_here param_test (play.insts_at f block) before i behind (no_params (play.insts_at f block) all) e t)

  phis_first : (block : ℕ) (before : List GInst) (i : GInst) (behind : List GInst) → play.insts_at f block ≡ before ++ i ∷ behind → is_phi i.op ≡ true → (1 ≤ block) × Before phi_test before
  phis_first block before i behind e t = by_kind (by_block block)
    where
      by_kind : Heads block (play.insts_at f block) ⊎ Every IsMiddle (play.insts_at f block) → (1 ≤ block) × Before phi_test before
      by_kind (inl (inl (zero_is, starts, none))) = absurd (none_here phi_test (play.insts_at f block) before i behind none e t)
      by_kind (inl (inr (later, starts, none))) = (later, starts_before phi_test (play.insts_at f block) starts before i behind e t)
      by_kind (inr all) = absurd (none_here phi_test (play.insts_at f block) before i behind (no_phis (play.insts_at f block) all) e t)

  pub heads_first : HeadsFirst f
  heads_first = record { params = λ block before i behind l e t. params_first block before i behind e t; phis = λ block before i behind l e t. phis_first block before i behind e t }

pub translated_heads_first : TranslatedHeadsFirst
translated_heads_first program symbol function checked there = heads_first program checked symbol function there
