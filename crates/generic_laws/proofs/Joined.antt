-- A phi of the code names once each block that jumps to its block, and no other.
use Rattle.std.proofs.Common.{◌≡◌, refl, sym, ap, subst, ◌∙◌, ℕ, zero, suc, ◌+◌, ◌≤◌, ◌⊎◌, inl, inr, Bool, true, false, cond, List, [], ◌∷◌, ◌++◌, length, map, Some, arith}
use Rattle.std.specs.Prelude.{slice_get, slice_index_or, drop, flat_map, ◌==◌, if◌then◌else◌}
use Rattle.std.proofs.lemmas.List.Sums.{sum_by-cons}
use Rattle.ir_core.specs.Program.{Program}
use Rattle.ir_core.specs.Units.{results, values as value_count}
use Rattle.ir_core.specs.declared.types.Ty.{Ty}
use Rattle.ir_core.specs.declared.code.Inst.{Inst}
use Rattle.ir_core.specs.declared.code.Block.{Block}
use Rattle.ir_core.specs.declared.program.Function.{Function}
use Rattle.ir_core.specs.declared.program.Global.{Global}
use Rattle.ir_meaning.specs.Step.{function_at, insts_at, number_at, phis}
use Rattle.ir_verify.specs.Verdict.{IsChecked}
use Rattle.ir_verify.proofs.Lists.{Every, every_both, every_at, every_map}
use Rattle.gmir.specs.declared.code.GInst.{GInst}
use Rattle.gmir.specs.declared.code.GFunction.{GFunction}
use Rattle.gmir.specs.Play as play
use Rattle.gmir.specs.Play.{is_phi}
use Rattle.gmir.specs.Formed.{targets, edges, times}
use Rattle.generic_code.specs.Literals.{empty_pool}
use Rattle.generic_code.specs.Edges.{Edge, Ending, heads, no_phis}
use Rattle.generic_code.specs.Whole.{Body, bodies, bodies_from, body_of as body_made, insts_ending, params_code, phis_code, blocks_code, edges_to, translated}
use Rattle.generic_laws.specs.Laws.{PhisNameJumps, TranslatedNamesJumps}
use Rattle.generic_laws.proofs.Lists.{get_right}
use Rattle.generic_laws.proofs.Apart.{edges_apart}
use Rattle.generic_laws.proofs.Arrows.{Arrives}
use Rattle.generic_laws.proofs.Blocks.{body_of, every_flat}
use Rattle.generic_laws.proofs.Firsts.{IsMiddle, body_middle}
use Rattle.generic_laws.proofs.Named.{IsIn, Reach, Named, AllNamed, all_both, named_more, all_more, insts_named, in_later}
use Rattle.generic_laws.proofs.Taken.{Hits, Jumps, hits_behind, insts_jump}
use Rattle.generic_laws.proofs.Phis.{once_named, named_only}

-- ---- edges among others

in_left : (xs ys : List Edge) (at to : ℕ) → IsIn xs at to → IsIn (xs ++ ys) at to
in_left [] ys at to (j, e, get, a, t) = absurd (let bad : ⊥ = cc in bad)
in_left (x ∷ xs) ys at to (zero, e, get, a, t) = (zero, e, get, a, t)
in_left (x ∷ xs) ys at to (suc j, e, get, a, t) = in_later x (xs ++ ys) at to (in_left xs ys at to (j, e, get, a, t))

in_right : (xs ys : List Edge) (at to : ℕ) → IsIn ys at to → IsIn (xs ++ ys) at to
in_right xs ys at to (j, e, get, a, t) = (length xs + j, e, get_right xs ys j ∙ get, a, t)

-- ---- a block to which these jump is reached

hit_first : (m to : ℕ) (ms : List ℕ) → times to (m ∷ ms) ≡ cond (m == to) 1 0 + times to ms
hit_first m to ms = sum_by-cons (λ (k : ℕ). cond (k == to) 1 0) m ms

abbrev one_if : Bool → ℕ
one_if t = cond t 1 0

none_of : (t : Bool) → t ≡ false → one_if t ≡ 0
none_of true e = absurd (let bad : ⊥ = cc in bad)
none_of false e = refl

hit_list : (R : ℕ → Type 0) (to : ℕ) (ms : List ℕ) → Every R ms → 1 ≤ times to ms → R to
hit_list R to [] h l = absurd (let none : times to [] ≡ 0 = refl in let bad : ⊥ = omega (arith, l, none) in bad)
hit_list R to (m ∷ ms) h l = by_test (m == to) refl (hit_first m to ms) (hit_list R to ms h.1)
  where
    by_test : (t : Bool) → (m == to) ≡ t → times to (m ∷ ms) ≡ cond (m == to) 1 0 + times to ms → (1 ≤ times to ms → R to) → R to
    by_test true e one more = subst R (let same : m ≡ to = grind (arith, e) in same) h.0
    by_test false e one more = more (let is = none_of (m == to) e in omega (arith, l, one, is))

pub all_targets : (R : ℕ → Type 0) (code : List GInst) → Every (λ (i : GInst). Every R (targets i)) code → Every R (edges code)
all_targets R [] h = tt
all_targets R (i ∷ is) h = every_both R (targets i) (edges is) h.0 (all_targets R is h.1)

some_in : {A : Type 0} (before : List A) (i : A) (behind : List A) → slice_get (before ++ i ∷ behind) (length before) ≡ Some i
some_in [] i behind = refl
some_in (x ∷ xs) i behind = some_in xs i behind

module _ (program : Program) (checked : IsChecked program) (symbol : ℕ) (function : Function) (there : function_at program symbol ≡ Some function) where
  abbrev gl : List Global
  gl = program.module_.globals

  abbrev f : GFunction
  f = translated program symbol function

  abbrev es : List Edge
  es = flat_map (λ body. body.ending.edges) (bodies program.module_.globals function)

  abbrev front : List (List GInst)
  front = blocks_code program.module_.globals function es 0 (bodies program.module_.globals function)

  abbrev further : List (List GInst)
  further = flat_map (λ body. body.ending.later) (bodies program.module_.globals function)

  -- ---- each jump is an edge

  -- blocks of the function, by their numbers
  abbrev FrontNamed : ℕ → List Body → Type 0
  FrontNamed from [] = Unit {0}
  FrontNamed from (body ∷ all) = Named gl function es from body.ending.code × FrontNamed (from + 1) all

  all_named : (blocks : List Block) (from value next own : ℕ) → length function.blocks ≤ own
      → ((at to : ℕ) → IsIn (flat_map (λ body. body.ending.edges) (bodies_from gl function from value next own blocks)) at to → IsIn es at to)
      → FrontNamed from (bodies_from gl function from value next own blocks) × AllNamed gl function es own (flat_map (λ body. body.ending.later) (bodies_from gl function from value next own blocks))
  all_named [] from value next own l among = (tt, tt)
  all_named (x ∷ blocks) from value next own l among =
      let body = body_made gl function from value next own x.insts in
      let rest = bodies_from gl function (from + 1) (value + results x.insts) (next + length body.ending.types) (own + length body.ending.later) blocks in
      let rest_edges = flat_map (λ body. body.ending.edges) rest in
      let rest_later = flat_map (λ body. body.ending.later) rest in
      let here = insts_named gl function from (drop (length (phis x.insts)) x.insts) (value + length (phis x.insts)) (empty_pool next) own l in
      let mine : (at to : ℕ) → IsIn body.ending.edges at to → IsIn es at to = λ at to h. among at to (in_left body.ending.edges rest_edges at to h) in
      let ih = all_named blocks (from + 1) (value + results x.insts) (next + length body.ending.types) (own + length body.ending.later) (omega (arith, l)) (λ at to h. among at to (in_right body.ending.edges rest_edges at to h)) in (
        (named_more gl function body.ending.edges es from mine body.ending.code here.0, ih.0),
        all_both gl function es own body.ending.later rest_later (all_more gl function body.ending.edges es own body.ending.later mine here.1) ih.1,
      )

  params_named : (at place : ℕ) (tys : List Ty) → Named gl function es at (params_code place tys)
  params_named at place [] = tt
  params_named at place (ty ∷ tys) = (tt, params_named at (place + 1) tys)

  first_named : (at : ℕ) (t : Bool) → Named gl function es at (if t then params_code 0 function.params else [])
  first_named at true = params_named at 0 function.params
  first_named at false = tt

  phis_named : (at value place : ℕ) (all : List Edge) (insts : List Inst) → Named gl function es at (phis_code gl function value place all insts)
  phis_named at value place all [] = tt
  phis_named at value place all (inst ∷ insts) = (tt, phis_named at (value + 1) (place + 1) all insts)

  blocks_named : (number : ℕ) (all : List Body) → FrontNamed number all → AllNamed gl function es number (blocks_code gl function es number all)
  blocks_named number [] h = tt
  blocks_named number (body ∷ all) h =
      let Here = Arrives gl function (Reach gl function es number) in
      let heads_code = phis_code gl function body.value 0 (edges_to gl function number es) body.heads in (
        every_both Here (if number == 0 then params_code 0 function.params else []) (heads_code ++ body.ending.code) (first_named number (number == 0))
            (every_both Here heads_code body.ending.code (phis_named number body.value 0 (edges_to gl function number es) body.heads) h.0),
        blocks_named (number + 1) all h.1,
      )

  blocks_long : (number : ℕ) (all : List Body) → length (blocks_code gl function es number all) ≡ length all
  blocks_long number [] = refl
  blocks_long number (body ∷ all) = ap suc (blocks_long (number + 1) all)

  bodies_long : (blocks : List Block) (from value next own : ℕ) → length (bodies_from gl function from value next own blocks) ≡ length blocks
  bodies_long [] from value next own = refl
  bodies_long (x ∷ blocks) from value next own = ap suc (bodies_long blocks (from + 1) _ _ _)

  code_named : AllNamed gl function es 0 f.blocks
  code_named =
      let both = all_named function.blocks 0 (length function.params) (value_count function) (length function.blocks) (omega arith) (λ at to h. h) in
      let one = blocks_long 0 (bodies gl function) in
      let two = bodies_long function.blocks 0 (length function.params) (value_count function) (length function.blocks) in
      all_both gl function es 0 front further (blocks_named 0 (bodies gl function) both.0)
      (subst (λ (n : ℕ). AllNamed gl function es n further) (let z : length function.blocks ≡ 0 + length front = omega (arith, one, two) in z) both.1)

  named_at : (own k : ℕ) (blocks : List (List GInst)) → AllNamed gl function es own blocks → Named gl function es (own + k) (slice_index_or blocks k [])
  named_at own k [] h = tt
  named_at own zero (x ∷ xs) h = subst (λ (n : ℕ). Named gl function es n x) (let z : own ≡ own + 0 = omega arith in z) h.0
  named_at own (suc k) (x ∷ xs) h = subst (λ (n : ℕ). Named gl function es n (slice_index_or xs k [])) (let z : own + 1 + k ≡ own + suc k = omega arith in z) (named_at (own + 1) k xs h.1)

  jump_is_edge : (from block : ℕ) → no_phis gl function block ≡ false → 1 ≤ times block (edges (play.insts_at f from)) → IsIn es from block
  jump_is_edge from block p l =
      let here : Named gl function es from (play.insts_at f from) = subst (λ (n : ℕ). Named gl function es n (slice_index_or f.blocks from [])) (let z : 0 + from ≡ from = omega arith in z) (named_at 0 from f.blocks code_named) in
      hit_list (Reach gl function es from) block (edges (play.insts_at f from)) (all_targets (Reach gl function es from) (play.insts_at f from) here) l p

  -- ---- each edge is a jump

  abbrev IsJump : Edge → Type 0
  IsJump e = no_phis program.module_.globals function e.to ≡ false → Hits e.to (play.insts_at (translated program symbol function) e.at)

  body_jumps : (k : ℕ) (body : Body) → slice_get (bodies gl function) k ≡ Some body → Every IsJump body.ending.edges
  body_jumps k body at =
      let b = body_of program checked symbol function there k body at in
      let p = b.at in
      let made = insts_ending gl function k (number_at function k (length (heads gl function k))) (empty_pool p.next) p.own (drop (length (heads gl function k)) (insts_at function k)) in
      let phi_code = phis_code gl function (number_at function k 0) 0 (edges_to gl function k es) (heads gl function k) in
      let first_code = if k == 0 then params_code 0 function.params else [] in
      let jumps = insts_jump gl function k (drop (length (heads gl function k)) (insts_at function k)) (number_at function k (length (heads gl function k))) (empty_pool p.next) p.own in
      let whole : (e : Edge) → Jumps gl function k k p.own made.code made.later e → IsJump e = λ e j phis. by_kind e (play.insts_at f k) made.code made.later p.own k refl
      (λ h. subst (Hits e.to) (sym p.insts_are) (hits_behind e.to first_code (phi_code ++ made.code) (hits_behind e.to phi_code made.code h))) p.stands.later (j phis) in
      subst (λ (x : Body). Every IsJump x.ending.edges) b.same
      (subst (λ (z : Ending). Every IsJump z.edges) (sym p.ending_is)
      (every_map (Jumps gl function k k p.own made.code made.later) IsJump made.edges whole jumps))
    where
      by_kind : (e : Edge) (here code : List GInst) (later : List (List GInst)) (own k : ℕ) → play.insts_at f k ≡ here → (Hits e.to code → Hits e.to here)
          → ((j : ℕ) (c : List GInst) → slice_get later j ≡ Some c → play.insts_at f (own + j) ≡ c)
          → ((e.at ≡ k) × Hits e.to code) ⊎ ((j : ℕ) × (block : List GInst) × (slice_get later j ≡ Some block) × (e.at ≡ own + j) × Hits e.to block)
          → Hits e.to (play.insts_at f e.at)
      by_kind e here code later own k is more stand (inl (same, hits)) = subst (λ (n : ℕ). Hits e.to (play.insts_at f n)) (sym same) (subst (Hits e.to) (sym is) (more hits))
      by_kind e here code later own k is more stand (inr (j, block, get, same, hits)) = subst (λ (n : ℕ). Hits e.to (play.insts_at f n)) (sym same) (subst (Hits e.to) (sym (stand j block get)) hits)

  all_jump : Every IsJump es
  all_jump = every_flat IsJump (λ (body : Body). body.ending.edges) (bodies gl function) body_jumps

  edge_is_jump : (from block : ℕ) → no_phis gl function block ≡ false → IsIn es from block → 1 ≤ times block (edges (play.insts_at f from))
  edge_is_jump from block p (j, e, get, at_is, to_is) =
      let hits = every_at IsJump es j e all_jump get (ap (no_phis gl function) to_is ∙ p) in
      subst (λ (n : ℕ). Hits block (play.insts_at f n)) at_is (subst (λ (n : ℕ). Hits n (play.insts_at f e.at)) to_is hits)

  -- ---- what a phi names

  abbrev NamesEdges : ℕ → GInst → Type 0
  NamesEdges block i = is_phi i.op ≡ true → (no_phis program.module_.globals function block ≡ false) × (i.to ≡ map (λ (e : Edge). e.at) (edges_to program.module_.globals function block es))

  middle_names : (block : ℕ) (i : GInst) → IsMiddle i → NamesEdges block i
  middle_names block i m t = absurd (let m0 = m.0 in let bad : false ≡ true = sym m0 ∙ t in let no_way : ⊥ = cc in no_way)

  params_name : (block place : ℕ) (tys : List Ty) → Every (NamesEdges block) (params_code place tys)
  params_name block place [] = tt
  params_name block place (ty ∷ tys) = ((λ t. absurd (let bad : ⊥ = cc in bad)), params_name block (place + 1) tys)

  first_name : (block : ℕ) (t : Bool) → Every (NamesEdges block) (if t then params_code 0 function.params else [])
  first_name block true = params_name block 0 function.params
  first_name block false = tt

  phis_name : (block value place : ℕ) (insts : List Inst) → no_phis gl function block ≡ false → Every (NamesEdges block) (phis_code gl function value place (edges_to gl function block es) insts)
  phis_name block value place [] p = tt
  phis_name block value place (inst ∷ insts) p = ((λ t. (p, refl)), phis_name block (value + 1) (place + 1) insts p)

  heads_name : (block value : ℕ) (hs : List Inst) → hs ≡ heads gl function block → Every (NamesEdges block) (phis_code gl function value 0 (edges_to gl function block es) hs)
  heads_name block value [] is = tt
  heads_name block value (inst ∷ insts) is = phis_name block value 0 (inst ∷ insts) (ap (λ (is : List Inst). length is == 0) (sym is) ∙ (let z : (length (inst ∷ insts) == 0) ≡ false = grind arith in z))

  body_heads : (k : ℕ) (body : Body) → slice_get (bodies gl function) k ≡ Some body → body.heads ≡ heads gl function k
  body_heads k body e = let b = body_of program checked symbol function there k body e in let p = b.at in ap (λ (x : Body). x.heads) (sym b.same) ∙ p.heads_are

  abbrev AllName : ℕ → List (List GInst) → Type 0
  AllName number [] = Unit {0}
  AllName number (x ∷ xs) = Every (NamesEdges number) x × AllName (number + 1) xs

  blocks_name : (number : ℕ) (all : List Body) → ((k : ℕ) (body : Body) → slice_get all k ≡ Some body → Every IsMiddle body.ending.code × (body.heads ≡ heads gl function (number + k))) → AllName number (blocks_code gl function es number all)
  blocks_name number [] h = tt
  blocks_name number (body ∷ all) h =
      let one = h 0 body refl in
      let heads_code = phis_code gl function body.value 0 (edges_to gl function number es) body.heads in (
        every_both (NamesEdges number) (if number == 0 then params_code 0 function.params else []) (heads_code ++ body.ending.code) (first_name number (number == 0))
            (every_both (NamesEdges number) heads_code body.ending.code
            (heads_name number body.value body.heads (one.1 ∙ ap (heads gl function) (let z : number + 0 ≡ number = omega arith in z)))
            (every_map IsMiddle (NamesEdges number) body.ending.code (middle_names number) one.0)),
        blocks_name (number + 1) all (λ k x e. let r = h (suc k) x e in (r.0, r.1 ∙ ap (heads gl function) (let z : number + suc k ≡ number + 1 + k = omega arith in z))),
      )

  further_name : (number : ℕ) (blocks : List (List GInst)) → Every (Every IsMiddle) blocks → AllName number blocks
  further_name number [] h = tt
  further_name number (x ∷ xs) h = (every_map IsMiddle (NamesEdges number) x (middle_names number) h.0, further_name (number + 1) xs h.1)

  name_both : (number : ℕ) (xs ys : List (List GInst)) → AllName number xs → AllName (number + length xs) ys → AllName number (xs ++ ys)
  name_both number [] ys h h' = subst (λ (n : ℕ). AllName n ys) (let z : number + 0 ≡ number = omega arith in z) h'
  name_both number (x ∷ xs) ys h h' = (h.0, name_both (number + 1) xs ys h.1 (subst (λ (n : ℕ). AllName n ys) (let z : number + length (x ∷ xs) ≡ number + 1 + length xs = omega arith in z) h'))

  code_names : AllName 0 f.blocks
  code_names =
      name_both 0 front further
      (blocks_name 0 (bodies gl function) (λ k body e. ((body_middle program checked symbol function there k body e).0, body_heads k body e ∙ ap (heads gl function) (let z : k ≡ 0 + k = omega arith in z))))
      (further_name (0 + length front) further (every_flat (Every IsMiddle) (λ (body : Body). body.ending.later) (bodies gl function) (λ k body e. (body_middle program checked symbol function there k body e).1)))

  name_at : (number k : ℕ) (blocks : List (List GInst)) → AllName number blocks → Every (NamesEdges (number + k)) (slice_index_or blocks k [])
  name_at number k [] h = tt
  name_at number zero (x ∷ xs) h = subst (λ (n : ℕ). Every (NamesEdges n) x) (let z : number ≡ number + 0 = omega arith in z) h.0
  name_at number (suc k) (x ∷ xs) h = subst (λ (n : ℕ). Every (NamesEdges n) (slice_index_or xs k [])) (let z : number + 1 + k ≡ number + suc k = omega arith in z) (name_at (number + 1) k xs h.1)

  phi_names : (block : ℕ) (before : List GInst) (i : GInst) (behind : List GInst) → play.insts_at f block ≡ before ++ i ∷ behind → NamesEdges block i
  phi_names block before i behind e =
      let here : Every (NamesEdges block) (play.insts_at f block) = subst (λ (n : ℕ). Every (NamesEdges n) (slice_index_or f.blocks block [])) (let z : 0 + block ≡ block = omega arith in z) (name_at 0 block f.blocks code_names) in
      every_at (NamesEdges block) (play.insts_at f block) (length before) i here (ap (λ (is : List GInst). slice_get is (length before)) e ∙ some_in before i behind)

  phi_named : (block : ℕ) (i : GInst) → (no_phis gl function block ≡ false) × (i.to ≡ map (λ (e : Edge). e.at) (edges_to gl function block es)) → (from : ℕ) → 1 ≤ times block (edges (play.insts_at f from)) → times from i.to ≡ 1
  phi_named block i h from l =
      ap (times from) h.1 ∙ once_named gl function es (edges_apart gl function (length function.params) (value_count function)) from block h.0 (jump_is_edge from block h.0 l)

  phi_only : (block : ℕ) (i : GInst) → (no_phis gl function block ≡ false) × (i.to ≡ map (λ (e : Edge). e.at) (edges_to gl function block es)) → (from : ℕ) → 1 ≤ times from i.to → 1 ≤ times block (edges (play.insts_at f from))
  phi_only block i h from l =
      edge_is_jump from block h.0 (named_only gl function es from block (let same = ap (times from) h.1 in omega (arith, l, same)))

  pub names_jumps : PhisNameJumps f
  names_jumps block before i behind l e t = (phi_named block i (phi_names block before i behind e t), phi_only block i (phi_names block before i behind e t))

pub translated_names_jumps : TranslatedNamesJumps
translated_names_jumps program symbol function checked there = names_jumps program checked symbol function there
