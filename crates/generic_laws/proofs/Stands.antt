-- The code of a function stands where its instructions expect it: types at registers, blocks at their numbers, edges among all.
use Rattle.std.proofs.Common.{◌≡◌, refl, sym, ap, subst, ◌∙◌, ℕ, zero, suc, ◌+◌, ◌≤◌, Bool, true, false, cond, List, [], ◌∷◌, ◌++◌, length, map, Some, arith}
use Rattle.std.specs.Prelude.{slice_get, slice_index_or, flat_map, take, drop, if◌then◌else◌, ◌==◌}
use Rattle.std.proofs.lemmas.List.Sums.{sum_by-cons}
use Rattle.ir_core.specs.Program.{Program}
use Rattle.ir_core.specs.Units.{instructions, results, has_result, is_result, values as value_count}
use Rattle.ir_core.specs.declared.types.Ty.{Ty}
use Rattle.ir_core.specs.declared.code.Op.{Op}
use Rattle.ir_core.specs.declared.code.Op.TheVariants.{Phi}
use Rattle.ir_core.specs.declared.code.Inst.{Inst}
use Rattle.ir_core.specs.declared.code.Block.{Block}
use Rattle.ir_core.specs.declared.program.Function.{Function}
use Rattle.ir_core.specs.declared.program.Global.{Global}
use Rattle.ir_meaning.specs.Step.{function_at, insts_of, insts_at, number_at, phis}
use Rattle.ir_meaning.specs.Typed.{types, result_types, IsOp, IsTypedFunction}
use Rattle.ir_verify.proofs.Lists.{Every}
use Rattle.gmir.specs.declared.code.GType.{GType}
use Rattle.gmir.specs.declared.code.GOp.{GOp}
use Rattle.gmir.specs.declared.code.GOp.TheVariants as g
use Rattle.gmir.specs.declared.code.GInst.{GInst}
use Rattle.gmir.specs.declared.code.GFunction.{GFunction}
use Rattle.gmir.specs.Play as play
use Rattle.gmir.specs.Play.{is_phi}
use Rattle.generic_code.specs.Literals.{type_of, empty_pool}
use Rattle.generic_code.specs.Edges.{Edge, Ending, heads}
use Rattle.generic_code.specs.Whole.{Body, body_of, bodies_from, bodies, insts_ending, edges_to, phi_register, phis_code, params_code, blocks_code, translated}
use Rattle.generic_code.proofs.Loads.{Stand, ValuesTyped}
use Rattle.generic_code.proofs.Computes.{some_value}
use Rattle.generic_code.proofs.Flow.{EdgeStands, AllStand, Stands, code_from}
use Rattle.generic_code.proofs.Arrivals.{Begins, begins_with, BlockStands}
use Rattle.generic_laws.proofs.Lists.{get_left, get_right, get_index, get_map, get_flat}
use Rattle.generic_laws.proofs.Philess.{ordinary, each_insts}
use Rattle.generic_laws.proofs.Apart.{taken, edges_apart}
use Rattle.generic_laws.proofs.Bodies.{StandFrom, BodyAt, body_at}

-- ---- counts

results_cons : (inst : Inst) (insts : List Inst) → results (inst ∷ insts) ≡ (if has_result inst then 1 else 0) + results insts
results_cons inst insts = sum_by-cons (λ (z : Inst). cond (has_result z) 1 0) inst insts

types_long : (insts : List Inst) → length (result_types insts) ≡ results insts
types_long [] = refl
types_long (inst ∷ insts) = by_test (has_result inst) (types_long insts) ∙ sym (results_cons inst insts)
  where
    by_test : (b : Bool) → length (result_types insts) ≡ results insts → length (if b then inst.gives ∷ result_types insts else result_types insts) ≡ (if b then 1 else 0) + results insts
    by_test true ih = omega (arith, ih)
    by_test false ih = omega (arith, ih)

append_long : {A : Type 0} (xs ys : List A) → length (xs ++ ys) ≡ length xs + length ys
append_long [] ys = omega arith
append_long (x ∷ xs) ys = let ih = append_long xs ys in omega (arith, ih)

map_long : {A B : Type 0} (h : A → B) (xs : List A) → length (map h xs) ≡ length xs
map_long h [] = refl
map_long h (x ∷ xs) = ap suc (map_long h xs)

pub all_long : (function : Function) → length (types function) ≡ value_count function
all_long function = let both = append_long function.params (result_types (instructions function.blocks)) in let more = types_long (instructions function.blocks) in omega (arith, both, more)

one_more : (b : Bool) (n : ℕ) → b ≡ true → (if b then 1 else 0) + n ≡ 1 + n
one_more true n e = refl
one_more false n e = absurd (let bad : ⊥ = cc in bad)

-- phis have results
module _ (program : Program) (function : Function) where
  head_counts : (ty : Ty) (op : Op) (insts : List Inst) → IsOp program function ty op → results (take (length (phis insts)) insts) ≡ length (phis insts)
      → results (take (length (phis (record { gives = ty; op = op } ∷ insts))) (record { gives = ty; op = op } ∷ insts)) ≡ length (phis (record { gives = ty; op = op } ∷ insts))
  head_counts ty (Phi pairs) insts is ih =
      let one = results_cons (record { gives = ty; op = Phi pairs }) (take (length (phis insts)) insts) in
      let gives = one_more (is_result ty) (results (take (length (phis insts)) insts)) (some_value ty is.0).1 in
      omega (arith, one, gives, ih)
  head_counts ty op insts is ih = refl

  pub heads_count : (insts : List Inst) → ((i : ℕ) (inst : Inst) → slice_get insts i ≡ Some inst → IsOp program function inst.gives inst.op) → results (take (length (phis insts)) insts) ≡ length (phis insts)
  heads_count [] well = refl
  heads_count (inst ∷ insts) well = head_counts inst.gives inst.op insts (well 0 inst refl) (heads_count insts (λ i x e. well (suc i) x e))

not_first : (block : ℕ) → (block ≡ 0 → ⊥) → (block == 0) ≡ false
not_first zero h = absurd (h refl)
not_first (suc block) h = grind arith

-- ---- code behind phis

none_begin : (code : List GInst) → Every (λ (i : GInst). is_phi i.op ≡ false) code → Begins code
none_begin [] h = record { phis = refl; rest = refl }
none_begin (i ∷ code) h = begins_with i code h.0

module _ (globals : List Global) (function : Function) where
  phis_front : (value place : ℕ) (edges : List Edge) (insts : List Inst) (code : List GInst) → Begins code → play.phis (phis_code globals function value place edges insts ++ code) ≡ phis_code globals function value place edges insts
  phis_front value place edges [] code h = h.phis
  phis_front value place edges (inst ∷ insts) code h =
      ap (λ (is : List GInst). record { op = g.Phi; defs = value ∷ []; uses = map (phi_register globals function place) edges; num = 0; to = map (λ (e : Edge). e.at) edges } ∷ is) (phis_front (value + 1) (place + 1) edges insts code h)

  phis_behind : (value place : ℕ) (edges : List Edge) (insts : List Inst) (code : List GInst) → Begins code → play.behind_phis (phis_code globals function value place edges insts ++ code) ≡ code
  phis_behind value place edges [] code h = h.rest
  phis_behind value place edges (inst ∷ insts) code h = phis_behind (value + 1) (place + 1) edges insts code h

  -- a block of the code
  abbrev block_code : List Edge → ℕ → Body → List GInst
  block_code edges number body =
      (if number == 0 then params_code 0 function.params else []) ++ (phis_code globals function body.value 0 (edges_to globals function number edges) body.heads ++ body.ending.code)

  code_at : (edges : List Edge) (all : List Body) (number k : ℕ) (body : Body) → slice_get all k ≡ Some body → slice_get (blocks_code globals function edges number all) k ≡ Some (block_code edges (number + k) body)
  code_at edges [] number k body e = absurd (let bad : ⊥ = cc in bad)
  code_at edges (x ∷ all) number zero body e =
      let same : x ≡ body = cc in
      ap (λ (b : Body). Some (block_code edges number b)) same ∙ ap (λ (n : ℕ). Some (block_code edges n body)) (let z : number ≡ number + 0 = omega arith in z)
  code_at edges (x ∷ all) number (suc k) body e =
      code_at edges all (number + 1) k body e ∙ ap (λ (n : ℕ). Some (block_code edges n body)) (let z : number + 1 + k ≡ number + suc k = omega arith in z)

  code_long : (edges : List Edge) (all : List Body) (number : ℕ) → length (blocks_code globals function edges number all) ≡ length all
  code_long edges [] number = refl
  code_long edges (x ∷ all) number = ap suc (code_long edges all (number + 1))

  bodies_long : (blocks : List Block) (from value next own : ℕ) → length (bodies_from globals function from value next own blocks) ≡ length blocks
  bodies_long [] from value next own = refl
  bodies_long (x ∷ blocks) from value next own = ap suc (bodies_long blocks (from + 1) _ _ _)

-- ---- the whole

module _ (program : Program) (symbol : ℕ) (function : Function) (there : function_at program symbol ≡ Some function) (well : IsTypedFunction program function) where
  abbrev gl : List Global
  gl = program.module_.globals

  abbrev pub code : GFunction
  code = translated program symbol function

  abbrev pub all : List Body
  all = bodies program.module_.globals function

  abbrev pub all_edges : List Edge
  all_edges = flat_map (λ body. body.ending.edges) all

  abbrev front : List (List GInst)
  front = blocks_code program.module_.globals function all_edges 0 all

  abbrev further : List (List GInst)
  further = flat_map (λ body. body.ending.later) all

  abbrev own_types : List GType
  own_types = map type_of (types function)

  abbrev further_types : List GType
  further_types = flat_map (λ body. body.ending.types) all

  pub values_typed : ValuesTyped program code (types function) []
  values_typed n ty e = get_left own_types further_types n (type_of ty) (get_map type_of (types function) n ty e)

  types_stand : Stand code.types (value_count function) further_types
  types_stand k ty e =
      let long = map_long type_of (types function) in
      let many = all_long function in
      ap (slice_get (own_types ++ further_types)) (let z : value_count function + k ≡ length own_types + k = omega (arith, long, many) in z) ∙ get_right own_types further_types k ∙ e

  index_right : (xs ys : List (List GInst)) (k : ℕ) (c : List GInst) → slice_get ys k ≡ Some c → slice_index_or (xs ++ ys) (length xs + k) [] ≡ c
  index_right xs ys k c e = get_index (xs ++ ys) (length xs + k) c [] (get_right xs ys k ∙ e)

  blocks_stand : StandFrom code.blocks (length function.blocks) further
  blocks_stand k c e =
      let one = code_long gl function all_edges all 0 in
      let two = bodies_long gl function function.blocks 0 (length function.params) (value_count function) (length function.blocks) in
      ap (λ (n : ℕ). slice_index_or (front ++ further) n []) (let z : length function.blocks + k ≡ length front + k = omega (arith, one, two) in z) ∙ index_right front further k c e

  -- what stands of a block: its code, behind parameters where it is the first
  pub record Placed (block : ℕ) : Type 0 where
    pub next : ℕ
    pub own : ℕ
    pub low : length (types function) ≤ next
    pub insts_are : play.insts_at code block
        ≡ (if block == 0 then params_code 0 function.params else [])
        ++ (phis_code program.module_.globals function (number_at function block 0) 0 (edges_to program.module_.globals function block all_edges) (heads program.module_.globals function block)
        ++ (code_from program symbol function there code values_typed all_edges block (length (heads program.module_.globals function block)) (empty_pool next) own).code)
    pub above : length function.blocks ≤ own
    pub room : own + length (code_from program symbol function there code values_typed all_edges block (length (heads program.module_.globals function block)) (empty_pool next) own).later ≤ length code.blocks
    pub body : Body
    pub get : slice_get (bodies program.module_.globals function) block ≡ Some body
    pub value_is : body.value ≡ number_at function block 0
    pub heads_are : body.heads ≡ heads program.module_.globals function block
    pub ending_is : body.ending ≡ code_from program symbol function there code values_typed all_edges block (length (heads program.module_.globals function block)) (empty_pool next) own
    pub begins : Begins (code_from program symbol function there code values_typed all_edges block (length (heads program.module_.globals function block)) (empty_pool next) own).code
    pub stands : Stands program symbol function there code values_typed all_edges (empty_pool next) own (code_from program symbol function there code values_typed all_edges block (length (heads program.module_.globals function block)) (empty_pool next) own)

  edges_stand : (es : List Edge) → ((k : ℕ) (e : Edge) → slice_get es k ≡ Some e → EdgeStands program symbol function there code values_typed all_edges e) → AllStand program symbol function there code values_typed all_edges es
  edges_stand [] h = tt
  edges_stand (e ∷ es) h = (h 0 e refl, edges_stand es (λ k x at. h (suc k) x at))

  no_phi : (i : GInst) → ordinary i.op ≡ true → is_phi i.op ≡ false
  no_phi i e = by_op i.op e
    where
      by_op : (o : GOp) → ordinary o ≡ true → is_phi o ≡ false
      by_op g.Phi e = absurd (let bad : ⊥ = cc in bad)
      by_op o e = refl

  placed_by : (block : ℕ) (x : Block) → slice_get function.blocks block ≡ Some x → BodyAt gl function code.types code.blocks all (value_count function) (length function.blocks) block block (length function.params + results (instructions (take block function.blocks))) x → Placed block
  placed_by block x at b = record {
    next = b.next;
    own = b.own;
    low = (let up = b.up in let many = all_long function in omega (arith, up, many));
    insts_are =
        get_index (front ++ further) block (block_code gl function all_edges block body) []
        (get_left front further block (block_code gl function all_edges block body) (code_at gl function all_edges all 0 block body b.get ∙ ap (λ (n : ℕ). Some (block_code gl function all_edges n body)) (let z : 0 + block ≡ block = omega arith in z)))
        ∙ ap (λ (is : List GInst). (if block == 0 then params_code 0 function.params else []) ++ is)
        (ap (λ (n : ℕ). phis_code gl function n 0 (edges_to gl function block all_edges) (phis x.insts) ++ body.ending.code) (sym first_is)
        ∙ ap (λ (is : List Inst). phis_code gl function (number_at function block 0) 0 (edges_to gl function block all_edges) (phis is) ++ body.ending.code) (sym insts_is)
        ∙ ap (λ (e : Ending). phis_code gl function (number_at function block 0) 0 (edges_to gl function block all_edges) (heads gl function block) ++ e.code) ending_is);
    above = b.above;
    room = (
        let room = b.room in
        let one = code_long gl function all_edges all 0 in
        let two = bodies_long gl function function.blocks 0 (length function.params) (value_count function) (length function.blocks) in
        let both = append_long front further in
        let same : length body.ending.later ≡ length (code_from program symbol function there code values_typed all_edges block (length (heads gl function block)) (empty_pool b.next) b.own).later = ap (λ (e : Ending). length e.later) ending_is in
        omega (arith, room, one, two, both, same));
    body = body;
    get = b.get;
    value_is = sym first_is;
    heads_are = ap phis (sym insts_is);
    ending_is = ending_is;
    begins = none_begin _ ((each_insts gl (λ (i : GInst). is_phi i.op ≡ false) no_phi function block (λ d r. refl) (λ d num. refl) (number_at function block (length (heads gl function block))) (empty_pool b.next) b.own (drop (length (heads gl function block)) (insts_at function block))).0);
    stands = subst (λ (e : Ending). Stands program symbol function there code values_typed all_edges (empty_pool b.next) b.own e) ending_is (record {
      types = b.types';
      later = b.later;
      edges = edges_stand body.ending.edges (λ k e at phis. let where' = get_flat (λ (body : Body). body.ending.edges) all block k body e b.get at in
          taken gl function all_edges (edges_apart gl function (length function.params) (value_count function)) where'.0 e where'.1 phis);
    });
  }
    where
      value : ℕ
      value = length function.params + results (instructions (take block function.blocks))

      body : Body
      body = body_of gl function block (length function.params + results (instructions (take block function.blocks))) b.next b.own x.insts

      insts_is : insts_at function block ≡ x.insts
      insts_is = ap insts_of at

      first_is : number_at function block 0 ≡ value
      first_is = omega arith

      well_here : (i : ℕ) (inst : Inst) → slice_get x.insts i ≡ Some inst → IsOp program function inst.gives inst.op
      well_here i inst e = well.insts block i inst (ap (λ (is : List Inst). slice_get is i) insts_is ∙ e)

      behind_is : value + length (phis x.insts) ≡ number_at function block (length (heads gl function block))
      behind_is =
          let count = heads_count program function x.insts well_here in
          let same : results (take (length (phis (insts_at function block))) (insts_at function block)) ≡ length (phis x.insts) = ap (λ (is : List Inst). results (take (length (phis is)) is)) insts_is ∙ count in
          omega (arith, same)

      ending_is : body.ending ≡ code_from program symbol function there code values_typed all_edges block (length (heads gl function block)) (empty_pool b.next) b.own
      ending_is =
          ap (λ (n : ℕ). insts_ending gl function block n (empty_pool b.next) b.own (drop (length (phis x.insts)) x.insts)) behind_is
          ∙ ap (λ (is : List Inst). insts_ending gl function block (number_at function block (length (heads gl function block))) (empty_pool b.next) b.own (drop (length (phis is)) is)) (sym insts_is)

  pub placed : (block : ℕ) (x : Block) → slice_get function.blocks block ≡ Some x → Placed block
  placed block x at =
      placed_by block x at
      (subst (λ (n : ℕ). BodyAt gl function code.types code.blocks all (value_count function) (length function.blocks) block n (length function.params + results (instructions (take block function.blocks))) x) (let z : 0 + block ≡ block = omega arith in z)
      (body_at gl function code.types code.blocks function.blocks 0 (length function.params) (value_count function) (length function.blocks) block x at types_stand blocks_stand))

  -- a block that isn't the first stands
  pub block_stands : (block : ℕ) (x : Block) → slice_get function.blocks block ≡ Some x → (block ≡ 0 → ⊥) → BlockStands program symbol function there code values_typed all_edges well block
  block_stands block x at later =
      let p = placed block x at in
      let rest = (code_from program symbol function there code values_typed all_edges block (length (heads gl function block)) (empty_pool p.next) p.own).code in
      let heads_code = phis_code gl function (number_at function block 0) 0 (edges_to gl function block all_edges) (heads gl function block) in
      let is = p.insts_are ∙ ap (λ (b : Bool). (if b then params_code 0 function.params else []) ++ (heads_code ++ rest)) (not_first block later) in
      record {
        next = p.next;
        own = p.own;
        low = p.low;
        phis_are = ap play.phis is ∙ phis_front gl function (number_at function block 0) 0 (edges_to gl function block all_edges) (heads gl function block) rest p.begins;
        rest_are = ap play.behind_phis is ∙ phis_behind gl function (number_at function block 0) 0 (edges_to gl function block all_edges) (heads gl function block) rest p.begins;
        stands = p.stands;
      }
