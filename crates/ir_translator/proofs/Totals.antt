-- How many values and edges there are, and what all blocks have written.
use Rattle.std.proofs.Common.{◌≡◌, refl, sym, ap, ap₂, ◌∙◌, ℕ, ◌+◌, ◌*◌, ◌≤◌, List, [], ◌∷◌, ◌++◌, length, map, cond, Bool, true, false, arith}
use Rattle.std.specs.Prelude.{flat_map, drop, if◌then◌else◌}
use Rattle.std.proofs.lemmas.List.{append-nil, append_assoc, length-append, length-map}
use Rattle.std.proofs.lemmas.List.Recursion.{is_count_by}
use Rattle.ir_core.specs.Program.{Program}
use Rattle.ir_core.specs.declared.types.Ty.{Ty}
use Rattle.ir_core.specs.declared.code.Op.{Op}
use Rattle.ir_core.specs.declared.code.Op.TheVariants.{Br, CondBr, Switch}
use Rattle.ir_core.specs.declared.code.Inst.{Inst}
use Rattle.ir_core.specs.declared.code.Block.{Block}
use Rattle.ir_core.specs.declared.program.Function.{Function}
use Rattle.ir_core.specs.declared.program.Global.{Global}
use Rattle.ir_core.specs.Units.{results, has_result, instructions, values, parts_in}
use Rattle.ir_meaning.specs.Memory.{data_start}
use Rattle.ir_meaning.specs.Step.{phis}
use Rattle.ir_meaning.specs.Typed.{types, result_types}
use Rattle.gmir.specs.declared.code.GType.{GType}
use Rattle.gmir.specs.declared.code.GInst.{GInst}
use Rattle.generic_code.specs.Literals.{Pool, empty_pool, type_of, behind_all, registers}
use Rattle.generic_code.specs.Parts.{first_register}
use Rattle.generic_code.specs.Code.{piece_of}
use Rattle.generic_code.specs.Edges.{Edge, Ending, case_operand, spare, edge_types, tests, ending_of}
use Rattle.generic_code.specs.Whole.{Body, is_jump, insts_ending, bodies_from, blocks_code, translated}
use Rattle.ir_translator_emit.specs.Written.{Written, unwritten}
use Rattle.ir_translator.specs.Fit.{weight, weight_of}
use Rattle.ir_translator.specs.Joined.{joined}
use Rattle.ir_translator.specs.Laid.{laid, all_laid, codes_of}
use Rattle.ir_translator.proofs.Bodies.{behind_weight, few_phis}
use Rattle.ir_translator.proofs.Joined.{results_weight}
use Rattle.ir_translator.proofs.Joining.{joined-is}

-- ---- values

results-types : (insts : List Inst) → length (result_types insts) ≡ results insts
results-types insts = is_count_by (λ (xs : List Inst). length (result_types xs)) has_result refl by insts
  where
    by : (x : Inst) (xs : List Inst) → length (result_types (x ∷ xs)) ≡ cond (has_result x) (1 + length (result_types xs)) (length (result_types xs))
    by x xs = by_test (has_result x)
      where
        by_test : (b : Bool) → length (if b then x.gives ∷ result_types xs else result_types xs) ≡ cond b (1 + length (result_types xs)) (length (result_types xs))
        by_test true = omega arith
        by_test false = refl

pub types-many : (function : Function) → length (map type_of (types function)) ≡ values function
types-many function =
    let mapped = length-map (types function) type_of in
    let both = length-append function.params (result_types (instructions function.blocks)) in
    let rest = results-types (instructions function.blocks) in
    omega (arith, mapped, both, rest)

weight-append : (xs ys : List Inst) → weight (xs ++ ys) ≡ weight xs + weight ys
weight-append [] ys = omega arith
weight-append (x ∷ xs) ys = let rest = weight-append xs ys in omega (arith, rest)

all-weight : (blocks : List Block) → weight (instructions blocks) ≡ weight_of blocks
all-weight [] = refl
all-weight (block ∷ blocks) = let both = weight-append block.insts (instructions blocks) in let rest = all-weight blocks in omega (arith, both, rest)

pub values-few : (function : Function) → values function ≤ length function.params + weight_of function.blocks
values-few function =
    let few = results_weight (instructions function.blocks) in
    let all = all-weight function.blocks in
    omega (arith, few, all)

-- ---- edges

module _ (globals : List Global) (function : Function) where
  tests-edges : (from : ℕ) (of : Ty) (r otherwise at : ℕ) (pool : Pool) (own : ℕ) (cases : List (ℕ × ℕ)) → length (tests globals function from of r otherwise at pool own cases).edges ≤ length cases + 1
  tests-edges from of r otherwise at pool own [] = omega arith
  tests-edges from of r otherwise at pool own (one ∷ []) = omega arith
  tests-edges from of r otherwise at pool own (one ∷ two ∷ cases) =
      let bit : ℕ = (behind_all globals pool (case_operand globals function from of one.0)).next in
      let behind : ℕ = own + spare globals function one.1 in
      let rest = tests-edges from of r otherwise behind (empty_pool (bit + 1 + length (edge_types globals function from (empty_pool (bit + 1)) one.1))) (behind + 1) (two ∷ cases) in
      omega (arith, rest)

  op-edges : (from : ℕ) (pool : Pool) (own : ℕ) (op : Op) → length (ending_of globals function from pool own op).edges ≤ 2 * (1 + parts_in op)
  op-edges from pool own (Br to) = omega arith
  op-edges from pool own (CondBr condition if_one if_zero) = omega arith
  op-edges from pool own (Switch of a otherwise cases) = let few = tests-edges from of (first_register (registers globals pool ((of, a) ∷ []))) otherwise from (behind_all globals pool ((of, a) ∷ [])) own cases in omega (arith, few)
  op-edges from pool own _ = omega arith

  insts-edges : (from value : ℕ) (pool : Pool) (own : ℕ) (insts : List Inst) → length (insts_ending globals function from value pool own insts).edges ≤ 2 * weight insts
  insts-edges from value pool own [] = omega arith
  insts-edges from value pool own (inst ∷ insts) =
      by (is_jump inst.op) (op-edges from pool own inst.op) (insts-edges from (if has_result inst then value + 1 else value) (piece_of globals function.ret value pool inst.gives inst.op).pool own insts)
    where
      by : (b : Bool) → length (ending_of globals function from pool own inst.op).edges ≤ 2 * (1 + parts_in inst.op)
          → length (insts_ending globals function from (if has_result inst then value + 1 else value) (piece_of globals function.ret value pool inst.gives inst.op).pool own insts).edges ≤ 2 * weight insts
          → length (if b then ending_of globals function from pool own inst.op else (record {
            code = (piece_of globals function.ret value pool inst.gives inst.op).code ++ (insts_ending globals function from (if has_result inst then value + 1 else value) (piece_of globals function.ret value pool inst.gives inst.op).pool own insts).code;
            types = (piece_of globals function.ret value pool inst.gives inst.op).types ++ (insts_ending globals function from (if has_result inst then value + 1 else value) (piece_of globals function.ret value pool inst.gives inst.op).pool own insts).types;
            later = (insts_ending globals function from (if has_result inst then value + 1 else value) (piece_of globals function.ret value pool inst.gives inst.op).pool own insts).later;
            edges = (insts_ending globals function from (if has_result inst then value + 1 else value) (piece_of globals function.ret value pool inst.gives inst.op).pool own insts).edges;
          })).edges ≤ 2 * (1 + parts_in inst.op + weight insts)
      by true one rest = omega (arith, one)
      by false one rest = omega (arith, rest)

  pub bodies-edges : (from value next own : ℕ) (blocks : List Block) → length (flat_map (λ (body : Body). body.ending.edges) (bodies_from globals function from value next own blocks)) ≤ 2 * weight_of blocks
  bodies-edges from value next own [] = omega arith
  bodies-edges from value next own (block ∷ blocks) =
      let ending : Ending = insts_ending globals function from (value + length (phis block.insts)) (empty_pool next) own (drop (length (phis block.insts)) block.insts) in
      let one = insts-edges from (value + length (phis block.insts)) (empty_pool next) own (drop (length (phis block.insts)) block.insts) in
      let less = behind_weight (length (phis block.insts)) block.insts (few_phis block.insts) in
      let rest = bodies-edges (from + 1) (value + results block.insts) (next + length ending.types) (own + length ending.later) blocks in
      let both = length-append ending.edges (flat_map (λ (body : Body). body.ending.edges) (bodies_from globals function (from + 1) (value + results block.insts) (next + length ending.types) (own + length ending.later) blocks)) in
      omega (arith, one, less, rest, both)

-- ---- what all blocks have written

pub laid-types : (w : Written) (bodies : List Body) → (all_laid w bodies).types ≡ w.types ++ flat_map (λ (body : Body). body.ending.types) bodies
laid-types w [] = sym (append-nil w.types)
laid-types w (body ∷ more) = laid-types (laid w body.ending) more ∙ append_assoc w.types body.ending.types (flat_map (λ (b : Body). b.ending.types) more)

pub laid-done : (w : Written) (bodies : List Body) → (all_laid w bodies).done ≡ w.done ++ flat_map (λ (body : Body). body.ending.later) bodies
laid-done w [] = sym (append-nil w.done)
laid-done w (body ∷ more) = laid-done (laid w body.ending) more ∙ append_assoc w.done body.ending.later (flat_map (λ (b : Body). b.ending.later) more)

pub laid-edges : (w : Written) (bodies : List Body) → (all_laid w bodies).edges ≡ w.edges ++ flat_map (λ (body : Body). body.ending.edges) bodies
laid-edges w [] = sym (append-nil w.edges)
laid-edges w (body ∷ more) = laid-edges (laid w body.ending) more ∙ append_assoc w.edges body.ending.edges (flat_map (λ (b : Body). b.ending.edges) more)

-- ---- the whole

-- the bodies of a function, as the translator writes them
abbrev pub bodies_of : List Global → Function → List GType → List Body
bodies_of globals function tys = bodies_from globals function 0 (length function.params) (length tys) (length function.blocks) function.blocks

pub bodies-same : (globals : List Global) (function : Function) (tys : List GType) (w : Written) (params : ℕ) (blocks : List Block) → w ≡ unwritten globals function tys → params ≡ length function.params → blocks ≡ function.blocks
    → bodies_from w.globals w.function 0 params w.pool.next w.own blocks ≡ bodies_of globals function tys
bodies-same globals function tys w params blocks e p b =
    ap₂ (λ (n : ℕ) (bs : List Block). bodies_from w.globals w.function 0 n w.pool.next w.own bs) p b
    ∙ ap (λ (x : Written). bodies_from x.globals x.function 0 (length function.params) x.pool.next x.own function.blocks) e

pub few-edges : (globals : List Global) (function : Function) (tys : List GType) (edges : List Edge) (t : Written) → edges ≡ t.edges → t ≡ all_laid (unwritten globals function tys) (bodies_of globals function tys) → length edges ≤ 2 * weight_of function.blocks
few-edges globals function tys edges t same e =
    let all : edges ≡ flat_map (λ (body : Body). body.ending.edges) (bodies_of globals function tys) = same ∙ ap (λ (x : Written). x.edges) e ∙ laid-edges (unwritten globals function tys) (bodies_of globals function tys) in
    let many = ap (λ (es : List Edge). length es) all in
    let few = bodies-edges globals function 0 (length function.params) (length tys) (length function.blocks) function.blocks in
    omega (arith, many, few)

pub whole-is : (program : Program) (function : Function) (globals : List Global) (symbol vals end : ℕ) (tys types' : List GType) (t : Written) (edges : List Edge) (codes all blocks later : List (List GInst))
    → program.module_.globals ≡ globals → data_start + program.room ≡ end → tys ≡ map type_of (types function) → vals ≡ length tys
    → t ≡ all_laid (unwritten globals function tys) (bodies_of globals function tys)
    → codes ≡ codes_of (bodies_of globals function tys)
    → types' ≡ t.types → later ≡ t.done → edges ≡ t.edges
    → all ≡ joined globals function edges 0 (length function.params) function.blocks codes
    → blocks ≡ all ++ later
    → record { symbol = symbol; values = vals; end = end; types = types'; blocks = blocks } ≡ translated program symbol function
whole-is program function globals symbol vals end tys types' t edges codes all blocks later g room ty many e c a b d j k =
    let w : Written = unwritten globals function tys in
    let bs : List Body = bodies_of globals function tys in
    let next : length tys ≡ values function = ap (λ (xs : List GType). length xs) ty ∙ types-many function in
    let types-are : types' ≡ map type_of (types function) ++ flat_map (λ (body : Body). body.ending.types) bs = a ∙ ap (λ (x : Written). x.types) e ∙ laid-types w bs ∙ ap (λ (x : List GType). x ++ flat_map (λ (body : Body). body.ending.types) bs) ty in
    let later-are : later ≡ flat_map (λ (body : Body). body.ending.later) bs = b ∙ ap (λ (x : Written). x.done) e ∙ laid-done w bs in
    let edges-are : edges ≡ flat_map (λ (body : Body). body.ending.edges) bs = d ∙ ap (λ (x : Written). x.edges) e ∙ laid-edges w bs in
    let all-are : all ≡ blocks_code globals function (flat_map (λ (body : Body). body.ending.edges) bs) 0 bs =
    j ∙ ap₂ (λ (x : List Edge) (y : List (List GInst)). joined globals function x 0 (length function.params) function.blocks y) edges-are c
    ∙ joined-is globals function (flat_map (λ (body : Body). body.ending.edges) bs) 0 (length function.params) (length tys) (length function.blocks) function.blocks in
    let blocks-are : blocks ≡ blocks_code globals function (flat_map (λ (body : Body). body.ending.edges) bs) 0 bs ++ flat_map (λ (body : Body). body.ending.later) bs = k ∙ ap₂ (λ (x y : List (List GInst)). x ++ y) all-are later-are in
    ap₂ (λ (x : List GType) (y : List (List GInst)). record { symbol = symbol; values = vals; end = end; types = x; blocks = y }) types-are blocks-are
    ∙ ap₂ (λ (gs : List Global) (n : ℕ). (
    let all' = bodies_from gs function 0 (length function.params) n (length function.blocks) function.blocks in
    record {
      symbol = symbol;
      values = vals;
      end = end;
      types = map type_of (types function) ++ flat_map (λ (body : Body). body.ending.types) all';
      blocks = blocks_code gs function (flat_map (λ (body : Body). body.ending.edges) all') 0 all' ++ flat_map (λ (body : Body). body.ending.later) all';
    })) (sym g) next
    ∙ ap₂ (λ (v n : ℕ). record (translated program symbol function) { values = v; end = n }) (many ∙ next) (sym room)
