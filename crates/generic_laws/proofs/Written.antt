-- The blocks of a function write its registers in order, so that each is written at most once.
use Rattle.std.proofs.Common.{◌≡◌, refl, sym, ap, ◌∙◌, ℕ, zero, suc, ◌+◌, ◌≤◌, Bool, true, false, cond, List, [], ◌∷◌, ◌++◌, length, Option, Some, arith}
use Rattle.std.specs.Prelude.{slice_get, take, drop, flat_map, ◌==◌, if◌then◌else◌}
use Rattle.std.proofs.lemmas.List.Sums.{sum_by-cons, sum_by-append}
use Rattle.ir_core.specs.Program.{Program}
use Rattle.ir_core.specs.Units.{instructions, has_result, results, values as value_count}
use Rattle.ir_core.specs.declared.types.Ty.{Ty}
use Rattle.ir_core.specs.declared.code.Inst.{Inst}
use Rattle.ir_core.specs.declared.code.Block.{Block}
use Rattle.ir_core.specs.declared.program.Function.{Function}
use Rattle.ir_core.specs.declared.program.Global.{Global}
use Rattle.ir_meaning.specs.Step.{insts_of, phis}
use Rattle.ir_meaning.specs.Typed.{IsOp}
use Rattle.ir_verify.proofs.Typing.{checked-typed}
use Rattle.gmir.specs.declared.code.GInst.{GInst}
use Rattle.gmir.specs.Formed.{times, written}
use Rattle.generic_code.specs.Literals.{Pool, empty_pool}
use Rattle.generic_code.specs.Code.{piece_of}
use Rattle.generic_code.specs.Edges.{Edge, Ending}
use Rattle.generic_code.specs.Whole.{is_jump, insts_ending, params_code, phis_code, blocks_code, body_of, bodies, bodies_from, edges_to}
use Rattle.generic_laws.specs.Laws.{TranslatedWritesOnce}
use Rattle.generic_laws.proofs.Stands.{heads_count}
use Rattle.generic_laws.proofs.Counts.{get_drop}
use Rattle.generic_laws.proofs.Once.{append_long, times_both, below, below_one, below_more, below_next, count, count_both, count_is, count_all, count_all_both, single, piece_writes, ending_writes}

results_cons : (inst : Inst) (insts : List Inst) → results (inst ∷ insts) ≡ cond (has_result inst) 1 0 + results insts
results_cons inst insts = sum_by-cons (λ (z : Inst). cond (has_result z) 1 0) inst insts

pub results_split : (n : ℕ) (insts : List Inst) → results (take n insts) + results (drop n insts) ≡ results insts
results_split zero [] = refl
results_split zero (x ∷ xs) = let none : results (take 0 (x ∷ xs)) ≡ 0 = refl in omega (arith, none)
results_split (suc n) [] = refl
results_split (suc n) (x ∷ xs) = let ih = results_split n xs in let one = results_cons x (take n xs) in let two = results_cons x xs in omega (arith, ih, one, two)

module _ (r : ℕ) where
  all_is : (blocks : List (List GInst)) → times r (flat_map written blocks) ≡ count_all r blocks
  all_is [] = refl
  all_is (b ∷ blocks) = let ih = all_is blocks in let one = count_is r b in let both = times_both r (written b) (flat_map written blocks) in omega (arith, ih, one, both)

  params_count : (place : ℕ) (tys : List Ty) → count r (params_code place tys) + below r place ≤ below r (place + length tys)
  params_count place [] = let same = ap (below r) (let z : place ≡ place + 0 = omega arith in z) in omega (arith, same)
  params_count place (ty ∷ tys) =
      let next = below_next r place in
      let one = single r place in
      let ih = params_count (place + 1) tys in
      let same = ap (below r) (let z : place + 1 + length tys ≡ place + length (ty ∷ tys) = omega arith in z) in
      omega (arith, next, one, ih, same)

  module _ (program : Program) (function : Function) where
    abbrev gl : List Global
    gl = program.module_.globals

    phis_count : (value place : ℕ) (es : List Edge) (insts : List Inst) → count r (phis_code gl function value place es insts) + below r value ≤ below r (value + length insts)
    phis_count value place es [] = let same = ap (below r) (let z : value ≡ value + 0 = omega arith in z) in omega (arith, same)
    phis_count value place es (inst ∷ insts) =
        let next = below_next r value in
        let one = single r value in
        let ih = phis_count (value + 1) (place + 1) es insts in
        let same = ap (below r) (let z : value + 1 + length insts ≡ value + length (inst ∷ insts) = omega arith in z) in
        omega (arith, next, one, ih, same)

    -- the instructions of a block
    Typed : List Inst → Type 0
    Typed insts = (k : ℕ) (inst : Inst) → slice_get insts k ≡ Some inst → IsOp program function inst.gives inst.op

    abbrev InstsWrite : ℕ → ℕ → ℕ → Ending → Type 0
    InstsWrite value more next e = count r e.code + (count_all r e.later + (below r value + below r next)) ≤ below r (value + more) + below r (next + length e.types)

    insts_write : (insts : List Inst) (from value : ℕ) (pool : Pool) (own : ℕ) → ((k : ℕ) (inst : Inst) → slice_get insts k ≡ Some inst → IsOp program function inst.gives inst.op) → InstsWrite value (results insts) pool.next (insts_ending gl function from value pool own insts)
    insts_write [] from value pool own typed =
        let a = ap (below r) (let z : value ≡ value + results [] = omega arith in z) in
        let b = ap (below r) (let z : pool.next ≡ pool.next + 0 = omega arith in z) in
        omega (arith, a, b)
    insts_write (inst ∷ insts) from value pool own typed =
        by_jump (is_jump inst.op) refl (insts_write insts from (if has_result inst then value + 1 else value) (piece_of gl function.ret value pool inst.gives inst.op).pool own (λ k x e. typed (suc k) x e))
      where
        piece_is : IsOp program function inst.gives inst.op
        piece_is = typed 0 inst refl

        behind_is : (b : Bool) → (if b then value + 1 else value) + results insts ≡ value + (cond b 1 0 + results insts)
        behind_is true = omega arith
        behind_is false = omega arith

        by_jump : (j : Bool) → is_jump inst.op ≡ j
            → InstsWrite (if has_result inst then value + 1 else value) (results insts) (piece_of gl function.ret value pool inst.gives inst.op).pool.next (insts_ending gl function from (if has_result inst then value + 1 else value) (piece_of gl function.ret value pool inst.gives inst.op).pool own insts)
            → InstsWrite value (results (inst ∷ insts)) pool.next (insts_ending gl function from value pool own (inst ∷ insts))
        by_jump true e ih =
            let low = ending_writes r gl function from pool own inst.op in
            let more = below_more r value (value + results (inst ∷ insts)) (omega arith) in
            rw e (omega (arith, low, more))
        by_jump false e ih =
            let piece = piece_of gl function.ret value pool inst.gives inst.op in
            let rest = insts_ending gl function from (if has_result inst then value + 1 else value) piece.pool own insts in
            let one = piece_writes r gl program function value pool inst.gives inst.op piece_is in
            let one_low = one.0 in
            let one_long = one.1 in
            let both = count_both r piece.code rest.code in
            let long = append_long piece.types rest.types in
            let values_are = ap (below r) (behind_is (has_result inst) ∙ ap (λ (n : ℕ). value + n) (sym (results_cons inst insts))) in
            let next_is : below r (piece.pool.next + length rest.types) ≡ below r (pool.next + length (piece.types ++ rest.types)) = ap (below r) (let z : piece.pool.next + length rest.types ≡ pool.next + length (piece.types ++ rest.types) = omega (arith, one_long, long) in z) in
            rw e (omega (arith, ih, one_low, both, values_are, next_is))

    abbrev first_count : Bool → ℕ
    first_count b = count r (if b then params_code 0 function.params else [])

    later_first : (n : ℕ) → first_count (n + 1 == 0) ≡ 0
    later_first n = let e : (n + 1 == 0) ≡ false = grind arith in ap first_count e

    -- all blocks
    total : (es : List Edge) (blocks : List Block) (from value next own : ℕ) → ((k : ℕ) (x : Block) → slice_get blocks k ≡ Some x → (i : ℕ) (inst : Inst) → slice_get x.insts i ≡ Some inst → IsOp program function inst.gives inst.op)
        → count_all r (blocks_code gl function es from (bodies_from gl function from value next own blocks)) + (count_all r (flat_map (λ body. body.ending.later) (bodies_from gl function from value next own blocks)) + (below r value + below r next))
        ≤ first_count (from == 0) + (below r (value + results (instructions blocks)) + below r (next + length (flat_map (λ body. body.ending.types) (bodies_from gl function from value next own blocks))))
    total es [] from value next own typed =
        let a = ap (below r) (let z : value ≡ value + results [] = omega arith in z) in
        let b = ap (below r) (let z : next ≡ next + 0 = omega arith in z) in
        omega (arith, a, b)
    total es (x ∷ blocks) from value next own typed =
        let body = body_of gl function from value next own x.insts in
        let rest = bodies_from gl function (from + 1) (value + results x.insts) (next + length body.ending.types) (own + length body.ending.later) blocks in
        let ih = total es blocks (from + 1) (value + results x.insts) (next + length body.ending.types) (own + length body.ending.later) (λ k y e. typed (suc k) y e) in
        let no_more = later_first from in
        let heads_code = phis_code gl function body.value 0 (edges_to gl function from es) body.heads in
        let heads = phis_count value 0 (edges_to gl function from es) (phis x.insts) in
        let mid = insts_write (drop (length (phis x.insts)) x.insts) from (value + length (phis x.insts)) (empty_pool next) own (λ k inst e. typed 0 x refl (length (phis x.insts) + k) inst (get_drop (length (phis x.insts)) x.insts k inst e)) in
        let many = heads_count program function x.insts (typed 0 x refl) in
        let split = results_split (length (phis x.insts)) x.insts in
        let mid_is = ap (below r) (let z : value + length (phis x.insts) + results (drop (length (phis x.insts)) x.insts) ≡ value + results x.insts = omega (arith, many, split) in z) in
        let both = count_both r (if from == 0 then params_code 0 function.params else []) (heads_code ++ body.ending.code) in
        let both' = count_both r heads_code body.ending.code in
        let later = count_all_both r body.ending.later (flat_map (λ body. body.ending.later) rest) in
        let sum = sum_by-append (λ (z : Inst). cond (has_result z) 1 0) x.insts (instructions blocks) in
        let values_are = ap (below r) (let z : value + results x.insts + results (instructions blocks) ≡ value + results (instructions (x ∷ blocks)) = omega (arith, sum) in z) in
        let long = append_long body.ending.types (flat_map (λ body. body.ending.types) rest) in
        let types_are = ap (below r) (let z : next + length body.ending.types + length (flat_map (λ body. body.ending.types) rest) ≡ next + length (body.ending.types ++ flat_map (λ body. body.ending.types) rest) = omega (arith, long) in z) in
        omega (arith, ih, no_more, heads, mid, mid_is, both, both', later, values_are, types_are)

pub translated_writes_once : TranslatedWritesOnce
translated_writes_once program symbol function checked there r =
    let gl = program.module_.globals in
    let all = bodies program.module_.globals function in
    let es = flat_map (λ body. body.ending.edges) all in
    let front = blocks_code program.module_.globals function es 0 all in
    let further = flat_map (λ body. body.ending.later) all in
    let is = all_is r (front ++ further) in
    let both = count_all_both r front further in
    let most = total r program function es function.blocks 0 (length function.params) (value_count function) (length function.blocks)
    (λ k x e i inst at. ((checked-typed program checked).typed symbol function there).insts k i inst (ap (λ (o : Option Block). slice_get (insts_of o) i) e ∙ at)) in
    let params = params_count r 0 function.params in
    let bound = below_one r (value_count function + length (flat_map (λ body. body.ending.types) all)) in
    let same = ap (below r) (let z : 0 + length function.params ≡ length function.params = omega arith in z) in
    omega (arith, is, both, most, params, bound, same)
