-- What takes data stands in the first block.
use Rattle.std.proofs.Common.{◌≡◌, refl, sym, ap, subst, ◌∙◌, ℕ, zero, suc, ◌+◌, Bool, true, false, List, [], ◌∷◌, ◌++◌, length, Some, arith}
use Rattle.std.specs.Prelude.{slice_get, slice_index_or, drop, flat_map, ◌==◌, ◌&&◌, not, if◌then◌else◌}
use Rattle.std.proofs.lemmas.Bool.{and_parts}
use Rattle.ir_core.specs.Program.{Program}
use Rattle.ir_core.specs.Units.{has_result}
use Rattle.ir_core.specs.declared.types.Ty.{Ty}
use Rattle.ir_core.specs.declared.code.Op.{Op}
use Rattle.ir_core.specs.declared.code.Operand.{Operand}
use Rattle.ir_core.specs.declared.code.Inst.{Inst}
use Rattle.ir_core.specs.declared.program.Function.{Function}
use Rattle.ir_core.specs.declared.program.Global.{Global}
use Rattle.ir_flow.specs.Code.{is_alloca}
use Rattle.ir_meaning.specs.Operators.{width}
use Rattle.ir_meaning.specs.Step.{function_at, insts_of, insts_at, number_at}
use Rattle.ir_verify.specs.Shapes.{ends_once, fits_number, has_phis_first, has_no_alloca, all_cases_distinct}
use Rattle.ir_verify.specs.Verdict.{IsChecked}
use Rattle.ir_verify.specs.Laws.{IsWellFormed}
use Rattle.ir_verify.proofs.Lists.{Every, every_both, every_at}
use Rattle.ir_verify.proofs.WellFormed.{well_formed}
use Rattle.gmir.specs.declared.code.GOp.{GOp}
use Rattle.gmir.specs.declared.code.GOp.TheVariants as g
use Rattle.gmir.specs.declared.code.GInst.{GInst}
use Rattle.gmir.specs.declared.code.GFunction.{GFunction}
use Rattle.gmir.specs.Play as play
use Rattle.gmir.specs.Formed.{takes_data}
use Rattle.generic_code.specs.Literals.{Pool, empty_pool}
use Rattle.generic_code.specs.Code.{address, piece_of}
use Rattle.generic_code.specs.Edges.{Edge, Ending, heads}
use Rattle.generic_code.specs.Whole.{Body, bodies, is_jump, insts_ending, params_code, phis_code, blocks_code, edges_to, translated}
use Rattle.generic_laws.specs.Laws.{TranslatedTakesDataFirst}
use Rattle.generic_laws.proofs.Philess.{ordinary, loads_then, each_piece, each_ending}
use Rattle.generic_laws.proofs.Blocks.{body_of, every_flat}

abbrev pub NoData : GInst → Type 0
NoData i = takes_data i.op ≡ false

no_data : (i : GInst) → ordinary i.op ≡ true → NoData i
no_data i e = by_op i.op e
  where
    by_op : (o : GOp) → ordinary o ≡ true → takes_data o ≡ false
    by_op g.TakeData e = absurd (let bad : ⊥ = cc in bad)
    by_op o e = refl

none_dropped : (n : ℕ) (insts : List Inst) → has_no_alloca insts ≡ true → has_no_alloca (drop n insts) ≡ true
none_dropped zero [] h = h
none_dropped zero (x ∷ xs) h = h
none_dropped (suc n) [] h = h
none_dropped (suc n) (x ∷ xs) h = none_dropped n xs (and_parts (not (is_alloca x.op)) (has_no_alloca xs) h).1

module _ (globals : List Global) (function : Function) (from : ℕ) where
  address_no_data : (wide : Bool) (value : ℕ) (pool : Pool) (ops : List (Ty × Operand)) → Every NoData (address globals wide pool value ops).code
  address_no_data true value pool ops = loads_then globals NoData no_data pool ops _ (refl, tt)
  address_no_data false value pool ops = loads_then globals NoData no_data pool ops _ (refl, (refl, tt))

  piece_no_data : (ret : Ty) (value : ℕ) (pool : Pool) (ty : Ty) (op : Op) → not (is_alloca op) ≡ true → Every NoData (piece_of globals ret value pool ty op).code
  piece_no_data ret value pool ty op h =
      each_piece globals NoData no_data ret value pool ty op (λ flags of a e. address_no_data (width of == 64) value pool ((of, a) ∷ []))
      (λ of count num e. absurd (let bad : false ≡ true = sym (ap (λ (o : Op). not (is_alloca o)) e) ∙ h in let no_way : ⊥ = cc in no_way))

  -- where no instruction is an `alloca`, none takes data; and further blocks never do
  abbrev LaterOnly : Ending → Type 0
  LaterOnly e = Every (Every NoData) e.later

  insts_no_data : (insts : List Inst) (value : ℕ) (pool : Pool) (own : ℕ) → has_no_alloca insts ≡ true → Every NoData (insts_ending globals function from value pool own insts).code
  insts_no_data [] value pool own h = tt
  insts_no_data (inst ∷ insts) value pool own h =
      let parts = and_parts (not (is_alloca inst.op)) (has_no_alloca insts) h in
      by_jump (is_jump inst.op) refl
      (every_both NoData (piece_of globals function.ret value pool inst.gives inst.op).code (insts_ending globals function from (if has_result inst then value + 1 else value) (piece_of globals function.ret value pool inst.gives inst.op).pool own insts).code
      (piece_no_data function.ret value pool inst.gives inst.op parts.0) (insts_no_data insts (if has_result inst then value + 1 else value) (piece_of globals function.ret value pool inst.gives inst.op).pool own parts.1))
    where
      by_jump : (j : Bool) → is_jump inst.op ≡ j
          → Every NoData ((piece_of globals function.ret value pool inst.gives inst.op).code ++ (insts_ending globals function from (if has_result inst then value + 1 else value) (piece_of globals function.ret value pool inst.gives inst.op).pool own insts).code)
          → Every NoData (insts_ending globals function from value pool own (inst ∷ insts)).code
      by_jump true e h = rw e (each_ending globals NoData no_data function from pool own inst.op e).0
      by_jump false e h = rw e h

  later_no_data : (insts : List Inst) (value : ℕ) (pool : Pool) (own : ℕ) → LaterOnly (insts_ending globals function from value pool own insts)
  later_no_data [] value pool own = tt
  later_no_data (inst ∷ insts) value pool own =
      by_jump (is_jump inst.op) refl (later_no_data insts (if has_result inst then value + 1 else value) (piece_of globals function.ret value pool inst.gives inst.op).pool own)
    where
      by_jump : (j : Bool) → is_jump inst.op ≡ j → LaterOnly (insts_ending globals function from (if has_result inst then value + 1 else value) (piece_of globals function.ret value pool inst.gives inst.op).pool own insts)
          → LaterOnly (insts_ending globals function from value pool own (inst ∷ insts))
      by_jump true e h = rw e (each_ending globals NoData no_data function from pool own inst.op e).1
      by_jump false e h = rw e h

module _ (program : Program) (checked : IsChecked program) (symbol : ℕ) (function : Function) (there : function_at program symbol ≡ Some function) where
  abbrev gl : List Global
  gl = program.module_.globals

  abbrev f : GFunction
  f = translated program symbol function

  formed : IsWellFormed program.module_ function
  formed = (well_formed program checked).2 symbol function there

  abbrev es : List Edge
  es = flat_map (λ body. body.ending.edges) (bodies program.module_.globals function)

  no_allocas : (k : ℕ) (insts : List Inst) → (k ≡ 0 → ⊥) → fits_number k insts ≡ true → has_no_alloca insts ≡ true
  no_allocas zero insts h e = absurd (h refl)
  no_allocas (suc k) insts h e = (and_parts (has_phis_first insts) (has_no_alloca insts) e).1

  body_no_data : (k : ℕ) (body : Body) → (k ≡ 0 → ⊥) → slice_get (bodies gl function) k ≡ Some body → Every NoData body.ending.code
  body_no_data k body later e =
      let b = body_of program checked symbol function there k body e in
      let p = b.at in
      let outer = and_parts (ends_once b.block.insts && fits_number k b.block.insts) (all_cases_distinct b.block.insts) (formed.shaped k b.block b.there') in
      let shape = (and_parts (ends_once b.block.insts) (fits_number k b.block.insts) outer.0).1 in
      let none : has_no_alloca (insts_at function k) ≡ true = subst (λ (is : List Inst). has_no_alloca is ≡ true) (sym (let z : insts_at function k ≡ b.block.insts = ap insts_of b.there' in z)) (no_allocas k b.block.insts later shape) in
      subst (λ (x : Body). Every NoData x.ending.code) b.same
      (subst (λ (z : Ending). Every NoData z.code) (sym p.ending_is)
      (insts_no_data gl function k (drop (length (heads gl function k)) (insts_at function k)) (number_at function k (length (heads gl function k))) (empty_pool p.next) p.own (none_dropped (length (heads gl function k)) (insts_at function k) none)))

  body_later : (k : ℕ) (body : Body) → slice_get (bodies gl function) k ≡ Some body → Every (Every NoData) body.ending.later
  body_later k body e =
      let b = body_of program checked symbol function there k body e in
      let p = b.at in
      subst (λ (x : Body). Every (Every NoData) x.ending.later) b.same
      (subst (λ (z : Ending). Every (Every NoData) z.later) (sym p.ending_is)
      (later_no_data gl function k (drop (length (heads gl function k)) (insts_at function k)) (number_at function k (length (heads gl function k))) (empty_pool p.next) p.own))

  params_no_data : (place : ℕ) (tys : List Ty) → Every NoData (params_code place tys)
  params_no_data place [] = tt
  params_no_data place (ty ∷ tys) = (refl, params_no_data (place + 1) tys)

  first_no_data : (t : Bool) → Every NoData (if t then params_code 0 function.params else [])
  first_no_data true = params_no_data 0 function.params
  first_no_data false = tt

  phis_no_data : (value place : ℕ) (all : List Edge) (insts : List Inst) → Every NoData (phis_code gl function value place all insts)
  phis_no_data value place all [] = tt
  phis_no_data value place all (inst ∷ insts) = (refl, phis_no_data (value + 1) (place + 1) all insts)

  -- of blocks from a number on, and those behind them
  blocks_no_data : (number : ℕ) (all : List Body) (behind : List (List GInst)) → ((k : ℕ) (body : Body) → slice_get all k ≡ Some body → (number + k ≡ 0 → ⊥) → Every NoData body.ending.code) → Every (Every NoData) behind
      → (k : ℕ) → (number + k ≡ 0 → ⊥) → Every NoData (slice_index_or (blocks_code gl function es number all ++ behind) k [])
  blocks_no_data number [] [] h h' k later = tt
  blocks_no_data number [] (x ∷ behind) h h' zero later = h'.0
  blocks_no_data number [] (x ∷ behind) h h' (suc k) later = blocks_no_data (number + 1) [] behind (λ j y e z. absurd (let bad : ⊥ = cc in bad)) h'.1 k (λ z. let bad : ⊥ = omega (arith, z) in bad)
  blocks_no_data number (body ∷ all) behind h h' zero later =
      every_both NoData (if number == 0 then params_code 0 function.params else []) (phis_code gl function body.value 0 (edges_to gl function number es) body.heads ++ body.ending.code) (first_no_data (number == 0))
      (every_both NoData (phis_code gl function body.value 0 (edges_to gl function number es) body.heads) body.ending.code (phis_no_data body.value 0 (edges_to gl function number es) body.heads) (h 0 body refl later))
  blocks_no_data number (body ∷ all) behind h h' (suc k) later =
      blocks_no_data (number + 1) all behind (λ j y e z. h (suc j) y e (λ z'. let bad : ⊥ = omega (arith, z') in bad)) h' k (λ z. let bad : ⊥ = omega (arith, z) in bad)

  all_no_data : (block : ℕ) → (block ≡ 0 → ⊥) → Every NoData (play.insts_at f block)
  all_no_data block later =
      blocks_no_data 0 (bodies gl function) (flat_map (λ body. body.ending.later) (bodies gl function)) (λ k body e z. body_no_data k body (λ same. z (omega (arith, same))) e)
      (every_flat (Every NoData) (λ (body : Body). body.ending.later) (bodies gl function) body_later) block (λ z. later (omega (arith, z)))

  pub data_first : (block k : ℕ) (i : GInst) → slice_get (play.insts_at f block) k ≡ Some i → takes_data i.op ≡ true → block ≡ 0
  data_first zero k i at t = refl
  data_first (suc block) k i at t =
      let none = every_at NoData (play.insts_at f (suc block)) k i (all_no_data (suc block) (λ z. let bad : ⊥ = omega (arith, z) in bad)) at in
      absurd (let bad : false ≡ true = sym none ∙ t in let no_way : ⊥ = cc in no_way)

pub translated_takes_data_first : TranslatedTakesDataFirst
translated_takes_data_first program symbol function checked there = data_first program checked symbol function there
