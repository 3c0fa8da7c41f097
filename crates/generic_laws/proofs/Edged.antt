-- What the code of a block's end reads has been written, and so have the registers that phis read on its edges.
use Rattle.std.proofs.Common.{◌≡◌, refl, ap, ◌∙◌, ℕ, suc, ◌+◌, ◌⊎◌, inl, inr, Bool, true, false, List, [], ◌∷◌, ◌++◌, length, Some, arith}
use Rattle.std.specs.Prelude.{slice_get, if◌then◌else◌}
use Rattle.ir_core.specs.declared.types.Ty.{Ty}
use Rattle.ir_core.specs.declared.types.Ty.TheVariants.{Int}
use Rattle.ir_core.specs.declared.code.Operand.{Operand}
use Rattle.ir_core.specs.declared.code.Operand.TheVariants.{Num}
use Rattle.ir_core.specs.declared.code.Op.{Op}
use Rattle.ir_core.specs.declared.code.Op.TheVariants.{Br, CondBr, Switch}
use Rattle.ir_core.specs.declared.program.Function.{Function}
use Rattle.ir_core.specs.declared.program.Global.{Global}
use Rattle.ir_flow.specs.Code.{places, targets as op_targets, case_blocks}
use Rattle.ir_verify.proofs.Lists.{Every, every_both, every_map}
use Rattle.gmir.specs.declared.code.GOp.TheVariants as g
use Rattle.gmir.specs.declared.code.GInst.{GInst}
use Rattle.generic_code.specs.Literals.{Pool, Literal, plain, loads, registers, behind_all, empty_pool}
use Rattle.generic_code.specs.Parts.{first_register}
use Rattle.generic_code.specs.Edges.{Edge, Ending, jump_to, branch_on, spare, no_phis, goes_to, edge_operands, edge_code, edge_types, edge_uses, edge_blocks, edge_of, taken_at, test_code, branch, tests, ending_of}
use Rattle.generic_code.specs.Whole.{is_jump}
use Rattle.generic_laws.proofs.Lists.{get_left, get_right}
use Rattle.generic_laws.proofs.Apart.{spare_long}
use Rattle.generic_laws.proofs.Scopes.{After, Reads, after_keeps, after_both, reads_both, writes_it, Can, can_more, Loaded, loaded_gives}
use Rattle.generic_laws.proofs.Served.{then_reads}

module _ (globals : List Global) (function : Function) (from : ℕ) where
  -- what phis read on the edge to a block is there
  abbrev pub CanGo : (ℕ → Type 0) → ℕ → Type 0
  CanGo S to = Every (Can S) (edge_operands globals function from to)

  -- an edge is taken by the code at its block, or by a further block, and its registers are there at the end
  abbrev pub Serves : (ℕ → Type 0) → (ℕ → Type 0) → ℕ → ℕ → List GInst → List (List GInst) → Edge → Type 0
  Serves S T at own code later e =
      no_phis globals function e.to ≡ false → ((e.at ≡ at) × Every (After S code) e.uses) ⊎ ((j : ℕ) × (block : List GInst) × (slice_get later j ≡ Some block) × (e.at ≡ own + j) × Every (After T block) e.uses)

  -- the code of an end, with registers that are there where it begins, and where its further blocks do
  pub record Ends (S T : ℕ → Type 0) (at own : ℕ) (e : Ending) : Type 0 where
    pub reads : Reads S e.code
    pub later : Every (Reads T) e.later
    pub edges : Every (Serves S T at own e.code e.later) e.edges

  edge_loaded : (S : ℕ → Type 0) (pool : Pool) (to : ℕ) → Every (λ (k : Literal × ℕ). S k.1) pool.known → CanGo S to → Loaded globals S pool (edge_operands globals function from to)
  edge_loaded S pool to h c = loaded_gives globals (edge_operands globals function from to) S pool h c

  edge_reads : (S : ℕ → Type 0) (pool : Pool) (to : ℕ) → Every (λ (k : Literal × ℕ). S k.1) pool.known → CanGo S to → Reads S (edge_code globals function from pool to)
  edge_reads S pool to h c = then_reads globals S pool (edge_operands globals function from to) (jump_to to ∷ []) (edge_loaded S pool to h c) (tt, tt)

  edge_there : (S : ℕ → Type 0) (pool : Pool) (to : ℕ) → Every (λ (k : Literal × ℕ). S k.1) pool.known → CanGo S to → Every (After S (edge_code globals function from pool to)) (edge_uses globals function from pool to)
  edge_there S pool to h c =
      let first = loads globals pool (edge_operands globals function from to) in
      every_map (After S first) (After S (first ++ jump_to to ∷ [])) (edge_uses globals function from pool to) (λ q s. after_both first (jump_to to ∷ []) S q (inl s)) (edge_loaded S pool to h c).there

  block_reads : (T : ℕ → Type 0) (next to : ℕ) → CanGo T to → Every (Reads T) (edge_blocks globals function from next to)
  block_reads T next to c = by_phis (no_phis globals function to)
    where
      by_phis : (n : Bool) → Every (Reads T) (if n then [] else edge_code globals function from (empty_pool next) to ∷ [])
      by_phis true = tt
      by_phis false = (edge_reads T (empty_pool next) to tt c, tt)

  own_takes : (at own to : ℕ) → no_phis globals function to ≡ false → taken_at globals function from at own to ≡ own
  own_takes at own to e = ap (λ (b : Bool). if b then at else own) e

  block_is : (next to : ℕ) → no_phis globals function to ≡ false → slice_get (edge_blocks globals function from next to) 0 ≡ Some (edge_code globals function from (empty_pool next) to)
  block_is next to e = ap (λ (b : Bool). slice_get (if b then [] else edge_code globals function from (empty_pool next) to ∷ []) 0) e

  module _ (S T : ℕ → Type 0) where
    first_serves : (at next own to : ℕ) (code : List GInst) (more : List (List GInst)) → CanGo T to → Serves S T at own code (edge_blocks globals function from next to ++ more) (edge_of globals function from at next own to)
    first_serves at next own to code more c p =
        inr (0, edge_code globals function from (empty_pool next) to, get_left (edge_blocks globals function from next to) more 0 (edge_code globals function from (empty_pool next) to) (block_is next to p), own_takes at own to p ∙ (let z : own ≡ own + 0 = omega arith in z), edge_there T (empty_pool next) to tt c)

    branch_served : (at next own bit if_one if_zero : ℕ) → S bit → CanGo T if_one → CanGo T if_zero → Ends S T at own (branch globals function from at next own bit if_one if_zero)
    branch_served at next own bit if_one if_zero s c c' =
        let second = next + length (edge_types globals function from (empty_pool next) if_one) in
        let blocks = edge_blocks globals function from next if_one in
        let long = spare_long globals function from next if_one in
        record {
          reads = ((s, tt), tt);
          later = every_both (Reads T) blocks (edge_blocks globals function from second if_zero) (block_reads T next if_one c) (block_reads T second if_zero c');
          edges = (
            first_serves at next own if_one (branch globals function from at next own bit if_one if_zero).code (edge_blocks globals function from second if_zero) c,
            (
              (λ p. inr (
                length blocks + 0,
                edge_code globals function from (empty_pool second) if_zero,
                get_right blocks (edge_blocks globals function from second if_zero) 0 ∙ block_is second if_zero p,
                own_takes at (own + spare globals function if_one) if_zero p ∙ (let z : own + spare globals function if_one ≡ own + (length blocks + 0) = omega (arith, long) in z),
                edge_there T (empty_pool second) if_zero tt c',
              )),
              tt,
            ),
          );
        }

    -- with code before, and more blocks before
    pub code_before : (at own : ℕ) (before : List GInst) (code : List GInst) (later : List (List GInst)) (e : Edge) → Serves (After S before) T at own code later e → Serves S T at own (before ++ code) later e
    code_before at own before code later e h p = by_kind (h p)
      where
        by_kind : ((e.at ≡ at) × Every (After (After S before) code) e.uses) ⊎ ((j : ℕ) × (block : List GInst) × (slice_get later j ≡ Some block) × (e.at ≡ own + j) × Every (After T block) e.uses)
            → ((e.at ≡ at) × Every (After S (before ++ code)) e.uses) ⊎ ((j : ℕ) × (block : List GInst) × (slice_get later j ≡ Some block) × (e.at ≡ own + j) × Every (After T block) e.uses)
        by_kind (inl (same, uses)) = inl (same, every_map (After (After S before) code) (After S (before ++ code)) e.uses (after_both before code S) uses)
        by_kind (inr other) = inr other

    blocks_before : (at own on : ℕ) (before : List (List GInst)) (this code : List GInst) (later : List (List GInst)) → on ≡ own + length before → (e : Edge) → Serves T T on (on + 1) code later e → Serves S T at own this (before ++ code ∷ later) e
    blocks_before at own on before this code later is e h p = by_kind (h p)
      where
        by_kind : ((e.at ≡ on) × Every (After T code) e.uses) ⊎ ((j : ℕ) × (block : List GInst) × (slice_get later j ≡ Some block) × (e.at ≡ on + 1 + j) × Every (After T block) e.uses)
            → ((e.at ≡ at) × Every (After S this) e.uses) ⊎ ((j : ℕ) × (block : List GInst) × (slice_get (before ++ code ∷ later) j ≡ Some block) × (e.at ≡ own + j) × Every (After T block) e.uses)
        by_kind (inl (same, uses)) = inr (length before + 0, code, get_right before (code ∷ later) 0, omega (arith, same, is), uses)
        by_kind (inr (j, block, get, same, uses)) = inr (length before + suc j, block, get_right before (code ∷ later) (suc j) ∙ get, omega (arith, same, is), uses)

    pub end_before : (at own : ℕ) (before : List GInst) (e : Ending) → Reads S before → Ends (After S before) T at own e
        → Reads S (before ++ e.code) × Every (Reads T) e.later × Every (Serves S T at own (before ++ e.code) e.later) e.edges
    end_before at own before e r h =
        (reads_both before e.code S r h.reads, h.later, every_map (Serves (After S before) T at own e.code e.later) (Serves S T at own (before ++ e.code) e.later) e.edges (code_before at own before e.code e.later) h.edges)

    -- the code of a test, whose bit is there behind it
    test_reads : (of : Ty) (r : ℕ) (pool : Pool) (n : ℕ) → Every (λ (k : Literal × ℕ). S k.1) pool.known → S r
        → Reads S (test_code globals function from of r pool n) × After S (test_code globals function from of r pool n) (behind_all globals pool ((of, Num n) ∷ [])).next
    test_reads of r pool n h s =
        let ops : List (Ty × Operand) = (of, Num n) ∷ [] in
        let l = loaded_gives globals ops S pool h (tt, tt) in
        let first = loads globals pool ops in
        let d = (behind_all globals pool ops).next in
        let last : GInst = plain g.Icmp (d ∷ []) (r ∷ registers globals pool ops) 0 in
        (then_reads globals S pool ops (last ∷ []) l ((after_keeps first S r s, l.there), tt), after_both first (last ∷ []) S d (inr (writes_it d [])))

  tests_served : (cases : List (ℕ × ℕ)) (S T : ℕ → Type 0) (of : Ty) (r otherwise at : ℕ) (pool : Pool) (own : ℕ) → Every (λ (k : Literal × ℕ). S k.1) pool.known → S r → T r → CanGo S otherwise → CanGo T otherwise → Every (CanGo T) (case_blocks cases)
      → Ends S T at own (tests globals function from of r otherwise at pool own cases)
  tests_served [] S T of r otherwise at pool own h s t c c' cs = record { reads = edge_reads S pool otherwise h c; later = tt; edges = ((λ p. inl (refl, edge_there S pool otherwise h c)), tt) }
  tests_served (one ∷ []) S T of r otherwise at pool own h s t c c' cs =
      let bit = (behind_all globals pool ((of, Num one.0) ∷ [])).next in
      let way = branch globals function from at (bit + 1) own bit one.1 otherwise in
      let test = test_reads S T of r pool one.0 h s in
      let code = test_code globals function from of r pool one.0 in
      let all = end_before S T at own code way test.0 (branch_served (After S code) T at (bit + 1) own bit one.1 otherwise test.1 cs.0 c') in
      record { reads = all.0; later = all.1; edges = all.2 }
  tests_served (one ∷ two ∷ cases) S T of r otherwise at pool own h s t c c' cs =
      let bit = (behind_all globals pool ((of, Num one.0) ∷ [])).next in
      let next = bit + 1 + length (edge_types globals function from (empty_pool (bit + 1)) one.1) in
      let on = own + spare globals function one.1 in
      let rest = tests globals function from of r otherwise on (empty_pool next) (on + 1) (two ∷ cases) in
      let code = test_code globals function from of r pool one.0 in
      let last = branch_on bit (goes_to globals function from own one.1) on in
      let blocks = edge_blocks globals function from (bit + 1) one.1 in
      let long = spare_long globals function from (bit + 1) one.1 in
      let is : on ≡ own + length blocks = omega (arith, long) in
      let test = test_reads S T of r pool one.0 h s in
      let ih = tests_served (two ∷ cases) T T of r otherwise on (empty_pool next) (on + 1) tt t t c' c' cs.1 in
      record {
        reads = reads_both code (last ∷ []) S test.0 ((test.1, tt), tt);
        later = every_both (Reads T) blocks (rest.code ∷ rest.later) (block_reads T (bit + 1) one.1 cs.0) (ih.reads, ih.later);
        edges = (
          first_serves S T at (bit + 1) own one.1 (code ++ last ∷ []) (rest.code ∷ rest.later) cs.0,
          every_map (Serves T T on (on + 1) rest.code rest.later) (Serves S T at own (code ++ last ∷ []) (blocks ++ rest.code ∷ rest.later)) rest.edges (blocks_before S T at own on blocks (code ++ last ∷ []) rest.code rest.later is) ih.edges,
        );
      }

  -- ---- each end

  pub ending_served : (S T : ℕ → Type 0) (pool : Pool) (own : ℕ) (ty : Ty) (op : Op) → is_jump op ≡ true → Every (λ (k : Literal × ℕ). S k.1) pool.known → Every (Can S) (places function.ret ty op)
      → ((q : ℕ) → After S (ending_of globals function from pool own op).code q → T q) → Every (CanGo S) (op_targets op) → Every (CanGo T) (op_targets op) → Ends S T from own (ending_of globals function from pool own op)
  ending_served S T pool own ty (Br to) j h k more c c' = record { reads = edge_reads S pool to h c.0; later = tt; edges = ((λ p. inl (refl, edge_there S pool to h c.0)), tt) }
  ending_served S T pool own ty (CondBr x y z) j h k more c c' =
      let ops : List (Ty × Operand) = (Int 1, x) ∷ [] in
      let l = loaded_gives globals ops S pool h k in
      let first = loads globals pool ops in
      let way = branch globals function from from (behind_all globals pool ops).next own (first_register (registers globals pool ops)) y z in
      let all = end_before S T from own first way l.reads (branch_served (After S first) T from (behind_all globals pool ops).next own (first_register (registers globals pool ops)) y z l.there.0 c'.0 c'.1.0) in
      record { reads = all.0; later = all.1; edges = all.2 }
  ending_served S T pool own ty (Switch of a otherwise cases) j h k more c c' =
      let ops : List (Ty × Operand) = (of, a) ∷ [] in
      let l = loaded_gives globals ops S pool h k in
      let first = loads globals pool ops in
      let r = first_register (registers globals pool ops) in
      let way = tests globals function from of r otherwise from (behind_all globals pool ops) own cases in
      let there = more r (after_both first way.code S r (after_keeps way.code (After S first) r l.there.0)) in
      let c_first = every_map (Can S) (Can (After S first)) (edge_operands globals function from otherwise) (λ x q. can_more S (After S first) (after_keeps first S) x q) c.0 in
      let all = end_before S T from own first way l.reads (tests_served cases (After S first) T of r otherwise from (behind_all globals pool ops) own l.held l.there.0 there c_first c'.0 c'.1) in
      record { reads = all.0; later = all.1; edges = all.2 }
  ending_served S T pool own ty op j h k more c c' = absurd (let bad : ⊥ = cc in bad)
