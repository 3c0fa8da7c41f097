-- Each use of a checked function is assigned, block by block and instruction by instruction, and so is what phis read on edges.
use Rattle.std.proofs.Common.{◌≡◌, refl, subst, ℕ, zero, suc, ◌+◌, Bool, true, false, List, [], ◌∷◌, map, Option, Some, None, arith}
use Rattle.std.specs.Prelude.{slice_get, slice_index, ◌==◌, if◌then◌else◌}
use Rattle.ir_core.specs.declared.types.Ty.{Ty}
use Rattle.ir_core.specs.declared.code.Operand.{Operand}
use Rattle.ir_core.specs.declared.code.Operand.TheVariants.{Value as Local, Num, Null, Place, Poison}
use Rattle.ir_core.specs.declared.code.Op.{Op}
use Rattle.ir_core.specs.declared.code.Op.TheVariants.{Phi}
use Rattle.ir_core.specs.declared.code.Inst.{Inst}
use Rattle.ir_core.specs.declared.code.Block.{Block}
use Rattle.ir_core.specs.declared.program.Function.{Function}
use Rattle.ir_flow.specs.declared.uses.Use.{Use}
use Rattle.ir_flow.specs.Assigned.{firsts_of, IsAssigned, IsUseAssigned, AllAssigned, use_of, uses_of, uses_of_places, uses_of_pairs, uses_in_block, uses_in_blocks, uses, behind}
use Rattle.ir_flow.specs.Code.{places, is_phi}
use Rattle.ir_core.specs.declared.program.Global.{Global}
use Rattle.ir_meaning.specs.Step.{on_edge, insts_of, phis}
use Rattle.generic_code.specs.Edges.{edge_operands, phi_operand}
use Rattle.ir_verify.proofs.Lists.{Every, every_left, every_right}
use Rattle.generic_laws.proofs.Blocks.{every_by}
use Rattle.generic_laws.proofs.Scopes.{CanBe, Can}

module _ (function : Function) where
  use_can : (block before : ℕ) (a : Operand) → Every (λ (u : Use). IsUseAssigned function u) (use_of block before a) → CanBe (IsAssigned function block before) a
  use_can block before (Local number) h = h.0
  use_can block before (Num n) h = tt
  use_can block before Null h = tt
  use_can block before (Place global offset) h = tt
  use_can block before Poison h = tt

  places_can : (block before : ℕ) (ops : List (Ty × Operand)) → Every (λ (u : Use). IsUseAssigned function u) (uses_of_places block before ops) → Every (Can (IsAssigned function block before)) ops
  places_can block before [] h = tt
  places_can block before (one ∷ more) h =
      let first = use_of block before one.1 in
      let rest = uses_of_places block before more in
      (use_can block before one.1 (every_left (λ (u : Use). IsUseAssigned function u) first rest h), places_can block before more (every_right (λ (u : Use). IsUseAssigned function u) first rest h))

  -- the operands of an instruction that is no phi
  pub inst_can : (firsts : List ℕ) (ret : Ty) (block before : ℕ) (ty : Ty) (op : Op) → is_phi op ≡ false → Every (λ (u : Use). IsUseAssigned function u) (uses_of firsts ret block before (record { gives = ty; op = op }))
      → Every (Can (IsAssigned function block before)) (places ret ty op)
  inst_can firsts ret block before ty (Phi pairs) p h = absurd (let bad : ⊥ = cc in bad)
  inst_can firsts ret block before ty op p h = places_can block before (places ret ty op) h

  -- what a phi reads on an edge from a block is assigned at that block's end
  pub pairs_can : (firsts : List ℕ) (pairs : List (Operand × ℕ)) (from : ℕ) → Every (λ (u : Use). IsUseAssigned function u) (uses_of_pairs firsts pairs) → CanBe (IsAssigned function from (slice_index firsts (from + 1))) (on_edge from pairs)
  pairs_can firsts [] from h = tt
  pairs_can firsts (pair ∷ pairs) from h =
      let first = use_of pair.1 (slice_index firsts (pair.1 + 1)) pair.0 in
      let rest = uses_of_pairs firsts pairs in
      by_test (pair.1 == from) refl (use_can pair.1 (slice_index firsts (pair.1 + 1)) pair.0 (every_left (λ (u : Use). IsUseAssigned function u) first rest h)) (pairs_can firsts pairs from (every_right (λ (u : Use). IsUseAssigned function u) first rest h))
    where
      by_test : (t : Bool) → (pair.1 == from) ≡ t → CanBe (IsAssigned function pair.1 (slice_index firsts (pair.1 + 1))) pair.0 → CanBe (IsAssigned function from (slice_index firsts (from + 1))) (on_edge from pairs)
          → CanBe (IsAssigned function from (slice_index firsts (from + 1))) (if t then pair.0 else on_edge from pairs)
      by_test true e here more = subst (λ (n : ℕ). CanBe (IsAssigned function n (slice_index firsts (n + 1))) pair.0) (let same : pair.1 ≡ from = grind (arith, e) in same) here
      by_test false e here more = more

  block_uses : (firsts : List ℕ) (ret : Ty) (blocks : List Block) (number k : ℕ) (x : Block) → slice_get blocks k ≡ Some x → Every (λ (u : Use). IsUseAssigned function u) (uses_in_blocks firsts ret number blocks)
      → Every (λ (u : Use). IsUseAssigned function u) (uses_in_block firsts ret (number + k) (slice_index firsts (number + k)) x.insts)
  block_uses firsts ret [] number k x e h = absurd (let bad : ⊥ = cc in bad)
  block_uses firsts ret (y ∷ blocks) number zero x e h =
      let same : y ≡ x = cc in
      subst (λ (z : Block). Every (λ (u : Use). IsUseAssigned function u) (uses_in_block firsts ret (number + 0) (slice_index firsts (number + 0)) z.insts)) same
      (subst (λ (n : ℕ). Every (λ (u : Use). IsUseAssigned function u) (uses_in_block firsts ret n (slice_index firsts n) y.insts)) (let z : number ≡ number + 0 = omega arith in z)
      (every_left (λ (u : Use). IsUseAssigned function u) (uses_in_block firsts ret number (slice_index firsts number) y.insts) (uses_in_blocks firsts ret (number + 1) blocks) h))
  block_uses firsts ret (y ∷ blocks) number (suc k) x e h =
      subst (λ (n : ℕ). Every (λ (u : Use). IsUseAssigned function u) (uses_in_block firsts ret n (slice_index firsts n) x.insts)) (let z : number + 1 + k ≡ number + suc k = omega arith in z)
      (block_uses firsts ret blocks (number + 1) k x e (every_right (λ (u : Use). IsUseAssigned function u) (uses_in_block firsts ret number (slice_index firsts number) y.insts) (uses_in_blocks firsts ret (number + 1) blocks) h))

  -- the uses of a block
  pub uses_at : AllAssigned function → (k : ℕ) (x : Block) → slice_get function.blocks k ≡ Some x → Every (λ (u : Use). IsUseAssigned function u) (uses_in_block (firsts_of function) function.ret k (slice_index (firsts_of function) k) x.insts)
  uses_at assigned k x e =
      subst (λ (n : ℕ). Every (λ (u : Use). IsUseAssigned function u) (uses_in_block (firsts_of function) function.ret n (slice_index (firsts_of function) n) x.insts)) (let z : 0 + k ≡ k = omega arith in z)
      (block_uses (firsts_of function) function.ret function.blocks 0 k x e (every_by (λ (u : Use). IsUseAssigned function u) (uses function) assigned))

  -- the uses of each instruction of a block, by the number of its first value
  pub inst_uses : (firsts : List ℕ) (ret : Ty) (block before : ℕ) (inst : Inst) (insts : List Inst) → Every (λ (u : Use). IsUseAssigned function u) (uses_in_block firsts ret block before (inst ∷ insts))
      → Every (λ (u : Use). IsUseAssigned function u) (uses_of firsts ret block before inst) × Every (λ (u : Use). IsUseAssigned function u) (uses_in_block firsts ret block (behind before inst) insts)
  inst_uses firsts ret block before inst insts h = (
    every_left (λ (u : Use). IsUseAssigned function u) (uses_of firsts ret block before inst) (uses_in_block firsts ret block (behind before inst) insts) h,
    every_right (λ (u : Use). IsUseAssigned function u) (uses_of firsts ret block before inst) (uses_in_block firsts ret block (behind before inst) insts) h,
  )

  -- what the phis of a block read on an edge from another is assigned at that block's end
  heads_can : (firsts : List ℕ) (ret : Ty) (block before from : ℕ) (insts : List Inst) → Every (λ (u : Use). IsUseAssigned function u) (uses_in_block firsts ret block before insts)
      → Every (Can (IsAssigned function from (slice_index firsts (from + 1)))) (map (λ (inst : Inst). (inst.gives, phi_operand from inst.op)) (phis insts))
  heads_can firsts ret block before from [] h = tt
  heads_can firsts ret block before from (inst ∷ insts) h =
      let two = inst_uses firsts ret block before inst insts h in
      by_op inst.gives inst.op two.0 (heads_can firsts ret block (behind before inst) from insts two.1)
    where
      by_op : (ty : Ty) (op : Op) → Every (λ (u : Use). IsUseAssigned function u) (uses_of firsts ret block before (record { gives = ty; op = op }))
          → Every (Can (IsAssigned function from (slice_index firsts (from + 1)))) (map (λ (inst : Inst). (inst.gives, phi_operand from inst.op)) (phis insts))
          → Every (Can (IsAssigned function from (slice_index firsts (from + 1)))) (map (λ (inst : Inst). (inst.gives, phi_operand from inst.op)) (phis (record { gives = ty; op = op } ∷ insts)))
      by_op ty (Phi pairs) h ih = (pairs_can firsts pairs from h, ih)
      by_op ty op h ih = tt

  pub edge_can : (globals : List Global) → AllAssigned function → (from to : ℕ) → Every (Can (IsAssigned function from (slice_index (firsts_of function) (from + 1)))) (edge_operands globals function from to)
  edge_can globals assigned from to = by_block (slice_get function.blocks to) refl
    where
      by_block : (o : Option Block) → slice_get function.blocks to ≡ o → Every (Can (IsAssigned function from (slice_index (firsts_of function) (from + 1)))) (map (λ (inst : Inst). (inst.gives, phi_operand from inst.op)) (phis (insts_of o)))
      by_block None e = tt
      by_block (Some x) e = heads_can (firsts_of function) function.ret to (slice_index (firsts_of function) to) from x.insts (uses_at assigned to x e)
