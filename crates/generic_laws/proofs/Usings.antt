-- The uses of a block of a checked function are assigned as its code asks.
use Rattle.std.proofs.Common.{◌≡◌, refl, subst, ℕ, suc, ◌+◌, ◌<◌, ◌≤◌, ◌⊎◌, inl, inr, Bool, true, false, List, [], ◌∷◌, length, Some, arith}
use Rattle.std.specs.Prelude.{slice_get, slice_index, if◌then◌else◌}
use Rattle.std.proofs.lemmas.Bool.{cases_lt}
use Rattle.ir_core.specs.Program.{Program}
use Rattle.ir_core.specs.Units.{has_result, results}
use Rattle.ir_core.specs.declared.code.Inst.{Inst}
use Rattle.ir_core.specs.declared.program.Function.{Function}
use Rattle.ir_flow.specs.declared.uses.Use.{Use}
use Rattle.ir_flow.specs.Assigned.{firsts_of, IsAssigned, IsUseAssigned, AllAssigned, uses_in_block}
use Rattle.ir_flow.specs.Code.{is_phi, targets as op_targets}
use Rattle.ir_meaning.specs.Typed.{IsOp}
use Rattle.ir_verify.proofs.Lists.{Every}
use Rattle.generic_code.specs.Edges.{edge_operands}
use Rattle.generic_code.specs.Whole.{is_jump}
use Rattle.generic_laws.proofs.Blocks.{every_by}
use Rattle.generic_laws.proofs.Scopes.{Can}
use Rattle.generic_laws.proofs.Giving.{gain, results_cons, jump_void, none_behind}
use Rattle.generic_laws.proofs.Assigning.{inst_can, inst_uses, edge_can}
use Rattle.generic_laws.proofs.Running.{Using}

-- behind an instruction one value more is assigned
pub one_assigned : (function : Function) (k value v : ℕ) → IsAssigned function k (value + 1) v → (v ≡ value) ⊎ IsAssigned function k value v
one_assigned function k value v (inl param) = inr (inl param)
one_assigned function k value v (inr (inl (low, high))) = by_place (cases_lt v value)
  where
    by_place : (v < value) ⊎ (value ≤ v) → (v ≡ value) ⊎ IsAssigned function k value v
    by_place (inl below) = inr (inr (inl (low, below)))
    by_place (inr above) = inl (omega (arith, high, above))
one_assigned function k value v (inr (inr walks)) = inr (inr (inr walks))

behind_sum : (r : Bool) (value n : ℕ) → (if r then value + 1 else value) + n ≡ value + (gain r + n)
behind_sum true value n = omega arith
behind_sum false value n = omega arith

module _ (program : Program) (function : Function) (assigned : AllAssigned function) (k : ℕ) where
  pub using : (insts : List Inst) (value : ℕ) → Every (λ (inst : Inst). IsOp program function inst.gives inst.op × (is_phi inst.op ≡ false)) insts
      → ((j : ℕ) (inst : Inst) → slice_get insts j ≡ Some inst → is_jump inst.op ≡ true → j + 1 ≡ length insts)
      → Every (λ (u : Use). IsUseAssigned function u) (uses_in_block (firsts_of function) function.ret k value insts) → value + results insts ≡ slice_index (firsts_of function) (k + 1)
      → Using program function k (IsAssigned function k) (one_assigned function k) value insts
  using [] value typed last uses is = tt
  using (inst ∷ insts) value typed last uses is =
      let two = inst_uses function (firsts_of function) function.ret k value inst insts uses in
      let sum = results_cons inst insts in
      let next = behind_sum (has_result inst) value (results insts) in (
        typed.0.0,
        typed.0.1,
        inst_can function (firsts_of function) function.ret k value inst.gives inst.op typed.0.1 two.0,
        (λ j. go (let at_end = last 0 inst refl j in let none = none_behind program function insts (omega (arith, at_end)) in let void = no_gain (has_result inst) (jump_void program function inst.gives inst.op typed.0.0 j) in omega (arith, is, sum, none, void))),
        using insts (if has_result inst then value + 1 else value) typed.1 (λ i x e j. let n = last (suc i) x e j in omega (arith, n)) two.1 (omega (arith, is, sum, next)),
      )
    where
      no_gain : (r : Bool) → r ≡ false → gain r ≡ 0
      no_gain true e = absurd (let bad : ⊥ = cc in bad)
      no_gain false e = refl

      go : slice_index (firsts_of function) (k + 1) ≡ value → Every (λ (to : ℕ). Every (Can (IsAssigned function k value)) (edge_operands program.module_.globals function k to)) (op_targets inst.op)
      go same = every_by (λ (to : ℕ). Every (Can (IsAssigned function k value)) (edge_operands program.module_.globals function k to)) (op_targets inst.op)
          (λ i to e. subst (λ (n : ℕ). Every (Can (IsAssigned function k n)) (edge_operands program.module_.globals function k to)) same (edge_can function program.module_.globals assigned k to))
