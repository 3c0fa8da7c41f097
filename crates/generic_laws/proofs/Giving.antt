-- Each block of the code writes each value that its block of the function defines.
use Rattle.std.proofs.Common.{◌≡◌, refl, ap, subst, ℕ, suc, ◌+◌, ◌<◌, ◌≤◌, ◌⊎◌, inl, inr, Bool, true, false, cond, List, [], ◌∷◌, ◌++◌, length, Some, arith}
use Rattle.std.specs.Prelude.{slice_get, if◌then◌else◌}
use Rattle.std.proofs.lemmas.Bool.{cases_lt}
use Rattle.std.proofs.lemmas.List.Sums.{sum_by-cons}
use Rattle.ir_core.specs.Program.{Program}
use Rattle.ir_core.specs.Units.{has_result, is_result, results}
use Rattle.ir_core.specs.declared.types.Ty.{Ty}
use Rattle.ir_core.specs.declared.code.Op.{Op}
use Rattle.ir_core.specs.declared.code.Op.TheVariants.{Br, CondBr, Switch}
use Rattle.ir_core.specs.declared.code.Inst.{Inst}
use Rattle.ir_core.specs.declared.program.Function.{Function}
use Rattle.ir_core.specs.declared.program.Global.{Global}
use Rattle.ir_flow.specs.Code.{is_phi}
use Rattle.ir_meaning.specs.Typed.{IsOp}
use Rattle.ir_verify.proofs.Lists.{Every}
use Rattle.generic_code.specs.Literals.{Pool}
use Rattle.generic_code.specs.Code.{piece_of}
use Rattle.generic_code.specs.Edges.{Edge, Ending}
use Rattle.generic_code.specs.Whole.{is_jump, insts_ending, phis_code}
use Rattle.generic_laws.proofs.Scopes.{wrote, writes_it}
use Rattle.generic_laws.proofs.Gives.{wrote_left, wrote_right, piece_gives}

abbrev pub gain : Bool → ℕ
gain t = cond t 1 0

pub results_cons : (inst : Inst) (insts : List Inst) → results (inst ∷ insts) ≡ gain (has_result inst) + results insts
results_cons inst insts = sum_by-cons (λ (z : Inst). cond (has_result z) 1 0) inst insts

module _ (program : Program) (function : Function) where
  abbrev gl : List Global
  gl = program.module_.globals

  -- phis write their values in order
  pub phis_wrote : (insts : List Inst) (value place v : ℕ) (es : List Edge) → value ≤ v → v < value + length insts → 1 ≤ wrote v (phis_code gl function value place es insts)
  phis_wrote [] value place v es l h = absurd (let bad : ⊥ = omega (arith, l, h) in bad)
  phis_wrote (inst ∷ insts) value place v es l h = by_place (cases_lt value v) (λ l' h'. phis_wrote insts (value + 1) (place + 1) v es l' h')
    where
      by_place : (value < v) ⊎ (v ≤ value) → (value + 1 ≤ v → v < value + 1 + length insts → 1 ≤ wrote v (phis_code gl function (value + 1) (place + 1) es insts)) → 1 ≤ wrote v (phis_code gl function value place es (inst ∷ insts))
      by_place (inl low) more = let ih = more (omega (arith, low)) (omega (arith, h)) in omega (arith, ih)
      by_place (inr high) more =
          let same : v ≡ value = omega (arith, l, high) in
          let one = writes_it v [] in
          subst (λ (n : ℕ). 1 ≤ wrote v (phis_code gl function n place es (inst ∷ insts))) same (omega (arith, one))

  pub jump_void : (ty : Ty) (op : Op) → IsOp program function ty op → is_jump op ≡ true → is_result ty ≡ false
  jump_void ty (Br to) is j = ap is_result is.0
  jump_void ty (CondBr c a b) is j = ap is_result is.0
  jump_void ty (Switch of a otherwise cases) is j = ap is_result is.0
  jump_void ty op is j = absurd (let bad : ⊥ = cc in bad)

  pub none_behind : (insts : List Inst) → length insts ≡ 0 → results insts ≡ 0
  none_behind [] e = refl
  none_behind (x ∷ xs) e = absurd (let bad : ⊥ = omega (arith, e) in bad)

  pub insts_wrote : (insts : List Inst) (from value : ℕ) (pool : Pool) (own v : ℕ) → Every (λ (inst : Inst). IsOp program function inst.gives inst.op × (is_phi inst.op ≡ false)) insts
      → ((k : ℕ) (inst : Inst) → slice_get insts k ≡ Some inst → is_jump inst.op ≡ true → k + 1 ≡ length insts) → value ≤ v → v < value + results insts
      → 1 ≤ wrote v (insts_ending gl function from value pool own insts).code
  insts_wrote [] from value pool own v typed last l h = absurd (let none : results [] ≡ 0 = refl in let bad : ⊥ = omega (arith, l, h, none) in bad)
  insts_wrote (inst ∷ insts) from value pool own v typed last l h =
      by_jump (is_jump inst.op) refl
      (λ l' h'. insts_wrote insts from (if has_result inst then value + 1 else value) (piece_of gl function.ret value pool inst.gives inst.op).pool own v typed.1 (λ k x e j. let n = last (suc k) x e j in omega (arith, n)) l' h')
    where
      sum : results (inst ∷ insts) ≡ gain (has_result inst) + results insts
      sum = results_cons inst insts

      rest : Ending
      rest = insts_ending gl function from (if has_result inst then value + 1 else value) (piece_of gl function.ret value pool inst.gives inst.op).pool own insts

      by_result : (r : Bool) → has_result inst ≡ r → (1 ≤ wrote v (piece_of gl function.ret value pool inst.gives inst.op).code) ⊎ (((if r then value + 1 else value) ≤ v) × (v < (if r then value + 1 else value) + results insts))
      by_result false e = inr (l, (let none : gain (has_result inst) ≡ gain false = ap gain e in omega (arith, h, sum, none)))
      by_result true e = by_place (cases_lt value v)
        where
          by_place : (value < v) ⊎ (v ≤ value) → (1 ≤ wrote v (piece_of gl function.ret value pool inst.gives inst.op).code) ⊎ ((value + 1 ≤ v) × (v < value + 1 + results insts))
          by_place (inl low) = inr (omega (arith, low), (let one : gain (has_result inst) ≡ gain true = ap gain e in omega (arith, h, sum, one)))
          by_place (inr high) =
              let same : value ≡ v = omega (arith, l, high) in
              inl (subst (λ (n : ℕ). 1 ≤ wrote n (piece_of gl function.ret value pool inst.gives inst.op).code) same (piece_gives gl value program function pool inst.gives inst.op typed.0.0 typed.0.1 e))

      by_jump : (j : Bool) → is_jump inst.op ≡ j
          → ((if has_result inst then value + 1 else value) ≤ v → v < (if has_result inst then value + 1 else value) + results insts → 1 ≤ wrote v (insts_ending gl function from (if has_result inst then value + 1 else value) (piece_of gl function.ret value pool inst.gives inst.op).pool own insts).code)
          → 1 ≤ wrote v (insts_ending gl function from value pool own (inst ∷ insts)).code
      by_jump true e ih =
          let at_end = last 0 inst refl e in
          let none = none_behind insts (omega (arith, at_end)) in
          let no_result : gain (has_result inst) ≡ gain false = ap gain (jump_void inst.gives inst.op typed.0.0 e) in
          absurd (let bad : ⊥ = omega (arith, l, h, sum, none, no_result) in bad)
      by_jump false e ih = rw e (by_part (by_result (has_result inst) refl))
        where
          by_part : (1 ≤ wrote v (piece_of gl function.ret value pool inst.gives inst.op).code) ⊎ (((if has_result inst then value + 1 else value) ≤ v) × (v < (if has_result inst then value + 1 else value) + results insts))
              → 1 ≤ wrote v ((piece_of gl function.ret value pool inst.gives inst.op).code ++ (insts_ending gl function from (if has_result inst then value + 1 else value) (piece_of gl function.ret value pool inst.gives inst.op).pool own insts).code)
          by_part (inl w) = wrote_left v (piece_of gl function.ret value pool inst.gives inst.op).code rest.code w
          by_part (inr two) = wrote_right v (piece_of gl function.ret value pool inst.gives inst.op).code rest.code (ih two.0 two.1)
