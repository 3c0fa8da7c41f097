-- Instructions behind the phis of a block, one after another: typed, and each at its number.
use Rattle.std.proofs.Common.{◌≡◌, sym, ap, subst, ◌∙◌, ℕ, zero, suc, ◌+◌, true, List, [], ◌∷◌, Some, arith}
use Rattle.std.specs.Prelude.{slice_get, drop, if◌then◌else◌}
use Rattle.ir_core.specs.Program.{Program}
use Rattle.ir_core.specs.Units.{has_result, is_result}
use Rattle.ir_core.specs.declared.code.Inst.{Inst}
use Rattle.ir_core.specs.declared.program.Function.{Function}
use Rattle.ir_meaning.specs.Step.{insts_at, number_at}
use Rattle.ir_meaning.specs.Typed.{types, IsOp, IsTypedFunction}
use Rattle.ir_meaning.proofs.Numbering.{number-type}
use Rattle.gmir.specs.declared.code.GFunction.{GFunction}
use Rattle.generic_code.proofs.Loads.{ValuesTyped}
use Rattle.generic_code.proofs.Flow.{number_next}
use Rattle.generic_laws.proofs.Typing.{Has}

pub drop_first : {A : Type 0} (xs : List A) (k : ℕ) (x : A) (rest : List A) → drop k xs ≡ x ∷ rest → (slice_get xs k ≡ Some x) × (drop (k + 1) xs ≡ rest)
drop_first [] zero x rest e = absurd (let bad : ⊥ = cc in bad)
drop_first [] (suc k) x rest e = absurd (let bad : ⊥ = cc in bad)
drop_first (y ∷ xs) zero x rest e = (cc, cc)
drop_first (y ∷ xs) (suc k) x rest e = let ih = drop_first xs k x rest e in (ih.0, ap (λ (n : ℕ). drop n (y ∷ xs)) (let z : suc k + 1 ≡ suc (k + 1) = omega arith in z) ∙ ih.1)

module _ (program : Program) (function : Function) (f : GFunction) (typed : ValuesTyped program f (types function) []) where
  -- from a number on, each instruction fits, and the register of its value has its type
  abbrev pub Along : ℕ → List Inst → Type 0
  Along value [] = Unit {0}
  Along value (inst ∷ insts) =
      IsOp program function inst.gives inst.op × (is_result inst.gives ≡ true → Has program function f typed value inst.gives) × Along (if has_result inst then value + 1 else value) insts

  pub along_at : IsTypedFunction program function → (rest : List Inst) (block place : ℕ) → drop place (insts_at function block) ≡ rest → Along (number_at function block place) rest
  along_at well [] block place e = tt
  along_at well (inst ∷ insts) block place e =
      let here = drop_first (insts_at function block) place inst insts e in (
        well.insts block place inst here.0,
        (λ gives. typed (number_at function block place) inst.gives (number-type function block place inst here.0 gives)),
        subst (λ (n : ℕ). Along n insts) (sym (number_next function block place inst here.0)) (along_at well insts block (place + 1) here.1),
      )
