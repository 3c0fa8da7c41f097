-- Each row of the verifier passes.
use Rattle.std.proofs.Common.{◌≡◌, ℕ, zero, suc, ◌%◌, ◌≤◌, List, [], ◌∷◌, slice_get, Some, None, refl, subst, inl, inr, arith}
use Rattle.ir_flow.specs.Assigned.{uses, IsUseAssigned, AllAssigned}
use Rattle.ir_verify.specs.Verdict.{refusal, AllUsesAssigned, Passes, IsChecked, program_of}
use Rattle.ir_print_laws.specs.Written.{Each}
use Rattle.ir_print_laws.specs.Modules.{function_of, many_module}
use Rattle.ir_print_laws.proofs.Fits.{each_function}

each_at : {X : Type 0} (P : X → Type 0) (xs : List X) (i : ℕ) (x : X) → Each P xs → slice_get xs i ≡ Some x → P x
each_at P [] i x all e = absurd cc
each_at P (y ∷ ys) zero x all e = let same : y ≡ x = cc in subst P same all.0
each_at P (y ∷ ys) (suc i) x all e = each_at P ys i x all.1 e

-- ---- each use is assigned

assigned_in : (j : ℕ) → AllAssigned (function_of j)
assigned_in zero i one e = each_at (IsUseAssigned (function_of 0)) (uses (function_of 0)) i one (inl (omega arith), tt) e
assigned_in (suc before) i one e =
    each_at (IsUseAssigned (function_of (suc before))) (uses (function_of (suc before))) i one
    (inl (omega arith), (inr (inl (omega arith, omega arith)), (inl (omega arith), (inr (inl (omega arith, omega arith)), tt)))) e

all_assigned : AllUsesAssigned many_module
all_assigned symbol function e = each_at AllAssigned many_module.functions symbol function (each_function AllAssigned (λ j lt. assigned_in j)) e

-- ---- no row refuses

no_refusal : refusal many_module ≡ None
no_refusal = refl

many_passes : Passes many_module
many_passes = record { rows = no_refusal; assigned = all_assigned }

pub many_checked : (room : ℕ) → 4096 ≤ room → room ≤ 67108864 → room % 16 ≡ 0 → IsChecked (program_of many_module room)
many_checked room low high even = record { passes = many_passes; room = (low, high, even) }
