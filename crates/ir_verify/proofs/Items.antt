-- Items of another number than the types.
use Rattle.std.proofs.Common.{◌≡◌, ◌≢◌, ℕ, suc, List, [], ◌∷◌, length, map, refl, ap, Bool, true, false, ◌&&◌}
use Rattle.ir_core.specs.declared.types.MemTy.{MemTy}
use Rattle.ir_core.specs.declared.program.Init.{Init}
use Rattle.ir_verify.specs.Ranges.{all_fit, init_fits}

more : (m n : ℕ) → m ≡ n → suc m ≡ suc n
more m n e = ap suc e

and_false : (a b : Bool) → false ≡ b → false ≡ (a && b)
and_false true b h = h
and_false false b h = refl

pub fit_short : (globals : ℕ) (items : List Init) (tys : List MemTy) → length items ≢ length tys → false ≡ all_fit (map (init_fits globals) items) tys
fit_short globals [] [] h = absurd (h refl)
fit_short globals [] (ty ∷ tys) h = refl
fit_short globals (item ∷ items) [] h = refl
fit_short globals (item ∷ items) (ty ∷ tys) h =
    and_false (init_fits globals item ty) (all_fit (map (init_fits globals) items) tys) (fit_short globals items tys (λ e. h (more (length items) (length tys) e)))
