use Rattle.std.proofs.Common.{◌≡◌, ℕ, zero, suc, List, [], ◌∷◌, arith, sym, subst, ◌∙◌}
use Rattle.std.specs.List.{Contains}
use Rattle.mir.specs.declared.code.MInst.{MInst}
use Rattle.mir.specs.declared.code.MInst.TheVariants.{Phi, Jump}
use Rattle.mir.specs.Code.{writes}
use Rattle.parallel_copies.proofs.tests.swapping_moves.Goals as goal

not_alone : (a b : ℕ) → (a ≡ b → ⊥) → Contains (a ∷ []) b → ⊥
not_alone a b differs (zero, below, is) = differs is
not_alone a b differs (suc k, below, is) = absurd (omega (arith, below))

abbrev swapping : List MInst
swapping = Phi 0 ((1, 1) ∷ []) ∷ Phi 1 ((0, 1) ∷ []) ∷ Jump 1 ∷ []

beside : (inst : MInst) → Contains swapping inst → Contains (writes inst) 2 → ⊥
beside inst (zero, below, is) in' = not_alone 0 2 (λ e. omega (arith, e)) (subst (λ (i : MInst). Contains (writes i) 2) (sym is) in')
beside inst (suc zero, below, is) in' = not_alone 1 2 (λ e. omega (arith, e)) (subst (λ (i : MInst). Contains (writes i) 2) (sym is) in')
beside inst (suc (suc zero), below, is) in' =
    let none : Contains (writes (Jump 1)) 2 = subst (λ (i : MInst). Contains (writes i) 2) (sym is) in' in
    absurd (omega (arith, none.1))
beside inst (suc (suc (suc k)), below, is) in' = absurd (omega (arith, below))

pub edge_moves-requires : goal.edge_moves-requires
edge_moves-requires c = record { spare = rw (c.as_slice.ensures.value ∙ c.in-Ok.ensures) beside }
