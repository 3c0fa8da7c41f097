-- The head of a block: a phi, or an instruction that is none.
use Rattle.std.proofs.Common.{◌≡◌, ℕ, false, List, [], ◌∷◌, refl, subst}
use Rattle.mir.specs.declared.code.MInst.{MInst}
use Rattle.mir.specs.declared.code.MInst.TheVariants.{Phi}
use Rattle.mir.specs.WellFormed.{is_phi}
use Rattle.walks.specs.Registers.{Registers}
use Rattle.mir_play.specs.Play.{with_phis, behind_phis, phi_weights}
use Rattle.parallel_copies.specs.Edges.{heads}

-- what no phi at the head means
pub record IsPlain (insts : List MInst) : Type 0 where
  pub behind : behind_phis insts ≡ insts
  pub weights : phi_weights insts ≡ 0
  pub heads' : heads insts ≡ 0
  pub registers : (from : ℕ) (before regs : Registers) → with_phis from before insts regs ≡ regs

pub data Head : List MInst → Type 0 where
  phi : (d : ℕ) (pairs : List (ℕ × ℕ)) (insts : List MInst) → Head (Phi d pairs ∷ insts)
  plain : (insts : List MInst) → IsPlain insts → Head insts

plainly : (insts : List MInst) → behind_phis insts ≡ insts → phi_weights insts ≡ 0 → heads insts ≡ 0
    → ((from : ℕ) (before regs : Registers) → with_phis from before insts regs ≡ regs) → Head insts
plainly insts a b c d = plain insts (record { behind = a; weights = b; heads' = c; registers = d })

pub head : (insts : List MInst) → Head insts
head [] = plainly [] refl refl refl (λ from before regs. refl)
head (Phi d pairs ∷ insts) = phi d pairs insts
head (i ∷ insts) = plainly (i ∷ insts) refl refl refl (λ from before regs. refl)

-- an instruction that is no phi
pub no_phi : (inst : MInst) (insts : List MInst) → is_phi inst ≡ false → IsPlain (inst ∷ insts)
no_phi inst insts h = by_head (inst ∷ insts) (head (inst ∷ insts)) refl
  where
    by_head : (all : List MInst) → Head all → all ≡ inst ∷ insts → IsPlain (inst ∷ insts)
    by_head all (plain others p) e = subst IsPlain e p
    by_head all (phi d pairs others) e = absurd (let bad : ⊥ = cc in bad)
