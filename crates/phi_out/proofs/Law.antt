-- The function with moves on edges refines the one with phis.
use Rattle.mir.specs.declared.code.MFunction.{MFunction}
use Rattle.mir.specs.WellFormed.{IsWellFormed}
use Rattle.walks.proofs.Faces.{simulated_face}
use Rattle.mir_play.specs.Refines.{face, Refines}
use Rattle.phi_out.specs.Lowered.{IsLowered}
use Rattle.phi_out.proofs.Steps.{R, simulation}
use Rattle.phi_out.proofs.Weights.{weighs_no_more}

pub lowered_refines : (f g : MFunction) → IsWellFormed f → IsLowered f g → Refines f g
lowered_refines f g formed low =
    simulated_face (face f) (face g) low.symbol low.values low.end' (weighs_no_more f formed g low) (R f g formed low) (λ s. 0) (simulation f g formed low)
