-- The laws of selected code.
use Rattle.std.proofs.Common.{refl}
use Rattle.gmir.specs.Refines.{face as generic_face}
use Rattle.mir_play.specs.Refines.{face}
use Rattle.walks.proofs.Faces.{simulated_face}
use Rattle.selected_code.specs.Selected.{selected}
use Rattle.selected_code.specs.Laws.{SelectedRefines}
use Rattle.selected_code.proofs.Steps.{Alike}
use Rattle.selected_code.proofs.Simulated.{simulation}
use Rattle.selected_code.proofs.Weighing.{static_light}

pub selected_refines : SelectedRefines
selected_refines g formed legal low =
    simulated_face (generic_face g) (face (selected g)) refl refl refl (static_light g) (Alike g) (λ s. 0) (simulation g formed legal low)
