-- What holds of selected code.
use Rattle.std.specs.Prelude.{ℕ, ◌^◌, ◌<◌}
use Rattle.gmir.specs.declared.code.GFunction.{GFunction}
use Rattle.gmir.specs.Formed.{IsFormed}
use Rattle.gmir.specs.Legal.{IsLegal}
use Rattle.gmir.specs.Refines.{face as generic_face}
use Rattle.mir.specs.WellFormed.{IsWellFormed}
use Rattle.mir_play.specs.Refines.{RefinesFrom}
use Rattle.selected_code.specs.Selected.{selected}

-- the code of a function that is formed and legal refines it, as long as data memory ends below 2^64
abbrev pub SelectedRefines : Type 0
SelectedRefines = (g : GFunction) → IsFormed g → IsLegal g → g.end < 2 ^ 64 → RefinesFrom (generic_face g) (selected g)

-- and it is well formed
abbrev pub SelectedIsWellFormed : Type 0
SelectedIsWellFormed = (g : GFunction) → IsFormed g → IsLegal g → IsWellFormed (selected g)
