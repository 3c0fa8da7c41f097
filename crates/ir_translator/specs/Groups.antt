-- Edges by the blocks that they lead to: for each block the places of its edges.
use Rattle.std.specs.Prelude.{◌≡◌, ℕ, zero, suc, List, [], ◌∷◌, ◌++◌, map, slice_get, slice_index_or, Some}
use Rattle.ir_core.specs.declared.program.Function.{Function}
use Rattle.ir_core.specs.declared.program.Global.{Global}
use Rattle.generic_code.specs.Edges.{Edge}
use Rattle.generic_code.specs.Whole.{edges_to}

-- an edge that isn't there
abbrev pub no_edge : Edge
no_edge = record { to = 0; at = 0; uses = [] }

-- the edges at these places
abbrev pub picked : List Edge → List ℕ → List Edge
picked edges places = map (λ place. slice_index_or edges place no_edge) places

-- the list of a block has the places of the edges to it, in their order
abbrev pub AreGroups : List Global → Function → List Edge → List (List ℕ) → Type 0
AreGroups globals function edges groups = (to : ℕ) (places : List ℕ) → slice_get groups to ≡ Some places → picked edges places ≡ edges_to globals function to edges

-- a number more in the list of a block, where there is one
abbrev pub added : ℕ → ℕ → List (List ℕ) → List (List ℕ)
added to place [] = []
added zero place (places ∷ groups) = (places ++ place ∷ []) ∷ groups
added (suc to) place (places ∷ groups) = places ∷ added to place groups
