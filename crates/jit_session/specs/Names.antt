-- The code table that a session's name stands for.
use Rattle.std.specs.Prelude.{◌≡◌, List, [], ◌∷◌}
use Rattle.ir_core.specs.Program.{Program}
use Rattle.redirect_cells.specs.declared.table.CodeTable.{CodeTable}

-- one table is named, and it is one for the program
abbrev pub IsNamed : List CodeTable → Program → Type 0
IsNamed tables program = (t : CodeTable) × (tables ≡ t ∷ []) × (t.table.shared.key.module.value ≡ program)
