-- One s register that is saved or restored, where it is in use.
use Rattle.std.specs.Prelude.{ℕ, Bool, List, [], if◌then◌else◌}
use Rattle.rv_core.specs.declared.instr.Instr.{Instr}
use Rattle.code_pieces.specs.Code.{load_at, store_at}
use Rattle.frame_code.specs.Frame.{saved_reg, save_offset}

abbrev pub save_one : ℕ → Bool → ℕ → List Instr
save_one frame in_use k = if in_use then store_at (saved_reg k) (save_offset frame k) else []

abbrev pub restore_one : ℕ → Bool → ℕ → List Instr
restore_one frame in_use k = if in_use then load_at (saved_reg k) (save_offset frame k) else []
