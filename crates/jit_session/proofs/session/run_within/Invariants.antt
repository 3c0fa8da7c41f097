use Rattle.std.proofs.Common.{[], ◌∷◌}
use Rattle.jit_session.proofs.session.run_within.Given as goal

abbrev pub ghosts-run_parts : goal.ghosts-run_parts
ghosts-run_parts g a = record { tables = a.keeper.desk.seat.table.now ∷ [] }
