-- What a session has before its first call.
use Rattle.std.specs.Prelude.{◌≡◌, ℕ, ◌+◌, List, length, sum_by, Option, Some}
use Rattle.ir_core.specs.Program.{Program}
use Rattle.entry_counts.specs.declared.counts.Counts.{Counts}
use Rattle.entry_counts.specs.Seats.{IsNewSeat}
use Rattle.redirect_cells.specs.declared.table.CodeTable.{CodeTable}
use Rattle.jit_session.specs.OpenedHarts.{IsNew, parts_of}
use Rattle.jit_session.specs.Runs.{Each}
use Rattle.jit_session.specs.declared.asking.Asking.{Asking}
use Rattle.jit_session.specs.declared.parts.Part.{Part}
use Rattle.jit_session.specs.Parts.{harts_of, asking_in, or_else}

-- New harts of the table, one for each of its seats, and workers, of which the first asks; or `idle` does. What asks has the policy and a
-- new seat of the counts, and it and the harts have all parts of the counts.
pub record AreOpened {G M P : Type 0} (program : Program) (of : CodeTable) (tally : Counts) (calls : ℕ) (policy : P) (parts : List (Part G M P)) (idle : Option (Asking P)) : Type 0 where
  pub harts : Each (IsNew program of tally of.harts calls) (harts_of parts)
  pub count : length (harts_of parts) ≡ of.harts
  pub asking : Asking P
  pub asks : or_else (asking_in parts) idle ≡ Some asking
  pub policy_is : asking.policy ≡ policy
  pub counts : IsNewSeat tally asking.counts
  pub shares : sum_by parts_of (harts_of parts) + asking.counts.seat.me.0.parts ≡ 64
