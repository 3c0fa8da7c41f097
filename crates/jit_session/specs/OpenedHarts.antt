-- What a session has before its first call and after its last.
use Rattle.std.specs.Prelude.{◌≡◌, ℕ, ◌<◌, ◌≤◌, min, List, [], vec_capacity}
use Rattle.ir_core.specs.Program.{Program}
use Rattle.ir_meaning.specs.Meaning.{meaning}
use Rattle.ir_meaning.specs.declared.calls.ListedCall.{ListedCall}
use Rattle.hart.specs.Standing.{IsFor}
use Rattle.entry_counts.specs.declared.counts.Counts.{Counts}
use Rattle.entry_counts.specs.Seats.{IsNewSeat}
use Rattle.entry_counts.specs.Tally.{times}
use Rattle.redirect_cells.specs.declared.table.CodeTable.{CodeTable}
use Rattle.redirect_cells.specs.Kept.{part_of, word_in}
use Rattle.jit_session.specs.declared.runner.Runner.{Runner}
use Rattle.jit_session.specs.Runs.{HasAnswered, place_of}
use Rattle.jit_session.specs.Entries.{calls_of, AreEntries}
use Rattle.jit_session.specs.Served.{CallRun, AreRunsOf, answers_of, passes_of, counted_in}

-- the parts of the counts that a hart's seat has
abbrev pub parts_of : {G : Type 0} → Runner G → ℕ
parts_of r = r.bench.counts.seat.me.0.parts

-- The hart with this number, of so many, that has made none of so many calls: it knows the program, its seats are new ones of the table,
-- without a pass, and of the counts, and it has room for the answers to its calls and for a row of its counts.
pub record IsNew {G : Type 0} (program : Program) (of : CodeTable) (tally : Counts) (harts calls n : ℕ) (r : Runner G) : Type 0 where
  pub number : r.number ≡ n
  pub known : IsFor (meaning program) r.hart
  pub table : r.bench.seat.table.now ≡ of
  pub seat : r.bench.seat.number ≡ n
  pub idle : word_in r.bench.seat.seat.me.0.role ≡ 0
  pub fresh : (part_of r.bench.seat.seat.me.0).ended ≡ []
  pub counts : IsNewSeat tally r.bench.counts
  pub none : r.answers.items ≡ []
  pub room : (i : ℕ) → place_of harts r.number i < calls → i < vec_capacity r.answers
  pub entries : r.entries.items ≡ []
  pub enough : of.functions ≤ vec_capacity r.entries

-- The hart with this number, of so many, that has answered its calls: it is idle, and its seat of the counts has taken in no other. The
-- passes of its seat are those of its calls' runs, and what it counted is what these runs counted, and what the evaluations enter.
pub record IsDone {G : Type 0} (program : Program) (of : CodeTable) (tally : Counts) (calls : List ListedCall) (harts n : ℕ) (r : Runner G) : Type 0 where
  pub table : r.bench.seat.table.now ≡ of
  pub seat : r.bench.seat.number ≡ n
  pub idle : word_in r.bench.seat.seat.me.0.role ≡ 0
  pub counts : r.bench.counts.counts.now ≡ tally
  pub joined : r.bench.counts.seat.me.0.joined ≡ []
  pub answered : HasAnswered program calls harts n r.answers.items
  pub entries : r.entries.items ≡ []
  pub enough : of.functions ≤ vec_capacity r.entries
  pub runs : List CallRun
  pub of_calls : AreRunsOf program of.code_words calls harts n runs
  pub answers : r.answers.items ≡ answers_of runs
  pub passes : (part_of r.bench.seat.seat.me.0).ended ≡ passes_of runs
  pub own : (k : ℕ) → k < tally.symbols → times k r.bench.counts.seat.me.0.own ≡ min (counted_in runs k) 144115188075855872
  pub entered : AreEntries program (calls_of calls harts n) tally.symbols r.bench.counts.seat.me.0.own
