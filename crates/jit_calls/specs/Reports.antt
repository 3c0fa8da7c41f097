-- The report of a session: its answers, and what became of each symbol.
use Rattle.std.specs.Prelude.{ℕ, ◌+◌, Bool, List, [], ◌∷◌, ◌++◌, slice_get, codes, decimal, if◌then◌else◌}
use Rattle.ir_core.specs.declared.program.Function.{Function}
use Rattle.ir_meaning.specs.declared.calls.ListedCall.{ListedCall}
use Rattle.jit_calls.specs.Answers.{name_in, answer_lines}
use Rattle.session_types.specs.declared.settled.JobRefusal.{JobRefusal}
use Rattle.session_types.specs.declared.settled.JobRefusal.TheVariants as causes
use Rattle.session_types.specs.declared.settled.RefusedJob.{RefusedJob}
use Rattle.session_types.specs.declared.settled.SymbolRow.{SymbolRow}
use Rattle.session_types.specs.declared.settled.Settled.{Settled}

-- how often a symbol was entered, and the level and the words of its version
abbrev pub row_text : SymbolRow → List ℕ
row_text row = codes " entries " ++ decimal row.entries ++ codes " level " ++ decimal row.level ++ codes " words " ++ decimal row.words ++ codes "\n"

abbrev pub row_line : List ℕ → SymbolRow → List ℕ
row_line name row = codes "@" ++ name ++ row_text row

-- one line per function, in order
abbrev pub row_lines : List Function → ℕ → List SymbolRow → List ℕ
row_lines functions symbol [] = []
row_lines functions symbol (row ∷ rows) = row_line (name_in (slice_get functions symbol)) row ++ row_lines functions (symbol + 1) rows

-- why a job was refused
abbrev pub cause_text : JobRefusal → List ℕ
cause_text (causes.Crowded point overlap) = codes "crowded " ++ decimal point ++ codes " " ++ decimal overlap
cause_text (causes.NoRoom needed largest) = codes "no room " ++ decimal needed ++ codes " " ++ decimal largest
cause_text causes.NoMemory = codes "no memory"

abbrev pub refused_line : List Function → RefusedJob → List ℕ
refused_line functions job =
    codes "refused @" ++ name_in (slice_get functions job.symbol) ++ codes " level " ++ decimal job.level ++ codes " " ++ cause_text job.cause ++ codes "\n"

-- one line per job that was refused
abbrev pub refused_lines : List Function → List RefusedJob → List ℕ
refused_lines functions [] = []
refused_lines functions (job ∷ jobs) = refused_line functions job ++ refused_lines functions jobs

-- behind the answers: a line per function, a line per refused job, and the code words in use
abbrev pub rows_text : List Function → Settled → List ℕ
rows_text functions settled =
    row_lines functions 0 settled.rows ++ refused_lines functions settled.refused ++ codes "code words " ++ decimal settled.used ++ codes "\n"

-- the answers, and the rows behind them where they are asked for
abbrev pub report_lines : List Function → List ListedCall → Settled → Bool → List ℕ
report_lines functions calls settled rows = answer_lines functions calls settled.answers ++ (if rows then rows_text functions settled else [])
