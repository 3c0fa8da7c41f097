-- What a session comes to.
use Rattle.std.specs.Prelude.{◌≡◌, ◌≢◌, ◌⊎◌, ℕ, ◌+◌, ◌-◌, ◌^◌, ◌<◌, ◌≤◌, min, List, length, sum_by, All, Bool}
use Rattle.ir_core.specs.Program.{Program}
use Rattle.ir_meaning.specs.Meaning.{meaning}
use Rattle.ir_meaning.specs.declared.calls.ListedCall.{ListedCall}
use Rattle.rv_play.specs.declared.version.Version.{Version}
use Rattle.rv_play.specs.Good.{Good}
use Rattle.code_epochs.specs.Sound.{At, AreMade}
use Rattle.code_epochs.specs.declared.parts.Book.{Book}
use Rattle.code_epochs.specs.declared.state.Status.TheVariants.{Linked}
use Rattle.code_epochs.specs.declared.refusals.OpenRefusal.{OpenRefusal}
use Rattle.code_epochs.specs.declared.refusals.OpenRefusal.TheVariants.{NoRoom, NoMemory}
use Rattle.code_epochs.specs.declared.state.VersionState.{VersionState}
use Rattle.redirect_cells.specs.Keeping.{NonePending, NoneUnlinked, held_words}
use Rattle.redirect_cells.specs.Opened.{words_of}
use Rattle.session_types.specs.declared.settled.Settled.{Settled}
use Rattle.session_types.specs.declared.settled.SymbolRow.{SymbolRow}
use Rattle.jit_session.specs.Runs.{AllRight, Each}
use Rattle.jit_session.specs.Settling.{IsEnteredRow, column}
use Rattle.reopt_policy.specs.Marks.{level_for}
use Rattle.jit_session.specs.Levels.{IsAmong, AreRefused, IsRefusedOver}
use Rattle.session_types.specs.declared.settled.RefusedJob.{RefusedJob}
use Rattle.jit_session.specs.Served.{IsServedBy}

-- a good version of each function of the program, in order
pub record AreFirst (program : Program) (versions : List Version) : Type 0 where
  pub count : length versions ≡ length program.module_.functions
  pub good : (k : ℕ) (v : Version) → At versions k v → (v.symbol ≡ k) × Good (meaning program) k v.words

-- the row of a symbol by its linked version, of which the book has one
pub record IsLinkedRow (book : Book) (k : ℕ) (row : SymbolRow) : Type 0 where
  pub number : ℕ
  pub version : VersionState
  pub stands : At book.versions number version
  pub linked : version.status ≡ Linked
  pub symbol : version.symbol ≡ k
  pub only : (i : ℕ) (v : VersionState) → At book.versions i v → v.status ≡ Linked → v.symbol ≡ k → i ≡ number
  pub level : row.level ≡ version.level
  pub words : row.words ≡ version.words

-- the words of the rows' versions, a header for each with them
abbrev pub words_of_rows : List SymbolRow → ℕ
words_of_rows rows = sum_by (λ (row : SymbolRow). row.words + 1) rows

-- The row of a refused job: it was refused the level that the marks give for its symbol's entries, which the symbol hasn't at the end
-- either, and this is why, by versions of the book.
pub record IsRefusedRow (test : ℕ → ℕ → Bool) (program : Program) (code_words : ℕ) (marks : List ℕ) (book : Book) (rows : List SymbolRow) (job : RefusedJob) : Type 0 where
  pub row : SymbolRow
  pub stands : At rows job.symbol row
  pub level : job.level ≡ level_for marks row.entries
  pub other : row.level ≢ job.level
  pub refused : IsRefusedOver (test job.symbol job.level) program code_words book.versions job.symbol job.level job.cause

-- What a session comes to, by one book of versions, each with words that are good for its symbol. Each call has its right answer, that of
-- a run that this book backs. Each hart has its row of counts, with a number for each function, which is what its runs counted, and, where
-- the evaluations of its calls end within their turns with a value, none, or for want of stack, how often they enter that function. Each
-- function has its row: its entries are the sum of what the harts counted, its level is the one that the marks give for them or the job of
-- giving it this level was refused, and level and words are those of its linked version. A job was refused only where its symbol hasn't
-- that level, as crowded only where `test` allows it, and for want of room only where its version didn't fit beside the versions that were
-- linked then. The words in use are those of the versions that aren't given up, none of which is unlinked or pending, a header for each with
-- them: those of the rows, and no more than the code words.
pub record IsSettled (program : Program) (calls : List ListedCall) (count functions code_words : ℕ) (marks : List ℕ) (test : ℕ → ℕ → Bool) (s : Settled) : Type 0 where
  pub answers : AllRight program calls s.answers
  pub harts : length s.by_hart ≡ count
  pub by_hart : All (λ (row : List ℕ). length row ≡ functions) s.by_hart
  pub entered : Each (IsEnteredRow program calls count) s.by_hart
  pub symbols : length s.rows ≡ functions
  pub entries : Each (λ k row. row.entries ≡ column k s.by_hart) s.rows
  pub levels : Each (λ k row. (row.level ≡ level_for marks row.entries) ⊎ IsAmong s.refused k (level_for marks row.entries)) s.rows
  pub refused : AreRefused test functions s.refused
  pub book : Book
  pub made : AreMade (meaning program) book
  pub served : Each (IsServedBy program code_words book calls s.answers count) s.by_hart
  pub linked : Each (IsLinkedRow book) s.rows
  pub shown : (i : ℕ) (job : RefusedJob) → At s.refused i job → IsRefusedRow test program code_words marks book s.rows job
  pub none_pending : NonePending book.versions
  pub none_unlinked : NoneUnlinked book.versions
  pub used : s.used ≡ held_words book.versions
  pub words : s.used ≡ words_of_rows s.rows
  pub fits : s.used ≤ code_words

-- why there is no session
abbrev pub IsRefusal : ℕ → List Version → OpenRefusal → Type 0
IsRefusal code_words versions (NoRoom needed room) = (needed ≡ min (words_of versions) (2 ^ 64 - 1)) × (room ≡ code_words) × (code_words < words_of versions)
IsRefusal code_words versions NoMemory = Unit {0}
