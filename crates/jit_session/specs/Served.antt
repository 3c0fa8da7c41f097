-- The runs of a hart's calls: what each was served, and what it counted.
use Rattle.std.specs.Prelude.{◌≡◌, ℕ, ◌+◌, ◌<◌, ◌≤◌, min, List, [], ◌∷◌, ◌++◌, length, map, sum_by}
use Rattle.ir_core.specs.Program.{Program}
use Rattle.ir_meaning.specs.Image.{first_memory}
use Rattle.ir_meaning.specs.Meaning.{meaning}
use Rattle.ir_meaning.specs.declared.calls.Ended.{Ended}
use Rattle.ir_meaning.specs.declared.calls.ListedCall.{ListedCall}
use Rattle.rv_play.specs.Link.{Backed}
use Rattle.hart.specs.declared.hart.Hart.{Hart}
use Rattle.hart.specs.declared.hart.Image.{Image}
use Rattle.hart.specs.Calls.{EndedOver, origin_of}
use Rattle.hart.specs.Right.{IsListedOn}
use Rattle.code_epochs.specs.declared.parts.Item.{Item}
use Rattle.code_epochs.specs.Passes.{items_of}
use Rattle.code_epochs.specs.Sound.{At, Backed as BackedBy}
use Rattle.code_epochs.specs.declared.parts.Book.{Book}
use Rattle.entry_counts.specs.Tally.{times}
use Rattle.entry_counts.specs.declared.seat.CountSeat.{CountSeat}
use Rattle.redirect_cells.specs.declared.hart_seat.HartSeat.{HartSeat}
use Rattle.redirect_cells.specs.Kept.{part_of}
use Rattle.jit_session.specs.Runs.{Each, place_of}

-- a call's run on a hart: the pass of cells and code words that it was served, its answer, and the symbols that it counted
pub record CallRun : Type 0 where
  pub pass : List Item
  pub answer : Ended
  pub counted : List ℕ

-- The run is one of the call, from the module's image, over a pass that good versions back: it ended so once the pass was used up, and
-- counted these symbols.
pub record IsRunOf (program : Program) (code_words : ℕ) (call : ListedCall) (r : CallRun) : Type 0 where
  pub image : Image
  pub before : Hart
  pub after : Hart
  pub listed : IsListedOn program call (first_memory program.module_.globals) image before
  pub backed : Backed (meaning program) code_words (items_of r.pass)
  pub ended : EndedOver (meaning program) (origin_of before image call code_words) (items_of r.pass) r.answer after r.counted

-- runs of the calls of one of so many harts, in order
abbrev pub AreRunsOf : Program → ℕ → List ListedCall → ℕ → ℕ → List CallRun → Type 0
AreRunsOf program code_words calls harts hart runs =
    (i : ℕ) (r : CallRun) → At runs i r → (call : ListedCall) × At calls (place_of harts hart i) call × IsRunOf program code_words call r

abbrev pub passes_of : List CallRun → List (List Item)
passes_of runs = map (λ (r : CallRun). r.pass) runs

abbrev pub answers_of : List CallRun → List Ended
answers_of runs = map (λ (r : CallRun). r.answer) runs

-- how often the runs counted a symbol
abbrev pub counted_in : List CallRun → ℕ → ℕ
counted_in runs k = sum_by (λ (r : CallRun). times k r.counted) runs

-- A hart has run one call more since then: its seat has the pass more among those that have ended, and its seat of the counts has the
-- symbols more that the run counted, each up to 2^57.
pub record HasServedOne (program : Program) (call : ListedCall) (s s' : HartSeat) (c c' : CountSeat) (e : Ended) : Type 0 where
  pub run : CallRun
  pub of_call : IsRunOf program s.table.now.code_words call run
  pub answer : run.answer ≡ e
  pub pass : (part_of s'.seat.me.0).ended ≡ (part_of s.seat.me.0).ended ++ run.pass ∷ []
  pub own : (k : ℕ) → k < c.counts.now.symbols → times k c'.seat.me.0.own ≡ min (times k c.seat.me.0.own + times k run.counted) 144115188075855872

-- One of so many harts has run calls of its own since then, in order, with these answers: its seat has their passes more, and its seat of
-- the counts has the symbols more that the runs counted, each up to 2^57.
pub record HasServed (program : Program) (calls : List ListedCall) (harts hart : ℕ) (s s' : HartSeat) (c c' : CountSeat) (ends : List Ended) : Type 0 where
  pub runs : List CallRun
  pub of_calls : AreRunsOf program s.table.now.code_words calls harts hart runs
  pub answers : ends ≡ answers_of runs
  pub passes : (part_of s'.seat.me.0).ended ≡ (part_of s.seat.me.0).ended ++ passes_of runs
  pub own : (k : ℕ) → k < c.counts.now.symbols → times k c'.seat.me.0.own ≡ min (times k c.seat.me.0.own + counted_in runs k) 144115188075855872

-- What one of so many harts was served by a book of versions: each of its calls has a run, whose pass these versions back. The answers to
-- these calls are those of the runs, and the hart's row is what the runs counted of each symbol, up to 2^57.
pub record IsServedBy (program : Program) (code_words : ℕ) (book : Book) (calls : List ListedCall) (answers : List Ended) (harts hart : ℕ) (row : List ℕ) : Type 0 where
  pub runs : List CallRun
  pub of_calls : AreRunsOf program code_words calls harts hart runs
  pub whole : length calls ≤ place_of harts hart (length runs)
  pub backed : (i : ℕ) (r : CallRun) → At runs i r → BackedBy (meaning program) code_words book r.pass
  pub answered : (i : ℕ) (r : CallRun) → At runs i r → At answers (place_of harts hart i) r.answer
  pub counted : Each (λ k n. n ≡ min (counted_in runs k) 144115188075855872) row
