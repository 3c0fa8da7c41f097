-- What is left of a session's harts.
use Rattle.std.specs.Prelude.{◌≡◌, ℕ, ◌<◌, ◌≤◌, List, [], ◌∷◌, map, length, slice_index, sum_by, vec_capacity}
use Rattle.ir_core.specs.Program.{Program}
use Rattle.ir_meaning.specs.declared.calls.Ended.{Ended}
use Rattle.ir_meaning.specs.declared.calls.ListedCall.{ListedCall}
use Rattle.code_epochs.specs.Sound.{At}
use Rattle.entry_counts.specs.declared.counts.Counts.{Counts}
use Rattle.entry_counts.specs.declared.seat.CountSeat.{CountSeat}
use Rattle.entry_counts.specs.Tally.{times}
use Rattle.redirect_cells.specs.declared.hart_seat.HartSeat.{HartSeat}
use Rattle.redirect_cells.specs.Kept.{word_in}
use Rattle.jit_session.specs.declared.runner.Runner.{Runner}
use Rattle.jit_session.specs.Runs.{Each, place_of}
use Rattle.jit_session.specs.Entries.{calls_of, AllEnd, entered_in}

-- of so many calls, those of one of so many harts have these answers of the hart among all answers, each in its call's place
abbrev pub AreAnswersOf : ℕ → ℕ → ℕ → List Ended → List Ended → Type 0
AreAnswersOf calls harts hart answers ends = (i : ℕ) (e : Ended) → At ends i e → place_of harts hart i < calls → At answers (place_of harts hart i) e

-- how often the seat counted each of so many symbols, in order
abbrev pub IsRow : ℕ → CountSeat → List ℕ → Type 0
IsRow symbols c row = (length row ≡ symbols) × Each (λ k n. n ≡ times k c.seat.me.0.own) row

-- a row of each hart, in order, of what its seat counted
abbrev pub AreRows : {G : Type 0} → ℕ → List (Runner G) → List (List ℕ) → Type 0
AreRows symbols [] [] = Unit {0}
AreRows symbols [] (row ∷ rows) = ⊥
AreRows symbols (r ∷ runners) [] = ⊥
AreRows symbols (r ∷ runners) (row ∷ rows) = IsRow symbols r.bench.counts row × AreRows symbols runners rows

-- The row of one of so many harts: where the evaluation of each of its calls ends within its turns with a value, none, or for want of
-- stack, each number is how often these evaluations enter the symbol at its place.
abbrev pub IsEnteredRow : Program → List ListedCall → ℕ → ℕ → List ℕ → Type 0
IsEnteredRow program calls harts hart row = AllEnd program (calls_of calls harts hart) → Each (λ k n. n ≡ entered_in program (calls_of calls harts hart) k) row

-- the number at this place of all rows, added up
abbrev pub column : ℕ → List (List ℕ) → ℕ
column k rows = sum_by (λ (row : List ℕ). slice_index row k) rows

abbrev pub seats_of : {G : Type 0} → List (Runner G) → List HartSeat
seats_of {G = G} runners = map (λ (r : Runner G). r.bench.seat) runners

-- the hart is idle, its seat is one of these counts and has taken in no other, and it has room for a row
pub record CanPart {G : Type 0} (tally : Counts) (r : Runner G) : Type 0 where
  pub idle : word_in r.bench.seat.seat.me.0.role ≡ 0
  pub counts : r.bench.counts.counts.now ≡ tally
  pub joined : r.bench.counts.seat.me.0.joined ≡ []
  pub entries : r.entries.items ≡ []
  pub enough : tally.symbols ≤ vec_capacity r.entries
