-- Harts after their calls.
use Rattle.std.proofs.Common.{◌≡◌, ℕ, suc, ◌+◌, ◌<◌, ◌≤◌, min, List, [], ◌∷◌, ◌++◌, length, All, sum_by, refl, sym, ap, subst, ◌∙◌, arith}
use Rattle.std.specs.Prelude.{slice_index_or, vec_capacity}
use Rattle.std.proofs.lemmas.List.Sums.{sum_by-cons}
use Rattle.ir_core.specs.Program.{Program}
use Rattle.ir_meaning.specs.declared.calls.ListedCall.{ListedCall}
use Rattle.entry_counts.specs.declared.counts.Counts.{Counts}
use Rattle.redirect_cells.specs.declared.table.CodeTable.{CodeTable}
use Rattle.jit_session.specs.declared.runner.Runner.{Runner}
use Rattle.jit_session.specs.OpenedHarts.{IsNew, IsDone, parts_of}
use Rattle.jit_session.specs.Runs.{Each, HasAnswered}
use Rattle.jit_session.specs.Runners.{CanRun, HasRun}
use Rattle.jit_session.specs.Settling.{CanPart}
use Rattle.entry_counts.specs.Seats.{IsNewSeat}
use Rattle.entry_counts.specs.Tally.{times}
use Rattle.entry_counts.specs.declared.seat.CountSeat.{CountSeat}
use Rattle.code_epochs.specs.declared.parts.Item.{Item}
use Rattle.jit_session.specs.Entries.{calls_of, entered_in, HasEntered, AreEntries}
use Rattle.jit_session.specs.Served.{CallRun, AreRunsOf, passes_of, counted_in}

none_counted : (tally : Counts) (c : CountSeat) (k : ℕ) → IsNewSeat tally c → times k c.seat.me.0.own ≡ 0
none_counted tally c k new = ap (times k) new.1

-- what a seat counted that had counted nothing
own_since : (tally : Counts) (c c' : CountSeat) (runs : List CallRun) → IsNewSeat tally c
    → ((k : ℕ) → k < c.counts.now.symbols → times k c'.seat.me.0.own ≡ min (times k c.seat.me.0.own + counted_in runs k) 144115188075855872)
    → (k : ℕ) → k < tally.symbols → times k c'.seat.me.0.own ≡ min (counted_in runs k) 144115188075855872
own_since tally c c' runs new own k low =
    let was = own k (subst (λ (t : Counts). k < t.symbols) (sym new.0) low) in
    let none = none_counted tally c k new in
    omega (arith, was, none)

entries_since : (program : Program) (tally : Counts) (mine : List ListedCall) (c c' : CountSeat) → IsNewSeat tally c → HasEntered program mine c c' → AreEntries program mine tally.symbols c'.seat.me.0.own
entries_since program tally mine c c' new entered all k low =
    let none = none_counted tally c k new in
    let is = entered all k (subst (λ (t : Counts). k < t.symbols) (sym new.0) low) (omega (arith, none)) in
    omega (arith, is, none)

module _ {G : Type 0} (program : Program) (table : CodeTable) (counts : Counts) (calls : List ListedCall) (harts : ℕ) where
  -- new harts of a table for the program can run
  pub can_run : (xs : List (Runner G)) → table.table.shared.key.module.value ≡ program → Each (IsNew program table counts harts (length calls)) xs → All (CanRun program calls harts) xs
  can_run xs value all i d low =
      let is = all i d low in record {
        ready = record { known = is.known; table = ap (λ (t : CodeTable). t.table.shared.key.module.value) is.table ∙ value; idle = is.idle };
        none = is.none;
        room = is.room;
      }

  pub all_done : (xs ys : List (Runner G)) → Each (IsNew program table counts harts (length calls)) xs → length ys ≡ length xs
      → ((i : ℕ) (d : Runner G) → i < length xs → HasRun program calls harts (slice_index_or xs i d) (slice_index_or ys i d)) → Each (IsDone program table counts calls harts) ys
  all_done xs ys all long run i d low =
      let small : i < length xs = omega arith in
      let is = all i d small in
      let ran = run i d small in record {
        table = ap (λ t. t.now) ran.seat.table ∙ is.table;
        seat = ran.seat.number ∙ is.seat;
        idle = ran.ready.idle;
        counts = ap (λ t. t.now) ran.counts.table ∙ is.counts.0;
        joined = ran.counts.joined ∙ is.counts.2;
        answered = subst (λ (n : ℕ). HasAnswered program calls harts n (slice_index_or ys i d).answers.items) is.number ran.answered;
        entries = ap (λ v. v.items) ran.entries ∙ is.entries;
        enough = subst (λ v. table.functions ≤ vec_capacity v) (sym ran.entries) is.enough;
        runs = ran.served.runs;
        of_calls = subst (λ (n : ℕ). AreRunsOf program table.code_words calls harts n ran.served.runs) is.number
            (subst (λ (t : CodeTable). AreRunsOf program t.code_words calls harts (slice_index_or xs i d).number ran.served.runs) is.table ran.served.of_calls);
        answers = ran.served.answers;
        passes = ran.served.passes ∙ ap (λ (l : List (List Item)). l ++ passes_of ran.served.runs) is.fresh;
        own = own_since counts (slice_index_or xs i d).bench.counts (slice_index_or ys i d).bench.counts ran.served.runs is.counts ran.served.own;
        entered = subst (λ (n : ℕ). AreEntries program (calls_of calls harts n) counts.symbols (slice_index_or ys i d).bench.counts.seat.me.0.own) is.number
            (entries_since program counts (calls_of calls harts (slice_index_or xs i d).number) (slice_index_or xs i d).bench.counts (slice_index_or ys i d).bench.counts is.counts ran.entered);
      }

  pub can_part : (xs : List (Runner G)) → counts.symbols ≡ table.functions → Each (IsDone program table counts calls harts) xs → All (CanPart counts) xs
  can_part xs symbols all i d low =
      let is = all i d low in record {
        idle = is.idle;
        counts = is.counts;
        joined = is.joined;
        entries = is.entries;
        enough = (let e = is.enough in omega arith);
      }

pub parts_same : {G : Type 0} (program : Program) (calls : List ListedCall) (harts : ℕ) (xs ys : List (Runner G)) → length ys ≡ length xs
    → ((i : ℕ) (d : Runner G) → i < length xs → HasRun program calls harts (slice_index_or xs i d) (slice_index_or ys i d)) → sum_by parts_of ys ≡ sum_by parts_of xs
parts_same program calls harts [] [] long run = refl
parts_same program calls harts [] (y ∷ ys) long run = absurd (omega arith)
parts_same program calls harts (x ∷ xs) [] long run = absurd (omega arith)
parts_same {G = G} program calls harts (x ∷ xs) (y ∷ ys) long run =
    let first = (run 0 x (omega arith)).counts.parts in
    let rest = parts_same program calls harts xs ys (omega arith) (λ i d low. run (suc i) d (omega arith)) in
    let a = sum_by-cons (parts_of {G = G}) x xs in
    let b = sum_by-cons (parts_of {G = G}) y ys in
    omega (arith, first, rest, a, b)
