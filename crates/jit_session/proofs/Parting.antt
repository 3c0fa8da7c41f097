-- The rows of harts that are taken apart.
use Rattle.std.proofs.Common.{◌≡◌, ℕ, zero, suc, ◌<◌, List, [], ◌∷◌, ◌++◌, length, ◌∙◌, arith}
use Rattle.ir_core.specs.Program.{Program}
use Rattle.ir_meaning.specs.declared.calls.ListedCall.{ListedCall}
use Rattle.jit_session.specs.declared.runner.Runner.{Runner}
use Rattle.jit_session.specs.Entries.{calls_of, AreEntries}
use Rattle.jit_session.specs.Runs.{Each}
use Rattle.jit_session.specs.Settling.{IsRow, AreRows, IsEnteredRow}

-- one row more
pub rows_push : {G : Type 0} (symbols : ℕ) (runners : List (Runner G)) (rows : List (List ℕ)) (r : Runner G) (row : List ℕ) → AreRows symbols runners rows → IsRow symbols r.bench.counts row
    → AreRows symbols (runners ++ r ∷ []) (rows ++ row ∷ [])
rows_push symbols [] [] r row all is = (is, tt)
rows_push symbols [] (x ∷ rows) r row all is = absurd all
rows_push symbols (q ∷ runners) [] r row all is = absurd all
rows_push symbols (q ∷ runners) (x ∷ rows) r row all is = (all.0, rows_push symbols runners rows r row all.1 is)

-- what holds of each row, by what holds of its hart
pub rows_each : {G : Type 0} (symbols : ℕ) (P : ℕ → Runner G → Type 0) (Q : ℕ → List ℕ → Type 0) (runners : List (Runner G)) (rows : List (List ℕ))
    → ((h : ℕ) (r : Runner G) (row : List ℕ) → IsRow symbols r.bench.counts row → P h r → Q h row) → AreRows symbols runners rows → Each P runners → Each Q rows
rows_each symbols P Q [] [] one all each i d low = absurd (omega arith)
rows_each symbols P Q [] (row ∷ rows) one all each i d low = absurd all
rows_each symbols P Q (r ∷ runners) [] one all each i d low = absurd all
rows_each symbols P Q (r ∷ runners) (row ∷ rows) one all each zero d low = one 0 r row all.0 (each 0 r (omega arith))
rows_each symbols P Q (r ∷ runners) (row ∷ rows) one all each (suc i) d low =
    rows_each symbols (λ h. P (suc h)) (λ h. Q (suc h)) runners rows (λ h. one (suc h)) all.1 (λ j e l. each (suc j) e (omega arith)) i d (omega arith)

-- the rows of harts that counted what the evaluations of their calls enter
pub entered_rows : {G : Type 0} (program : Program) (calls : List ListedCall) (harts symbols : ℕ) (runners : List (Runner G)) (rows : List (List ℕ)) → AreRows symbols runners rows
    → Each (λ h r. AreEntries program (calls_of calls harts h) symbols r.bench.counts.seat.me.0.own) runners → Each (IsEnteredRow program calls harts) rows
entered_rows {G = G} program calls harts symbols runners rows all each =
    rows_each symbols (λ h (r : Runner G). AreEntries program (calls_of calls harts h) symbols r.bench.counts.seat.me.0.own) (IsEnteredRow program calls harts) runners rows
    (λ h r row is are end k n below. (let long = is.0 in is.1 k n below ∙ are end k (omega arith))) all each
