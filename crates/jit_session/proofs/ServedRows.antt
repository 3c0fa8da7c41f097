-- The rows of harts that are taken apart, by what each was served.
use Rattle.std.proofs.Common.{◌≡◌, ℕ, zero, suc, ◌+◌, ◌<◌, ◌≤◌, List, [], ◌∷◌, ◌++◌, length, map, refl, sym, ap, subst, ◌∙◌, arith}
use Rattle.std.specs.Prelude.{slice_index_or}
use Rattle.std.proofs.lemmas.List.{length-map}
use mathlib.Core.Option.{some, some-injective, some-ne-none}
use Rattle.ir_core.specs.Program.{Program}
use Rattle.ir_meaning.specs.Meaning.{meaning}
use Rattle.ir_meaning.specs.declared.calls.Ended.{Ended}
use Rattle.ir_meaning.specs.declared.calls.ListedCall.{ListedCall}
use Rattle.code_epochs.specs.declared.parts.Book.{Book}
use Rattle.code_epochs.specs.declared.parts.HartPart.{HartPart}
use Rattle.code_epochs.specs.declared.parts.Item.{Item}
use Rattle.code_epochs.specs.Sound.{At, Backed}
use Rattle.code_epochs.proofs.Lists.{at_below}
use Rattle.entry_counts.specs.declared.counts.Counts.{Counts}
use Rattle.redirect_cells.specs.declared.table.CodeTable.{CodeTable}
use Rattle.redirect_cells.specs.Kept.{part_of}
use Rattle.redirect_cells.specs.Gathered.{parts_of}
use Rattle.jit_session.specs.declared.runner.Runner.{Runner}
use Rattle.jit_session.specs.OpenedHarts.{IsDone}
use Rattle.jit_session.specs.Runs.{Each, place_of}
use Rattle.jit_session.specs.Served.{CallRun, IsServedBy, answers_of, passes_of}
use Rattle.jit_session.specs.Settling.{IsRow, AreRows, AreAnswersOf, seats_of}
use Rattle.jit_session.proofs.Parting.{rows_each}

at_mapped : {A B : Type 0} (f : A → B) (xs : List A) (i : ℕ) (x : A) → At xs i x → At (map f xs) i (f x)
at_mapped f [] i x e = absurd (some-ne-none x (sym e))
at_mapped {A = A} f (y ∷ ys) zero x e = ap (λ (z : A). some (f z)) (some-injective y x e)
at_mapped f (y ∷ ys) (suc i) x e = at_mapped f ys i x e

at_behind : {A : Type 0} (l m : List A) (i : ℕ) (a : A) → At m i a → At (l ++ m) (length l + i) a
at_behind [] m i a e = subst (λ (n : ℕ). At m n a) (omega arith) e
at_behind (x ∷ xs) m i a e = let n : suc (length xs + i) ≡ length (x ∷ xs) + i = omega arith in subst (λ (k : ℕ). At (x ∷ (xs ++ m)) k a) n (at_behind xs m i a e)

-- what the seat of the hart at a place knows
part_at : {G : Type 0} (xs : List (Runner G)) (h : ℕ) (d : Runner G) → h < length xs → At (parts_of (seats_of xs)) h (part_of (slice_index_or xs h d).bench.seat.seat.me.0)
part_at [] h d low = absurd (omega arith)
part_at (x ∷ xs) zero d low = refl
part_at (x ∷ xs) (suc h) d low = part_at xs h d (omega arith)

module _ {G : Type 0} (program : Program) (of : CodeTable) (tally : Counts) (calls : List ListedCall) (harts : ℕ) (book : Book) (answers : List Ended) where
  -- the book backs each ended pass of the hart's seat
  abbrev pub IsBackedSeat : Runner G → Type 0
  IsBackedSeat r = (e : ℕ) (pass : List Item) → At (part_of r.bench.seat.seat.me.0).ended e pass → Backed (meaning program) of.code_words book pass

  pub backed_seats : (runners : List (Runner G)) (before joined : List HartPart) → joined ≡ before ++ parts_of (seats_of runners)
      → ((i : ℕ) (p : HartPart) → At joined i p → (e : ℕ) (pass : List Item) → At p.ended e pass → Backed (meaning program) of.code_words book pass) → Each (λ h r. IsBackedSeat r) runners
  backed_seats runners before joined same all h d low e pass at =
      all (length before + h) (part_of (slice_index_or runners h d).bench.seat.seat.me.0)
      (subst (λ (l : List HartPart). At l (length before + h) (part_of (slice_index_or runners h d).bench.seat.seat.me.0)) (sym same) (at_behind before (parts_of (seats_of runners)) h _ (part_at runners h d low)))
      e pass at

  abbrev IsServedSeat : ℕ → Runner G → Type 0
  IsServedSeat h r = IsDone program of tally calls harts h r × IsBackedSeat r × AreAnswersOf (length calls) harts h answers r.answers.items

  served_row : (symbols : ℕ) → tally.symbols ≡ symbols → (h : ℕ) (r : Runner G) (row : List ℕ) → IsRow symbols r.bench.counts row → IsServedSeat h r → IsServedBy program of.code_words book calls answers harts h row
  served_row symbols many h r row is seat =
      let done = seat.0 in
      let runs : List CallRun = done.runs in
      let long : length r.answers.items ≡ length runs = ap length done.answers ∙ length-map runs (λ (q : CallRun). q.answer) in
      record {
        runs = runs;
        of_calls = done.of_calls;
        whole = subst (λ (n : ℕ). length calls ≤ place_of harts h n) long done.answered.whole;
        backed = λ i q at. seat.1 i q.pass (subst (λ (l : List (List Item)). At l i q.pass) (sym done.passes) (at_mapped (λ (z : CallRun). z.pass) runs i q at));
        answered = λ i q at. (
            let call = done.of_calls i q at in
            seat.2 i q.answer (subst (λ (l : List Ended). At l i q.answer) (sym done.answers) (at_mapped (λ (z : CallRun). z.answer) runs i q at)) (at_below calls (place_of harts h i) call.0 call.1)
            );
        counted = λ k n low. (let all = is.0 in is.1 k n low ∙ done.own k (omega (arith, all, low, many)));
      }

  -- each row is that of a hart that the book served
  pub served_rows : (symbols : ℕ) → tally.symbols ≡ symbols → (runners : List (Runner G)) (rows : List (List ℕ)) → AreRows symbols runners rows → Each (IsDone program of tally calls harts) runners → Each (λ h r. IsBackedSeat r) runners
      → Each (λ h (r : Runner G). AreAnswersOf (length calls) harts h answers r.answers.items) runners → Each (IsServedBy program of.code_words book calls answers harts) rows
  served_rows symbols many runners rows all done backed answered =
      rows_each symbols IsServedSeat (IsServedBy program of.code_words book calls answers harts) runners rows (served_row symbols many) all (λ h d low. (done h d low, backed h d low, answered h d low))
