-- What harts leave, and what a session makes of it.
use Rattle.std.proofs.Common.{◌≡◌, ℕ, zero, suc, ◌+◌, ◌<◌, List, [], ◌∷◌, ◌++◌, length, take, drop, All, append-nil, refl, sym, ap, subst, ◌∙◌, arith}
use Rattle.std.specs.Prelude.{slice_index_or}
use Rattle.ir_core.specs.Program.{Program}
use Rattle.ir_meaning.specs.declared.calls.ListedCall.{ListedCall}
use Rattle.entry_counts.specs.declared.counts.Counts.{Counts}
use Rattle.redirect_cells.specs.declared.table.CodeTable.{CodeTable}
use Rattle.redirect_cells.specs.declared.hart_seat.HartSeat.{HartSeat}
use Rattle.code_epochs.specs.Sound.{At}
use Rattle.code_epochs.specs.declared.parts.Book.{Book}
use Rattle.redirect_cells.specs.Keeping.{AllGone}
use Rattle.redirect_cells.specs.Gathered.{IsIdleSeat, AreAllHarts}
use Rattle.jit_session.specs.declared.runner.Runner.{Runner}
use Rattle.jit_session.specs.OpenedHarts.{IsDone}
use Rattle.jit_session.specs.Runs.{Each}
use Rattle.jit_session.specs.Settling.{seats_of}
use Rattle.jit_session.proofs.Gathering.{seats_long}

module _ {A : Type 0} where
  take_whole : (xs : List A) → take (length xs) xs ≡ xs
  take_whole [] = refl
  take_whole (x ∷ xs) = ap (λ (l : List A). x ∷ l) (take_whole xs)

  drop_whole : (ys xs : List A) → length ys ≡ length xs → drop (length ys) xs ≡ []
  drop_whole [] [] long = refl
  drop_whole [] (x ∷ xs) long = absurd (omega arith)
  drop_whole (y ∷ ys) [] long = absurd (omega arith)
  drop_whole (y ∷ ys) (x ∷ xs) long = drop_whole ys xs (omega arith)

  -- what stands in a list that was written to as a whole
  pub written : (xs ys : List A) (len : ℕ) → len ≡ length xs → length ys ≡ length xs → take len (ys ++ drop (length ys) xs) ≡ ys
  written xs ys len is long =
      ap (λ (n : ℕ). take n (ys ++ drop (length ys) xs)) (is ∙ sym long) ∙ ap (λ (l : List A). take (length ys) (ys ++ l)) (drop_whole ys xs long) ∙ ap (take (length ys)) (append-nil ys) ∙ take_whole ys

-- the seat at a place is that of the hart at this place
seat_at : {G : Type 0} (xs : List (Runner G)) (i : ℕ) (d : HartSeat) → i < length xs → (r : Runner G) × (slice_index_or xs i r ≡ r) × (slice_index_or (seats_of xs) i d ≡ r.bench.seat)
seat_at [] i d low = absurd (omega arith)
seat_at (x ∷ xs) zero d low = (x, refl, refl)
seat_at (x ∷ xs) (suc i) d low = seat_at xs i d (omega arith)

module _ {G : Type 0} (program : Program) (of : CodeTable) (tally : Counts) (calls : List ListedCall) (harts : ℕ) where
  pub all_idle : (xs : List (Runner G)) → Each (IsDone program of tally calls harts) xs → All (IsIdleSeat of) (seats_of xs)
  all_idle xs all i d low =
      let long = seats_long xs in
      let here : i < length xs = omega arith in
      let s = seat_at xs i d here in
      let is = subst (IsDone program of tally calls harts i) s.1 (all i s.0 here) in
      subst (IsIdleSeat of) (sym s.2) (is.table, is.idle)

  pub all_harts : (xs : List (Runner G)) → length xs ≡ harts → Each (IsDone program of tally calls harts) xs → AreAllHarts harts (seats_of xs)
  all_harts xs count all h low =
      let long = seats_long xs in
      let here : h < length xs = omega arith in (
        h,
        omega arith,
        λ d.
            let s = seat_at xs h d here in
            let is = subst (IsDone program of tally calls harts h) s.1 (all h s.0 here) in
            ap (λ (t : HartSeat). t.number) s.2 ∙ is.seat,
      )

-- the harts that were gone are so still
pub all_gone : (before after : Book) (count harts : ℕ) → harts ≡ count → after.gone ≡ before.gone → AllGone count before → AllGone harts after
all_gone before after count harts number same all h low = let is = all h (omega (arith, number, low)) in (is.0, subst (λ (l : List ℕ). At l is.0 h) (sym same) is.1)
