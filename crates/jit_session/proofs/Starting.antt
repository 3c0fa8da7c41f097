-- Harts before their calls.
use Rattle.std.proofs.Common.{◌≡◌, ℕ, ◌+◌, ◌/◌, ◌<◌, ◌≤◌, List, [], ◌∷◌, ◌++◌, length, refl, ap, subst, ◌∙◌, ⊎_elim, arith}
use Rattle.std.proofs.Math.Nat.{mul-le-mul_left, mod-add-div, mod-lt}
use Rattle.std.proofs.lemmas.Bool.{cases_lt}
use Rattle.code_epochs.specs.Sound.{At}
use Rattle.redirect_cells.specs.declared.table.CodeTable.{CodeTable}
use Rattle.redirect_cells.specs.declared.hart_seat.HartSeat.{HartSeat}
use Rattle.redirect_cells.specs.Kept.{part_in, part_of, word_in}
use Rattle.redirect_cells.specs.declared.view.Role.{Role}
use Rattle.redirect_cells.specs.Opened.{AreNewSeats}
use Rattle.std.specs.Prelude.{vec_capacity}
use Rattle.ir_core.specs.Program.{Program}
use Rattle.entry_counts.specs.declared.counts.Counts.{Counts}
use Rattle.jit_session.specs.declared.runner.Runner.{Runner}
use Rattle.jit_session.specs.OpenedHarts.{IsNew}
use Rattle.jit_session.specs.Runs.{place_of}

-- room for the answers to the calls of one of so many harts
pub enough : (harts number calls n : ℕ) → 1 ≤ harts → place_of harts number n < calls → n < calls / harts + 1
enough harts number calls n some low = ⊎_elim (λ lt. lt) (λ le. absurd (let more = mul-le-mul_left harts le in let is = mod-add-div calls harts in let less = mod-lt calls some in let bad : ⊥ = omega arith in bad)) (cases_lt n (calls / harts + 1))

at_between : {A : Type 0} (xs rest : List A) (x : A) → At (xs ++ x ∷ rest) (length xs) x
at_between [] rest x = refl
at_between (y ∷ xs) rest x = at_between xs rest x

-- the next seat of a table's new ones
pub next_seat : (table : CodeTable) (seats before rest : List HartSeat) (s : HartSeat) → AreNewSeats table (length seats) seats → before ++ s ∷ rest ≡ seats
    → (s.table.now ≡ table) × (s.number ≡ length before) × (word_in s.seat.me.0.role ≡ 0) × ((part_of s.seat.me.0).ended ≡ [])
next_seat table seats before rest s all order =
    let at : At seats (length before) s = subst (λ (l : List HartSeat). At l (length before) s) order (at_between before rest s) in
    let is = all.1 (length before) s at in
    (is.0, is.1, ap word_in is.2, ap (λ (r : Role). (part_in r).ended) is.2)

pub nothing_left : {X : Type 0} (l : List X) → length l ≡ 0 → l ≡ []
nothing_left [] h = refl
nothing_left (x ∷ xs) h = absurd (omega arith)

-- a new hart by equal tables, counts and numbers
pub is_new : {G : Type 0} (program : Program) (t u : CodeTable) (a b : Counts) (harts calls n m : ℕ) (r : Runner G) → IsNew program t a harts calls n r → t ≡ u → a ≡ b → n ≡ m → IsNew program u b harts calls m r
is_new program t u a b harts calls n m r w table counts number = record {
  number = w.number ∙ number;
  known = w.known;
  table = w.table ∙ table;
  seat = w.seat ∙ number;
  idle = w.idle;
  fresh = w.fresh;
  counts = (w.counts.0 ∙ counts, w.counts.1, w.counts.2, w.counts.3);
  none = w.none;
  room = w.room;
  entries = w.entries;
  enough = subst (λ (x : CodeTable). x.functions ≤ vec_capacity r.entries) table w.enough;
}
