-- The core after a hart's step.
use Rattle.std.specs.Global.{Vec}
use Rattle.std.proofs.Common.{◌<◌, ◌≤◌, ◌≡◌, ◌++◌, ◌∷◌, [], ℕ, List, length, refl, sym, ap, subst, ◌∙◌}
use Rattle.code_epochs.specs.declared.state.CodeState.{CodeState}
use Rattle.code_epochs.specs.declared.parts.Book.{Book}
use Rattle.code_epochs.specs.Sound.{IsStateOf}
use Rattle.jit_core.specs.declared.event.Event.TheVariants as event
use Rattle.jit_core.specs.declared.event.Stepped.TheVariants as stepped
use Rattle.jit_core.specs.declared.seat.Seat.{Seat}
use Rattle.jit_core.specs.declared.state_machine.Core.{Core}
use Rattle.jit_core.specs.Events.{Told}
use Rattle.jit_core.specs.Seated.{IsSameSize}
use Rattle.jit_core.specs.Harts.{AllStand, AreReady, Moves}
use Rattle.jit_core.specs.Spaces.{count_held}
use Rattle.jit_core.specs.Cores.{IsLastLook, IsKept, Stands, meaning_of}
use Rattle.jit_core.proofs.OneStep.{hart_own}
use Rattle.jit_core.proofs.Standing.{runs_more, all_here, publishes_same, can_same}
use Rattle.jit_core.proofs.Spaces.{space_same}
use Rattle.jit_core.proofs.Linking.{OnlyRaising}

-- the core with these seats, in this state
abbrev pub with_seats : Core → CodeState → Vec Seat → Core
with_seats c st seats = record { all = c.all; work = c.work; state = st; seats = seats; space = c.space; publishing = c.publishing; looked = c.looked }

pub hart_stands : (core : Core) (st : CodeState) (seats : Vec Seat) (h : ℕ) (told : List Told) → Moves core.state st core.seats.items seats.items core.work h → Stands core told
    → Stands (with_seats core st seats) (told ++ record { event = event.Hart h; answer = stepped.Moved } ∷ [])
hart_stands core st seats h told moves s =
    let m = meaning_of core in
    let x = s.whole in
    let t = moves m x s.sound s.state (all_here x h s.gone) s.seats in
    let own = hart_own x h t.0 t.1 in record {
      first = s.first;
      whole = t.0;
      sound_first = s.sound_first;
      runs = runs_more m s.first x t.0 told record { event = event.Hart h; answer = stepped.Moved } s.runs t.1;
      sound = t.2;
      state = t.3;
      gone = ap (λ (k : Book). k.gone) own.rest.3 ∙ s.gone;
      seats = t.4;
      publishing = publishes_same m x t.0 core.publishing own.rest.0 own.rest.2 own.rest.3 s.publishing;
      unlinked = subst (λ (k : Book). OnlyRaising k.versions core.publishing) (sym own.rest.3) s.unlinked;
      space = space_same x.book.versions t.0.book.versions (length x.code) (length t.0.code) core.publishing core.space (ap (λ (k : Book). k.versions) own.rest.3) (ap length own.rest.2) s.space;
      looked = subst (λ (k : Book). IsLastLook k.looks core.looked) (sym own.rest.3) s.looked;
    }

pub hart_kept : (core : Core) (st : CodeState) (seats : Vec Seat) (h : ℕ) → Moves core.state st core.seats.items seats.items core.work h → IsSameSize core.state st → st.versions ≡ core.state.versions → length seats.items ≡ length core.seats.items
    → AreReady seats.items st core.work → IsKept core → IsKept (with_seats core st seats)
hart_kept core st seats h moves size versions count ready k = record {
  ready = ready;
  can = can_same core.state st core.publishing size versions k.can;
  code = subst (λ (n : ℕ). n ≤ 4194304) (sym size.2) k.code;
  functions = size.0 ∙ k.functions;
  harts = (subst (λ (n : ℕ). 0 < n) (sym count) k.harts.0, k.harts.1 ∙ sym count);
  room = subst (λ v. count_held v.items core.publishing ≤ core.space.spare) (sym versions) k.room;
  stands = (_, hart_stands core st seats h k.stands.0 moves k.stands.1);
}

-- the core whose hart had no call left
pub over_stands : (core : Core) (st : CodeState) (seats : Vec Seat) (h : ℕ) (told : List Told) → seats.items ≡ core.seats.items → st ≡ core.state → Stands core told
    → Stands (with_seats core st seats) (told ++ record { event = event.Hart h; answer = stepped.Nothing } ∷ [])
over_stands core st seats h told same state s = record {
  first = s.first;
  whole = s.whole;
  sound_first = s.sound_first;
  runs = runs_more (meaning_of core) s.first s.whole s.whole told record { event = event.Hart h; answer = stepped.Nothing } s.runs refl;
  sound = s.sound;
  state = subst (λ (k : CodeState). IsStateOf k s.whole) (sym state) s.state;
  gone = s.gone;
  seats = subst (λ (l : List Seat). AllStand (meaning_of core) core.work s.whole l) (sym same) s.seats;
  publishing = s.publishing;
  unlinked = s.unlinked;
  space = s.space;
  looked = s.looked;
}

pub over_kept : (core : Core) (st : CodeState) (seats : Vec Seat) (h : ℕ) → seats.items ≡ core.seats.items → st ≡ core.state → IsSameSize core.state st → length seats.items ≡ length core.seats.items
    → AreReady seats.items st core.work → IsKept core → IsKept (with_seats core st seats)
over_kept core st seats h same state size count ready k = record {
  ready = ready;
  can = can_same core.state st core.publishing size (ap (λ (x : CodeState). x.versions) state) k.can;
  code = subst (λ (n : ℕ). n ≤ 4194304) (sym size.2) k.code;
  functions = size.0 ∙ k.functions;
  harts = (subst (λ (n : ℕ). 0 < n) (sym count) k.harts.0, k.harts.1 ∙ sym count);
  room = subst (λ (x : CodeState). count_held x.versions.items core.publishing ≤ core.space.spare) (sym state) k.room;
  stands = (_, over_stands core st seats h k.stands.0 same state k.stands.1);
}
