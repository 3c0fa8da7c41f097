-- Rounds over the harts.
use Rattle.std.proofs.Common.{◌≡◌, ◌≢◌, ℕ, suc, Bool, true, false, ◌+◌, ◌*◌, ◌/◌, ◌%◌, ◌<◌, ◌≤◌, List, [], ◌∷◌, ◌++◌, map, length, refl, sym, ap, subst, ◌∙◌, arith}
use Rattle.std.proofs.Math.Nat.{mod-lt, mod-add-div}
use Rattle.std.proofs.lemmas.Nat.{mul-le}
use native.Mathlib.Decide.{dec_lt}
use mathlib.Core.Logic.{dite}
use Rattle.code_epochs.proofs.Lists.{at_some, at_same}
use Rattle.jit_core.specs.declared.event.Event.TheVariants as event
use Rattle.jit_core.specs.declared.event.Stepped.{Stepped}
use Rattle.jit_core.specs.declared.event.Stepped.TheVariants.{Moved, Taken, Nothing, Busy, Refused}
use Rattle.jit_core.specs.declared.seat.Seat.{Seat}
use Rattle.jit_core.specs.declared.state_machine.Core.{Core}
use Rattle.jit_core.specs.Harts.{IsOver}
use Rattle.jit_core.specs.Left.{all_left}
use Rattle.jit_core.specs.Cores.{IsKept, IsAnswer}
use Rattle.jit_core.specs.Finished.{AllOver, HasAnswered, one_round, rounds}
use Rattle.jit_core.specs.Events.{Told}
use Rattle.jit_core.specs.Simulated.{MakesAll, event_of}
use Rattle.jit_core.specs.declared.event.Event.{Event}
use Rattle.jit_core.proofs.Simulating.{makes_then, events_then}

-- a hart that made no step has no call left
pub not_moved : (c d : Core) (h : ℕ) (r : Stepped) → r ≢ Moved → IsAnswer c (event.Hart h) r d → (d.work ≡ c.work) × (d.seats.items ≡ c.seats.items) × IsOver c.seats.items c.work h
not_moved c d h Moved other a = absurd (other refl)
not_moved c d h Taken other a = absurd a
not_moved c d h Nothing other a = (a.1.1, a.1.3, a.0)
not_moved c d h (Busy w) other a = absurd a
not_moved c d h (Refused w cause) other a = absurd a

pub still_most : (c d : Core) (h : ℕ) (r : Stepped) → (r ≡ Moved → all_left d.work d.seats.items < all_left c.work c.seats.items) → IsAnswer c (event.Hart h) r d → all_left d.work d.seats.items ≤ all_left c.work c.seats.items
still_most c d h Moved fewer a = let x = fewer refl in omega arith
still_most c d h Taken fewer a = absurd a
still_most c d h Nothing fewer a = let same : all_left d.work d.seats.items ≡ all_left c.work c.seats.items = (λ i. all_left (a.1.1 i) (a.1.3 i)) in omega arith
still_most c d h (Busy w) fewer a = absurd a
still_most c d h (Refused w cause) fewer a = absurd a

-- there are at most sixteen harts
pub few_seats : (c : Core) → IsKept c → length c.seats.items ≤ 16
few_seats c k =
    let s = at_some c.seats.items 0 k.harts.0 in
    let r = (k.ready 0 s.0 s.1).harts in
    let same = k.harts.1 in omega arith

-- what is left has fallen where a hart has moved before or now
pub falls_on : (was result : Bool) (a b c : ℕ) → (was ≡ true → b < c) → (result ≡ true → was ≡ false → a < b) → a ≤ b → b ≤ c → result ≡ true → a < c
falls_on true result a b c before now most all is = let x = before refl in omega arith
falls_on false result a b c before now most all is = let x = now is refl in omega arith

-- the hart with this number or one before it
pub over_more : (c : Core) (n : ℕ) → ((k : ℕ) → k < n → IsOver c.seats.items c.work k) → IsOver c.seats.items c.work n → (k : ℕ) → k < n + 1 → IsOver c.seats.items c.work k
over_more c n before here k low = dite (dec_lt k n) (λ l. before k l) (λ l. subst (λ (m : ℕ). IsOver c.seats.items c.work m) (let e : n ≡ k = omega arith in e) here)

-- where the calls of all harts have ended, each has its answer
pub over_answered : (c : Core) → IsKept c → AllOver c → (place : ℕ) → place < length c.work.calls.now → HasAnswered c place
over_answered c k over place low s at =
    let n = length c.seats.items in
    let small : place % n < n = mod-lt place k.harts.0 in
    let o = over (place % n) small in
    let same : o.0 ≡ s = at_same c.seats.items (place % n) o.0 s o.1 at in
    let most : length c.work.calls.now ≤ place % n + c.work.harts * length s.answers.items = subst (λ (t : Seat). length c.work.calls.now ≤ place % n + c.work.harts * length t.answers.items) same o.2.1 in
    let harts : length c.work.calls.now ≤ place % n + n * length s.answers.items = subst (λ (m : ℕ). length c.work.calls.now ≤ place % n + m * length s.answers.items) k.harts.1 most in
    let is : place % n + n * (place / n) ≡ place = mod-add-div place n in
    dite (dec_lt (place / n) (length s.answers.items)) (λ l. l) (λ l.
    let same_n : n ≤ n = omega arith in
    let x : n * length s.answers.items ≤ n * (place / n) = mul-le n (length s.answers.items) n (place / n) same_n (omega arith) in
    absurd (omega arith))

-- one round more
abbrev pub Goes : Core → Core → ℕ → Type 0
Goes c d harts = (told : List Told) × (n : ℕ) × (map event_of told ≡ rounds n harts) × MakesAll c told d

pub more_rounds : (c d e : Core) (harts : ℕ) → length d.seats.items ≡ harts → Goes c d harts → (told : List Told) × (map event_of told ≡ one_round (length d.seats.items)) × MakesAll d told e → Goes c e harts
more_rounds c d e harts same g r = (
  g.0 ++ r.0,
  suc g.1,
  events_then g.0 r.0 ∙ ap (λ (l : List Event). l ++ map event_of r.0) g.2 ∙ ap (λ (l : List Event). rounds g.1 harts ++ l) (r.1 ∙ ap one_round same),
  makes_then c d e g.0 r.0 g.3 r.2,
)

-- what holds of the seats and the work holds of the same seats and work
pub over_same : (c d : Core) (n : ℕ) → d.work ≡ c.work → d.seats.items ≡ c.seats.items → IsOver d.seats.items d.work n → IsOver c.seats.items c.work n
over_same c d n work seats o = subst (λ w. IsOver c.seats.items w n) work (subst (λ l. IsOver l d.work n) seats o)

pub all_over_same : (c d : Core) → d.work ≡ c.work → d.seats.items ≡ c.seats.items → AllOver c → AllOver d
all_over_same c d work seats all h low = subst (λ w. IsOver d.seats.items w h) (sym work) (subst (λ l. IsOver l c.work h) (sym seats) (all h (subst (λ l. h < length l) seats low)))

pub round_more : (n : ℕ) → one_round n ++ event.Hart n ∷ [] ≡ one_round (n + 1)
round_more n = let e : suc n ≡ n + 1 = omega arith in ap one_round e
