-- A hart that has what it needs keeps it.
use Rattle.std.proofs.Common.{◌≡◌, ℕ, ◌+◌, ◌*◌, ◌<◌, ◌≤◌, length, vec_capacity, refl, sym, subst, ◌∙◌, arith}
use Rattle.std.proofs.lemmas.Nat.{mul-le}
use Rattle.hart.specs.declared.hart.Hart.{Hart}
use Rattle.hart.specs.Calls.{HasRoomFor}
use Rattle.code_epochs.specs.declared.state.CodeState.{CodeState}
use Rattle.jit_core.specs.declared.seat.Stage.{Stage}
use Rattle.jit_core.specs.declared.seat.Stage.TheVariants as stage
use Rattle.jit_core.specs.declared.seat.Seat.{Seat}
use Rattle.jit_core.specs.declared.seat.Work.{Work}
use Rattle.jit_core.specs.Seats.{WaitsFor, AreCalls, place_of}
use Rattle.jit_core.specs.Seated.{IsReady, IsSameSize, CanStep}

-- what a hart waits for can be given
pub can_wait : (work : Work) (number n : ℕ) (state : CodeState) (h : Hart) (g : Stage) → WaitsFor h g → h.code_words ≡ length state.code.items
    → place_of work.harts number n < length work.calls.now → CanStep work number n state h g
can_wait work number n state h stage.Idle waits code more = absurd waits
can_wait work number n state h (stage.Loaded epoch) waits code more = absurd waits
can_wait work number n state h (stage.Cell symbol) waits code more = (waits, code, more)
can_wait work number n state h (stage.Fetch address) waits code more = (waits, code, more)
can_wait work number n state h stage.End waits code more = (waits, code, more)

pub stays_ready : (before after : Seat) (old new : CodeState) (work : Work) (number : ℕ) → IsReady before old work number
    → length new.cells.items ≡ length old.cells.items → length new.harts.items ≡ length old.harts.items → length new.code.items ≡ length old.code.items
    → after.hart.functions ≡ before.hart.functions → length after.hart.bytes.items ≡ length before.hart.bytes.items
    → vec_capacity after.answers ≡ vec_capacity before.answers → length after.answers.items ≤ 65536
    → CanStep work number (length after.answers.items) new after.hart after.stage → IsReady after new work number
stays_ready before after old new work number r cells harts code functions bytes capacity count can = record {
  stage = can;
  functions = functions ∙ r.functions ∙ sym cells;
  number_fits = subst (λ (n : ℕ). number < n) (sym harts) r.number_fits;
  image = subst (λ (n : ℕ). HasRoomFor n work.image.now) (sym bytes) r.image;
  calls = subst (λ (n : ℕ). AreCalls n work.calls.now) (sym functions) r.calls;
  few = r.few;
  harts = r.harts;
  count = count;
  code = subst (λ (n : ℕ). n ≤ 4194304) (sym code) r.code;
  enough = λ n more. subst (λ (k : ℕ). n < k) (sym capacity) (r.enough n more);
}

can_stays : (work : Work) (number n : ℕ) (old new : CodeState) (h : Hart) (g : Stage) → length new.code.items ≡ length old.code.items → CanStep work number n old h g → CanStep work number n new h g
can_stays work number n old new h stage.Idle same can = tt
can_stays work number n old new h (stage.Loaded epoch) same can = can
can_stays work number n old new h (stage.Cell symbol) same can = (can.0, can.1 ∙ sym same, can.2)
can_stays work number n old new h (stage.Fetch address) same can = (can.0, can.1 ∙ sym same, can.2)
can_stays work number n old new h stage.End same can = (can.0, can.1 ∙ sym same, can.2)

-- a hart that makes no step is as ready as it was
pub other_ready : (s : Seat) (old new : CodeState) (work : Work) (number : ℕ) → IsSameSize old new → IsReady s old work number → IsReady s new work number
other_ready s old new work number size r =
    stays_ready s s old new work number r size.0 size.1 size.2 refl refl refl r.count (can_stays work number (length s.answers.items) old new s.hart s.stage size.2 r.stage)

-- the place of the hart's next call is small
pub place_small : (harts n : ℕ) → harts ≤ 16 → n ≤ 65536 → harts * n ≤ 1048576
place_small harts n few count = mul-le harts n 16 65536 few count

-- a hart's calls come before as many of the list
pub count_below : (harts number n calls : ℕ) → 1 ≤ harts → number + harts * n < calls → calls ≤ 65536 → n + 1 ≤ 65536
count_below harts number n calls least low few =
    let same : n ≤ n = omega arith in
    let one : 1 * n ≤ harts * n = mul-le 1 n harts n least same in
    omega arith

-- a hart has answered fewer calls than there are where one of its calls is left
pub place_above : (harts number n calls : ℕ) → 1 ≤ harts → number + harts * n < calls → n < calls
place_above harts number n calls least low =
    let same : n ≤ n = omega arith in
    let one : 1 * n ≤ harts * n = mul-le 1 n harts n least same in
    omega arith
