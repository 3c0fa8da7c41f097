use Rattle.std.proofs.Common.{◌≡◌, ℕ, ◌+◌, ◌*◌, ◌/◌, ◌%◌, ◌<◌, ◌≤◌, length, sym, ap, subst, ◌∙◌, arith}
use Rattle.std.proofs.Math.Nat.{mod-lt, mod-add-div}
use Rattle.code_epochs.specs.Sound.{At}
use Rattle.code_epochs.proofs.Lists.{at_index, at_same}
use Rattle.jit_core.specs.declared.seat.Seat.{Seat}
use Rattle.jit_core.specs.Seats.{place_of}
use Rattle.jit_core.proofs.Standing.{answer_right}
use Rattle.jit_core.proofs.state_machine.Core.answer.Goals as goal

pub returns-then-place-len-clause-none : goal.returns-then-place-len-clause-none
returns-then-place-len-clause-none c = λ s at.
    let seats = c.args.self.now.seats in
    let n = c.len-harts.result in
    let vec = seats.ok.0 in
    let len = c.len-harts.ensures in
    let e : n ≡ length seats.items = omega arith in
    let some : 0 < n = (let a = c.requires.kept.harts.0 in omega arith) in
    let small : c.args.call % n < length seats.items = subst (λ (k : ℕ). c.args.call % n < k) e (mod-lt c.args.call some) in
    let seat = c.index-seat.result.now in
    let here : At seats.items (c.args.call % n) seat = at_index seats.items (c.args.call % n) seat small c.index-seat.ensures in
    let same : seat ≡ s = at_same seats.items (c.args.call % n) seat s here (subst (λ (k : ℕ). At seats.items (c.args.call % k) s) (sym e) at) in
    let own = seat.answers.ok.0 in
    let many = c.len.ensures in
    let past = c.if-place-len.true in
    let most : length seat.answers.items ≤ c.args.call / n = omega arith in
    subst (λ (k : ℕ). length s.answers.items ≤ c.args.call / k) e (subst (λ (z : Seat). length z.answers.items ≤ c.args.call / n) same most)

pub returns-clause-right : goal.returns-clause-right
returns-clause-right c =
    let told = c.requires.kept.stands.0 in
    let s = c.requires.kept.stands.1 in
    let core = c.args.self.now in
    let seats = core.seats in
    let n = c.len-harts.result in
    let vec = seats.ok.0 in
    let len = c.len-harts.ensures in
    let e : n ≡ length seats.items = omega arith in
    let some : 0 < n = (let a = c.requires.kept.harts.0 in omega arith) in
    let small : c.args.call % n < length seats.items = subst (λ (k : ℕ). c.args.call % n < k) e (mod-lt c.args.call some) in
    let seat = c.index-seat.result.now in
    let here : At seats.items (c.args.call % n) seat = at_index seats.items (c.args.call % n) seat small c.index-seat.ensures in
    let own = seat.answers.ok.0 in
    let many = c.len.ensures in
    let before = c.if-place-len.false in
    let low : c.args.call / n < length seat.answers.items = omega arith in
    let harts : core.work.harts ≡ n = c.requires.kept.harts.1 ∙ sym e in
    let place : place_of core.work.harts (c.args.call % n) (c.args.call / n) ≡ c.args.call = ap (λ (k : ℕ). c.args.call % n + k * (c.args.call / n)) harts ∙ mod-add-div c.args.call n in
    answer_right core told c.args.call (c.args.call / n) (c.args.call % n) seat c.index.result.now s here (at_index seat.answers.items (c.args.call / n) c.index.result.now low c.index.ensures) place

pub returns-clause-seat : goal.returns-clause-seat
returns-clause-seat c =
    let core = c.args.self.now in
    let seats = core.seats in
    let n = c.len-harts.result in
    let vec = seats.ok.0 in
    let len = c.len-harts.ensures in
    let e : n ≡ length seats.items = omega arith in
    let some : 0 < n = (let a = c.requires.kept.harts.0 in omega arith) in
    let small : c.args.call % n < length seats.items = subst (λ (k : ℕ). c.args.call % n < k) e (mod-lt c.args.call some) in
    let seat = c.index-seat.result.now in
    let here : At seats.items (c.args.call % n) seat = at_index seats.items (c.args.call % n) seat small c.index-seat.ensures in
    let own = seat.answers.ok.0 in
    let many = c.len.ensures in
    let before = c.if-place-len.false in
    let low : c.args.call / n < length seat.answers.items = omega arith in (
      seat,
      subst (λ (k : ℕ). At seats.items (c.args.call % k) seat) e here,
      subst (λ (k : ℕ). At seat.answers.items (c.args.call / k) c.index.result.now) e (at_index seat.answers.items (c.args.call / n) c.index.result.now low c.index.ensures),
    )
