use Rattle.std.proofs.Common.{◌≡◌, ℕ, ◌+◌, ◌*◌, ◌<◌, [], length, refl, sym, ap, subst, ◌∙◌, arith}
use Rattle.std.proofs.lemmas.List.{length-set}
use Rattle.ir_meaning.specs.declared.calls.ListedCall.{ListedCall}
use Rattle.rv_play.specs.Machine.{data_base, control_base}
use Rattle.hart.specs.Calls.{Knows, Stands, origin_of}
use Rattle.hart.proofs.Stores.{bytes_in_range}
use Rattle.code_epochs.specs.Sound.{At}
use Rattle.code_epochs.proofs.Lists.{at_index}
use Rattle.jit_core.specs.Seats.{place_of}
use Rattle.jit_core.proofs.Falling.{begin_falls}
use Rattle.jit_core.proofs.Stands.{at_or, seat_of}
use Rattle.jit_core.proofs.Stepping.{begin_steps}
use Rattle.jit_core.proofs.Readying.{stays_ready, can_wait}
use Rattle.jit_core.proofs.Turning as T
use Rattle.jit_core.proofs.seat.Seat.begin.Goals as goal

pub start-requires-clause-call : goal.start-requires-clause-call
start-requires-clause-call c =
    let calls = c.args.work.calls.now in
    let place = c.args.number + c.args.work.harts * c.len.result in
    let vec = c.args.self.now.answers.ok.0 in
    let len = c.len.ensures in
    let count : c.len.result ≡ length c.args.self.now.answers.items = omega arith in
    let low : place < length calls = subst (λ (n : ℕ). c.args.number + c.args.work.harts * n < length calls) (sym count) c.requires.more in
    c.requires.calls place _ (at_or calls place c.index-work-place.result low)

pub returns-clause-steps : goal.returns-clause-steps
returns-clause-steps c =
    let s = c.args.self.now in
    let work = c.args.work in
    let calls = work.calls.now in
    let image = work.image.now in
    let old = c.args.state.now in
    let new = c.announce.new.state in
    let call = c.index-work-place.result in
    let words = c.len-code_words.result in
    let h1 = c.start.new.self in
    let h2 = c.turn.new.self in
    let h3 = c.go_on-self.new.hart in
    let place = c.args.number + work.harts * c.len.result in
    let vec = s.answers.ok.0 in
    let len = c.len.ensures in
    let count : c.len.result ≡ length s.answers.items = omega arith in
    let low : place < length calls = subst (λ (n : ℕ). c.args.number + work.harts * n < length calls) (sym count) c.requires.more in
    let at : At calls (place_of work.harts c.args.number (length s.answers.items)) call =
    subst (λ (n : ℕ). At calls (place_of work.harts c.args.number n) call) count (at_index calls place call low c.index-work-place.is) in
    let code = new.code.ok.0 in
    let frame = ap (λ v. length v.items) c.announce.ensures.frame.2 in
    let long = c.len-code_words.ensures in
    let size : words ≡ length old.code.items = omega arith in
    let a = c.go_on-self.ensures.same in
    let b = c.turn.ensures.same in
    let d = c.start.ensures in
    let knows : Knows s.hart h3 = record {
      functions = a.functions ∙ b.functions ∙ d.known.0;
      widths = a.widths ∙ b.widths ∙ d.known.1;
      room = a.room ∙ b.room ∙ ap length d.bytes ∙ T.image_length image s.hart.bytes.items c.requires.ready.image;
    } in
    let begins = T.begun h1 h2 c.turn.result d.phase c.turn.ensures.wanted c.turn.ensures.next in
    begin_steps old new s work c.args.number c.args.epoch words call h3 c.go_on-self.result c.announce.ensures.sound c.requires.stage c.requires.number at size
    c.go_on-self.ensures.waits knows (a.code_words ∙ b.code_words ∙ d.code)
    (bytes_in_range data_base _ h1.bytes.items d.bytes d.in_range.0) (bytes_in_range control_base _ h1.control.items (ap (λ v. v.items) d.control) d.in_range.1)
    (λ m known.
    let o = origin_of s.hart image call words in
    let started : Stands m o h1 [] [] = subst (λ (k : ListedCall). Stands m (origin_of s.hart image k words) h1 [] []) (sym c.index-work-place.is) (d.stands m known) in
    T.goes_on h2 h3 m o begins (c.go_on-self.ensures.stands m o [] [] (T.begun_stands h1 h2 m o d.phase begins (c.turn.ensures.stands m o [] [] started))))

pub returns-clause-ready : goal.returns-clause-ready
returns-clause-ready c =
    let s = c.args.self.now in
    let r = c.requires.ready in
    let work = c.args.work in
    let new = c.announce.new.state in
    let frame = c.announce.ensures.frame in
    let h3 = c.go_on-self.new.hart in
    let a = c.go_on-self.ensures.same in
    let b = c.turn.ensures.same in
    let d = c.start.ensures in
    let code = new.code.ok.0 in
    let long = c.len-code_words.ensures in
    let size : c.len-code_words.result ≡ length new.code.items = omega arith in
    stays_ready s (seat_of h3 c.go_on-self.result s) c.args.state.now new work c.args.number r
    (ap (λ v. length v.items) frame.0) (ap length c.announce.ensures.change ∙ length-set c.args.state.now.harts.items c.args.number c.args.epoch) (ap (λ v. length v.items) frame.2)
    (a.functions ∙ b.functions ∙ d.known.0) (a.room ∙ b.room ∙ ap length d.bytes ∙ T.image_length work.image.now s.hart.bytes.items r.image) refl r.count
    (can_wait work c.args.number (length s.answers.items) new h3 c.go_on-self.result c.go_on-self.ensures.waits (a.code_words ∙ b.code_words ∙ d.code ∙ size) c.requires.more)

pub returns-clause-fewer : goal.returns-clause-fewer
returns-clause-fewer c =
    let calls = c.args.work.calls.now in
    let place = c.args.number + c.args.work.harts * c.len.result in
    let vec = c.args.self.now.answers.ok.0 in
    let len = c.len.ensures in
    let count : c.len.result ≡ length c.args.self.now.answers.items = omega arith in
    let low : place < length calls = subst (λ (n : ℕ). c.args.number + c.args.work.harts * n < length calls) (sym count) c.requires.more in
    let call = c.requires.calls place _ (at_index calls place c.index-work-place.result low c.index-work-place.is) in
    let h1 = c.start.new.self in
    let a = c.go_on-self.ensures.fewer in
    let b = c.turn.ensures.fewer in
    begin_falls c.args.work c.args.self.now c.go_on-self.new.hart h1 c.args.epoch c.go_on-self.result c.index-work-place.result.turns c.requires.stage c.go_on-self.ensures.waits (omega arith) c.start.ensures.phase
    (c.start.ensures.left ∙ ap (λ (k : ListedCall). 256 * k.turns) (sym c.index-work-place.is)) call.turns
