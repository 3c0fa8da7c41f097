use Rattle.std.proofs.Common.{◌≡◌, ◌+◌, ◌<◌, ◌≤◌, ℕ, List, length, length-append, refl, sym, ap, subst, ◌∙◌, arith}
use Rattle.std.specs.Prelude.{vec_capacity}
use Rattle.redirect_cells.specs.declared.hart_seat.HartSeat.{HartSeat}
use Rattle.entry_counts.specs.declared.seat.CountSeat.{CountSeat}
use Rattle.jit_session.specs.Runners.{MayAnswer}
use Rattle.jit_session.specs.Runs.{IsReady, IsSameSeat, IsSameCounts}
use Rattle.jit_session.specs.Served.{HasServed}
use Rattle.jit_session.proofs.Serving.{served_none, served_more, has_entered}
use Rattle.code_epochs.proofs.Lists.{at_index}
use Rattle.ir_meaning.specs.declared.calls.Ended.{Ended}
use Rattle.jit_session.proofs.Answering.{AreRight, listed_at, right_none, right_more, first_place, next_place, same_seat, same_counts}
use Rattle.jit_session.proofs.runner.Runner.run.Goals as goal

pub loop-place-init : goal.loop-place-init
loop-place-init g c = record {
  place = first_place c.args.harts c.args.self.now.number (length c.args.self.now.answers.items) (ap length c.requires.2.none);
  each = λ program work can. (
    right_none program c.args.calls.now c.args.harts c.args.self.now.number c.args.self.now.answers.items can.none,
    can.ready,
    served_none program c.args.calls.now c.args.harts c.args.self.now.number c.args.self.now.bench.seat c.args.self.now.bench.counts c.args.self.now.answers.items can.none,
  );
  seat = record { table = refl; number = refl };
  counts = record { table = refl; parts = refl; joined = refl };
  number = refl;
  entries = refl;
  room = refl;
}

pub name_call-requires : goal.name_call-requires
name_call-requires g c = (c.loop-place.invariant.each c.requires.0 c.requires.1 c.requires.2).1.idle

pub answer-end-requires : goal.answer-end-requires
answer-end-requires g c =
    let p = c.requires.0 in
    let work = c.requires.1 in
    let now = c.loop-place.invariant.each p work c.requires.2 in (
      p,
      record {
        typed = work.typed;
        ready = subst (λ (s : HartSeat). IsReady p c.loop-place.self.hart s) (sym c.name_call.ensures.seat) now.1;
        image = work.image;
        listed = listed_at p.module_.functions c.args.calls.now c.loop-place.place c.index-calls-place.result work.calls c.loop-place-test.true c.index-calls-place.is;
      },
    )

pub push_reserved-requires : goal.push_reserved-requires
push_reserved-requires g c =
    let inv = c.loop-place.invariant in
    let low = c.loop-place-test.true in
    let n = length c.loop-place.self.answers.items in
    let room : n < vec_capacity c.args.self.now.answers = c.requires.2.room n (subst (λ (k : ℕ). k < length c.args.calls.now) inv.place low) in
    let same = inv.room in
    let len = c.loop-place.self.answers.ok.0 in
    omega arith

pub loop-place-preserved : goal.loop-place-preserved
loop-place-preserved g c =
    let inv = c.loop-place.invariant in
    let old = c.loop-place.self in
    let b = c.name_call.new.self in
    let call = c.index-calls-place.result in
    let seat = c.answer-end.ensures.seat in
    let counts = c.answer-end.ensures.counts in
    let from : IsSameSeat c.args.self.now.bench.seat b.seat = subst (λ (s : HartSeat). IsSameSeat c.args.self.now.bench.seat s) (sym c.name_call.ensures.seat) inv.seat in
    let counted : IsSameCounts c.args.self.now.bench.counts b.counts = subst (λ (s : CountSeat). IsSameCounts c.args.self.now.bench.counts s) (sym c.name_call.ensures.counts) inv.counts in
    let items = c.push_reserved.ensures.items in
    let more : length c.push_reserved.new.self.items ≡ length old.answers.items + 1 = ap length items ∙ length-append old.answers.items _ in record {
      place = next_place c.args.harts c.args.self.now.number c.loop-place.place (length old.answers.items) (length c.push_reserved.new.self.items) inv.place more;
      each = λ program work can.
          let now = inv.each program work can in
          let may : MayAnswer program c.args.image.now call old.hart b.seat = record {
            typed = work.typed;
            ready = subst (λ (s : HartSeat). IsReady program old.hart s) (sym c.name_call.ensures.seat) now.1;
            image = work.image;
            listed = listed_at program.module_.functions c.args.calls.now c.loop-place.place call work.calls c.loop-place-test.true c.index-calls-place.is;
          } in
          let done = c.answer-end.ensures.right program may in
          let f = c.args.self.now.bench in
          let before : HasServed program c.args.calls.now c.args.harts c.args.self.now.number f.seat b.seat f.counts b.counts old.answers.items =
          subst (λ (s : HartSeat). HasServed program c.args.calls.now c.args.harts c.args.self.now.number f.seat s f.counts b.counts old.answers.items) (sym c.name_call.ensures.seat)
          (subst (λ (s : CountSeat). HasServed program c.args.calls.now c.args.harts c.args.self.now.number f.seat old.bench.seat f.counts s old.answers.items) (sym c.name_call.ensures.counts) now.2) in
          let more' = served_more program c.args.calls.now c.args.harts c.args.self.now.number c.loop-place.place f.seat b.seat c.answer-end.new.bench.seat f.counts b.counts c.answer-end.new.bench.counts
          old.answers.items call c.answer-end.result before from.table counted.table inv.place (at_index c.args.calls.now c.loop-place.place call c.loop-place-test.true c.index-calls-place.is)
          (c.answer-end.ensures.served program may) in (
            subst (AreRight program c.args.calls.now c.args.harts c.args.self.now.number) (sym items)
                (right_more program c.args.calls.now c.args.harts c.args.self.now.number c.loop-place.place old.answers.items call c.answer-end.result now.0 inv.place c.loop-place-test.true c.index-calls-place.is done.1),
            done.0,
            subst (λ (l : List Ended). HasServed program c.args.calls.now c.args.harts c.args.self.now.number f.seat c.answer-end.new.bench.seat f.counts c.answer-end.new.bench.counts l) (sym items) more',
          );
      seat = same_seat c.args.self.now.bench.seat b.seat c.answer-end.new.bench.seat from seat;
      counts = same_counts c.args.self.now.bench.counts b.counts c.answer-end.new.bench.counts counted counts;
      number = inv.number;
      entries = inv.entries;
      room = c.push_reserved.ensures.capacity ∙ inv.room;
    }

pub returns : goal.returns
returns g c = λ program work can.
    let inv = c.loop-place.invariant in
    let past = c.loop-place-test.false in
    let place = inv.place in
    let now = inv.each program work can in
    let f = c.args.self.now in
    let b = c.loop-place.self.bench in
    let whole = subst (λ (k : ℕ). length c.args.calls.now ≤ k) place (omega arith) in record {
      answered = record { right = now.0; whole = whole };
      ready = now.1;
      seat = inv.seat;
      counts = inv.counts;
      number = inv.number;
      entries = inv.entries;
      served = now.2;
      entered = has_entered program c.args.image.now c.args.calls.now c.args.harts f.number f.bench.seat b.seat f.bench.counts b.counts c.loop-place.self.answers.items work now.2 whole;
    }
