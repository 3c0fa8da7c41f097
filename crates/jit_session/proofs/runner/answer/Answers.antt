use Rattle.std.proofs.Common.{arith, ap, ◌∙◌}
use Rattle.jit_session.proofs.Seats.{has_not_begun, idle_of}
use Rattle.jit_session.proofs.Readying.{symbols_known, is_call, room_for, still_known, right}
use Rattle.jit_session.proofs.Serving.{served_one}
use Rattle.jit_session.proofs.runner.answer.Goals as goal

pub run_call-requires-clause-image : goal.run_call-requires-clause-image
run_call-requires-clause-image g c =
    let may = c.requires.1 in
    let r = room_for c.requires.0 c.args.hart.now c.args.image.now may.ready.known may.image in
    let high = r.high in
    let many = c.args.hart.now.bytes.ok.0 in
    record { low = r.low; high = omega (arith, high, many) }

pub run_call-requires-clause-call : goal.run_call-requires-clause-call
run_call-requires-clause-call g c = is_call c.requires.0 c.args.hart.now c.args.call.now c.requires.1.typed c.requires.1.ready.known c.requires.1.listed

pub run_call-requires-clause-idle : goal.run_call-requires-clause-idle
run_call-requires-clause-idle g c = has_not_begun c.args.bench.now.seat.seat.me.0.role c.requires.1.ready.idle

pub run_call-requires-clause-symbols : goal.run_call-requires-clause-symbols
run_call-requires-clause-symbols g c = symbols_known c.requires.0 c.args.hart.now c.args.bench.now.seat c.requires.1.ready

pub run_call-requires-clause-code : goal.run_call-requires-clause-code
run_call-requires-clause-code g c = c.args.bench.now.seat.table.now.sizes.1

pub returns-clause-right : goal.returns-clause-right
returns-clause-right g c = λ program may.
    let a = c.run_call.ensures.answers in
    let stands = a.fabric_stands in
    let b = c.args.bench.now in
    let b' = c.run_call.new.fabric in (
      record {
        known = still_known program c.args.hart.now c.run_call.new.self may.ready.known c.run_call.ensures.known;
        table = ap (λ t. t.now.table.shared.key.module.value) stands.table ∙ may.ready.table;
        idle = idle_of b'.seat.seat.me.0.role c.run_call.ensures.idle;
      },
      right program c.args.call.now c.args.image.now c.args.hart.now c.run_call.new.self b.seat b'.seat b.counts b'.counts a.pass a.counted c.run_call.result
          may.typed may.ready may.image may.listed stands c.run_call.ensures.idle a.ended c.run_call.ensures.in_range,
    )

pub returns-clause-seat : goal.returns-clause-seat
returns-clause-seat g c = let s = c.run_call.ensures.answers.fabric_stands in record { table = s.table; number = s.number }

pub returns-clause-counts : goal.returns-clause-counts
returns-clause-counts g c = let h = c.run_call.ensures.answers.fabric_stands.count in record { table = h.table; parts = h.parts; joined = h.joined }

pub returns-clause-served : goal.returns-clause-served
returns-clause-served g c = λ program may.
    let a = c.run_call.ensures.answers in
    let b = c.args.bench.now in
    let b' = c.run_call.new.fabric in
    served_one program c.args.call.now c.args.image.now c.args.hart.now c.run_call.new.self b.seat b'.seat b.counts b'.counts a.pass a.counted c.run_call.result
    may.typed may.ready may.image may.listed a.fabric_stands c.run_call.ensures.idle a.ended c.run_call.ensures.in_range
