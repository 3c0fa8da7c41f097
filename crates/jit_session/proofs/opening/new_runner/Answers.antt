use Rattle.std.proofs.Common.{rules, ◌≡◌, ◌+◌, ◌/◌, [], ap, arith}
use Rattle.std.specs.Prelude.{vec_capacity}
use Rattle.jit_session.proofs.Starting.{enough}
use Rattle.jit_session.proofs.opening.new_runner.Goals as goal

pub returns-clause-new : goal.returns-clause-new
returns-clause-new g c =
    let answers = c.in_ok-answers.answers in
    let entries = c.in_ok-entries.entries in
    let seat = c.new-2.ensures.seat in
    let counts = c.new-2.ensures.counts in
    let room : vec_capacity answers ≡ c.args.calls / c.args.harts + 1 = search rules in
    let symbols : vec_capacity entries ≡ c.args.seat.table.now.functions = search rules in
    let none : answers.items ≡ [] = search rules in
    let empty : entries.items ≡ [] = search rules in record {
      number = c.number-number.ensures;
      known = c.in_ok-widths.ensures.known;
      table = ap (λ s. s.table.now) seat;
      seat = ap (λ s. s.number) seat;
      idle = rw seat c.requires.idle;
      fresh = rw seat c.requires.fresh;
      counts = rw counts c.requires.counts;
      none = none;
      room = λ i low. (let most = enough c.args.harts c.number-number.result c.args.calls i c.requires.harts low in omega arith);
      entries = empty;
      enough = omega arith;
    }
