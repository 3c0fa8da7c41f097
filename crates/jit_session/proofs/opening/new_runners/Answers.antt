use Rattle.std.proofs.Common.{◌≡◌, ◌+◌, [], ◌∷◌, ◌++◌, length, length-append, Some, sum_by, sym, ap, subst, refl, ◌∙◌, append_assoc, arith}
use Rattle.std.proofs.lemmas.List.Elements.{All-pop}
use Rattle.std.proofs.lemmas.List.Sums.{sum_by_push}
use Rattle.std.specs.Vec.Iter.{into_iter_items}
use Rattle.entry_counts.specs.Seats as counts
use Rattle.jit_session.specs.Runs.{Each}
use Rattle.jit_session.specs.OpenedHarts.{IsNew, parts_of}
use Rattle.jit_session.proofs.Each.{each_more}
use Rattle.jit_session.proofs.Starting.{next_seat, is_new}
use Rattle.jit_session.proofs.opening.new_runners.Goals as goal

pub new_runner-requires-clause-idle : goal.new_runner-requires-clause-idle
new_runner-requires-clause-idle g c =
    let at = c.loop-seat in
    let x = c.in-Some.seat in
    let steps : into_iter_items at.seat-iterator ≡ x ∷ into_iter_items c.next.new.self = c.in-Some.ensures.steps.0 in
    let all : at.yielded ++ x ∷ into_iter_items c.next.new.self ≡ c.args.seats.items = rw steps at at.invariant.order ∙ c.into_iter-seat-iterator.ensures.into_iter_gives.0 in
    (next_seat c.args.table.now c.args.seats.items at.yielded (into_iter_items c.next.new.self) x c.requires.seats all).2

pub new_runner-requires-clause-fresh : goal.new_runner-requires-clause-fresh
new_runner-requires-clause-fresh g c =
    let at = c.loop-seat in
    let x = c.in-Some.seat in
    let steps : into_iter_items at.seat-iterator ≡ x ∷ into_iter_items c.next.new.self = c.in-Some.ensures.steps.0 in
    let all : at.yielded ++ x ∷ into_iter_items c.next.new.self ≡ c.args.seats.items = rw steps at at.invariant.order ∙ c.into_iter-seat-iterator.ensures.into_iter_gives.0 in
    (next_seat c.args.table.now c.args.seats.items at.yielded (into_iter_items c.next.new.self) x c.requires.seats all).3

pub new_runner-requires-clause-counts : goal.new_runner-requires-clause-counts
new_runner-requires-clause-counts g c =
    let is = (All-pop (counts.IsNewSeat c.args.tally.now) c.loop-seat.left.items c.pop.new.self.items (Some c.in-Some-pop.counts) c.in-Some-pop.ensures.items c.loop-seat.invariant.spare).1 in
    (refl, is.1, is.2, is.3)

pub new_runner-requires-clause-symbols : goal.new_runner-requires-clause-symbols
new_runner-requires-clause-symbols g c =
    let at = c.loop-seat in
    let x = c.in-Some.seat in
    let steps : into_iter_items at.seat-iterator ≡ x ∷ into_iter_items c.next.new.self = c.in-Some.ensures.steps.0 in
    let all : at.yielded ++ x ∷ into_iter_items c.next.new.self ≡ c.args.seats.items = rw steps at at.invariant.order ∙ c.into_iter-seat-iterator.ensures.into_iter_gives.0 in
    let seat = next_seat c.args.table.now c.args.seats.items at.yielded (into_iter_items c.next.new.self) x c.requires.seats all in
    let is = (All-pop (counts.IsNewSeat c.args.tally.now) at.left.items c.pop.new.self.items (Some c.in-Some-pop.counts) c.in-Some-pop.ensures.items at.invariant.spare).1 in
    ap (λ t. t.symbols) is.0 ∙ c.requires.symbols ∙ sym (ap (λ t. t.functions) seat.0)

pub loop-seat-preserved : goal.loop-seat-preserved
loop-seat-preserved g c =
    let at = c.loop-seat in
    let inv = at.invariant in
    let x = c.in-Some.seat in
    let taken = c.in-Some-pop.counts in
    let steps : into_iter_items at.seat-iterator ≡ x ∷ into_iter_items c.next.new.self = c.in-Some.ensures.steps.0 in
    let all : at.yielded ++ x ∷ into_iter_items c.next.new.self ≡ c.args.seats.items = rw steps at inv.order ∙ c.into_iter-seat-iterator.ensures.into_iter_gives.0 in
    let seat = next_seat c.args.table.now c.args.seats.items at.yielded (into_iter_items c.next.new.self) x c.requires.seats all in
    let popped : at.left.items ≡ c.pop.new.self.items ++ taken ∷ [] = c.in-Some-pop.ensures.items in
    let spare = All-pop (counts.IsNewSeat c.args.tally.now) at.left.items c.pop.new.self.items (Some taken) popped inv.spare in
    let r = c.in_ok-runner.runner in
    let items = c.push_reserved.ensures.items in
    let longer : length c.push_reserved.new.self.items ≡ length at.runners.items + 1 = ap length items ∙ length-append at.runners.items _ in
    let one = is_new c.args.checked.now x.table.now c.args.table.now taken.counts.now c.args.tally.now c.len-harts.result c.args.calls x.number (length at.runners.items) r
    c.in_ok-runner.ensures.new seat.0 spare.1.0 (seat.1 ∙ sym inv.count) in record {
      order = append_assoc at.yielded (x ∷ []) _ ∙ rw steps at inv.order;
      left = (let was = inv.left in
          let gone = c.in-Some.ensures.steps.1 in
          let short = ap length steps in
          omega arith);
      count = (let was = inv.count in let y = length-append at.yielded (x ∷ []) in omega (arith, longer, y, was));
      new = subst (λ l. Each (IsNew c.args.checked.now c.args.table.now c.args.tally.now c.len-harts.result c.args.calls) l) (sym items) (each_more (IsNew c.args.checked.now c.args.table.now c.args.tally.now c.len-harts.result c.args.calls) at.runners.items r inv.new one);
      remaining = (let was = inv.remaining in
          let less = ap length popped ∙ length-append c.pop.new.self.items (taken ∷ []) in
          omega (arith, was, less, longer));
      spare = spare.0;
      parts = (let was = inv.parts in
          let a = ap (sum_by counts.parts_of) popped ∙ sum_by_push counts.parts_of c.pop.new.self.items taken in
          let b = ap (sum_by parts_of) items ∙ sum_by_push parts_of at.runners.items r in
          let same = c.in_ok-runner.ensures.parts in
          omega (arith, was, a, b, same));
      room = c.push_reserved.ensures.capacity ∙ inv.room;
    }

pub returns-clause-all : goal.returns-clause-all
returns-clause-all g c =
    (All-pop (counts.IsNewSeat c.args.tally.now) c.loop-seat.left.items c.pop-2.new.self.items (Some c.in-Some-pop-2.all) c.in-Some-pop-2.ensures.items c.loop-seat.invariant.spare).1
