use Rattle.std.proofs.Common.{ℕ, ◌+◌, ◌<◌, ◌≤◌, length, get_or, count_by, arith, ap}
use Rattle.std.specs.List.Sorted.{IsPermutation}
use Rattle.std.proofs.lemmas.List.{get_or_default}
use Rattle.std.proofs.lemmas.Bool.{MatchBool-at_true, MatchBool-at_false}
use Rattle.regalloc.specs.declared.starts.Start.{Start}
use Rattle.regalloc.specs.Overlap.{contains}
use Rattle.regalloc.specs.Steps.{starts_from, Rises}
use Rattle.regalloc.proofs.Stages.{inside, go_on, too_many}
use Rattle.regalloc.proofs.Finished.{done, done_first, done_fits, done_saved, done_room}
use Rattle.regalloc.proofs.place.place.Goals as goal

pub assign-requires-clause-register : goal.assign-requires-clause-register
assign-requires-clause-register c =
    let none' : Start = record { first = 0; register = 0; last = 0 } in
    let below : c.loop-start.start-index < length c.as_slice-start-items.result.now = omega arith in
    let moved : IsPermutation (starts_from 0 c.as_slice-spans.result.now) c.as_slice-start-items.result.now = rw c.as_slice-start-items.ensures.value (c.in_ok-starts.ensures.0) in
    let rises : Rises c.as_slice-start-items.result.now = rw c.as_slice-start-items.ensures.value (c.in_ok-starts.ensures.1) in
    rw c.loop-start.invariant.size
    (inside c.as_slice-spans.result.now c.as_slice-start-items.result.now moved rises (11 + c.args.slots) c.loop-start.start-index below
    (get_or c.as_slice-start-items.result.now c.loop-start.start-index none')
    (get_or_default c.as_slice-start-items.result.now c.loop-start.start-index none' _ below))

pub loop-start-preserved : goal.loop-start-preserved
loop-start-preserved c =
    let none' : Start = record { first = 0; register = 0; last = 0 } in
    let below : c.loop-start.start-index < length c.as_slice-start-items.result.now = omega arith in
    let moved : IsPermutation (starts_from 0 c.as_slice-spans.result.now) c.as_slice-start-items.result.now = rw c.as_slice-start-items.ensures.value (c.in_ok-starts.ensures.0) in
    let rises : Rises c.as_slice-start-items.result.now = rw c.as_slice-start-items.ensures.value (c.in_ok-starts.ensures.1) in
    go_on c.as_slice-spans.result.now c.as_slice-start-items.result.now moved rises (11 + c.args.slots) c.loop-start.start-index below
    (get_or c.as_slice-start-items.result.now c.loop-start.start-index none')
    (get_or_default c.as_slice-start-items.result.now c.loop-start.start-index none' _ below)
    c.loop-start.ends c.loop-start.at.items c.loop-start.invariant c.assign.new.ends c.assign.new.at.items
    (MatchBool-at_true _ _ c.if-not-is_placed.false c.in_ok-is_placed.ensures)

pub returns-then-not-is_placed-clause-refused : goal.returns-then-not-is_placed-clause-refused
returns-then-not-is_placed-clause-refused c =
    let none' : Start = record { first = 0; register = 0; last = 0 } in
    let below : c.loop-start.start-index < length c.as_slice-start-items.result.now = omega arith in
    let moved : IsPermutation (starts_from 0 c.as_slice-spans.result.now) c.as_slice-start-items.result.now = rw c.as_slice-start-items.ensures.value (c.in_ok-starts.ensures.0) in
    let rises : Rises c.as_slice-start-items.result.now = rw c.as_slice-start-items.ensures.value (c.in_ok-starts.ensures.1) in
    let next : Start = get_or c.as_slice-start-items.result.now c.loop-start.start-index none' in
    let many : (11 + c.args.slots < count_by (contains next.first) c.as_slice-spans.result.now)
    × ((earlier : ℕ) → earlier < next.first → count_by (contains earlier) c.as_slice-spans.result.now ≤ 11 + c.args.slots) =
    too_many c.as_slice-spans.result.now c.as_slice-start-items.result.now moved rises (11 + c.args.slots) c.loop-start.start-index below
    (get_or c.as_slice-start-items.result.now c.loop-start.start-index none')
    (get_or_default c.as_slice-start-items.result.now c.loop-start.start-index none' _ below)
    c.loop-start.ends c.loop-start.at.items c.loop-start.invariant
    (MatchBool-at_false _ _ c.if-not-is_placed.true c.in_ok-is_placed.ensures) in
    rw c.crowded.ensures
    (ap (λ spans. count_by (contains next.first) spans) c.as_slice-spans.ensures, many.0, λ earlier less. rw (← c.as_slice-spans.ensures) (many.1 earlier less))

pub returns-clause-fits : goal.returns-clause-fits
returns-clause-fits c = done_fits c.args.intervals.now c.args.slots (record { at = c.from_vec.result })
    (done c.args.intervals.now c.args.slots c.as_slice-spans.result.now c.as_slice-spans.ensures c.as_slice-start-items.result.now _ c.as_slice-start-items.ensures.value
    c.in_ok-starts.ensures c.loop-start.start-index (omega arith) c.loop-start.ends c.loop-start.at.items c.from_vec.result c.loop-start.invariant c.from_vec.ensures)

pub returns-clause-first : goal.returns-clause-first
returns-clause-first c = done_first c.args.intervals.now c.args.slots (record { at = c.from_vec.result })
    (done c.args.intervals.now c.args.slots c.as_slice-spans.result.now c.as_slice-spans.ensures c.as_slice-start-items.result.now _ c.as_slice-start-items.ensures.value
    c.in_ok-starts.ensures c.loop-start.start-index (omega arith) c.loop-start.ends c.loop-start.at.items c.from_vec.result c.loop-start.invariant c.from_vec.ensures)

pub returns-clause-saved : goal.returns-clause-saved
returns-clause-saved c = done_saved c.args.intervals.now c.args.slots (record { at = c.from_vec.result })
    (done c.args.intervals.now c.args.slots c.as_slice-spans.result.now c.as_slice-spans.ensures c.as_slice-start-items.result.now _ c.as_slice-start-items.ensures.value
    c.in_ok-starts.ensures c.loop-start.start-index (omega arith) c.loop-start.ends c.loop-start.at.items c.from_vec.result c.loop-start.invariant c.from_vec.ensures)

pub returns-clause-room : goal.returns-clause-room
returns-clause-room c = done_room c.args.intervals.now c.args.slots (record { at = c.from_vec.result })
    (done c.args.intervals.now c.args.slots c.as_slice-spans.result.now c.as_slice-spans.ensures c.as_slice-start-items.result.now _ c.as_slice-start-items.ensures.value
    c.in_ok-starts.ensures c.loop-start.start-index (omega arith) c.loop-start.ends c.loop-start.at.items c.from_vec.result c.loop-start.invariant c.from_vec.ensures)
