use Rattle.std.proofs.Common.{rules, None, ◌≡◌, ◌+◌, ◌<◌, ◌≤◌, length, vec_len, vec_capacity, refl, ap, arith}
use Rattle.code_epochs.specs.declared.refusals.PublishRefusal.TheVariants as refusal
use Rattle.code_epochs.specs.Shelf.{count_staying}
use Rattle.code_epochs.proofs.Shelves.{count_most}
use Rattle.jit_core.specs.declared.event.Event.TheVariants as event
use Rattle.jit_core.specs.declared.event.Stepped.TheVariants as stepped
use Rattle.jit_core.proofs.Standing.{stands_still}
use Rattle.jit_core.proofs.Ordering.{state_of_same, stands_roomy, largest_same, room_below}
use Rattle.jit_core.proofs.state_machine.Core.order.Goals as goal

pub returns-then-is_some-clause-stands : goal.returns-then-is_some-clause-stands
returns-then-is_some-clause-stands c = λ told s.
    let core = c.args.self.now in
    stands_still core core.state core.space told record { event = event.Order c.args.version; answer = stepped.Busy c.args.version } (λ x is. is) (λ x. (refl, refl)) refl refl s

pub returns-then-count-ge-MOST_VERSIONS-clause-stands : goal.returns-then-count-ge-MOST_VERSIONS-clause-stands
returns-then-count-ge-MOST_VERSIONS-clause-stands c = λ told s.
    let core = c.args.self.now in
    stands_still core core.state core.space told record { event = event.Order c.args.version; answer = stepped.Refused c.args.version (refusal.ManyVersions c.len-count.result) } (λ x is. is) (λ x. (refl, refl)) refl refl s

pub returns-then-is_err-clause-stands : goal.returns-then-is_err-clause-stands
returns-then-is_err-clause-stands c = λ told s.
    let core = c.args.self.now in
    stands_still core c.reserve_version.new.state core.space told record { event = event.Order c.args.version; answer = stepped.Refused c.args.version refusal.NoMemory }
    (λ x is. state_of_same core.state c.reserve_version.new.state x c.reserve_version.ensures.frame is) (λ x. (refl, refl)) refl refl s

pub returns-then-is_err-2-clause-stands : goal.returns-then-is_err-2-clause-stands
returns-then-is_err-2-clause-stands c = λ told s.
    let core = c.args.self.now in
    stands_still core c.reserve_version.new.state c.reserve.new.self told record { event = event.Order c.args.version; answer = stepped.Refused c.args.version refusal.NoMemory }
    (λ x is. state_of_same core.state c.reserve_version.new.state x c.reserve_version.ensures.frame is) (λ x. (refl, refl)) c.reserve.ensures.same.0 c.reserve.ensures.same.1 s

pub returns-then-needed-from-clause-stands : goal.returns-then-needed-from-clause-stands
returns-then-needed-from-clause-stands c = λ told s.
    let core = c.args.self.now in
    stands_still core c.reserve_version.new.state c.reserve.new.self told record { event = event.Order c.args.version; answer = _ }
    (λ x is. state_of_same core.state c.reserve_version.new.state x c.reserve_version.ensures.frame is) (λ x. (refl, refl)) c.reserve.ensures.same.0 c.reserve.ensures.same.1 s

pub returns-then-needed-from-clause-answer : goal.returns-then-needed-from-clause-answer
returns-then-needed-from-clause-answer c =
    let core = c.args.self.now in
    let vec = core.state.versions.ok.0 in
    let count = c.len-count.ensures in
    let few = c.if-count-ge-MOST_VERSIONS.false in
    let len = c.len.ensures in
    let from = c.from.ensures in
    let more = c.if-needed-from.true in
    let none : core.publishing ≡ None = search rules in
    let low : length core.state.versions.items < 1048576 = omega arith in
    let needed : c.len.result + 1 ≡ length c.args.version.words + 1 = omega arith in
    let above : c.largest-largest.result < c.len.result + 1 = omega arith in
    (refl, none, none, (low, needed, largest_same core.space c.reserve.new.self c.largest-largest.result c.reserve.ensures.same.1 c.largest-largest.ensures.room c.largest-largest.ensures.most, above))

pub take_range-requires-clause-memory : goal.take_range-requires-clause-memory
take_range-requires-clause-memory c =
    let core = c.args.self.now in
    let a : vec_len c.reserve_version.new.state.versions < vec_capacity c.reserve_version.new.state.versions = search rules in
    let b : c.len-count.result + 1 ≤ c.reserve.new.self.spare = search rules in
    let vec = core.state.versions.ok.0 in
    let count = c.len-count.ensures in
    let most = count_most core.state.versions.items in
    let staying = ap count_staying c.reserve_version.ensures.frame.4 in
    (a, (let e : count_staying c.reserve_version.new.state.versions.items < c.reserve.new.self.spare = omega arith in e))

pub take_range-requires-clause-fits : goal.take_range-requires-clause-fits
take_range-requires-clause-fits c =
    let len = c.len.ensures in
    let from = c.from.ensures in
    let fits = c.if-needed-from.false in
    let small : c.largest-largest.result < 4294967296 = c.largest-largest.type_inv in
    let low : length c.args.version.words + 1 ≤ c.largest-largest.result = omega arith in
    let room = c.largest-largest.ensures.room (omega arith) in
    ((let e : length c.args.version.words + 1 < 4294967296 = omega arith in e), (room.0, room_below c.reserve.new.self.ranges room.0 c.largest-largest.result (length c.args.version.words + 1) low room.1))

pub returns-clause-stands : goal.returns-clause-stands
returns-clause-stands c = λ told s.
    let core = c.args.self.now in
    c.take_range.ensures.stands told (stands_roomy core c.reserve_version.new.state c.reserve.new.self told c.reserve_version.ensures.frame c.reserve.ensures.same.0 c.reserve.ensures.same.1 s)
