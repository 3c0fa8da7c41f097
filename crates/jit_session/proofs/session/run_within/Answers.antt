use Rattle.std.proofs.Common.{◌≡◌, ℕ, ◌+◌, ◌≤◌, List, length, subst, ◌∙◌, arith}
use Rattle.jit_session.specs.Reserves.{IsReserve}
use Rattle.jit_session.specs.Sessions.{IsSettled}
use Rattle.jit_session.proofs.Going.{ready, have_gone, left, asks_always}
use Rattle.jit_session.proofs.session.run_within.Goals as goal

pub run_parts-keeper-requires-clause-ready : goal.run_parts-keeper-requires-clause-ready
run_parts-keeper-requires-clause-ready g c κs within =
    let number = c.len-harts.ensures ∙ c.args.seats.ok.0 ∙ c.requires.seats.0 in
    ready g.P.ReoptPolicy.marks c.args.checked.now c.args.table.now c.args.shared.now.counts c.args.calls.now c.args.policy c.in_ok-parts.parts.items c.as_mut_slice.result.now c.in_ok-parts.idle c.len-harts.result
    c.as_mut_slice.ensures.value number c.requires.table c.in_ok-parts.ensures

pub part_again-requires-clause-room : goal.part_again-requires-clause-room
part_again-requires-clause-room g c =
    let number = c.len-harts.ensures ∙ c.args.seats.ok.0 ∙ c.requires.seats.0 in
    let gone = have_gone g.P.ReoptPolicy.marks c.args.checked.now c.args.table.now c.args.shared.now.counts c.args.calls.now c.args.policy c.in_ok-parts.parts.items c.as_mut_slice.result.now c.run_parts-keeper.new.parts c.in_ok-parts.idle
    c.in_ok-parts.parts.len c.len-harts.result c.as_mut_slice.ensures.value c.in_ok-parts.parts.ok.0 number c.run_parts-keeper.ensures.count c.run_parts-keeper.ensures.went c.in_ok-parts.ensures in
    let count = gone.count in
    let room = c.in_ok-runners.ensures.1 in
    omega (arith, count, room, number)

pub unreachable-requires : goal.unreachable-requires
unreachable-requires g c =
    let number = c.len-harts.ensures ∙ c.args.seats.ok.0 ∙ c.requires.seats.0 in
    let gone = have_gone g.P.ReoptPolicy.marks c.args.checked.now c.args.table.now c.args.shared.now.counts c.args.calls.now c.args.policy c.in_ok-parts.parts.items c.as_mut_slice.result.now c.run_parts-keeper.new.parts c.in_ok-parts.idle
    c.in_ok-parts.parts.len c.len-harts.result c.as_mut_slice.ensures.value c.in_ok-parts.parts.ok.0 number c.run_parts-keeper.ensures.count c.run_parts-keeper.ensures.went c.in_ok-parts.ensures in
    asks_always g.P.ReoptPolicy.marks c.args.checked.now c.args.table.now c.args.shared.now.counts c.args.calls.now c.args.policy _ c.in_ok-parts.idle gone c.part_again.result c.part_again.ensures.asking c.in_default.not-Some

pub settle-requires-clause-done : goal.settle-requires-clause-done
settle-requires-clause-done g c =
    let number = c.len-harts.ensures ∙ c.args.seats.ok.0 ∙ c.requires.seats.0 in
    let gone = have_gone g.P.ReoptPolicy.marks c.args.checked.now c.args.table.now c.args.shared.now.counts c.args.calls.now c.args.policy c.in_ok-parts.parts.items c.as_mut_slice.result.now c.run_parts-keeper.new.parts c.in_ok-parts.idle
    c.in_ok-parts.parts.len c.len-harts.result c.as_mut_slice.ensures.value c.in_ok-parts.parts.ok.0 number c.run_parts-keeper.ensures.count c.run_parts-keeper.ensures.went c.in_ok-parts.ensures in
    let over = left g.P.ReoptPolicy.marks c.args.checked.now c.args.table.now c.args.shared.now.counts c.args.calls.now c.args.policy _ c.in_ok-parts.idle c.in-Some.asking c.part_again.new.runners.items gone c.part_again.ensures.harts c.in-Some.ensures.asking in
    over.done

pub settle-requires-clause-count : goal.settle-requires-clause-count
settle-requires-clause-count g c =
    let number = c.len-harts.ensures ∙ c.args.seats.ok.0 ∙ c.requires.seats.0 in
    let gone = have_gone g.P.ReoptPolicy.marks c.args.checked.now c.args.table.now c.args.shared.now.counts c.args.calls.now c.args.policy c.in_ok-parts.parts.items c.as_mut_slice.result.now c.run_parts-keeper.new.parts c.in_ok-parts.idle
    c.in_ok-parts.parts.len c.len-harts.result c.as_mut_slice.ensures.value c.in_ok-parts.parts.ok.0 number c.run_parts-keeper.ensures.count c.run_parts-keeper.ensures.went c.in_ok-parts.ensures in
    let over = left g.P.ReoptPolicy.marks c.args.checked.now c.args.table.now c.args.shared.now.counts c.args.calls.now c.args.policy _ c.in_ok-parts.idle c.in-Some.asking c.part_again.new.runners.items gone c.part_again.ensures.harts c.in-Some.ensures.asking in
    over.count

pub settle-requires-clause-all : goal.settle-requires-clause-all
settle-requires-clause-all g c =
    let number = c.len-harts.ensures ∙ c.args.seats.ok.0 ∙ c.requires.seats.0 in
    let gone = have_gone g.P.ReoptPolicy.marks c.args.checked.now c.args.table.now c.args.shared.now.counts c.args.calls.now c.args.policy c.in_ok-parts.parts.items c.as_mut_slice.result.now c.run_parts-keeper.new.parts c.in_ok-parts.idle
    c.in_ok-parts.parts.len c.len-harts.result c.as_mut_slice.ensures.value c.in_ok-parts.parts.ok.0 number c.run_parts-keeper.ensures.count c.run_parts-keeper.ensures.went c.in_ok-parts.ensures in
    let over = left g.P.ReoptPolicy.marks c.args.checked.now c.args.table.now c.args.shared.now.counts c.args.calls.now c.args.policy _ c.in_ok-parts.idle c.in-Some.asking c.part_again.new.runners.items gone c.part_again.ensures.harts c.in-Some.ensures.asking in
    over.own

pub settle-requires-clause-symbols : goal.settle-requires-clause-symbols
settle-requires-clause-symbols g c =
    let number = c.len-harts.ensures ∙ c.args.seats.ok.0 ∙ c.requires.seats.0 in
    let gone = have_gone g.P.ReoptPolicy.marks c.args.checked.now c.args.table.now c.args.shared.now.counts c.args.calls.now c.args.policy c.in_ok-parts.parts.items c.as_mut_slice.result.now c.run_parts-keeper.new.parts c.in_ok-parts.idle
    c.in_ok-parts.parts.len c.len-harts.result c.as_mut_slice.ensures.value c.in_ok-parts.parts.ok.0 number c.run_parts-keeper.ensures.count c.run_parts-keeper.ensures.went c.in_ok-parts.ensures in
    let over = left g.P.ReoptPolicy.marks c.args.checked.now c.args.table.now c.args.shared.now.counts c.args.calls.now c.args.policy _ c.in_ok-parts.idle c.in-Some.asking c.part_again.new.runners.items gone c.part_again.ensures.harts c.in-Some.ensures.asking in
    over.symbols ∙ c.requires.counts.0

pub settle-requires-clause-parts : goal.settle-requires-clause-parts
settle-requires-clause-parts g c =
    let number = c.len-harts.ensures ∙ c.args.seats.ok.0 ∙ c.requires.seats.0 in
    let gone = have_gone g.P.ReoptPolicy.marks c.args.checked.now c.args.table.now c.args.shared.now.counts c.args.calls.now c.args.policy c.in_ok-parts.parts.items c.as_mut_slice.result.now c.run_parts-keeper.new.parts c.in_ok-parts.idle
    c.in_ok-parts.parts.len c.len-harts.result c.as_mut_slice.ensures.value c.in_ok-parts.parts.ok.0 number c.run_parts-keeper.ensures.count c.run_parts-keeper.ensures.went c.in_ok-parts.ensures in
    let over = left g.P.ReoptPolicy.marks c.args.checked.now c.args.table.now c.args.shared.now.counts c.args.calls.now c.args.policy _ c.in_ok-parts.idle c.in-Some.asking c.part_again.new.runners.items gone c.part_again.ensures.harts c.in-Some.ensures.asking in
    over.shares

pub settle-requires-clause-reserve : goal.settle-requires-clause-reserve
settle-requires-clause-reserve g c =
    let number = c.len-harts.ensures ∙ c.args.seats.ok.0 ∙ c.requires.seats.0 in
    let reserve = c.in_ok-reserve.reserve in
    subst (λ (n : ℕ). IsReserve n (length c.args.calls.now) c.args.table.now.functions reserve) number
    (subst (λ (n : ℕ). IsReserve c.len-harts.result (length c.args.calls.now) n reserve) c.symbols-symbols.ensures c.in_ok-reserve.ensures)

pub returns : goal.returns
returns g c =
    let number = c.len-harts.ensures ∙ c.args.seats.ok.0 ∙ c.requires.seats.0 in
    let gone = have_gone g.P.ReoptPolicy.marks c.args.checked.now c.args.table.now c.args.shared.now.counts c.args.calls.now c.args.policy c.in_ok-parts.parts.items c.as_mut_slice.result.now c.run_parts-keeper.new.parts c.in_ok-parts.idle
    c.in_ok-parts.parts.len c.len-harts.result c.as_mut_slice.ensures.value c.in_ok-parts.parts.ok.0 number c.run_parts-keeper.ensures.count c.run_parts-keeper.ensures.went c.in_ok-parts.ensures in
    let over = left g.P.ReoptPolicy.marks c.args.checked.now c.args.table.now c.args.shared.now.counts c.args.calls.now c.args.policy _ c.in_ok-parts.idle c.in-Some.asking c.part_again.new.runners.items gone c.part_again.ensures.harts c.in-Some.ensures.asking in
    let table = c.args.table.now in
    let program = c.args.checked.now in
    subst (λ (ms : List ℕ). IsSettled program c.args.calls.now table.harts table.functions table.code_words ms (g.M.Maker.may_crowd c.args.maker program) c.settle.result) over.marks_are c.settle.ensures
