use Rattle.std.proofs.Common.{◌≡◌, ◌<◌, [], length, subst, sym, ap, ◌∙◌}
use Rattle.std.specs.Vec.{with_items}
use Rattle.std.proofs.lemmas.List.{with_items_is, append-nil}
use Rattle.parallel_copies.specs.Moves.{Copies, Sequences, done, renamed}
use Rattle.parallel_copies.proofs.Parallel.{renamed_length}
use Rattle.parallel_copies.proofs.Picking.{emit_keeps, break_keeps, empty_at, is_none, is_some, Kept}
use Rattle.parallel_copies.proofs.moves.moves_in_order.Goals as goal

pub loop-pending-init : goal.loop-pending-init
loop-pending-init c = (λ more q. rw c.new-moves.ensures.items q, c.requires.distinct, c.requires.spare)

pub loop-pending-preserved-in-Continue-1 : goal.loop-pending-preserved-in-Continue-1
loop-pending-preserved-in-Continue-1 c =
    let free = rw c.as_slice.ensures.value at c.in-Some.ensures in
    emit_keeps c.args.spare c.args.copies.items c.loop-pending.pending.items c.loop-pending.moves.items c.in-Some.place c.remove-copy.result
    c.remove-copy.new.self.items c.put_copy.new.moves.items free.0 c.remove-copy.ensures.value free.1
    c.remove-copy.ensures.items c.in_ok-put_copy-in-Some.ensures c.loop-pending.invariant

pub loop-pending-preserved : goal.loop-pending-preserved
loop-pending-preserved c =
    let some : 0 < length c.loop-pending.pending.items = is_some c.loop-pending.pending.len _ (sym c.is_empty.ensures ∙ c.loop-pending-test.true) c.loop-pending.pending.ok.0 in
    let stuck = rw c.as_slice.ensures.value at c.in-None.ensures in
    let new : c.rename.new.copies ≡ renamed c.remove-copy-in-None.result.0 c.args.spare c.remove-copy-in-None.new.self.items =
    c.rename.ensures ∙ ap (renamed c.remove-copy-in-None.result.0 c.args.spare) c.as_mut_slice.ensures.value in
    let items : (with_items c.remove-copy-in-None.new.self c.rename.new.copies).items ≡ c.rename.new.copies =
    with_items_is c.remove-copy-in-None.new.self c.rename.new.copies
    (ap (λ (z : Copies). length z) new ∙ renamed_length c.remove-copy-in-None.result.0 c.args.spare c.remove-copy-in-None.new.self.items ∙ sym c.remove-copy-in-None.new.self.ok.0) in
    subst (λ (z : Copies). Kept c.args.spare c.args.copies.items z c.put_move-in-None.new.moves.items) (sym items)
    (break_keeps c.args.spare c.args.copies.items c.loop-pending.pending.items c.loop-pending.moves.items c.remove-copy-in-None.result
    c.remove-copy-in-None.new.self.items c.rename.new.copies c.put_move.new.moves.items c.put_move-in-None.new.moves.items some c.remove-copy-in-None.ensures.value stuck
    c.remove-copy-in-None.ensures.items new c.in_ok-put_move-in-None.ensures c.in_ok-put_move-in-None-2.ensures c.loop-pending.invariant)

pub returns : goal.returns
returns c =
    subst (λ z. Sequences c.args.spare c.args.copies.items z) (append-nil c.loop-pending.moves.items)
    (c.loop-pending.invariant.0 []
    (subst (λ (z : Copies). Sequences c.args.spare z []) (sym (empty_at c.loop-pending.pending.items (is_none c.loop-pending.pending.len _ (sym c.is_empty.ensures ∙ c.loop-pending-test.false) c.loop-pending.pending.ok.0))) done))
