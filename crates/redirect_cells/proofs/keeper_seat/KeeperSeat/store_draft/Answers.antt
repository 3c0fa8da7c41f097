use Rattle.std.proofs.Common.{◌≡◌, ◌+◌, ◌-◌, ◌<◌, ℕ, List, length, get_or, Some, sym, subst, ap, arith}
use Rattle.rv_play.specs.declared.version.Version.{Version}
use Rattle.code_epochs.specs.Sound.{At}
use Rattle.redirect_cells.specs.declared.view.View.{View}
use Rattle.redirect_cells.specs.Kept.{IsNextWord, book_of, draft_at}
use Rattle.redirect_cells.proofs.Words.{at_all}
use Rattle.redirect_cells.proofs.keeper_seat.KeeperSeat.store_draft.Goals as goal

pub overflow_add-place : goal.overflow_add-place
overflow_add-place c = let room = c.requires.place in let sizes = c.args.self.now.table.now.sizes in omega arith

pub overflow_add-place-in-loop-i : goal.overflow_add-place-in-loop-i
overflow_add-place-in-loop-i c = let room = c.requires.place in let sizes = c.args.self.now.table.now.sizes in let more = c.loop-i-test.true in let same = ap length c.as_slice-word-items.ensures in omega arith

next_word : (version : Version) (place i : ℕ) → i < length version.words → IsNextWord (Some (draft_at version place (i + 1))) (place + 1 + i) (get_or version.words i 0)
next_word version place i small =
    let e : i ≡ (i + 1) - 1 = omega arith in
    (omega arith, subst (λ (n : ℕ). At version.words n (get_or version.words i 0)) e (at_all version.words i small))

pub store_next-requires-clause-draft : goal.store_next-requires-clause-draft
store_next-requires-clause-draft c =
    let same = c.as_slice-word-items.ensures in
    let more = c.loop-i-test.true in
    let next = next_word c.args.version.now c.args.place c.loop-i.i (subst (λ (l : List ℕ). c.loop-i.i < length l) same more) in
    subst (λ (v : View). IsNextWord (book_of v).draft (c.args.place + 1 + c.loop-i.i) (get_or c.as_slice-word-items.result.now c.loop-i.i 0)) (sym c.loop-i.invariant.1)
    (subst (λ (l : List ℕ). IsNextWord (Some (draft_at c.args.version.now c.args.place (c.loop-i.i + 1))) (c.args.place + 1 + c.loop-i.i) (get_or l c.loop-i.i 0)) (sym same) next)
