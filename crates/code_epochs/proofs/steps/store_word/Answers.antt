use Rattle.std.proofs.Common.{rules, ◌≡◌, ◌+◌, ◌-◌, ◌<◌, ℕ, List, length, get_or, set, sym, subst, ap, ◌∙◌, arith}
use Rattle.code_epochs.specs.Sound.{At, start_of}
use Rattle.code_epochs.proofs.Lists.{at_get, at_index, at_same}
use Rattle.code_epochs.proofs.Keeper.{store_header_sound, store_next_sound}
use Rattle.code_epochs.proofs.steps.store_word.Goals as goal
use Rattle.code_epochs.proofs.steps.store_word.Goals.{then-at-start, else-at-start}

pub returns-clause-header : goal.returns-clause-header
returns-clause-header c = λ at_start m x is sound can.
    let word : c.if-at-start.word ≡ length x.book.versions + 1 = elim c.if-at-start.branch [
      | then-at-start w ↦ (let count : w.len.result ≡ length c.args.state.now.versions.items = search rules in w.word-is ∙ ap (λ (n : ℕ). n + 1) (count ∙ ap length is.4))
      | else-at-start w ↦ (let ne = w.if-at-start.false in let e = c.from-at.ensures in absurd (ne (e ∙ at_start)))
    ] in
    (store_header_sound m x c.args.draft.now.symbol c.args.draft.now.level c.args.base c.args.draft.now.words sound can, (is.0, is.1, is.2, (λ i. set (is.3 i) (at_start i) (word i)), is.4))

pub returns-clause-next : goal.returns-clause-next
returns-clause-next c = λ past m x d is sound stands draft at_next.
    let start : ℕ = start_of c.args.base in
    let words = c.args.draft.now.words in
    let place : ℕ = c.args.index - start - 1 in
    let range = c.requires.range in
    let inside : place < length words = (let r = range.1 in omega arith) in
    let word : c.if-at-start.word ≡ get_or words place 0 = elim c.if-at-start.branch [
      | then-at-start w ↦ (let e : c.args.index ≡ start = sym c.from-at.ensures ∙ w.if-at-start.true in absurd (omega arith))
      | else-at-start w ↦ w.word-is ∙ (λ i. get_or (w.as_slice.ensures i) (c.from-at.ensures i - start - 1) 0)
    ] in
    let base : start_of d.base ≡ start = ap start_of draft.2 in
    let stored : place ≡ d.stored - 1 = omega arith in
    let next : At d.words (d.stored - 1) (get_or words place 0) = subst (λ (y : ℕ × List ℕ). At y.1 y.0 (get_or words place 0)) (λ i. (stored i, sym draft.3 i)) (at_get words place inside) in
    (store_next_sound m x d (get_or words place 0) sound (stands, next), (is.0, is.1, is.2, (λ i. set (is.3 i) ((at_next ∙ ap (λ (n : ℕ). n + d.stored) (sym base)) i) (word i)), is.4))
