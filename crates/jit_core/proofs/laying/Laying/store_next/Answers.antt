use Rattle.std.proofs.Common.{◌≡◌, ◌+◌, ◌-◌, ◌<◌, ap, length, get_or, Some, refl, ⊎_elim, arith}
use Rattle.code_epochs.specs.Sound.{start_of}
use Rattle.code_epochs.specs.Steps.{CanBegin}
use Rattle.jit_core.specs.Laying.{draft_from}
use Rattle.jit_core.proofs.Laid.{header_stores, word_stores, code_size, stays_laid}
use Rattle.jit_core.proofs.laying.Laying.store_next.Goals as goal

pub returns-clause-stores : goal.returns-clause-stores
returns-clause-stores c = λ m x sound state lays.
    let d = c.args.self.now in
    let old = c.args.state.now in
    let new = c.store_word.new.state in
    let index = start_of d.base + d.stored in
    ⊎_elim
    (λ (t : (d.stored ≡ 0) × CanBegin m x d.version.symbol d.base d.version.words).
    header_stores old new d t.0 (c.store_word.ensures.header (let none = t.0 in omega arith)) m x sound state t.1)
    (λ (t : (0 < d.stored) × (x.book.draft ≡ Some (draft_from d))).
    word_stores old new d index (get_or d.version.words (index - start_of d.base - 1) 0) t.0 c.requires.more refl refl (c.store_word.ensures.next (let some = t.0 in omega arith)) m x sound state t.1)
    lays

pub returns-clause-size : goal.returns-clause-size
returns-clause-size c =
    let d = c.args.self.now in
    let e = c.store_word.ensures in (
      ap (λ v. length v.items) e.frame.0,
      ap (λ v. length v.items) e.frame.2,
      code_size (start_of d.base) d.stored c.args.state.now.code.items c.store_word.new.state.code.items _ _ e.header_word e.next_word,
    )

pub returns-clause-fits : goal.returns-clause-fits
returns-clause-fits c =
    let d = c.args.self.now in
    let e = c.store_word.ensures in
    stays_laid c.args.state.now c.store_word.new.state d c.requires.fits
    (code_size (start_of d.base) d.stored c.args.state.now.code.items c.store_word.new.state.code.items _ _ e.header_word e.next_word) e.frame.0 e.frame.3
