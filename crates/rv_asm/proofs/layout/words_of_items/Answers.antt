use Rattle.rv_asm.proofs.Laid.{assembled}
use Rattle.rv_asm.proofs.layout.words_of_items.Goals as goal

pub returns-clause-runs : goal.returns-clause-runs
returns-clause-runs c = assembled _ _ c.requires.sound c.in_ok-words.ensures
