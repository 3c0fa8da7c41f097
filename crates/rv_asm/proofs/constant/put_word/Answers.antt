use Rattle.rv_asm.proofs.Loops.{kept-by}
use Rattle.rv_asm.proofs.constant.put_word.Goals as goal

pub returns-clause-kept : goal.returns-clause-kept
returns-clause-kept c = kept-by _ _ _ _ c.in_ok-put_item.ensures.added c.put_low.ensures.kept
