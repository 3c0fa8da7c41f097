use Rattle.rv_asm.proofs.Loops.{kept-by}
use Rattle.rv_asm.proofs.constant.+put_const.Goals as goal

pub returns-clause-kept : goal.returns-clause-kept
returns-clause-kept t c = kept-by _ _ _ _ c.in_ok-put_const.ensures.added (kept-by _ _ _ _ c.in_ok-put_item.ensures.added c.put_low.ensures.kept)
