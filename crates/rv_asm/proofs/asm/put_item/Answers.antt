use Rattle.std.proofs.Common.{arith}
use Rattle.rv_asm.proofs.Loops.{code_pushed}
use Rattle.rv_asm.proofs.asm.put_item.Goals as goal

pub returns-clause-items : goal.returns-clause-items
returns-clause-items c = code_pushed _ _ _ _ c.push.ensures.items c.requires.items c.requires.item (omega (arith, c.if-len.false, c.len.ensures))
