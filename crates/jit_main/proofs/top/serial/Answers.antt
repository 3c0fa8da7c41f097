use Rattle.std.proofs.Common.{[]}
use Rattle.jit_main.proofs.Musts.{must_some}
use Rattle.jit_main.proofs.top.serial.Goals as goal

pub returns-clause-must : goal.returns-clause-must
returns-clause-must g c = must_some [] c.quick_need_is_one.ensures _ _ _ _ _ c.alone.result c.alone.ensures.finished
