use Rattle.std.proofs.Common.{refl}
use Rattle.redirect_cells.proofs.keeper.Keeper.base.Goals as goal

pub returns : goal.returns
returns c = (c.linked.result, c.linked.ensures, refl)
