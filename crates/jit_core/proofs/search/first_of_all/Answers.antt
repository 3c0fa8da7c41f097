use Rattle.jit_core.proofs.Searching.{first_all}
use Rattle.jit_core.proofs.search.first_of_all.Goals as goal

pub returns : goal.returns
returns c = first_all c.args.harts c.args.versions.now c.first_from.result c.first_from.ensures
