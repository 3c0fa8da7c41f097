use Rattle.jit_main.proofs.Fronts.{said-of}
use Rattle.jit_main.proofs.tell.say.Goals as goal

pub returns : goal.returns
returns g c = said-of _ _ _ _ c.args.text.now _ c.write_all.ensures.ok c.write_all.ensures.bound c.write_all.ensures.short c.write_all.ensures.cause
