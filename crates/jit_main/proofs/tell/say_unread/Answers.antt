use Rattle.std.proofs.Common.{◌++◌}
use Rattle.std.specs.Prelude.{codes}
use Rattle.jit_main.proofs.Fronts.{front-cut, front-more, said-front, said-then}
use Rattle.jit_main.proofs.tell.say_unread.Goals as goal

pub returns-in-Ok : goal.returns-in-Ok
returns-in-Ok g c = said-then _ _ _ _ _ _ (codes "reopt: cannot read ") (c.args.name.now ++ codes "\n") c.in-Ok.ensures.ok c.in-Ok.ensures.kept c.say_line.ensures

pub returns-in-Err : goal.returns-in-Err
returns-in-Err g c = said-front _ _ _ _ _ (front-more _ _ (codes "reopt: cannot read ") (c.args.name.now ++ codes "\n") (front-cut _ _ (codes "reopt: cannot read ") _ c.in-Err.ensures.bound c.in-Err.ensures.short)) c.in-Err.ensures.cause
