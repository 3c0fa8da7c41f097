use Rattle.std.specs.Prelude.{codes}
use Rattle.jit_main.proofs.Fronts.{front-cut, front-more, said-front, said-then}
use Rattle.jit_main.proofs.tell.say_line.Goals as goal

pub returns-in-Ok : goal.returns-in-Ok
returns-in-Ok g c = rw (← c.as_bytes.ensures.value) (said-then _ _ _ _ _ _ c.as_bytes.result.now (codes "\n") c.in-Ok.ensures.ok c.in-Ok.ensures.kept c.say.ensures)

pub returns-in-Err : goal.returns-in-Err
returns-in-Err g c = rw (← c.as_bytes.ensures.value) (said-front _ _ _ _ _ (front-more _ _ c.as_bytes.result.now (codes "\n") (front-cut _ _ c.as_bytes.result.now _ c.in-Err.ensures.bound c.in-Err.ensures.short)) c.in-Err.ensures.cause)
