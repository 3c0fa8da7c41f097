use Rattle.jit_core.proofs.Kept.{runs_sound}
use Rattle.jit_core.proofs.laws.events_keep_sound.Goals as goal

pub returns : goal.returns
returns c = λ m x y told s r. runs_sound m x y told s r
