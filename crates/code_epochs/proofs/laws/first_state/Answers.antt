use Rattle.code_epochs.proofs.First.{first_sound}
use Rattle.code_epochs.proofs.laws.first_state.Goals as goal

pub returns : goal.returns
returns c = first_sound
