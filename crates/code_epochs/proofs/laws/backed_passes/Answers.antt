use Rattle.code_epochs.proofs.Idle.{pass_backed}
use Rattle.code_epochs.proofs.Seats.{joined_backed, holds_staying, are_made}
use Rattle.code_epochs.proofs.Keeper.{backed_rest}
use Rattle.code_epochs.proofs.Good.{good_backed}
use Rattle.code_epochs.proofs.laws.backed_passes.Goals as goal

pub returns-clause-now : goal.returns-clause-now
returns-clause-now c = λ m x h p word s active. pass_backed m x h p word s (s.harts h p word active.0 active.1)

pub returns-clause-stays : goal.returns-clause-stays
returns-clause-stays c = λ m x h p word s active. holds_staying m x h p word s active.0 active.1

pub returns-clause-made : goal.returns-clause-made
returns-clause-made c = are_made

pub returns-clause-joined : goal.returns-clause-joined
returns-clause-joined c = joined_backed

pub returns-clause-rest : goal.returns-clause-rest
returns-clause-rest c = backed_rest

pub returns-clause-good : goal.returns-clause-good
returns-clause-good c = good_backed
