use Rattle.code_epochs.proofs.Keeper.{store_header_sound, store_next_sound}
use Rattle.code_epochs.proofs.Swap.{swap_cell_sound}
use Rattle.code_epochs.proofs.Seats.{split_sound, join_sound}
use Rattle.code_epochs.proofs.Epochs.{raise_epoch_sound, look_sound, clear_header_sound}
use Rattle.code_epochs.proofs.laws.keeper_steps.Goals as goal

pub returns-clause-header : goal.returns-clause-header
returns-clause-header c = store_header_sound

pub returns-clause-next : goal.returns-clause-next
returns-clause-next c = store_next_sound

pub returns-clause-swap : goal.returns-clause-swap
returns-clause-swap c = swap_cell_sound

pub returns-clause-split : goal.returns-clause-split
returns-clause-split c = split_sound

pub returns-clause-raise : goal.returns-clause-raise
returns-clause-raise c = raise_epoch_sound

pub returns-clause-look : goal.returns-clause-look
returns-clause-look c = look_sound

pub returns-clause-clear : goal.returns-clause-clear
returns-clause-clear c = clear_header_sound

pub returns-clause-join : goal.returns-clause-join
returns-clause-join c = join_sound
