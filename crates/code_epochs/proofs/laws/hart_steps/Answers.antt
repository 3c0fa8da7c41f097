use Rattle.code_epochs.proofs.Harts.{load_cell_sound, load_word_sound}
use Rattle.code_epochs.proofs.Idle.{load_epoch_sound, announce_sound, go_idle_sound}
use Rattle.code_epochs.proofs.laws.hart_steps.Goals as goal

pub returns-clause-load_cell : goal.returns-clause-load_cell
returns-clause-load_cell c = load_cell_sound

pub returns-clause-load_word : goal.returns-clause-load_word
returns-clause-load_word c = load_word_sound

pub returns-clause-load_epoch : goal.returns-clause-load_epoch
returns-clause-load_epoch c = load_epoch_sound

pub returns-clause-announce : goal.returns-clause-announce
returns-clause-announce c = announce_sound

pub returns-clause-go_idle : goal.returns-clause-go_idle
returns-clause-go_idle c = go_idle_sound
