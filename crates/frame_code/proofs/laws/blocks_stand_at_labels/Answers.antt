use Rattle.frame_code.proofs.Blocks.{code-stands-laid-out}
use Rattle.frame_code.proofs.laws.blocks_stand_at_labels.Goals as goal

pub returns : goal.returns
returns c = code-stands-laid-out
