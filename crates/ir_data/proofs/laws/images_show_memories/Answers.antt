use Rattle.ir_data.proofs.Shows.{images_show_memories}
use Rattle.ir_data.proofs.laws.images_show_memories.Goals as goal

pub returns : goal.returns
returns c = images_show_memories
