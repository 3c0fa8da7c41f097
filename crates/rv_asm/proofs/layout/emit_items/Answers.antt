use Rattle.rv_asm.proofs.Loops.{sound-at}
use Rattle.rv_asm.proofs.layout.emit_items.Goals as goal

pub emit_item-requires-clause-sound : goal.emit_item-requires-clause-sound
emit_item-requires-clause-sound c = sound-at _ _ _ c.requires.sound c.loop-entry-test.true
