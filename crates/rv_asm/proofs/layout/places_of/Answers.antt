use Rattle.rv_asm.proofs.Loops.{places-small}
use Rattle.rv_asm.proofs.layout.places_of.Goals as goal

pub returns-clause-below : goal.returns-clause-below
returns-clause-below c = places-small _ _ c.in_ok-places.ensures c.requires
