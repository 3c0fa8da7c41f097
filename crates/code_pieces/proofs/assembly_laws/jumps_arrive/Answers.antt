use Rattle.code_pieces.proofs.Hops.{jumps-arrive}
use Rattle.code_pieces.proofs.assembly_laws.jumps_arrive.Goals as goal

pub returns : goal.returns
returns c = jumps-arrive
