use Rattle.fast_isel.proofs.Every.{every-taken}
use Rattle.fast_isel.proofs.block_laws.every_checked_module_is_taken.Goals as goal

pub returns : goal.returns
returns c = every-taken
