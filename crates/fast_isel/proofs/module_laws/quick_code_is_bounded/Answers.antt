use Rattle.fast_isel.proofs.OneCode.{code-is-bounded}
use Rattle.fast_isel.proofs.module_laws.quick_code_is_bounded.Goals as goal

pub returns : goal.returns
returns c = code-is-bounded
