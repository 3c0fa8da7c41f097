use Rattle.fast_isel.proofs.OneCode.{code-is-one}
use Rattle.fast_isel.proofs.module_laws.quick_code_is_one.Goals as goal

pub returns : goal.returns
returns c = code-is-one c.quick_words_are_one.ensures
