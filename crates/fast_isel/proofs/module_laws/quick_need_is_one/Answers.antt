use Rattle.fast_isel.proofs.OneCode.{need-is-one}
use Rattle.fast_isel.proofs.module_laws.quick_need_is_one.Goals as goal

pub returns : goal.returns
returns c = need-is-one c.quick_words_are_one.ensures
