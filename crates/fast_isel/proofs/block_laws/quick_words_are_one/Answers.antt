use Rattle.fast_isel.proofs.OneList.{words-are-one}
use Rattle.fast_isel.proofs.block_laws.quick_words_are_one.Goals as goal

pub returns : goal.returns
returns c = words-are-one
