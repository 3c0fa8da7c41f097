use Rattle.std.proofs.Common.{refl, arith}
use Rattle.liveness_tests.specs.Samples.{doubling}
use Rattle.liveness_tests.proofs.Deciding.{well_formed, without_phi}
use Rattle.liveness_tests.proofs.tests.doubling_words.Goals as goal

pub words_of-requires-clause-formed : goal.words_of-requires-clause-formed
words_of-requires-clause-formed c = rw c.in-Ok.ensures (well_formed doubling refl)

pub words_of-requires-clause-without_phi : goal.words_of-requires-clause-without_phi
words_of-requires-clause-without_phi c = rw c.in-Ok.ensures (without_phi doubling refl)

pub words_of-requires-clause-small : goal.words_of-requires-clause-small
words_of-requires-clause-small c = rw c.in-Ok.ensures (omega arith)

pub words_of-requires-clause-symbol : goal.words_of-requires-clause-symbol
words_of-requires-clause-symbol c = rw c.in-Ok.ensures (omega arith)

pub words_of-requires-clause-few : goal.words_of-requires-clause-few
words_of-requires-clause-few c = rw c.in-Ok.ensures (omega arith)
