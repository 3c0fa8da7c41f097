use Rattle.liveness_tests.proofs.tests.words_of.Goals as goal

pub lay_out-requires-clause-fits : goal.lay_out-requires-clause-fits
lay_out-requires-clause-fits c = (c.in_ok-found.found, c.in_ok-found.ensures.covers, c.in_ok-places.ensures.fits)
