use Rattle.hart.proofs.Decoding.{decoded}
use Rattle.hart.proofs.words.instr_at.Goals as goal

pub returns-clause-value : goal.returns-clause-value
returns-clause-value c = decoded c.args.word c.decode.result c.ranges.word.fits c.decode.ensures.some
