use Rattle.std.proofs.Common.{refl, arith}
use Rattle.jit_core.proofs.Spaces.{behind_taken}
use Rattle.jit_core.proofs.first.behind.Goals as goal

pub returns : goal.returns
returns c = record { behind = behind_taken c.args.space c.take.new.self c.args.words c.take.result (let some = c.if-words-eq0.false in omega arith) c.requires.free c.requires.fits c.take.ensures.first c.take.ensures.free c.take.ensures.size c.take.ensures.spare }

pub returns-then-words-eq0 : goal.returns-then-words-eq0
returns-then-words-eq0 c = let none = c.if-words-eq0.true in record { behind = record { size = refl; free = λ w f. (omega arith, (c.requires.free w).0 f); all = λ w low high. (c.requires.free w).1 high; spare = omega arith } }
