use Rattle.std.proofs.Common.{refl}
use Rattle.hart.proofs.run.ask.Goals as goal

pub returns-in-Fetch-clause-asked : goal.returns-in-Fetch-clause-asked
returns-in-Fetch-clause-asked g c = rw c.in-Fetch.is (c.fetch.result, refl, c.fetch.ensures.stands)

pub returns-in-Cell-clause-asked : goal.returns-in-Cell-clause-asked
returns-in-Cell-clause-asked g c = rw c.in-Cell.is (c.cell.result, refl, c.cell.ensures.stands)

pub returns-in-Count-clause-asked : goal.returns-in-Count-clause-asked
returns-in-Count-clause-asked g c = rw c.in-Count.is (refl, c.count.ensures.stands)
