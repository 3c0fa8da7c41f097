use Rattle.walks.proofs.IsPlay.{walks_are_plays}
use Rattle.walks.proofs.laws.walks_are_plays.Goals as goal

pub returns : goal.returns
returns c = walks_are_plays
