use Rattle.walks.proofs.MoreReplies.{more_replies_agree}
use Rattle.walks.proofs.laws.more_replies_agree.Goals as goal

pub returns : goal.returns
returns c = more_replies_agree
