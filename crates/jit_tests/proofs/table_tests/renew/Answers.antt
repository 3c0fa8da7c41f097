use Rattle.jit_tests.proofs.TableQuick.{published_good}
use Rattle.jit_tests.proofs.table_tests.renew.Goals as goal

pub publish-requires-clause-good : goal.publish-requires-clause-good
publish-requires-clause-good c = published_good c.args.keeper.now.desk.seat.table.now.table.shared.key c.args.all.now c.in-Ok.version c.requires.plan c.in-Ok.ensures.version
