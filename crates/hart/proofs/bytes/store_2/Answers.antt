use Rattle.std.proofs.Common.{slice_index}
use Rattle.hart.proofs.Stores.{store_twice}
use Rattle.hart.proofs.bytes.store_2.Goals as goal

pub returns-clause-bytes : goal.returns-clause-bytes
returns-clause-bytes c =
    store_twice (slice_index c.args.bytes.now) _ _ c.args.place 1 c.args.value c.store_1.ensures.bytes c.store_1-2.ensures.bytes
