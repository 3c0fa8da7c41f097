use Rattle.std.proofs.Common.{slice_index}
use Rattle.hart.proofs.Stores.{store_twice}
use Rattle.hart.proofs.bytes.store_4.Goals as goal

pub returns-clause-bytes : goal.returns-clause-bytes
returns-clause-bytes c =
    store_twice (slice_index c.args.bytes.now) _ _ c.args.place 2 c.args.value c.store_2.ensures.bytes c.store_2-2.ensures.bytes
