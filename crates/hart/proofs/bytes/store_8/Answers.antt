use Rattle.std.proofs.Common.{slice_index}
use Rattle.hart.proofs.Stores.{store_twice}
use Rattle.hart.proofs.bytes.store_8.Goals as goal

pub returns-clause-bytes : goal.returns-clause-bytes
returns-clause-bytes c =
    store_twice (slice_index c.args.bytes.now) _ _ c.args.place 4 c.args.value c.store_4.ensures.bytes c.store_4-2.ensures.bytes
