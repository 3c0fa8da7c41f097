use Rattle.std.proofs.Common.{refl, length}
use Rattle.std.proofs.lemmas.Option.{slice_get_read}
use Rattle.legalizer.proofs.Narrow.{type_is_narrow}
use Rattle.legalizer.proofs.operands.type_of.Goals as goal

pub returns-in-Some-clause-narrow : goal.returns-in-Some-clause-narrow
returns-in-Some-clause-narrow c =
    type_is_narrow c.args.types.now c.args.register _ c.requires (slice_get_read c.args.types.now (length c.args.types.now) c.args.register _ refl c.in-Some.ensures.lookup.3.0 c.in-Some.ensures.lookup.1)
