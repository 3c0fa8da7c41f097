use Rattle.std.proofs.Common.{ap}
use Rattle.std.specs.Option.{option_copied}
use Rattle.frame_out.proofs.Readiness.{place_none}
use Rattle.frame_out.proofs.stands.place_at.Goals as goal

pub returns-in-None : goal.returns-in-None
returns-in-None c = place_none c.args.places.now c.args.register (option_copied c.get.result) c.get.ensures.value (ap option_copied c.in-None.is)
