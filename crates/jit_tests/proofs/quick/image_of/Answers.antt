use Rattle.jit_tests.proofs.Firsts.{is_image}
use Rattle.jit_tests.proofs.quick.image_of.Goals as goal

pub returns : goal.returns
returns c = is_image c.args.checked.now c.args.first c.requires
