use Rattle.jit_main.proofs.Firsts.{are_first, split_last}
use Rattle.jit_main.proofs.Readying.{are_calls_of, is_image}
use Rattle.jit_main.proofs.run.settled_by.Goals as goal

pub run-requires-clause-work : goal.run-requires-clause-work
run-requires-clause-work g c κs within = record {
  typed = c.module.ensures.typed;
  image = rw c.image_for_harts-image.ensures.image (is_image c.args.checked.now c.args.first c.requires.image);
  calls = are_calls_of c.args.checked.now.module_.functions c.args.calls.now c.requires.calls;
  few = c.requires.few;
  harts = c.requires.options.0;
}

pub run-requires-clause-versions : goal.run-requires-clause-versions
run-requires-clause-versions g c κs within = are_first c.args.checked.now c.in-Ok.versions.items c.in-Ok.ensures

pub returns-in-Ok-run-clause-settled : goal.returns-in-Ok-run-clause-settled
returns-in-Ok-run-clause-settled g c =
    let parts = split_last c.in-Ok-makers_for.makers.items c.args.options.workers c.in-Ok-makers_for.ensures in
    record {
      versions = c.in-Ok.versions.items;
      quick = c.in-Ok.ensures;
      fits = c.in-Ok-run.ensures.fits;
      comes = c.in-Ok-run.ensures.settled parts.0 parts.1 parts.2;
    }
