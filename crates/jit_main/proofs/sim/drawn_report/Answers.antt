use Rattle.std.proofs.Common.{ℕ, ◌<◌, ◌≤◌, slice_index, subst}
use Rattle.jit_core.specs.Ran.{Ran}
use Rattle.hart.specs.declared.hart.Image.{Image}
use Rattle.jit_core.specs.declared.run.Plan.{Plan}
use Rattle.jit_main.specs.Images.{hart_image}
use Rattle.jit_main.specs.Sims.{plan_of}
use Rattle.fast_isel.specs.Modules.{words_needed}
use Rattle.jit_main.proofs.Readying.{is_image}
use Rattle.jit_main.proofs.Firsts.{are_first_of_core}
use Rattle.jit_main.proofs.Drawing.{are_calls, drawn_right}
use Rattle.jit_main.proofs.sim.drawn_report.Goals as goal

pub run_drawn-requires-clause-versions : goal.run_drawn-requires-clause-versions
run_drawn-requires-clause-versions c = rw c.deref.ensures.value (are_first_of_core c.args.checked.now c.in-Ok.versions.items c.in-Ok.ensures)

pub run_drawn-requires-clause-image : goal.run_drawn-requires-clause-image
run_drawn-requires-clause-image c = rw c.image_for_harts-image.ensures.image (is_image c.args.checked.now c.args.first c.requires.image).room

pub run_drawn-requires-clause-calls : goal.run_drawn-requires-clause-calls
run_drawn-requires-clause-calls c = (are_calls c.args.checked.now c.args.calls.now c.module.ensures.typed c.requires.calls, c.requires.few)

pub returns-in-Ok-run_drawn-clause-report : goal.returns-in-Ok-run_drawn-clause-report
returns-in-Ok-run_drawn-clause-report c =
    let image_is = c.image_for_harts-image.ensures.image in
    let below = subst (λ (m : Image). (i : ℕ) → slice_index m.bytes i < 256) image_is c.image_for_harts-image.ensures.bytes in
    let plan_is = c.plan.ensures in
    let ran : Ran c.args.checked.now (hart_image c.args.first) c.args.calls.now c.in-Ok.versions.items (plan_of c.args.options) c.in-Ok-run_drawn.report =
    rw (← image_is) (rw (← plan_is) (rw (← c.deref.ensures.value) c.in-Ok-run_drawn.ensures.ran)) in
    let fits : words_needed c.in-Ok.versions.items ≤ c.args.options.code_words =
    rw (← c.deref.ensures.value) (subst (λ (p : Plan). words_needed c.deref.result.now ≤ p.code_words) plan_is c.in-Ok-run_drawn.ensures.fits) in
    record {
      image = c.args.first;
      versions = c.in-Ok.versions.items;
      has_image = c.requires.image;
      quick = c.in-Ok.ensures;
      fits = fits;
      ran = ran;
      right = drawn_right c.args.checked.now c.args.first c.args.calls.now c.in-Ok.versions.items (plan_of c.args.options) c.in-Ok-run_drawn.report
          c.module.ensures.typed c.requires.image c.requires.calls below ran;
    }
