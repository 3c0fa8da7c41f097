use Rattle.std.proofs.Common.{ap, ◌∙◌}
use Rattle.ir_core.specs.declared.program.Module.{Module}
use Rattle.hart.proofs.widths.functions_of.Goals as goal

pub returns-clause-few : goal.returns-clause-few
returns-clause-few c = rw (c.as_slice.ensures ∙ ap (λ (m : Module). m.functions) c.module.ensures.value) c.module.ensures.typed.functions
