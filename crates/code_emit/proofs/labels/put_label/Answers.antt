use Rattle.std.proofs.Common.{◌∙◌}
use Rattle.code_emit.proofs.Put.{bound_put}
use Rattle.code_emit.proofs.labels.put_label.Goals as goal

pub returns : goal.returns
returns c = c.bind.ensures ∙ bound_put c.args.asm.now c.args.label
