use Rattle.std.proofs.Common.{map}
use Rattle.ir_verify.specs.Ranges.{init_fits}
use Rattle.ir_verify.proofs.Items.{fit_short}
use Rattle.ir_verify.proofs.inits.+inits.Goals as goal

pub fields_fit-returns-then-items-fields : goal.fields_fit-returns-then-items-fields
fields_fit-returns-then-items-fields t c = fit_short c.args.globals c.args.items.now c.args.fields.now c.if-items-fields.true
