use Rattle.std.proofs.Common.{refl}
use Rattle.ir_instructions.specs.BuiltIns.{integer_named}
use Rattle.ir_instructions.proofs.built_ins.integer_named.Goals as goal

pub returns : goal.returns
unfolding integer_named
returns c = rw (c.or_named.ensures, c.with_width_behind-4.ensures, c.or_named-smin.ensures, c.with_width_behind-3.ensures, c.or_named-umax.ensures, c.with_width_behind-2.ensures, c.or_named-umin.ensures, c.with_width_behind.ensures, c.with_width_behind-abs.ensures) refl
