use Rattle.std.proofs.Common.{sym, subst, List}
use Rattle.std.specs.Prelude.{All}
use Rattle.ir_core.specs.declared.program.Function.{Function}
use Rattle.ir_verify.specs.Small.{IsSmall}
use Rattle.ir_verify.proofs.Lists.{all_of}
use Rattle.ir_verify.proofs.Rows.{small}
use Rattle.fast_isel.proofs.taken.takes.Goals as goal

pub are_taken-requires : goal.are_taken-requires
are_taken-requires c = subst (λ (fs : List Function). All IsSmall fs) (sym c.as_slice.ensures) (all_of IsSmall _ (small _ c.module-all.ensures.passes.rows))
