use Rattle.std.proofs.Common.{subst}
use Rattle.ir_meaning.specs.Step.{Program}
use Rattle.ir_meaning.specs.Typed.{IsTyped}
use Rattle.ir_verify.proofs.Typing.{checked-typed}
use Rattle.ir_verify.proofs.checked.Checked.module.Goals as goal

pub returns-clause-typed : goal.returns-clause-typed
returns-clause-typed c = let P : Program → Type 0 = λ p. IsTyped p in subst P c.self.view_is (checked-typed _ c.self.invariant)
