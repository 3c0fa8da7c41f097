use Rattle.ir_verify.proofs.Typing.{checked-typed}
use Rattle.ir_verify.proofs.laws.checked_is_typed.Goals as goal

pub returns : goal.returns
returns c = checked-typed
