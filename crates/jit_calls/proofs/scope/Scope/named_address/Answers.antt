use Rattle.std.proofs.Common.{sym, ◌∙◌}
use Rattle.jit_calls.proofs.Places.{global-below}
use Rattle.jit_calls.proofs.scope.Scope.named_address.Goals as goal

pub address_of-requires-clause-exists : goal.address_of-requires-clause-exists
address_of-requires-clause-exists c = global-below c.args.self.now.all.now.globals c.args.name.now c.in-Some.global (sym c.global_named.ensures ∙ c.in-Some.is)
