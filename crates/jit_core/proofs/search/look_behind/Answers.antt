use Rattle.std.proofs.Common.{inl}
use Rattle.jit_core.proofs.Searching.{next_behind}
use Rattle.jit_core.proofs.search.look_behind.Goals as goal

pub returns-in-Some : goal.returns-in-Some
returns-in-Some c = inl c.in-Some.ensures

pub returns-in-None : goal.returns-in-None
returns-in-None c = next_behind c.args.harts c.args.versions.now c.args.pair c.first_of_all.result c.in-None.ensures c.first_of_all.ensures
