use Rattle.std.proofs.Common.{◌≡◌, [], drop, map}
use Rattle.jit_calls.specs.Names.{table_from, global_name}
use Rattle.jit_calls.proofs.scope.global_names.Given as goal

abbrev pub invariant-loop-i : goal.invariant-loop-i
invariant-loop-i l = table_from l.i (map global_name (drop l.i l.globals)) l.table ≡ table_from 0 (map global_name l.globals) []
