use Rattle.std.proofs.Common.{◌≡◌, [], drop, map}
use Rattle.jit_calls.specs.Names.{table_from, function_name}
use Rattle.jit_calls.proofs.scope.function_names.Given as goal

abbrev pub invariant-loop-i : goal.invariant-loop-i
invariant-loop-i l = table_from l.i (map function_name (drop l.i l.functions)) l.table ≡ table_from 0 (map function_name l.functions) []
