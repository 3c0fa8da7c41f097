-- Tables of the names of a module.
use Rattle.std.specs.Prelude.{◌≡◌, [], map, None}
use Rattle.ir_flow.specs.Limits.{limit_passed}
use Rattle.jit_calls.specs.declared.scope.Scope.{Scope}
use Rattle.jit_calls.specs.Names.{function_name, global_name, table_from}

-- a module within its limits, with the tables of its names
pub record IsScope (scope : Scope) : Type 0 where
  pub limits : limit_passed scope.all.now ≡ None
  pub functions : scope.functions ≡ table_from 0 (map function_name scope.all.now.functions) []
  pub globals : scope.globals ≡ table_from 0 (map global_name scope.all.now.globals) []
