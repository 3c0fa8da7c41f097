-- What names stand for.
use Rattle.std.specs.Prelude.{◌≡◌, ℕ, Bool, true, false, nat_eq, List, [], ◌∷◌, ◌++◌, Option, Some, None, is_some, if◌then◌else◌}
use Rattle.std.specs.Map.{lookup}
use Rattle.std.specs.Str.{bytes_eq}
use Rattle.ir_types.specs.declared.tables.Target.{Target}

-- what a name stands for among names and their targets in order of definition
abbrev pub target_named : List ℕ → List (List ℕ × Target) → Option Target
target_named name all = lookup (bytes_eq name) all

abbrev pub target_numbered : ℕ → List (ℕ × Target) → Option Target
target_numbered number all = lookup (nat_eq number) all

-- a name that is new goes last; whether it is new
abbrev pub put_named : List ℕ → Target → List (List ℕ × Target) → Bool × List (List ℕ × Target)
put_named name target all = if is_some (target_named name all) then (false, all) else (true, all ++ (name, target) ∷ [])

abbrev pub put_numbered : ℕ → Target → List (ℕ × Target) → Bool × List (ℕ × Target)
put_numbered number target all = if is_some (target_numbered number all) then (false, all) else (true, all ++ (number, target) ∷ [])
