-- Names in a list of calls, and what they stand for.
use Rattle.std.specs.Prelude.{◌≡◌, ℕ, ◌+◌, Bool, true, List, [], ◌∷◌, map, Option, Some, None, codes, if◌then◌else◌}
use Rattle.std.specs.Option.{option_map}
use Rattle.ir_text.specs.Token.{Token, token_at, word, local, global, label, number, string, bytes, mark, end}
use Rattle.ir_text.specs.Quoted.{said}
use Rattle.ir_core.specs.declared.program.Function.{Function}
use Rattle.ir_core.specs.declared.program.Global.{Global}
use Rattle.ir_types.specs.declared.tables.Target.{Target}
use Rattle.ir_types.specs.declared.tables.Target.TheVariants as targets
use Rattle.ir_types.specs.Tables.{target_named, put_named}
use Rattle.jit_calls.specs.Form.{Form, begins}

-- what the name of a global or function says, and what comes behind it
abbrev pub said_by : Token → List ℕ → Option (List ℕ × List ℕ)
said_by (global spelling inner) rest = option_map (λ name. (name, rest)) (said spelling inner)
said_by (word name) rest = None
said_by (local spelling inner) rest = None
said_by (label spelling inner) rest = None
said_by (number negative digits) rest = None
said_by (string inner) rest = None
said_by (bytes inner) rest = None
said_by (mark byte) rest = None
said_by end rest = None

abbrev pub named_at : List ℕ → Option (List ℕ × List ℕ)
named_at text = said_by (token_at text).0 (token_at text).1

-- `@NAME`: its bytes
unfoldable pub name : Form (List ℕ)
name = record {
  Is = λ text v rest. (begins (codes "@") text ≡ true) × (named_at text ≡ Some (v, rest));
  read = λ text. if begins (codes "@") text then named_at text else None;
}

abbrev pub function_name : Function → List ℕ
function_name item = item.name

abbrev pub global_name : Global → List ℕ
global_name item = item.name

-- A table of names with their places. A name that stands in it already keeps its place, so each name has that of the first that
-- bears it. The first of these names stands at k, behind those in the table
abbrev pub table_from : ℕ → List (List ℕ) → List (List ℕ × Target) → List (List ℕ × Target)
table_from k [] table = table
table_from k (name ∷ names) table = table_from (k + 1) names (put_named name (targets.Function k) table).1

-- the place that a target names
abbrev pub place_of : Target → ℕ
place_of (targets.Value k) = k
place_of (targets.Block k) = k
place_of (targets.Global k) = k
place_of (targets.Function k) = k
place_of (targets.Type k) = k

-- the place that a name has among names
abbrev pub place_in : List (List ℕ) → List ℕ → Option ℕ
place_in names name = option_map place_of (target_named name (table_from 0 names []))

-- the function that a name stands for: the first one that has it
abbrev pub function_named : List Function → List ℕ → Option ℕ
function_named functions name = place_in (map function_name functions) name

-- the global that a name stands for: the first one that has it
abbrev pub global_named : List Global → List ℕ → Option ℕ
global_named globals name = place_in (map global_name globals) name
