-- What names stand for.
use Rattle.std.specs.Prelude.{ℕ, ◌^◌, Bool, true, false, nat_lt, List, Option, Some, None, Result, Ok, Err, if◌then◌else◌}
use Rattle.ir_text.specs.declared.name.Name.{Name}
use Rattle.ir_text.specs.declared.token.Spelling.{Spelling}
use Rattle.ir_text.specs.declared.token.Spelling.TheVariants.{Bare, Numbered, Quoted}
use Rattle.ir_text.specs.Quoted.{said}
use Rattle.ir_types.specs.declared.fault.Fault.{Fault}
use Rattle.ir_types.specs.declared.fault.Fault.TheVariants as faults
use Rattle.ir_types.specs.declared.tables.Target.{Target}
use Rattle.ir_types.specs.Walk.{◌>>=◌, or_fault}
use Rattle.ir_types.specs.Numbers.{natural}
use Rattle.ir_types.specs.Tables.{target_named, target_numbered, put_named, put_numbered}
use Rattle.ir_types.specs.declared.names.Table.{Table}

abbrev pub is_numbered : Spelling → Bool
is_numbered Numbered = true
is_numbered Bare = false
is_numbered Quoted = false

-- the bytes of a name, escapes replaced
unfoldable pub bytes_of : Name → Result (List ℕ) Fault
bytes_of name = or_fault (faults.Syntax name.left) (said name.spelling name.bytes)

-- a number of a local is below 2^32, as in LLVM's lexer
abbrev pub small_number : Option ℕ → Option ℕ
small_number None = None
small_number (Some n) = if nat_lt n (2 ^ 32) then Some n else None

-- the number of a name that is one
unfoldable pub number_of : Name → Result ℕ Fault
number_of name = or_fault (faults.Syntax name.left) (small_number (natural name.bytes))

unfoldable pub numbered_target : Table → Name → Result Target Fault
numbered_target table name = number_of name >>= λ n. or_fault (faults.Name name.left) (target_numbered n table.numbered)

-- the names of globals and functions, with what they stand for
abbrev pub Symbols : Type 0
Symbols = List (List ℕ × Target)

-- what a name stands for by its bytes
unfoldable pub named_target : List (List ℕ × Target) → Name → Result Target Fault
named_target named name = bytes_of name >>= λ bytes. or_fault (faults.Name name.left) (target_named bytes named)

-- what a name stands for, or that it isn't defined
unfoldable pub target_of : Table → Name → Result Target Fault
target_of table name = if is_numbered name.spelling then numbered_target table name else named_target table.named name

-- a name that is new
abbrev pub if_new : {A : Type 0} → Bool → ℕ → A → Result A Fault
if_new true left after = Ok after
if_new false left after = Err (faults.Name left)

unfoldable pub number_defined : Table → Name → Target → Result Table Fault
number_defined table name target = do
  n ← number_of name
  numbered ← if_new (put_numbered n target table.numbered).0 name.left (put_numbered n target table.numbered).1
  Ok (record { numbered = numbered; named = table.named })

unfoldable pub bytes_defined : Table → Name → Target → Result Table Fault
bytes_defined table name target = do
  bytes ← bytes_of name
  named ← if_new (put_named bytes target table.named).0 name.left (put_named bytes target table.named).1
  Ok (record { numbered = table.numbered; named = named })

-- one more name, which is new
unfoldable pub defined : Table → Name → Target → Result Table Fault
defined table name target = if is_numbered name.spelling then number_defined table name target else bytes_defined table name target
