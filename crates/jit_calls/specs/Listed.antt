-- Calls that can be made.
use Rattle.std.specs.Prelude.{◌≡◌, ℕ, ◌^◌, ◌≤◌, List, [], ◌∷◌, map, slice_get, Some}
use Rattle.ir_core.specs.declared.program.Function.{Function}
use Rattle.ir_meaning.specs.Operators.{width}
use Rattle.ir_meaning.specs.Ranges.{AreArgs}
use Rattle.ir_meaning.specs.declared.calls.ListedCall.{ListedCall}

-- a call of a function that is there, with a number of its width for each parameter, and from 1 to 2^32 turns
pub record IsListed (functions : List Function) (call : ListedCall) : Type 0 where
  pub function : Function
  pub found : slice_get functions call.symbol ≡ Some function
  pub args : AreArgs (map width function.params) (map Some call.args)
  pub low : 1 ≤ call.turns
  pub high : call.turns ≤ 2 ^ 32

abbrev pub AllListed : List Function → List ListedCall → Type 0
AllListed functions [] = Unit {0}
AllListed functions (call ∷ calls) = IsListed functions call × AllListed functions calls
