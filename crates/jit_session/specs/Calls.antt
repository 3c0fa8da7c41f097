-- Calls that harts can make.
use Rattle.std.specs.Prelude.{◌≡◌, ◌^◌, ◌≤◌, List, [], ◌∷◌, map, slice_get, Some}
use Rattle.ir_core.specs.declared.program.Function.{Function}
use Rattle.ir_meaning.specs.Operators.{width}
use Rattle.ir_meaning.specs.Ranges.{AreArgs}
use Rattle.ir_meaning.specs.declared.calls.ListedCall.{ListedCall}

-- a call of a function that is there, with a number of its width for each parameter, and at most 2^32 turns
pub record IsCallOf (functions : List Function) (call : ListedCall) : Type 0 where
  pub function : Function
  pub found : slice_get functions call.symbol ≡ Some function
  pub args : AreArgs (map width function.params) (map Some call.args)
  pub turns : call.turns ≤ 2 ^ 32

abbrev pub AreCallsOf : List Function → List ListedCall → Type 0
AreCallsOf functions [] = Unit {0}
AreCallsOf functions (call ∷ calls) = IsCallOf functions call × AreCallsOf functions calls
