-- Calls that are evaluated, and their outcomes.
use Rattle.std.specs.Prelude.{◌≡◌, ℕ, ◌^◌, ◌≤◌, Bool, true, false, ◌&&◌, nat_lt, List, [], ◌∷◌, map, Some}
use Rattle.ir_core.specs.declared.types.Ty.{Ty}
use Rattle.ir_core.specs.declared.program.Function.{Function}
use Rattle.ir_meaning.specs.declared.calls.ListedCall.{ListedCall}
use Rattle.ir_meaning.specs.declared.calls.Outcome.{Outcome}
use Rattle.ir_meaning.specs.declared.calls.Outcome.TheVariants.{Stack as FullStack, NotEnded as Unended, Undefined as Meaningless}
use Rattle.ir_meaning.specs.Operators.{width}
use Rattle.ir_meaning.specs.Step.{Program, function_at}
use Rattle.ir_meaning.specs.Eval.{outcome_of}
use Rattle.ir_meaning.specs.Ranges.{AreArgs}
use Rattle.ir_eval.specs.declared.ends.End.{End}
use Rattle.ir_eval.specs.declared.ends.End.TheVariants.{Answer, Stack, NotEnded, Undefined}

-- a call of a function of the module, with a number of its width for each parameter, and from 1 to 2^32 turns
pub record IsCall (program : Program) (call : ListedCall) : Type 0 where
  pub function : Function
  pub found : function_at program call.symbol ≡ Some function
  pub args : AreArgs (map width function.params) (map Some call.args)
  pub low : 1 ≤ call.turns
  pub high : call.turns ≤ 2 ^ 32

-- the outcome of a run of a function with this result that ends so
abbrev pub end_outcome : Ty → End → Outcome
end_outcome ty (Answer value) = outcome_of ty value
end_outcome ty Stack = FullStack
end_outcome ty NotEnded = Unended
end_outcome ty Undefined = Meaningless

-- as many numbers as types, each of its type's width
abbrev pub are_args : List Ty → List ℕ → Bool
are_args [] [] = true
are_args [] (n ∷ ns) = false
are_args (ty ∷ tys) [] = false
are_args (ty ∷ tys) (n ∷ ns) = nat_lt n (2 ^ width ty) && are_args tys ns
