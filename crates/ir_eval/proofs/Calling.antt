-- Arguments and the types of parameters.
use Rattle.std.proofs.Common.{◌≡◌, ℕ, ◌^◌, true, nat_lt, List, [], ◌∷◌, map, Some, refl}
use Rattle.std.proofs.lemmas.Bool.{lt-ltb}
use Rattle.ir_core.specs.declared.types.Ty.{Ty}
use Rattle.ir_core.specs.declared.program.Function.{Function}
use Rattle.ir_meaning.specs.Operators.{width}
use Rattle.ir_meaning.specs.Ranges.{AreArgs}
use Rattle.ir_verify.proofs.Lists.{and_both, lt_is}
use Rattle.ir_eval.specs.Entries.{are_args}

pub args_are : (tys : List Ty) (ns : List ℕ) → are_args tys ns ≡ true → AreArgs (map width tys) (map Some ns)
args_are [] [] e = tt
args_are [] (n ∷ ns) e = absurd (let bad : ⊥ = cc in bad)
args_are (ty ∷ tys) [] e = absurd (let bad : ⊥ = cc in bad)
args_are (ty ∷ tys) (n ∷ ns) e = let both = and_both (nat_lt n (2 ^ width ty)) (are_args tys ns) e in (lt_is n (2 ^ width ty) both.0, args_are tys ns both.1)

pub args_only : (tys : List Ty) (ns : List ℕ) → AreArgs (map width tys) (map Some ns) → are_args tys ns ≡ true
args_only [] [] h = refl
args_only [] (n ∷ ns) h = absurd h
args_only (ty ∷ tys) [] h = absurd h
args_only (ty ∷ tys) (n ∷ ns) h = let below : nat_lt n (2 ^ width ty) ≡ true = lt-ltb _ _ h.0 in let more = args_only tys ns h.1 in rw (below, more) refl

pub function_same : (f g : Function) → Some f ≡ Some g → f ≡ g
function_same f g e = cc
