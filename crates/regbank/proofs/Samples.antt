-- Constants of one word and of two, with one use and with two.
use Rattle.std.proofs.Common.{◌≡◌, refl, ℕ, true, false, List, [], ◌∷◌}
use Rattle.gmir.specs.declared.code.GType.TheVariants.{S}
use Rattle.gmir.specs.declared.code.GOp.{GOp}
use Rattle.gmir.specs.declared.code.GOp.TheVariants.{Add, Constant, Param, Return}
use Rattle.gmir.specs.declared.code.GInst.{GInst}
use Rattle.gmir.specs.declared.code.GFunction.{GFunction}
use Rattle.regbank.specs.Choice.{kept_of}

inst : GOp → List ℕ → List ℕ → ℕ → GInst
inst op defs uses num = record { op = op; defs = defs; uses = uses; num = num; to = [] }

-- a parameter, and the sum of it and a constant
once : ℕ → GFunction
once n = record {
  symbol = 0;
  values = 2;
  end = 268439552;
  types = S 64 ∷ S 64 ∷ S 64 ∷ [];
  blocks = (inst Param (0 ∷ []) [] 0 ∷ inst Constant (1 ∷ []) [] n ∷ inst Add (2 ∷ []) (0 ∷ 1 ∷ []) 0 ∷ inst Return [] (2 ∷ []) 0 ∷ []) ∷ [];
}

-- a constant and itself
twice : ℕ → GFunction
twice n = record {
  symbol = 0;
  values = 1;
  end = 268439552;
  types = S 64 ∷ S 64 ∷ [];
  blocks = (inst Constant (0 ∷ []) [] n ∷ inst Add (1 ∷ []) (0 ∷ 0 ∷ []) 0 ∷ inst Return [] (1 ∷ []) 0 ∷ []) ∷ [];
}

-- one word: made again where it is used once, kept on a tie
short_once : kept_of (once 5) ≡ false ∷ []
unfolding once inst
short_once = refl

short_twice : kept_of (twice 5) ≡ true ∷ []
unfolding twice inst
short_twice = refl

-- two words
long_once : kept_of (once 74565) ≡ false ∷ []
unfolding once inst
long_once = refl

long_twice : kept_of (twice 74565) ≡ true ∷ []
unfolding twice inst
long_twice = refl
