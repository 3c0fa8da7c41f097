-- Legal forms, computed.
use Rattle.std.proofs.Common.{◌≡◌, refl, ℕ, List, [], ◌∷◌}
use Rattle.gmir.specs.declared.code.GType.{GType}
use Rattle.gmir.specs.declared.code.GType.TheVariants.{S, P0}
use Rattle.gmir.specs.declared.code.GOp.{GOp}
use Rattle.gmir.specs.declared.code.GOp.TheVariants.{Add, SDiv, And, LShr, Icmp, Trunc, ZExt, SExt, SExtInReg, Constant, Param, Return, Copy}
use Rattle.gmir.specs.declared.code.GInst.{GInst}
use Rattle.gmir.specs.declared.code.GFunction.{GFunction}
use Rattle.legal_code.specs.Legal.{legal_insts, legalized}

abbrev inst : GOp → List ℕ → List ℕ → ℕ → GInst
inst op defs uses num = record { op = op; defs = defs; uses = uses; num = num; to = [] }

-- two parameters of eight bits, and their quotient
abbrev quotient : GFunction
quotient = record {
  symbol = 0;
  values = 3;
  end = 268439552;
  types = S 8 ∷ S 8 ∷ S 8 ∷ [];
  blocks = (inst Param (0 ∷ []) [] 0 ∷ inst Param (1 ∷ []) [] 1 ∷ inst SDiv (2 ∷ []) (0 ∷ 1 ∷ []) 0 ∷ inst Return [] (2 ∷ []) 0 ∷ []) ∷ [];
}

-- both are extended by their signs first, and each register has 64 bits
divides : (legalized quotient).blocks ≡ (inst Param (0 ∷ []) [] 0 ∷ inst Param (1 ∷ []) [] 1 ∷ inst SExtInReg (3 ∷ []) (0 ∷ []) 8 ∷ inst SExtInReg (4 ∷ []) (1 ∷ []) 8
    ∷ inst SDiv (2 ∷ []) (3 ∷ 4 ∷ []) 0 ∷ inst Return [] (2 ∷ []) 0 ∷ []) ∷ []
divides = refl

whole : (legalized quotient).types ≡ S 64 ∷ S 64 ∷ S 64 ∷ S 64 ∷ S 64 ∷ []
whole = refl

abbrev types : List GType
types = S 1 ∷ S 16 ∷ S 32 ∷ S 64 ∷ P0 ∷ []

-- an unsigned compare by zeros above, a signed one and an equality by signs; of pointers nothing is above
unsigned : legal_insts types 5 (inst Icmp (0 ∷ []) (1 ∷ 1 ∷ []) 4 ∷ []) ≡ inst Constant (5 ∷ []) [] 65535 ∷ inst And (6 ∷ []) (1 ∷ 5 ∷ []) 0
    ∷ inst Constant (7 ∷ []) [] 65535 ∷ inst And (8 ∷ []) (1 ∷ 7 ∷ []) 0 ∷ inst Icmp (0 ∷ []) (6 ∷ 8 ∷ []) 4 ∷ []
unsigned = refl

equal : legal_insts types 5 (inst Icmp (0 ∷ []) (1 ∷ 1 ∷ []) 0 ∷ []) ≡ inst SExtInReg (5 ∷ []) (1 ∷ []) 16 ∷ inst SExtInReg (6 ∷ []) (1 ∷ []) 16 ∷ inst Icmp (0 ∷ []) (5 ∷ 6 ∷ []) 0 ∷ []
equal = refl

pointers : legal_insts types 5 (inst Icmp (0 ∷ []) (4 ∷ 4 ∷ []) 4 ∷ []) ≡ inst Icmp (0 ∷ []) (4 ∷ 4 ∷ []) 4 ∷ []
pointers = refl

-- the amount of a shift has a width of its own
shifts : legal_insts types 5 (inst LShr (2 ∷ []) (2 ∷ 1 ∷ []) 0 ∷ []) ≡ inst Constant (5 ∷ []) [] 4294967295 ∷ inst And (6 ∷ []) (2 ∷ 5 ∷ []) 0
    ∷ inst Constant (7 ∷ []) [] 65535 ∷ inst And (8 ∷ []) (1 ∷ 7 ∷ []) 0 ∷ inst LShr (2 ∷ []) (6 ∷ 8 ∷ []) 0 ∷ []
shifts = refl

-- a sum asks for nothing above; what has no form at 64 bits takes another
sums : legal_insts types 5 (inst Add (1 ∷ []) (1 ∷ 1 ∷ []) 0 ∷ []) ≡ inst Add (1 ∷ []) (1 ∷ 1 ∷ []) 0 ∷ []
sums = refl

resized : legal_insts types 5 (inst ZExt (2 ∷ []) (1 ∷ []) 0 ∷ inst SExt (3 ∷ []) (1 ∷ []) 0 ∷ inst Trunc (1 ∷ []) (2 ∷ []) 0 ∷ []) ≡ inst Constant (5 ∷ []) [] 65535 ∷ inst And (2 ∷ []) (1 ∷ 5 ∷ []) 0
    ∷ inst SExtInReg (3 ∷ []) (1 ∷ []) 16 ∷ inst Copy (1 ∷ []) (2 ∷ []) 0 ∷ []
resized = refl
