-- The operands of a phi in a map by their blocks.
use Rattle.std.specs.Prelude.{◌≡◌, ℕ, ◌==◌, nat_eq, List, [], ◌∷◌, Option, Some, None, if◌then◌else◌}
use Rattle.std.specs.Map.{lookup}
use Rattle.ir_core.specs.declared.code.Operand.{Operand}
use Rattle.ir_core.specs.declared.code.Operand.TheVariants.{Poison}

-- what is found, or else this
abbrev pub or_else : Option Operand → Option Operand → Option Operand
or_else None other = other
or_else (Some a) other = Some a

abbrev pub or_poison : Option Operand → Operand
or_poison None = Poison
or_poison (Some a) = a

-- the first operand that comes from a block
abbrev pub first_from : ℕ → List (Operand × ℕ) → Option Operand
first_from from [] = None
first_from from (pair ∷ pairs) = if pair.1 == from then Some pair.0 else first_from from pairs

-- what stands in a map for a block; poison where nothing does
abbrev pub found_or_poison : ℕ → List (ℕ × Operand) → Operand
found_or_poison from entries = or_poison (lookup (nat_eq from) entries)

-- a map has for each block its first operand
abbrev pub Finds : List (Operand × ℕ) → List (ℕ × Operand) → Type 0
Finds pairs entries = (from : ℕ) → lookup (nat_eq from) entries ≡ first_from from pairs

-- a block's operand is added where it has none
abbrev pub Adds : List (ℕ × Operand) → ℕ → Operand → List (ℕ × Operand) → Type 0
Adds old block operand new =
    (from : ℕ) → lookup (nat_eq from) new ≡ or_else (lookup (nat_eq from) old) (if block == from then Some operand else None)
