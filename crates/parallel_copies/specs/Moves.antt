-- Copies that are all made at once, and moves one after another that make them.
use Rattle.std.specs.Prelude.{◌≡◌, ℕ, ◌==◌, ◌<◌, ◌⊎◌, Bool, false, List, [], ◌∷◌, length, map, slice_index_or, Option, if◌then◌else◌}
use Rattle.std.specs.List.{Contains}
use Rattle.mir.specs.declared.code.MInst.{MInst}
use Rattle.mir.specs.declared.code.MInst.TheVariants.{Move}
use Rattle.walks.specs.Registers.{Registers, write}

-- a register and the one that it is copied from
abbrev pub Copies : Type 0
Copies = List (ℕ × ℕ)

-- all at once: a register that is copied to holds what the other one held before, and each other register what it held
abbrev pub at_once : Registers → Copies → Registers
at_once regs [] x = regs x
at_once regs (copy ∷ copies) x = if x == copy.0 then regs copy.1 else at_once regs copies x

-- what a move leaves in registers
abbrev pub moved : MInst → Registers → Registers
moved (Move d s) regs = write regs d (regs s)
moved _ regs = regs

-- moves one after another
abbrev pub all_moved : List MInst → Registers → Registers
all_moved [] regs = regs
all_moved (move ∷ moves) regs = all_moved moves (moved move regs)

-- whatever registers hold, the moves one after another leave in each but the spare one what the copies leave all at once
abbrev pub MakesCopies : ℕ → Copies → List MInst → Type 0
MakesCopies spare copies moves = (regs : Registers) (x : ℕ) → (x ≡ spare → ⊥) → all_moved moves regs x ≡ at_once regs copies x

abbrev pub written : Copies → List ℕ
written copies = map (λ copy. copy.0) copies

abbrev pub read : Copies → List ℕ
read copies = map (λ copy. copy.1) copies

-- a move to a register that is copied to or the spare one, from one that a copy names or the spare one
abbrev pub IsMoveOf : ℕ → Copies → MInst → Type 0
IsMoveOf spare copies inst = (d : ℕ) × (s : ℕ) × (inst ≡ Move d s) × ((d ≡ spare) ⊎ Contains (written copies) d)
    × ((s ≡ spare) ⊎ Contains (written copies) s ⊎ Contains (read copies) s)

-- no copy writes the register
abbrev pub Unwritten : ℕ → Copies → Type 0
Unwritten x [] = Unit {0}
Unwritten x (copy ∷ copies) = ((x == copy.0) ≡ false) × Unwritten x copies

-- no copy reads it
abbrev pub Unread : ℕ → Copies → Type 0
Unread x [] = Unit {0}
Unread x (copy ∷ copies) = ((x == copy.1) ≡ false) × Unread x copies

-- no register is written twice
abbrev pub Distinct : Copies → Type 0
Distinct [] = Unit {0}
Distinct (copy ∷ copies) = Unwritten copy.0 copies × Distinct copies

-- a copy other than the one at this place reads the register
abbrev pub IsReadBeside : Copies → ℕ → ℕ → Type 0
IsReadBeside copies place r = (k : ℕ) × (k < length copies) × (k ≡ place → ⊥) × ((slice_index_or copies k (0, 0)).1 ≡ r)

-- a copy of a list, and the others
pub data Picks (copy : ℕ × ℕ) : Copies → Copies → Type 0 where
  here : {copies : Copies} → Picks copy (copy ∷ copies) copies
  there : {other : ℕ × ℕ} {copies rest : Copies} → Picks copy copies rest → Picks copy (other ∷ copies) (other ∷ rest)

-- reads of one register become reads of another
abbrev pub renamed : ℕ → ℕ → Copies → Copies
renamed from to [] = []
renamed from to (copy ∷ copies) = (copy.0, if copy.1 == from then to else copy.1) ∷ renamed from to copies

-- a register needs no move from itself
abbrev pub move_for : ℕ → ℕ → List MInst
move_for to from = if to == from then [] else Move to from ∷ []

-- how moves for copies are found, with a register to spare
pub data Sequences (spare : ℕ) : Copies → List MInst → Type 0 where
  done : Sequences spare [] []
  -- a register is copied from itself
  drops : {copies rest : Copies} {moves : List MInst} (d : ℕ) → Picks (d, d) copies rest → Sequences spare rest moves → Sequences spare copies moves
  -- a register that no other copy reads is written
  emits : {copies rest : Copies} {moves : List MInst} (d s : ℕ) → Picks (d, s) copies rest → Unread d rest → Sequences spare rest moves
      → Sequences spare copies (Move d s ∷ moves)
  -- a register that others read is kept in the spare one, which no copy names, and written
  breaks : {copies rest : Copies} {moves : List MInst} (d s : ℕ) → Picks (d, s) copies rest → Unread spare copies → Unwritten spare copies
      → Sequences spare (renamed d spare rest) moves → Sequences spare copies (Move spare d ∷ Move d s ∷ moves)
