-- The copies that phis at the head of a block make on an edge.
use Rattle.std.specs.Prelude.{◌≡◌, ℕ, ◌+◌, ◌==◌, ◌||◌, Bool, false, List, [], ◌∷◌, ◌++◌, Option, Some, None, if◌then◌else◌}
use Rattle.mir.specs.declared.code.MInst.{MInst}
use Rattle.mir.specs.declared.code.MInst.TheVariants.{Phi}
use Rattle.mir_play.specs.Play.{on_edge}
use Rattle.parallel_copies.specs.Moves.{Copies}

-- each phi at the head of the block has a register for the edge
abbrev pub HasOperands : ℕ → List MInst → Type 0
HasOperands from (Phi d pairs ∷ insts) = ((s : ℕ) × (on_edge from pairs ≡ Some s)) × HasOperands from insts
HasOperands from _ = Unit {0}

-- one of the copies writes the register
abbrev pub is_written : ℕ → Copies → Bool
is_written x [] = false
is_written x (copy ∷ copies) = (x == copy.0) || is_written x copies

-- a copy is put behind the others, unless one of these writes its register
abbrev pub with_copy : ℕ → Option ℕ → Copies → Copies
with_copy d None copies = copies
with_copy d (Some s) copies = if is_written d copies then copies else copies ++ (d, s) ∷ []

-- the copies that the phis make; where two phis write one register, the last does
abbrev pub copies_on : ℕ → List MInst → Copies
copies_on from (Phi d pairs ∷ insts) = with_copy d (on_edge from pairs) (copies_on from insts)
copies_on from _ = []

-- how many phis stand at the head of the block
abbrev pub heads : List MInst → ℕ
heads (Phi d pairs ∷ insts) = heads insts + 1
heads _ = 0
