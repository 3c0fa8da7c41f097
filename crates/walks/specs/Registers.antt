-- Virtual registers, by number.
use Rattle.std.specs.Prelude.{ℕ, ◌==◌, Bool, List, [], ◌∷◌, Option, Some, None, IsTrue, if◌then◌else◌}
use Rattle.walks.specs.Walk.{Bits}
use Rattle.walks.specs.Bits.{free}
use Rattle.walks.specs.Refines.{RefinesBits}

abbrev pub Registers : Type 0
Registers = ℕ → Bits

-- no register is written yet
abbrev pub unwritten : Registers
unwritten r = free

-- the bits of a register, where one is named
abbrev pub read : Registers → Option ℕ → Bits
read regs None = free
read regs (Some r) = regs r

abbrev pub write : Registers → ℕ → Bits → Registers
write regs r value x = if x == r then value else regs x

-- writes the first of these registers, where there is one
abbrev pub put : Registers → List ℕ → Bits → Registers
put regs [] a = regs
put regs (d ∷ ds) a = write regs d a

-- the registers that count agree
abbrev pub RegsAgree : (ℕ → Bool) → Registers → Registers → Type 0
RegsAgree alive regs regs' = (x : ℕ) → IsTrue (alive x) → RefinesBits (regs x) (regs' x)
