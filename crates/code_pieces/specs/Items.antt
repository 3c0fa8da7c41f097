-- Code as instructions with labels.
use Rattle.std.specs.Prelude.{ℕ, List, map}
use Rattle.rv_core.specs.declared.reg.Reg.{Reg}
use Rattle.rv_core.specs.declared.instr.BranchOp.{BranchOp}
use Rattle.rv_core.specs.declared.instr.Instr.{Instr}

-- an instruction, the place of a label, a jump to one, and a jump to one where a comparison of two registers holds
pub data Item : Type 0 where
  Plain : (instr : Instr) → Item
  Bind : (label : ℕ) → Item
  Goto : (label : ℕ) → Item
  Test : (op : BranchOp) (a b : Reg) (label : ℕ) → Item

abbrev pub plain : List Instr → List Item
plain = map Plain
