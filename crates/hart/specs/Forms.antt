-- What a form says of the instruction that a word spells.
use Rattle.std.specs.Prelude.{Option, Some}
use Rattle.rv_core.specs.declared.instr.Instr.{Instr}
use Rattle.rv_core.specs.declared.instr.Instr.TheVariants as instr
use Rattle.rv_core.specs.declared.instr.BranchOp.TheVariants as branch
use Rattle.rv_core.specs.declared.instr.LoadOp.TheVariants as load
use Rattle.rv_core.specs.declared.instr.StoreOp.TheVariants as store
use Rattle.rv_core.specs.declared.instr.ImmOp.TheVariants as imm
use Rattle.rv_core.specs.declared.instr.RegOp.TheVariants as op
use Rattle.hart.specs.declared.form.Form.{Form}
use Rattle.hart.specs.declared.form.Form.TheVariants as form

-- the instruction of a form; a form of any other word says nothing
abbrev pub reads_as : Form → Option Instr → Option Instr
reads_as (form.Lui rd n) o = Some (instr.Lui rd n)
reads_as (form.Auipc rd n) o = Some (instr.Auipc rd n)
reads_as (form.Jal rd n) o = Some (instr.Jal rd n)
reads_as (form.Jalr rd rs1 n) o = Some (instr.Jalr rd rs1 n)
reads_as (form.Beq rs1 rs2 n) o = Some (instr.Branch branch.Beq rs1 rs2 n)
reads_as (form.Bne rs1 rs2 n) o = Some (instr.Branch branch.Bne rs1 rs2 n)
reads_as (form.Blt rs1 rs2 n) o = Some (instr.Branch branch.Blt rs1 rs2 n)
reads_as (form.Bge rs1 rs2 n) o = Some (instr.Branch branch.Bge rs1 rs2 n)
reads_as (form.Bltu rs1 rs2 n) o = Some (instr.Branch branch.Bltu rs1 rs2 n)
reads_as (form.Bgeu rs1 rs2 n) o = Some (instr.Branch branch.Bgeu rs1 rs2 n)
reads_as (form.Lb rd rs1 n) o = Some (instr.Load load.Lb rd rs1 n)
reads_as (form.Lh rd rs1 n) o = Some (instr.Load load.Lh rd rs1 n)
reads_as (form.Lw rd rs1 n) o = Some (instr.Load load.Lw rd rs1 n)
reads_as (form.Ld rd rs1 n) o = Some (instr.Load load.Ld rd rs1 n)
reads_as (form.Lbu rd rs1 n) o = Some (instr.Load load.Lbu rd rs1 n)
reads_as (form.Lhu rd rs1 n) o = Some (instr.Load load.Lhu rd rs1 n)
reads_as (form.Lwu rd rs1 n) o = Some (instr.Load load.Lwu rd rs1 n)
reads_as (form.Sb rs2 rs1 n) o = Some (instr.Store store.Sb rs2 rs1 n)
reads_as (form.Sh rs2 rs1 n) o = Some (instr.Store store.Sh rs2 rs1 n)
reads_as (form.Sw rs2 rs1 n) o = Some (instr.Store store.Sw rs2 rs1 n)
reads_as (form.Sd rs2 rs1 n) o = Some (instr.Store store.Sd rs2 rs1 n)
reads_as (form.Addi rd rs1 n) o = Some (instr.Imm imm.Addi rd rs1 n)
reads_as (form.Slti rd rs1 n) o = Some (instr.Imm imm.Slti rd rs1 n)
reads_as (form.Sltiu rd rs1 n) o = Some (instr.Imm imm.Sltiu rd rs1 n)
reads_as (form.Xori rd rs1 n) o = Some (instr.Imm imm.Xori rd rs1 n)
reads_as (form.Ori rd rs1 n) o = Some (instr.Imm imm.Ori rd rs1 n)
reads_as (form.Andi rd rs1 n) o = Some (instr.Imm imm.Andi rd rs1 n)
reads_as (form.Slli rd rs1 n) o = Some (instr.Imm imm.Slli rd rs1 n)
reads_as (form.Srli rd rs1 n) o = Some (instr.Imm imm.Srli rd rs1 n)
reads_as (form.Srai rd rs1 n) o = Some (instr.Imm imm.Srai rd rs1 n)
reads_as (form.Addiw rd rs1 n) o = Some (instr.Imm imm.Addiw rd rs1 n)
reads_as (form.Slliw rd rs1 n) o = Some (instr.Imm imm.Slliw rd rs1 n)
reads_as (form.Srliw rd rs1 n) o = Some (instr.Imm imm.Srliw rd rs1 n)
reads_as (form.Sraiw rd rs1 n) o = Some (instr.Imm imm.Sraiw rd rs1 n)
reads_as (form.Add rd rs1 rs2) o = Some (instr.Op op.Add rd rs1 rs2)
reads_as (form.Sub rd rs1 rs2) o = Some (instr.Op op.Sub rd rs1 rs2)
reads_as (form.Sll rd rs1 rs2) o = Some (instr.Op op.Sll rd rs1 rs2)
reads_as (form.Slt rd rs1 rs2) o = Some (instr.Op op.Slt rd rs1 rs2)
reads_as (form.Sltu rd rs1 rs2) o = Some (instr.Op op.Sltu rd rs1 rs2)
reads_as (form.Xor rd rs1 rs2) o = Some (instr.Op op.Xor rd rs1 rs2)
reads_as (form.Srl rd rs1 rs2) o = Some (instr.Op op.Srl rd rs1 rs2)
reads_as (form.Sra rd rs1 rs2) o = Some (instr.Op op.Sra rd rs1 rs2)
reads_as (form.Or rd rs1 rs2) o = Some (instr.Op op.Or rd rs1 rs2)
reads_as (form.And rd rs1 rs2) o = Some (instr.Op op.And rd rs1 rs2)
reads_as (form.Mul rd rs1 rs2) o = Some (instr.Op op.Mul rd rs1 rs2)
reads_as (form.Addw rd rs1 rs2) o = Some (instr.Op op.Addw rd rs1 rs2)
reads_as (form.Subw rd rs1 rs2) o = Some (instr.Op op.Subw rd rs1 rs2)
reads_as (form.Sllw rd rs1 rs2) o = Some (instr.Op op.Sllw rd rs1 rs2)
reads_as (form.Srlw rd rs1 rs2) o = Some (instr.Op op.Srlw rd rs1 rs2)
reads_as (form.Sraw rd rs1 rs2) o = Some (instr.Op op.Sraw rd rs1 rs2)
reads_as (form.Mulw rd rs1 rs2) o = Some (instr.Op op.Mulw rd rs1 rs2)
reads_as (form.Op k rd rs1 rs2) o = Some (instr.Op k rd rs1 rs2)
reads_as form.Other o = o
