-- The names of registers and instructions, after the assembly programmer's handbook of the unprivileged specification of RISC-V.
use Rattle.std.specs.Prelude.{ℕ, List, codes}
use Rattle.rv_core.specs.declared.reg.Reg.{Reg}
use Rattle.rv_core.specs.declared.reg.Reg.TheVariants.{X0, Ra, Sp, Gp, Tp, T0, T1, T2, S0, S1, A0, A1, A2, A3, A4, A5, A6, A7, S2, S3, S4, S5, S6, S7, S8, S9, S10, S11, T3, T4, T5, T6}
use Rattle.rv_core.specs.declared.instr.BranchOp.{BranchOp}
use Rattle.rv_core.specs.declared.instr.BranchOp.TheVariants.{Beq, Bne, Blt, Bge, Bltu, Bgeu}
use Rattle.rv_core.specs.declared.instr.LoadOp.{LoadOp}
use Rattle.rv_core.specs.declared.instr.LoadOp.TheVariants.{Lb, Lh, Lw, Ld, Lbu, Lhu, Lwu}
use Rattle.rv_core.specs.declared.instr.StoreOp.{StoreOp}
use Rattle.rv_core.specs.declared.instr.StoreOp.TheVariants.{Sb, Sh, Sw, Sd}
use Rattle.rv_core.specs.declared.instr.ImmOp.{ImmOp}
use Rattle.rv_core.specs.declared.instr.ImmOp.TheVariants.{Addi, Slti, Sltiu, Xori, Ori, Andi, Slli, Srli, Srai, Addiw, Slliw, Srliw, Sraiw}
use Rattle.rv_core.specs.declared.instr.RegOp.{RegOp}
use Rattle.rv_core.specs.declared.instr.RegOp.TheVariants.{Add, Sub, Sll, Slt, Sltu, Xor, Srl, Sra, Or, And, Mul, Mulh, Mulhsu, Mulhu, Div, Divu, Rem, Remu, Addw, Subw, Sllw, Srlw, Sraw, Mulw, Divw, Divuw, Remw, Remuw}

-- a register by its ABI name; the first is x0
abbrev pub reg_name : Reg → List ℕ
reg_name X0 = codes "x0"
reg_name Ra = codes "ra"
reg_name Sp = codes "sp"
reg_name Gp = codes "gp"
reg_name Tp = codes "tp"
reg_name T0 = codes "t0"
reg_name T1 = codes "t1"
reg_name T2 = codes "t2"
reg_name S0 = codes "s0"
reg_name S1 = codes "s1"
reg_name A0 = codes "a0"
reg_name A1 = codes "a1"
reg_name A2 = codes "a2"
reg_name A3 = codes "a3"
reg_name A4 = codes "a4"
reg_name A5 = codes "a5"
reg_name A6 = codes "a6"
reg_name A7 = codes "a7"
reg_name S2 = codes "s2"
reg_name S3 = codes "s3"
reg_name S4 = codes "s4"
reg_name S5 = codes "s5"
reg_name S6 = codes "s6"
reg_name S7 = codes "s7"
reg_name S8 = codes "s8"
reg_name S9 = codes "s9"
reg_name S10 = codes "s10"
reg_name S11 = codes "s11"
reg_name T3 = codes "t3"
reg_name T4 = codes "t4"
reg_name T5 = codes "t5"
reg_name T6 = codes "t6"

abbrev pub branch_name : BranchOp → List ℕ
branch_name Beq = codes "beq"
branch_name Bne = codes "bne"
branch_name Blt = codes "blt"
branch_name Bge = codes "bge"
branch_name Bltu = codes "bltu"
branch_name Bgeu = codes "bgeu"

abbrev pub load_name : LoadOp → List ℕ
load_name Lb = codes "lb"
load_name Lh = codes "lh"
load_name Lw = codes "lw"
load_name Ld = codes "ld"
load_name Lbu = codes "lbu"
load_name Lhu = codes "lhu"
load_name Lwu = codes "lwu"

abbrev pub store_name : StoreOp → List ℕ
store_name Sb = codes "sb"
store_name Sh = codes "sh"
store_name Sw = codes "sw"
store_name Sd = codes "sd"

abbrev pub imm_name : ImmOp → List ℕ
imm_name Addi = codes "addi"
imm_name Slti = codes "slti"
imm_name Sltiu = codes "sltiu"
imm_name Xori = codes "xori"
imm_name Ori = codes "ori"
imm_name Andi = codes "andi"
imm_name Slli = codes "slli"
imm_name Srli = codes "srli"
imm_name Srai = codes "srai"
imm_name Addiw = codes "addiw"
imm_name Slliw = codes "slliw"
imm_name Srliw = codes "srliw"
imm_name Sraiw = codes "sraiw"

abbrev pub op_name : RegOp → List ℕ
op_name Add = codes "add"
op_name Sub = codes "sub"
op_name Sll = codes "sll"
op_name Slt = codes "slt"
op_name Sltu = codes "sltu"
op_name Xor = codes "xor"
op_name Srl = codes "srl"
op_name Sra = codes "sra"
op_name Or = codes "or"
op_name And = codes "and"
op_name Mul = codes "mul"
op_name Mulh = codes "mulh"
op_name Mulhsu = codes "mulhsu"
op_name Mulhu = codes "mulhu"
op_name Div = codes "div"
op_name Divu = codes "divu"
op_name Rem = codes "rem"
op_name Remu = codes "remu"
op_name Addw = codes "addw"
op_name Subw = codes "subw"
op_name Sllw = codes "sllw"
op_name Srlw = codes "srlw"
op_name Sraw = codes "sraw"
op_name Mulw = codes "mulw"
op_name Divw = codes "divw"
op_name Divuw = codes "divuw"
op_name Remw = codes "remw"
op_name Remuw = codes "remuw"
