-- The data top in s11, saved and restored, and loops that move bytes of data memory.
use Rattle.std.specs.Prelude.{[], negsuc, ℕ, ◌-◌, ◌^◌, Bool, if◌then◌else◌, nat_lt, pos, List, ◌∷◌}
use Rattle.rv_core.specs.declared.reg.Reg.TheVariants.{X0, T0, T1, T2, T3, T4, S11}
use Rattle.rv_core.specs.declared.instr.BranchOp.TheVariants.{Beq, Bne, Bgeu}
use Rattle.rv_core.specs.declared.instr.LoadOp.TheVariants.{Lbu}
use Rattle.rv_core.specs.declared.instr.StoreOp.TheVariants.{Sb}
use Rattle.rv_core.specs.declared.instr.ImmOp.TheVariants.{Addi}
use Rattle.rv_core.specs.declared.instr.RegOp.TheVariants.{Add}
use Rattle.rv_core.specs.declared.instr.Instr.{Instr}
use Rattle.rv_core.specs.declared.instr.Instr.TheVariants.{Branch, Load, Store, Imm, Op as RegisterOp}
use Rattle.code_pieces.specs.Code.{load_at, store_at}

-- ---- the data top

-- s11 is saved 104 bytes below the frame's end, where the function has an alloca
abbrev pub save_code : Bool → ℕ → List Instr
save_code takes frame = if takes then store_at S11 (frame - 104) else []

abbrev pub restore_code : Bool → ℕ → List Instr
restore_code takes frame = if takes then load_at S11 (frame - 104) else []

-- the bytes that it takes; no data memory has as many as 2 ^ 32
abbrev pub taken_bytes : ℕ → ℕ
taken_bytes bytes = if nat_lt bytes (2 ^ 32) then bytes else 2 ^ 32

-- ---- bytes that are moved

-- a byte from the address in t1 to the one in t0, both moved on by t4, as often as t2 says and at least once
abbrev pub copy_loop : List Instr
copy_loop =
    Load Lbu T3 T1 (pos 0)
    ∷ Store Sb T3 T0 (pos 0)
    ∷ RegisterOp Add T1 T1 T4
    ∷ RegisterOp Add T0 T0 T4
    ∷ Imm Addi T2 T2 (negsuc 0)
    ∷ Branch Bne T2 X0 (negsuc 19)
    ∷ []

-- the bytes from the address in t1 on go to those from the address in t0 on, as many as t2 says: from the last one down where the address in t0 is above
-- that in t1, so that none is overwritten before it is read
abbrev pub move_code : List Instr
move_code =
    Branch Beq T2 X0 (pos 56)
    ∷ Imm Addi T4 X0 (pos 1)
    ∷ Branch Bgeu T1 T0 (pos 24)
    ∷ RegisterOp Add T0 T0 T2
    ∷ RegisterOp Add T1 T1 T2
    ∷ Imm Addi T0 T0 (negsuc 0)
    ∷ Imm Addi T1 T1 (negsuc 0)
    ∷ Imm Addi T4 X0 (negsuc 0)
    ∷ copy_loop

abbrev pub fill_loop : List Instr
fill_loop = Store Sb T1 T0 (pos 0) ∷ Imm Addi T0 T0 (pos 1) ∷ Imm Addi T2 T2 (negsuc 0) ∷ Branch Bne T2 X0 (negsuc 11) ∷ []

-- the byte in t1 goes to the bytes from the address in t0 on, as many as t2 says
abbrev pub fill_code : List Instr
fill_code = Branch Beq T2 X0 (pos 20) ∷ fill_loop
