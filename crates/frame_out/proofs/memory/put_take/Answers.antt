use Rattle.std.proofs.Common.{◌++◌, ◌∷◌, []}
use Rattle.std.specs.Prelude.{pos}
use Rattle.rv_core.specs.declared.reg.Reg.TheVariants.{X0, T0, T1, S11}
use Rattle.rv_core.specs.declared.instr.RegOp.TheVariants.{Add}
use Rattle.rv_core.specs.declared.instr.ImmOp.TheVariants.{Addi}
use Rattle.rv_core.specs.declared.instr.BranchOp.TheVariants.{Bgeu}
use Rattle.rv_core.specs.declared.instr.Instr.TheVariants as rv
use Rattle.code_pieces.specs.Code.{const_code}
use Rattle.code_pieces.specs.Bytes.{taken_bytes}
use Rattle.frame_code.specs.Code.{store_place}
use Rattle.frame_out.proofs.Joining.{on_code}
use Rattle.frame_out.proofs.memory.put_take.Goals as goal

pub returns : goal.returns
returns c =
    on_code c.args.asm.now c.put_new_top.new.asm c.put_taken.new.asm (rv.Op Add T0 S11 T0) (const_code 3 T0 (taken_bytes c.args.bytes)) (const_code 3 T1 c.args.end)
    (rv.Branch Bgeu T1 T0 (pos 12) ∷ rv.Imm Addi T0 X0 (pos 2) ∷ rv.Ecall ∷ (store_place S11 c.args.to ++ rv.Imm Addi S11 T0 (pos 0) ∷ [])) c.in_ok-put_new_top.ensures c.in_ok-put_taken.ensures
