use Rattle.std.proofs.Common.{ap, ◌∙◌, ◌∷◌, []}
use Rattle.std.specs.Prelude.{pos}
use Rattle.rv_core.specs.declared.reg.Reg.TheVariants.{X0, T0, T2}
use Rattle.rv_core.specs.declared.instr.ImmOp.TheVariants.{Addi}
use Rattle.rv_core.specs.declared.instr.BranchOp.TheVariants.{Bgeu}
use Rattle.rv_core.specs.declared.instr.Instr.TheVariants.{Lui, Branch, Imm, Ecall}
use Rattle.code_emit.specs.Written.{put_code}
use Rattle.code_emit.proofs.Put.{prologue_put}
use Rattle.code_emit.proofs.frame.put_prologue.Goals as goal

pub returns : goal.returns
returns c =
    prologue_put c.args.asm.now c.put_count.new.asm c.put_lowered.new.asm c.put_all.new.asm c.put_store_at.new.asm c.args.symbol c.args.frame c.in_ok-put_count.ensures c.in_ok-put_lowered.ensures
    (c.in_ok-put_all.ensures ∙ ap (λ i. put_code c.put_lowered.new.asm (Lui T2 0x40000 ∷ Branch Bgeu T0 T2 (pos 12) ∷ Imm Addi T0 X0 (pos 2) ∷ Ecall ∷ i ∷ [])) c.lower_by.ensures.value)
    c.in_ok-put_store_at.ensures
