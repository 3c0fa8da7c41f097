use Rattle.std.proofs.Common.{ap, ◌∙◌}
use Rattle.rv_core.specs.declared.reg.Reg.TheVariants.{T0}
use Rattle.code_pieces.specs.Code.{const_code}
use Rattle.code_emit.specs.Written.{put_code}
use Rattle.fast_isel_emit.proofs.Put.{five_code}
use Rattle.fast_isel_emit.proofs.allocas.put_alloca.Goals as goal

pub returns : goal.returns
returns c =
    five_code c.args.asm.now c.put_const.new.asm c.put_instr.new.asm c.put_const-2.new.asm c.put_stop.new.asm c.put_top.new.asm _ _ _ _ _ (c.in_ok-put_const.ensures ∙ ap (λ k. put_code c.args.asm.now (const_code 3 T0 k)) c.taken_bytes.ensures)
    c.in_ok-put_instr.ensures c.in_ok-put_const-2.ensures c.in_ok-put_stop.ensures c.in_ok-put_top.ensures
