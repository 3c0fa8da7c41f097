use Rattle.std.proofs.Common.{ap, ◌∙◌, ◌∷◌, w32}
use Rattle.std.proofs.lemmas.Int.{to_z-of_z}
use Rattle.rv_core.specs.declared.reg.Reg.TheVariants.{T0}
use Rattle.rv_core.specs.declared.instr.Instr.TheVariants.{Imm}
use Rattle.code_emit.specs.Written.{put_code}
use Rattle.frame_code.specs.Code.{keep}
use Rattle.frame_out.proofs.Joining.{imm_put}
use Rattle.frame_out.proofs.stands.put_imm.Goals as goal

pub returns : goal.returns
returns c =
    imm_put c.args.asm.now c.put_fetch.new.asm c.put_kept.new.asm c.args.op c.args.to c.args.a c.args.immediate c.register_of.result c.register_of-2.result c.in_ok-put_fetch.ensures
    (c.in_ok-put_kept.ensures ∙ ap (λ n. put_code c.put_fetch.new.asm (Imm c.args.op c.register_of.result c.register_of-2.result n ∷ keep T0 c.args.to)) (to_z-of_z w32 c.args.immediate c.ranges.immediate)) c.register_of.ensures
    c.register_of-2.ensures
