use Rattle.std.proofs.Common.{ap, ◌∙◌, ◌∷◌, [], w32}
use Rattle.std.proofs.lemmas.Int.{to_z-of_z}
use Rattle.rv_core.specs.declared.instr.Instr.TheVariants.{Store}
use Rattle.code_emit.specs.Written.{put_code}
use Rattle.frame_out.proofs.Joining.{store_put}
use Rattle.frame_out.proofs.stands.put_store.Goals as goal

pub returns : goal.returns
returns c =
    store_put c.args.asm.now c.put_fetch.new.asm c.put_fetch-2.new.asm c.put_instr.new.asm c.args.op c.args.a c.args.b c.args.offset c.register_of.result c.register_of-2.result c.in_ok-put_fetch.ensures c.in_ok-put_fetch-2.ensures
    (c.in_ok-put_instr.ensures ∙ ap (λ n. put_code c.put_fetch-2.new.asm (Store c.args.op c.register_of.result c.register_of-2.result n ∷ [])) (to_z-of_z w32 c.args.offset c.ranges.offset)) c.register_of.ensures c.register_of-2.ensures
