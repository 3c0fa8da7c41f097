use Rattle.std.proofs.Common.{◌∙◌}
use Rattle.code_emit.proofs.Put.{loaded_code}
use Rattle.code_emit.proofs.pieces.put_const.Goals as goal

pub returns : goal.returns
returns c = c.in_ok-load_const.ensures.added ∙ loaded_code c.args.asm.now c.args.register c.args.number
