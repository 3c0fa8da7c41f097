use Rattle.std.proofs.Common.{sym, ap, ◌∙◌}
use Rattle.code_emit.specs.Written.{put_code}
use Rattle.code_emit.proofs.Put.{code_none}
use Rattle.fast_isel_emit.proofs.Given.{few_arguments}
use Rattle.fast_isel_emit.proofs.moves.put_moved.Goals as goal

pub returns-then-arguments-lt3 : goal.returns-then-arguments-lt3
returns-then-arguments-lt3 c =
    sym (code_none c.args.asm.now) ∙ ap (put_code c.args.asm.now) (sym (few_arguments c.args.globals.now c.args.which c.args.arguments.now c.if-arguments-lt3.true))
