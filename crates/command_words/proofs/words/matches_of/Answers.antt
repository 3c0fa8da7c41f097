use Rattle.std.proofs.Common.{◌∙◌}
use Rattle.clap.specs.Simple.{app_of}
use Rattle.command_words.proofs.Ending.{parsed_ok, parsed_err}
use Rattle.command_words.proofs.words.matches_of.Goals as goal

pub returns-in-Ok : goal.returns-in-Ok
returns-in-Ok c name form served is =
    parsed_ok name form served (app_of c.args.arguments.command) is c.args.words.now c.in-Ok.matches c.in-Ok.ensures.kinds c.in-Ok.ensures.matches

pub returns : goal.returns
returns c name form served is =
    parsed_err name form served (app_of c.args.arguments.command) is c.args.words.now c.in-Err.error c.in-Err.ensures.kinds
    (λ memory. c.in_default.not-OutOfMemory (c.kind.ensures ∙ memory))
