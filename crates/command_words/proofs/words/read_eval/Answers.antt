use Rattle.std.proofs.Common.{◌∙◌, codes}
use Rattle.command_words.specs.Commands.{words_of, eval_form, eval_line}
use Rattle.command_words.proofs.Forms.{eval_served, eval_is, found_in, none_in}
use Rattle.command_words.proofs.words.read_eval.Goals as goal

pub returns-in-Some-clause-line : goal.returns-in-Some-clause-line
returns-in-Some-clause-line c =
    let words = words_of c.args.words.now in
    let found = c.in_ok-matches.ensures (codes "eval") eval_form eval_served c.in_ok-arguments.ensures in
    c.eval_line.ensures.line ∙ eval_is words c.in-Some.matches (found_in eval_form words c.in_ok-matches.field-0 c.in-Some.matches c.in-Some.is found)

pub returns-in-None-clause-line : goal.returns-in-None-clause-line
returns-in-None-clause-line c =
    let words = words_of c.args.words.now in
    let found = c.in_ok-matches.ensures (codes "eval") eval_form eval_served c.in_ok-arguments.ensures in
    none_in eval_form eval_line words c.in_ok-matches.field-0 c.in-None.is found
