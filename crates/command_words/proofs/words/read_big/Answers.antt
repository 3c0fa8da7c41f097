use Rattle.std.proofs.Common.{◌∙◌, codes}
use Rattle.command_words.specs.Commands.{words_of, big_form, big_line}
use Rattle.command_words.proofs.Forms.{big_served, big_is, found_in, none_in}
use Rattle.command_words.proofs.words.read_big.Goals as goal

pub returns-in-Some-clause-line : goal.returns-in-Some-clause-line
returns-in-Some-clause-line c =
    let words = words_of c.args.words.now in
    let found = c.in_ok-matches.ensures (codes "big") big_form big_served c.in_ok-arguments.ensures in
    c.big_line.ensures.line ∙ big_is words c.in-Some.matches (found_in big_form words c.in_ok-matches.field-0 c.in-Some.matches c.in-Some.is found)

pub returns-in-None-clause-line : goal.returns-in-None-clause-line
returns-in-None-clause-line c =
    let words = words_of c.args.words.now in
    let found = c.in_ok-matches.ensures (codes "big") big_form big_served c.in_ok-arguments.ensures in
    none_in big_form big_line words c.in_ok-matches.field-0 c.in-None.is found
