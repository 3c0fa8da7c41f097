use Rattle.std.proofs.Common.{◌∙◌, codes}
use Rattle.command_words.specs.Commands.{words_of, sim_form, sim_line}
use Rattle.command_words.proofs.Forms.{sim_served, sim_is, found_in, none_in}
use Rattle.command_words.proofs.words.read_sim.Goals as goal

pub returns-in-Some-clause-line : goal.returns-in-Some-clause-line
returns-in-Some-clause-line c =
    let words = words_of c.args.words.now in
    let found = c.in_ok-matches.ensures (codes "sim") sim_form sim_served c.in_ok-arguments.ensures in
    c.sim_line.ensures.line ∙ sim_is words c.in-Some.matches (found_in sim_form words c.in_ok-matches.field-0 c.in-Some.matches c.in-Some.is found)

pub returns-in-None-clause-line : goal.returns-in-None-clause-line
returns-in-None-clause-line c =
    let words = words_of c.args.words.now in
    let found = c.in_ok-matches.ensures (codes "sim") sim_form sim_served c.in_ok-arguments.ensures in
    none_in sim_form sim_line words c.in_ok-matches.field-0 c.in-None.is found
