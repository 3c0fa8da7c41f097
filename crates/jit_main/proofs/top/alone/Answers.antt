use Rattle.std.proofs.Common.{◌≡◌, [], Option, Some, None, refl, sym, subst}
use Rattle.std.specs.Prelude.{option_map}
use Rattle.command_words.specs.Commands.{line_of, command_of, words_of}
use Rattle.command_words.specs.declared.line.CommandLine.{CommandLine}
use Rattle.jit_main.proofs.Ending.{ended_by, no_command, no_words}
use Rattle.jit_main.proofs.top.alone.Goals as goal

pub returns-else-runs-clause-finished : goal.returns-else-runs-clause-finished
returns-else-runs-clause-finished g c =
    let is : command_of (words_of c.args.words.now) ≡ Some (line_of c.in-Ok-Some.line) =
    sym (subst (λ (o : Option CommandLine). option_map line_of o ≡ command_of (words_of c.args.words.now)) c.in-Ok-Some.field-0-is c.in-Ok-Some.ensures.line) in
    ended_by [] _ _ _ _ _ (line_of c.in-Ok-Some.line) c.serial_writes-ended.result _ is
    (c.serial_writes-ended.ensures.text []) c.serial_writes-ended.ensures.kept c.serial_writes-ended.ensures.stop c.finish.ensures.wrote c.finish.ensures.stopped

pub returns-in-Ok-None-clause-finished : goal.returns-in-Ok-None-clause-finished
returns-in-Ok-None-clause-finished g c =
    let is : command_of (words_of c.args.words.now) ≡ None =
    sym (subst (λ (o : Option CommandLine). option_map line_of o ≡ command_of (words_of c.args.words.now)) c.in-Ok-None.field-0-is c.in-Ok-None.ensures.line) in
    no_command [] _ _ _ _ _ _ is refl c.finish-in-Ok-None.ensures.stopped

pub returns-in-Err-clause-finished : goal.returns-in-Err-clause-finished
returns-in-Err-clause-finished g c = no_words [] _ _ _ _ _ _ refl c.finish-in-Err.ensures.stopped
