use Rattle.std.proofs.Common.{◌∙◌, sym}
use Rattle.command_words.proofs.Digits.{number_is}
use Rattle.command_words.proofs.number.number.Goals as goal

pub returns-then-is_number : goal.returns-then-is_number
returns-then-is_number c =
    c.ok.ensures.value ∙ number_is c.args.text.now c.parse.result c.parse.ensures.value.0 (sym c.is_number.ensures ∙ c.if-is_number.true)
