use Rattle.std.proofs.Common.{◌≡◌, ◌∙◌, ap, List, [], ◌∷◌, ◌++◌, append_assoc, codes, true, false}
use Rattle.std.proofs.lemmas.Result.{IfOk-weaker}
use Rattle.clap.specs.Walk.{Rule}
use Rattle.clap.specs.Simple.{App, app_of, with_rule}
use Rattle.command_words.specs.Rules.{option_rule, with_options}
use Rattle.command_words.specs.Commands.{run_names}
use Rattle.command_words.proofs.arguments.Arguments.run_options.Goals as goal

five : (xs : List Rule) (a b c d e : Rule) → ((((xs ++ a ∷ []) ++ b ∷ []) ++ c ∷ []) ++ d ∷ []) ++ e ∷ [] ≡ xs ++ a ∷ b ∷ c ∷ d ∷ e ∷ []
five xs a b c d e = simp append_assoc

in_turn : (app : App) → with_rule (with_rule (with_rule (with_rule (with_rule app (option_rule (codes "harts", true))) (option_rule (codes "workers", true)))
    (option_rule (codes "code-words", true))) (option_rule (codes "room", true))) (option_rule (codes "report", false)) ≡ with_options run_names app
in_turn app = ap (λ rules. record app { top = record app.top { rules = rules } }) (five app.top.rules _ _ _ _ _)

pub returns : goal.returns
returns c = IfOk-weaker c.flag.result _ _ (λ r e.
    e ∙ ap (λ a. with_rule a (option_rule (codes "report", false))) (c.in_ok-option-4.ensures
    ∙ ap (λ a. with_rule a (option_rule (codes "room", true))) (c.in_ok-option-3.ensures
    ∙ ap (λ a. with_rule a (option_rule (codes "code-words", true))) (c.in_ok-option-2.ensures
    ∙ ap (λ a. with_rule a (option_rule (codes "workers", true))) c.in_ok-option.ensures)))
    ∙ in_turn (app_of c.args.self.command)) c.flag.ensures
