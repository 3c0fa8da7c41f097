use Rattle.std.proofs.Common.{◌++◌, [], ◌∷◌, ap, ◌∙◌, List, ℕ}
use Rattle.std.specs.Map.{lookup}
use Rattle.generic_code.specs.Literals.{Literal, same_literal}
use Rattle.ir_translator_emit.proofs.Maps.{new_last}
use Rattle.ir_translator_emit.proofs.literals.Literals.hold.Goals as goal

pub returns : goal.returns
returns c =
    c.in_ok-insert.ensures.entries
    ∙ new_last same_literal c.self.inside.registers (c.args.width, c.args.number) c.args.register (ap (λ (es : List (Literal × ℕ)). lookup (same_literal (c.args.width, c.args.number)) es) c.self.view_is ∙ c.requires)
    ∙ ap (λ (es : List (Literal × ℕ)). es ++ ((c.args.width, c.args.number), c.args.register) ∷ []) c.self.view_is
