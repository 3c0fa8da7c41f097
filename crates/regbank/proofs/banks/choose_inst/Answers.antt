use Rattle.std.proofs.Common.{refl, sym, ◌∙◌}
use Rattle.regbank.proofs.Choosing.{one_chosen, on_ok}
use Rattle.regbank.proofs.banks.choose_inst.Goals as goal

pub returns-then-is_constant : goal.returns-then-is_constant
returns-then-is_constant c = on_ok c.push.result _ _
    (λ e n counts. one_chosen c.args.inst.now n c.words_of.result c.uses_of_first-uses.result c.is_kept-choice.result c.args.kept.now.items c.push.new.kept.items (sym c.is_constant.ensures ∙ c.if-is_constant.true) c.words_of.ensures.words
    (c.uses_of_first-uses.ensures n counts (c.requires 0 c.args.inst.now refl (sym c.is_constant.ensures ∙ c.if-is_constant.true))) c.is_kept-choice.ensures e)
    c.push.ensures
