use Rattle.std.proofs.Common.{◌≡◌, sym, ap, subst, ◌∙◌}
use Rattle.redirect_cells.specs.Opened.{AreQuick}
use Rattle.redirect_cells.proofs.first.opened.Goals as goal

pub place_all-requires-clause-quick : goal.place_all-requires-clause-quick
place_all-requires-clause-quick c =
    subst (λ t. AreQuick t.now.table.shared.key c.args.quick.now) (sym (ap (λ s. s.table) c.take_first-first.ensures.seat ∙ ap (λ s. s.table) c.in_ok-desk.ensures.empty.0 ∙ c.new.ensures.table)) c.requires.quick
