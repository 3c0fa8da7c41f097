use Rattle.std.proofs.Common.{◌≡◌, Bool, true, false, not, refl, sym, ◌∙◌}
use Rattle.std.proofs.lemmas.Bool.{false≢true}
use Rattle.liveness.proofs.Extending.{reached_new}
use Rattle.liveness.proofs.search.Search.reach.Goals as goal

was_missing : (was is_new : Bool) → is_new ≡ not was → is_new ≡ true → was ≡ false
was_missing true is_new e h = absurd (false≢true (sym e ∙ h))
was_missing false is_new e h = refl

pub returns-in-Ok-clause-extends : goal.returns-in-Ok-clause-extends
returns-in-Ok-clause-extends c =
    reached_new c.args.self.now _ c.args.register c.args.block c.requires.block c.requires.register refl c.mark-is_new.ensures.after c.in-Ok.ensures.items (was_missing _ _ c.mark-is_new.ensures.changed c.if-not-is_new.false)
