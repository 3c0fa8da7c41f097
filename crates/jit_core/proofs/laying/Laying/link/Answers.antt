use Rattle.std.proofs.Common.{ap, length, ◌∙◌}
use Rattle.std.proofs.lemmas.List.{length-set}
use Rattle.jit_core.proofs.Laid.{links}
use Rattle.jit_core.proofs.laying.Laying.link.Goals as goal

pub returns-clause-links : goal.returns-clause-links
returns-clause-links c = links c.args.state.now c.swap_cell.new.state c.args.self.now c.requires.complete c.swap_cell.ensures.sound

pub returns-clause-size : goal.returns-clause-size
returns-clause-size c =
    let e = c.swap_cell.ensures in
    (ap length e.cell ∙ length-set c.args.state.now.cells.items c.args.self.now.version.symbol c.args.self.now.base, ap (λ v. length v.items) e.frame.1, ap (λ v. length v.items) e.frame.2)
