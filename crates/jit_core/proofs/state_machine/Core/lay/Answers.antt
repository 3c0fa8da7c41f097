use Rattle.std.proofs.Common.{◌+◌, ◌≤◌, sym, subst, ◌∙◌}
use Rattle.code_epochs.specs.Shelf.{count_staying}
use Rattle.jit_core.proofs.Standing.{all_other_ready}
use Rattle.jit_core.proofs.Storing.{store_does}
use Rattle.jit_core.proofs.state_machine.Core.lay.Goals as goal

pub returns-clause-does : goal.returns-clause-does
returns-clause-does c = store_does c.args.self.now c.store_next.new.state c.args.laying c.store_next.new.self c.store_next.ensures.version c.store_next.ensures.stores

pub returns-clause-kept : goal.returns-clause-kept
returns-clause-kept c =
    let core = c.args.self.now in
    let k = c.requires.kept in
    let size = c.store_next.ensures.size in
    let does = store_does core c.store_next.new.state c.args.laying c.store_next.new.self c.store_next.ensures.version c.store_next.ensures.stores in record {
      ready = all_other_ready core.state c.store_next.new.state core.seats.items core.work size k.ready;
      can = c.store_next.ensures.fits;
      code = c.store_next.ensures.fits.code;
      functions = size.0 ∙ k.functions;
      harts = k.harts;
      room = subst (λ v. count_staying v.items + 1 ≤ core.space.spare) (sym c.store_next.ensures.versions) k.room;
      stands = (_, (does k.stands.0 k.stands.1).0);
    }
