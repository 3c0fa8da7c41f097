use Rattle.std.proofs.Common.{◌≤◌, Option, length, sym, ap, subst, ◌∙◌, arith}
use Rattle.code_epochs.proofs.Lists.{at_below}
use Rattle.jit_core.specs.declared.publishing.Publishing.{Publishing}
use Rattle.jit_core.specs.Spaces.{count_held}
use Rattle.jit_core.specs.Cores.{CanPublish}
use Rattle.jit_core.proofs.Standing.{all_other_ready}
use Rattle.jit_core.proofs.Reclaiming.{look_does, looked_count, small}
use Rattle.jit_core.proofs.state_machine.Core.look_at.Goals as goal

pub look-requires-clause-version : goal.look-requires-clause-version
look-requires-clause-version c = at_below c.args.self.now.state.versions.items c.args.pair.version c.requires.open.0 c.requires.open.1

pub look-requires-clause-hart : goal.look-requires-clause-hart
look-requires-clause-hart c = let few = (small _ c.requires.kept.stands.0 c.requires.kept.stands.1).harts in let low = c.requires.open.2.3 in (low, omega arith)

pub returns-clause-does : goal.returns-clause-does
returns-clause-does c = let o = c.requires.open in look_does c.args.self.now c.look.new.state c.args.pair o.0 o.2.0 o.2.1 c.look.result c.requires.none o.1 o.2.2 o.2.3 c.look.ensures.sound

pub returns-clause-kept : goal.returns-clause-kept
returns-clause-kept c =
    let core = c.args.self.now in
    let new = c.look.new.state in
    let k = c.requires.kept in
    let frame = c.look.ensures.frame in
    let o = c.requires.open in
    let does = look_does core new c.args.pair o.0 o.2.0 o.2.1 c.look.result c.requires.none o.1 o.2.2 o.2.3 c.look.ensures.sound in
    let count = looked_count core new c.args.pair o.0 o.2.0 o.2.1 o.1 o.2.2 o.2.3 k.stands.0 c.look.result c.look.ensures.sound k.stands.1 in
    let room = subst (λ (p : Option Publishing). count_held core.state.versions.items p ≤ core.space.spare) c.requires.none k.room in record {
      ready = all_other_ready core.state new core.seats.items core.work (ap (λ v. length v.items) frame.0, ap (λ v. length v.items) frame.2, ap (λ v. length v.items) frame.3) k.ready;
      can = subst (λ (p : Option Publishing). CanPublish new p) (sym c.requires.none) tt;
      code = subst (λ v. length v.items ≤ 4194304) (sym frame.3) k.code;
      functions = ap (λ v. length v.items) frame.0 ∙ k.functions;
      harts = k.harts;
      room = subst (λ (p : Option Publishing). count_held new.versions.items p ≤ core.space.spare) (sym c.requires.none) (omega arith);
      stands = (_, (does k.stands.0 k.stands.1).0);
    }
