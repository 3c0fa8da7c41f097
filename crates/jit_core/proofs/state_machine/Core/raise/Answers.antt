use Rattle.std.proofs.Common.{◌≤◌, Option, length, sym, ap, subst, ◌∙◌, arith}
use Rattle.jit_core.specs.declared.publishing.Publishing.{Publishing}
use Rattle.jit_core.specs.Spaces.{count_held}
use Rattle.jit_core.specs.Cores.{CanPublish}
use Rattle.jit_core.proofs.Standing.{all_other_ready}
use Rattle.jit_core.proofs.Reclaiming.{raise_does, raised_count, raising_below, small}
use Rattle.jit_core.proofs.state_machine.Core.raise.Goals as goal

pub raise_epoch-requires-clause-version : goal.raise_epoch-requires-clause-version
raise_epoch-requires-clause-version c = raising_below c.args.self.now c.args.number c.requires.kept.stands.0 c.requires.kept.stands.1

pub raise_epoch-requires-clause-room : goal.raise_epoch-requires-clause-room
raise_epoch-requires-clause-room c = let low = (small _ c.requires.kept.stands.0 c.requires.kept.stands.1).epoch in omega arith

pub returns-clause-does : goal.returns-clause-does
returns-clause-does c = raise_does c.args.self.now c.raise_epoch.new.state c.args.number c.requires.none c.raise_epoch.ensures.sound

pub returns-clause-kept : goal.returns-clause-kept
returns-clause-kept c =
    let core = c.args.self.now in
    let new = c.raise_epoch.new.state in
    let k = c.requires.kept in
    let frame = c.raise_epoch.ensures.frame in
    let does = raise_does core new c.args.number c.requires.none c.raise_epoch.ensures.sound in
    let count = raised_count core new c.args.number k.stands.0 c.raise_epoch.ensures.sound k.stands.1 in
    let room = k.room in record {
      ready = all_other_ready core.state new core.seats.items core.work (ap (λ v. length v.items) frame.0, ap (λ v. length v.items) frame.1, ap (λ v. length v.items) frame.2) k.ready;
      can = subst (λ (p : Option Publishing). CanPublish new p) (sym c.requires.none) tt;
      code = subst (λ v. length v.items ≤ 4194304) (sym frame.2) k.code;
      functions = ap (λ v. length v.items) frame.0 ∙ k.functions;
      harts = k.harts;
      room = subst (λ (p : Option Publishing). count_held new.versions.items p ≤ core.space.spare) (sym c.requires.none) (omega arith);
      stands = (_, (does k.stands.0 k.stands.1).0);
    }
