use Rattle.std.proofs.Common.{◌≤◌, ◌<◌, ℕ, List, Some, length, sym, subst, ◌∙◌, arith}
use Rattle.code_epochs.specs.declared.state.VersionState.{VersionState}
use Rattle.code_epochs.specs.Sound.{At}
use Rattle.jit_core.specs.declared.publishing.Publishing.TheVariants.{Storing}
use Rattle.jit_core.specs.Cores.{publishing_as}
use Rattle.jit_core.proofs.Standing.{all_other_ready}
use Rattle.jit_core.proofs.Linking.{has_linked}
use Rattle.jit_core.proofs.Reclaiming.{link_does, link_count}
use Rattle.jit_core.proofs.state_machine.Core.link.Goals as goal

pub returns-clause-does : goal.returns-clause-does
returns-clause-does c =
    let v = c.in-Some.ensures in
    let at : At c.args.self.now.state.versions.items c.in-Some.number v.0 = subst (λ (l : List VersionState). At l c.in-Some.number v.0) c.as_slice.ensures.value v.1 in
    link_does c.args.self.now c.link.new.state c.args.laying.now c.in-Some.number v.0 c.link.ensures.links at v.2 v.3

pub unreachable-requires : goal.unreachable-requires
unreachable-requires c =
    let k = c.requires.kept in
    let s = k.stands.1 in
    let symbol = c.args.laying.now.version.symbol in
    absurd (has_linked (publishing_as c.args.self.now (Some (Storing c.args.laying.now))) k.stands.0 s symbol k.harts.0 (subst (λ (l : List ℕ). symbol < length l) s.state.0 k.can.symbol)
    (λ i v at linked is. c.in_default.ensures i v (subst (λ (l : List VersionState). At l i v) (sym (c.as_slice.ensures.value ∙ s.state.4)) at) linked is))

pub returns-clause-kept : goal.returns-clause-kept
returns-clause-kept c =
    let core = c.args.self.now in
    let k = c.requires.kept in
    let size = c.link.ensures.size in
    let v = c.in-Some.ensures in
    let at : At core.state.versions.items c.in-Some.number v.0 = subst (λ (l : List VersionState). At l c.in-Some.number v.0) c.as_slice.ensures.value v.1 in
    let does = link_does core c.link.new.state c.args.laying.now c.in-Some.number v.0 c.link.ensures.links at v.2 v.3 in
    let count = link_count core c.link.new.state c.args.laying.now k.stands.0 c.link.ensures.links k.stands.1 in
    let room = k.room in record {
      ready = all_other_ready core.state c.link.new.state core.seats.items core.work size k.ready;
      can = tt;
      code = subst (λ n. n ≤ 4194304) (sym size.2) k.code;
      functions = size.0 ∙ k.functions;
      harts = k.harts;
      room = omega arith;
      stands = (_, (does k.stands.0 k.stands.1).0);
    }
