use Rattle.std.proofs.Common.{◌≡◌, ◌≤◌, ◌+◌, ◌<◌, ℕ, Option, length, refl, sym, ap, subst, ◌∙◌, arith}
use Rattle.std.proofs.lemmas.List.{length-set}
use Rattle.code_epochs.specs.declared.state.VersionState.{VersionState}
use Rattle.code_epochs.specs.Sound.{start_of}
use Rattle.code_epochs.proofs.Lists.{at_below, at_index, at_same}
use Rattle.jit_core.specs.declared.publishing.Publishing.{Publishing}
use Rattle.jit_core.specs.Spaces.{count_held}
use Rattle.jit_core.specs.Cores.{CanPublish}
use Rattle.jit_core.proofs.Stands.{at_or}
use Rattle.jit_core.proofs.Standing.{all_other_ready}
use Rattle.jit_core.proofs.Reclaiming.{clear_does, cleared_count, held, taken_at, given_at}
use Rattle.jit_core.proofs.state_machine.Core.clear.Goals as goal

pub index-version-requires : goal.index-version-requires
index-version-requires c = let h = at_below c.args.self.now.state.versions.items c.args.number c.requires.passed.0 c.requires.passed.1 in let o = c.args.self.now.state.versions.ok.0 in omega arith

pub clear_header-requires-clause-version : goal.clear_header-requires-clause-version
clear_header-requires-clause-version c = at_below c.args.self.now.state.versions.items c.args.number c.requires.passed.0 c.requires.passed.1

pub clear_header-requires-clause-header : goal.clear_header-requires-clause-header
clear_header-requires-clause-header c =
    let me = c.args.self.now in
    let vs = me.state.versions.items in
    let p = c.requires.passed in
    let s = c.requires.kept.stands in
    let h = held me c.args.number p.0 p.2.0 p.2.1 p.1 p.2.2 s.0 s.1 in
    let low : start_of p.0.base < length me.state.code.items = (let r = h.range in omega arith) in
    let same : p.0 ≡ _ = at_same vs c.args.number p.0 _ p.1 (at_or vs c.args.number _ (at_below vs c.args.number p.0 p.1)) in
    subst (λ (y : VersionState). start_of y.base < length me.state.code.items) same low

pub clear_header-requires-clause-base : goal.clear_header-requires-clause-base
clear_header-requires-clause-base c =
    let me = c.args.self.now in
    let vs = me.state.versions.items in
    let p = c.requires.passed in
    let s = c.requires.kept.stands in
    let h = held me c.args.number p.0 p.2.0 p.2.1 p.1 p.2.2 s.0 s.1 in
    let same : p.0 ≡ _ = at_same vs c.args.number p.0 _ p.1 (at_or vs c.args.number _ (at_below vs c.args.number p.0 p.1)) in
    subst (λ (y : VersionState). 16777220 ≤ y.base) same h.base

pub overflow_sub-place : goal.overflow_sub-place
overflow_sub-place c =
    let me = c.args.self.now in
    let vs = me.state.versions.items in
    let i = c.args.number in
    let p = c.requires.passed in
    let s = c.requires.kept.stands in
    let h = held me i p.0 p.2.0 p.2.1 p.1 p.2.2 s.0 s.1 in
    let x = c.index-version.result.now in
    let same : p.0 ≡ x = at_same vs i p.0 x p.1 (at_index vs i x (at_below vs i p.0 p.1) c.index-version.ensures) in
    subst (λ (y : VersionState). 16777220 ≤ y.base) same h.base

pub overflow_cast-place : goal.overflow_cast-place
overflow_cast-place c =
    let me = c.args.self.now in
    let vs = me.state.versions.items in
    let i = c.args.number in
    let p = c.requires.passed in
    let s = c.requires.kept.stands in
    let h = held me i p.0 p.2.0 p.2.1 p.1 p.2.2 s.0 s.1 in
    let x = c.index-version.result.now in
    let same : p.0 ≡ x = at_same vs i p.0 x p.1 (at_index vs i x (at_below vs i p.0 p.1) c.index-version.ensures) in
    let fits : start_of x.base < 4294967296 = subst (λ (y : VersionState). start_of y.base < 4294967296) same (let r = h.range in let code = c.requires.kept.code in omega arith) in omega arith

pub overflow_add-version : goal.overflow_add-version
overflow_add-version c =
    let me = c.args.self.now in
    let vs = me.state.versions.items in
    let i = c.args.number in
    let p = c.requires.passed in
    let s = c.requires.kept.stands in
    let h = held me i p.0 p.2.0 p.2.1 p.1 p.2.2 s.0 s.1 in
    let x = c.index-version.result.now in
    let same : p.0 ≡ x = at_same vs i p.0 x p.1 (at_index vs i x (at_below vs i p.0 p.1) c.index-version.ensures) in
    let fits : x.words + 1 < 4294967296 = subst (λ (y : VersionState). y.words + 1 < 4294967296) same (let r = h.range in let code = c.requires.kept.code in omega arith) in omega arith

pub give-requires-clause-taken : goal.give-requires-clause-taken
give-requires-clause-taken c =
    let me = c.args.self.now in
    let vs = me.state.versions.items in
    let i = c.args.number in
    let p = c.requires.passed in
    let s = c.requires.kept.stands in
    let h = held me i p.0 p.2.0 p.2.1 p.1 p.2.2 s.0 s.1 in
    let x = c.index-version.result.now in
    let same : p.0 ≡ x = at_same vs i p.0 x p.1 (at_index vs i x (at_below vs i p.0 p.1) c.index-version.ensures) in
    taken_at me.space p.0 x (length me.state.code.items) same h.size h.range h.taken

pub give-requires-clause-room : goal.give-requires-clause-room
give-requires-clause-room c =
    let me = c.args.self.now in
    let p = c.requires.passed in
    let s = c.requires.kept.stands in
    let count = cleared_count me c.clear_header.new.state c.args.number p.0 p.2.0 p.2.1 p.1 p.2.2 p.2.3 s.0 c.clear_header.ensures.sound s.1 in
    let room = subst (λ (o : Option Publishing). count_held me.state.versions.items o ≤ me.space.spare) c.requires.none c.requires.kept.room in
    omega arith

pub returns-clause-does : goal.returns-clause-does
returns-clause-does c =
    let me = c.args.self.now in
    let vs = me.state.versions.items in
    let i = c.args.number in
    let p = c.requires.passed in
    let x = c.index-version.result.now in
    let same : p.0 ≡ x = at_same vs i p.0 x p.1 (at_index vs i x (at_below vs i p.0 p.1) c.index-version.ensures) in
    clear_does me c.clear_header.new.state c.give.new.self i p.0 p.2.0 p.2.1 c.requires.none p.1 p.2.2 p.2.3 c.clear_header.ensures.sound c.give.ensures.size
    (given_at me.space c.give.new.self p.0 x same c.give.ensures.free)

pub returns-clause-kept : goal.returns-clause-kept
returns-clause-kept c =
    let me = c.args.self.now in
    let new = c.clear_header.new.state in
    let vs = me.state.versions.items in
    let i = c.args.number in
    let p = c.requires.passed in
    let k = c.requires.kept in
    let x = c.index-version.result.now in
    let same : p.0 ≡ x = at_same vs i p.0 x p.1 (at_index vs i x (at_below vs i p.0 p.1) c.index-version.ensures) in
    let does = clear_does me new c.give.new.self i p.0 p.2.0 p.2.1 c.requires.none p.1 p.2.2 p.2.3 c.clear_header.ensures.sound c.give.ensures.size (given_at me.space c.give.new.self p.0 x same c.give.ensures.free) in
    let count = cleared_count me new i p.0 p.2.0 p.2.1 p.1 p.2.2 p.2.3 k.stands.0 c.clear_header.ensures.sound k.stands.1 in
    let room = subst (λ (o : Option Publishing). count_held vs o ≤ me.space.spare) c.requires.none k.room in
    let spare = c.give.ensures.spare in
    let frame = c.clear_header.ensures.frame in
    let code : length new.code.items ≡ length me.state.code.items = ap length (c.clear_header.ensures.cleared p.0 p.1).0 ∙ length-set me.state.code.items (start_of p.0.base) 0 in
    record {
      ready = all_other_ready me.state new me.seats.items me.work (ap (λ v. length v.items) frame.0, ap (λ v. length v.items) frame.2, code) k.ready;
      can = subst (λ (o : Option Publishing). CanPublish new o) (sym c.requires.none) tt;
      code = subst (λ (n : ℕ). n ≤ 4194304) (sym code) k.code;
      functions = ap (λ v. length v.items) frame.0 ∙ k.functions;
      harts = k.harts;
      room = subst (λ (o : Option Publishing). count_held new.versions.items o ≤ c.give.new.self.spare) (sym c.requires.none) (omega arith);
      stands = (_, (does k.stands.0 k.stands.1).0);
    }

pub returns-clause-same : goal.returns-clause-same
returns-clause-same c =
    let me = c.args.self.now in
    let p = c.requires.passed in
    (refl, refl, refl, ap length (c.clear_header.ensures.cleared p.0 p.1).0 ∙ length-set me.state.code.items (start_of p.0.base) 0)
