use Rattle.std.proofs.Common.{◌≡◌, ℕ, List, length, refl, subst, arith}
use Rattle.code_epochs.specs.declared.state.VersionState.{VersionState}
use Rattle.code_epochs.specs.Sound.{At}
use Rattle.jit_core.specs.declared.event.Event.TheVariants as event
use Rattle.jit_core.specs.declared.event.Stepped.TheVariants as stepped
use Rattle.jit_core.specs.Events.{clear_of, look_at}
use Rattle.jit_core.specs.Keeping.{IsPassed, IsFirstPassed, IsNextLook, NothingOpen}
use Rattle.jit_core.proofs.Standing.{stands_still}
use Rattle.jit_core.proofs.Keeping.{none_pending}
use Rattle.jit_core.proofs.state_machine.Core.reclaim.Goals as goal

pub returns-in-Some-clause-answer : goal.returns-in-Some-clause-answer
returns-in-Some-clause-answer c =
    let vs = c.args.self.now.state.versions.items in
    let n = c.in-Some.number in
    let vec = c.args.self.now.state.harts.ok.0 in
    let len = c.len-harts.ensures in
    let harts : c.len-harts.result ≡ length c.args.self.now.state.harts.items = omega arith in
    (clear_of n, (c.requires.none, subst (λ (k : ℕ). IsFirstPassed k vs n) harts (subst (λ (l : List VersionState). IsFirstPassed c.len-harts.result l n) c.as_slice.ensures.value c.in-Some.ensures)), c.clear.ensures.does)

pub returns-in-Some-clause-stands : goal.returns-in-Some-clause-stands
returns-in-Some-clause-stands c = λ told s. (c.clear.ensures.does told s).0

pub returns-in-Some-next_look-clause-answer : goal.returns-in-Some-next_look-clause-answer
returns-in-Some-next_look-clause-answer c =
    let core = c.args.self.now in
    let vs = core.state.versions.items in
    let p = c.in-Some-next_look.pair in
    let vec = core.state.harts.ok.0 in
    let len = c.len-harts.ensures in
    let harts : c.len-harts.result ≡ length core.state.harts.items = omega arith in (
      look_at p.version p.hart,
      (
        c.requires.none,
        subst (λ (k : ℕ). (i : ℕ) (v : VersionState) → At vs i v → ¬ IsPassed k v) harts (subst (λ (l : List VersionState). (i : ℕ) (v : VersionState) → At l i v → ¬ IsPassed c.len-harts.result v) c.as_slice.ensures.value c.in_default.ensures),
        subst (λ (k : ℕ). IsNextLook k vs core.looked p.version p.hart) harts (subst (λ (l : List VersionState). IsNextLook c.len-harts.result l core.looked p.version p.hart) c.as_slice-2.ensures.value c.in-Some-next_look.ensures),
      ),
      c.look_at.ensures.does,
    )

pub returns-in-Some-next_look-clause-stands : goal.returns-in-Some-next_look-clause-stands
returns-in-Some-next_look-clause-stands c = λ told s. (c.look_at.ensures.does told s).0

pub returns-in-None-clause-answer : goal.returns-in-None-clause-answer
returns-in-None-clause-answer c =
    let vs = c.args.self.now.state.versions.items in (
      (
        c.requires.none,
        none_pending c.len-harts.result vs (subst (λ (l : List VersionState). (i : ℕ) (v : VersionState) → At l i v → ¬ IsPassed c.len-harts.result v) c.as_slice.ensures.value c.in_default.ensures)
            (subst (λ (l : List VersionState). NothingOpen c.len-harts.result l) c.as_slice-2.ensures.value c.in-None.ensures),
      ),
      (refl, refl, refl, refl, refl, refl, refl),
    )

pub returns-in-None-clause-stands : goal.returns-in-None-clause-stands
returns-in-None-clause-stands c = λ told s. let core = c.args.self.now in stands_still core core.state core.space told record { event = event.Keeper; answer = stepped.Nothing } (λ x is. is) (λ x. refl) refl refl s
