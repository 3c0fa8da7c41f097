use Rattle.std.proofs.Common.{◌≡◌, ◌↔◌, true, ◌⊎◌, ◌≤◌, ℕ, List, set, sym, subst, ap, ◌∙◌}
use Rattle.code_epochs.specs.declared.state.Status.TheVariants.{Pending}
use Rattle.code_epochs.specs.declared.state.VersionState.{VersionState}
use Rattle.code_epochs.specs.Sound.{At}
use Rattle.code_epochs.specs.Steps.{with_status, marked_by}
use Rattle.code_epochs.proofs.Lists.{at_index, at_same}
use Rattle.code_epochs.proofs.Marked.{marks_are}
use Rattle.code_epochs.proofs.Epochs.{look_sound}
use Rattle.code_epochs.proofs.steps.look.Goals as goal

pub returns-clause-sound : goal.returns-clause-sound
returns-clause-sound c = λ m x v tag passed found is sound can at.
    let number = c.args.version in
    let items = c.args.state.now.versions.items in
    let one = λ (u : VersionState) (e : At items number u). at_same x.book.versions number u v (subst (λ (l : List VersionState). At l number u) is.4 e) can.0 in
    let word : c.index-found.result.now ≡ found = at_same x.announced c.args.hart c.index-found.result.now found (subst (λ (l : List ℕ). At l c.args.hart c.index-found.result.now) is.2 (at_index c.args.state.now.harts.items c.args.hart c.index-found.result.now c.requires.hart.0 c.index-found.ensures)) at in
    let first : c.index.result.now ≡ v = one c.index.result.now (at_index items number c.index.result.now c.requires.version c.index.ensures) in
    let second : c.index_mut.result.now ≡ v = one c.index_mut.result.now (at_index items number c.index_mut.result.now c.requires.version c.index_mut.ensures.value) in
    let status : Pending c.in-Pending.tag c.in-Pending.passed ≡ Pending tag passed = sym c.in-Pending.is ∙ ap (λ (u : VersionState). u.status) first ∙ can.1 in
    let tags : c.in-Pending.tag ≡ tag = cc in
    let passes : c.in-Pending.passed ≡ passed = cc in
    let marked : c.marks-passed.result ≡ marked_by tag passed c.args.hart found = c.marks-passed.ensures ∙ (λ i. marked_by (tags i) (passes i) c.args.hart (word i)) in
    let new : Pending c.in-Pending.tag c.marks-passed.result ≡ Pending tag (marked_by tag passed c.args.hart found) = (λ i. Pending (tags i) (marked i)) in
    let law = look_sound m x number v tag passed (marked_by tag passed c.args.hart found) c.args.hart found sound can at (marks_are tag passed c.args.hart found c.requires.hart.1) in
    (law, (is.0, is.1, is.2, is.3, (λ i. set (is.4 i) number (with_status (second i) (new i)))), subst (λ (y : ℕ × ℕ). (c.passes.result ≡ true) ↔ ((y.1 ≡ 0) ⊎ (y.0 ≤ y.1))) (λ i. (tags i, word i)) c.passes.ensures)

pub returns-in_default-clause-sound : goal.returns-in_default-clause-sound
returns-in_default-clause-sound c = λ m x v tag passed found is sound can at.
    let number = c.args.version in
    let items = c.args.state.now.versions.items in
    let first : c.index.result.now ≡ v = at_same x.book.versions number c.index.result.now v (subst (λ (l : List VersionState). At l number c.index.result.now) is.4 (at_index items number c.index.result.now c.requires.version c.index.ensures)) can.0 in
    absurd (c.in_default.not-Pending tag passed (ap (λ (u : VersionState). u.status) first ∙ can.1))

pub returns-clause-looked : goal.returns-clause-looked
returns-clause-looked c = λ v tag passed found at pending here.
    let number = c.args.version in
    let items = c.args.state.now.versions.items in
    let word : c.index-found.result.now ≡ found = at_same c.args.state.now.harts.items c.args.hart c.index-found.result.now found (at_index c.args.state.now.harts.items c.args.hart c.index-found.result.now c.requires.hart.0 c.index-found.ensures) here in
    let first : c.index.result.now ≡ v = at_same items number c.index.result.now v (at_index items number c.index.result.now c.requires.version c.index.ensures) at in
    let second : c.index_mut.result.now ≡ v = at_same items number c.index_mut.result.now v (at_index items number c.index_mut.result.now c.requires.version c.index_mut.ensures.value) at in
    let status : Pending c.in-Pending.tag c.in-Pending.passed ≡ Pending tag passed = sym c.in-Pending.is ∙ ap (λ (u : VersionState). u.status) first ∙ pending in
    let tags : c.in-Pending.tag ≡ tag = cc in
    let passes : c.in-Pending.passed ≡ passed = cc in
    let marked : c.marks-passed.result ≡ marked_by tag passed c.args.hart found = c.marks-passed.ensures ∙ (λ i. marked_by (tags i) (passes i) c.args.hart (word i)) in
    (λ i. set items number (with_status (second i) (Pending (tags i) (marked i))))

pub returns-in_default-clause-looked : goal.returns-in_default-clause-looked
returns-in_default-clause-looked c = λ v tag passed found at pending here.
    let number = c.args.version in
    let items = c.args.state.now.versions.items in
    let first : c.index.result.now ≡ v = at_same items number c.index.result.now v (at_index items number c.index.result.now c.requires.version c.index.ensures) at in
    absurd (c.in_default.not-Pending tag passed (ap (λ (u : VersionState). u.status) first ∙ pending))

pub returns-clause-passed : goal.returns-clause-passed
returns-clause-passed c = λ v tag passed found at pending here.
    let number = c.args.version in
    let items = c.args.state.now.versions.items in
    let word : c.index-found.result.now ≡ found = at_same c.args.state.now.harts.items c.args.hart c.index-found.result.now found (at_index c.args.state.now.harts.items c.args.hart c.index-found.result.now c.requires.hart.0 c.index-found.ensures) here in
    let first : c.index.result.now ≡ v = at_same items number c.index.result.now v (at_index items number c.index.result.now c.requires.version c.index.ensures) at in
    let status : Pending c.in-Pending.tag c.in-Pending.passed ≡ Pending tag passed = sym c.in-Pending.is ∙ ap (λ (u : VersionState). u.status) first ∙ pending in
    let tags : c.in-Pending.tag ≡ tag = cc in
    let passes : c.in-Pending.passed ≡ passed = cc in
    subst (λ (y : ℕ × ℕ). (c.passes.result ≡ true) ↔ ((y.1 ≡ 0) ⊎ (y.0 ≤ y.1))) (λ i. (tags i, word i)) c.passes.ensures

pub returns-in_default-clause-passed : goal.returns-in_default-clause-passed
returns-in_default-clause-passed c = λ v tag passed found at pending here.
    let number = c.args.version in
    let items = c.args.state.now.versions.items in
    let first : c.index.result.now ≡ v = at_same items number c.index.result.now v (at_index items number c.index.result.now c.requires.version c.index.ensures) at in
    absurd (c.in_default.not-Pending tag passed (ap (λ (u : VersionState). u.status) first ∙ pending))
