-- Which versions are unlinked after each step of the keeper.
use Rattle.std.proofs.Common.{◌≡◌, ◌≢◌, ◌⊎◌, ◌==◌, ℕ, Bool, true, false, true≢false, eq-eqb, ne_eqb, ◌<◌, List, [], ◌∷◌, ◌++◌, map, length, set, Option, Some, refl, sym, ap, ◌∙◌, inl, inr, ⊎_elim, arith}
use mathlib.Core.Logic.{dite}
use native.Mathlib.Decide.{ℕ_discrete}
use Rattle.ir_meaning.specs.Plays.{Meaning}
use Rattle.code_epochs.specs.declared.state.Status.{Status}
use Rattle.code_epochs.specs.declared.state.Status.TheVariants.{Linked, Unlinked, Pending, GivenUp}
use Rattle.code_epochs.specs.declared.state.VersionState.{VersionState}
use Rattle.code_epochs.specs.Sound.{At, Whole, Sound}
use Rattle.code_epochs.specs.Steps.{unlink, unlinked, with_status, linked_of}
use Rattle.code_epochs.proofs.Lists.{at_set, at_some, at_below}
use Rattle.code_epochs.proofs.Swap.{at_swapped}
use Rattle.jit_core.specs.declared.laying.Laying.{Laying}
use Rattle.jit_core.specs.declared.publishing.Publishing.{Publishing}
use Rattle.jit_core.specs.declared.publishing.Publishing.TheVariants.{Storing, Raising}
use Rattle.jit_core.specs.declared.state_machine.Core.{Core}
use Rattle.jit_core.specs.Events.{Told}
use Rattle.jit_core.specs.Laying.{draft_from}
use Rattle.jit_core.specs.Cores.{Stands}
use Rattle.jit_core.proofs.Spaces.{swapped_at}

-- every unlinked version is the one that the epoch is to be raised for
abbrev pub OnlyRaising : List VersionState → Option Publishing → Type 0
OnlyRaising versions p = (i : ℕ) (v : VersionState) → At versions i v → v.status ≡ Unlinked → p ≡ Some (Raising i)

was-unlinked : (b : Bool) (s : Status) → unlink b s ≡ Unlinked → (s ≡ Unlinked) ⊎ ((b ≡ true) × (s ≡ Linked))
was-unlinked true Linked e = inr (refl, refl)
was-unlinked true Unlinked e = inl refl
was-unlinked true (Pending tag passed) e = absurd (cc)
was-unlinked true GivenUp e = absurd (cc)
was-unlinked false s e = inl e

same-symbol : (a b : ℕ) → (a == b) ≡ true → a ≡ b
same-symbol a b e = dite (ℕ_discrete a b) (λ h. h) (λ h. absurd (true≢false (sym e ∙ ne_eqb a b h)))

storing-not : (d : Laying) (i : ℕ) → Some (Storing d) ≡ Some (Raising i) → ⊥
storing-not d i e = cc

-- the one version that is unlinked by a swap is the one that was linked
pub swapped_raising : (m : Meaning) (x : Whole) (symbol number n : ℕ) (d : Laying) (v : VersionState) → Sound m x → OnlyRaising x.book.versions (Some (Storing d)) → At x.book.versions n v → v.status ≡ Linked → v.symbol ≡ symbol
    → OnlyRaising (map (unlinked symbol) x.book.versions ++ linked_of (draft_from d) number ∷ []) (Some (Raising n))
swapped_raising m x symbol number n d v sound only at linked is i u here stays = ⊎_elim
    (λ (t : (w : VersionState) × At x.book.versions i w × (unlinked symbol w ≡ u)).
    ⊎_elim
    (λ (e : t.0.status ≡ Unlinked). absurd (storing-not d i (only i t.0 t.1 e)))
    (λ (e : ((t.0.symbol == symbol) ≡ true) × (t.0.status ≡ Linked)). ap (λ (k : ℕ). Some (Raising k)) (sound.book.one_linked n i v t.0 at t.1 linked e.1 (is ∙ sym (same-symbol t.0.symbol symbol e.0))))
    (was-unlinked (t.0.symbol == symbol) t.0.status (ap (λ (y : VersionState). y.status) t.2 ∙ stays)))
    (λ (t : (i ≡ length x.book.versions) × (linked_of (draft_from d) number ≡ u)). absurd (let e : Linked ≡ Unlinked = ap (λ (y : VersionState). y.status) t.1 ∙ stays in cc))
    (at_swapped symbol x.book.versions (linked_of (draft_from d) number) i u here)

-- it is unlinked then
pub swapped_unlinked : (versions : List VersionState) (symbol n : ℕ) (v new : VersionState) → At versions n v → v.status ≡ Linked → v.symbol ≡ symbol
    → At (map (unlinked symbol) versions ++ new ∷ []) n (unlinked symbol v) × ((unlinked symbol v).status ≡ Unlinked)
swapped_unlinked versions symbol n v new at linked is =
    (swapped_at symbol versions new n v at, ap (λ (b : Bool). unlink b v.status) (eq-eqb v.symbol symbol is) ∙ ap (λ (s : Status). unlink true s) linked)

-- a version that has another status isn't unlinked any more
pub set_raising : (versions : List VersionState) (i : ℕ) (v : VersionState) (st : Status) (p : Option Publishing) → st ≢ Unlinked → ((j : ℕ) (u : VersionState) → j ≢ i → At versions j u → u.status ≡ Unlinked → p ≡ Some (Raising j))
    → OnlyRaising (set versions i (with_status v st)) p
set_raising versions i v st p other only j u at is = ⊎_elim
    (λ (t : (j ≡ i) × (with_status v st ≡ u)). absurd (other (ap (λ (y : VersionState). y.status) t.1 ∙ is)))
    (λ (t : (j ≢ i) × At versions j u). only j u t.0 t.1 is)
    (at_set versions i j (with_status v st) u at)

raising-same : (n j : ℕ) → Some (Raising n) ≡ Some (Raising j) → n ≡ j
raising-same n j e = cc

pub raised_none : (versions : List VersionState) (n : ℕ) (p : Option Publishing) → OnlyRaising versions (Some (Raising n)) → (j : ℕ) (u : VersionState) → j ≢ n → At versions j u → u.status ≡ Unlinked → p ≡ Some (Raising j)
raised_none versions n p only j u other at is = absurd (other (sym (raising-same n j (only j u at is))))

-- each symbol has a linked version, where there is a hart
pub has_linked : (c : Core) (told : List Told) (s : Stands c told) (symbol : ℕ) → 0 < length c.seats.items → symbol < length s.whole.cells
    → ((i : ℕ) (v : VersionState) → At s.whole.book.versions i v → v.status ≡ Linked → v.symbol ≡ symbol → ⊥) → ⊥
has_linked c told s symbol least low none =
    let cell = at_some s.whole.cells symbol low in
    let seat = at_some c.seats.items 0 least in
    let st = s.seats 0 seat.0 seat.1 in
    let hart = at_below s.whole.harts 0 st.part st.at in
    ⊎_elim (λ t. none t.0 t.1 t.2 t.3 t.4) (λ t. let zero_harts = t.1 in omega arith) (s.sound.book.linked symbol cell.0 cell.1)
