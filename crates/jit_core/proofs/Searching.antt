-- What the keeper's searches have found so far.
use Rattle.std.proofs.Common.{◌≡◌, ℕ, ◌+◌, ◌<◌, ◌≤◌, List, Option, Some, None, sym, subst, ◌∙◌, inr, ⊎_elim, arith}
use Rattle.std.specs.Prelude.{MatchOption}
use mathlib.Core.Logic.{dite}
use native.Mathlib.Decide.{dec_lt, ℕ_discrete}
use Rattle.code_epochs.specs.declared.state.VersionState.{VersionState}
use Rattle.code_epochs.specs.declared.state.Status.{Status}
use Rattle.code_epochs.specs.declared.state.Status.TheVariants.{Pending}
use Rattle.code_epochs.specs.Sound.{At}
use Rattle.code_epochs.proofs.Lists.{at_same}
use Rattle.jit_core.specs.Keeping.{IsOpenPair, IsOpen, ComesBefore, IsFirstFrom, NoneFrom, NothingOpen, IsNextLook}
use Rattle.jit_core.specs.declared.publishing.Pair.{Pair}

-- what holds of all versions before this one and of it
pub all_more : (P : VersionState → Type 0) (vs : List VersionState) (n : ℕ) (v : VersionState) → At vs n v → P v → ((i : ℕ) (u : VersionState) → i < n → At vs i u → P u) → (i : ℕ) (u : VersionState) → i < n + 1 → At vs i u → P u
all_more P vs n v here holds before i u low at = dite (dec_lt i n) (λ l. before i u l at) (λ l.
    let same : n ≡ i = omega arith in
    subst P (at_same vs i v u (subst (λ (k : ℕ). At vs k v) same here) at) holds)

-- marks of a pending version are those that it has
pub pending_marks : (s : Status) (tag passed t p : ℕ) → s ≡ Pending tag passed → s ≡ Pending t p → p ≡ passed
pending_marks s tag passed t p a b = let e : Pending tag passed ≡ Pending t p = sym a ∙ b in cc

-- a version that isn't pending has no open hart
pub no_more : (harts : ℕ) (vs : List VersionState) (n from hart first : ℕ) (v : VersionState) → At vs n v → from ≤ n → (n ≡ from → first ≡ hart) → (from < n → first ≡ 0) → ((h : ℕ) → first ≤ h → ¬ IsOpenPair harts v h)
    → ((p q : ℕ) → IsOpen harts vs p q → p < n → ComesBefore p q from hart) → (p q : ℕ) → IsOpen harts vs p q → p < n + 1 → ComesBefore p q from hart
no_more harts vs n from hart first v here low at_first later none before p q is under = dite (dec_lt p n) (λ l. before p q is l) (λ l.
    let same : p ≡ n = omega arith in
    let open_here : IsOpenPair harts v q = subst (λ (u : VersionState). IsOpenPair harts u q) (at_same vs n is.0 v (subst (λ (k : ℕ). At vs k is.0) same is.1) here) is.2 in
    dite (ℕ_discrete n from)
    (λ e. dite (dec_lt q hart) (λ b. inr (same ∙ e, b)) (λ b. let f = at_first e in absurd (none q (omega arith) open_here)))
    (λ e. let f = later (omega arith) in absurd (none q (omega arith) open_here)))

-- the first open pair
pub found_first : (harts : ℕ) (vs : List VersionState) (n from hart first h : ℕ) (v : VersionState) → At vs n v → from ≤ n → (n ≡ from → first ≡ hart) → (from < n → first ≡ 0) → first ≤ h → IsOpenPair harts v h
    → ((k : ℕ) → first ≤ k → k < h → ¬ IsOpenPair harts v k) → ((p q : ℕ) → IsOpen harts vs p q → p < n → ComesBefore p q from hart) → IsFirstFrom harts vs from hart n h
found_first harts vs n from hart first h v here low at_first later start is none before = (
  (v, here, is),
  (λ b. ⊎_elim (λ (l : n < from). omega arith) (λ (t : (n ≡ from) × (h < hart)). let f = at_first t.0 in let l = t.1 in omega arith) b),
  λ p q found behind b. ⊎_elim
      (λ (l : p < n). behind (before p q found l))
      (λ (t : (p ≡ n) × (q < h)).
      let open_here : IsOpenPair harts v q = subst (λ (u : VersionState). IsOpenPair harts u q) (at_same vs n found.0 v (subst (λ (k : ℕ). At vs k found.0) t.0 found.1) here) found.2 in
      dite (dec_lt q first)
      (λ l. dite (ℕ_discrete n from) (λ e. let f = at_first e in behind (inr (t.0 ∙ e, (let x : q < hart = omega arith in x)))) (λ e. let f = later (omega arith) in absurd (omega arith)))
      (λ l. none q (omega arith) t.1 open_here))
      b,
)

-- no open pair comes before the first of all
pub none_at_all : (harts : ℕ) (vs : List VersionState) → NoneFrom harts vs 0 0 → NothingOpen harts vs
none_at_all harts vs none p q is = ⊎_elim (λ (l : p < 0). omega arith) (λ (t : (p ≡ 0) × (q < 0)). let l = t.1 in omega arith) (none p q is)

pub first_all : (harts : ℕ) (vs : List VersionState) (r : Option Pair) → MatchOption r (NoneFrom harts vs 0 0) (λ p. IsFirstFrom harts vs 0 0 p.version p.hart) → MatchOption r (NothingOpen harts vs) (λ p. IsFirstFrom harts vs 0 0 p.version p.hart)
first_all harts vs None is = none_at_all harts vs is
first_all harts vs (Some p) is = is

pub next_behind : (harts : ℕ) (vs : List VersionState) (pair : Pair) (r : Option Pair) → NoneFrom harts vs pair.version (pair.hart + 1) → MatchOption r (NothingOpen harts vs) (λ p. IsFirstFrom harts vs 0 0 p.version p.hart)
    → MatchOption r (NothingOpen harts vs) (λ p. IsNextLook harts vs (Some pair) p.version p.hart)
next_behind harts vs pair None none is = is
next_behind harts vs pair (Some p) none is = inr (none, is)
