-- A publication at a higher level leaves few versions.
use Rattle.std.proofs.Common.{◌≡◌, ℕ, zero, suc, ◌+◌, ◌-◌, ◌*◌, ◌<◌, ◌≤◌, List, [], ◌∷◌, length, set, Bool, true, false, sym, refl, ap, subst, ◌∙◌, ⊎_elim, arith}
use Rattle.std.proofs.lemmas.Bool.{cases_lt}
use mathlib.Core.Option.{none, some-injective, some-ne-none}
use mathlib.Core.Logic.{dite}
use native.Mathlib.Decide.{ℕ_discrete}
use lib.ListN.{get_elem?}
use Rattle.code_epochs.specs.declared.state.VersionState.{VersionState}
use Rattle.code_epochs.specs.declared.parts.Book.{Book}
use Rattle.code_epochs.specs.declared.parts.Look.{Look}
use Rattle.code_epochs.specs.Sound.{At}
use Rattle.code_epochs.proofs.Lists.{at_some}
use Rattle.rv_play.specs.declared.version.Version.{Version}
use Rattle.code_epochs.specs.declared.shelf.Shelf.{Shelf}
use Rattle.code_epochs.specs.Shelf.{is_linked, AreNumbers}
use Rattle.redirect_cells.specs.Keeping.{AllCurrent, Collected, IsCurrent, IsSettled, Published}
use Rattle.redirect_cells.specs.Opened.{AreLaid, laid}
use Rattle.jit_session.specs.Few.{level_in, level_of, rises_left, HasFew}

left_same : (old new : List VersionState) (cs : List ℕ) → ((k n : ℕ) → At cs k n → level_of new n ≡ level_of old n) → rises_left new cs ≡ rises_left old cs
left_same old new [] same = refl
left_same old new (n ∷ ns) same =
    let here = same 0 n refl in
    let rest = left_same old new ns (λ k m at. same (suc k) m at) in
    omega (arith, here, rest)

-- what is left once one number is another
left_set : (old new : List VersionState) (cs : List ℕ) (k c m : ℕ) → ((j n : ℕ) → At cs j n → level_of new n ≡ level_of old n) → At cs k c
    → rises_left new (set cs k m) + (3 - level_of old c) ≡ rises_left old cs + (3 - level_of new m)
left_set old new [] k c m same at = absurd (some-ne-none c (sym at))
left_set old new (x ∷ xs) zero c m same at =
    let is = ap (level_of old) (some-injective x c at) in
    let rest = left_same old new xs (λ j n a. same (suc j) n a) in
    omega (arith, is, rest)
left_set old new (x ∷ xs) (suc k) c m same at =
    let here = same 0 x refl in
    let rest = left_set old new xs k c m (λ j n a. same (suc j) n a) at in
    omega (arith, here, rest)

none_past : {A : Type 0} (l : List A) (i : ℕ) → length l ≤ i → get_elem? l i ≡ none
none_past [] i past = refl
none_past (x ∷ xs) zero past = absurd (omega arith)
none_past (x ∷ xs) (suc i) past = none_past xs i (omega arith)

-- the level of a version that was settled is the same
settled_level : (looks : List Look) (start harts number : ℕ) (v w : VersionState) → IsSettled looks start harts number v w → w.level ≡ v.level
settled_level looks start harts number v w is = ⊎_elim (λ t. ap (λ (y : VersionState). y.level) t.1)
    (λ t. ⊎_elim (λ s. ap (λ (y : VersionState). y.level) s.0) (λ s. ap (λ (y : VersionState). y.level) s.1) t.3) is

module _ (before after : Book) (old new : Shelf) (harts given : ℕ) (c : Collected before after old new harts (length old.versions.items) given) where
  collected_level : (i : ℕ) → level_in (get_elem? new.versions.items i) ≡ level_in (get_elem? old.versions.items i)
  collected_level i = ⊎_elim
      (λ low. let v = at_some old.versions.items i low in
      let w = c.settled i v.0 low v.1 in
      ap level_in w.1 ∙ settled_level after.looks (length before.looks) harts i v.0 w.0 w.2 ∙ sym (ap level_in v.1))
      (λ past. let count = c.count in ap level_in (none_past new.versions.items i (omega arith)) ∙ sym (ap level_in (none_past old.versions.items i past)))
      (cases_lt i (length old.versions.items))

  pub few_collected : HasFew old → HasFew new
  few_collected few =
      let count = c.count in
      let current = ap (λ v. rises_left new.versions.items v.items) c.current in
      let left = left_same old.versions.items new.versions.items old.current.items (λ k n at. collected_level (n - 1)) in
      omega (arith, few, count, current, left)

module _ (old new : Shelf) (version : Version) (n : ℕ) (p : Published old new version n) where
  -- the level of an earlier version is the same
  published_level : (i : ℕ) (v : VersionState) → At old.versions.items i v → (w : VersionState) × At new.versions.items i w × (w.level ≡ v.level)
  published_level i v at = by_status (is_linked v.status) refl
    where
      by_status : (b : Bool) → is_linked v.status ≡ b → (w : VersionState) × At new.versions.items i w × (w.level ≡ v.level)
      by_status false is = (v, p.earlier i v at is, refl)
      by_status true is = dite (ℕ_discrete v.symbol version.symbol) (λ same. let w = p.replaced i v at same is in (_, w.1, refl)) (λ other. (v, p.others i v at other, refl))

  level_kept : AreNumbers old.versions.items old.current.items → AllCurrent old.current.items → (k c : ℕ) → At old.current.items k c → level_of new.versions.items c ≡ level_of old.versions.items c
  level_kept numbers all k zero at = absurd (all k at)
  level_kept numbers all k (suc c) at =
      let low : c < length old.versions.items = numbers k c (subst (λ (m : ℕ). At old.current.items k m) (omega arith) at) in
      let v = at_some old.versions.items c low in
      let w = published_level c v.0 v.1 in
      let back : suc c - 1 ≡ c = omega arith in
      ap (λ (m : ℕ). level_in (get_elem? new.versions.items m)) back ∙ ap level_in w.1 ∙ w.2 ∙ sym (ap level_in v.1) ∙ sym (ap (λ (m : ℕ). level_in (get_elem? old.versions.items m)) back)

  pub few_published : AreNumbers old.versions.items old.current.items → AllCurrent old.current.items → (v : VersionState) → IsCurrent old version.symbol v → v.level < version.level → version.level ≤ 3 → HasFew old → HasFew new
  few_published numbers all v is higher low few =
      let back : is.0 + 1 - 1 ≡ is.0 = omega arith in
      let next : n + 1 - 1 ≡ n = omega arith in
      let was : level_of old.versions.items (is.0 + 1) ≡ v.level = ap (λ (m : ℕ). level_in (get_elem? old.versions.items m)) back ∙ ap level_in is.2 in
      let now : level_of new.versions.items (n + 1) ≡ version.level = ap (λ (m : ℕ). level_in (get_elem? new.versions.items m)) next ∙ ap level_in p.linked.1 in
      let left = left_set old.versions.items new.versions.items old.current.items version.symbol (is.0 + 1) (n + 1) (level_kept numbers all) is.1 in
      let current = ap (rises_left new.versions.items) p.current in
      let count = p.count in
      omega (arith, was, now, left, current, count, few, higher, low)

left_most : (versions : List VersionState) (cs : List ℕ) → rises_left versions cs ≤ 3 * length cs
left_most versions [] = omega arith
left_most versions (c ∷ cs) = let rest = left_most versions cs in omega (arith, rest)

laid_long : (vs : List Version) (place n : ℕ) → length (laid vs place n) ≡ length vs
laid_long [] place n = refl
laid_long (v ∷ vs) place n = let rest = laid_long vs (place + (length v.words + 1)) (n + 1) in omega (arith, rest)

-- first versions are few
pub few_first : (shelf : Shelf) (quick : List Version) (functions : ℕ) → AreLaid shelf quick → length quick ≡ functions → length shelf.current.items ≡ functions → functions ≤ 1024 → HasFew shelf
few_first shelf quick functions are count current few =
    let long = ap length are.0.1 ∙ laid_long quick are.0.0 0 in
    let left = left_most shelf.versions.items shelf.current.items in
    omega (arith, long, left, count, current, few)
