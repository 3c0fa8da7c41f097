-- The words in use at a session's end are those of the rows, a header for each with them.
use Rattle.std.proofs.Common.{◌≡◌, ◌≢◌, ◌⊎◌, ℕ, zero, suc, ◌+◌, ◌<◌, List, [], ◌∷◌, length, true, false, sym, refl, ap, subst, ◌∙◌, inl, inr, ⊎_elim, arith}
use Rattle.std.specs.Prelude.{sum_by, slice_index_or}
use Rattle.std.proofs.lemmas.Bool.{cases_eq}
use Rattle.std.proofs.lemmas.List.Sums.{sum_by-cons}
use mathlib.Core.Option.{some-injective, some-ne-none}
use Rattle.code_epochs.specs.declared.parts.Book.{Book}
use Rattle.code_epochs.specs.declared.state.Status.{Status}
use Rattle.code_epochs.specs.declared.state.Status.TheVariants.{Linked, Unlinked, Pending, GivenUp}
use Rattle.code_epochs.specs.declared.state.VersionState.{VersionState}
use Rattle.code_epochs.specs.Sound.{At}
use Rattle.code_epochs.specs.Steps.{with_status}
use Rattle.code_epochs.proofs.Lists.{at_below, at_same, at_some}
use Rattle.code_epochs.specs.declared.shelf.Shelf.{Shelf}
use Rattle.code_epochs.specs.Shelf.{is_linked}
use Rattle.redirect_cells.specs.Keeping.{Collected, IsSettled, LinkedAreCurrent, NonePending, NoneUnlinked, is_pending, kept_by, held_words}
use Rattle.session_types.specs.declared.settled.SymbolRow.{SymbolRow}
use Rattle.jit_session.specs.Runs.{Each}
use Rattle.redirect_cells.specs.Keeping.{IsCurrent}
use Rattle.jit_session.specs.Sessions.{IsLinkedRow, words_of_rows}

-- the row of a symbol by the linked version of a shelf
pub record IsLinkedOn (shelf : Shelf) (k : ℕ) (row : SymbolRow) : Type 0 where
  pub version : VersionState
  pub current : IsCurrent shelf k version
  pub level : row.level ≡ version.level
  pub words : row.words ≡ version.words

-- ---- sums over numbers

-- what a function gives for the first n numbers, added up
abbrev total : (ℕ → ℕ) → ℕ → ℕ
total f zero = 0
total f (suc n) = f 0 + total (λ k. f (suc k)) n

total-none : (f : ℕ → ℕ) (n : ℕ) → ((k : ℕ) → f k ≡ 0) → total f n ≡ 0
total-none f zero none = refl
total-none f (suc n) none = let a = none 0 in let b = total-none (λ k. f (suc k)) n (λ k. none (suc k)) in omega (arith, a, b)

total-one : (f : ℕ → ℕ) (n s : ℕ) → s < n → ((k : ℕ) → k ≢ s → f k ≡ 0) → total f n ≡ f s
total-one f zero s low none = absurd (omega arith)
total-one f (suc n) zero low none = let b = total-none (λ k. f (suc k)) n (λ k. none (suc k) (λ e. omega arith)) in omega (arith, b)
total-one f (suc n) (suc s) low none =
    let a = none 0 (λ e. omega arith) in
    let b = total-one (λ k. f (suc k)) n s (omega arith) (λ k other. none (suc k) (λ e. other (omega arith))) in
    omega (arith, a, b)

total-plus : (f g : ℕ → ℕ) (n : ℕ) → total (λ k. f k + g k) n ≡ total f n + total g n
total-plus f g zero = refl
total-plus f g (suc n) = let a = total-plus (λ k. f (suc k)) (λ k. g (suc k)) n in omega (arith, a)

-- ---- what the versions of a symbol keep

abbrev chosen : {A B : Type 0} → A ⊎ B → ℕ → ℕ
chosen (inl is) n = n
chosen (inr not) n = 0

chosen-left : {A B : Type 0} (c : A ⊎ B) (n : ℕ) → (B → ⊥) → chosen c n ≡ n
chosen-left (inl is) n none = refl
chosen-left (inr not) n none = absurd (none not)

chosen-if : {A B : Type 0} (c : A ⊎ B) (n : ℕ) → (A → n ≡ 0) → chosen c n ≡ 0
chosen-if (inl is) n zeros = zeros is
chosen-if (inr not) n zeros = refl

abbrev kept : VersionState → ℕ
kept v = kept_by v.status v.words

-- what a version keeps, where it is one of this symbol
abbrev pick : VersionState → ℕ → ℕ
pick v k = chosen (cases_eq v.symbol k) (kept v)

-- what the versions of a symbol keep
abbrev share : List VersionState → ℕ → ℕ
share [] k = 0
share (v ∷ vs) k = pick v k + share vs k

-- the version keeps nothing, or its symbol is one of the first n
abbrev IsOf : ℕ → VersionState → Type 0
IsOf n v = (kept v ≡ 0) ⊎ (v.symbol < n)

one-picked : (n : ℕ) (v : VersionState) → IsOf n v → total (pick v) n ≡ kept v
one-picked n v (inl none) = total-none (pick v) n (λ k. chosen-if (cases_eq v.symbol k) (kept v) (λ is. none)) ∙ sym none
one-picked n v (inr low) =
    total-one (pick v) n v.symbol low (λ k other. chosen-if (cases_eq v.symbol k) (kept v) (λ is. absurd (other (sym is))))
    ∙ chosen-left (cases_eq v.symbol v.symbol) (kept v) (λ not. not refl)

held-shares : (n : ℕ) (vs : List VersionState) → ((i : ℕ) (v : VersionState) → At vs i v → IsOf n v) → total (share vs) n ≡ held_words vs
held-shares n [] all = total-none (share []) n (λ k. refl)
held-shares n (v ∷ vs) all =
    let a : total (share (v ∷ vs)) n ≡ total (pick v) n + total (share vs) n = total-plus (pick v) (share vs) n in
    let b : total (pick v) n ≡ kept_by v.status v.words = one-picked n v (all 0 v refl) in
    let c = held-shares n vs (λ i u at. all (suc i) u at) in
    omega (arith, a, b, c)

share-none : (k : ℕ) (vs : List VersionState) → ((i : ℕ) (v : VersionState) → At vs i v → v.symbol ≡ k → kept v ≡ 0) → share vs k ≡ 0
share-none k [] none = refl
share-none k (v ∷ vs) none =
    let a : pick v k ≡ 0 = chosen-if (cases_eq v.symbol k) (kept v) (none 0 v refl) in
    let b : share vs k ≡ 0 = share-none k vs (λ i u at. none (suc i) u at) in
    omega (arith, a, b)

share-one : (k : ℕ) (vs : List VersionState) (n : ℕ) (v : VersionState) → At vs n v → v.symbol ≡ k
    → ((i : ℕ) (u : VersionState) → At vs i u → u.symbol ≡ k → i ≢ n → kept u ≡ 0) → share vs k ≡ kept v
share-one k [] n v at is none = absurd (some-ne-none v (sym at))
share-one k (x ∷ xs) zero v at is none =
    let same : x ≡ v = some-injective x v at in
    let a : pick x k ≡ kept x = chosen-left (cases_eq x.symbol k) (kept x) (λ not. not (ap (λ (y : VersionState). y.symbol) same ∙ is)) in
    let b : share xs k ≡ 0 = share-none k xs (λ i u h s. none (suc i) u h s (λ e. omega arith)) in
    let c : kept x ≡ kept v = ap kept same in
    omega (arith, a, b, c)
share-one k (x ∷ xs) (suc n) v at is none =
    let a : pick x k ≡ 0 = chosen-if (cases_eq x.symbol k) (kept x) (λ s. none 0 x refl s (λ e. omega arith)) in
    let b : share xs k ≡ kept v = share-one k xs n v at is (λ i u h s other. none (suc i) u h s (λ e. other (omega arith))) in
    omega (arith, a, b)

rows-total : (f : ℕ → ℕ) (rows : List SymbolRow) → ((i : ℕ) (d : SymbolRow) → i < length rows → f i ≡ (slice_index_or rows i d).words + 1) → words_of_rows rows ≡ total f (length rows)
rows-total f [] all = refl
rows-total f (r ∷ rows) all =
    let a = sum_by-cons (λ (row : SymbolRow). row.words + 1) r rows in
    let b = rows-total (λ k. f (suc k)) rows (λ i d low. all (suc i) d (omega arith)) in
    let c : f 0 ≡ r.words + 1 = all 0 r (omega arith) in
    omega (arith, a, b, c)

-- ---- at the end, a version is linked or keeps nothing

rests : (s : Status) (n : ℕ) → is_pending s ≡ false → (s ≡ Unlinked → ⊥) → (is_linked s ≡ true) ⊎ (kept_by s n ≡ 0)
rests Linked n calm not = inl refl
rests Unlinked n calm not = absurd (not refl)
rests (Pending tag passed) n calm not = absurd (cc)
rests GivenUp n calm not = inr refl

linked-keeps : (s : Status) (n : ℕ) → is_linked s ≡ true → kept_by s n ≡ n + 1
linked-keeps Linked n is = refl
linked-keeps Unlinked n is = absurd (cc)
linked-keeps (Pending tag passed) n is = absurd (cc)
linked-keeps GivenUp n is = absurd (cc)

module _ (shelf : Shelf) (none_pending : NonePending shelf.versions.items) (none_unlinked : NoneUnlinked shelf.versions.items) (current_are : LinkedAreCurrent shelf.versions.items shelf.current.items) where
  stands : (i : ℕ) (v : VersionState) → At shelf.versions.items i v → (is_linked v.status ≡ true) ⊎ (kept v ≡ 0)
  stands i v at = rests v.status v.words (none_pending i v at) (none_unlinked i v at)

  is-of : (n : ℕ) → length shelf.current.items ≡ n → (i : ℕ) (v : VersionState) → At shelf.versions.items i v → IsOf n v
  is-of n long i v at = ⊎_elim (λ is. inr (let low = at_below shelf.current.items v.symbol (i + 1) (current_are i v at is) in omega (arith, low, long))) (λ none. inl none) (stands i v at)

  others-keep-none : (k n : ℕ) → At shelf.current.items k (n + 1) → (i : ℕ) (u : VersionState) → At shelf.versions.items i u → u.symbol ≡ k → i ≢ n → kept u ≡ 0
  others-keep-none k n here i u at is other = ⊎_elim
      (λ linked. absurd (let same = at_same shelf.current.items k (i + 1) (n + 1) (subst (λ (s : ℕ). At shelf.current.items s (i + 1)) is (current_are i u at linked)) here in other (omega (arith, same))))
      (λ none. none)
      (stands i u at)

  row-share : (k : ℕ) (row : SymbolRow) → IsLinkedOn shelf k row → share shelf.versions.items k ≡ row.words + 1
  row-share k row is =
      let v = is.version in
      let c = is.current in
      let a = share-one k shelf.versions.items c.0 v c.2 c.4 (others-keep-none k c.0 c.1) in
      let b : kept v ≡ v.words + 1 = linked-keeps v.status v.words c.3 in
      let w = is.words in
      omega (arith, a, b, w)

  pub held-rows : (rows : List SymbolRow) → length shelf.current.items ≡ length rows → Each (IsLinkedOn shelf) rows → held_words shelf.versions.items ≡ words_of_rows rows
  held-rows rows long linked =
      sym (held-shares (length rows) shelf.versions.items (is-of (length rows) long))
      ∙ sym (rows-total (share shelf.versions.items) rows (λ i d low. row-share i (slice_index_or rows i d) (linked i d low)))

is-linked : (s : Status) → is_linked s ≡ true → s ≡ Linked
is-linked Linked is = refl
is-linked Unlinked is = absurd (cc)
is-linked (Pending tag passed) is = absurd (cc)
is-linked GivenUp is = absurd (cc)

-- the rows by the book that has these versions
pub linked-rows : (shelf : Shelf) (book : Book) → book.versions ≡ shelf.versions.items → LinkedAreCurrent shelf.versions.items shelf.current.items → (rows : List SymbolRow) → Each (IsLinkedOn shelf) rows → Each (IsLinkedRow book) rows
linked-rows shelf book same current_are rows all i d low =
    let is = all i d low in
    let c = is.current in
    let vs : List VersionState = shelf.versions.items in
    record {
      number = c.0;
      version = is.version;
      stands = subst (λ (l : List VersionState). At l c.0 is.version) (sym same) c.2;
      linked = is-linked is.version.status c.3;
      symbol = c.4;
      only = λ j v at linked of.
          let here : At vs j v = subst (λ (l : List VersionState). At l j v) same at in
          let there : At shelf.current.items i (j + 1) = subst (λ (k : ℕ). At shelf.current.items k (j + 1)) of (current_are j v here (ap is_linked linked)) in
          let one = at_same shelf.current.items i (j + 1) (c.0 + 1) there c.1 in
          omega (arith, one);
      level = is.level;
      words = is.words;
    }

-- ---- after a collection the linked versions are the current ones still

module _ (before after : Book) (old new : Shelf) (harts given : ℕ) (c : Collected before after old new harts (length old.versions.items) given) where
  was : (i : ℕ) (v w : VersionState) → IsSettled after.looks (length before.looks) harts i v w → is_linked w.status ≡ true → w ≡ v
  was i v w (inl same) is = same.1
  was i v w (inr gone) is = absurd (⊎_elim (λ t. off (ap (λ (u : VersionState). is_linked u.status) (sym t.0) ∙ is)) (λ t. off (ap (λ (u : VersionState). is_linked u.status) (sym t.1) ∙ is)) gone.3)
    where
      off : false ≡ true → ⊥
      off e = absurd (cc)

  pub collected-current : LinkedAreCurrent old.versions.items old.current.items → LinkedAreCurrent new.versions.items new.current.items
  collected-current are i w at is =
      let low : i < length old.versions.items = let l = at_below new.versions.items i w at in let n = c.count in omega (arith, l, n) in
      let v = at_some old.versions.items i low in
      let s = c.settled i v.0 low v.1 in
      let same : w ≡ s.0 = at_same new.versions.items i w s.0 at s.1 in
      let back : w ≡ v.0 = same ∙ was i v.0 s.0 s.2 (subst (λ (u : VersionState). is_linked u.status ≡ true) same is) in
      let at_old = are i v.0 v.1 (subst (λ (u : VersionState). is_linked u.status ≡ true) back is) in
      subst (λ (l : List ℕ). At l w.symbol (i + 1)) (sym (ap (λ t. t.items) c.current)) (subst (λ (u : VersionState). At old.current.items u.symbol (i + 1)) (sym back) at_old)

  pub collected-long : length new.current.items ≡ length old.current.items
  collected-long = ap (λ t. length t.items) c.current
