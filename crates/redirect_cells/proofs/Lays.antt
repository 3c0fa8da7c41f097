-- The first versions, one after another.
use Rattle.std.proofs.Common.{◌≡◌, ◌≢◌, ◌⊎◌, ⊎_elim, ℕ, zero, suc, ◌+◌, ◌*◌, ◌<◌, ◌≤◌, List, [], ◌∷◌, ◌++◌, map, length, length-append, drop, set, true, false, sym, refl, ap, subst, ◌∙◌, arith}
use Rattle.std.proofs.lemmas.List.Sums.{sum_by-cons}
use mathlib.Core.Option.{some-injective, some-ne-none}
use mathlib.Core.Logic.{dite}
use native.Mathlib.Decide.{ℕ_discrete}
use Rattle.code_epochs.specs.declared.state.Status.TheVariants.{Linked, Unlinked}
use Rattle.code_epochs.specs.declared.state.VersionState.{VersionState}
use Rattle.code_epochs.specs.Sound.{At, Stays, start_of}
use Rattle.code_epochs.specs.Steps.{unlinked, linked_of}
use Rattle.code_epochs.proofs.Lists.{at_below, at_same, at_snoc, set_here, set_else}
use Rattle.code_space.specs.Space.{count_free}
use Rattle.rv_play.specs.declared.version.Version.{Version}
use Rattle.code_epochs.specs.declared.shelf.Shelf.{Shelf}
use Rattle.code_epochs.specs.Shelf.{NoneShared, IsApart}
use Rattle.redirect_cells.specs.Kept.{draft_at, AllBelow}
use Rattle.redirect_cells.specs.Keeping.{AllCurrent, NoneUnlinked, held_words}
use Rattle.redirect_cells.specs.Opened.{words_of, laid, AreLaid}
use Rattle.redirect_cells.proofs.Keeps as K

pub drop_at : (xs : List Version) (i : ℕ) (x : Version) → At xs i x → drop i xs ≡ x ∷ drop (i + 1) xs
drop_at [] i x e = absurd (some-ne-none x (sym e))
drop_at (y ∷ xs) zero x e = ap (λ (z : Version). z ∷ xs) (some-injective y x e)
drop_at (y ∷ xs) (suc i) x e = let one : suc i + 1 ≡ suc (i + 1) = omega arith in drop_at xs i x e ∙ sym (ap (λ (n : ℕ). x ∷ drop n (y ∷ xs)) one)

pub drop_whole : (xs : List Version) (i : ℕ) → length xs ≤ i → drop i xs ≡ []
drop_whole [] zero le = refl
drop_whole [] (suc i) le = refl
drop_whole (x ∷ xs) zero le = absurd (omega arith)
drop_whole (x ∷ xs) (suc i) le = drop_whole xs i (omega arith)

-- versions of other symbols stay
pub map_free : (symbol : ℕ) (vs : List VersionState) → ((i : ℕ) (v : VersionState) → At vs i v → v.symbol ≢ symbol) → map (unlinked symbol) vs ≡ vs
map_free symbol [] other = refl
map_free symbol (v ∷ vs) other = λ i. K.other_same symbol v (other 0 v refl) i ∷ map_free symbol vs (λ j u at. other (suc j) u at) i

pub snoc_append : (xs : List VersionState) (y : VersionState) (ys : List VersionState) → (xs ++ y ∷ []) ++ ys ≡ xs ++ y ∷ ys
snoc_append [] y ys = refl
snoc_append (x ∷ xs) y ys = ap (λ (l : List VersionState). x ∷ l) (snoc_append xs y ys)

pub append_nothing : (xs : List VersionState) → xs ++ [] ≡ xs
append_nothing [] = refl
append_nothing (x ∷ xs) = ap (λ (l : List VersionState). x ∷ l) (append_nothing xs)

-- a range behind all versions is apart from them
pub behind_apart : (vs : List VersionState) (place words : ℕ) → AllBelow vs place → IsApart vs place words
behind_apart vs place words below = λ i v at stays w lo hi lo' hi'. let b = below i v at stays in absurd (omega arith)

linked_apart : Linked ≡ Unlinked → ⊥
linked_apart e = absurd (cc)

pub laid_linked : (vs : List Version) (place n : ℕ) → NoneUnlinked (laid vs place n)
laid_linked [] place n i u at = absurd (some-ne-none u (sym at))
laid_linked (v ∷ vs) place n zero u at = λ e. linked_apart (ap (λ (y : VersionState). y.status) (some-injective (linked_of (draft_at v place 1) n) u at) ∙ e)
laid_linked (v ∷ vs) place n (suc i) u at = laid_linked vs (place + (length v.words + 1)) (n + 1) i u at

-- what the list is after one more version was linked
pub new_is : (vs new : List VersionState) (q : Version) (place i : ℕ) → q.symbol ≡ i → length vs ≡ i → ((k : ℕ) (v : VersionState) → At vs k v → v.symbol ≡ k)
    → new ≡ map (unlinked q.symbol) vs ++ linked_of (draft_at q place 1) (length vs) ∷ [] → new ≡ vs ++ linked_of (draft_at q place 1) i ∷ []
new_is vs new q place i symbol count symbols items =
    let other : (k : ℕ) (v : VersionState) → At vs k v → v.symbol ≢ q.symbol = λ k v at e. (let low = at_below vs k v at in let mine = symbols k v at in absurd (omega arith)) in
    items ∙ (λ j. map_free q.symbol vs other j ++ linked_of (draft_at q place 1) (count j) ∷ [])

pub laid_more : (vs new : List VersionState) (quick : List Version) (q : Version) (place i : ℕ) → At quick i q → new ≡ vs ++ linked_of (draft_at q place 1) i ∷ []
    → new ++ laid (drop (i + 1) quick) (place + (length q.words + 1)) (i + 1) ≡ vs ++ laid (drop i quick) place i
laid_more vs new quick q place i at is =
    let rest = laid (drop (i + 1) quick) (place + (length q.words + 1)) (i + 1) in
    ap (λ (l : List VersionState). l ++ rest) is ∙ snoc_append vs (linked_of (draft_at q place 1) i) rest ∙ sym (ap (λ (l : List Version). vs ++ laid l place i) (drop_at quick i q at))

pub symbols_more : (vs new : List VersionState) (q : Version) (place i : ℕ) → q.symbol ≡ i → length vs ≡ i → ((k : ℕ) (v : VersionState) → At vs k v → v.symbol ≡ k) → new ≡ vs ++ linked_of (draft_at q place 1) i ∷ []
    → (k : ℕ) (v : VersionState) → At new k v → v.symbol ≡ k
symbols_more vs new q place i symbol count symbols is k v at = ⊎_elim
    (λ (t : At vs k v). symbols k v t)
    (λ (t : (k ≡ length vs) × (linked_of (draft_at q place 1) i ≡ v)). sym (ap (λ (y : VersionState). y.symbol) t.1) ∙ symbol ∙ sym count ∙ sym t.0)
    (at_snoc vs (linked_of (draft_at q place 1) i) v k (subst (λ (l : List VersionState). At l k v) is at))

pub below_more : (vs new : List VersionState) (q : Version) (place i : ℕ) → AllBelow vs place → new ≡ vs ++ linked_of (draft_at q place 1) i ∷ [] → AllBelow new (place + (length q.words + 1))
below_more vs new q place i below is = λ k v at stays. ⊎_elim
    (λ (t : At vs k v). let b = below k v t stays in omega arith)
    (λ (t : (k ≡ length vs) × (linked_of (draft_at q place 1) i ≡ v)).
    let end : start_of (16777220 + 4 * place) + length q.words < place + (length q.words + 1) = omega arith in
    subst (λ (y : VersionState). start_of y.base + y.words < place + (length q.words + 1)) t.1 end)
    (at_snoc vs (linked_of (draft_at q place 1) i) v k (subst (λ (l : List VersionState). At l k v) is at))

pub current_more : (current : List ℕ) (symbol i n : ℕ) → symbol ≡ i → n ≡ i → i < length current → ((k : ℕ) → k < i → At current k (k + 1)) → (k : ℕ) → k < i + 1 → At (set current symbol (n + 1)) k (k + 1)
current_more current symbol i n is count low all k lt = dite (ℕ_discrete k i)
    (λ e. subst (λ (y : ℕ × ℕ × ℕ). At (set current y.0 (y.1 + 1)) y.2 (y.2 + 1)) (λ j. (sym is j, sym count j, sym e j)) (set_here current i (i + 1) low))
    (λ ne. set_else current symbol k (n + 1) (λ e. ne (e ∙ is)) ∙ all k (omega arith))

pub words_cons : (v : Version) (vs : List Version) → words_of (v ∷ vs) ≡ length v.words + 1 + words_of vs
words_cons v vs = sum_by-cons (λ (v : Version). length v.words + 1) v vs

pub laid_held : (vs : List Version) (place n : ℕ) → held_words (laid vs place n) ≡ words_of vs
laid_held [] place n = refl
laid_held (v ∷ vs) place n = let e = laid_held vs (place + (length v.words + 1)) (n + 1) in let w = words_cons v vs in omega arith

pub words_more : (quick : List Version) (q : Version) (i : ℕ) → At quick i q → words_of (drop i quick) ≡ length q.words + 1 + words_of (drop (i + 1) quick)
words_more quick q i at = ap words_of (drop_at quick i q at) ∙ words_cons q (drop (i + 1) quick)

pub count_more : (vs new : List VersionState) (x : VersionState) (i : ℕ) → length vs ≡ i → new ≡ vs ++ x ∷ [] → length new ≡ i + 1
count_more vs new x i count is = ap length is ∙ (let n = length-append vs (x ∷ []) in omega arith)

-- where the versions are laid, each symbol has a current one
pub laid_current : (shelf : Shelf) (quick : List Version) → AreLaid shelf quick → length shelf.current.items ≡ length quick → AllCurrent shelf.current.items
laid_current shelf quick all count k at =
    let low : k < length quick = (let z = at_below shelf.current.items k 0 at in omega arith) in
    let same : 0 ≡ k + 1 = at_same shelf.current.items k 0 (k + 1) at (all.1 k low) in
    absurd (omega arith)

pub laid_free : (shelf : Shelf) (quick : List Version) → AreLaid shelf quick → NoneUnlinked shelf.versions.items
laid_free shelf quick all = subst NoneUnlinked (sym all.0.1) (laid_linked quick all.0.0 0)

pub laid_words : (shelf : Shelf) (quick : List Version) → AreLaid shelf quick → held_words shelf.versions.items ≡ words_of quick
laid_words shelf quick all = ap held_words all.0.1 ∙ laid_held quick all.0.0 0

pub no_symbols : (k : ℕ) (v : VersionState) → At [] k v → v.symbol ≡ k
no_symbols k v at = absurd (some-ne-none v (sym at))

abbrev pub Below : List VersionState → ℕ → Type 0
Below vs place = AllBelow vs place

pub none_below : (place : ℕ) → AllBelow [] place
none_below place = λ i v at stays. absurd (some-ne-none v (sym at))

-- the free words and those of the versions are all words
abbrev pub IsCounted : Shelf → List Version → Type 0
IsCounted shelf quick = count_free shelf.space.ranges + words_of quick ≡ shelf.space.size

pub laid_all : (shelf : Shelf) (quick : List Version) → AreLaid shelf quick → IsCounted shelf quick → count_free shelf.space.ranges + held_words shelf.versions.items ≡ shelf.space.size
laid_all shelf quick all count = ap (λ (n : ℕ). count_free shelf.space.ranges + n) (laid_words shelf quick all) ∙ count
