-- The first versions, one after another.
use Rattle.std.proofs.Common.{◌≡◌, ◌≢◌, ℕ, zero, suc, Bool, true, false, eqb, ne_eqb, ◌+◌, ◌*◌, ◌<◌, ◌≤◌, List, [], ◌∷◌, ◌++◌, map, length, sym, refl, ap, subst, ◌∙◌, arith}
use Rattle.std.proofs.lemmas.List.Sums.{sum_by-cons, sum_by-append, sum_by_push}
use mathlib.Core.Option.{some-injective, some-ne-none}
use Rattle.ir_meaning.specs.Plays.{Meaning}
use Rattle.rv_play.specs.declared.version.Version.{Version}
use Rattle.rv_play.specs.Good.{Good}
use Rattle.code_epochs.specs.declared.state.CodeState.{CodeState}
use Rattle.code_epochs.specs.declared.state.VersionState.{VersionState}
use Rattle.code_epochs.specs.declared.state.Status.{Status}
use Rattle.code_epochs.specs.declared.state.Status.TheVariants.{Linked}
use Rattle.code_epochs.specs.Sound.{At, Whole, Sound, IsStateOf, start_of}
use Rattle.code_epochs.specs.Steps.{unlink, unlinked, with_status, linked_of}
use Rattle.code_epochs.proofs.Lists.{at_below, at_longer}
use Rattle.code_epochs.specs.Shelf.{count_staying}
use Rattle.jit_core.specs.declared.laying.Laying.{Laying}
use Rattle.jit_core.specs.Laying.{LaysAs, IsFrame}
use Rattle.jit_core.specs.Seated.{IsSameSize}
use Rattle.jit_core.specs.First.{AllBelow, words_of, AreQuick, draft_at, laid, Publishes, Opens}
use Rattle.jit_core.proofs.Beginning.{may_begin}

-- more of the version is stored, whatever is known beside the state
abbrev pub Lays : CodeState → CodeState → Laying → Laying → Type 0
Lays old new before after =
    (m : Meaning) (x : Whole) → Sound m x → IsStateOf old x → LaysAs m x before
    → (y : Whole) × Sound m y × IsStateOf new y × LaysAs m y after × IsFrame x y × (y.book.versions ≡ x.book.versions)

abbrev pub same_frame : (x : Whole) → IsFrame x x
same_frame x = record { harts = refl; announced = refl; code = refl; gone = refl; looks = refl }

pub frame_more : (x y z : Whole) → IsFrame x y → IsFrame y z → IsFrame x z
frame_more x y z f g = record { harts = g.harts ∙ f.harts; announced = g.announced ∙ f.announced; code = g.code ∙ f.code; gone = g.gone ∙ f.gone; looks = g.looks ∙ f.looks }

pub size_more : (a b c : CodeState) → IsSameSize a b → IsSameSize b c → IsSameSize a c
size_more a b c s t = (t.0 ∙ s.0, t.1 ∙ s.1, t.2 ∙ s.2)

unlink-off : (b : Bool) (s : Status) → b ≡ false → unlink b s ≡ s
unlink-off true s e = absurd (cc)
unlink-off false s e = refl

-- versions of other symbols stay
off-unlinked : (symbol : ℕ) (v : VersionState) → v.symbol ≢ symbol → unlinked symbol v ≡ v
off-unlinked symbol v ne = λ i. with_status v (unlink-off (eqb v.symbol symbol) v.status (ne_eqb v.symbol symbol ne) i)

map-free : (symbol : ℕ) (vs : List VersionState) → ((i : ℕ) (v : VersionState) → At vs i v → v.symbol ≢ symbol) → map (unlinked symbol) vs ≡ vs
map-free symbol [] other = refl
map-free symbol (v ∷ vs) other = λ i. off-unlinked symbol v (other 0 v refl) i ∷ map-free symbol vs (λ j u at. other (suc j) u at) i

pub words_cons : (v : Version) (vs : List Version) → words_of (v ∷ vs) ≡ length v.words + 1 + words_of vs
words_cons v vs = sum_by-cons (λ (v : Version). length v.words + 1) v vs

pub words_push : (vs : List Version) (v : Version) → words_of (vs ++ v ∷ []) ≡ words_of vs + (length v.words + 1)
words_push vs v = sum_by_push (λ (v : Version). length v.words + 1) vs v

pub words_split : (vs : List Version) (v : Version) (rest : List Version) → words_of (vs ++ v ∷ rest) ≡ words_of vs + (length v.words + 1 + words_of rest)
words_split vs v rest = sum_by-append (λ (v : Version). length v.words + 1) vs (v ∷ rest) ∙ ap (λ (n : ℕ). words_of vs + n) (words_cons v rest)

pub laid_length : (vs : List Version) (place n : ℕ) → length (laid vs place n) ≡ length vs
laid_length [] place n = refl
laid_length (v ∷ vs) place n = ap suc (laid_length vs (place + (length v.words + 1)) (n + 1))

laid-snoc : (vs : List Version) (v : Version) (place n p k : ℕ) → p ≡ place + words_of vs → k ≡ n + length vs → laid (vs ++ v ∷ []) place n ≡ laid vs place n ++ linked_of (draft_at v p) k ∷ []
laid-snoc [] v place n p k e f = let a : place ≡ p = omega arith in let b : n ≡ k = omega arith in λ i. linked_of (draft_at v (a i)) (b i) ∷ []
laid-snoc (u ∷ vs) v place n p k e f =
    let w = words_cons u vs in
    ap (λ (l : List VersionState). linked_of (draft_at u place) n ∷ l) (laid-snoc vs v (place + (length u.words + 1)) (n + 1) p k (omega arith) (omega arith))

-- a version that is laid is that of the list at its place, and linked
pub laid_at : (vs : List Version) (place n i : ℕ) (u : VersionState) → At (laid vs place n) i u → (w : Version) × At vs i w × (u.symbol ≡ w.symbol)
laid_at [] place n i u at = absurd (some-ne-none u (sym at))
laid_at (v ∷ vs) place n zero u at = (v, refl, sym (ap (λ (y : VersionState). y.symbol) (some-injective (linked_of (draft_at v place) n) u at)))
laid_at (v ∷ vs) place n (suc i) u at = laid_at vs (place + (length v.words + 1)) (n + 1) i u at

pub laid_linked : (vs : List Version) (place n k : ℕ) (w : Version) → At vs k w → (u : VersionState) × At (laid vs place n) k u × (u.status ≡ Linked) × (u.symbol ≡ w.symbol)
laid_linked [] place n k w at = absurd (some-ne-none w (sym at))
laid_linked (v ∷ vs) place n zero w at = (linked_of (draft_at v place) n, refl, refl, ap (λ (y : Version). y.symbol) (some-injective v w at))
laid_linked (v ∷ vs) place n (suc k) w at = laid_linked vs (place + (length v.words + 1)) (n + 1) k w at

-- what is laid ends below the place behind it
pub laid_low : (vs : List Version) (place n end i : ℕ) (u : VersionState) → end ≡ place + words_of vs → At (laid vs place n) i u → start_of u.base + u.words < end
laid_low [] place n end i u e at = absurd (some-ne-none u (sym at))
laid_low (v ∷ vs) place n end zero u e at =
    let w = words_cons v vs in
    let low : start_of (16777220 + 4 * place) + length v.words < end = omega arith in
    subst (λ (y : VersionState). start_of y.base + y.words < end) (some-injective (linked_of (draft_at v place) n) u at) low
laid_low (v ∷ vs) place n end (suc i) u e at = let w = words_cons v vs in laid_low vs (place + (length v.words + 1)) (n + 1) end i u (omega arith) at

pub laid_all_linked : (vs : List Version) (place n i : ℕ) (u : VersionState) → At (laid vs place n) i u → u.status ≡ Linked
laid_all_linked [] place n i u at = absurd (some-ne-none u (sym at))
laid_all_linked (v ∷ vs) place n zero u at = sym (ap (λ (y : VersionState). y.status) (some-injective (linked_of (draft_at v place) n) u at))
laid_all_linked (v ∷ vs) place n (suc i) u at = laid_all_linked vs (place + (length v.words + 1)) (n + 1) i u at

pub laid_count : (vs : List Version) (place n : ℕ) → count_staying (laid vs place n) ≡ length vs
laid_count [] place n = refl
laid_count (v ∷ vs) place n = let t = laid_count vs (place + (length v.words + 1)) (n + 1) in omega arith

pub laid_below : (vs : List Version) → AllBelow (laid vs 0 0) (words_of vs)
laid_below vs = λ i u at stays. laid_low vs 0 0 (words_of vs) i u (omega arith) at

pub at_middle : {A : Type 0} (xs : List A) (x : A) (rest : List A) → At (xs ++ x ∷ rest) (length xs) x
at_middle [] x rest = refl
at_middle (y ∷ xs) x rest = at_middle xs x rest

-- one more version
laid-more : (m : Meaning) (all first rest : List Version) (v : Version) → first ++ v ∷ rest ≡ all → AreQuick m all
    → map (unlinked v.symbol) (laid first 0 0) ++ linked_of (draft_at v (words_of first)) (length (laid first 0 0)) ∷ [] ≡ laid (first ++ v ∷ []) 0 0
laid-more m all first rest v order quick =
    let here : At all (length first) v = subst (λ (l : List Version). At l (length first) v) order (at_middle first v rest) in
    let symbol = (quick.1 (length first) v here).0 in
    let other : (i : ℕ) (u : VersionState) → At (laid first 0 0) i u → u.symbol ≢ v.symbol = λ i u at e. (
    let w = laid_at first 0 0 i u at in
    let low = at_below first i w.0 w.1 in
    let there : At all i w.0 = subst (λ (l : List Version). At l i w.0) order (at_longer first (v ∷ rest) i w.0 w.1) in
    let mine = (quick.1 i w.0 there).0 in
    let same = w.2 in absurd (omega arith)) in
    (λ j. map-free v.symbol (laid first 0 0) other j ++ linked_of (draft_at v (words_of first)) (laid_length first 0 0 j) ∷ [])
    ∙ sym (laid-snoc first v 0 0 (words_of first) (length first) (omega arith) (omega arith))

pub opens_none : (s : CodeState) (all : List Version) → Opens s s all []
opens_none s all m x sound state draft none quick = (x, sound, state, draft, same_frame x, none)

pub opens_more : (old s t : CodeState) (all first rest : List Version) (v : Version) → first ++ v ∷ rest ≡ all → words_of all ≤ length old.code.items → length all ≤ 1024
    → Opens old s all first → Publishes s t v (words_of first) → Opens old t all (first ++ v ∷ [])
opens_more old s t all first rest v order room few opens publishes m x sound state draft none quick =
    let y = opens m x sound state draft none quick in
    let here : At all (length first) v = subst (λ (l : List Version). At l (length first) v) order (at_middle first v rest) in
    let q = quick.1 (length first) v here in
    let low = at_below all (length first) v here in
    let count = quick.0 in
    let symbol = q.0 in
    let versions = y.5 in
    let many = ap length versions ∙ laid_length first 0 0 in
    let split = ap words_of (sym order) ∙ words_split first v rest in
    let code : length y.0.code ≡ length old.code.items = y.4.code ∙ sym (ap length state.3) in
    let good : Good m v.symbol v.words = subst (λ (k : ℕ). Good m k v.words) (sym symbol) q.1 in
    let begins = may_begin m y.0 v.symbol (16777220 + 4 * words_of first) (words_of first) v.words y.1 y.3 (omega arith) good (omega arith) refl (omega arith)
    (subst (λ (l : List VersionState). AllBelow l (words_of first)) (sym versions) (laid_below first)) in
    let z = publishes m y.0 y.1 y.2 begins in (
      z.0,
      z.1,
      z.2,
      z.3,
      frame_more x y.0 z.0 y.4 z.4,
      z.5 ∙ ap (λ (l : List VersionState). map (unlinked v.symbol) l ++ linked_of (draft_at v (words_of first)) (length l) ∷ []) versions ∙ laid-more m all first rest v order quick,
    )

pub at_front : {A : Type 0} (xs : List A) (x : A) (rest all : List A) → xs ++ x ∷ rest ≡ all → At all (length xs) x
at_front xs x rest all order = subst (λ (l : List _). At l (length xs) x) order (at_middle xs x rest)

pub nothing_left : {X : Type 0} (l : List X) → length l ≡ 0 → l ≡ []
nothing_left [] h = refl
nothing_left (x ∷ xs) h = absurd (omega arith)

pub words_long : (vs : List Version) → length vs ≤ words_of vs
words_long [] = omega arith
words_long (v ∷ vs) = let w = words_cons v vs in let t = words_long vs in omega arith
