-- What stays of the shelf where a version is added, or has another status.
use Rattle.std.proofs.Common.{◌≡◌, ◌≢◌, ◌⊎◌, ◌↔◌, ℕ, zero, suc, ◌+◌, ◌-◌, ◌*◌, ◌/◌, ◌<◌, ◌≤◌, List, [], ◌∷◌, ◌++◌, map, take, length, get_or, set, Bool, true, false, true≢false, eqb, ne_eqb, sym, refl, ap, subst, ◌∙◌, inl, inr, ⊎_elim, arith, replicate}
use mathlib.Core.Option.{some, some-injective, some-ne-none}
use mathlib.Core.Logic.{dite}
use native.Mathlib.Decide.{dec_le, ℕ_discrete}
use Rattle.code_epochs.specs.declared.state.Status.{Status}
use Rattle.code_epochs.specs.declared.state.Status.TheVariants.{Linked, Unlinked, Pending, GivenUp}
use Rattle.code_epochs.specs.declared.state.VersionState.{VersionState}
use Rattle.code_epochs.specs.Sound.{At, Stays, IsBase, start_of}
use Rattle.code_epochs.specs.Steps.{unlink, unlinked, with_status}
use Rattle.code_epochs.proofs.Lists.{at_set, at_same, at_below}
use Rattle.code_epochs.proofs.Swap.{at_swapped, stayed, swapped_length}
use Rattle.code_space.specs.Space.{Space, IsFree}
use Rattle.code_space.specs.declared.FreeRange.{FreeRange}
use Rattle.code_epochs.specs.Shelf.{NoneFree, AreHeld, NoneShared, AreApart, IsApart, is_linked, AreCurrent, AreNumbers, one_if_stays, count_staying}

-- the version stood at this place with the same range, and wasn't given up where it isn't now
abbrev From : List VersionState → ℕ → VersionState → Type 0
From vs j v = (u : VersionState) × At vs j u × (u.base ≡ v.base) × (u.words ≡ v.words) × (Stays v.status → Stays u.status)

held_one : (vs : List VersionState) (space : Space) (j : ℕ) (v : VersionState) → AreHeld vs space → From vs j v → Stays v.status → IsBase space.size v.base v.words × NoneFree space (start_of v.base) v.words
held_one vs space j v held f stays = subst (λ (t : ℕ × ℕ). IsBase space.size t.0 t.1 × NoneFree space (start_of t.0) t.1) (λ i. (f.2 i, f.3 i)) (held j f.0 f.1 (f.4 stays))

apart_two : (vs : List VersionState) (i j : ℕ) (v u : VersionState) → AreApart vs → From vs i v → From vs j u → Stays v.status → Stays u.status → i ≢ j → NoneShared (start_of v.base) v.words (start_of u.base) u.words
apart_two vs i j v u apart f g sv su ne = subst (λ (t : ℕ × ℕ × ℕ × ℕ). NoneShared (start_of t.0) t.1 (start_of t.2) t.3) (λ k. (f.2 k, f.3 k, g.2 k, g.3 k)) (apart i j f.0 g.0 f.1 g.1 (f.4 sv) (g.4 su) ne)

set_from : (vs : List VersionState) (i : ℕ) (u : VersionState) (s : Status) → At vs i u → (Stays s → Stays u.status) → (j : ℕ) (v : VersionState) → At (set vs i (with_status u s)) j v → From vs j v
set_from vs i u s here keep j v at = ⊎_elim
    (λ t. (u, subst (λ (k : ℕ). At vs k u) (sym t.0) here, ap (λ (y : VersionState). y.base) t.1, ap (λ (y : VersionState). y.words) t.1, λ stays. keep (subst (λ (y : VersionState). Stays y.status) (sym t.1) stays)))
    (λ t. (v, t.1, refl, refl, λ stays. stays))
    (at_set vs i j (with_status u s) v at)

pub held_set : (vs : List VersionState) (space : Space) (i : ℕ) (u : VersionState) (s : Status) → At vs i u → (Stays s → Stays u.status) → AreHeld vs space → AreHeld (set vs i (with_status u s)) space
held_set vs space i u s here keep held j v at stays = held_one vs space j v held (set_from vs i u s here keep j v at) stays

pub apart_set : (vs : List VersionState) (i : ℕ) (u : VersionState) (s : Status) → At vs i u → (Stays s → Stays u.status) → AreApart vs → AreApart (set vs i (with_status u s))
apart_set vs i u s here keep apart j k v w at at' sv sw ne = apart_two vs j k v w apart (set_from vs i u s here keep j v at) (set_from vs i u s here keep k w at') sv sw ne

pub current_set : (vs : List VersionState) (current : List ℕ) (i : ℕ) (u : VersionState) (s : Status) → At vs i u → is_linked u.status ≡ false → AreCurrent vs current → AreCurrent (set vs i (with_status u s)) current
current_set vs current i u s here unlinked' cur k n v at at' = ⊎_elim
    (λ t. absurd (true≢false (sym (cur k n u at (subst (λ (m : ℕ). At vs m u) (sym t.0) here)).0 ∙ unlinked')))
    (λ t. cur k n v at t.1)
    (at_set vs i n (with_status u s) v at')

length_set : (vs : List VersionState) (i : ℕ) (v : VersionState) → length (set vs i v) ≡ length vs
length_set [] i v = refl
length_set (x ∷ xs) zero v = refl
length_set (x ∷ xs) (suc i) v = ap suc (length_set xs i v)

pub size_set : (vs : List VersionState) (i : ℕ) (v : VersionState) (n : ℕ) → length vs ≤ n → length (set vs i v) ≤ n
size_set vs i v n h = let e = length_set vs i v in omega arith

pub numbers_set : (vs : List VersionState) (current : List ℕ) (i : ℕ) (v : VersionState) → AreNumbers vs current → AreNumbers (set vs i v) current
numbers_set vs current i v h k n at = let a = h k n at in let e = length_set vs i v in omega arith

pub count_set : (vs : List VersionState) (i : ℕ) (u : VersionState) (s : Status) → At vs i u → count_staying (set vs i (with_status u s)) + one_if_stays u.status ≡ count_staying vs + one_if_stays s
count_set [] i u s e = absurd (some-ne-none u (sym e))
count_set (x ∷ xs) zero u s e = let q = ap (λ (y : VersionState). one_if_stays y.status) (some-injective x u e) in omega arith
count_set (x ∷ xs) (suc i) u s e = let t = count_set xs i u s e in omega arith

pub one_stays : (s : Status) → Stays s → one_if_stays s ≡ 1
one_stays Linked h = refl
one_stays Unlinked h = refl
one_stays (Pending tag passed) h = refl
one_stays GivenUp h = absurd h

-- the shelf after one more version
abbrev pub linked_shelf : ℕ → List VersionState → VersionState → List VersionState
linked_shelf symbol vs new = map (unlinked symbol) vs ++ new ∷ []

link_from : (symbol : ℕ) (vs : List VersionState) (new : VersionState) (j : ℕ) (v : VersionState) → At (linked_shelf symbol vs new) j v → From vs j v ⊎ ((j ≡ length vs) × (new ≡ v))
link_from symbol vs new j v at = ⊎_elim
    (λ t. inl (t.0, t.1, ap (λ (y : VersionState). y.base) t.2, ap (λ (y : VersionState). y.words) t.2, λ stays. stayed (eqb t.0.symbol symbol) t.0.status (subst (λ (y : VersionState). Stays y.status) (sym t.2) stays)))
    (λ t. inr t)
    (at_swapped symbol vs new j v at)

pub held_link : (symbol : ℕ) (vs : List VersionState) (new : VersionState) (space : Space) → AreHeld vs space → IsBase space.size new.base new.words × NoneFree space (start_of new.base) new.words → AreHeld (linked_shelf symbol vs new) space
held_link symbol vs new space held mine j v at stays = ⊎_elim
    (λ f. held_one vs space j v held f stays)
    (λ t. subst (λ (y : VersionState). IsBase space.size y.base y.words × NoneFree space (start_of y.base) y.words) t.1 mine)
    (link_from symbol vs new j v at)

pub apart_link : (symbol : ℕ) (vs : List VersionState) (new : VersionState) → AreApart vs → IsApart vs (start_of new.base) new.words → AreApart (linked_shelf symbol vs new)
apart_link symbol vs new apart mine i j v u at at' sv su ne = ⊎_elim
    (λ f. ⊎_elim
    (λ g. apart_two vs i j v u apart f g sv su ne)
    (λ t. subst (λ (y : VersionState). NoneShared (start_of v.base) v.words (start_of y.base) y.words) t.1 (subst (λ (p : ℕ × ℕ). NoneShared (start_of p.0) p.1 (start_of new.base) new.words) (λ k. (f.2 k, f.3 k)) (mine i f.0 f.1 (f.4 sv))))
    (link_from symbol vs new j u at'))
    (λ t. ⊎_elim
    (λ g. subst (λ (y : VersionState). NoneShared (start_of y.base) y.words (start_of u.base) u.words) t.1 (λ w a b c d. (subst (λ (p : ℕ × ℕ). NoneShared (start_of p.0) p.1 (start_of new.base) new.words) (λ k. (g.2 k, g.3 k)) (mine j g.0 g.1 (g.4 su))) w c d a b))
    (λ t'. absurd (ne (t.0 ∙ sym t'.0)))
    (link_from symbol vs new j u at'))
    (link_from symbol vs new i v at)

unlink_other : (b : Bool) (s : Status) → b ≡ false → unlink b s ≡ s
unlink_other true s e = absurd (true≢false e)
unlink_other false s e = refl

at_set_number : (l : List ℕ) (i j a b : ℕ) → At (set l i a) j b → ((j ≡ i) × (a ≡ b)) ⊎ ((j ≢ i) × At l j b)
at_set_number l i j a b e = at_set l i j a b e

pub current_link : (symbol : ℕ) (vs : List VersionState) (new : VersionState) (current : List ℕ) → AreCurrent vs current → AreNumbers vs current → new.symbol ≡ symbol → is_linked new.status ≡ true → AreCurrent (linked_shelf symbol vs new) (set current symbol (length vs + 1))
current_link symbol vs new current cur numbers of linked k n v at at' = ⊎_elim
    (λ t. let is : n ≡ length vs = let q = t.1 in omega arith in ⊎_elim
    (λ f. let low = at_below vs n f.0 f.1 in absurd (omega arith))
    (λ z. subst (λ (y : VersionState). (is_linked y.status ≡ true) × (y.symbol ≡ k)) z.1 (linked, of ∙ sym t.0))
    (at_swapped symbol vs new n v at'))
    (λ t. let low = numbers k n t.1 in ⊎_elim
    (λ f. let was = cur k n f.0 t.1 f.1 in
    let other : eqb f.0.symbol symbol ≡ false = ne_eqb f.0.symbol symbol (λ e. t.0 (sym was.1 ∙ e)) in
    subst (λ (y : VersionState). (is_linked y.status ≡ true) × (y.symbol ≡ k)) f.2 (ap is_linked (unlink_other (eqb f.0.symbol symbol) f.0.status other) ∙ was.0, was.1))
    (λ z. let q = z.0 in absurd (omega arith))
    (at_swapped symbol vs new n v at'))
    (at_set_number current symbol k (length vs + 1) (n + 1) at)

pub numbers_link : (symbol : ℕ) (vs : List VersionState) (new : VersionState) (current : List ℕ) → AreNumbers vs current → AreNumbers (linked_shelf symbol vs new) (set current symbol (length vs + 1))
numbers_link symbol vs new current numbers k n at = let size = swapped_length symbol vs new in ⊎_elim (λ t. let q = t.1 in omega arith) (λ t. let q = numbers k n t.1 in omega arith) (at_set_number current symbol k (length vs + 1) (n + 1) at)

one_unlink : (b : Bool) (s : Status) → one_if_stays (unlink b s) ≡ one_if_stays s
one_unlink true Linked = refl
one_unlink true Unlinked = refl
one_unlink true (Pending tag passed) = refl
one_unlink true GivenUp = refl
one_unlink false s = refl

pub count_link : (symbol : ℕ) (vs : List VersionState) (new : VersionState) → one_if_stays new.status ≡ 1 → count_staying (linked_shelf symbol vs new) ≡ count_staying vs + 1
count_link symbol [] new e = omega arith
count_link symbol (x ∷ xs) new e = let t = count_link symbol xs new e in let u = one_unlink (eqb x.symbol symbol) x.status in omega arith

-- after a give, the ranges of the other versions still are not free
pub held_give : (vs : List VersionState) (old new : Space) (i : ℕ) (u : VersionState) → At vs i u → Stays u.status → AreHeld vs old → AreApart vs → new.size ≡ old.size
    → ((w : ℕ) → IsFree new.ranges w → IsFree old.ranges w ⊎ ((start_of u.base ≤ w) × (w < start_of u.base + (u.words + 1)))) → AreHeld (set vs i (with_status u GivenUp)) new
held_give vs old new i u here stay held apart size free j v at stays = ⊎_elim
    (λ t. absurd (subst (λ (y : VersionState). Stays y.status) (sym t.1) stays))
    (λ t. let h = held j v t.1 stays in (
      subst (λ (n : ℕ). IsBase n v.base v.words) (sym size) h.0,
      λ w lo hi f. ⊎_elim (λ g. h.1 w lo hi g) (λ g. apart i j u v here t.1 stay stays (λ e. t.0 (sym e)) w g.0 (let q = g.1 in omega arith) lo hi) (free w f),
    ))
    (at_set vs i j (with_status u GivenUp) v at)

pub take_front : (l m : List VersionState) (n : ℕ) → n ≡ length l → take n (l ++ m) ≡ l
take_front l m n is = ap (λ (k : ℕ). take k (l ++ m)) is ∙ go l m
  where
    go : (l m : List VersionState) → take (length l) (l ++ m) ≡ l
    go [] m = refl
    go (x ∷ xs) m = ap (λ (l : List VersionState). x ∷ l) (go xs m)

at_zeros : (n k m : ℕ) → At (replicate n 0) k m → m ≡ 0
at_zeros zero k m e = absurd (some-ne-none m (sym e))
at_zeros (suc n) zero m e = sym (some-injective 0 m e)
at_zeros (suc n) (suc k) m e = at_zeros n k m e

pub no_number : (n k m : ℕ) → At (replicate n 0) k (m + 1) → ⊥
no_number n k m e = let q = at_zeros n k (m + 1) e in absurd (omega arith)

pub at_none : {A : Type 0} (i : ℕ) (a : A) → At [] i a → ⊥
at_none i a e = some-ne-none a (sym e)

pub held_same : (vs : List VersionState) (old new : Space) → new.size ≡ old.size → new.ranges ≡ old.ranges → AreHeld vs old → AreHeld vs new
held_same vs old new size ranges held i v at stays = let h = held i v at stays in
    (subst (λ (n : ℕ). IsBase n v.base v.words) (sym size) h.0, λ w lo hi f. h.1 w lo hi (subst (λ (l : List FreeRange). IsFree l w) ranges f))

-- where a range is as free as it can be, and those of the versions are not, they share no word
pub apart_taken : (vs : List VersionState) (space : Space) (place words : ℕ) → AreHeld vs space → ((w : ℕ) → place ≤ w → w ≤ place + words → IsFree space.ranges w) → IsApart vs place words
apart_taken vs space place words held free i v at stays w a b c d = (held i v at stays).1 w a b (free w c d)

-- what is free is still not in the range of a version
pub held_less : (vs : List VersionState) (old new : Space) → new.size ≡ old.size → ((w : ℕ) → IsFree new.ranges w → IsFree old.ranges w) → AreHeld vs old → AreHeld vs new
held_less vs old new size free held i v at stays = let h = held i v at stays in
    (subst (λ (n : ℕ). IsBase n v.base v.words) (sym size) h.0, λ w lo hi f. h.1 w lo hi (free w f))

one_most : (s : Status) → one_if_stays s ≤ 1
one_most Linked = omega arith
one_most Unlinked = omega arith
one_most (Pending tag passed) = omega arith
one_most GivenUp = omega arith

pub count_most : (vs : List VersionState) → count_staying vs ≤ length vs
count_most [] = omega arith
count_most (v ∷ vs) = let t = count_most vs in let u = one_most v.status in omega arith
