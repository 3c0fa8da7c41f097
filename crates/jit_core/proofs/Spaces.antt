-- Which words are free after each step.
use Rattle.std.proofs.Common.{◌≡◌, ◌≢◌, ◌⊎◌, ◌↔◌, ◌==◌, ℕ, zero, suc, Bool, true, false, ◌+◌, ◌*◌, ◌<◌, ◌≤◌, List, [], ◌∷◌, ◌++◌, map, length, set, Option, Some, None, refl, sym, ap, subst, ◌∙◌, inl, inr, ⊎_elim, arith}
use mathlib.Core.Option.{some, some-injective, some-ne-none}
use mathlib.Core.Logic.{dite}
use native.Mathlib.Decide.{dec_le, dec_lt, ℕ_discrete}
use Rattle.rv_play.specs.declared.version.Version.{Version}
use Rattle.code_epochs.specs.declared.state.Status.{Status}
use Rattle.code_epochs.specs.declared.state.Status.TheVariants.{Linked, Unlinked, Pending, GivenUp}
use Rattle.code_epochs.specs.declared.state.VersionState.{VersionState}
use Rattle.code_epochs.specs.Sound.{At, Stays, Apart, start_of}
use Rattle.code_epochs.specs.Steps.{unlink, unlinked, with_status, linked_of}
use Rattle.code_epochs.proofs.Lists.{at_set, at_same, at_below, set_here, set_else}
use Rattle.code_epochs.proofs.Swap.{at_swapped, stayed}
use Rattle.std.specs.Prelude.{MatchOption, IfSome}
use Rattle.code_space.specs.Space.{Space, IsFree, HasRoom, IsFirstRoom}
use Rattle.jit_core.specs.declared.laying.Laying.{Laying}
use Rattle.jit_core.specs.declared.publishing.Publishing.{Publishing}
use Rattle.jit_core.specs.declared.publishing.Publishing.TheVariants.{Storing, Raising}
use Rattle.jit_core.specs.Laying.{draft_from}
use Rattle.jit_core.specs.Spaces.{InRange, IsOutside, IsOutsideOf, SpaceIs}
use Rattle.jit_core.specs.First.{words_of, laid, draft_at, IsBehind}
use Rattle.jit_core.proofs.Opening.{laid_low, words_cons}

-- the same versions, as many words and nothing else being stored
pub space_same : (old new : List VersionState) (n k : ℕ) (p : Option Publishing) (s : Space) → new ≡ old → k ≡ n → SpaceIs old n p s → SpaceIs new k p s
space_same old new n k p s versions code is = subst (λ (l : List VersionState). SpaceIs l k p s) (sym versions) (subst (λ (m : ℕ). SpaceIs old m p s) (sym code) is)

out_of : (u v : VersionState) (w : ℕ) → u ≡ v → (Stays u.status → ¬ InRange (start_of u.base) u.words w) → Stays v.status → ¬ InRange (start_of v.base) v.words w
out_of u v w same out stays = subst (λ (y : VersionState). Stays y.status → ¬ InRange (start_of y.base) y.words w) same out stays

pub swapped_at : (k : ℕ) (vs : List VersionState) (new : VersionState) (i : ℕ) (u : VersionState) → At vs i u → At (map (unlinked k) vs ++ new ∷ []) i (unlinked k u)
swapped_at k [] new i u e = absurd (some-ne-none u (sym e))
swapped_at k (x ∷ xs) new zero u e = ap (λ (y : VersionState). some (unlinked k y)) (some-injective x u e)
swapped_at k (x ∷ xs) new (suc i) u e = swapped_at k xs new i u e

swapped_last : (k : ℕ) (vs : List VersionState) (new : VersionState) → At (map (unlinked k) vs ++ new ∷ []) (length vs) new
swapped_last k [] new = refl
swapped_last k (x ∷ xs) new = swapped_last k xs new

still-stays : (b : Bool) (s : Status) → Stays s → Stays (unlink b s)
still-stays true Linked h = tt
still-stays true Unlinked h = tt
still-stays true (Pending tag passed) h = tt
still-stays true GivenUp h = h
still-stays false s h = h

outside_linked : (vs : List VersionState) (symbol number w : ℕ) (d : Laying) → IsOutside vs w → ¬ InRange (start_of d.base) (length d.version.words) w → IsOutside (map (unlinked symbol) vs ++ linked_of (draft_from d) number ∷ []) w
outside_linked vs symbol number w d out mine i v at stays = ⊎_elim
    (λ (t : (u : VersionState) × At vs i u × (unlinked symbol u ≡ v)). out_of (unlinked symbol t.0) v w t.2 (λ st. out i t.0 t.1 (stayed (t.0.symbol == symbol) t.0.status st)) stays)
    (λ (t : (i ≡ length vs) × (linked_of (draft_from d) number ≡ v)). out_of (linked_of (draft_from d) number) v w t.1 (λ st. mine) stays)
    (at_swapped symbol vs (linked_of (draft_from d) number) i v at)

-- the version that was stored is linked
pub space_linked : (vs : List VersionState) (n symbol number k : ℕ) (d : Laying) (s : Space) → SpaceIs vs n (Some (Storing d)) s → SpaceIs (map (unlinked symbol) vs ++ linked_of (draft_from d) number ∷ []) n (Some (Raising k)) s
space_linked vs n symbol number k d s is = record {
  size = is.size;
  free = λ w f. let t = is.free w f in (t.0, outside_linked vs symbol number w d t.1 t.2, tt);
  all = λ w low out none. is.all w low (λ i u at stays. out i (unlinked symbol u) (swapped_at symbol vs (linked_of (draft_from d) number) i u at) (still-stays (u.symbol == symbol) u.status stays))
      (out (length vs) (linked_of (draft_from d) number) (swapped_last symbol vs (linked_of (draft_from d) number)) tt);
}

-- an element that was set is another one, or that
set-other : (vs : List VersionState) (i j : ℕ) (v u x : VersionState) → At vs j u → j ≢ i → At (set vs i x) j u
set-other vs i j v u x at other = set_else vs i j x other ∙ at

outside_set : (vs : List VersionState) (i w : ℕ) (v : VersionState) (st : Status) → At vs i v → Stays v.status → IsOutside vs w → IsOutside (set vs i (with_status v st)) w
outside_set vs i w v st here stay out j u at stays = ⊎_elim
    (λ (t : (j ≡ i) × (with_status v st ≡ u)). out_of (with_status v st) u w t.1 (λ h. out i v here stay) stays)
    (λ (t : (j ≢ i) × At vs j u). out j u t.1 stays)
    (at_set vs i j (with_status v st) u at)

outside_back : (vs : List VersionState) (i w : ℕ) (v : VersionState) (st : Status) → At vs i v → (Stays v.status → ¬ InRange (start_of v.base) v.words w) → IsOutside (set vs i (with_status v st)) w → IsOutside vs w
outside_back vs i w v st here mine out j u at stays = dite (ℕ_discrete j i)
    (λ same. out_of v u w (at_same vs i v u here (subst (λ (k : ℕ). At vs k u) same at)) mine stays)
    (λ other. out j u (set-other vs i j v u (with_status v st) at other) stays)

-- a version has another status, and isn't given up
pub space_set : (vs : List VersionState) (n i : ℕ) (v : VersionState) (st : Status) (p : Option Publishing) (s : Space) → At vs i v → Stays v.status → Stays st → ((w : ℕ) → IsOutsideOf p w) → SpaceIs vs n p s → SpaceIs (set vs i (with_status v st)) n None s
space_set vs n i v st p s here stay stays none is = record {
  size = is.size;
  free = λ w f. let t = is.free w f in (t.0, outside_set vs i w v st here stay t.1, tt);
  all = λ w low out u. is.all w low (outside_back vs i w v st here (λ h. out i (with_status v st) (set_here vs i (with_status v st) (at_below vs i v here)) stays) out) (none w);
}

apart_out : (a m b k w : ℕ) → Apart a m b k → InRange (start_of a) m w → InRange (start_of b) k w → ⊥
apart_out a m b k w apart here there = ⊎_elim (λ (h : start_of a + m < start_of b). let x = here.1 in let y = there.0 in omega arith) (λ (h : start_of b + k < start_of a). let x = here.0 in let y = there.1 in omega arith) apart

-- a version is given up, and its range given back
pub space_given : (vs : List VersionState) (n i : ℕ) (v : VersionState) (s t : Space) → At vs i v → Stays v.status → start_of v.base + v.words < n
    → ((j : ℕ) (u : VersionState) → At vs j u → Stays u.status → i ≢ j → Apart v.base v.words u.base u.words) → t.size ≡ s.size
    → ((w : ℕ) → IsFree t.ranges w ↔ (IsFree s.ranges w ⊎ ((start_of v.base ≤ w) × (w < start_of v.base + (v.words + 1))))) → SpaceIs vs n None s → SpaceIs (set vs i (with_status v GivenUp)) n None t
space_given vs n i v s t here stay base apart size given is = record {
  size = size ∙ is.size;
  free = λ w f. ⊎_elim
      (λ (g : IsFree s.ranges w). let z = is.free w g in (z.0, outside_set vs i w v GivenUp here stay z.1, tt))
      (λ (g : (start_of v.base ≤ w) × (w < start_of v.base + (v.words + 1))).
      let low = g.0 in let high = g.1 in
      let mine : InRange (start_of v.base) v.words w = (low, omega arith) in (
        omega arith,
        (λ j u at stays. ⊎_elim
            (λ (e : (j ≡ i) × (with_status v GivenUp ≡ u)). absurd (subst (λ (y : VersionState). Stays y.status) (sym e.1) stays))
            (λ (e : (j ≢ i) × At vs j u). apart_out v.base v.words u.base u.words w (apart j u e.1 stays (λ same. e.0 (sym same))) mine)
            (at_set vs i j (with_status v GivenUp) u at)),
        tt,
      ))
      ((given w).0 f);
  all = λ w low out none. dite (dec_le (start_of v.base) w)
      (λ a. dite (dec_lt w (start_of v.base + (v.words + 1)))
      (λ b. (given w).1 (inr (a, b)))
      (λ b. (given w).1 (inl (is.all w low (outside_back vs i w v GivenUp here (λ h r. let x = r.1 in b (omega arith)) out) tt))))
      (λ a. (given w).1 (inl (is.all w low (outside_back vs i w v GivenUp here (λ h r. a r.0) out) tt)));
}

-- a range is taken for a version
pub space_taken : (vs : List VersionState) (n b : ℕ) (d : Laying) (s t : Space) → start_of d.base ≡ b → t.size ≡ s.size
    → ((w : ℕ) → IsFree t.ranges w ↔ (IsFree s.ranges w × ((w < b) ⊎ (b + (length d.version.words + 1) ≤ w)))) → SpaceIs vs n None s → SpaceIs vs n (Some (Storing d)) t
space_taken vs n b d s t start size free is = record {
  size = size ∙ is.size;
  free = λ w f.
      let g = (free w).0 f in
      let z = is.free w g.0 in (
        z.0,
        z.1,
        λ r. ⊎_elim (λ (h : w < b). let x = r.0 in omega arith) (λ (h : b + (length d.version.words + 1) ≤ w). let x = r.1 in omega arith) g.1,
      );
  all = λ w low out mine. (free w).1 (
    is.all w low out tt,
    dite (dec_lt w b)
        (λ (h : w < b). inl h)
        (λ h. dite (dec_le (b + (length d.version.words + 1)) w) (λ (k : b + (length d.version.words + 1) ≤ w). inr k) (λ k. absurd (mine ((let x : start_of d.base ≤ w = omega arith in x), (let x : w ≤ start_of d.base + length d.version.words = omega arith in x))))),
  );
}

-- what lies in no range of the first versions lies behind them
past_laid : (vs : List Version) (place n w : ℕ) → place ≤ w → IsOutside (laid vs place n) w → place + words_of vs ≤ w
past_laid [] place n w low out = let e : words_of [] ≡ 0 = refl in omega arith
past_laid (v ∷ vs) place n w low out =
    let e = words_cons v vs in
    let start : start_of (16777220 + 4 * place) ≡ place = omega arith in
    let mine : ¬ InRange (start_of (16777220 + 4 * place)) (length v.words) w = out 0 (linked_of (draft_at v place) n) refl tt in
    let past : place + (length v.words + 1) ≤ w = dite (dec_le (place + (length v.words + 1)) w) (λ h. h) (λ h. absurd (mine ((let x : start_of (16777220 + 4 * place) ≤ w = omega arith in x), (let x : w ≤ start_of (16777220 + 4 * place) + length v.words = omega arith in x)))) in
    let rest = past_laid vs (place + (length v.words + 1)) (n + 1) w past (λ i u at stays. out (suc i) u at stays) in
    omega arith

-- all but the first versions is free
pub space_first : (vs : List Version) (n gives : ℕ) (s : Space) → IsBehind n (words_of vs) gives s → SpaceIs (laid vs 0 0) n None s
space_first vs n gives s is = record {
  size = is.size;
  free = λ w f. let t = is.free w f in (t.1, (λ i u at stays r. let low = laid_low vs 0 0 (words_of vs) i u (omega arith) at in let x = t.0 in let y = r.1 in omega arith), tt);
  all = λ w low out none. is.all w (let x = past_laid vs 0 0 w (omega arith) out in omega arith) low;
}

-- two ranges without a common word lie apart
pub ranges_apart : (a m b n : ℕ) → ((w : ℕ) → InRange a m w → InRange b n w → ⊥) → (a + m < b) ⊎ (b + n < a)
ranges_apart a m b n none = dite (dec_lt (a + m) b) (λ h. inl h) (λ h. dite (dec_lt (b + n) a) (λ k. inr k)
    (λ k. dite (dec_le a b) (λ low. absurd (none b (low, (let x : b ≤ a + m = omega arith in x)) ((let x : b ≤ b = omega arith in x), (let x : b ≤ b + n = omega arith in x))))
    (λ high. absurd (none a ((let x : a ≤ a = omega arith in x), (let x : a ≤ a + m = omega arith in x)) ((let x : b ≤ a = omega arith in x), (let x : a ≤ b + n = omega arith in x))))))

-- the first words of a space that was free are taken
pub behind_taken : (s t : Space) (n : ℕ) (r : Option ℕ) → 0 < n → ((w : ℕ) → IsFree s.ranges w ↔ (w < s.size)) → n ≤ s.size → MatchOption r ((b : ℕ) → ¬ HasRoom s.ranges b n) (λ b. IsFirstRoom s.ranges b n)
    → IfSome r (λ b. (w : ℕ) → IsFree t.ranges w ↔ (IsFree s.ranges w × ((w < b) ⊎ (b + n ≤ w)))) → t.size ≡ s.size → s.spare ≤ t.spare → IsBehind s.size n s.spare t
behind_taken s t n None least free fits first left size spare = absurd (first 0 (λ w low high. (free w).1 (omega arith)))
behind_taken s t n (Some b) least free fits first left size spare =
    let zero : b ≡ 0 = dite (dec_lt 0 b) (λ h. absurd (first.1 0 h (λ w low high. (free w).1 (omega arith)))) (λ h. omega arith) in record {
      size = size;
      free = λ w f. let g = (left w).0 f in (⊎_elim (λ (h : w < b). absurd (omega arith)) (λ (h : b + n ≤ w). let e : n ≤ w = omega arith in e) g.1, (free w).0 g.0);
      all = λ w low high. (left w).1 ((free w).1 high, inr (omega arith));
      spare = spare;
    }
