-- A play comes to an end exactly where this is computed within some number of steps.
use Rattle.std.proofs.Common.{◌≡◌, refl, sym, ap, subst, ℕ, zero, suc, ◌+◌, List, [], ◌∷◌, Option, Some, None, arith}
use Rattle.std.specs.Prelude.{unwrap_or}
use Rattle.walks.specs.Walk.{Reply, Entry, Does, Goes, Asks, Gives, Wants, Breaks, Step, Walk, End, Calls, Returns, Overflows, Undefined, Ends, returns, overflows, breaks, calls, goes, answered, Play, play_of}
use Rattle.walks.specs.Refines.{RefinesPlay}
use Rattle.walks.specs.Computed.{Ended, behind, ended_at, ended_within, computed}
use Rattle.walks.proofs.Simulate.{Within, Within_on, to_within}

abbrev known : End → ℕ → ℕ → Option Ended
known e w j = Some (e, w, j)

-- the parts of an end that is known
record Same (e e' : End) (w w' j j' : ℕ) : Type 0 where
  end : e ≡ e'
  weight : w ≡ w'
  jumps : j ≡ j'

same : (e e' : End) (w w' j j' : ℕ) → known e w j ≡ known e' w' j' → Same e e' w w' j j'
same e e' w w' j j' h =
    let x : Ended = (e, w, j) in
    record {
      end = ap (λ (o : Option Ended). (unwrap_or o x).0) h;
      weight = ap (λ (o : Option Ended). (unwrap_or o x).1) h;
      jumps = ap (λ (o : Option Ended). (unwrap_or o x).2) h;
    }

module _ (S : Type 0) (step : S → Step S) where
  behind_is : (st : Step S) (o : Option Ended) (e : End) (w j w1 j1 : ℕ) → o ≡ Some (e, w1, j1) → w ≡ st.weight + w1 → j ≡ st.jumps + j1 → behind S step st o ≡ Some (e, w, j)
  behind_is st o e w j w1 j1 h p q = rw (h, p, q) refl

  computed_at : (n : ℕ) (st : Step S) → ((st : Step S) (rs : List Reply) (e : End) (w j : ℕ) → Within S step n st rs e w j → ended_within S step n st rs ≡ Some (e, w, j))
      → (d : Does S) (rs : List Reply) (e : End) (w j : ℕ) → Within_on S step (Within S step n) st d rs e w j → ended_at S step (ended_within S step n) st d rs ≡ Some (e, w, j)
  computed_at n st go (Goes s) rs e w j x = behind_is st (ended_within S step n (step s) rs) e w j x.0 x.1 (go (step s) rs e x.0 x.1 x.2) x.3 x.4
  computed_at n st go (Asks symbol args memory next) [] e w j x = rw (x.0, x.1, x.2) refl
  computed_at n st go (Asks symbol args memory next) (r ∷ rs) e w j x =
      behind_is st (ended_within S step n (step (next r)) rs) e w j x.0 x.1 (go (step (next r)) rs e x.0 x.1 x.2) x.3 x.4
  computed_at n st go (Gives value memory) rs e w j x = rw (x.0, x.1, x.2) refl
  computed_at n st go Wants rs e w j x = rw (x.0, x.1, x.2) refl
  computed_at n st go Breaks rs e w j x = rw (x.0, x.1, x.2) refl

  within_computed : (n : ℕ) (st : Step S) (rs : List Reply) (e : End) (w j : ℕ) → Within S step n st rs e w j → ended_within S step n st rs ≡ Some (e, w, j)
  within_computed zero st rs e w j x = absurd x
  within_computed (suc n) st rs e w j x = computed_at n st (within_computed n) st.does rs e w j x

  pub ends_are_computed : {st : Step S} {rs : List Reply} {e : End} {w j : ℕ} → Ends S step st rs e w j → (n : ℕ) × (ended_within S step n st rs ≡ Some (e, w, j))
  ends_are_computed {st = st} {rs = rs} {e = e} {w = w} {j = j} x = let y = to_within S step x in (y.0, within_computed y.0 st rs e w j y.1)

  -- what is behind a step
  Behind : Step S → Option Ended → End → ℕ → ℕ → Type 0
  Behind st o e w j = (w1 : ℕ) × (j1 : ℕ) × (o ≡ Some (e, w1, j1)) × (st.weight + w1 ≡ w) × (st.jumps + j1 ≡ j)

  behind_from : (st : Step S) (o : Option Ended) (e : End) (w j : ℕ) → behind S step st o ≡ Some (e, w, j) → (w1 : ℕ) × (j1 : ℕ) × (o ≡ Some (e, w1, j1)) × (st.weight + w1 ≡ w) × (st.jumps + j1 ≡ j)
  behind_from st None e w j h = absurd (let bad : ⊥ = cc in bad)
  behind_from st (Some (e1, w1, j1)) e w j h =
      let k = same e1 e (st.weight + w1) w (st.jumps + j1) j h in
      (w1, j1, ap (λ (x : End). Some (x, w1, j1)) k.end, k.weight, k.jumps)

  at_end : (st : Step S) (rs : List Reply) (e e' : End) (w j : ℕ) → known e st.weight st.jumps ≡ known e' w j → Ends S step st rs e st.weight st.jumps → Ends S step st rs e' w j
  at_end st rs e e' w j h x =
      let k = same e e' st.weight w st.jumps j h in
      subst (λ (z : End). Ends S step st rs z w j) k.end (subst (λ (z : ℕ). Ends S step st rs e z j) k.weight (subst (λ (z : ℕ). Ends S step st rs e st.weight z) k.jumps x))

  with_sums : (st : Step S) (rs : List Reply) (e : End) (w j w1 j1 : ℕ) → st.weight + w1 ≡ w → st.jumps + j1 ≡ j → Ends S step st rs e (st.weight + w1) (st.jumps + j1) → Ends S step st rs e w j
  with_sums st rs e w j w1 j1 p q x = subst (λ (z : ℕ). Ends S step st rs e z j) p (subst (λ (z : ℕ). Ends S step st rs e (st.weight + w1) z) q x)

  ends_at : (n : ℕ) (st : Step S) → ((st : Step S) (rs : List Reply) (e : End) (w j : ℕ) → ended_within S step n st rs ≡ Some (e, w, j) → Ends S step st rs e w j)
      → (d : Does S) → st.does ≡ d → (rs : List Reply) (e : End) (w j : ℕ) → ended_at S step (ended_within S step n) st d rs ≡ Some (e, w, j) → Ends S step st rs e w j
  ends_at n st go (Goes s) h rs e w j x =
      let y = behind_from st (ended_within S step n (step s) rs) e w j x in
      with_sums st rs e w j y.0 y.1 y.3 y.4 (goes s h (go (step s) rs e y.0 y.1 y.2))
  ends_at n st go (Asks symbol args memory next) h [] e w j x = at_end st [] (Calls symbol args memory) e w j x (calls symbol args memory next h)
  ends_at n st go (Asks symbol args memory next) h (r ∷ rs) e w j x =
      let y = behind_from st (ended_within S step n (step (next r)) rs) e w j x in
      with_sums st (r ∷ rs) e w j y.0 y.1 y.3 y.4 (answered symbol args memory next r h (go (step (next r)) rs e y.0 y.1 y.2))
  ends_at n st go (Gives value memory) h rs e w j x = at_end st rs (Returns value memory) e w j x (returns value memory h)
  ends_at n st go Wants h rs e w j x = at_end st rs Overflows e w j x (overflows h)
  ends_at n st go Breaks h rs e w j x = at_end st rs Undefined e w j x (breaks h)

  pub computed_ends : (n : ℕ) (st : Step S) (rs : List Reply) (e : End) (w j : ℕ) → ended_within S step n st rs ≡ Some (e, w, j) → Ends S step st rs e w j
  computed_ends zero st rs e w j x = absurd (let bad : ⊥ = cc in bad)
  computed_ends (suc n) st rs e w j x = ends_at n st (computed_ends n) st.does refl rs e w j x

  -- once a play has ended it stays so
  behind_stays : (st : Step S) (o o' : Option Ended) (x : Ended) → ((y : Ended) → o ≡ Some y → o' ≡ Some y) → behind S step st o ≡ Some x → behind S step st o' ≡ Some x
  behind_stays st None o' x go h = absurd (let bad : ⊥ = cc in bad)
  behind_stays st (Some y) o' x go h = subst (λ (z : Option Ended). behind S step st z ≡ Some x) (sym (go y refl)) h

  stays_at : (n n' : ℕ) (st : Step S) → ((st : Step S) (rs : List Reply) (x : Ended) → ended_within S step n st rs ≡ Some x → ended_within S step n' st rs ≡ Some x)
      → (d : Does S) (rs : List Reply) (x : Ended) → ended_at S step (ended_within S step n) st d rs ≡ Some x → ended_at S step (ended_within S step n') st d rs ≡ Some x
  stays_at n n' st go (Goes s) rs x h = behind_stays st (ended_within S step n (step s) rs) (ended_within S step n' (step s) rs) x (go (step s) rs) h
  stays_at n n' st go (Asks symbol args memory next) [] x h = h
  stays_at n n' st go (Asks symbol args memory next) (r ∷ rs) x h =
      behind_stays st (ended_within S step n (step (next r)) rs) (ended_within S step n' (step (next r)) rs) x (go (step (next r)) rs) h
  stays_at n n' st go (Gives value memory) rs x h = h
  stays_at n n' st go Wants rs x h = h
  stays_at n n' st go Breaks rs x h = h

  pub ended_stays : (n more : ℕ) (st : Step S) (rs : List Reply) (x : Ended) → ended_within S step n st rs ≡ Some x → ended_within S step (n + more) st rs ≡ Some x
  ended_stays zero more st rs x h = absurd (let bad : ⊥ = cc in bad)
  ended_stays (suc n) more st rs x h =
      let count : suc n + more ≡ suc (n + more) = omega arith in
      subst (λ (z : ℕ). ended_within S step z st rs ≡ Some x) (sym count) (stays_at n (n + more) st (ended_stays n more) st.does rs x h)

-- what is computed is the play's end
pub from_computed : (p : Walk) (entry : Entry) (rs : List Reply) (n : ℕ) (e : End) (w j : ℕ) → computed p entry rs n ≡ Some (e, w, j) → play_of p entry rs e w j
from_computed p entry rs n e w j h = computed_ends p.State p.step n (p.enter entry) rs e w j h

-- and each end of the play is computed
pub to_computed : (p : Walk) (entry : Entry) (rs : List Reply) (e : End) (w j : ℕ) → play_of p entry rs e w j → (n : ℕ) × (computed p entry rs n ≡ Some (e, w, j))
to_computed p entry rs e w j x = ends_are_computed p.State p.step x

pub computed_stays : (p : Walk) (entry : Entry) (rs : List Reply) (n more : ℕ) (x : Ended) → computed p entry rs n ≡ Some x → computed p entry rs (n + more) ≡ Some x
computed_stays p entry rs n more x h = ended_stays p.State p.step n more (p.enter entry) rs x h

-- a walk's play by what is computed of it
abbrev pub by_steps : Walk → Play
by_steps p entry rs e w j = (n : ℕ) × (computed p entry rs n ≡ known e w j)

-- what the play of a walk refines, it refines as computed
pub refines_by_steps : (limit : ℕ) (f : Play) (p : Walk) → RefinesPlay limit f (play_of p) → RefinesPlay limit f (by_steps p)
refines_by_steps limit f p h = record {
  ends = λ a b rs rs' e w j entry replies d x.
      let r = h.ends a b rs rs' e w j entry replies d x in
      (r.0, r.1, r.2, to_computed p b rs' r.0 r.1 r.2 r.3, r.4, r.5);
  ended = λ a b rs rs' e' w' j' entry replies x. h.ended a b rs rs' e' w' j' entry replies (from_computed p b rs' x.0 e' w' j' x.1);
}
