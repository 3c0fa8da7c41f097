-- A walk comes to one end.
use Rattle.std.proofs.Common.{◌≡◌, sym, ap, ◌∙◌, ℕ, zero, suc, ◌+◌, List, [], ◌∷◌}
use Rattle.walks.specs.Walk.{Reply, Does, Goes, Asks, Gives, Wants, Breaks, Step, Walk, End, Ends, play_of}
use Rattle.walks.specs.Functions.{function_walk}
use Rattle.walks.specs.Face.{HasOneEnd}
use Rattle.walks.specs.Laws.{FunctionsHaveOneEnd}
use Rattle.walks.proofs.Simulate.{Within, Within_on, to_within}

module _ (S : Type 0) (step : S → Step S) where
  abbrev Same : End → End → ℕ → ℕ → ℕ → ℕ → Type 0
  Same e e' w w' j j' = (e' ≡ e) × (w' ≡ w) × (j' ≡ j)

  -- the step's own weight and jumps before what is the same
  more : (st : Step S) (e e' : End) (w w' w1 w1' j j' j1 j1' : ℕ) → Same e e' w1 w1' j1 j1' → w ≡ st.weight + w1 → w' ≡ st.weight + w1' → j ≡ st.jumps + j1 → j' ≡ st.jumps + j1'
      → Same e e' w w' j j'
  more st e e' w w' w1 w1' j j' j1 j1' same p p' q q' =
      (same.0, p' ∙ ap (λ n. st.weight + n) same.1 ∙ sym p, q' ∙ ap (λ n. st.jumps + n) same.2 ∙ sym q)

  same_on : (n n' : ℕ) (st : Step S) → ((st : Step S) (rs : List Reply) (e e' : End) (w w' j j' : ℕ) → Within S step n st rs e w j → Within S step n' st rs e' w' j' → Same e e' w w' j j')
      → (d : Does S) (rs : List Reply) (e e' : End) (w w' j j' : ℕ)
      → Within_on S step (Within S step n) st d rs e w j → Within_on S step (Within S step n') st d rs e' w' j' → Same e e' w w' j j'
  same_on n n' st go (Goes s) rs e e' w w' j j' x y = more st e e' w w' x.0 y.0 j j' x.1 y.1 (go (step s) rs e e' x.0 y.0 x.1 y.1 x.2 y.2) x.3 y.3 x.4 y.4
  same_on n n' st go (Asks symbol args memory next) [] e e' w w' j j' x y = (y.0 ∙ sym x.0, y.1 ∙ sym x.1, y.2 ∙ sym x.2)
  same_on n n' st go (Asks symbol args memory next) (r ∷ rs) e e' w w' j j' x y =
      more st e e' w w' x.0 y.0 j j' x.1 y.1 (go (step (next r)) rs e e' x.0 y.0 x.1 y.1 x.2 y.2) x.3 y.3 x.4 y.4
  same_on n n' st go (Gives value memory) rs e e' w w' j j' x y = (y.0 ∙ sym x.0, y.1 ∙ sym x.1, y.2 ∙ sym x.2)
  same_on n n' st go Wants rs e e' w w' j j' x y = (y.0 ∙ sym x.0, y.1 ∙ sym x.1, y.2 ∙ sym x.2)
  same_on n n' st go Breaks rs e e' w w' j j' x y = (y.0 ∙ sym x.0, y.1 ∙ sym x.1, y.2 ∙ sym x.2)

  same_within : (n n' : ℕ) (st : Step S) (rs : List Reply) (e e' : End) (w w' j j' : ℕ) → Within S step n st rs e w j → Within S step n' st rs e' w' j' → Same e e' w w' j j'
  same_within zero n' st rs e e' w w' j j' x y = absurd x
  same_within (suc n) zero st rs e e' w w' j j' x y = absurd y
  same_within (suc n) (suc n') st rs e e' w w' j j' x y = same_on n n' st (same_within n n') st.does rs e e' w w' j j' x y

  -- from one step, with the same replies, there is one end
  pub one_end : {st : Step S} {rs : List Reply} {e e' : End} {w w' j j' : ℕ} → Ends S step st rs e w j → Ends S step st rs e' w' j' → (e' ≡ e) × (w' ≡ w) × (j' ≡ j)
  one_end {st = st} {rs = rs} {e = e} {e' = e'} {w = w} {w' = w'} {j = j} {j' = j'} x y =
      let p = to_within S step x in
      let q = to_within S step y in
      same_within p.0 q.0 st rs e e' w w' j j' p.1 q.1

-- the play of each walk has one end
pub plays_have_one_end : (p : Walk) → HasOneEnd (play_of p)
plays_have_one_end p entry rs e e' w w' j j' x y = one_end p.State p.step x y

pub functions_have_one_end : FunctionsHaveOneEnd
functions_have_one_end program symbol = plays_have_one_end (function_walk program symbol)
