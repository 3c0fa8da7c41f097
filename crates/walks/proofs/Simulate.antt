-- A simulation gives refinement.
use Rattle.std.proofs.Common.{◌≡◌, refl, sym, subst, ℕ, zero, suc, ◌+◌, ◌<◌, ◌≤◌, List, [], ◌∷◌, arith, ◌⊎◌, inl, inr}
use Rattle.ir_meaning.specs.Memory.{Memory}
use Rattle.walks.specs.Walk.{Bits, Reply, Does, Goes, Asks, Gives, Wants, Breaks, Step, Walk, End, Calls, Returns, Overflows, Undefined, Ends, returns, overflows, breaks, calls, goes, answered, play_of}
use Rattle.walks.specs.Refines.{RefinesBits, AllRefine, RefinesMemory, RefinesReply, AllReply, RefinesEnd, IsDefined, RefinesPlay}
use Rattle.walks.specs.Simulation.{Chain, here, further, Follows, moves, waits, asks, gives, wants, breaks as breaks_first, Simulation}

-- ---- ends with a bound on the steps, read from the first step on
module _ (S : Type 0) (step : S → Step S) where
  abbrev pub Within_on : (Step S → List Reply → End → ℕ → ℕ → Type 0) → Step S → Does S → List Reply → End → ℕ → ℕ → Type 0
  Within_on rest st (Goes s) rs e w j = (w1 : ℕ) × (j1 : ℕ) × rest (step s) rs e w1 j1 × (w ≡ st.weight + w1) × (j ≡ st.jumps + j1)
  Within_on rest st (Asks symbol args memory next) [] e w j = (e ≡ Calls symbol args memory) × (w ≡ st.weight) × (j ≡ st.jumps)
  Within_on rest st (Asks symbol args memory next) (r ∷ rs) e w j = (w1 : ℕ) × (j1 : ℕ) × rest (step (next r)) rs e w1 j1 × (w ≡ st.weight + w1) × (j ≡ st.jumps + j1)
  Within_on rest st (Gives value memory) rs e w j = (e ≡ Returns value memory) × (w ≡ st.weight) × (j ≡ st.jumps)
  Within_on rest st Wants rs e w j = (e ≡ Overflows) × (w ≡ st.weight) × (j ≡ st.jumps)
  Within_on rest st Breaks rs e w j = (e ≡ Undefined) × (w ≡ st.weight) × (j ≡ st.jumps)

  abbrev pub Within : ℕ → Step S → List Reply → End → ℕ → ℕ → Type 0
  Within zero st rs e w j = ⊥
  Within (suc n) st rs e w j = Within_on (Within n) st st.does rs e w j

  pub to_within : {st : Step S} {rs : List Reply} {e : End} {w j : ℕ} → Ends S step st rs e w j → (n : ℕ) × Within n st rs e w j
  to_within (returns {st = st} {rs = rs} value memory h) = (1, subst (λ (d : Does S). Within_on (Within 0) st d rs (Returns value memory) st.weight st.jumps) (sym h) (refl, refl, refl))
  to_within (overflows {st = st} {rs = rs} h) = (1, subst (λ (d : Does S). Within_on (Within 0) st d rs Overflows st.weight st.jumps) (sym h) (refl, refl, refl))
  to_within (breaks {st = st} {rs = rs} h) = (1, subst (λ (d : Does S). Within_on (Within 0) st d rs Undefined st.weight st.jumps) (sym h) (refl, refl, refl))
  to_within (calls {st = st} symbol args memory next h) = (1, subst (λ (d : Does S). Within_on (Within 0) st d [] (Calls symbol args memory) st.weight st.jumps) (sym h) (refl, refl, refl))
  to_within (goes {st = st} {rs = rs} {e = e} {w = w} {j = j} s h rest) =
      let r = to_within rest in
      (suc r.0, subst (λ (d : Does S). Within_on (Within r.0) st d rs e (st.weight + w) (st.jumps + j)) (sym h) (w, j, r.1, refl, refl))
  to_within (answered {st = st} {rs = rs} {e = e} {w = w} {j = j} symbol args memory next reply h rest) =
      let r = to_within rest in
      (suc r.0, subst (λ (d : Does S). Within_on (Within r.0) st d (reply ∷ rs) e (st.weight + w) (st.jumps + j)) (sym h) (w, j, r.1, refl, refl))

-- ---- chains
module _ (S : Type 0) (step : S → Step S) where
  pub chain_ends : {st before : Step S} {cw cj : ℕ} → Chain S step st before cw cj → {rs : List Reply} {e : End} {w j : ℕ} → Ends S step before rs e w j → Ends S step st rs e (cw + w) (cj + j)
  chain_ends (here {st = st}) {rs = rs} {e = e} {w = w} {j = j} x =
      subst (λ (n : ℕ). Ends S step st rs e n (0 + j)) (let z : w ≡ 0 + w = omega arith in z) (subst (λ (n : ℕ). Ends S step st rs e w n) (let z : j ≡ 0 + j = omega arith in z) x)
  chain_ends (further {st = st} {w = cw} {j = cj} s h rest) {rs = rs} {e = e} {w = w} {j = j} x =
      subst (λ (n : ℕ). Ends S step st rs e n ((st.jumps + cj) + j)) (let z : st.weight + (cw + w) ≡ (st.weight + cw) + w = omega arith in z)
      (subst (λ (n : ℕ). Ends S step st rs e (st.weight + (cw + w)) n) (let z : st.jumps + (cj + j) ≡ (st.jumps + cj) + j = omega arith in z)
      (goes s h (chain_ends rest x)))

  -- what is left of a play behind a chain
  Left : Step S → ℕ → List Reply → End → ℕ → ℕ → Type 0
  Left before k rs e cj j = (k1 : ℕ) × (w1 : ℕ) × (j1 : ℕ) × Within S step k1 before rs e w1 j1 × (k1 ≤ k) × (j ≡ cj + j1)

  pub strip : {st before : Step S} {cw cj : ℕ} → Chain S step st before cw cj → (k : ℕ) (rs : List Reply) (e : End) (w j : ℕ) → Within S step k st rs e w j
      → (k1 : ℕ) × (w1 : ℕ) × (j1 : ℕ) × Within S step k1 before rs e w1 j1 × (k1 ≤ k) × (j ≡ cj + j1)
  strip here k rs e w j x = (k, w, j, x, omega arith, omega arith)
  strip (further s h rest) zero rs e w j x = absurd x
  strip (further {st = st} s h rest) (suc k) rs e w j x =
      let y = subst (λ (d : Does S). Within_on S step (Within S step k) st d rs e w j) h x in
      let r = strip rest k rs e y.0 y.1 y.2 in
      let one = y.4 in let low = r.4 in let two = r.5 in
      (r.0, r.1, r.2, r.3, omega (arith, low), omega (arith, one, two))

module _ (limit : ℕ) (p p' : Walk) (R : p.State → p'.State → Type 0) (measure : p.State → ℕ) (sim : Simulation limit p p' R measure) where
  abbrev Fol : ℕ → Step p.State → Step p'.State → Type 0
  Fol = Follows limit p.State p'.State p'.step R measure

  abbrev Ch : Step p'.State → Step p'.State → ℕ → ℕ → Type 0
  Ch = Chain p'.State p'.step

  -- ---- what a step of the first is answered by
  record MovesTo (st : Step p.State) (st' : Step p'.State) (s : p.State) : Type 0 where
    before : Step p'.State
    w : ℕ
    j : ℕ
    s' : p'.State
    chain : Ch st' before w j
    is : before.does ≡ Goes s'
    related : R s s'
    weight : w + before.weight ≤ st.weight
    jumps : st.jumps ≤ j + before.jumps

  record WaitsTo (m : ℕ) (st : Step p.State) (st' : Step p'.State) (s : p.State) : Type 0 where
    s' : p'.State
    is : st' ≡ p'.step s'
    related : R s s'
    less : measure s < m
    still : st.jumps ≡ 0

  record AsksTo (st : Step p.State) (st' : Step p'.State) (symbol : ℕ) (args : List Bits) (memory : Memory) (next : Reply → p.State) : Type 0 where
    before : Step p'.State
    w : ℕ
    j : ℕ
    args' : List Bits
    memory' : Memory
    next' : Reply → p'.State
    chain : Ch st' before w j
    is : before.does ≡ Asks symbol args' memory' next'
    same_args : AllRefine args args'
    same_memory : RefinesMemory memory memory'
    related : (r r' : Reply) → RefinesReply limit r r' → R (next r) (next' r')
    weight : w + before.weight ≤ st.weight
    jumps : st.jumps ≤ j + before.jumps

  record GivesTo (st : Step p.State) (st' : Step p'.State) (value : Bits) (memory : Memory) : Type 0 where
    before : Step p'.State
    w : ℕ
    j : ℕ
    value' : Bits
    memory' : Memory
    chain : Ch st' before w j
    is : before.does ≡ Gives value' memory'
    same_value : RefinesBits value value'
    same_memory : RefinesMemory memory memory'
    weight : w + before.weight ≤ st.weight
    jumps : st.jumps ≤ j + before.jumps

  record WantsTo (st : Step p.State) (st' : Step p'.State) : Type 0 where
    before : Step p'.State
    w : ℕ
    j : ℕ
    chain : Ch st' before w j
    is : before.does ≡ Wants
    weight : w + before.weight ≤ st.weight
    jumps : st.jumps ≤ j + before.jumps

  abbrev Answer : ℕ → Step p.State → Step p'.State → Does p.State → Type 0
  Answer m st st' (Goes s) = MovesTo st st' s ⊎ WaitsTo m st st' s
  Answer m st st' (Asks symbol args memory next) = AsksTo st st' symbol args memory next
  Answer m st st' (Gives value memory) = GivesTo st st' value memory
  Answer m st st' Wants = WantsTo st st'
  Answer m st st' Breaks = st.jumps ≡ 0

  answer : {m : ℕ} {st : Step p.State} {st' : Step p'.State} → Fol m st st' → Answer m st st' st.does
  answer {m = m} (moves {st = st} {st' = st'} {before = before} {w = w} {j = j} s s' h chain is related weight jumps) =
      subst (Answer m st st') (sym h) (inl (record { before = before; w = w; j = j; s' = s'; chain = chain; is = is; related = related; weight = weight; jumps = jumps }))
  answer {m = m} (waits {st = st} {st' = st'} s s' h is related less still) =
      subst (Answer m st st') (sym h) (inr (record { s' = s'; is = is; related = related; less = less; still = still }))
  answer {m = m} (asks {st = st} {st' = st'} {before = before} {w = w} {j = j} symbol args args' memory memory' next next' h chain is same_args same_memory related weight jumps) =
      subst (Answer m st st') (sym h) (record { before = before; w = w; j = j; args' = args'; memory' = memory'; next' = next'; chain = chain; is = is; same_args = same_args; same_memory = same_memory; related = related; weight = weight; jumps = jumps })
  answer {m = m} (gives {st = st} {st' = st'} {before = before} {w = w} {j = j} value value' memory memory' h chain is same_value same_memory weight jumps) =
      subst (Answer m st st') (sym h) (record { before = before; w = w; j = j; value' = value'; memory' = memory'; chain = chain; is = is; same_value = same_value; same_memory = same_memory; weight = weight; jumps = jumps })
  answer {m = m} (wants {st = st} {st' = st'} {before = before} {w = w} {j = j} h chain is weight jumps) =
      subst (Answer m st st') (sym h) (record { before = before; w = w; j = j; chain = chain; is = is; weight = weight; jumps = jumps })
  answer {m = m} (breaks_first {st = st} {st' = st'} h still) = subst (Answer m st st') (sym h) still

  -- ---- the second comes to the first's end
  abbrev Found : Step p'.State → List Reply → End → ℕ → Type 0
  Found st' rs' e w = (e' : End) × (w' : ℕ) × (j' : ℕ) × Ends p'.State p'.step st' rs' e' w' j' × RefinesEnd e e' × (w' ≤ w)

  forward_goes : (m : ℕ) (st : Step p.State) (st' : Step p'.State) (s : p.State) (rs' : List Reply) (e : End) (w : ℕ)
      → ((s' : p'.State) → R s s' → Found (p'.step s') rs' e w) → MovesTo st st' s ⊎ WaitsTo m st st' s → Found st' rs' e (st.weight + w)
  forward_goes m st st' s rs' e w ih (inl r) =
      let q = ih r.s' r.related in
      let low = q.5 in let top = r.weight in
      (q.0, r.w + (r.before.weight + q.1), r.j + (r.before.jumps + q.2), chain_ends p'.State p'.step r.chain (goes r.s' r.is q.3), q.4, omega (arith, low, top))
  forward_goes m st st' s rs' e w ih (inr r) =
      let q = ih r.s' r.related in
      let low = q.5 in
      (q.0, q.1, q.2, subst (λ (x : Step p'.State). Ends p'.State p'.step x rs' q.0 q.1 q.2) (sym r.is) q.3, q.4, omega (arith, low))

  forward : {st : Step p.State} {rs : List Reply} {e : End} {w j : ℕ} → Ends p.State p.step st rs e w j
      → (m : ℕ) (st' : Step p'.State) (rs' : List Reply) → Fol m st st' → AllReply limit rs rs' → IsDefined e → Found st' rs' e w
  forward (returns {st = st} value memory h) m st' rs' f replies d =
      let r : GivesTo st st' value memory = subst (Answer m st st') h (answer f) in
      (Returns r.value' r.memory', r.w + r.before.weight, r.j + r.before.jumps, chain_ends p'.State p'.step r.chain (returns r.value' r.memory' r.is), (r.same_value, r.same_memory), r.weight)
  forward (overflows {st = st} h) m st' rs' f replies d =
      let r : WantsTo st st' = subst (Answer m st st') h (answer f) in
      (Overflows, r.w + r.before.weight, r.j + r.before.jumps, chain_ends p'.State p'.step r.chain (overflows r.is), tt, r.weight)
  forward (breaks h) m st' rs' f replies d = absurd d
  forward (calls {st = st} symbol args memory next h) m st' [] f replies d =
      let r : AsksTo st st' symbol args memory next = subst (Answer m st st') h (answer f) in
      (Calls symbol r.args' r.memory', r.w + r.before.weight, r.j + r.before.jumps, chain_ends p'.State p'.step r.chain (calls symbol r.args' r.memory' r.next' r.is), (refl, r.same_args, r.same_memory), r.weight)
  forward (calls symbol args memory next h) m st' (r ∷ rs') f replies d = absurd replies
  forward (goes {st = st} {rs = rs} {e = e} {w = w} s h rest) m st' rs' f replies d =
      forward_goes m st st' s rs' e w (λ s' related. forward rest (measure s) (p'.step s') rs' (sim.steps s s' related) replies d) (subst (Answer m st st') h (answer f))
  forward (answered symbol args memory next reply h rest) m st' [] f replies d = absurd replies
  forward (answered {st = st} {w = w} symbol args memory next reply h rest) m st' (reply' ∷ rs') f replies d =
      let r : AsksTo st st' symbol args memory next = subst (Answer m st st') h (answer f) in
      let q = forward rest (measure (next reply)) (p'.step (r.next' reply')) rs' (sim.steps (next reply) (r.next' reply') (r.related reply reply' replies.0)) replies.1 d in
      let low = q.5 in let top = r.weight in
      (q.0, r.w + (r.before.weight + q.1), r.j + (r.before.jumps + q.2), chain_ends p'.State p'.step r.chain (answered symbol r.args' r.memory' r.next' reply' r.is q.3), q.4, omega (arith, low, top))

  -- ---- where the second has ended, the first ends
  abbrev FoundBack : Step p.State → List Reply → ℕ → Type 0
  FoundBack st rs j' = (e : End) × (w : ℕ) × (j : ℕ) × Ends p.State p.step st rs e w j × (j ≤ j')

  abbrev Back : ℕ → ℕ → Type 0
  Back k m = (st : Step p.State) (st' : Step p'.State) (rs rs' : List Reply) (e' : End) (w' j' : ℕ) → Fol m st st' → AllReply limit rs rs'
      → Within p'.State p'.step k st' rs' e' w' j' → FoundBack st rs j'

  -- behind a chain the second goes on, so fewer steps are left
  behind : (k : ℕ) (st' before : Step p'.State) (cw cj : ℕ) (rs' : List Reply) (e' : End) (w' j' : ℕ) (s' : p'.State) → Ch st' before cw cj → before.does ≡ Goes s'
      → Within p'.State p'.step k st' rs' e' w' j'
      → (k1 : ℕ) × (w1 : ℕ) × (j1 : ℕ) × Within p'.State p'.step k1 (p'.step s') rs' e' w1 j1 × (k1 < k) × (j' ≡ cj + (before.jumps + j1))
  behind k st' before cw cj rs' e' w' j' s' chain is x = from (strip p'.State p'.step chain k rs' e' w' j' x)
    where
      from : (k1 : ℕ) × (w1 : ℕ) × (j1 : ℕ) × Within p'.State p'.step k1 before rs' e' w1 j1 × (k1 ≤ k) × (j' ≡ cj + j1)
          → (k1 : ℕ) × (w1 : ℕ) × (j1 : ℕ) × Within p'.State p'.step k1 (p'.step s') rs' e' w1 j1 × (k1 < k) × (j' ≡ cj + (before.jumps + j1))
      from (zero, w1, j1, y, low, same) = absurd y
      from (suc k1, w1, j1, y, low, same) =
          let z = subst (λ (d : Does p'.State). Within_on p'.State p'.step (Within p'.State p'.step k1) before d rs' e' w1 j1) is y in
          let two = z.4 in
          (k1, z.0, z.1, z.2, omega (arith, low), omega (arith, same, two))

  behind_reply : (k : ℕ) (st' before : Step p'.State) (cw cj symbol : ℕ) (args : List Bits) (memory : Memory) (next : Reply → p'.State) (r : Reply) (rs' : List Reply) (e' : End) (w' j' : ℕ)
      → Ch st' before cw cj → before.does ≡ Asks symbol args memory next
      → Within p'.State p'.step k st' (r ∷ rs') e' w' j'
      → (k1 : ℕ) × (w1 : ℕ) × (j1 : ℕ) × Within p'.State p'.step k1 (p'.step (next r)) rs' e' w1 j1 × (k1 < k) × (j' ≡ cj + (before.jumps + j1))
  behind_reply k st' before cw cj symbol args memory next r rs' e' w' j' chain is x = from (strip p'.State p'.step chain k (r ∷ rs') e' w' j' x)
    where
      from : (k1 : ℕ) × (w1 : ℕ) × (j1 : ℕ) × Within p'.State p'.step k1 before (r ∷ rs') e' w1 j1 × (k1 ≤ k) × (j' ≡ cj + j1)
          → (k1 : ℕ) × (w1 : ℕ) × (j1 : ℕ) × Within p'.State p'.step k1 (p'.step (next r)) rs' e' w1 j1 × (k1 < k) × (j' ≡ cj + (before.jumps + j1))
      from (zero, w1, j1, y, low, same) = absurd y
      from (suc k1, w1, j1, y, low, same) =
          let z = subst (λ (d : Does p'.State). Within_on p'.State p'.step (Within p'.State p'.step k1) before d (r ∷ rs') e' w1 j1) is y in
          let two = z.4 in
          (k1, z.0, z.1, z.2, omega (arith, low), omega (arith, same, two))

  -- the jumps of a step that ends both, behind a chain
  last : (k : ℕ) (st' before : Step p'.State) (cw cj : ℕ) (rs' : List Reply) (e' : End) (w' j' : ℕ) → Ch st' before cw cj
      → ((k1 w1 j1 : ℕ) → Within p'.State p'.step k1 before rs' e' w1 j1 → before.jumps ≤ j1)
      → Within p'.State p'.step k st' rs' e' w' j' → cj + before.jumps ≤ j'
  last k st' before cw cj rs' e' w' j' chain low x =
      let r = strip p'.State p'.step chain k rs' e' w' j' x in
      let here_low = low r.0 r.1 r.2 r.3 in let same = r.5 in omega (arith, here_low, same)

  at_least : (k : ℕ) (before : Step p'.State) (rs' : List Reply) (e' : End) (w' j' : ℕ) → Within p'.State p'.step k before rs' e' w' j' → before.jumps ≤ j'
  at_least zero before rs' e' w' j' x = absurd x
  at_least (suc k) before rs' e' w' j' x = by_does before.does rs' x
    where
      by_does : (d : Does p'.State) (rs' : List Reply) → Within_on p'.State p'.step (Within p'.State p'.step k) before d rs' e' w' j' → before.jumps ≤ j'
      by_does (Goes s) rs' x = let h = x.4 in omega (arith, h)
      by_does (Asks symbol args memory next) [] x = let h = x.2 in omega (arith, h)
      by_does (Asks symbol args memory next) (r ∷ rs') x = let h = x.4 in omega (arith, h)
      by_does (Gives value memory) rs' x = let h = x.2 in omega (arith, h)
      by_does Wants rs' x = let h = x.2 in omega (arith, h)
      by_does Breaks rs' x = let h = x.2 in omega (arith, h)

  end_jumps : (k : ℕ) (st' before : Step p'.State) (cw cj : ℕ) (rs' : List Reply) (e' : End) (w' j' : ℕ) → Ch st' before cw cj
      → Within p'.State p'.step k st' rs' e' w' j' → cj + before.jumps ≤ j'
  end_jumps k st' before cw cj rs' e' w' j' chain x = last k st' before cw cj rs' e' w' j' chain (λ k1 w1 j1 y. at_least k1 before rs' e' w1 j1 y) x

  back_at : (k m : ℕ) (st : Step p.State) (st' : Step p'.State) (rs rs' : List Reply) (e' : End) (w' j' : ℕ)
      → ((k1 m1 : ℕ) → k1 < k → Back k1 m1) → ((m1 : ℕ) → m1 < m → Back k m1) → AllReply limit rs rs' → Within p'.State p'.step k st' rs' e' w' j'
      → (d : Does p.State) → st.does ≡ d → Answer m st st' d → FoundBack st rs j'
  back_at k m st st' rs rs' e' w' j' fewer lower replies x (Goes s) h (inl r) =
      let y = behind k st' r.before r.w r.j rs' e' w' j' r.s' r.chain r.is x in
      let q = fewer y.0 (measure s) y.4 (p.step s) (p'.step r.s') rs rs' e' y.1 y.2 (sim.steps s r.s' r.related) replies y.3 in
      let one = y.5 in let two = q.4 in let three = r.jumps in
      (q.0, st.weight + q.1, st.jumps + q.2, goes s h q.3, omega (arith, one, two, three))
  back_at k m st st' rs rs' e' w' j' fewer lower replies x (Goes s) h (inr r) =
      let q = lower (measure s) r.less (p.step s) (p'.step r.s') rs rs' e' w' j' (sim.steps s r.s' r.related) replies
      (subst (λ (z : Step p'.State). Within p'.State p'.step k z rs' e' w' j') r.is x) in
      let one = q.4 in let two = r.still in
      (q.0, st.weight + q.1, st.jumps + q.2, goes s h q.3, omega (arith, one, two))
  back_at k m st st' [] [] e' w' j' fewer lower replies x (Asks symbol args memory next) h r =
      let one = end_jumps k st' r.before r.w r.j [] e' w' j' r.chain x in let two = r.jumps in
      (Calls symbol args memory, st.weight, st.jumps, calls symbol args memory next h, omega (arith, one, two))
  back_at k m st st' [] (r' ∷ rs') e' w' j' fewer lower replies x (Asks symbol args memory next) h r = absurd replies
  back_at k m st st' (r0 ∷ rs) [] e' w' j' fewer lower replies x (Asks symbol args memory next) h r = absurd replies
  back_at k m st st' (r0 ∷ rs) (r' ∷ rs') e' w' j' fewer lower replies x (Asks symbol args memory next) h r =
      let y = behind_reply k st' r.before r.w r.j symbol r.args' r.memory' r.next' r' rs' e' w' j' r.chain r.is x in
      let q = fewer y.0 (measure (next r0)) y.4 (p.step (next r0)) (p'.step (r.next' r')) rs rs' e' y.1 y.2 (sim.steps (next r0) (r.next' r') (r.related r0 r' replies.0)) replies.1 y.3 in
      let one = y.5 in let two = q.4 in let three = r.jumps in
      (q.0, st.weight + q.1, st.jumps + q.2, answered symbol args memory next r0 h q.3, omega (arith, one, two, three))
  back_at k m st st' rs rs' e' w' j' fewer lower replies x (Gives value memory) h r =
      let one = end_jumps k st' r.before r.w r.j rs' e' w' j' r.chain x in let two = r.jumps in
      (Returns value memory, st.weight, st.jumps, returns value memory h, omega (arith, one, two))
  back_at k m st st' rs rs' e' w' j' fewer lower replies x Wants h r =
      let one = end_jumps k st' r.before r.w r.j rs' e' w' j' r.chain x in let two = r.jumps in
      (Overflows, st.weight, st.jumps, overflows h, omega (arith, one, two))
  back_at k m st st' rs rs' e' w' j' fewer lower replies x Breaks h r = (Undefined, st.weight, st.jumps, breaks h, omega (arith, r))

  back_measure : (k : ℕ) → ((k1 m1 : ℕ) → k1 < k → Back k1 m1) → (top m : ℕ) → m ≤ top → Back k m
  back_measure k fewer zero m le st st' rs rs' e' w' j' f replies x =
      back_at k m st st' rs rs' e' w' j' fewer (λ m1 less. absurd (let bad : ⊥ = omega arith in bad)) replies x st.does refl (answer f)
  back_measure k fewer (suc top) m le st st' rs rs' e' w' j' f replies x =
      back_at k m st st' rs rs' e' w' j' fewer (λ m1 less. back_measure k fewer top m1 (omega arith)) replies x st.does refl (answer f)

  back_below : (top k m : ℕ) → k < top → Back k m
  back_below zero k m less = absurd (let bad : ⊥ = omega arith in bad)
  back_below (suc top) k m less = back_measure k (λ k1 m1 less1. back_below top k1 m1 (omega arith)) m m (omega arith)

  -- where the steps of one walk follow those of another, its play refines the other's
  pub simulated : RefinesPlay limit (play_of p) (play_of p')
  simulated = record {
    ends = λ a b rs rs' e w j entry replies d x.
        let f = sim.enters a b entry in
        forward x f.0 (p'.enter b) rs' f.1 replies d;
    ended = λ a b rs rs' e' w' j' entry replies x.
        let f = sim.enters a b entry in
        let y = to_within p'.State p'.step x in
        back_below (suc y.0) y.0 f.0 (omega arith) (p.enter a) (p'.enter b) rs rs' e' w' j' f.1 replies y.1;
  }
