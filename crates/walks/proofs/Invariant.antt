-- A simulation may rest on facts that the first walk keeps by itself.
use Rattle.std.proofs.Common.{subst, ℕ}
use Rattle.walks.specs.Walk.{Reply, Step}
use Rattle.walks.specs.Simulation.{Follows, moves, waits, asks, gives, wants, breaks, KeptBy}

module _ (limit : ℕ) (S S' : Type 0) (step' : S' → Step S') (R : S → S' → Type 0) (measure : S → ℕ) (P : S → Type 0) where
  abbrev pub Both : S → S' → Type 0
  Both s s' = R s s' × P s

  pub with_invariant : {m : ℕ} {st : Step S} {st' : Step S'} → Follows limit S S' step' R measure m st st' → KeptBy S P st.does → Follows limit S S' step' Both measure m st st'
  with_invariant (moves s s' h chain is related weight jumps) k = moves s s' h chain is (related, subst (KeptBy S P) h k) weight jumps
  with_invariant (waits s s' h is related less still) k = waits s s' h is (related, subst (KeptBy S P) h k) less still
  with_invariant (asks symbol args args' memory memory' next next' h chain is same_args same_memory related weight jumps) k =
      let k' : (r : Reply) → P (next r) = subst (KeptBy S P) h k in
      asks symbol args args' memory memory' next next' h chain is same_args same_memory (λ r r' q. (related r r' q, k' r)) weight jumps
  with_invariant (gives value value' memory memory' h chain is same_value same_memory weight jumps) k = gives value value' memory memory' h chain is same_value same_memory weight jumps
  with_invariant (wants h chain is weight jumps) k = wants h chain is weight jumps
  with_invariant (breaks h still) k = breaks h still
