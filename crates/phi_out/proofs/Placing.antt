-- What holds of the instructions of a well formed function, block by block: registers exist, and each edge has a register for each phi.
use Rattle.std.proofs.Common.{◌≡◌, ℕ, zero, suc, ◌+◌, ◌<◌, ◌==◌, Bool, true, false, List, [], ◌∷◌, length, map, Some, refl, subst, arith}
use Rattle.std.specs.Prelude.{slice_get, nat_lt, IsTrue, if◌then◌else◌}
use Rattle.std.specs.List.{Contains}
use Rattle.mir.specs.declared.code.MInst.{MInst}
use Rattle.mir.specs.declared.code.MInst.TheVariants.{Phi}
use Rattle.mir.specs.declared.code.MFunction.{MFunction}
use Rattle.mir.specs.Code.{reads, targets, block_of, inst_at}
use Rattle.mir.specs.WellFormed.{is_phi, Leads, IsWellPlaced, IsWellFormed}
use Rattle.walks.proofs.Registers.{ReadsAlive}
use Rattle.mir_play.specs.Play.{on_edge, behind_phis}
use Rattle.parallel_copies.specs.Edges.{HasOperands}

pub first_of : {A : Type 0} (x : A) (xs : List A) → Contains (x ∷ xs) x
first_of x xs = (0, omega arith, refl)

pub behind_of : {A : Type 0} (x y : A) (xs : List A) → Contains xs y → Contains (x ∷ xs) y
behind_of x y xs (k, low, is) = (suc k, omega (arith, low), is)

-- the registers below so many count
abbrev pub below : ℕ → ℕ → Bool
below n r = nat_lt r n

lower : (r n : ℕ) → r < n → IsTrue (nat_lt r n)
lower r n h = grind arith

pub are_alive : (n : ℕ) (rs : List ℕ) → ((r : ℕ) → Contains rs r → r < n) → ReadsAlive (below n) rs
are_alive n [] h = tt
are_alive n (r ∷ rs) h = (lower r n (h r (first_of r rs)), are_alive n rs (λ x c. h x (behind_of r x rs c)))

-- each phi at the head of the list reads a register that counts on the edge
abbrev pub PhisAlive : ℕ → ℕ → List MInst → Type 0
PhisAlive n from (Phi d pairs ∷ insts) = ((s : ℕ) → on_edge from pairs ≡ Some s → IsTrue (below n s)) × PhisAlive n from insts
PhisAlive n from _ = Unit {0}

-- an edge of a well formed function
pub record IsSound (f : MFunction) (from to : ℕ) : Type 0 where
  pub target : (0 < to) × (to < length f.blocks)
  pub has : HasOperands from (block_of f to)
  pub alive : PhisAlive f.regs from (block_of f to)

-- an instruction of a block of it
pub record IsFine (f : MFunction) (block : ℕ) (inst : MInst) : Type 0 where
  pub alive : ReadsAlive (below f.regs) (reads inst)
  pub edges : (to : ℕ) → Contains (targets inst) to → IsSound f block to

abbrev pub AreFine : MFunction → ℕ → List MInst → Type 0
AreFine f block [] = Unit {0}
AreFine f block (inst ∷ insts) = IsFine f block inst × AreFine f block insts

-- the pair of a source
has_pair : (from : ℕ) (pairs : List (ℕ × ℕ)) → Contains (map (λ pair. pair.1) pairs) from → (s : ℕ) × (on_edge from pairs ≡ Some s)
has_pair from [] (k, low, is) = absurd (let bad : ⊥ = omega (arith, low) in bad)
has_pair from (pair ∷ pairs) h = by_test (pair.1 == from) refl (has_pair from pairs) h
  where
    by_test : (b : Bool) → (pair.1 == from) ≡ b → (Contains (map (λ p. p.1) pairs) from → (s : ℕ) × (on_edge from pairs ≡ Some s)) → Contains (map (λ p. p.1) (pair ∷ pairs)) from → (s : ℕ) × ((if b then Some pair.0 else on_edge from pairs) ≡ Some s)
    by_test true e rest c = (pair.0, refl)
    by_test false e rest (zero, low, is) = absurd (let bad : ⊥ = grind arith in bad)
    by_test false e rest (suc k, low, is) = rest (k, omega (arith, low), is)

-- what the pair of a source reads is read by the phi
pub reads_pair : (from : ℕ) (pairs : List (ℕ × ℕ)) (s : ℕ) → on_edge from pairs ≡ Some s → Contains (map (λ pair. pair.0) pairs) s
reads_pair from [] s e = absurd (let bad : ⊥ = cc in bad)
reads_pair from (pair ∷ pairs) s e = by_test (pair.1 == from) (reads_pair from pairs s) e
  where
    by_test : (b : Bool) → (on_edge from pairs ≡ Some s → Contains (map (λ p. p.0) pairs) s) → (if b then Some pair.0 else on_edge from pairs) ≡ Some s → Contains (map (λ p. p.0) (pair ∷ pairs)) s
    by_test true rest e = let is : pair.0 ≡ s = cc in subst (λ (x : ℕ). Contains (pair.0 ∷ map (λ p. p.0) pairs) x) is (first_of pair.0 (map (λ p. p.0) pairs))
    by_test false rest e = behind_of pair.0 s (map (λ p. p.0) pairs) (rest e)

module _ (f : MFunction) (formed : IsWellFormed f) (from to : ℕ) (leads : Leads f from to) where
  abbrev Sound : List MInst → Type 0
  Sound insts = HasOperands from insts × PhisAlive f.regs from insts

  one_phi : (d : ℕ) (pairs : List (ℕ × ℕ)) (insts : List MInst) (k : ℕ) → IsWellPlaced f to k (Phi d pairs) → Sound insts → Sound (Phi d pairs ∷ insts)
  one_phi d pairs insts k p rest =
      let named : Contains (map (λ pair. pair.1) pairs) from = (p.phi_sources refl from).1 leads in
      ((has_pair from pairs named, rest.0), ((λ s e. lower s f.regs (p.reads_exist s (reads_pair from pairs s e))), rest.1))

  phis_sound : (insts : List MInst) (start : ℕ) → ((place : ℕ) (inst : MInst) → slice_get insts place ≡ Some inst → is_phi inst ≡ true → IsWellPlaced f to (start + place) inst) → Sound insts
  phis_sound [] start h = (tt, tt)
  phis_sound (Phi d pairs ∷ insts) start h =
      one_phi d pairs insts (start + 0) (h 0 (Phi d pairs) refl refl)
      (phis_sound insts (start + 1) (λ place inst e is. let same : start + (suc place) ≡ start + 1 + place = omega arith in subst (λ (k : ℕ). IsWellPlaced f to k inst) same (h (suc place) inst e is)))
  phis_sound (i ∷ insts) start h = (tt, tt)

  pub edge_sound : (0 < to) × (to < length f.blocks) → IsSound f from to
  edge_sound inside =
      let both : Sound (block_of f to) = phis_sound (block_of f to) 0 (λ place inst e is. let same : place ≡ 0 + place = omega arith in
      subst (λ (k : ℕ). IsWellPlaced f to k inst) same (formed.placed to place inst e)) in
      record { target = inside; has = both.0; alive = both.1 }

module _ (f : MFunction) (formed : IsWellFormed f) (block : ℕ) where
  fine_at : (place : ℕ) (inst : MInst) → inst_at f block place ≡ Some inst → IsFine f block inst
  fine_at place inst e =
      let p = formed.placed block place inst e in
      record {
        alive = are_alive f.regs (reads inst) p.reads_exist;
        edges = λ to c. edge_sound f formed block to (place, inst, e, c) (p.targets_exist to c);
      }

  all_fine : (insts : List MInst) → ((place : ℕ) (inst : MInst) → slice_get insts place ≡ Some inst → IsFine f block inst) → AreFine f block insts
  all_fine [] h = tt
  all_fine (i ∷ insts) h = (h 0 i refl, all_fine insts (λ place inst e. h (suc place) inst e))

  behind_fine : (insts : List MInst) → AreFine f block insts → AreFine f block (behind_phis insts)
  behind_fine [] h = tt
  behind_fine (Phi d pairs ∷ insts) h = behind_fine insts h.1
  behind_fine (i ∷ insts) h = h

  pub block_fine : AreFine f block (behind_phis (block_of f block))
  block_fine = behind_fine (block_of f block) (all_fine (block_of f block) (λ place inst e. fine_at place inst e))
