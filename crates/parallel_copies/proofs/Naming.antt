-- Moves name no register but those of the copies and the spare one.
use Rattle.std.proofs.Common.{◌≡◌, ℕ, zero, suc, ◌⊎◌, inl, inr, Bool, true, false, List, [], ◌∷◌, arith, refl, sym, ap, subst, if◌then◌else◌, ◌==◌}
use Rattle.std.specs.List.{Contains}
use Rattle.mir.specs.declared.code.MInst.{MInst}
use Rattle.mir.specs.declared.code.MInst.TheVariants.{Move}
use Rattle.parallel_copies.specs.Moves.{Copies, Picks, here, there, renamed, written, read, IsMoveOf, Sequences, done, drops, emits, breaks}

-- an item of a list is the first or behind it
first_or_behind : (y : ℕ) (ys : List ℕ) (x : ℕ) → Contains (y ∷ ys) x → (y ≡ x) ⊎ Contains ys x
first_or_behind y ys x (zero, below, is) = inl is
first_or_behind y ys x (suc k, below, is) = inr (k, omega (arith, below), is)

at_first : (y : ℕ) (ys : List ℕ) → Contains (y ∷ ys) y
at_first y ys = (0, omega arith, refl)

behind_first : (y : ℕ) (ys : List ℕ) (x : ℕ) → Contains ys x → Contains (y ∷ ys) x
behind_first y ys x (k, below, is) = (suc k, omega (arith, below), is)

nothing_in : (x : ℕ) → Contains [] x → ⊥
nothing_in x in' = absurd (omega (arith, in'.1))

-- what a picked copy and the others name, the list names
picked_written : (d s : ℕ) (copies rest : Copies) → Picks (d, s) copies rest → Contains (written copies) d
picked_written d s copies rest here = at_first d (written rest)
picked_written d s copies rest (there {other = o} {copies = more} {rest = left} p) = behind_first o.0 (written more) d (picked_written d s more left p)

picked_read : (d s : ℕ) (copies rest : Copies) → Picks (d, s) copies rest → Contains (read copies) s
picked_read d s copies rest here = at_first s (read rest)
picked_read d s copies rest (there {other = o} {copies = more} {rest = left} p) = behind_first o.1 (read more) s (picked_read d s more left p)

rest_written : (c : ℕ × ℕ) (copies rest : Copies) → Picks c copies rest → (x : ℕ) → Contains (written rest) x → Contains (written copies) x
rest_written c copies rest here x in' = behind_first c.0 (written rest) x in'
rest_written c copies rest (there {other = o} {copies = more} {rest = left} p) x in' = elim (first_or_behind o.0 (written left) x in') [
  | inl same ↦ subst (λ y. Contains (o.0 ∷ written more) y) same (at_first o.0 (written more))
  | inr behind ↦ behind_first o.0 (written more) x (rest_written c more left p x behind)
]

rest_read : (c : ℕ × ℕ) (copies rest : Copies) → Picks c copies rest → (x : ℕ) → Contains (read rest) x → Contains (read copies) x
rest_read c copies rest here x in' = behind_first c.1 (read rest) x in'
rest_read c copies rest (there {other = o} {copies = more} {rest = left} p) x in' = elim (first_or_behind o.1 (read left) x in') [
  | inl same ↦ subst (λ y. Contains (o.1 ∷ read more) y) same (at_first o.1 (read more))
  | inr behind ↦ behind_first o.1 (read more) x (rest_read c more left p x behind)
]

renamed_written : (from to : ℕ) (copies : Copies) → written (renamed from to copies) ≡ written copies
renamed_written from to [] = refl
renamed_written from to (copy ∷ copies) = ap (λ (ys : List ℕ). copy.0 ∷ ys) (renamed_written from to copies)

renamed_read : (from to : ℕ) (copies : Copies) (x : ℕ) → Contains (read (renamed from to copies)) x → (x ≡ to) ⊎ Contains (read copies) x
renamed_read from to [] x in' = absurd (nothing_in x in')
renamed_read from to (copy ∷ copies) x in' = elim (first_or_behind (if copy.1 == from then to else copy.1) (read (renamed from to copies)) x in') [
  | inl same ↦ by_test (copy.1 == from) same
  | inr behind ↦ elim (renamed_read from to copies x behind) [ inl is ↦ inl is | inr was ↦ inr (behind_first copy.1 (read copies) x was) ]
]
  where
    by_test : (b : Bool) → (if b then to else copy.1) ≡ x → (x ≡ to) ⊎ Contains (read (copy ∷ copies)) x
    by_test true e = inl (sym e)
    by_test false e = inr (subst (λ y. Contains (read (copy ∷ copies)) y) e (at_first copy.1 (read copies)))

abbrev IsSource : ℕ → Copies → ℕ → Type 0
IsSource spare copies s = (s ≡ spare) ⊎ Contains (written copies) s ⊎ Contains (read copies) s

-- moves of fewer copies are moves of all
wider : (spare : ℕ) (few all : Copies) → ((x : ℕ) → Contains (written few) x → Contains (written all) x)
    → ((x : ℕ) → Contains (read few) x → (x ≡ spare) ⊎ Contains (read all) x) → (inst : MInst) → IsMoveOf spare few inst → IsMoveOf spare all inst
wider spare few all writes reads inst (d, s, is, to, from) = (
  d,
  s,
  is,
  elim to [ inl e ↦ inl e | inr in' ↦ inr (writes d in') ],
  source from,
)
  where
    source : IsSource spare few s → IsSource spare all s
    source (inl e) = inl e
    source (inr (inl in')) = inr (inl (writes s in'))
    source (inr (inr in')) = elim (reads s in') [ inl e ↦ inl e | inr there' ↦ inr (inr there') ]

move_or_behind : (P : MInst → Type 0) (first : MInst) (insts : List MInst) → P first → ((inst : MInst) → Contains insts inst → P inst)
    → (inst : MInst) → Contains (first ∷ insts) inst → P inst
move_or_behind P first insts own rest inst (zero, below, is) = subst P is own
move_or_behind P first insts own rest inst (suc k, below, is) = rest inst (k, omega (arith, below), is)

pub only_moves : (spare : ℕ) (copies : Copies) (moves : List MInst) → Sequences spare copies moves
    → (inst : MInst) → Contains moves inst → IsMoveOf spare copies inst
only_moves spare copies moves done inst in' = absurd (omega (arith, in'.1))
only_moves spare copies moves (drops {rest = rest} d p q) inst in' =
    wider spare rest copies (rest_written (d, d) copies rest p) (λ x h. inr (rest_read (d, d) copies rest p x h)) inst (only_moves spare rest moves q inst in')
only_moves spare copies moves (emits {rest = rest} {moves = more} d s p u q) inst in' =
    move_or_behind (IsMoveOf spare copies) (Move d s) more (d, s, refl, inr (picked_written d s copies rest p), inr (inr (picked_read d s copies rest p)))
    (λ i h. wider spare rest copies (rest_written (d, s) copies rest p) (λ x h'. inr (rest_read (d, s) copies rest p x h')) i (only_moves spare rest more q i h)) inst in'
only_moves spare copies moves (breaks {rest = rest} {moves = more} d s p u w q) inst in' =
    move_or_behind (IsMoveOf spare copies) (Move spare d) (Move d s ∷ more) (spare, d, refl, inl refl, inr (inl (picked_written d s copies rest p)))
    (move_or_behind (IsMoveOf spare copies) (Move d s) more (d, s, refl, inr (picked_written d s copies rest p), inr (inr (picked_read d s copies rest p)))
    (λ i h. wider spare (renamed d spare rest) copies
    (λ x h'. rest_written (d, s) copies rest p x (rw (renamed_written d spare rest) at h'))
    (λ x h'. elim (renamed_read d spare rest x h') [ inl e ↦ inl e | inr was ↦ inr (rest_read (d, s) copies rest p x was) ])
    i (only_moves spare (renamed d spare rest) more q i h))) inst in'
