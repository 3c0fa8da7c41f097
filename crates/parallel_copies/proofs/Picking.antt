-- Copies by their places.
use Rattle.std.proofs.Common.{◌≡◌, refl, sym, ap, subst, ◌∙◌, ℕ, zero, suc, ◌<◌, Bool, true, false, List, [], ◌∷◌, ◌++◌, length, take, drop, append_assoc, arith}
use Rattle.std.specs.Prelude.{if◌then◌else◌, ◌==◌, slice_index_or, slice_set}
use Rattle.std.proofs.lemmas.List.{append-nil}
use Rattle.mir.specs.declared.code.MInst.{MInst}
use Rattle.mir.specs.declared.code.MInst.TheVariants.{Move}
use Rattle.parallel_copies.specs.Moves.{Copies, Unwritten, Unread, Distinct, IsReadBeside, Picks, here, there, renamed, move_for, Sequences, drops, emits, breaks}
use Rattle.parallel_copies.proofs.Parallel.{eq_of, renamed_distinct, renamed_unwritten, picks_unwritten, picks_distinct}
use Rattle.parallel_copies.proofs.Circles.{stuck_unread}

pub picks_at : (cs : Copies) (i : ℕ) (c : ℕ × ℕ) → i < length cs → c ≡ slice_index_or cs i c → Picks c cs (take i cs ++ drop (suc i) cs)
picks_at [] i c l e = absurd (let bad : ⊥ = omega arith in bad)
picks_at (x ∷ cs) zero c l e = subst (λ z. Picks c (z ∷ cs) cs) e here
picks_at (x ∷ cs) (suc i) c l e = there (picks_at cs i c (omega (arith, l)) e)

pub other : (d r : ℕ) → (r ≡ d → ⊥) → (d == r) ≡ false
other d r h = by_test (d == r) refl
  where
    by_test : (b : Bool) → (d == r) ≡ b → b ≡ false
    by_test true e = absurd (h (let same : r ≡ d = grind arith in same))
    by_test false e = refl

unread_all : (cs : Copies) (d : ℕ) → ((k : ℕ) → k < length cs → (slice_index_or cs k (0, 0)).1 ≡ d → ⊥) → Unread d cs
unread_all [] d h = tt
unread_all (c ∷ cs) d h = (other d c.1 (h 0 (omega arith)), unread_all cs d (λ k l. h (suc k) (omega arith)))

pub unread_at : (cs : Copies) (i d : ℕ) → ((k : ℕ) → k < length cs → (k ≡ i → ⊥) → (slice_index_or cs k (0, 0)).1 ≡ d → ⊥) → Unread d (take i cs ++ drop (suc i) cs)
unread_at [] zero d h = tt
unread_at [] (suc i) d h = tt
unread_at (c ∷ cs) zero d h = unread_all cs d (λ k l. h (suc k) (omega arith) (λ e. let bad : ⊥ = omega arith in bad))
unread_at (c ∷ cs) (suc i) d h =
    (other d c.1 (h 0 (omega arith) (λ e. let bad : ⊥ = omega arith in bad)), unread_at cs i d (λ k l n. h (suc k) (omega arith) (λ e. n (omega (arith, e)))))

pub renamed_more : (from to : ℕ) (is js : Copies) (k : ℕ) (d : ℕ × ℕ) → k < length js → drop k js ≡ drop k is → take k js ≡ renamed from to (take k is)
    → take (suc k) (slice_set js k ((slice_index_or js k d).0, if (slice_index_or js k d).1 == from then to else (slice_index_or js k d).1)) ≡ renamed from to (take (suc k) is)
renamed_more from to is [] k d l h e = absurd (let bad : ⊥ = omega arith in bad)
renamed_more from to [] (j ∷ js) zero d l h e = absurd (let bad : ⊥ = cc in bad)
renamed_more from to (i ∷ is) (j ∷ js) zero d l h e = let same : j ≡ i = cc in rw same refl
renamed_more from to [] (j ∷ js) (suc k) d l h e = absurd (let bad : ⊥ = cc in bad)
renamed_more from to (i ∷ is) (j ∷ js) (suc k) d l h e =
    let first : j ≡ (i.0, if i.1 == from then to else i.1) = cc in
    let more : take k js ≡ renamed from to (take k is) = cc in
    rw first (ap (λ xs. (i.0, if i.1 == from then to else i.1) ∷ xs) (renamed_more from to is js k d (omega (arith, l)) h more))

drop_none : {A : Type 0} (k : ℕ) → drop {A = A} k [] ≡ []
drop_none zero = refl
drop_none (suc k) = refl

pub left_more : {A : Type 0} (is js : List A) (k : ℕ) (x' : A) → drop k js ≡ drop k is → drop (suc k) (slice_set js k x') ≡ drop (suc k) is
left_more [] [] zero x' h = refl
left_more [] (j ∷ js) zero x' h = absurd (let bad : ⊥ = cc in bad)
left_more (i ∷ is) [] zero x' h = absurd (let bad : ⊥ = cc in bad)
left_more (i ∷ is) (j ∷ js) zero x' h = cc
left_more [] [] (suc k) x' h = refl
left_more [] (j ∷ js) (suc k) x' h = left_more [] js k x' (h ∙ sym (drop_none k)) ∙ drop_none (suc k)
left_more (i ∷ is) [] (suc k) x' h = sym (drop_none (suc k)) ∙ left_more is [] k x' (drop_none k ∙ h)
left_more (i ∷ is) (j ∷ js) (suc k) x' h = left_more is js k x' h

get_any : (cs : Copies) (i : ℕ) (d d' : ℕ × ℕ) → i < length cs → slice_index_or cs i d ≡ slice_index_or cs i d'
get_any [] i d d' l = absurd (let bad : ⊥ = omega arith in bad)
get_any (c ∷ cs) zero d d' l = refl
get_any (c ∷ cs) (suc i) d d' l = get_any cs i d d' (omega (arith, l))

without_length : (cs : Copies) (i : ℕ) → i < length cs → suc (length (take i cs ++ drop (suc i) cs)) ≡ length cs
without_length [] i l = absurd (let bad : ⊥ = omega arith in bad)
without_length (c ∷ cs) zero l = refl
without_length (c ∷ cs) (suc i) l = ap suc (without_length cs i (omega (arith, l)))

-- what a loop keeps: moves for what is pending, behind those so far, are moves for all; no register is written twice, nor the spare one
abbrev pub Kept : ℕ → Copies → Copies → List MInst → Type 0
Kept spare all pending moves =
    ((more : List MInst) → Sequences spare pending more → Sequences spare all (moves ++ more)) × Distinct pending × Unwritten spare pending

pub emit_keeps : (spare : ℕ) (all pending : Copies) (moves : List MInst) (i : ℕ) (c : ℕ × ℕ) (pending' : Copies) (moves' : List MInst) → i < length pending
    → c ≡ slice_index_or pending i c → (IsReadBeside pending i (slice_index_or pending i (0, 0)).0 → ⊥) → pending' ≡ take i pending ++ drop (suc i) pending
    → moves' ≡ moves ++ move_for c.0 c.1 → Kept spare all pending moves → Kept spare all pending' moves'
emit_keeps spare all pending moves i c pending' moves' l e free p m h =
    (λ more q. by_test (c.0 == c.1) refl more q, rw p distinct.0, rw p (picks_unwritten c pending (take i pending ++ drop (suc i) pending) picks spare h.2).0)
  where
    same : c ≡ slice_index_or pending i (0, 0)
    same = e ∙ get_any pending i c (0, 0) l

    picks : Picks c pending (take i pending ++ drop (suc i) pending)
    picks = picks_at pending i c l e

    distinct : Distinct (take i pending ++ drop (suc i) pending) × Unwritten c.0 (take i pending ++ drop (suc i) pending)
    distinct = picks_distinct c pending (take i pending ++ drop (suc i) pending) picks h.1

    unread : Unread c.0 (take i pending ++ drop (suc i) pending)
    unread = unread_at pending i c.0 (λ k l' n w. free (k, l', n, w ∙ ap (λ (z : ℕ × ℕ). z.0) same))

    by_test : (b : Bool) → (c.0 == c.1) ≡ b → (more : List MInst) → Sequences spare pending' more → Sequences spare all (moves' ++ more)
    by_test true t more q =
        let itself : c ≡ (c.0, c.0) = let s : c.0 ≡ c.1 = eq_of c.0 c.1 t in ap (λ (k : ℕ). (c.0, k)) (sym s) in
        let none : moves' ≡ moves = m ∙ ap (λ (b : Bool). moves ++ (if b then [] else Move c.0 c.1 ∷ [])) t ∙ append-nil moves in
        rw none (h.0 more (drops c.0 (subst (λ (z : ℕ × ℕ). Picks z pending (take i pending ++ drop (suc i) pending)) itself picks) (rw p at q)))
    by_test false t more q =
        let one : moves' ++ more ≡ moves ++ Move c.0 c.1 ∷ more =
        ap (λ (z : List MInst). z ++ more) (m ∙ ap (λ (b : Bool). moves ++ (if b then [] else Move c.0 c.1 ∷ [])) t) ∙ append_assoc moves (Move c.0 c.1 ∷ []) more in
        rw one (h.0 (Move c.0 c.1 ∷ more) (emits c.0 c.1 picks unread (rw p at q)))

pub break_keeps : (spare : ℕ) (all pending : Copies) (moves : List MInst) (c : ℕ × ℕ) (rest pending' : Copies) (moves1 moves' : List MInst) → 0 < length pending
    → c ≡ slice_index_or pending 0 c → ((i : ℕ) → i < length pending → IsReadBeside pending i (slice_index_or pending i (0, 0)).0)
    → rest ≡ take 0 pending ++ drop 1 pending → pending' ≡ renamed c.0 spare rest → moves1 ≡ moves ++ Move spare c.0 ∷ [] → moves' ≡ moves1 ++ Move c.0 c.1 ∷ []
    → Kept spare all pending moves → Kept spare all pending' moves'
break_keeps spare all pending moves c rest pending' moves1 moves' l e stuck p r m1 m h = (
  λ more q.
      let both : moves' ++ more ≡ moves ++ Move spare c.0 ∷ Move c.0 c.1 ∷ more =
      ap (λ (z : List MInst). z ++ more) (m ∙ ap (λ (z : List MInst). z ++ Move c.0 c.1 ∷ []) m1)
      ∙ append_assoc (moves ++ Move spare c.0 ∷ []) (Move c.0 c.1 ∷ []) more ∙ append_assoc moves (Move spare c.0 ∷ []) (Move c.0 c.1 ∷ more) in
      rw both (h.0 (Move spare c.0 ∷ Move c.0 c.1 ∷ more) (breaks c.0 c.1 picks (stuck_unread spare pending h.1 h.2 stuck) h.2 (rw whole at q))),
  rw whole (renamed_distinct c.0 spare (take 0 pending ++ drop 1 pending) distinct.0),
  rw whole (renamed_unwritten c.0 spare spare (take 0 pending ++ drop 1 pending) (picks_unwritten c pending (take 0 pending ++ drop 1 pending) picks spare h.2).0),
)
  where
    whole : pending' ≡ renamed c.0 spare (take 0 pending ++ drop 1 pending)
    whole = r ∙ ap (renamed c.0 spare) p

    picks : Picks c pending (take 0 pending ++ drop 1 pending)
    picks = picks_at pending 0 c l e

    distinct : Distinct (take 0 pending ++ drop 1 pending) × Unwritten c.0 (take 0 pending ++ drop 1 pending)
    distinct = picks_distinct c pending (take 0 pending ++ drop 1 pending) picks h.1

pub empty_at : (cs : Copies) → length cs ≡ 0 → cs ≡ []
empty_at [] h = refl
empty_at (c ∷ cs) h = absurd (let bad : ⊥ = omega (arith, h) in bad)

pub is_none : (n m : ℕ) → (n == 0) ≡ true → n ≡ m → m ≡ 0
is_none n m h e = grind arith

pub is_some : (n m : ℕ) → (n == 0) ≡ false → n ≡ m → 0 < m
is_some n m h e = grind arith
