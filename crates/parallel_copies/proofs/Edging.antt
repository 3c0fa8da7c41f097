-- What phis leave on an edge, their copies leave all at once.
use Rattle.std.proofs.Common.{◌≡◌, ℕ, Bool, true, false, ◌==◌, List, [], ◌∷◌, ◌++◌, Option, Some, None, arith, refl, sym, ap, ◌∙◌, if◌then◌else◌}
use Rattle.std.proofs.lemmas.Bool.{false≢true, or_parts}
use Rattle.mir.specs.declared.code.MInst.{MInst}
use Rattle.mir.specs.declared.code.MInst.TheVariants.{Param, Op, Imm, Const, Move, Load, Store, Phi, Call, TakeData, CopyBytes, FillBytes, Branch, Jump, Return, Trap}
use Rattle.walks.specs.Registers.{Registers, write}
use Rattle.mir_play.specs.Play.{on_edge, with_phis}
use Rattle.parallel_copies.specs.Moves.{Copies, at_once, Unwritten, Distinct}
use Rattle.parallel_copies.specs.Edges.{HasOperands, is_written, with_copy, copies_on}
use Rattle.parallel_copies.proofs.Parallel.{flip}

-- copies read registers as they were before, over others
abbrev over : Registers → Registers → Copies → Registers
over base before [] x = base x
over base before (copy ∷ copies) x = if x == copy.0 then before copy.1 else over base before copies x

over_itself : (before : Registers) (copies : Copies) (x : ℕ) → at_once before copies x ≡ over before before copies x
over_itself before [] x = refl
over_itself before (copy ∷ copies) x = ap (λ (v : ℕ → Option Bool). if x == copy.0 then before copy.1 else v) (over_itself before copies x)

over_last : (base before : Registers) (d s : ℕ) (copies : Copies) (x : ℕ)
    → over (write base d (before s)) before copies x ≡ over base before (copies ++ (d, s) ∷ []) x
over_last base before d s [] x = refl
over_last base before d s (copy ∷ copies) x = ap (λ (v : ℕ → Option Bool). if x == copy.0 then before copy.1 else v) (over_last base before d s copies x)

over_other : (base before : Registers) (d : ℕ) (v : ℕ → Option Bool) (copies : Copies) (x : ℕ) → (x == d) ≡ false
    → over (write base d v) before copies x ≡ over base before copies x
over_other base before d v [] x h = ap (λ (b : Bool). if b then v else base x) h
over_other base before d v (copy ∷ copies) x h = ap (λ (w : ℕ → Option Bool). if x == copy.0 then before copy.1 else w) (over_other base before d v copies x h)

over_written : (base before : Registers) (d : ℕ) (v : ℕ → Option Bool) (copies : Copies) (x : ℕ) → is_written d copies ≡ true
    → over (write base d v) before copies x ≡ over base before copies x
over_written base before d v [] x h = absurd (false≢true h)
over_written base before d v (copy ∷ copies) x h = by_tests (x == copy.0) (d == copy.0) refl refl (over_written base before d v copies x)
  where
    by_tests : (b b' : Bool) → (x == copy.0) ≡ b → (d == copy.0) ≡ b'
        → (is_written d copies ≡ true → over (write base d v) before copies x ≡ over base before copies x)
        → (if b then before copy.1 else over (write base d v) before copies x) ≡ (if b then before copy.1 else over base before copies x)
    by_tests true b' e e' r = refl
    by_tests false true e e' r = over_other base before d v copies x (let other : (x == d) ≡ false = grind arith in other)
    by_tests false false e e' r = r (rw e' at h)

over_phi : (base before : Registers) (d s : ℕ) (copies : Copies) (x : ℕ)
    → over (write base d (before s)) before copies x ≡ over base before (if is_written d copies then copies else copies ++ (d, s) ∷ []) x
over_phi base before d s copies x = by_test (is_written d copies) refl
  where
    by_test : (b : Bool) → is_written d copies ≡ b
        → over (write base d (before s)) before copies x ≡ over base before (if b then copies else copies ++ (d, s) ∷ []) x
    by_test true e = over_written base before d (before s) copies x e
    by_test false e = over_last base before d s copies x

module _ (from : ℕ) (before : Registers) (x : ℕ) where
  abbrev Same : List MInst → Type 0
  Same insts = (regs : Registers) → HasOperands from insts → with_phis from before insts regs x ≡ over regs before (copies_on from insts) x

  behind_phi : (d : ℕ) (pairs : List (ℕ × ℕ)) (insts : List MInst) → Same insts → Same (Phi d pairs ∷ insts)
  behind_phi d pairs insts rest regs ((s, is), has) =
      let own : with_phis from before insts (write regs d (before s)) x ≡ over regs before (if is_written d (copies_on from insts) then copies_on from insts else copies_on from insts ++ (d, s) ∷ []) x =
      rest (write regs d (before s)) has ∙ over_phi regs before d s (copies_on from insts) x in
      rw is own

  same : (insts : List MInst) → Same insts
  same [] regs has = refl
  same (Phi d pairs ∷ insts) regs has = behind_phi d pairs insts (same insts) regs has
  same (Param d n ∷ insts) regs has = refl
  same (Op op d a b ∷ insts) regs has = refl
  same (Imm op d a n ∷ insts) regs has = refl
  same (Const d n ∷ insts) regs has = refl
  same (Move d a ∷ insts) regs has = refl
  same (Load op d a n ∷ insts) regs has = refl
  same (Store op a b n ∷ insts) regs has = refl
  same (Call g args results ∷ insts) regs has = refl
  same (TakeData d n ∷ insts) regs has = refl
  same (CopyBytes a b n ∷ insts) regs has = refl
  same (FillBytes a b n ∷ insts) regs has = refl
  same (Branch op a b t e ∷ insts) regs has = refl
  same (Jump t ∷ insts) regs has = refl
  same (Return rs ∷ insts) regs has = refl
  same (Trap ∷ insts) regs has = refl

  pub copies_leave : (insts : List MInst) → HasOperands from insts → at_once before (copies_on from insts) x ≡ with_phis from before insts before x
  copies_leave insts has = over_itself before (copies_on from insts) x ∙ sym (same insts before has)

-- no register is written twice
pub unwritten_last : (x d s : ℕ) (copies : Copies) → Unwritten x copies → (x == d) ≡ false → Unwritten x (copies ++ (d, s) ∷ [])
unwritten_last x d s [] u h = (h, tt)
unwritten_last x d s (copy ∷ copies) u h = (u.0, unwritten_last x d s copies u.1 h)

distinct_last : (d s : ℕ) (copies : Copies) → Distinct copies → is_written d copies ≡ false → Distinct (copies ++ (d, s) ∷ [])
distinct_last d s [] u h = (tt, tt)
distinct_last d s (copy ∷ copies) u h =
    let parts : ((d == copy.0) ≡ false) × (is_written d copies ≡ false) = or_parts (d == copy.0) (is_written d copies) h in
    (unwritten_last copy.0 d s copies u.0 (flip d copy.0 parts.0), distinct_last d s copies u.1 parts.1)

distinct_with : (d : ℕ) (source : Option ℕ) (copies : Copies) → Distinct copies → Distinct (with_copy d source copies)
distinct_with d None copies u = u
distinct_with d (Some s) copies u = by_test (is_written d copies) refl
  where
    by_test : (b : Bool) → is_written d copies ≡ b → Distinct (if b then copies else copies ++ (d, s) ∷ [])
    by_test true e = u
    by_test false e = distinct_last d s copies u e

pub copies_distinct : (from : ℕ) (insts : List MInst) → Distinct (copies_on from insts)
copies_distinct from [] = tt
copies_distinct from (Phi d pairs ∷ insts) = distinct_with d (on_edge from pairs) (copies_on from insts) (copies_distinct from insts)
copies_distinct from (Param d n ∷ insts) = tt
copies_distinct from (Op op d a b ∷ insts) = tt
copies_distinct from (Imm op d a n ∷ insts) = tt
copies_distinct from (Const d n ∷ insts) = tt
copies_distinct from (Move d a ∷ insts) = tt
copies_distinct from (Load op d a n ∷ insts) = tt
copies_distinct from (Store op a b n ∷ insts) = tt
copies_distinct from (Call g args results ∷ insts) = tt
copies_distinct from (TakeData d n ∷ insts) = tt
copies_distinct from (CopyBytes a b n ∷ insts) = tt
copies_distinct from (FillBytes a b n ∷ insts) = tt
copies_distinct from (Branch op a b t e ∷ insts) = tt
copies_distinct from (Jump t ∷ insts) = tt
copies_distinct from (Return rs ∷ insts) = tt
copies_distinct from (Trap ∷ insts) = tt
