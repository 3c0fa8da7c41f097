-- The copies on an edge are no more than the phis, and write what these write.
use Rattle.std.proofs.Common.{◌≡◌, ℕ, suc, ◌+◌, ◌≤◌, Bool, true, false, ◌==◌, List, [], ◌∷◌, ◌++◌, length, Option, Some, None, arith, refl, if◌then◌else◌}
use Rattle.std.specs.List.{Contains}
use Rattle.std.proofs.lemmas.List.{length_push}
use Rattle.mir.specs.declared.code.MInst.{MInst}
use Rattle.mir.specs.declared.code.MInst.TheVariants.{Param, Op, Imm, Const, Move, Load, Store, Phi, Call, TakeData, CopyBytes, FillBytes, Branch, Jump, Return, Trap}
use Rattle.mir.specs.Code.{writes}
use Rattle.parallel_copies.specs.Moves.{Copies, Unwritten}
use Rattle.mir_play.specs.Play.{on_edge}
use Rattle.parallel_copies.specs.Edges.{is_written, with_copy, copies_on, heads}
use Rattle.parallel_copies.proofs.Picking.{other}
use Rattle.parallel_copies.proofs.Edging.{unwritten_last}

abbrev IsBeside : ℕ → List MInst → Type 0
IsBeside spare insts = (inst : MInst) → Contains insts inst → Contains (writes inst) spare → ⊥

behind : (spare : ℕ) (inst : MInst) (insts : List MInst) → IsBeside spare (inst ∷ insts) → IsBeside spare insts
behind spare inst insts h one (k, below, is) = h one (suc k, omega (arith, below), is)

apart : (spare d : ℕ) (pairs : List (ℕ × ℕ)) (insts : List MInst) → IsBeside spare (Phi d pairs ∷ insts) → (spare == d) ≡ false
apart spare d pairs insts h = other spare d (λ e. h (Phi d pairs) (0, omega arith, refl) (0, omega arith, e))

with_one : (spare d : ℕ) (source : Option ℕ) (copies : Copies) (count : ℕ) → (spare == d) ≡ false → Unwritten spare copies → length copies ≤ count
    → Unwritten spare (with_copy d source copies) × (length (with_copy d source copies) ≤ count + 1)
with_one spare d None copies count differs u few = (u, omega (arith, few))
with_one spare d (Some s) copies count differs u few = by_test (is_written d copies)
  where
    by_test : (b : Bool) → Unwritten spare (if b then copies else copies ++ (d, s) ∷ []) × (length (if b then copies else copies ++ (d, s) ∷ []) ≤ count + 1)
    by_test true = (u, omega (arith, few))
    by_test false = (unwritten_last spare d s copies u differs, omega (arith, few, length_push copies (d, s)))

pub on_head : (from spare : ℕ) (insts : List MInst) → IsBeside spare insts → Unwritten spare (copies_on from insts) × (length (copies_on from insts) ≤ heads insts)
on_head from spare [] h = (tt, omega arith)
on_head from spare (Phi d pairs ∷ insts) h =
    let rest : Unwritten spare (copies_on from insts) × (length (copies_on from insts) ≤ heads insts) = on_head from spare insts (behind spare (Phi d pairs) insts h) in
    with_one spare d (on_edge from pairs) (copies_on from insts) (heads insts) (apart spare d pairs insts h) rest.0 rest.1
on_head from spare (Param d n ∷ insts) h = (tt, omega arith)
on_head from spare (Op op d a b ∷ insts) h = (tt, omega arith)
on_head from spare (Imm op d a n ∷ insts) h = (tt, omega arith)
on_head from spare (Const d n ∷ insts) h = (tt, omega arith)
on_head from spare (Move d a ∷ insts) h = (tt, omega arith)
on_head from spare (Load op d a n ∷ insts) h = (tt, omega arith)
on_head from spare (Store op a b n ∷ insts) h = (tt, omega arith)
on_head from spare (Call g args results ∷ insts) h = (tt, omega arith)
on_head from spare (TakeData d n ∷ insts) h = (tt, omega arith)
on_head from spare (CopyBytes a b n ∷ insts) h = (tt, omega arith)
on_head from spare (FillBytes a b n ∷ insts) h = (tt, omega arith)
on_head from spare (Branch op a b t e ∷ insts) h = (tt, omega arith)
on_head from spare (Jump t ∷ insts) h = (tt, omega arith)
on_head from spare (Return rs ∷ insts) h = (tt, omega arith)
on_head from spare (Trap ∷ insts) h = (tt, omega arith)
