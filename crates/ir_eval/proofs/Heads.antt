-- The phis at the head of a block, one after another.
use Rattle.std.proofs.Common.{◌≡◌, ℕ, zero, suc, ◌+◌, ◌<◌, ◌≤◌, List, [], ◌∷◌, length, take, drop, get_or, sym, ◌∙◌, ap, refl, arith, add-one, drop-cons}
use Rattle.ir_core.specs.declared.code.Inst.{Inst}
use Rattle.ir_core.specs.declared.types.Ty.{Ty}
use Rattle.ir_core.specs.declared.code.Op.{Op}
use Rattle.ir_core.specs.declared.code.Op.TheVariants.{Phi}
use Rattle.ir_core.specs.declared.program.Function.{Function}
use Rattle.ir_meaning.specs.Value.{Value}
use Rattle.std.specs.Prelude.{slice_get}
use Rattle.ir_core.specs.declared.code.Block.{Block}
use Rattle.ir_meaning.specs.Step.{Program, phis, phi_value, with_phis, with_result, insts_at, insts_of}

-- one phi more of a block's
pub next_phi : (program : Program) (function : Function) (from : ℕ) (before : List Value) (block place : ℕ) (heads : List Inst) (inst : Inst) (values : List Value)
    → place < length heads → inst ≡ get_or heads place inst
    → with_phis program function from before block place (drop place heads) values
    ≡ with_phis program function from before block (place + 1) (drop (place + 1) heads) (with_result function block place inst (phi_value program before from inst.op) values)
next_phi program function from before block place heads inst values below is =
    let split : drop place heads ≡ inst ∷ drop (place + 1) heads =
    drop-cons heads place inst below ∙ ap (λ (x : Inst). x ∷ drop (suc place) heads) (sym is) ∙ ap (λ n. inst ∷ drop n heads) (sym (add-one place)) in
    ap (λ (is : List Inst). with_phis program function from before block place is values) split

-- one instruction more at the head of a block

pub phi_more : (insts : List Inst) (i : ℕ) (inst : Inst) (pairs : _) → i < length insts → inst ≡ get_or insts i inst → inst.op ≡ Phi pairs
    → length (phis (drop i insts)) ≡ 1 + length (phis (drop (i + 1) insts))
phi_more insts i inst pairs below is op =
    let split : drop i insts ≡ record { gives = inst.gives; op = inst.op } ∷ drop (i + 1) insts =
    drop-cons insts i inst below ∙ ap (λ (x : Inst). x ∷ drop (suc i) insts) (sym is) ∙ ap (λ n. inst ∷ drop n insts) (sym (add-one i)) in
    ap (λ (xs : List Inst). length (phis xs)) split
    ∙ ap (λ (o : Op). length (phis (record { gives = inst.gives; op = o } ∷ drop (i + 1) insts))) op
    ∙ one_more (length (phis (drop (i + 1) insts)))
  where
    one_more : (n : ℕ) → suc n ≡ 1 + n
    one_more n = omega arith

head_by : (insts : List Inst) (ty : Ty) (op : Op) (i : ℕ) (d : Inst) → ((j : ℕ) → j < length (phis insts) → get_or (phis insts) j d ≡ get_or insts j d)
    → i < length (phis (record { gives = ty; op = op } ∷ insts)) → get_or (phis (record { gives = ty; op = op } ∷ insts)) i d ≡ get_or (record { gives = ty; op = op } ∷ insts) i d
head_by insts ty (Phi pairs) zero d f h = refl
head_by insts ty (Phi pairs) (suc i) d f h = f i (omega arith)
head_by insts ty _ i d f h = absurd (omega arith)

-- a phi at the head of a block is the instruction at its place
pub head_at : (insts : List Inst) (i : ℕ) (d : Inst) → i < length (phis insts) → get_or (phis insts) i d ≡ get_or insts i d
head_at [] i d h = refl
head_at (inst ∷ insts) i d h = head_by insts inst.gives inst.op i d (λ j lt. head_at insts j d lt) h

first_by : (insts : List Inst) (ty : Ty) (op : Op) → take (length (phis insts)) insts ≡ phis insts
    → take (length (phis (record { gives = ty; op = op } ∷ insts))) (record { gives = ty; op = op } ∷ insts) ≡ phis (record { gives = ty; op = op } ∷ insts)
first_by insts ty (Phi pairs) e = ap (λ (is : List Inst). record { gives = ty; op = Phi pairs } ∷ is) e
first_by insts ty _ e = refl

-- the phis are the first instructions of their block
pub phis_first : (insts : List Inst) → take (length (phis insts)) insts ≡ phis insts
phis_first [] = refl
phis_first (inst ∷ insts) = first_by insts inst.gives inst.op (phis_first insts)

-- there are no more phis than instructions
pub phis_within : (insts : List Inst) → length (phis insts) ≤ length insts
phis_within [] = omega arith
phis_within (inst ∷ insts) = within_by insts inst.gives inst.op (phis_within insts)
  where
    within_by : (insts : List Inst) (ty : Ty) (op : Op) → length (phis insts) ≤ length insts → length (phis (record { gives = ty; op = op } ∷ insts)) ≤ suc (length insts)
    within_by insts ty (Phi pairs) h = omega arith
    within_by insts ty _ h = omega arith

there_in : (blocks : List Block) (to : ℕ) → 0 < length (phis (insts_of (slice_get blocks to))) → to < length blocks
there_in [] to h = absurd (omega arith)
there_in (b ∷ bs) zero h = omega arith
there_in (b ∷ bs) (suc to) h = let below : to < length bs = there_in bs to h in omega (arith, below)

-- a block that has phis is there
pub block_there : (function : Function) (to : ℕ) → 0 < length (phis (insts_at function to)) → to < length function.blocks
block_there function to h = there_in function.blocks to h
