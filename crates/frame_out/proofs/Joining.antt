-- Pieces of code, put one behind another.
use Rattle.std.proofs.Common.{◌≡◌, refl, sym, ap, ap₂, ℤ, ◌∙◌, ℕ, zero, suc, ◌+◌, ◌-◌, ◌^◌, ◌<◌, ◌≤◌, ◌⊎◌, inl, inr, List, [], ◌∷◌, ◌++◌, length, get_or, Option, Some, None, Bool, true, false, cond, arith, append_assoc}
use Rattle.std.specs.Prelude.{drop, replicate, slice_get, slice_set, slice_index_or, ◌==◌, nat_le}
use Rattle.std.proofs.Math.Seq.{drop-cons}
use Rattle.std.proofs.lemmas.List.{append-nil}
use Rattle.rv_core.specs.declared.instr.Instr.{Instr}
use Rattle.rv_core.specs.declared.reg.Reg.{Reg}
use Rattle.rv_core.specs.declared.reg.Reg.TheVariants.{T0, T1, S11}
use Rattle.rv_core.specs.declared.instr.ImmOp.{ImmOp}
use Rattle.rv_core.specs.declared.instr.ImmOp.TheVariants.{Addi}
use Rattle.rv_core.specs.declared.instr.StoreOp.{StoreOp}
use Rattle.rv_core.specs.declared.instr.RegOp.TheVariants.{Sub}
use Rattle.rv_core.specs.declared.instr.Instr.TheVariants as rv
use Rattle.rv_core.specs.declared.instr.BranchOp.{BranchOp}
use Rattle.rv_asm.specs.Code.{Code}
use Rattle.mir.specs.declared.code.MInst.{MInst}
use Rattle.mir.specs.declared.code.MInst.TheVariants.{Param, Op, Imm, Const, Move, Load, Store, Phi, Call, TakeData, CopyBytes, FillBytes, Branch, Jump, Return, Trap}
use Rattle.mir.specs.declared.code.MFunction.{MFunction}
use Rattle.mir.specs.declared.places.Place.{Place}
use Rattle.mir.specs.declared.places.Places.{Places}
use Rattle.mir.specs.Code.{block_of}
use Rattle.mir.specs.Places.{place_of}
use Rattle.code_pieces.specs.Code.{argument_reg, const_code, negative}
use Rattle.code_pieces.specs.Bytes.{taken_bytes}
use Rattle.code_pieces.specs.Items.{Item, Plain, Bind, Goto, Test, plain}
use Rattle.code_pieces.specs.Assembly.{put, labelled, bind_all}
use Rattle.code_pieces.proofs.Rising.{Rise, rise-ends, rise-plain}
use Rattle.frame_code.specs.Frame.{uses, used_from}
use Rattle.frame_code.specs.Code.{held_in, fetch, keep, imm_code, store_code, load_place, save_code, restore_code, give_back, taken_by, taken_in, arguments_code, goto_items, inst_code, inst_items, insts_items, blocks_items, entry_code, function_items}
use Rattle.frame_code.specs.Assembly.{code_of}
use Rattle.frame_code.proofs.Labelled.{rise-insts}
use Rattle.frame_code.proofs.Taking.{taken-is}
use Rattle.code_emit.specs.Written.{put_code}
use Rattle.code_emit.proofs.Put.{put-none, then-put, code_code, code_none, code_is, code_put, more_code}
use Rattle.frame_out.specs.Ready.{goes_items, AreFree}
use Rattle.frame_out.specs.Saving.{save_one, restore_one}

-- ---- plain code

pub then_code : (code one new : Code) (xs ys : List Instr) → one ≡ put_code code xs → new ≡ put_code one ys → new ≡ put_code code (xs ++ ys)
then_code code one new xs ys e f = f ∙ ap (λ (c : Code). put_code c ys) e ∙ code_code code xs ys

pub three_code : (code one two new : Code) (xs ys zs : List Instr) → one ≡ put_code code xs → two ≡ put_code one ys → new ≡ put_code two zs → new ≡ put_code code (xs ++ (ys ++ zs))
three_code code one two new xs ys zs e f g = then_code code one new xs (ys ++ zs) e (then_code one two new ys zs f g)

pub four_code : (code one two three new : Code) (ws xs ys zs : List Instr) → one ≡ put_code code ws → two ≡ put_code one xs → three ≡ put_code two ys → new ≡ put_code three zs → new ≡ put_code code (ws ++ (xs ++ (ys ++ zs)))
four_code code one two three new ws xs ys zs e f g h = then_code code one new ws (xs ++ (ys ++ zs)) e (three_code one two three new xs ys zs f g h)

-- code whose last part goes on
pub on_code : (code one new : Code) (i : Instr) (xs ys zs : List Instr) → one ≡ put_code code (xs ++ (i ∷ ys)) → new ≡ put_code one zs → new ≡ put_code code (xs ++ (i ∷ (ys ++ zs)))
on_code code one new i xs ys zs e f = then_code code one new (xs ++ (i ∷ ys)) zs e f ∙ ap (put_code code) (append_assoc xs (i ∷ ys) zs)

-- ---- the s registers

save-split : (frame : ℕ) (places : Places) (k more : ℕ) → save_code frame (used_from places k (suc more)) ≡ save_one frame (uses places k) k ++ save_code frame (used_from places (k + 1) more)
save-split frame places k more = by_use (uses places k)
  where
    by_use : (b : Bool) → save_code frame (cond b (k ∷ used_from places (k + 1) more) (used_from places (k + 1) more)) ≡ save_one frame b k ++ save_code frame (used_from places (k + 1) more)
    by_use true = refl
    by_use false = refl

restore-split : (frame : ℕ) (places : Places) (k more : ℕ) → restore_code frame (used_from places k (suc more)) ≡ restore_one frame (uses places k) k ++ restore_code frame (used_from places (k + 1) more)
restore-split frame places k more = by_use (uses places k)
  where
    by_use : (b : Bool) → restore_code frame (cond b (k ∷ used_from places (k + 1) more) (used_from places (k + 1) more)) ≡ restore_one frame b k ++ restore_code frame (used_from places (k + 1) more)
    by_use true = refl
    by_use false = refl

pub saves_more : (frame : ℕ) (places : Places) (code one total : Code) (k : ℕ) → k < 11 → put_code code (save_code frame (used_from places k (11 - k))) ≡ total → one ≡ put_code code (save_one frame (uses places k) k)
    → put_code one (save_code frame (used_from places (k + 1) (11 - (k + 1)))) ≡ total
saves_more frame places code one total k lt h e =
    let count : 11 - k ≡ suc (11 - (k + 1)) = omega (arith, lt) in
    more_code code one total (save_one frame (uses places k) k) (save_code frame (used_from places (k + 1) (11 - (k + 1))))
    (ap (put_code code) (sym (ap (λ (n : ℕ). save_code frame (used_from places k n)) count ∙ save-split frame places k (11 - (k + 1)))) ∙ h) e

pub saves_done : (frame : ℕ) (places : Places) (code total : Code) (k : ℕ) → 11 ≤ k → put_code code (save_code frame (used_from places k (11 - k))) ≡ total → code ≡ total
saves_done frame places code total k le h =
    let none : 11 - k ≡ 0 = omega (arith, le) in
    sym (code_none code) ∙ ap (put_code code) (sym (ap (λ (n : ℕ). save_code frame (used_from places k n)) none)) ∙ h

pub restores_more : (frame : ℕ) (places : Places) (code one total : Code) (k : ℕ) → k < 11 → put_code code (restore_code frame (used_from places k (11 - k))) ≡ total → one ≡ put_code code (restore_one frame (uses places k) k)
    → put_code one (restore_code frame (used_from places (k + 1) (11 - (k + 1)))) ≡ total
restores_more frame places code one total k lt h e =
    let count : 11 - k ≡ suc (11 - (k + 1)) = omega (arith, lt) in
    more_code code one total (restore_one frame (uses places k) k) (restore_code frame (used_from places (k + 1) (11 - (k + 1))))
    (ap (put_code code) (sym (ap (λ (n : ℕ). restore_code frame (used_from places k n)) count ∙ restore-split frame places k (11 - (k + 1)))) ∙ h) e

pub restores_done : (frame : ℕ) (places : Places) (code total : Code) (k : ℕ) → 11 ≤ k → put_code code (restore_code frame (used_from places k (11 - k))) ≡ total → code ≡ total
restores_done frame places code total k le h =
    let none : 11 - k ≡ 0 = omega (arith, le) in
    sym (code_none code) ∙ ap (put_code code) (sym (ap (λ (n : ℕ). restore_code frame (used_from places k n)) none)) ∙ h

-- ---- lists

pub drop-past : {A : Type 0} (xs : List A) (i : ℕ) → length xs ≤ i → drop i xs ≡ []
drop-past [] zero le = refl
drop-past [] (suc i) le = refl
drop-past (x ∷ xs) zero le = absurd (let bad : ⊥ = omega (arith, le) in bad)
drop-past (x ∷ xs) (suc i) le = drop-past xs i (omega (arith, le))

pub split_first : {A : Type 0} (xs : List A) (i : ℕ) (d : A) → i < length xs → drop i xs ≡ get_or xs i d ∷ drop (i + 1) xs
split_first xs i d lt = drop-cons xs i d lt ∙ ap (λ (n : ℕ). get_or xs i d ∷ drop n xs) (let k : suc i ≡ i + 1 = omega arith in k)

pub split_at : {A : Type 0} (xs : List A) (i : ℕ) (x : A) → i < length xs → x ≡ get_or xs i x → drop i xs ≡ x ∷ drop (i + 1) xs
split_at xs i x lt is =
    drop-cons xs i x lt ∙ ap (λ y. y ∷ drop (suc i) xs) (sym is) ∙ ap (λ (n : ℕ). x ∷ drop n xs) (let k : suc i ≡ i + 1 = omega arith in k)

-- ---- operands in registers of the machine

pub imm_put : (code one new : Code) (op : ImmOp) (d a : Option Place) (n : ℤ) (rd ra : Reg) → one ≡ put_code code (fetch T0 a) → new ≡ put_code one (rv.Imm op rd ra n ∷ keep T0 d) → rd ≡ held_in T0 d → ra ≡ held_in T0 a
    → new ≡ put_code code (imm_code op d a n)
imm_put code one new op d a n rd ra e g ed ea =
    then_code code one new (fetch T0 a) (rv.Imm op (held_in T0 d) (held_in T0 a) n ∷ keep T0 d) e
    (g ∙ ap₂ (λ (x y : Reg). put_code one (rv.Imm op x y n ∷ keep T0 d)) ed ea)

pub store_put : (code one two new : Code) (op : StoreOp) (a b : Option Place) (n : ℤ) (ra rb : Reg) → one ≡ put_code code (fetch T0 a) → two ≡ put_code one (fetch T1 b) → new ≡ put_code two (rv.Store op ra rb n ∷ []) → ra ≡ held_in T0 a → rb ≡ held_in T1 b
    → new ≡ put_code code (store_code op a b n)
store_put code one two new op a b n ra rb e g h ea eb =
    three_code code one two new (fetch T0 a) (fetch T1 b) (rv.Store op (held_in T0 a) (held_in T1 b) n ∷ []) e g
    (h ∙ ap₂ (λ (x y : Reg). put_code two (rv.Store op x y n ∷ [])) ea eb)

-- operands, and the test
pub tested_put : (code one two new : Code) (op : BranchOp) (a b : Option Place) (ra rb : Reg) (t : ℕ) → one ≡ put_code code (fetch T0 a) → two ≡ put_code one (fetch T1 b) → new ≡ put two (Test op ra rb t ∷ [])
    → ra ≡ held_in T0 a → rb ≡ held_in T1 b → new ≡ put code (plain (fetch T0 a ++ fetch T1 b) ++ Test op (held_in T0 a) (held_in T1 b) t ∷ [])
tested_put code one two new op a b ra rb t e g h ea eb =
    h ∙ ap (λ (r : Reg). put two (Test op r rb t ∷ [])) ea ∙ ap (λ (r : Reg). put two (Test op (held_in T0 a) r t ∷ [])) eb
    ∙ ap (λ (c : Code). put c (Test op (held_in T0 a) (held_in T1 b) t ∷ [])) (then_code code one two (fetch T0 a) (fetch T1 b) e g)
    ∙ code_put code (fetch T0 a ++ fetch T1 b) (Test op (held_in T0 a) (held_in T1 b) t ∷ [])

-- ---- arguments of a call

module _ (f : MFunction) (places : Places) where
  pub args_more : (code one total : Code) (rs : List ℕ) (i p d : ℕ) → i < length rs → put_code code (arguments_code f places p (drop i rs)) ≡ total
      → one ≡ put_code code (load_place (argument_reg p) (place_of places (get_or rs i d))) → put_code one (arguments_code f places (p + 1) (drop (i + 1) rs)) ≡ total
  args_more code one total rs i p d lt h e =
      more_code code one total (load_place (argument_reg p) (place_of places (get_or rs i d))) (arguments_code f places (p + 1) (drop (i + 1) rs))
      (ap (λ (xs : List ℕ). put_code code (arguments_code f places p xs)) (sym (split_first rs i d lt)) ∙ h) e

  pub args_done : (code total : Code) (rs : List ℕ) (i p : ℕ) → length rs ≤ i → put_code code (arguments_code f places p (drop i rs)) ≡ total → code ≡ total
  args_done code total rs i p le h = sym (code_none code) ∙ ap (λ (xs : List ℕ). put_code code (arguments_code f places p xs)) (sym (drop-past rs i le)) ∙ h

  -- ---- an instruction

  pub inst_put : (code one new : Code) (block : ℕ) (inst : MInst) → one ≡ put_code code (inst_code f places inst) → new ≡ put one (goes_items f places block inst) → new ≡ put code (inst_items f places block inst)
  inst_put code one new block inst e k = k ∙ ap (λ (c : Code). put c (goes_items f places block inst)) e ∙ code_put code (inst_code f places inst) (goes_items f places block inst) ∙ ap (put code) (both inst)
    where
      both : (inst : MInst) → plain (inst_code f places inst) ++ goes_items f places block inst ≡ inst_items f places block inst
      both (Branch op a b t e) = refl
      both (Jump t) = refl
      both (Param d n) = append-nil (plain (inst_code f places (Param d n)))
      both (Op op d a b) = append-nil (plain (inst_code f places (Op op d a b)))
      both (Imm op d a n) = append-nil (plain (inst_code f places (Imm op d a n)))
      both (Const d n) = append-nil (plain (inst_code f places (Const d n)))
      both (Move d a) = append-nil (plain (inst_code f places (Move d a)))
      both (Load op d a n) = append-nil (plain (inst_code f places (Load op d a n)))
      both (Store op a b n) = append-nil (plain (inst_code f places (Store op a b n)))
      both (Phi d pairs) = append-nil (plain (inst_code f places (Phi d pairs)))
      both (Call g args results) = append-nil (plain (inst_code f places (Call g args results)))
      both (TakeData d n) = append-nil (plain (inst_code f places (TakeData d n)))
      both (CopyBytes a b n) = append-nil (plain (inst_code f places (CopyBytes a b n)))
      both (FillBytes a b n) = append-nil (plain (inst_code f places (FillBytes a b n)))
      both (Return rs) = append-nil (plain (inst_code f places (Return rs)))
      both Trap = append-nil (plain (inst_code f places Trap))

  pub branch_put : (code one new : Code) (block t e : ℕ) (op : BranchOp) (a b : Option Place) → one ≡ put code (plain (fetch T0 a ++ fetch T1 b) ++ Test op (held_in T0 a) (held_in T1 b) t ∷ []) → new ≡ put one (goto_items f places block e)
      → new ≡ put code (plain (fetch T0 a ++ fetch T1 b) ++ Test op (held_in T0 a) (held_in T1 b) t ∷ goto_items f places block e)
  branch_put code one new block t e op a b h k =
      then-put code one new (plain (fetch T0 a ++ fetch T1 b) ++ Test op (held_in T0 a) (held_in T1 b) t ∷ []) (goto_items f places block e) h k
      ∙ ap (put code) (append_assoc (plain (fetch T0 a ++ fetch T1 b)) (Test op (held_in T0 a) (held_in T1 b) t ∷ []) (goto_items f places block e))

  -- ---- instructions of a block

  pub insts_more : (code one total : Code) (block : ℕ) (insts : List MInst) (i : ℕ) (inst : MInst) → i < length insts → inst ≡ get_or insts i inst → put code (insts_items f places block (drop i insts)) ≡ total
      → one ≡ put code (inst_items f places block inst) → put one (insts_items f places block (drop (i + 1) insts)) ≡ total
  insts_more code one total block insts i inst lt is h e =
      then-put code one (put one (insts_items f places block (drop (i + 1) insts))) (inst_items f places block inst) (insts_items f places block (drop (i + 1) insts)) e refl
      ∙ ap (λ (xs : List MInst). put code (insts_items f places block xs)) (sym (split_at insts i inst lt is)) ∙ h

  pub insts_done : (code total : Code) (block : ℕ) (insts : List MInst) (i : ℕ) → length insts ≤ i → put code (insts_items f places block (drop i insts)) ≡ total → code ≡ total
  insts_done code total block insts i le h = sym (put-none code) ∙ ap (λ (xs : List MInst). put code (insts_items f places block xs)) (sym (drop-past insts i le)) ∙ h

  -- ---- blocks

  drop-block : (blocks : List (List MInst)) (i : ℕ) → i < length blocks → drop i blocks ≡ slice_index_or blocks i [] ∷ drop (i + 1) blocks
  drop-block [] i lt = absurd (let bad : ⊥ = omega (arith, lt) in bad)
  drop-block (b ∷ []) zero lt = refl
  drop-block (b ∷ c ∷ bs) zero lt = refl
  drop-block (b ∷ bs) (suc i) lt = let k : suc (i + 1) ≡ suc i + 1 = omega arith in drop-block bs i (omega (arith, lt)) ∙ ap (λ (n : ℕ). slice_index_or bs i [] ∷ drop n (b ∷ bs)) k

  pub block_put : (code one new : Code) (block : ℕ) → one ≡ put code (Bind block ∷ []) → new ≡ put one (insts_items f places block (block_of f block)) → new ≡ put code (Bind block ∷ insts_items f places block (block_of f block))
  block_put code one new block e h = then-put code one new (Bind block ∷ []) (insts_items f places block (block_of f block)) e h

  pub blocks_more : (code one total : Code) (block : ℕ) → block < length f.blocks → put code (blocks_items f places block (drop block f.blocks)) ≡ total
      → one ≡ put code (Bind block ∷ insts_items f places block (block_of f block)) → put one (blocks_items f places (block + 1) (drop (block + 1) f.blocks)) ≡ total
  blocks_more code one total block lt h e =
      then-put code one (put one (blocks_items f places (block + 1) (drop (block + 1) f.blocks))) (Bind block ∷ insts_items f places block (block_of f block)) (blocks_items f places (block + 1) (drop (block + 1) f.blocks)) e refl
      ∙ ap (λ (bs : List (List MInst)). put code (blocks_items f places block bs)) (sym (drop-block f.blocks block lt)) ∙ h

  pub blocks_done : (code total : Code) (block : ℕ) → length f.blocks ≤ block → put code (blocks_items f places block (drop block f.blocks)) ≡ total → code ≡ total
  blocks_done code total block le h = sym (put-none code) ∙ ap (λ (bs : List (List MInst)). put code (blocks_items f places block bs)) (sym (drop-past f.blocks block le)) ∙ h

-- what stands in the list of blocks is the block
pub block_is : (f : MFunction) (block : ℕ) (insts : List MInst) → block < length f.blocks → insts ≡ get_or f.blocks block insts → insts ≡ block_of f block
block_is f block insts lt is = is ∙ same f.blocks block lt
  where
    same : (blocks : List (List MInst)) (i : ℕ) → i < length blocks → get_or blocks i insts ≡ slice_index_or blocks i []
    same [] i lt = absurd (let bad : ⊥ = omega (arith, lt) in bad)
    same (b ∷ bs) zero lt = refl
    same (b ∷ bs) (suc i) lt = same bs i (omega (arith, lt))

-- ---- labels that stand nowhere yet

get-set-apart : (xs : List (Option ℕ)) (i j : ℕ) (x : Option ℕ) → j < i → slice_get (slice_set xs j x) i ≡ slice_get xs i
get-set-apart [] i j x lt = refl
get-set-apart (y ∷ xs) zero j x lt = absurd (let bad : ⊥ = omega (arith, lt) in bad)
get-set-apart (y ∷ xs) (suc i) zero x lt = refl
get-set-apart (y ∷ xs) (suc i) (suc j) x lt = get-set-apart xs i j x (omega (arith, lt))

kept-above : (items : List Item) (at low high label : ℕ) (bound : List (Option ℕ)) → Rise low high items → high ≤ label → slice_get (bind_all at items bound) label ≡ slice_get bound label
kept-above [] at low high label bound h le = refl
kept-above (Plain i ∷ items) at low high label bound h le = kept-above items (at + 1) low high label bound h le
kept-above (Bind l ∷ items) at low high label bound h le =
    let end = rise-ends items (l + 1) high h.1 in
    kept-above items at (l + 1) high label (slice_set bound l (Some at)) h.1 le ∙ get-set-apart bound label l (Some at) (omega (arith, end, le))
kept-above (Goto l ∷ items) at low high label bound h le = kept-above items (at + 1) low high label bound h le
kept-above (Test op a b l ∷ items) at low high label bound h le = kept-above items (at + 1) low high label bound h le

free-behind : (labels : ℕ) (code new : Code) (items : List Item) (low high : ℕ) → Rise low high items → new ≡ put code items → AreFree labels low code → AreFree labels high new
unfolding put
free-behind labels code new items low high rise is free label le lt =
    let end = rise-ends items low high rise in
    ap (λ (c : Code). slice_get c.bound label) is ∙ kept-above items (length code.items) low high label code.bound rise le ∙ free label (omega (arith, le, end)) lt

abbrev nowhere : Option ℕ
nowhere = None

nothing-bound : (labels label : ℕ) → label < labels → slice_get (replicate labels nowhere) label ≡ Some nowhere
nothing-bound zero label lt = absurd (let bad : ⊥ = omega (arith, lt) in bad)
nothing-bound (suc labels) zero lt = refl
nothing-bound (suc labels) (suc label) lt = nothing-bound labels label (omega (arith, lt))

-- behind a block
pub block_free : (f : MFunction) (places : Places) (labels : ℕ) (code one : Code) (block : ℕ) → one ≡ put code (Bind block ∷ insts_items f places block (block_of f block)) → AreFree labels block code → AreFree labels (block + 1) one
block_free f places labels code one block e free =
    free-behind labels code one (Bind block ∷ insts_items f places block (block_of f block)) block (block + 1) (omega arith, rise-insts f places block (block + 1) (block_of f block)) e free

-- behind the entry
pub entry_free : (labels : ℕ) (code one : Code) (xs : List Instr) → code ≡ labelled labels → one ≡ put_code code xs → AreFree labels 0 one
entry_free labels code one xs is e =
    free-behind labels code one (plain xs) 0 0 (rise-plain xs 0) (e ∙ code_is code xs) (λ label le lt. ap (λ (c : Code). slice_get c.bound label) is ∙ nothing-bound labels label lt)

-- ---- the whole

pub function_put : (f : MFunction) (places : Places) (labels : ℕ) (code one new : Code) → labels ≡ length f.blocks → code ≡ labelled labels → one ≡ put_code code (entry_code f places) → new ≡ put one (blocks_items f places 0 f.blocks) → new ≡ code_of f places
function_put f places labels code one new count is e k =
    k ∙ ap (λ (c : Code). put c (blocks_items f places 0 f.blocks)) e ∙ code_put code (entry_code f places) (blocks_items f places 0 f.blocks)
    ∙ ap (λ (c : Code). put c (function_items f places)) (is ∙ ap labelled count)

-- ---- bytes that are taken

cap-same : (a b : ℕ) → (a < 2 ^ 32 → a ≡ b) → (2 ^ 32 ≤ a → 2 ^ 32 ≤ b) → taken_bytes a ≡ taken_bytes b
cap-same a b h k = by_cases (taken-is a) (taken-is b)
  where
    by_cases : ((a < 2 ^ 32) × (taken_bytes a ≡ a)) ⊎ ((2 ^ 32 ≤ a) × (taken_bytes a ≡ 2 ^ 32)) → ((b < 2 ^ 32) × (taken_bytes b ≡ b)) ⊎ ((2 ^ 32 ≤ b) × (taken_bytes b ≡ 2 ^ 32)) → taken_bytes a ≡ taken_bytes b
    by_cases (inl x) y = ap taken_bytes (h x.0)
    by_cases (inr x) (inl y) = absurd (let le = k x.0 in let lt = y.0 in let bad : ⊥ = omega (arith, le, lt) in bad)
    by_cases (inr x) (inr y) = x.1 ∙ sym y.1

-- one more of a sum that is capped at each step
pub capped_more : (total bytes rest : ℕ) → taken_bytes (taken_bytes (total + taken_bytes bytes) + rest) ≡ taken_bytes (total + (bytes + rest))
capped_more total bytes rest = by_cases (taken-is bytes) (taken-is (total + taken_bytes bytes))
  where
    by_cases : ((bytes < 2 ^ 32) × (taken_bytes bytes ≡ bytes)) ⊎ ((2 ^ 32 ≤ bytes) × (taken_bytes bytes ≡ 2 ^ 32))
        → ((total + taken_bytes bytes < 2 ^ 32) × (taken_bytes (total + taken_bytes bytes) ≡ total + taken_bytes bytes)) ⊎ ((2 ^ 32 ≤ total + taken_bytes bytes) × (taken_bytes (total + taken_bytes bytes) ≡ 2 ^ 32))
        → taken_bytes (taken_bytes (total + taken_bytes bytes) + rest) ≡ taken_bytes (total + (bytes + rest))
    by_cases (inl x) (inl y) = let e = x.1 in let g = y.1 in ap taken_bytes (let z : taken_bytes (total + taken_bytes bytes) + rest ≡ total + (bytes + rest) = omega (arith, e, g) in z)
    by_cases (inl x) (inr y) =
        let e = x.1 in let g = y.1 in let le = y.0 in
        cap-same (taken_bytes (total + taken_bytes bytes) + rest) (total + (bytes + rest)) (λ lt. absurd (let bad : ⊥ = omega (arith, g, lt) in bad)) (λ z. omega (arith, e, le))
    by_cases (inr x) (inl y) = absurd (let e = x.1 in let lt = y.0 in let bad : ⊥ = omega (arith, e, lt) in bad)
    by_cases (inr x) (inr y) =
        let g = y.1 in let le = x.0 in
        cap-same (taken_bytes (total + taken_bytes bytes) + rest) (total + (bytes + rest)) (λ lt. absurd (let bad : ⊥ = omega (arith, g, lt) in bad)) (λ z. omega (arith, le))

far-form : (n : ℕ) → (b c : Bool) → b ≡ false → c ≡ false → (xs ys zs : List Instr) → cond b xs (cond c ys zs) ≡ zs
far-form n false false e g xs ys zs = refl
far-form n true c e g xs ys zs = absurd (let bad : true ≡ false = e in cc)
far-form n false true e g xs ys zs = absurd (let bad : true ≡ false = g in cc)

is-far : (n : ℕ) → 2048 < n → give_back n ≡ const_code 3 T0 (taken_bytes n) ++ rv.Op Sub S11 S11 T0 ∷ []
unfolding give_back
is-far n lt = far-form n (n == 0) (nat_le n 2048) (grind (arith, lt)) (grind (arith, lt)) [] (rv.Imm Addi S11 S11 (negative n) ∷ []) (const_code 3 T0 (taken_bytes n) ++ rv.Op Sub S11 S11 T0 ∷ [])

-- what is given back is the same where it is capped
pub given_capped : (n : ℕ) → give_back (taken_bytes n) ≡ give_back n
given_capped n = by_case (taken-is n)
  where
    by_case : ((n < 2 ^ 32) × (taken_bytes n ≡ n)) ⊎ ((2 ^ 32 ≤ n) × (taken_bytes n ≡ 2 ^ 32)) → give_back (taken_bytes n) ≡ give_back n
    by_case (inl x) = ap give_back x.1
    by_case (inr x) =
        let le = x.0 in let e = x.1 in
        is-far (taken_bytes n) (omega (arith, e)) ∙ ap (λ (k : ℕ). const_code 3 T0 k ++ rv.Op Sub S11 S11 T0 ∷ []) (ap taken_bytes e ∙ sym e) ∙ sym (is-far n (omega (arith, le)))

pub taken_more : (insts : List MInst) (i bytes new total : ℕ) (inst : MInst) → i < length insts → inst ≡ get_or insts i inst → taken_bytes (bytes + taken_in (drop i insts)) ≡ total → new ≡ taken_bytes (bytes + taken_bytes (taken_by inst))
    → taken_bytes (new + taken_in (drop (i + 1) insts)) ≡ total
taken_more insts i bytes new total inst lt is h e =
    ap (λ (n : ℕ). taken_bytes (n + taken_in (drop (i + 1) insts))) e ∙ capped_more bytes (taken_by inst) (taken_in (drop (i + 1) insts))
    ∙ ap (λ (xs : List MInst). taken_bytes (bytes + taken_in xs)) (sym (split_at insts i inst lt is)) ∙ h

-- all are counted
pub taken_done : (insts : List MInst) (i bytes : ℕ) → length insts ≤ i → bytes ≤ 2 ^ 32 → taken_bytes (bytes + taken_in (drop i insts)) ≡ taken_bytes (taken_in insts) → bytes ≡ taken_bytes (taken_in insts)
taken_done insts i bytes le small h = by_case (taken-is bytes) ∙ ap taken_bytes zero-more ∙ h
  where
    zero-more : bytes ≡ bytes + taken_in (drop i insts)
    zero-more = let e : taken_in (drop i insts) ≡ 0 = ap taken_in (drop-past insts i le) in omega (arith, e)

    by_case : ((bytes < 2 ^ 32) × (taken_bytes bytes ≡ bytes)) ⊎ ((2 ^ 32 ≤ bytes) × (taken_bytes bytes ≡ 2 ^ 32)) → bytes ≡ taken_bytes bytes
    by_case (inl x) = sym x.1
    by_case (inr x) = let le = x.0 in let e = x.1 in omega (arith, le, e, small)
