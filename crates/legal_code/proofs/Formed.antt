-- The legal form of a well formed function is well formed.
use Rattle.std.proofs.Common.{◌≡◌, refl, sym, ap, subst, ◌∙◌, ℕ, zero, suc, ◌+◌, ◌-◌, ◌^◌, ◌<◌, ◌≤◌, ◌⊎◌, inl, inr, ⊎_elim, Bool, true, false, List, [], ◌∷◌, ◌++◌, length, map, Some, arith}
use Rattle.std.specs.Prelude.{if◌then◌else◌, ◌==◌, slice_get, slice_index_or}
use Rattle.std.proofs.lemmas.List.{append_assoc}
use Rattle.std.proofs.lemmas.Bool.{cases_lt, ne_eqb, false≢true}
use Rattle.std.proofs.lemmas.Nat.{pow_pos}
use Rattle.ir_flow.specs.Flow.{Walk, next_in}
use Rattle.gmir.specs.declared.code.GType.{GType}
use Rattle.gmir.specs.declared.code.GType.TheVariants.{S, P0}
use Rattle.gmir.specs.declared.code.GOp.{GOp}
use Rattle.gmir.specs.declared.code.GOp.TheVariants.{And, ZExt, SExt, SExtInReg, Constant, Param, Copy}
use Rattle.gmir.specs.declared.code.GInst.{GInst}
use Rattle.gmir.specs.declared.code.GFunction.{GFunction}
use Rattle.gmir.specs.Play.{width, use_at, is_phi, insts_at}
use Rattle.gmir.specs.Formed.{Has, HasForm, AllExist, is_end, is_branch, is_param, takes_data, targets, edges, edges_of, all_written, times, Passes, IsAssigned, AllAssigned, AllOnEdges, AssignedBy, UsesAssigned, IsInstAt, IsFormed}
use Rattle.gmir.proofs.Places.{HoldsFrom, each}
use Rattle.legal_code.specs.Legal.{Above, Anything, Zeros, Signs, above, Extension, Kept, ByZeros, BySigns, by_type, extends, taken, extended, extension, extensions, operands, taken_all, mask, masked, signed, Form, Same, Masks, Extends, Copies, form, before, before_by, last, last_by, spent, spent_by, legal_insts, legal_blocks, spent_insts, spent_blocks, legalized, HasWideAddresses}
use Rattle.legal_code.specs.Laws.{LegalFormsAreFormed}
use Rattle.legal_code.proofs.Numbers.{power_low}
use Rattle.legal_code.proofs.Widens.{HasWidths, widths_at}
use Rattle.legal_code.proofs.Weights.{masks_zext, extends_sext, IsCopied, trunc, any, copied_op}
use Rattle.legal_code.proofs.Registers.{legal_forms_are_legal}
use Rattle.legal_code.proofs.Blocks.{Works, constant, and_, signed_, Stays, stays, phi_stays, last_phi, legal_at}
use Rattle.legal_code.proofs.Sound.{block_sound}
use Rattle.legal_code.proofs.Written.{writes, writes_cons, writes_append, once_written, last_defs, insts_part, blocks_part}
use Rattle.legal_code.proofs.Forms.{registers, old_has, new_has, same_form, masks_form, extends_form, copies_form}

-- what holds of the operation of each instruction
abbrev AllAre : (GOp → Bool) → List GInst → Type 0
AllAre q is = (other : GInst) (k : ℕ) → slice_get is k ≡ Some other → q other.op ≡ true

is_same : (x y : GInst) → Some x ≡ Some y → x ≡ y
is_same x y e = cc

all_push : (q : GOp → Bool) (is : List GInst) (i : GInst) → AllAre q is → q i.op ≡ true → AllAre q (is ++ i ∷ [])
all_push q [] i h e other zero k = subst (λ z. q z.op ≡ true) (is_same i other k) e
all_push q [] i h e other (suc n) k = absurd (let bad : ⊥ = cc in bad)
all_push q (x ∷ xs) i h e other zero k = h other zero k
all_push q (x ∷ xs) i h e other (suc n) k = all_push q xs i (λ o m z. h o (suc m) z) e other n k

all_first : (q : GOp → Bool) (is js : List GInst) → AllAre q (is ++ js) → AllAre q is
all_first q [] js h other k e = absurd (let bad : ⊥ = cc in bad)
all_first q (x ∷ xs) js h other zero e = h other zero e
all_first q (x ∷ xs) js h other (suc k) e = all_first q xs js (λ o m z. h o (suc m) z) other k e

all_last : (q : GOp → Bool) (is : List GInst) (i : GInst) → AllAre q (is ++ i ∷ []) → q i.op ≡ true
all_last q [] i h = h i 0 refl
all_last q (x ∷ xs) i h = all_last q xs i (λ o m z. h o (suc m) z)

no_target : {A : Type 0} (k to : ℕ) → slice_get [] k ≡ Some to → A
no_target k to e = absurd (let bad : ⊥ = cc in bad)

is_param_op : (op : GOp) → is_param op ≡ true → op ≡ Param
is_param_op Param e = refl
is_param_op _ e = absurd (let bad : ⊥ = cc in bad)

-- what a new form keeps of its operation
module _ (A : Type 0) (q : GOp → A) (and_is : q And ≡ q ZExt) (sext_is : q SExtInReg ≡ q SExt) (copy_is : (op : GOp) → IsCopied op → q Copy ≡ q op) (types : List GType) where
  keeps_op : (next : ℕ) (i : GInst) → q (last types next i).op ≡ q i.op
  keeps_op next i = by (form i.op) refl
    where
      by : (x : Form) → form i.op ≡ x → q (last_by types x next i).op ≡ q i.op
      by Same e = refl
      by Masks e = and_is ∙ sym (ap q (masks_zext i.op e))
      by Extends e = sext_is ∙ sym (ap q (extends_sext i.op e))
      by Copies e = copy_is i.op (copied_op i.op e)

end_copied : (op : GOp) → IsCopied op → is_end Copy ≡ is_end op
end_copied _ trunc = refl
end_copied _ any = refl

branch_copied : (op : GOp) → IsCopied op → is_branch Copy ≡ is_branch op
branch_copied _ trunc = refl
branch_copied _ any = refl

param_copied : (op : GOp) → IsCopied op → is_param Copy ≡ is_param op
param_copied _ trunc = refl
param_copied _ any = refl

data_copied : (op : GOp) → IsCopied op → takes_data Copy ≡ takes_data op
data_copied _ trunc = refl
data_copied _ any = refl

module _ (types : List GType) where
  last_end : (next : ℕ) (i : GInst) → is_end (last types next i).op ≡ is_end i.op
  last_end = keeps_op Bool is_end refl refl end_copied types

  last_branch : (next : ℕ) (i : GInst) → is_branch (last types next i).op ≡ is_branch i.op
  last_branch = keeps_op Bool is_branch refl refl branch_copied types

  last_param : (next : ℕ) (i : GInst) → is_param (last types next i).op ≡ is_param i.op
  last_param = keeps_op Bool is_param refl refl param_copied types

  last_data : (next : ℕ) (i : GInst) → takes_data (last types next i).op ≡ takes_data i.op
  last_data = keeps_op Bool takes_data refl refl data_copied types

  last_to : (next : ℕ) (i : GInst) → (last types next i).to ≡ i.to
  last_to next i = by (form i.op)
    where
      by : (x : Form) → (last_by types x next i).to ≡ i.to
      by Same = refl
      by Masks = refl
      by Extends = refl
      by Copies = refl

  last_targets : (next : ℕ) (i : GInst) → targets (last types next i) ≡ targets i
  last_targets next i =
      ap (λ b. if b then (last types next i).to else []) (last_branch next i) ∙ ap (λ to. if is_branch i.op then to else []) (last_to next i)

  -- ---- edges

  edges_append : (is js : List GInst) → edges (is ++ js) ≡ edges is ++ edges js
  edges_append [] js = refl
  edges_append (i ∷ is) js = ap (λ z. targets i ++ z) (edges_append is js) ∙ sym (append_assoc (targets i) (edges is) (edges js))

  extends_no_edges : (e : Extension) (a next : ℕ) → edges (extends e a next) ≡ []
  extends_no_edges Kept a next = refl
  extends_no_edges (ByZeros w) a next = refl
  extends_no_edges (BySigns w) a next = refl

  extensions_no_edges : (op : GOp) (n k next : ℕ) (rs : List ℕ) → edges (extensions types op n k next rs) ≡ []
  extensions_no_edges op n k next [] = refl
  extensions_no_edges op n k next (r ∷ rs) =
      edges_append (extends (extension types op n k r) r next) (extensions types op n (suc k) (next + taken (extension types op n k r)) rs)
      ∙ ap (λ z. z ++ edges (extensions types op n (suc k) (next + taken (extension types op n k r)) rs)) (extends_no_edges (extension types op n k r) r next)
      ∙ extensions_no_edges op n (suc k) (next + taken (extension types op n k r)) rs

  before_no_edges : (next : ℕ) (i : GInst) → edges (before types next i) ≡ []
  before_no_edges next i = by (form i.op)
    where
      by : (x : Form) → edges (before_by types x next i) ≡ []
      by Same = extensions_no_edges i.op i.num 0 next i.uses
      by Masks = refl
      by Extends = refl
      by Copies = refl

  edges_same : (next : ℕ) (is : List GInst) → edges (legal_insts types next is) ≡ edges is
  edges_same next [] = refl
  edges_same next (i ∷ is) =
      edges_append (before types next i) (last types next i ∷ legal_insts types (next + spent types i) is)
      ∙ ap (λ z. z ++ edges (last types next i ∷ legal_insts types (next + spent types i) is)) (before_no_edges next i)
      ∙ ap (λ z. z ++ edges (legal_insts types (next + spent types i) is)) (last_targets next i)
      ∙ ap (λ z. targets i ++ z) (edges_same (next + spent types i) is)

  all_edges_same : (next : ℕ) (bs : List (List GInst)) → map edges (legal_blocks types next bs) ≡ map edges bs
  all_edges_same next [] = refl
  all_edges_same next (b ∷ bs) =
      ap (λ z. z ∷ map edges (legal_blocks types (next + spent_insts types b) bs)) (edges_same next b) ∙ ap (λ z. edges b ∷ z) (all_edges_same (next + spent_insts types b) bs)

  blocks_long : (next : ℕ) (bs : List (List GInst)) → length (legal_blocks types next bs) ≡ length bs
  blocks_long next [] = refl
  blocks_long next (b ∷ bs) = ap suc (blocks_long (next + spent_insts types b) bs)

  -- none is empty but one that was
  more_than : (ps : List GInst) (j : GInst) (rest : List GInst) → 1 ≤ length (ps ++ j ∷ rest)
  more_than [] j rest = omega arith
  more_than (p ∷ ps) j rest = omega arith

  same_emptiness : (next : ℕ) (is : List GInst) → (length (legal_insts types next is) == 0) ≡ (length is == 0)
  same_emptiness next [] = refl
  same_emptiness next (i ∷ is) =
      let l = more_than (before types next i) (last types next i) (legal_insts types (next + spent types i) is) in
      ne_eqb (length (before types next i ++ last types next i ∷ legal_insts types (next + spent types i) is)) 0 (λ e. let bad : ⊥ = omega (arith, e, l) in bad)
      ∙ sym (ne_eqb (suc (length is)) 0 (λ e. let bad : ⊥ = omega (arith, e) in bad))

module _ (f : GFunction) (formed : IsFormed f) (wide_ : HasWideAddresses f) where
  abbrev h : GFunction
  h = legalized f

  abbrev bound : ℕ
  bound = length f.types

  widths : HasWidths f.types
  widths = formed.widths

  many : length h.types ≡ bound + spent_blocks f.types f.blocks
  many = registers f widths

  below_all : (r : ℕ) → r < bound → r < length h.types
  below_all r l = let m = many in omega (arith, l, m)

  exist_all : (rs : List ℕ) → AllExist f rs → AllExist h rs
  exist_all [] x = tt
  exist_all (r ∷ rs) x = (below_all r x.0, exist_all rs x.1)

  place : (b : ℕ) → (n : ℕ) × (bound ≤ n) × (insts_at h b ≡ legal_insts f.types n (insts_at f b)) × (n + spent_insts f.types (insts_at f b) ≤ bound + spent_blocks f.types f.blocks)
  place b = legal_at f.types bound f.blocks b

  graph : edges_of h ≡ edges_of f
  graph = all_edges_same f.types bound f.blocks

  block_edges : (b : ℕ) → edges (insts_at h b) ≡ edges (insts_at f b)
  block_edges b = ap edges (place b).2 ∙ edges_same f.types (place b).0 (insts_at f b)

  -- ---- assignment

  block_writes : (b r : ℕ) → r < bound → writes r (insts_at h b) ≡ writes r (insts_at f b)
  block_writes b r l = ap (writes r) (place b).2 ∙ (insts_part f (place b).0 (insts_at f b) (place b).1 (block_sound f formed wide_ b)).old r l

  passes_same : (r : ℕ) → r < bound → (blocks : List ℕ) → Passes f r blocks → Passes h r blocks
  passes_same r l [] x = x
  passes_same r l (b ∷ bs) (inl x) = inl (let e = block_writes b r l in omega (arith, x, e))
  passes_same r l (b ∷ bs) (inr x) = inr (passes_same r l bs x)

  -- more is written
  abbrev Grows : List GInst → List GInst → Type 0
  Grows done done' = (r : ℕ) → writes r done ≤ writes r done'

  abbrev GrowsOld : List GInst → List GInst → Type 0
  GrowsOld done done' = (r : ℕ) → r < bound → writes r done ≤ writes r done'

  assigned_same : (b : ℕ) (done done' : List GInst) (r : ℕ) → r < bound → GrowsOld done done' → IsAssigned f b done r → IsAssigned h b done' r
  assigned_same b done done' r l g (inl x) = inl (let m = g r l in omega (arith, x, m))
  assigned_same b done done' r l g (inr x) = inr (λ earlier walk. passes_same r l earlier (x earlier (subst (λ e. Walk (next_in e) earlier b) graph walk)))

  all_assigned : (b : ℕ) (done done' : List GInst) (rs : List ℕ) → AllExist f rs → GrowsOld done done' → AllAssigned f b done rs → AllAssigned h b done' rs
  all_assigned b done done' [] x g y = tt
  all_assigned b done done' (r ∷ rs) x g y = (assigned_same b done done' r x.0 g y.0, all_assigned b done done' rs x.1 g y.1)

  on_edges : (bs rs : List ℕ) → AllExist f rs → AllOnEdges f bs rs → AllOnEdges h bs rs
  on_edges [] [] x y = tt
  on_edges [] (r ∷ rs) x y = tt
  on_edges (b ∷ bs) [] x y = tt
  on_edges (b ∷ bs) (r ∷ rs) x y =
      (assigned_same b (insts_at f b) (insts_at h b) r x.0 (λ z l. let e = block_writes b z l in omega (arith, e)) y.0, on_edges bs rs x.1 y.1)

  assigned_more : (b : ℕ) (done done' : List GInst) (r : ℕ) → Grows done done' → IsAssigned h b done r → IsAssigned h b done' r
  assigned_more b done done' r g (inl x) = inl (let m = g r in omega (arith, x, m))
  assigned_more b done done' r g (inr x) = inr x

  all_more : (b : ℕ) (done done' : List GInst) (rs : List ℕ) → Grows done done' → AllAssigned h b done rs → AllAssigned h b done' rs
  all_more b done done' [] g x = tt
  all_more b done done' (r ∷ rs) g x = (assigned_more b done done' r g x.0, all_more b done done' rs g x.1)

  push_grows : (done : List GInst) (p : GInst) → Grows done (done ++ p ∷ [])
  push_grows done p r = let e = writes_append r done (p ∷ []) in omega (arith, e)

  -- what was just written
  just : (b d : ℕ) (done : List GInst) (p : GInst) → p.defs ≡ d ∷ [] → IsAssigned h b (done ++ p ∷ []) d
  just b d done p e =
      let all = writes_append d done (p ∷ []) in
      let one = writes_cons d p [] in
      let own : times d p.defs ≡ 1 = ap (times d) e ∙ once_written d in
      inl (omega (arith, all, one, own))

  -- ---- instructions that extend

  module _ (b : ℕ) where
    abbrev At : List GInst → GInst → List GInst → Type 0
    At = IsInstAt h b

    work_at : (op : GOp) → Works op → (x : ℕ) (us : List ℕ) (n : ℕ) (done more : List GInst) → HasForm h (record { op = op; defs = x ∷ []; uses = us; num = n; to = [] }) op
        → x < length h.types → AllExist h us → AllAssigned h b done us → (length more == 0) ≡ false → At done (record { op = op; defs = x ∷ []; uses = us; num = n; to = [] }) more
    work_at _ constant x us n done more form_is l exist assigned e = record {
      form = form_is;
      defs = (l, tt);
      uses = exist;
      assigned = assigned;
      ends = sym e;
      targets' = λ k to z. no_target k to z;
      phi = λ z. absurd (false≢true z);
      param = λ z. absurd (false≢true z);
      data' = λ z. absurd (false≢true z);
    }
    work_at _ and_ x us n done more form_is l exist assigned e = record {
      form = form_is;
      defs = (l, tt);
      uses = exist;
      assigned = assigned;
      ends = sym e;
      targets' = λ k to z. no_target k to z;
      phi = λ z. absurd (false≢true z);
      param = λ z. absurd (false≢true z);
      data' = λ z. absurd (false≢true z);
    }
    work_at _ signed_ x us n done more form_is l exist assigned e = record {
      form = form_is;
      defs = (l, tt);
      uses = exist;
      assigned = assigned;
      ends = sym e;
      targets' = λ k to z. no_target k to z;
      phi = λ z. absurd (false≢true z);
      param = λ z. absurd (false≢true z);
      data' = λ z. absurd (false≢true z);
    }

    ones_low : (w : ℕ) → w ≤ 64 → 2 ^ w - 1 < 2 ^ 64
    ones_low w l = let p = power_low w 64 l in let q = pow_pos w in omega (arith, p, q)

    mask_at : (x w : ℕ) (done more : List GInst) → bound ≤ x → x < length h.types → w ≤ 64 → (length more == 0) ≡ false → At done (mask x w) more
    mask_at x w done more low top small e =
        work_at Constant constant x [] (2 ^ w - 1) done more (x, S 64, record { defs = refl; type = new_has f widths x low top; uses = refl }, ones_low w small) top tt tt e

    -- what is asked of an extension
    abbrev CanExtend : Extension → ℕ → Type 0
    CanExtend Kept a = Unit {0}
    CanExtend (ByZeros w) a = (w ≤ 64) × Has h a (S 64)
    CanExtend (BySigns w) a = (1 ≤ w) × (w ≤ 64) × Has h a (S 64)

    can_extend : (x : Above) (a : ℕ) → a < bound → CanExtend (by_type x (slice_index_or f.types a P0)) a
    can_extend x a l = by x (slice_index_or f.types a P0) (is_there f.types a l)
      where
        is_there : (ts : List GType) (a : ℕ) → a < length ts → slice_get ts a ≡ Some (slice_index_or ts a P0)
        is_there [] a l = absurd (let bad : ⊥ = omega (arith, l) in bad)
        is_there (t ∷ ts) zero l = refl
        is_there (t ∷ ts) (suc a) l = is_there ts a (omega (arith, l))

        by_test : (t : Bool) (z : Extension) → CanExtend z a → CanExtend (if t then Kept else z) a
        by_test true z k = tt
        by_test false z k = k

        by : (x : Above) (ty : GType) → Has f a ty → CanExtend (by_type x ty) a
        by Anything ty e = tt
        by Zeros P0 e = tt
        by Signs P0 e = tt
        by Zeros (S w) e = by_test (w == 64) (ByZeros w) ((formed.widths a w e).1, old_has f widths a (S w) e)
        by Signs (S w) e = by_test (w == 64) (BySigns w) ((formed.widths a w e).0, (formed.widths a w e).1, old_has f widths a (S w) e)

    -- what stands behind it may take it as extended
    abbrev Behind : List GInst → ℕ → List GInst → Type 0
    Behind done x more = (done' : List GInst) → Grows done done' → IsAssigned h b done' x → HoldsFrom At done' more

    one_extended : (e : Extension) (a next : ℕ) (done more : List GInst) → CanExtend e a → a < bound → bound ≤ next → next + taken e ≤ length h.types → IsAssigned h b done a
        → (length more == 0) ≡ false → Behind done (extended e a next) more → HoldsFrom At done (extends e a next ++ more)
    one_extended Kept a next done more can l low top assigned e rest = rest done (λ r. let z : writes r done ≤ writes r done = omega arith in z) assigned
    one_extended (ByZeros w) a next done more can l low top assigned e rest = (
      mask_at next w done (masked (next + 1) a next ∷ more) low (omega (arith, top)) can.0 (ne_eqb (suc (length more)) 0 (λ e. let bad : ⊥ = omega (arith, e) in bad)),
      (
        work_at And and_ (next + 1) (a ∷ next ∷ []) 0 (done ++ mask next w ∷ []) more
            (next + 1, a, next, 64, record { defs = refl; type = new_has f widths (next + 1) (omega (arith, low)) (omega (arith, top)); uses = refl }, can.1, new_has f widths next low (omega (arith, top)))
            (omega (arith, top)) (below_all a l, (omega (arith, top), tt))
            (assigned_more b done (done ++ mask next w ∷ []) a (push_grows done (mask next w)) assigned, (just b next done (mask next w) refl, tt)) e,
        rest ((done ++ mask next w ∷ []) ++ masked (next + 1) a next ∷ [])
            (λ r. let x = push_grows done (mask next w) r in let y = push_grows (done ++ mask next w ∷ []) (masked (next + 1) a next) r in omega (arith, x, y))
            (just b (next + 1) (done ++ mask next w ∷ []) (masked (next + 1) a next) refl),
      ),
    )
    one_extended (BySigns w) a next done more can l low top assigned e rest = (
      work_at SExtInReg signed_ next (a ∷ []) w done more
          (next, a, 64, record { defs = refl; type = new_has f widths next low (omega (arith, top)); uses = refl }, can.2, can.0, can.1)
          (omega (arith, top)) (below_all a l, tt) (assigned, tt) e,
      rest (done ++ signed next a w ∷ []) (push_grows done (signed next a w)) (just b next done (signed next a w) refl),
    )

    -- all operands of an instruction
    module _ (op : GOp) (n : ℕ) where
      abbrev AllBehind : List GInst → List ℕ → List GInst → Type 0
      AllBehind done us more = (done' : List GInst) → Grows done done' → AllAssigned h b done' us → HoldsFrom At done' more

      not_empty : (xs more : List GInst) → (length more == 0) ≡ false → (length (xs ++ more) == 0) ≡ false
      not_empty [] more e = e
      not_empty (x ∷ xs) more e = ne_eqb (suc (length (xs ++ more))) 0 (λ e. let bad : ⊥ = omega (arith, e) in bad)

      all_extended : (k next : ℕ) (rs : List ℕ) (done more : List GInst) → AllExist f rs → bound ≤ next → next + taken_all f.types op n k rs ≤ length h.types → AllAssigned h b done rs
          → (length more == 0) ≡ false → AllBehind done (operands f.types op n k next rs) more → HoldsFrom At done (extensions f.types op n k next rs ++ more)
      all_extended k next [] done more exist low top assigned e rest = rest done (λ r. let z : writes r done ≤ writes r done = omega arith in z) tt
      all_extended k next (r ∷ rs) done more exist low top assigned e rest =
          subst (HoldsFrom At done) (sym (append_assoc (extends (extension f.types op n k r) r next) (extensions f.types op n (suc k) (next + taken (extension f.types op n k r)) rs) more))
          (one_extended (extension f.types op n k r) r next done (extensions f.types op n (suc k) (next + taken (extension f.types op n k r)) rs ++ more) (can_extend (above op n k) r exist.0) exist.0 low
          (omega (arith, top)) assigned.0 (not_empty (extensions f.types op n (suc k) (next + taken (extension f.types op n k r)) rs) more e)
          (λ done' grows first.
          all_extended (suc k) (next + taken (extension f.types op n k r)) rs done' more exist.1 (omega (arith, low)) (omega (arith, top)) (all_more b done done' rs grows assigned.1) e
          (λ done'' grows' others. rest done'' (λ x. let p = grows x in let q = grows' x in omega (arith, p, q)) (assigned_more b done' done'' (extended (extension f.types op n k r) r next) grows' first, others))))

    -- ---- one instruction

    -- what was passed
    record Passed (done done' : List GInst) : Type 0 where
      more : GrowsOld done done'
      phis : AllAre is_phi done → AllAre is_phi done'
      params : AllAre is_param done → AllAre is_param done'

    module _ (inside : b < length f.blocks) (next : ℕ) (i : GInst) (done behind : List GInst) (at : IsInstAt f b done i behind) (low : bound ≤ next) (top : next + spent f.types i ≤ length h.types) where
      abbrev j : GInst
      j = last f.types next i

      top_by : (x : Form) → form i.op ≡ x → next + spent_by f.types x i ≤ length h.types
      top_by x e = subst (λ z. next + spent_by f.types z i ≤ length h.types) e top

      form_by : (x : Form) → form i.op ≡ x → HasForm h (last_by f.types x next i) (last_by f.types x next i).op
      form_by Same e = same_form f widths i next low (top_by Same e) i.op e at.form
      form_by Masks e = let m = top_by Masks e in masks_form f widths i next low (subst (HasForm f i) (masks_zext i.op e) at.form) (omega (arith, m))
      form_by Extends e = extends_form f widths i next low (subst (HasForm f i) (extends_sext i.op e) at.form)
      form_by Copies e = copies_form f widths i next low i.op (copied_op i.op e) at.form

      operand_exists : (e : Extension) (a n : ℕ) → a < bound → n + taken e ≤ length h.types → extended e a n < length h.types
      operand_exists Kept a n l m = below_all a l
      operand_exists (ByZeros w) a n l m = omega (arith, m)
      operand_exists (BySigns w) a n l m = omega (arith, m)

      operands_exist : (k n : ℕ) (rs : List ℕ) → AllExist f rs → n + taken_all f.types i.op i.num k rs ≤ length h.types → AllExist h (operands f.types i.op i.num k n rs)
      operands_exist k n [] x m = tt
      operands_exist k n (r ∷ rs) x m =
          (operand_exists (extension f.types i.op i.num k r) r n x.0 (omega (arith, m)), operands_exist (suc k) (n + taken (extension f.types i.op i.num k r)) rs x.1 (omega (arith, m)))

      exist_push : (rs : List ℕ) (x : ℕ) → AllExist h rs → x < length h.types → AllExist h (rs ++ x ∷ [])
      exist_push [] x y l = (l, tt)
      exist_push (r ∷ rs) x y l = (y.0, exist_push rs x y.1 l)

      exist_by : (x : Form) → form i.op ≡ x → AllExist h (last_by f.types x next i).uses
      exist_by Same e = operands_exist 0 next i.uses at.uses (top_by Same e)
      exist_by Masks e = let m = top_by Masks e in exist_push i.uses next (exist_all i.uses at.uses) (omega (arith, m))
      exist_by Extends e = exist_all i.uses at.uses
      exist_by Copies e = exist_all i.uses at.uses

      last_at : (done' more : List GInst) → UsesAssigned h b done' j → (is_phi i.op ≡ true → AllAre is_phi done') → (is_param i.op ≡ true → AllAre is_param done')
          → (length more == 0) ≡ (length behind == 0) → At done' j more
      last_at done' more assigned phis params same = record {
        form = form_by (form i.op) refl;
        defs = subst (AllExist h) (sym (last_defs f.types bound next i)) (exist_all i.defs at.defs);
        uses = exist_by (form i.op) refl;
        assigned = assigned;
        ends = last_end f.types next i ∙ at.ends ∙ sym same;
        targets' = λ k to z.
            let x = at.targets' k to (subst (λ ts. slice_get ts k ≡ Some to) (last_targets f.types next i) z) in
            let l = x.1 in let m = blocks_long f.types bound f.blocks in (x.0, omega (arith, l, m));
        phi = λ z.
            let e : is_phi i.op ≡ true = sym (last_phi f.types next i) ∙ z in
            let x = at.phi e in
            record {
              later = x.later;
              first = phis e;
              named = λ from y. ap (times from) (last_to f.types next i) ∙ x.named from (subst (λ es. 1 ≤ times b es) (block_edges from) y);
              only = λ from y. subst (λ es. 1 ≤ times b es) (sym (block_edges from)) (x.only from (subst (λ to. 1 ≤ times from to) (last_to f.types next i) y));
            };
        param = λ z. let e : is_param i.op ≡ true = sym (last_param f.types next i) ∙ z in record { entry = (at.param e).entry; first = params e };
        data' = λ z. at.data' (sym (last_data f.types next i) ∙ z);
      }

      passed_on : (done' done'' : List GInst) → GrowsOld done done'' → (AllAre is_phi (done ++ i ∷ []) → AllAre is_phi (done'' ++ j ∷ [])) → (AllAre is_param (done ++ i ∷ []) → AllAre is_param (done'' ++ j ∷ []))
          → Passed (done ++ i ∷ []) (done'' ++ j ∷ [])
      passed_on done' done'' g phis params = record {
        more = λ r l.
            let one = writes_append r done (i ∷ []) in let two = writes_append r done'' (j ∷ []) in
            let a = writes_cons r i [] in let c = writes_cons r j [] in
            let same : times r j.defs ≡ times r i.defs = ap (times r) (last_defs f.types bound next i) in
            let z = g r l in omega (arith, one, two, a, c, same, z);
        phis = phis;
        params = params;
      }

      abbrev Goal : List GInst → List GInst → Type 0
      Goal done' more = HoldsFrom At done' (before f.types next i ++ j ∷ more)

      abbrev Rest : List GInst → Type 0
      Rest more = (done' : List GInst) → Passed (done ++ i ∷ []) done' → HoldsFrom At done' more

      -- one that stays
      stays_at : (done' more : List GInst) → Passed done done' → Stays f.types next i → ((is_phi i.op ≡ true) ⊎ (is_phi i.op ≡ false)) → (length more == 0) ≡ (length behind == 0) → Rest more → Goal done' more
      stays_at done' more passed k phi_is same rest =
          subst (λ ps. HoldsFrom At done' (ps ++ j ∷ more)) (sym k.before') (
            last_at done' more (assigned_by phi_is)
                (λ e. passed.phis (at.phi e).first) (λ e. passed.params (at.param e).first) same,
            rest (done' ++ j ∷ []) (passed_on done' done' passed.more
                (λ all. all_push is_phi done' j (passed.phis (all_first is_phi done (i ∷ []) all)) (last_phi f.types next i ∙ all_last is_phi done i all))
                (λ all. all_push is_param done' j (passed.params (all_first is_param done (i ∷ []) all)) (last_param f.types next i ∙ all_last is_param done i all))),
          )
        where
          assigned_by : ((is_phi i.op ≡ true) ⊎ (is_phi i.op ≡ false)) → UsesAssigned h b done' j
          assigned_by (inl e) =
              subst (UsesAssigned h b done') (sym k.last')
              (subst (λ z. AssignedBy h z b done' i) (sym e) (on_edges i.to i.uses at.uses (subst (λ z. AssignedBy f z b done i) e at.assigned)))
          assigned_by (inr e) =
              subst (UsesAssigned h b done') (sym k.last')
              (subst (λ z. AssignedBy h z b done' i) (sym e) (all_assigned b done done' i.uses at.uses passed.more (subst (λ z. AssignedBy f z b done i) e at.assigned)))

      -- one that is neither a phi nor a parameter
      module _ (no_phi : is_phi i.op ≡ false) (no_param : is_param i.op ≡ false) where
        own_assigned : (done' : List GInst) → GrowsOld done done' → AllAssigned h b done' i.uses
        own_assigned done' g = all_assigned b done done' i.uses at.uses g (subst (λ z. AssignedBy f z b done i) no_phi at.assigned)

        ended : (done' done'' more : List GInst) → Passed done done' → Grows done' done'' → AllAssigned h b done'' j.uses → (length more == 0) ≡ (length behind == 0) → Rest more → HoldsFrom At done'' (j ∷ more)
        ended done' done'' more passed grows assigned same rest = (
          last_at done'' more (subst (λ z. AssignedBy h z b done'' j) (sym (last_phi f.types next i ∙ no_phi)) assigned)
              (λ e. absurd (false≢true (sym no_phi ∙ e))) (λ e. absurd (false≢true (sym no_param ∙ e))) same,
          rest (done'' ++ j ∷ []) (passed_on done' done'' (λ r l. let x = passed.more r l in let y = grows r in omega (arith, x, y))
              (λ all. absurd (false≢true (sym no_phi ∙ all_last is_phi done i all))) (λ all. absurd (false≢true (sym no_param ∙ all_last is_param done i all)))),
        )

        push_assigned : (done' : List GInst) (rs : List ℕ) (x : ℕ) → AllAssigned h b done' rs → IsAssigned h b done' x → AllAssigned h b done' (rs ++ x ∷ [])
        push_assigned done' [] x y z = (z, tt)
        push_assigned done' (r ∷ rs) x y z = (y.0, push_assigned done' rs x y.1 z)

        other_at : (done' more : List GInst) → Passed done done' → (length more == 0) ≡ (length behind == 0) → Rest more → Goal done' more
        other_at done' more passed same rest = by (form i.op) refl (λ done'' grows assigned. ended done' done'' more passed grows assigned same rest)
          where
            by : (x : Form) → form i.op ≡ x → ((done'' : List GInst) → Grows done' done'' → AllAssigned h b done'' (last_by f.types x next i).uses → HoldsFrom At done'' (last_by f.types x next i ∷ more))
                → HoldsFrom At done' (before_by f.types x next i ++ last_by f.types x next i ∷ more)
            by Same e end_ =
                all_extended i.op i.num 0 next i.uses done' (last_by f.types Same next i ∷ more) at.uses low (top_by Same e) (own_assigned done' passed.more)
                (ne_eqb (suc (length more)) 0 (λ e. let bad : ⊥ = omega (arith, e) in bad)) end_
            by Masks e end_ =
                let m = top_by Masks e in (
                  mask_at next (width f.types (use_at i 0)) done' (last_by f.types Masks next i ∷ more) low (omega (arith, m)) (widths_at f.types widths (use_at i 0)).1
                      (ne_eqb (suc (length more)) 0 (λ e. let bad : ⊥ = omega (arith, e) in bad)),
                  end_ (done' ++ mask next (width f.types (use_at i 0)) ∷ []) (push_grows done' (mask next (width f.types (use_at i 0))))
                      (push_assigned (done' ++ mask next (width f.types (use_at i 0)) ∷ []) i.uses next
                      (all_more b done' (done' ++ mask next (width f.types (use_at i 0)) ∷ []) i.uses (push_grows done' (mask next (width f.types (use_at i 0)))) (own_assigned done' passed.more))
                      (just b next done' (mask next (width f.types (use_at i 0))) refl)),
                )
            by Extends e end_ = end_ done' (λ r. let z : writes r done' ≤ writes r done' = omega arith in z) (own_assigned done' passed.more)
            by Copies e end_ = end_ done' (λ r. let z : writes r done' ≤ writes r done' = omega arith in z) (own_assigned done' passed.more)

      inst_holds : (done' more : List GInst) → Passed done done' → (length more == 0) ≡ (length behind == 0) → Rest more → Goal done' more
      inst_holds done' more passed same rest = by (is_phi i.op) refl (is_param i.op) refl
        where
          by : (x : Bool) → is_phi i.op ≡ x → (y : Bool) → is_param i.op ≡ y → Goal done' more
          by true e y g = stays_at done' more passed (phi_stays f.types next i e) (inl e) same rest
          by false e true g =
              stays_at done' more passed (stays f.types next i (ap form (is_param_op i.op g)) (λ k. ap (λ op. above op i.num k) (is_param_op i.op g))) (inr e) same rest
          by false e false g = other_at e g done' more passed same rest

    -- ---- a block
    block_holds : b < length f.blocks → (done is : List GInst) → insts_at f b ≡ done ++ is → (next : ℕ) → bound ≤ next → next + spent_insts f.types is ≤ length h.types → (done' : List GInst) → Passed done done'
        → HoldsFrom At done' (legal_insts f.types next is)
    block_holds inside done [] e next low top done' passed = tt
    block_holds inside done (i ∷ is) e next low top done' passed =
        inst_holds inside next i done is (formed.insts b done i is inside e) low (omega (arith, top)) done' (legal_insts f.types (next + spent f.types i) is) passed
        (same_emptiness f.types (next + spent f.types i) is)
        (λ done'' passed'. block_holds inside (done ++ i ∷ []) is (e ∙ sym (append_assoc done (i ∷ []) is)) (next + spent f.types i) (omega (arith, low)) (omega (arith, top)) done'' passed')

    all_hold : b < length f.blocks → HoldsFrom At [] (insts_at h b)
    all_hold inside =
        subst (HoldsFrom At []) (sym (place b).2)
        (block_holds inside [] (insts_at f b) refl (place b).0 (place b).1 at_top [] (record { more = λ r l. (let z : 0 ≤ 0 = omega arith in z); phis = λ x. x; params = λ x. x }))
      where
        at_top : (place b).0 + spent_insts f.types (insts_at f b) ≤ length h.types
        at_top = let m = many in let t = (place b).3 in omega (arith, m, t)

  legal_width : (r w : ℕ) → slice_get h.types r ≡ Some (S w) → (1 ≤ w) × (w ≤ 64)
  legal_width r w e = by ((legal_forms_are_legal f).0 r (S w) e)
    where
      width_is : GType → ℕ
      width_is (S w) = w
      width_is P0 = 0

      by : ((S w ≡ S 64) ⊎ (S w ≡ P0)) → (1 ≤ w) × (w ≤ 64)
      by (inl k) = let same : w ≡ 64 = ap width_is k in (omega (arith, same), omega (arith, same))
      by (inr k) = absurd (let bad : ⊥ = cc in bad)

  written_once : (r : ℕ) → times r (all_written h) ≤ 1
  written_once r =
      let part = blocks_part f bound f.blocks (let z : bound ≤ bound = omega arith in z) (block_sound f formed wide_) in
      ⊎_elim
      (λ l. let same = part.old r l in let few = formed.once r in omega (arith, same, few))
      (λ l. part.once r l)
      (cases_lt r bound)

  some_more : (ps : List GInst) (j : GInst) (rest : List GInst) → 1 ≤ length (ps ++ j ∷ rest)
  some_more [] j rest = omega arith
  some_more (p ∷ ps) j rest = omega arith

  filled_by : (n : ℕ) (is : List GInst) → 1 ≤ length is → 1 ≤ length (legal_insts f.types n is)
  filled_by n [] l = absurd (let bad : ⊥ = omega (arith, l) in bad)
  filled_by n (i ∷ is) l = some_more (before f.types n i) (last f.types n i) (legal_insts f.types (n + spent f.types i) is)

  inside_f : (b : ℕ) → b < length h.blocks → b < length f.blocks
  inside_f b l = let m = blocks_long f.types bound f.blocks in omega (arith, l, m)

  is_formed : IsFormed h
  is_formed = record {
    widths = legal_width;
    once = written_once;
    some = (let m = blocks_long f.types bound f.blocks in let s = formed.some in omega (arith, m, s));
    filled = λ b l. subst (λ is. 1 ≤ length is) (sym (place b).2) (filled_by (place b).0 (insts_at f b) (formed.filled b (inside_f b l)));
    insts = λ b before i behind l e. each (At b) [] (insts_at h b) before i behind (all_hold b (inside_f b l)) e;
  }

pub legal_forms_are_formed : LegalFormsAreFormed
legal_forms_are_formed f formed wide_ = is_formed f formed wide_
