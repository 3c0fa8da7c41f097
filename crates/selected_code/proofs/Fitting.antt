-- What is asked of each instruction of a pattern.
use Rattle.std.proofs.Common.{◌≡◌, refl, sym, ap, subst, ◌∙◌, ℕ, zero, suc, ◌+◌, ◌-◌, ◌<◌, ◌≤◌, Bool, true, false, ◌&&◌, List, [], ◌∷◌, ◌++◌, length, map, flat_map, min, Option, Some, None, arith, pos, negsuc}
use Rattle.std.specs.Prelude.{ℤ, ◌==◌, slice_get, slice_index_or}
use Rattle.std.proofs.lemmas.Int.{ints}
use Rattle.ir_core.specs.declared.code.Pred.{Pred}
use Rattle.ir_core.specs.declared.code.Pred.TheVariants as pred
use Rattle.rv_core.specs.Instr.{Fits12, IsAmount}
use Rattle.rv_core.specs.declared.instr.RegOp.{RegOp}
use Rattle.rv_core.specs.declared.instr.RegOp.TheVariants as on
use Rattle.gmir.specs.declared.code.GOp.{GOp}
use Rattle.gmir.specs.declared.code.GOp.TheVariants.{Add, Sub, Mul, UDiv, SDiv, URem, SRem, And, Or, Xor, Shl, LShr, AShr, Icmp, Select, Trunc, ZExt, SExt, AnyExt, SExtInReg, PtrToInt, IntToPtr, PtrAdd, Constant, Phi, Load, Store, Br, BrCond, Param, Call, Return, TakeData, CopyBytes, FillBytes, Copy, Trap}
use Rattle.gmir.specs.declared.code.GInst.{GInst}
use Rattle.gmir.specs.declared.code.GFunction.{GFunction}
use Rattle.gmir.specs.Play.{def_at, use_at, is_phi}
use Rattle.gmir.specs.Formed.{is_branch, is_end, is_param, takes_data, AllExist, HasForm, IsFormed}
use Rattle.mir.specs.declared.code.MInst.{MInst}
use Rattle.mir.specs.declared.code.MInst.TheVariants as m
use Rattle.mir.specs.Code as target
use Rattle.mir.specs.WellFormed as formed
use Rattle.walks.specs.Bits.{predicates}
use Rattle.selected_code.specs.Selected.{compare, paired, code_by, fresh}
use Rattle.selected_code.proofs.Straight.{AllBelow}
use Rattle.selected_code.proofs.Edges.{exist_below}

-- an instruction in the code of an operation, with what is behind it there: its ranges, its registers, and what it is
pub record Fits (top : ℕ) (op : GOp) (x : MInst) (behind : List MInst) : Type 0 where
  pub ranges : formed.HasRanges x
  pub reads : AllBelow top (target.reads x)
  pub writes : AllBelow top (target.writes x)
  pub ends : target.ends_block x ≡ (is_end op && (length behind == 0))
  pub param : formed.is_param x ≡ is_param op
  pub data' : formed.takes_data x ≡ takes_data op
  pub phi : formed.is_phi x ≡ is_phi op

abbrev pub EachFits : ℕ → GOp → List MInst → Type 0
EachFits top op [] = Unit {0}
EachFits top op (x ∷ xs) = Fits top op x xs × EachFits top op xs

pub record Found (top : ℕ) (op : GOp) (is : List MInst) (k : ℕ) (x : MInst) : Type 0 where
  pub behind : List MInst
  pub fits : Fits top op x behind
  pub long : length is ≡ k + 1 + length behind

pub found : (top : ℕ) (op : GOp) (is : List MInst) → EachFits top op is → (k : ℕ) (x : MInst) → slice_get is k ≡ Some x → Found top op is k x
found top op [] h k x e = absurd (let bad : ⊥ = cc in bad)
found top op (y ∷ ys) h zero x e = let same : y ≡ x = cc in record { behind = ys; fits = subst (λ z. Fits top op z ys) same h.0; long = omega arith }
found top op (y ∷ ys) h (suc k) x e =
    let r = found top op ys h.1 k x e in
    let long = r.long in
    record { behind = r.behind; fits = r.fits; long = omega (arith, long) }

-- ---- lists of registers
pub widen : (n top : ℕ) → n ≤ top → (rs : List ℕ) → AllBelow n rs → AllBelow top rs
widen n top le [] h = tt
widen n top le (r ∷ rs) h = let low = h.0 in (omega (arith, low, le), widen n top le rs h.1)

firsts_below : (top : ℕ) (rs bs : List ℕ) → AllBelow top rs → AllBelow top (map (λ (pair : ℕ × ℕ). pair.0) (paired rs bs))
firsts_below top [] [] h = tt
firsts_below top [] (b ∷ bs) h = tt
firsts_below top (r ∷ rs) [] h = tt
firsts_below top (r ∷ rs) (b ∷ bs) h = (h.0, firsts_below top rs bs h.1)

small : Fits12 (pos 1)
small = (omega (arith, ints), omega (arith, ints))

none : Fits12 (pos 0)
none = (omega (arith, ints), omega (arith, ints))

minus_one : Fits12 (negsuc 0)
minus_one = (omega (arith, ints), omega (arith, ints))

amount : (k : ℕ) → k < 64 → IsAmount 64 (pos k)
amount k low = (omega (arith, ints), omega (arith, ints, low))

module _ (g : GFunction) (formed' : IsFormed g) (i : GInst) (defs : AllExist g i.defs) (uses : AllExist g i.uses) (t top : ℕ) (high : length g.types ≤ t) where
  abbrev n : ℕ
  n = length g.types

  -- there are so many operands, or one result
  uses_low : (rs : List ℕ) → i.uses ≡ rs → n ≤ top → AllBelow top rs
  uses_low rs e le = subst (AllBelow top) e (widen n top le i.uses (exist_below g i.uses uses))

  use_is : (rs : List ℕ) → i.uses ≡ rs → (k : ℕ) → use_at i k ≡ slice_index_or rs k 0
  use_is rs e k = ap (λ l. slice_index_or l k 0) e

  def_low : (d : ℕ) → i.defs ≡ d ∷ [] → n ≤ top → def_at i 0 < top
  def_low d e le =
      let all : AllBelow top (d ∷ []) = subst (AllBelow top) e (widen n top le i.defs (exist_below g i.defs defs)) in
      subst (λ r. r < top) (sym (ap (λ l. slice_index_or l 0 0) e)) all.0

  first_low : (a : ℕ) (rs : List ℕ) → i.uses ≡ a ∷ rs → n ≤ top → use_at i 0 < top
  first_low a rs e le = subst (λ r. r < top) (sym (use_is (a ∷ rs) e 0)) (uses_low (a ∷ rs) e le).0

  second_low : (a b : ℕ) (rs : List ℕ) → i.uses ≡ a ∷ b ∷ rs → n ≤ top → use_at i 1 < top
  second_low a b rs e le = subst (λ r. r < top) (sym (use_is (a ∷ b ∷ rs) e 1)) (uses_low (a ∷ b ∷ rs) e le).1.0

  third_low : (a b c : ℕ) (rs : List ℕ) → i.uses ≡ a ∷ b ∷ c ∷ rs → n ≤ top → use_at i 2 < top
  third_low a b c rs e le = subst (λ r. r < top) (sym (use_is (a ∷ b ∷ c ∷ rs) e 2)) (uses_low (a ∷ b ∷ c ∷ rs) e le).1.1.0

  -- ---- operations that neither end a block nor stand at a place of their own
  abbrev Inner : GOp → Type 0
  Inner op = (is_end op ≡ false) × (is_param op ≡ false) × (takes_data op ≡ false) × (is_phi op ≡ false)

  abbrev Plain : MInst → Type 0
  Plain x = (target.ends_block x ≡ false) × (formed.is_param x ≡ false) × (formed.takes_data x ≡ false) × (formed.is_phi x ≡ false)

  plain : (op : GOp) → Inner op → (x : MInst) → Plain x → formed.HasRanges x → AllBelow top (target.reads x) → AllBelow top (target.writes x) → (behind : List MInst) → Fits top op x behind
  plain op p x q ranges reads writes behind = record {
    ranges = ranges;
    reads = reads;
    writes = writes;
    ends = q.0 ∙ ap (λ b. b && (length behind == 0)) (sym p.0);
    param = q.1 ∙ sym p.1;
    data' = q.2 ∙ sym p.2;
    phi = q.3 ∙ sym p.3;
  }

  module _ (op : GOp) (inner : Inner op) where
    on_two : (mop : RegOp) (d a b : ℕ) → d < top → a < top → b < top → (behind : List MInst) → Fits top op (m.Op mop d a b) behind
    on_two mop d a b hd ha hb behind = plain op inner (m.Op mop d a b) (refl, refl, refl, refl) tt (ha, (hb, tt)) (hd, tt) behind

    on_one : (iop : _) (d a : ℕ) (z : ℤ) → formed.HasRanges (m.Imm iop d a z) → d < top → a < top → (behind : List MInst) → Fits top op (m.Imm iop d a z) behind
    on_one iop d a z ranges hd ha behind = plain op inner (m.Imm iop d a z) (refl, refl, refl, refl) ranges (ha, tt) (hd, tt) behind

    two_fit : (mop : RegOp) (d : ℕ) → i.defs ≡ d ∷ [] → (a b : ℕ) → i.uses ≡ a ∷ b ∷ [] → n ≤ top → EachFits top op (m.Op mop (def_at i 0) (use_at i 0) (use_at i 1) ∷ [])
    two_fit mop d e a b u le = (on_two mop (def_at i 0) (use_at i 0) (use_at i 1) (def_low d e le) (first_low a (b ∷ []) u le) (second_low a b [] u le) [], tt)

    move_fit : (d : ℕ) → i.defs ≡ d ∷ [] → (a : ℕ) → i.uses ≡ a ∷ [] → n ≤ top → EachFits top op (m.Move (def_at i 0) (use_at i 0) ∷ [])
    move_fit d e a u le = (plain op inner (m.Move (def_at i 0) (use_at i 0)) (refl, refl, refl, refl) tt (first_low a [] u le, tt) (def_low d e le, tt) [], tt)

    compare_fit : (c : Pred) (d a b : ℕ) → d < top → a < top → b < top → t + 2 ≤ top → EachFits top op (compare c t d a b)
    compare_fit pred.Eq d a b hd ha hb le = (on_two on.Xor t a b (omega (arith, le)) ha hb _, (on_one _ d t _ small hd (omega (arith, le)) _, tt))
    compare_fit pred.Ne d a b hd ha hb le =
        (on_two on.Xor t a b (omega (arith, le)) ha hb _, (on_one _ (t + 1) t _ small (omega (arith, le)) (omega (arith, le)) _, (on_one _ d (t + 1) _ small hd (omega (arith, le)) _, tt)))
    compare_fit pred.Ugt d a b hd ha hb le = (on_two on.Sltu d b a hd hb ha _, tt)
    compare_fit pred.Uge d a b hd ha hb le = (on_two on.Sltu t a b (omega (arith, le)) ha hb _, (on_one _ d t _ small hd (omega (arith, le)) _, tt))
    compare_fit pred.Ult d a b hd ha hb le = (on_two on.Sltu d a b hd ha hb _, tt)
    compare_fit pred.Ule d a b hd ha hb le = (on_two on.Sltu t b a (omega (arith, le)) hb ha _, (on_one _ d t _ small hd (omega (arith, le)) _, tt))
    compare_fit pred.Sgt d a b hd ha hb le = (on_two on.Slt d b a hd hb ha _, tt)
    compare_fit pred.Sge d a b hd ha hb le = (on_two on.Slt t a b (omega (arith, le)) ha hb _, (on_one _ d t _ small hd (omega (arith, le)) _, tt))
    compare_fit pred.Slt d a b hd ha hb le = (on_two on.Slt d a b hd ha hb _, tt)
    compare_fit pred.Sle d a b hd ha hb le = (on_two on.Slt t b a (omega (arith, le)) hb ha _, (on_one _ d t _ small hd (omega (arith, le)) _, tt))

  -- an operation of its own kind, alone in its code
  alone : (op : GOp) (x : MInst) → formed.HasRanges x → AllBelow top (target.reads x) → AllBelow top (target.writes x)
      → target.ends_block x ≡ (is_end op && true) → formed.is_param x ≡ is_param op → formed.takes_data x ≡ takes_data op → formed.is_phi x ≡ is_phi op → EachFits top op (x ∷ [])
  alone op x ranges reads writes ends param data' phi = (record { ranges = ranges; reads = reads; writes = writes; ends = ends; param = param; data' = data'; phi = phi }, tt)

  all_defs : n ≤ top → AllBelow top i.defs
  all_defs le = widen n top le i.defs (exist_below g i.defs defs)

  all_uses : n ≤ top → AllBelow top i.uses
  all_uses le = widen n top le i.uses (exist_below g i.uses uses)

  pub fits_by : (op : GOp) → HasForm g i op → n ≤ top → t + fresh op ≤ top → EachFits top op (code_by t i op)
  fits_by Add form le more = two_fit Add (refl, refl, refl, refl) on.Add form.0 form.4.defs form.1 form.2 form.4.uses le
  fits_by Sub form le more = two_fit Sub (refl, refl, refl, refl) on.Sub form.0 form.4.defs form.1 form.2 form.4.uses le
  fits_by Mul form le more = two_fit Mul (refl, refl, refl, refl) on.Mul form.0 form.4.defs form.1 form.2 form.4.uses le
  fits_by UDiv form le more = two_fit UDiv (refl, refl, refl, refl) on.Divu form.0 form.4.defs form.1 form.2 form.4.uses le
  fits_by SDiv form le more = two_fit SDiv (refl, refl, refl, refl) on.Div form.0 form.4.defs form.1 form.2 form.4.uses le
  fits_by URem form le more = two_fit URem (refl, refl, refl, refl) on.Remu form.0 form.4.defs form.1 form.2 form.4.uses le
  fits_by SRem form le more = two_fit SRem (refl, refl, refl, refl) on.Rem form.0 form.4.defs form.1 form.2 form.4.uses le
  fits_by And form le more = two_fit And (refl, refl, refl, refl) on.And form.0 form.4.defs form.1 form.2 form.4.uses le
  fits_by Or form le more = two_fit Or (refl, refl, refl, refl) on.Or form.0 form.4.defs form.1 form.2 form.4.uses le
  fits_by Xor form le more = two_fit Xor (refl, refl, refl, refl) on.Xor form.0 form.4.defs form.1 form.2 form.4.uses le
  fits_by Shl form le more = two_fit Shl (refl, refl, refl, refl) on.Sll form.0 form.4.defs form.1 form.2 form.4.uses le
  fits_by LShr form le more = two_fit LShr (refl, refl, refl, refl) on.Srl form.0 form.4.defs form.1 form.2 form.4.uses le
  fits_by AShr form le more = two_fit AShr (refl, refl, refl, refl) on.Sra form.0 form.4.defs form.1 form.2 form.4.uses le
  fits_by PtrAdd form le more = two_fit PtrAdd (refl, refl, refl, refl) on.Add form.0 form.3.defs form.1 form.2 form.3.uses le
  fits_by Icmp form le more =
      compare_fit Icmp (refl, refl, refl, refl) (slice_index_or predicates i.num pred.Eq) (def_at i 0) (use_at i 0) (use_at i 1)
      (def_low form.0 form.5.defs le) (first_low form.1 (form.2 ∷ []) form.5.uses le) (second_low form.1 form.2 [] form.5.uses le) more
  fits_by Select form le more =
      let hd = def_low form.0 form.5.defs le in
      let hc = first_low form.1 (form.2 ∷ form.3 ∷ []) form.5.uses le in
      let ha = second_low form.1 form.2 (form.3 ∷ []) form.5.uses le in
      let hb = third_low form.1 form.2 form.3 [] form.5.uses le in
      let inner : Inner Select = (refl, refl, refl, refl) in (
        on_one Select inner _ t (use_at i 0) (pos 63) (amount 63 (omega arith)) (omega (arith, more)) hc _,
        (
          on_one Select inner _ (t + 1) t (pos 63) (amount 63 (omega arith)) (omega (arith, more)) (omega (arith, more)) _,
          (
            on_two Select inner on.And (t + 2) (use_at i 1) (t + 1) (omega (arith, more)) ha (omega (arith, more)) _,
            (
              on_one Select inner _ (t + 3) (t + 1) (negsuc 0) minus_one (omega (arith, more)) (omega (arith, more)) _,
              (
                on_two Select inner on.And (t + 4) (use_at i 2) (t + 3) (omega (arith, more)) hb (omega (arith, more)) _,
                (on_two Select inner on.Or (def_at i 0) (t + 2) (t + 4) hd (omega (arith, more)) (omega (arith, more)) _, tt),
              ),
            ),
          ),
        ),
      )
  fits_by SExtInReg form le more =
      let some = form.5 in
      let inner : Inner SExtInReg = (refl, refl, refl, refl) in (
        on_one SExtInReg inner _ t (use_at i 0) (pos (64 - i.num)) (amount (64 - i.num) (omega (arith, some))) (omega (arith, more)) (first_low form.1 [] form.3.uses le) _,
        (on_one SExtInReg inner _ (def_at i 0) t (pos (64 - i.num)) (amount (64 - i.num) (omega (arith, some))) (def_low form.0 form.3.defs le) (omega (arith, more)) _, tt),
      )
  fits_by Trunc form le more = move_fit Trunc (refl, refl, refl, refl) form.0 form.4.defs form.1 form.4.uses le
  fits_by ZExt form le more = move_fit ZExt (refl, refl, refl, refl) form.0 form.4.defs form.1 form.4.uses le
  fits_by SExt form le more = move_fit SExt (refl, refl, refl, refl) form.0 form.4.defs form.1 form.4.uses le
  fits_by AnyExt form le more = move_fit AnyExt (refl, refl, refl, refl) form.0 form.4.defs form.1 form.4.uses le
  fits_by PtrToInt form le more = move_fit PtrToInt (refl, refl, refl, refl) form.0 form.3.defs form.1 form.3.uses le
  fits_by IntToPtr form le more = move_fit IntToPtr (refl, refl, refl, refl) form.0 form.2.defs form.1 form.2.uses le
  fits_by Copy form le more = move_fit Copy (refl, refl, refl, refl) form.0 form.3.defs form.1 form.3.uses le
  fits_by Constant form le more = alone Constant _ tt tt (def_low form.0 form.2.defs le, tt) refl refl refl refl
  fits_by Phi form le more = alone Phi _ tt (firsts_below top i.uses i.to (all_uses le)) (def_low form.0 form.2.defs le, tt) refl refl refl refl
  fits_by Load form le more = alone Load _ none (first_low form.1 [] form.3.uses le, tt) (def_low form.0 form.3.defs le, tt) refl refl refl refl
  fits_by Store form le more = alone Store _ none (first_low form.0 (form.1 ∷ []) form.4 le, (second_low form.0 form.1 [] form.4 le, tt)) tt refl refl refl refl
  fits_by Br form le more = alone Br _ tt tt tt refl refl refl refl
  fits_by BrCond form le more =
      let hc = first_low form.0 [] form.4 le in (
        record { ranges = small; reads = (hc, tt); writes = (omega (arith, more), tt); ends = refl; param = refl; data' = refl; phi = refl },
        (
          record { ranges = tt; reads = tt; writes = (omega (arith, more), tt); ends = refl; param = refl; data' = refl; phi = refl },
          (record { ranges = tt; reads = (omega (arith, more), (omega (arith, more), tt)); writes = tt; ends = refl; param = refl; data' = refl; phi = refl }, tt),
        ),
      )
  fits_by Param form le more = let low = form.3 in alone Param _ (omega (arith, low)) tt (def_low form.0 form.2.defs le, tt) refl refl refl refl
  fits_by Call form le more =
      let e : slice_index_or i.to 0 0 ≡ form.0 = ap (λ l. slice_index_or l 0 0) form.3 in
      let callee : slice_index_or i.to 0 0 < 1024 = subst (λ k. k < 1024) (sym e) form.4 in
      alone Call _ (callee, form.2, form.1) (all_uses le) (all_defs le) refl refl refl refl
  fits_by Return form le more = alone Return _ form.1 (all_uses le) tt refl refl refl refl
  fits_by TakeData form le more = alone TakeData _ tt tt (def_low form.0 form.1.defs le, tt) refl refl refl refl
  fits_by CopyBytes form le more =
      alone CopyBytes _ tt (first_low form.0 (form.1 ∷ form.2 ∷ []) form.4 le, (second_low form.0 form.1 (form.2 ∷ []) form.4 le, (third_low form.0 form.1 form.2 [] form.4 le, tt))) tt refl refl refl refl
  fits_by FillBytes form le more =
      alone FillBytes _ tt (first_low form.0 (form.1 ∷ form.2 ∷ []) form.5 le, (second_low form.0 form.1 (form.2 ∷ []) form.5 le, (third_low form.0 form.1 form.2 [] form.5 le, tt))) tt refl refl refl refl
  fits_by Trap form le more = alone Trap _ tt tt tt refl refl refl refl
