-- The code of a function refines it: by cases of each instruction.
use Rattle.std.proofs.Common.{◌≡◌, ◌≢◌, refl, sym, ap, subst, ◌∙◌, ℕ, zero, suc, ◌+◌, ◌-◌, ◌*◌, ◌/◌, ◌^◌, ◌<◌, ◌≤◌, ◌⊎◌, inl, inr, ⊎_elim, Bool, true, false, List, [], ◌∷◌, ◌++◌, length, min, Option, Some, None, arith, pos}
use Rattle.std.specs.Prelude.{nat_lt, slice_get, slice_index_or, sum_by, if◌then◌else◌}
use Rattle.std.proofs.lemmas.Bool.{cases_lt}
use Rattle.std.proofs.lemmas.List.{append_assoc}
use Rattle.rv_core.specs.declared.instr.RegOp.TheVariants as on
use Rattle.rv_core.specs.declared.instr.LoadOp.TheVariants.{Lbu, Lhu, Lw, Ld}
use Rattle.rv_core.specs.declared.instr.StoreOp.TheVariants.{Sb, Sh, Sw, Sd}
use Rattle.rv_core.specs.declared.instr.BranchOp.TheVariants.{Bne}
use Rattle.rv_core.specs.declared.instr.ImmOp.TheVariants.{Andi}
use Rattle.ir_core.specs.declared.code.Pred.{Pred}
use Rattle.ir_core.specs.declared.code.Pred.TheVariants as pred
use Rattle.ir_meaning.specs.Step.{stack_start}
use Rattle.gmir.specs.declared.code.GType.{GType}
use Rattle.gmir.specs.declared.code.GType.TheVariants.{S, P0}
use Rattle.gmir.specs.declared.code.GOp.{GOp}
use Rattle.gmir.specs.declared.code.GOp.TheVariants.{Add, Sub, Mul, UDiv, SDiv, URem, SRem, And, Or, Xor, Shl, LShr, AShr, Icmp, Select, Trunc, ZExt, SExt, AnyExt, SExtInReg, PtrToInt, IntToPtr, PtrAdd, Constant, Phi, Load, Store, Br, BrCond, Param, Call, Return, TakeData, CopyBytes, FillBytes, Copy, Trap}
use Rattle.gmir.specs.declared.code.GInst.{GInst}
use Rattle.gmir.specs.declared.code.GFunction.{GFunction}
use Rattle.gmir.specs.Play.{width_of, width, def_at, use_at, value, weight, op_weight, State, Kind, Computes, Divides, Other, kind, insts_at, phis, jumped, phi_weights, plain, give, divided, take_edge, branch, at_address, other, by_kind, step_at, step, first, enter, walk}
use Rattle.gmir.specs.Formed.{is_branch, HasForm, IsInstAt, IsFormed}
use Rattle.gmir.specs.Legal.{IsLegal}
use Rattle.mir.specs.declared.code.MInst.{MInst}
use Rattle.mir.specs.declared.code.MInst.TheVariants as m
use Rattle.mir.specs.Code.{block_of}
use Rattle.walks.specs.Walk.{Bits, Entry, Goes, Wants, Step}
use Rattle.walks.specs.Bits.{free, cut, constant, number, zero_extended, sign_extended, shift_left, shift_right, shift_right_signed, predicates}
use Rattle.walks.specs.Refines.{RefinesBits, RefinesEntry}
use Rattle.walks.specs.Registers.{Registers, write, RegsAgree}
use Rattle.walks.specs.Simulation.{Chain, here, further, moves, wants, breaks, Simulation}
use Rattle.walks.specs.Face.{frame_of}
use Rattle.walks.proofs.Monotone.{cut_mono, left_mono, right_mono, signed_mono}
use Rattle.walks.proofs.Registers.{item_agrees}
use Rattle.mir_play.specs.Values as values
use Rattle.mir_play.specs.Play as target
use Rattle.selected_code.specs.Selected.{capped, load, store, compare, code_by, code, fresh, code_from, blocks_from}
use Rattle.selected_code.proofs.Values.{nothing, compared_bits, compare_refines, shift_refines, extend_refines, branch_taken}
use Rattle.selected_code.proofs.Straight.{below, AllBelow, read_same, read_other, beside}
use Rattle.selected_code.proofs.Rows.{compare_leaves, extend_leaves, choose_leaves}
use Rattle.selected_code.proofs.Edges.{least_of, block_code, parts, behind_head, exist_below, phis_agree, phis_weigh, cut_less}
use Rattle.selected_code.proofs.Steps.{n, f, Agree, Stands, Alike, Fol, full, o, o', known, value_at, OneDef, gives_value, computed_by, one_value, two_mono, two_value, move_value, divided_by, divides, load_of, loads, store_of, stores, takes, copies, fills, calls, returns}

-- ---- changes of width from 64 to 64

zero_none : (a : Bits) → RefinesBits (zero_extended 64 64 a) a
zero_none a i bit e = by_test (nat_lt i 64) e
  where
    by_test : (t : Bool) → (if t then (if t then a i else Some false) else None) ≡ Some bit → a i ≡ Some bit
    by_test true e = e
    by_test false e = nothing bit e

sign_none : (a : Bits) → RefinesBits (sign_extended 64 64 a) a
sign_none a i bit e = by_test (nat_lt i 64) e
  where
    by_test : (t : Bool) → (if t then (if t then a i else a 63) else None) ≡ Some bit → a i ≡ Some bit
    by_test true e = e
    by_test false e = nothing bit e

cut_twice : (a : Bits) → RefinesBits (cut 64 (cut 64 a)) a
cut_twice a i bit e = cut_less 64 a i bit (cut_less 64 (cut 64 a) i bit e)

module _ (g : GFunction) (formed : IsFormed g) (legal : IsLegal g) (ends_low : g.end < 2 ^ 64) where
  -- ---- edges
  module _ (s : State) (s' : target.State) (h : Agree g s s') (to : ℕ) (inside : to < length g.blocks) where
    landed : Alike g (jumped g s to) (target.jumped (f g) s' to)
    landed =
        let b = block_code (n g) g.blocks to in
        let e = behind_head (n g) b.next b.high (insts_at g to) in
        record {
          agree = record {
            args = h.args;
            base = h.base;
            block = refl;
            regs =
                subst (λ from. RegsAgree (below (n g)) (jumped g s to).regs (target.with_phis from s'.regs (block_of (f g) to) s'.regs)) (sym h.block)
                (subst (λ is. RegsAgree (below (n g)) (jumped g s to).regs (target.with_phis s.block s'.regs is s'.regs)) (sym b.is)
                (phis_agree g formed to inside s.block s.regs s'.regs h.regs [] (insts_at g to) b.next refl s.regs s'.regs h.regs));
            memory = h.memory;
          };
          stands = record { done = phis (insts_at g to); inside = inside; at = parts (insts_at g to); next = e.next; high = e.high; rest = ap target.behind_phis b.is ∙ e.is' };
        }

    weigh : target.phi_weights (block_of (f g) to) ≤ phi_weights g to
    weigh =
        let b = block_code (n g) g.blocks to in
        subst (λ is. target.phi_weights is ≤ phi_weights g to) (sym b.is) (phis_weigh g (insts_at g to) b.next)

  -- ---- one step
  module _ (s : State) (s' : target.State) (i : GInst) (r : List GInst) (r' : List MInst) (h : Agree g s s') (stands : Stands g s.block r r')
      (passed : List GInst) (at : IsInstAt g s.block passed i r) (t : ℕ) (high : n g ≤ t) where
    exist : AllBelow (n g) i.uses
    exist = exist_below g i.uses at.uses

    abbrev V : GOp → Bits
    V op = value op 64 64 64 i.num (o g formed legal ends_low s s' i r r' h stands exist t high 0) (o g formed legal ends_low s s' i r r' h stands exist t high 1) (o g formed legal ends_low s s' i r r' h stands exist t high 2)

    abbrev A : ℕ → Bits
    A k = o g formed legal ends_low s s' i r r' h stands exist t high k

    abbrev A' : ℕ → Bits
    A' k = o' g formed legal ends_low s s' i r r' h stands exist t high k

    knows : (k : ℕ) → RefinesBits (A k) (A' k)
    knows k = known g formed legal ends_low s s' i r r' h stands exist t high k

    abbrev At : GOp → Bits
    At op = value_at g formed legal ends_low s s' i r r' h stands exist t high op

    abbrev One : Type 0
    One = (d : ℕ) × (i.defs ≡ d ∷ [])

    heavy : (op : GOp) → i.op ≡ op → (k : ℕ) → k ≤ op_weight op true (length i.uses) → k ≤ weight g.types i
    heavy op is k low = let l = least_of g.types i op is in omega (arith, low, l)

    abbrev Steps : Step State → List MInst → Type 0
    Steps st code' = Fol g st (target.step_at (f g) s' (code' ++ r'))

    two : (op : GOp) (mop : _) → i.op ≡ op → One → ((x : Bits) → values.divisor mop x ≡ None) → RefinesBits (V op) (values.value mop (A' 0) (A' 1))
        → 20 ≤ op_weight op true (length i.uses) → Fol g (plain g s i r (give g s i r (At op))) (target.step_at (f g) s' (m.Op mop (def_at i 0) (use_at i 0) (use_at i 1) ∷ r'))
    two op mop is one c p low = two_value g formed legal ends_low s s' i r r' h stands exist t high op mop one c p (heavy op is 20 low)

    same_two : (mop : _) → RefinesBits (values.value mop (A 0) (A 1)) (values.value mop (A' 0) (A' 1))
    same_two mop = two_mono g formed legal ends_low s s' i r r' h stands exist t high mop

    move_ : (op : GOp) → i.op ≡ op → One → RefinesBits (V op) (A 0) → 12 ≤ op_weight op true (length i.uses)
        → Fol g (plain g s i r (give g s i r (At op))) (target.step_at (f g) s' (m.Move (def_at i 0) (use_at i 0) ∷ r'))
    move_ op is one p low = move_value g formed legal ends_low s s' i r r' h stands exist t high op one p (heavy op is 12 low)

    division : (op : GOp) (mop : _) → i.op ≡ op → One → values.divisor mop (A' 1) ≡ Some (number 64 (A' 1)) → RefinesBits (V op) (values.value mop (A' 0) (A' 1))
        → 20 ≤ op_weight op true (length i.uses)
        → Fol g (plain g s i r (divided_by g formed legal ends_low s s' i r r' h stands exist t high (number (width g.types (use_at i 1)) (A 1)) (give g s i r (At op))))
        (target.step_at (f g) s' (m.Op mop (def_at i 0) (use_at i 0) (use_at i 1) ∷ r'))
    division op mop is one e p low = divides g formed legal ends_low s s' i r r' h stands exist t high op mop one e p (heavy op is 20 low)

    -- what a compare leaves
    compares_by : (c : Pred) → One → 44 ≤ weight g.types i → RefinesBits (V Icmp) (compared_bits c (A' 0) (A' 1))
        → Fol g (plain g s i r (give g s i r (At Icmp))) (target.step_at (f g) s' (compare c t (def_at i 0) (use_at i 0) (use_at i 1) ++ r'))
    compares_by pred.Eq one low p = computed_by g formed legal ends_low s s' i r r' h stands exist t high Icmp one (compare pred.Eq t (def_at i 0) (use_at i 0) (use_at i 1)) ((λ x. refl), (tt, tt)) tt
        (compare_leaves (n g) s.regs s'.regs h.regs t high pred.Eq (def_at i 0) (use_at i 0) (use_at i 1) (V Icmp) p) (omega (arith, low))
    compares_by pred.Ne one low p = computed_by g formed legal ends_low s s' i r r' h stands exist t high Icmp one (compare pred.Ne t (def_at i 0) (use_at i 0) (use_at i 1)) ((λ x. refl), (tt, (tt, tt))) tt
        (compare_leaves (n g) s.regs s'.regs h.regs t high pred.Ne (def_at i 0) (use_at i 0) (use_at i 1) (V Icmp) p) (omega (arith, low))
    compares_by pred.Ugt one low p = computed_by g formed legal ends_low s s' i r r' h stands exist t high Icmp one (compare pred.Ugt t (def_at i 0) (use_at i 0) (use_at i 1)) ((λ x. refl), tt) tt
        (compare_leaves (n g) s.regs s'.regs h.regs t high pred.Ugt (def_at i 0) (use_at i 0) (use_at i 1) (V Icmp) p) (omega (arith, low))
    compares_by pred.Uge one low p = computed_by g formed legal ends_low s s' i r r' h stands exist t high Icmp one (compare pred.Uge t (def_at i 0) (use_at i 0) (use_at i 1)) ((λ x. refl), (tt, tt)) tt
        (compare_leaves (n g) s.regs s'.regs h.regs t high pred.Uge (def_at i 0) (use_at i 0) (use_at i 1) (V Icmp) p) (omega (arith, low))
    compares_by pred.Ult one low p = computed_by g formed legal ends_low s s' i r r' h stands exist t high Icmp one (compare pred.Ult t (def_at i 0) (use_at i 0) (use_at i 1)) ((λ x. refl), tt) tt
        (compare_leaves (n g) s.regs s'.regs h.regs t high pred.Ult (def_at i 0) (use_at i 0) (use_at i 1) (V Icmp) p) (omega (arith, low))
    compares_by pred.Ule one low p = computed_by g formed legal ends_low s s' i r r' h stands exist t high Icmp one (compare pred.Ule t (def_at i 0) (use_at i 0) (use_at i 1)) ((λ x. refl), (tt, tt)) tt
        (compare_leaves (n g) s.regs s'.regs h.regs t high pred.Ule (def_at i 0) (use_at i 0) (use_at i 1) (V Icmp) p) (omega (arith, low))
    compares_by pred.Sgt one low p = computed_by g formed legal ends_low s s' i r r' h stands exist t high Icmp one (compare pred.Sgt t (def_at i 0) (use_at i 0) (use_at i 1)) ((λ x. refl), tt) tt
        (compare_leaves (n g) s.regs s'.regs h.regs t high pred.Sgt (def_at i 0) (use_at i 0) (use_at i 1) (V Icmp) p) (omega (arith, low))
    compares_by pred.Sge one low p = computed_by g formed legal ends_low s s' i r r' h stands exist t high Icmp one (compare pred.Sge t (def_at i 0) (use_at i 0) (use_at i 1)) ((λ x. refl), (tt, tt)) tt
        (compare_leaves (n g) s.regs s'.regs h.regs t high pred.Sge (def_at i 0) (use_at i 0) (use_at i 1) (V Icmp) p) (omega (arith, low))
    compares_by pred.Slt one low p = computed_by g formed legal ends_low s s' i r r' h stands exist t high Icmp one (compare pred.Slt t (def_at i 0) (use_at i 0) (use_at i 1)) ((λ x. refl), tt) tt
        (compare_leaves (n g) s.regs s'.regs h.regs t high pred.Slt (def_at i 0) (use_at i 0) (use_at i 1) (V Icmp) p) (omega (arith, low))
    compares_by pred.Sle one low p = computed_by g formed legal ends_low s s' i r r' h stands exist t high Icmp one (compare pred.Sle t (def_at i 0) (use_at i 0) (use_at i 1)) ((λ x. refl), (tt, tt)) tt
        (compare_leaves (n g) s.regs s'.regs h.regs t high pred.Sle (def_at i 0) (use_at i 0) (use_at i 1) (V Icmp) p) (omega (arith, low))

    chooses : One → 96 ≤ weight g.types i → Steps (plain g s i r (give g s i r (At Select))) (code_by t i Select)
    chooses one low = computed_by g formed legal ends_low s s' i r r' h stands exist t high Select one (code_by t i Select) (tt, (tt, ((λ x. refl), (tt, ((λ x. refl), ((λ x. refl), tt)))))) tt
        (choose_leaves (n g) s.regs s'.regs h.regs t high i.uses exist (def_at i 0)) (omega (arith, low))

    extends : One → 1 ≤ i.num → i.num ≤ 64 → 24 ≤ weight g.types i → Steps (plain g s i r (give g s i r (At SExtInReg))) (code_by t i SExtInReg)
    extends one some small low = computed_by g formed legal ends_low s s' i r r' h stands exist t high SExtInReg one (code_by t i SExtInReg) (tt, (tt, tt)) tt
        (extend_leaves (n g) s.regs s'.regs h.regs t high i.num (def_at i 0) (use_at i 0) (V SExtInReg) (extend_refines i.num some small (A 0) (A' 0) (knows 0))) (omega (arith, low))

    constants : One → i.num < 2 ^ 64 → 12 ≤ weight g.types i → Steps (plain g s i r (give g s i r (At Constant))) (code_by t i Constant)
    constants one small low =
        let same : capped i.num ≡ i.num = omega (arith, small) in
        one_value g formed legal ends_low s s' i r r' h stands exist t high Constant one (m.Const (def_at i 0) (capped i.num)) (tt, tt) (constant 64 (capped i.num)) refl
        (subst (λ k. RefinesBits (constant 64 i.num) (constant 64 k)) (sym same) (λ j bit e. e)) (omega (arith, low))

    parameters : One → i.num < 8 → 12 ≤ weight g.types i → Steps (other g s i r Param) (code_by t i Param)
    parameters one small low =
        let same : min i.num 7 ≡ i.num = omega (arith, small) in
        subst (λ w. Fol g (plain g s i r (give g s i r (cut w (slice_index_or s.args i.num free)))) (target.step_at (f g) s' (m.Param (def_at i 0) (min i.num 7) ∷ r'))) (sym (full g formed legal ends_low (def_at i 0)))
        (subst (λ k. Fol g (plain g s i r (give g s i r (cut 64 (slice_index_or s.args i.num free)))) (target.step_at (f g) s' (m.Param (def_at i 0) k ∷ r'))) (sym same)
        (gives_value g formed legal ends_low s s' i r r' h stands exist t high one 12 _ _
        (cut_mono 64 (slice_index_or s.args i.num free) (slice_index_or s'.args i.num free) (item_agrees s.args s'.args h.args i.num)) low))

    abbrev LoadsAt : ℕ → Type 0
    LoadsAt k = Fol g (plain g s i r (at_address g s i r (number 64 (A 0)) (k / 8) (load_of g formed legal ends_low s s' i r r' h stands exist t high (k / 8))))
        (target.step_at (f g) s' (m.Load (load k) (def_at i 0) (use_at i 0) (pos 0) ∷ r'))

    loads_by : One → 12 ≤ weight g.types i → (i.num ≡ 8) ⊎ (i.num ≡ 16) ⊎ (i.num ≡ 32) ⊎ (i.num ≡ 64) → LoadsAt i.num
    loads_by one low (inl e) = subst LoadsAt (sym e) (loads g formed legal ends_low s s' i r r' h stands exist t high one Lbu low)
    loads_by one low (inr (inl e)) = subst LoadsAt (sym e) (loads g formed legal ends_low s s' i r r' h stands exist t high one Lhu low)
    loads_by one low (inr (inr (inl e))) = subst LoadsAt (sym e) (loads g formed legal ends_low s s' i r r' h stands exist t high one Lw low)
    loads_by one low (inr (inr (inr e))) = subst LoadsAt (sym e) (loads g formed legal ends_low s s' i r r' h stands exist t high one Ld low)

    abbrev StoresAt : ℕ → Type 0
    StoresAt k = Fol g (plain g s i r (at_address g s i r (number 64 (A 1)) (k / 8) (store_of g formed legal ends_low s s' i r r' h stands exist t high (k / 8))))
        (target.step_at (f g) s' (m.Store (store k) (use_at i 0) (use_at i 1) (pos 0) ∷ r'))

    stores_by : 20 ≤ weight g.types i → (i.num ≡ 8) ⊎ (i.num ≡ 16) ⊎ (i.num ≡ 32) ⊎ (i.num ≡ 64) → StoresAt i.num
    stores_by low (inl e) = subst StoresAt (sym e) (stores g formed legal ends_low s s' i r r' h stands exist t high Sb low)
    stores_by low (inr (inl e)) = subst StoresAt (sym e) (stores g formed legal ends_low s s' i r r' h stands exist t high Sh low)
    stores_by low (inr (inr (inl e))) = subst StoresAt (sym e) (stores g formed legal ends_low s s' i r r' h stands exist t high Sw low)
    stores_by low (inr (inr (inr e))) = subst StoresAt (sym e) (stores g formed legal ends_low s s' i r r' h stands exist t high Sd low)

    -- ---- branches
    jumps : (to : ℕ) → to < length g.blocks → 4 ≤ weight g.types i → Fol g (take_edge g s i r to) (target.step_at (f g) s' (m.Jump to ∷ r'))
    jumps to inside low =
        let few = weigh s s' h to inside in
        moves (jumped g s to) (target.jumped (f g) s' to) refl here refl (landed s s' h to inside) (omega (arith, low, few)) (omega arith)

    abbrev lowest : Bits
    lowest = values.immediate_value Andi (A' 0) (pos 1)

    abbrev regs_1 : Registers
    regs_1 = write s'.regs t lowest

    abbrev regs_2 : Registers
    regs_2 = write regs_1 (t + 1) (constant 64 0)

    module _ (one zero' : ℕ) where
      abbrev code_0 : List MInst
      code_0 = m.Imm Andi t (use_at i 0) (pos 1) ∷ m.Const (t + 1) 0 ∷ m.Branch Bne t (t + 1) one zero' ∷ r'

      abbrev s_1 : target.State
      s_1 = record s' { rest = m.Const (t + 1) 0 ∷ m.Branch Bne t (t + 1) one zero' ∷ r'; regs = regs_1 }

      abbrev s_2 : target.State
      s_2 = record s' { rest = m.Branch Bne t (t + 1) one zero' ∷ r'; regs = regs_2 }

      agree_2 : Agree g s s_2
      agree_2 = record {
        args = h.args;
        base = h.base;
        block = h.block;
        regs = beside (n g) s.regs regs_1 (t + 1) (constant 64 0) (omega (arith, high)) (beside (n g) s.regs s'.regs t lowest high h.regs);
        memory = h.memory;
      }

      known_2 : (x : Bool) → A 0 0 ≡ Some x → values.taken Bne (regs_2 t) (regs_2 (t + 1)) ≡ Some x
      known_2 x e =
          ap (λ z. values.taken Bne z (regs_2 (t + 1))) (read_other regs_1 (t + 1) t (constant 64 0) (λ e. omega (arith, e)) ∙ read_same s'.regs t lowest)
          ∙ ap (λ z. values.taken Bne lowest z) (read_same regs_1 (t + 1) (constant 64 0)) ∙ branch_taken (A 0) (A' 0) (knows 0) x e

      goes_to : (x : Bool) (to : ℕ) → to < length g.blocks → A 0 0 ≡ Some x
          → ((r'' : List MInst) → target.branch (f g) s_2 r'' 32 (Some x) one zero' ≡ target.take_edge (f g) s_2 r'' 32 to)
          → 64 ≤ weight g.types i → Fol g (take_edge g s i r to) (target.step_at (f g) s' code_0)
      goes_to x to inside e by_branch low =
          let few = weigh s s_2 agree_2 to inside in
          let same : target.step (f g) s_2 ≡ target.take_edge (f g) s_2 r' 32 to = ap (λ z. target.branch (f g) s_2 r' 32 z one zero') (known_2 x e) ∙ by_branch r' in
          moves (jumped g s to) (target.jumped (f g) s_2 to) refl
          (subst (λ z. Chain target.State (target.step (f g)) (target.step_at (f g) s' code_0) z (12 + (12 + 0)) (0 + (0 + 0))) same (further s_1 refl (further s_2 refl here)))
          refl (landed s s_2 agree_2 to inside) (omega (arith, low, few)) (omega arith)

    branches : (z : Option Bool) → A 0 0 ≡ z → slice_index_or i.to 0 0 < length g.blocks → slice_index_or i.to 1 0 < length g.blocks → 64 ≤ weight g.types i
        → Steps (branch g s i r z) (code_by t i BrCond)
    branches None e one zero' low = breaks refl refl
    branches (Some true) e one zero' low = goes_to (slice_index_or i.to 0 0) (slice_index_or i.to 1 0) true (slice_index_or i.to 0 0) one e (λ r''. refl) low
    branches (Some false) e one zero' low = goes_to (slice_index_or i.to 0 0) (slice_index_or i.to 1 0) false (slice_index_or i.to 1 0) zero' e (λ r''. refl) low

    -- a block that is gone to exists
    target_exists : (op : GOp) → i.op ≡ op → is_branch op ≡ true → (k to : ℕ) → slice_get i.to k ≡ Some to → to < length g.blocks
    target_exists op is b k to e =
        (at.targets' k to (ap (λ x. slice_get (if is_branch x then i.to else []) k) is ∙ ap (λ (x : Bool). slice_get (if x then i.to else []) k) b ∙ e)).1

    -- ---- all
    abbrev by_kind_of : Kind → GOp → Step State
    by_kind_of Computes op = plain g s i r (give g s i r (At op))
    by_kind_of Divides op =
        plain g s i r (divided_by g formed legal ends_low s s' i r r' h stands exist t high (number (width g.types (use_at i 1)) (A 1)) (give g s i r (At op)))
    by_kind_of Other op = other g s i r op

    divided_same : (x : Option ℕ)
        → plain g s i r (divided g s i r x) ≡ plain g s i r (divided_by g formed legal ends_low s s' i r r' h stands exist t high x (give g s i r (At i.op)))
    divided_same None = refl
    divided_same (Some zero) = refl
    divided_same (Some (suc k)) = refl

    kind_same : (k : Kind) → by_kind g s i r k ≡ by_kind_of k i.op
    kind_same Computes = refl
    kind_same Divides = divided_same (number (width g.types (use_at i 1)) (A 1))
    kind_same Other = refl

    by_op : (op : GOp) → i.op ≡ op → HasForm g i op → Steps (by_kind_of (kind op) op) (code_by t i op)
    by_op Add is form = two Add on.Add is (form.0, form.4.defs) (λ x. refl) (same_two on.Add) (omega arith)
    by_op Sub is form = two Sub on.Sub is (form.0, form.4.defs) (λ x. refl) (same_two on.Sub) (omega arith)
    by_op Mul is form = two Mul on.Mul is (form.0, form.4.defs) (λ x. refl) (same_two on.Mul) (omega arith)
    by_op UDiv is form = division UDiv on.Divu is (form.0, form.4.defs) refl (same_two on.Divu) (omega arith)
    by_op SDiv is form = division SDiv on.Div is (form.0, form.4.defs) refl (same_two on.Div) (omega arith)
    by_op URem is form = division URem on.Remu is (form.0, form.4.defs) refl (same_two on.Remu) (omega arith)
    by_op SRem is form = division SRem on.Rem is (form.0, form.4.defs) refl (same_two on.Rem) (omega arith)
    by_op And is form = two And on.And is (form.0, form.4.defs) (λ x. refl) (same_two on.And) (omega arith)
    by_op Or is form = two Or on.Or is (form.0, form.4.defs) (λ x. refl) (same_two on.Or) (omega arith)
    by_op Xor is form = two Xor on.Xor is (form.0, form.4.defs) (λ x. refl) (same_two on.Xor) (omega arith)
    by_op Shl is form =
        two Shl on.Sll is (form.0, form.4.defs) (λ x. refl) (shift_refines (shift_left 64 (A 0)) (shift_left 64 (A' 0)) (left_mono 64 (A 0) (A' 0) (knows 0)) (A 1) (A' 1) (knows 1)) (omega arith)
    by_op LShr is form =
        two LShr on.Srl is (form.0, form.4.defs) (λ x. refl) (shift_refines (shift_right 64 (A 0)) (shift_right 64 (A' 0)) (right_mono 64 (A 0) (A' 0) (knows 0)) (A 1) (A' 1) (knows 1)) (omega arith)
    by_op AShr is form =
        two AShr on.Sra is (form.0, form.4.defs) (λ x. refl)
        (shift_refines (shift_right_signed 64 (A 0)) (shift_right_signed 64 (A' 0)) (signed_mono 64 (A 0) (A' 0) (knows 0)) (A 1) (A' 1) (knows 1)) (omega arith)
    by_op Icmp is form =
        compares_by (slice_index_or predicates i.num pred.Eq) (form.0, form.5.defs) (heavy Icmp is 44 (omega arith)) (compare_refines i.num (A 0) (A 1) (A' 0) (A' 1) (knows 0) (knows 1))
    by_op Select is form = chooses (form.0, form.5.defs) (heavy Select is 96 (omega arith))
    by_op Trunc is form = move_ Trunc is (form.0, form.4.defs) (cut_less 64 (A 0)) (omega arith)
    by_op ZExt is form = move_ ZExt is (form.0, form.4.defs) (zero_none (A 0)) (omega arith)
    by_op SExt is form = move_ SExt is (form.0, form.4.defs) (sign_none (A 0)) (omega arith)
    by_op AnyExt is form = move_ AnyExt is (form.0, form.4.defs) (cut_twice (A 0)) (omega arith)
    by_op SExtInReg is form =
        let small = (formed.widths form.0 form.2 form.3.type).1 in let low = form.6 in
        extends (form.0, form.3.defs) form.5 (omega (arith, small, low)) (heavy SExtInReg is 24 (omega arith))
    by_op PtrToInt is form = move_ PtrToInt is (form.0, form.3.defs) (zero_none (A 0)) (omega arith)
    by_op IntToPtr is form = move_ IntToPtr is (form.0, form.2.defs) (zero_none (A 0)) (omega arith)
    by_op PtrAdd is form = two PtrAdd on.Add is (form.0, form.3.defs) (λ x. refl) (same_two on.Add) (omega arith)
    by_op Constant is form =
        let wide : width_of form.1 ≡ 64 = ⊎_elim (λ e. ap width_of e) (λ e. ap width_of e) (legal form.0 form.1 form.2.type) in
        constants (form.0, form.2.defs) (subst (λ w. i.num < 2 ^ w) wide form.3) (heavy Constant is 12 (omega arith))
    by_op Phi is form = breaks refl refl
    by_op Load is form = loads_by (form.0, form.3.defs) (heavy Load is 12 (omega arith)) form.5.0
    by_op Store is form = stores_by (heavy Store is 20 (omega arith)) form.7.0
    by_op Br is form =
        let there = target_exists Br is refl 0 form.0 (ap (λ l. slice_get l 0) form.3) in
        jumps (slice_index_or i.to 0 0) (subst (λ l. slice_index_or l 0 0 < length g.blocks) (sym form.3) there) (heavy Br is 4 (omega arith))
    by_op BrCond is form =
        let one = target_exists BrCond is refl 0 form.1 (ap (λ l. slice_get l 0) form.6) in
        let zero' = target_exists BrCond is refl 1 form.2 (ap (λ l. slice_get l 1) form.6) in
        branches (A 0 0) refl (subst (λ l. slice_index_or l 0 0 < length g.blocks) (sym form.6) one) (subst (λ l. slice_index_or l 1 0 < length g.blocks) (sym form.6) zero') (heavy BrCond is 64 (omega arith))
    by_op Param is form = parameters (form.0, form.2.defs) form.3 (heavy Param is 12 (omega arith))
    by_op Call is form = calls g formed legal ends_low s s' i r r' h stands exist t high (heavy Call is (64 + 12 * length i.uses) (omega arith))
    by_op Return is form = returns g formed legal ends_low s s' i r r' h stands exist t high (heavy Return is 64 (omega arith))
    by_op TakeData is form =
        takes g formed legal ends_low s s' i r r' h stands exist t high (form.0, form.1.defs)
        (⊎_elim (λ l. inr l) (λ l. inl l) (cases_lt (2 ^ 64 - 1) i.num)) (heavy TakeData is 48 (omega arith))
    by_op CopyBytes is form = copies g formed legal ends_low s s' i r r' h stands exist t high (heavy CopyBytes is 64 (omega arith))
    by_op FillBytes is form = fills g formed legal ends_low s s' i r r' h stands exist t high (heavy FillBytes is 64 (omega arith))
    by_op Copy is form = move_ Copy is (form.0, form.3.defs) (cut_less 64 (A 0)) (omega arith)
    by_op Trap is form = breaks refl refl

    one_step : Steps (by_kind g s i r (kind i.op)) (code t i)
    one_step = subst (λ st. Steps st (code t i)) (sym (kind_same (kind i.op))) (by_op i.op refl at.form)

  -- ---- the simulation
  by_rest : (s : State) (s' : target.State) (rest : List GInst) → Agree g s s' → (k : Stands g s.block rest s'.rest) → Fol g (step_at g s rest) (target.step (f g) s')
  by_rest s s' [] h k = breaks refl refl
  by_rest s s' (i ∷ r) h k =
      let next = k.next in let high = k.high in
      subst (λ l. Fol g (step_at g s (i ∷ r)) (target.step_at (f g) s' l)) (sym k.rest)
      (one_step s s' i r (code_from (next + fresh i.op) r) h
      (record { done = k.done ++ i ∷ []; inside = k.inside; at = k.at ∙ sym (append_assoc k.done (i ∷ []) r); next = next + fresh i.op; high = omega (arith, high); rest = refl })
      k.done (formed.insts s.block k.done i r k.inside k.at) next high)

  steps : (s : State) (s' : target.State) → Alike g s s' → Fol g (step g s) (target.step (f g) s')
  steps s s' k = by_rest s s' s.rest k.agree k.stands

  enters_by : (a b : Entry) → RefinesEntry g.end a b → (deep : Bool)
      → Fol g (record { weight = 160; jumps = 0; does = if deep then Wants else Goes (first g a) }) (record { weight = 160; jumps = 0; does = if deep then Wants else Goes (target.first (f g) b) })
  enters_by a b h true = wants refl here refl (omega arith) (omega arith)
  enters_by a b h false =
      let c = block_code (n g) g.blocks 0 in
      let some = formed.some in
      moves (first g a) (target.first (f g) b) refl here refl
      (record {
        agree = record { args = h.args; base = h.memory.long; block = refl; regs = λ x live i bit e. e; memory = h.memory };
        stands = record { done = []; inside = omega (arith, some); at = refl; next = c.next; high = c.high; rest = c.is };
      }) (omega arith) (omega arith)

  enters : (a b : Entry) → RefinesEntry g.end a b → Fol g (enter g a) (target.enter (f g) b)
  enters a b h =
      subst (λ sp. Fol g (enter g a) (record { weight = 160; jumps = 0; does = if nat_lt sp (stack_start + frame_of g.values) then Wants else Goes (target.first (f g) b) })) (sym h.sp)
      (enters_by a b h (nat_lt a.sp (stack_start + frame_of g.values)))

  pub simulation : Simulation g.end (walk g) (target.walk (f g)) (Alike g) (λ s. 0)
  simulation = record { enters = λ a b h. (0, enters a b h); steps = steps }
