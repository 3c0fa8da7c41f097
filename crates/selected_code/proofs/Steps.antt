-- Each step of a function is answered by its code.
use Rattle.std.proofs.Common.{◌≡◌, refl, sym, ap, subst, ◌∙◌, ℕ, zero, suc, ◌+◌, ◌-◌, ◌*◌, ◌/◌, ◌^◌, ◌<◌, ◌≤◌, ◌⊎◌, inl, inr, ⊎_elim, Bool, true, false, List, [], ◌∷◌, ◌++◌, length, take, map, min, Option, Some, None, arith, pos}
use Rattle.std.specs.Prelude.{nat_le, nat_lt, replicate, slice_get, slice_index_or, if◌then◌else◌}
use Rattle.std.proofs.lemmas.Bool.{lt-leb}
use Rattle.rv_core.specs.declared.instr.RegOp.{RegOp}
use Rattle.rv_core.specs.declared.instr.RegOp.TheVariants as on
use Rattle.rv_core.specs.declared.instr.LoadOp.{LoadOp}
use Rattle.rv_core.specs.declared.instr.LoadOp.TheVariants.{Lbu, Lhu, Lw, Ld}
use Rattle.rv_core.specs.declared.instr.StoreOp.{StoreOp}
use Rattle.rv_core.specs.declared.instr.StoreOp.TheVariants.{Sb, Sh, Sw, Sd}
use Rattle.rv_core.specs.declared.instr.BranchOp.TheVariants.{Bne}
use Rattle.rv_core.specs.declared.instr.ImmOp.TheVariants.{Andi}
use Rattle.ir_core.specs.declared.code.Pred.{Pred}
use Rattle.ir_core.specs.declared.code.Pred.TheVariants as pred
use Rattle.ir_meaning.specs.Memory.{Memory, top, is_inside, bytes_at, with_bytes, data_start}
use Rattle.ir_meaning.specs.Step.{copied, set}
use Rattle.gmir.specs.declared.code.GType.{GType}
use Rattle.gmir.specs.declared.code.GType.TheVariants.{S, P0}
use Rattle.gmir.specs.declared.code.GOp.{GOp}
use Rattle.gmir.specs.declared.code.GOp.TheVariants.{Add, Sub, Mul, UDiv, SDiv, URem, SRem, And, Or, Xor, Shl, LShr, AShr, Icmp, Select, Trunc, ZExt, SExt, AnyExt, SExtInReg, PtrToInt, IntToPtr, PtrAdd, Constant, Phi, Load, Store, Br, BrCond, Param, Call, Return, TakeData, CopyBytes, FillBytes, Copy, Trap}
use Rattle.gmir.specs.declared.code.GInst.{GInst}
use Rattle.gmir.specs.declared.code.GFunction.{GFunction}
use Rattle.gmir.specs.Play.{width_of, width, def_at, use_at, value, weight, State, Kind, Computes, Divides, Other, kind, insts_at, phis, behind_phis, jumped, phi_weights, plain, give, operand, result, divided, take_edge, branch, at_address, change, moved, grown, behind_call, returned, other, by_kind, step_at, step, first, enter, walk}
use Rattle.gmir.specs.Formed.{HasForm, IsInstAt, IsFormed, targets, IsSize}
use Rattle.gmir.specs.Legal.{IsLegal}
use Rattle.mir.specs.declared.code.MInst.{MInst}
use Rattle.mir.specs.declared.code.MInst.TheVariants as m
use Rattle.mir.specs.declared.code.MFunction.{MFunction}
use Rattle.mir.specs.Code.{block_of}
use Rattle.walks.specs.Walk.{Bits, Reply, Does, Goes, Wants, Breaks, Step}
use Rattle.walks.specs.Bits.{free, cut, constant, number, zero_extended, sign_extended, shift_left, shift_right, shift_right_signed, predicates}
use Rattle.walks.specs.Bytes.{bits_of_bytes, bytes_of_bits}
use Rattle.walks.specs.Refines.{RefinesBits, AllRefine, RefinesMemory, RefinesReply}
use Rattle.walks.specs.Registers.{Registers, read, write, put, RegsAgree}
use Rattle.walks.specs.Simulation.{here, further, Follows, moves, asks, gives, wants, breaks}
use Rattle.walks.proofs.Monotone.{Keeps, keeps_number, cut_mono, left_mono, right_mono, signed_mono}
use Rattle.walks.proofs.Compose.{same_memory}
use Rattle.walks.proofs.Registers.{ReadsAlive, args_agree, write_agrees, put_agrees, item_agrees}
use Rattle.walks.proofs.Bytes.{stored_mono, append_mono, take_mono, written_mono, MemoryKept, copied_mono, set_mono}
use Rattle.mir_play.specs.Values as values
use Rattle.mir_play.specs.Play as target
use Rattle.mir_play.proofs.Values.{value_mono}
use Rattle.selected_code.specs.Selected.{capped, load, store, code_by, code, fresh, code_from, selected}
use Rattle.selected_code.proofs.Values.{nothing, compared_bits, compare_refines, shift_refines, extend_refines, branch_taken}
use Rattle.selected_code.proofs.Straight.{below, AllBelow, operand_agrees, AllCompute, after, weights, Runs, behind, runs, read_same, read_other, beside}
use Rattle.selected_code.proofs.Rows.{compare_leaves, extend_leaves, choose_leaves}
use Rattle.selected_code.proofs.Loads.{address_kept, load_refines}
use Rattle.selected_code.proofs.Edges.{least_of, block_code, parts, behind_head, exist_below, phis_agree, phis_weigh}

-- ---- types

all_full : (types : List GType) → ((r : ℕ) (ty : GType) → slice_get types r ≡ Some ty → (ty ≡ S 64) ⊎ (ty ≡ P0)) → (r : ℕ) → width types r ≡ 64
all_full [] h zero = refl
all_full [] h (suc r) = refl
all_full (ty ∷ tys) h zero = ⊎_elim (λ e. ap width_of e) (λ e. ap width_of e) (h 0 ty refl)
all_full (ty ∷ tys) h (suc r) = all_full tys (λ k other e. h (suc k) other e) r

all_alive : (n : ℕ) (rs : List ℕ) → AllBelow n rs → ReadsAlive (below n) rs
all_alive n [] h = tt
all_alive n (r ∷ rs) h = let low = h.0 in ((grind (arith, low)), all_alive n rs h.1)

-- the list has an instruction
abbrev pub Filled : List MInst → Type 0
Filled [] = ⊥
Filled (x ∷ xs) = Unit {0}

-- ---- states
module _ (g : GFunction) where
  abbrev pub n : ℕ
  n = length g.types

  abbrev pub f : MFunction
  f = selected g

  -- the states agree, but for what is left of the block
  pub record Agree (s : State) (s' : target.State) : Type 0 where
    pub args : AllRefine s.args s'.args
    pub base : s'.base_length ≡ s.base_length
    pub block : s'.block ≡ s.block
    pub regs : RegsAgree (below n) s.regs s'.regs
    pub memory : RefinesMemory s.memory s'.memory

  -- what is left of a block there is, and its code
  pub record Stands (block : ℕ) (r : List GInst) (r' : List MInst) : Type 0 where
    pub done : List GInst
    pub inside : block < length g.blocks
    pub at : insts_at g block ≡ done ++ r
    pub next : ℕ
    pub high : n ≤ next
    pub rest : r' ≡ code_from next r

  pub record Alike (s : State) (s' : target.State) : Type 0 where
    pub agree : Agree s s'
    pub stands : Stands s.block s.rest s'.rest

  abbrev pub Fol : Step State → Step target.State → Type 0
  Fol = Follows g.end State target.State (target.step f) Alike (λ s. 0) 0

module _ (g : GFunction) (formed : IsFormed g) (legal : IsLegal g) (ends_low : g.end < 2 ^ 64) where
  pub full : (r : ℕ) → width g.types r ≡ 64
  full r = all_full g.types legal r

  module _ (s : State) (s' : target.State) (i : GInst) (r : List GInst) (r' : List MInst) (h : Agree g s s') (stands : Stands g s.block r r')
      (exist : AllBelow (n g) i.uses) (t : ℕ) (high : n g ≤ t) where
    abbrev pub o : ℕ → Bits
    o k = operand g s i r k

    abbrev pub o' : ℕ → Bits
    o' k = s'.regs (use_at i k)

    pub known : (k : ℕ) → RefinesBits (o k) (o' k)
    known k = operand_agrees (n g) s.regs s'.regs h.regs i.uses exist k

    known_number : (w k : ℕ) → Keeps (number w (o k)) (number w (o' k))
    known_number w k = keeps_number w (o k) (o' k) (known k)

    -- the value by an operation
    abbrev pub value_at : GOp → Bits
    value_at op = value op (width g.types (def_at i 0)) (width g.types (use_at i 0)) (width g.types (use_at i 1)) i.num (o 0) (o 1) (o 2)

    value_full : (op : GOp) → value_at op ≡ value op 64 64 64 i.num (o 0) (o 1) (o 2)
    value_full op =
        ap (λ w. value op w (width g.types (use_at i 0)) (width g.types (use_at i 1)) i.num (o 0) (o 1) (o 2)) (full (def_at i 0))
        ∙ ap (λ w. value op 64 w (width g.types (use_at i 1)) i.num (o 0) (o 1) (o 2)) (full (use_at i 0))
        ∙ ap (λ w. value op 64 64 w i.num (o 0) (o 1) (o 2)) (full (use_at i 1))

    goes_on : (w : ℕ) (regs regs' : Registers) (memory memory' : Memory) → RegsAgree (below (n g)) regs regs' → RefinesMemory memory memory' → w ≤ weight g.types i
        → Fol g (plain g s i r (Goes (record s { rest = r; regs = regs; memory = memory }))) (target.plain (f g) s' r' w (Goes (record s' { rest = r'; regs = regs'; memory = memory' })))
    goes_on w regs regs' memory memory' p q low =
        moves (record s { rest = r; regs = regs; memory = memory }) (record s' { rest = r'; regs = regs'; memory = memory' }) refl here refl
        (record { agree = record { args = h.args; base = h.base; block = h.block; regs = p; memory = q }; stands = stands }) (omega (arith, low)) (omega arith)

    -- one register is written
    abbrev pub OneDef : Type 0
    OneDef = (d : ℕ) × (i.defs ≡ d ∷ [])

    put_is : OneDef → (a : Bits) → put s.regs i.defs a ≡ write s.regs (def_at i 0) a
    put_is one a = ap (λ ds. put s.regs ds a) one.1 ∙ ap (λ d. write s.regs d a) (sym (ap (λ ds. slice_index_or ds 0 0) one.1))

    pub gives_value : OneDef → (w : ℕ) (a a' : Bits) → RefinesBits a a' → w ≤ weight g.types i
        → Fol g (plain g s i r (give g s i r a)) (target.plain (f g) s' r' w (target.give (f g) s' r' (def_at i 0) a'))
    gives_value one w a a' p low =
        goes_on w (put s.regs i.defs a) (write s'.regs (def_at i 0) a') s.memory s'.memory
        (subst (λ z. RegsAgree (below (n g)) z (write s'.regs (def_at i 0) a')) (sym (put_is one a))
        (write_agrees (below (n g)) s.regs s'.regs (def_at i 0) a a' h.regs p)) h.memory low

    -- a pattern that computes
    computes : OneDef → (a : Bits) (x : MInst) (xs : List MInst) → AllCompute (x ∷ xs) → RegsAgree (below (n g)) (write s.regs (def_at i 0) a) (after (x ∷ xs) s'.regs)
        → weights (x ∷ xs) ≤ weight g.types i → Fol g (plain g s i r (give g s i r a)) (target.step_at (f g) s' ((x ∷ xs) ++ r'))
    computes one a x xs c p low =
        let q = runs (f g) s' x xs r' c in
        let same = q.weight in
        moves (record s { rest = r; regs = put s.regs i.defs a }) (behind (f g) s' (x ∷ xs) r') refl q.chain q.goes
        (record {
          agree = record {
            args = h.args;
            base = h.base;
            block = h.block;
            regs = subst (λ z. RegsAgree (below (n g)) z (after (x ∷ xs) s'.regs)) (sym (put_is one a)) p;
            memory = h.memory;
          };
          stands = stands;
        }) (omega (arith, same, low)) (omega arith)

    -- the same by an operation whose value is told at the full width
    pub computed : (op : GOp) → OneDef → (x : MInst) (xs : List MInst) → AllCompute (x ∷ xs)
        → RegsAgree (below (n g)) (write s.regs (def_at i 0) (value op 64 64 64 i.num (o 0) (o 1) (o 2))) (after (x ∷ xs) s'.regs)
        → weights (x ∷ xs) ≤ weight g.types i → Fol g (plain g s i r (give g s i r (value_at op))) (target.step_at (f g) s' ((x ∷ xs) ++ r'))
    computed op one x xs c p low =
        subst (λ a. Fol g (plain g s i r (give g s i r a)) (target.step_at (f g) s' ((x ∷ xs) ++ r'))) (sym (value_full op))
        (computes one (value op 64 64 64 i.num (o 0) (o 1) (o 2)) x xs c p low)

    pub computed_by : (op : GOp) → OneDef → (is : List MInst) → AllCompute is → Filled is
        → RegsAgree (below (n g)) (write s.regs (def_at i 0) (value op 64 64 64 i.num (o 0) (o 1) (o 2))) (after is s'.regs)
        → weights is ≤ weight g.types i → Fol g (plain g s i r (give g s i r (value_at op))) (target.step_at (f g) s' (is ++ r'))
    computed_by op one [] c e p low = absurd e
    computed_by op one (x ∷ xs) c e p low = computed op one x xs c p low

    -- one instruction on one or two registers
    pub one_value : (op : GOp) → OneDef → (x : MInst) → AllCompute (x ∷ []) → (a : Bits) → after (x ∷ []) s'.regs ≡ write s'.regs (def_at i 0) a
        → RefinesBits (value op 64 64 64 i.num (o 0) (o 1) (o 2)) a → weights (x ∷ []) ≤ weight g.types i
        → Fol g (plain g s i r (give g s i r (value_at op))) (target.step_at (f g) s' (x ∷ r'))
    one_value op one x c a e p low =
        computed op one x [] c
        (subst (λ z. RegsAgree (below (n g)) (write s.regs (def_at i 0) (value op 64 64 64 i.num (o 0) (o 1) (o 2))) z) (sym e)
        (write_agrees (below (n g)) s.regs s'.regs (def_at i 0) _ a h.regs p)) low

    pub two_mono : (op : RegOp) → RefinesBits (values.value op (o 0) (o 1)) (values.value op (o' 0) (o' 1))
    two_mono op = value_mono (o 0) (o' 0) (o 1) (o' 1) (known 0) (known 1) op

    pub two_value : (op : GOp) (mop : RegOp) → OneDef → ((x : Bits) → values.divisor mop x ≡ None)
        → RefinesBits (value op 64 64 64 i.num (o 0) (o 1) (o 2)) (values.value mop (o' 0) (o' 1)) → 20 ≤ weight g.types i
        → Fol g (plain g s i r (give g s i r (value_at op))) (target.step_at (f g) s' (m.Op mop (def_at i 0) (use_at i 0) (use_at i 1) ∷ r'))
    two_value op mop one c p low =
        one_value op one (m.Op mop (def_at i 0) (use_at i 0) (use_at i 1)) (c, tt) (values.value mop (o' 0) (o' 1)) refl p (omega (arith, low))

    pub move_value : (op : GOp) → OneDef → RefinesBits (value op 64 64 64 i.num (o 0) (o 1) (o 2)) (o 0) → 12 ≤ weight g.types i
        → Fol g (plain g s i r (give g s i r (value_at op))) (target.step_at (f g) s' (m.Move (def_at i 0) (use_at i 0) ∷ r'))
    move_value op one p low =
        one_value op one (m.Move (def_at i 0) (use_at i 0)) (tt, tt) (o' 0) refl (λ j bit e. known 0 j bit (p j bit e)) (omega (arith, low))

    -- ---- divisions
    abbrev pub divided_by : Option ℕ → Does State → Does State
    divided_by None go = Breaks
    divided_by (Some zero) go = Breaks
    divided_by (Some (suc k)) go = go

    divides_by : (a b : Option ℕ) (go : Does State) (go' : Does target.State) → Keeps a b → Fol g (plain g s i r go) (target.plain (f g) s' r' 20 go')
        → 20 ≤ weight g.types i → Fol g (plain g s i r (divided_by a go)) (target.plain (f g) s' r' 20 (target.divided (f g) s' r' (Some b) go'))
    divides_by None b go go' k on' low = breaks refl refl
    divides_by (Some zero) b go go' k on' low = breaks refl refl
    divides_by (Some (suc q)) b go go' k on' low =
        subst (λ z. Fol g (plain g s i r go) (target.plain (f g) s' r' 20 (target.divided (f g) s' r' (Some z) go'))) (sym (k (suc q) refl)) on'

    pub divides : (op : GOp) (mop : RegOp) → OneDef → values.divisor mop (o' 1) ≡ Some (number 64 (o' 1))
        → RefinesBits (value op 64 64 64 i.num (o 0) (o 1) (o 2)) (values.value mop (o' 0) (o' 1)) → 20 ≤ weight g.types i
        → Fol g (plain g s i r (divided_by (number (width g.types (use_at i 1)) (o 1)) (give g s i r (value_at op))))
        (target.step_at (f g) s' (m.Op mop (def_at i 0) (use_at i 0) (use_at i 1) ∷ r'))
    divides op mop one e p low =
        let v' : Bits = values.value mop (o' 0) (o' 1) in
        let go' : Does target.State = target.give (f g) s' r' (def_at i 0) v' in
        subst (λ z. Fol g (plain g s i r (divided_by (number (width g.types (use_at i 1)) (o 1)) (give g s i r (value_at op))))
        (target.plain (f g) s' r' 20 (target.divided (f g) s' r' z go'))) (sym e)
        (divides_by (number (width g.types (use_at i 1)) (o 1)) (number 64 (o' 1)) (give g s i r (value_at op)) go'
        (subst (λ w. Keeps (number w (o 1)) (number 64 (o' 1))) (sym (full (use_at i 1))) (known_number 64 1))
        (subst (λ a. Fol g (plain g s i r (give g s i r a)) (target.plain (f g) s' r' 20 go')) (sym (value_full op))
        (gives_value one 20 (value op 64 64 64 i.num (o 0) (o 1) (o 2)) v' p low)) low)

    -- ---- data memory
    inside_by : (w : ℕ) (b : Bool) (go : Does State) (go' : Does target.State) → Fol g (plain g s i r go) (target.plain (f g) s' r' w go')
        → Fol g (plain g s i r (if b then go else Breaks)) (target.plain (f g) s' r' w (if b then go' else Breaks))
    inside_by w true go go' k = k
    inside_by w false go go' k = breaks refl refl

    inside_same : (a count : ℕ) → is_inside s'.memory a count ≡ is_inside s.memory a count
    inside_same a count = rw h.memory.long refl

    addressed : (w : ℕ) (a a' : Option ℕ) (count : ℕ) (go : ℕ → Does State) (go' : ℕ → Does target.State) → Keeps a a'
        → ((at : ℕ) → Fol g (plain g s i r (go at)) (target.plain (f g) s' r' w (go' at)))
        → Fol g (plain g s i r (at_address g s i r a count go)) (target.plain (f g) s' r' w (target.at_address (f g) s' r' a' count go'))
    addressed w None a' count go go' k on' = breaks refl refl
    addressed w (Some a) a' count go go' k on' =
        subst (λ z. Fol g (plain g s i r (at_address g s i r (Some a) count go)) (target.plain (f g) s' r' w (target.at_address (f g) s' r' z count go'))) (sym (k a refl))
        (subst (λ b. Fol g (plain g s i r (if is_inside s.memory a count then go a else Breaks)) (target.plain (f g) s' r' w (if b then go' a else Breaks))) (sym (inside_same a count))
        (inside_by w (is_inside s.memory a count) (go a) (go' a) (on' a)))

    abbrev pub load_of : ℕ → ℕ → Does State
    load_of size a = give g s i r (cut (width g.types (def_at i 0)) (bits_of_bytes (bytes_at s.memory a size)))

    pub loads : OneDef → (op : LoadOp) → 12 ≤ weight g.types i
        → Fol g (plain g s i r (at_address g s i r (number 64 (o 0)) (values.load_size op) (load_of (values.load_size op)))) (target.step_at (f g) s' (m.Load op (def_at i 0) (use_at i 0) (pos 0) ∷ r'))
    loads one op low =
        addressed 12 (number 64 (o 0)) (values.address (o' 0) (pos 0)) (values.load_size op) (load_of (values.load_size op))
        (λ at. target.give (f g) s' r' (def_at i 0) (values.extended op (bits_of_bytes (bytes_at s'.memory at (values.load_size op)))))
        (address_kept (o 0) (o' 0) (known 0))
        (λ at. subst (λ w. Fol g (plain g s i r (give g s i r (cut w (bits_of_bytes (bytes_at s.memory at (values.load_size op))))))
        (target.plain (f g) s' r' 12 (target.give (f g) s' r' (def_at i 0) (values.extended op (bits_of_bytes (bytes_at s'.memory at (values.load_size op))))))) (sym (full (def_at i 0)))
        (gives_value one 12 _ _ (load_refines op s.memory s'.memory at h.memory) low))

    abbrev pub store_of : ℕ → ℕ → Does State
    store_of size a = change g s i r (with_bytes s.memory a (bytes_of_bits size (o 0)))

    pub stores : (op : StoreOp) → 20 ≤ weight g.types i
        → Fol g (plain g s i r (at_address g s i r (number 64 (o 1)) (values.store_size op) (store_of (values.store_size op)))) (target.step_at (f g) s' (m.Store op (use_at i 0) (use_at i 1) (pos 0) ∷ r'))
    stores op low =
        addressed 20 (number 64 (o 1)) (values.address (o' 1) (pos 0)) (values.store_size op) (store_of (values.store_size op))
        (λ at. target.change (f g) s' r' (with_bytes s'.memory at (bytes_of_bits (values.store_size op) (o' 0))))
        (address_kept (o 1) (o' 1) (known 1))
        (λ at. goes_on 20 s.regs s'.regs _ _ h.regs
        (written_mono s.memory s'.memory at (bytes_of_bits (values.store_size op) (o 0)) (bytes_of_bits (values.store_size op) (o' 0)) h.memory
        (stored_mono (values.store_size op) (o 0) (o' 0) (known 0))) low)

    -- ---- the data top
    grows_by : (b : Bool) (go : Does State) (go' : Does target.State) → Fol g (plain g s i r go) (target.plain (f g) s' r' 48 go') → 48 ≤ weight g.types i
        → Fol g (plain g s i r (if b then go else Wants)) (target.plain (f g) s' r' 48 (if b then go' else Wants))
    grows_by true go go' k low = k
    grows_by false go go' k low = wants refl here refl (omega (arith, low)) (omega arith)

    -- with this many bytes in both
    grows : OneDef → (count : ℕ) → 48 ≤ weight g.types i → Fol g (plain g s i r (grown g s i r count)) (target.plain (f g) s' r' 48 (target.grown (f g) s' r' (def_at i 0) count))
    grows one count low =
        subst (λ l. Fol g (plain g s i r (grown g s i r count)) (target.plain (f g) s' r' 48 (if nat_le (data_start + l + count) g.end
        then Goes (record s' { rest = r'; memory = s'.memory ++ replicate count None; regs = write s'.regs (def_at i 0) (constant 64 (data_start + l)) })
        else Wants))) (sym h.memory.long)
        (grows_by (nat_le (top s.memory + count) g.end)
        (Goes (record s { rest = r; memory = s.memory ++ replicate count None; regs = put s.regs i.defs (constant 64 (top s.memory)) }))
        (Goes (record s' { rest = r'; memory = s'.memory ++ replicate count None; regs = write s'.regs (def_at i 0) (constant 64 (top s.memory)) }))
        (goes_on 48 (put s.regs i.defs (constant 64 (top s.memory))) (write s'.regs (def_at i 0) (constant 64 (top s.memory)))
        (s.memory ++ replicate count None) (s'.memory ++ replicate count None)
        (subst (λ z. RegsAgree (below (n g)) z (write s'.regs (def_at i 0) (constant 64 (top s.memory)))) (sym (put_is one (constant 64 (top s.memory))))
        (write_agrees (below (n g)) s.regs s'.regs (def_at i 0) _ _ h.regs (λ x z e. e)))
        (append_mono s.memory s'.memory (replicate count None) (replicate count None) h.memory (same_memory (replicate count None))) low) low)

    -- no number of more than 64 bits fits, nor does the greatest of 64
    pub takes : OneDef → (small : (i.num ≤ 2 ^ 64 - 1) ⊎ (2 ^ 64 - 1 < i.num)) → 48 ≤ weight g.types i
        → Fol g (plain g s i r (grown g s i r i.num)) (target.plain (f g) s' r' 48 (target.grown (f g) s' r' (def_at i 0) (capped i.num)))
    takes one (inl small) low =
        let same : capped i.num ≡ i.num = omega (arith, small) in
        subst (λ c. Fol g (plain g s i r (grown g s i r i.num)) (target.plain (f g) s' r' 48 (target.grown (f g) s' r' (def_at i 0) c))) (sym same) (grows one i.num low)
    takes one (inr large) low =
        let same : capped i.num ≡ 2 ^ 64 - 1 = omega (arith, large) in
        let long : length s'.memory ≡ length s.memory = h.memory.long in
        let past : nat_le (top s.memory + i.num) g.end ≡ false = lt-leb (top s.memory + i.num) g.end (omega (arith, large, ends_low)) in
        let past' : nat_le (top s'.memory + (2 ^ 64 - 1)) g.end ≡ false = lt-leb (top s'.memory + (2 ^ 64 - 1)) g.end (omega (arith, ends_low)) in
        subst (λ c. Fol g (plain g s i r (grown g s i r i.num)) (target.plain (f g) s' r' 48 (target.grown (f g) s' r' (def_at i 0) c))) (sym same)
        (subst (λ b. Fol g (plain g s i r (if b then Goes (record s { rest = r; memory = s.memory ++ replicate i.num None; regs = put s.regs i.defs (constant 64 (top s.memory)) }) else Wants))
        (target.plain (f g) s' r' 48 (target.grown (f g) s' r' (def_at i 0) (2 ^ 64 - 1)))) (sym past)
        (subst (λ b. Fol g (plain g s i r Wants) (target.plain (f g) s' r' 48 (if b
        then Goes (record s' { rest = r'; memory = s'.memory ++ replicate (2 ^ 64 - 1) None; regs = write s'.regs (def_at i 0) (constant 64 (top s'.memory)) }) else Wants))) (sym past')
        (wants refl here refl (omega (arith, low)) (omega arith))))

    -- ---- moved bytes
    moved_after : (count : ℕ) (after' : Memory) (z : Option Memory) → (after'' : Memory) × (z ≡ Some after'') × RefinesMemory after' after'' → 64 ≤ weight g.types i
        → Fol g (moved g s i r (Some count) (Some after')) (target.moved (f g) s' r' 64 (Some count) z)
    moved_after count after' z (after'', e, k) low =
        subst (λ y. Fol g (moved g s i r (Some count) (Some after')) (target.moved (f g) s' r' 64 (Some count) y)) (sym e)
        (moves (record s { rest = r; memory = after' }) (record s' { rest = r'; memory = after'' }) refl here refl
        (record { agree = record { args = h.args; base = h.base; block = h.block; regs = h.regs; memory = k }; stands = stands }) (omega (arith, low)) (omega arith))

    moved_both : (a a' : Option ℕ) (z z' : Option Memory) → Keeps a a' → MemoryKept z z' → 64 ≤ weight g.types i
        → Fol g (moved g s i r a z) (target.moved (f g) s' r' 64 a' z')
    moved_both None a' z z' k q low = breaks refl refl
    moved_both (Some count) a' None z' k q low = breaks refl refl
    moved_both (Some count) a' (Some z) z' k q low =
        subst (λ y. Fol g (moved g s i r (Some count) (Some z)) (target.moved (f g) s' r' 64 y z')) (sym (k count refl))
        (moved_after count z z' (q z refl) low)

    count_known : Keeps (number (width g.types (use_at i 2)) (o 2)) (number 64 (o' 2))
    count_known = subst (λ w. Keeps (number w (o 2)) (number 64 (o' 2))) (sym (full (use_at i 2))) (known_number 64 2)

    pub copies : 64 ≤ weight g.types i → Fol g (other g s i r CopyBytes) (target.step_at (f g) s' (m.CopyBytes (use_at i 0) (use_at i 1) (use_at i 2) ∷ r'))
    copies low =
        moved_both (number (width g.types (use_at i 2)) (o 2)) (number 64 (o' 2)) _ _ count_known
        (copied_mono (λ to from count. true) s.memory s'.memory (number 64 (o 0)) (number 64 (o' 0)) (number 64 (o 1)) (number 64 (o' 1))
        (number (width g.types (use_at i 2)) (o 2)) (number 64 (o' 2)) h.memory (known_number 64 0) (known_number 64 1) count_known) low

    pub fills : 64 ≤ weight g.types i → Fol g (other g s i r FillBytes) (target.step_at (f g) s' (m.FillBytes (use_at i 0) (use_at i 1) (use_at i 2) ∷ r'))
    fills low =
        moved_both (number (width g.types (use_at i 2)) (o 2)) (number 64 (o' 2)) _ _ count_known
        (set_mono s.memory s'.memory (number 64 (o 0)) (number 64 (o' 0)) (number 8 (o 1)) (number 8 (o' 1))
        (number (width g.types (use_at i 2)) (o 2)) (number 64 (o' 2)) h.memory (known_number 64 0) (known_number 8 1) count_known) low

    -- ---- calls and returns
    behind_both : (q q' : Reply) → RefinesReply g.end q q' → Alike g (behind_call g s i r q) (target.behind_call (f g) s' r' i.defs q')
    behind_both q q' k = record {
      agree = record {
        args = h.args;
        base = h.base;
        block = h.block;
        regs = subst (λ w. RegsAgree (below (n g)) (put s.regs i.defs (cut w q.value)) (put s'.regs i.defs (cut 64 q'.value))) (sym (full (def_at i 0)))
            (put_agrees (below (n g)) s.regs s'.regs i.defs (cut 64 q.value) (cut 64 q'.value) h.regs (cut_mono 64 q.value q'.value k.value));
        memory = k.memory;
      };
      stands = stands;
    }

    pub calls : 64 + 12 * length i.uses ≤ weight g.types i → Fol g (other g s i r Call) (target.step_at (f g) s' (m.Call (slice_index_or i.to 0 0) i.uses i.defs ∷ r'))
    calls low =
        asks (slice_index_or i.to 0 0) (map (λ x. s.regs x) i.uses) (map (λ x. s'.regs x) i.uses) s.memory s'.memory
        (behind_call g s i r) (target.behind_call (f g) s' r' i.defs) refl here refl
        (args_agree (below (n g)) s.regs s'.regs h.regs i.uses (all_alive (n g) i.uses exist)) h.memory behind_both (omega (arith, low)) (omega arith)

    returned_agrees : (rs : List ℕ) → AllBelow (n g) rs → RefinesBits (returned g s i r rs) (target.returned (f g) s' r' rs)
    returned_agrees [] e = λ x z y. y
    returned_agrees (x ∷ xs) e = let low = e.0 in h.regs x (grind (arith, low))

    pub returns : 64 ≤ weight g.types i → Fol g (other g s i r Return) (target.step_at (f g) s' (m.Return i.uses ∷ r'))
    returns low =
        gives (returned g s i r i.uses) (target.returned (f g) s' r' i.uses) (take s.base_length s.memory) (take s'.base_length s'.memory) refl here refl
        (returned_agrees i.uses exist)
        (subst (λ k. RefinesMemory (take s.base_length s.memory) (take k s'.memory)) (sym h.base) (take_mono s.base_length s.memory s'.memory h.memory))
        (omega (arith, low)) (omega arith)
