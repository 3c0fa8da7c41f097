-- The head of a block: its phis, and what stands behind them.
use Rattle.std.proofs.Common.{◌≡◌, refl, sym, ap, subst, ◌∙◌, ℕ, zero, suc, ◌+◌, ◌*◌, ◌<◌, ◌≤◌, Bool, true, false, List, [], ◌∷◌, ◌++◌, length, Option, Some, None, arith}
use Rattle.std.specs.Prelude.{◌==◌, nat_lt, sum_by, slice_get, slice_index_or, if◌then◌else◌}
use Rattle.std.proofs.lemmas.List.Sums.{sum_by-cons}
use Rattle.std.proofs.lemmas.List.{append-nil, append_assoc}
use Rattle.ir_core.specs.declared.code.Pred.{Pred}
use Rattle.ir_core.specs.declared.code.Pred.TheVariants as pred
use Rattle.gmir.specs.declared.code.GType.{GType}
use Rattle.gmir.specs.declared.code.GOp.{GOp}
use Rattle.gmir.specs.declared.code.GOp.TheVariants.{Add, Sub, Mul, UDiv, SDiv, URem, SRem, And, Or, Xor, Shl, LShr, AShr, Icmp, Select, Trunc, ZExt, SExt, AnyExt, SExtInReg, PtrToInt, IntToPtr, PtrAdd, Constant, Phi, Load, Store, Br, BrCond, Param, Call, Return, TakeData, CopyBytes, FillBytes, Copy, Trap}
use Rattle.gmir.specs.declared.code.GInst.{GInst}
use Rattle.gmir.specs.declared.code.GFunction.{GFunction}
use Rattle.gmir.specs.Play.{width, def_at, insts_at, op_weight, weight, is_legal, by, is_phi, phis, behind_phis, on_edge, with_phis, phi_weights}
use Rattle.gmir.specs.Formed.{AllExist, HasForm, IsInstAt, IsFormed}
use Rattle.mir.specs.declared.code.MInst.{MInst}
use Rattle.mir.specs.declared.code.MInst.TheVariants as m
use Rattle.mir.specs.WellFormed.{is_phi as is_phi_inst}
use Rattle.walks.specs.Walk.{Bits}
use Rattle.walks.specs.Bits.{cut, predicates}
use Rattle.walks.specs.Refines.{RefinesBits}
use Rattle.walks.specs.Registers.{Registers, read, write, put, RegsAgree}
use Rattle.walks.proofs.Registers.{write_agrees}
use Rattle.mir_play.specs.Play as target
use Rattle.selected_code.specs.Selected.{compare, paired, code_by, code, fresh, fresh_in, code_from, blocks_from}
use Rattle.selected_code.proofs.Straight.{below, AllBelow}

-- ---- weights: at least those of a legal instruction

least_by : (b : Bool) (m n : ℕ) → m ≤ n → m ≤ by b m n
least_by true m n h = omega arith
least_by false m n h = h

pub least : (op : GOp) (b : Bool) (n : ℕ) → op_weight op true n ≤ op_weight op b n
least Constant b n = least_by b 12 24 (omega arith)
least Param b n = least_by b 12 24 (omega arith)
least Copy b n = least_by b 12 36 (omega arith)
least Trunc b n = least_by b 12 36 (omega arith)
least AnyExt b n = least_by b 12 36 (omega arith)
least PtrToInt b n = least_by b 12 36 (omega arith)
least IntToPtr b n = least_by b 12 36 (omega arith)
least ZExt b n = least_by b 24 72 (omega arith)
least SExt b n = least_by b 24 72 (omega arith)
least SExtInReg b n = least_by b 24 72 (omega arith)
least Mul b n = least_by b 40 184 (omega arith)
least UDiv b n = least_by b 40 184 (omega arith)
least SDiv b n = least_by b 40 184 (omega arith)
least URem b n = least_by b 40 184 (omega arith)
least SRem b n = least_by b 40 184 (omega arith)
least Icmp b n = least_by b 44 152 (omega arith)
least Select b n = least_by b 96 184 (omega arith)
least BrCond b n = least_by b 64 80 (omega arith)
least Br b n = omega arith
least Trap b n = omega arith
least Phi b n = least_by b 40 64 (omega arith)
least Call b n = least_by b (64 + 12 * n) (96 + 36 * n) (omega arith)
least Return b n = least_by b 64 96 (omega arith)
least TakeData b n = omega arith
least CopyBytes b n = least_by b 64 160 (omega arith)
least FillBytes b n = least_by b 64 160 (omega arith)
least Add b n = least_by b 24 160 (omega arith)
least Sub b n = least_by b 24 160 (omega arith)
least And b n = least_by b 24 160 (omega arith)
least Or b n = least_by b 24 160 (omega arith)
least Xor b n = least_by b 24 160 (omega arith)
least Shl b n = least_by b 24 160 (omega arith)
least LShr b n = least_by b 24 160 (omega arith)
least AShr b n = least_by b 24 160 (omega arith)
least PtrAdd b n = least_by b 24 160 (omega arith)
least Load b n = least_by b 24 160 (omega arith)
least Store b n = least_by b 24 160 (omega arith)

pub least_of : (types : List GType) (i : GInst) (op : GOp) → i.op ≡ op → op_weight op true (length i.uses) ≤ weight types i
least_of types i op e = subst (λ (o : GOp). op_weight o true (length i.uses) ≤ weight types i) e (least i.op (is_legal types i) (length i.uses))

-- ---- what isn't a phi stands where phis have ended

pub record Heads (is : List MInst) : Type 0 where
  pub behind : target.behind_phis is ≡ is
  pub regs : (from : ℕ) (before regs : Registers) → target.with_phis from before is regs ≡ regs
  pub weights : target.phi_weights is ≡ 0

head : (x : MInst) (xs : List MInst) → is_phi_inst x ≡ false → Heads (x ∷ xs)
head (m.Param d n) xs e = record { behind = refl; regs = λ from before regs. refl; weights = refl }
head (m.Op op d a b) xs e = record { behind = refl; regs = λ from before regs. refl; weights = refl }
head (m.Imm op d a n) xs e = record { behind = refl; regs = λ from before regs. refl; weights = refl }
head (m.Const d n) xs e = record { behind = refl; regs = λ from before regs. refl; weights = refl }
head (m.Move d a) xs e = record { behind = refl; regs = λ from before regs. refl; weights = refl }
head (m.Load op d a n) xs e = record { behind = refl; regs = λ from before regs. refl; weights = refl }
head (m.Store op a b n) xs e = record { behind = refl; regs = λ from before regs. refl; weights = refl }
head (m.Phi d pairs) xs e = absurd (let bad : ⊥ = cc in bad)
head (m.Call g args results) xs e = record { behind = refl; regs = λ from before regs. refl; weights = refl }
head (m.TakeData d n) xs e = record { behind = refl; regs = λ from before regs. refl; weights = refl }
head (m.CopyBytes a b n) xs e = record { behind = refl; regs = λ from before regs. refl; weights = refl }
head (m.FillBytes a b n) xs e = record { behind = refl; regs = λ from before regs. refl; weights = refl }
head (m.Branch op a b t e') xs e = record { behind = refl; regs = λ from before regs. refl; weights = refl }
head (m.Jump t) xs e = record { behind = refl; regs = λ from before regs. refl; weights = refl }
head (m.Return rs) xs e = record { behind = refl; regs = λ from before regs. refl; weights = refl }
head m.Trap xs e = record { behind = refl; regs = λ from before regs. refl; weights = refl }

module _ (t : ℕ) (i : GInst) (rest : List MInst) where
  compare_head : (c : Pred) (d a b : ℕ) → Heads (compare c t d a b ++ rest)
  compare_head pred.Eq d a b = head _ _ refl
  compare_head pred.Ne d a b = head _ _ refl
  compare_head pred.Ugt d a b = head _ _ refl
  compare_head pred.Uge d a b = head _ _ refl
  compare_head pred.Ult d a b = head _ _ refl
  compare_head pred.Ule d a b = head _ _ refl
  compare_head pred.Sgt d a b = head _ _ refl
  compare_head pred.Sge d a b = head _ _ refl
  compare_head pred.Slt d a b = head _ _ refl
  compare_head pred.Sle d a b = head _ _ refl

  heads_by : (op : GOp) → is_phi op ≡ false → Heads (code_by t i op ++ rest)
  heads_by Phi e = absurd (let bad : ⊥ = cc in bad)
  heads_by Icmp e = compare_head (slice_index_or predicates i.num pred.Eq) _ _ _
  heads_by Add e = head _ _ refl
  heads_by Sub e = head _ _ refl
  heads_by Mul e = head _ _ refl
  heads_by UDiv e = head _ _ refl
  heads_by SDiv e = head _ _ refl
  heads_by URem e = head _ _ refl
  heads_by SRem e = head _ _ refl
  heads_by And e = head _ _ refl
  heads_by Or e = head _ _ refl
  heads_by Xor e = head _ _ refl
  heads_by Shl e = head _ _ refl
  heads_by LShr e = head _ _ refl
  heads_by AShr e = head _ _ refl
  heads_by Select e = head _ _ refl
  heads_by Trunc e = head _ _ refl
  heads_by ZExt e = head _ _ refl
  heads_by SExt e = head _ _ refl
  heads_by AnyExt e = head _ _ refl
  heads_by SExtInReg e = head _ _ refl
  heads_by PtrToInt e = head _ _ refl
  heads_by IntToPtr e = head _ _ refl
  heads_by PtrAdd e = head _ _ refl
  heads_by Constant e = head _ _ refl
  heads_by Load e = head _ _ refl
  heads_by Store e = head _ _ refl
  heads_by Br e = head _ _ refl
  heads_by BrCond e = head _ _ refl
  heads_by Param e = head _ _ refl
  heads_by Call e = head _ _ refl
  heads_by Return e = head _ _ refl
  heads_by TakeData e = head _ _ refl
  heads_by CopyBytes e = head _ _ refl
  heads_by FillBytes e = head _ _ refl
  heads_by Copy e = head _ _ refl
  heads_by Trap e = head _ _ refl

pub phi_is : (op : GOp) → is_phi op ≡ true → op ≡ Phi
phi_is Phi e = refl
phi_is Icmp e = absurd (let bad : ⊥ = cc in bad)
phi_is Add e = absurd (let bad : ⊥ = cc in bad)
phi_is Sub e = absurd (let bad : ⊥ = cc in bad)
phi_is Mul e = absurd (let bad : ⊥ = cc in bad)
phi_is UDiv e = absurd (let bad : ⊥ = cc in bad)
phi_is SDiv e = absurd (let bad : ⊥ = cc in bad)
phi_is URem e = absurd (let bad : ⊥ = cc in bad)
phi_is SRem e = absurd (let bad : ⊥ = cc in bad)
phi_is And e = absurd (let bad : ⊥ = cc in bad)
phi_is Or e = absurd (let bad : ⊥ = cc in bad)
phi_is Xor e = absurd (let bad : ⊥ = cc in bad)
phi_is Shl e = absurd (let bad : ⊥ = cc in bad)
phi_is LShr e = absurd (let bad : ⊥ = cc in bad)
phi_is AShr e = absurd (let bad : ⊥ = cc in bad)
phi_is Select e = absurd (let bad : ⊥ = cc in bad)
phi_is Trunc e = absurd (let bad : ⊥ = cc in bad)
phi_is ZExt e = absurd (let bad : ⊥ = cc in bad)
phi_is SExt e = absurd (let bad : ⊥ = cc in bad)
phi_is AnyExt e = absurd (let bad : ⊥ = cc in bad)
phi_is SExtInReg e = absurd (let bad : ⊥ = cc in bad)
phi_is PtrToInt e = absurd (let bad : ⊥ = cc in bad)
phi_is IntToPtr e = absurd (let bad : ⊥ = cc in bad)
phi_is PtrAdd e = absurd (let bad : ⊥ = cc in bad)
phi_is Constant e = absurd (let bad : ⊥ = cc in bad)
phi_is Load e = absurd (let bad : ⊥ = cc in bad)
phi_is Store e = absurd (let bad : ⊥ = cc in bad)
phi_is Br e = absurd (let bad : ⊥ = cc in bad)
phi_is BrCond e = absurd (let bad : ⊥ = cc in bad)
phi_is Param e = absurd (let bad : ⊥ = cc in bad)
phi_is Call e = absurd (let bad : ⊥ = cc in bad)
phi_is Return e = absurd (let bad : ⊥ = cc in bad)
phi_is TakeData e = absurd (let bad : ⊥ = cc in bad)
phi_is CopyBytes e = absurd (let bad : ⊥ = cc in bad)
phi_is FillBytes e = absurd (let bad : ⊥ = cc in bad)
phi_is Copy e = absurd (let bad : ⊥ = cc in bad)
phi_is Trap e = absurd (let bad : ⊥ = cc in bad)

-- ---- the code of a block of the list

pub record BlockCode (t : ℕ) (blocks : List (List GInst)) (k : ℕ) : Type 0 where
  pub next : ℕ
  pub high : t ≤ next
  pub is : slice_index_or (blocks_from t blocks) k [] ≡ code_from next (slice_index_or blocks k [])

pub block_code : (t : ℕ) (blocks : List (List GInst)) (k : ℕ) → BlockCode t blocks k
block_code t [] zero = record { next = t; high = omega arith; is = refl }
block_code t [] (suc k) = record { next = t; high = omega arith; is = refl }
block_code t (insts ∷ blocks) zero = record { next = t; high = omega arith; is = refl }
block_code t (insts ∷ blocks) (suc k) =
    let r = block_code (t + fresh_in insts) blocks k in
    let low = r.high in
    record { next = r.next; high = omega (arith, low); is = r.is }

-- ---- the phis and what stands behind them

pub parts : (is : List GInst) → is ≡ phis is ++ behind_phis is
parts [] = refl
parts (i ∷ is) = by_test (is_phi i.op) (parts is)
  where
    by_test : (b : Bool) → is ≡ phis is ++ behind_phis is → i ∷ is ≡ (if b then i ∷ phis is else []) ++ (if b then behind_phis is else i ∷ is)
    by_test true e = ap (λ z. i ∷ z) e
    by_test false e = refl

pub record Behind (n t : ℕ) (is : List GInst) : Type 0 where
  pub next : ℕ
  pub high : n ≤ next
  pub is' : target.behind_phis (code_from t is) ≡ code_from next (behind_phis is)

pub behind_head : (n t : ℕ) → n ≤ t → (is : List GInst) → Behind n t is
behind_head n t h [] = record { next = t; high = h; is' = refl }
behind_head n t h (i ∷ is) = by_test (is_phi i.op) refl (behind_head n (t + fresh i.op) (omega (arith, h)) is)
  where
    by_test : (b : Bool) → is_phi i.op ≡ b → Behind n (t + fresh i.op) is → Behind n t (i ∷ is)
    by_test true e r = record {
      next = r.next;
      high = r.high;
      is' = (ap (λ op. target.behind_phis (code_by t i op ++ code_from (t + fresh i.op) is)) (phi_is i.op e) ∙ r.is'
          ∙ ap (λ (b : Bool). code_from r.next (if b then behind_phis is else i ∷ is)) (sym e));
    }
    by_test false e r = record {
      next = t;
      high = h;
      is' = ((heads_by t i (code_from (t + fresh i.op) is) i.op e).behind ∙ ap (λ (b : Bool). code_from t (if b then behind_phis is else i ∷ is)) (sym e));
    }

-- the register of an edge
edge_same : (from : ℕ) (to uses : List ℕ) → target.on_edge from (paired uses to) ≡ on_edge from to uses
edge_same from [] [] = refl
edge_same from [] (r ∷ rs) = refl
edge_same from (b ∷ bs) [] = refl
edge_same from (b ∷ bs) (r ∷ rs) = ap (λ o. if b == from then Some r else o) (edge_same from bs rs)

pub cut_less : (w : ℕ) (a : Bits) → RefinesBits (cut w a) a
cut_less w a i bit e = by_test (nat_lt i w) e
  where
    by_test : (b : Bool) → (if b then a i else None) ≡ Some bit → a i ≡ Some bit
    by_test true e = e
    by_test false e = absurd (let bad : ⊥ = cc in bad)

module _ (g : GFunction) where
  abbrev n : ℕ
  n = length g.types

  pub exist_below : (rs : List ℕ) → AllExist g rs → AllBelow n rs
  exist_below [] h = tt
  exist_below (r ∷ rs) h = (h.0, exist_below rs h.1)

  module _ (from : ℕ) (before before' : Registers) (h : RegsAgree (below n) before before') where
    edge_reads : (to uses : List ℕ) → AllBelow n uses → RefinesBits (read before (on_edge from to uses)) (read before' (on_edge from to uses))
    edge_reads [] uses e = λ i bit x. x
    edge_reads (b ∷ bs) [] e = λ i bit x. x
    edge_reads (b ∷ bs) (r ∷ rs) e = by_test (b == from) (edge_reads bs rs e.1)
      where
        by_test : (t : Bool) → RefinesBits (read before (on_edge from bs rs)) (read before' (on_edge from bs rs))
            → RefinesBits (read before (if t then Some r else on_edge from bs rs)) (read before' (if t then Some r else on_edge from bs rs))
        by_test true k = let low = e.0 in h r (grind (arith, low))
        by_test false k = k

    one_phi : (i : GInst) → HasForm g i Phi → AllExist g i.uses → (regs regs' : Registers) → RegsAgree (below n) regs regs'
        → RegsAgree (below n) (put regs i.defs (cut (width g.types (def_at i 0)) (read before (on_edge from i.to i.uses))))
        (write regs' (def_at i 0) (read before' (target.on_edge from (paired i.uses i.to))))
    one_phi i form exist regs regs' k =
        let a : Bits = cut (width g.types (def_at i 0)) (read before (on_edge from i.to i.uses)) in
        let defs : i.defs ≡ form.0 ∷ [] = form.2.defs in
        let put_is : put regs i.defs a ≡ write regs (def_at i 0) a = ap (λ ds. put regs ds a) defs ∙ ap (λ d. write regs d a) (sym (ap (λ ds. slice_index_or ds 0 0) defs)) in
        subst (λ z. RegsAgree (below n) z (write regs' (def_at i 0) (read before' (target.on_edge from (paired i.uses i.to))))) (sym put_is)
        (subst (λ o. RegsAgree (below n) (write regs (def_at i 0) a) (write regs' (def_at i 0) (read before' o))) (sym (edge_same from i.to i.uses))
        (write_agrees (below n) regs regs' (def_at i 0) a (read before' (on_edge from i.to i.uses)) k
        (λ j bit x. edge_reads i.to i.uses (exist_below i.uses exist) j bit (cut_less (width g.types (def_at i 0)) (read before (on_edge from i.to i.uses)) j bit x))))

  module _ (formed : IsFormed g) (block : ℕ) (inside : block < length g.blocks) (from : ℕ) (before before' : Registers) (h : RegsAgree (below n) before before') where
    -- the phis of what is left of a block change registers alike
    pub phis_agree : (done is : List GInst) (t : ℕ) → insts_at g block ≡ done ++ is → (regs regs' : Registers) → RegsAgree (below n) regs regs'
        → RegsAgree (below n) (with_phis g.types from before (phis is) regs) (target.with_phis from before' (code_from t is) regs')
    phis_agree done [] t e regs regs' k = k
    phis_agree done (i ∷ is) t e regs regs' k =
        by_test (is_phi i.op) refl (λ regs regs' k. phis_agree (done ++ i ∷ []) is (t + fresh i.op) (e ∙ sym (append_assoc done (i ∷ []) is)) regs regs' k)
      where
        by_test : (b : Bool) → is_phi i.op ≡ b
            → ((regs regs' : Registers) → RegsAgree (below n) regs regs'
            → RegsAgree (below n) (with_phis g.types from before (phis is) regs) (target.with_phis from before' (code_from (t + fresh i.op) is) regs'))
            → RegsAgree (below n) (with_phis g.types from before (if is_phi i.op then i ∷ phis is else []) regs) (target.with_phis from before' (code t i ++ code_from (t + fresh i.op) is) regs')
        by_test true c go =
            let at : IsInstAt g block done i is = formed.insts block done i is inside e in
            let form : HasForm g i Phi = subst (HasForm g i) (phi_is i.op c) at.form in
            subst (λ (b : Bool). RegsAgree (below n) (with_phis g.types from before (if b then i ∷ phis is else []) regs) (target.with_phis from before' (code t i ++ code_from (t + fresh i.op) is) regs')) (sym c)
            (subst (λ op. RegsAgree (below n) (with_phis g.types from before (i ∷ phis is) regs) (target.with_phis from before' (code_by t i op ++ code_from (t + fresh i.op) is) regs')) (sym (phi_is i.op c))
            (go _ _ (one_phi from before before' h i form at.uses regs regs' k)))
        by_test false c go =
            subst (λ (b : Bool). RegsAgree (below n) (with_phis g.types from before (if b then i ∷ phis is else []) regs) (target.with_phis from before' (code t i ++ code_from (t + fresh i.op) is) regs')) (sym c)
            (subst (λ z. RegsAgree (below n) regs z) (sym ((heads_by t i (code_from (t + fresh i.op) is) i.op c).regs from before' regs')) k)

  -- the phis weigh no more
  pub phis_weigh : (is : List GInst) (t : ℕ) → target.phi_weights (code_from t is) ≤ sum_by (weight g.types) (phis is)
  phis_weigh [] t = omega arith
  phis_weigh (i ∷ is) t = by_test (is_phi i.op) refl (phis_weigh is (t + fresh i.op))
    where
      by_test : (b : Bool) → is_phi i.op ≡ b → target.phi_weights (code_from (t + fresh i.op) is) ≤ sum_by (weight g.types) (phis is)
          → target.phi_weights (code t i ++ code_from (t + fresh i.op) is) ≤ sum_by (weight g.types) (if is_phi i.op then i ∷ phis is else [])
      by_test true c low =
          let one : 40 ≤ weight g.types i = least_of g.types i Phi (phi_is i.op c) in
          let sum : sum_by (weight g.types) (i ∷ phis is) ≡ weight g.types i + sum_by (weight g.types) (phis is) = sum_by-cons (weight g.types) i (phis is) in
          subst (λ (b : Bool). target.phi_weights (code t i ++ code_from (t + fresh i.op) is) ≤ sum_by (weight g.types) (if b then i ∷ phis is else [])) (sym c)
          (subst (λ op. target.phi_weights (code_by t i op ++ code_from (t + fresh i.op) is) ≤ sum_by (weight g.types) (i ∷ phis is)) (sym (phi_is i.op c))
          (subst (λ k. 40 + target.phi_weights (code_from (t + fresh i.op) is) ≤ k) (sym sum) (omega (arith, one, low))))
      by_test false c low =
          let none : target.phi_weights (code t i ++ code_from (t + fresh i.op) is) ≡ 0 = (heads_by t i (code_from (t + fresh i.op) is) i.op c).weights in
          omega (arith, none)
