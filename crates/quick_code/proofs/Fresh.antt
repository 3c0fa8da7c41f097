-- The labels of a function's code rise, so each stands at one place.
use Rattle.std.proofs.Common.{[], ◌≡◌, refl, sym, ap, subst, ℕ, zero, suc, ◌+◌, ◌≤◌, ◌⊎◌, inl, inr, List, ◌∷◌, ◌++◌, length, Some, Bool, true, false, cond, arith}
use Rattle.std.specs.Prelude.{slice_get, take, drop, ◌==◌}
use Rattle.std.proofs.lemmas.List.Sums.{sum_by-append, sum_by-cons}
use Rattle.ir_core.specs.declared.types.Ty.{Ty}
use Rattle.ir_core.specs.declared.code.Op.{Op}
use Rattle.ir_core.specs.declared.code.Op.TheVariants.{Binary, Icmp, Cast, Select, Freeze, Phi, Alloca, Load, Store, Gep, Call, BuiltIn as CallBuiltIn, Ret, Br, CondBr, Switch, Unreachable}
use Rattle.ir_core.specs.declared.code.Operand.{Operand}
use Rattle.ir_core.specs.declared.code.Operand.TheVariants.{Num}
use Rattle.ir_core.specs.declared.code.Inst.{Inst}
use Rattle.ir_core.specs.declared.code.Block.{Block}
use Rattle.ir_core.specs.Units.{instructions}
use Rattle.ir_core.specs.declared.program.Function.{Function}
use Rattle.ir_core.specs.declared.program.Global.{Global}
use Rattle.rv_core.specs.declared.instr.BranchOp.{BranchOp}
use Rattle.rv_core.specs.declared.instr.BranchOp.TheVariants.{Beq, Bne}
use Rattle.ir_meaning.specs.Step.{insts_at, insts_of, number_at, phis, moves_bytes}
use Rattle.code_pieces.specs.Code.{prologue}
use Rattle.code_pieces.specs.Bytes.{save_code}
use Rattle.quick_code.specs.Data.{takes_data, alloca_code, moved_code}
use Rattle.quick_code.specs.Operations.{value_code, operation_code, keeping_code}
use Rattle.code_pieces.specs.Items.{Bind, Goto, Test, plain}
use Rattle.quick_code.specs.Blocks.{edges_of, edges_in, label_count, is_headless, first_to, case_label, cases_items, case_edge, case_edges, are_headless, switch_edges, return_code, called_code, arguments_code, edge_code, block_label, edge_label, edge_items, last_edge_items, branch_items, phis_code, op_items, insts_items, block_items, blocks_items, function_items}
use Rattle.quick_code.specs.Forms.{IsFlow, IsJump}
use Rattle.rv_core.specs.declared.reg.Reg.TheVariants.{X0, T0, T1}
use Rattle.code_pieces.proofs.Rising.{Rise, rise-lower, rise-append, rise-plain, rise-higher}

-- ---- the labels of a function

module _ (globals : List Global) (function : Function) where
  pub rise-last : (block to low : ℕ) → Rise low low (last_edge_items globals function block to)
  rise-last block to low = rise-append (plain (edge_code globals function block to)) _ low low low (rise-plain (edge_code globals function block to) low) (by_test (to == block + 1))
    where
      by_test : (b : Bool) → Rise low low (cond b [] (Goto (block_label function to) ∷ []))
      by_test true = omega arith
      by_test false = omega arith

  pub rise-edge : (block to low : ℕ) → Rise low low (edge_items globals function block to)
  rise-edge block to low = rise-append (plain (edge_code globals function block to)) (Goto (block_label function to) ∷ []) low low low (rise-plain (edge_code globals function block to) low) (omega arith)

  rise-branch : (block : ℕ) (op : BranchOp) (condition : Operand) (fails holds : ℕ) → Rise (edge_label function block) (edge_label function block + 1) (branch_items globals function block op condition fails holds)
  rise-branch block op condition fails holds =
      let l = edge_label function block in
      rise-append (plain (value_code globals T0 condition)) (Test op T0 X0 l ∷ (edge_items globals function block fails ++ Bind l ∷ last_edge_items globals function block holds)) l l (l + 1) (rise-plain (value_code globals T0 condition) l)
      (rise-append (edge_items globals function block fails) (Bind l ∷ last_edge_items globals function block holds) l l (l + 1) (rise-edge block fails l) (omega arith, rise-last block holds (l + 1)))

  pub rise-op : (room fr block number low : ℕ) (gives : Ty) (op : Op) → (Rise low low (op_items globals function room fr block number gives op)) ⊎ IsJump op
  rise-op room fr block number low gives (Binary op flags a b) = inl (rise-plain (operation_code globals gives (Binary op flags a b) number) low)
  rise-op room fr block number low gives (Icmp pred flags of a b) = inl (rise-plain (operation_code globals gives (Icmp pred flags of a b) number) low)
  rise-op room fr block number low gives (Cast op flags of a) = inl (rise-plain (operation_code globals gives (Cast op flags of a) number) low)
  rise-op room fr block number low gives (Select c a b) = inl (rise-plain (operation_code globals gives (Select c a b) number) low)
  rise-op room fr block number low gives (Freeze a) = inl (rise-plain (operation_code globals gives (Freeze a) number) low)
  rise-op room fr block number low gives (Phi pairs) = inl (omega arith)
  rise-op room fr block number low gives (Alloca of count) = inl (rise-plain (alloca_code room of count number) low)
  rise-op room fr block number low gives (Load a) = inl (rise-plain (operation_code globals gives (Load a) number) low)
  rise-op room fr block number low gives (Store of a b) = inl (rise-plain (keeping_code globals of a b) low)
  rise-op room fr block number low gives (Gep of a indices) = inl (rise-plain (operation_code globals gives (Gep of a indices) number) low)
  rise-op room fr block number low gives (Call g arguments) = inl (rise-plain (called_code globals gives g arguments number) low)
  rise-op room fr block number low gives (CallBuiltIn which arguments) = inl (rise-plain (cond (moves_bytes which) (moved_code globals which arguments) (operation_code globals gives (CallBuiltIn which arguments) number)) low)
  rise-op room fr block number low gives (Ret a) = inl (rise-plain (return_code globals (takes_data function) fr a) low)
  rise-op room fr block number low gives (Br to) = inr tt
  rise-op room fr block number low gives (CondBr c x y) = inr tt
  rise-op room fr block number low gives (Switch of a otherwise cases) = inr tt
  rise-op room fr block number low gives Unreachable = inl (omega arith)

  pub rise-cases : (block : ℕ) (all cases : List (ℕ × ℕ)) (low : ℕ) → Rise low low (cases_items globals function block all cases)
  rise-cases block all [] low = omega arith
  rise-cases block all (one ∷ cases) low =
      rise-append (plain (value_code globals T1 (Num one.0))) (Test Beq T0 T1 (case_label function block all one.1) ∷ cases_items globals function block all cases) low low low (rise-plain (value_code globals T1 (Num one.0)) low) (rise-cases block all cases low)

  pub rise-case : (block : ℕ) (all : List (ℕ × ℕ)) (number to : ℕ) → Rise (edge_label function block + number) (edge_label function block + (number + 1)) (case_edge globals function block all number to)
  rise-case block all number to = by_head (is_headless (phis (insts_at function to)))
    where
      l : ℕ
      l = edge_label function block + number

      edge : Rise (edge_label function block + number + 1) (edge_label function block + (number + 1)) (edge_items globals function block to)
      edge = subst (λ (high : ℕ). Rise (edge_label function block + number + 1) high (edge_items globals function block to)) (let e : edge_label function block + number + 1 ≡ edge_label function block + (number + 1) = omega arith in e) (rise-edge block to (edge_label function block + number + 1))

      by_first : (b : Bool) → Rise (edge_label function block + number) (edge_label function block + (number + 1)) (cond b (Bind (edge_label function block + number) ∷ edge_items globals function block to) [])
      by_first true = (omega arith, edge)
      by_first false = omega arith

      by_head : (b : Bool) → Rise (edge_label function block + number) (edge_label function block + (number + 1)) (cond b [] (cond (first_to 0 to all == number) (Bind (edge_label function block + number) ∷ edge_items globals function block to) []))
      by_head true = omega arith
      by_head false = by_first (first_to 0 to all == number)

  pub rise-case-edges : (block : ℕ) (all : List (ℕ × ℕ)) (number : ℕ) (cases : List (ℕ × ℕ)) → Rise (edge_label function block + number) (edge_label function block + (number + length cases)) (case_edges globals function block all number cases)
  rise-case-edges block all number [] = omega arith
  rise-case-edges block all number (one ∷ cases) =
      let same : edge_label function block + (number + 1 + length cases) ≡ edge_label function block + (number + suc (length cases)) = omega arith in
      rise-append (case_edge globals function block all number one.1) (case_edges globals function block all (number + 1) cases) (edge_label function block + number) (edge_label function block + (number + 1)) (edge_label function block + (number + suc (length cases)))
      (rise-case block all number one.1)
      (subst (λ (high : ℕ). Rise (edge_label function block + (number + 1)) high (case_edges globals function block all (number + 1) cases)) same (rise-case-edges block all (number + 1) cases))

  rise-switch-edges : (block otherwise : ℕ) (cases : List (ℕ × ℕ)) → Rise (edge_label function block) (edge_label function block + length cases) (switch_edges globals function block otherwise cases)
  rise-switch-edges block otherwise cases = by_head (are_headless function cases)
    where
      low-is : edge_label function block + 0 ≡ edge_label function block
      low-is = omega arith

      edges : Rise (edge_label function block) (edge_label function block + length cases) (case_edges globals function block cases 0 cases)
      edges =
          subst (λ (low : ℕ). Rise low (edge_label function block + length cases) (case_edges globals function block cases 0 cases)) low-is
          (subst (λ (high : ℕ). Rise (edge_label function block + 0) (edge_label function block + high) (case_edges globals function block cases 0 cases)) (let e : 0 + length cases ≡ length cases = omega arith in e) (rise-case-edges block cases 0 cases))

      by_head : (b : Bool) → Rise (edge_label function block) (edge_label function block + length cases)
          (cond b (last_edge_items globals function block otherwise) (edge_items globals function block otherwise ++ case_edges globals function block cases 0 cases))
      by_head true = rise-lower (last_edge_items globals function block otherwise) (edge_label function block + length cases) (edge_label function block) (edge_label function block + length cases) (omega arith) (rise-last block otherwise (edge_label function block + length cases))
      by_head false =
          rise-append (edge_items globals function block otherwise) (case_edges globals function block cases 0 cases) (edge_label function block) (edge_label function block) (edge_label function block + length cases) (rise-edge block otherwise (edge_label function block)) edges

  pub rise-jump : (room fr block number : ℕ) (gives : Ty) (op : Op) → IsJump op → Rise (edge_label function block) (edge_label function block + edges_of op) (op_items globals function room fr block number gives op)
  rise-jump room fr block number gives (Br to) h =
      subst (λ (high : ℕ). Rise (edge_label function block) high (last_edge_items globals function block to)) (let e : edge_label function block ≡ edge_label function block + 0 = omega arith in e) (rise-last block to (edge_label function block))
  rise-jump room fr block number gives (Switch of a otherwise cases) h =
      let l = edge_label function block in
      rise-append (plain (value_code globals T0 a)) (cases_items globals function block cases cases ++ switch_edges globals function block otherwise cases) l l (l + length cases) (rise-plain (value_code globals T0 a) l)
      (rise-append (cases_items globals function block cases cases) (switch_edges globals function block otherwise cases) l l (l + length cases) (rise-cases block cases cases l) (rise-switch-edges block otherwise cases))
  rise-jump room fr block number gives (CondBr c x y) h = by_test (y == block + 1)
    where
      by_test : (b : Bool) → Rise (edge_label function block) (edge_label function block + 1) (cond b (branch_items globals function block Beq c x y) (branch_items globals function block Bne c y x))
      by_test true = rise-branch block Beq c x y
      by_test false = rise-branch block Bne c y x
  rise-jump room fr block number gives (Binary op flags a b) h = absurd h
  rise-jump room fr block number gives (Icmp pred flags of a b) h = absurd h
  rise-jump room fr block number gives (Cast op flags of a) h = absurd h
  rise-jump room fr block number gives (Select c a b) h = absurd h
  rise-jump room fr block number gives (Freeze a) h = absurd h
  rise-jump room fr block number gives (Phi pairs) h = absurd h
  rise-jump room fr block number gives (Alloca of count) h = absurd h
  rise-jump room fr block number gives (Load a) h = absurd h
  rise-jump room fr block number gives (Store of a b) h = absurd h
  rise-jump room fr block number gives (Gep of a indices) h = absurd h
  rise-jump room fr block number gives (Call g arguments) h = absurd h
  rise-jump room fr block number gives (CallBuiltIn which arguments) h = absurd h
  rise-jump room fr block number gives (Ret a) h = absurd h
  rise-jump room fr block number gives Unreachable h = absurd h

-- a jump among instructions is the last of them
abbrev pub EndsByJump : List Inst → Type 0
EndsByJump insts = (k : ℕ) (inst : Inst) → slice_get insts k ≡ Some inst → IsJump inst.op → length insts ≡ k + 1

pub ends-tail : (inst : Inst) (insts : List Inst) → EndsByJump (inst ∷ insts) → EndsByJump insts
ends-tail inst insts h k x at is-jump = let all = h (suc k) x at is-jump in omega (arith, all)

pub ends-drop : (k : ℕ) (insts : List Inst) → EndsByJump insts → EndsByJump (drop k insts)
ends-drop zero insts h = h
ends-drop (suc k) [] h = h
ends-drop (suc k) (inst ∷ insts) h = ends-drop k insts (ends-tail inst insts h)

pub none-behind : (inst : Inst) (insts : List Inst) → EndsByJump (inst ∷ insts) → IsJump inst.op → insts ≡ []
none-behind inst [] h is-jump = refl
none-behind inst (x ∷ xs) h is-jump = absurd (let all = h 0 inst refl is-jump in let bad : ⊥ = omega (arith, all) in bad)

-- ---- how many labels there are

abbrev edges_at : Inst → ℕ
edges_at inst = edges_of inst.op

edges-drop : (k : ℕ) (insts : List Inst) → edges_in (drop k insts) ≤ edges_in insts
edges-drop zero insts = omega arith
edges-drop (suc k) [] = omega arith
edges-drop (suc k) (inst ∷ insts) = let rest = edges-drop k insts in let one = sum_by-cons edges_at inst insts in omega (arith, rest, one)

block-edges : (blocks : List Block) (block : ℕ) → edges_in (instructions (take (suc block) blocks)) ≡ edges_in (instructions (take block blocks)) + edges_in (insts_of (slice_get blocks block))
block-edges [] zero = refl
block-edges [] (suc block) = refl
block-edges (b ∷ bs) zero = let all = sum_by-append edges_at b.insts [] in omega (arith, all)
block-edges (b ∷ bs) (suc block) =
    let rest = block-edges bs block in
    let left = sum_by-append edges_at b.insts (instructions (take (suc block) bs)) in
    let right = sum_by-append edges_at b.insts (instructions (take block bs)) in
    omega (arith, rest, left, right)

-- the labels of the next block come behind those of a block's edges
pub label-next : (function : Function) (block : ℕ) → block_label function (block + 1) ≡ edge_label function block + edges_in (insts_at function block)
unfolding block_label
label-next function block =
    let step = block-edges function.blocks block in
    let same : edges_in (instructions (take (block + 1) function.blocks)) ≡ edges_in (instructions (take (suc block) function.blocks)) = ap (λ (k : ℕ). edges_in (instructions (take k function.blocks))) (let z : block + 1 ≡ suc block = omega arith in z) in
    omega (arith, step, same)

pub label-first : (function : Function) → block_label function 0 ≡ 0
unfolding block_label
label-first function = by_blocks function.blocks
  where
    by_blocks : (blocks : List Block) → 0 + edges_in (instructions (take 0 blocks)) ≡ 0
    by_blocks [] = omega arith
    by_blocks (b ∷ bs) = omega arith

module _ (globals : List Global) (function : Function) (flow : IsFlow function) where
  rise-insts : (room fr block place : ℕ) (insts : List Inst) → EndsByJump insts → Rise (edge_label function block) (edge_label function block + edges_in insts) (insts_items globals function room fr block place insts)
  rise-insts room fr block place [] h = omega arith
  rise-insts room fr block place (inst ∷ insts) h =
      by_kind (rise-op globals function room fr block (number_at function block place) (edge_label function block) inst.gives inst.op) (rise-insts room fr block (place + 1) insts (ends-tail inst insts h))
    where
      low : ℕ
      low = edge_label function block

      sum : edges_in (inst ∷ insts) ≡ edges_of inst.op + edges_in insts
      sum = sum_by-cons edges_at inst insts

      by_kind : (Rise (edge_label function block) (edge_label function block) (op_items globals function room fr block (number_at function block place) inst.gives inst.op)) ⊎ IsJump inst.op
          → Rise (edge_label function block) (edge_label function block + edges_in insts) (insts_items globals function room fr block (place + 1) insts)
          → Rise (edge_label function block) (edge_label function block + edges_in (inst ∷ insts)) (op_items globals function room fr block (number_at function block place) inst.gives inst.op ++ insts_items globals function room fr block (place + 1) insts)
      by_kind (inl flat) rest =
          rise-higher (op_items globals function room fr block (number_at function block place) inst.gives inst.op ++ insts_items globals function room fr block (place + 1) insts) (edge_label function block) (edge_label function block + edges_in insts) (edge_label function block + edges_in (inst ∷ insts)) (omega (arith, sum))
          (rise-append (op_items globals function room fr block (number_at function block place) inst.gives inst.op) (insts_items globals function room fr block (place + 1) insts) (edge_label function block) (edge_label function block) (edge_label function block + edges_in insts) flat rest)
      by_kind (inr is-jump) rest =
          let high : ℕ = edge_label function block + edges_of inst.op in
          rise-higher (op_items globals function room fr block (number_at function block place) inst.gives inst.op ++ insts_items globals function room fr block (place + 1) insts) (edge_label function block) high (edge_label function block + edges_in (inst ∷ insts)) (omega (arith, sum))
          (rise-append (op_items globals function room fr block (number_at function block place) inst.gives inst.op) (insts_items globals function room fr block (place + 1) insts) (edge_label function block) high high (rise-jump globals function room fr block (number_at function block place) inst.gives inst.op is-jump)
          (subst (λ (xs : List Inst). Rise high high (insts_items globals function room fr block (place + 1) xs)) (sym (none-behind inst insts h is-jump)) (omega arith)))

  pub rise-block : (room fr block : ℕ) → Rise (block_label function block) (block_label function (block + 1)) (block_items globals function room fr block)
  rise-block room fr block =
      let heads = phis (insts_at function block) in
      let rest = drop (length heads) (insts_at function block) in
      let next = label-next function block in
      let fewer = edges-drop (length heads) (insts_at function block) in (
        omega arith,
        rise-append (plain (phis_code function block 0 heads)) (insts_items globals function room fr block (length heads) rest) (block_label function block + 1) (edge_label function block) (block_label function (block + 1))
            (rise-plain (phis_code function block 0 heads) (edge_label function block))
            (rise-higher (insts_items globals function room fr block (length heads) rest) (edge_label function block) (edge_label function block + edges_in rest) (block_label function (block + 1)) (omega (arith, next, fewer))
            (rise-insts room fr block (length heads) rest (ends-drop (length heads) (insts_at function block) (λ k x at is-jump. flow.ends block k x at is-jump)))),
      )

  rise-blocks : (room fr many block : ℕ) → Rise (block_label function block) (block_label function (block + many)) (blocks_items globals function room fr block many)
  rise-blocks room fr zero block = let e : block_label function block ≡ block_label function (block + 0) = ap (block_label function) (let z : block ≡ block + 0 = omega arith in z) in omega (arith, e)
  rise-blocks room fr (suc many) block =
      let same : block + 1 + many ≡ block + suc many = omega arith in
      rise-append (block_items globals function room fr block) (blocks_items globals function room fr (block + 1) many) (block_label function block) (block_label function (block + 1)) (block_label function (block + suc many)) (rise-block room fr block)
      (subst (λ (b : ℕ). Rise (block_label function (block + 1)) (block_label function b) (blocks_items globals function room fr (block + 1) many)) same (rise-blocks room fr many (block + 1)))

  pub labels-rise : (symbol room fr : ℕ) → Rise 0 (label_count function) (function_items globals symbol function room fr)
  labels-rise symbol room fr =
      let blocks = blocks_items globals function room fr 0 (length function.blocks) in
      let first = prologue symbol fr ++ save_code (takes_data function) fr in
      let params = arguments_code 0 function.params in
      let high : block_label function (0 + length function.blocks) ≡ label_count function = ap (block_label function) (let z : 0 + length function.blocks ≡ length function.blocks = omega arith in z) in
      rise-append (plain first) (plain params ++ blocks) 0 0 (label_count function) (rise-plain first 0)
      (rise-append (plain params) blocks 0 0 (label_count function) (rise-plain params 0)
      (subst (λ (low : ℕ). Rise low (label_count function) blocks) (label-first function) (subst (λ (h : ℕ). Rise (block_label function 0) h blocks) high (rise-blocks room fr (length function.blocks) 0))))
