-- A jump, a conditional branch and a switch are followed by their code.
use Rattle.std.proofs.Common.{◌≡◌, refl, sym, ap, subst, ◌∙◌, ℕ, zero, suc, ◌+◌, ◌*◌, ◌≤◌, Bool, true, false, cond, List, [], ◌∷◌, ◌++◌, length, Some, None, arith}
use Rattle.std.specs.Prelude.{slice_get}
use Rattle.ir_core.specs.Program.{Program}
use Rattle.ir_core.specs.Units.{units, parts_in}
use Rattle.ir_core.specs.declared.types.Ty.{Ty}
use Rattle.ir_core.specs.declared.types.Ty.TheVariants.{Int}
use Rattle.ir_core.specs.declared.code.Operand.{Operand}
use Rattle.ir_core.specs.declared.code.Op.{Op}
use Rattle.ir_core.specs.declared.code.Op.TheVariants.{Br, CondBr, Switch}
use Rattle.ir_core.specs.declared.code.Inst.{Inst}
use Rattle.ir_core.specs.declared.program.Function.{Function}
use Rattle.ir_core.specs.declared.program.Global.{Global}
use Rattle.ir_meaning.specs.Value.{Value}
use Rattle.ir_meaning.specs.Operators.{width}
use Rattle.ir_meaning.specs.Step as ir
use Rattle.ir_meaning.specs.Step.{function_at, insts_at, number_at, operand, jump, act, case_block}
use Rattle.ir_meaning.specs.Ranges.{FitsWidth}
use Rattle.ir_meaning.specs.Typed.{types, IsOperand, IsInteger, IsTypedFunction, AreCases, IsOp}
use Rattle.ir_meaning.proofs.Keeping.{operand-fits}
use Rattle.gmir.specs.declared.code.GInst.{GInst}
use Rattle.gmir.specs.declared.code.GFunction.{GFunction}
use Rattle.gmir.specs.Play as play
use Rattle.gmir.specs.Play.{State, weight, is_legal}
use Rattle.walks.specs.Refines.{RefinesBits}
use Rattle.walks.specs.Functions.{bits_of, Point}
use Rattle.generic_code.specs.Literals.{literal, loads, all_loaded, register_of, behind_all}
use Rattle.generic_code.specs.Edges.{Edge, Ending, heads, edge_code, edge_uses, branch, tests}
use Rattle.generic_code.proofs.Loads.{stand_front, stand_behind, ValuesTyped, prepared, registers_behind, loads_run}
use Rattle.generic_code.proofs.Computes.{integer_value}
use Rattle.generic_code.proofs.Steps.{Alike}
use Rattle.generic_code.proofs.Ways.{land_behind, moved, Ways, land_branch, lands_follow, lost_follows, Followed, heads_units}
use Rattle.generic_code.proofs.Tests.{AllCasesStand, own_block}
use Rattle.generic_code.proofs.Switches.{land_tests}
use Rattle.generic_code.proofs.Flow.{code_jump, code_from}
use Rattle.generic_code.specs.Edges.{ending_of, ending_behind}
use Rattle.generic_code.specs.Whole.{is_jump}
use Rattle.ir_meaning.specs.Typed.{IsTyped}
use Rattle.generic_code.proofs.Flow.{EdgeStands, Stands, At}
use Rattle.generic_code.proofs.Arrivals.{BlockStands, Lands, land_edge}

module _ (program : Program) (symbol : ℕ) (function : Function) (there : function_at program symbol ≡ Some function) (f : GFunction)
    (typed : ValuesTyped program f (types function) []) (all : List Edge) (all_typed : IsTyped program) where
  abbrev gl : List Global
  gl = program.module_.globals

  well : IsTypedFunction program function
  well = all_typed.typed symbol function there

  abbrev Bl : ℕ → Type 0
  Bl = BlockStands program symbol function there f typed all (all_typed.typed symbol function there)

  abbrev AtP : Point program symbol → State → Type 0
  AtP = At program symbol function there f typed all

  abbrev Fd : Point program symbol → State → Type 0
  Fd = Followed program symbol function there f typed all (all_typed.typed symbol function there)

  -- the blocks that an instruction leads to stand
  abbrev pub LeadsOn : Op → Type 0
  LeadsOn (Br to) = Bl to
  LeadsOn (CondBr c if_one if_zero) = Bl if_one × Bl if_zero
  LeadsOn (Switch of a otherwise cases) = Bl otherwise × AllCasesStand program symbol function there f typed all (all_typed.typed symbol function there) cases
  LeadsOn _ = Unit {0}

  -- ---- jumps

  follow_br : (p : Point program symbol) (s : State) (inst : Inst) (to : ℕ) → AtP p s → slice_get (insts_at function p.0.block) p.0.place ≡ Some inst → inst.op ≡ Br to → Bl to → Fd p s
  follow_br p s inst to h at is b =
      let e = code_jump program symbol function there f typed all p.0.block p.0.place h.pool h.own inst at (ap is_jump is) ∙ ap (ending_of gl function p.0.block h.pool h.own) is in
      let stands = subst (λ (x : Ending). Stands program symbol function there f typed all h.pool h.own x) e h.stands in
      let rest_is : s.rest ≡ edge_code gl function p.0.block h.pool to = h.rest ∙ ap (λ (x : Ending). x.code) e in
      let land = land_edge program symbol function there f typed all (all_typed.typed symbol function there) p.0 p.1 s h.pool to (own_block program symbol function there f typed all (all_typed.typed symbol function there) p.0 p.1 s h.alike) b h.known stands.types
      (subst (λ (n : ℕ). EdgeStands program symbol function there f typed all (record { to = to; at = n; uses = edge_uses gl function p.0.block h.pool to })) (sym h.alike.block) stands.edges.0) in
      let units_low = heads_units program symbol function there f typed all (all_typed.typed symbol function there) (heads gl function to) in
      let cost : 1 ≤ units inst = omega arith in
      subst (λ (code : List GInst). Fd p (record s { rest = code })) (sym rest_is)
      (lands_follow program symbol function there f typed all (all_typed.typed symbol function there) p (record s { rest = edge_code gl function p.0.block h.pool to }) inst to (4 + 88 * length (heads gl function to)) (own_rest p s h.alike (edge_code gl function p.0.block h.pool to)) at
      (ap (act program function p.0 p.1 inst) is) (omega (arith, units_low, cost)) land)
    where
      own_rest : (p : Point program symbol) (s : State) → Alike program symbol function there f p.0 p.1 s → (code : List GInst) → Alike program symbol function there f p.0 p.1 (record s { rest = code })
      own_rest p s h code = record { symbol' = h.symbol'; base = h.base; block = h.block; memory' = h.memory'; bytes = h.bytes; room = h.room; fit = h.fit; holds = h.holds }

  own_code : (p : Point program symbol) (s : State) (code : List GInst) → Alike program symbol function there f p.0 p.1 s → Alike program symbol function there f p.0 p.1 (record s { rest = code })
  own_code p s code h = record { symbol' = h.symbol'; base = h.base; block = h.block; memory' = h.memory'; bytes = h.bytes; room = h.room; fit = h.fit; holds = h.holds }

  follow_cond : (p : Point program symbol) (s : State) (inst : Inst) (condition : Operand) (if_one if_zero : ℕ) → AtP p s → slice_get (insts_at function p.0.block) p.0.place ≡ Some inst → inst.op ≡ CondBr condition if_one if_zero
      → IsOperand (types function) (Int 1) condition → Bl if_one → Bl if_zero → Fd p s
  follow_cond p s inst condition if_one if_zero h at is is_condition one_stands zero_stands =
      let e = code_jump program symbol function there f typed all p.0.block p.0.place h.pool h.own inst at (ap is_jump is) ∙ ap (ending_of gl function p.0.block h.pool h.own) is in
      let stands = subst (λ (x : Ending). Stands program symbol function there f typed all h.pool h.own x) e h.stands in
      let ops : List (Ty × Operand) = (Int 1, condition) ∷ [] in
      let pool' = behind_all gl h.pool ((Int 1, condition) ∷ []) in
      let r = register_of condition (literal gl condition) (Int 1) h.pool in
      let way = branch gl function p.0.block p.0.block pool'.next h.own r if_one if_zero in
      let rest_is : s.rest ≡ loads gl h.pool ((Int 1, condition) ∷ []) ++ way.code = h.rest ∙ ap (λ (x : Ending). x.code) e in
      let pre = prepared program f (types function) p.0.values ((Int 1, condition) ∷ []) h.pool s.regs ((omega arith, omega arith), is_condition, tt) typed h.known h.alike.holds
      (stand_front f.types h.pool.next (all_loaded gl h.pool ((Int 1, condition) ∷ [])) way.types stands.types) in
      let regs = registers_behind gl f h.pool ((Int 1, condition) ∷ []) s.regs in
      let ways0 : Ways program symbol function there f typed all (all_typed.typed symbol function there) p.0.block p.0.block pool'.next h.own if_one if_zero = record {
        low = pre.known.low;
        types' = stand_behind gl f.types ((Int 1, condition) ∷ []) h.pool way.types stands.types;
        later = stands.later;
        edges = stands.edges;
        one_stands = one_stands;
        zero_stands = zero_stands;
      } in
      let ways = subst (λ (n : ℕ). Ways program symbol function there f typed all (all_typed.typed symbol function there) p.0.block n pool'.next h.own if_one if_zero) (sym h.alike.block) ways0 in
      let h1 = moved program symbol function there f typed all (all_typed.typed symbol function there) p.0 p.1 s (record s { regs = regs }) refl refl pre.holds
      (own_block program symbol function there f typed all (all_typed.typed symbol function there) p.0 p.1 s h.alike) in
      let run = loads_run gl f ((Int 1, condition) ∷ []) s h.pool way.code in
      subst (λ (code : List GInst). Fd p (record s { rest = code })) (sym rest_is)
      (by_value (operand program p.0.values condition) refl (loads gl h.pool ((Int 1, condition) ∷ []) ++ way.code) (operand-fits program (types function) p.0.values (Int 1) condition h.alike.fit is_condition)
      (λ b known. land_behind program symbol function there f typed all (all_typed.typed symbol function there) p.0 p.1 (cond b if_one if_zero) 24 (80 + (4 + 88 * length (heads gl function (cond b if_one if_zero)))) run.1 run.2
      (land_branch program symbol function there f typed all (all_typed.typed symbol function there) p.0 p.1 (record s { regs = regs }) pool'.next h.own r if_one if_zero b h1 ways (pre.ready.0.bits 0 b known))))
    where
      by_value : (v : Value) → operand program p.0.values condition ≡ v → (code : List GInst) → FitsWidth 1 (operand program p.0.values condition)
          → ((b : Bool) → bits_of 1 (operand program p.0.values condition) 0 ≡ Some b
          → Lands program symbol function there f typed all (all_typed.typed symbol function there) (play.step f (record s { rest = code })) p.0 p.1 (cond b if_one if_zero) (24 + (80 + (4 + 88 * length (heads gl function (cond b if_one if_zero))))))
          → Fd p (record s { rest = code })
      by_value None v code fits land =
          lost_follows program symbol function there f typed all (all_typed.typed symbol function there) p (record s { rest = code }) inst (own_code p s code h.alike) at
          (ap (act program function p.0 p.1 inst) is ∙ ap (λ (z : Value). ir.take_edge program function p.0 p.1 inst (ir.branch_target z if_one if_zero)) v)
      by_value (Some zero) v code fits land =
          let units_low = heads_units program symbol function there f typed all (all_typed.typed symbol function there) (heads gl function if_zero) in
          let cost : 1 ≤ units inst = omega arith in
          lands_follow program symbol function there f typed all (all_typed.typed symbol function there) p (record s { rest = code }) inst if_zero (24 + (80 + (4 + 88 * length (heads gl function if_zero)))) (own_code p s code h.alike) at
          (ap (act program function p.0 p.1 inst) is ∙ ap (λ (z : Value). ir.take_edge program function p.0 p.1 inst (ir.branch_target z if_one if_zero)) v) (omega (arith, units_low, cost))
          (land false (ap (λ (z : Value). bits_of 1 z 0) v))
      by_value (Some (suc zero)) v code fits land =
          let units_low = heads_units program symbol function there f typed all (all_typed.typed symbol function there) (heads gl function if_one) in
          let cost : 1 ≤ units inst = omega arith in
          lands_follow program symbol function there f typed all (all_typed.typed symbol function there) p (record s { rest = code }) inst if_one (24 + (80 + (4 + 88 * length (heads gl function if_one)))) (own_code p s code h.alike) at
          (ap (act program function p.0 p.1 inst) is ∙ ap (λ (z : Value). ir.take_edge program function p.0 p.1 inst (ir.branch_target z if_one if_zero)) v) (omega (arith, units_low, cost))
          (land true (ap (λ (z : Value). bits_of 1 z 0) v))
      by_value (Some (suc (suc k))) v code fits land = absurd (let small : FitsWidth 1 (Some (suc (suc k))) = subst (FitsWidth 1) v fits in let bad : ⊥ = omega (arith, small) in bad)

  follow_switch : (p : Point program symbol) (s : State) (inst : Inst) (of : Ty) (a : Operand) (otherwise : ℕ) (cases : List (ℕ × ℕ)) → AtP p s → slice_get (insts_at function p.0.block) p.0.place ≡ Some inst → inst.op ≡ Switch of a otherwise cases
      → IsInteger of → IsOperand (types function) of a → AreCases (length function.blocks) of cases → Bl otherwise → AllCasesStand program symbol function there f typed all (all_typed.typed symbol function there) cases → Fd p s
  follow_switch p s inst of a otherwise cases h at is integer is_a are b case_stand =
      let e = code_jump program symbol function there f typed all p.0.block p.0.place h.pool h.own inst at (ap is_jump is) ∙ ap (ending_of gl function p.0.block h.pool h.own) is in
      let pool' = behind_all gl h.pool ((of, a) ∷ []) in
      let r = register_of a (literal gl a) of h.pool in
      let e' : code_from program symbol function there f typed all p.0.block p.0.place h.pool h.own
      ≡ ending_behind (loads gl h.pool ((of, a) ∷ [])) (all_loaded gl h.pool ((of, a) ∷ [])) (tests gl function p.0.block of r otherwise s.block pool' h.own cases) =
      e ∙ ap (λ (n : ℕ). ending_behind (loads gl h.pool ((of, a) ∷ [])) (all_loaded gl h.pool ((of, a) ∷ [])) (tests gl function p.0.block of r otherwise n pool' h.own cases)) (sym h.alike.block) in
      let stands = subst (λ (x : Ending). Stands program symbol function there f typed all h.pool h.own x) e' h.stands in
      let way = tests gl function p.0.block of r otherwise s.block pool' h.own cases in
      let rest_is : s.rest ≡ loads gl h.pool ((of, a) ∷ []) ++ way.code = h.rest ∙ ap (λ (x : Ending). x.code) e' in
      let pre = prepared program f (types function) p.0.values ((of, a) ∷ []) h.pool s.regs (integer_value of integer, is_a, tt) typed h.known h.alike.holds
      (stand_front f.types h.pool.next (all_loaded gl h.pool ((of, a) ∷ [])) way.types stands.types) in
      let regs = registers_behind gl f h.pool ((of, a) ∷ []) s.regs in
      let h1 = moved program symbol function there f typed all (all_typed.typed symbol function there) p.0 p.1 s (record s { regs = regs }) refl refl pre.holds
      (own_block program symbol function there f typed all (all_typed.typed symbol function there) p.0 p.1 s h.alike) in
      let run = loads_run gl f ((of, a) ∷ []) s h.pool way.code in
      let fits = operand-fits program (types function) p.0.values of a h.alike.fit is_a in
      subst (λ (code : List GInst). Fd p (record s { rest = code })) (sym rest_is)
      (by_value (operand program p.0.values a) refl (loads gl h.pool ((of, a) ∷ []) ++ way.code)
      (λ n v. land_behind program symbol function there f typed all (all_typed.typed symbol function there) p.0 p.1 (case_block n cases otherwise) 24 (256 * length cases + (4 + 88 * length (heads gl function (case_block n cases otherwise)))) run.1 run.2
      (land_tests program symbol function there f typed all (all_typed.typed symbol function there) cases p.0 p.1 (record s { regs = regs }) of n r otherwise h.own pool' integer h1 pre.known
      (record { bits = subst (λ (z : Value). RefinesBits (bits_of (width of) z) (regs r)) v pre.ready.0.bits; wide = pre.ready.0.wide; below = pre.ready.0.below; small = subst (FitsWidth (width of)) v fits })
      are case_stand b (stand_behind gl f.types ((of, a) ∷ []) h.pool way.types stands.types) stands.later stands.edges)))
    where
      by_value : (v : Value) → operand program p.0.values a ≡ v → (code : List GInst)
          → ((n : ℕ) → operand program p.0.values a ≡ Some n
          → Lands program symbol function there f typed all (all_typed.typed symbol function there) (play.step f (record s { rest = code })) p.0 p.1 (case_block n cases otherwise) (24 + (256 * length cases + (4 + 88 * length (heads gl function (case_block n cases otherwise))))))
          → Fd p (record s { rest = code })
      by_value None v code land =
          lost_follows program symbol function there f typed all (all_typed.typed symbol function there) p (record s { rest = code }) inst (own_code p s code h.alike) at
          (ap (act program function p.0 p.1 inst) is ∙ ap (λ (z : Value). ir.take_edge program function p.0 p.1 inst (ir.switch_target z cases otherwise)) v)
      by_value (Some n) v code land =
          let units_low = heads_units program symbol function there f typed all (all_typed.typed symbol function there) (heads gl function (case_block n cases otherwise)) in
          let parts : parts_in inst.op ≡ length cases = ap parts_in is in
          let cost : 1 + parts_in inst.op ≤ units inst = omega arith in
          lands_follow program symbol function there f typed all (all_typed.typed symbol function there) p (record s { rest = code }) inst (case_block n cases otherwise) (24 + (256 * length cases + (4 + 88 * length (heads gl function (case_block n cases otherwise))))) (own_code p s code h.alike) at
          (ap (act program function p.0 p.1 inst) is ∙ ap (λ (z : Value). ir.take_edge program function p.0 p.1 inst (ir.switch_target z cases otherwise)) v) (omega (arith, units_low, parts, cost))
          (land n v)

  -- an instruction that takes an edge, to blocks that stand
  pub jump_follows : (p : Point program symbol) (s : State) (inst : Inst) → AtP p s → slice_get (insts_at function p.0.block) p.0.place ≡ Some inst → is_jump inst.op ≡ true → LeadsOn inst.op → Fd p s
  jump_follows p s inst h at j on = by_op inst.op refl (well.insts p.0.block p.0.place inst at) j on
    where
      by_op : (op : Op) → inst.op ≡ op → IsOp program function inst.gives op → is_jump op ≡ true → LeadsOn op → Fd p s
      by_op (Br to) e is j on = follow_br p s inst to h at e on
      by_op (CondBr c a b) e is j on = follow_cond p s inst c a b h at e is.1 on.0 on.1
      by_op (Switch of a otherwise cases) e is j on = follow_switch p s inst of a otherwise cases h at e is.1 is.2 is.4 on.0 on.1
      by_op op e is j on = absurd (let bad : ⊥ = cc in bad)
