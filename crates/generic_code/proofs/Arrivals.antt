-- An edge is followed by its code: the literals of its phis, a jump, and the phis all at once.
use Rattle.std.proofs.Common.{◌≡◌, refl, sym, ap, subst, ◌∙◌, ℕ, suc, ◌+◌, ◌*◌, ◌≤◌, Bool, true, false, List, [], ◌∷◌, ◌++◌, length, map, Option, Some, None, arith}
use Rattle.std.specs.Prelude.{slice_get, slice_index_or, sum_by, if◌then◌else◌, ◌==◌}
use Rattle.std.proofs.lemmas.List.Sums.{sum_by-cons}
use Rattle.gmir.specs.declared.code.GOp.TheVariants as g
use Rattle.ir_core.specs.Program.{Program}
use Rattle.ir_core.specs.Units.{has_result}
use Rattle.ir_core.specs.declared.types.Ty.{Ty}
use Rattle.ir_core.specs.declared.code.Operand.{Operand}
use Rattle.ir_core.specs.declared.code.Op.{Op}
use Rattle.ir_core.specs.declared.code.Op.TheVariants.{Binary, Icmp, Cast, Select, Freeze, Phi, Alloca, Load, Store, Gep, Call, BuiltIn as CallBuiltIn, Ret, Br, CondBr, Switch, Unreachable}
use Rattle.ir_core.specs.declared.code.Inst.{Inst}
use Rattle.ir_core.specs.declared.program.Function.{Function}
use Rattle.ir_core.specs.declared.program.Global.{Global}
use Rattle.ir_meaning.specs.declared.activation.Activation.{Activation}
use Rattle.ir_meaning.specs.Value.{Value}
use Rattle.ir_meaning.specs.Memory.{Memory}
use Rattle.ir_meaning.specs.Operators.{width}
use Rattle.ir_meaning.specs.Step as ir
use Rattle.ir_meaning.specs.Step.{function_at, insts_at, number_at, operand, phi_value, jump}
use Rattle.ir_meaning.specs.Typed.{types, IsOperand, ArePairs, IsValueType, IsOp, IsTypedFunction}
use Rattle.ir_meaning.proofs.Keeping.{jump-fits}
use Rattle.ir_meaning.proofs.Numbering.{number-type}
use Rattle.gmir.specs.declared.code.GInst.{GInst}
use Rattle.gmir.specs.declared.code.GFunction.{GFunction}
use Rattle.gmir.specs.Play as play
use Rattle.gmir.specs.Play.{State, is_phi, weight, is_legal}
use Rattle.walks.specs.Registers.{Registers, read}
use Rattle.walks.specs.Walk.{Step, Goes}
use Rattle.walks.specs.Refines.{RefinesBits}
use Rattle.walks.specs.Simulation.{Chain}
use Rattle.walks.specs.Functions.{bits_of}
use Rattle.generic_code.specs.Literals.{Pool, type_of, empty_pool, literal, scalar_width, find, write_code, load, loads, behind, behind_all}
use Rattle.generic_code.specs.Edges.{Edge, phi_operand, heads, edge_operands, no_phis, edge_code, edge_types, edge_uses, jump_to}
use Rattle.generic_code.specs.Whole.{edges_to, phi_register, phis_code}
use Rattle.generic_code.proofs.Loads.{Stand, Known, known_empty, Holds, ValuesTyped, AreTyped, AllReady, prepared, registers_behind, loads_run, by_most, width_there, same_width, value_not_void}
use Rattle.generic_code.proofs.Steps.{Alike}
use Rattle.generic_code.proofs.Computes.{some_value}
use Rattle.generic_code.proofs.Edges.{IsTaken, found, AreHeads, phis_hold}
use Rattle.generic_code.proofs.Flow.{number_next, code_from, EdgeStands, Stands, At}

-- ---- code that begins with no phi

pub record Begins (code : List GInst) : Type 0 where
  pub phis : play.phis code ≡ []
  pub rest : play.behind_phis code ≡ code

pub begins_with : (i : GInst) (code : List GInst) → is_phi i.op ≡ false → Begins (i ∷ code)
begins_with i code e = record { phis = ap (λ (b : Bool). if b then i ∷ play.phis code else []) e; rest = ap (λ (b : Bool). if b then play.behind_phis code else i ∷ code) e }

pub loads_begin : (globals : List Global) (ops : List (Ty × Operand)) (pool : Pool) (i : GInst) (code : List GInst) → is_phi i.op ≡ false → Begins (loads globals pool ops ++ i ∷ code)
loads_begin globals [] pool i code e = begins_with i code e
loads_begin globals (one ∷ more) pool i code e = by_literal (literal globals one.1) (loads_begin globals more (behind (literal globals one.1) one.0 pool) i code e)
  where
    by_found : (o : Option ℕ) (n : ℕ) (next : ℕ) (rest : List GInst) → Begins (rest ++ i ∷ code) → Begins ((write_code o next n ++ rest) ++ i ∷ code)
    by_found None n next rest h = record { phis = refl; rest = refl }
    by_found (Some r) n next rest h = h

    by_literal : (o : Option ℕ) → Begins (loads globals (behind (literal globals one.1) one.0 pool) more ++ i ∷ code)
        → Begins ((load o one.0 pool ++ loads globals (behind (literal globals one.1) one.0 pool) more) ++ i ∷ code)
    by_literal None h = h
    by_literal (Some n) h = by_found (find pool (scalar_width one.0, n)) n pool.next (loads globals (behind (literal globals one.1) one.0 pool) more) h

-- ---- phis

-- the value of a phi is that of its operand
phi_same : (program : Program) (values : List Value) (from : ℕ) (op : Op) → phi_value program values from op ≡ operand program values (phi_operand from op)
phi_same program values from (Phi pairs) = refl
phi_same program values from (Binary o flags a b) = refl
phi_same program values from (Icmp pred flags of a b) = refl
phi_same program values from (Cast o flags of a) = refl
phi_same program values from (Select c a b) = refl
phi_same program values from (Freeze a) = refl
phi_same program values from (Alloca of count) = refl
phi_same program values from (Load address) = refl
phi_same program values from (Store of a address) = refl
phi_same program values from (Gep of base indices) = refl
phi_same program values from (Call callee arguments) = refl
phi_same program values from (CallBuiltIn which arguments) = refl
phi_same program values from (Ret a) = refl
phi_same program values from (Br to) = refl
phi_same program values from (CondBr c a b) = refl
phi_same program values from (Switch of a otherwise cases) = refl
phi_same program values from Unreachable = refl

pairs_operand : (tys : List Ty) (blocks : ℕ) (ty : Ty) (from : ℕ) (pairs : List (Operand × ℕ)) → ArePairs tys blocks ty pairs → IsOperand tys ty (ir.on_edge from pairs)
pairs_operand tys blocks ty from [] h = tt
pairs_operand tys blocks ty from (pair ∷ pairs) h = by_test (pair.1 == from) (pairs_operand tys blocks ty from pairs h.2)
  where
    by_test : (b : Bool) → IsOperand tys ty (ir.on_edge from pairs) → IsOperand tys ty (if b then pair.0 else ir.on_edge from pairs)
    by_test true k = h.0
    by_test false k = k

module _ (program : Program) (function : Function) (well : IsTypedFunction program function) (from to : ℕ) where
  -- a phi stands at its place, and its operand has its type
  pub record HeadAt (place : ℕ) (inst : Inst) : Type 0 where
    pub at : slice_get (insts_at function to) place ≡ Some inst
    pub value_type : IsValueType inst.gives
    pub is_operand : IsOperand (types function) inst.gives (phi_operand from inst.op)

  abbrev pub HeadsAt : ℕ → List Inst → Type 0
  HeadsAt place [] = Unit {0}
  HeadsAt place (inst ∷ insts) = HeadAt place inst × HeadsAt (place + 1) insts

  abbrev StandFrom : ℕ → List Inst → Type 0
  StandFrom place insts = (i : ℕ) (inst : Inst) → slice_get insts i ≡ Some inst → slice_get (insts_at function to) (place + i) ≡ Some inst

  stand_rest : (place : ℕ) (inst : Inst) (insts : List Inst) → StandFrom place (inst ∷ insts) → StandFrom (place + 1) insts
  stand_rest place inst insts h = λ i x e. ap (λ (n : ℕ). slice_get (insts_at function to) n) (let f : place + 1 + i ≡ place + suc i = omega arith in f) ∙ h (suc i) x e

  heads_by : (ty : Ty) (op : Op) (insts : List Inst) (place : ℕ) → slice_get (insts_at function to) place ≡ Some (record { gives = ty; op = op }) → IsOp program function ty op → HeadsAt (place + 1) (ir.phis insts) → HeadsAt place (ir.phis (record { gives = ty; op = op } ∷ insts))
  heads_by ty (Phi pairs) insts place at is more = (record { at = at; value_type = is.0; is_operand = pairs_operand (types function) (length function.blocks) ty from pairs is.1 }, more)
  heads_by ty (Binary o flags a b) insts place at is more = tt
  heads_by ty (Icmp pred flags of a b) insts place at is more = tt
  heads_by ty (Cast o flags of a) insts place at is more = tt
  heads_by ty (Select c a b) insts place at is more = tt
  heads_by ty (Freeze a) insts place at is more = tt
  heads_by ty (Alloca of count) insts place at is more = tt
  heads_by ty (Load address) insts place at is more = tt
  heads_by ty (Store of a address) insts place at is more = tt
  heads_by ty (Gep of base indices) insts place at is more = tt
  heads_by ty (Call callee arguments) insts place at is more = tt
  heads_by ty (CallBuiltIn which arguments) insts place at is more = tt
  heads_by ty (Ret a) insts place at is more = tt
  heads_by ty (Br target) insts place at is more = tt
  heads_by ty (CondBr c a b) insts place at is more = tt
  heads_by ty (Switch of a otherwise cases) insts place at is more = tt
  heads_by ty Unreachable insts place at is more = tt

  heads_from : (insts : List Inst) (place : ℕ) → StandFrom place insts → HeadsAt place (ir.phis insts)
  heads_from [] place h = tt
  heads_from (inst ∷ insts) place h =
      let at = ap (λ (n : ℕ). slice_get (insts_at function to) n) (let e : place ≡ place + 0 = omega arith in e) ∙ h 0 inst refl in
      heads_by inst.gives inst.op insts place at (well.insts to place inst at) (heads_from insts (place + 1) (stand_rest place inst insts h))

  pub heads_at : HeadsAt 0 (heads program.module_.globals function to)
  heads_at = heads_from (insts_at function to) 0 (λ i inst e. ap (λ (n : ℕ). slice_get (insts_at function to) n) (let z : 0 + i ≡ i = omega arith in z) ∙ e)

  pub heads_typed : (f : GFunction) (values : List Value) (place : ℕ) (insts : List Inst) → HeadsAt place insts → AreTyped program f (types function) values (map (λ (inst : Inst). (inst.gives, phi_operand from inst.op)) insts)
  heads_typed f values place [] h = tt
  heads_typed f values place (inst ∷ insts) h = (h.0.value_type, h.0.is_operand, heads_typed f values (place + 1) insts h.1)

-- ---- where an edge leads

module _ (program : Program) (symbol : ℕ) (function : Function) (there : function_at program symbol ≡ Some function) (f : GFunction)
    (typed : ValuesTyped program f (types function) []) (all : List Edge) (well : IsTypedFunction program function) where
  abbrev gl : List Global
  gl = program.module_.globals

  -- a block of the function stands in the code
  pub record BlockStands (block : ℕ) : Type 0 where
    pub next : ℕ
    pub own : ℕ
    pub low : length (types function) ≤ next
    pub phis_are : play.phis (play.insts_at f block) ≡ phis_code gl function (number_at function block 0) 0 (edges_to gl function block all) (heads gl function block)
    pub rest_are : play.behind_phis (play.insts_at f block) ≡ (code_from program symbol function there f typed all block (length (heads gl function block)) (empty_pool next) own).code
    pub stands : Stands program symbol function there f typed all (empty_pool next) own (code_from program symbol function there f typed all block (length (heads gl function block)) (empty_pool next) own)

  -- the registers that the phis from a place on read
  abbrev UsesFrom : List ℕ → ℕ → List ℕ → Type 0
  UsesFrom uses place rs = (k : ℕ) → slice_index_or uses (place + k) 0 ≡ slice_index_or rs k 0

  module _ (from to : ℕ) (edge : Edge) (values : List Value) (regs : Registers) (next : ℕ)
      (taken : IsTaken edge.at edge (edges_to gl function to all)) where
    are_heads : (insts : List Inst) (place : ℕ) (rs : List ℕ) → HeadsAt program function well from to place insts
        → AllReady program f (types function) values regs next (map (λ (inst : Inst). (inst.gives, phi_operand from inst.op)) insts) rs → UsesFrom edge.uses place rs
        → AreHeads program function f from to edge.at (edges_to gl function to all) values regs place (number_at function to place) insts
    are_heads [] place rs h ready uses = tt
    are_heads (inst ∷ insts) place [] h ready uses = absurd ready
    are_heads (inst ∷ insts) place (r ∷ rs) h ready uses =
        let gives : has_result inst ≡ true = (some_value inst.gives h.0.value_type).1 in
        let number : (if has_result inst then number_at function to place + 1 else number_at function to place) ≡ number_at function to (place + 1) = number_next function to place inst h.0.at in
        let number' : number_at function to place + 1 ≡ number_at function to (place + 1) = ap (λ (b : Bool). if b then number_at function to place + 1 else number_at function to place) (sym gives) ∙ number in
        let first : slice_index_or edge.uses place 0 ≡ r = ap (λ (n : ℕ). slice_index_or edge.uses n 0) (let z : place ≡ place + 0 = omega arith in z) ∙ uses 0 in
        let type = number-type function to place inst h.0.at gives in
        let reads_r : read regs (play.on_edge edge.at (map (λ (e : Edge). e.at) (edges_to gl function to all)) (map (phi_register gl function place) (edges_to gl function to all))) ≡ regs r =
        ap (read regs) (found (phi_register gl function place) edge.at edge (edges_to gl function to all) taken ∙ ap (λ (n : ℕ). Some n) first) in (
          record {
            gives = gives;
            type = type;
            number_is = refl;
            width_is = width_there f.types (number_at function to place) (type_of inst.gives) (typed (number_at function to place) inst.gives type) ∙ same_width inst.gives (value_not_void inst.gives h.0.value_type);
            reads = subst (RefinesBits (bits_of (width inst.gives) (phi_value program values from inst.op))) (sym reads_r)
                (subst (λ (v : Value). RefinesBits (bits_of (width inst.gives) v) (regs r)) (sym (phi_same program values from inst.op)) ready.0.bits);
          },
          subst (λ (n : ℕ). AreHeads program function f from to edge.at (edges_to gl function to all) values regs (place + 1) n insts) (sym number')
              (are_heads insts (place + 1) rs h.1 ready.1 (λ k. ap (λ (n : ℕ). slice_index_or edge.uses n 0) (let z : place + 1 + k ≡ place + suc k = omega arith in z) ∙ uses (suc k))),
        )

  -- where there is no phi, none is
  pub empty_heads : (insts : List Inst) → (length insts == 0) ≡ true → insts ≡ []
  empty_heads [] e = refl
  empty_heads (inst ∷ insts) e = absurd (let bad : ⊥ = (let z : length (inst ∷ insts) ≡ 0 = grind (arith, e) in omega (arith, z)) in bad)

  -- behind an edge the states are related
  pub arrive : (now : Activation) (memory : Memory) (s : State) (to next : ℕ) (uses : List ℕ) → Alike program symbol function there f (record now { block = s.block }) memory s → BlockStands to
      → AllReady program f (types function) now.values s.regs next (edge_operands gl function now.block to) uses
      → EdgeStands program symbol function there f typed all (record { to = to; at = s.block; uses = uses })
      → At program symbol function there f typed all (jump program function now to, memory) (play.jumped f s to)
  arrive now memory s to next uses h b ready edge_stands = record {
    pool = empty_pool b.next;
    own = b.own;
    alike = record {
      symbol' = h.symbol';
      base = h.base;
      block = refl;
      memory' = h.memory';
      bytes = h.bytes;
      room = h.room;
      fit = jump-fits program function well now.block to now.values h.fit now refl refl;
      holds = subst (λ (is : List GInst). Holds program f (types function) (jump program function now to).values (play.with_phis f.types s.block s.regs is s.regs)) (sym b.phis_are) held;
    };
    known = known_empty f (types function) b.next (play.jumped f s to).regs b.low;
    rest = b.rest_are;
    stands = b.stands;
  }
    where
      edge : Edge
      edge = record { to = to; at = s.block; uses = uses }

      by_phis : (n : Bool) → no_phis gl function to ≡ n
          → Holds program f (types function) (ir.with_phis program function now.block now.values to 0 (heads gl function to) now.values) (play.with_phis f.types s.block s.regs (phis_code gl function (number_at function to 0) 0 (edges_to gl function to all) (heads gl function to)) s.regs)
      by_phis true e =
          subst (λ (hs : List Inst). Holds program f (types function) (ir.with_phis program function now.block now.values to 0 hs now.values) (play.with_phis f.types s.block s.regs (phis_code gl function (number_at function to 0) 0 (edges_to gl function to all) hs) s.regs))
          (sym (empty_heads (heads gl function to) e)) h.holds
      by_phis false e =
          phis_hold program function f now.block to s.block (edges_to gl function to all) now.values s.regs (heads gl function to) 0 (number_at function to 0) now.values s.regs
          (are_heads now.block to edge now.values s.regs next (edge_stands e) (heads gl function to) 0 uses (heads_at program function well now.block to) ready (λ k. ap (λ (n : ℕ). slice_index_or uses n 0) (let z : 0 + k ≡ k = omega arith in z))) h.holds

      held : Holds program f (types function) (ir.with_phis program function now.block now.values to 0 (heads gl function to) now.values) (play.with_phis f.types s.block s.regs (phis_code gl function (number_at function to 0) 0 (edges_to gl function to all) (heads gl function to)) s.regs)
      held = by_phis (no_phis gl function to) refl

  -- ---- what phis weigh

  phis_light : (value place : ℕ) (edges : List Edge) (insts : List Inst) → sum_by (weight f.types) (phis_code gl function value place edges insts) ≤ 64 * length insts
  phis_light value place edges [] = omega arith
  phis_light value place edges (inst ∷ insts) =
      let ih = phis_light (value + 1) (place + 1) edges insts in
      let sum = sum_by-cons (weight f.types) (head_inst value place edges) (phis_code gl function (value + 1) (place + 1) edges insts) in
      let light = by_most (is_legal f.types (head_inst value place edges)) 40 64 64 (omega arith) (omega arith) in
      omega (arith, ih, sum, light)
    where
      head_inst : ℕ → ℕ → List Edge → GInst
      head_inst value place edges = record { op = g.Phi; defs = value ∷ []; uses = map (phi_register gl function place) edges; num = 0; to = map (λ (e : Edge). e.at) edges }

  pub weigh_phis : (to : ℕ) → BlockStands to → play.phi_weights f to ≤ 64 * length (heads gl function to)
  weigh_phis to b = subst (λ (is : List GInst). sum_by (weight f.types) is ≤ 64 * length (heads gl function to)) (sym b.phis_are) (phis_light (number_at function to 0) 0 (edges_to gl function to all) (heads gl function to))

  -- ---- steps that lead to a block

  pub record Lands (st : Step State) (now : Activation) (memory : Memory) (to most : ℕ) : Type 0 where
    pub before : Step State
    pub w : ℕ
    pub j : ℕ
    pub state : State
    pub chain : Chain State (play.step f) st before w j
    pub goes : before.does ≡ Goes state
    pub related : At program symbol function there f typed all (jump program function now to, memory) state
    pub light : w + before.weight ≤ most
    pub jumps : 1 ≤ j + before.jumps

  heads_long : (from : ℕ) (insts : List Inst) → length {A = Ty × Operand} (map (λ (inst : Inst). (inst.gives, phi_operand from inst.op)) insts) ≡ length insts
  heads_long from [] = refl
  heads_long from (inst ∷ insts) = ap suc (heads_long from insts)

  -- the literals of an edge, and its jump
  pub land_edge : (now : Activation) (memory : Memory) (s : State) (pool : Pool) (to : ℕ) → Alike program symbol function there f (record now { block = s.block }) memory s → BlockStands to
      → Known f (types function) pool s.regs → Stand f.types pool.next (edge_types gl function now.block pool to)
      → EdgeStands program symbol function there f typed all (record { to = to; at = s.block; uses = edge_uses gl function now.block pool to })
      → Lands (play.step f (record s { rest = edge_code gl function now.block pool to })) now memory to (4 + 88 * length (heads gl function to))
  land_edge now memory s pool to h b known stand edge_stands =
      let ops = edge_operands gl function now.block to in
      let regs = registers_behind gl f pool ops s.regs in
      let run = loads_run gl f ops s pool (jump_to to ∷ []) in
      let low = run.2 in
      let pre = prepared program f (types function) now.values ops pool s.regs (heads_typed program function well now.block to f now.values 0 (heads gl function to) (heads_at program function well now.block to)) typed known h.holds stand in
      let light = weigh_phis to b in
      let count : length ops ≡ length (heads gl function to) = heads_long now.block (heads gl function to) in
      record {
        before = play.step f (record s { rest = jump_to to ∷ []; regs = regs });
        w = run.0;
        j = 0;
        state = play.jumped f (record s { rest = jump_to to ∷ []; regs = regs }) to;
        chain = run.1;
        goes = refl;
        related = arrive now memory (record s { rest = jump_to to ∷ []; regs = regs }) to (behind_all gl pool ops).next (edge_uses gl function now.block pool to)
            (record { symbol' = h.symbol'; base = h.base; block = refl; memory' = h.memory'; bytes = h.bytes; room = h.room; fit = h.fit; holds = pre.holds }) b pre.ready edge_stands;
        light = omega (arith, low, light, count);
        jumps = omega arith;
      }
