-- A conditional branch and a switch are followed by their tests, and each edge by its code.
use Rattle.std.proofs.Common.{◌≡◌, refl, sym, ap, subst, ◌∙◌, ℕ, zero, suc, ◌+◌, ◌*◌, ◌≤◌, Bool, true, false, cond, List, [], ◌∷◌, ◌++◌, length, map, Option, Some, None, arith}
use Rattle.std.specs.Prelude.{slice_get, sum_by}
use Rattle.std.proofs.lemmas.List.Sums.{sum_by-cons}
use Rattle.ir_core.specs.Program.{Program}
use Rattle.ir_core.specs.Units.{units}
use Rattle.ir_core.specs.declared.types.Ty.{Ty}
use Rattle.ir_core.specs.declared.code.Operand.{Operand}
use Rattle.ir_core.specs.declared.code.Inst.{Inst}
use Rattle.ir_core.specs.declared.program.Function.{Function}
use Rattle.ir_core.specs.declared.program.Global.{Global}
use Rattle.ir_meaning.specs.declared.activation.Activation.{Activation}
use Rattle.ir_meaning.specs.Memory.{Memory}
use Rattle.ir_meaning.specs.Operators.{bit, holds}
use Rattle.ir_meaning.specs.Step as ir
use Rattle.ir_meaning.specs.Step.{function_at, insts_at, number_at, operand, jump, act, case_block}
use Rattle.ir_meaning.specs.Typed.{types, IsTypedFunction}
use Rattle.gmir.specs.declared.code.GInst.{GInst}
use Rattle.gmir.specs.declared.code.GFunction.{GFunction}
use Rattle.gmir.specs.Play as play
use Rattle.gmir.specs.Play.{State, weight, is_legal}
use Rattle.walks.specs.Walk.{Step, Goes}
use Rattle.walks.specs.Refines.{RefinesMemory}
use Rattle.walks.specs.Simulation.{Chain, here, further, moves, breaks}
use Rattle.walks.specs.Functions.{Point, step_over_bits}
use Rattle.generic_code.specs.Literals.{empty_pool, registers}
use Rattle.generic_code.specs.Edges.{Edge, phi_operand, jump_to, heads, no_phis, spare, edge_operands, edge_code, edge_types, edge_uses, edge_blocks, goes_to, taken_at, branch_on, branch}
use Rattle.generic_code.proofs.Loads.{Stand, stand_front, stand_rest, known_empty, Holds, ValuesTyped, prepared, by_most, AllReady}
use Rattle.generic_code.proofs.Steps.{Alike, Fol, here_step, step_is}
use Rattle.generic_code.proofs.Runs.{chain_then}
use Rattle.generic_code.proofs.Flow.{EdgeStands, AllStand, At}
use Rattle.generic_code.proofs.Arrivals.{loads_begin, BlockStands, heads_at, heads_typed, arrive, weigh_phis, Lands, land_edge, empty_heads}

module _ (program : Program) (symbol : ℕ) (function : Function) (there : function_at program symbol ≡ Some function) (f : GFunction)
    (typed : ValuesTyped program f (types function) []) (all : List Edge) (well : IsTypedFunction program function) where
  abbrev gl : List Global
  gl = program.module_.globals

  abbrev L : Step State → Activation → Memory → ℕ → ℕ → Type 0
  L = Lands program symbol function there f typed all well

  abbrev B : ℕ → Type 0
  B = BlockStands program symbol function there f typed all well

  abbrev ES : Edge → Type 0
  ES = EdgeStands program symbol function there f typed all

  abbrev A : Activation → Memory → State → Type 0
  A = Alike program symbol function there f

  -- a chain before
  pub land_behind : {st mid : Step State} {w : ℕ} (now : Activation) (memory : Memory) (to extra most : ℕ) → Chain State (play.step f) st mid w 0 → w ≤ extra → L mid now memory to most → L st now memory to (extra + most)
  land_behind {w = w} now memory to extra most chain light land =
      let low = land.light in
      record {
        before = land.before;
        w = w + land.w;
        j = 0 + land.j;
        state = land.state;
        chain = chain_then chain land.chain;
        goes = land.goes;
        related = land.related;
        light = omega (arith, low, light);
        jumps = (let one = land.jumps in omega (arith, one));
      }

  -- another state of the code in another of its blocks
  pub moved : (now : Activation) (memory : Memory) (s s' : State) → s'.base_length ≡ s.base_length → s'.memory ≡ s.memory → Holds program f (types function) now.values s'.regs
      → A (record now { block = s.block }) memory s → A (record now { block = s'.block }) memory s'
  moved now memory s s' e e' holds h = record {
    symbol' = h.symbol';
    base = e ∙ h.base;
    block = refl;
    memory' = subst (RefinesMemory memory) (sym e') h.memory';
    bytes = h.bytes;
    room = h.room;
    fit = h.fit;
    holds = holds;
  }

  -- One way of a conditional branch, whose step goes to where the edge is taken
  pub land_way : (now : Activation) (memory : Memory) (s : State) (st : Step State) (next own to heavy : ℕ) → A (record now { block = s.block }) memory s → B to → length (types function) ≤ next
      → st.does ≡ Goes (play.jumped f s (goes_to gl function now.block own to)) → st.weight ≤ heavy + play.phi_weights f (goes_to gl function now.block own to) → 1 ≤ st.jumps
      → Stand f.types next (edge_types gl function now.block (empty_pool next) to)
      → ((k : ℕ) (code : List GInst) → slice_get (edge_blocks gl function now.block next to) k ≡ Some code → play.insts_at f (own + k) ≡ code)
      → ES (record { to = to; at = taken_at gl function now.block s.block own to; uses = edge_uses gl function now.block (empty_pool next) to })
      → L st now memory to (heavy + (4 + 88 * length (heads gl function to)))
  land_way now memory s st next own to heavy h b low goes light jumps stand later stands = by_phis (no_phis gl function to) refl goes light later stands
    where
      ops : List (Ty × Operand)
      ops = edge_operands gl function now.block to

      by_phis : (n : Bool) → no_phis gl function to ≡ n → st.does ≡ Goes (play.jumped f s (cond n to own)) → st.weight ≤ heavy + play.phi_weights f (cond n to own)
          → ((k : ℕ) (code : List GInst) → slice_get (cond n [] (edge_code gl function now.block (empty_pool next) to ∷ [])) k ≡ Some code → play.insts_at f (own + k) ≡ code)
          → ES (record { to = to; at = cond n s.block own; uses = edge_uses gl function now.block (empty_pool next) to })
          → L st now memory to (heavy + (4 + 88 * length (heads gl function to)))
      by_phis true e goes light later stands =
          let weighs = weigh_phis program symbol function there f typed all well to b in
          let pre = prepared program f (types function) now.values ops (empty_pool next) s.regs (heads_typed program function well now.block to f now.values 0 (heads gl function to) (heads_at program function well now.block to)) typed (known_empty f (types function) next s.regs low) h.holds stand in
          let none : heads gl function to ≡ [] = empty_heads program symbol function there f typed all well (heads gl function to) e in
          let count : length (heads gl function to) ≡ 0 = ap length none in
          let no_ops : ops ≡ [] = ap (map (λ (inst : Inst). (inst.gives, phi_operand now.block inst.op))) none in
          record {
            before = st;
            w = 0;
            j = 0;
            state = play.jumped f s to;
            chain = here;
            goes = goes;
            related =
                arrive program symbol function there f typed all well now memory s to next (edge_uses gl function now.block (empty_pool next) to) h b
                (subst (λ (os : List (Ty × Operand)). AllReady program f (types function) now.values s.regs next os (registers gl (empty_pool next) os)) (sym no_ops) tt) stands;
            light = omega (arith, light, weighs, count);
            jumps = omega (arith, jumps);
          }
      by_phis false e goes light later stands =
          let code = edge_code gl function now.block (empty_pool next) to in
          let begins = loads_begin gl ops (empty_pool next) (jump_to to) [] refl in
          let own_is : play.insts_at f own ≡ code = ap (play.insts_at f) (let z : own ≡ own + 0 = omega arith in z) ∙ later 0 code refl in
          let none : play.phis (play.insts_at f own) ≡ [] = ap play.phis own_is ∙ begins.phis in
          let no_weight : play.phi_weights f own ≡ 0 = ap (sum_by (weight f.types)) none in
          let rest_is : play.behind_phis (play.insts_at f own) ≡ code = ap play.behind_phis own_is ∙ begins.rest in
          let goes' : st.does ≡ Goes (record s { block = own; rest = code }) =
          goes ∙ ap (λ (is : List GInst). Goes (record s { block = own; rest = play.behind_phis (play.insts_at f own); regs = play.with_phis f.types s.block s.regs is s.regs })) none
          ∙ ap (λ (r : List GInst). Goes (record s { block = own; rest = r })) rest_is in
          let land = land_edge program symbol function there f typed all well now memory (record s { block = own }) (empty_pool next) to (moved now memory s (record s { block = own }) refl refl h.holds h) b
          (known_empty f (types function) next s.regs low) stand stands in
          let low' = land.light in
          record {
            before = land.before;
            w = st.weight + land.w;
            j = st.jumps + land.j;
            state = land.state;
            chain = further (record s { block = own; rest = code }) goes' land.chain;
            goes = land.goes;
            related = land.related;
            light = omega (arith, low', light, no_weight);
            jumps = omega (arith, jumps);
          }

  -- ---- tests of a bit

  -- what stands of the two edges of a branch, from a first register and a first block on
  pub record Ways (from at next own if_one if_zero : ℕ) : Type 0 where
    pub low : length (types function) ≤ next
    pub types' : Stand f.types next (branch gl function from at next own 0 if_one if_zero).types
    pub later : (k : ℕ) (code : List GInst) → slice_get (branch gl function from at next own 0 if_one if_zero).later k ≡ Some code → play.insts_at f (own + k) ≡ code
    pub edges : AllStand program symbol function there f typed all (branch gl function from at next own 0 if_one if_zero).edges
    pub one_stands : B if_one
    pub zero_stands : B if_zero

  pub get_front : {X : Type 0} (xs ys : List X) (k : ℕ) (x : X) → slice_get xs k ≡ Some x → slice_get (xs ++ ys) k ≡ Some x
  get_front [] ys k x e = absurd (let bad : ⊥ = cc in bad)
  get_front (z ∷ xs) ys zero x e = e
  get_front (z ∷ xs) ys (suc k) x e = get_front xs ys k x e

  pub get_back : {X : Type 0} (xs ys : List X) (k : ℕ) → slice_get (xs ++ ys) (length xs + k) ≡ slice_get ys k
  get_back [] ys k = ap (slice_get ys) (let z : 0 + k ≡ k = omega arith in z)
  get_back {X = X} (z ∷ xs) ys k = ap (slice_get (z ∷ (xs ++ ys))) (let w : length (z ∷ xs) + k ≡ suc (length xs + k) = omega arith in w) ∙ get_back xs ys k

  pub spare_long : (from next to : ℕ) → length (edge_blocks gl function from next to) ≡ spare gl function to
  spare_long from next to = by_phis (no_phis gl function to)
    where
      by_phis : (n : Bool) → length (cond n [] (edge_code gl function from (empty_pool next) to ∷ [])) ≡ cond n 0 1
      by_phis true = refl
      by_phis false = refl

  abbrev bit_at : Bool → Option Bool
  bit_at b = Some b

  -- a branch on a bit that is known
  pub land_branch : (now : Activation) (memory : Memory) (s : State) (next own bit if_one if_zero : ℕ) (b : Bool) → A (record now { block = s.block }) memory s → Ways now.block s.block next own if_one if_zero
      → s.regs bit 0 ≡ Some b
      → L (play.step f (record s { rest = branch_on bit (goes_to gl function now.block own if_one) (goes_to gl function now.block (own + spare gl function if_one) if_zero) ∷ [] })) now memory (cond b if_one if_zero)
      (80 + (4 + 88 * length (heads gl function (cond b if_one if_zero))))
  land_branch now memory s next own bit if_one if_zero b h ways known = by_bit b known
    where
      second : ℕ
      second = next + length (edge_types gl function now.block (empty_pool next) if_one)

      i : GInst
      i = branch_on bit (goes_to gl function now.block own if_one) (goes_to gl function now.block (own + spare gl function if_one) if_zero)

      st : State
      st = record s { rest = branch_on bit (goes_to gl function now.block own if_one) (goes_to gl function now.block (own + spare gl function if_one) if_zero) ∷ [] }

      h' : A (record now { block = s.block }) memory (record s { rest = branch_on bit (goes_to gl function now.block own if_one) (goes_to gl function now.block (own + spare gl function if_one) if_zero) ∷ [] })
      h' = moved now memory s (record s { rest = branch_on bit (goes_to gl function now.block own if_one) (goes_to gl function now.block (own + spare gl function if_one) if_zero) ∷ [] }) refl refl h.holds h

      light : weight f.types (branch_on bit (goes_to gl function now.block own if_one) (goes_to gl function now.block (own + spare gl function if_one) if_zero)) ≤ 80
      light = by_most (is_legal f.types (branch_on bit (goes_to gl function now.block own if_one) (goes_to gl function now.block (own + spare gl function if_one) if_zero))) 64 80 80 (omega arith) (omega arith)

      by_bit : (b : Bool) → s.regs bit 0 ≡ Some b
          → L (play.step f (record s { rest = branch_on bit (goes_to gl function now.block own if_one) (goes_to gl function now.block (own + spare gl function if_one) if_zero) ∷ [] })) now memory (cond b if_one if_zero)
          (80 + (4 + 88 * length (heads gl function (cond b if_one if_zero))))
      by_bit true known =
          let is = ap (play.branch f st i []) known in
          let weighs = ap (λ (z : Step State). z.weight) is in
          let jumps = ap (λ (z : Step State). z.jumps) is in
          land_way now memory st (play.step f st) next own if_one 80 h' ways.one_stands ways.low (ap (λ (z : Step State). z.does) is) (omega (arith, weighs, light)) (omega (arith, jumps))
          (stand_front f.types next (edge_types gl function now.block (empty_pool next) if_one) (edge_types gl function now.block (empty_pool second) if_zero) ways.types')
          (λ k code e. ways.later k code (get_front (edge_blocks gl function now.block next if_one) (edge_blocks gl function now.block second if_zero) k code e)) ways.edges.0
      by_bit false known =
          let is = ap (play.branch f st i []) known in
          let weighs = ap (λ (z : Step State). z.weight) is in
          let jumps = ap (λ (z : Step State). z.jumps) is in
          let low = ways.low in
          let long = spare_long now.block next if_one in
          land_way now memory st (play.step f st) second (own + spare gl function if_one) if_zero 80 h' ways.zero_stands (omega (arith, low)) (ap (λ (z : Step State). z.does) is) (omega (arith, weighs, light)) (omega (arith, jumps))
          (stand_rest f.types next (edge_types gl function now.block (empty_pool next) if_one) (edge_types gl function now.block (empty_pool second) if_zero) ways.types')
          (λ k code e.
          ap (play.insts_at f) (let z : own + spare gl function if_one + k ≡ own + (length (edge_blocks gl function now.block next if_one) + k) = omega (arith, long) in z)
          ∙ ways.later (length (edge_blocks gl function now.block next if_one) + k) code (get_back (edge_blocks gl function now.block next if_one) (edge_blocks gl function now.block second if_zero) k ∙ e)) ways.edges.1.0

  -- ---- what follows

  abbrev pub Followed : Point program symbol → State → Type 0
  Followed p s = Fol program symbol function there f (At program symbol function there f typed all) (λ q. 0) 0 (here_step program symbol function there f (At program symbol function there f typed all) (λ q. 0) p.0 p.1) (play.step f s)

  -- the units of phis
  pub heads_units : (insts : List Inst) → length insts ≤ sum_by units insts
  heads_units [] = omega arith
  heads_units (inst ∷ insts) = let ih = heads_units insts in let sum = sum_by-cons units inst insts in omega (arith, ih, sum)

  -- code that lands in a block follows an instruction that goes there
  pub lands_follow : (p : Point program symbol) (s : State) (inst : Inst) (to most : ℕ) → A p.0 p.1 s → slice_get (insts_at function p.0.block) p.0.place ≡ Some inst
      → act program function p.0 p.1 inst inst.op ≡ ir.take_edge program function p.0 p.1 inst (Some to) → most ≤ 256 * (units inst + ir.phi_units function to) → L (play.step f s) p.0 p.1 to most
      → Followed p s
  lands_follow p s inst to most h at acts light land =
      let one = ap (step_over_bits program symbol p.0 p.1) (step_is program symbol function there f p.0 p.1 s inst h at ∙ acts) in
      let low = land.light in
      subst (λ (z : Step (Point program symbol)). Fol program symbol function there f (At program symbol function there f typed all) (λ q. 0) 0 z (play.step f s)) (sym one)
      (moves (jump program function p.0 to, p.1) land.state refl land.chain land.goes land.related (omega (arith, low, light)) land.jumps)

  -- nothing is asked where no way is known
  pub lost_follows : (p : Point program symbol) (s : State) (inst : Inst) → A p.0 p.1 s → slice_get (insts_at function p.0.block) p.0.place ≡ Some inst
      → act program function p.0 p.1 inst inst.op ≡ ir.take_edge program function p.0 p.1 inst None → Followed p s
  lost_follows p s inst h at acts =
      let one = ap (step_over_bits program symbol p.0 p.1) (step_is program symbol function there f p.0 p.1 s inst h at ∙ acts) in
      breaks (ap (λ (z : Step (Point program symbol)). z.does) one) (ap (λ (z : Step (Point program symbol)). z.jumps) one)
