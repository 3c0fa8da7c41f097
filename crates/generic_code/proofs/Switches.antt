-- A switch is followed by its tests, one after another.
use Rattle.std.proofs.Common.{◌≡◌, refl, sym, ap, subst, ◌∙◌, ℕ, suc, ◌+◌, ◌*◌, ◌≤◌, Bool, true, false, cond, List, [], ◌∷◌, ◌++◌, length, Some, arith}
use Rattle.std.specs.Prelude.{slice_get, sum_by, ◌==◌}
use Rattle.std.proofs.lemmas.List.{append_assoc}
use Rattle.ir_core.specs.Program.{Program}
use Rattle.ir_core.specs.declared.types.Ty.{Ty}
use Rattle.ir_core.specs.declared.code.Operand.TheVariants.{Num}
use Rattle.ir_core.specs.declared.program.Function.{Function}
use Rattle.ir_core.specs.declared.program.Global.{Global}
use Rattle.ir_meaning.specs.declared.activation.Activation.{Activation}
use Rattle.ir_meaning.specs.Memory.{Memory}
use Rattle.ir_meaning.specs.Operators.{bit}
use Rattle.ir_meaning.specs.Step.{function_at, case_block}
use Rattle.ir_meaning.specs.Typed.{types, IsInteger, IsTypedFunction, AreCases}
use Rattle.gmir.specs.declared.code.GType.{GType}
use Rattle.gmir.specs.declared.code.GType.TheVariants.{S}
use Rattle.gmir.specs.declared.code.GInst.{GInst}
use Rattle.gmir.specs.declared.code.GFunction.{GFunction}
use Rattle.gmir.specs.Play as play
use Rattle.gmir.specs.Play.{State, weight, is_legal}
use Rattle.walks.specs.Walk.{Step, Goes}
use Rattle.walks.specs.Simulation.{further}
use Rattle.generic_code.specs.Literals.{Pool, empty_pool, loads, all_loaded, behind_all}
use Rattle.generic_code.specs.Edges.{Edge, heads, spare, edge_types, edge_uses, edge_blocks, goes_to, taken_at, branch_on, test_types, branch, tests}
use Rattle.generic_code.proofs.Loads.{Stand, stand_front, stand_rest, stand_tail, stand_behind, Known, known_empty, ValuesTyped, by_most}
use Rattle.generic_code.proofs.Steps.{Alike}
use Rattle.generic_code.proofs.Ways.{land_way, land_behind, moved, Ways, land_branch, get_front, get_back, spare_long}
use Rattle.generic_code.proofs.Tests.{HasNumber, tested, AllCasesStand}
use Rattle.generic_code.proofs.Flow.{EdgeStands, AllStand}
use Rattle.generic_code.proofs.Arrivals.{Begins, loads_begin, BlockStands, Lands, land_edge}

module _ (program : Program) (symbol : ℕ) (function : Function) (there : function_at program symbol ≡ Some function) (f : GFunction)
    (typed : ValuesTyped program f (types function) []) (all : List Edge) (well : IsTypedFunction program function) where
  abbrev gl : List Global
  gl = program.module_.globals

  abbrev L : Step State → Activation → Memory → ℕ → ℕ → Type 0
  L = Lands program symbol function there f typed all well

  abbrev Bl : ℕ → Type 0
  Bl = BlockStands program symbol function there f typed all well

  abbrev A : Activation → Memory → State → Type 0
  A = Alike program symbol function there f

  -- a test begins with no phi
  tests_begin : (from : ℕ) (of : Ty) (r otherwise at own : ℕ) (pool : Pool) (one : ℕ × ℕ) (cases : List (ℕ × ℕ)) → Begins (tests gl function from of r otherwise at pool own (one ∷ cases)).code
  tests_begin from of r otherwise at own pool one [] = subst Begins (sym (append_assoc (loads gl pool ((of, Num one.0) ∷ [])) _ _)) (loads_begin gl ((of, Num one.0) ∷ []) pool _ _ refl)
  tests_begin from of r otherwise at own pool one (two ∷ cases) = subst Begins (sym (append_assoc (loads gl pool ((of, Num one.0) ∷ [])) _ _)) (loads_begin gl ((of, Num one.0) ∷ []) pool _ _ refl)

  test_stand : (from : ℕ) (of : Ty) (pool : Pool) (k : ℕ) (more : List GType) → Stand f.types pool.next (test_types gl function from of pool k ++ more) → Stand f.types ((behind_all gl pool ((of, Num k) ∷ [])).next + 1) more
  test_stand from of pool k more st =
      stand_tail f.types (behind_all gl pool ((of, Num k) ∷ [])).next (S 1) more (stand_behind gl f.types ((of, Num k) ∷ []) pool (S 1 ∷ more)
      (subst (λ (z : List GType). Stand f.types pool.next z) (append_assoc (all_loaded gl pool ((of, Num k) ∷ [])) (S 1 ∷ []) more) st))

  -- a branch to the edge of a case, or on to code in another block
  land_next : (now : Activation) (memory : Memory) (s : State) (next own bit to other on most : ℕ) (code : List GInst) (b : Bool) → A (record now { block = s.block }) memory s → Bl to → length (types function) ≤ next
      → s.regs bit 0 ≡ Some b → play.insts_at f on ≡ code → Begins code
      → Stand f.types next (edge_types gl function now.block (empty_pool next) to)
      → ((k : ℕ) (code : List GInst) → slice_get (edge_blocks gl function now.block next to) k ≡ Some code → play.insts_at f (own + k) ≡ code)
      → EdgeStands program symbol function there f typed all (record { to = to; at = taken_at gl function now.block s.block own to; uses = edge_uses gl function now.block (empty_pool next) to })
      → L (play.step f (record s { block = on; rest = code })) now memory other most
      → L (play.step f (record s { rest = branch_on bit (goes_to gl function now.block own to) on ∷ [] })) now memory (cond b to other) (80 + cond b (4 + 88 * length (heads gl function to)) most)
  land_next now memory s next own bit to other on most code true h bl low known there_is begins stand later edge land =
      let st : State = record s { rest = branch_on bit (goes_to gl function now.block own to) on ∷ [] } in
      let i : GInst = branch_on bit (goes_to gl function now.block own to) on in
      let light = by_most (is_legal f.types (branch_on bit (goes_to gl function now.block own to) on)) 64 80 80 (omega arith) (omega arith) in
      let is = ap (play.branch f (record s { rest = branch_on bit (goes_to gl function now.block own to) on ∷ [] }) (branch_on bit (goes_to gl function now.block own to) on) []) known in
      let weighs = ap (λ (z : Step State). z.weight) is in
      let jumps = ap (λ (z : Step State). z.jumps) is in
      let way = land_way program symbol function there f typed all well now memory (record s { rest = branch_on bit (goes_to gl function now.block own to) on ∷ [] }) (play.step f (record s { rest = branch_on bit (goes_to gl function now.block own to) on ∷ [] })) next own to 80
      (moved program symbol function there f typed all well now memory s (record s { rest = branch_on bit (goes_to gl function now.block own to) on ∷ [] }) refl refl h.holds h) bl low (ap (λ (z : Step State). z.does) is) (omega (arith, weighs, light)) (omega (arith, jumps)) stand later edge in
      let low' = way.light in
      record { before = way.before; w = way.w; j = way.j; state = way.state; chain = way.chain; goes = way.goes; related = way.related; light = omega (arith, low'); jumps = way.jumps }
  land_next now memory s next own bit to other on most code false h bl low known there_is begins stand later edge land =
      let light = by_most (is_legal f.types (branch_on bit (goes_to gl function now.block own to) on)) 64 80 80 (omega arith) (omega arith) in
      let is = ap (play.branch f (record s { rest = branch_on bit (goes_to gl function now.block own to) on ∷ [] }) (branch_on bit (goes_to gl function now.block own to) on) []) known in
      let weighs = ap (λ (z : Step State). z.weight) is in
      let jumps = ap (λ (z : Step State). z.jumps) is in
      let none : play.phis (play.insts_at f on) ≡ [] = ap play.phis there_is ∙ begins.phis in
      let no_weight : play.phi_weights f on ≡ 0 = ap (sum_by (weight f.types)) none in
      let rest_is : play.behind_phis (play.insts_at f on) ≡ code = ap play.behind_phis there_is ∙ begins.rest in
      let goes : (play.step f (record s { rest = branch_on bit (goes_to gl function now.block own to) on ∷ [] })).does ≡ Goes (record s { block = on; rest = code }) =
      ap (λ (z : Step State). z.does) is
      ∙ ap (λ (is : List GInst). Goes (record s { block = on; rest = play.behind_phis (play.insts_at f on); regs = play.with_phis f.types s.block s.regs is s.regs })) none
      ∙ ap (λ (r : List GInst). Goes (record s { block = on; rest = r })) rest_is in
      let low' = land.light in
      let moves_on = land.jumps in
      record {
        before = land.before;
        w = (play.step f (record s { rest = branch_on bit (goes_to gl function now.block own to) on ∷ [] })).weight + land.w;
        j = (play.step f (record s { rest = branch_on bit (goes_to gl function now.block own to) on ∷ [] })).jumps + land.j;
        state = land.state;
        chain = further (record s { block = on; rest = code }) goes land.chain;
        goes = land.goes;
        related = land.related;
        light = omega (arith, low', light, weighs, no_weight);
        jumps = omega (arith, moves_on);
      }

  bound_is : (b : Bool) (x y count : ℕ)
      → 176 + (80 + cond b (4 + 88 * length (heads gl function x)) (256 * count + (4 + 88 * length (heads gl function y)))) ≤ 256 * suc count + (4 + 88 * length (heads gl function (cond b x y)))
  bound_is true x y count = omega arith
  bound_is false x y count = omega arith

  -- ---- the tests of a switch, one after another

  pub land_tests : (cases : List (ℕ × ℕ)) (now : Activation) (memory : Memory) (s : State) (of : Ty) (n r otherwise own : ℕ) (pool : Pool) → IsInteger of → A (record now { block = s.block }) memory s
      → Known f (types function) pool s.regs → HasNumber program symbol function there f typed all well of n r pool.next s.regs → AreCases (length function.blocks) of cases → AllCasesStand program symbol function there f typed all well cases → Bl otherwise
      → Stand f.types pool.next (tests gl function now.block of r otherwise s.block pool own cases).types
      → ((k : ℕ) (code : List GInst) → slice_get (tests gl function now.block of r otherwise s.block pool own cases).later k ≡ Some code → play.insts_at f (own + k) ≡ code)
      → AllStand program symbol function there f typed all (tests gl function now.block of r otherwise s.block pool own cases).edges
      → L (play.step f (record s { rest = (tests gl function now.block of r otherwise s.block pool own cases).code })) now memory (case_block n cases otherwise)
      (256 * length cases + (4 + 88 * length (heads gl function (case_block n cases otherwise))))
  land_tests [] now memory s of n r otherwise own pool integer h known number are stand_cases b types' later edges =
      let land = land_edge program symbol function there f typed all well now memory s pool otherwise h b known types' edges.0 in
      let low = land.light in
      record { before = land.before; w = land.w; j = land.j; state = land.state; chain = land.chain; goes = land.goes; related = land.related; light = omega (arith, low); jumps = land.jumps }
  land_tests (one ∷ []) now memory s of n r otherwise own pool integer h known number are stand_cases b types' later edges =
      let bit = (behind_all gl pool ((of, Num one.0) ∷ [])).next in
      let way = branch gl function now.block s.block (bit + 1) own bit one.1 otherwise in
      let t = tested program symbol function there f typed all well now memory s of n r pool one.0 way.code integer are.0 h known number
      (stand_front f.types pool.next (test_types gl function now.block of pool one.0) way.types types') in
      let ways : Ways program symbol function there f typed all well now.block s.block (bit + 1) own one.1 otherwise = record {
        low = t.known.low;
        types' = test_stand now.block of pool one.0 way.types types';
        later = later;
        edges = edges;
        one_stands = stand_cases.0;
        zero_stands = b;
      } in
      let land = land_branch program symbol function there f typed all well now memory (record s { regs = t.regs }) (bit + 1) own bit one.1 otherwise (one.0 == n)
      (moved program symbol function there f typed all well now memory s (record s { regs = t.regs }) refl refl t.holds h) ways t.bit_is in
      let total = land_behind program symbol function there f typed all well now memory (case_block n (one ∷ []) otherwise) 176 (80 + (4 + 88 * length (heads gl function (case_block n (one ∷ []) otherwise)))) t.chain t.light land in
      let low = total.light in
      record { before = total.before; w = total.w; j = total.j; state = total.state; chain = total.chain; goes = total.goes; related = total.related; light = omega (arith, low); jumps = total.jumps }
  land_tests (one ∷ two ∷ cases) now memory s of n r otherwise own pool integer h known number are stand_cases b types' later edges =
      let bit = (behind_all gl pool ((of, Num one.0) ∷ [])).next in
      let edge_tys = edge_types gl function now.block (empty_pool (bit + 1)) one.1 in
      let next = bit + 1 + length edge_tys in
      let on = own + spare gl function one.1 in
      let rest = tests gl function now.block of r otherwise on (empty_pool next) (on + 1) (two ∷ cases) in
      let tail : List GInst = branch_on bit (goes_to gl function now.block own one.1) on ∷ [] in
      let stand_two : Stand f.types pool.next (test_types gl function now.block of pool one.0 ++ (edge_tys ++ rest.types)) =
      subst (λ (z : List GType). Stand f.types pool.next z) (append_assoc (test_types gl function now.block of pool one.0) edge_tys rest.types) types' in
      let stand_one = stand_front f.types pool.next (test_types gl function now.block of pool one.0) (edge_tys ++ rest.types) stand_two in
      let stand_edge = test_stand now.block of pool one.0 (edge_tys ++ rest.types) stand_two in
      let t = tested program symbol function there f typed all well now memory s of n r pool one.0 tail integer are.0 h known number stand_one in
      let s' : State = record s { regs = t.regs } in
      let h' = moved program symbol function there f typed all well now memory s (record s { regs = t.regs }) refl refl t.holds h in
      let below = t.number.below in
      let low = t.known.low in
      let long = spare_long program symbol function there f typed all well now.block (bit + 1) one.1 in
      let blocks = edge_blocks gl function now.block (bit + 1) one.1 in
      let on_is : play.insts_at f on ≡ rest.code =
      ap (play.insts_at f) (let z : on ≡ own + (length blocks + 0) = omega (arith, long) in z)
      ∙ later (length blocks + 0) rest.code (get_back program symbol function there f typed all well blocks (rest.code ∷ rest.later) 0) in
      let land = land_tests (two ∷ cases) now memory (record s { regs = t.regs; block = on }) of n r otherwise (on + 1) (empty_pool next) integer
      (moved program symbol function there f typed all well now memory (record s { regs = t.regs }) (record s { regs = t.regs; block = on }) refl refl t.holds h')
      (known_empty f (types function) next t.regs (omega (arith, low)))
      (record { bits = t.number.bits; wide = t.number.wide; below = omega (arith, below); small = t.number.small }) are.2 stand_cases.1 b
      (stand_rest f.types (bit + 1) edge_tys rest.types stand_edge)
      (λ k code e.
      ap (play.insts_at f) (let z : on + 1 + k ≡ own + (length blocks + suc k) = omega (arith, long) in z)
      ∙ later (length blocks + suc k) code (get_back program symbol function there f typed all well blocks (rest.code ∷ rest.later) (suc k) ∙ e))
      edges.1 in
      let next_lands = land_next now memory (record s { regs = t.regs }) (bit + 1) own bit one.1 (case_block n (two ∷ cases) otherwise) on
      (256 * length (two ∷ cases) + (4 + 88 * length (heads gl function (case_block n (two ∷ cases) otherwise)))) rest.code (one.0 == n) h' stand_cases.0 low t.bit_is on_is
      (tests_begin now.block of r otherwise on (on + 1) (empty_pool next) two cases) (stand_front f.types (bit + 1) edge_tys rest.types stand_edge)
      (λ k code e. later k code (get_front program symbol function there f typed all well blocks (rest.code ∷ rest.later) k code e)) edges.0 land in
      let total = land_behind program symbol function there f typed all well now memory (case_block n (one ∷ two ∷ cases) otherwise) 176 _ t.chain t.light next_lands in
      let light = total.light in
      let bound = bound_is (one.0 == n) one.1 (case_block n (two ∷ cases) otherwise) (length (two ∷ cases)) in
      record { before = total.before; w = total.w; j = total.j; state = total.state; chain = total.chain; goes = total.goes; related = total.related; light = omega (arith, light, bound); jumps = total.jumps }
