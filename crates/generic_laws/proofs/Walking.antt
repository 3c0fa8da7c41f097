-- Each walk of the code follows a walk of the function, and passes the blocks that it passes.
use Rattle.std.proofs.Common.{◌≡◌, refl, sym, ap, subst, ◌∙◌, ℕ, zero, suc, ◌+◌, ◌<◌, ◌≤◌, ◌⊎◌, inl, inr, Bool, true, false, List, [], ◌∷◌, ◌++◌, length, map, Option, Some, arith}
use Rattle.std.specs.Prelude.{slice_get, slice_index_or, drop, ◌==◌, if◌then◌else◌}
use Rattle.ir_core.specs.Program.{Program}
use Rattle.ir_core.specs.declared.types.Ty.{Ty}
use Rattle.ir_core.specs.declared.code.Op.{Op}
use Rattle.ir_core.specs.declared.code.Op.TheVariants.{Br, CondBr, Switch}
use Rattle.ir_core.specs.declared.code.Inst.{Inst}
use Rattle.ir_core.specs.declared.code.Block.{Block}
use Rattle.ir_core.specs.declared.program.Function.{Function}
use Rattle.ir_core.specs.declared.program.Global.{Global}
use Rattle.ir_flow.specs.Flow.{Walk, starts, goes, next_in, Defines}
use Rattle.ir_flow.specs.Assigned.{firsts_of, Passes as IrPasses}
use Rattle.ir_flow.specs.Code.{edges as ir_edges, edges_of as ir_edges_of, targets as op_targets, case_blocks}
use Rattle.ir_meaning.specs.Step.{function_at, insts_of, insts_at, number_at}
use Rattle.ir_meaning.specs.Typed.{IsOp, AreCases}
use Rattle.ir_verify.specs.Verdict.{IsChecked}
use Rattle.ir_verify.proofs.Lists.{Every, every_both, every_at}
use Rattle.gmir.specs.declared.code.GInst.{GInst}
use Rattle.gmir.specs.declared.code.GFunction.{GFunction}
use Rattle.gmir.specs.Play as play
use Rattle.gmir.specs.Formed.{edges, edges_of, times, written, Passes}
use Rattle.generic_code.specs.Literals.{empty_pool}
use Rattle.generic_code.specs.Edges.{Edge, heads}
use Rattle.generic_code.specs.Whole.{insts_ending, is_jump, params_code, phis_code, edges_to, translated}
use Rattle.generic_laws.proofs.Lists.{get_some, get_index, get_map}
use Rattle.generic_laws.proofs.Counts.{get_drop}
use Rattle.generic_laws.proofs.Paths.{edges_are}
use Rattle.generic_laws.proofs.Plays.{jump_ends, block_ends}
use Rattle.generic_laws.proofs.Stands.{placed, all_edges}
use Rattle.generic_laws.proofs.Arrows.{Arrives, insts_arrive}
use Rattle.generic_laws.proofs.Blocks.{At, well, every_by}
use Rattle.generic_laws.proofs.Joined.{all_targets}
use Rattle.generic_laws.proofs.Defining.{block_writes}

edges_at : (blocks : List (List GInst)) (b : ℕ) → slice_index_or (map edges blocks) b [] ≡ edges (slice_index_or blocks b [])
edges_at [] b = refl
edges_at (x ∷ xs) zero = refl
edges_at (x ∷ xs) (suc b) = edges_at xs b

-- what ends a walk's blocks is passed, and so are those before
pub passes_front : (f : GFunction) (r b : ℕ) (bs : List ℕ) → Passes f r bs → Passes f r (bs ++ b ∷ [])
passes_front f r b [] h = absurd h
passes_front f r b (x ∷ xs) (inl w) = inl w
passes_front f r b (x ∷ xs) (inr h) = inr (passes_front f r b xs h)

pub passes_last : (f : GFunction) (r b : ℕ) (bs : List ℕ) → 1 ≤ times r (written (play.insts_at f b)) → Passes f r (bs ++ b ∷ [])
passes_last f r b [] w = inl w
passes_last f r b (x ∷ xs) w = inr (passes_last f r b xs w)

ir_split : (firsts : List ℕ) (v k : ℕ) (path : List ℕ) → IrPasses firsts v (path ++ k ∷ []) → IrPasses firsts v path ⊎ Defines firsts k v
ir_split firsts v k [] (inl d) = inr d
ir_split firsts v k [] (inr h) = absurd h
ir_split firsts v k (x ∷ xs) (inl d) = inl (inl d)
ir_split firsts v k (x ∷ xs) (inr h) = by_rest (ir_split firsts v k xs h)
  where
    by_rest : IrPasses firsts v xs ⊎ Defines firsts k v → IrPasses firsts v (x ∷ xs) ⊎ Defines firsts k v
    by_rest (inl p) = inl (inr p)
    by_rest (inr d) = inr d

module _ (program : Program) (checked : IsChecked program) (symbol : ℕ) (function : Function) (there : function_at program symbol ≡ Some function) where
  abbrev gl : List Global
  gl = program.module_.globals

  abbrev f : GFunction
  f = translated program symbol function

  -- blocks that the code of a block of the function jumps to: those that it leads to, or further blocks of its own
  abbrev pub To : (k : ℕ) → At program checked symbol function there k → ℕ → Type 0
  To k p to =
      ((j : ℕ) × (slice_get (next_in (ir_edges_of function) k) j ≡ Some to) × (to < length function.blocks))
      ⊎ ((p.own ≤ to) × (to < p.own + length (insts_ending program.module_.globals function k (number_at function k (length (heads program.module_.globals function k))) (empty_pool p.next) p.own (drop (length (heads program.module_.globals function k)) (insts_at function k))).later))

  cases_below : (of : Ty) (cases : List (ℕ × ℕ)) → AreCases (length function.blocks) of cases → Every (λ (to : ℕ). to < length function.blocks) (case_blocks cases)
  cases_below of [] are = tt
  cases_below of (one ∷ cases) are = (are.1, cases_below of cases are.2)

  op_below : (ty : Ty) (op : Op) → IsOp program function ty op → is_jump op ≡ true → Every (λ (to : ℕ). to < length function.blocks) (op_targets op)
  op_below ty (Br to) is j = (is.1, tt)
  op_below ty (CondBr c a b) is j = (is.2, (is.3, tt))
  op_below ty (Switch of a otherwise cases) is j = (is.3, cases_below of cases is.4)
  op_below ty op is j = absurd (let bad : ⊥ = cc in bad)

  module _ (R : ℕ → Type 0) where
    params_arrive : (place : ℕ) (tys : List Ty) → Every (Arrives gl function R) (params_code place tys)
    params_arrive place [] = tt
    params_arrive place (ty ∷ tys) = (tt, params_arrive (place + 1) tys)

    first_arrive : (t : Bool) → Every (Arrives gl function R) (if t then params_code 0 function.params else [])
    first_arrive true = params_arrive 0 function.params
    first_arrive false = tt

    phis_arrive : (value place : ℕ) (all : List Edge) (insts : List Inst) → Every (Arrives gl function R) (phis_code gl function value place all insts)
    phis_arrive value place all [] = tt
    phis_arrive value place all (inst ∷ insts) = (tt, phis_arrive (value + 1) (place + 1) all insts)

  -- the code of a block of the function, and of its further blocks
  block_arrives : (k : ℕ) (x : Block) → slice_get function.blocks k ≡ Some x → (p : At program checked symbol function there k)
      → Every (Arrives gl function (To k p)) (play.insts_at f k) × ((j : ℕ) (code : List GInst) → slice_get (insts_ending gl function k (number_at function k (length (heads gl function k))) (empty_pool p.next) p.own (drop (length (heads gl function k)) (insts_at function k))).later j ≡ Some code → Every (Arrives gl function (To k p)) code)
  block_arrives k x e p =
      let R = To k p in
      let Here = Arrives gl function R in
      let hs = length (heads gl function k) in
      let phi_code = phis_code gl function (number_at function k 0) 0 (edges_to gl function k (all_edges program symbol function there (well program checked symbol function there))) (heads gl function k) in
      let made = insts_ending gl function k (number_at function k hs) (empty_pool p.next) p.own (drop hs (insts_at function k)) in
      let all = insts_arrive gl function R k (drop hs (insts_at function k)) (number_at function k hs) (empty_pool p.next) p.own
      (λ i inst at j.
      let here = get_drop hs (insts_at function k) i inst at in
      let in_block : slice_get x.insts (hs + i) ≡ Some inst = ap (λ (o : Option Block). slice_get (insts_of o) (hs + i)) (sym e) ∙ here in
      let are : ir_edges x ≡ op_targets inst.op = edges_are x (hs + i) inst (block_ends program checked symbol function there k x e) in_block (jump_ends inst.op j) in
      let graph : next_in (ir_edges_of function) k ≡ op_targets inst.op = get_index (map ir_edges function.blocks) k (ir_edges x) [] (get_map ir_edges function.blocks k x e) ∙ are in
      every_by R (op_targets inst.op) (λ n to get. inl (n, ap (λ (ts : List ℕ). slice_get ts n) graph ∙ get, every_at (λ (to : ℕ). to < length function.blocks) (op_targets inst.op) n to (op_below inst.gives inst.op ((well program checked symbol function there).insts k (hs + i) inst here) j) get)))
      (λ to l l'. inr (l, l')) in (
        subst (Every Here) (sym p.insts_are) (every_both Here (if k == 0 then params_code 0 function.params else []) (phi_code ++ made.code) (first_arrive R (k == 0))
            (every_both Here phi_code made.code (phis_arrive R (number_at function k 0) 0 (edges_to gl function k (all_edges program symbol function there (well program checked symbol function there))) (heads gl function k)) all.0)),
        (λ j code get. every_at (Every Here) made.later j code all.1 get),
      )

  -- a walk of the code that ends in a block: the walk of the function whose blocks it passes, and where it stands
  pub record Follows (earlier : List ℕ) (b : ℕ) : Type 0 where
    pub k : ℕ
    pub block : Block
    pub there' : slice_get function.blocks k ≡ Some block
    pub at : At program checked symbol function there k
    pub path : List ℕ
    pub walk : Walk (next_in (ir_edges_of function)) path k
    pub passed : (v : ℕ) → IrPasses (firsts_of function) v path → Passes (translated program symbol function) v earlier
    pub here : (b ≡ k) ⊎ (((j : ℕ) × (code : List GInst) × (b ≡ at.own + j) × (slice_get (insts_ending program.module_.globals function k (number_at function k (length (heads program.module_.globals function k))) (empty_pool at.next) at.own (drop (length (heads program.module_.globals function k)) (insts_at function k))).later j ≡ Some code))
        × ((r : ℕ) → 1 ≤ times r (written (play.insts_at (translated program symbol function) k)) → Passes (translated program symbol function) r earlier))

  module _ (some : 0 < length function.blocks) where
    -- what the block of the function at hand writes is passed behind this block
    behind_passed : (earlier : List ℕ) (b : ℕ) (h : Follows earlier b) (r : ℕ) → 1 ≤ times r (written (play.insts_at f h.k)) → Passes f r (earlier ++ b ∷ [])
    behind_passed earlier b h r w = by_kind h.here
      where
        by_kind : (b ≡ h.k) ⊎ (((j : ℕ) × (code : List GInst) × (b ≡ h.at.own + j) × (slice_get (insts_ending gl function h.k (number_at function h.k (length (heads gl function h.k))) (empty_pool h.at.next) h.at.own (drop (length (heads gl function h.k)) (insts_at function h.k))).later j ≡ Some code))
            × ((r : ℕ) → 1 ≤ times r (written (play.insts_at f h.k)) → Passes f r earlier)) → Passes f r (earlier ++ b ∷ [])
        by_kind (inl same) = passes_last f r b earlier (subst (λ (n : ℕ). 1 ≤ times r (written (play.insts_at f n))) (sym same) w)
        by_kind (inr (where', before)) = passes_front f r b earlier (before r w)

    arrives_here : (earlier : List ℕ) (b : ℕ) (h : Follows earlier b) → Every (Arrives gl function (To h.k h.at)) (play.insts_at f b)
    arrives_here earlier b h = by_kind h.here
      where
        by_kind : (b ≡ h.k) ⊎ (((j : ℕ) × (code : List GInst) × (b ≡ h.at.own + j) × (slice_get (insts_ending gl function h.k (number_at function h.k (length (heads gl function h.k))) (empty_pool h.at.next) h.at.own (drop (length (heads gl function h.k)) (insts_at function h.k))).later j ≡ Some code))
            × ((r : ℕ) → 1 ≤ times r (written (play.insts_at f h.k)) → Passes f r earlier)) → Every (Arrives gl function (To h.k h.at)) (play.insts_at f b)
        by_kind (inl same) = subst (λ (n : ℕ). Every (Arrives gl function (To h.k h.at)) (play.insts_at f n)) (sym same) (block_arrives h.k h.block h.there' h.at).0
        by_kind (inr ((j, code, same, get), before)) =
            subst (λ (n : ℕ). Every (Arrives gl function (To h.k h.at)) (play.insts_at f n)) (sym same)
            (subst (Every (Arrives gl function (To h.k h.at))) (sym (h.at.stands.later j code get)) ((block_arrives h.k h.block h.there' h.at).1 j code get))

    one_more : (earlier : List ℕ) (b to : ℕ) (h : Follows earlier b) → To h.k h.at to → Follows (earlier ++ b ∷ []) to
    one_more earlier b to h (inl (j, edge, low)) =
        let x = get_some function.blocks to low in
        record {
          k = to;
          block = x.0;
          there' = x.1;
          at = placed program symbol function there (well program checked symbol function there) to x.0 x.1;
          path = h.path ++ h.k ∷ [];
          walk = goes j h.walk edge;
          passed = λ v p. by_part v (ir_split (firsts_of function) v h.k h.path p);
          here = inl refl;
        }
      where
        by_part : (v : ℕ) → IrPasses (firsts_of function) v h.path ⊎ Defines (firsts_of function) h.k v → Passes f v (earlier ++ b ∷ [])
        by_part v (inl p) = passes_front f v b earlier (h.passed v p)
        by_part v (inr d) = behind_passed earlier b h v (block_writes program checked symbol function there h.k h.block h.there' v d)
    one_more earlier b to h (inr (low, high)) =
        let made = insts_ending gl function h.k (number_at function h.k (length (heads gl function h.k))) (empty_pool h.at.next) h.at.own (drop (length (heads gl function h.k)) (insts_at function h.k)) in
        let n = below_by h.at.own to low in
        let is = n.1 in
        let x = get_some made.later n.0 (omega (arith, high, is)) in
        record {
          k = h.k;
          block = h.block;
          there' = h.there';
          at = h.at;
          path = h.path;
          walk = h.walk;
          passed = λ v p. passes_front f v b earlier (h.passed v p);
          here = inr ((n.0, x.0, n.1, x.1), behind_passed earlier b h);
        }
      where
        below_by : (a c : ℕ) → a ≤ c → (j : ℕ) × (c ≡ a + j)
        below_by zero c l = (c, omega arith)
        below_by (suc a) zero l = absurd (let bad : ⊥ = omega (arith, l) in bad)
        below_by (suc a) (suc c) l = let rest = below_by a c (omega (arith, l)) in let is = rest.1 in (rest.0, omega (arith, is))

    pub follows : (earlier : List ℕ) (b : ℕ) → Walk (next_in (edges_of f)) earlier b → Follows earlier b
    follows earlier b starts =
        let x = get_some function.blocks 0 some in
        record {
          k = 0;
          block = x.0;
          there' = x.1;
          at = placed program symbol function there (well program checked symbol function there) 0 x.0 x.1;
          path = [];
          walk = starts;
          passed = λ v p. absurd p;
          here = inl refl;
        }
    follows earlier b (goes {earlier = before} {from = from} {to = to} edge walk get) =
        let h = follows before from walk in
        let arrow = sym (edges_at f.blocks from) in
        one_more before from to h (every_at (To h.k h.at) (edges (play.insts_at f from)) edge to (all_targets (To h.k h.at) (play.insts_at f from) (arrives_here before from h)) (ap (λ (ns : List ℕ). slice_get ns edge) arrow ∙ get))
