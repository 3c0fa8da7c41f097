-- What is written when a block has ended, from what is written on the way.
use Rattle.std.proofs.Common.{◌≡◌, refl, sym, ap, ap₂, ◌∙◌, ℕ, suc, ◌+◌, List, [], ◌∷◌, ◌++◌, length, map, drop, get_or, ◌<◌, ◌≤◌, Bool, true, false, cond, Option, Some, None, arith, append_assoc}
use Rattle.std.specs.Prelude.{◌==◌, if◌then◌else◌}
use Rattle.std.proofs.Math.Seq.{drop-cons}
use Rattle.std.proofs.lemmas.Bool.{eqb-true}
use Rattle.std.proofs.lemmas.List.{append-nil, length-append, drop_all}
use Rattle.ir_core.specs.declared.types.Ty.{Ty}
use Rattle.ir_core.specs.declared.code.Operand.{Operand}
use Rattle.ir_core.specs.declared.code.Inst.{Inst}
use Rattle.ir_core.specs.declared.program.Function.{Function}
use Rattle.ir_core.specs.declared.program.Global.{Global}
use Rattle.gmir.specs.declared.code.GType.{GType}
use Rattle.gmir.specs.declared.code.GInst.{GInst}
use Rattle.generic_code.specs.Literals.{Pool, empty_pool, literal, loaded, behind, write_types, write_pool, find, scalar_width, type_of, all_loaded, behind_all, registers}
use Rattle.generic_code.specs.Edges.{Edge, Ending, no_ending, ending_behind, branch_on, heads, edge_operands, no_phis, spare, goes_to, edge_code, edge_types, edge_uses, edge_of, edge_blocks, phi_operand, jump, branch, case_operand, test_code, test_types, tests}
use Rattle.ir_translator_emit.specs.Written.{Written, put, put_inst, put_edge, begun}
use Rattle.ir_translator_emit.specs.Jumps.{whole, jumped, edge_taken, branched, tested, cased}

-- ---- how many registers operands take

one_more : (o : Option ℕ) (ty : Ty) (pool : Pool) → (behind o ty pool).next ≡ pool.next + length (loaded o ty pool)
one_more None ty pool = omega arith
one_more (Some n) ty pool = by (find pool (scalar_width ty, n))
  where
    by : (r : Option ℕ) → (write_pool r (scalar_width ty, n) pool).next ≡ pool.next + length (write_types r (type_of ty))
    by None = refl
    by (Some r) = omega arith

pub all_more : (globals : List Global) (pool : Pool) (operands : List (Ty × Operand)) → (behind_all globals pool operands).next ≡ pool.next + length (all_loaded globals pool operands)
all_more globals pool [] = omega arith
all_more globals pool (one ∷ more) =
    let first = one_more (literal globals one.1) one.0 pool in
    let rest = all_more globals (behind (literal globals one.1) one.0 pool) more in
    let both = length-append (loaded (literal globals one.1) one.0 pool) (all_loaded globals (behind (literal globals one.1) one.0 pool) more) in
    omega (arith, first, rest, both)

-- ---- endings behind what is written

abbrev made : Written → List (List GInst) → List GType → ℕ → List Edge → Written
made w done types own edges = record w { done = done; code = []; types = types; pool = empty_pool (length types); own = own; edges = edges }

pub whole_put : (w : Written) (code : List GInst) (types : List GType) (pool : Pool) (ending : Ending) → whole (put w code types pool) ending ≡ whole w (ending_behind code types ending)
unfolding whole put
whole_put w code types pool ending =
    ap₂ (λ (c : List GInst) (t : List GType). made w (w.done ++ c ∷ ending.later) t (w.own + length ending.later) (w.edges ++ ending.edges))
    (append_assoc w.code code ending.code) (append_assoc w.types types ending.types)

pub whole_begun : (w : Written) (ending : Ending) → whole (begun w) ending ≡ whole w (record { code = []; types = ending.types; later = ending.code ∷ ending.later; edges = ending.edges })
unfolding whole begun
whole_begun w ending =
    ap₂ (λ (d : List (List GInst)) (n : ℕ). made w d (w.types ++ ending.types) n (w.edges ++ ending.edges))
    (append_assoc w.done (w.code ∷ []) (ending.code ∷ ending.later) ∙ ap (λ (c : List GInst). w.done ++ c ∷ ending.code ∷ ending.later) (sym (append-nil w.code)))
    (let same : w.own + 1 + length ending.later ≡ w.own + length (ending.code ∷ ending.later) = omega arith in same)

pub whole_edge : (w : Written) (edge : Edge) (ending : Ending) → whole (put_edge w edge) ending ≡ whole w (record { code = ending.code; types = ending.types; later = ending.later; edges = edge ∷ ending.edges })
unfolding whole put_edge
whole_edge w edge ending =
    ap (λ (es : List Edge). made w (w.done ++ (w.code ++ ending.code) ∷ ending.later) (w.types ++ ending.types) (w.own + length ending.later) es) (append_assoc w.edges (edge ∷ []) ending.edges)

module _ (globals : List Global) (function : Function) (from : ℕ) where
  -- a block that ends by a jump, and then like this
  abbrev pub jump_then : ℕ → Pool → ℕ → Ending → Ending
  jump_then at pool to ending = record {
    code = edge_code globals function from pool to ++ ending.code;
    types = edge_types globals function from pool to ++ ending.types;
    later = ending.later;
    edges = record { to = to; at = at; uses = edge_uses globals function from pool to } ∷ ending.edges;
  }

  pub whole_jumped : (w : Written) (at to : ℕ) (ending : Ending) → whole (jumped globals function from w at to) ending ≡ whole w (jump_then at w.pool to ending)
  unfolding jumped
  whole_jumped w at to ending =
      whole_edge (put w (edge_code globals function from w.pool to) (edge_types globals function from w.pool to) (behind_all globals w.pool (edge_operands globals function from to)))
      (record { to = to; at = at; uses = edge_uses globals function from w.pool to }) ending
      ∙ whole_put w _ _ _ _

  jump_last : (at : ℕ) (pool : Pool) (to : ℕ) → jump_then at pool to no_ending ≡ jump globals function from at pool to
  jump_last at pool to =
      ap₂ (λ (c : List GInst) (t : List GType). record { code = c; types = t; later = []; edges = record { to = to; at = at; uses = edge_uses globals function from pool to } ∷ [] })
      (append-nil (edge_code globals function from pool to)) (append-nil (edge_types globals function from pool to))

  -- a jump ends a block
  pub jump_whole : (w : Written) (at to : ℕ) → whole (jumped globals function from w at to) no_ending ≡ whole w (jump globals function from at w.pool to)
  jump_whole w at to = whole_jumped w at to no_ending ∙ ap (whole w) (jump_last at w.pool to)

  -- ---- edges of conditional branches

  no_operands : (to : ℕ) → no_phis globals function to ≡ true → edge_operands globals function from to ≡ []
  no_operands to e = by (heads globals function to) e
    where
      by : (insts : List Inst) → (length insts == 0) ≡ true → map {B = Ty × Operand} (λ (inst : Inst). (inst.gives, phi_operand from inst.op)) insts ≡ []
      by [] e = refl
      by (inst ∷ insts) e = absurd (let none = eqb-true (length (inst ∷ insts)) 0 e in let bad : ⊥ = omega (arith, none) in bad)

  -- a conditional branch's edge, and then an ending
  abbrev pub taken_then : Bool → ℕ → ℕ → ℕ → ℕ → Ending → Ending
  taken_then true next own at to ending = record { code = ending.code; types = ending.types; later = ending.later; edges = record { to = to; at = at; uses = [] } ∷ ending.edges }
  taken_then false next own at to ending = record {
    code = [];
    types = edge_types globals function from (empty_pool next) to ++ ending.types;
    later = (edge_code globals function from (empty_pool next) to ++ ending.code) ∷ ending.later;
    edges = record { to = to; at = own; uses = edge_uses globals function from (empty_pool next) to } ∷ ending.edges;
  }

  pub whole_taken : (w : Written) (at to : ℕ) (ending : Ending) → whole (edge_taken globals function from w at to) ending ≡ whole w (taken_then (no_phis globals function to) w.pool.next w.own at to ending)
  unfolding edge_taken begun
  whole_taken w at to ending = by (no_phis globals function to)
    where
      by : (b : Bool) → whole (if b then put_edge w (record { to = to; at = at; uses = [] }) else jumped globals function from (begun w) w.own to) ending ≡ whole w (taken_then b w.pool.next w.own at to ending)
      by true = whole_edge w (record { to = to; at = at; uses = [] }) ending
      by false = whole_jumped (begun w) w.own to ending ∙ whole_begun w (jump_then w.own (empty_pool w.pool.next) to ending)

  -- ---- what an edge leaves behind

  pub taken_own : (w : Written) (at to : ℕ) → (edge_taken globals function from w at to).own ≡ w.own + spare globals function to
  unfolding edge_taken jumped put_edge put begun
  taken_own w at to = by (no_phis globals function to)
    where
      by : (b : Bool) → (if b then put_edge w (record { to = to; at = at; uses = [] }) else jumped globals function from (begun w) w.own to).own ≡ w.own + (if b then 0 else 1)
      by true = omega arith
      by false = refl

  pub taken_next : (w : Written) (at to : ℕ) → (edge_taken globals function from w at to).pool.next ≡ w.pool.next + length (edge_types globals function from (empty_pool w.pool.next) to)
  unfolding edge_taken jumped put_edge put begun
  taken_next w at to = by (no_phis globals function to) refl
    where
      by : (b : Bool) → no_phis globals function to ≡ b
          → (if b then put_edge w (record { to = to; at = at; uses = [] }) else jumped globals function from (begun w) w.own to).pool.next ≡ w.pool.next + length (all_loaded globals (empty_pool w.pool.next) (edge_operands globals function from to))
      by true e =
          let none = ap (λ (os : List (Ty × Operand)). length (all_loaded globals (empty_pool w.pool.next) os)) (no_operands to e) in
          omega (arith, none)
      by false e = all_more globals (empty_pool w.pool.next) (edge_operands globals function from to)

  -- ---- a conditional branch ends a block

  later_of : (next to : ℕ) (b : Bool) → no_phis globals function to ≡ b → edge_blocks globals function from next to ≡ cond b [] (edge_code globals function from (empty_pool next) to ∷ [])
  later_of next to b e = ap (λ (x : Bool). if x then [] else edge_code globals function from (empty_pool next) to ∷ []) e

  types_of : (next to : ℕ) → no_phis globals function to ≡ true → edge_types globals function from (empty_pool next) to ≡ []
  types_of next to e = ap (λ (os : List (Ty × Operand)). all_loaded globals (empty_pool next) os) (no_operands to e)

  uses_of : (next to : ℕ) → no_phis globals function to ≡ true → edge_uses globals function from (empty_pool next) to ≡ []
  uses_of next to e = ap (λ (os : List (Ty × Operand)). registers globals (empty_pool next) os) (no_operands to e)

  -- what an edge and an ending behind it come to
  taken_is : (next own at to : ℕ) (ending : Ending) → ending.code ≡ [] → taken_then (no_phis globals function to) next own at to ending ≡ record {
    code = [];
    types = edge_types globals function from (empty_pool next) to ++ ending.types;
    later = edge_blocks globals function from next to ++ ending.later;
    edges = edge_of globals function from at next own to ∷ ending.edges;
  }
  taken_is next own at to ending none = by (no_phis globals function to) refl
    where
      by : (b : Bool) → no_phis globals function to ≡ b → taken_then b next own at to ending ≡ record {
        code = [];
        types = edge_types globals function from (empty_pool next) to ++ ending.types;
        later = edge_blocks globals function from next to ++ ending.later;
        edges = edge_of globals function from at next own to ∷ ending.edges;
      }
      by true e =
          rw (types_of next to e, uses_of next to e, later_of next to true e, none)
          (ap (λ (x : Bool). record { code = []; types = ending.types; later = ending.later; edges = record { to = to; at = (if x then at else own); uses = [] } ∷ ending.edges }) (sym e))
      by false e =
          rw (later_of next to false e, none, append-nil (edge_code globals function from (empty_pool next) to))
          (ap (λ (x : Bool). record {
            code = [];
            types = edge_types globals function from (empty_pool next) to ++ ending.types;
            later = edge_code globals function from (empty_pool next) to ∷ ending.later;
            edges = record { to = to; at = (if x then at else own); uses = edge_uses globals function from (empty_pool next) to } ∷ ending.edges;
          }) (sym e))

  -- the ending of an edge that is the last
  abbrev last_edge : ℕ → ℕ → ℕ → ℕ → Ending
  last_edge next own at to = record {
    code = [];
    types = edge_types globals function from (empty_pool next) to ++ [];
    later = edge_blocks globals function from next to ++ [];
    edges = edge_of globals function from at next own to ∷ [];
  }

  abbrev both_edges : ℕ → ℕ → ℕ → ℕ → Ending → Ending
  both_edges next own at to ending = record {
    code = [];
    types = edge_types globals function from (empty_pool next) to ++ ending.types;
    later = edge_blocks globals function from next to ++ ending.later;
    edges = edge_of globals function from at next own to ∷ ending.edges;
  }

  branch_is : (next own at bit one other : ℕ) → (
      let second = next + length (edge_types globals function from (empty_pool next) one) in
      ending_behind (branch_on bit (goes_to globals function from own one) (goes_to globals function from (own + spare globals function one) other) ∷ []) []
      (both_edges next own at one (last_edge second (own + spare globals function one) at other)))
      ≡ branch globals function from at next own bit one other
  branch_is next own at bit one other =
      let second : ℕ = next + length (edge_types globals function from (empty_pool next) one) in
      ap₂ (λ (t : List GType) (l : List (List GInst)). record {
        code = branch_on bit (goes_to globals function from own one) (goes_to globals function from (own + spare globals function one) other) ∷ [];
        types = edge_types globals function from (empty_pool next) one ++ t;
        later = edge_blocks globals function from next one ++ l;
        edges = edge_of globals function from at next own one ∷ edge_of globals function from at second (own + spare globals function one) other ∷ [];
      }) (append-nil (edge_types globals function from (empty_pool second) other)) (append-nil (edge_blocks globals function from second other))

  -- the first edge of a branch, whose second is the last
  edges_whole : (w : Written) (at one other : ℕ) → (
      let second = w.pool.next + length (edge_types globals function from (empty_pool w.pool.next) one) in
      whole (edge_taken globals function from (edge_taken globals function from w at one) at other) no_ending
      ≡ whole w (both_edges w.pool.next w.own at one (last_edge second (w.own + spare globals function one) at other)))
  edges_whole w at one other =
      let v : Written = edge_taken globals function from w at one in
      let second : ℕ = w.pool.next + length (edge_types globals function from (empty_pool w.pool.next) one) in
      let own : ℕ = w.own + spare globals function one in
      whole_taken v at other no_ending
      ∙ ap (whole v) (taken_is v.pool.next v.own at other no_ending refl)
      ∙ ap₂ (λ (n o : ℕ). whole v (last_edge n o at other)) (taken_next w at one) (taken_own w at one)
      ∙ whole_taken w at one (last_edge second own at other)
      ∙ ap (whole w) (taken_is w.pool.next w.own at one (last_edge second own at other) refl)

  -- a conditional branch ends a block
  pub branch_whole : (w : Written) (at bit one other : ℕ) → whole (branched globals function from w at bit one other) no_ending ≡ whole w (branch globals function from at w.pool.next w.own bit one other)
  unfolding branched put
  branch_whole w at bit one other =
      let i : GInst = branch_on bit (goes_to globals function from w.own one) (goes_to globals function from (w.own + spare globals function one) other) in
      edges_whole (put_inst w i) at one other
      ∙ whole_put w (i ∷ []) [] w.pool _
      ∙ ap (whole w) (branch_is w.pool.next w.own at bit one other)

  -- ---- switches

  -- a case that isn't the last
  abbrev case_then : Ty → ℕ → ℕ → Pool → ℕ → ℕ → ℕ → Ending → Ending
  case_then of r at pool own n to rest =
      let bit = (behind_all globals pool (case_operand globals function from of n)).next in
      record {
        code = test_code globals function from of r pool n ++ branch_on bit (goes_to globals function from own to) (own + spare globals function to) ∷ [];
        types = test_types globals function from of pool n ++ (edge_types globals function from (empty_pool (bit + 1)) to ++ rest.types);
        later = edge_blocks globals function from (bit + 1) to ++ rest.code ∷ rest.later;
        edges = edge_of globals function from at (bit + 1) own to ∷ rest.edges;
      }

  pub case_whole : (w : Written) (at : ℕ) (of : Ty) (r n to : ℕ) (rest : Ending) → whole (cased globals function from w at of r n to) rest ≡ whole w (case_then of r at w.pool w.own n to rest)
  unfolding cased put
  case_whole w at of r n to rest =
      let bit : ℕ = (behind_all globals w.pool (case_operand globals function from of n)).next in
      let i : GInst = branch_on bit (goes_to globals function from w.own to) (w.own + spare globals function to) in
      let u : Written = tested globals function from w of r n in
      let v : Written = put_inst u i in
      let e : Ending = record { code = []; types = rest.types; later = rest.code ∷ rest.later; edges = rest.edges } in
      whole_begun (edge_taken globals function from v at to) rest
      ∙ whole_taken v at to e ∙ ap (whole v) (taken_is v.pool.next v.own at to e refl)
      ∙ whole_put u (i ∷ []) [] u.pool (both_edges (bit + 1) w.own at to e)
      ∙ whole_put w (test_code globals function from of r w.pool n) (test_types globals function from of w.pool n) _ (ending_behind (i ∷ []) [] (both_edges (bit + 1) w.own at to e))

  -- where the next test begins
  pub record NextTest (w v : Written) (of : Ty) (n to : ℕ) : Type 0 where
    pub pool : v.pool ≡ empty_pool ((behind_all globals w.pool (case_operand globals function from of n)).next + 1 + length (edge_types globals function from (empty_pool ((behind_all globals w.pool (case_operand globals function from of n)).next + 1)) to))
    pub own : v.own ≡ w.own + spare globals function to + 1

  pub next_test : (w : Written) (at : ℕ) (of : Ty) (r n to : ℕ) → NextTest w (cased globals function from w at of r n to) of n to
  unfolding cased put begun
  next_test w at of r n to =
      let bit : ℕ = (behind_all globals w.pool (case_operand globals function from of n)).next in
      let v : Written = put_inst (tested globals function from w of r n) (branch_on bit (goes_to globals function from w.own to) (w.own + spare globals function to)) in
      record {
        pool = ap empty_pool (taken_next v at to);
        own = ap (λ (k : ℕ). k + 1) (taken_own v at to);
      }

  -- the tests of cases from one that isn't the last
  tests_first : (w : Written) (at : ℕ) (of : Ty) (r otherwise : ℕ) (one two : ℕ × ℕ) (more : List (ℕ × ℕ)) → (
      let v = cased globals function from w at of r one.0 one.1 in
      whole v (tests globals function from of r otherwise (w.own + spare globals function one.1) v.pool v.own (two ∷ more))
      ≡ whole w (tests globals function from of r otherwise at w.pool w.own (one ∷ two ∷ more)))
  tests_first w at of r otherwise one two more =
      let v : Written = cased globals function from w at of r one.0 one.1 in
      let behind : ℕ = w.own + spare globals function one.1 in
      let bit : ℕ = (behind_all globals w.pool (case_operand globals function from of one.0)).next in
      let next : NextTest w v of one.0 one.1 = next_test w at of r one.0 one.1 in
      let rest : Ending = tests globals function from of r otherwise behind (empty_pool (bit + 1 + length (edge_types globals function from (empty_pool (bit + 1)) one.1))) (behind + 1) (two ∷ more) in
      ap₂ (λ (p : Pool) (n : ℕ). whole v (tests globals function from of r otherwise behind p n (two ∷ more))) next.pool next.own
      ∙ case_whole w at of r one.0 one.1 rest
      ∙ ap (λ (t : List GType). whole w (record {
        code = test_code globals function from of r w.pool one.0 ++ branch_on bit (goes_to globals function from w.own one.1) behind ∷ [];
        types = t;
        later = edge_blocks globals function from (bit + 1) one.1 ++ rest.code ∷ rest.later;
        edges = edge_of globals function from at (bit + 1) w.own one.1 ∷ rest.edges;
      })) (sym (append_assoc (test_types globals function from of w.pool one.0) (edge_types globals function from (empty_pool (bit + 1)) one.1) rest.types))

  pub rest_cases : (cases : List (ℕ × ℕ)) (i : ℕ) (d : ℕ × ℕ) → i < length cases → drop i cases ≡ get_or cases i d ∷ drop (i + 1) cases
  rest_cases cases i d lt = drop-cons cases i d lt ∙ ap (λ (n : ℕ). get_or cases i d ∷ drop n cases) (let k : suc i ≡ i + 1 = omega arith in k)

  pub tests_more : (w v total : Written) (at next : ℕ) (of : Ty) (r otherwise : ℕ) (cases : List (ℕ × ℕ)) (i : ℕ) (d : ℕ × ℕ) → i + 1 < length cases
      → whole w (tests globals function from of r otherwise at w.pool w.own (drop i cases)) ≡ total
      → v ≡ cased globals function from w at of r (get_or cases i d).0 (get_or cases i d).1 → next ≡ w.own + spare globals function (get_or cases i d).1
      → whole v (tests globals function from of r otherwise next v.pool v.own (drop (i + 1) cases)) ≡ total
  tests_more w v total at next of r otherwise cases i d lt h e is =
      let one : ℕ × ℕ = get_or cases i d in
      let two : ℕ × ℕ = get_or cases (i + 1) d in
      let more : List (ℕ × ℕ) = drop (i + 1 + 1) cases in
      let here : drop i cases ≡ one ∷ two ∷ more = rest_cases cases i d (omega (arith, lt)) ∙ ap (λ (xs : List (ℕ × ℕ)). one ∷ xs) (rest_cases cases (i + 1) d lt) in
      ap₂ (λ (n : ℕ) (xs : List (ℕ × ℕ)). whole v (tests globals function from of r otherwise n v.pool v.own xs)) is (rest_cases cases (i + 1) d lt)
      ∙ ap (λ (x : Written). whole x (tests globals function from of r otherwise (w.own + spare globals function one.1) x.pool x.own (two ∷ more))) e
      ∙ tests_first w at of r otherwise one two more
      ∙ ap (λ (xs : List (ℕ × ℕ)). whole w (tests globals function from of r otherwise at w.pool w.own xs)) (sym here) ∙ h

  -- the last case
  pub tests_last : (w v u total : Written) (at bit : ℕ) (of : Ty) (r otherwise : ℕ) (cases : List (ℕ × ℕ)) (i : ℕ) (d : ℕ × ℕ) → i + 1 ≡ length cases
      → whole w (tests globals function from of r otherwise at w.pool w.own (drop i cases)) ≡ total
      → v ≡ tested globals function from w of r (get_or cases i d).0 → bit ≡ (behind_all globals w.pool (case_operand globals function from of (get_or cases i d).0)).next
      → u ≡ branched globals function from v at bit (get_or cases i d).1 otherwise
      → whole u no_ending ≡ total
  unfolding put
  tests_last w v u total at bit of r otherwise cases i d last h e is b =
      let one : ℕ × ℕ = get_or cases i d in
      let none : drop (i + 1) cases ≡ [] = drop_all (i + 1) cases (omega (arith, last)) in
      let here : drop i cases ≡ one ∷ [] = rest_cases cases i d (omega (arith, last)) ∙ ap (λ (xs : List (ℕ × ℕ)). one ∷ xs) none in
      let number : ℕ = (behind_all globals w.pool (case_operand globals function from of one.0)).next in
      ap (λ (x : Written). whole x no_ending) (b ∙ ap₂ (λ (x : Written) (n : ℕ). branched globals function from x at n one.1 otherwise) e is)
      ∙ branch_whole (tested globals function from w of r one.0) at number one.1 otherwise
      ∙ whole_put w (test_code globals function from of r w.pool one.0) (test_types globals function from of w.pool one.0) _ (branch globals function from at (number + 1) w.own number one.1 otherwise)
      ∙ ap (λ (xs : List (ℕ × ℕ)). whole w (tests globals function from of r otherwise at w.pool w.own xs)) (sym here) ∙ h

  -- ---- what a body that writes one after another has written

  taken_globals : (w : Written) (at to : ℕ) → (edge_taken globals function from w at to).globals ≡ w.globals
  unfolding edge_taken jumped put_edge put begun
  taken_globals w at to = by (no_phis globals function to)
    where
      by : (b : Bool) → (if b then put_edge w (record { to = to; at = at; uses = [] }) else jumped globals function from (begun w) w.own to).globals ≡ w.globals
      by true = refl
      by false = refl

  taken_function : (w : Written) (at to : ℕ) → (edge_taken globals function from w at to).function ≡ w.function
  unfolding edge_taken jumped put_edge put begun
  taken_function w at to = by (no_phis globals function to)
    where
      by : (b : Bool) → (if b then put_edge w (record { to = to; at = at; uses = [] }) else jumped globals function from (begun w) w.own to).function ≡ w.function
      by true = refl
      by false = refl

  -- an edge behind what has the same globals and function
  pub record Edged (w v : Written) : Type 0 where
    pub globals' : v.globals ≡ globals
    pub function' : v.function ≡ function

  pub edged : (w v : Written) (at to : ℕ) → w.globals ≡ globals → w.function ≡ function → v ≡ edge_taken w.globals w.function from w at to → (v ≡ edge_taken globals function from w at to) × Edged w v
  edged w v at to g f e =
      let is : v ≡ edge_taken globals function from w at to = e ∙ ap₂ (λ (a : List Global) (b : Function). edge_taken a b from w at to) g f in (
        is,
        record {
          globals' = ap (λ (x : Written). x.globals) is ∙ taken_globals w at to ∙ g;
          function' = ap (λ (x : Written). x.function) is ∙ taken_function w at to ∙ f;
        },
      )

  -- one more block than there was
  pub own_few : (new w old : Written) (at to : ℕ) → new ≡ jumped globals function from w at to → w ≡ begun old → new.own ≤ old.own + 1
  unfolding jumped put_edge put begun
  own_few new w old at to e h =
      let a : new.own ≡ w.own = ap (λ (x : Written). x.own) e in
      let b : w.own ≡ old.own + 1 = ap (λ (x : Written). x.own) h in
      omega (arith, a, b)

module _ (from : ℕ) where
  inst_same : (w m : Written) (i : GInst) → m ≡ put_inst w i → (m.globals ≡ w.globals) × (m.function ≡ w.function)
  unfolding put
  inst_same w m i e = (ap (λ (x : Written). x.globals) e, ap (λ (x : Written). x.function) e)

  pub branched_is : (w m v u : Written) (at bit one other first second : ℕ) → first ≡ goes_to w.globals w.function from w.own one → second ≡ goes_to w.globals w.function from (w.own + spare w.globals w.function one) other
      → m ≡ put_inst w (branch_on bit first second) → v ≡ edge_taken m.globals m.function from m at one → u ≡ edge_taken v.globals v.function from v at other
      → u ≡ branched w.globals w.function from w at bit one other
  unfolding branched
  branched_is w m v u at bit one other first second a b e h k =
      let same = inst_same w m (branch_on bit first second) e in
      let first-is = edged w.globals w.function from m v at one same.0 same.1 h in
      let second-is = edged w.globals w.function from v u at other first-is.1.globals' first-is.1.function' k in
      let m-is = e ∙ ap₂ (λ (x y : ℕ). put_inst w (branch_on bit x y)) a b in
      second-is.0 ∙ ap (λ (x : Written). edge_taken w.globals w.function from x at other) (first-is.0 ∙ ap (λ (x : Written). edge_taken w.globals w.function from x at one) m-is)

  -- where the second edge of a branch is written
  pub behind_first : (w m v : Written) (at one first second bit : ℕ) → m ≡ put_inst w (branch_on bit first second) → v ≡ edge_taken m.globals m.function from m at one → v.function ≡ w.function
  behind_first w m v at one first second bit e h =
      let same = inst_same w m (branch_on bit first second) e in
      (edged w.globals w.function from m v at one same.0 same.1 h).1.function'

  test_same : (w t : Written) (of : Ty) (r n : ℕ) → t ≡ tested w.globals w.function from w of r n → (t.globals ≡ w.globals) × (t.function ≡ w.function)
  unfolding put
  test_same w t of r n e = (ap (λ (x : Written). x.globals) e, ap (λ (x : Written). x.function) e)

  pub cased_is : (w t m v u : Written) (at : ℕ) (of : Ty) (r n to bit first next : ℕ) → bit ≡ (behind_all w.globals w.pool (case_operand w.globals w.function from of n)).next
      → first ≡ goes_to w.globals w.function from w.own to → next ≡ w.own + spare w.globals w.function to → t ≡ tested w.globals w.function from w of r n
      → m ≡ put_inst t (branch_on bit first next) → v ≡ edge_taken m.globals m.function from m at to → u ≡ begun v → u ≡ cased w.globals w.function from w at of r n to
  unfolding cased
  cased_is w t m v u at of r n to bit first next a b c d e h k =
      let one = test_same w t of r n d in
      let two = inst_same t m (branch_on bit first next) e in
      let edge = edged w.globals w.function from m v at to (two.0 ∙ one.0) (two.1 ∙ one.1) h in
      let m-is = e ∙ ap₂ (λ (x y : ℕ). put_inst t (branch_on x y next)) a b ∙ ap (λ (z : ℕ). put_inst t (branch_on (behind_all w.globals w.pool (case_operand w.globals w.function from of n)).next (goes_to w.globals w.function from w.own to) z)) c
      ∙ ap (λ (x : Written). put_inst x (branch_on (behind_all w.globals w.pool (case_operand w.globals w.function from of n)).next (goes_to w.globals w.function from w.own to) (w.own + spare w.globals w.function to))) d in
      k ∙ ap (λ (x : Written). begun x) (edge.0 ∙ ap (λ (x : Written). edge_taken w.globals w.function from x at to) m-is)

  cased_same : (globals : List Global) (function : Function) (w : Written) (at : ℕ) (of : Ty) (r n to : ℕ) → ((cased globals function from w at of r n to).globals ≡ w.globals) × ((cased globals function from w at of r n to).function ≡ w.function)
  unfolding cased begun put
  cased_same globals function w at of r n to = (taken_globals globals function from _ at to, taken_function globals function from _ at to)

  -- the last case
  pub last_is : (w v u : Written) (at bit : ℕ) (of : Ty) (r otherwise : ℕ) (one : ℕ × ℕ) → v ≡ tested w.globals w.function from w of r one.0
      → bit ≡ (behind_all w.globals w.pool (case_operand w.globals w.function from of one.0)).next → u ≡ branched v.globals v.function from v at bit one.1 otherwise
      → whole u no_ending ≡ whole w (tests w.globals w.function from of r otherwise at w.pool w.own (one ∷ []))
  last_is w v u at bit of r otherwise one e is b =
      let same = test_same w v of r one.0 e in
      tests_last w.globals w.function from w v u _ at bit of r otherwise (one ∷ []) 0 one refl refl e is (b ∙ ap₂ (λ (x : List Global) (y : Function). branched x y from v at bit one.1 otherwise) same.0 same.1)

  -- one more case is written
  pub record CaseWritten (globals : List Global) (function : Function) (v total : Written) (next : ℕ) (of : Ty) (r otherwise : ℕ) (cases : List (ℕ × ℕ)) (i : ℕ) : Type 0 where
    pub globals' : v.globals ≡ globals
    pub function' : v.function ≡ function
    pub written : whole v (tests globals function from of r otherwise next v.pool v.own (drop (i + 1) cases)) ≡ total

  pub case_written : (globals : List Global) (function : Function) (w v total : Written) (at next : ℕ) (of : Ty) (r otherwise : ℕ) (cases : List (ℕ × ℕ)) (i : ℕ) (d : ℕ × ℕ) → i + 1 < length cases
      → w.globals ≡ globals → w.function ≡ function
      → whole w (tests globals function from of r otherwise at w.pool w.own (drop i cases)) ≡ total
      → v ≡ cased w.globals w.function from w at of r (get_or cases i d).0 (get_or cases i d).1 → next ≡ w.own + spare w.globals w.function (get_or cases i d).1
      → CaseWritten globals function v total next of r otherwise cases i
  case_written globals function w v total at next of r otherwise cases i d lt g f h e is =
      let one : ℕ × ℕ = get_or cases i d in
      let v-is = e ∙ ap₂ (λ (x : List Global) (y : Function). cased x y from w at of r one.0 one.1) g f in
      let next-is = is ∙ ap₂ (λ (x : List Global) (y : Function). w.own + spare x y one.1) g f in
      let same = cased_same globals function w at of r one.0 one.1 in
      record {
        globals' = ap (λ (x : Written). x.globals) v-is ∙ same.0 ∙ g;
        function' = ap (λ (x : Written). x.function) v-is ∙ same.1 ∙ f;
        written = tests_more globals function from w v total at next of r otherwise cases i d lt h v-is next-is;
      }
