-- How what is made grows, instruction by instruction and block by block.
use Rattle.std.proofs.Common.{◌≡◌, ◌≤◌, ◌<◌, ◌*◌, ℕ, zero, suc, ◌+◌, ◌==◌, ◌||◌, Bool, true, false, List, [], ◌∷◌, ◌++◌, length, Some, None, refl, sym, subst, ap, arith, ◌∙◌, append_assoc, append-nil}
use Rattle.std.specs.Prelude.{slice_get, slice_index_or, if◌then◌else◌}
use Rattle.std.specs.List.{Contains}
use Rattle.std.proofs.lemmas.Bool.{false≢true}
use Rattle.std.proofs.lemmas.List.{length-append}
use Rattle.std.proofs.lemmas.List.Sums.{sum_by-cons, sum_by-append}
use Rattle.rv_core.specs.declared.instr.BranchOp.{BranchOp}
use Rattle.mir.specs.declared.code.MInst.{MInst}
use Rattle.mir.specs.declared.code.MInst.TheVariants.{Phi, Branch, Jump}
use Rattle.mir.specs.declared.code.MFunction.{MFunction}
use Rattle.mir.specs.Code.{targets, writes, block_of, inst_at}
use Rattle.mir.specs.WellFormed.{is_phi, IsWellFormed, HasNoPhi}
use Rattle.mir_play.specs.Play.{behind_phis}
use Rattle.mir_play.specs.Refines.{static_of, static_of_block}
use Rattle.parallel_copies.specs.Edges.{heads}
use Rattle.phi_out.specs.Lowered.{IsEdge, Side, direct, through, Piece, stays, jumps, branches, Pieces, none, more, edge_cost, inst_cost}
use Rattle.phi_out.specs.Lowering.{some_phi, any_phi, edges_of, AreEdgeBlocks, Grows, HasSides, PutsPiece, PutsPieces}
use Rattle.phi_out.proofs.Steps.{AreMoves, are_moves}

-- ---- phis

phi_at : (insts : List MInst) → some_phi insts ≡ false → (place : ℕ) (inst : MInst) → slice_get insts place ≡ Some inst → is_phi inst ≡ false
phi_at [] h place inst at = absurd (let bad : ⊥ = cc in bad)
phi_at (i ∷ insts) h zero inst at = let same : i ≡ inst = cc in subst (λ (j : MInst). is_phi j ≡ false) same (neither (is_phi i) (some_phi insts) h).0
  where
    neither : (a b : Bool) → (a || b) ≡ false → (a ≡ false) × (b ≡ false)
    neither true b e = absurd (false≢true (sym e))
    neither false b e = (refl, e)
phi_at (i ∷ insts) h (suc place) inst at = phi_at insts (neither (is_phi i) (some_phi insts) h) place inst at
  where
    neither : (a b : Bool) → (a || b) ≡ false → b ≡ false
    neither true b e = absurd (false≢true (sym e))
    neither false b e = e

no_block : (blocks : List (List MInst)) → any_phi blocks ≡ false → (block place : ℕ) (inst : MInst) → slice_get (slice_index_or blocks block []) place ≡ Some inst → is_phi inst ≡ false
no_block [] h block place inst at = absurd (let bad : ⊥ = cc in bad)
no_block (b ∷ blocks) h zero place inst at = phi_at b (first (some_phi b) (any_phi blocks) h) place inst at
  where
    first : (a b : Bool) → (a || b) ≡ false → a ≡ false
    first true b e = absurd (false≢true (sym e))
    first false b e = refl
no_block (b ∷ blocks) h (suc block) place inst at = no_block blocks (second (some_phi b) (any_phi blocks) h) block place inst at
  where
    second : (a b : Bool) → (a || b) ≡ false → b ≡ false
    second true b e = absurd (false≢true (sym e))
    second false b e = e

pub has_none : (f : MFunction) → any_phi f.blocks ≡ false → HasNoPhi f
has_none f h block place inst at = no_block f.blocks h block place inst at

some_at : (insts : List MInst) → some_phi insts ≡ true → (place : ℕ) × (inst : MInst) × (slice_get insts place ≡ Some inst) × (is_phi inst ≡ true)
some_at [] h = absurd (false≢true h)
some_at (i ∷ insts) h = by_test (is_phi i) refl h (some_at insts)
  where
    by_test : (b : Bool) → is_phi i ≡ b → (b || some_phi insts) ≡ true → (some_phi insts ≡ true → (place : ℕ) × (inst : MInst) × (slice_get insts place ≡ Some inst) × (is_phi inst ≡ true))
        → (place : ℕ) × (inst : MInst) × (slice_get (i ∷ insts) place ≡ Some inst) × (is_phi inst ≡ true)
    by_test true e k rest = (0, i, refl, e)
    by_test false e k rest = let r = rest k in (suc r.0, r.1, r.2, r.3)

any_at : (blocks : List (List MInst)) → any_phi blocks ≡ true → (block : ℕ) × (place : ℕ) × (inst : MInst) × (slice_get (slice_index_or blocks block []) place ≡ Some inst) × (is_phi inst ≡ true)
any_at [] h = absurd (false≢true h)
any_at (b ∷ blocks) h = by_test (some_phi b) refl h (any_at blocks)
  where
    by_test : (t : Bool) → some_phi b ≡ t → (t || any_phi blocks) ≡ true
        → (any_phi blocks ≡ true → (block : ℕ) × (place : ℕ) × (inst : MInst) × (slice_get (slice_index_or blocks block []) place ≡ Some inst) × (is_phi inst ≡ true))
        → (block : ℕ) × (place : ℕ) × (inst : MInst) × (slice_get (slice_index_or (b ∷ blocks) block []) place ≡ Some inst) × (is_phi inst ≡ true)
    by_test true e k rest = let r = some_at b e in (0, r.0, r.1, r.2, r.3)
    by_test false e k rest = let r = rest k in (suc r.0, r.1, r.2, r.3, r.4)

pub has_one : (f : MFunction) → any_phi f.blocks ≡ true → HasNoPhi f → ⊥
has_one f h nothing = let r = any_at f.blocks h in false≢true (sym (nothing r.0 r.1 r.2 r.3) ∙ r.4)

pub skips : (inst : MInst) (insts : List MInst) → is_phi inst ≡ true → behind_phis (inst ∷ insts) ≡ behind_phis insts
skips (Phi d pairs) insts e = refl
skips inst insts e = absurd (false≢true e)

pub stops : (inst : MInst) (insts : List MInst) → is_phi inst ≡ false → behind_phis (inst ∷ insts) ≡ inst ∷ insts
stops (Phi d pairs) insts e = absurd (false≢true (sym e))
stops inst insts e = refl

-- ---- what was made stays made as blocks on edges are added

still_at : (xs ys : List (List MInst)) (k : ℕ) (x : List MInst) → slice_get xs k ≡ Some x → slice_get (xs ++ ys) k ≡ Some x
still_at [] ys k x e = absurd (let bad : ⊥ = cc in bad)
still_at (z ∷ xs) ys zero x e = e
still_at (z ∷ xs) ys (suc k) x e = still_at xs ys k x e

module _ (f : MFunction) (edges rest : List (List MInst)) (from : ℕ) where
  pub side_stays : (to to' : ℕ) → Side f edges from to to' → Side f (edges ++ rest) from to to'
  side_stays to to' (direct edge) = direct edge
  side_stays to to' (through ms place edge long at) = through ms place edge long (still_at edges rest place (ms ++ Jump to ∷ []) at)

  piece_stays : (inst : MInst) (piece : List MInst) → Piece f edges from inst piece → Piece f (edges ++ rest) from inst piece
  piece_stays inst piece (stays i t p) = stays i t p
  piece_stays inst piece (jumps to ms edge) = jumps to ms edge
  piece_stays inst piece (branches op a b t e t' e' side side') = branches op a b t e t' e' (side_stays t t' side) (side_stays e e' side')

  pub pieces_stay : (insts made : List MInst) → Pieces f edges from insts made → Pieces f (edges ++ rest) from insts made
  pieces_stay insts made none = none
  pieces_stay insts made (more {insts = is} {others = os} i p one m) = more i p (piece_stays i p one) (pieces_stay is os m)

pub pieces_last : (f : MFunction) (edges : List (List MInst)) (from : ℕ) (insts made : List MInst) (inst : MInst) (piece : List MInst) → Pieces f edges from insts made → Piece f edges from inst piece
    → Pieces f edges from (insts ++ inst ∷ []) (made ++ piece)
pieces_last f edges from insts made inst piece none one = subst (λ (l : List MInst). Pieces f edges from (inst ∷ []) l) (append-nil piece) (more inst piece one none)
pieces_last f edges from insts made inst piece (more {insts = is} {others = os} i p q m) one =
    subst (λ (l : List MInst). Pieces f edges from (i ∷ (is ++ inst ∷ [])) l) (sym (append_assoc p os piece)) (more i p q (pieces_last f edges from is os inst piece m one))

both_edges : (f : MFunction) (xs ys : List (List MInst)) → AreEdgeBlocks f xs → AreEdgeBlocks f ys → AreEdgeBlocks f (xs ++ ys)
both_edges f [] ys h k = k
both_edges f (x ∷ xs) ys h k = (h.0, both_edges f xs ys h.1 k)

pub grows_not : (f : MFunction) (edges : List (List MInst)) → Grows f edges edges 0 0
grows_not f edges = record { rest = []; grown = sym (append-nil edges); blocks = tt; few = omega arith; weighs = omega arith }

pub grows_more : (f : MFunction) (a b c : List (List MInst)) (m n w x : ℕ) → Grows f a b m w → Grows f b c n x → Grows f a c (m + n) (w + x)
grows_more f a b c m n w x g h =
    let few = g.few in let few' = h.few in let low = g.weighs in let low' = h.weighs in
    let long = length-append g.rest h.rest in
    let sums = sum_by-append static_of_block g.rest h.rest in
    record {
      rest = g.rest ++ h.rest;
      grown = h.grown ∙ ap (λ (l : List (List MInst)). l ++ h.rest) g.grown ∙ append_assoc a g.rest h.rest;
      blocks = both_edges f g.rest h.rest g.blocks h.blocks;
      few = omega (arith, few, few', long);
      weighs = omega (arith, low, low', sums);
    }

pub grows_within : (f : MFunction) (a b : List (List MInst)) (m n w x : ℕ) → Grows f a b m w → m ≤ n → w ≤ x → Grows f a b n x
grows_within f a b m n w x g h k =
    let few = g.few in let low = g.weighs in
    record { rest = g.rest; grown = g.grown; blocks = g.blocks; few = omega (arith, few, h); weighs = omega (arith, low, k) }

-- ---- an edge

static_of_moves : (ms : List MInst) → AreMoves ms → static_of_block ms ≡ 12 * length ms
static_of_moves [] h = refl
static_of_moves (m ∷ ms) ((d, s, is), h) =
    let rest = static_of_moves ms h in let one = sum_by-cons static_of m ms in let own : static_of m ≡ 12 = rw is refl in
    omega (arith, rest, one, own)

pub static_with_jump : (f : MFunction) (from to : ℕ) (ms : List MInst) → IsEdge f from to ms → static_of_block (ms ++ Jump to ∷ []) ≤ 24 * heads (block_of f to) + 4
static_with_jump f from to ms edge =
    let own = static_of_moves ms (are_moves f from to ms edge.only) in
    let both = sum_by-append static_of ms (Jump to ∷ []) in
    let last : static_of_block (Jump to ∷ []) ≡ 4 = refl in
    let short = edge.short in
    omega (arith, own, both, last, short)

pub edge_grows : (f : MFunction) (from to : ℕ) (edges : List (List MInst)) (ms : List MInst) → IsEdge f from to ms → 0 < length ms → (0 < to) × (to < length f.blocks)
    → Grows f edges (edges ++ (ms ++ Jump to ∷ []) ∷ []) 1 (edge_cost f to)
edge_grows f from to edges ms edge long inside =
    let low = static_with_jump f from to ms edge in
    let one = sum_by-cons static_of_block (ms ++ Jump to ∷ []) [] in
    let short = edge.short in
    record {
      rest = (ms ++ Jump to ∷ []) ∷ [];
      grown = refl;
      blocks = (record { from = from; to = to; moves = ms; edge = edge; inside = inside; is = refl }, tt);
      few = omega arith;
      weighs = omega (arith, low, one, short, long);
    }

last_at : (edges : List (List MInst)) (x : List MInst) → slice_get (edges ++ x ∷ []) (length edges) ≡ Some x
last_at [] x = refl
last_at (e ∷ edges) x = last_at edges x

pub edge_side : (f : MFunction) (from to : ℕ) (edges : List (List MInst)) (ms : List MInst) → IsEdge f from to ms → 0 < length ms
    → Side f (edges ++ (ms ++ Jump to ∷ []) ∷ []) from to (length f.blocks + length edges)
edge_side f from to edges ms edge long = through ms (length edges) edge long (last_at edges (ms ++ Jump to ∷ []))

-- the function's first spare register is written by no instruction
pub spare_unwritten : (f : MFunction) → IsWellFormed f → (to : ℕ) (inst : MInst) → Contains (block_of f to) inst → Contains (writes inst) f.regs → ⊥
spare_unwritten f formed to inst (k, low, is) c =
    let at : inst_at f to k ≡ Some inst = slice_get_from (block_of f to) k inst low is in
    let below = (formed.placed to k inst at).writes_exist f.regs c in omega (arith, below)
  where
    slice_get_from : (xs : List MInst) (k : ℕ) (x : MInst) → k < length xs → slice_index_or xs k x ≡ x → slice_get xs k ≡ Some x
    slice_get_from [] k x low is = absurd (let bad : ⊥ = omega (arith, low) in bad)
    slice_get_from (y ∷ ys) zero x low is = ap Some is
    slice_get_from (y ∷ ys) (suc k) x low is = slice_get_from ys k x (omega (arith, low)) is

pub none_there : (xs : List (List MInst)) (i : ℕ) → slice_get xs i ≡ None → [] ≡ slice_index_or xs i []
none_there [] i e = refl
none_there (x ∷ xs) zero e = absurd (let bad : ⊥ = cc in bad)
none_there (x ∷ xs) (suc i) e = none_there xs i e

pub is_none : (ms : List MInst) (n : ℕ) → n ≡ length ms → true ≡ (n == 0) → ms ≡ []
is_none [] n e h = refl
is_none (m ∷ ms) n e h = absurd (let bad : ⊥ = grind (arith, e, h) in bad)

pub long_enough : (ms : List MInst) (n : ℕ) → n ≡ length ms → false ≡ (n == 0) → 0 < length ms
long_enough [] n e h = absurd (let bad : ⊥ = grind (arith, e, h) in bad)
long_enough (m ∷ ms) n e h = omega arith

-- ---- branches

pub both_sides : (f : MFunction) (from t e : ℕ) (a b c : List (List MInst)) (t' e' : ℕ) → (t == e) ≡ false → Side f b from t t' → Grows f a b 1 (edge_cost f t)
    → Side f c from e e' → Grows f b c 1 (edge_cost f e) → HasSides f from t e a c t' e'
both_sides f from t e a b c t' e' apart side g side' h = record {
  one = rw h.grown (side_stays f b h.rest from t t' side);
  other = side';
  grows = λ op x y. rw apart (grows_more f a b c 1 1 (edge_cost f t) (edge_cost f e) g h);
}

pub one_side : (f : MFunction) (from t e : ℕ) (a b : List (List MInst)) (t' : ℕ) → t ≡ e → Side f b from t t' → Grows f a b 1 (edge_cost f t) → HasSides f from t e a b t' t'
one_side f from t e a b t' same side g = record {
  one = side;
  other = subst (λ (x : ℕ). Side f b from x t') same side;
  grows = λ op x y. grows_within f a b 1 2 (edge_cost f t) (inst_cost f (Branch op x y t e)) g (omega arith) (at_least (t == e));
}
  where
    at_least : (b : Bool) → edge_cost f t ≤ (if b then edge_cost f t else edge_cost f t + edge_cost f e)
    at_least true = omega arith
    at_least false = omega arith

-- ---- instructions

pub puts_jump : (f : MFunction) (from to : ℕ) (edges : List (List MInst)) (before ms : List MInst) → IsEdge f from to ms
    → PutsPiece f from (Jump to) edges edges before (before ++ (ms ++ Jump to ∷ []))
puts_jump f from to edges before ms edge = record {
  piece = ms ++ Jump to ∷ [];
  put = refl;
  lowered = jumps to ms edge;
  cost = 0;
  grows = grows_within f edges edges 0 1 0 0 (grows_not f edges) (omega arith) (omega arith);
  weighs = by_heads (static_with_jump f from to ms edge) (edge.short);
}
  where
    by_heads : static_of_block (ms ++ Jump to ∷ []) ≤ 24 * heads (block_of f to) + 4 → length ms ≤ 2 * heads (block_of f to)
        → static_of_block (ms ++ Jump to ∷ []) + 0 ≤ static_of (Jump to) + inst_cost f (Jump to)
    by_heads low short = let own : static_of (Jump to) ≡ 4 = refl in omega (arith, low, own)

pub puts_branch : (f : MFunction) (from : ℕ) (op : BranchOp) (a b t e t' e' : ℕ) (old new : List (List MInst)) (before : List MInst) → HasSides f from t e old new t' e'
    → PutsPiece f from (Branch op a b t e) old new before (before ++ Branch op a b t' e' ∷ [])
puts_branch f from op a b t e t' e' old new before h = record {
  piece = Branch op a b t' e' ∷ [];
  put = refl;
  lowered = branches op a b t e t' e' h.one h.other;
  cost = inst_cost f (Branch op a b t e);
  grows = h.grows op a b;
  weighs = weigh (inst_cost f (Branch op a b t e));
}
  where
    weigh : (c : ℕ) → static_of_block (Branch op a b t' e' ∷ []) + c ≤ static_of (Branch op a b t e) + c
    weigh c = let one : static_of_block (Branch op a b t' e' ∷ []) ≡ 32 = refl in let own : static_of (Branch op a b t e) ≡ 32 = refl in omega (arith, one, own)

pub puts_same : (f : MFunction) (from : ℕ) (inst : MInst) (edges : List (List MInst)) (before : List MInst) → targets inst ≡ [] → is_phi inst ≡ false
    → PutsPiece f from inst edges edges before (before ++ inst ∷ [])
puts_same f from inst edges before none' p = record {
  piece = inst ∷ [];
  put = refl;
  lowered = stays inst none' p;
  cost = 0;
  grows = grows_within f edges edges 0 (length (targets inst)) 0 0 (grows_not f edges) (omega arith) (omega arith);
  weighs = let one = sum_by-cons static_of inst [] in omega (arith, one);
}

pub no_targets : (inst : MInst) → ((to : ℕ) → inst ≡ Jump to → ⊥) → ((op : BranchOp) (a b t e : ℕ) → inst ≡ Branch op a b t e → ⊥) → targets inst ≡ []
no_targets (Jump to) h k = absurd (h to refl)
no_targets (Branch op a b t e) h k = absurd (k op a b t e refl)
no_targets inst h k = refl

pub puts_none : (f : MFunction) (from : ℕ) (edges : List (List MInst)) → PutsPieces f from [] edges edges []
puts_none f from edges = record { lowered = none; cost = 0; grows = grows_not f edges; weighs = omega arith }

pub puts_last : (f : MFunction) (from : ℕ) (insts : List MInst) (inst : MInst) (a b c : List (List MInst)) (made made' : List MInst)
    → PutsPieces f from insts a b made → PutsPiece f from inst b c made made' → PutsPieces f from (insts ++ inst ∷ []) a c made'
puts_last f from insts inst a b c made made' h k =
    let grown = k.grows.grown in
    let low = h.weighs in let low' = k.weighs in
    let sums = sum_by-append static_of made k.piece in
    let own = sum_by-append static_of insts (inst ∷ []) in
    let own' = sum_by-cons static_of inst [] in
    let cost = sum_by-append (inst_cost f) insts (inst ∷ []) in
    let cost' = sum_by-cons (inst_cost f) inst [] in
    let count : edges_of (insts ++ inst ∷ []) ≡ edges_of insts + length (targets inst) =
    sum_by-append (λ i. length (targets i)) insts (inst ∷ []) ∙ ap (λ (n : ℕ). edges_of insts + n) (sum_by-cons (λ i. length (targets i)) inst [] ∙ (let z : length (targets inst) + 0 ≡ length (targets inst) = omega arith in z)) in
    subst (λ (l : List MInst). PutsPieces f from (insts ++ inst ∷ []) a c l) (sym k.put)
    (record {
      lowered = pieces_last f c from insts made inst k.piece (rw grown (pieces_stay f b k.grows.rest from insts made h.lowered)) k.lowered;
      cost = h.cost + k.cost;
      grows = grows_within f a c (edges_of insts + length (targets inst)) (edges_of (insts ++ inst ∷ [])) (h.cost + k.cost) (h.cost + k.cost)
          (grows_more f a b c (edges_of insts) (length (targets inst)) h.cost k.cost h.grows k.grows) (omega (arith, count)) (omega arith);
      weighs = omega (arith, low, low', sums, own, own', cost, cost');
    })
