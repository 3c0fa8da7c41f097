-- The function with moves on edges is well formed, and has no phi.
use Rattle.std.proofs.Common.{◌≡◌, ◌⊎◌, inl, inr, ◌≤◌, ◌<◌, ℕ, zero, suc, ◌+◌, ◌-◌, Bool, true, false, List, [], ◌∷◌, ◌++◌, length, Option, Some, None, refl, sym, subst, ap, arith, ◌∙◌, append-nil}
use Rattle.std.specs.Prelude.{nat_lt, slice_get, slice_index_or, ◌↔◌, if◌then◌else◌}
use Rattle.std.specs.List.{Contains}
use Rattle.std.proofs.lemmas.Bool.{false≢true}
use Rattle.std.proofs.lemmas.List.{get_or_append_left, get_or-append-add, length-append, get_or_past}
use Rattle.std.proofs.lemmas.Option.{slice_get-get_or, slice_get_within}
use Rattle.rv_core.specs.declared.instr.BranchOp.{BranchOp}
use Rattle.mir.specs.declared.code.MInst.{MInst}
use Rattle.mir.specs.declared.code.MInst.TheVariants.{Move, Phi, Branch, Jump}
use Rattle.mir.specs.declared.code.MFunction.{MFunction}
use Rattle.mir.specs.Code.{reads, writes, targets, ends_block, block_of, inst_at}
use Rattle.mir.specs.WellFormed.{HasRanges, is_param, is_phi, takes_data, sources, IsWellFormed, HasNoPhi}
use Rattle.mir_play.specs.Play.{on_edge, behind_phis}
use Rattle.parallel_copies.specs.Moves.{Copies, IsMoveOf, written, read}
use Rattle.parallel_copies.specs.Edges.{is_written, with_copy, copies_on}
use Rattle.phi_out.specs.Lowered.{IsEdge, Side, direct, through, Piece, stays, jumps, branches, Pieces, none, more, IsEdgeBlock, IsLowered}
use Rattle.phi_out.proofs.Placing.{first_of, behind_of, reads_pair}
use Rattle.phi_out.proofs.Steps.{AreMoves, are_moves}

-- ---- lists that end by an instruction that ends a block, and have no other

data Finishes : List MInst → Type 0 where
  only : (i : MInst) → ends_block i ≡ true → Finishes (i ∷ [])
  later : {insts : List MInst} (i : MInst) → ends_block i ≡ false → Finishes insts → Finishes (i ∷ insts)

some : (insts : List MInst) → Finishes insts → 0 < length insts
some insts (only i e) = omega arith
some insts (later i e h) = omega arith

ended : (insts : List MInst) → Finishes insts → (place : ℕ) (inst : MInst) → slice_get insts place ≡ Some inst → (ends_block inst ≡ true) ↔ (place + 1 ≡ length insts)
ended insts (only i e) zero inst at = ((λ h. refl), (λ h. let same : i ≡ inst = cc in subst (λ (j : MInst). ends_block j ≡ true) same e))
ended insts (only i e) (suc place) inst at = absurd (let bad : ⊥ = cc in bad)
ended insts (later {insts = others} i e h) zero inst at =
    let same : i ≡ inst = cc in let long = some others h in
    ((λ k. absurd (false≢true (sym e ∙ subst (λ (j : MInst). ends_block j ≡ true) (sym same) k))), (λ k. absurd (let bad : ⊥ = omega (arith, k, long) in bad)))
ended insts (later {insts = others} i e h) (suc place) inst at =
    let rest = ended others h place inst at in
    ((λ k. let last = rest.0 k in omega (arith, last)), (λ k. rest.1 (omega (arith, k))))

moves_finish : (ms : List MInst) → AreMoves ms → (to : ℕ) → Finishes (ms ++ Jump to ∷ [])
moves_finish [] h to = only (Jump to) refl
moves_finish (m ∷ ms) ((d, s, is), h) to = later m (rw is refl) (moves_finish ms h to)

finishes : (insts : List MInst) → 0 < length insts → ((place : ℕ) (inst : MInst) → slice_get insts place ≡ Some inst → (ends_block inst ≡ true) ↔ (place + 1 ≡ length insts)) → Finishes insts
finishes [] long h = absurd (let bad : ⊥ = omega (arith, long) in bad)
finishes (i ∷ []) long h = only i ((h 0 i refl).1 refl)
finishes (i ∷ (j ∷ js)) long h =
    later i (not_last (ends_block i) refl)
    (finishes (j ∷ js) (omega arith) (λ place inst at. let k = h (suc place) inst at in ((λ e. let last = k.0 e in omega (arith, last)), (λ e. k.1 (omega (arith, e))))))
  where
    not_last : (b : Bool) → ends_block i ≡ b → ends_block i ≡ false
    not_last false e = e
    not_last true e = absurd (let last = (h 0 i refl).0 e in let bad : ⊥ = omega (arith, last) in bad)

behind_finishes : (insts : List MInst) → Finishes insts → Finishes (behind_phis insts)
behind_finishes [] h = h
behind_finishes (Phi d pairs ∷ insts) (only i e) = absurd (false≢true e)
behind_finishes (Phi d pairs ∷ insts) (later i e h) = behind_finishes insts h
behind_finishes (i ∷ insts) h = h

sources_none : (inst : MInst) → is_phi inst ≡ false → sources inst ≡ []
sources_none (Phi d pairs) e = absurd (false≢true (sym e))
sources_none inst e = refl

-- ---- parameters stand first

abbrev NoParams : List MInst → Type 0
NoParams [] = Unit {0}
NoParams (i ∷ insts) = (is_param i ≡ false) × NoParams insts

no_param_at : (insts : List MInst) → NoParams insts → (place : ℕ) (inst : MInst) → slice_get insts place ≡ Some inst → is_param inst ≡ false
no_param_at [] h place inst at = absurd (let bad : ⊥ = cc in bad)
no_param_at (i ∷ insts) h zero inst at = let same : i ≡ inst = cc in subst (λ (j : MInst). is_param j ≡ false) same h.0
no_param_at (i ∷ insts) h (suc place) inst at = no_param_at insts h.1 place inst at

no_params : (insts : List MInst) → ((place : ℕ) (inst : MInst) → slice_get insts place ≡ Some inst → is_param inst ≡ false) → NoParams insts
no_params [] h = tt
no_params (i ∷ insts) h = (h 0 i refl, no_params insts (λ place inst at. h (suc place) inst at))

data ParamsFirst : List MInst → Type 0 where
  param : {insts : List MInst} (i : MInst) → is_param i ≡ true → ParamsFirst insts → ParamsFirst (i ∷ insts)
  no_more : {insts : List MInst} → NoParams insts → ParamsFirst insts

first : (insts : List MInst) → ParamsFirst insts → (place : ℕ) (inst : MInst) → slice_get insts place ≡ Some inst → is_param inst ≡ true
    → (earlier : ℕ) (other : MInst) → earlier < place → slice_get insts earlier ≡ Some other → is_param other ≡ true
first insts (no_more h) place inst at is earlier other low at' = absurd (false≢true (sym (no_param_at insts h place inst at) ∙ is))
first insts (param i e h) zero inst at is earlier other low at' = absurd (let bad : ⊥ = omega (arith, low) in bad)
first insts (param i e h) (suc place) inst at is zero other low at' = let same : i ≡ other = cc in subst (λ (j : MInst). is_param j ≡ true) same e
first insts (param {insts = rest} i e h) (suc place) inst at is (suc earlier) other low at' = first rest h place inst at is earlier other (omega (arith, low)) at'

params_first : (insts : List MInst) → ((place : ℕ) (inst : MInst) → slice_get insts place ≡ Some inst → is_param inst ≡ true → (earlier : ℕ) (other : MInst) → earlier < place → slice_get insts earlier ≡ Some other → is_param other ≡ true)
    → ParamsFirst insts
params_first [] h = no_more tt
params_first (i ∷ insts) h = by_test (is_param i) refl (params_first insts (λ place inst at is earlier other low at'. h (suc place) inst at is (suc earlier) other (omega (arith, low)) at'))
  where
    none_here : (b : Bool) → is_param i ≡ false → (place : ℕ) (inst : MInst) → slice_get (i ∷ insts) place ≡ Some inst → is_param inst ≡ b → is_param inst ≡ false
    none_here false e place inst at is = is
    none_here true e zero inst at is = let same : i ≡ inst = cc in subst (λ (j : MInst). is_param j ≡ false) same e
    none_here true e (suc place) inst at is = absurd (false≢true (sym e ∙ h (suc place) inst at is 0 i (omega arith) refl))

    by_test : (b : Bool) → is_param i ≡ b → ParamsFirst insts → ParamsFirst (i ∷ insts)
    by_test true e rest = param i e rest
    by_test false e rest = no_more (no_params (i ∷ insts) (λ place inst at. none_here (is_param inst) e place inst at refl))

behind_first : (insts : List MInst) → ParamsFirst insts → ParamsFirst (behind_phis insts)
behind_first [] h = h
behind_first (Phi d pairs ∷ insts) (param i e h) = absurd (false≢true e)
behind_first (Phi d pairs ∷ insts) (no_more h) = behind_first insts (no_more h.1)
behind_first (i ∷ insts) h = h

no_params_both : (xs ys : List MInst) → NoParams xs → NoParams ys → NoParams (xs ++ ys)
no_params_both [] ys h k = k
no_params_both (x ∷ xs) ys h k = (h.0, no_params_both xs ys h.1 k)

no_params_moves : (ms : List MInst) → AreMoves ms → NoParams ms
no_params_moves [] h = tt
no_params_moves (m ∷ ms) ((d, s, is), h) = (rw is refl, no_params_moves ms h)

-- ---- registers that moves name

abbrev Within : ℕ → Copies → Type 0
Within n [] = Unit {0}
Within n (copy ∷ copies) = (copy.0 < n) × (copy.1 < n) × Within n copies

within_last : (n : ℕ) (copies : Copies) (d s : ℕ) → Within n copies → d < n → s < n → Within n (copies ++ (d, s) ∷ [])
within_last n [] d s h low low' = (low, low', tt)
within_last n (copy ∷ copies) d s h low low' = (h.0, h.1, within_last n copies d s h.2 low low')

written_low : (n : ℕ) (copies : Copies) → Within n copies → (x : ℕ) → Contains (written copies) x → x < n
written_low n [] h x (k, low, is) = absurd (let bad : ⊥ = omega (arith, low) in bad)
written_low n (copy ∷ copies) h x (zero, low, is) = let same : copy.0 ≡ x = is in subst (λ (y : ℕ). y < n) same h.0
written_low n (copy ∷ copies) h x (suc k, low, is) = written_low n copies h.2 x (k, omega (arith, low), is)

read_low : (n : ℕ) (copies : Copies) → Within n copies → (x : ℕ) → Contains (read copies) x → x < n
read_low n [] h x (k, low, is) = absurd (let bad : ⊥ = omega (arith, low) in bad)
read_low n (copy ∷ copies) h x (zero, low, is) = let same : copy.1 ≡ x = is in subst (λ (y : ℕ). y < n) same h.1
read_low n (copy ∷ copies) h x (suc k, low, is) = read_low n copies h.2 x (k, omega (arith, low), is)

-- registers of instructions exist
abbrev Exist : ℕ → List MInst → Type 0
Exist n insts = (place : ℕ) (inst : MInst) → slice_get insts place ≡ Some inst → ((r : ℕ) → Contains (reads inst) r → r < n) × ((r : ℕ) → Contains (writes inst) r → r < n)

copies_within : (n from : ℕ) (insts : List MInst) → Exist n insts → Within n (copies_on from insts)
copies_within n from [] h = tt
copies_within n from (Phi d pairs ∷ insts) h = by_source (on_edge from pairs) refl (copies_within n from insts (λ place inst at. h (suc place) inst at))
  where
    by_written : (b : Bool) (s : ℕ) → s < n → Within n (copies_on from insts) → Within n (if b then copies_on from insts else copies_on from insts ++ (d, s) ∷ [])
    by_written true s low rest = rest
    by_written false s low rest = within_last n (copies_on from insts) d s rest ((h 0 (Phi d pairs) refl).1 d (first_of d [])) low

    by_source : (o : Option ℕ) → on_edge from pairs ≡ o → Within n (copies_on from insts) → Within n (with_copy d o (copies_on from insts))
    by_source None e rest = rest
    by_source (Some s) e rest = by_written (is_written d (copies_on from insts)) s ((h 0 (Phi d pairs) refl).0 s (reads_pair from pairs s e)) rest
copies_within n from (i ∷ insts) h = tt

-- ---- what is asked of instructions, but for their places

record IsFit (regs count block : ℕ) (inst : MInst) : Type 0 where
  ranges : HasRanges inst
  reads_exist : (r : ℕ) → Contains (reads inst) r → r < regs
  writes_exist : (r : ℕ) → Contains (writes inst) r → r < regs
  targets_exist : (to : ℕ) → Contains (targets inst) to → (0 < to) × (to < count)
  params : is_param inst ≡ true → block ≡ 0
  data_taken : takes_data inst ≡ true → block ≡ 0

abbrev AreFit : ℕ → ℕ → ℕ → List MInst → Type 0
AreFit regs count block [] = Unit {0}
AreFit regs count block (i ∷ insts) = IsFit regs count block i × AreFit regs count block insts

abbrev pub ArePlain : List MInst → Type 0
ArePlain [] = Unit {0}
ArePlain (i ∷ insts) = (is_phi i ≡ false) × ArePlain insts

fit_at : (regs count block : ℕ) (insts : List MInst) → AreFit regs count block insts → (place : ℕ) (inst : MInst) → slice_get insts place ≡ Some inst → IsFit regs count block inst
fit_at regs count block [] h place inst at = absurd (let bad : ⊥ = cc in bad)
fit_at regs count block (i ∷ insts) h zero inst at = let same : i ≡ inst = cc in subst (IsFit regs count block) same h.0
fit_at regs count block (i ∷ insts) h (suc place) inst at = fit_at regs count block insts h.1 place inst at

pub plain_at : (insts : List MInst) → ArePlain insts → (place : ℕ) (inst : MInst) → slice_get insts place ≡ Some inst → is_phi inst ≡ false
plain_at [] h place inst at = absurd (let bad : ⊥ = cc in bad)
plain_at (i ∷ insts) h zero inst at = let same : i ≡ inst = cc in subst (λ (j : MInst). is_phi j ≡ false) same h.0
plain_at (i ∷ insts) h (suc place) inst at = plain_at insts h.1 place inst at

all_fit : (regs count block : ℕ) (insts : List MInst) → ((place : ℕ) (inst : MInst) → slice_get insts place ≡ Some inst → IsFit regs count block inst) → AreFit regs count block insts
all_fit regs count block [] h = tt
all_fit regs count block (i ∷ insts) h = (h 0 i refl, all_fit regs count block insts (λ place inst at. h (suc place) inst at))

behind_fit : (regs count block : ℕ) (insts : List MInst) → AreFit regs count block insts → AreFit regs count block (behind_phis insts)
behind_fit regs count block [] h = h
behind_fit regs count block (Phi d pairs ∷ insts) h = behind_fit regs count block insts h.1
behind_fit regs count block (i ∷ insts) h = h

both_fit : (regs count block : ℕ) (xs ys : List MInst) → AreFit regs count block xs → AreFit regs count block ys → AreFit regs count block (xs ++ ys)
both_fit regs count block [] ys h k = k
both_fit regs count block (x ∷ xs) ys h k = (h.0, both_fit regs count block xs ys h.1 k)

both_plain : (xs ys : List MInst) → ArePlain xs → ArePlain ys → ArePlain (xs ++ ys)
both_plain [] ys h k = k
both_plain (x ∷ xs) ys h k = (h.0, both_plain xs ys h.1 k)

jump_fits : (regs count block to : ℕ) → (0 < to) × (to < count) → IsFit regs count block (Jump to)
jump_fits regs count block to inside = record {
  ranges = tt;
  reads_exist = λ r c. absurd (let low = c.1 in let bad : ⊥ = omega (arith, low) in bad);
  writes_exist = λ r c. absurd (let low = c.1 in let bad : ⊥ = omega (arith, low) in bad);
  targets_exist = one_target to inside;
  params = λ e. absurd (false≢true e);
  data_taken = λ e. absurd (false≢true e);
}
  where
    one_target : (t : ℕ) → (0 < t) × (t < count) → (x : ℕ) → Contains (t ∷ []) x → (0 < x) × (x < count)
    one_target t i x (zero, low, is) = subst (λ (y : ℕ). (0 < y) × (y < count)) is i
    one_target t i x (suc k, low, is) = absurd (let bad : ⊥ = omega (arith, low) in bad)

one_of : (n : ℕ) (d : ℕ) → d < n → (x : ℕ) → Contains (d ∷ []) x → x < n
one_of n d low x (zero, l, is) = subst (λ (y : ℕ). y < n) is low
one_of n d low x (suc k, l, is) = absurd (let bad : ⊥ = omega (arith, l) in bad)

move_fits : (regs count block d s : ℕ) → d < regs → s < regs → IsFit regs count block (Move d s)
move_fits regs count block d s low low' = record {
  ranges = tt;
  reads_exist = one_of regs s low';
  writes_exist = one_of regs d low;
  targets_exist = λ to c. absurd (let l = c.1 in let bad : ⊥ = omega (arith, l) in bad);
  params = λ e. absurd (false≢true e);
  data_taken = λ e. absurd (false≢true e);
}

module _ (f g : MFunction) (formed : IsWellFormed f) (low : IsLowered f g) where
  abbrev n : ℕ
  n = length f.blocks

  abbrev count : ℕ
  count = length g.blocks

  abbrev regs : ℕ
  regs = f.regs + 1

  counted : count ≡ n + length low.edges
  counted = ap length low.are ∙ length-append low.blocks low.edges ∙ ap (λ (k : ℕ). k + length low.edges) low.count

  exist : (block : ℕ) → Exist f.regs (block_of f block)
  exist block place inst at = let p = formed.placed block place inst at in (p.reads_exist, p.writes_exist)

  -- the moves of an edge
  moves_fit : (from to block : ℕ) (ms : List MInst) → IsEdge f from to ms → AreFit regs count block ms
  moves_fit from to block ms edge = all_moves ms edge.only
    where
      copies : Within f.regs (copies_on from (block_of f to))
      copies = copies_within f.regs from (block_of f to) (exist to)

      above : (x : ℕ) → x < f.regs → x < regs
      above x h = omega (arith, h)

      written_by : (d : ℕ) → (d ≡ f.regs) ⊎ Contains (written (copies_on from (block_of f to))) d → d < regs
      written_by d (inl e) = omega (arith, e)
      written_by d (inr c) = above d (written_low f.regs (copies_on from (block_of f to)) copies d c)

      read_by : (s : ℕ) → (s ≡ f.regs) ⊎ Contains (written (copies_on from (block_of f to))) s ⊎ Contains (read (copies_on from (block_of f to))) s → s < regs
      read_by s (inl e) = omega (arith, e)
      read_by s (inr (inl c)) = above s (written_low f.regs (copies_on from (block_of f to)) copies s c)
      read_by s (inr (inr c)) = above s (read_low f.regs (copies_on from (block_of f to)) copies s c)

      all_moves : (ms : List MInst) → ((inst : MInst) → Contains ms inst → IsMoveOf f.regs (copies_on from (block_of f to)) inst) → AreFit regs count block ms
      all_moves [] h = tt
      all_moves (m ∷ ms) h =
          let one = h m (first_of m ms) in (
            subst (IsFit regs count block) (sym one.2) (move_fits regs count block one.0 one.1 (written_by one.0 one.3) (read_by one.1 one.4)),
            all_moves ms (λ inst c. h inst (behind_of m inst ms c)),
          )

  moves_plain : (ms : List MInst) → AreMoves ms → ArePlain ms
  moves_plain [] h = tt
  moves_plain (m ∷ ms) ((d, s, is), h) = (rw is refl, moves_plain ms h)

  more_blocks : (to : ℕ) → (0 < to) × (to < n) → (0 < to) × (to < count)
  more_blocks to (above, low') = let all = counted in (above, omega (arith, low', all))

  side_inside : (from to to' : ℕ) → (0 < to) × (to < n) → Side f low.edges from to to' → (0 < to') × (to' < count)
  side_inside from to to' inside (direct edge) = more_blocks to inside
  side_inside from to to' inside (through ms place edge long at) =
      let there : place < length low.edges = slice_get_within low.edges place (ms ++ Jump to ∷ []) at in
      let all = counted in let low' = inside.1 in
      (omega (arith, low'), omega (arith, there, all))

  -- an instruction of f among blocks of g
  stays_fit : (block : ℕ) (inst : MInst) → IsFit f.regs n block inst → IsFit regs count block inst
  stays_fit block inst h = record {
    ranges = h.ranges;
    reads_exist = λ r c. let l = h.reads_exist r c in omega (arith, l);
    writes_exist = λ r c. let l = h.writes_exist r c in omega (arith, l);
    targets_exist = λ to c. more_blocks to (h.targets_exist to c);
    params = h.params;
    data_taken = h.data_taken;
  }

  branch_fits : (block : ℕ) (op : BranchOp) (a b t e t' e' : ℕ) → IsFit f.regs n block (Branch op a b t e) → Side f low.edges block t t' → Side f low.edges block e e'
      → IsFit regs count block (Branch op a b t' e')
  branch_fits block op a b t e t' e' h side side' = record {
    ranges = tt;
    reads_exist = λ r c. let l = h.reads_exist r c in omega (arith, l);
    writes_exist = λ r c. absurd (let l = c.1 in let bad : ⊥ = omega (arith, l) in bad);
    targets_exist = two t' e' (side_inside block t t' (h.targets_exist t (first_of t (e ∷ []))) side) (side_inside block e e' (h.targets_exist e (behind_of t e (e ∷ []) (first_of e []))) side');
    params = λ k. absurd (false≢true k);
    data_taken = λ k. absurd (false≢true k);
  }
    where
      two : (x y : ℕ) → (0 < x) × (x < count) → (0 < y) × (y < count) → (z : ℕ) → Contains (x ∷ y ∷ []) z → (0 < z) × (z < count)
      two x y i j z (zero, l, is) = subst (λ (w : ℕ). (0 < w) × (w < count)) is i
      two x y i j z (suc zero, l, is) = subst (λ (w : ℕ). (0 < w) × (w < count)) is j
      two x y i j z (suc (suc k), l, is) = absurd (let bad : ⊥ = omega (arith, l) in bad)

  piece_fits : (block : ℕ) (inst : MInst) (piece : List MInst) → Piece f low.edges block inst piece → IsFit f.regs n block inst → AreFit regs count block piece × ArePlain piece
  piece_fits block inst piece (stays i t p) h = ((stays_fit block inst h, tt), (p, tt))
  piece_fits block inst piece (jumps to ms edge) h = (
    both_fit regs count block ms (Jump to ∷ []) (moves_fit block to block ms edge) (jump_fits regs count block to (more_blocks to (h.targets_exist to (first_of to []))), tt),
    both_plain ms (Jump to ∷ []) (moves_plain ms (are_moves f block to ms edge.only)) (refl, tt),
  )
  piece_fits block inst piece (branches op a b t e t' e' side side') h = ((branch_fits block op a b t e t' e' h side side', tt), (refl, tt))

  pieces_fit : (block : ℕ) (insts made : List MInst) → Pieces f low.edges block insts made → AreFit f.regs n block insts → AreFit regs count block made × ArePlain made
  pieces_fit block insts made none h = (tt, tt)
  pieces_fit block insts made (more {insts = is} {others = os} i p one m) h =
      let a = piece_fits block i p one h.0 in let b = pieces_fit block is os m h.1 in
      (both_fit regs count block p os a.0 b.0, both_plain p os a.1 b.1)

  nothing_left : (block : ℕ) (made : List MInst) → Pieces f low.edges block [] made → made ≡ []
  nothing_left block made none = refl

  piece_finishes : (block : ℕ) (i : MInst) (piece : List MInst) → Piece f low.edges block i piece → (is os : List MInst) → Finishes (i ∷ is) → (is ≡ [] → os ≡ []) → (Finishes is → Finishes os)
      → Finishes (piece ++ os)
  piece_finishes block i piece (stays j t p) is os (only k e) empty rest = rw (empty refl) (only j e)
  piece_finishes block i piece (stays j t p) is os (later k e h) empty rest = later j e (rest h)
  piece_finishes block i piece (jumps to ms edge) is os (only k e) empty rest =
      rw (empty refl) (rw (append-nil (ms ++ Jump to ∷ [])) (moves_finish ms (are_moves f block to ms edge.only) to))
  piece_finishes block i piece (jumps to ms edge) is os (later k e h) empty rest = absurd (false≢true (sym e))
  piece_finishes block i piece (branches op a b t e' t' e'' side side') is os (only k e) empty rest = rw (empty refl) (only (Branch op a b t' e'') refl)
  piece_finishes block i piece (branches op a b t e' t' e'' side side') is os (later k e h) empty rest = absurd (false≢true (sym e))

  pieces_finish : (block : ℕ) (insts made : List MInst) → Pieces f low.edges block insts made → Finishes insts → Finishes made
  pieces_finish block insts made none h = by_list insts h refl
    where
      by_list : (insts : List MInst) → Finishes insts → insts ≡ [] → Finishes []
      by_list insts (only i e) same = absurd (let bad : ⊥ = cc in bad)
      by_list insts (later i e h) same = absurd (let bad : ⊥ = cc in bad)
  pieces_finish block insts made (more {insts = is} {others = os} i p one m) h =
      piece_finishes block i p one is os h (λ e. nothing_left block os (subst (λ (l : List MInst). Pieces f low.edges block l os) e m)) (pieces_finish block is os m)

  -- parameters stay where they are
  piece_no_params : (block : ℕ) (i : MInst) (piece : List MInst) → Piece f low.edges block i piece → is_param i ≡ false → NoParams piece
  piece_no_params block i piece (stays j t p) h = (h, tt)
  piece_no_params block i piece (jumps to ms edge) h = no_params_both ms (Jump to ∷ []) (no_params_moves ms (are_moves f block to ms edge.only)) (refl, tt)
  piece_no_params block i piece (branches op a b t e t' e' side side') h = (refl, tt)

  pieces_no_params : (block : ℕ) (insts made : List MInst) → Pieces f low.edges block insts made → NoParams insts → NoParams made
  pieces_no_params block insts made none h = tt
  pieces_no_params block insts made (more {insts = is} {others = os} i p one m) h = no_params_both p os (piece_no_params block i p one h.0) (pieces_no_params block is os m h.1)

  piece_param : (block : ℕ) (i : MInst) (piece : List MInst) → Piece f low.edges block i piece → is_param i ≡ true → (os : List MInst) → ParamsFirst os → ParamsFirst (piece ++ os)
  piece_param block i piece (stays j t p) e os h = param j e h
  piece_param block i piece (jumps to ms edge) e os h = absurd (false≢true e)
  piece_param block i piece (branches op a b t e' t' e'' side side') e os h = absurd (false≢true e)

  pieces_params : (block : ℕ) (insts made : List MInst) → Pieces f low.edges block insts made → ParamsFirst insts → ParamsFirst made
  pieces_params block insts made m (no_more h) = no_more (pieces_no_params block insts made m h)
  pieces_params block insts made (more {insts = is} {others = os} i p one m) (param j e h) = piece_param block i p one e os (pieces_params block is os m h)

  -- ---- the blocks of g

  record IsGood (block : ℕ) (insts : List MInst) : Type 0 where
    fit : AreFit regs count block insts
    plainly : ArePlain insts
    finish : Finishes insts
    params : ParamsFirst insts

  fit_of : (block place : ℕ) (inst : MInst) → inst_at f block place ≡ Some inst → IsFit f.regs n block inst
  fit_of block place inst at =
      let p = formed.placed block place inst at in
      record {
        ranges = p.ranges;
        reads_exist = p.reads_exist;
        writes_exist = p.writes_exist;
        targets_exist = p.targets_exist;
        params = λ e. (p.params e).0;
        data_taken = p.data_taken;
      }

  front_good : (block : ℕ) → block < n → IsGood block (slice_index_or low.blocks block [])
  front_good block inside =
      let insts = block_of f block in
      let made = slice_index_or low.blocks block [] in
      let pieces = low.pieces block inside in
      let fits : AreFit f.regs n block (behind_phis insts) = behind_fit f.regs n block insts (all_fit f.regs n block insts (λ place inst at. fit_of block place inst at)) in
      let done = pieces_fit block (behind_phis insts) made pieces fits in
      record {
        fit = done.0;
        plainly = done.1;
        finish = pieces_finish block (behind_phis insts) made pieces
            (behind_finishes insts (finishes insts (formed.blocks_end block inside) (λ place inst at. (formed.placed block place inst at).ends)));
        params = pieces_params block (behind_phis insts) made pieces
            (behind_first insts (params_first insts (λ place inst at is earlier other low' at'. ((formed.placed block place inst at).params is).1 earlier other low' at')));
      }

  edge_good : (block : ℕ) (insts : List MInst) → IsEdgeBlock f insts → IsGood block insts
  edge_good block insts e =
      let ms = are_moves f e.from e.to e.moves e.edge.only in
      subst (IsGood block) (sym e.is)
      (record {
        fit = both_fit regs count block e.moves (Jump e.to ∷ []) (moves_fit e.from e.to block e.moves e.edge) (jump_fits regs count block e.to (more_blocks e.to e.inside), tt);
        plainly = both_plain e.moves (Jump e.to ∷ []) (moves_plain e.moves ms) (refl, tt);
        finish = moves_finish e.moves ms e.to;
        params = no_more (no_params_both e.moves (Jump e.to ∷ []) (no_params_moves e.moves ms) (refl, tt));
      })

  good : (block : ℕ) → block < count → IsGood block (block_of g block)
  good block inside = by_side (nat_lt block n) refl
    where
      by_side : (b : Bool) → nat_lt block n ≡ b → IsGood block (block_of g block)
      by_side true e =
          let low' : block < n = grind arith in
          let same : block_of g block ≡ slice_index_or low.blocks block [] = rw low.are (get_or_append_left low.blocks low.edges [] block (rw low.count low')) in
          subst (IsGood block) (sym same) (front_good block low')
      by_side false e =
          let high : n ≤ block = grind arith in
          let all = counted in
          let there : block - n < length low.edges = omega (arith, inside, all, high) in
          let is : slice_get low.edges (block - n) ≡ Some (slice_index_or low.edges (block - n) []) = slice_get-get_or low.edges (block - n) [] there in
          let back : n + (block - n) ≡ block = omega (arith, high) in
          let same : block_of g block ≡ slice_index_or low.edges (block - n) [] =
          rw low.are (subst (λ (k : ℕ). slice_index_or (low.blocks ++ low.edges) k [] ≡ slice_index_or low.edges (block - n) []) back
          (subst (λ (m : ℕ). slice_index_or (low.blocks ++ low.edges) (m + (block - n)) [] ≡ slice_index_or low.edges (block - n) []) low.count
          (get_or-append-add low.blocks low.edges (block - n) []))) in
          subst (IsGood block) (sym same) (edge_good block (slice_index_or low.edges (block - n) []) (low.edge_blocks (block - n) (slice_index_or low.edges (block - n) []) is))

  -- an instruction stands in a block that is there
  block_inside : (block place : ℕ) (inst : MInst) → inst_at g block place ≡ Some inst → block < count
  block_inside block place inst at = by_side (nat_lt block count) refl
    where
      by_side : (b : Bool) → nat_lt block count ≡ b → block < count
      by_side true e = grind arith
      by_side false e =
          let high : count ≤ block = grind arith in
          let empty : block_of g block ≡ [] = get_or_past g.blocks block [] high in
          absurd (let none' : slice_get {X = MInst} [] place ≡ Some inst = rw empty at at in let bad : ⊥ = cc in bad)

  pub well_formed : IsWellFormed g
  well_formed = record {
    blocks_end = λ block inside. some (block_of g block) (good block inside).finish;
    placed = λ block place inst at.
        let h = good block (block_inside block place inst at) in
        let fit = fit_at regs count block (block_of g block) h.fit place inst at in
        let plain = plain_at (block_of g block) h.plainly place inst at in
        record {
          ranges = fit.ranges;
          reads_exist = λ r c. rw low.regs (fit.reads_exist r c);
          writes_exist = λ r c. rw low.regs (fit.writes_exist r c);
          targets_exist = fit.targets_exist;
          ends = ended (block_of g block) h.finish place inst at;
          params = λ e. (fit.params e, first (block_of g block) h.params place inst at e);
          data_taken = fit.data_taken;
          phis = λ e. absurd (false≢true (sym plain ∙ e));
          phi_sources = λ e. absurd (false≢true (sym plain ∙ e));
          phi_once = λ j k less inside. absurd (let none' : length (sources inst) ≡ 0 = ap length (sources_none inst plain) in let bad : ⊥ = omega (arith, inside, none') in bad);
        };
  }

  pub has_no_phi : HasNoPhi g
  has_no_phi block place inst at = plain_at (block_of g block) (good block (block_inside block place inst at)).plainly place inst at
