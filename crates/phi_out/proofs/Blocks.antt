-- The instructions behind the phis of a block, and how the lists of blocks grow.
use Rattle.std.proofs.Common.{◌≡◌, ◌⊎◌, inl, inr, ◌≤◌, ◌<◌, ℕ, zero, suc, ◌+◌, Bool, true, false, List, [], ◌∷◌, ◌++◌, length, take, Some, refl, sym, subst, ap, arith, ◌∙◌}
use Rattle.std.specs.Prelude.{slice_get, slice_index_or, sum_by}
use Rattle.std.specs.List.{Contains}
use Rattle.std.proofs.lemmas.Bool.{false≢true}
use Rattle.std.proofs.lemmas.List.{length-append}
use Rattle.std.proofs.lemmas.List.Sums.{sum_by-cons, sum_by-append}
use Rattle.mir.specs.declared.code.MInst.{MInst}
use Rattle.mir.specs.declared.code.MInst.TheVariants.{Phi}
use Rattle.mir.specs.declared.code.MFunction.{MFunction}
use Rattle.mir.specs.Code.{targets, block_of}
use Rattle.mir.specs.WellFormed.{is_phi, IsWellFormed}
use Rattle.mir_play.specs.Play.{behind_phis}
use Rattle.mir_play.specs.Refines.{static_of_block}
use Rattle.phi_out.specs.Lowered.{Pieces, IsEdgeBlock, IsLowered, inst_cost, block_cost}
use Rattle.phi_out.specs.Lowering.{edges_of, edge_count, AreEdgeBlocks, PutsPieces, PutsBlocks}
use Rattle.phi_out.proofs.Placing.{IsFine, AreFine, block_fine}
use Rattle.phi_out.proofs.Formed.{ArePlain, plain_at}
use Rattle.phi_out.proofs.Making.{pieces_stay}

-- phis stand first
abbrev PhisFirst : List MInst → Type 0
PhisFirst insts = (place : ℕ) (inst : MInst) → slice_get insts place ≡ Some inst → is_phi inst ≡ true → (earlier : ℕ) (other : MInst) → earlier < place → slice_get insts earlier ≡ Some other → is_phi other ≡ true

all_plain : (insts : List MInst) → ((place : ℕ) (inst : MInst) → slice_get insts place ≡ Some inst → is_phi inst ≡ false) → ArePlain insts
all_plain [] h = tt
all_plain (i ∷ insts) h = (h 0 i refl, all_plain insts (λ place inst at. h (suc place) inst at))

never : (i : MInst) (insts : List MInst) → is_phi i ≡ false → PhisFirst (i ∷ insts) → (place : ℕ) (inst : MInst) → slice_get (i ∷ insts) place ≡ Some inst → (b : Bool) → is_phi inst ≡ b → is_phi inst ≡ false
never i insts e h place inst at false is = is
never i insts e h zero inst at true is = let same : i ≡ inst = cc in subst (λ (j : MInst). is_phi j ≡ false) same e
never i insts e h (suc place) inst at true is = absurd (false≢true (sym e ∙ h (suc place) inst at is 0 i (omega arith) refl))

plain_behind : (insts : List MInst) → PhisFirst insts → ArePlain (behind_phis insts)
plain_behind [] h = tt
plain_behind (Phi d pairs ∷ insts) h = plain_behind insts (λ place inst at is earlier other low at'. h (suc place) inst at is (suc earlier) other (omega (arith, low)) at')
plain_behind (i ∷ insts) h = all_plain (i ∷ insts) (λ place inst at. never i insts refl h place inst at (is_phi inst) refl)

fine_get : (f : MFunction) (block : ℕ) (insts : List MInst) → AreFine f block insts → (place : ℕ) (inst : MInst) → slice_get insts place ≡ Some inst → IsFine f block inst
fine_get f block [] h place inst at = absurd (let bad : ⊥ = cc in bad)
fine_get f block (i ∷ insts) h zero inst at = let same : i ≡ inst = cc in subst (IsFine f block) same h.0
fine_get f block (i ∷ insts) h (suc place) inst at = fine_get f block insts h.1 place inst at

edges_behind : (insts : List MInst) → edges_of (behind_phis insts) ≤ edges_of insts
edges_behind [] = omega arith
edges_behind (Phi d pairs ∷ insts) = let rest = edges_behind insts in let one = sum_by-cons (λ inst. length (targets inst)) (Phi d pairs) insts in omega (arith, rest, one)
edges_behind (i ∷ insts) = omega arith

cost_behind : (f : MFunction) (insts : List MInst) → block_cost f (behind_phis insts) ≤ block_cost f insts
cost_behind f [] = omega arith
cost_behind f (Phi d pairs ∷ insts) = let rest = cost_behind f insts in let one = sum_by-cons (inst_cost f) (Phi d pairs) insts in omega (arith, rest, one)
cost_behind f (i ∷ insts) = omega arith

taken_sum : {A : Type 0} (w : A → ℕ) (xs : List A) (k : ℕ) (x : A) → slice_get xs k ≡ Some x → sum_by w (take k xs) + w x ≤ sum_by w xs
taken_sum w [] k x e = absurd (let bad : ⊥ = cc in bad)
taken_sum w (y ∷ ys) zero x e = let same : y ≡ x = cc in let one = sum_by-cons w y ys in rw (sym same) (omega (arith, one))
taken_sum w (y ∷ ys) (suc k) x e =
    let rest = taken_sum w ys k x e in let one = sum_by-cons w y ys in let other = sum_by-cons w y (take k ys) in omega (arith, rest, one, other)

take_next : {A : Type 0} (xs : List A) (k : ℕ) (x : A) → slice_get xs k ≡ Some x → take (suc k) xs ≡ take k xs ++ x ∷ []
take_next [] k x e = absurd (let bad : ⊥ = cc in bad)
take_next (y ∷ ys) zero x e = let same : y ≡ x = cc in rw same refl
take_next (y ∷ ys) (suc k) x e = ap (λ (l : List _). y ∷ l) (take_next ys k x e)

pub take_last : {A : Type 0} (xs : List A) (k : ℕ) (x : A) → slice_get xs k ≡ Some x → take (k + 1) xs ≡ take k xs ++ x ∷ []
take_last xs k x e = let same : suc k ≡ k + 1 = omega arith in subst (λ (n : ℕ). take n xs ≡ take k xs ++ x ∷ []) same (take_next xs k x e)

-- an item that a loop reads
pub read_at : {A : Type 0} (xs : List A) (k : ℕ) (x : A) → k < length xs → x ≡ slice_index_or xs k x → slice_get xs k ≡ Some x
read_at [] k x low e = absurd (let bad : ⊥ = omega (arith, low) in bad)
read_at (y ∷ ys) zero x low e = ap Some (sym e)
read_at (y ∷ ys) (suc k) x low e = read_at ys k x (omega (arith, low)) e

-- an instruction behind the phis of a block of a well formed function
module _ (f : MFunction) (formed : IsWellFormed f) (block place : ℕ) (inst : MInst) (at : slice_get (behind_phis (block_of f block)) place ≡ Some inst) where
  pub not_phi : is_phi inst ≡ false
  not_phi =
      plain_at (behind_phis (block_of f block))
      (plain_behind (block_of f block) (λ p i e is earlier other low e'. ((formed.placed block p i e).phis is).1 earlier other low e')) place inst at

  pub inside : (to : ℕ) → Contains (targets inst) to → (0 < to) × (to < length f.blocks)
  inside to c = ((fine_get f block (behind_phis (block_of f block)) (block_fine f formed block) place inst at).edges to c).target

  pub few_edges : (old new : List (List MInst)) (made : List MInst) → PutsPieces f block (take place (behind_phis (block_of f block))) old new made → (limit : ℕ)
      → length f.blocks + length old + edges_of (block_of f block) < limit → length f.blocks + length new + length (targets inst) < limit
  few_edges old new made h limit low =
      let few = h.grows.few in
      let long : length new ≡ length old + length h.grows.rest = ap length h.grows.grown ∙ length-append old h.grows.rest in
      let taken = taken_sum (λ i. length (targets i)) (behind_phis (block_of f block)) place inst at in
      let behind = edges_behind (block_of f block) in
      omega (arith, few, long, taken, behind, low)

-- ---- blocks

both_edges : (f : MFunction) (xs ys : List (List MInst)) → AreEdgeBlocks f xs → AreEdgeBlocks f ys → AreEdgeBlocks f (xs ++ ys)
both_edges f [] ys h k = k
both_edges f (x ∷ xs) ys h k = (h.0, both_edges f xs ys h.1 k)

pub puts_no_blocks : (f : MFunction) → PutsBlocks f 0 [] []
puts_no_blocks f = record { size = refl; lowered = λ block low. absurd (let bad : ⊥ = omega (arith, low) in bad); edge_blocks = tt; few = omega arith; weighs = omega arith }

pub puts_next_block : (f : MFunction) (count : ℕ) (edges edges' blocks : List (List MInst)) (made : List MInst) → count < length f.blocks → PutsBlocks f count edges blocks
    → PutsPieces f count (behind_phis (block_of f count)) edges edges' made → PutsBlocks f (count + 1) edges' (blocks ++ made ∷ [])
puts_next_block f count edges edges' blocks made inside h k =
    let at : slice_get f.blocks count ≡ Some (block_of f count) = there f.blocks count inside in
    let taken = take_last f.blocks count (block_of f count) at in
    let low = h.weighs in let low' = k.weighs in let low'' = k.grows.weighs in
    let few = h.few in let few' = k.grows.few in
    let size = h.size in
    let long = length-append blocks (made ∷ []) in
    let grown = k.grows.grown in
    let long' : length edges' ≡ length edges + length k.grows.rest = ap length grown ∙ length-append edges k.grows.rest in
    let sums = sum_by-append static_of_block blocks (made ∷ []) in
    let sums' = sum_by-cons static_of_block made [] in
    let sums'' : sum_by static_of_block edges' ≡ sum_by static_of_block edges + sum_by static_of_block k.grows.rest = ap (sum_by static_of_block) grown ∙ sum_by-append static_of_block edges k.grows.rest in
    let plain = ap (sum_by (λ insts. static_of_block (behind_phis insts))) taken ∙ sum_by-append (λ insts. static_of_block (behind_phis insts)) (take count f.blocks) (block_of f count ∷ []) in
    let plain' = sum_by-cons (λ insts. static_of_block (behind_phis insts)) (block_of f count) [] in
    let cost = ap (sum_by (block_cost f)) taken ∙ sum_by-append (block_cost f) (take count f.blocks) (block_of f count ∷ []) in
    let cost' = sum_by-cons (block_cost f) (block_of f count) [] in
    let cost'' = cost_behind f (block_of f count) in
    let edges_sum = ap (sum_by edges_of) taken ∙ sum_by-append edges_of (take count f.blocks) (block_of f count ∷ []) in
    let edges_sum' = sum_by-cons edges_of (block_of f count) [] in
    let edges_sum'' = edges_behind (block_of f count) in
    record {
      size = omega (arith, size, long);
      lowered = λ block below. by_place block (earlier_or_here block count below);
      edge_blocks = subst (AreEdgeBlocks f) (sym grown) (both_edges f edges k.grows.rest h.edge_blocks k.grows.blocks);
      few = omega (arith, few, few', long', edges_sum, edges_sum', edges_sum'');
      weighs = omega (arith, low, low', low'', sums, sums', sums'', plain, plain', cost, cost', cost'');
    }
  where
    there : (xs : List (List MInst)) (i : ℕ) → i < length xs → slice_get xs i ≡ Some (slice_index_or xs i [])
    there [] i low = absurd (let bad : ⊥ = omega (arith, low) in bad)
    there (x ∷ xs) zero low = refl
    there (x ∷ xs) (suc i) low = there xs i (omega (arith, low))

    earlier_or_here : (j i : ℕ) → j < i + 1 → (j < i) ⊎ (j ≡ i)
    earlier_or_here j i h = grind arith

    in_front : (xs : List (List MInst)) (x : List MInst) (i : ℕ) → i < length xs → slice_index_or (xs ++ x ∷ []) i [] ≡ slice_index_or xs i []
    in_front [] x i low = absurd (let bad : ⊥ = omega (arith, low) in bad)
    in_front (y ∷ ys) x zero low = refl
    in_front (y ∷ ys) x (suc i) low = in_front ys x i (omega (arith, low))

    at_end : (xs : List (List MInst)) (x : List MInst) → slice_index_or (xs ++ x ∷ []) (length xs) [] ≡ x
    at_end [] x = refl
    at_end (y ∷ ys) x = at_end ys x

    by_place : (block : ℕ) → (block < count) ⊎ (block ≡ count) → Pieces f edges' block (behind_phis (block_of f block)) (slice_index_or (blocks ++ made ∷ []) block [])
    by_place block (inl below) =
        let low : block < length blocks = rw h.size below in
        rw (in_front blocks made block low) (rw k.grows.grown (pieces_stay f edges k.grows.rest block (behind_phis (block_of f block)) (slice_index_or blocks block []) (h.lowered block below)))
    by_place block (inr e) =
        subst (λ (b : ℕ). Pieces f edges' b (behind_phis (block_of f b)) (slice_index_or (blocks ++ made ∷ []) b [])) (sym e)
        (let end : slice_index_or (blocks ++ made ∷ []) count [] ≡ made = subst (λ (n : ℕ). slice_index_or (blocks ++ made ∷ []) n [] ≡ made) h.size (at_end blocks made) in
        rw end k.lowered)

take_all : {A : Type 0} (xs : List A) → take (length xs) xs ≡ xs
take_all [] = refl
take_all (x ∷ xs) = ap (λ (l : List _). x ∷ l) (take_all xs)

edge_at : (f : MFunction) (edges : List (List MInst)) → AreEdgeBlocks f edges → (place : ℕ) (insts : List MInst) → slice_get edges place ≡ Some insts → IsEdgeBlock f insts
edge_at f [] h place insts at = absurd (let bad : ⊥ = cc in bad)
edge_at f (e ∷ edges) h zero insts at = let same : e ≡ insts = cc in subst (IsEdgeBlock f) same h.0
edge_at f (e ∷ edges) h (suc place) insts at = edge_at f edges h.1 place insts at

pub is_lowered : (f g : MFunction) (edges blocks : List (List MInst)) (count : ℕ) → count ≡ length f.blocks → PutsBlocks f count edges blocks → g.blocks ≡ blocks ++ edges
    → g.symbol ≡ f.symbol → g.values ≡ f.values → g.end ≡ f.end → g.regs ≡ f.regs + 1 → IsLowered f g
is_lowered f g edges blocks count all h are symbol values end regs =
    let whole : take count f.blocks ≡ f.blocks = ap (λ (n : ℕ). take n f.blocks) all ∙ take_all f.blocks in
    record {
      blocks = blocks;
      edges = edges;
      are = are;
      count = h.size ∙ all;
      pieces = λ block low. h.lowered block (rw all low);
      edge_blocks = edge_at f edges h.edge_blocks;
      weighs = rw whole at h.weighs;
      symbol = symbol;
      values = values;
      end' = end;
      regs = regs;
    }

pub few_blocks : (f : MFunction) (edges blocks : List (List MInst)) (count : ℕ) → count ≡ length f.blocks → PutsBlocks f count edges blocks → length edges ≤ edge_count f
few_blocks f edges blocks count all h =
    let whole : take count f.blocks ≡ f.blocks = ap (λ (n : ℕ). take n f.blocks) all ∙ take_all f.blocks in
    rw whole at h.few

-- how many edges are there before a block
pub few_so_far : (f : MFunction) (count : ℕ) (edges blocks : List (List MInst)) (limit : ℕ) → count < length f.blocks → PutsBlocks f count edges blocks → length f.blocks + edge_count f < limit
    → length f.blocks + length edges + edges_of (block_of f count) < limit
few_so_far f count edges blocks limit inside h low =
    let few = h.few in
    let taken = taken_sum edges_of f.blocks count (block_of f count) (there f.blocks count inside) in
    omega (arith, few, taken, low)
  where
    there : (xs : List (List MInst)) (i : ℕ) → i < length xs → slice_get xs i ≡ Some (slice_index_or xs i [])
    there [] i low = absurd (let bad : ⊥ = omega (arith, low) in bad)
    there (x ∷ xs) zero low = refl
    there (x ∷ xs) (suc i) low = there xs i (omega (arith, low))

pub has_few_blocks : (f : MFunction) (edges blocks made : List (List MInst)) (count : ℕ) → count ≡ length f.blocks → PutsBlocks f count edges blocks → made ≡ blocks ++ edges
    → length made ≤ length f.blocks + edge_count f
has_few_blocks f edges blocks made count all h are =
    let few = few_blocks f edges blocks count all h in
    let size = h.size in
    let long : length made ≡ length blocks + length edges = ap length are ∙ length-append blocks edges in
    omega (arith, few, size, long, all)
