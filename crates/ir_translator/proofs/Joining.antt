-- Blocks with their heads, one after another.
use Rattle.std.proofs.Common.{◌≡◌, refl, sym, ap, ap₂, ◌∙◌, ℕ, zero, suc, ◌+◌, ◌<◌, ◌≤◌, List, [], ◌∷◌, ◌++◌, length, drop, get_or, arith}
use Rattle.std.specs.Prelude.{◌==◌, slice_index_or, slice_set, if◌then◌else◌}
use Rattle.std.proofs.Math.Seq.{drop-cons}
use Rattle.std.proofs.lemmas.List.{append-nil, append_assoc, drop_all, drop-set-lt}
use Rattle.std.proofs.lemmas.Option.{slice_get_read}
use Rattle.ir_core.specs.declared.code.Inst.{Inst}
use Rattle.ir_core.specs.declared.code.Block.{Block}
use Rattle.ir_core.specs.declared.program.Function.{Function}
use Rattle.ir_core.specs.declared.program.Global.{Global}
use Rattle.ir_core.specs.Units.{results}
use Rattle.ir_meaning.specs.Step.{phis}
use Rattle.gmir.specs.declared.code.GInst.{GInst}
use Rattle.generic_code.specs.Edges.{Edge}
use Rattle.generic_code.specs.Whole.{Body, body_of, bodies_from, blocks_code, params_code, phis_code, edges_to}
use Rattle.ir_translator.specs.Groups.{AreGroups, picked}
use Rattle.ir_translator.specs.Joined.{joined}
use Rattle.ir_translator.specs.Laid.{codes_of}

next : {A : Type 0} (xs : List A) (i : ℕ) (d : A) → i < length xs → drop i xs ≡ get_or xs i d ∷ drop (i + 1) xs
next xs i d lt = drop-cons xs i d lt ∙ ap (λ (n : ℕ). get_or xs i d ∷ drop n xs) (let one : suc i ≡ i + 1 = omega arith in one)

drop-one : {A : Type 0} (i : ℕ) (xs : List A) → drop 1 (drop i xs) ≡ drop (i + 1) xs
drop-one zero xs = refl
drop-one (suc i) [] = sym (drop_all (suc i + 1) [] (omega arith))
drop-one (suc i) (x ∷ xs) = drop-one i xs ∙ ap (λ (n : ℕ). drop n (x ∷ xs)) (let one : suc (i + 1) ≡ suc i + 1 = omega arith in one)

-- the codes that are left when one is taken out
pub left-next : (left all : List (List GInst)) (i : ℕ) → drop i left ≡ drop i all → drop (i + 1) (slice_set left i []) ≡ drop (i + 1) all
left-next left all i h = drop-set-lt (i + 1) left i [] (omega arith) ∙ sym (drop-one i left) ∙ ap (drop 1) h ∙ drop-one i all

-- the edges of a block are picked by its row
pub row-picked : (globals : List Global) (function : Function) (edges : List Edge) (groups : List (List ℕ)) (i : ℕ) (row : List ℕ) → i < length groups → row ≡ get_or groups i row → AreGroups globals function edges groups
    → picked edges row ≡ edges_to globals function i edges
row-picked globals function edges groups i row lt is h = h i row (slice_get_read groups (length groups) i row refl lt is)

module _ (globals : List Global) (function : Function) (edges : List Edge) where
  pub joined-next : (all new total left codes : List (List GInst)) (value i : ℕ) (blocks : List Block) (block : Block) (insts heads : List Inst) (before phis-put whole code : List GInst) (row : List ℕ)
      → i < length blocks → i < length left → block ≡ get_or blocks i block → insts ≡ block.insts → heads ≡ phis insts → picked edges row ≡ edges_to globals function i edges
      → drop i left ≡ drop i codes
      → before ≡ (if i == 0 then params_code 0 function.params else [])
      → phis-put ≡ before ++ phis_code globals function value 0 (picked edges row) heads
      → code ≡ slice_index_or left i [] → whole ≡ phis-put ++ code → new ≡ all ++ whole ∷ []
      → all ++ joined globals function edges i value (drop i blocks) (drop i codes) ≡ total
      → new ++ joined globals function edges (i + 1) (value + results insts) (drop (i + 1) blocks) (drop (i + 1) codes) ≡ total
  joined-next all new total left codes value i blocks block insts heads before phis-put whole code row lt low is same-insts same-heads same-row same-left b p k w n h =
      let first : List GInst = (if i == 0 then params_code 0 function.params else []) in
      let middle : List GInst = phis_code globals function value 0 (edges_to globals function i edges) (phis block.insts) in
      let last : List GInst = get_or left i [] in
      let rest : List (List GInst) = joined globals function edges (i + 1) (value + results block.insts) (drop (i + 1) blocks) (drop (i + 1) codes) in
      let codes-are : drop i codes ≡ last ∷ drop (i + 1) codes =
      sym same-left ∙ next left i [] low ∙ ap (λ (xs : List (List GInst)). last ∷ xs) (sym (drop-one i left) ∙ ap (drop 1) same-left ∙ drop-one i codes) in
      let blocks-are : drop i blocks ≡ block ∷ drop (i + 1) blocks = next blocks i block lt ∙ ap (λ (x : Block). x ∷ drop (i + 1) blocks) (sym is) in
      let put-is : phis-put ≡ first ++ middle =
      p ∙ ap₂ (λ (x : List GInst) (y : List Edge). x ++ phis_code globals function value 0 y heads) b same-row
      ∙ ap (λ (xs : List Inst). first ++ phis_code globals function value 0 (edges_to globals function i edges) xs) (same-heads ∙ ap phis same-insts) in
      let whole-is : whole ≡ first ++ (middle ++ last) = w ∙ ap₂ (λ (x y : List GInst). x ++ y) put-is k ∙ append_assoc first middle last in
      ap₂ (λ (x : List (List GInst)) (y : List Inst). x ++ joined globals function edges (i + 1) (value + results y) (drop (i + 1) blocks) (drop (i + 1) codes)) n same-insts
      ∙ append_assoc all (whole ∷ []) rest
      ∙ ap (λ (x : List GInst). all ++ x ∷ rest) whole-is
      ∙ ap₂ (λ (x : List Block) (y : List (List GInst)). all ++ joined globals function edges i value x y) (sym blocks-are) (sym codes-are)
      ∙ h

  pub joined-end : (all total codes : List (List GInst)) (value i : ℕ) (blocks : List Block) → length blocks ≤ i
      → all ++ joined globals function edges i value (drop i blocks) (drop i codes) ≡ total → all ≡ total
  joined-end all total codes value i blocks le h =
      sym (append-nil all) ∙ ap (λ (bs : List Block). all ++ joined globals function edges i value bs (drop i codes)) (sym (drop_all i blocks le)) ∙ h

  -- these are the blocks of the definition
  pub joined-is : (number value next own : ℕ) (blocks : List Block) → joined globals function edges number value blocks (codes_of (bodies_from globals function number value next own blocks)) ≡ blocks_code globals function edges number (bodies_from globals function number value next own blocks)
  joined-is number value next own [] = refl
  joined-is number value next own (block ∷ blocks) =
      let body : Body = body_of globals function number value next own block.insts in
      ap (λ (xs : List (List GInst)). ((if number == 0 then params_code 0 function.params else []) ++ (phis_code globals function value 0 (edges_to globals function number edges) (phis block.insts) ++ body.ending.code)) ∷ xs)
      (joined-is (number + 1) (value + results block.insts) (next + length body.ending.types) (own + length body.ending.later) blocks)

pub codes-many : (globals : List Global) (function : Function) (number value next own : ℕ) (blocks : List Block) → length (codes_of (bodies_from globals function number value next own blocks)) ≡ length blocks
codes-many globals function number value next own [] = refl
codes-many globals function number value next own (block ∷ blocks) =
    let body : Body = body_of globals function number value next own block.insts in
    ap suc (codes-many globals function (number + 1) (value + results block.insts) (next + length body.ending.types) (own + length body.ending.later) blocks)
