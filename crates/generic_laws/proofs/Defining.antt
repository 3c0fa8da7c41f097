-- A block of the code writes each value that its block of the function defines.
use Rattle.std.proofs.Common.{◌≡◌, refl, sym, ap, subst, ◌∙◌, ℕ, zero, suc, ◌+◌, ◌<◌, ◌≤◌, ◌⊎◌, inl, inr, Bool, true, false, cond, List, [], ◌∷◌, ◌++◌, length, get_or, Some, arith}
use Rattle.std.specs.Prelude.{slice_get, take, drop, ◌==◌, not, if◌then◌else◌}
use Rattle.std.proofs.lemmas.Bool.{and_parts, cases_lt}
use Rattle.std.proofs.lemmas.List.Sums.{sum_by-append}
use Rattle.ir_core.specs.Program.{Program}
use Rattle.ir_core.specs.Units.{instructions, results, has_result}
use Rattle.ir_core.specs.declared.code.Inst.{Inst}
use Rattle.ir_core.specs.declared.code.Block.{Block}
use Rattle.ir_core.specs.declared.program.Function.{Function}
use Rattle.ir_core.specs.declared.program.Global.{Global}
use Rattle.ir_flow.specs.Code.{is_phi}
use Rattle.ir_flow.specs.Flow.{Defines}
use Rattle.ir_flow.specs.Assigned.{first_values, firsts_of}
use Rattle.ir_meaning.specs.Step.{function_at, insts_of, insts_at, number_at}
use Rattle.ir_meaning.specs.Typed.{IsOp}
use Rattle.ir_verify.specs.Shapes.{has_no_phi}
use Rattle.ir_verify.specs.Verdict.{IsChecked}
use Rattle.ir_verify.proofs.Lists.{Every}
use Rattle.gmir.specs.declared.code.GInst.{GInst}
use Rattle.gmir.specs.declared.code.GFunction.{GFunction}
use Rattle.gmir.specs.Play as play
use Rattle.gmir.specs.Formed.{times, written}
use Rattle.generic_code.specs.Literals.{empty_pool}
use Rattle.generic_code.specs.Edges.{heads}
use Rattle.generic_code.specs.Whole.{insts_ending, params_code, phis_code, edges_to, translated}
use Rattle.generic_laws.proofs.Counts.{get_drop}
use Rattle.generic_laws.proofs.Paths.{ends_at}
use Rattle.generic_laws.proofs.Plays.{jump_ends}
use Rattle.generic_laws.proofs.Stands.{placed, all_edges, heads_count}
use Rattle.generic_laws.proofs.Blocks.{well, every_by}
use Rattle.generic_laws.proofs.Ended.{behind_shape}
use Rattle.generic_laws.proofs.Written.{results_split}
use Rattle.generic_laws.proofs.Scopes.{wrote}
use Rattle.generic_laws.proofs.Gives.{wrote_left, wrote_right, wrote_is}
use Rattle.generic_laws.proofs.Giving.{phis_wrote, insts_wrote}

-- the first value of a block, and of the next
pub firsts_are : (n : ℕ) (blocks : List Block) (k : ℕ) (x : Block) → slice_get blocks k ≡ Some x
    → (get_or (first_values n blocks) k 0 ≡ n + results (instructions (take k blocks))) × (get_or (first_values n blocks) (k + 1) 0 ≡ n + results (instructions (take k blocks)) + results x.insts)
firsts_are n [] k x e = absurd (let bad : ⊥ = cc in bad)
firsts_are n (y ∷ blocks) zero x e =
    let same : y ≡ x = cc in
    let none : results (instructions (take 0 (y ∷ blocks))) ≡ 0 = refl in
    (omega (arith, none), next_first blocks ∙ ap (λ (z : Block). n + results z.insts) same ∙ (let z : n + results x.insts ≡ n + results (instructions (take 0 (y ∷ blocks))) + results x.insts = omega (arith, none) in z))
  where
    next_first : (bs : List Block) → get_or (first_values (n + results y.insts) bs) 0 0 ≡ n + results y.insts
    next_first [] = refl
    next_first (b ∷ bs) = refl
firsts_are n (y ∷ blocks) (suc k) x e =
    let ih = firsts_are (n + results y.insts) blocks k x e in
    let sum = sum_by-append (λ (z : Inst). cond (has_result z) 1 0) y.insts (instructions (take k blocks)) in
    let is : n + results y.insts + results (instructions (take k blocks)) ≡ n + results (instructions (take (suc k) (y ∷ blocks))) = omega (arith, sum) in
    (ih.0 ∙ is, ap (λ (m : ℕ). get_or (first_values n (y ∷ blocks)) m 0) (let z : suc k + 1 ≡ suc (k + 1) = omega arith in z) ∙ ih.1 ∙ ap (λ (m : ℕ). m + results x.insts) is)

no_phi_at : (insts : List Inst) → has_no_phi insts ≡ true → (k : ℕ) (inst : Inst) → slice_get insts k ≡ Some inst → is_phi inst.op ≡ false
no_phi_at [] h k inst e = absurd (let bad : ⊥ = cc in bad)
no_phi_at (x ∷ xs) h zero inst e =
    let same : x ≡ inst = cc in subst (λ (z : Inst). is_phi z.op ≡ false) same (turn (is_phi x.op) (and_parts (not (is_phi x.op)) (has_no_phi xs) h).0)
  where
    turn : (b : Bool) → not b ≡ true → b ≡ false
    turn true e = absurd (let bad : ⊥ = cc in bad)
    turn false e = refl
no_phi_at (x ∷ xs) h (suc k) inst e = no_phi_at xs (and_parts (not (is_phi x.op)) (has_no_phi xs) h).1 k inst e

module _ (program : Program) (checked : IsChecked program) (symbol : ℕ) (function : Function) (there : function_at program symbol ≡ Some function) where
  abbrev gl : List Global
  gl = program.module_.globals

  abbrev f : GFunction
  f = translated program symbol function

  -- the instructions behind a block's phis have types, and none is a phi
  pub plain_behind : (k : ℕ) (x : Block) → slice_get function.blocks k ≡ Some x → Every (λ (inst : Inst). IsOp program function inst.gives inst.op × (is_phi inst.op ≡ false)) (drop (length (heads gl function k)) (insts_at function k))
  plain_behind k x e =
      let hs = length (heads gl function k) in
      every_by (λ (inst : Inst). IsOp program function inst.gives inst.op × (is_phi inst.op ≡ false)) (drop hs (insts_at function k))
      (λ i inst at. ((well program checked symbol function there).insts k (hs + i) inst (get_drop hs (insts_at function k) i inst at), no_phi_at (drop hs (insts_at function k)) (behind_shape program checked symbol function there k x e).1 i inst at))

  pub block_writes : (k : ℕ) (x : Block) → slice_get function.blocks k ≡ Some x → (v : ℕ) → Defines (firsts_of function) k v → 1 ≤ times v (written (play.insts_at f k))
  block_writes k x e v d =
      let p = placed program symbol function there (well program checked symbol function there) k x e in
      let hs = length (heads gl function k) in
      let insts = insts_at function k in
      let es = edges_to gl function k (all_edges program symbol function there (well program checked symbol function there)) in
      let first_code = if k == 0 then params_code 0 function.params else [] in
      let phi_code = phis_code gl function (number_at function k 0) 0 es (heads gl function k) in
      let made = insts_ending gl function k (number_at function k hs) (empty_pool p.next) p.own (drop hs insts) in
      let firsts = firsts_are (length function.params) function.blocks k x e in
      let low_is = firsts.0 in
      let high_is = firsts.1 in
      let low = d.0 in
      let high = d.1 in
      let insts_are : insts ≡ x.insts = ap insts_of e in
      let total : results insts ≡ results x.insts = ap results insts_are in
      let count = heads_count program function insts ((well program checked symbol function there).insts k) in
      let split = results_split hs insts in
      let none : results (take 0 insts) ≡ 0 = none_taken insts in
      let all : 1 ≤ wrote v (phi_code ++ made.code) = by_sides phi_code made.code (cases_lt v (number_at function k hs))
      (λ below. phis_wrote program function (heads gl function k) (number_at function k 0) 0 v es (omega (arith, low, low_is, none)) (omega (arith, below, count, none)))
      (λ above. insts_wrote program function (drop hs insts) k (number_at function k hs) (empty_pool p.next) p.own v (plain_behind k x e)
      (λ i inst at j. sym (ends_at (drop hs insts) (behind_shape program checked symbol function there k x e).0 i inst at (jump_ends inst.op j))) above (omega (arith, high, high_is, total, split))) in
      let is = wrote_is v (play.insts_at f k) in
      let whole : 1 ≤ wrote v (play.insts_at f k) = subst (λ (code : List GInst). 1 ≤ wrote v code) (sym p.insts_are) (wrote_right v first_code (phi_code ++ made.code) all) in
      omega (arith, is, whole)
    where
      none_taken : (is : List Inst) → results (take 0 is) ≡ 0
      none_taken [] = refl
      none_taken (i ∷ is) = refl

      by_sides : (xs ys : List GInst) → (v < number_at function k (length (heads gl function k))) ⊎ (number_at function k (length (heads gl function k)) ≤ v)
          → (v < number_at function k (length (heads gl function k)) → 1 ≤ wrote v xs) → (number_at function k (length (heads gl function k)) ≤ v → 1 ≤ wrote v ys) → 1 ≤ wrote v (xs ++ ys)
      by_sides xs ys (inl below) one two = wrote_left v xs ys (one below)
      by_sides xs ys (inr above) one two = wrote_right v xs ys (two above)
