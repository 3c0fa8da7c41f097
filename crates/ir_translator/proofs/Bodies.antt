-- Blocks, one after another.
use Rattle.std.proofs.Common.{◌≡◌, refl, sym, ap, ap₂, ◌∙◌, ℕ, zero, suc, ◌+◌, ◌≤◌, List, [], ◌∷◌, ◌++◌, length, take, drop, Some, arith}
use Rattle.std.specs.Prelude.{remove, slice_get}
use Rattle.std.proofs.lemmas.List.{length-append}
use Rattle.ir_core.specs.declared.code.Inst.{Inst}
use Rattle.ir_core.specs.declared.program.Function.{Function}
use Rattle.ir_core.specs.declared.program.Global.{Global}
use Rattle.ir_meaning.specs.Step.{phis}
use Rattle.gmir.specs.declared.code.GInst.{GInst}
use Rattle.generic_code.specs.Literals.{Pool, empty_pool}
use Rattle.generic_code.specs.Edges.{Ending, no_ending}
use Rattle.generic_code.specs.Whole.{insts_ending, body_of}
use Rattle.ir_translator_emit.specs.Written.{Written, without}
use Rattle.ir_translator_emit.specs.Jumps.{whole}
use Rattle.ir_translator.specs.Fit.{AreFit, weight}
use Rattle.ir_translator.specs.Laid.{laid}
use Rattle.ir_translator.proofs.Phis.{taken_phis}

-- ---- what stands behind phis

pub behind_weight : (k : ℕ) (insts : List Inst) → k ≤ length insts → k + weight (drop k insts) ≤ weight insts
behind_weight zero insts le = omega arith
behind_weight (suc k) [] le = absurd (let bad : ⊥ = omega (arith, le) in bad)
behind_weight (suc k) (inst ∷ insts) le = let rest = behind_weight k insts (omega (arith, le)) in omega (arith, rest)

pub behind_fit : (blocks k : ℕ) (insts : List Inst) → AreFit blocks insts → AreFit blocks (drop k insts)
behind_fit blocks zero insts h = h
behind_fit blocks (suc k) [] h = h
behind_fit blocks (suc k) (inst ∷ insts) h = behind_fit blocks k insts h.2

take_least : (k : ℕ) (insts : List Inst) → length (take k insts) ≤ length insts
take_least zero insts = omega arith
take_least (suc k) [] = omega arith
take_least (suc k) (inst ∷ insts) = let rest = take_least k insts in omega (arith, rest)

pub few_phis : (insts : List Inst) → length (phis insts) ≤ length insts
few_phis insts = let same = ap (λ (xs : List Inst). length xs) (taken_phis insts) in let least = take_least (length (phis insts)) insts in omega (arith, same, least)

pub phis_weight : (insts : List Inst) → length (phis insts) + weight (drop (length (phis insts)) insts) ≤ weight insts
phis_weight insts = behind_weight (length (phis insts)) insts (few_phis insts)

-- ---- a block that is taken out

got_at : (done : List (List GInst)) (code : List GInst) (later : List (List GInst)) → slice_get (done ++ code ∷ later) (length done) ≡ Some code
got_at [] code later = refl
got_at (one ∷ done) code later = got_at done code later

removed_at : (done : List (List GInst)) (code : List GInst) (later : List (List GInst)) → remove (done ++ code ∷ later) (length done) ≡ done ++ later
removed_at [] code later = refl
removed_at (one ∷ done) code later = ap (λ (xs : List (List GInst)). one ∷ xs) (removed_at done code later)

pub block_whole : (w : Written) (ending : Ending) → w.code ≡ [] → (whole w ending).done ≡ w.done ++ ending.code ∷ ending.later
unfolding whole
block_whole w ending none = ap (λ (c : List GInst). w.done ++ (c ++ ending.code) ∷ ending.later) none

pub block_code : (w v : Written) (ending : Ending) (at : ℕ) (code : List GInst) → w.code ≡ [] → at ≡ length w.done → whole v no_ending ≡ whole w ending → slice_get (whole v no_ending).done at ≡ Some code → code ≡ ending.code
block_code w v ending at code none is e h =
    let same : slice_get (w.done ++ ending.code ∷ ending.later) (length w.done) ≡ Some code =
    sym (ap₂ (λ (d : List (List GInst)) (n : ℕ). slice_get d n) (ap (λ (x : Written). x.done) e ∙ block_whole w ending none) is) ∙ h in
    let found : Some ending.code ≡ Some code = sym (got_at w.done ending.code ending.later) ∙ same in
    cc

whole_without : (w : Written) (ending : Ending) → w.code ≡ [] → without (whole w ending) (length w.done) ≡ laid w ending
unfolding whole
whole_without w ending none =
    let done : remove (w.done ++ (w.code ++ ending.code) ∷ ending.later) (length w.done) ≡ w.done ++ ending.later = removed_at w.done (w.code ++ ending.code) ending.later in
    ap (λ (d : List (List GInst)). record w {
      done = d;
      code = [];
      types = w.types ++ ending.types;
      pool = empty_pool (length (w.types ++ ending.types));
      own = w.own + length ending.later;
      edges = w.edges ++ ending.edges;
    }) done

pub block_laid : (w v u : Written) (ending : Ending) (at : ℕ) → w.code ≡ [] → at ≡ length w.done → whole v no_ending ≡ whole w ending → u ≡ without (whole v no_ending) at → u ≡ laid w ending
block_laid w v u ending at none is e h = h ∙ ap₂ without e is ∙ whole_without w ending none

-- the finished blocks are as many as before at least
pub block_room : (w v : Written) (ending : Ending) (at : ℕ) → w.code ≡ [] → at ≡ length w.done → whole v no_ending ≡ whole w ending → at ≤ length v.done
unfolding whole
block_room w v ending at none is e =
    let same : length (v.done ++ (v.code ++ []) ∷ []) ≡ length (w.done ++ (w.code ++ ending.code) ∷ ending.later) = ap (λ (x : Written). length x.done) e in
    let left = length-append v.done ((v.code ++ []) ∷ []) in
    let right = length-append w.done ((w.code ++ ending.code) ∷ ending.later) in
    omega (arith, same, left, right, is)

-- the ending of a block's instructions behind its phis is its body's
pub body_is : (globals : List Global) (function : Function) (from first heads next own : ℕ) (pool : Pool) (insts behind : List Inst) → pool ≡ empty_pool next → heads ≡ length (phis insts) → behind ≡ drop (length (phis insts)) insts
    → insts_ending globals function from (first + heads) pool own behind ≡ (body_of globals function from first pool.next own insts).ending
body_is globals function from first heads next own pool insts behind fresh many is =
    ap₂ (λ (p : Pool) (xs : List Inst). insts_ending globals function from (first + heads) p own xs) (fresh ∙ ap empty_pool (sym (ap (λ (p : Pool). p.next) fresh))) is
    ∙ ap (λ (k : ℕ). insts_ending globals function from (first + k) (empty_pool pool.next) own (drop (length (phis insts)) insts)) many
