-- The code of blocks, one after another.
use Rattle.std.proofs.Common.{◌≡◌, sym, ap, ap₂, ◌∙◌, subst, ℕ, zero, suc, ◌+◌, ◌<◌, ◌≤◌, List, [], ◌∷◌, ◌++◌, length, drop, get_or, arith}
use Rattle.std.proofs.Math.Seq.{drop-cons}
use Rattle.std.proofs.lemmas.List.{length-append, append-nil, append_assoc, drop_all}
use Rattle.std.proofs.lemmas.List.Sums.{count_by-le-length}
use Rattle.ir_core.specs.declared.code.Inst.{Inst}
use Rattle.ir_core.specs.declared.code.Block.{Block}
use Rattle.ir_core.specs.declared.program.Function.{Function}
use Rattle.ir_core.specs.declared.program.Global.{Global}
use Rattle.ir_core.specs.Units.{results, has_result}
use Rattle.gmir.specs.declared.code.GInst.{GInst}
use Rattle.generic_code.specs.Literals.{Pool, empty_pool}
use Rattle.generic_code.specs.Whole.{Body, body_of, bodies_from}
use Rattle.ir_translator_emit.specs.Written.{Written}
use Rattle.ir_translator.specs.Fit.{AreFit, AreFitBlocks, weight, weight_of}
use Rattle.ir_translator.specs.Laid.{laid, all_laid, codes_of}

here_is : (blocks : List Block) (i : ℕ) (block : Block) → i < length blocks → block ≡ get_or blocks i block → drop i blocks ≡ block ∷ drop (i + 1) blocks
here_is blocks i block lt is =
    drop-cons blocks i block lt ∙ ap (λ (n : ℕ). get_or blocks i block ∷ drop n blocks) (let k : suc i ≡ i + 1 = omega arith in k)
    ∙ ap (λ (x : Block). x ∷ drop (i + 1) blocks) (sym is)

fit_at : (many : ℕ) (blocks : List Block) (i : ℕ) (d : Block) → i < length blocks → AreFitBlocks many blocks → AreFit many (get_or blocks i d).insts
fit_at many [] i d lt h = absurd (let bad : ⊥ = omega (arith, lt) in bad)
fit_at many (one ∷ blocks) zero d lt h = h.0
fit_at many (one ∷ blocks) (suc i) d lt h = fit_at many blocks i d (omega (arith, lt)) h.1

pub fit_here : (many : ℕ) (blocks : List Block) (i : ℕ) (block : Block) → i < length blocks → block ≡ get_or blocks i block → AreFitBlocks many blocks → AreFit many block.insts
fit_here many blocks i block lt is h = subst (λ (x : Block). AreFit many x.insts) (sym is) (fit_at many blocks i block lt h)

pub weight_here : (blocks : List Block) (i : ℕ) (block : Block) → i < length blocks → block ≡ get_or blocks i block → weight_of (drop i blocks) ≡ weight block.insts + weight_of (drop (i + 1) blocks)
weight_here blocks i block lt is = ap weight_of (here_is blocks i block lt is)

pub length_weight : (insts : List Inst) → length insts ≤ weight insts
length_weight [] = omega arith
length_weight (inst ∷ insts) = let rest = length_weight insts in omega (arith, rest)

pub results_weight : (insts : List Inst) → results insts ≤ weight insts
results_weight insts =
    let few : results insts ≤ length insts = count_by-le-length has_result insts in
    let most = length_weight insts in
    omega (arith, few, most)

-- one block more is laid
pub record BlockLaid (globals : List Global) (function : Function) (v : Written) (from value : ℕ) (codes : List (List GInst)) (all : List (List GInst)) (total : Written) (blocks : List Block) : Type 0 where
  pub globals' : v.globals ≡ globals
  pub function' : v.function ≡ function
  pub begins : v.code ≡ []
  pub fresh : v.pool ≡ empty_pool (length v.types)
  pub codes' : codes ++ codes_of (bodies_from globals function from value v.pool.next v.own blocks) ≡ all
  pub written : all_laid v (bodies_from globals function from value v.pool.next v.own blocks) ≡ total

module _ (globals : List Global) (function : Function) where
  bodies_here : (w : Written) (from value : ℕ) (blocks : List Block) (i : ℕ) (block : Block) → i < length blocks → block ≡ get_or blocks i block → w.pool ≡ empty_pool (length w.types) → (
      let body = body_of globals function from value w.pool.next w.own block.insts in
      bodies_from globals function from value w.pool.next w.own (drop i blocks)
      ≡ body ∷ bodies_from globals function (from + 1) (value + results block.insts) (laid w body.ending).pool.next (laid w body.ending).own (drop (i + 1) blocks))
  bodies_here w from value blocks i block lt is fresh =
      let body : Body = body_of globals function from value w.pool.next w.own block.insts in
      let long = length-append w.types body.ending.types in
      let next : w.pool.next ≡ length w.types = ap (λ (p : Pool). p.next) fresh in
      let same : w.pool.next + length body.ending.types ≡ length (w.types ++ body.ending.types) = omega (arith, long, next) in
      ap (bodies_from globals function from value w.pool.next w.own) (here_is blocks i block lt is)
      ∙ ap (λ (n : ℕ). body ∷ bodies_from globals function (from + 1) (value + results block.insts) n (w.own + length body.ending.later) (drop (i + 1) blocks)) same

  pub block_laid : (w v : Written) (from value behind number : ℕ) (codes new all : List (List GInst)) (code : List GInst) (total : Written) (blocks : List Block) (i : ℕ) (block : Block) (insts : List Inst) → i < length blocks → block ≡ get_or blocks i block → insts ≡ block.insts
      → w.globals ≡ globals → w.function ≡ function → w.pool ≡ empty_pool (length w.types)
      → codes ++ codes_of (bodies_from globals function from value w.pool.next w.own (drop i blocks)) ≡ all
      → all_laid w (bodies_from globals function from value w.pool.next w.own (drop i blocks)) ≡ total
      → code ≡ (body_of w.globals w.function from value w.pool.next w.own insts).ending.code
      → v ≡ laid w (body_of w.globals w.function from value w.pool.next w.own insts).ending
      → new ≡ codes ++ code ∷ [] → behind ≡ from + 1 → number ≡ value + results insts
      → BlockLaid globals function v behind number new all total (drop (i + 1) blocks)
  block_laid w v from value behind number codes new all code total blocks i block insts lt is same g f fresh h k e l n b m =
      let body : Body = body_of globals function from value w.pool.next w.own block.insts in
      let u : Written = laid w body.ending in
      let v-is : v ≡ u = l ∙ ap (λ (xs : List Inst). laid w (body_of w.globals w.function from value w.pool.next w.own xs).ending) same ∙ ap₂ (λ (x : List Global) (y : Function). laid w (body_of x y from value w.pool.next w.own block.insts).ending) g f in
      let code-is : code ≡ body.ending.code = e ∙ ap (λ (xs : List Inst). (body_of w.globals w.function from value w.pool.next w.own xs).ending.code) same ∙ ap₂ (λ (x : List Global) (y : Function). (body_of x y from value w.pool.next w.own block.insts).ending.code) g f in
      let here = bodies_here w from value blocks i block lt is fresh in
      let rest : List Body = bodies_from globals function (from + 1) (value + results block.insts) u.pool.next u.own (drop (i + 1) blocks) in
      let rest-is : bodies_from globals function behind number v.pool.next v.own (drop (i + 1) blocks) ≡ rest =
      ap₂ (λ (x y : ℕ). bodies_from globals function x y v.pool.next v.own (drop (i + 1) blocks)) b (m ∙ ap (λ (xs : List Inst). value + results xs) same)
      ∙ ap (λ (x : Written). bodies_from globals function (from + 1) (value + results block.insts) x.pool.next x.own (drop (i + 1) blocks)) v-is in
      record {
        globals' = ap (λ (x : Written). x.globals) v-is ∙ g;
        function' = ap (λ (x : Written). x.function) v-is ∙ f;
        begins = ap (λ (x : Written). x.code) v-is;
        fresh = ap (λ (x : Written). x.pool) v-is ∙ sym (ap (λ (x : Written). empty_pool (length x.types)) v-is);
        codes' =
            ap₂ (λ (x : List (List GInst)) (y : List Body). x ++ codes_of y) n rest-is ∙ append_assoc codes (code ∷ []) (codes_of rest)
            ∙ ap (λ (x : List GInst). codes ++ x ∷ codes_of rest) code-is
            ∙ ap (λ (y : List Body). codes ++ codes_of y) (sym here) ∙ h;
        written = ap₂ all_laid v-is rest-is ∙ ap (all_laid w) (sym here) ∙ k;
      }

  pub codes_done : (w : Written) (from value : ℕ) (codes all : List (List GInst)) (blocks : List Block) (i : ℕ) → length blocks ≤ i
      → codes ++ codes_of (bodies_from globals function from value w.pool.next w.own (drop i blocks)) ≡ all → codes ≡ all
  codes_done w from value codes all blocks i le h =
      sym (append-nil codes) ∙ ap (λ (bs : List Block). codes ++ codes_of (bodies_from globals function from value w.pool.next w.own bs)) (sym (drop_all i blocks le)) ∙ h

  pub laid_done : (w total : Written) (from value : ℕ) (blocks : List Block) (i : ℕ) → length blocks ≤ i → all_laid w (bodies_from globals function from value w.pool.next w.own (drop i blocks)) ≡ total → w ≡ total
  laid_done w total from value blocks i le h = ap (λ (bs : List Block). all_laid w (bodies_from globals function from value w.pool.next w.own bs)) (sym (drop_all i blocks le)) ∙ h
