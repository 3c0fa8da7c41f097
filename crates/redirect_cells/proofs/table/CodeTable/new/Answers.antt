use Rattle.std.proofs.Common.{rules, ◌≡◌, ◌+◌, ◌∷◌, ℕ, suc, List, length, sym, refl, subst, true, false, ◌<◌, ◌≤◌, cond, Bool, Option, Some, None, ap, ◌∙◌, arith, replicate, set}
use Rattle.ir_core.specs.declared.program.Module.{Module}
use Rattle.redirect_cells.specs.declared.view.Plan.{Plan}
use Rattle.redirect_cells.specs.Kept.{functions_of}
use mathlib.Core.Logic.{dite}
use native.Mathlib.Decide.{dec_le}
use Rattle.std.proofs.lemmas.Bool.{lt-ltb}
use Rattle.ir_core.specs.declared.program.What.{What}
use Rattle.ir_core.specs.declared.program.What.TheVariants.{Functions}
use Rattle.ir_flow.specs.First.{or_then}
use Rattle.ir_flow.specs.Limits.{Passed, above, capped, limit_passed}
use Rattle.ir_verify.specs.declared.refusal.VerifyRefusal.{VerifyRefusal}
use Rattle.ir_verify.specs.Verdict.{Passes, of_passed}
use Rattle.redirect_cells.proofs.Opens.{opens}
use Rattle.redirect_cells.proofs.Plans.{functions_counted}
use Rattle.redirect_cells.proofs.table.CodeTable.new.Goals as goal

one_first : (n : ℕ) → set {A = ℕ} (replicate (1 + n) 0) 0 1 ≡ 1 ∷ replicate n 0
one_first n = let e : 1 + n ≡ suc n = omega arith in ap (λ (k : ℕ). set {A = ℕ} (replicate k 0) 0 1) e

pub of_words-requires : goal.of_words-requires
of_words-requires c =
    let plan : Plan = record { «module» = c.of.result; harts = c.args.harts; code_words = c.args.code_words } in
    let size : c.len.result ≡ length c.args.all.now.module_.functions = c.len.ensures ∙ ap (λ (m : Module). length m.functions) c.module.ensures.value in
    let functions : c.in-Ok.functions ≡ functions_of plan = functions_counted plan c.args.all.now c.in-Ok.functions c.of.ensures (c.in-Ok.ensures.1 ∙ size) in
    opens plan c.as_slice.result.now (c.requires.1, c.requires.3)
    (c.as_slice.ensures.value ∙ ap (λ (l : List ℕ). set l 0 1) c.in_ok-words.ensures ∙ one_first (c.in-Ok.functions + c.args.harts + c.args.code_words) ∙ ap (λ (n : ℕ). 1 ∷ replicate (n + c.args.harts + c.args.code_words) 0) functions)

pub invariant_of-table-clause-functions_are : goal.invariant_of-table-clause-functions_are
invariant_of-table-clause-functions_are c =
    let plan : Plan = record { «module» = c.of.result; harts = c.args.harts; code_words = c.args.code_words } in
    let size : c.len.result ≡ length c.args.all.now.module_.functions = c.len.ensures ∙ ap (λ (m : Module). length m.functions) c.module.ensures.value in
    let functions : c.in-Ok.functions ≡ functions_of plan = functions_counted plan c.args.all.now c.in-Ok.functions c.of.ensures (c.in-Ok.ensures.1 ∙ size) in
    let key : c.in-Ok-of_words.table.shared.key ≡ plan = search rules in
    functions ∙ ap functions_of (sym key)

some_none : {A : Type 0} (a : A) → Some a ≡ None → ⊥
some_none a e = absurd (cc)

left_none : {A : Type 0} (a b : Option A) → or_then a b ≡ None → a ≡ None
left_none None b e = refl
left_none (Some x) b e = absurd (some_none x e)

passed_none : (p : Option Passed) → of_passed p ≡ None → p ≡ None
passed_none None e = refl
passed_none (Some p) e = absurd (some_none _ e)

above_none : (what : What) (most n : ℕ) → above what most n ≡ None → n ≤ most
above_none what most n e = dite (dec_le n most) (λ d. d)
    (λ d. let it : Passed = (what, capped n) in absurd (some_none it (subst (λ (b : Bool). cond {A = Option Passed} b (Some it) None ≡ None) (lt-ltb most n (omega arith)) e)))

-- a module that passes has at most 1024 functions
few_functions : (m : Module) → Passes m → length m.functions ≤ 1024
few_functions m p = above_none Functions 1024 (length m.functions) (left_none _ _ (passed_none (limit_passed m) (left_none _ _ p.rows)))

pub invariant_of-table-clause-few : goal.invariant_of-table-clause-few
invariant_of-table-clause-few c =
    let few = few_functions c.module.result.now c.module.ensures.passes in
    let size : c.len.result ≡ length c.module.result.now.functions = c.len.ensures in
    let e : c.in-Ok.functions ≡ c.len.result = c.in-Ok.ensures.1 in
    omega arith
