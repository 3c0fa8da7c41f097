use Rattle.std.proofs.Common.{ap, sym, subst, ◌∙◌, ◌^◌, ◌≤◌, length, arith, get_or, List, ℕ}
use Rattle.ir_core.specs.declared.program.Global.{Global as Place}
use Rattle.rv_asm.specs.Layout.{IsAssembly}
use Rattle.rv_asm.specs.Runs.{RunsAs}
use Rattle.quick_code.specs.Assembly.{code_of}
use Rattle.ir_core.specs.declared.program.Module.{Module}
use Rattle.ir_meaning.specs.Meaning.{meaning}
use Rattle.rv_play.specs.Good.{Good}
use Rattle.ir_verify.specs.Verdict.{refusal}
use Rattle.fast_isel.specs.Written.{AreQuickWords}
use Rattle.fast_isel.proofs.Forms.{flow-at, few-labels, found, quick-words}
use Rattle.fast_isel.proofs.Every.{taken-of}
use Rattle.quick_code.proofs.Words.{quick-code-is-good}
use Rattle.fast_isel.proofs.compile.words_of.Goals as goal

pub function_words-requires-clause-symbol : goal.function_words-requires-clause-symbol
function_words-requires-clause-symbol c =
    let few = c.module-all.ensures.typed.functions in
    let lt = c.requires.exists in
    omega (arith, few, lt)

pub function_words-requires-clause-labels : goal.function_words-requires-clause-labels
function_words-requires-clause-labels c =
    let f = c.index-as_slice-symbol.result in
    let same = c.module-all.ensures.value in
    let at = c.index-as_slice-symbol.is ∙ ap (λ fs. get_or fs c.args.symbol f) (c.as_slice.ensures ∙ ap (λ (m : Module). m.functions) same) in
    let there = found c.args.module.now c.args.symbol f c.requires.exists at in
    let rows = sym (ap refusal same) ∙ c.module-all.ensures.passes.rows in
    few-labels c.args.module.now c.args.symbol f rows (flow-at c.args.module.now c.args.symbol f rows (taken-of c.args.module.now (sym (ap refusal same) ∙ c.module-all.ensures.passes.rows) c.module-all.ensures.typed) there).1 there

pub function_words-requires-clause-flow : goal.function_words-requires-clause-flow
function_words-requires-clause-flow c =
    let f = c.index-as_slice-symbol.result in
    let same = c.module-all.ensures.value in
    let at = c.index-as_slice-symbol.is ∙ ap (λ fs. get_or fs c.args.symbol f) (c.as_slice.ensures ∙ ap (λ (m : Module). m.functions) same) in
    let there = found c.args.module.now c.args.symbol f c.requires.exists at in
    (flow-at c.args.module.now c.args.symbol f (sym (ap refusal same) ∙ c.module-all.ensures.passes.rows) (taken-of c.args.module.now (sym (ap refusal same) ∙ c.module-all.ensures.passes.rows) c.module-all.ensures.typed) there).0

pub function_words-requires-clause-taken : goal.function_words-requires-clause-taken
function_words-requires-clause-taken c =
    let f = c.index-as_slice-symbol.result in
    let same = c.module-all.ensures.value in
    let at = c.index-as_slice-symbol.is ∙ ap (λ fs. get_or fs c.args.symbol f) (c.as_slice.ensures ∙ ap (λ (m : Module). m.functions) same) in
    let there = found c.args.module.now c.args.symbol f c.requires.exists at in
    (flow-at c.args.module.now c.args.symbol f (sym (ap refusal same) ∙ c.module-all.ensures.passes.rows) (taken-of c.args.module.now (sym (ap refusal same) ∙ c.module-all.ensures.passes.rows) c.module-all.ensures.typed) there).1

pub function_words-requires-clause-limited : goal.function_words-requires-clause-limited
function_words-requires-clause-limited c =
    let f = c.index-as_slice-symbol.result in
    let same = c.module-all.ensures.value in
    let at = c.index-as_slice-symbol.is ∙ ap (λ fs. get_or fs c.args.symbol f) (c.as_slice.ensures ∙ ap (λ (m : Module). m.functions) same) in
    let there = found c.args.module.now c.args.symbol f c.requires.exists at in
    (flow-at c.args.module.now c.args.symbol f (sym (ap refusal same) ∙ c.module-all.ensures.passes.rows) (taken-of c.args.module.now (sym (ap refusal same) ∙ c.module-all.ensures.passes.rows) c.module-all.ensures.typed) there).2

pub returns-clause-value : goal.returns-clause-value
returns-clause-value c =
    let f = c.index-as_slice-symbol.result in
    let same = c.module-all.ensures.value in
    let at = c.index-as_slice-symbol.is ∙ ap (λ fs. get_or fs c.args.symbol f) (c.as_slice.ensures ∙ ap (λ (m : Module). m.functions) same) in
    let there = found c.args.module.now c.args.symbol f c.requires.exists at in
    subst (λ (ws : List ℕ). AreQuickWords c.args.module.now c.args.symbol ws) (sym c.from_vec.ensures)
    (quick-words c.args.module.now c.args.symbol f c.in_ok-words.words.items there (subst (λ (gs : List Place). IsAssembly (code_of gs c.args.symbol f c.args.module.now.room) c.in_ok-words.words.items) c.requires.globals (subst (λ (r : ℕ). IsAssembly (code_of c.args.globals.now c.args.symbol f r) c.in_ok-words.words.items) c.room.ensures.value c.in_ok-words.ensures.words)))

pub returns-clause-good : goal.returns-clause-good
returns-clause-good c =
    let f = c.index-as_slice-symbol.result in
    let same = c.module-all.ensures.value in
    let at = c.index-as_slice-symbol.is ∙ ap (λ fs. get_or fs c.args.symbol f) (c.as_slice.ensures ∙ ap (λ (m : Module). m.functions) same) in
    let there = found c.args.module.now c.args.symbol f c.requires.exists at in
    let flow = (flow-at c.args.module.now c.args.symbol f (sym (ap refusal same) ∙ c.module-all.ensures.passes.rows) (taken-of c.args.module.now (sym (ap refusal same) ∙ c.module-all.ensures.passes.rows) c.module-all.ensures.typed) there).0 in
    subst (λ (ws : List ℕ). Good (meaning c.args.module.now) c.args.symbol ws) (sym c.from_vec.ensures)
    (quick-code-is-good c.args.module.now c.args.symbol f c.in_ok-words.words.items c.module-all.ensures.typed flow there
    (subst (λ (gs : List Place). IsAssembly (code_of gs c.args.symbol f c.args.module.now.room) c.in_ok-words.words.items) c.requires.globals (subst (λ (r : ℕ). IsAssembly (code_of c.args.globals.now c.args.symbol f r) c.in_ok-words.words.items) c.room.ensures.value c.in_ok-words.ensures.words))
    (subst (λ (gs : List Place). length c.in_ok-words.words.items ≤ 2 ^ 22 → RunsAs (code_of gs c.args.symbol f c.args.module.now.room) c.in_ok-words.words.items) c.requires.globals (subst (λ (r : ℕ). length c.in_ok-words.words.items ≤ 2 ^ 22 → RunsAs (code_of c.args.globals.now c.args.symbol f r) c.in_ok-words.words.items) c.room.ensures.value c.in_ok-words.ensures.runs)))
