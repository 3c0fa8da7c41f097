-- What stops a command, and what it writes, is one with what its files have.
use Rattle.std.proofs.Common.{◌≡◌, ◌≢◌, ℕ, ◌+◌, ◌<◌, ◌≤◌, ◌⊎◌, inl, inr, List, [], ◌∷◌, ◌++◌, length, take, Bool, true, false, Option, Some, None, Result, Ok, Err, refl, sym, ap, subst, ◌∙◌, arith}
use Rattle.std.specs.Prelude.{IfSome}
use Rattle.ir_core.specs.Program.{Program}
use Rattle.ir_core.specs.declared.program.Function.{Function}
use Rattle.ir_core.specs.declared.program.Module.{Module}
use Rattle.ir_flow.specs.Flow.{Misses}
use Rattle.ir_flow.specs.Assigned.{Passes as PassesBy, Shows, IsUseAssigned, IsUnassigned, firsts_of}
use Rattle.ir_flow.specs.declared.uses.Use.{Use}
use Rattle.ir_functions.specs.Functions.{IsModuleOf, module_with}
use Rattle.ir_resolve.proofs.One.{one_types}
use Rattle.ir_meaning.specs.declared.calls.ListedCall.{ListedCall}
use Rattle.ir_reader.specs.Reads.{Reads}
use Rattle.ir_reader.specs.declared.reading.ReadRefusal.{ReadRefusal}
use Rattle.ir_reader.specs.declared.reading.ReadRefusal.TheVariants as reading
use Rattle.ir_reader.proofs.Refusals.{one_tree}
use Rattle.ir_types.proofs.TypeLists.{same_Ok}
use Rattle.ir_tree.specs.declared.tree.Tree.{Tree}
use Rattle.ir_verify.specs.Verdict.{Passes, Refuses}
use Rattle.ir_verify.specs.declared.refusal.VerifyRefusal.{VerifyRefusal}
use Rattle.ir_verify.specs.declared.refusal.VerifyRefusal.TheVariants as rows
use Rattle.jit_calls.specs.Lists.{calls_of}
use Rattle.jit_calls.specs.declared.lists.CallsRefusal.{CallsRefusal}
use Rattle.fast_isel.specs.Modules.{Needs}
use Rattle.fast_isel.specs.ModuleLaws.{QuickNeedIsOne}
use Rattle.rj_io.specs.Faults.{Rose}
use Rattle.command_words.specs.Commands.{Line, run, big, eval, sim, dump, command_of}
use Rattle.jit_main.specs.declared.stop.Stop.{Stop}
use Rattle.jit_main.specs.declared.stop.Stop.TheVariants.{Usage, CannotRead, Unread, Unverified, TooBig, Uncalled, NoRoom, NoMemory}
use Rattle.jit_main.specs.Commands.{IsText}
use Rattle.jit_main.specs.Run.{IsCheckedText, HasImage, NoModule, IsRow, NoPass, NoImage, NoCalls, NoCode}
use Rattle.jit_main.specs.Ends.{ModuleStop, FrontStop, RunStop, LineStops, LineCause}
use Rattle.jit_main.specs.Complete.{IsLoaded, AreRead, TakeWords, AreSome, HasAll, HasNoRoom, IsRefused}

abbrev Told : Type 0
Told = List ℕ → Option (List ℕ)

-- ---- texts, modules and programs are one

-- what is loaded of a file that is told
pub same_text : (told : Option (List ℕ)) (a b : List ℕ) → IsText told a → IsLoaded told b → a ≡ b
same_text told a b is loaded =
    let cut : a ≡ take 4194305 loaded.0 = subst (λ (t : Option (List ℕ)). IsText t a) loaded.1 is in
    cut ∙ sym loaded.2

one-module-of : (tree : Tree) (a b : Module) → IsModuleOf tree a → IsModuleOf tree b → a ≡ b
one-module-of tree a b x y =
    let types = one_types tree.types x.0 y.0 x.1 y.1 in
    same_Ok a b (sym x.2 ∙ ap (λ t. module_with t tree) types ∙ y.2)

pub one_module : (text : List ℕ) (a b : Module) → Reads text a → Reads text b → a ≡ b
one_module text a b x y = one-module-of y.1.0 a b (subst (λ t. IsModuleOf t a) (one_tree text x.1.0 y.1.0 x.1.1 y.1.1) x.1.2) y.1.2

together : (p q : Program) → p.module_ ≡ q.module_ → p.room ≡ q.room → p ≡ q
together p q modules rooms =
    ap (λ (m : Module). record { module_ = m; room = p.room }) modules ∙ ap (λ (n : ℕ). record { module_ = q.module_; room = n }) rooms

pub one_program : (text : List ℕ) (room : ℕ) (p q : Program) → IsCheckedText text room p → IsCheckedText text room q → p ≡ q
one_program text room p q x y = together p q (one_module text p.module_ q.module_ x.reads y.reads) (x.size ∙ sym y.size)

-- ---- what stops a command isn't so

no-module : (text : List ℕ) (refusal : ReadRefusal) (module_ : Module) → NoModule text refusal → Reads text module_ → ⊥
no-module text reading.NoMemory module_ why reads = why.fault tt
no-module text (reading.Syntax at) module_ why reads = why.shown.0 module_ reads
no-module text (reading.LeftOut at name) module_ why reads = why.shown.0 module_ reads
no-module text (reading.Name at name) module_ why reads = why.shown.0 module_ reads
no-module text (reading.Limit counted count) module_ why reads = why.shown.0 module_ reads

misses-passes : (firsts : List ℕ) (value : ℕ) (walk : List ℕ) → Misses firsts value walk → PassesBy firsts value walk → ⊥
misses-passes firsts value [] misses passes = passes
misses-passes firsts value (block ∷ blocks) misses (inl here) = misses.0 here
misses-passes firsts value (block ∷ blocks) misses (inr later) = misses-passes firsts value blocks misses.1 later

shown-assigned : (function : Function) (use_ : Use) (walk : List ℕ) → Shows function use_ walk → IsUseAssigned function use_ → ⊥
shown-assigned function use_ walk shows (inl parameter) = let low = shows.0 in let bad : ⊥ = omega (arith, low, parameter) in bad
shown-assigned function use_ walk shows (inr (inl earlier)) = shows.1 earlier
shown-assigned function use_ walk shows (inr (inr passes)) =
    misses-passes (firsts_of function) use_.value shows.2.0 shows.2.3 (passes shows.2.0 shows.2.2)

unassigned : (module_ : Module) (function value : ℕ) (walk : List ℕ) → IsUnassigned module_ function value walk → Passes module_ → ⊥
unassigned module_ function value walk is passes =
    let first = is.is_first in
    shown-assigned is.function first.use_ walk first.shows (passes.assigned function is.function is.is_there first.at first.use_ first.is_use)

row-fails : (found : Option VerifyRefusal) (row : VerifyRefusal) → found ≡ Some row → found ≡ None → ⊥
row-fails found row some none = let both : Some row ≡ None = sym some ∙ none in absurd cc

refuses-passes : (module_ : Module) (refusal : VerifyRefusal) → IsRow refusal → Refuses module_ refusal → Passes module_ → ⊥
refuses-passes module_ rows.NoMemory apart refuses passes = apart
refuses-passes module_ (rows.NotAssigned function value walk) apart refuses passes = unassigned module_ function value walk refuses.1 passes
refuses-passes module_ (rows.Limit counted count) apart refuses passes = row-fails _ _ refuses passes.rows
refuses-passes module_ (rows.Shape function block) apart refuses passes = row-fails _ _ refuses passes.rows
refuses-passes module_ (rows.Range function inst) apart refuses passes = row-fails _ _ refuses passes.rows
refuses-passes module_ (rows.EntryEdge function block) apart refuses passes = row-fails _ _ refuses passes.rows
refuses-passes module_ (rows.BadType function inst) apart refuses passes = row-fails _ _ refuses passes.rows
refuses-passes module_ (rows.CallShape function inst callee) apart refuses passes = row-fails _ _ refuses passes.rows
refuses-passes module_ (rows.PhiEdges function block) apart refuses passes = row-fails _ _ refuses passes.rows

no-pass : (text : List ℕ) (room : ℕ) (module_ : Module) (refusal : VerifyRefusal) (program : Program) → NoPass text module_ refusal → IsCheckedText text room program → ⊥
no-pass text room module_ refusal program why is =
    let same = one_module text program.module_ module_ is.reads why.reads in
    refuses-passes module_ refusal why.row why.refused (subst (λ (m : Module). Passes m) same is.passes)

no-image : (text : List ℕ) (room bytes size : ℕ) (program : Program) → NoImage text room bytes size → IsCheckedText text room program → HasImage program → ⊥
no-image text room bytes size program why is has =
    let same = one_program text room program why.program is why.is_module in
    let image : HasImage why.program = subst (λ (p : Program). HasImage p) same has in
    let top = image.1.0.top in
    let taken = image.1.0.bytes.top in
    let high = image.1.1 in
    let bytes_are = why.refused.0 in
    let size_is = why.refused.1 in
    let more = why.refused.2 in
    let bad : ⊥ = omega (arith, top, taken, high, bytes_are, size_is, more) in bad

ok-err : (r : Result (List ListedCall) CallsRefusal) (list : List ListedCall) (refusal : CallsRefusal) → r ≡ Ok list → r ≡ Err refusal → ⊥
ok-err r list refusal ok err = let both : Ok list ≡ Err refusal = sym ok ∙ err in absurd cc

no-calls : (module_text calls_text : List ℕ) (room : ℕ) (refusal : CallsRefusal) (program : Program) (list : List ListedCall) → NoCalls module_text calls_text room refusal
    → IsCheckedText module_text room program → calls_of program.module_ calls_text ≡ Ok list → ⊥
no-calls module_text calls_text room refusal program list why is are =
    let same = one_program module_text room program why.program is why.is_module in
    ok-err (calls_of why.program.module_ calls_text) list refusal (subst (λ (p : Program). calls_of p.module_ calls_text ≡ Ok list) same are) why.refused

-- ---- the stops that there may be

pub module_stops : (text : List ℕ) (room : ℕ) (stop : Stop) (program : Program) → IsCheckedText text room program → ModuleStop text stop → stop ≡ NoMemory
module_stops text room Usage program is why = absurd why
module_stops text room (CannotRead name) program is why = absurd why
module_stops text room (Unread refusal) program is why = absurd (no-module text refusal program.module_ why is.reads)
module_stops text room (Unverified module_ refusal) program is why = absurd (no-pass text room module_ refusal program why is)
module_stops text room (TooBig bytes size) program is why = absurd why
module_stops text room (Uncalled refusal) program is why = absurd why
module_stops text room (NoRoom needed had) program is why = absurd why
module_stops text room NoMemory program is why = refl

pub front_stops : (m c : List ℕ) (room : ℕ) (stop : Stop) (program : Program) (list : List ListedCall) → AreRead m c room program list → FrontStop m c room stop → stop ≡ NoMemory
front_stops m c room (TooBig bytes size) program list are why = absurd (no-image m room bytes size program why are.is_module are.image)
front_stops m c room (Uncalled refusal) program list are why = absurd (no-calls m c room refusal program list why are.is_module are.is_calls)
front_stops m c room Usage program list are why = absurd why
front_stops m c room (CannotRead name) program list are why = absurd why
front_stops m c room (Unread refusal) program list are why = module_stops m room (Unread refusal) program are.is_module why
front_stops m c room (Unverified module_ refusal) program list are why = module_stops m room (Unverified module_ refusal) program are.is_module why
front_stops m c room (NoRoom needed had) program list are why = absurd why
front_stops m c room NoMemory program list are why = refl

-- it stops for want of code words or memory
abbrev pub IsOfRoom : Stop → Type 0
IsOfRoom stop = (stop ≡ NoMemory) ⊎ ((needed had : ℕ) × (stop ≡ NoRoom needed had))

pub run_stops : (m c : List ℕ) (room code_words : ℕ) (stop : Stop) (program : Program) (list : List ListedCall) → AreRead m c room program list → RunStop m c room code_words stop → IsOfRoom stop
run_stops m c room w (NoRoom needed had) program list are why = inr (needed, had, refl)
run_stops m c room w (TooBig bytes size) program list are why = inl (front_stops m c room (TooBig bytes size) program list are why)
run_stops m c room w (Uncalled refusal) program list are why = inl (front_stops m c room (Uncalled refusal) program list are why)
run_stops m c room w Usage program list are why = absurd why
run_stops m c room w (CannotRead name) program list are why = absurd why
run_stops m c room w (Unread refusal) program list are why = inl (front_stops m c room (Unread refusal) program list are why)
run_stops m c room w (Unverified module_ refusal) program list are why = inl (front_stops m c room (Unverified module_ refusal) program list are why)
run_stops m c room w NoMemory program list are why = inl refl

-- where the quick code fits, it isn't for want of code words
no-code : QuickNeedIsOne → (m c : List ℕ) (room code_words needed : ℕ) → TakeWords m c room (λ words. words ≤ code_words) → NoCode m c room code_words needed → ⊥
no-code law m c room code_words needed (program, list, words, are, needs, fits) why =
    let same = one_program m room why.program program why.is_module are.is_module in
    let one = law program why.words.words words (subst (λ (p : Program). Needs p why.words.words) same why.words.needs) needs in
    let more = why.words.more in
    let bad : ⊥ = omega (arith, one, more, fits) in bad

pub fitting_stops : QuickNeedIsOne → (m c : List ℕ) (room code_words : ℕ) (stop : Stop) → TakeWords m c room (λ words. words ≤ code_words) → RunStop m c room code_words stop → stop ≡ NoMemory
fitting_stops law m c room w (NoRoom needed had) all why = absurd (no-code law m c room w needed all why.1)
fitting_stops law m c room w (TooBig bytes size) (p, l, n, are, needs, fits) why = front_stops m c room (TooBig bytes size) p l are why
fitting_stops law m c room w (Uncalled refusal) (p, l, n, are, needs, fits) why = front_stops m c room (Uncalled refusal) p l are why
fitting_stops law m c room w Usage all why = absurd why
fitting_stops law m c room w (CannotRead name) all why = absurd why
fitting_stops law m c room w (Unread refusal) (p, l, n, are, needs, fits) why = front_stops m c room (Unread refusal) p l are why
fitting_stops law m c room w (Unverified module_ refusal) (p, l, n, are, needs, fits) why = front_stops m c room (Unverified module_ refusal) p l are why
fitting_stops law m c room w NoMemory all why = refl
