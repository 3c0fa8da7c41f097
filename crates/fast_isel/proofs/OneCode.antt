-- The quick versions of a module have the same words wherever they are made.
use Rattle.std.proofs.Common.{◌≡◌, ℕ, ◌+◌, ◌≤◌, List, [], ◌∷◌, length, ap, refl, sym, ◌∙◌, arith}
use Rattle.std.proofs.lemmas.List.Sums.{sum_by-cons}
use Rattle.ir_core.specs.declared.program.Function.{Function}
use Rattle.ir_core.specs.Program.{Program}
use Rattle.ir_meaning.specs.Meaning.{meaning}
use Rattle.rv_play.specs.declared.version.Version.{Version}
use Rattle.fast_isel.specs.BlockLaws.{QuickWordsAreOne}
use Rattle.fast_isel.specs.Modules.{quick_from, AreQuick, Needs, words_needed}
use Rattle.fast_isel.specs.ModuleLaws.{texts_of, bound_from}

one-from : QuickWordsAreOne → (program : Program) (symbol : ℕ) (v w : List Version) → quick_from program symbol v → quick_from program symbol w → length v ≡ length w → texts_of v ≡ texts_of w
one-from one program symbol [] [] a b count = refl
one-from one program symbol [] (y ∷ w) a b count = absurd (let bad : ⊥ = omega (arith, count) in bad)
one-from one program symbol (x ∷ v) [] a b count = absurd (let bad : ⊥ = omega (arith, count) in bad)
one-from one program symbol (x ∷ v) (y ∷ w) a b count =
    let head : x.words ≡ y.words = one program symbol x.words y.words a.1 b.1 in
    let rest : texts_of v ≡ texts_of w = one-from one program (symbol + 1) v w a.2 b.2 (omega (arith, count)) in
    ap (λ (t : List ℕ). t ∷ texts_of v) head ∙ ap (λ (ts : List (List ℕ)). y.words ∷ ts) rest

pub code-is-one : QuickWordsAreOne → (program : Program) (v w : List Version) → AreQuick program v → AreQuick program w → texts_of v ≡ texts_of w
code-is-one one program v w a b = one-from one program 0 v w a.quick b.quick (a.count ∙ sym b.count)

count-needed : QuickWordsAreOne → (symbol : ℕ) (program : Program) (v w : List Version) → quick_from program symbol v → quick_from program symbol w → length v ≡ length w → words_needed v ≡ words_needed w
count-needed one symbol program [] [] a b count = refl
count-needed one symbol program [] (y ∷ w) a b count = absurd (let bad : ⊥ = omega (arith, count) in bad)
count-needed one symbol program (x ∷ v) [] a b count = absurd (let bad : ⊥ = omega (arith, count) in bad)
count-needed one symbol program (x ∷ v) (y ∷ w) a b count =
    let head : length x.words ≡ length y.words = ap length (one program symbol x.words y.words a.1 b.1) in
    let rest : words_needed v ≡ words_needed w = count-needed one (symbol + 1) program v w a.2 b.2 (omega (arith, count)) in
    let left : words_needed (x ∷ v) ≡ (length x.words + 1) + words_needed v = sum_by-cons (λ (version : Version). length version.words + 1) x v in
    let right : words_needed (y ∷ w) ≡ (length y.words + 1) + words_needed w = sum_by-cons (λ (version : Version). length version.words + 1) y w in
    omega (arith, head, rest, left, right)

pub need-is-one : QuickWordsAreOne → (program : Program) (m n : ℕ) → Needs program m → Needs program n → m ≡ n
need-is-one one program m n a b =
    let same = count-needed one 0 program a.0 b.0 a.1.quick b.1.quick (a.1.count ∙ sym b.1.count) in
    a.2 ∙ same ∙ sym b.2

bounded : (program : Program) (symbol : ℕ) (versions : List Version) (functions : List Function) → quick_from program symbol versions → length versions ≡ length functions
    → words_needed versions ≤ bound_from (meaning program) symbol functions
bounded program symbol [] functions made count = omega arith
bounded program symbol (v ∷ versions) [] made count = absurd (let bad : ⊥ = omega (arith, count) in bad)
bounded program symbol (v ∷ versions) (function ∷ functions) made count =
    let here = made.0.good.short in
    let more = bounded program (symbol + 1) versions functions made.2 (omega (arith, count)) in
    let all : words_needed (v ∷ versions) ≡ (length v.words + 1) + words_needed versions = sum_by-cons (λ (version : Version). length version.words + 1) v versions in
    omega (arith, here, more, all)

pub code-is-bounded : (program : Program) (n : ℕ) → Needs program n → n ≤ bound_from (meaning program) 0 program.module_.functions
code-is-bounded program n needs =
    let low = bounded program 0 needs.0 program.module_.functions needs.1.quick needs.1.count in
    omega (arith, low, needs.2)
