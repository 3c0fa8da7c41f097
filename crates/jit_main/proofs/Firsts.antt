-- The quick versions of a module as the first ones of a session or of a core.
use Rattle.std.proofs.Common.{◌≡◌, ℕ, zero, suc, ◌+◌, List, [], ◌∷◌, ◌++◌, length, refl, sym, ap, subst, ◌∙◌, arith}
use mathlib.Core.Option.{some-injective, some-ne-none}
use Rattle.code_epochs.specs.Sound.{At}
use Rattle.ir_core.specs.Program.{Program}
use Rattle.ir_meaning.specs.Meaning.{meaning}
use Rattle.ir_meaning.specs.declared.calls.Ended.{Ended}
use Rattle.ir_meaning.specs.declared.calls.ListedCall.{ListedCall}
use Rattle.rv_play.specs.declared.version.Version.{Version}
use Rattle.rv_play.specs.Good.{Good}
use Rattle.fast_isel.specs.Modules.{quick_from, AreQuick}
use Rattle.jit_core.specs.First.{AreQuick as AreFirstOfCore}
use Rattle.jit_session.specs.Runs.{AllRight}
use Rattle.jit_session.specs.Sessions.{AreFirst}

first-at : (program : Program) (n : ℕ) (versions : List Version) → quick_from program n versions → (k : ℕ) (v : Version) → At versions k v
    → (v.symbol ≡ n + k) × Good (meaning program) (n + k) v.words
first-at program n [] made k v at = absurd (some-ne-none v (sym at))
first-at program n (first ∷ versions) made zero v at =
    let same : first ≡ v = some-injective first v at in
    let e : n ≡ n + 0 = omega arith in
    subst (λ (w : Version). (w.symbol ≡ n + 0) × Good (meaning program) (n + 0) w.words) same
    (made.0.of_symbol ∙ e, subst (λ (s : ℕ). Good (meaning program) s first.words) e made.0.good)
first-at program n (first ∷ versions) made (suc k) v at =
    let more = first-at program (n + 1) versions made.2 k v at in
    let e : (n + 1) + k ≡ n + suc k = omega arith in
    (more.0 ∙ e, subst (λ (s : ℕ). Good (meaning program) s v.words) e more.1)

each : (program : Program) (versions : List Version) → AreQuick program versions → (k : ℕ) (v : Version) → At versions k v
    → (v.symbol ≡ k) × Good (meaning program) k v.words
each program versions quick k v at =
    let here = first-at program 0 versions quick.quick k v at in
    let e : 0 + k ≡ k = omega arith in
    (here.0 ∙ e, subst (λ (s : ℕ). Good (meaning program) s v.words) e here.1)

-- of a session
pub are_first : (program : Program) (versions : List Version) → AreQuick program versions → AreFirst program versions
are_first program versions quick = record { count = quick.count; good = each program versions quick }

-- of a core
pub are_first_of_core : (program : Program) (versions : List Version) → AreQuick program versions → AreFirstOfCore (meaning program) versions
are_first_of_core program versions quick = (quick.count, each program versions quick)

-- there are as many answers as calls
pub as_many : (program : Program) (calls : List ListedCall) (ends : List Ended) → AllRight program calls ends → length ends ≡ length calls
as_many program [] [] all = refl
as_many program [] (e ∷ ends) all = absurd all
as_many program (c ∷ calls) [] all = absurd all
as_many program (c ∷ calls) (e ∷ ends) all = ap (λ n. suc n) (as_many program calls ends all.1)

-- the last of some, and those before
pub split_last : {A : Type 0} (xs : List A) (n : ℕ) → length xs ≡ n + 1 → (front : List A) × (last : A) × (xs ≡ front ++ last ∷ [])
split_last [] n e = absurd (let bad : ⊥ = omega (arith, e) in bad)
split_last (x ∷ []) n e = ([], x, refl)
split_last (x ∷ y ∷ xs) n e =
    let long : length (y ∷ xs) ≡ length xs + 1 = omega arith in
    let more = split_last (y ∷ xs) (length xs) long in
    (x ∷ more.0, more.1, ap (λ (l : List _). x ∷ l) more.2)
