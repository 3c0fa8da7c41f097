-- What a reader answers.
use Rattle.std.specs.Prelude.{◌≡◌, ℕ, List, Option, Some, None, Result, Ok, Err}
use Rattle.jit_calls.specs.declared.form.Refusal.{Refusal}
use Rattle.jit_calls.specs.declared.form.Refusal.TheVariants.{Form, NoMemory}

-- a refusal, but for want of memory, comes only where nothing is read
abbrev pub Refuses : {A : Type 0} → Refusal → Option A → Type 0
Refuses Form read = read ≡ None
Refuses NoMemory read = Unit {0}

-- what a reader answered, seen by view, is what the form reads
abbrev pub Gives : {X A : Type 0} → (X → A) → Result X Refusal → Option A → Type 0
Gives view (Ok x) read = read ≡ Some (view x)
Gives view (Err refusal) read = Refuses refusal read

-- what a reader that moves answered, seen by view, is what the form reads, and it stands at the rest
abbrev pub Steps : {X A : Type 0} → (X → A) → Result X Refusal → List ℕ → Option (A × List ℕ) → Type 0
Steps view (Ok x) rest read = read ≡ Some (view x, rest)
Steps view (Err refusal) rest read = Refuses refusal read
