-- What is made of a list, one item after another, and what a call answers.
use Rattle.std.specs.Prelude.{◌≡◌, List, [], ◌∷◌, Option, Some, None, Result, Ok, Err}
use Rattle.ir_types.specs.declared.fault.Fault.{Fault}
use Rattle.ir_types.specs.declared.fault.Fault.TheVariants as faults

-- one meaning, and then another that may depend on the first one's value
infixl 10 ◌>>=◌
abbrev pub ◌>>=◌ : {A B : Type 0} → Result A Fault → (A → Result B Fault) → Result B Fault
Ok x >>= f = f x
Err e >>= f = Err e

abbrev pub Fails : {A : Type 0} → Fault → Result A Fault → Type 0
Fails faults.NoMemory meant = Unit {0}
Fails (faults.Syntax left) meant = meant ≡ Err (faults.Syntax left)
Fails (faults.LeftOut left) meant = meant ≡ Err (faults.LeftOut left)
Fails (faults.Name left) meant = meant ≡ Err (faults.Name left)
Fails (faults.Limit what count) meant = meant ≡ Err (faults.Limit what count)

-- what was answered, seen by view, is what was meant, but for want of memory
abbrev pub Gives : {X A : Type 0} → (X → A) → Result X Fault → Result A Fault → Type 0
Gives view (Ok x) meant = meant ≡ Ok (view x)
Gives view (Err e) meant = Fails e meant

-- the items from the front, each with what those before it made
unfoldable pub walk : {S T : Type 0} → (S → T → Result S Fault) → S → List T → Result S Fault
walk step state [] = Ok state
walk step state (x ∷ xs) = step state x >>= λ next. walk step next xs

-- a value, or why there is none
abbrev pub or_fault : {A : Type 0} → Fault → Option A → Result A Fault
or_fault fault (Some x) = Ok x
or_fault fault None = Err fault
