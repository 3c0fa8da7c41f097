-- What holds of the quick tier over all checked modules.
use Rattle.std.specs.Prelude.{◌≡◌, ℕ, List}
use Rattle.ir_meaning.specs.Step.{Program}
use Rattle.ir_verify.specs.Verdict.{IsChecked}
use Rattle.fast_isel.specs.Taken.{IsTaken}
use Rattle.fast_isel.specs.Written.{AreQuickWords}

-- each module that passes the verifier is taken
abbrev pub EveryCheckedIsTaken : Type 0
EveryCheckedIsTaken = (program : Program) → IsChecked program → IsTaken program.module_

-- a function of a program has no two lists of quick words
abbrev pub QuickWordsAreOne : Type 0
QuickWordsAreOne = (program : Program) (symbol : ℕ) (v w : List ℕ) → AreQuickWords program symbol v → AreQuickWords program symbol w → v ≡ w
