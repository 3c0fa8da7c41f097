-- What holds of the quick code of all modules.
use Rattle.std.specs.Prelude.{◌≡◌, ℕ, ◌+◌, ◌*◌, ◌≤◌, List, [], ◌∷◌, map}
use Rattle.ir_core.specs.declared.program.Function.{Function}
use Rattle.ir_core.specs.Program.{Program}
use Rattle.ir_meaning.specs.Meaning.{meaning}
use Rattle.ir_meaning.specs.Plays.{Meaning}
use Rattle.rv_play.specs.declared.version.Version.{Version}
use Rattle.fast_isel.specs.Modules.{AreQuick, Needs}

-- the words of a list of versions
abbrev pub texts_of : List Version → List (List ℕ)
texts_of versions = map (λ (version : Version). version.words) versions

abbrev pub QuickCodeIsOne : Type 0
QuickCodeIsOne = (program : Program) (v w : List Version) → AreQuick program v → AreQuick program w → texts_of v ≡ texts_of w

abbrev pub QuickNeedIsOne : Type 0
QuickNeedIsOne = (program : Program) (m n : ℕ) → Needs program m → Needs program n → m ≡ n

-- the words that the quick code of these functions may have, from a symbol on: 256 for each static unit and each operand of a phi, and
-- a header
abbrev pub bound_from : Meaning → ℕ → List Function → ℕ
bound_from m symbol [] = 0
bound_from m symbol (function ∷ functions) = (256 * (m.units symbol + m.phi_operands symbol) + 1) + bound_from m (symbol + 1) functions

abbrev pub QuickCodeIsBounded : Type 0
QuickCodeIsBounded = (program : Program) (n : ℕ) → Needs program n → n ≤ bound_from (meaning program) 0 program.module_.functions
