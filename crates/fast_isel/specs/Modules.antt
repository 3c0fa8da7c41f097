-- The quick code of a module.
use Rattle.std.specs.Prelude.{◌≡◌, ℕ, ◌+◌, List, [], ◌∷◌, length, sum_by}
use Rattle.ir_core.specs.Program.{Program}
use Rattle.rv_play.specs.declared.version.Version.{Version}
use Rattle.rv_play.specs.Versions.{IsVersion}
use Rattle.fast_isel.specs.Written.{AreQuickWords}

-- a good version of level 1 of each function from a symbol on, with its quick words
abbrev pub quick_from : Program → ℕ → List Version → Type 0
quick_from program symbol [] = Unit {0}
quick_from program symbol (version ∷ versions) =
    IsVersion program symbol 1 version × AreQuickWords program symbol version.words × quick_from program (symbol + 1) versions

-- the same of each function, in order
pub record AreQuick (program : Program) (versions : List Version) : Type 0 where
  pub quick : quick_from program 0 versions
  pub count : length versions ≡ length program.module_.functions

-- the code words that versions need, one more for the header of each
abbrev pub words_needed : List Version → ℕ
words_needed versions = sum_by (λ (version : Version). length version.words + 1) versions

-- the quick code of a module needs so many code words
abbrev pub Needs : Program → ℕ → Type 0
Needs program n = (versions : List Version) × AreQuick program versions × (n ≡ words_needed versions)
