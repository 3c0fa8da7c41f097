-- Versions of functions.
use Rattle.std.specs.Prelude.{◌≡◌, ℕ, Bool, true}
use Rattle.ir_core.specs.Program.{Program}
use Rattle.ir_meaning.specs.Meaning.{meaning}
use Rattle.rv_play.specs.declared.version.Version.{Version}
use Rattle.rv_play.specs.declared.version.MakeRefusal.{MakeRefusal}
use Rattle.rv_play.specs.declared.version.MakeRefusal.TheVariants.{Crowded, NoMemory}
use Rattle.rv_play.specs.Good.{Good}

-- a good version of the program's function of that symbol, with that level
pub record IsVersion (program : Program) (symbol level : ℕ) (version : Version) : Type 0 where
  pub of_symbol : version.symbol ≡ symbol
  pub of_level : version.level ≡ level
  pub good : Good (meaning program) symbol version.words

-- a function is refused as crowded only where that may be
abbrev pub Allows : Bool → MakeRefusal → Type 0
Allows test (Crowded point overlap) = test ≡ true
Allows test NoMemory = Unit {0}
