-- Versions that stand in order from the first code word on, each behind its header, and what serves a pass from them.
use Rattle.std.specs.Prelude.{◌≡◌, ℕ, ◌+◌, ◌-◌, ◌*◌, ◌/◌, ◌≤◌, List, [], ◌∷◌, ◌++◌, length, slice_get, Some}
use Rattle.ir_meaning.specs.Plays.{Meaning}
use Rattle.rv_play.specs.declared.version.Version.{Version}
use Rattle.rv_play.specs.Good.{Good}
use Rattle.rv_play.specs.Machine.{code_base}
use Rattle.rv_play.specs.Ending.{Item, Held, Saw}

-- the code words of versions, of which the first has this number: a header, which is the number plus 1, and the words
abbrev pub code_of : ℕ → List Version → List ℕ
code_of number [] = []
code_of number (v ∷ vs) = (number + 1) ∷ (v.words ++ code_of (number + 1) vs)

-- their bases, where the first header stands at this place
abbrev pub bases_of : ℕ → List Version → List ℕ
bases_of place [] = []
bases_of place (v ∷ vs) = (code_base + 4 * (place + 1)) ∷ bases_of (place + 1 + length v.words) vs

-- one version per symbol, in order from this one on
abbrev pub AreInOrder : ℕ → List Version → Type 0
AreInOrder symbol [] = Unit {0}
AreInOrder symbol (v ∷ vs) = (v.symbol ≡ symbol) × AreInOrder (symbol + 1) vs

-- a version per symbol, and at most 4,194,304 code words in all
pub record AreVersions (versions : List Version) : Type 0 where
  pub ordered : AreInOrder 0 versions
  pub room : length (code_of 0 versions) ≤ 4194304

-- the pass holds what stands in these cells, and saw what stands in these code words
abbrev pub Serves : List ℕ → List ℕ → List Item → Type 0
Serves cells code [] = Unit {0}
Serves cells code (Held symbol base ∷ pass) = (slice_get cells symbol ≡ Some base) × Serves cells code pass
Serves cells code (Saw address word ∷ pass) =
    (code_base ≤ address) × (slice_get code ((address - code_base) / 4) ≡ Some word) × Serves cells code pass

-- the same cells and code words as before serve the pass
pub record IsServed (old_cells old_code new_cells new_code : List ℕ) (pass : List Item) : Type 0 where
  pub cells : new_cells ≡ old_cells
  pub code : new_code ≡ old_code
  pub serves : Serves new_cells new_code pass

-- each version is good for its symbol
abbrev pub AllGood : Meaning → List Version → Type 0
AllGood m [] = Unit {0}
AllGood m (v ∷ vs) = Good m v.symbol v.words × AllGood m vs
