-- The first versions of a table, and the seats of its harts.
use Rattle.std.specs.Prelude.{◌≡◌, ℕ, ◌+◌, ◌<◌, ◌≤◌, List, [], ◌∷◌, length, min, sum_by}
use Rattle.code_epochs.specs.declared.state.VersionState.{VersionState}
use Rattle.code_epochs.specs.declared.refusals.OpenRefusal.{OpenRefusal}
use Rattle.code_epochs.specs.declared.refusals.OpenRefusal.TheVariants.{NoRoom, NoMemory}
use Rattle.code_epochs.specs.Sound.{At}
use Rattle.code_epochs.specs.Steps.{linked_of, new_part}
use Rattle.rv_play.specs.Good.{Good}
use Rattle.rv_play.specs.declared.version.Version.{Version}
use Rattle.code_epochs.specs.declared.shelf.Shelf.{Shelf}
use Rattle.redirect_cells.specs.declared.view.Plan.{Plan}
use Rattle.redirect_cells.specs.declared.view.Role.TheVariants.{Hart}
use Rattle.redirect_cells.specs.declared.table.CodeTable.{CodeTable}
use Rattle.redirect_cells.specs.declared.hart_seat.HartSeat.{HartSeat}
use Rattle.redirect_cells.specs.Kept.{meaning_of, functions_of, draft_at}

-- the code words that the versions need, one more for the header of each
abbrev pub words_of : List Version → ℕ
words_of versions = sum_by (λ (v : Version). length v.words + 1) versions

-- the versions one after another from a place on, numbered from n
abbrev pub laid : List Version → ℕ → ℕ → List VersionState
laid [] place n = []
laid (v ∷ vs) place n = linked_of (draft_at v place 1) n ∷ laid vs (place + (length v.words + 1)) (n + 1)

-- a good version of each symbol, in order
abbrev pub AreQuick : Plan → List Version → Type 0
AreQuick plan quick = (length quick ≡ functions_of plan) × ((k : ℕ) (v : Version) → At quick k v → (v.symbol ≡ k) × Good (meaning_of plan) k v.words)

-- the versions are these, from some place on, and each is the current one of its symbol
abbrev pub AreLaid : Shelf → List Version → Type 0
AreLaid shelf quick = ((place : ℕ) × (shelf.versions.items ≡ laid quick place 0)) × ((k : ℕ) → k < length quick → At shelf.current.items k (k + 1))

-- one seat for each of so many harts of the table, which are idle and have had no pass
abbrev pub AreNewSeats : CodeTable → ℕ → List HartSeat → Type 0
AreNewSeats table harts seats = (length seats ≡ harts) × ((h : ℕ) (s : HartSeat) → At seats h s → (s.table.now ≡ table) × (s.number ≡ h) × (s.seat.me.0.role ≡ Hart record { number = h; word = 0; part = new_part }))

-- why the first versions were refused
abbrev pub IsOpenCause : CodeTable → List Version → OpenRefusal → Type 0
IsOpenCause table quick (NoRoom needed room) = (needed ≡ min (words_of quick) 18446744073709551615) × (room ≡ table.code_words) × (table.code_words < words_of quick)
IsOpenCause table quick NoMemory = Unit {0}
