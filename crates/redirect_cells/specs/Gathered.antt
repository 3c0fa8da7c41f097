-- The seats of all harts of a table.
use Rattle.std.specs.Prelude.{◌≡◌, ℕ, ◌<◌, List, length, map, slice_index_or}
use Rattle.code_epochs.specs.declared.parts.HartPart.{HartPart}
use Rattle.redirect_cells.specs.declared.table.CodeTable.{CodeTable}
use Rattle.redirect_cells.specs.declared.hart_seat.HartSeat.{HartSeat}
use Rattle.redirect_cells.specs.Kept.{word_in, part_of}

-- a seat of this table that is idle
abbrev pub IsIdleSeat : CodeTable → HartSeat → Type 0
IsIdleSeat table s = (s.table.now ≡ table) × (word_in s.seat.me.0.role ≡ 0)

-- the numbers of the seats' harts
abbrev pub numbers_of : List HartSeat → List ℕ
numbers_of seats = map (λ s. s.number) seats

-- what the seats' harts know
abbrev pub parts_of : List HartSeat → List HartPart
parts_of seats = map (λ s. part_of s.seat.me.0) seats

-- each hart has one of the seats
abbrev pub AreAllHarts : ℕ → List HartSeat → Type 0
AreAllHarts harts seats = (h : ℕ) → h < harts → (i : ℕ) × (i < length seats) × ((d : HartSeat) → (slice_index_or seats i d).number ≡ h)
