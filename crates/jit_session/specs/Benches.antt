-- What a bench stands for since an earlier state of it.
use Rattle.std.specs.Prelude.{◌≡◌, ℕ, ◌+◌, ◌<◌, min, nat_lt, List, ◌∷◌, [], ◌++◌, Bool, true, false}
use Rattle.rv_play.specs.Ending as ending
use Rattle.code_epochs.specs.declared.parts.Item.{Item}
use Rattle.code_epochs.specs.declared.parts.HartPart.{HartPart}
use Rattle.code_epochs.specs.Passes.{items_of}
use Rattle.entry_counts.specs.Tally.{times}
use Rattle.entry_counts.specs.declared.seat.CountSeat.{CountSeat}
use Rattle.redirect_cells.specs.declared.view.Role.{Role}
use Rattle.redirect_cells.specs.declared.view.Role.TheVariants.{Hart, Keeper, Spent}
use Rattle.redirect_cells.specs.declared.table.CodeTable.{CodeTable}
use Rattle.redirect_cells.specs.declared.hart_seat.HartSeat.{HartSeat}
use Rattle.redirect_cells.specs.Kept.{part_of, WasServed}

-- the seat is one of a hart that has announced an epoch
abbrev pub has_begun : Role → Bool
has_begun (Hart v) = nat_lt 0 v.word
has_begun (Keeper book) = false
has_begun Spent = false

-- What the hart knows now, beside what it knew then: the pass is on its way, or it is the one that has ended since, over which the hart was served.
abbrev pub HasHad : Bool → CodeTable → HartPart → HartPart → List ending.Item → Type 0
HasHad true table since now pass = (items_of now.pass ≡ pass) × (now.ended ≡ since.ended)
HasHad false table since now pass =
    (last : List Item) × (items_of last ≡ pass) × (now.ended ≡ since.ended ++ last ∷ []) × WasServed table.table.shared.key last

-- these symbols were counted since then, each up to the most that a seat counts
pub record HasCounted (since now : CountSeat) (counted : List ℕ) : Type 0 where
  pub table : now.counts ≡ since.counts
  pub own : (k : ℕ) → k < since.counts.now.symbols → times k now.seat.me.0.own ≡ min (times k since.seat.me.0.own + times k counted) 144115188075855872
  pub parts : now.seat.me.0.parts ≡ since.seat.me.0.parts
  pub joined : now.seat.me.0.joined ≡ since.seat.me.0.joined

-- Since then the seats have had one pass and have counted these symbols.
pub record StandsFor (since : HartSeat) (counts_since : CountSeat) (now : HartSeat) (counts_now : CountSeat) (pass : List ending.Item) (counted : List ℕ) : Type 0 where
  pub table : now.table ≡ since.table
  pub number : now.number ≡ since.number
  pub had : HasHad (has_begun now.seat.me.0.role) now.table.now (part_of since.seat.me.0) (part_of now.seat.me.0) pass
  pub count : HasCounted counts_since counts_now counted
