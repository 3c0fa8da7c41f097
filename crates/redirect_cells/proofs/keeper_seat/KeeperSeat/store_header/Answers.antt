use Rattle.std.proofs.Common.{◌≡◌, ◌+◌, ℕ, ◌∙◌, arith}
use Rattle.redirect_cells.specs.Kept.{functions_of}
use Rattle.redirect_cells.proofs.Stores.{stores_header}
use Rattle.redirect_cells.proofs.keeper_seat.KeeperSeat.store_header.Goals as goal

pub store-requires : goal.store-requires
store-requires g c =
    let me = c.args.self.now in
    let table = c.args.self.now.table.now in
    let plan = table.table.shared.key in
    let place : ℕ = c.args.place in
    let words = table.words_are in
    let small = c.requires.place.0 in
    let word : c.code_place-word.result ≡ 1 + (functions_of plan) + plan.harts + place = c.code_place-word.ensures ∙ (λ i. 1 + table.functions_are i + table.harts_are i + place) in (
      me.here,
      omega arith,
      stores_header plan table.table.shared.table_id.slots me.seat.id c.code_place-word.result c.args.header me.seat.me g.D.Drafting.draft me.empty me.keeper c.requires.begins (word ∙ (λ i. 1 + (functions_of plan) + plan.harts + c.requires.place.1 i)) c.requires.header,
    )
