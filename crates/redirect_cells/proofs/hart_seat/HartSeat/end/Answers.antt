use Rattle.std.proofs.Common.{◌≡◌, ◌+◌, sym, ◌∙◌, arith}
use Rattle.redirect_cells.specs.Kept.{functions_of}
use Rattle.redirect_cells.proofs.Turns.{goes_idle}
use Rattle.redirect_cells.proofs.hart_seat.HartSeat.end.Goals as goal

pub swap-requires : goal.swap-requires
swap-requires c =
    let me = c.args.self.now in
    let table = c.args.self.now.table.now in
    let plan = table.table.shared.key in
    let words = table.words_are in
    let low = me.number_fits in
    let word : c.hart_place-word.result ≡ 1 + (functions_of plan) + me.number = c.hart_place-word.ensures ∙ (λ i. 1 + table.functions_are i + me.number) in (
      me.here,
      omega arith,
      goes_idle plan table.table.shared.table_id.slots me.seat.id c.hart_place-word.result me.seat.me me.empty me.plan c.requires.begun (word ∙ (λ i. 1 + (functions_of plan) + sym me.number_is i)),
    )
