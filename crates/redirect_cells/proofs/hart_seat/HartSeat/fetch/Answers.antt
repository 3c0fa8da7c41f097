use Rattle.std.proofs.Common.{◌≡◌, ◌+◌, ◌-◌, ◌/◌, ◌<◌, ℕ, subst, ◌∙◌, arith}
use Rattle.redirect_cells.specs.Kept.{functions_of}
use Rattle.redirect_cells.proofs.Loads.{loads_word_at}
use Rattle.redirect_cells.proofs.hart_seat.HartSeat.fetch.Goals as goal

pub load-requires : goal.load-requires
load-requires c =
    let seat = c.args.self.now in
    let table = c.args.self.now.table.now in
    let plan = table.table.shared.key in
    let place : ℕ = (c.args.address - 16777216) / 4 in
    let words = table.words_are in
    let code = table.code_is in
    let harts = table.harts_are in
    let functions = table.functions_are in
    let below : place < table.code_words = omega arith in
    let small : place < plan.code_words = subst (λ (n : ℕ). place < n) code below in
    let word : c.code_place-word.result ≡ 1 + (functions_of plan) + plan.harts + place = c.code_place-word.ensures ∙ (λ i. 1 + functions i + harts i + place) in (
      seat.here,
      omega arith,
      loads_word_at plan table.table.shared.table_id.slots seat.seat.id c.code_place-word.result place seat.seat.me word seat.empty seat.plan c.requires.begun small,
    )
