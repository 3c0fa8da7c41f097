use Rattle.std.proofs.Common.{◌≡◌, ◌+◌, ℕ, sym, subst, ◌∙◌, arith}
use Rattle.redirect_cells.specs.Kept.{functions_of, IsNextWord, book_of}
use Rattle.redirect_cells.proofs.Stores.{stores_next_word}
use Rattle.redirect_cells.proofs.keeper_seat.KeeperSeat.store_next.Goals as goal

pub store-requires : goal.store-requires
store-requires c =
    let me = c.args.self.now in
    let table = c.args.self.now.table.now in
    let plan = table.table.shared.key in
    let place : ℕ = c.args.place in
    let words = table.words_are in
    let small = c.requires.place in
    let word : c.code_place-word.result ≡ 1 + (functions_of plan) + plan.harts + place = c.code_place-word.ensures ∙ (λ i. 1 + table.functions_are i + table.harts_are i + place) in (
      me.here,
      omega arith,
      stores_next_word plan table.table.shared.table_id.slots me.seat.id c.code_place-word.result place c.from.result me.seat.me me.empty me.keeper (subst (λ (n : ℕ). IsNextWord (book_of me.seat.me.0).draft place n) (sym c.from.ensures) c.requires.draft) (let e = c.from.ensures in omega arith) word,
    )
