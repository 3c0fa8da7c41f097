use Rattle.std.proofs.Common.{◌≡◌, ◌+◌, true, sym, subst, ap, ◌∙◌, arith}
use Rattle.code_epochs.specs.Steps.{loaded_part}
use Rattle.redirect_cells.specs.declared.view.View.{View}
use Rattle.redirect_cells.specs.Kept.{functions_of, is_hart, word_in, number_in, part_of}
use Rattle.redirect_cells.proofs.Turns.{loads_epoch, announces, view_facts}
use Rattle.redirect_cells.proofs.hart_seat.HartSeat.begin.Goals as goal

pub load-epoch-requires : goal.load-epoch-requires
load-epoch-requires c =
    let me = c.args.self.now in
    let table = c.args.self.now.table.now in
    let words = table.words_are in (
      me.here,
      omega arith,
      loads_epoch table.table.shared.key table.table.shared.table_id.slots me.seat.id me.seat.me me.empty me.hart c.requires.idle,
    )

pub store-requires : goal.store-requires
store-requires c =
    let me = c.args.self.now in
    let table = c.args.self.now.table.now in
    let plan = table.table.shared.key in
    let words = table.words_are in
    let low = me.number_fits in
    let step = c.load-epoch.ensures in
    let new = c.load-epoch.new.seat.me.0 in
    let is = sym step.2.1 in
    let facts = view_facts me.seat.me.0.role (loaded_part (part_of me.seat.me.0) c.load-epoch.result) me.hart in
    let hart : is_hart new.role ≡ true = subst (λ (v : View). is_hart v.role ≡ true) is facts.0 in
    let idle : word_in new.role ≡ 0 = subst (λ (v : View). word_in v.role ≡ 0) is (facts.1 ∙ c.requires.idle) in
    let number : me.number ≡ number_in new.role = subst (λ (v : View). me.number ≡ number_in v.role) is (sym me.number_is ∙ sym facts.2) in
    let epoch : c.load-epoch.result ≡ (part_of new).epoch = subst (λ (v : View). c.load-epoch.result ≡ (part_of v).epoch) is (sym (ap (λ p. p.epoch) facts.3)) in
    let word : c.hart_place-word.result ≡ 1 + (functions_of plan) + me.number = c.hart_place-word.ensures ∙ (λ i. 1 + table.functions_are i + me.number) in (
      step.0 ∙ me.here,
      omega arith,
      announces plan table.table.shared.table_id.slots c.load-epoch.new.seat.id c.hart_place-word.result c.load-epoch.result c.load-epoch.new.seat.me step.2.2 hart idle (word ∙ (λ i. 1 + (functions_of plan) + number i)) epoch,
    )
