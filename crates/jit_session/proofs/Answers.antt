-- Right answers over benches.
use Rattle.std.proofs.Common.{◌≡◌, ℕ, Bool, false, List, sym, subst}
use Rattle.ir_core.specs.Program.{Program}
use Rattle.ir_meaning.specs.Meaning.{meaning}
use Rattle.ir_meaning.specs.Plays.{Meaning}
use Rattle.rv_play.specs.Ending.{Item}
use Rattle.rv_play.specs.Link.{Backed}
use Rattle.hart.proofs.Answering.{right_answers}
use Rattle.code_epochs.specs.declared.parts.Item.{Item as Passed}
use Rattle.code_epochs.specs.Sound.{Backed as BackedBy}
use Rattle.code_epochs.specs.Passes.{items_of}
use Rattle.code_epochs.proofs.Good.{good_backed}
use Rattle.redirect_cells.specs.declared.view.Plan.{Plan}
use Rattle.redirect_cells.specs.Kept.{meaning_of, part_of, WasServed}
use Rattle.redirect_cells.specs.declared.table.CodeTable.{CodeTable}
use Rattle.jit_session.specs.Benches.{HasHad}
use Rattle.jit_session.specs.Laws.{BenchAnswersAreRight}

-- what a plan of this program means
pub meaning_in : (plan : Plan) (program : Program) → plan.module.value ≡ program → meaning_of plan ≡ meaning program
unfolding meaning_of
meaning_in plan program value = λ i. meaning (value i)

-- a pass over which a hart of the table was served is backed
pub was_backed : (t : CodeTable) (pass : List Passed) → WasServed t.table.shared.key pass → Backed (meaning_of t.table.shared.key) t.code_words (items_of pass)
was_backed t pass served =
    let book = served.4.table.book in
    good_backed (meaning_of t.table.shared.key) t.code_words book pass t.sizes.1
    (subst (λ (z : ℕ × List Passed). BackedBy (meaning_of t.table.shared.key) z.0 book z.1) (λ i. (sym t.code_is i, served.3 i)) served.4.backed)

pub right_over : BenchAnswersAreRight
right_over program call memory image h h' since now counts counts' pass counted e value l s idle over =
    let table = since.table.now in
    let had : HasHad false now.table.now (part_of since.seat.me.0) (part_of now.seat.me.0) pass = subst (λ (b : Bool). HasHad b now.table.now (part_of since.seat.me.0) (part_of now.seat.me.0) pass) idle s.had in
    let there : Backed (meaning_of now.table.now.table.shared.key) now.table.now.code_words (items_of had.0) = was_backed now.table.now had.0 had.3 in
    let here : Backed (meaning_of table.table.shared.key) table.code_words (items_of had.0) = subst (λ t. Backed (meaning_of t.now.table.shared.key) t.now.code_words (items_of had.0)) s.table there in
    let backed : Backed (meaning program) table.code_words pass = subst (λ (p : List Item). Backed (meaning program) table.code_words p) had.1 (subst (λ (m : Meaning). Backed m table.code_words (items_of had.0)) (meaning_in table.table.shared.key program value) here) in
    right_answers program call memory image h h' table.code_words pass counted e l backed over
