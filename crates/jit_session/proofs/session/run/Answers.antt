use Rattle.std.proofs.Common.{◌≡◌, ℕ, List, length, sym, ap, subst, ◌∙◌}
use Rattle.std.proofs.lemmas.List.{same_from_push}
use Rattle.jit_session.proofs.Few.{few_first}
use Rattle.jit_session.specs.Sessions.{IsSettled}
use Rattle.jit_session.proofs.Firsts.{quick, functions_same}
use Rattle.jit_session.proofs.session.run.Goals as goal

pub seats-requires-clause-quick : goal.seats-requires-clause-quick
seats-requires-clause-quick g c = quick c.in-Ok.table.table.shared.key c.args.checked.now c.args.versions.items c.in-Ok.ensures.plan.0 c.requires.versions

pub run_over-requires-clause-few : goal.run_over-requires-clause-few
run_over-requires-clause-few g c κs within =
    let table = c.in-Ok.table in
    let keeper = c.in_ok-seats.keeper in
    let same : keeper.desk.seat.table.now ≡ table = ap (λ t. t.now) c.in_ok-seats.ensures.keeper in
    few_first keeper.desk.shelf c.args.versions.items table.functions c.in_ok-seats.ensures.versions
    (c.requires.versions.count ∙ sym (functions_same table.table.shared.key c.args.checked.now c.in-Ok.ensures.plan.0) ∙ sym table.functions_are) (keeper.desk.functions_are ∙ ap (λ t. t.functions) same) table.few

pub returns-in-Ok-run_over-clause-settled : goal.returns-in-Ok-run_over-clause-settled
returns-in-Ok-run_over-clause-settled g c = λ front last are. (
    let table = c.in-Ok.table in
    let plan = c.in-Ok.ensures.plan in
    let program = c.args.checked.now in
    let calls = c.args.calls.now in
    let marks = g.P.ReoptPolicy.marks c.args.policy in
    let settled = c.in-Ok-run_over.settled in
    let popped = same_from_push front c.pop.new.self.items last c.in-Some.maker (sym are ∙ c.in-Some.ensures.items) in
    let crowds = g.M.Maker.may_crowd c.in-Some.maker program in
    let words = c.args.setup.code_words in
    subst (λ (m : g.row.M.Denot). IsSettled program calls c.args.setup.harts (length program.module_.functions) words marks (g.M.Maker.may_crowd m program) settled) (sym popped.1)
    (subst (λ (n : ℕ). IsSettled program calls n (length program.module_.functions) words marks crowds settled) (table.harts_are ∙ plan.1)
    (subst (λ (n : ℕ). IsSettled program calls table.harts n words marks crowds settled) (table.functions_are ∙ functions_same table.table.shared.key program plan.0)
    (subst (λ (n : ℕ). IsSettled program calls table.harts table.functions n marks crowds settled) (table.code_is ∙ plan.2) c.in-Ok-run_over.ensures)))
    )
