use Rattle.std.proofs.Common.{◌≡◌, ◌∙◌, sym, None}
use Rattle.ir_flow.specs.Assigned.{IsUsable}
use Rattle.ir_verify.specs.Verdict.{refusal}
use Rattle.ir_verify.proofs.Lists.{all_of}
use Rattle.ir_verify.proofs.Rows.{missing, refuses_shown, all_usable}
use Rattle.ir_verify.proofs.verdict.what_refuses.Goals as goal

pub returns-then-is_some : goal.returns-then-is_some
returns-then-is_some c = refuses_shown c.args.all.now c.in_ok-found.found c.in_ok-found.ensures c.is_some.result c.is_some.ensures c.if-is_some.true

pub first_unassigned-requires-clause-usable : goal.first_unassigned-requires-clause-usable
first_unassigned-requires-clause-usable c =
    let none : c.in_ok-found.found ≡ None = missing c.in_ok-found.found c.is_some.result c.is_some.ensures c.if-is_some.false in
    let passed : refusal c.args.all.now ≡ None = sym c.in_ok-found.ensures ∙ none in
    all_of IsUsable c.args.all.now.functions (all_usable c.args.all.now passed)
