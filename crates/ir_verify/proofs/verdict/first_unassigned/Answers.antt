use Rattle.std.proofs.Common.{◌≡◌, ◌∙◌, ◌<◌, ◌≤◌, ℕ, sym, ap, subst, inl, inr, length, List, Some, None, arith}
use Rattle.std.specs.Prelude.{slice_get}
use Rattle.ir_core.specs.declared.program.Function.{Function}
use Rattle.ir_flow.specs.Assigned.{AllAssigned}
use Rattle.ir_verify.proofs.Lists.{some_at, last_or, same_at, is_below}
use Rattle.ir_verify.proofs.verdict.first_unassigned.Goals as goal

pub returns-in-Some : goal.returns-in-Some
returns-in-Some c =
    let found = rw c.in-Some.is at c.in_ok-value.ensures in
    record {
      function = c.index-functions-i.result;
      is_there =
          ap (λ (fs : List Function). slice_get fs c.loop-i.i) (sym c.as_slice-functions.ensures)
          ∙ some_at c.as_slice-functions.result.now c.loop-i.i c.index-functions-i.result c.loop-i-test.true c.index-functions-i.is;
      before = λ earlier other less e. c.loop-i.invariant earlier other less (ap (λ (fs : List Function). slice_get fs earlier) c.as_slice-functions.ensures ∙ e);
      is_first = found;
    }

pub loop-i-preserved : goal.loop-i-preserved
loop-i-preserved c =
    let here : slice_get c.as_slice-functions.result.now c.loop-i.i ≡ Some c.index-functions-i.result =
    some_at c.as_slice-functions.result.now c.loop-i.i c.index-functions-i.result c.loop-i-test.true c.index-functions-i.is in
    let assigned : AllAssigned c.index-functions-i.result = rw c.in_default.is at c.in_ok-value.ensures in
    let P : Function → Type 0 = λ f. AllAssigned f in
    λ symbol function less e. elim (last_or symbol c.loop-i.i less) [
      | inl below ↦ c.loop-i.invariant symbol function below e
      | inr same ↦ subst P (same_at c.as_slice-functions.result.now symbol c.loop-i.i function c.index-functions-i.result same e here) assigned
    ]

pub returns : goal.returns
returns c = λ symbol function e.
    let at : slice_get c.as_slice-functions.result.now symbol ≡ Some function = ap (λ (fs : List Function). slice_get fs symbol) c.as_slice-functions.ensures ∙ e in
    let below : symbol < length c.as_slice-functions.result.now = is_below c.as_slice-functions.result.now symbol function at in
    c.loop-i.invariant symbol function (omega (arith, below, c.loop-i-test.false)) at
