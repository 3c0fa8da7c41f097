use Rattle.std.proofs.Common.{arith, ◌+◌, ◌≤◌, length, ap, ◌∙◌}
use Rattle.std.proofs.lemmas.List.{length_push}
use Rattle.fast_isel.proofs.Pushing.{one_more}
use Rattle.fast_isel.proofs.versions.quick_versions.Goals as goal

pub overflow_cast-symbol : goal.overflow_cast-symbol
overflow_cast-symbol c =
    let few : length c.module.result.now.functions ≤ 1024 = rw c.module.ensures.value c.module.ensures.typed.functions in
    omega (arith, few, c.len-count.ensures, c.loop-symbol-test.true)

pub loop-symbol-preserved : goal.loop-symbol-preserved
loop-symbol-preserved c =
    let before = c.loop-symbol.invariant.1 in
    let more = one_more c.args.module.now 0 c.loop-symbol.symbol c.loop-symbol.versions.items c.in_ok-quick_flow.field-0 c.loop-symbol.invariant.0 (omega (arith, before)) c.in_ok-quick_flow.ensures.version c.in_ok-quick_flow.ensures.words in
    let count = length_push c.loop-symbol.versions.items c.in_ok-quick_flow.field-0 in
    rw (c.push_reserved.ensures.items, c.push_reserved.ensures.capacity) (more, count ∙ ap (λ n. n + 1) before, c.loop-symbol.invariant.2)
