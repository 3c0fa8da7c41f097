use Rattle.std.proofs.Common.{ap, ◌∙◌}
use Rattle.std.proofs.lemmas.List.Sorted.{IsNonDecreasingBy-from_sort}
use Rattle.ir_verify.specs.Shapes.{are_distinct, is_rising}
use Rattle.ir_verify.proofs.Sorted.{distinct_sorted}
use Rattle.ir_verify.proofs.shapes.are_cases_distinct.Goals as goal

pub returns : goal.returns
returns c =
    c.is_rising.ensures ∙ ap is_rising c.as_slice.ensures.value
    ∙ distinct_sorted c.in_ok-numbers.numbers.items c.sort_unstable.new.self.items c.sort_unstable.ensures.permutation
    (IsNonDecreasingBy-from_sort (λ x. x) c.sort_unstable.new.self.items c.sort_unstable.ensures.sorted)
    ∙ ap are_distinct c.in_ok-numbers.ensures
