use Rattle.std.proofs.Common.{rules}
use Rattle.std.specs.List.Sorted.{IsPermutation}
use Rattle.std.proofs.lemmas.List.Sorted.{answers_always, ties_still_rise, IsNonDecreasingBy-from_sort_by_key}
use Rattle.regalloc.specs.Steps.{starts_from}
use Rattle.regalloc.proofs.Orders.{sorted_by_register, sorted_rises}
use Rattle.regalloc.proofs.starts.ordered.Goals as goal

pub returns-in-Ok : goal.returns-in-Ok
returns-in-Ok c =
    let moved : IsPermutation (starts_from 0 c.args.spans.now) c.sort_by_key.new.self.items = rw c.in_ok-starts.ensures at c.in-Ok.ensures.permutation in (
      moved,
      sorted_rises c.args.spans.now c.sort_by_key.new.self.items moved
          (IsNonDecreasingBy-from_sort_by_key (λ s. s.first) _ c.in-Ok.ensures.sorted (λ a r q k. search rules))
          (ties_still_rise (λ s. s.register) (λ s. s.first) (starts_from 0 c.args.spans.now) _ (sorted_by_register 0 c.args.spans.now)
          (rw c.in_ok-starts.ensures at (c.in-Ok.ensures.stable (λ s. s.first) (answers_always _ _ _ (λ f a r g h. search rules))))),
    )
