use Rattle.std.proofs.Common.{◌+◌, ap, ◌∙◌, arith, length, List}
use Rattle.std.specs.Prelude.{slice_get}
use Rattle.std.proofs.lemmas.List.{length_push}
use Rattle.ir_core.specs.Units.{results}
use Rattle.quick_code.specs.Blocks.{edges_in}
use Rattle.fast_isel.specs.declared.starts.Start.{Start}
use Rattle.fast_isel.proofs.Counts.{first-step, number-most, label_below, each_more, start_of, start_next, start_zero}
use Rattle.fast_isel.proofs.Forms.{few_values}
use Rattle.fast_isel.proofs.starts.starts_of.Goals as goal

pub loop-block-init : goal.loop-block-init
loop-block-init c = record {
  next = start_zero c.args.function.now c.first_start-next.result c.first_start-next.ensures.value c.first_start-next.ensures.label;
  many = ap length c.new-starts.ensures.items;
  each = λ block lt. absurd (let bad : ⊥ = omega (arith, lt) in bad);
}

pub start_behind-next-requires-clause-values : goal.start_behind-next-requires-clause-values
start_behind-next-requires-clause-values c =
    let f = c.args.function.now in
    let step = first-step f c.loop-block.block in
    let most = number-most f (c.loop-block.block + 1) 0 in
    let few = few_values f c.requires.taken in
    let value = ap (λ (s : Start). s.value) c.loop-block.invariant.next in
    let same = ap results c.insts_in.ensures in
    omega (arith, step, most, few, value, same)

pub start_behind-next-requires-clause-labels : goal.start_behind-next-requires-clause-labels
start_behind-next-requires-clause-labels c =
    let f = c.args.function.now in
    let end = c.len-block-end.ensures in
    let below = label_below f c.loop-block.block (omega (arith, end, c.loop-block-test.true)) in
    let few = c.requires.labels in
    let label = ap (λ (s : Start). s.label) c.loop-block.invariant.next in
    let same = ap edges_in c.insts_in.ensures in
    omega (arith, below, few, label, same)

pub loop-block-preserved : goal.loop-block-preserved
loop-block-preserved c =
    let f = c.args.function.now in
    let next = c.loop-block.invariant.next in
    let many = c.loop-block.invariant.many in
    let items = c.in_ok-append.ensures in
    record {
      next = start_next f c.loop-block.block c.loop-block.next c.start_behind-next.result c.insts_in.result.now c.insts_in.ensures next c.start_behind-next.ensures.value c.start_behind-next.ensures.label;
      many = ap length items ∙ length_push c.loop-block.starts.items c.loop-block.next ∙ ap (λ n. n + 1) many;
      each = λ block lt.
          ap (λ (xs : List Start). slice_get xs block) items ∙ each_more c.loop-block.starts.items c.loop-block.next c.loop-block.block (start_of f) many next c.loop-block.invariant.each block lt;
    }

pub returns : goal.returns
returns c =
    let f = c.args.function.now in
    let next = c.loop-block.invariant.next in
    let many = c.loop-block.invariant.many in
    let items = c.in_ok-append-2.ensures in
    let end = c.len-block-end.ensures in
    let long = ap length items ∙ length_push c.loop-block.starts.items c.loop-block.next in (
      omega (arith, long, many, end, c.loop-block-test.false),
      λ block le.
          ap (λ (xs : List Start). slice_get xs block) items
          ∙ each_more c.loop-block.starts.items c.loop-block.next c.loop-block.block (start_of f) many next c.loop-block.invariant.each block (omega (arith, le, end, c.loop-block-test.false)),
      c.requires.labels,
    )
