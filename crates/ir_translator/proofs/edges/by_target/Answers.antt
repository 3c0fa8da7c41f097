use Rattle.std.proofs.Common.{◌<◌, ◌≤◌, length, arith, ap, ◌∙◌}
use Rattle.generic_code.specs.Edges.{Edge}
use Rattle.ir_translator.proofs.Grouping.{grouped-next, grouped-end, added-length}
use Rattle.ir_translator.proofs.edges.by_target.Goals as goal

pub loop-place-preserved : goal.loop-place-preserved
loop-place-preserved c = record {
  count = ap length c.in_ok-add.ensures ∙ added-length c.loop-place.groups.items c.edge.inside.to c.loop-place.place ∙ c.loop-place.invariant.count;
  groups = λ globals function.
      grouped-next globals function c.args.edges.now c.loop-place.place c.loop-place.groups.items _ c.index-edges-place.result c.edge.inside.to
      (let t = c.loop-place-test.true in let lt : c.loop-place.place < length c.args.edges.now = omega arith in lt) c.index-edges-place.is (ap (λ (e : Edge). e.to) c.edge.view_is)
      (c.loop-place.invariant.groups globals function) c.in_ok-add.ensures;
}

pub returns-clause-groups : goal.returns-clause-groups
returns-clause-groups c = λ globals function.
    grouped-end globals function c.args.edges.now c.loop-place.place c.loop-place.groups.items (let t = c.loop-place-test.false in let le : length c.args.edges.now ≤ c.loop-place.place = omega arith in le) (c.loop-place.invariant.groups globals function)
