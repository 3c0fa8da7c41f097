use Rattle.std.proofs.Common.{◌∙◌, ap, sym, arith, length, drop, get_or, List, ℕ, ◌+◌, ◌<◌, ◌++◌, []}
use Rattle.std.specs.Prelude.{◌==◌, if◌then◌else◌}
use Rattle.std.proofs.lemmas.List.{length-set}
use Rattle.ir_core.specs.declared.types.Ty.{Ty}
use Rattle.ir_core.specs.declared.code.Inst.{Inst}
use Rattle.ir_core.specs.declared.code.Block.{Block}
use Rattle.gmir.specs.declared.code.GInst.{GInst}
use Rattle.generic_code.specs.Whole.{params_code}
use Rattle.ir_translator.specs.Fit.{weight}
use Rattle.ir_translator.specs.Groups.{picked}
use Rattle.ir_translator.specs.Joined.{joined}
use Rattle.ir_translator.proofs.Bodies.{few_phis}
use Rattle.ir_translator.proofs.Joined.{weight_here, length_weight, results_weight}
use Rattle.ir_translator.proofs.Joining.{joined-next, left-next, row-picked}
use Rattle.ir_translator.proofs.join.join_blocks.Goals as goal

pub put_phis-requires : goal.put_phis-requires
put_phis-requires c =
    let f = c.args.function.now in
    let i = c.loop-number.number in
    let block = c.index-blocks-number.result in
    let are = c.as_slice-insts.ensures ∙ sym (ap (λ (b : Block). b.insts) c.index-blocks-number.is) in
    let at = c.index-blocks-number.is ∙ ap (λ (bs : List Block). get_or bs i block) c.as_slice-blocks.ensures in
    let same = ap (λ (bs : List Block). length bs) c.as_slice-blocks.ensures in
    let test = c.loop-number-test.true in
    let lt : i < length f.blocks = omega (arith, same, test) in
    let heavy = weight_here f.blocks i block lt at in
    let long = length_weight block.insts in
    let insts = ap (λ (xs : List Inst). length xs) are in
    let few = few_phis c.as_slice-insts.result.now in
    let many = ap (λ (xs : List Inst). length xs) c.phis_in.ensures in
    let value = c.loop-number.invariant.value in
    let values = c.requires.values in
    omega (arith, heavy, long, insts, few, many, value, values)

pub results_in-value-requires : goal.results_in-value-requires
results_in-value-requires c =
    let f = c.args.function.now in
    let i = c.loop-number.number in
    let block = c.index-blocks-number.result in
    let are = c.as_slice-insts.ensures ∙ sym (ap (λ (b : Block). b.insts) c.index-blocks-number.is) in
    let at = c.index-blocks-number.is ∙ ap (λ (bs : List Block). get_or bs i block) c.as_slice-blocks.ensures in
    let same = ap (λ (bs : List Block). length bs) c.as_slice-blocks.ensures in
    let test = c.loop-number-test.true in
    let lt : i < length f.blocks = omega (arith, same, test) in
    let heavy = weight_here f.blocks i block lt at in
    let long = length_weight block.insts in
    let insts = ap (λ (xs : List Inst). length xs) are in
    let few = results_weight c.as_slice-insts.result.now in
    let insts-weigh = ap weight are in
    let value = c.loop-number.invariant.value in
    let values = c.requires.values in
    omega (arith, heavy, few, insts-weigh, value, values)

pub overflow_add-value : goal.overflow_add-value
overflow_add-value c =
    let f = c.args.function.now in
    let i = c.loop-number.number in
    let block = c.index-blocks-number.result in
    let are = c.as_slice-insts.ensures ∙ sym (ap (λ (b : Block). b.insts) c.index-blocks-number.is) in
    let at = c.index-blocks-number.is ∙ ap (λ (bs : List Block). get_or bs i block) c.as_slice-blocks.ensures in
    let same = ap (λ (bs : List Block). length bs) c.as_slice-blocks.ensures in
    let test = c.loop-number-test.true in
    let lt : i < length f.blocks = omega (arith, same, test) in
    let heavy = weight_here f.blocks i block lt at in
    let long = length_weight block.insts in
    let insts = ap (λ (xs : List Inst). length xs) are in
    let few = results_weight c.as_slice-insts.result.now in
    let insts-weigh = ap weight are in
    let value = c.loop-number.invariant.value in
    let values = c.requires.values in
    let counted = c.results_in-value.ensures in
    omega (arith, heavy, few, insts-weigh, value, values, counted)

pub loop-number-preserved : goal.loop-number-preserved
loop-number-preserved c =
    let f = c.args.function.now in
    let i = c.loop-number.number in
    let block = c.index-blocks-number.result in
    let are = c.as_slice-insts.ensures ∙ sym (ap (λ (b : Block). b.insts) c.index-blocks-number.is) in
    let at = c.index-blocks-number.is ∙ ap (λ (bs : List Block). get_or bs i block) c.as_slice-blocks.ensures in
    let same = ap (λ (bs : List Block). length bs) c.as_slice-blocks.ensures in
    let test = c.loop-number-test.true in
    let lt : i < length f.blocks = omega (arith, same, test) in
    let heavy = weight_here f.blocks i block lt at in
    let long = length_weight block.insts in
    let insts = ap (λ (xs : List Inst). length xs) are in
    let few = results_weight c.as_slice-insts.result.now in
    let insts-weigh = ap weight are in
    let value = c.loop-number.invariant.value in
    let values = c.requires.values in
    let counted = c.results_in-value.ensures in
    let here = c.loop-number.invariant in
    let rest = c.take_code.ensures.rest in
    let row = c.index-groups-number.result in
    let many = c.requires.many in
    let count = here.count in
    let low : i < length c.loop-number.left.items = omega (arith, lt, count) in
    let within : i < length c.args.groups.now = omega (arith, lt, many) in
    record {
      value = omega (arith, heavy, few, insts-weigh, value, counted);
      count = ap (λ (xs : List (List GInst)). length xs) rest ∙ length-set c.loop-number.left.items i [] ∙ count;
      left = ap (drop (i + 1)) rest ∙ left-next c.loop-number.left.items c.args.codes.items i here.left;
      all = λ globals.
          ap (λ (n : ℕ). c.push.new.items ++ joined globals f c.args.edges.now (i + 1) (c.loop-number.value + n) (drop (i + 1) f.blocks) (drop (i + 1) c.args.codes.items)) counted
          ∙ joined-next globals f c.args.edges.now c.loop-number.all c.push.new.items _ c.loop-number.left.items c.args.codes.items c.loop-number.value i f.blocks block c.as_slice-insts.result.now c.phis_in.result.now
          c.in_ok-block.block c.put_phis.new.insts c.append.new.insts c.take_code.result c.as_slice-in-loop-number.result.now
          lt low at are c.phis_in.ensures
          (ap (λ (r : List ℕ). picked c.args.edges.now r) c.as_slice-in-loop-number.ensures ∙ row-picked globals f c.args.edges.now c.args.groups.now i row within c.index-groups-number.is (c.requires.groups globals))
          here.left
          (c.in_ok-block.ensures ∙ ap (λ (tys : List Ty). if i == 0 then params_code 0 tys else []) c.as_slice.ensures)
          (c.in_ok-put_phis.ensures globals f) c.take_code.ensures.value c.in_ok-append.ensures c.in_ok-push.ensures (here.all globals);
    }
