use Rattle.std.proofs.Common.{refl, ap, sym, subst, arith, length, List, ℕ, ◌+◌}
use Rattle.ir_core.specs.declared.code.Inst.{Inst}
use Rattle.ir_core.specs.declared.program.Function.{Function}
use Rattle.ir_translator.specs.Fit.{AreFit, weight}
use Rattle.ir_translator.proofs.Joined.{fit_here, weight_here, results_weight, block_laid}
use Rattle.ir_translator.proofs.blocks.translate_blocks.Goals as goal

pub translate_block-requires-clause-fit : goal.translate_block-requires-clause-fit
translate_block-requires-clause-fit c =
    let fit = fit_here (length c.args.translator.now.function.blocks) c.args.blocks.now c.loop-block.block-index c.block-item.result c.loop-block-test.true c.block-item.is c.requires.fit in
    subst (λ (f : Function). AreFit (length f.blocks) c.as_slice-insts.result.now) (sym c.loop-block.invariant.function)
    (subst (λ (xs : List Inst). AreFit (length c.args.translator.now.function.blocks) xs) (sym c.as_slice-insts.ensures) fit)

pub results_in-value-requires : goal.results_in-value-requires
results_in-value-requires c =
    let i = c.loop-block.block-index in
    let heavy = weight_here c.args.blocks.now i c.block-item.result c.loop-block-test.true c.block-item.is in
    let few = results_weight c.as_slice-insts.result.now in
    let insts = ap weight c.as_slice-insts.ensures in
    let value = c.loop-block.invariant.value in
    let values = c.requires.values in
    omega (arith, heavy, few, insts, value, values)

pub overflow_add-value : goal.overflow_add-value
overflow_add-value c =
    let i = c.loop-block.block-index in
    let heavy = weight_here c.args.blocks.now i c.block-item.result c.loop-block-test.true c.block-item.is in
    let few = results_weight c.as_slice-insts.result.now in
    let insts = ap weight c.as_slice-insts.ensures in
    let value = c.loop-block.invariant.value in
    let values = c.requires.values in
    let counted = c.results_in-value.ensures in
    omega (arith, heavy, few, insts, value, values, counted)

pub loop-block-preserved : goal.loop-block-preserved
loop-block-preserved c =
    let i = c.loop-block.block-index in
    let heavy = weight_here c.args.blocks.now i c.block-item.result c.loop-block-test.true c.block-item.is in
    let few = results_weight c.as_slice-insts.result.now in
    let insts = ap weight c.as_slice-insts.ensures in
    let value = c.loop-block.invariant.value in
    let values = c.requires.values in
    let counted = c.results_in-value.ensures in
    let here = c.loop-block.invariant in
    let most = c.in_ok-code.ensures.most in
    let next = here.next in
    let most-own = c.in_ok-code.ensures.own in
    let own = here.own in
    let more = block_laid c.args.translator.now.globals c.args.translator.now.function c.loop-block.translator c.translate_block.new.translator c.loop-block.from c.loop-block.value (c.loop-block.from + 1) (c.loop-block.value + c.results_in-value.result)
    c.loop-block.codes.items c.add_code.new.codes.items _ c.in_ok-code.code _ c.args.blocks.now i c.block-item.result c.as_slice-insts.result.now c.loop-block-test.true c.block-item.is c.as_slice-insts.ensures here.globals here.function here.fresh here.codes here.written
    c.in_ok-code.ensures.code c.in_ok-code.ensures.written c.in_ok-add_code.ensures refl (ap (λ (n : ℕ). c.loop-block.value + n) counted) in
    let from = here.from in
    record {
      from = omega (arith, from);
      globals = more.globals';
      function = more.function';
      begins = more.begins;
      fresh = more.fresh;
      value = omega (arith, heavy, few, insts, value, counted);
      next = omega (arith, heavy, insts, most, next);
      own = omega (arith, heavy, insts, most-own, own);
      codes = more.codes';
      written = more.written;
    }
