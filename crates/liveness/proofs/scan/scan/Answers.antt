use Rattle.std.proofs.Common.{◌≡◌, ◌+◌, ◌<◌, length, get_or, [], arith, ap, ◌∙◌}
use Rattle.std.proofs.lemmas.List.{get_or_default}
use Rattle.mir.specs.Code.{count_before}
use Rattle.liveness.specs.Scan.{IsReadFirst, IsUsedIn, IsRead}
use Rattle.liveness.specs.Search.{Adds}
use Rattle.liveness.proofs.Extending.{extends_itself, extends_then, adds_itself, sized_then}
use Rattle.liveness.proofs.Starting.{sized_alone}
use Rattle.liveness.proofs.Reading.{block_more, block_adds, sizes_more}
use Rattle.liveness.proofs.Covering.{count_more}
use Rattle.liveness.proofs.scan.scan.Goals as goal

pub loop-block-init : goal.loop-block-init
loop-block-init c = record {
  extends = extends_itself c.args.search.now;
  adds = adds_itself _ _ c.args.search.now;
  sizes = record { size = ap length c.new-written.ensures.items; each = λ b below. absurd (omega arith) };
  read = λ b below. absurd (omega arith);
}

pub scan_block-requires-clause-sized : goal.scan_block-requires-clause-sized
scan_block-requires-clause-sized c =
    sized_alone c.loop-block.search (length c.args.blocks.now) c.args.regs
    (sized_then c.args.search.now c.loop-block.search (length c.args.blocks.now) c.args.regs c.loop-block.invariant.extends.grows c.requires.sized)

pub scan_block-requires-clause-block : goal.scan_block-requires-clause-block
scan_block-requires-clause-block c = omega (arith, c.loop-block.invariant.extends.grows.blocks, c.requires.sized.blocks_sized, c.loop-block-test.true)

pub scan_block-requires-clause-registers : goal.scan_block-requires-clause-registers
scan_block-requires-clause-registers c =
    let insts : c.as_slice-insts.result.now ≡ get_or c.args.blocks.now c.loop-block.block [] =
    c.as_slice-insts.ensures ∙ c.index-blocks-block.is ∙ get_or_default c.args.blocks.now c.loop-block.block c.index-blocks-block.result [] c.loop-block-test.true in
    rw insts (c.requires.registers c.loop-block.block)

pub scan_block-requires-clause-points : goal.scan_block-requires-clause-points
scan_block-requires-clause-points c =
    let insts : c.as_slice-insts.result.now ≡ get_or c.args.blocks.now c.loop-block.block [] =
    c.as_slice-insts.ensures ∙ c.index-blocks-block.is ∙ get_or_default c.args.blocks.now c.loop-block.block c.index-blocks-block.result [] c.loop-block-test.true in
    let first : get_or c.args.numbers.now c.loop-block.block 0 ≡ count_before c.args.blocks.now c.loop-block.block =
    c.requires.numbers.each c.loop-block.block (omega (arith, c.loop-block-test.true)) in
    let most : count_before c.args.blocks.now (c.loop-block.block + 1) < 2147483648 = c.requires.numbers.most (c.loop-block.block + 1) (omega (arith, c.loop-block-test.true)) in
    rw insts (omega (arith, first, most, count_more c.args.blocks.now c.loop-block.block))

pub loop-block-preserved : goal.loop-block-preserved
loop-block-preserved c =
    let insts : c.as_slice-insts.result.now ≡ get_or c.args.blocks.now c.loop-block.block [] =
    c.as_slice-insts.ensures ∙ c.index-blocks-block.is ∙ get_or_default c.args.blocks.now c.loop-block.block c.index-blocks-block.result [] c.loop-block-test.true in
    let first : get_or c.args.numbers.now c.loop-block.block 0 ≡ count_before c.args.blocks.now c.loop-block.block =
    c.requires.numbers.each c.loop-block.block (omega (arith, c.loop-block-test.true)) in
    let own : IsRead c.scan_block.new.search c.in_ok-set.set (get_or c.args.blocks.now c.loop-block.block []) c.loop-block.block
    (length (get_or c.args.blocks.now c.loop-block.block [])) (count_before c.args.blocks.now c.loop-block.block) =
    rw (insts, first) at c.in_ok-set.ensures.read in
    let added : Adds (IsUsedIn (get_or c.args.blocks.now c.loop-block.block []) (length (get_or c.args.blocks.now c.loop-block.block [])) (count_before c.args.blocks.now c.loop-block.block))
    (λ b r. (b ≡ c.loop-block.block) × IsReadFirst (get_or c.args.blocks.now c.loop-block.block []) (length (get_or c.args.blocks.now c.loop-block.block [])) r)
    c.loop-block.search c.scan_block.new.search =
    rw (insts, first) at c.in_ok-set.ensures.adds in
    record {
      extends = extends_then c.args.search.now c.loop-block.search c.scan_block.new.search c.loop-block.invariant.extends c.in_ok-set.ensures.extends;
      adds = block_adds c.args.search.now c.loop-block.search c.scan_block.new.search c.args.blocks.now c.loop-block.block c.loop-block.invariant.adds added;
      sizes = rw c.in_ok-push_set.ensures (sizes_more c.args.regs c.loop-block.written.items c.in_ok-set.set c.loop-block.block c.in_ok-set.ensures.size c.loop-block.invariant.sizes);
      read = rw c.in_ok-push_set.ensures (block_more c.loop-block.search c.scan_block.new.search c.loop-block.written.items c.in_ok-set.set c.args.blocks.now c.loop-block.block
          c.loop-block.invariant.sizes.size c.in_ok-set.ensures.extends.grows c.loop-block.invariant.read own);
    }
