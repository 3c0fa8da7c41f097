use Rattle.ir_core.specs.declared.types.MemTy.{out-MemTy}
use Rattle.ir_print.specs.Values.{init_text}
use Rattle.ir_print.proofs.Layers.{zero_written}
use Rattle.ir_print.proofs.Lines.{part_step, parts_end, list_done}
use Rattle.ir_print.proofs.values.+init.Goals as goal

pub list-loop-index-preserved : goal.list-loop-index-preserved
list-loop-index-preserved t c =
    part_step (out-MemTy c.args.ty.now) (init_text c.args.globals.now) c.loop-index.index c.args.items.now c.index-items-index.result c.loop-index.page c.part.new.page _
    c.loop-index-test.true c.index-items-index.is (rw c.part_of.ensures at c.in_ok-part.ensures) c.loop-index.invariant

pub list-returns : goal.list-returns
list-returns t c =
    let e = parts_end (out-MemTy c.args.ty.now) (init_text c.args.globals.now) c.loop-index.index c.loop-index.index c.args.items.now c.loop-index.page _ c.loop-index-test.false c.loop-index.invariant in
    list_done c.list_ending.result (out-MemTy c.args.ty.now) (init_text c.args.globals.now) c.args.items.now _ _ _ _ c.is_empty-2.ensures e c.list_ending.ensures

pub init-returns-in-Zero : goal.init-returns-in-Zero
init-returns-in-Zero t c = zero_written c.write-in-Zero.result c.args.globals.now c.args.init.now c.args.ty.now c.args.page.now _ c.in-Zero.is c.write-in-Zero.ensures
