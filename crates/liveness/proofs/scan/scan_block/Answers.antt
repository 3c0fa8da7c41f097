use Rattle.std.proofs.Common.{◌≡◌, ◌+◌, ◌*◌, refl, length, false, Some, arith, ap, ◌∙◌}
use Rattle.std.specs.Prelude.{slice_get}
use Rattle.std.proofs.lemmas.List.{length-replicate}
use Rattle.std.proofs.lemmas.Option.{slice_get_read}
use Rattle.liveness.proofs.Extending.{extends_itself, extends_then, adds_itself}
use Rattle.liveness.proofs.Starting.{none_in}
use Rattle.liveness.proofs.Reading.{nothing_read, inst_more, inst_adds, sized_now}
use Rattle.liveness.proofs.scan.scan_block.Goals as goal

pub loop-place-init : goal.loop-place-init
loop-place-init c = record {
  extends = extends_itself c.args.search.now;
  size = ap length c.in_ok-written.ensures ∙ length-replicate c.args.regs false;
  adds = adds_itself _ _ c.args.search.now;
  read = nothing_read c.args.search.now c.in_ok-written.written (λ r h. none_in c.args.regs r (rw c.in_ok-written.ensures at h)) c.args.insts.now c.args.block c.args.first;
}

pub read_inst-requires-clause-sized : goal.read_inst-requires-clause-sized
read_inst-requires-clause-sized c =
    sized_now c.args.search.now c.loop-place.search c.args.regs c.loop-place.written c.loop-place.invariant.extends.grows c.requires.sized c.loop-place.invariant.size

pub read_inst-requires-clause-block : goal.read_inst-requires-clause-block
read_inst-requires-clause-block c = omega (arith, c.loop-place.invariant.extends.grows.blocks, c.requires.block)

pub read_inst-requires-clause-reads : goal.read_inst-requires-clause-reads
read_inst-requires-clause-reads c =
    let at : slice_get c.args.insts.now c.loop-place.place ≡ Some c.index-insts-place.result =
    slice_get_read c.args.insts.now (length c.args.insts.now) c.loop-place.place c.index-insts-place.result refl c.loop-place-test.true c.index-insts-place.is in
    λ r in'. rw c.loop-place.invariant.size ((c.requires.registers c.loop-place.place c.index-insts-place.result at).0 r in')

pub read_inst-requires-clause-writes : goal.read_inst-requires-clause-writes
read_inst-requires-clause-writes c =
    let at : slice_get c.args.insts.now c.loop-place.place ≡ Some c.index-insts-place.result =
    slice_get_read c.args.insts.now (length c.args.insts.now) c.loop-place.place c.index-insts-place.result refl c.loop-place-test.true c.index-insts-place.is in
    λ r in'. rw c.loop-place.invariant.size ((c.requires.registers c.loop-place.place c.index-insts-place.result at).1 r in')

pub loop-place-preserved : goal.loop-place-preserved
loop-place-preserved c =
    let at : slice_get c.args.insts.now c.loop-place.place ≡ Some c.index-insts-place.result =
    slice_get_read c.args.insts.now (length c.args.insts.now) c.loop-place.place c.index-insts-place.result refl c.loop-place-test.true c.index-insts-place.is in
    record {
      extends = extends_then c.args.search.now c.loop-place.search c.read_inst.new.search c.loop-place.invariant.extends
          (extends_then c.loop-place.search c.in_ok-read_inst.ensures.between c.read_inst.new.search
          c.in_ok-read_inst.ensures.noted.extends c.in_ok-read_inst.ensures.wrote.extends);
      size = c.in_ok-read_inst.ensures.wrote.size ∙ c.loop-place.invariant.size;
      adds = inst_adds c.args.search.now c.loop-place.search c.read_inst.new.search c.loop-place.written c.read_inst.new.written c.args.insts.now c.args.block c.loop-place.place c.args.first
          (2 * (c.args.first + c.loop-place.place)) c.index-insts-place.result refl at c.loop-place.invariant.read c.in_ok-read_inst.ensures c.loop-place.invariant.adds;
      read = inst_more c.loop-place.search c.read_inst.new.search c.loop-place.written c.read_inst.new.written c.args.insts.now c.args.block c.loop-place.place c.args.first
          (2 * (c.args.first + c.loop-place.place)) c.index-insts-place.result refl at c.loop-place.invariant.read c.in_ok-read_inst.ensures;
    }

pub returns-clause-read : goal.returns-clause-read
returns-clause-read c =
    let all : c.loop-place.place ≡ length c.args.insts.now = omega arith in
    rw all at c.loop-place.invariant.read

pub returns-clause-adds : goal.returns-clause-adds
returns-clause-adds c =
    let all : c.loop-place.place ≡ length c.args.insts.now = omega arith in
    rw all at c.loop-place.invariant.adds
